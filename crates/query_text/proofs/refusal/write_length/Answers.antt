use Rattle.std.proofs.Common.{ℕ, List, subst}
use Rattle.ql_base.specs.Bytes.{Writes}
use Rattle.query_text.proofs.LogLines.{length_made}
use Rattle.query_text.proofs.refusal.write_length.Goals as goal

pub returns-clause-bytes : goal.returns-clause-bytes
returns-clause-bytes g c =
    let same = length_made _ _ c.new-text.ensures c.word.ensures.line in
    let P : List ℕ → Type 0 = λ t. Writes (g.K.Sink.written c.args.sink.now) (g.K.Sink.written c.write.new.sink) c.write.result t in
    subst P same c.write.ensures.bytes
