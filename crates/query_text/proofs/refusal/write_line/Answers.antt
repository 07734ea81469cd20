use Rattle.std.proofs.Common.{ℕ, List, subst}
use Rattle.ql_base.specs.Bytes.{Writes}
use Rattle.query_text.proofs.LogLines.{refusal_made}
use Rattle.query_text.proofs.refusal.write_line.Goals as goal

pub returns-clause-bytes : goal.returns-clause-bytes
returns-clause-bytes g c =
    let same = refusal_made c.args.line c.args.cause _ _ _ _ _ c.new-text.ensures c.word.ensures.line c.number.ensures.line c.word-2.ensures.line c.cause_word.ensures.word in
    let P : List ℕ → Type 0 = λ t. Writes (g.K.Sink.written c.args.sink.now) (g.K.Sink.written c.write.new.sink) c.write.result t in
    subst P same c.write.ensures.bytes
