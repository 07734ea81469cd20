use Rattle.std.proofs.Common.{ℕ, List, subst}
use Rattle.ql_base.specs.Bytes.{Writes}
use Rattle.query_text.proofs.LogLines.{answer_made}
use Rattle.query_text.proofs.log_line.write_answer.Goals as goal

pub returns-clause-bytes : goal.returns-clause-bytes
returns-clause-bytes g c =
    let same = answer_made c.args.caller c.args.index c.args.query.now c.args.reply _ _ _ _ _ _
    c.place.ensures.line c.number.ensures.line c.number-2.ensures.line c.query.ensures.line c.word.ensures.line c.reply.ensures.line in
    let P : List ℕ → Type 0 = λ t. Writes (g.K.Sink.written c.args.sink.now) (g.K.Sink.written c.end.new.sink) c.end.result t in
    subst P same c.end.ensures.bytes
