use Rattle.query_text.proofs.LogLines.{answer_made}
use Rattle.log_reader.specs.Listing.{answered_line}
use Rattle.log_reader.proofs.lines.line_for.Goals as goal

pub returns : goal.returns
unfolding answered_line
returns c =
    let a = c.args.answered.now in
    answer_made a.caller a.index a.query a.reply _ _ _ _ _ _
    c.placed_line-line.ensures.line c.number.ensures.line c.number-2.ensures.line c.query.ensures.line c.word.ensures.line c.reply.ensures.line
