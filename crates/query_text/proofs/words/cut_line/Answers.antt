use Rattle.std.proofs.lemmas.List.{take_rest}
use Rattle.query_text.proofs.Lines.{lines_found, lines_unfound}
use Rattle.query_text.proofs.words.cut_line.Goals as goal

pub returns-in-Some-clause-cut : goal.returns-in-Some-clause-cut
returns-in-Some-clause-cut c = rw take_rest (lines_found c.args.bytes.now c.in-Some.end c.in-Some.ensures.0.high c.in-Some.ensures.0.before c.in-Some.ensures.1)

pub returns-in-None-clause-cut : goal.returns-in-None-clause-cut
returns-in-None-clause-cut c = lines_unfound c.args.bytes.now c.requires c.in-None.ensures
