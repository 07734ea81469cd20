use Rattle.std.proofs.lemmas.List.{take_rest}
use Rattle.query_text.proofs.Lines.{words_found, words_unfound}
use Rattle.query_text.proofs.words.cut_word.Goals as goal

pub returns-in-Some-clause-cut : goal.returns-in-Some-clause-cut
returns-in-Some-clause-cut c = rw take_rest (words_found c.args.text.now c.in-Some.end c.in-Some.ensures.0.high c.in-Some.ensures.0.before c.in-Some.ensures.1)

pub returns-in-None-clause-cut : goal.returns-in-None-clause-cut
returns-in-None-clause-cut c = words_unfound c.args.text.now c.in-None.ensures
