use Rattle.std.proofs.Common.{◌∙◌, ap, map}
use Rattle.query_rules.specs.Words.{words_of}
use Rattle.query_rules.specs.Grammar as grammar
use Rattle.query_text.proofs.Scripts.{cells_same}
use Rattle.query_text.proofs.Spellings.{spelled_good}
use Rattle.query_text.proofs.script_line.first_line.Goals as goal

pub returns-in-Ok : goal.returns-in-Ok
returns-in-Ok c =
    let same = ap (λ ws. grammar.cells_line (map (λ w. w.now) ws)) c.deref.ensures.0 ∙ ap grammar.cells_line c.in-Ok.ensures.words ∙ cells_same (words_of c.args.line.now) in
    let e = spelled_good grammar.cells_line c.args.line.now _ c.in-Ok.ensures.spelled same in
    rw e c.cells_line.ensures
