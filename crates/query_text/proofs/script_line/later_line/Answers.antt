use Rattle.std.proofs.Common.{◌∙◌, ap, map}
use Rattle.query_rules.specs.Words.{words_of}
use Rattle.query_rules.specs.Grammar as grammar
use Rattle.query_text.proofs.Scripts.{later_same}
use Rattle.query_text.proofs.Spellings.{spelled_good}
use Rattle.query_text.proofs.script_line.later_line.Goals as goal

pub returns-in-Ok : goal.returns-in-Ok
returns-in-Ok c =
    let s : grammar.Asked = record { cells = c.args.cells; callers = c.args.callers.now } in
    let same = ap (λ ws. grammar.later_words s (map (λ w. w.now) ws)) c.deref.ensures.0 ∙ ap (grammar.later_words s) c.in-Ok.ensures.words ∙ later_same s (words_of c.args.line.now) in
    let e = spelled_good (grammar.later_words s) c.args.line.now _ c.in-Ok.ensures.spelled same in
    rw e c.later_words.ensures
