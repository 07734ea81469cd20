use Rattle.std.proofs.Common.{sym, subst, ◌∙◌}
use Rattle.hall.specs.Passes.{view}
use Rattle.query_rules.specs.Maps.{PlainMap}
use Rattle.map_cargo.specs.declared.entry.Part.{Part}
use Rattle.map_cargo.specs.Cells.{Means}
use Rattle.map_cargo.specs.History.{words_of, plain_of}
use Rattle.query_cells.proofs.Pairs.{words_put, words_read, words_then}
use Rattle.query_cells.proofs.two.shift.Goals as goal

pub returns-in_default-put-clause-to : goal.returns-in_default-put-clause-to
returns-in_default-put-clause-to c =
    let m : PlainMap = plain_of (view c.args.pass.now).part c.args.to in let same = c.get-had.ensures.part ∙ c.get-has.ensures.part in
    let t = c.in_default-put.ensures.put m (subst (λ (p : Part). Means (words_of p c.args.to) m) (sym same) c.requires.settled.1) in
    subst (λ (p : Part). Means (words_of p c.args.to) m) (sym (t.3 ∙ same)) c.requires.settled.1

pub returns-clause-words : goal.returns-clause-words
returns-clause-words c =
    let v = view c.args.pass.now in let a = view c.get-has.new.pass in let b = view c.get-had.new.pass in let d = view c.put.new.pass in let w = view c.lessen.new.pass in
    let one = c.get-has.ensures in let other = c.get-had.ensures in let stored = c.put.ensures in let less = c.lessen.ensures in
    words_then v d w (words_then v b d (words_then v a b (words_read v a one.pass.1 one.part) (words_read a b other.pass.1 other.part)) (words_put b d c.args.to stored.pass.1 stored.part)) (words_put d w c.args.from less.pass.1 less.part)
