use Rattle.std.proofs.Common.{sym, ap, subst, ◌∙◌}
use Rattle.hall.specs.Passes.{view}
use Rattle.hall.specs.declared.view.View.{View}
use Rattle.query_rules.specs.Maps.{PlainMap, with_value}
use Rattle.map_cargo.specs.declared.entry.Part.{Part}
use Rattle.map_cargo.specs.Cells.{Means}
use Rattle.map_cargo.specs.History.{words_of, plain_of}
use Rattle.map_cargo.proofs.Meaning.{taken_back}
use Rattle.map_cargo.proofs.tests.no_quota.Goals as goal

pub del-requires-clause-whole : goal.del-requires-clause-whole
del-requires-clause-whole g c =
    let m : PlainMap = plain_of (view c.exclusive-guard.new.pass).part 0 in
    let t = c.in-Ok-None.ensures.put m c.exclusive-guard.ensures.gained.settled in
    (with_value m 7 5, subst (λ (v : View Part). Means (words_of v.part 0) (with_value m 7 5)) (sym c.in-Err.ensures.drawn.1) t.2)

pub leave-requires-clause-settled : goal.leave-requires-clause-settled
leave-requires-clause-settled g c =
    let x = c.exclusive-guard.ensures in
    let m : PlainMap = plain_of (view c.exclusive-guard.new.pass).part 0 in
    let t = c.in-Ok-None.ensures.put m x.gained.settled in
    let same = c.in-Err.ensures.drawn.1 in
    let d = c.in-Some-eq5.ensures.del (with_value m 7 5) (subst (λ (v : View Part). Means (words_of v.part 0) (with_value m 7 5)) (sym same) t.2) in
    taken_back c.exclusive-guard.result.lock 0 7 5 (view c.exclusive-guard.new.pass).part (view c.put.new.pass).part (view c.draw.new.pass).part (view c.del.new.pass).part
    x.held.0 c.in-Ok-None.ensures.part (sym c.in-Ok-None.field-0-is ∙ t.0) (ap (λ (v : View Part). v.part) same) c.in-Some-eq5.ensures.part d.1
