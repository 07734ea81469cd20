use Rattle.std.proofs.Common.{arith, ◌∙◌, ◌-◌, ◌+◌, suc, ◌≡◌, ◌∷◌, []}
use Rattle.std.proofs.lemmas.List.{map-append}
use Rattle.log_reader.specs.Grouping.{groups_of}
use Rattle.log_reader.proofs.Groups.{groups_more, groups_end}
use Rattle.log_reader.proofs.group.groups.Goals as goal

pub loop-caller-preserved : goal.loop-caller-preserved
loop-caller-preserved c =
    let lt = c.loop-caller-test.true in
    let step : c.args.count - c.loop-caller.caller ≡ suc (c.args.count - (c.loop-caller.caller + 1)) = omega (arith, lt) in
    let q = c.in_ok-queries.ensures in
    rw (c.in_ok-push.ensures.items, map-append (λ v. v.items) c.loop-caller.told.items (c.in_ok-queries.replies ∷ []), c.in_ok-add_list.ensures, c.deref.ensures.value)
    (groups_more _ _ c.loop-caller.caller _ _ _ c.loop-caller.rest.now c.in_ok-queries.after.now c.in_ok-queries.queries.items c.in_ok-queries.replies.items step q.queries q.replies q.rest c.loop-caller.invariant)

pub returns : goal.returns
returns c =
    let end = c.loop-caller.auto.caller-end in
    let none : c.args.count - c.loop-caller.caller ≡ 0 = let past = c.loop-caller-test.false in omega (arith, past) in
    let h = groups_end _ c.loop-caller.caller (groups_of c.args.count 0 c.args.lines.now) _ _ c.loop-caller.rest.now none c.loop-caller.invariant in
    record { asked = h.0; told = c.of.ensures ∙ h.1; rest = h.2 }
