use Rattle.std.proofs.Common.{rules, arith, ◌≡◌, ◌≤◌, ◌++◌, ◌∷◌, [], length, get_or, vec_capacity, length-append, ap, sym, subst, ◌∙◌}
use Rattle.server_run.specs.Crowd.{AllRoomy}
use Rattle.server_run.proofs.Crowds.{roomy_more}
use Rattle.server_run.proofs.seats.reserve_lists.Goals as goal

pub loop-caller-preserved : goal.loop-caller-preserved
loop-caller-preserved c =
    let callers = c.args.callers.now in
    let caller = c.loop-caller.caller in
    let so = c.loop-caller.invariant in
    let was = c.loop-caller.lists.items in
    let list = c.in_ok-with_capacity.field-0 in
    let items : c.push.new.self.items ≡ was ++ list ∷ [] = search rules in
    let room : length (get_or callers caller []) ≤ vec_capacity list = search rules in
    let more = roomy_more callers 1 caller was list (omega (arith, so.1)) so.0 c.in_ok-with_capacity.ensures.items room in
    let long = ap length items ∙ length-append was (list ∷ []) in
    (subst (λ l. AllRoomy callers 1 l) (sym items) more, omega (arith, so.1, long))
