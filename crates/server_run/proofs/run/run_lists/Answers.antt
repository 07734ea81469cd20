use Rattle.std.proofs.Common.{arith, ◌≡◌, ◌<◌, ◌++◌, ◌∷◌, [], List, Vec, map, length, ap, sym, subst, ◌∙◌}
use Rattle.std.specs.declared.alloc.Global.{Global}
use Rattle.hall.specs.Passes.{view}
use Rattle.dist_mutex.specs.Passes.{dist_view}
use Rattle.query_rules.specs.declared.query.Reply.{Reply}
use Rattle.run_laws.specs.Callers.{IsTaken}
use Rattle.run_laws.specs.TakenLaws.{taken_first}
use Rattle.server_run.proofs.run.run_lists.Goals as goal

pub gather-requires-clause-taken : goal.gather-requires-clause-taken
gather-requires-clause-taken g c κs within =
    let callers = c.args.callers.now in
    let replies = c.run_both.new.replies in
    let w = view c.run_both.new.pass in
    let e = dist_view c.run_both.new.dist_pass in
    let some : 0 < length callers = omega (arith, c.count.ensures, c.if-count-eq0.false) in
    let told : map (λ (r : Vec Reply Global). r.items) c.push_reserved.new.list.items ≡ replies.items ∷ [] = ap (map (λ (r : Vec Reply Global). r.items)) (c.push_reserved.ensures.items ∙ ap (λ (l : List (Vec Reply Global)). l ++ replies ∷ []) c.in_ok-told.ensures.items) in
    subst (λ (t : List (List Reply)). IsTaken w e callers t) (sym told) (taken_first callers replies.items w e some c.run_both.ensures.told.asked)
