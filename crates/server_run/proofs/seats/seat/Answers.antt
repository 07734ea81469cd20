use Rattle.std.proofs.Common.{rules, arith, ◌≡◌, ◌+◌, ◌-◌, ◌≤◌, ◌++◌, ◌∷◌, [], length, deque_len, deque_capacity, length-append, ap, sym, subst, ◌∙◌}
use Rattle.server_run.specs.Crowd.{AllReady, AllRoomy}
use Rattle.server_run.proofs.Crowds.{roomy_last}
use Rattle.server_run.proofs.seats.seat.Goals as goal

pub seat_one-caller-requires-clause-room : goal.seat_one-caller-requires-clause-room
seat_one-caller-requires-clause-room g c κs within =
    let callers = c.args.callers.now in
    let so = c.loop-replies.invariant in
    let left = c.pop.new.self.items in
    let was : c.loop-replies.lists.items ≡ left ++ c.in-Some.replies ∷ [] = search rules in
    let long = ap length was ∙ length-append left (c.in-Some.replies ∷ []) in
    let last = roomy_last callers 1 (c.loop-replies.number - 1) left c.in-Some.replies (omega (arith, so.count.0, long)) (subst (λ l. AllRoomy callers 1 l) was so.roomy) in
    (last.1, last.2)

pub loop-replies-preserved : goal.loop-replies-preserved
loop-replies-preserved g c =
    let callers = c.args.callers.now in
    let so = c.loop-replies.invariant in
    let number = c.loop-replies.number in
    let left = c.pop.new.self.items in
    let caller = c.seat_one-caller.result in
    let was : c.loop-replies.lists.items ≡ left ++ c.in-Some.replies ∷ [] = search rules in
    let long = ap length was ∙ length-append left (c.in-Some.replies ∷ []) in
    let last = roomy_last callers 1 (number - 1) left c.in-Some.replies (omega (arith, so.count.0, long)) (subst (λ l. AllRoomy callers 1 l) was so.roomy) in
    let items : c.push_front-pushed.new.self.items ≡ caller ∷ c.loop-replies.seated.items = search rules in
    let grew : deque_len c.push_front-pushed.new.self ≡ deque_len c.loop-replies.seated + 1 = search rules in
    let room : deque_capacity c.loop-replies.seated ≤ deque_capacity c.push_front-pushed.new.self = search rules in
    let next : number ≡ (number - 1) + 1 = omega (arith, so.count.0) in
    let others : AllReady c.args.hall.now c.args.dist.now callers ((number - 1) + 1) c.loop-replies.seated.items = subst (λ n. AllReady c.args.hall.now c.args.dist.now callers n c.loop-replies.seated.items) next so.ready in
    record {
      count = (omega (arith, so.count.0, long), omega (arith, so.count.1, so.count.0, grew));
      hall = c.seat_one-caller.ensures.hall;
      dist = c.seat_one-caller.ensures.dist;
      roomy = last.0;
      room = omega (arith, so.room, long, grew, room);
      ready = subst (λ l. AllReady c.args.hall.now c.args.dist.now callers (number - 1) l) (sym items) (c.seat_one-caller.ensures.begin, others);
    }
