use Rattle.std.proofs.Common.{rules, arith, ◌≡◌, ◌+◌, ◌<◌, ◌++◌, ◌∷◌, [], List, Vec, map, length, get_or, vec_len, ap, sym, subst, ◌∙◌, length-append}
use Rattle.std.specs.declared.alloc.Global.{Global}
use Rattle.std.proofs.lemmas.List.{length-map, map-append}
use Rattle.hall.specs.Passes.{view}
use Rattle.dist_mutex.specs.Passes.{dist_view}
use Rattle.query_rules.specs.declared.query.Reply.{Reply}
use Rattle.run_laws.specs.Callers.{HasAsked, IsTaken}
use Rattle.run_laws.specs.TakenLaws.{taken_more}
use Rattle.server_run.specs.Crowd.{AllDone}
use Rattle.server_run.proofs.seats.gather.Goals as goal

pub loop-caller-preserved : goal.loop-caller-preserved
loop-caller-preserved g c =
    let h = c.args.hall.now in
    let m = c.args.dist.now in
    let callers = c.args.callers.now in
    let so = c.loop-caller.invariant in
    let n = vec_len c.loop-caller.told in
    let caller = c.in-Some.caller in
    let left = c.pop_front.new.self.items in
    let out = c.take_in-replies.result in
    let old = c.loop-caller.told.items in
    let texts : List (List Reply) = map (λ (r : Vec Reply Global). r.items) old in
    let was : c.loop-caller.seated.items ≡ caller ∷ left = search rules in
    let done : AllDone h m callers n (caller ∷ left) = subst (λ l. AllDone h m callers n l) was so.done in
    let said : out.items ≡ caller.replies.items = ap (λ (r : Vec Reply Global). r.items) c.take_in-replies.ensures.replies in
    let new : map (λ (r : Vec Reply Global). r.items) c.push_reserved.new.list.items ≡ texts ++ caller.replies.items ∷ [] =
    ap (map (λ (r : Vec Reply Global). r.items)) c.push_reserved.ensures.items ∙ map-append (λ (r : Vec Reply Global). r.items) old (out ∷ []) ∙ ap (λ (t : List Reply). texts ++ t ∷ []) said in
    let less = ap length was in
    let here : n ≡ length old = c.loop-caller.told.ok.0 in
    let count : length texts ≡ n = (let e = length-map old (λ (r : Vec Reply Global). r.items) in omega (arith, e, here)) in
    let grew = ap length c.push_reserved.ensures.items ∙ length-append old (out ∷ []) in
    let long : vec_len c.push_reserved.new.list ≡ length c.push_reserved.new.list.items = c.push_reserved.new.list.ok.0 in
    let up : n + 1 ≡ vec_len c.push_reserved.new.list = omega (arith, grew, long, here) in
    let w = view caller.pass in
    let e = dist_view caller.dist_pass in
    let asked : HasAsked (length texts) (get_or callers (length texts) []) caller.replies.items w e = subst (λ k. HasAsked k (get_or callers k []) caller.replies.items w e) (sym count) done.0.asked in
    let low : length texts < length callers = omega (arith, count, so.len, less) in
    let shape = done.0.hall.0.1 ∙ sym so.own.0.1 in
    let more = taken_more callers texts caller.replies.items (view c.loop-caller.pass) w (view c.take_in-replies.new.pass) (dist_view c.loop-caller.dist_pass) e (dist_view c.take_in-replies.new.dist_pass) so.taken asked low shape
    c.take_in-replies.ensures.hall c.take_in-replies.ensures.dist c.take_in-replies.ensures.covers in
    record {
      own = c.take_in-replies.ensures.own;
      taken = subst (λ (t : List (List Reply)). IsTaken (view c.take_in-replies.new.pass) (dist_view c.take_in-replies.new.dist_pass) callers t) (sym new) more;
      done = subst (λ k. AllDone h m callers k left) up done.1;
      len = omega (arith, so.len, less, up);
      room = (let more_room = c.push_reserved.ensures.room in omega (arith, so.room, more_room));
    }
