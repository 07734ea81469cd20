use Rattle.std.proofs.Common.{sym, subst, arith, ◌+◌, ◌<◌, ◌≤◌, List, [], length, get_or, vec_capacity}
use Rattle.std.proofs.lemmas.List.{length-map}
use Rattle.std.specs.List.{AllByRecursion}
use Rattle.query_rules.specs.declared.query.Reply.{Reply}
use Rattle.query_rules.specs.Log.{spots_of, spots_from}
use Rattle.query_text.specs.Packed.{spot_in, spots_in, HasPackedKey}
use Rattle.query_text.specs.declared.packed.TheConstants.{SPOT_INDEXES}
use Rattle.server_run.proofs.Orders.{caller_fits, keys_of, list_few}
use Rattle.server_run.proofs.order.add_section.Goals as goal

pub add_spots-requires : goal.add_spots-requires
add_spots-requires c =
    let told = c.args.outcome.now in
    let caller = c.loop-caller.caller in
    let all = spots_of c.args.section 0 told in
    let cap = vec_capacity c.loop-caller.spots in
    let there : caller < length told = omega (arith, c.loop-caller-test.true, c.count-caller-end.ensures) in
    let old = length-map c.args.spots.now.items spot_in in
    let new = length-map c.loop-caller.spots.items spot_in in
    let enough : length (spots_in c.args.spots.now.items) + length all ≤ cap = omega (arith, old, c.requires.room, c.loop-caller.invariant.1) in
    let fits = caller_fits c.args.section told caller (spots_in c.loop-caller.spots.items) (spots_in c.args.spots.now.items) all cap there c.loop-caller.invariant.0 enough in
    let packable = c.requires.packable in
    record {
      room = subst (λ (l : List Reply). length c.loop-caller.spots.items + length (spots_from c.args.section caller 0 l) ≤ cap) (sym c.replies.ensures) (omega (arith, fits, new));
      caller = omega (arith, there, packable.callers);
      few = subst (λ (l : List Reply). length l ≤ SPOT_INDEXES) (sym c.replies.ensures) (list_few told caller SPOT_INDEXES there packable.replies);
      keys = subst (λ (l : List Reply). AllByRecursion HasPackedKey l) (sym c.replies.ensures) (keys_of told caller there packable.keys);
    }
