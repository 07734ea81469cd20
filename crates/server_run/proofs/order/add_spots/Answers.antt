use Rattle.std.proofs.Common.{ap, sym, ◌∙◌, ◌+◌, ◌≤◌, length, vec_capacity, arith}
use Rattle.std.proofs.lemmas.List.{length-map}
use Rattle.ql_base.proofs.Pieces.{all_first}
use Rattle.query_rules.specs.declared.query.Reply.{Reply}
use Rattle.query_rules.specs.Log.{key_in, spots_from}
use Rattle.query_text.specs.Packed.{spot_in, spots_in, HasPackedKey}
use Rattle.server_run.proofs.Orders.{spot_fits, key_fits}
use Rattle.server_run.proofs.order.add_spots.Goals as goal

pub of-requires : goal.of-requires
of-requires c =
    let first = all_first HasPackedKey c.loop-rest.rest.now _ c.in-len1-up.len_at_least c.loop-rest.invariant.3 in
    let is = sym (c.key_in.ensures ∙ ap (λ (r : Reply). key_in c.args.section r) c.reply-item.is) ∙ c.in-Some.is in
    record {
      key = key_fits c.args.section _ c.in-Some.key first is;
      caller = c.requires.caller;
      index = omega (arith, c.loop-rest.invariant.1, c.in-len1-up.len_at_least, c.requires.few);
    }

pub push_reserved-requires : goal.push_reserved-requires
push_reserved-requires c =
    let all = spots_from c.args.section c.args.caller 0 c.args.replies.now in
    let old = length-map c.args.spots.now.items spot_in in
    let new = length-map c.loop-rest.spots.items spot_in in
    let enough : length (spots_in c.args.spots.now.items) + length all ≤ vec_capacity c.loop-rest.spots = omega (arith, old, c.requires.room, c.loop-rest.invariant.2) in
    let fits = spot_fits c.args.section c.args.caller c.loop-rest.index c.loop-rest.rest.now _ c.in-Some.key (spots_in c.loop-rest.spots.items) (spots_in c.args.spots.now.items) all (vec_capacity c.loop-rest.spots)
    c.in-len1-up.len_at_least (sym (c.key_in.ensures ∙ ap (λ (r : Reply). key_in c.args.section r) c.reply-item.is) ∙ c.in-Some.is) c.loop-rest.invariant.0 enough in
    record { room = omega (arith, fits, new) }
