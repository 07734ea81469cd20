use Rattle.std.proofs.Common.{◌≡◌, List, ap, sym, subst, ◌∙◌, ◌++◌, arith, length, take, drop}
use Rattle.std.proofs.Math.Seq.{take-append_seam}
use Rattle.std.proofs.lemmas.List.{length-map}
use Rattle.std.proofs.lemmas.List.Sorted.{length_permutation}
use Rattle.query_rules.specs.declared.query.Section.TheVariants as section
use Rattle.query_rules.specs.Log.{IsOrder, spots_of}
use Rattle.query_text.specs.declared.packed.PackedSpot.{PackedSpot}
use Rattle.query_text.specs.Packed.{spot_in, spots_in}
use Rattle.server_run.proofs.Orders.{order_whole, packed_made, packed_order, spots_room}
use Rattle.server_run.proofs.order.order_of.Goals as goal

pub add_section-requires : goal.add_section-requires
add_section-requires c =
    let none = ap length c.requires.empty in
    let fits = spots_room 0 c.args.outcome.now in
    record { room = omega (arith, none, fits, c.requires.room); packable = c.requires.packable }

pub add_section-requires-then-placed-count_replies-clause-room : goal.add_section-requires-then-placed-count_replies-clause-room
add_section-requires-then-placed-count_replies-clause-room c =
    let told = c.args.outcome.now in
    let maps : spots_in c.add_section.new.spots.items ≡ spots_of section.Maps 0 told = c.add_section.ensures.spots ∙ ap (λ (l : List PackedSpot). spots_in l ++ spots_of section.Maps 0 told) c.requires.empty in
    let long = ap length maps in
    let packed = length-map c.add_section.new.spots.items spot_in in
    let sorted = length_permutation _ _ c.sort_unstable.ensures.permutation in
    let fits = spots_room 0 told in
    omega (arith, long, packed, sorted, fits, c.requires.room, c.add_section.ensures.room, c.sort_unstable.ensures.capacity)

pub returns-then-placed-count_replies : goal.returns-then-placed-count_replies
returns-then-placed-count_replies c =
    let told = c.args.outcome.now in
    let maps = c.sort_unstable.new.self.items in
    let order = c.sort_from.new.spots in
    let added : spots_in c.add_section.new.spots.items ≡ spots_of section.Maps 0 told = c.add_section.ensures.spots ∙ ap (λ (l : List PackedSpot). spots_in l ++ spots_of section.Maps 0 told) c.requires.empty in
    let first = packed_order section.Maps told c.add_section.new.spots.items maps added c.sort_unstable.ensures.permutation c.sort_unstable.ensures.sorted in
    let sorted = length_permutation _ _ c.sort_unstable.ensures.permutation in
    let here : c.len-placed.result ≡ length maps = omega (arith, c.len-placed.ensures, sorted, c.add_section.new.spots.ok.0) in
    let all = c.add_section-then-placed-count_replies.new.spots in
    let is = packed_made told maps c.deref_mut.result.now order c.len-placed.result first (ap (λ (l : List PackedSpot). spots_in l) c.deref_mut.ensures.value ∙ c.add_section-then-placed-count_replies.ensures.spots) here c.sort_from.ensures.front c.sort_from.ensures.each c.sort_from.ensures.sorted in
    let long : all.len ≡ length order = sym c.deref_mut.ensures.len ∙ sym c.sort_from.ensures.len in
    let rest = drop (length order) all.items in
    let whole : take all.len (order ++ rest) ≡ order = ap (λ n. take n (order ++ rest)) long ∙ take-append_seam order rest in
    subst (λ (l : List PackedSpot). IsOrder told (spots_in l)) (sym whole) is

pub returns-else-placed-count_replies : goal.returns-else-placed-count_replies
returns-else-placed-count_replies c =
    let told = c.args.outcome.now in
    let maps = c.sort_unstable.new.self.items in
    let added : spots_in c.add_section.new.spots.items ≡ spots_of section.Maps 0 told = c.add_section.ensures.spots ∙ ap (λ (l : List PackedSpot). spots_in l ++ spots_of section.Maps 0 told) c.requires.empty in
    let first = packed_order section.Maps told c.add_section.new.spots.items maps added c.sort_unstable.ensures.permutation c.sort_unstable.ensures.sorted in
    let sorted = length_permutation _ _ c.sort_unstable.ensures.permutation in
    let packed = length-map maps spot_in in
    order_whole told (spots_in maps) first (omega (arith, packed, c.if-placed-count_replies.false, c.count_replies.ensures, c.len-placed.ensures, sorted, c.add_section.new.spots.ok.0))
