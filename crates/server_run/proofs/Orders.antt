-- The order of a log, and the log itself.
use Rattle.std.proofs.Common.{◌≡◌, ℕ, zero, suc, List, [], ◌∷◌, ◌++◌, length, get_or, Some, ◌<◌, take, drop, refl, sym, ap, ◌∙◌, subst, arith, sum_by, length-append, ◌+◌, ◌≤◌}
use Rattle.std.proofs.lemmas.List.Sums.{sum_by-cons}
use Rattle.std.proofs.Math.Seq.{take-append_seam, drop-append_seam, drop-cons}
use Rattle.std.specs.Prelude.{IsPermutation, IsSorted}
use Rattle.std.specs.List.{AllByRecursion, AllZip}
use Rattle.std.proofs.lemmas.List.{append-nil, length-drop, length-map, nil_from_length, take-map, drop-map}
use Rattle.std.proofs.lemmas.List.Sorted.{length_permutation, IsPermutation-refl, IsPermutation-map}
use Rattle.query_rules.specs.declared.query.Query.{Query}
use Rattle.query_rules.specs.declared.query.Reply.{Reply}
use Rattle.query_rules.specs.declared.query.Reply.TheVariants.{Placed, Busy, Late, Job}
use Rattle.query_rules.specs.declared.query.Spot.{Spot}
use Rattle.query_rules.specs.declared.query.Section.TheVariants as section
use Rattle.query_rules.specs.declared.query.Section.{Section}
use Rattle.query_rules.specs.Grammar.{Asked}
use Rattle.query_rules.specs.Numbers.{IsNumber, IsReply}
use Rattle.query_rules.specs.Log.{spot_cmp, key_in, spots_with, spots_of, spots_from, placed_count, IsOrderOf, IsOrder, IsLogOf, log_text}
use Rattle.query_text.proofs.PackedOrder.{packed_sorted}
use Rattle.query_text.proofs.Spots.{maps_count}
use Rattle.query_text.specs.Packed.{spot_in, spots_in, packed_cmp, HasPackedKey}
use Rattle.query_text.specs.declared.packed.PackedSpot.{PackedSpot}
use Rattle.query_text.specs.declared.packed.TheConstants.{SPOT_KEYS}
use Rattle.query_rules.specs.History.{AnswersEachOnce, IsHistory, IsKindFor}
use Rattle.script_laws.specs.Spelling.{IsWritable}

-- the spots of the map lines were sorted, then those of the job lines behind them
pub order_made : (told : List (List Reply)) (maps all order : List Spot) (placed : ℕ) → IsOrderOf section.Maps told maps → all ≡ maps ++ spots_of section.Jobs 0 told → placed ≡ length maps
    → take placed order ≡ take placed all → IsPermutation (drop placed all) (drop placed order) → IsSorted spot_cmp (drop placed order) → IsOrder told order
order_made told maps all order placed first is at front each sorted =
    let count : placed ≡ placed_count told = at ∙ length_permutation (spots_of section.Maps 0 told) maps first.each ∙ maps_count 0 told in
    let before : take placed order ≡ maps = front ∙ ap (take placed) is ∙ ap (λ n. take n (maps ++ spots_of section.Jobs 0 told)) at ∙ take-append_seam maps (spots_of section.Jobs 0 told) in
    let behind : drop placed all ≡ spots_of section.Jobs 0 told = ap (drop placed) is ∙ ap (λ n. drop n (maps ++ spots_of section.Jobs 0 told)) at ∙ drop-append_seam maps (spots_of section.Jobs 0 told) in
    let jobs : IsOrderOf section.Jobs told (drop placed order) = record { each = subst (λ (l : List Spot). IsPermutation l (drop placed order)) behind each; sorted = sorted } in
    record {
      maps = subst (λ n. IsOrderOf section.Maps told (take n order)) count (subst (λ (l : List Spot). IsOrderOf section.Maps told l) (sym before) first);
      jobs = subst (λ n. IsOrderOf section.Jobs told (drop n order)) count jobs;
    }

-- a reply's kind by its caller's query
kinds_each : (callers : List (List Query)) (told : List (List Reply)) → AllZip AnswersEachOnce callers told → AllZip (AllZip IsKindFor) callers told
kinds_each [] [] h = tt
kinds_each [] (rs ∷ told) h = absurd h
kinds_each (qs ∷ callers) [] h = absurd h
kinds_each (qs ∷ callers) (rs ∷ told) h = (h.0.each, kinds_each callers told h.1)

pub kinds_all : (rows : ℕ) (callers : List (List Query)) (told : List (List Reply)) → IsHistory rows callers told → AllZip (AllZip IsKindFor) callers told
kinds_all rows callers told h = kinds_each callers told h.once

-- the log of a history is one that can be read
pub log_of : (s : Asked) (rows : ℕ) (told : List (List Reply)) (order : List Spot) → IsWritable s → IsNumber rows → AllByRecursion (AllByRecursion IsReply) told → IsHistory rows s.callers told → IsOrder told order → IsLogOf s rows told (log_text s rows told order)
log_of s rows told order script room tells history in_order = record {
  script = script.script;
  asks = script.fits;
  room = room;
  tells = tells;
  kinds = kinds_all rows s.callers told history;
  order = order;
  in_order = in_order;
  text_is = refl;
}

-- a reply has a spot in at most one section
from_room : (caller index : ℕ) (replies : List Reply) → length (spots_from section.Maps caller index replies) + length (spots_from section.Jobs caller index replies) ≤ length replies
from_room caller index [] = omega arith
from_room caller index (Placed place said ∷ replies) = let rest = from_room caller (index + 1) replies in omega (arith, rest)
from_room caller index (Busy ∷ replies) = let rest = from_room caller (index + 1) replies in omega (arith, rest)
from_room caller index (Late now ∷ replies) = let rest = from_room caller (index + 1) replies in omega (arith, rest)
from_room caller index (Job at result ∷ replies) = let rest = from_room caller (index + 1) replies in omega (arith, rest)

-- there are no more spots than replies
pub spots_room : (caller : ℕ) (told : List (List Reply)) → length (spots_of section.Maps caller told) + length (spots_of section.Jobs caller told) ≤ sum_by length told
spots_room caller [] = omega arith
spots_room caller (replies ∷ told) =
    let here = from_room caller 0 replies in
    let rest = spots_room (caller + 1) told in
    let maps = length-append (spots_from section.Maps caller 0 replies) (spots_of section.Maps (caller + 1) told) in
    let jobs = length-append (spots_from section.Jobs caller 0 replies) (spots_of section.Jobs (caller + 1) told) in
    let all = sum_by-cons (length {A = Reply}) replies told in
    omega (arith, here, rest, maps, jobs, all)

-- the next spot has room where all have
pub spot_fits : (section : Section) (caller index : ℕ) (rest : List Reply) (d : Reply) (key : ℕ) (items start all : List Spot) (cap : ℕ) → 1 ≤ length rest → key_in section (get_or rest 0 d) ≡ Some key → items ++ spots_from section caller index rest ≡ start ++ all → length start + length all ≤ cap → length items < cap
spot_fits section caller index [] d key items start all cap some is same enough = absurd (omega (arith, some))
spot_fits section caller index (reply ∷ rest) d key items start all cap some is same enough =
    let later : List Spot = spots_from section caller (index + 1) rest in
    let one : length (spots_with (key_in section reply) caller index later) ≡ length later + 1 = ap (λ o. length (spots_with o caller index later)) is ∙ omega arith in
    let sum = ap length same in
    let left = length-append items (spots_with (key_in section reply) caller index later) in
    let right = length-append start all in
    omega (arith, one, sum, left, right, enough)

-- so have those of the next caller
pub caller_fits : (section : Section) (told : List (List Reply)) (caller : ℕ) (items start all : List Spot) (cap : ℕ) → caller < length told → items ++ spots_of section caller (drop caller told) ≡ start ++ all → length start + length all ≤ cap → length items + length (spots_from section caller 0 (get_or told caller [])) ≤ cap
caller_fits section told caller items start all cap there same enough =
    let cut = ap (λ (l : List (List Reply)). length (spots_of section caller l)) (drop-cons told caller [] there) in
    let parts = length-append (spots_from section caller 0 (get_or told caller [])) (spots_of section (caller + 1) (drop (suc caller) told)) in
    let sum = ap length same in
    let left = length-append items (spots_of section caller (drop caller told)) in
    let right = length-append start all in
    omega (arith, cut, parts, sum, left, right, enough)

-- where each reply has a map line there are no job lines
pub order_whole : (told : List (List Reply)) (maps : List Spot) → IsOrderOf section.Maps told maps → sum_by length told ≤ length maps → IsOrder told maps
order_whole told maps first whole =
    let long = length_permutation (spots_of section.Maps 0 told) maps first.each in
    let room = spots_room 0 told in
    let none : spots_of section.Jobs 0 told ≡ [] = nil_from_length (spots_of section.Jobs 0 told) (omega (arith, long, room, whole)) in
    let left : length (drop (length maps) maps) ≡ 0 = length-drop (length maps) maps ∙ omega arith in
    order_made told maps maps maps (length maps) first (sym (append-nil maps) ∙ ap (λ l. maps ++ l) (sym none)) refl refl (IsPermutation-refl (drop (length maps) maps)) (λ k d low lt. absurd (omega (arith, lt, left)))

-- a packed spot has room for the key of each reply of these
pub key_fits : (section : Section) (reply : Reply) (key : ℕ) → HasPackedKey reply → key_in section reply ≡ Some key → key < SPOT_KEYS
key_fits section.Maps (Placed place said) key fits is = let same : place ≡ key = cc in omega (arith, same, fits)
key_fits section.Maps Busy key fits is = absurd (cc)
key_fits section.Maps (Late now) key fits is = absurd (cc)
key_fits section.Maps (Job at result) key fits is = absurd (cc)
key_fits section.Jobs (Placed place said) key fits is = absurd (cc)
key_fits section.Jobs Busy key fits is = absurd (cc)
key_fits section.Jobs (Late now) key fits is = absurd (cc)
key_fits section.Jobs (Job at result) key fits is = let same : at ≡ key = cc in omega (arith, same, fits)

-- the order of packed spots is that of what they say
pub packed_order : (section : Section) (told : List (List Reply)) (added sorted : List PackedSpot) → spots_in added ≡ spots_of section 0 told → IsPermutation added sorted → IsSorted packed_cmp sorted → IsOrderOf section told (spots_in sorted)
packed_order section told added sorted is each up = record {
  each = subst (λ (l : List Spot). IsPermutation l (spots_in sorted)) is (IsPermutation-map spot_in added sorted each);
  sorted = packed_sorted sorted up;
}

-- what holds of all lists holds of one, which is no longer than all
pub keys_of : (told : List (List Reply)) (caller : ℕ) → caller < length told → AllByRecursion (AllByRecursion HasPackedKey) told → AllByRecursion HasPackedKey (get_or told caller [])
keys_of [] caller there all = absurd (omega (arith, there))
keys_of (replies ∷ told) zero there all = all.0
keys_of (replies ∷ told) (suc caller) there all = keys_of told caller (omega (arith, there)) all.1

pub list_few : (told : List (List Reply)) (caller most : ℕ) → caller < length told → sum_by length told ≤ most → length (get_or told caller []) ≤ most
list_few [] caller most there few = absurd (omega (arith, there))
list_few (replies ∷ told) zero most there few = let all = sum_by-cons (length {A = Reply}) replies told in omega (arith, all, few)
list_few (replies ∷ told) (suc caller) most there few = let all = sum_by-cons (length {A = Reply}) replies told in list_few told caller most (omega (arith, there)) (omega (arith, all, few))

-- the packed spots of the map lines were sorted, then those of the job lines behind them
pub packed_made : (told : List (List Reply)) (maps all order : List PackedSpot) (placed : ℕ) → IsOrderOf section.Maps told (spots_in maps) → spots_in all ≡ spots_in maps ++ spots_of section.Jobs 0 told → placed ≡ length maps
    → take placed order ≡ take placed all → IsPermutation (drop placed all) (drop placed order) → IsSorted packed_cmp (drop placed order) → IsOrder told (spots_in order)
packed_made told maps all order placed first is at front each up =
    let here : placed ≡ length (spots_in maps) = at ∙ sym (length-map maps spot_in) in
    let before : take placed (spots_in order) ≡ take placed (spots_in all) = take-map spot_in placed order ∙ ap (λ l. spots_in l) front ∙ sym (take-map spot_in placed all) in
    let moved : IsPermutation (spots_in (drop placed all)) (spots_in (drop placed order)) = IsPermutation-map spot_in (drop placed all) (drop placed order) each in
    let behind = subst (λ (l : List Spot). IsPermutation l (drop placed (spots_in order))) (sym (drop-map spot_in placed all)) (subst (λ (l : List Spot). IsPermutation (spots_in (drop placed all)) l) (sym (drop-map spot_in placed order)) moved) in
    order_made told (spots_in maps) (spots_in all) (spots_in order) placed first is here before behind
    (subst (λ (l : List Spot). IsSorted spot_cmp l) (sym (drop-map spot_in placed order)) (packed_sorted (drop placed order) up))
