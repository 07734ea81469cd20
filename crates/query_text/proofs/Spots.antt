-- The spots of a log's lines: how many there are, and that each has a query and a reply.
use Rattle.std.proofs.Common.{◌≡◌, ℕ, zero, suc, ◌+◌, ◌-◌, ◌≤◌, ◌<◌, ◌%◌, ◌==◌, List, [], ◌∷◌, ◌++◌, length, take, drop, get_or, refl, sym, ap, ◌∙◌, subst, arith, sum_by, count_by, length-append, Some, None, Option}
use Rattle.std.proofs.Math.Seq.{drop-cons}
use Rattle.std.proofs.Math.Numerals.{add-one}
use Rattle.std.specs.Prelude.{IsErr}
use Rattle.std.specs.declared.result.Result.{Result}
use Rattle.std.specs.Io.KnownBytes.{Appends}
use Rattle.ql_base.specs.Bytes.{AppendsFront, Writes}
use Rattle.ql_base.proofs.Pieces.{HasTaken, taken_part, taken_exit}
use Rattle.std.specs.List.{AllByRecursion, AllZip}
use Rattle.std.proofs.lemmas.List.{length-take}
use Rattle.std.proofs.lemmas.List.Sums.{sum_by-cons}
use Rattle.std.proofs.lemmas.List.Sorted.{All-permutation, length_permutation}
use Rattle.std.proofs.lemmas.List.Elements.{recursion_from_All, All-from_recursion}
use Rattle.std.proofs.lemmas.Slice.Zip.{AllZip-long}
use Rattle.query_rules.specs.declared.query.Query.{Query}
use Rattle.query_rules.specs.declared.query.Reply.{Reply}
use Rattle.query_rules.specs.declared.query.Reply.TheVariants.{Placed, Busy, Late, Job}
use Rattle.query_rules.specs.declared.query.Section.{Section}
use Rattle.query_rules.specs.declared.query.Section.TheVariants.{Maps}
use Rattle.query_rules.specs.declared.query.Spot.{Spot}
use Rattle.query_rules.specs.declared.query.Total.TheVariants as total
use Rattle.query_rules.specs.History.{IsKindFor}
use Rattle.query_text.proofs.Tallies.{one_if, count_cons}
use Rattle.query_rules.specs.Log.{key_in, spots_with, spots_from, spots_of, is_counted, total_of, placed_count, refused_line, refused_from, refused_of, IsSpot, IsOrder, IsOrderOf}

parity : (place : ℕ) → one_if (place % 2 == 1) + one_if (place % 2 == 0) ≡ 1
parity place = grind arith

-- a map line for each write and each read
from_count : (caller index : ℕ) (replies : List Reply) → length (spots_from Maps caller index replies) ≡ count_by (is_counted total.Writes) replies + count_by (is_counted total.Reads) replies
from_count caller index [] = refl
from_count caller index (Placed place said ∷ replies) =
    let w = count_cons (is_counted total.Writes) (Placed place said) replies in
    let r = count_cons (is_counted total.Reads) (Placed place said) replies in
    let p = parity place in
    let rest = from_count caller (index + 1) replies in
    omega (arith, w, r, p, rest)
from_count caller index (Busy ∷ replies) =
    let w = count_cons (is_counted total.Writes) Busy replies in
    let r = count_cons (is_counted total.Reads) Busy replies in
    let rest = from_count caller (index + 1) replies in
    omega (arith, w, r, rest)
from_count caller index (Late now ∷ replies) =
    let w = count_cons (is_counted total.Writes) (Late now) replies in
    let r = count_cons (is_counted total.Reads) (Late now) replies in
    let rest = from_count caller (index + 1) replies in
    omega (arith, w, r, rest)
from_count caller index (Job at result ∷ replies) =
    let w = count_cons (is_counted total.Writes) (Job at result) replies in
    let r = count_cons (is_counted total.Reads) (Job at result) replies in
    let rest = from_count caller (index + 1) replies in
    omega (arith, w, r, rest)

pub maps_count : (caller : ℕ) (told : List (List Reply)) → length (spots_of Maps caller told) ≡ placed_count told
maps_count caller [] = refl
maps_count caller (replies ∷ told) =
    let here = from_count caller 0 replies in
    let rest = maps_count (caller + 1) told in
    let len = length-append (spots_from Maps caller 0 replies) (spots_of Maps (caller + 1) told) in
    let w = sum_by-cons (count_by (is_counted total.Writes)) replies told in
    let r = sum_by-cons (count_by (is_counted total.Reads)) replies told in
    omega (arith, here, rest, len, w, r)

pub order_long : (told : List (List Reply)) (order : List Spot) → IsOrder told order → placed_count told ≤ length order
order_long told order is =
    let len = length_permutation (spots_of Maps 0 told) (take (placed_count told) order) is.maps.each in
    let all = maps_count 0 told in
    let cut = length-take (placed_count told) order in
    omega (arith, len, all, cut)

-- a spot of these replies, the first of which are this caller's
abbrev IsWithin : ℕ → List (List Reply) → Spot → Type 0
IsWithin caller told spot = (caller ≤ spot.caller) × (spot.caller - caller < length told) × (spot.index < length (get_or told (spot.caller - caller) []))

all_append : {X : Type 0} (P : X → Type 0) (xs ys : List X) → AllByRecursion P xs → AllByRecursion P ys → AllByRecursion P (xs ++ ys)
all_append P [] ys all more = more
all_append P (x ∷ xs) ys all more = (all.0, all_append P xs ys all.1 more)

all_map : {X : Type 0} (P Q : X → Type 0) (xs : List X) → ((x : X) → P x → Q x) → AllByRecursion P xs → AllByRecursion Q xs
all_map P Q [] f all = tt
all_map P Q (x ∷ xs) f all = (f x all.0, all_map P Q xs f all.1)

here : (caller index : ℕ) (key : ℕ) (replies : List Reply) (told : List (List Reply)) → index < length replies → IsWithin caller (replies ∷ told) (record { key = key; caller = caller; index = index })
here caller index key replies told lt =
    let same : caller - caller ≡ 0 = omega arith in
    let P : ℕ → Type 0 = λ n. index < length (get_or (replies ∷ told) n []) in
    (omega arith, omega arith, subst P (sym same) lt)

with_within : (o : Option ℕ) (caller index : ℕ) (replies : List Reply) (told : List (List Reply)) (later : List Spot) → index < length replies → AllByRecursion (IsWithin caller (replies ∷ told)) later → AllByRecursion (IsWithin caller (replies ∷ told)) (spots_with o caller index later)
with_within None caller index replies told later lt all = all
with_within (Some key) caller index replies told later lt all = (here caller index key replies told lt, all)

from_within : (section : Section) (caller index : ℕ) (all replies : List Reply) (told : List (List Reply)) → index + length replies ≡ length all → AllByRecursion (IsWithin caller (all ∷ told)) (spots_from section caller index replies)
from_within section caller index all [] told len = tt
from_within section caller index all (reply ∷ replies) told len =
    with_within (key_in section reply) caller index all told (spots_from section caller (index + 1) replies) (omega (arith, len)) (from_within section caller (index + 1) all replies told (omega (arith, len)))

later_within : (caller : ℕ) (replies : List Reply) (told : List (List Reply)) (spot : Spot) → IsWithin (caller + 1) told spot → IsWithin caller (replies ∷ told) spot
later_within caller replies told spot is =
    let next : spot.caller - caller ≡ suc (spot.caller - (caller + 1)) = omega (arith, is.0) in
    let P : ℕ → Type 0 = λ n. spot.index < length (get_or (replies ∷ told) n []) in
    (omega (arith, is.0), omega (arith, is.0, is.1), subst P (sym next) is.2)

of_within : (section : Section) (caller : ℕ) (told : List (List Reply)) → AllByRecursion (IsWithin caller told) (spots_of section caller told)
of_within section caller [] = tt
of_within section caller (replies ∷ told) =
    all_append (IsWithin caller (replies ∷ told)) (spots_from section caller 0 replies) (spots_of section (caller + 1) told)
    (from_within section caller 0 replies replies told (omega arith))
    (all_map (IsWithin (caller + 1) told) (IsWithin caller (replies ∷ told)) (spots_of section (caller + 1) told) (later_within caller replies told) (of_within section (caller + 1) told))

abbrev pub AreReplies : List (List Query) → List (List Reply) → Type 0
AreReplies asked told = AllZip (AllZip IsKindFor) asked told

pub lists_long : (asked : List (List Query)) (told : List (List Reply)) → AreReplies asked told → length told ≡ length asked
lists_long asked told is = AllZip-long (AllZip IsKindFor) asked told is

pub list_long : (asked : List (List Query)) (told : List (List Reply)) (i : ℕ) → AreReplies asked told → length (get_or told i []) ≡ length (get_or asked i [])
list_long [] [] i is = refl
list_long [] (replies ∷ told) i is = absurd is
list_long (queries ∷ asked) [] i is = absurd is
list_long (queries ∷ asked) (replies ∷ told) zero is = AllZip-long IsKindFor queries replies is.0
list_long (queries ∷ asked) (replies ∷ told) (suc i) is = list_long asked told i is.1

pub sums_same : (asked : List (List Query)) (told : List (List Reply)) → AreReplies asked told → sum_by length told ≡ sum_by length asked
sums_same [] [] is = refl
sums_same [] (replies ∷ told) is = absurd is
sums_same (queries ∷ asked) [] is = absurd is
sums_same (queries ∷ asked) (replies ∷ told) is =
    let a = sum_by-cons (length {A = Query}) queries asked in
    let b = sum_by-cons (length {A = Reply}) replies told in
    let one = AllZip-long IsKindFor queries replies is.0 in
    let rest = sums_same asked told is.1 in
    omega (arith, a, b, one, rest)

is_spot : (asked : List (List Query)) (told : List (List Reply)) → AreReplies asked told → (spot : Spot) → IsWithin 0 told spot → IsSpot asked told spot
is_spot asked told is spot within =
    let same : spot.caller - 0 ≡ spot.caller = omega arith in
    let tells : spot.index < length (get_or told spot.caller []) = subst (λ n. spot.index < length (get_or told n [])) same within.2 in
    let long = lists_long asked told is in
    let each = list_long asked told spot.caller is in
    record { caller_asks = omega (arith, long, within.1); asks = omega (arith, each, tells); caller_told = omega (arith, within.1); tells = tells }

-- the spots of a section in their order are spots of these queries and replies
pub order_spots : (section : Section) (asked : List (List Query)) (told : List (List Reply)) (order : List Spot) → AreReplies asked told → IsOrderOf section told order → AllByRecursion (IsSpot asked told) order
order_spots section asked told order is in_order =
    let all = all_map (IsWithin 0 told) (IsSpot asked told) (spots_of section 0 told) (is_spot asked told is) (of_within section 0 told) in
    recursion_from_All (IsSpot asked told) order (All-permutation (IsSpot asked told) (spots_of section 0 told) order in_order.each (All-from_recursion (IsSpot asked told) (spots_of section 0 told) all))

-- where no refusal is counted there are no lines of refusals
from_none : (caller index : ℕ) (queries : List Query) (replies : List Reply) → count_by (is_counted total.Refused) replies ≡ 0 → refused_from caller index queries replies ≡ []
from_none caller index [] replies none = refl
from_none caller index (q ∷ queries) [] none = refl
from_none caller index (q ∷ queries) (Placed place said ∷ replies) none =
    from_none caller (index + 1) queries replies (omega (arith, none, count_cons (is_counted total.Refused) (Placed place said) replies))
from_none caller index (q ∷ queries) (Busy ∷ replies) none = absurd (omega (arith, none, count_cons (is_counted total.Refused) Busy replies))
from_none caller index (q ∷ queries) (Late now ∷ replies) none = absurd (omega (arith, none, count_cons (is_counted total.Refused) (Late now) replies))
from_none caller index (q ∷ queries) (Job at result ∷ replies) none =
    from_none caller (index + 1) queries replies (omega (arith, none, count_cons (is_counted total.Refused) (Job at result) replies))

pub refused_none : (caller : ℕ) (asked : List (List Query)) (told : List (List Reply)) → total_of total.Refused told ≡ 0 → refused_of caller asked told ≡ []
refused_none caller [] told none = refl
refused_none caller (queries ∷ asked) [] none = refl
refused_none caller (queries ∷ asked) (replies ∷ told) none =
    let all = sum_by-cons (count_by (is_counted total.Refused)) replies told in
    let here : refused_from caller 0 queries replies ≡ [] = from_none caller 0 queries replies (omega (arith, none, all)) in
    ap (λ l. l ++ refused_of (caller + 1) asked told) here ∙ refused_none (caller + 1) asked told (omega (arith, none, all))

-- the lines of refusals, one reply and one caller at a time
refused_cut : (caller i : ℕ) (queries : List Query) (replies : List Reply) (q : Query) (r : Reply) → i < length queries → i < length replies
    → refused_from caller i (drop i queries) (drop i replies) ≡ refused_line caller i (get_or queries i q) (get_or replies i r) ++ refused_from caller (i + 1) (drop (i + 1) queries) (drop (i + 1) replies)
refused_cut caller i queries replies q r asks tells =
    ap (λ qs. refused_from caller i qs (drop i replies)) (drop-cons queries i q asks)
    ∙ ap (λ rs. refused_from caller i (get_or queries i q ∷ drop (suc i) queries) rs) (drop-cons replies i r tells)
    ∙ ap (λ n. refused_line caller i (get_or queries i q) (get_or replies i r) ++ refused_from caller (i + 1) (drop n queries) (drop n replies)) (sym (add-one i))

refused_of_cut : (i : ℕ) (asked : List (List Query)) (told : List (List Reply)) → i < length asked → i < length told
    → refused_of i (drop i asked) (drop i told) ≡ refused_from i 0 (get_or asked i []) (get_or told i []) ++ refused_of (i + 1) (drop (i + 1) asked) (drop (i + 1) told)
refused_of_cut i asked told asks tells =
    ap (λ qs. refused_of i qs (drop i told)) (drop-cons asked i [] asks)
    ∙ ap (λ rs. refused_of i (get_or asked i [] ∷ drop (suc i) asked) rs) (drop-cons told i [] tells)
    ∙ ap (λ n. refused_from i 0 (get_or asked i []) (get_or told i []) ++ refused_of (i + 1) (drop n asked) (drop n told)) (sym (add-one i))

pub refused_next : (old mid new : Option (List ℕ)) (text : List ℕ) (caller i : ℕ) (queries : List Query) (replies : List Reply) (q : Query) (r : Reply) → i < length queries → i < length replies
    → HasTaken old mid text (refused_from caller i (drop i queries) (drop i replies)) → Appends mid new (refused_line caller i (get_or queries i q) (get_or replies i r))
    → HasTaken old new text (refused_from caller (i + 1) (drop (i + 1) queries) (drop (i + 1) replies))
refused_next old mid new text caller i queries replies q r asks tells taken more =
    let P : List ℕ → Type 0 = λ t. HasTaken old mid text t in
    taken_part old mid new text _ _ (subst P (refused_cut caller i queries replies q r asks tells) taken) more

pub refused_exit : {T E : Type 0} (old mid new : Option (List ℕ)) (text : List ℕ) (caller i : ℕ) (queries : List Query) (replies : List Reply) (q : Query) (r : Reply) (result : Result T E) → IsErr result → i < length queries → i < length replies
    → HasTaken old mid text (refused_from caller i (drop i queries) (drop i replies)) → AppendsFront mid new (refused_line caller i (get_or queries i q) (get_or replies i r)) → Writes old new result text
refused_exit old mid new text caller i queries replies q r result bad asks tells taken more =
    let P : List ℕ → Type 0 = λ t. HasTaken old mid text t in
    taken_exit old mid new text _ _ result bad (subst P (refused_cut caller i queries replies q r asks tells) taken) more

here_same : (i : ℕ) (asked : List (List Query)) (told : List (List Reply)) (qs : List Query) (rs : List Reply) → qs ≡ get_or asked i [] → rs ≡ get_or told i [] → refused_from i 0 qs rs ≡ refused_from i 0 (get_or asked i []) (get_or told i [])
here_same i asked told qs rs a t = ap (λ l. refused_from i 0 l rs) a ∙ ap (λ l. refused_from i 0 (get_or asked i []) l) t

list_cut : (i : ℕ) (asked : List (List Query)) (told : List (List Reply)) (qs : List Query) (rs : List Reply) → AreReplies asked told → i < length asked → qs ≡ get_or asked i [] → rs ≡ get_or told i []
    → refused_of i (drop i asked) (drop i told) ≡ refused_from i 0 qs rs ++ refused_of (i + 1) (drop (i + 1) asked) (drop (i + 1) told)
list_cut i asked told qs rs is asks a t =
    let long = lists_long asked told is in
    refused_of_cut i asked told asks (omega (arith, asks, long)) ∙ ap (λ l. l ++ refused_of (i + 1) (drop (i + 1) asked) (drop (i + 1) told)) (sym (here_same i asked told qs rs a t))

pub list_next : (old mid new : Option (List ℕ)) (text : List ℕ) (i : ℕ) (asked : List (List Query)) (told : List (List Reply)) (qs : List Query) (rs : List Reply) → AreReplies asked told → i < length asked → qs ≡ get_or asked i [] → rs ≡ get_or told i []
    → HasTaken old mid text (refused_of i (drop i asked) (drop i told)) → Appends mid new (refused_from i 0 qs rs) → HasTaken old new text (refused_of (i + 1) (drop (i + 1) asked) (drop (i + 1) told))
list_next old mid new text i asked told qs rs is asks a t taken more =
    let P : List ℕ → Type 0 = λ t. HasTaken old mid text t in
    taken_part old mid new text _ _ (subst P (list_cut i asked told qs rs is asks a t) taken) more

pub list_exit : {T E : Type 0} (old mid new : Option (List ℕ)) (text : List ℕ) (i : ℕ) (asked : List (List Query)) (told : List (List Reply)) (qs : List Query) (rs : List Reply) (result : Result T E) → IsErr result → AreReplies asked told → i < length asked → qs ≡ get_or asked i [] → rs ≡ get_or told i []
    → HasTaken old mid text (refused_of i (drop i asked) (drop i told)) → AppendsFront mid new (refused_from i 0 qs rs) → Writes old new result text
list_exit old mid new text i asked told qs rs result bad is asks a t taken more =
    let P : List ℕ → Type 0 = λ t. HasTaken old mid text t in
    taken_exit old mid new text _ _ result bad (subst P (list_cut i asked told qs rs is asks a t) taken) more
