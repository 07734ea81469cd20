-- What a pass tells of all callers, the newest first and without the jobs, is legal just where the callers' replies are.
use Rattle.std.specs.Prelude.{◌≡◌, ℕ, ◌+◌, ◌/◌, Bool, true, false, cond, List, [], ◌∷◌, ◌++◌, map, zip, count_by}
use Rattle.std.proofs.Common.{refl, sym, ap, ◌∙◌, subst, arith}
use Rattle.std.proofs.lemmas.List.Sums.{sum_by-append}
use Rattle.std.proofs.lemmas.List.{map-append}
use Rattle.std.specs.List.{AllByRecursion}
use Rattle.query_rules.specs.declared.query.Query.{Query}
use Rattle.query_rules.specs.declared.query.Reply.{Reply}
use Rattle.query_rules.specs.declared.query.Reply.TheVariants.{Placed, Busy, Late, Job}
use Rattle.query_rules.specs.Maps.{no_entries, is_write}
use Rattle.query_rules.specs.History.{IsLegal, StandsAt, entries, is_write_at, place_of}
use Rattle.map_cargo.specs.declared.entry.Entry.{Entry}
use Rattle.map_cargo.specs.declared.entry.Told.{Told}
use Rattle.map_cargo.specs.declared.entry.Told.TheVariants.{Wrote, Read}
use Rattle.map_cargo.specs.Entries.{as_reply}
use Rattle.query_cells.specs.Asked.{entry_for}
use Rattle.run_laws.specs.Callers.{IsPlaced}
use Rattle.run_laws.specs.Lists.{all_told, told_as, told_from, told_of}

-- ---- two lists in a row
all_parts : {A : Type 0} (P : A → Type 0) (xs ys : List A) → AllByRecursion P (xs ++ ys) → AllByRecursion P xs × AllByRecursion P ys
all_parts P [] ys h = (tt, h)
all_parts P (x ∷ xs) ys h = let rest = all_parts P xs ys h.1 in ((h.0, rest.0), rest.1)

all_joined : {A : Type 0} (P : A → Type 0) (xs ys : List A) → AllByRecursion P xs → AllByRecursion P ys → AllByRecursion P (xs ++ ys)
all_joined P [] ys h k = k
all_joined P (x ∷ xs) ys h k = (h.0, all_joined P xs ys h.1 k)

-- the replies that are told, as a history has them
abbrev replies_in : List Told → List (Query × Reply)
replies_in told = map as_reply told

-- ---- one reply
as_told : (n : ℕ) (e : Entry) (b : Bool) → as_reply (cond b (Wrote n e) (Read n e)) ≡ (e.query, Placed (place_of n e.said) e.said)
as_told n e true = refl
as_told n e false = refl

-- a placed reply is told with its place
told_again : (caller index : ℕ) (q : Query) (place : ℕ) (said : _) → IsPlaced (Placed place said) → as_reply (told_as (place / 2) (entry_for caller index q said)) ≡ (q, Placed place said)
told_again caller index q place said is = as_told (place / 2) (entry_for caller index q said) (is_write said) ∙ ap (λ (x : ℕ). (q, Placed x said)) (sym is)

-- ---- each stands
module _ (rows : ℕ) (writes : List Query) where
  abbrev Stands : Query × Reply → Type 0
  Stands = StandsAt rows no_entries writes

  one_stands : (caller index : ℕ) (q : Query) (reply : Reply) → IsPlaced reply → AllByRecursion Stands (replies_in (told_of caller index q reply)) → Stands (q, reply)
  one_stands caller index q (Placed place said) is h = subst (λ (x : Query × Reply). Stands x) (told_again caller index q place said is) h.0
  one_stands caller index q Busy is h = tt
  one_stands caller index q (Late now) is h = tt
  one_stands caller index q (Job at result) is h = tt

  list_stands : (caller index : ℕ) (qs : List Query) (rs : List Reply) → AllByRecursion IsPlaced rs → AllByRecursion Stands (replies_in (told_from caller index qs rs)) → AllByRecursion Stands (zip qs rs)
  list_stands caller index [] [] placed h = tt
  list_stands caller index [] (r ∷ rs) placed h = tt
  list_stands caller index (q ∷ qs) [] placed h = tt
  list_stands caller index (q ∷ qs) (r ∷ rs) placed h =
      let newer : List Told = told_from caller (index + 1) qs rs in
      let both = all_parts Stands (replies_in newer) (replies_in (told_of caller index q r)) (subst (λ (l : List (Query × Reply)). AllByRecursion Stands l) (map-append as_reply newer (told_of caller index q r)) h) in
      (one_stands caller index q r placed.0 both.1, list_stands caller (index + 1) qs rs placed.1 both.0)

  all_stand : (caller : ℕ) (callers : List (List Query)) (told : List (List Reply)) → AllByRecursion (AllByRecursion IsPlaced) told → AllByRecursion Stands (replies_in (all_told caller callers told)) → AllByRecursion Stands (entries callers told)
  all_stand caller [] told placed h = tt
  all_stand caller (qs ∷ callers) [] placed h = tt
  all_stand caller (qs ∷ callers) (rs ∷ told) placed h =
      let newer : List Told = all_told (caller + 1) callers told in
      let both = all_parts Stands (replies_in newer) (replies_in (told_from caller 0 qs rs)) (subst (λ (l : List (Query × Reply)). AllByRecursion Stands l) (map-append as_reply newer (told_from caller 0 qs rs)) h) in
      all_joined Stands (zip qs rs) (entries callers told) (list_stands caller 0 qs rs placed.0 both.1) (all_stand (caller + 1) callers told placed.1 both.0)

-- ---- as many entries have the place of a write
module _ (k : ℕ) where
  abbrev count : List (Query × Reply) → ℕ
  count all = count_by (is_write_at k) all

  counts_both : (xs ys : List (Query × Reply)) → count (xs ++ ys) ≡ count xs + count ys
  counts_both xs ys = sum_by-append (λ (x : Query × Reply). cond (is_write_at k x) 1 0) xs ys

  told_both : (xs ys : List Told) → count (replies_in (xs ++ ys)) ≡ count (replies_in xs) + count (replies_in ys)
  told_both xs ys = ap count (map-append as_reply xs ys) ∙ counts_both (replies_in xs) (replies_in ys)

  one_count : (caller index : ℕ) (q : Query) (reply : Reply) → IsPlaced reply → count (replies_in (told_of caller index q reply)) ≡ count ((q, reply) ∷ [])
  one_count caller index q (Placed place said) is = ap (λ (x : Query × Reply). count (x ∷ [])) (told_again caller index q place said is)
  one_count caller index q Busy is = refl
  one_count caller index q (Late now) is = refl
  one_count caller index q (Job at result) is = refl

  list_counts : (caller index : ℕ) (qs : List Query) (rs : List Reply) → AllByRecursion IsPlaced rs → count (replies_in (told_from caller index qs rs)) ≡ count (zip qs rs)
  list_counts caller index [] [] placed = refl
  list_counts caller index [] (r ∷ rs) placed = refl
  list_counts caller index (q ∷ qs) [] placed = refl
  list_counts caller index (q ∷ qs) (r ∷ rs) placed =
      let told = told_both (told_from caller (index + 1) qs rs) (told_of caller index q r) in
      let asked = counts_both ((q, r) ∷ []) (zip qs rs) in
      let one = one_count caller index q r placed.0 in
      let rest = list_counts caller (index + 1) qs rs placed.1 in
      omega (arith, told, asked, one, rest)

  all_counts : (caller : ℕ) (callers : List (List Query)) (told : List (List Reply)) → AllByRecursion (AllByRecursion IsPlaced) told → count (replies_in (all_told caller callers told)) ≡ count (entries callers told)
  all_counts caller [] told placed = refl
  all_counts caller (qs ∷ callers) [] placed = refl
  all_counts caller (qs ∷ callers) (rs ∷ told) placed =
      let listed = told_both (all_told (caller + 1) callers told) (told_from caller 0 qs rs) in
      let asked = counts_both (zip qs rs) (entries callers told) in
      let one = list_counts caller 0 qs rs placed.0 in
      let rest = all_counts (caller + 1) callers told placed.1 in
      omega (arith, listed, asked, one, rest)

-- so the callers' replies are legal where all that is told is
pub maps_whole : (rows : ℕ) (callers : List (List Query)) (told : List (List Reply)) (all : List Told) → all ≡ all_told 0 callers told → AllByRecursion (AllByRecursion IsPlaced) told
    → IsLegal rows no_entries (map as_reply all) → IsLegal rows no_entries (entries callers told)
maps_whole rows callers told all is placed h =
    let same : map as_reply all ≡ replies_in (all_told 0 callers told) = ap (map as_reply) is in
    record {
      writes = h.writes;
      stand = all_stand rows h.writes 0 callers told placed (subst (λ (l : List (Query × Reply)). AllByRecursion (StandsAt rows no_entries h.writes) l) same h.stand);
      once = λ w low. (let one = h.once w low in let counted = all_counts w 0 callers told placed in let here : count w (map as_reply all) ≡ count w (replies_in (all_told 0 callers told)) = ap (count w) same in omega (arith, one, counted, here));
    }
