-- What the soak's queries are told in any history: an addition is a write, a look a read, and a gift a job.
use Rattle.std.proofs.Common.{◌≡◌, ◌≢◌, inl, inr, ℕ, zero, suc, ◌+◌, ◌/◌, ◌%◌, ◌^◌, ◌<◌, ◌≤◌, ◌==◌, List, [], ◌∷◌, length, take, slice_get, Some, None, Option, is_some, unwrap_or, refl, sym, ap, ◌∙◌, subst, arith, Bool, true, false, cond, IsTrue, IsFalse, eq-eqb, ne_eqb, eqb-true, MatchBool}
use Rattle.std.specs.List.{AllByRecursion}
use Rattle.query_rules.specs.declared.query.Query.{Query}
use Rattle.query_rules.specs.declared.query.Query.TheVariants.{Get, Len, Add, Give}
use Rattle.query_rules.specs.declared.query.Said.{Said}
use Rattle.query_rules.specs.declared.query.Said.TheVariants.{Found, Absent, Count}
use Rattle.query_rules.specs.declared.query.Reply.{Reply}
use Rattle.query_rules.specs.declared.query.Reply.TheVariants.{Placed, Busy, Late, Job}
use Rattle.query_rules.specs.declared.query.Total.TheVariants as total
use Rattle.query_rules.specs.Maps.{PlainMap, Maps, no_entries, reply_of, add_says, is_full, is_write, exceeds_u64}
use Rattle.query_rules.specs.Ledger.{no_accounts, act_of, IsLegalLedger}
use Rattle.query_rules.specs.History.{IsKindFor, StandsAt, maps_at, IsLegal, is_value, is_count}
use Rattle.query_rules.specs.Log.{is_counted}
use Rattle.query_rules.specs.Soak.{sum_below}
use Rattle.soak_laws.specs.Totals.{delta_of}
use Rattle.soak_laws.proofs.Sums as sums
use Rattle.soak_laws.proofs.Sums.{total_same, total_le, total_none, none_in_total, total_length, all_with, all_as, below_fewer}
use Rattle.soak_laws.proofs.Once.{Entry, odd, write_weight, writes_total, writes_few, act_weight, job_weight, jobs_total}
use Rattle.soak_laws.proofs.SoakKinds.{is_fine_add, is_fine_give, is_look, IsSoak, Served}
use Rattle.soak_laws.proofs.MapLaws.{Fit, has_key, key_le, fine_add, fit_all, fit_none}
use Rattle.soak_laws.proofs.LedgerLaws.{is_fine_gift}

-- what the maps may say to a look is no write
look_reads : (q : Query) (said : Said) → is_look q ≡ true → IsKindFor q (Placed 0 said) → is_write said ≡ false
look_reads (Get cell key) said look kind = value_reads said kind
  where
    value_reads : (said : Said) → is_value said ≡ true → is_write said ≡ false
    value_reads (Found v) kind = refl
    value_reads Absent kind = refl
    value_reads _ kind = absurd (cc)
look_reads (Len cell) said look kind = count_reads said kind
  where
    count_reads : (said : Said) → is_count said ≡ true → is_write said ≡ false
    count_reads (Count n) kind = refl
    count_reads _ kind = absurd (cc)
look_reads _ said look kind = absurd (cc)

give_is_unplaced : (q : Query) (place : ℕ) (said : Said) → is_fine_give q ≡ true → IsKindFor q (Placed place said) → ⊥
give_is_unplaced (Give key n) place said fine kind = absurd (cc)
give_is_unplaced _ place said fine kind = absurd (cc)

-- a write among the soak's is an addition
write_is_add : (q : Query) (place : ℕ) (said : Said) → IsSoak q → IsKindFor q (Placed place said) → is_write said ≡ true → is_fine_add q ≡ true
write_is_add q place said (inl look) kind writes = let reads = look_reads q said look kind in absurd (cc)
write_is_add q place said (inr (inl fine)) kind writes = fine
write_is_add q place said (inr (inr give)) kind writes = absurd (give_is_unplaced q place said give kind)

module _ (all : List Entry) (legal : IsLegal 16 no_entries all) where
  -- each write is an addition of the soak
  unfine : (e : Entry) → IsSoak e.0 × IsKindFor e.0 e.1 → StandsAt 16 no_entries legal.writes e → write_weight (λ q. cond (is_fine_add q) 0 1) e ≡ 0
  unfine (q, Placed place said) kind stand = by_place (place % 2 == 1) stand.1
    where
      by_place : (b : Bool) → MatchBool b ((slice_get legal.writes (place / 2) ≡ Some q) × IsTrue (is_write said)) ((place / 2 ≤ length legal.writes) × IsFalse (is_write said)) → cond {A = ℕ} b (cond {A = ℕ} (is_fine_add q) 0 1) 0 ≡ 0
      by_place true stand = ap (λ b. cond b 0 1) (write_is_add q place said kind.0 kind.1 stand.1)
      by_place false stand = refl
  unfine (q, Busy) kind stand = refl
  unfine (q, Late now) kind stand = refl
  unfine (q, Job at result) kind stand = refl

  pub writes_fine : AllByRecursion (λ e. IsSoak e.0 × IsKindFor e.0 e.1) all → AllByRecursion (λ q. is_fine_add q ≡ true) legal.writes
  writes_fine kinds =
      let none : sums.total (λ q. cond (is_fine_add q) 0 1) legal.writes ≡ 0 = writes_total 16 all legal (λ q. cond (is_fine_add q) 0 1) ∙ total_none _ all (all_with _ _ _ all unfine kinds legal.stand) in
      all_as _ _ legal.writes (λ q h. fine (is_fine_add q) h) (none_in_total (λ q. cond (is_fine_add q) 0 1) legal.writes none)
    where
      fine : (b : Bool) → cond {A = ℕ} b 0 1 ≡ 0 → b ≡ true
      fine true h = refl
      fine false h = absurd (omega (arith, h))

  -- so the maps at each place fit
  take_all : (P : Query → Type 0) (ws : List Query) (w : ℕ) → AllByRecursion P ws → AllByRecursion P (take w ws)
  take_all P [] zero p = tt
  take_all P [] (suc w) p = tt
  take_all P (q ∷ ws) zero p = tt
  take_all P (q ∷ ws) (suc w) p = (p.0, take_all P ws w p.1)

  take_le : (ws : List Query) (w : ℕ) → length (take w ws) ≤ length ws
  take_le [] zero = omega arith
  take_le [] (suc w) = omega arith
  take_le (q ∷ ws) zero = omega arith
  take_le (q ∷ ws) (suc w) = let rest = take_le ws w in omega (arith, rest)

  maps_fit : length all ≤ 1000000 → AllByRecursion (λ q. is_fine_add q ≡ true) legal.writes → (w : ℕ) → Fit 7000000 (maps_at no_entries legal.writes w)
  maps_fit few fine w =
      let fit = fit_all 0 no_entries (take w legal.writes) (take_all (λ q. is_fine_add q ≡ true) legal.writes w fine) fit_none in
      let le = take_le legal.writes w in
      let many = writes_few 16 all legal in
      record { low = λ cell key. let l = fit.low cell key in omega (arith, l, le, many, few); count = fit.count; only = fit.only }

-- ---- an addition finds room, and its sum fits
adds : (o : Option ℕ) (full : Bool) (delta : ℕ) → unwrap_or o 0 + delta < 2 ^ 64 → (o ≡ None → full ≡ false) → is_write (add_says o full delta) ≡ true
adds (Some v) full delta fits room = let small : exceeds_u64 (v + delta) ≡ false = grind (arith, fits) in rw small refl
adds None full delta fits room = rw (room refl) refl

room_for : (m : PlainMap) (key : ℕ) → key < 16 → m.count ≡ sum_below 16 (has_key m) → m.value_at key ≡ None → is_full 16 m ≡ false
room_for m key near count none =
    let had : has_key m key ≡ 0 = ap (λ (o : Option ℕ). cond (is_some o) 1 0) none in
    let fewer = below_fewer 16 (has_key m) key near (key_le m) had in
    let less : m.count < 16 = omega (arith, count, fewer) in grind (arith, less)

add_is_write : (m : Maps) (q : Query) (said : Said) → is_fine_add q ≡ true → Fit 7000000 m → reply_of 16 m q ≡ Some said → is_write said ≡ true
add_is_write m q said fine fit is =
    let f = fine_add q fine in
    let told : reply_of 16 m (Add f.cell f.key f.delta) ≡ Some said = subst (λ p. reply_of 16 m p ≡ Some said) f.is is in
    let same : add_says ((m f.cell).value_at f.key) (is_full 16 (m f.cell)) f.delta ≡ said = cc in
    let low = fit.low f.cell f.key in
    let few = f.few in
    subst (λ s. is_write s ≡ true) same
    (adds ((m f.cell).value_at f.key) (is_full 16 (m f.cell)) f.delta (omega (arith, low, few)) (room_for (m f.cell) f.key f.near_key (fit.count f.cell)))

-- the counts of a reply with a place, by whether it is a write
placed_counts : (writes : List Query) (q : Query) (place : ℕ) (said : Said) (w : Bool) → is_write said ≡ w
    → MatchBool (place % 2 == 1) ((slice_get writes (place / 2) ≡ Some q) × IsTrue (is_write said)) ((place / 2 ≤ length writes) × IsFalse (is_write said))
    → ((place % 2 == 1) ≡ w) × ((place % 2 == 0) ≡ cond w false true)
placed_counts writes q place said w is stand = by_place (place % 2 == 1) refl stand
  where
    by_place : (b : Bool) → (place % 2 == 1) ≡ b → MatchBool b ((slice_get writes (place / 2) ≡ Some q) × IsTrue (is_write said)) ((place / 2 ≤ length writes) × IsFalse (is_write said)) → ((place % 2 == 1) ≡ w) × ((place % 2 == 0) ≡ cond w false true)
    by_place true odd stand =
        let yes : w ≡ true = sym is ∙ stand.1 in
        let one : place % 2 ≡ 1 = eqb-true (place % 2) 1 odd in
        (odd ∙ sym yes, ne_eqb (place % 2) 0 (λ e. omega (arith, e, one)) ∙ sym (ap (λ b. cond b false true) yes))
    by_place false even stand =
        let no_write : w ≡ false = sym is ∙ stand.1 in
        let zero_left : place % 2 ≡ 0 = rest_of (λ e. let t = eq-eqb (place % 2) 1 e in absurd (cc)) in
        (even ∙ sym no_write, eq-eqb (place % 2) 0 zero_left ∙ sym (ap (λ b. cond b false true) no_write))
      where
        rest_of : (place % 2 ≢ 1) → place % 2 ≡ 0
        rest_of ne = omega (arith, ne)

-- the three kinds exclude each other
look_is_none : (q : Query) → is_look q ≡ true → (is_fine_add q ≡ false) × (is_fine_give q ≡ false)
look_is_none (Get cell key) look = (refl, refl)
look_is_none (Len cell) look = (refl, refl)
look_is_none _ look = absurd (cc)

add_is_none : (q : Query) → is_fine_add q ≡ true → (is_look q ≡ false) × (is_fine_give q ≡ false)
add_is_none (Add cell key delta) fine = (refl, refl)
add_is_none _ fine = absurd (cc)

give_is_none : (q : Query) → is_fine_give q ≡ true → (is_look q ≡ false) × (is_fine_add q ≡ false)
give_is_none (Give key n) fine = (refl, refl)
give_is_none _ fine = absurd (cc)

-- no look, addition or gift is refused, and only a gift is a job
unrefused : (q : Query) → IsSoak q → (IsKindFor q Busy → ⊥) × ((now : ℕ) → IsKindFor q (Late now) → ⊥)
unrefused (Get cell key) soak = (λ k. absurd (cc), λ now k. absurd (cc))
unrefused (Len cell) soak = (λ k. absurd (cc), λ now k. absurd (cc))
unrefused (Add cell key delta) soak = (λ k. absurd (cc), λ now k. absurd (cc))
unrefused (Give key n) soak = (λ k. absurd (cc), λ now k. absurd (cc))
unrefused _ (inl look) = absurd (cc)
unrefused _ (inr (inl fine)) = absurd (cc)
unrefused _ (inr (inr give)) = absurd (cc)

served : (writes : List Query) → ((w : ℕ) → Fit 7000000 (maps_at no_entries writes w)) → (e : Entry) → IsSoak e.0 × IsKindFor e.0 e.1 → StandsAt 16 no_entries writes e → Served e.0 e.1
served writes fit (q, Busy) kind stand = absurd ((unrefused q kind.0).0 kind.1)
served writes fit (q, Late now) kind stand = absurd ((unrefused q kind.0).1 now kind.1)
served writes fit (q, Placed place said) (inl look, kind) stand =
    let counts = placed_counts writes q place said false (look_reads q said look kind) stand.1 in
    let others = look_is_none q look in
    record { writes = counts.0 ∙ sym others.0; reads = counts.1 ∙ sym look; refused = refl; jobs = sym others.1 }
served writes fit (q, Placed place said) (inr (inl fine), kind) stand =
    let counts = placed_counts writes q place said true (add_is_write (maps_at no_entries writes (place / 2)) q said fine (fit (place / 2)) stand.0) stand.1 in
    let others = add_is_none q fine in
    record { writes = counts.0 ∙ sym fine; reads = counts.1 ∙ sym others.0; refused = refl; jobs = sym others.1 }
served writes fit (q, Placed place said) (inr (inr give), kind) stand = absurd (give_is_unplaced q place said give kind)
served writes fit (q, Job at result) (inl look, kind) stand = absurd (look_no_job q look kind)
  where
    look_no_job : (q : Query) → is_look q ≡ true → IsKindFor q (Job at result) → ⊥
    look_no_job (Get cell key) look kind = absurd (cc)
    look_no_job (Len cell) look kind = absurd (cc)
    look_no_job _ look kind = absurd (cc)
served writes fit (q, Job at result) (inr (inl fine), kind) stand = absurd (add_no_job q fine kind)
  where
    add_no_job : (q : Query) → is_fine_add q ≡ true → IsKindFor q (Job at result) → ⊥
    add_no_job (Add cell key delta) fine kind = absurd (cc)
    add_no_job _ fine kind = absurd (cc)
served writes fit (q, Job at result) (inr (inr give), kind) stand =
    let others = give_is_none q give in
    record { writes = sym others.1; reads = sym others.0; refused = refl; jobs = sym give }

pub all_served : (all : List Entry) (legal : IsLegal 16 no_entries all) → length all ≤ 1000000 → AllByRecursion (λ e. IsSoak e.0 × IsKindFor e.0 e.1) all → AllByRecursion (λ e. Served e.0 e.1) all
all_served all legal few kinds = all_with _ _ _ all (served legal.writes (maps_fit all legal few (writes_fine all legal kinds))) kinds legal.stand

-- what the writes add is what the additions ask for
odd_counts : (r : Reply) → odd r ≡ is_counted total.Writes r
odd_counts (Placed place said) = refl
odd_counts Busy = refl
odd_counts (Late now) = refl
odd_counts (Job at result) = refl

delta_served : (e : Entry) → Served e.0 e.1 → write_weight delta_of e ≡ cond (is_fine_add e.0) (delta_of e.0) 0
delta_served (q, r) s = ap (λ b. cond b (delta_of q) 0) (odd_counts r ∙ s.writes)

pub delta_total : (all : List Entry) (legal : IsLegal 16 no_entries all) → AllByRecursion (λ e. Served e.0 e.1) all → sums.total delta_of legal.writes ≡ sums.total (λ e. cond (is_fine_add e.0) (delta_of e.0) 0) all
delta_total all legal each = writes_total 16 all legal delta_of ∙ total_same _ _ all (all_as _ _ all delta_served each)

-- ---- the jobs
module _ (all : List Entry) (legal : IsLegalLedger 16 no_accounts all) where
  unfine_job : (e : Entry) → Served e.0 e.1 → job_weight (λ a. cond (is_fine_gift a) 0 1) e ≡ 0
  unfine_job (q, Job at result) s = fine_give q (sym s.jobs)
    where
      fine_give : (q : Query) → is_fine_give q ≡ true → act_weight (λ a. cond (is_fine_gift a) 0 1) (act_of q) ≡ 0
      fine_give (Give key n) fine = ap (λ b. cond b 0 1) fine
      fine_give _ fine = absurd (cc)
  unfine_job (q, Placed place said) s = refl
  unfine_job (q, Busy) s = refl
  unfine_job (q, Late now) s = refl

  pub jobs_fine : AllByRecursion (λ e. Served e.0 e.1) all → AllByRecursion (λ a. is_fine_gift a ≡ true) legal.jobs
  jobs_fine each =
      let none : sums.total (λ a. cond (is_fine_gift a) 0 1) legal.jobs ≡ 0 = jobs_total 16 all legal (λ a. cond (is_fine_gift a) 0 1) ∙ total_none _ all (all_as _ _ all unfine_job each) in
      all_as _ _ legal.jobs (λ a h. fine (is_fine_gift a) h) (none_in_total (λ a. cond (is_fine_gift a) 0 1) legal.jobs none)
    where
      fine : (b : Bool) → cond {A = ℕ} b 0 1 ≡ 0 → b ≡ true
      fine true h = refl
      fine false h = absurd (omega (arith, h))

  one_job : (e : Entry) → Served e.0 e.1 → job_weight (λ a. 1) e ≡ cond (is_fine_give e.0) 1 0
  one_job (q, Job at result) s = fine_give q (sym s.jobs)
    where
      fine_give : (q : Query) → is_fine_give q ≡ true → act_weight (λ a. 1) (act_of q) ≡ cond (is_fine_give q) 1 0
      fine_give (Give key n) fine = sym (ap (λ b. cond b 1 0) fine)
      fine_give _ fine = absurd (cc)
  one_job (q, Placed place said) s = ap (λ b. cond b 1 0) s.jobs
  one_job (q, Busy) s = ap (λ b. cond b 1 0) s.jobs
  one_job (q, Late now) s = ap (λ b. cond b 1 0) s.jobs

  pub jobs_count : AllByRecursion (λ e. Served e.0 e.1) all → length legal.jobs ≡ sums.total (λ e. cond (is_fine_give e.0) 1 0) all
  jobs_count each = sym (total_length legal.jobs) ∙ jobs_total 16 all legal (λ a. 1) ∙ total_same _ _ all (all_as _ _ all one_job each)
