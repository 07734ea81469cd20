-- The part of the rule on the cargo.
use Rattle.std.proofs.Common.{Option, None, ◌≡◌, ℕ, zero, suc, ◌+◌, ◌≤◌, ◌≢◌, List, [], ◌∷◌, map, set, get_or, length, Bool, true, false, sym, refl, ap, ◌∙◌, subst, arith}
use Rattle.std.proofs.lemmas.List.{map-set}
use Rattle.std.proofs.Math.ListN.{get_or-map}
use Rattle.std.proofs.Math.Seq.{map-set_same}
use mathlib.Core.Option.{some}
use lib.ListN.{get_elem?}
use Rattle.atomic_table.proofs.Lists.{set_again, at_map, set_else}
use Rattle.hall.specs.declared.view.View.{View}
use Rattle.hall.specs.declared.view.StepKind.{StepKind}
use Rattle.lock_model.specs.declared.model.Mode.{Mode}
use Rattle.hall.specs.declared.view.Standing.{Standing}
use Rattle.hall.specs.declared.view.Standing.TheVariants.{Away, Inline, Slotted, Undecided, Owing, Upgrade, Exclusive, Announcing}
use Rattle.hall.specs.Cargo.{shared_mode, upgrade_mode, exclusive_mode, CargoSeat, Together, Apart, Compatible, changed_seat}
use Rattle.view_sums.specs.Sums.{total}
use Rattle.hall.specs.Locks.{Tally, weight, count, counts}
use Rattle.hall.specs.Views.{mode_of, standing, place_of, after_step, after_step_at}
use Rattle.hall.specs.Rule.{Formed, AllFormed, AllLawful, cargo_seat}
use Rattle.view_sums.specs.Sums.{term_le, terms_le}
use mathlib.Core.Logic.{dite}
use Rattle.std.proofs.Math.Decide.{dec_lt, dec_le}
use Rattle.hall.specs.declared.view.Shape.{Shape}
use Rattle.hall.proofs.Locking.{gone}

module _ {P : Type 0} where
  pub cargo_quiet_at : (views : List (View P)) (id lock place word : ℕ) (v : View P) (kind : StepKind) (won : Bool) (y : Standing) → get_elem? views id ≡ some v → mode_of y ≡ mode_of (standing v lock)
      → map cargo_seat (set views id (after_step_at v kind lock place word won y v.part)) ≡ map cargo_seat views
  cargo_quiet_at views id lock place word v kind won y at same =
      let w : View P = after_step_at v kind lock place word won y v.part in
      let modes : map mode_of (set v.standings lock y) ≡ map mode_of v.standings = map-set_same mode_of v.standings lock y Away same in
      let seat : cargo_seat w ≡ cargo_seat v = λ i. record { number = v.number; quota = v.quota; modes = modes i; part = v.part } in
      map-set cargo_seat views id w ∙ ap (λ (z : CargoSeat P). set (map cargo_seat views) id z) seat ∙ set_again (map cargo_seat views) id (cargo_seat v) (at_map cargo_seat views id v at)

  pub cargo_quiet : (views : List (View P)) (id lock word : ℕ) (v : View P) (kind : StepKind) (won : Bool) (y : Standing) → get_elem? views id ≡ some v → mode_of y ≡ mode_of (standing v lock)
      → map cargo_seat (set views id (after_step v kind lock word won y v.part)) ≡ map cargo_seat views
  cargo_quiet views id lock word v kind won y at same = cargo_quiet_at views id lock (place_of v lock) word v kind won y at same

  pub cargo_changed_at : (views : List (View P)) (id lock place word : ℕ) (v : View P) (kind : StepKind) (won : Bool) (y : Standing) (m : Option Mode) (part : P) → mode_of y ≡ m
      → map cargo_seat (set views id (after_step_at v kind lock place word won y part)) ≡ set (map cargo_seat views) id (changed_seat (cargo_seat v) lock m part)
  cargo_changed_at views id lock place word v kind won y m part is =
      let w : View P = after_step_at v kind lock place word won y part in
      let modes : map mode_of (set v.standings lock y) ≡ set (map mode_of v.standings) lock m = map-set mode_of v.standings lock y ∙ ap (λ (z : Option Mode). set (map mode_of v.standings) lock z) is in
      let seat : cargo_seat w ≡ changed_seat (cargo_seat v) lock m part = λ i. record { number = v.number; quota = v.quota; modes = modes i; part = part } in
      map-set cargo_seat views id w ∙ ap (λ (z : CargoSeat P). set (map cargo_seat views) id z) seat

  pub cargo_changed : (views : List (View P)) (id lock word : ℕ) (v : View P) (kind : StepKind) (won : Bool) (y : Standing) (m : Option Mode) (part : P) → mode_of y ≡ m
      → map cargo_seat (set views id (after_step v kind lock word won y part)) ≡ set (map cargo_seat views) id (changed_seat (cargo_seat v) lock m part)
  cargo_changed views id lock word v kind won y m part is = cargo_changed_at views id lock (place_of v lock) word v kind won y m part is

  -- the mode of a pass is that of its standing
  pub mode_at : (v : View P) (lock : ℕ) → get_or (cargo_seat v).modes lock None ≡ mode_of (standing v lock)
  mode_at v lock = get_or-map mode_of v.standings lock Away

  -- what each other pass has goes together with the mode m
  pub compatible : (views : List (View P)) (id lock : ℕ) (m : Option Mode) → ((j : ℕ) (u : View P) → get_elem? views j ≡ some u → j ≢ id → Together m (mode_of (standing u lock))) → Compatible (map cargo_seat views) id lock m
  compatible views id lock m each j q e ne = let t = Rattle.view_sums.specs.Sums.map_at cargo_seat views j q e in
      subst (λ (z : CargoSeat P). Together m (get_or z.modes lock None)) t.2 (subst (Together m) (sym (mode_at t.0 lock)) (each j t.0 t.1 ne))

not_exclusive : (x : Standing) → (weight x).exclusive ≤ 0 → Together shared_mode (mode_of x)
not_exclusive x h = elim x as (λ z. (weight z).exclusive ≤ 0 → Together shared_mode (mode_of z)) [
  | Away ↦ λ _. tt
  | Inline ↦ λ _. refl
  | Slotted k ↦ λ _. refl
  | Undecided k ↦ λ _. tt
  | Owing ↦ λ _. tt
  | Upgrade ↦ λ _. refl
  | Exclusive ↦ λ h. absurd (omega arith)
  | Announcing p k f ↦ λ _. elim f as (λ b. Together shared_mode (mode_of (Announcing p k b))) [ true ↦ refl | false ↦ tt ]
] h

is_free : (x : Standing) → (weight x).exclusive + (weight x).shared + (weight x).upgrade + (weight x).plain + (weight x).raised ≤ 0 → Together exclusive_mode (mode_of x)
is_free x h = elim x as (λ z. (weight z).exclusive + (weight z).shared + (weight z).upgrade + (weight z).plain + (weight z).raised ≤ 0 → Together exclusive_mode (mode_of z)) [
  | Away ↦ λ _. tt
  | Inline ↦ λ h. absurd (omega arith)
  | Slotted k ↦ λ h. absurd (omega arith)
  | Undecided k ↦ λ _. tt
  | Owing ↦ λ _. tt
  | Upgrade ↦ λ h. absurd (omega arith)
  | Exclusive ↦ λ h. absurd (omega arith)
  | Announcing p k f ↦ elim f as (λ b. (weight (Announcing p k b)).exclusive + (weight (Announcing p k b)).shared + (weight (Announcing p k b)).upgrade + (weight (Announcing p k b)).plain + (weight (Announcing p k b)).raised ≤ 0 → Together exclusive_mode (mode_of (Announcing p k b))) [ true ↦ λ h. absurd (omega arith) | false ↦ λ h. absurd (omega arith) ]
] h

module _ {P : Type 0} where
  pub reading_fits : (views : List (View P)) (id lock : ℕ) → (counts lock views).exclusive ≡ 0 → Compatible (map cargo_seat views) id lock shared_mode
  reading_fits views id lock none = compatible views id lock shared_mode (λ j u e ne. not_exclusive (standing u lock) (omega (arith, term_le (count (λ t. t.exclusive) lock) views j u e)))

  pub writing_fits : (views : List (View P)) (id lock : ℕ) (v : View P) → get_elem? views id ≡ some v → (let o = counts lock (set views id (gone v)) in o.exclusive + o.shared + o.upgrade + o.plain + o.raised ≡ 0)
      → Compatible (map cargo_seat views) id lock exclusive_mode
  writing_fits views id lock v at none = compatible views id lock exclusive_mode (λ j u e ne. let there : get_elem? (set views id (gone v)) j ≡ some u = set_else views id j (gone v) ne ∙ e in let l = set views id (gone v) in
      is_free (standing u lock) (omega (arith, term_le (count (λ t. t.exclusive) lock) l j u there, term_le (count (λ t. t.shared) lock) l j u there, term_le (count (λ t. t.upgrade) lock) l j u there, term_le (count (λ t. t.plain) lock) l j u there, term_le (count (λ t. t.raised) lock) l j u there)))

fit_upgrading : (y : Standing) → (weight y).exclusive + (weight y).upgrade + (weight y).plain + (weight y).raised ≤ 0 → Together upgrade_mode (mode_of y)
fit_upgrading y h = elim y as (λ z. (weight z).exclusive + (weight z).upgrade + (weight z).plain + (weight z).raised ≤ 0 → Together upgrade_mode (mode_of z)) [
  | Away ↦ λ _. tt
  | Inline ↦ λ _. refl
  | Slotted k ↦ λ _. refl
  | Undecided k ↦ λ _. tt
  | Owing ↦ λ _. tt
  | Upgrade ↦ λ h. absurd (omega arith)
  | Exclusive ↦ λ h. absurd (omega arith)
  | Announcing p k f ↦ elim f as (λ b. (weight (Announcing p k b)).exclusive + (weight (Announcing p k b)).upgrade + (weight (Announcing p k b)).plain + (weight (Announcing p k b)).raised ≤ 0 → Together upgrade_mode (mode_of (Announcing p k b))) [ true ↦ λ h. absurd (omega arith) | false ↦ λ h. absurd (omega arith) ]
] h

module _ {P : Type 0} where
  pub upgrading_fits : (views : List (View P)) (id lock : ℕ) (v : View P) → get_elem? views id ≡ some v → (let o = counts lock (set views id (gone v)) in o.exclusive + o.upgrade + o.plain + o.raised ≡ 0) → Compatible (map cargo_seat views) id lock upgrade_mode
  upgrading_fits views id lock v at none = compatible views id lock upgrade_mode (λ j u e ne. let there : get_elem? (set views id (gone v)) j ≡ some u = set_else views id j (gone v) ne ∙ e in let l = set views id (gone v) in
      fit_upgrading (standing u lock) (omega (arith, term_le (count (λ t. t.exclusive) lock) l j u there, term_le (count (λ t. t.upgrade) lock) l j u there, term_le (count (λ t. t.plain) lock) l j u there, term_le (count (λ t. t.raised) lock) l j u there)))

-- two standings of one lock fit
abbrev Fit : Standing → Standing → Type 0
Fit x y = ((weight x).exclusive + (weight x).upgrade + (weight x).plain + (weight x).raised + ((weight y).exclusive + (weight y).upgrade + (weight y).plain + (weight y).raised) ≤ 1)
    × (1 ≤ (weight x).exclusive + (weight y).exclusive → (weight x).shared + (weight y).shared ≤ 0)

fit_reading : (y : Standing) → (weight y).exclusive ≤ 0 → Together shared_mode (mode_of y)
fit_reading = not_exclusive

shared_first : (y : Standing) → (1 ≤ 0 + (weight y).exclusive → 1 + (weight y).shared ≤ 0) → (weight y).exclusive ≤ 0
shared_first y h = dite (dec_le (weight y).exclusive 0) (λ d. d) (λ no. absurd (omega (arith, h (omega arith))))

fits_two : (x y : Standing) → Fit x y → Together (mode_of x) (mode_of y)
fits_two x y h = elim x as (λ z. Fit z y → Together (mode_of z) (mode_of y)) [
  | Away ↦ λ _. tt
  | Inline ↦ λ h. fit_reading y (shared_first y h.1)
  | Slotted k ↦ λ h. fit_reading y (shared_first y h.1)
  | Undecided k ↦ λ _. tt
  | Owing ↦ λ _. tt
  | Upgrade ↦ λ h. let a = h.0 in fit_upgrading y (omega arith)
  | Exclusive ↦ λ h. let a = h.0 in let b = h.1 (omega arith) in is_free y (omega arith)
  | Announcing p k f ↦ elim f as (λ c. Fit (Announcing p k c) y → Together (mode_of (Announcing p k c)) (mode_of y)) [ true ↦ λ h. let a = h.0 in fit_upgrading y (omega arith) | false ↦ λ _. tt ]
] h

past_end : {A : Type 0} (l : List A) (i : ℕ) (d : A) → length l ≤ i → get_or l i d ≡ d
past_end [] i d h = refl
past_end (x ∷ xs) zero d h = absurd (omega arith)
past_end (x ∷ xs) (suc i) d h = past_end xs i d (omega arith)

module _ {P : Type 0} where
  away_past : (sh : Shape) (v : View P) (lock : ℕ) → Formed sh v → sh.locks ≤ lock → standing v lock ≡ Away
  away_past sh v lock f far = dite (dec_lt 0 v.span) (λ living. past_end v.standings lock Away (let w = f.wide living in omega arith)) (λ dead. ap (λ (l : List Standing). get_or l lock Away) (f.spent (omega arith)).0)

  -- any two passes fit at each lock
  pub all_apart : (sh : Shape) (words : List ℕ) (views : List (View P)) → AllFormed sh views → AllLawful sh words views → Apart (map cargo_seat views)
  all_apart sh words views formed lawful j k q r e f ne lock =
      let v = Rattle.view_sums.specs.Sums.map_at cargo_seat views j q e in let u = Rattle.view_sums.specs.Sums.map_at cargo_seat views k r f in
      let fits : Together (mode_of (standing v.0 lock)) (mode_of (standing u.0 lock)) = dite (dec_lt lock sh.locks)
      (λ below. let l = lawful lock below in let a = l.alone in
      let two : (f : Tally → ℕ) → f (weight (standing v.0 lock)) + f (weight (standing u.0 lock)) ≤ total (count f lock) views = λ f. terms_le (count f lock) views j k v.0 u.0 (λ e. ne (sym e)) v.1 u.1 in
      fits_two (standing v.0 lock) (standing u.0 lock) (omega (arith, two (λ t. t.exclusive), two (λ t. t.upgrade), two (λ t. t.plain), two (λ t. t.raised)), λ some_ex. omega (arith, two (λ t. t.shared), l.nobody (omega (arith, two (λ t. t.exclusive))))))
      (λ past. subst (λ (x : Standing). Together (mode_of x) (mode_of (standing u.0 lock))) (sym (away_past sh v.0 lock (formed j v.0 v.1) (omega arith))) tt) in
      subst (λ (z : CargoSeat P). Together (get_or z.modes lock None) (get_or r.modes lock None)) v.2
      (subst (λ (z : CargoSeat P). Together (get_or (cargo_seat v.0).modes lock None) (get_or z.modes lock None)) u.2
      (subst (λ (m : Option Mode). Together m (get_or (cargo_seat u.0).modes lock None)) (sym (mode_at v.0 lock)) (subst (Together (mode_of (standing v.0 lock))) (sym (mode_at u.0 lock)) fits)))
