-- What all steps at a lock's word have in common.
use Rattle.std.proofs.Common.{Option, None, Bool, ◌≡◌, ℕ, ◌+◌, ◌<◌, ◌≤◌, ◌≢◌, List, map, set, get_or, drop, true, false, ◌&&◌, sym, refl, ap, ◌∙◌, subst, arith, get_or-set_same}
use Rattle.std.proofs.lemmas.List.{set-get_or}
use mathlib.Core.Option.{some}
use lib.ListN.{get_elem?}
use Rattle.atomic_table.specs.Table.{State, Me, Act, stepped, Valid, carried_after}
use Rattle.atomic_table.proofs.Lists.{at_map, set_else}
use Rattle.hall.specs.declared.cargo.CargoRule.{Ghosts}
use Rattle.hall.specs.declared.view.View.{View}
use Rattle.hall.specs.declared.view.Plan.{Plan}
use Rattle.hall.specs.declared.view.Shape.{Shape}
use Rattle.hall.specs.declared.view.StepKind.{StepKind}
use Rattle.hall.specs.declared.view.StepKind.TheVariants.{Hold}
use Rattle.lock_model.specs.declared.model.Mode.{Mode}
use Rattle.hall.specs.declared.view.Standing.{Standing}
use Rattle.hall.specs.declared.view.Standing.TheVariants.{Away}
use Rattle.hall.specs.Cargo.{upgrade_mode, exclusive_mode, Compatible, Lowers}
use Rattle.view_sums.specs.Sums.{total}
use Rattle.state_word.specs.Words.{may_defer_of, units_of}
use Rattle.hall.specs.Locks.{Tally, weight, Lawful, IsSeated, cover, count, counts, named_by}
use Rattle.hall.specs.Views.{pending, is_away, mode_of, standing, place_of, after_step, after_step_at, after_look}
use Rattle.hall.specs.Trails.{is_join, Others}
use Rattle.hall.specs.Rule.{Holds, cargo_seat}
use Rattle.hall.specs.Shows.{all_units, few_tokens, naming_one, room_left}
use Rattle.hall.proofs.Arith.{units}
use Rattle.hall.proofs.Locking.{plus, gone, counts_same, counts_split, no_hands}
use Rattle.hall.proofs.Cargoes.{cargo_quiet, cargo_quiet_at, cargo_changed, cargo_changed_at, mode_at}
use Rattle.hall.proofs.Keeps.{kept, total_lighter}
use Rattle.hall.proofs.Slots.{Done, swept_done}
use Rattle.view_sums.specs.Sums.{total-set, term_le}

pub true_false : true ≡ false → ⊥
true_false e = cc

module _ {C P : Type 0} (g : Ghosts C P) (plan : Plan C) where
  abbrev pub St : Type 0
  St = State (Unit {0}) (View P)

  abbrev pub Sat : Type 0
  Sat = Me (Unit {0}) (View P)

  abbrev pub Goes : St → ℕ → ℕ → Sat → (ℕ → Sat → Type 0) → ℕ → Type 0
  Goes s i id me then x = (w : View P) × (a : Act (Unit {0})) × Valid s.homes me.1 a × Holds g plan (stepped s i x id me.1 w a) × then (get_or s.words i 0) (w, carried_after me.1 a)

  -- a step that changes nothing but the steps and the trail
  pub quiet : (s : St) (h : Holds g plan s) (id lock : ℕ) (v : View P) (kind : StepKind) → get_elem? s.views id ≡ some v → 0 < v.span → lock < plan.shape.locks → is_join kind ≡ false
      → (kind ≡ Hold → units_of (get_or s.words (plan.shape.slots + lock) 0) ≢ 0 → Others s.views lock v.number)
      → Holds g plan record { words = set s.words (plan.shape.slots + lock) (get_or s.words (plan.shape.slots + lock) 0); homes = s.homes; views = set s.views id (after_look v kind lock (get_or s.words (plan.shape.slots + lock) 0)) }
  quiet s h id lock v kind at lives near steps held =
      let x : ℕ = get_or s.words (plan.shape.slots + lock) 0 in
      let same : standing (after_look v kind lock x) lock ≡ standing v lock = ap (λ (l : List Standing). get_or l lock Away) (set-get_or v.standings lock Away) in
      kept g plan s h id lock x v kind false (standing v lock) v.part at lives near steps (λ _. refl) (λ ne. absurd (ne refl)) (λ is _ count. held is count)
      (subst (Lawful x (named_by plan.shape.slots lock s.words)) (sym (counts_same s.views id lock v (after_look v kind lock x) at same)) (h.lawful lock near))
      (λ k ns old new inside is sum le. let c : cover k (standing (after_look v kind lock x) lock) ≡ cover k (standing v lock) = ap (cover k) same in omega (arith, c, sum, le))
      ((h.formed id v at).seated lock)
      (subst (λ (l : List Standing). total pending l ≤ 1) (sym (set-get_or v.standings lock Away)) (h.formed id v at).one_pending)
      (subst (g.holds plan.cargo (drop (plan.shape.slots + plan.shape.locks) s.words)) (sym (cargo_quiet s.views id lock x v kind false (standing v lock) at refl)) h.cargo)

  -- of two words of locks that are one, one lock
  pub one_lock : (v : View P) (lock k : ℕ) → v.shape ≡ plan.shape → plan.shape.slots + lock ≡ v.shape.slots + k → lock ≡ k
  one_lock v lock k is e = let same : v.shape.slots ≡ plan.shape.slots = ap (λ (z : Shape). z.slots) is in omega arith

  -- so few units are at a lock
  pub few_units : (s : St) (h : Holds g plan s) (id lock : ℕ) (v : View P) → get_elem? s.views id ≡ some v → units (counts lock (set s.views id (gone v))) < 1073741824
  few_units s h id lock v at =
      let part : (f : Tally → ℕ) → f (weight Away) ≡ 0 → total (count f lock) (set s.views id (gone v)) ≤ total (count f lock) s.views = λ f z. omega (arith, total-set (count f lock) s.views id v (gone v) at) in
      omega (arith, part (λ t. t.shared) refl, part (λ t. t.undecided) refl, part (λ t. t.owing) refl, all_units g plan s h lock)

  -- a word that a step finds has room for one more reader
  pub roomy : (s : St) (h : Holds g plan s) (lock : ℕ) → lock < plan.shape.locks → get_or s.words (plan.shape.slots + lock) 0 < 18446744073709551616 → units_of (get_or s.words (plan.shape.slots + lock) 0) ≢ 2147483647
  roomy s h lock near fits = let l = h.lawful lock near in room_left (get_or s.words (plan.shape.slots + lock) 0) (named_by plan.shape.slots lock s.words) (counts lock s.views) l (all_units g plan s h lock) (few_tokens g plan s h lock near)

  -- the tokens that name the lock, where readers don't defer, nobody else is announced, and this pass has looked at every slot
  pub few_named : (s : St) (h : Holds g plan s) (id lock : ℕ) (v : View P) → get_elem? s.views id ≡ some v → lock < plan.shape.locks → may_defer_of (get_or s.words (plan.shape.slots + lock) 0) ≡ 0
      → (let o = counts lock (set s.views id (gone v)) in o.plain + o.raised ≡ 0) → Done plan.shape.slots (standing v lock)
      → named_by plan.shape.slots lock s.words ≤ (counts lock (set s.views id (gone v))).undecided + (weight (standing v lock)).undecided
  few_named s h id lock v at near clear none looked =
      let l : List (View P) = set s.views id (gone v) in
      let split : total (count (λ t. t.undecided) lock) s.views ≡ (counts lock l).undecided + (weight (standing v lock)).undecided = ap (λ (t : Tally). t.undecided) (counts_split s.views id lock v v at).0 in
      omega (
        arith,
        split,
        swept_done plan.shape.slots lock s.words s.views id v at (h.swept lock near) clear looked
            (λ j u e ne. let there : get_elem? l j ≡ some u = set_else s.views id j (gone v) ne ∙ e in omega (arith, term_le (count (λ t. t.plain) lock) l j u there, term_le (count (λ t. t.raised) lock) l j u there, none)),
      )

  -- a step that leaves the standing y at its lock: left to it are the counts there, the slots that are covered, and the cargo
  pub changes : (s : St) (h : Holds g plan s) (id lock new : ℕ) (v : View P) (kind : StepKind) (y : Standing) (part : P) → get_elem? s.views id ≡ some v → 0 < v.span → lock < plan.shape.locks → is_join kind ≡ false → is_away (standing v lock) && is_away y ≡ false
      → ((named : ℕ) (o : Tally) → (o.plain + o.raised ≡ 0 → o.hand ≡ 0) → units o < 1073741824
      → (may_defer_of (get_or s.words (plan.shape.slots + lock) 0) ≡ 0 → o.plain + o.raised ≡ 0 → Done plan.shape.slots (standing v lock) → named ≤ o.undecided + (weight (standing v lock)).undecided)
      → Lawful (get_or s.words (plan.shape.slots + lock) 0) named (plus o (weight (standing v lock))) → Lawful new named (plus o (weight y)))
      → ((k ns old cov : ℕ) → k < plan.shape.slots → ns ≤ 1 → cov + cover k (standing v lock) ≡ old + cover k y → ns ≤ may_defer_of (get_or s.words (plan.shape.slots + lock) 0) + old → ns ≤ may_defer_of new + cov)
      → IsSeated plan.shape.slots y → pending y ≡ 0
      → g.holds plan.cargo (drop (plan.shape.slots + plan.shape.locks) s.words) (map cargo_seat (set s.views id (after_step v kind lock (get_or s.words (plan.shape.slots + lock) 0) true y part)))
      → Holds g plan record { words = set s.words (plan.shape.slots + lock) new; homes = s.homes; views = set s.views id (after_step v kind lock (get_or s.words (plan.shape.slots + lock) 0) true y part) }
  changes s h id lock new v kind y part at lives near steps there turns sweeps seat calm loads =
      let word : ℕ = get_or s.words (plan.shape.slots + lock) 0 in let named : ℕ = named_by plan.shape.slots lock s.words in
      let w : View P = after_step v kind lock word true y part in let o : Tally = counts lock (set s.views id (gone v)) in let split = counts_split s.views id lock v w at in
      let here : standing w lock ≡ y = let f = h.formed id v at in get_or-set_same v.standings lock y Away (subst (λ (k : ℕ). lock < k) (sym (f.wide lives)) near) in
      let now : Lawful new named (plus o (weight y)) = turns named o (no_hands (set s.views id (gone v)) lock) (few_units s h id lock v at) (few_named s h id lock v at near) (subst (Lawful word named) split.0 (h.lawful lock near)) in
      kept g plan s h id lock new v kind true y part at lives near steps (λ e. absurd (true_false e)) (λ _. there) (λ _ e. absurd (true_false e)) (subst (Lawful new named) (sym (split.1 ∙ ap (λ (x : Standing). plus o (weight x)) here)) now)
      (λ k ns old cov inside is sum le.
      let c : cover k (standing w lock) ≡ cover k y = ap (cover k) here in
      sweeps k ns old cov inside (omega (arith, is, naming_one lock (get_or s.words k 0))) (omega (arith, c, sum)) le)
      seat (omega (arith, total_lighter pending v.standings lock y calm, (h.formed id v at).one_pending)) loads

  -- the cargo where a mode is gained
  pub gains_at : (s : St) (h : Holds g plan s) (id lock place word : ℕ) (v : View P) (kind : StepKind) (won : Bool) (y : Standing) (m : Option Mode) → get_elem? s.views id ≡ some v → mode_of (standing v lock) ≡ None → mode_of y ≡ m → m ≢ None → Compatible (map cargo_seat s.views) id lock m
      → (part : P) × g.gains lock (drop (plan.shape.slots + plan.shape.locks) s.words) v.part part
      × g.holds plan.cargo (drop (plan.shape.slots + plan.shape.locks) s.words) (map cargo_seat (set s.views id (after_step_at v kind lock place word won y part)))
  gains_at s h id lock place word v kind won y m at free is some' fits =
      let ws : List ℕ = drop (plan.shape.slots + plan.shape.locks) s.words in
      let t = g.gain_keeps plan.cargo ws (map cargo_seat s.views) id lock m (cargo_seat v) h.cargo (at_map cargo_seat s.views id v at) (mode_at v lock ∙ free) some' fits in
      (t.0, t.1, subst (g.holds plan.cargo ws) (sym (cargo_changed_at s.views id lock place word v kind won y m t.0 is)) t.2)

  pub gains : (s : St) (h : Holds g plan s) (id lock word : ℕ) (v : View P) (kind : StepKind) (y : Standing) (m : Option Mode) → get_elem? s.views id ≡ some v → mode_of (standing v lock) ≡ None → mode_of y ≡ m → m ≢ None → Compatible (map cargo_seat s.views) id lock m
      → (part : P) × g.gains lock (drop (plan.shape.slots + plan.shape.locks) s.words) v.part part
      × g.holds plan.cargo (drop (plan.shape.slots + plan.shape.locks) s.words) (map cargo_seat (set s.views id (after_step v kind lock word true y part)))
  gains s h id lock word v kind y m at free is some' fits = gains_at s h id lock (place_of v lock) word v kind true y m at free is some' fits

  -- the cargo where upgrade is raised to exclusive
  pub raises : (s : St) (h : Holds g plan s) (id lock word : ℕ) (v : View P) (kind : StepKind) (y : Standing) → get_elem? s.views id ≡ some v → mode_of (standing v lock) ≡ upgrade_mode → mode_of y ≡ exclusive_mode → Compatible (map cargo_seat s.views) id lock exclusive_mode
      → g.holds plan.cargo (drop (plan.shape.slots + plan.shape.locks) s.words) (map cargo_seat (set s.views id (after_step v kind lock word true y v.part)))
  raises s h id lock word v kind y at was is fits =
      let ws : List ℕ = drop (plan.shape.slots + plan.shape.locks) s.words in
      subst (g.holds plan.cargo ws) (sym (cargo_changed s.views id lock word v kind true y exclusive_mode v.part is))
      (g.raise_keeps plan.cargo ws (map cargo_seat s.views) id lock (cargo_seat v) h.cargo (at_map cargo_seat s.views id v at) (mode_at v lock ∙ was) fits)

  -- the cargo where a mode is lost
  pub loses_at : (s : St) (h : Holds g plan s) (id lock place word : ℕ) (v : View P) (kind : StepKind) (won : Bool) (y : Standing) (m : Option Mode) → get_elem? s.views id ≡ some v → mode_of y ≡ m → Lowers (mode_of (standing v lock)) m → (mode_of (standing v lock) ≡ exclusive_mode → g.settled lock v.part)
      → g.holds plan.cargo (drop (plan.shape.slots + plan.shape.locks) s.words) (map cargo_seat (set s.views id (after_step_at v kind lock place word won y (g.lowered lock m v.part))))
  loses_at s h id lock place word v kind won y m at is down calm =
      let ws : List ℕ = drop (plan.shape.slots + plan.shape.locks) s.words in
      subst (g.holds plan.cargo ws) (sym (cargo_changed_at s.views id lock place word v kind won y m (g.lowered lock m v.part) is))
      (g.lower_keeps plan.cargo ws (map cargo_seat s.views) id lock m (cargo_seat v) h.cargo (at_map cargo_seat s.views id v at) (subst (λ (z : Option Mode). Lowers z m) (sym (mode_at v lock)) down) (λ e. calm (sym (mode_at v lock) ∙ e)))

  pub loses : (s : St) (h : Holds g plan s) (id lock word : ℕ) (v : View P) (kind : StepKind) (y : Standing) (m : Option Mode) → get_elem? s.views id ≡ some v → mode_of y ≡ m → Lowers (mode_of (standing v lock)) m → (mode_of (standing v lock) ≡ exclusive_mode → g.settled lock v.part)
      → g.holds plan.cargo (drop (plan.shape.slots + plan.shape.locks) s.words) (map cargo_seat (set s.views id (after_step v kind lock word true y (g.lowered lock m v.part))))
  loses s h id lock word v kind y m at is down calm = loses_at s h id lock (place_of v lock) word v kind true y m at is down calm

  -- the cargo where no mode is gained or lost
  pub rests_at : (s : St) (h : Holds g plan s) (id lock place word : ℕ) (v : View P) (kind : StepKind) (won : Bool) (y : Standing) → get_elem? s.views id ≡ some v → mode_of y ≡ mode_of (standing v lock)
      → g.holds plan.cargo (drop (plan.shape.slots + plan.shape.locks) s.words) (map cargo_seat (set s.views id (after_step_at v kind lock place word won y v.part)))
  rests_at s h id lock place word v kind won y at same = subst (g.holds plan.cargo (drop (plan.shape.slots + plan.shape.locks) s.words)) (sym (cargo_quiet_at s.views id lock place word v kind won y at same)) h.cargo

  pub rests : (s : St) (h : Holds g plan s) (id lock word : ℕ) (v : View P) (kind : StepKind) (y : Standing) → get_elem? s.views id ≡ some v → mode_of y ≡ mode_of (standing v lock)
      → g.holds plan.cargo (drop (plan.shape.slots + plan.shape.locks) s.words) (map cargo_seat (set s.views id (after_step v kind lock word true y v.part)))
  rests s h id lock word v kind y at same = rests_at s h id lock (place_of v lock) word v kind true y at same
