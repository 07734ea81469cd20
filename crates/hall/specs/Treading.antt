-- What steps add to a pass's trail.
use Rattle.std.specs.Prelude.{◌≡◌, ◌⊎◌, ℕ, Bool, true, false, cond, ◌&&◌, ◌||◌, List, [], ◌∷◌, ◌++◌}
use Rattle.std.proofs.Common.{arith, refl, sym, ap, ◌∙◌, subst, ⊎_elim, append_assoc, inl, inr}
use mathlib.Core.Option.{some}
use mathlib.Core.Logic.{dite}
use native.Mathlib.Decide.{ℕ_discrete}
use lib.ListN.{get_elem?}
use Rattle.atomic_table.specs.Table.{State}
use Rattle.view_sums.specs.Sums.{one_there, terms_le}
use Rattle.hall.specs.declared.cargo.CargoRule.{Ghosts}
use Rattle.hall.specs.declared.view.Plan.{Plan}
use Rattle.hall.specs.Numbers.{width}
use Rattle.hall.specs.Rule.{Holds}
use Rattle.hall.specs.Trails.{IsTrodden}
use Rattle.lock_model.specs.Locks.{Has}
use Rattle.hall.specs.declared.view.View.{View}
use Rattle.hall.specs.declared.view.StepKind.{StepKind}
use Rattle.hall.specs.declared.view.Footprint.{Footprint}
use Rattle.hall.specs.declared.view.Standing.{Standing}
use Rattle.hall.specs.Views.{after_step, after_step_at, footprint, footprints_left, is_away, is_strong, place_of, standing}

-- a footprint at this lock
abbrev pub IsAt : ℕ → Footprint → Type 0
IsAt lock m = m.lock ≡ lock

-- and no strong one
abbrev pub IsWeakAt : ℕ → Footprint → Type 0
IsWeakAt lock m = (m.lock ≡ lock) × (m.strong ≡ false)

-- one that is strong only where one of these standings is
abbrev pub IsBetween : ℕ → Standing → Standing → Footprint → Type 0
IsBetween lock x y m = (m.lock ≡ lock) × (m.strong ≡ true → (is_strong x || is_strong y) ≡ true)

module _ {P : Type 0} where
  -- the pass kept its number, and its trail only grew, by such footprints, which have that number
  pub record Treads (may : Footprint → Type 0) (v w : View P) : Type 0 where
    pub number : w.number ≡ v.number
    pub added : List Footprint
    pub stand : w.trail ≡ added ++ v.trail
    pub each : (m : Footprint) → Has added m → (m.number ≡ v.number) × may m

-- of two lists in a row, one has what both have
pub has_either : {A : Type 0} (xs ys : List A) (a : A) → Has (xs ++ ys) a → Has xs a ⊎ Has ys a
has_either [] ys a h = inr h
has_either (x ∷ xs) ys a h = ⊎_elim (λ e. inl (inl e)) (λ t. ⊎_elim (λ l. inl (inr l)) (λ r. inr r) (has_either xs ys a t)) h

-- the footprint of one step
left_by : (n lock : ℕ) (none strong : Bool) (m : Footprint) → Has (cond none [] (footprint n lock strong ∷ [])) m → (m.number ≡ n) × (m.lock ≡ lock) × (m.strong ≡ strong)
left_by n lock true strong m has = absurd has
left_by n lock false strong m has = ⊎_elim (λ e. (ap (λ (f : Footprint). f.number) e, ap (λ (f : Footprint). f.lock) e, ap (λ (f : Footprint). f.strong) e)) (λ (none : ⊥). absurd none) has

module _ {P : Type 0} where
  pub treads_none : (may : Footprint → Type 0) (v w : View P) → w.number ≡ v.number → w.trail ≡ v.trail → Treads may v w
  treads_none may v w same still = record { number = same; added = []; stand = still; each = λ m none. absurd none }

  pub treads_then : (may : Footprint → Type 0) (v u w : View P) → Treads may v u → Treads may u w → Treads may v w
  treads_then may v u w a b = record {
    number = b.number ∙ a.number;
    added = b.added ++ a.added;
    stand = b.stand ∙ ap (λ (l : List Footprint). b.added ++ l) a.stand ∙ sym (append_assoc b.added a.added v.trail);
    each = λ m has. ⊎_elim (λ l. let is = b.each m l in (is.0 ∙ a.number, is.1)) (λ r. a.each m r) (has_either b.added a.added m has);
  }

  pub treads_as : (may so : Footprint → Type 0) (v w : View P) → ((m : Footprint) → may m → so m) → Treads may v w → Treads so v w
  treads_as may so v w as_so t = record { number = t.number; added = t.added; stand = t.stand; each = λ m has. let is = t.each m has in (is.0, as_so m is.1) }

  -- one step for a lock, from one standing to another, on the word at a place of the table
  pub treads_step_at : (v w : View P) (kind : StepKind) (lock place word : ℕ) (won : Bool) (y : Standing) (part : P) → w ≡ after_step_at v kind lock place word won y part → Treads (IsBetween lock (standing v lock) y) v w
  treads_step_at v w kind lock place word won y part is = record {
    number = ap (λ (z : View P). z.number) is;
    added = footprints_left v.number lock (standing v lock) y;
    stand = ap (λ (z : View P). z.trail) is;
    each = λ m has.
        let by = left_by v.number lock (is_away (standing v lock) && is_away y) (is_strong (standing v lock) || is_strong y) m has in
        (by.0, (by.1, λ strong. sym by.2 ∙ strong));
  }

  -- and on the lock's own word
  pub treads_step : (v w : View P) (kind : StepKind) (lock word : ℕ) (won : Bool) (y : Standing) (part : P) → w ≡ after_step v kind lock word won y part → Treads (IsBetween lock (standing v lock) y) v w
  treads_step v w kind lock word won y part is = treads_step_at v w kind lock (place_of v lock) word won y part is

-- where neither standing is strong, a footprint between them is weak
weak_bool : (b s : Bool) → s ≡ false → (b ≡ true → s ≡ true) → b ≡ false
weak_bool true s weak only = absurd (no_both s weak (only refl))
  where
    no_both : (s : Bool) → s ≡ false → s ≡ true → ⊥
    no_both s f t = absurd (cc)
weak_bool false s weak only = refl

pub weak_between : (lock : ℕ) (x y : Standing) (m : Footprint) → (is_strong x || is_strong y) ≡ false → IsBetween lock x y m → IsWeakAt lock m
weak_between lock x y m weak is = (is.0, weak_bool m.strong (is_strong x || is_strong y) weak is.1)

-- the trail of a pass that covers all numbers has every footprint
module _ {C P : Type 0} (g : Ghosts C P) where
  pub all_trodden : (plan : Plan C) (s : State (Unit {0}) (View P)) (id : ℕ) (v : View P) → Holds g plan s → get_elem? s.views id ≡ some v → width v ≡ plan.shape.seats
      → (m : Footprint) → IsTrodden s.views m → Has v.trail m
  all_trodden plan s id v holds at whole m trod =
      dite (ℕ_discrete trod.0 id)
      (λ e. subst (λ (u : View P). Has u.trail m) (one_there s.views id trod.1 v (subst (λ j. get_elem? s.views j ≡ some trod.1) e trod.2) at) trod.3)
      (λ ne.
      let alive = (holds.trailed.trodden trod.0 trod.1 trod.2 m trod.3).0 in
      let both = terms_le width s.views id trod.0 v trod.1 ne at trod.2 in
      let all = holds.numbered.all in
      absurd (omega (arith, alive, both, all, whole)))
