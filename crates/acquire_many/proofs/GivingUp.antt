-- A try that was refused after others had won.
use Rattle.std.specs.Prelude.{◌≡◌, ◌≢◌, ℕ, ◌<◌, ◌≤◌, List, length, slice_index_or, Option, Some, None}
use Rattle.std.proofs.Common.{sym, ap, ◌∙◌, subst, ⊎_elim, arith}
use Rattle.std.proofs.lemmas.Bool.{cases_lt, cases_eq}
use Rattle.hall.specs.declared.cargo.CargoRule.{Ghosts}
use Rattle.hall.specs.declared.guards.TryFault.{TryFault}
use Rattle.hall.specs.declared.view.Shape.{Shape}
use Rattle.hall.specs.declared.view.Standing.TheVariants as stand
use Rattle.hall.specs.declared.view.View.{View}
use Rattle.hall.specs.Calls.{ElsewhereSame}
use Rattle.hall.specs.Treading.{treads_as, treads_then}
use Rattle.hall.specs.Views.{standing}
use Rattle.acquire_many.specs.Guards.{Fit}
use Rattle.acquire_many.specs.Met.{IsFor, IsForAny, Refuses, Takes}
use Rattle.acquire_many.specs.MetLaws.{refuses_part, refuses_treads}
use Rattle.acquire_many.specs.Took.{GaveFirst, GaveUp, IsForHeld, TookBelow}
use Rattle.acquire_many.specs.Wants.{AreApart, Hold, IsLeast, Want, lock_at, want_at}
use Rattle.acquire_many.specs.declared.guards.How.TheVariants as hows
use Rattle.acquire_many.proofs.Taking.{of_below}
use Rattle.acquire_many.specs.declared.guards.TheConstants.{MANY}

module _ {C P : Type 0} (g : Ghosts C P) (wants : List Want) (shape : Shape) (v u z : View P) (from k : ℕ) (holds : List (Option Hold)) (fault : TryFault)
    (least : IsLeast wants from k) (t : TookBelow g (Takes g) wants shape from v holds u) (refused : Refuses g u (want_at wants k) z fault) (elsewhere : ElsewhereSame u z (lock_at wants k)) where
  -- each hold is of a want with a lower lock
  of_want : (j : ℕ) (x : Hold) → slice_index_or holds j None ≡ Some x → (j < length wants) × (lock_at wants j < from) × (x.0 ≡ lock_at wants j)
  of_want j x at = let is = of_below wants from holds t.held j x at in (is.0, is.1, ap (λ (q : Want). q.0) is.2)

  -- what was taken before can be given back
  pub fit_below : AreApart wants → Fit shape z holds
  fit_below apart = record {
    each = λ j x at. let is = of_want j x at in let f = t.stands j x at in (f.0, elsewhere x.0 (λ e. absurd (omega (arith, is.1, is.2, e, least.1))) ∙ f.1, f.2);
    apart = λ i j x y at_i at_j ne same.
        let a = of_want i x at_i in let b = of_want j y at_j in let e : lock_at wants i ≡ lock_at wants j = sym a.2 ∙ same ∙ b.2 in
        ⊎_elim (λ lt. absurd (apart j b.0 (i, lt, e))) (λ ge. absurd (apart i a.0 (j, omega (arith, ge, ne), sym e))) (cases_lt i j);
  }

  same_part : z.part ≡ u.part
  same_part = refuses_part g u z (want_at wants k) fault refused

  pub settled_below : (j : ℕ) (x : Hold) → slice_index_or holds j None ≡ Some x → x.1 ≡ hows.Exclusive → g.settled x.0 z.part
  settled_below j x at exclusive = let is = of_want j x at in
      subst (λ (p : P). g.settled x.0 p) (sym same_part) (subst (λ (l : ℕ). g.settled l u.part) (sym is.2) (t.settled j is.0 is.1))

  module _ (w : View P) (gave : GaveFirst g holds z MANY w) (was_away : (j : ℕ) → j < length wants → standing v (lock_at wants j) ≡ stand.Away) (away : standing z (lock_at wants k) ≡ stand.Away) where
    lower : (j : ℕ) → j < length wants → lock_at wants j < lock_at wants k → lock_at wants j < from
    lower j near low = ⊎_elim (λ lt. lt) (λ ge. absurd (omega (arith, low, least.2 j near ge))) (cases_lt (lock_at wants j) from)

    -- a lock from `from` on was taken by none of the tries
    not_taken : (lock : ℕ) → from ≤ lock → (j : ℕ) (x : Hold) → j < MANY → slice_index_or holds j None ≡ Some x → x.0 ≢ lock
    not_taken lock high j x few at e = let is = of_want j x at in absurd (omega (arith, high, e, is.1, is.2))

    left : length wants ≤ MANY → (j : ℕ) → j < length wants → standing w (lock_at wants j) ≡ stand.Away
    left room j near = ⊎_elim (λ low. given low) (λ high. gave.elsewhere (lock_at wants j) (not_taken (lock_at wants j) high) ∙ still high) (cases_lt (lock_at wants j) from)
      where
        still : from ≤ lock_at wants j → standing z (lock_at wants j) ≡ stand.Away
        still high = ⊎_elim (λ e. subst (λ (l : ℕ). standing z l ≡ stand.Away) (sym e) away)
            (λ ne. elsewhere (lock_at wants j) ne ∙ t.elsewhere (lock_at wants j) (λ i near_i low e. absurd (omega (arith, low, e, high))) ∙ was_away j near) (cases_eq (lock_at wants j) (lock_at wants k))

        given : lock_at wants j < from → standing w (lock_at wants j) ≡ stand.Away
        given low = let is = t.held.held j near low in ⊎_elim (λ few. subst (λ (q : Want). standing w q.0 ≡ stand.Away) is.2 (gave.away j is.0 few is.1)) (λ many. absurd (omega (arith, many, room, near))) (cases_lt j MANY)

    pub gave_up : length wants ≤ MANY → GaveUp g wants v k fault w
    gave_up few = record {
      near = least.0;
      order = t.order;
      sorted = record { here = λ j near low. t.sorted.here j near (lower j near low); there = λ j has. let is = t.sorted.there j has in (is.0, omega (arith, is.1, least.1)); falls = t.sorted.falls };
      before = u;
      taken = t.met;
      after = z;
      refused = refused;
      holds = holds;
      held = record { held = λ j near low. t.held.held j near (lower j near low); others = λ j high. t.held.others j (λ near. omega (arith, high near, least.1)) };
      returned = gave.returned;
      away = left few;
      elsewhere = λ lock aside. gave.elsewhere lock (λ j x low at e. let is = of_want j x at in aside j is.0 (sym is.2 ∙ e)) ∙ elsewhere lock (λ e. aside k least.0 (sym e)) ∙ t.elsewhere lock (λ j near low. aside j near);
      trail = treads_then (IsForAny wants) v u w t.trail (treads_then (IsForAny wants) u z w (treads_as (IsFor (want_at wants k)) (IsForAny wants) u z (λ m is. (k, least.0, is)) (refuses_treads g u z (want_at wants k) fault at_u refused))
          (treads_as (IsForHeld g holds) (IsForAny wants) z w (λ m is. let its = of_below wants from holds t.held is.0 is.1 is.2 in (is.0, its.0, subst (λ (y : Want). IsFor y m) its.2 is.3)) gave.trail));
      others = λ lock aside was. gave.others lock (λ j x low at e. let is = of_want j x at in aside j is.0 (sym is.2 ∙ e)) (subst (λ (p : P). g.settled lock p) (sym same_part) (t.others lock aside was));
    }
      where
        at_u : standing u (lock_at wants k) ≡ stand.Away
        at_u = t.elsewhere (lock_at wants k) (λ j near low e. absurd (omega (arith, low, e, least.1))) ∙ was_away k least.0
