-- The steps of the table that make the steps of deferred readers and of a sweep.
use Rattle.std.proofs.Common.{◌≡◌, ℕ, ◌+◌, ◌*◌, ◌%◌, ◌^◌, ◌<◌, Bool, true, false, eqb, None, get_or, set, sym, refl, subst, arith, length-set}
use mathlib.Core.Logic.{dite}
use native.Mathlib.Decide.{ℕ_discrete}
use mathlib.Core.Option.{none}
use prog.Atomic.{either}
use Rattle.atomic_table.specs.Table.{Me, step, keeps, Allows}
use Rattle.atomic_table.proofs.Lists.{exchanged}
use Rattle.state_word.specs.Words.{may_defer_of}
use Rattle.hall.specs.declared.cargo.CargoRule.{Ghosts}
use Rattle.hall.specs.declared.view.View.{View}
use Rattle.hall.specs.declared.view.Plan.{Plan}
use Rattle.hall.specs.declared.view.StepKind.{StepKind}
use Rattle.hall.specs.declared.view.StepKind.TheVariants as kinds
use Rattle.hall.specs.declared.view.Standing.{Standing}
use Rattle.hall.specs.declared.view.Standing.TheVariants.{Away, Inline, Slotted, Undecided, Owing, Announcing}
use Rattle.hall.specs.Views.{standing, after_step_at}
use Rattle.hall.specs.Plays.{Same, At}
use Rattle.hall.specs.Slotting.{HasNonePending, moved_on, picked, handless, looked, PlacedAt, ClearedAt, LookedAt, PlacesToken, FindsTaken, Checks, Withdraws, Owes, LeavesSlot, IsInline, LooksAtSlot, PicksToken, FindsCleared, AddsHand}
use Rattle.hall.specs.Rule.{Holds}
use Rattle.hall.proofs.Steps.{Goes}
use Rattle.hall.proofs.Allowing.{same, told}
use Rattle.hall.proofs.SlotEvents.{placed, found_taken, checked, withdrawn, owing, left_slot, inlined, looked_at, picked_up, found_cleared, added_hand}

module _ {C P : Type 0} (g : Ghosts C P) (plan : Plan C) (n id : ℕ) (me : Me (Unit {0}) (View P)) (lock slot i : ℕ) (is : i ≡ slot) (shape : me.0.shape ≡ plan.shape) (lives : 0 < me.0.span) (near : lock < plan.shape.locks) (inside : slot < plan.shape.slots) where
  same_at : (w : View P) (kind : StepKind) (x : ℕ) (won : Bool) (y : Standing) (part : P) → w ≡ after_step_at me.0 kind lock slot x won y part → Same me (w, me.1)
  same_at w kind x won y part e = subst (λ (z : View P). Same me (z, me.1)) (sym e) (refl, refl, refl, refl, refl, length-set me.0.standings lock y)

  -- a fact of this lock is one of the lock that the step names
  names : (F : View P → ℕ → ℕ → ℕ → View P → Type 0) (x : ℕ) (w : View P) → F me.0 lock slot x w → (k : ℕ) → lock + 1 ≡ k + 1 → F me.0 k slot x w
  names F x w f k e = let one : lock ≡ k = omega arith in subst (λ (j : ℕ). F me.0 j slot x w) one f

  pub places : standing me.0 lock ≡ Away → HasNonePending me.0 → Allows (Holds g plan) n id me i (λ x. either (eqb x 0) (lock + 1) x) (PlacedAt (PlacesToken g) (FindsTaken g) (step n i 0 (lock + 1) none) me)
  places away clear = let F : ℕ → Type 0 = λ i. Allows (Holds g plan) n id me i (λ x. either (eqb x 0) (lock + 1) x) (PlacedAt (PlacesToken g) (FindsTaken g) (step n i 0 (lock + 1) none) me) in
      subst F (sym is) (λ s h wide at fits. let x : ℕ = get_or s.words slot 0 in
      exchanged x 0 (lock + 1) (Goes g plan s slot id me (PlacedAt (PlacesToken g) (FindsTaken g) (step n slot 0 (lock + 1) none) me))
      (λ hit. let t = placed g plan s h id lock me.0 at lives shape near slot inside away clear hit in (
        t.0,
        keeps,
        tt,
        t.1,
        (same_at t.0 kinds.PlaceSlot 0 true (Undecided slot) me.0.part t.2.0, λ k e. ((λ _. names (PlacesToken g) x t.0 t.2 k e), λ ne. absurd (ne hit))),
      ))
      (λ miss. let t = found_taken g plan s h id lock me.0 at lives shape near slot inside in (
        t.0,
        keeps,
        tt,
        t.1,
        (same_at t.0 kinds.PlaceSlot x false (standing me.0 lock) me.0.part t.2.0, λ k e. ((λ hit. absurd (miss hit)), λ _. names (FindsTaken g) x t.0 t.2 k e)),
      )))

  pub withdraws : standing me.0 lock ≡ Undecided slot → Allows (Holds g plan) n id me i (λ x. either (eqb x (lock + 1)) 0 x) (ClearedAt (Withdraws g) (Owes g) (step n i (lock + 1) 0 none) me)
  withdraws st = let F : ℕ → Type 0 = λ i. Allows (Holds g plan) n id me i (λ x. either (eqb x (lock + 1)) 0 x) (ClearedAt (Withdraws g) (Owes g) (step n i (lock + 1) 0 none) me) in
      subst F (sym is) (λ s h wide at fits. let x : ℕ = get_or s.words slot 0 in
      exchanged x (lock + 1) 0 (Goes g plan s slot id me (ClearedAt (Withdraws g) (Owes g) (step n slot (lock + 1) 0 none) me))
      (λ hit. let t = withdrawn g plan s h id lock me.0 at lives shape near slot inside st hit in (
        t.0,
        keeps,
        tt,
        t.1,
        (same_at t.0 kinds.WithdrawSlot (lock + 1) true Away me.0.part t.2.0, λ k e. ((λ _. names (Withdraws g) x t.0 t.2 k e), λ ne. absurd (ne hit))),
      ))
      (λ miss. let t = owing g plan s h id lock me.0 at lives shape near slot inside st miss in (
        t.0,
        keeps,
        tt,
        t.1,
        (same_at t.0 kinds.WithdrawSlot x false Owing me.0.part t.2.0, λ k e. ((λ hit. absurd (miss hit)), λ _. names (Owes g) x t.0 t.2 k e)),
      )))

  pub leaves : standing me.0 lock ≡ Slotted slot → Allows (Holds g plan) n id me i (λ x. either (eqb x (lock + 1)) 0 x) (ClearedAt (LeavesSlot g) (IsInline g) (step n i (lock + 1) 0 none) me)
  leaves st = let F : ℕ → Type 0 = λ i. Allows (Holds g plan) n id me i (λ x. either (eqb x (lock + 1)) 0 x) (ClearedAt (LeavesSlot g) (IsInline g) (step n i (lock + 1) 0 none) me) in
      subst F (sym is) (λ s h wide at fits. let x : ℕ = get_or s.words slot 0 in
      exchanged x (lock + 1) 0 (Goes g plan s slot id me (ClearedAt (LeavesSlot g) (IsInline g) (step n slot (lock + 1) 0 none) me))
      (λ hit. let t = left_slot g plan s h id lock me.0 at lives shape near slot inside st hit in (
        t.0,
        keeps,
        tt,
        t.1,
        (same_at t.0 kinds.LeaveSlot (lock + 1) true Away (g.lowered lock None me.0.part) t.2.0, λ k e. ((λ _. names (LeavesSlot g) x t.0 t.2 k e), λ ne. absurd (ne hit))),
      ))
      (λ miss. let t = inlined g plan s h id lock me.0 at lives shape near slot inside st miss in (
        t.0,
        keeps,
        tt,
        t.1,
        (same_at t.0 kinds.LeaveSlot x false Inline me.0.part t.2.0, λ k e. ((λ hit. absurd (miss hit)), λ _. names (IsInline g) x t.0 t.2 k e)),
      )))

  pub looks : (k : ℕ) (f : Bool) → standing me.0 lock ≡ Announcing slot k f → Allows (Holds g plan) n id me i (λ x. x) (LookedAt lock (LooksAtSlot g) (step n i 0 0 none) me)
  looks k f st = let F : ℕ → Type 0 = λ i. Allows (Holds g plan) n id me i (λ x. x) (LookedAt lock (LooksAtSlot g) (step n i 0 0 none) me) in
      subst F (sym is) (λ s h wide at fits. let x : ℕ = get_or s.words slot 0 in let t = looked_at g plan s h id lock me.0 at lives shape near slot k f inside st in
      (t.0, keeps, tt, t.1, (same_at t.0 kinds.Look x false (looked lock x (standing me.0 lock)) me.0.part t.2.0, t.2)))

  pub picks : (k : ℕ) (f : Bool) → standing me.0 lock ≡ Announcing slot k f → Allows (Holds g plan) n id me i (λ x. either (eqb x (lock + 1)) 0 x) (ClearedAt (PicksToken g) (FindsCleared g) (step n i (lock + 1) 0 none) me)
  picks j f st = let F : ℕ → Type 0 = λ i. Allows (Holds g plan) n id me i (λ x. either (eqb x (lock + 1)) 0 x) (ClearedAt (PicksToken g) (FindsCleared g) (step n i (lock + 1) 0 none) me) in
      subst F (sym is) (λ s h wide at fits. let x : ℕ = get_or s.words slot 0 in
      exchanged x (lock + 1) 0 (Goes g plan s slot id me (ClearedAt (PicksToken g) (FindsCleared g) (step n slot (lock + 1) 0 none) me))
      (λ hit. let t = picked_up g plan s h id lock me.0 at lives shape near slot j f inside st hit in (
        t.0,
        keeps,
        tt,
        t.1,
        (same_at t.0 kinds.Pick (lock + 1) true (picked (standing me.0 lock)) me.0.part t.2.0, λ k e. ((λ _. names (PicksToken g) x t.0 t.2 k e), λ ne. absurd (ne hit))),
      ))
      (λ miss. let t = found_cleared g plan s h id lock me.0 at lives shape near slot j f inside st miss in (
        t.0,
        keeps,
        tt,
        t.1,
        (same_at t.0 kinds.Pick x false (moved_on (standing me.0 lock)) me.0.part t.2.0, λ k e. ((λ hit. absurd (miss hit)), λ _. names (FindsCleared g) x t.0 t.2 k e)),
      )))

module _ {C P : Type 0} (g : Ghosts C P) (plan : Plan C) (n id : ℕ) (me : Me (Unit {0}) (View P)) (lock i : ℕ) (is : i ≡ plan.shape.slots + lock) (shape : me.0.shape ≡ plan.shape) (lives : 0 < me.0.span) (near : lock < plan.shape.locks) where
  abbrev place : ℕ
  place = plan.shape.slots + lock

  pub checks : (slot : ℕ) → standing me.0 lock ≡ Undecided slot → Allows (Holds g plan) n id me i (λ x. x) (At (Checks g) (step n i 0 0 none) me)
  checks slot st = let F : ℕ → Type 0 = λ i. Allows (Holds g plan) n id me i (λ x. x) (At (Checks g) (step n i 0 0 none) me) in
      subst F (sym is) (λ s h wide at fits. let x : ℕ = get_or s.words place 0 in let t = checked g plan s h id lock me.0 at lives shape near slot st fits in let told_all = t.2 slot st in
      let kept : Same me (t.0, me.1) = dite (ℕ_discrete (may_defer_of x) 1)
      (λ on. let d = told_all.0 on in same g plan n id me lock i is shape lives near t.0 kinds.Check x false (Slotted slot) d.0.1 d.0.3)
      (λ off. let d = told_all.1 (omega arith) in same g plan n id me lock i is shape lives near t.0 kinds.Check x false (standing me.0 lock) me.0.part d.0) in
      (t.0, keeps, tt, t.1, (kept, told g plan n id me lock i is shape lives near (Checks g) x t.0 t.2)))

  pub adds_hand : (p k : ℕ) (f : Bool) (more : ℕ) → standing me.0 lock ≡ Announcing p k f → more ≡ k * 4294967296 % 18446744073709551616 → Allows (Holds g plan) n id me i (λ x. (x + more) % 2 ^ 64) (At (AddsHand g) (step n i more 0 none) me)
  adds_hand p k f more st turns = let F : ℕ → Type 0 = λ i. Allows (Holds g plan) n id me i (λ x. (x + more) % 2 ^ 64) (At (AddsHand g) (step n i more 0 none) me) in
      subst F (sym is) (λ s h wide at fits. let x : ℕ = get_or s.words place 0 in let t = added_hand g plan s h id lock me.0 at lives shape near p k f st in (
        t.0,
        keeps,
        tt,
        subst (λ (z : ℕ). Holds g plan record { words = set s.words place ((x + z) % 18446744073709551616); homes = s.homes; views = set s.views id t.0 }) (sym turns) t.1,
        (same g plan n id me lock i is shape lives near t.0 kinds.AddHand x true (handless (standing me.0 lock)) me.0.part t.2.0, told g plan n id me lock i is shape lives near (AddsHand g) x t.0 t.2),
      ))
