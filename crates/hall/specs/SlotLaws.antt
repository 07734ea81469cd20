-- The standings that the steps of deferred readers and of a sweep leave, for calls above.
use Rattle.std.specs.Prelude.{◌≡◌, ◌≢◌, ℕ, zero, suc, ◌+◌, ◌<◌, Bool, true, false, cond, List, [], ◌∷◌, length, replicate, slice_index_or, slice_set}
use Rattle.std.proofs.Common.{refl, ap, ◌∙◌, eq-eqb, ne_eqb, get_or-set_same, get_or-set_other}
use Rattle.std.proofs.lemmas.List.{set-get_or}
use mathlib.Core.Logic.{dite}
use native.Mathlib.Decide.{ℕ_discrete}
use Rattle.hall.specs.declared.view.View.{View}
use Rattle.hall.specs.declared.view.StepKind.{StepKind}
use Rattle.hall.specs.declared.view.StepKind.TheVariants as kinds
use Rattle.hall.specs.declared.view.Standing.{Standing}
use Rattle.hall.specs.declared.view.Standing.TheVariants.{Away, Announcing}
use Rattle.hall.specs.Calls.{ElsewhereSame}
use Rattle.hall.specs.Slotting.{HasNonePending, moved_on, picked, looked}
use Rattle.hall.specs.Views.{pending, standing, after_look, after_note, after_step_at}

-- at no lock a token is undecided or a unit owed: of a pass that is away from every lock
pub away_in : (n k : ℕ) → slice_index_or (replicate n Away) k Away ≡ Away
away_in zero k = refl
away_in (suc n) zero = refl
away_in (suc n) (suc k) = away_in n k

module _ {P : Type 0} where
  pub none_pending_away : (w : View P) (n : ℕ) → w.standings ≡ replicate n Away → HasNonePending w
  none_pending_away w n off k = ap pending (ap (λ (l : List Standing). slice_index_or l k Away) off ∙ away_in n k)

  -- and where nothing was pending before: where each standing is as it was
  pub none_pending_same : (v w : View P) → w.standings ≡ v.standings → HasNonePending v → HasNonePending w
  none_pending_same v w same clear k = ap (λ (l : List Standing). pending (slice_index_or l k Away)) same ∙ clear k

  -- where only the standing at one lock may be another, with which nothing is pending there
  pub none_pending_at : (v w : View P) (lock : ℕ) → ElsewhereSame v w lock → pending (standing w lock) ≡ 0 → HasNonePending v → HasNonePending w
  none_pending_at v w lock same here clear k = dite (ℕ_discrete k lock) (λ e. ap (λ (i : ℕ). pending (standing w i)) e ∙ here) (λ ne. ap pending (same k ne) ∙ clear k)

  -- at a lock at which nothing was pending nothing is pending after a look
  pub none_pending_looked : (v w : View P) (lock word : ℕ) (kind : StepKind) → w ≡ after_look v kind lock word → HasNonePending v → HasNonePending w
  none_pending_looked v w lock word kind is = none_pending_same v w (ap (λ (z : View P). z.standings) is ∙ set-get_or v.standings lock Away)

  -- or after a step on a cargo word
  pub none_pending_noted : (v w : View P) (kind : StepKind) (place word : ℕ) (won : Bool) (used : ℕ) (part : P) → w ≡ after_note v kind place word won used part → HasNonePending v → HasNonePending w
  none_pending_noted v w kind place word won used part is = none_pending_same v w (ap (λ (z : View P). z.standings) is)

set_pending : (l : List Standing) (i : ℕ) (y : Standing) → pending y ≡ 0 → pending (slice_index_or l i Away) ≡ 0 → pending (slice_index_or (slice_set l i y) i Away) ≡ 0
set_pending [] i y rests was = refl
set_pending (x ∷ xs) zero y rests was = rests
set_pending (x ∷ xs) (suc i) y rests was = set_pending xs i y rests was

module _ {P : Type 0} (v w : View P) (lock place word : ℕ) (kind : StepKind) (won : Bool) (y : Standing) (part : P) (is : w ≡ after_step_at v kind lock place word won y part) where
  pub stands_after : lock < length v.standings → standing w lock ≡ y
  stands_after near = ap (λ (z : View P). standing z lock) is ∙ get_or-set_same v.standings lock y Away near

  pub stands_elsewhere : (k : ℕ) → k ≢ lock → standing w k ≡ standing v k
  stands_elsewhere k ne = ap (λ (z : View P). standing z k) is ∙ get_or-set_other v.standings lock k y Away ne

  -- and a step keeps a pass so that nothing is pending, where nothing is with the standing that it leaves
  pub none_pending_after : pending y ≡ 0 → HasNonePending v → HasNonePending w
  none_pending_after rests clear = none_pending_at v w lock stands_elsewhere (ap (λ (z : View P). pending (standing z lock)) is ∙ set_pending v.standings lock y rests (clear lock)) clear

module _ {P : Type 0} (v w : View P) (lock slot hand : ℕ) (raised : Bool) (near : lock < length v.standings) (st : standing v lock ≡ Announcing slot hand raised) where
  -- a sweep goes on past a slot that doesn't name its lock
  pub looked_past : (found : ℕ) → found ≢ lock + 1 → w ≡ after_step_at v kinds.Look lock slot found false (looked lock found (standing v lock)) v.part → standing w lock ≡ Announcing (slot + 1) hand raised
  looked_past found ne r = stands_after v w lock slot found kinds.Look false (looked lock found (standing v lock)) v.part r near
      ∙ ap (λ (b : Bool). cond b (standing v lock) (moved_on (standing v lock))) (ne_eqb found (lock + 1) ne) ∙ ap moved_on st

  -- and stays at one that does
  pub looked_on : (found : ℕ) → found ≡ lock + 1 → w ≡ after_step_at v kinds.Look lock slot found false (looked lock found (standing v lock)) v.part → standing w lock ≡ Announcing slot hand raised
  looked_on found e r = stands_after v w lock slot found kinds.Look false (looked lock found (standing v lock)) v.part r near
      ∙ ap (λ (b : Bool). cond b (standing v lock) (moved_on (standing v lock))) (eq-eqb found (lock + 1) e) ∙ st

  -- a token that was taken is in the hand
  pub picked_one : w ≡ after_step_at v kinds.Pick lock slot (lock + 1) true (picked (standing v lock)) v.part → standing w lock ≡ Announcing (slot + 1) (hand + 1) raised
  picked_one r = stands_after v w lock slot (lock + 1) kinds.Pick true (picked (standing v lock)) v.part r near ∙ ap picked st

  -- one that was gone isn't
  pub picked_none : (found : ℕ) → w ≡ after_step_at v kinds.Pick lock slot found false (moved_on (standing v lock)) v.part → standing w lock ≡ Announcing (slot + 1) hand raised
  picked_none found r = stands_after v w lock slot found kinds.Pick false (moved_on (standing v lock)) v.part r near ∙ ap moved_on st
