-- One try to enter as an attempt, whichever way it ended.
use Rattle.std.specs.Prelude.{◌≡◌, ℕ, ◌+◌, Bool, true, false, cond, List, [], Some, None, Ok, Err, IfOk, IfErr, MatchResult}
use Rattle.std.specs.Result.{result_err}
use Rattle.std.specs.declared.option.Option.{Option}
use Rattle.std.specs.declared.result.Result.{Result}
use Rattle.std.proofs.Common.{refl, ap, ◌∙◌, subst, ⊎_elim}
use Rattle.hall.specs.declared.cargo.CargoRule.{Ghosts}
use Rattle.hall.specs.declared.guards.Form.{Form}
use Rattle.hall.specs.declared.guards.Form.TheVariants as forms
use Rattle.hall.specs.declared.guards.SharedGuard.{SharedGuard}
use Rattle.hall.specs.declared.guards.TryFault.{TryFault}
use Rattle.hall.specs.declared.guards.TryFault.TheVariants.{Busy, Raced}
use Rattle.hall.specs.declared.guards.Why.TheVariants.{NoDefer, SlotsTaken}
use Rattle.hall.specs.declared.view.StepKind.{StepKind}
use Rattle.hall.specs.declared.view.StepKind.TheVariants as kinds
use Rattle.hall.specs.declared.view.Shape.{Shape}
use Rattle.hall.specs.declared.view.Standing.TheVariants.{Away}
use Rattle.hall.specs.declared.view.View.{View}
use Rattle.hall.specs.Fitting.{stands_by}
use Rattle.hall.specs.Views.{after_look, standing}
use Rattle.reader_slots.specs.declared.Placed.TheVariants.{At, Taken}
use Rattle.reader_slots.specs.declared.Withdrawn.{Withdrawn}
use Rattle.reader_slots.specs.declared.Withdrawn.TheVariants.{Cleared, GaveBack}
use Rattle.reader_slots.specs.Deferring.{Places, WithdrawsAs}
use Rattle.shared_mutex.specs.Acquiring.{ElsewhereSame, EntersBy, RefusesShared, TurnsBack}
use Rattle.shared_mutex.specs.TryLaws.{looked_none}
use Rattle.sync_cell.specs.Attempts.{HasEntered, StillOutside, is_check, is_load, reader_fault, turned_back, word_at}
use Rattle.sync_cell.proofs.Counted.{entering_counts, loads, reader_counts}

module _ {C P : Type 0} (g : Ghosts C P) (v : View P) (lock : ℕ) (w : View P) where
  -- what a try to enter leaves
  abbrev pub TriedToEnter : Result SharedGuard TryFault → Type 0
  TriedToEnter r = MatchResult r (λ guard. (guard.lock ≡ lock) × EntersBy g v lock guard.form w) (λ fault. RefusesShared g v lock w fault)

  -- it made one load, each way
  pub entered_once : (r : Result SharedGuard TryFault) → TriedToEnter r → loads w ≡ loads v + 1
  entered_once (Ok guard) t = entering_counts g lock v w guard.form t.1
  entered_once (Err f) t = reader_counts g lock v w f t

  -- the newest step of a view tells its fault, by the policy that the hall had before
  abbrev tells : View P → Option TryFault
  tells z = reader_fault v.shape.policy z.steps

  -- a step on a slot is no read of the lock's word
  placing_reads : (is : StepKind → Bool) (l u : View P) (slot : ℕ) → is kinds.PlaceSlot ≡ false → Places g l lock (At slot) u → word_at is u.steps ≡ word_at is l.steps
  placing_reads is l u slot none p = ⊎_elim
      (λ a. ap (λ (z : View P). word_at is z.steps) a.1.0 ∙ ap (λ (b : Bool). cond b 0 (word_at is l.steps)) none)
      (λ b. let z : View P = b.1.0 in
      ap (λ (k : View P). word_at is k.steps) b.1.3.0 ∙ ap (λ (c : Bool). cond c 0 (word_at is z.steps)) none
      ∙ ap (λ (k : View P). word_at is k.steps) b.1.2.1.0 ∙ ap (λ (c : Bool). cond c b.1.1 (word_at is l.steps)) none)
      p

  -- a reader that took its token back tells what it loaded, and what its second look found
  withdrawing_tells : (c : View P) (slot : ℕ) (ended : Withdrawn) → WithdrawsAs g c lock slot ended w → tells w ≡ Some (turned_back v.shape.policy (word_at is_load c.steps) (word_at is_check c.steps))
  withdrawing_tells c slot Cleared r = ap tells r.0
  withdrawing_tells c slot GaveBack r =
      ap tells r.4.1.0 ∙ ap (λ (z : View P). Some (turned_back v.shape.policy (word_at is_load z.steps) (word_at is_check z.steps))) r.3.0

  turning_tells : (seen word : ℕ) → TurnsBack g v lock seen word w → tells w ≡ Some (turned_back v.shape.policy seen word)
  turning_tells seen word r =
      let u : View P = r.3.1 in
      withdrawing_tells (after_look u kinds.Check lock word) r.3.0 r.3.3.2.0 r.3.3.2.1
      ∙ ap (λ (n : ℕ). Some (turned_back v.shape.policy n word)) (placing_reads is_load (after_look v kinds.Load lock seen) u r.3.0 refl r.3.2)

  reader_tells : (f : TryFault) → RefusesShared g v lock w f → tells w ≡ Some f
  reader_tells (Busy word) r = ⊎_elim
      (λ a. ap tells a)
      (λ b. turning_tells b.0 word b.1 ∙ ap (λ (on : Bool). Some (cond on (Busy word) (Raced b.0 word))) r.0)
      r.1
  reader_tells (Raced expected found) r = ⊎_elim
      (λ a. ap tells a.1)
      (λ bc. ⊎_elim
      (λ b. let p = b.1.2 in
      ap tells b.1.3 ∙ ap (λ (z : View P). Some (Raced (word_at is_load z.steps) found)) p.3.0 ∙ ap (λ (z : View P). Some (Raced (word_at is_load z.steps) found)) p.1.1.0)
      (λ c. turning_tells expected found c.1 ∙ ap (λ (on : Bool). Some (cond on (Busy found) (Raced expected found))) c.0)
      bc)
      r.2

  entering_tells : (form : Form) → EntersBy g v lock form w → tells w ≡ None
  entering_tells (forms.Deferred slot) t = ap tells t.2.2.2.0.3
  entering_tells (forms.Inline (NoDefer seen)) t = ap tells t.2.0.3
  entering_tells (forms.Inline (SlotsTaken tokens)) t = ap tells t.2.2.0.3
  entering_tells forms.Lowered t = absurd t

  -- the newest step tells the fault
  pub entered_fault : (r : Result SharedGuard TryFault) → w.shape ≡ v.shape → TriedToEnter r → reader_fault w.shape.policy w.steps ≡ result_err r
  entered_fault (Ok guard) same t = ap (λ (s : Shape). reader_fault s.policy w.steps) same ∙ entering_tells guard.form t.1
  entered_fault (Err f) same t = ap (λ (s : Shape). reader_fault s.policy w.steps) same ∙ reader_tells f t

  pub entered_won : (r : Result SharedGuard TryFault) → TriedToEnter r → MatchResult r (λ guard. standing w lock ≡ stands_by guard.form) (λ _. standing w lock ≡ Away) → ElsewhereSame v w lock → IfOk r (λ guard. (guard.lock ≡ lock) × HasEntered g v lock guard.form w)
  entered_won (Ok guard) t stood same = (t.0, (stood, same, ([], (v, refl, looked_none v v lock refl, t.1))))
  entered_won (Err f) t stood same = tt

  pub entered_not : (r : Result SharedGuard TryFault) → TriedToEnter r → IfErr r (λ fault. StillOutside g v lock fault w)
  entered_not (Ok guard) t = tt
  entered_not (Err f) t = ([], (v, refl, t))

  -- and its guard fits
  pub with_fits : (r : Result SharedGuard TryFault) (fits : SharedGuard → Type 0) → IfOk r fits → IfOk r (λ guard. (guard.lock ≡ lock) × HasEntered g v lock guard.form w) → IfOk r (λ guard. fits guard × (guard.lock ≡ lock) × HasEntered g v lock guard.form w)
  with_fits (Ok guard) fits a b = (a, b.0, b.1)
  with_fits (Err f) fits a b = tt
