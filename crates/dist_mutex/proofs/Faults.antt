-- What the last of a pass's tries was refused with.
use Rattle.std.proofs.Common.{◌≡◌, ℕ, List, [], ◌∷◌, ◌++◌, Result, Option, Ok, Err, Some, None, MatchResult, refl, ap, ◌∙◌, if◌then◌else◌, ne_eqb}
use Rattle.std.specs.Result.{result_err}
use Rattle.waiter_chain.specs.Steps.{SeatState, entry}
use Rattle.waiter_chain.specs.Calls.{WasBusy}
use Rattle.waiter_chain.specs.declared.view.Opening.{Opening}
use Rattle.waiter_chain.specs.declared.view.StepEntry.{StepEntry}
use Rattle.waiter_chain.specs.declared.view.StepKind.TheVariants.{TryIn}
use Rattle.waiter_chain.specs.declared.turn.DistBusy.{DistBusy}
use Rattle.combine_job.specs.declared.parcel.Parcel.{Parcel}
use Rattle.dist_mutex.specs.declared.owner.Owner.{Owner}
use Rattle.dist_mutex.specs.Owners.{LockedBy}
use Rattle.dist_mutex.specs.Tries.{fault_of, last_fault}

last_of : (before : Option DistBusy) (xs : List StepEntry) (e : StepEntry) → last_fault before (xs ++ e ∷ []) ≡ fault_of e.word
last_of before [] e = refl
last_of before (x ∷ xs) e = last_of (fault_of x.word) xs e

module _ {V J O X : Type 0} (rooms : V → ℕ) (means : V → J → Result O X → V → Type 0) (o : Opening (Parcel V J O X)) (slots : ℕ) (m n : SeatState (Parcel V J O X)) where
  pub fault_told : (r : Result (Owner V) DistBusy) → MatchResult r (λ (w : Owner V). LockedBy rooms means o slots m n (entry m.0 TryIn 0 0) w.turn w.kept) (WasBusy m n) → last_fault None n.0.steps ≡ result_err r
  fault_told (Ok w) l = ap (λ (z : SeatState (Parcel V J O X)). last_fault None z.0.steps) l.0 ∙ last_of None m.0.steps (entry m.0 TryIn 0 0)
  fault_told (Err b) l =
      ap (λ (z : SeatState (Parcel V J O X)). last_fault None z.0.steps) l.1 ∙ last_of None m.0.steps (entry m.0 TryIn 0 b.word)
      ∙ ap (λ c. if c then None else Some b) (ne_eqb b.word 0 l.0)
