-- What a clock was asked by a call with a deadline.
use Rattle.std.specs.Prelude.{◌≡◌, ℕ, ◌+◌, ◌<◌, ◌≤◌, ◌⊎◌, List, [], ◌∷◌, length}
use Rattle.std.specs.declared.option.Option.{Option}
use Rattle.hall.specs.declared.cargo.CargoRule.{Ghosts}
use Rattle.hall.specs.declared.guards.TryFault.{TryFault}
use Rattle.hall.specs.declared.view.View.{View}
use Rattle.timed_wait.specs.Waiting.{AsksBelow}
use Rattle.shared_mutex.specs.Tries.{GivesUp, StaysAsItWas, WritersRefused}

module _ {T : Type 0} (last : T → ℕ) (answers : T → Option (List ℕ)) (deadline refusals : ℕ) (old new : T) where
  -- after each of so many refused tries the clock was asked once, and each time it answered below the deadline
  pub record AskedInTime : Type 0 where
    pub asks : AsksBelow deadline 0 (refusals + 1) (answers old) (answers new) []
    pub unasked : refusals ≡ 0 → new ≡ old
    pub early : (new ≡ old) ⊎ (last new < deadline)

  -- and the last time it answered `now`, at the deadline or later, and each time before below the deadline
  pub record AskedTooLate (now : ℕ) : Type 0 where
    pub asks : AsksBelow deadline 0 refusals (answers old) (answers new) (now ∷ [])
    pub late : deadline ≤ now
    pub now_is : now ≡ last new

-- a call to write was late: no writer could be announced until then; or one was, met readers until then, and took its announcement back
abbrev pub GaveUpLate : {C P T : Type 0} → Ghosts C P → (T → ℕ) → (T → Option (List ℕ)) → ℕ → ℕ → View P → View P → T → T → TryFault → ℕ → Type 0
GaveUpLate g last answers deadline lock v w old new fault now =
    ((faults : List TryFault) × WritersRefused g lock v (fault ∷ faults) w × StaysAsItWas v lock w × AskedTooLate last answers deadline (length faults + 1) old new now)
    ⊎ ((faults : List TryFault) × (misses : List TryFault) × GivesUp g v lock faults (fault ∷ misses) w × AskedTooLate last answers deadline (length faults + (length misses + 1)) old new now)
