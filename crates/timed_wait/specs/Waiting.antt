-- What the clock answered to a call that waited.
use Rattle.std.specs.Prelude.{◌≡◌, ℕ, ◌+◌, ◌<◌, List, ◌++◌, ⊤, None, Some, All, length}
use Rattle.std.specs.declared.option.Option.{Option}

-- where a clock tells its answers after a call, it told them before, and the call added these at the end
abbrev pub AddsAnswers : Option (List ℕ) → Option (List ℕ) → List ℕ → Type 0
AddsAnswers old None added = ⊤
AddsAnswers None (Some after) added = ⊥
AddsAnswers (Some before) (Some after) added = after ≡ before ++ added

-- each answer that the clock gave was below the deadline, but for those in `end`, which came last
pub record AnswersBelow (deadline : ℕ) (old new : Option (List ℕ)) (end : List ℕ) : Type 0 where
  pub early : List ℕ
  pub below : All (λ t. t < deadline) early
  pub told : AddsAnswers old new (early ++ end)

-- the clock was asked once after each try but the last, of which the number rose from `first` to `last`, and answered
-- below the deadline each time; then it answered what is in `end`
pub record AsksBelow (deadline first last : ℕ) (old new : Option (List ℕ)) (end : List ℕ) : Type 0 where
  pub answers : AnswersBelow deadline old new end
  pub counted : first + length answers.early + 1 ≡ last
