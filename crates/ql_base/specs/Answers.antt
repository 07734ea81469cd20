-- What a clock tells of its answers.
use Rattle.std.specs.Prelude.{◌≡◌, ℕ, ◌-◌, List, [], ◌∷◌, ◌++◌, ⊤, None, Some, length, map, min, slice_index}
use Rattle.std.specs.declared.option.Option.{Option}
use Rattle.std.specs.List.{range_with_len}

-- where the answers are told after a call, they were told before it, and the call added its answer at the end
abbrev pub AddsAnswer : Option (List ℕ) → Option (List ℕ) → ℕ → Type 0
AddsAnswer old None answer = ⊤
AddsAnswer None (Some after) answer = ⊥
AddsAnswer (Some before) (Some after) answer = after ≡ before ++ answer ∷ []

-- the answer to the call with this number, counted from 0, of a clock that goes through a list: the answers in order,
-- the last one again and again
abbrev pub answer_at : List ℕ → ℕ → ℕ
answer_at answers call = slice_index answers (min call (length answers - 1))

-- its answers to the first so many calls
unfoldable pub first_answers : List ℕ → ℕ → List ℕ
first_answers answers calls = map (answer_at answers) (range_with_len 0 calls)
