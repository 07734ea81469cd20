-- What contracts see of a clock that goes through a list.
use Rattle.std.specs.Prelude.{ℕ, ◌-◌, ◌^◌, List, None, Some, nat_lt, if◌then◌else◌}
use Rattle.std.specs.declared.option.Option.{Option}
use Rattle.ql_base.specs.Answers.{first_answers}

pub record ClockState : Type 0 where
  -- the list, which isn't empty
  pub listed : List ℕ
  -- how many calls were made; it stands still at the end of a u64
  pub calls : ℕ
  -- the latest answer, and 0 before the first
  pub last : ℕ

-- a clock before its first call
abbrev pub fresh_clock : List ℕ → ClockState
fresh_clock listed = record { listed = listed; calls = 0; last = 0 }

-- all its answers, while the count of calls still counts
abbrev pub told_answers : ClockState → Option (List ℕ)
told_answers clock = if nat_lt clock.calls (2 ^ 64 - 1) then Some (first_answers clock.listed clock.calls) else None
