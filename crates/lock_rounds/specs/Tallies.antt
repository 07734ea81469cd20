-- How the readers of a shared lock are counted.
use Rattle.std.specs.Prelude.{ℕ, ◌+◌}
use Rattle.hall.specs.declared.guards.Form.{Form}
use Rattle.hall.specs.declared.guards.Form.TheVariants.{Deferred, Inline, Lowered}
use Rattle.lock_rounds.specs.declared.tally.Tally.{Tally}

-- how many came in
abbrev pub came_in : Tally → ℕ
came_in t = t.deferred + t.counted

-- one more came in
abbrev pub noted : Form → Tally → Tally
noted (Deferred slot) t = record { deferred = t.deferred + 1; counted = t.counted }
noted (Inline why) t = record { deferred = t.deferred; counted = t.counted + 1 }
noted Lowered t = record { deferred = t.deferred; counted = t.counted + 1 }

-- the readers of two tallies
abbrev pub both : Tally → Tally → Tally
both s t = record { deferred = s.deferred + t.deferred; counted = s.counted + t.counted }
