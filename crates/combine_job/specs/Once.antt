-- Closures as jobs.
use Rattle.std.specs.Prelude.{ℕ, ◌+◌, ◌≤◌}
use Rattle.std.specs.Fn.{Once, FnOnceTakesAtMut, FnOnceReturnsAtMut}
use Rattle.std.specs.Borrow.{MutBor}

-- the closure may be called on each value that has room, and leaves at least that room less 1
abbrev pub IsReadyOnce : {F V R : Type 0} → (V → ℕ) → Once F (MutBor V × Unit {0}) (R × (MutBor V × Unit {0})) → F → Type 0
IsReadyOnce {F} {V} {R} rooms calls f = ((v : V) → 1 ≤ rooms v → FnOnceTakesAtMut calls f v) × ((v : V) (r : R) (w : V) → 1 ≤ rooms v → FnOnceReturnsAtMut calls f v r w → rooms v ≤ rooms w + 1)
