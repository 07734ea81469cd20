-- What guards say, by the position of their wants.
use Rattle.std.specs.Prelude.{◌≡◌, ◌≢◌, ℕ, List, [], ◌∷◌, slice_index_or, Option, Some, None}
use Rattle.hall.specs.declared.view.Shape.{Shape}
use Rattle.hall.specs.declared.view.View.{View}
use Rattle.acquire_many.specs.declared.guards.Guards.{Guards}
use Rattle.acquire_many.specs.declared.guards.How.TheVariants as hows
use Rattle.acquire_many.specs.declared.guards.OneGuard.{OneGuard}
use Rattle.acquire_many.specs.declared.guards.OneGuard.TheVariants as guard
use Rattle.acquire_many.specs.Met.{HoldFits}
use Rattle.acquire_many.specs.Wants.{Hold}

-- the lock that a guard holds, and how
abbrev pub hold_of : OneGuard → Hold
hold_of (guard.Shared g) = (g.lock, hows.Shared g.form)
hold_of (guard.Upgrade g) = (g.lock, hows.Upgrade)
hold_of (guard.Exclusive g) = (g.lock, hows.Exclusive)

abbrev pub says : Option OneGuard → Option Hold
says None = None
says (Some g) = Some (hold_of g)

-- by position
abbrev pub said_by : Guards → List (Option Hold)
said_by guards = says guards.first ∷ says guards.second ∷ []

module _ {P : Type 0} where
  -- the pass stands at each of these locks as the guard says, and no two are one lock
  pub record Fit (shape : Shape) (v : View P) (holds : List (Option Hold)) : Type 0 where
    pub each : (k : ℕ) (x : Hold) → slice_index_or holds k None ≡ Some x → HoldFits shape v x
    pub apart : (j k : ℕ) (x y : Hold) → slice_index_or holds j None ≡ Some x → slice_index_or holds k None ≡ Some y → j ≢ k → x.0 ≢ y.0
