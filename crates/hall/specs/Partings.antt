-- What a split and a join make of a state of the hall, and the moments at which they stand.
use Rattle.std.specs.Prelude.{◌≡◌, ◌≢◌, ℕ, [], ◌∷◌, ◌++◌, slice_set}
use mathlib.Core.Option.{some}
use lib.ListN.{get_elem?}
use Rattle.atomic_table.specs.Table.{State}
use Rattle.lock_model.specs.Locks.{role_in}
use Rattle.hall.specs.declared.cargo.CargoRule.{Ghosts}
use Rattle.hall.specs.declared.view.View.{View}
use Rattle.hall.specs.declared.view.Plan.{Plan}
use Rattle.hall.specs.Moves.{shown}
use Rattle.hall.specs.Rule.{Holds}
use Rattle.hall.specs.Views.{spent_view}

module _ {P : Type 0} where
  -- one view became two: the new pass's stands last. No word changed
  abbrev pub after_split : State (Unit {0}) (View P) → ℕ → View P → View P → State (Unit {0}) (View P)
  after_split s id left right = record { words = s.words; homes = s.homes; views = slice_set s.views id left ++ right ∷ [] }

  -- one view took the other's in, which is spent. No word changed
  abbrev pub after_join : State (Unit {0}) (View P) → ℕ → ℕ → View P → View P → State (Unit {0}) (View P)
  after_join s id other both spent = record { words = s.words; homes = s.homes; views = slice_set (slice_set s.views id both) other spent }

  -- at no lock anything moved: each seat has the role that it had, and a seat that isn't there is outside
  abbrev pub NothingMoves : State (Unit {0}) (View P) → State (Unit {0}) (View P) → Type 0
  NothingMoves s t = (lock seat : ℕ) → role_in (shown lock t.views) seat ≡ role_in (shown lock s.views) seat

module _ {C P : Type 0} (g : Ghosts C P) where
  -- at this moment the rule held and a pass had this view
  pub record Met (v : View P) : Type 0 where
    pub plan : Plan C
    pub state : State (Unit {0}) (View P)
    pub id : ℕ
    pub shape : plan.shape ≡ v.shape
    pub mine : get_elem? state.views id ≡ some v
    pub holds : Holds g plan state

  -- The moment of a split: the rule held before it and holds after it, this pass's view alone became two, and nothing moved.
  pub record SplitMoment (v left right : View P) : Type 0 where
    pub plan : Plan C
    pub state : State (Unit {0}) (View P)
    pub id : ℕ
    pub shape : plan.shape ≡ v.shape
    pub mine : get_elem? state.views id ≡ some v
    pub before : Holds g plan state
    pub after : Holds g plan (after_split state id left right)
    pub still : NothingMoves state (after_split state id left right)

  -- whatever state with the rule a split finds: the rule holds after it, and nothing moved
  abbrev pub SplitKeeps : Plan C → ℕ → View P → View P → View P → Type 0
  SplitKeeps plan id v left right = (s : State (Unit {0}) (View P)) → Holds g plan s → get_elem? s.views id ≡ some v → Holds g plan (after_split s id left right) × NothingMoves s (after_split s id left right)

  -- whatever state with the rule a join finds: the rule holds after it, and nothing moved
  abbrev pub JoinKeeps : Plan C → ℕ → ℕ → View P → View P → View P → Type 0
  JoinKeeps plan id other v w both = (s : State (Unit {0}) (View P)) → Holds g plan s → get_elem? s.views id ≡ some v → get_elem? s.views other ≡ some w → other ≢ id → Holds g plan (after_join s id other both (spent_view g.spent)) × NothingMoves s (after_join s id other both (spent_view g.spent))
