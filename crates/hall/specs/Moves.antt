-- The abstract lock that the passes' standings show, and what one step of the hall is of it.
use Rattle.std.specs.Prelude.{◌≡◌, ◌≢◌, ℕ, ◌+◌, ◌<◌, ◌==◌, if◌then◌else◌, List, [], ◌∷◌, drop, slice_index, slice_set, Option, Some, None}
use mathlib.Core.Option.{some}
use lib.ListN.{get_elem?}
use Rattle.atomic_table.specs.Table.{State}
use Rattle.lock_model.specs.declared.model.Policy.{Policy}
use Rattle.lock_model.specs.declared.model.Role.{Role}
use Rattle.lock_model.specs.declared.model.Role.TheVariants.{Outside, Announces}
use Rattle.lock_model.specs.declared.model.Act.{Act}
use Rattle.lock_model.specs.declared.model.SeatRole.{SeatRole}
use Rattle.lock_model.specs.Locks.{Lock, seat_role, after_event, shared_role, upgrade_role, exclusive_role}
use Rattle.hall.specs.declared.cargo.CargoRule.{Ghosts}
use Rattle.hall.specs.declared.view.View.{View}
use Rattle.hall.specs.declared.view.Plan.{Plan}
use Rattle.hall.specs.declared.view.Standing.{Standing}
use Rattle.hall.specs.declared.view.Standing.TheVariants.{Away, Inline, Slotted, Undecided, Owing, Upgrade, Exclusive, Announcing}
use Rattle.hall.specs.Views.{standing}
use Rattle.hall.specs.Rule.{Holds}

-- what a standing is at the abstract lock
abbrev pub role_of : Standing → Role
role_of Away = Outside
role_of Inline = shared_role
role_of (Slotted k) = shared_role
role_of (Undecided k) = Outside
role_of Owing = Outside
role_of Upgrade = upgrade_role
role_of Exclusive = exclusive_role
role_of (Announcing p h f) = Announces f

-- the number of each pass that isn't spent, with its role
abbrev pub shown : {P : Type 0} → ℕ → List (View P) → List SeatRole
shown lock [] = []
shown lock (v ∷ vs) = if v.span == 0 then shown lock vs else seat_role v.number (role_of (standing v lock)) ∷ shown lock vs

-- the abstract lock that the views show
abbrev pub lock_shown : {P : Type 0} → Policy → ℕ → List (View P) → Lock
lock_shown policy lock views = record { policy = policy; seats = shown lock views }

-- the abstract lock after a seat's act, or as it was where the step is none
abbrev pub after_act : Lock → ℕ → Option Act → Option Lock
after_act l seat None = Some l
after_act l seat (Some a) = after_event l seat a

module _ {C P : Type 0} (g : Ghosts C P) where
  -- The moment of a step for a lock, on the word at a place of the table: the rule held before it and holds after it, it found this word and left that one, and it changed this pass's view alone.
  -- At its lock it is this act of the abstract lock, allowed there, and no other lock moves.
  pub record MomentAt (v w : View P) (lock place found left : ℕ) (act : Option Act) : Type 0 where
    pub plan : Plan C
    pub state : State (Unit {0}) (View P)
    pub id : ℕ
    pub shape : plan.shape ≡ v.shape
    pub near : lock < plan.shape.locks
    pub mine : get_elem? state.views id ≡ some v
    pub finds : slice_index state.words place ≡ found
    pub before : Holds g plan state
    pub after : Holds g plan record { words = slice_set state.words place left; homes = state.homes; views = slice_set state.views id w }
    pub moves : after_act (lock_shown v.shape.policy lock state.views) v.number act ≡ Some (lock_shown v.shape.policy lock (slice_set state.views id w))
    pub elsewhere : (k : ℕ) → k ≢ lock → shown k (slice_set state.views id w) ≡ shown k state.views

  -- the same on the lock's own word
  abbrev pub Moment : View P → View P → ℕ → ℕ → ℕ → Option Act → Type 0
  Moment v w lock found left act = MomentAt v w lock (v.shape.slots + lock) found left act

  -- the cargo's words, which stand behind all slots and locks
  abbrev pub cargo_words : Plan C → State (Unit {0}) (View P) → List ℕ
  cargo_words plan s = drop (plan.shape.slots + plan.shape.locks) s.words

  -- The moment of a step on a cargo word: the rule held before it and holds after it, these were the cargo's words, it found this word among them at its place and left that one there, and it changed this pass's view alone.
  -- It is nothing of any lock: no slot and no lock's word changes, and each lock is shown as it was.
  pub record CargoMoment (v w : View P) (place found left : ℕ) (ws : List ℕ) : Type 0 where
    pub plan : Plan C
    pub state : State (Unit {0}) (View P)
    pub id : ℕ
    pub shape : plan.shape ≡ v.shape
    pub near : place < plan.shape.words
    pub mine : get_elem? state.views id ≡ some v
    pub words : cargo_words plan state ≡ ws
    pub finds : slice_index ws place ≡ found
    pub before : Holds g plan state
    pub after : Holds g plan record { words = slice_set state.words (plan.shape.slots + plan.shape.locks + place) left; homes = state.homes; views = slice_set state.views id w }
    pub apart : (k : ℕ) → k < plan.shape.slots + plan.shape.locks → slice_index (slice_set state.words (plan.shape.slots + plan.shape.locks + place) left) k ≡ slice_index state.words k
    pub still : (lock : ℕ) → shown lock (slice_set state.views id w) ≡ shown lock state.views
