-- The statements of the laws.
use Rattle.std.specs.Prelude.{◌≡◌, ◌≢◌, ℕ, ◌+◌, ◌-◌, ◌%◌, ◌<◌, if◌then◌else◌, List, slice_index, slice_set, Option, Some, None}
use mathlib.Core.Option.{some}
use lib.ListN.{get_elem?}
use Rattle.atomic_table.specs.Table.{State}
use Rattle.lock_model.specs.declared.model.Policy.TheVariants.{WritePriority}
use Rattle.lock_model.specs.declared.model.Role.TheVariants.{Announces}
use Rattle.lock_model.specs.declared.model.Act.{Act}
use Rattle.lock_model.specs.declared.model.Act.TheVariants.{EnterShared}
use Rattle.lock_model.specs.declared.model.SeatRole.{SeatRole}
use Rattle.std.specs.Prelude.{Bool}
use Rattle.lock_model.specs.Locks.{Lock, Has, IsLawful, after_event}
use Rattle.state_word.specs.declared.TheConstants.{COUNTS, MOST_COUNTED, WORDS}
use Rattle.state_word.specs.Words.{fields, fields_of, is_deep, may_defer_of, upgrade_of, begun_of, held_of, idle_of, units_of, enter_of, lower_of, announce_of, hold_of, retract_of, release_of, up_of, down_of, to_shared_of, to_upgrade_of, add_of}
use Rattle.hall.specs.declared.cargo.CargoRule.{Ghosts}
use Rattle.hall.specs.declared.view.Plan.{Plan}
use Rattle.hall.specs.declared.view.View.{View}
use Rattle.hall.specs.Locks.{counts, named_by}
use Rattle.hall.specs.Moves.{Moment, MomentAt, CargoMoment, shown, role_of}
use Rattle.hall.specs.Cargo.{exclusive_mode}
use Rattle.hall.specs.Rule.{Holds}
use Rattle.hall.specs.Shows.{LockShows, CountsUnits}
use Rattle.hall.specs.Views.{standing, mode_of}

module _ {C P : Type 0} (g : Ghosts C P) where
  -- where the rule holds, each lock is so
  abbrev pub RuleShows : Type 0
  RuleShows = (plan : Plan C) (s : State (Unit {0}) (View P)) → Holds g plan s → (lock : ℕ) → lock < plan.shape.locks → LockShows plan.shape.slots lock s.words s.views

  -- at the moment of each step for a lock, on its word or on a slot, each reader's unit is counted once, before the step and after it: it is inline in the lock's count, in a writer's hand, or a token in a slot
  abbrev pub UnitsCountedOnce : Type 0
  UnitsCountedOnce = (v w : View P) (lock place found left : ℕ) (act : Option Act) (m : MomentAt g v w lock place found left act) →
      let slots = m.plan.shape.slots in let words = slice_set m.state.words place left in let views = slice_set m.state.views m.id w in
      CountsUnits (slice_index m.state.words (slots + lock)) (named_by slots lock m.state.words) (counts lock m.state.views) × CountsUnits (slice_index words (slots + lock)) (named_by slots lock words) (counts lock views)

  -- at the moment of a step that enters a reader under write priority, no other pass is announced at the lock
  abbrev pub NoReaderEntersPast : Type 0
  NoReaderEntersPast = (v w : View P) (lock found left : ℕ) (m : Moment g v w lock found left (Some EnterShared)) → 0 < v.span → v.shape.policy ≡ WritePriority
      → (j : ℕ) (u : View P) → get_elem? m.state.views j ≡ some u → j ≢ m.id → 0 < u.span → (f : Bool) → role_of (standing u lock) ≢ Announces f

  -- at the moment of a step on a cargo word each lock is as the rule shows it, and the step leaves it so
  abbrev pub CargoStepShows : Type 0
  CargoStepShows = (v w : View P) (place found left : ℕ) (ws : List ℕ) (m : CargoMoment g v w place found left ws) (lock : ℕ) → lock < m.plan.shape.locks
      → LockShows m.plan.shape.slots lock m.state.words m.state.views × (shown lock (slice_set m.state.views m.id w) ≡ shown lock m.state.views)

  -- who holds a lock exclusively is alone there at the moment of each of its steps on a cargo word
  abbrev pub HolderIsAlone : Type 0
  HolderIsAlone = (v w : View P) (place found left : ℕ) (ws : List ℕ) (m : CargoMoment g v w place found left ws) (lock : ℕ) → lock < m.plan.shape.locks → mode_of (standing v lock) ≡ exclusive_mode
      → (j : ℕ) (u : View P) → get_elem? m.state.views j ≡ some u → j ≢ m.id → mode_of (standing u lock) ≡ None

-- each allowed event keeps a lawful lock lawful
abbrev pub MovesKeepLawful : Type 0
MovesKeepLawful = (l after : Lock) (seat : ℕ) (a : Act) → IsLawful l.seats → after_event l seat a ≡ Some after → IsLawful after.seats

-- under write priority no reader enters while another seat is announced
abbrev pub NoReaderPasses : Type 0
NoReaderPasses = (l after : Lock) (seat : ℕ) → l.policy ≡ WritePriority → after_event l seat EnterShared ≡ Some after → (t : SeatRole) (f : Bool) → Has l.seats t → t.seat ≢ seat → t.role ≢ Announces f

-- what each change of a word, where its condition holds, makes of the word's fields
pub record FieldLaws (w : ℕ) : Type 0 where
  pub enter : units_of w ≢ MOST_COUNTED → fields_of (enter_of w) ≡ fields (if is_deep w then 1 else may_defer_of w) (upgrade_of w) (begun_of w) (held_of w) (idle_of w) ((units_of w + 1) % COUNTS)
  pub lower : fields_of (lower_of w) ≡ fields (may_defer_of w) (upgrade_of w) (begun_of w) (held_of w) (idle_of w) ((units_of w + (COUNTS - 1)) % COUNTS)
  pub announce : begun_of w ≡ 0 → fields_of (announce_of w) ≡ fields 0 (upgrade_of w) 1 (held_of w) (idle_of w) (units_of w)
  pub hold : begun_of w ≡ 1 → units_of w ≡ 0 → fields_of (hold_of w) ≡ fields (may_defer_of w) 0 0 1 (idle_of w) 0
  pub retract : begun_of w ≡ 1 → may_defer_of w ≡ 0 → fields_of (retract_of w) ≡ fields 1 (upgrade_of w) 0 (held_of w) (idle_of w) (units_of w)
  pub release : held_of w ≡ 1 → fields_of (release_of w) ≡ fields (may_defer_of w) (upgrade_of w) (begun_of w) 0 (idle_of w) (units_of w)
  pub up : upgrade_of w ≡ 0 → fields_of (up_of w) ≡ fields (may_defer_of w) 1 (begun_of w) (held_of w) (idle_of w) (units_of w)
  pub down : upgrade_of w ≡ 1 → fields_of (down_of w) ≡ fields (may_defer_of w) 0 (begun_of w) (held_of w) (idle_of w) (units_of w)
  pub to_shared : fields_of (to_shared_of w) ≡ fields (may_defer_of w) 0 (begun_of w) 0 (idle_of w) ((units_of w + 1) % COUNTS)
  pub to_upgrade : held_of w ≡ 1 → fields_of (to_upgrade_of w) ≡ fields (may_defer_of w) 1 (begun_of w) 0 (idle_of w) (units_of w)
  pub add : (n : ℕ) → fields_of (add_of w n) ≡ fields (may_defer_of w) (upgrade_of w) (begun_of w) (held_of w) (idle_of w) ((units_of w + n) % COUNTS)

abbrev pub ChangesFields : Type 0
ChangesFields = (w : ℕ) → w < WORDS → FieldLaws w
