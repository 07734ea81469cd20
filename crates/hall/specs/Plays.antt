-- What each step tells its caller.
use Rattle.std.specs.Prelude.{◌≡◌, ◌≢◌, ℕ, ◌+◌, ◌%◌, ◌^◌, ◌==◌, ◌||◌, not, Bool, true, false, List, length, Option, Some, None}
use Rattle.atomic_table.specs.Table.{Me, Step}
use Rattle.lock_model.specs.declared.model.Policy.{Policy}
use Rattle.lock_model.specs.declared.model.Policy.TheVariants.{WritePriority, ReadPriority}
use Rattle.lock_model.specs.declared.model.Act.{Act}
use Rattle.lock_model.specs.declared.model.Act.TheVariants.{EnterShared, Announce, TakeExclusive, Retract, Leave}
use Rattle.state_word.specs.declared.TheConstants.{HELD, MOST_COUNTED}
use Rattle.state_word.specs.Words.{upgrade_of, begun_of, held_of, units_of, enter_of, lower_of, announce_of, retract_of}
use Rattle.hall.specs.declared.cargo.CargoRule.{Ghosts}
use Rattle.hall.specs.declared.view.View.{View}
use Rattle.hall.specs.declared.view.StepKind.{StepKind}
use Rattle.hall.specs.declared.view.StepKind.TheVariants as kinds
use Rattle.hall.specs.declared.view.Standing.{Standing}
use Rattle.hall.specs.declared.view.Standing.TheVariants.{Away, Inline, Slotted, Undecided, Owing, Upgrade, Exclusive, Announcing}
use Rattle.hall.specs.Views.{standing, after_look, after_step, after_note, cargo_place_of}
use Rattle.hall.specs.Moves.{Moment, CargoMoment, cargo_words}

-- HELD is set, or under write priority BEGUN
abbrev pub conflicts_for_shared : Policy → ℕ → Bool
conflicts_for_shared WritePriority w = (held_of w == 1) || (begun_of w == 1)
conflicts_for_shared ReadPriority w = held_of w == 1

-- UPGRADE, BEGUN or HELD is set
abbrev pub conflicts_for_announcing : ℕ → Bool
conflicts_for_announcing w = (upgrade_of w == 1) || ((begun_of w == 1) || (held_of w == 1))

-- the count isn't 0
abbrev pub conflicts_for_finishing : ℕ → Bool
conflicts_for_finishing w = not (units_of w == 0)

-- the count is below 2^31 - 1, so that one more reader can be counted
abbrev pub HasRoom : ℕ → Type 0
HasRoom w = units_of w ≢ MOST_COUNTED

module _ {P : Type 0} where
  -- a step leaves what only a split or a join changes
  abbrev pub Same : Me (Unit {0}) (View P) → Me (Unit {0}) (View P) → Type 0
  Same m n = (n.1 ≡ m.1) × (n.0.shape ≡ m.0.shape) × (n.0.number ≡ m.0.number) × (n.0.span ≡ m.0.span) × (n.0.quota ≡ m.0.quota) × (length n.0.standings ≡ length m.0.standings)

  -- what is told of the lock whose word it was
  abbrev pub At : (View P → ℕ → ℕ → View P → Type 0) → Step (Unit {0}) → Me (Unit {0}) (View P) → ℕ → Me (Unit {0}) (View P) → Type 0
  At f st m r n = Same m n × ((lock : ℕ) → st.word ≡ m.0.shape.slots + lock → f m.0 lock r n.0)

  -- a compare-exchange: what holds where it succeeded, and where it failed
  abbrev pub TriedAt : (View P → ℕ → ℕ → View P → Type 0) → (View P → ℕ → ℕ → View P → Type 0) → Step (Unit {0}) → Me (Unit {0}) (View P) → ℕ → Me (Unit {0}) (View P) → Type 0
  TriedAt won lost st m r n = Same m n × ((lock : ℕ) → st.word ≡ m.0.shape.slots + lock → (r ≡ st.first → won m.0 lock r n.0) × (r ≢ st.first → lost m.0 lock r n.0))

module _ {C P : Type 0} (g : Ghosts C P) where
  -- a step that found this word, changed nothing and moved nothing
  abbrev pub Looks : StepKind → View P → ℕ → ℕ → View P → Type 0
  Looks kind v lock found w = (w ≡ after_look v kind lock found) × HasRoom found × Moment g v w lock found found None

  abbrev pub Loads : View P → ℕ → ℕ → View P → Type 0
  Loads = Looks kinds.Load

  -- a load that also notes something in the part, of the cargo's words of its moment
  abbrev pub LoadsNoted : (List ℕ → ℕ → P → P → Type 0) → View P → ℕ → ℕ → View P → Type 0
  LoadsNoted becomes v lock found w = (ws : List ℕ) × (part : P) × becomes ws found v.part part × (w ≡ after_step v kinds.Load lock found false (standing v lock) part) × HasRoom found × (m : Moment g v w lock found found None) × (cargo_words g m.plan m.state ≡ ws)

  -- a mode was gained: the cargo words behind the lock were noted in the part
  abbrev pub Gains : StepKind → Standing → View P → ℕ → ℕ → View P → Type 0
  Gains kind y v lock found w = (ws : List ℕ) × (part : P) × g.gains lock ws v.part part × (w ≡ after_step v kind lock found true y part)

  -- a reader entered
  abbrev pub Enters : View P → ℕ → ℕ → View P → Type 0
  Enters v lock seen w = Gains kinds.Enter Inline v lock seen w × Moment g v w lock seen (enter_of seen) (Some EnterShared)

  abbrev pub EnterMisses : View P → ℕ → ℕ → View P → Type 0
  EnterMisses = Looks kinds.Enter

  -- the part after a unit was given back: an inline reader loses its mode, and who only owed a unit had none
  abbrev pub lowered_part : Standing → ℕ → P → P
  lowered_part Owing lock part = part
  lowered_part Away lock part = g.lowered lock None part
  lowered_part Inline lock part = g.lowered lock None part
  lowered_part (Slotted k) lock part = g.lowered lock None part
  lowered_part (Undecided k) lock part = g.lowered lock None part
  lowered_part Upgrade lock part = g.lowered lock None part
  lowered_part Exclusive lock part = g.lowered lock None part
  lowered_part (Announcing p h f) lock part = g.lowered lock None part

  abbrev pub lowered_act : Standing → Option Act
  lowered_act Owing = None
  lowered_act Away = Some Leave
  lowered_act Inline = Some Leave
  lowered_act (Slotted k) = Some Leave
  lowered_act (Undecided k) = Some Leave
  lowered_act Upgrade = Some Leave
  lowered_act Exclusive = Some Leave
  lowered_act (Announcing p h f) = Some Leave

  -- a unit was given back to the count
  abbrev pub GivesBack : View P → ℕ → ℕ → View P → Type 0
  GivesBack v lock found w = (w ≡ after_step v kinds.Lower lock found true Away (lowered_part (standing v lock) lock v.part)) × Moment g v w lock found (lower_of found) (lowered_act (standing v lock))

  -- a writer was announced, and has looked at no slot yet
  abbrev pub Announces : View P → ℕ → ℕ → View P → Type 0
  Announces v lock seen w = (w ≡ after_step v kinds.Announce lock seen true (Announcing 0 0 false) v.part) × Moment g v w lock seen (announce_of seen) (Some Announce)

  abbrev pub AnnounceMisses : View P → ℕ → ℕ → View P → Type 0
  AnnounceMisses = Looks kinds.Announce

  -- the announced writer holds the lock
  abbrev pub Holding : View P → ℕ → ℕ → View P → Type 0
  Holding v lock found w = Gains kinds.Hold Exclusive v lock 4 w × Moment g v w lock 4 8 (Some TakeExclusive)

  -- it doesn't: readers are inside
  abbrev pub HoldMisses : View P → ℕ → ℕ → View P → Type 0
  HoldMisses v lock found w = (units_of found ≢ 0) × Looks kinds.Hold v lock found w

  -- an announcement was taken back
  abbrev pub Retracts : View P → ℕ → ℕ → View P → Type 0
  Retracts v lock found w = (w ≡ after_step v kinds.Retract lock found true Away v.part) × Moment g v w lock found (retract_of found) (Some Retract)

  -- an exclusive holder left
  abbrev pub Releases : View P → ℕ → ℕ → View P → Type 0
  Releases v lock found w = (found ≡ HELD) × (w ≡ after_step v kinds.Release lock HELD true Away (g.lowered lock None v.part)) × Moment g v w lock HELD 0 (Some Leave)

  -- a load of a cargo word: the note is of the cargo's words of its moment
  abbrev pub LoadsWord : (List ℕ → ℕ → P → P → Type 0) → View P → ℕ → ℕ → View P → Type 0
  LoadsWord becomes v place found w = (ws : List ℕ) × (part : P) × becomes ws found v.part part × (w ≡ after_note v kinds.LoadCargo (cargo_place_of v place) found false 0 part) × CargoMoment g v w place found found ws

  -- a store of a value, which doesn't tell what it found
  abbrev pub StoresWord : (List ℕ → ℕ → P → P → Type 0) → View P → ℕ → ℕ → View P → Type 0
  StoresWord becomes v place value w = (found : ℕ) × (ws : List ℕ) × (part : P) × becomes ws found v.part part × (w ≡ after_note v kinds.StoreCargo (cargo_place_of v place) value true 0 part) × CargoMoment g v w place found value ws

  -- n was added, and the quota falls by as much
  abbrev pub AddsToWord : (List ℕ → ℕ → P → P → Type 0) → ℕ → View P → ℕ → ℕ → View P → Type 0
  AddsToWord becomes n v place found w = (ws : List ℕ) × (part : P) × becomes ws found v.part part × (w ≡ after_note v kinds.AddCargo (cargo_place_of v place) found true n part) × CargoMoment g v w place found ((found + n) % 2 ^ 64) ws

module _ {P : Type 0} where
  -- what is told of the cargo word that it was
  abbrev pub OnCargo : (View P → ℕ → ℕ → View P → Type 0) → Step (Unit {0}) → Me (Unit {0}) (View P) → ℕ → Me (Unit {0}) (View P) → Type 0
  OnCargo f st m r n = (n.1 ≡ m.1) × ((place : ℕ) × (st.word ≡ cargo_place_of m.0 place) × f m.0 place r n.0)
