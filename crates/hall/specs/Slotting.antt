-- What each step on a slot, and each other step of deferred readers and of a sweep, tells its caller.
use Rattle.std.specs.Prelude.{◌≡◌, ◌≢◌, ℕ, ◌+◌, true, false, cond, eqb, List, None, Some}
use Rattle.atomic_table.specs.Table.{Me, Step}
use Rattle.lock_model.specs.declared.model.Act.TheVariants as act
use Rattle.state_word.specs.Words.{may_defer_of, add_of}
use Rattle.hall.specs.declared.cargo.CargoRule.{Ghosts}
use Rattle.hall.specs.declared.view.View.{View}
use Rattle.hall.specs.declared.view.StepKind.{StepKind}
use Rattle.hall.specs.declared.view.StepKind.TheVariants as kinds
use Rattle.hall.specs.declared.view.Standing.{Standing}
use Rattle.hall.specs.declared.view.Standing.TheVariants.{Away, Inline, Slotted, Undecided, Owing, Upgrade, Exclusive, Announcing}
use Rattle.hall.specs.Views.{pending, standing, after_step, after_step_at}
use Rattle.hall.specs.Moves.{Moment, MomentAt}
use Rattle.hall.specs.Plays.{Looks, Same}

-- the standing of an announced writer whose sweep goes on to the next slot
abbrev pub moved_on : Standing → Standing
moved_on Away = Away
moved_on Inline = Inline
moved_on (Slotted k) = Slotted k
moved_on (Undecided k) = Undecided k
moved_on Owing = Owing
moved_on Upgrade = Upgrade
moved_on Exclusive = Exclusive
moved_on (Announcing p h f) = Announcing (p + 1) h f

-- the same with one more unit in its hand
abbrev pub picked : Standing → Standing
picked Away = Away
picked Inline = Inline
picked (Slotted k) = Slotted k
picked (Undecided k) = Undecided k
picked Owing = Owing
picked Upgrade = Upgrade
picked Exclusive = Exclusive
picked (Announcing p h f) = Announcing (p + 1) (h + 1) f

-- with no unit in its hand
abbrev pub handless : Standing → Standing
handless Away = Away
handless Inline = Inline
handless (Slotted k) = Slotted k
handless (Undecided k) = Undecided k
handless Owing = Owing
handless Upgrade = Upgrade
handless Exclusive = Exclusive
handless (Announcing p h f) = Announcing p 0 f

-- and how many units are in it
abbrev pub hand_in : Standing → ℕ
hand_in Away = 0
hand_in Inline = 0
hand_in (Slotted k) = 0
hand_in (Undecided k) = 0
hand_in Owing = 0
hand_in Upgrade = 0
hand_in Exclusive = 0
hand_in (Announcing p h f) = h

-- a sweep stays at a slot that names its lock, and else goes on
abbrev pub looked : ℕ → ℕ → Standing → Standing
looked lock found x = cond (eqb found (lock + 1)) x (moved_on x)

module _ {P : Type 0} where
  -- at no lock a token is undecided or a unit owed
  abbrev pub HasNonePending : View P → Type 0
  HasNonePending v = (k : ℕ) → pending (standing v k) ≡ 0

  -- an exchange that names a lock in a slot: what holds where it succeeded, and where it failed
  abbrev pub PlacedAt : (View P → ℕ → ℕ → ℕ → View P → Type 0) → (View P → ℕ → ℕ → ℕ → View P → Type 0) → Step (Unit {0}) → Me (Unit {0}) (View P) → ℕ → Me (Unit {0}) (View P) → Type 0
  PlacedAt won lost st m r n = Same m n × ((lock : ℕ) → st.second ≡ lock + 1 → (r ≡ st.first → won m.0 lock st.word r n.0) × (r ≢ st.first → lost m.0 lock st.word r n.0))

  -- one that clears a slot which names a lock
  abbrev pub ClearedAt : (View P → ℕ → ℕ → ℕ → View P → Type 0) → (View P → ℕ → ℕ → ℕ → View P → Type 0) → Step (Unit {0}) → Me (Unit {0}) (View P) → ℕ → Me (Unit {0}) (View P) → Type 0
  ClearedAt won lost st m r n = Same m n × ((lock : ℕ) → st.first ≡ lock + 1 → (r ≡ st.first → won m.0 lock st.word r n.0) × (r ≢ st.first → lost m.0 lock st.word r n.0))

  -- a load of a slot's word, for this lock
  abbrev pub LookedAt : ℕ → (View P → ℕ → ℕ → ℕ → View P → Type 0) → Step (Unit {0}) → Me (Unit {0}) (View P) → ℕ → Me (Unit {0}) (View P) → Type 0
  LookedAt lock f st m r n = Same m n × f m.0 lock st.word r n.0

module _ {C P : Type 0} (g : Ghosts C P) where
  -- a step that found this word in a slot and left it, left this standing and moved nothing
  abbrev pub SlotStays : StepKind → Standing → View P → ℕ → ℕ → ℕ → View P → Type 0
  SlotStays kind y v lock slot found w = (w ≡ after_step_at v kind lock slot found false y v.part) × MomentAt g v w lock slot found found None

  -- a token was placed in an empty slot
  abbrev pub PlacesToken : View P → ℕ → ℕ → ℕ → View P → Type 0
  PlacesToken v lock slot found w = (w ≡ after_step_at v kinds.PlaceSlot lock slot 0 true (Undecided slot) v.part) × MomentAt g v w lock slot 0 (lock + 1) None

  -- the slot was taken
  abbrev pub FindsTaken : View P → ℕ → ℕ → ℕ → View P → Type 0
  FindsTaken v lock slot found w = SlotStays kinds.PlaceSlot (standing v lock) v lock slot found w

  -- who placed a token in a slot found that readers may defer, and holds the lock by it
  abbrev pub Defers : ℕ → View P → ℕ → ℕ → View P → Type 0
  Defers slot v lock found w = ((ws : List ℕ) × (part : P) × g.gains lock ws v.part part × (w ≡ after_step v kinds.Check lock found false (Slotted slot) part)) × Moment g v w lock found found (Some act.EnterShared)

  -- it looked at the lock's word: where readers may defer it is inside, and else undecided as before
  abbrev pub Checks : View P → ℕ → ℕ → View P → Type 0
  Checks v lock found w = (slot : ℕ) → standing v lock ≡ Undecided slot → (may_defer_of found ≡ 1 → Defers slot v lock found w) × (may_defer_of found ≡ 0 → Looks g kinds.Check v lock found w)

  -- an undecided pass took its token back
  abbrev pub Withdraws : View P → ℕ → ℕ → ℕ → View P → Type 0
  Withdraws v lock slot found w = (w ≡ after_step_at v kinds.WithdrawSlot lock slot (lock + 1) true Away v.part) × MomentAt g v w lock slot (lock + 1) 0 None

  -- its token is gone: it owes a unit
  abbrev pub Owes : View P → ℕ → ℕ → ℕ → View P → Type 0
  Owes v lock slot found w = SlotStays kinds.WithdrawSlot Owing v lock slot found w

  -- a reader with a token in a slot left
  abbrev pub LeavesSlot : View P → ℕ → ℕ → ℕ → View P → Type 0
  LeavesSlot v lock slot found w = (w ≡ after_step_at v kinds.LeaveSlot lock slot (lock + 1) true Away (g.lowered lock None v.part)) × MomentAt g v w lock slot (lock + 1) 0 (Some act.Leave)

  -- its token is gone: its unit is in the count, and it is inside as before
  abbrev pub IsInline : View P → ℕ → ℕ → ℕ → View P → Type 0
  IsInline v lock slot found w = SlotStays kinds.LeaveSlot Inline v lock slot found w

  -- a sweep looked at the slot at its place
  abbrev pub LooksAtSlot : View P → ℕ → ℕ → ℕ → View P → Type 0
  LooksAtSlot v lock slot found w = SlotStays kinds.Look (looked lock found (standing v lock)) v lock slot found w

  -- it took the token there into its hand
  abbrev pub PicksToken : View P → ℕ → ℕ → ℕ → View P → Type 0
  PicksToken v lock slot found w = (w ≡ after_step_at v kinds.Pick lock slot (lock + 1) true (picked (standing v lock)) v.part) × MomentAt g v w lock slot (lock + 1) 0 None

  -- the slot doesn't name the lock any more
  abbrev pub FindsCleared : View P → ℕ → ℕ → ℕ → View P → Type 0
  FindsCleared v lock slot found w = SlotStays kinds.Pick (moved_on (standing v lock)) v lock slot found w

  -- the units in its hand were added to the count
  abbrev pub AddsHand : View P → ℕ → ℕ → View P → Type 0
  AddsHand v lock found w = (w ≡ after_step v kinds.AddHand lock found true (handless (standing v lock)) v.part) × Moment g v w lock found (add_of found (hand_in (standing v lock))) None
