-- What became of a reader's token: where it was placed, what a look decided, and how it ended.
use Rattle.std.specs.Prelude.{◌≡◌, ◌≢◌, ◌⊎◌, ℕ, ◌+◌, ◌*◌, ◌%◌, ◌<◌, slice_index}
use Rattle.state_word.specs.Words.{may_defer_of}
use Rattle.hall.specs.declared.cargo.CargoRule.{Ghosts}
use Rattle.hall.specs.declared.view.View.{View}
use Rattle.hall.specs.declared.view.StepKind.TheVariants as kinds
use Rattle.hall.specs.declared.view.Standing.{Standing}
use Rattle.hall.specs.declared.view.Standing.TheVariants.{Away, Slotted, Undecided}
use Rattle.hall.specs.Plays.{Looks, GivesBack}
use Rattle.hall.specs.Slotting.{PlacesToken, FindsTaken, Defers, Withdraws, Owes, LeavesSlot, IsInline}
use Rattle.hall.specs.Views.{standing}
use Rattle.reader_slots.specs.declared.Placed.{Placed}
use Rattle.reader_slots.specs.declared.Placed.TheVariants.{At, Taken}
use Rattle.reader_slots.specs.declared.Checked.{Checked}
use Rattle.reader_slots.specs.declared.Checked.TheVariants.{Inside, NotInside}
use Rattle.reader_slots.specs.declared.Withdrawn.{Withdrawn}
use Rattle.reader_slots.specs.declared.Withdrawn.TheVariants.{Cleared, GaveBack}

-- the two slots that a seat tries, of so many
abbrev pub first_slot : ℕ → ℕ → ℕ
first_slot slots number = (2 * number) % slots

abbrev pub second_slot : ℕ → ℕ → ℕ
second_slot slots number = (2 * number + 1) % slots

-- where a try to place a token leaves the pass, and that its slot is one of so many
abbrev pub stands_placed : Placed → Standing
stands_placed (At slot) = Undecided slot
stands_placed (Taken seen) = Away

abbrev pub IsPlacedAt : ℕ → Placed → Type 0
IsPlacedAt slots (At slot) = slot < slots
IsPlacedAt slots (Taken seen) = Unit {0}

-- where a look leaves a pass whose token stands in this slot
abbrev pub stands_checked : ℕ → Checked → Standing
stands_checked slot Inside = Slotted slot
stands_checked slot (NotInside word) = Undecided slot

module _ {C P : Type 0} (g : Ghosts C P) where
  -- the first slot was found taken, by a word that isn't 0
  abbrev pub FindsFirstTaken : View P → ℕ → ℕ → View P → Type 0
  FindsFirstTaken v lock found w = (found ≢ 0) × FindsTaken g v lock (first_slot v.shape.slots v.number) found w

  -- At: the token was placed in the first slot; or that was taken, and the token was placed in the second.
  -- Taken: both were taken, by these words
  abbrev pub Places : View P → ℕ → Placed → View P → Type 0
  Places v lock (At slot) w = ((slot ≡ first_slot v.shape.slots v.number) × PlacesToken g v lock slot 0 w)
      ⊎ ((slot ≡ second_slot v.shape.slots v.number) × ((u : View P) × (found : ℕ) × FindsFirstTaken v lock found u × PlacesToken g u lock slot 0 w))
  Places v lock (Taken seen) w = (u : View P) × FindsFirstTaken v lock (slice_index seen 0) u × (slice_index seen 1 ≢ 0) × FindsTaken g u lock (second_slot v.shape.slots v.number) (slice_index seen 1) w

  -- Inside: a look found the may-defer bit set, and the pass holds shared by its token. NotInside: it found the bit clear in this word
  abbrev pub ChecksAs : View P → ℕ → Checked → View P → Type 0
  ChecksAs v lock Inside w = (word : ℕ) × (may_defer_of word ≡ 1) × ((slot : ℕ) → standing v lock ≡ Undecided slot → Defers g slot v lock word w)
  ChecksAs v lock (NotInside word) w = (may_defer_of word ≡ 0) × Looks g kinds.Check v lock word w

  -- Cleared: the slot named the lock, and the token was taken back. GaveBack: the slot held another word, and a unit was given back to the count
  abbrev pub WithdrawsAs : View P → ℕ → ℕ → Withdrawn → View P → Type 0
  WithdrawsAs v lock slot Cleared w = Withdraws g v lock slot (lock + 1) w
  WithdrawsAs v lock slot GaveBack w = (u : View P) × (found : ℕ) × (found ≢ lock + 1) × Owes g v lock slot found u × ((word : ℕ) × GivesBack g u lock word w)

  -- and so where a reader left its slot
  abbrev pub LeavesAs : View P → ℕ → ℕ → Withdrawn → View P → Type 0
  LeavesAs v lock slot Cleared w = LeavesSlot g v lock slot (lock + 1) w
  LeavesAs v lock slot GaveBack w = (u : View P) × (found : ℕ) × (found ≢ lock + 1) × IsInline g v lock slot found u × ((word : ℕ) × GivesBack g u lock word w)
