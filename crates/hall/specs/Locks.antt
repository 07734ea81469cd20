-- What a lock's state word and the slots say of the passes' standings at the lock.
use Rattle.std.specs.Prelude.{◌≡◌, ℕ, zero, suc, ◌+◌, ◌*◌, ◌%◌, ◌<◌, ◌≤◌, cond, eqb, nat_lt, List, slice_index}
use Rattle.state_word.specs.declared.TheConstants.{UPGRADE, BEGUN, HELD, ONE, WORDS}
use Rattle.state_word.specs.Words.{may_defer_of}
use Rattle.view_sums.specs.Sums.{total}
use Rattle.hall.specs.declared.view.View.{View}
use Rattle.hall.specs.declared.view.Standing.{Standing}
use Rattle.hall.specs.declared.view.Standing.TheVariants.{Away, Inline, Slotted, Undecided, Owing, Upgrade, Exclusive, Announcing}
use Rattle.hall.specs.Views.{standing}

-- counts of the standings at one lock; announced writers are plain or from upgrade (raised), and their hands are added up
pub record Tally : Type 0 where
  pub shared : ℕ
  pub undecided : ℕ
  pub owing : ℕ
  pub upgrade : ℕ
  pub plain : ℕ
  pub raised : ℕ
  pub exclusive : ℕ
  pub hand : ℕ

abbrev pub tally : ℕ → ℕ → ℕ → ℕ → ℕ → ℕ → ℕ → ℕ → Tally
tally sh un ow up pl ra ex ha = record { shared = sh; undecided = un; owing = ow; upgrade = up; plain = pl; raised = ra; exclusive = ex; hand = ha }

-- what one standing counts as
abbrev pub weight : Standing → Tally
weight Away = tally 0 0 0 0 0 0 0 0
weight Inline = tally 1 0 0 0 0 0 0 0
weight (Slotted k) = tally 1 0 0 0 0 0 0 0
weight (Undecided k) = tally 0 1 0 0 0 0 0 0
weight Owing = tally 0 0 1 0 0 0 0 0
weight Upgrade = tally 0 0 0 1 0 0 0 0
weight Exclusive = tally 0 0 0 0 0 0 1 0
weight (Announcing p h f) = tally 0 0 0 0 (cond f 0 1) (cond f 1 0) 0 h

-- The word of a lock with these counts, where so many slots name it: the four bits, and the inline count together with the hands and the slots is the number of readers.
-- It is taken round 2^64, so that the count may be negative; the word itself is one of 64 bits.
pub record Lawful (w named : ℕ) (t : Tally) : Type 0 where
  pub bounded : w < WORDS
  pub may : ℕ
  pub bit : may ≤ 1
  pub shows : (w + ONE * (t.hand + named)) % WORDS ≡ may + UPGRADE * (t.upgrade + t.raised) + BEGUN * (t.plain + t.raised) + HELD * t.exclusive + ONE * (t.shared + t.undecided + t.owing)
  -- at most one seat is strong
  pub alone : t.upgrade + t.plain + t.raised + t.exclusive ≤ 1
  -- an exclusive holder stands beside no reader
  pub nobody : 1 ≤ t.exclusive → t.shared + t.owing ≡ 0
  -- no reader defers beside an announced or exclusive writer
  pub barred : 1 ≤ t.plain + t.raised + t.exclusive → may ≡ 0
  pub drained : 1 ≤ t.exclusive → w ≡ HELD

-- f 0 + .. + f (n - 1)
abbrev pub below : (ℕ → ℕ) → ℕ → ℕ
below f zero = 0
below f (suc n) = below f n + f n

-- 1 where a slot word names the lock
abbrev pub naming : ℕ → ℕ → ℕ
naming lock x = cond (eqb x (lock + 1)) 1 0

-- how many slots name the lock
abbrev pub named_by : ℕ → ℕ → List ℕ → ℕ
named_by slots lock words = below (λ k. naming lock (slice_index words k)) slots

-- 1 where a pass with this standing accounts for a token in slot k: it is undecided about that slot, or it is announced and hasn't looked at it yet
abbrev pub cover : ℕ → Standing → ℕ
cover k Away = 0
cover k Inline = 0
cover k (Slotted j) = 0
cover k (Undecided j) = cond (eqb j k) 1 0
cover k Owing = 0
cover k Upgrade = 0
cover k Exclusive = 0
cover k (Announcing p h f) = cond (nat_lt k p) 0 1

-- where a standing's slots and places are
abbrev pub IsSeated : ℕ → Standing → Type 0
IsSeated slots Away = Unit {0}
IsSeated slots Inline = Unit {0}
IsSeated slots (Slotted k) = k < slots
IsSeated slots (Undecided k) = k < slots
IsSeated slots Owing = Unit {0}
IsSeated slots Upgrade = Unit {0}
IsSeated slots Exclusive = Unit {0}
IsSeated slots (Announcing p h f) = (h ≤ p) × (p ≤ slots)

module _ {P : Type 0} where
  abbrev pub count : (Tally → ℕ) → ℕ → View P → ℕ
  count f lock v = f (weight (standing v lock))

  abbrev pub counts : ℕ → List (View P) → Tally
  counts lock views =
      tally (total (count (λ t. t.shared) lock) views) (total (count (λ t. t.undecided) lock) views) (total (count (λ t. t.owing) lock) views) (total (count (λ t. t.upgrade) lock) views) (total (count (λ t. t.plain) lock) views)
      (total (count (λ t. t.raised) lock) views) (total (count (λ t. t.exclusive) lock) views) (total (count (λ t. t.hand) lock) views)

  abbrev pub covered : ℕ → ℕ → List (View P) → ℕ
  covered k lock views = total (λ v. cover k (standing v lock)) views

  -- each slot that names the lock has a pass that accounts for it, unless readers may defer
  abbrev pub IsSwept : ℕ → ℕ → List ℕ → List (View P) → Type 0
  IsSwept slots lock words views = (k : ℕ) → k < slots → naming lock (slice_index words k) ≤ may_defer_of (slice_index words (slots + lock)) + covered k lock views
