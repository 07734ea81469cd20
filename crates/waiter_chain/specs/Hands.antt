-- The slots that a pass has in hand, in order.
use Rattle.std.specs.Prelude.{◌≡◌, ◌≢◌, ◌⊎◌, ℕ, zero, suc, ◌+◌, ◌*◌, ◌≤◌, List, [], length}
use Rattle.atomic_table.specs.Table.{turned}

module _ {A : Type 0} where
  -- the first slot of the hand goes behind the others, so many times
  abbrev pub turned_by : ℕ → List (ℕ × A) → List (ℕ × A)
  turned_by zero c = c
  turned_by (suc k) c = turned (turned_by k c)

  -- Where the slot stands in the hand of the pass n, with these slots before it and these behind it. Slot 0 is the first, the pass's own job slot the second; of the next node the job slot is the last, and the answer slot stands before that. Any slot may be alone.
  abbrev pub StandsAt : ℕ → ℕ → List (ℕ × A) → List (ℕ × A) → Type 0
  StandsAt n slot before after = (length before + length after ≤ 3)
      × (((slot ≡ 0) × (before ≡ [])) ⊎ ((slot ≡ 1 + 2 * n) × (length before ≡ 1)) ⊎ ((x : ℕ) × (slot ≡ 1 + 2 * x) × (x ≢ n) × (after ≡ [])) ⊎ ((x : ℕ) × (slot ≡ 2 + 2 * x) × (length after ≡ 1)) ⊎ ((before ≡ []) × (after ≡ [])))

-- so many turns bring the slot to the front of such a hand, and twelve turns leave each hand of at most four slots as it was
abbrev pub TurnsTo : ℕ → ℕ → ℕ → Type 0
TurnsTo n slot t = (t ≤ 12) × (slot ≡ 0 → t ≡ 0) × (slot ≡ 1 + 2 * n → t ≡ 1) × ((x : ℕ) → slot ≡ 1 + 2 * x → x ≢ n → t ≡ 11) × ((x : ℕ) → slot ≡ 2 + 2 * x → t ≡ 10)
