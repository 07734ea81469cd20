-- What a cargo sees of the passes.
use Rattle.std.specs.Prelude.{◌≡◌, ◌≢◌, ℕ, ◌+◌, ◌-◌, ◌<◌, List, [], length, slice_index, slice_index_or, slice_set, Option, Some, None, IsTrue}
use mathlib.Core.Option.{some}
use lib.ListN.{get_elem?}
use Rattle.lock_model.specs.declared.model.Mode.{Mode}
use Rattle.lock_model.specs.declared.model.Mode.TheVariants.{Shared, Upgrade, Exclusive}
use Rattle.lock_model.specs.Locks.{go_together}

abbrev pub shared_mode : Option Mode
shared_mode = Some Shared

abbrev pub upgrade_mode : Option Mode
upgrade_mode = Some Upgrade

abbrev pub exclusive_mode : Option Mode
exclusive_mode = Some Exclusive

-- what the cargo sees of one pass: its number and quota, the mode that it holds at each lock, and what it knows of the cargo
pub record CargoSeat (P : Type 0) : Type 0 where
  pub number : ℕ
  pub quota : ℕ
  pub modes : List (Option Mode)
  pub part : P

-- two passes may have these at once
abbrev pub Together : Option Mode → Option Mode → Type 0
Together None n = Unit {0}
Together (Some m) None = Unit {0}
Together (Some m) (Some n) = IsTrue (go_together m n)

-- the first mode may be lowered to the second, or given up
abbrev pub Lowers : Option Mode → Option Mode → Type 0
Lowers None n = ⊥
Lowers (Some m) None = Unit {0}
Lowers (Some Shared) (Some n) = ⊥
Lowers (Some Upgrade) (Some Shared) = Unit {0}
Lowers (Some Upgrade) (Some Upgrade) = ⊥
Lowers (Some Upgrade) (Some Exclusive) = ⊥
Lowers (Some Exclusive) (Some Shared) = Unit {0}
Lowers (Some Exclusive) (Some Upgrade) = Unit {0}
Lowers (Some Exclusive) (Some Exclusive) = ⊥

module _ {P : Type 0} where
  abbrev pub Compatible : List (CargoSeat P) → ℕ → ℕ → Option Mode → Type 0
  Compatible qs id lock m = (j : ℕ) (q : CargoSeat P) → get_elem? qs j ≡ some q → j ≢ id → Together m (slice_index_or q.modes lock None)

  abbrev pub changed_seat : CargoSeat P → ℕ → Option Mode → P → CargoSeat P
  changed_seat q lock m part = record { number = q.number; quota = q.quota; modes = slice_set q.modes lock m; part = part }

  abbrev pub split_seat : CargoSeat P → ℕ → P → CargoSeat P
  split_seat q left part = record { number = q.number; quota = left; modes = q.modes; part = part }

  abbrev pub joined_seat : CargoSeat P → CargoSeat P → P → CargoSeat P
  joined_seat q r part = record { number = q.number; quota = q.quota + r.quota; modes = q.modes; part = part }

  abbrev pub spent_seat : P → CargoSeat P
  spent_seat part = record { number = 0; quota = 0; modes = []; part = part }

  abbrev pub noted_seat : CargoSeat P → ℕ → P → CargoSeat P
  noted_seat q used part = record { number = q.number; quota = q.quota - used; modes = q.modes; part = part }

  -- a pass meets the two of its modes with each other pass
  abbrev pub Apart : List (CargoSeat P) → Type 0
  Apart qs = (j k : ℕ) (q r : CargoSeat P) → get_elem? qs j ≡ some q → get_elem? qs k ≡ some r → j ≢ k → (lock : ℕ) → Together (slice_index_or q.modes lock None) (slice_index_or r.modes lock None)

  -- whatever the cargo is when its word at a place becomes f of what it was, the pass can have a part that `becomes` tells of, by the cargo's words of that moment and the word found, and the rule stays
  abbrev pub Notes : (List ℕ → List (CargoSeat P) → Type 0) → ℕ → CargoSeat P → ℕ → ℕ → (ℕ → ℕ) → (List ℕ → ℕ → P → P → Type 0) → Type 0
  Notes holds id q used place f becomes = (ws : List ℕ) (qs : List (CargoSeat P)) → holds ws qs → Apart qs → get_elem? qs id ≡ some q → place < length ws → slice_index ws place < 18446744073709551616
      → (part : P) × becomes ws (slice_index ws place) q.part part × holds (slice_set ws place (f (slice_index ws place))) (slice_set qs id (noted_seat q used part))

  abbrev pub learnt_seat : CargoSeat P → P → CargoSeat P
  learnt_seat q part = record { number = q.number; quota = q.quota; modes = q.modes; part = part }

  -- whatever number a step finds that touches no cargo word, the pass can have a part that `becomes` tells of, by the cargo's words of that moment, and the rule stays
  abbrev pub NotesAside : (List ℕ → List (CargoSeat P) → Type 0) → ℕ → CargoSeat P → (List ℕ → ℕ → P → P → Type 0) → Type 0
  NotesAside holds id q becomes = (ws : List ℕ) (qs : List (CargoSeat P)) → holds ws qs → Apart qs → get_elem? qs id ≡ some q → (found : ℕ) → found < 18446744073709551616 → (part : P) × becomes ws found q.part part × holds ws (slice_set qs id (learnt_seat q part))
