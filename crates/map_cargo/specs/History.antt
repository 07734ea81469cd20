-- The rule of the cargo: there is one history of writes, and each pass knows a part of it.
use Rattle.std.specs.Prelude.{◌≡◌, ◌≢◌, ℕ, ◌+◌, ◌<◌, ◌≤◌, ◌^◌, cond, eqb, nat_lt, true, false, List, [], ◌∷◌, ◌++◌, length, slice_index, slice_index_or, Option, Some, None}
use mathlib.Core.Option.{some}
use lib.ListN.{get_elem?}
use Rattle.view_sums.specs.Sums.{total}
use Rattle.lock_model.specs.Locks.{Has}
use Rattle.lock_model.specs.declared.model.Mode.{Mode}
use Rattle.hall.specs.Cargo.{CargoSeat, exclusive_mode}
use Rattle.query_rules.specs.declared.query.Reply.{Reply}
use Rattle.query_rules.specs.declared.query.Reply.TheVariants.{Placed, Busy, Late, Job}
use Rattle.query_rules.specs.Maps.{Maps, reply_of, is_write}
use Rattle.query_rules.specs.History.{maps_after}
use Rattle.map_cargo.specs.declared.size.MapCargo.{MapCargo}
use Rattle.map_cargo.specs.declared.entry.Entry.{Entry}
use Rattle.map_cargo.specs.declared.entry.Told.{Told}
use Rattle.map_cargo.specs.declared.entry.Told.TheVariants.{Wrote, Read, Refused}
use Rattle.map_cargo.specs.declared.entry.Made.{Made}
use Rattle.map_cargo.specs.declared.entry.Part.{Part}
use Rattle.map_cargo.specs.Cells.{number_place, log_place, word_count, cell_words, Means, lookup}
use Rattle.map_cargo.specs.Entries.{queries, log_words}
use Rattle.map_cargo.specs.Openings.{first_maps, map_made, unmade}

abbrev pub Seat : Type 0
Seat = CargoSeat Part

abbrev pub mode_at : Seat → ℕ → Option Mode
mode_at q lock = slice_index_or q.modes lock None

abbrev pub Each : (Seat → Type 0) → List Seat → Type 0
Each F qs = (j : ℕ) (q : Seat) → get_elem? qs j ≡ some q → F q

-- 1 where a reply is write number w
abbrev pub is_wrote : ℕ → Told → ℕ
is_wrote w (Wrote n e) = cond (eqb n w) 1 0
is_wrote w (Read n e) = 0
is_wrote w (Refused caller index query reply) = 0

-- a reply of a lock that refused: it has no place in a history
abbrev pub IsRefusal : Reply → Type 0
IsRefusal (Placed place said) = ⊥
IsRefusal Busy = Unit {0}
IsRefusal (Late now) = Unit {0}
IsRefusal (Job at result) = ⊥

-- how many words of log row w are stored, where the pass drew it
abbrev pub stored : Part → ℕ → ℕ
stored p w = cond (eqb p.row w) p.stored 8

-- the words of a cell, as a pass knows them
abbrev pub words_of : Part → ℕ → List ℕ
words_of p cell = lookup [] p.words cell

-- no log row is half stored
abbrev pub IsRested : Part → Type 0
IsRested p = p.stored ≡ 8

-- a pass that gained a mode at a lock knows the words of its cell, and what made its plain map
abbrev pub learnt : Part → ℕ → List ℕ → Made → Part
learnt p lock words made = record { words = (lock, words) ∷ p.words; made = (lock, made) ∷ p.made; seen = p.seen; told = p.told; row = p.row; stored = p.stored }

abbrev pub first_part : Part
first_part = record { words = []; made = []; seen = 0; told = []; row = 0; stored = 8 }

-- the part of a new pass: it has seen what the old one has seen
abbrev pub split_part : Part → Part
split_part p = record { words = []; made = []; seen = p.seen; told = []; row = 0; stored = 8 }

abbrev pub max_of : ℕ → ℕ → ℕ
max_of a b = cond (nat_lt a b) b a

abbrev pub joined_part : Part → Part → Part
joined_part p r = record { words = p.words; made = p.made; seen = max_of p.seen r.seen; told = r.told ++ p.told; row = p.row; stored = p.stored }

-- the maps before the first write
module _ (opening : Maps) where
  -- an entry is write number w of these, which stand with the newest first
  pub record WrittenAs (rows : ℕ) (entries : List Entry) (w : ℕ) (e : Entry) : Type 0 where
    pub newer : List Entry
    pub older : List Entry
    pub stands : entries ≡ newer ++ e ∷ older
    pub number : length older ≡ w
    pub said : reply_of rows (maps_after opening (queries older)) e.query ≡ Some e.said
    pub writes : is_write e.said ≡ true

  -- an entry is a read after w of these
  pub record ReadAfter (rows : ℕ) (entries : List Entry) (w : ℕ) (e : Entry) : Type 0 where
    pub newer : List Entry
    pub older : List Entry
    pub stands : entries ≡ newer ++ older
    pub number : length older ≡ w
    pub said : reply_of rows (maps_after opening (queries older)) e.query ≡ Some e.said
    pub reads : is_write e.said ≡ false

  -- a reply is the plain one on the maps of its number, or is one that has no place
  abbrev pub Stands : ℕ → List Entry → Told → Type 0
  Stands rows entries (Wrote w e) = WrittenAs rows entries w e
  Stands rows entries (Read w e) = ReadAfter rows entries w e
  Stands rows entries (Refused caller index query reply) = IsRefusal reply

-- the plain maps of the cells that a pass holds, as it knows them
abbrev pub plain_of : Part → Maps
plain_of p cell = map_made (lookup unmade p.made cell) cell

-- what one pass knows is so
pub record Knows (c : MapCargo) (entries : List Entry) (ws : List ℕ) (q : Seat) : Type 0 where
  pub seen : q.part.seen ≤ length entries
  pub told : (t : Told) → Has q.part.told t → Stands (first_maps c) c.rows entries t
  -- its log rows hold their entries' words, as far as it has stored them
  pub logged : (w : ℕ) (e : Entry) → Has q.part.told (Wrote w e) → (j : ℕ) → j < 8 → j < stored q.part w → slice_index ws (log_place c w j) ≡ slice_index (log_words e) j
  -- of a cell that it holds it knows the words and the plain map
  pub known : (cell : ℕ) → cell < c.cells → mode_at q cell ≢ None → (words_of q.part cell ≡ cell_words c ws cell) × (plain_of q.part cell ≡ maps_after (first_maps c) (queries entries) cell)

-- There is one list of writes: the number word counts them, each pass knows what is so of it, each write is in one pass's replies, and a cell that nobody holds exclusively has its plain map
pub record OneHistory (c : MapCargo) (ws : List ℕ) (qs : List Seat) : Type 0 where
  -- the newest first
  pub entries : List Entry
  pub size : length ws ≡ word_count c
  pub number : slice_index ws (number_place c) ≡ length entries
  -- all quotas can still be drawn
  pub room : length entries + total (λ q. q.quota) qs ≤ c.writes
  pub few : c.writes < 2 ^ 64
  pub knows : Each (Knows c entries ws) qs
  pub once : (w : ℕ) → w < length entries → total (λ q. total (is_wrote w) q.part.told) qs ≡ 1
  pub calm : (cell : ℕ) → cell < c.cells → Each (λ q. mode_at q cell ≢ exclusive_mode) qs → Means (cell_words c ws cell) (maps_after (first_maps c) (queries entries) cell)

-- the rule held of these words, so many writes were drawn, and the entry says what the plain maps after them say
pub record IsPlainThen (c : MapCargo) (ws : List ℕ) (number : ℕ) (e : Entry) : Type 0 where
  pub seats : List Seat
  pub rule : OneHistory c ws seats
  pub count : length rule.entries ≡ number
  pub said : reply_of c.rows (maps_after (first_maps c) (queries rule.entries)) e.query ≡ Some e.said

-- what is known of a cell after a gain: its words mean its plain map
abbrev pub Learns : ℕ → Part → Part → Type 0
Learns lock p q = (words : List ℕ) × (made : Made) × Means words (map_made made lock) × (q ≡ learnt p lock words made)

-- the cell's words mean its plain map
abbrev pub IsSettled : ℕ → Part → Type 0
IsSettled lock p = Means (words_of p lock) (plain_of p lock)
