-- A view as plain data, and what one step does to it.
use Rattle.std.specs.Prelude.{ℕ, ◌+◌, ◌-◌, Bool, true, false, ◌&&◌, ◌||◌, cond, List, [], ◌∷◌, ◌++◌, slice_index_or, slice_set, replicate, Option, None}
use Rattle.hall.specs.declared.view.View.{View}
use Rattle.hall.specs.declared.view.StepKind.{StepKind}
use Rattle.hall.specs.declared.view.StepKind.TheVariants.{Split, Join}
use Rattle.lock_model.specs.declared.model.Policy.TheVariants.{ReadPriority}
use Rattle.lock_model.specs.declared.model.Mode.{Mode}
use Rattle.hall.specs.Cargo.{shared_mode, upgrade_mode, exclusive_mode}
use Rattle.hall.specs.declared.view.StepEntry.{StepEntry}
use Rattle.hall.specs.declared.view.Footprint.{Footprint}
use Rattle.hall.specs.declared.view.Standing.{Standing}
use Rattle.hall.specs.declared.view.Standing.TheVariants.{Away, Inline, Slotted, Undecided, Owing, Upgrade, Exclusive, Announcing}

abbrev pub is_away : Standing → Bool
is_away Away = true
is_away Inline = false
is_away (Slotted k) = false
is_away (Undecided k) = false
is_away Owing = false
is_away Upgrade = false
is_away Exclusive = false
is_away (Announcing p h f) = false

-- it holds nothing and owes nothing
abbrev pub is_outside : Standing → Bool
is_outside Away = true
is_outside Inline = false
is_outside (Slotted k) = false
is_outside (Undecided k) = true
is_outside Owing = false
is_outside Upgrade = false
is_outside Exclusive = false
is_outside (Announcing p h f) = false

abbrev pub is_strong : Standing → Bool
is_strong Away = false
is_strong Inline = false
is_strong (Slotted k) = false
is_strong (Undecided k) = false
is_strong Owing = false
is_strong Upgrade = true
is_strong Exclusive = true
is_strong (Announcing p h f) = true

-- 1 where a token is undecided or a unit is owed
abbrev pub pending : Standing → ℕ
pending Away = 0
pending Inline = 0
pending (Slotted k) = 0
pending (Undecided k) = 1
pending Owing = 1
pending Upgrade = 0
pending Exclusive = 0
pending (Announcing p h f) = 0

-- the mode that a standing holds
abbrev pub mode_of : Standing → Option Mode
mode_of Away = None
mode_of Inline = shared_mode
mode_of (Slotted k) = shared_mode
mode_of (Undecided k) = None
mode_of Owing = None
mode_of Upgrade = upgrade_mode
mode_of Exclusive = exclusive_mode
mode_of (Announcing p h f) = cond f upgrade_mode None

abbrev pub footprint : ℕ → ℕ → Bool → Footprint
footprint n lock strong = record { number = n; lock = lock; strong = strong }

-- a step from the standing x to y leaves a footprint, unless both are away
abbrev pub footprints_left : ℕ → ℕ → Standing → Standing → List Footprint
footprints_left n lock x y = cond (is_away x && is_away y) [] (footprint n lock (is_strong x || is_strong y) ∷ [])

module _ {P : Type 0} where
  abbrev pub standing : View P → ℕ → Standing
  standing v lock = slice_index_or v.standings lock Away

  -- the place of a lock's word in the table
  abbrev pub place_of : View P → ℕ → ℕ
  place_of v lock = v.shape.slots + lock

  -- the place of a cargo word in the table
  abbrev pub cargo_place_of : View P → ℕ → ℕ
  cargo_place_of v place = v.shape.slots + v.shape.locks + place

  -- a step for a lock, on the word at a place of the table
  abbrev pub entry_at : View P → StepKind → ℕ → ℕ → ℕ → Bool → StepEntry
  entry_at v kind lock place word won = record { number = v.number; kind = kind; lock = lock; place = place; before = standing v lock; word = word; won = won }

  -- the same on the lock's own word
  abbrev pub entry_of : View P → StepKind → ℕ → ℕ → Bool → StepEntry
  entry_of v kind lock word won = entry_at v kind lock (place_of v lock) word won

  -- the view after a step for a lock, on the word at a place of the table, that leaves the standing y at the lock, and the part
  abbrev pub after_step_at : View P → StepKind → ℕ → ℕ → ℕ → Bool → Standing → P → View P
  after_step_at v kind lock place word won y part = record {
    shape = v.shape;
    number = v.number;
    span = v.span;
    taken = v.taken;
    quota = v.quota;
    standings = slice_set v.standings lock y;
    steps = entry_at v kind lock place word won ∷ v.steps;
    trail = footprints_left v.number lock (standing v lock) y ++ v.trail;
    part = part;
  }

  -- the same on the lock's own word
  abbrev pub after_step : View P → StepKind → ℕ → ℕ → Bool → Standing → P → View P
  after_step v kind lock word won y part = after_step_at v kind lock (place_of v lock) word won y part

  -- the view after a step that found a word and changed nothing
  abbrev pub after_look : View P → StepKind → ℕ → ℕ → View P
  after_look v kind lock word = after_step v kind lock word false (standing v lock) v.part

  -- the view of who stays, after so many of its numbers and so much of its quota were given
  abbrev pub split_left : ℕ → ℕ → P → View P → View P
  split_left seats quota part v = record {
    shape = v.shape;
    number = v.number;
    span = v.span - seats;
    taken = v.taken;
    quota = v.quota - quota;
    standings = v.standings;
    steps = record { number = v.number; kind = Split; lock = 0; place = 0; before = Away; word = 0; won = false } ∷ v.steps;
    trail = v.trail;
    part = part;
  }

  -- the view of the new pass
  abbrev pub split_right : ℕ → ℕ → P → View P → View P
  split_right seats quota part v = record {
    shape = v.shape;
    number = v.number + v.span - seats;
    span = seats;
    taken = [];
    quota = quota;
    standings = replicate v.shape.locks Away;
    steps = [];
    trail = [];
    part = part;
  }

  -- the view of a pass that took another in
  abbrev pub joined_view : P → View P → View P → View P
  joined_view part v w = record {
    shape = v.shape;
    number = v.number;
    span = v.span;
    taken = (w.number, w.span) ∷ (w.taken ++ v.taken);
    quota = v.quota + w.quota;
    standings = v.standings;
    steps = record { number = v.number; kind = Join; lock = 0; place = 0; before = Away; word = 0; won = false } ∷ (w.steps ++ v.steps);
    trail = w.trail ++ v.trail;
    part = part;
  }

  -- the view that is left of a pass that was taken in
  abbrev pub spent_view : P → View P
  spent_view part = record { shape = record { locks = 0; slots = 0; seats = 0; policy = ReadPriority; words = 0 }; number = 0; span = 0; taken = []; quota = 0; standings = []; steps = []; trail = []; part = part }

  -- the view after a step on a cargo word at a place of the table
  abbrev pub after_note : View P → StepKind → ℕ → ℕ → Bool → ℕ → P → View P
  after_note v kind place word won used part = record {
    shape = v.shape;
    number = v.number;
    span = v.span;
    taken = v.taken;
    quota = v.quota - used;
    standings = v.standings;
    steps = record { number = v.number; kind = kind; lock = 0; place = place; before = Away; word = word; won = won } ∷ v.steps;
    trail = v.trail;
    part = part;
  }
