-- The rule of a hall, in four parts: numbers, locks, trails and the cargo.
use Rattle.std.specs.Prelude.{◌≡◌, ℕ, ◌+◌, ◌<◌, ◌≤◌, List, [], length, map, drop, replicate, slice_index}
use mathlib.Core.Option.{some}
use lib.ListN.{get_elem?}
use Rattle.atomic_table.specs.Table.{State}
use Rattle.view_sums.specs.Sums.{total}
use Rattle.state_word.specs.declared.TheConstants.{WORDS}
use Rattle.hall.specs.declared.making.TheConstants.{MOST_SEATS, MOST_SLOTS}
use Rattle.hall.specs.declared.cargo.CargoRule.{Ghosts}
use Rattle.hall.specs.declared.view.View.{View}
use Rattle.hall.specs.declared.view.Plan.{Plan}
use Rattle.hall.specs.declared.view.Shape.{Shape}
use Rattle.hall.specs.declared.view.Standing.TheVariants.{Away}
use Rattle.hall.specs.Cargo.{CargoSeat}
use Rattle.hall.specs.Locks.{Lawful, IsSeated, IsSwept, counts, named_by}
use Rattle.hall.specs.Numbers.{Numbered}
use Rattle.hall.specs.Trails.{Trailed}
use Rattle.hall.specs.Views.{mode_of, pending, standing}

-- a pass that isn't spent knows how the hall was made, and one that is has nothing
pub record Formed {P : Type 0} (sh : Shape) (v : View P) : Type 0 where
  pub shape : 0 < v.span → v.shape ≡ sh
  pub wide : 0 < v.span → length v.standings ≡ sh.locks
  pub spent : v.span ≡ 0 → (v.standings ≡ []) × (v.steps ≡ []) × (v.taken ≡ [])
  pub seated : (lock : ℕ) → IsSeated sh.slots (standing v lock)
  -- at most one token is undecided or unit owed
  pub one_pending : total pending v.standings ≤ 1

module _ {P : Type 0} where
  abbrev pub cargo_seat : View P → CargoSeat P
  cargo_seat v = record { number = v.number; quota = v.quota; modes = map mode_of v.standings; part = v.part }

  abbrev pub AllFormed : Shape → List (View P) → Type 0
  AllFormed sh views = (j : ℕ) (v : View P) → get_elem? views j ≡ some v → Formed sh v

  abbrev pub AllLawful : Shape → List ℕ → List (View P) → Type 0
  AllLawful sh words views = (lock : ℕ) → lock < sh.locks → Lawful (slice_index words (sh.slots + lock)) (named_by sh.slots lock words) (counts lock views)

  abbrev pub AllSwept : Shape → List ℕ → List (View P) → Type 0
  AllSwept sh words views = (lock : ℕ) → lock < sh.locks → IsSwept sh.slots lock words views

module _ {C P : Type 0} (g : Ghosts C P) where
  pub record Holds (plan : Plan C) (s : State (Unit {0}) (View P)) : Type 0 where
    pub size : length s.words ≡ plan.shape.slots + plan.shape.locks + plan.shape.words
    pub some_slot : 0 < plan.shape.slots
    pub few_slots : plan.shape.slots ≤ MOST_SLOTS
    pub few : plan.shape.seats ≤ MOST_SEATS
    pub rationed : total (λ v. v.quota) s.views ≤ plan.quota
    pub counted : plan.quota < WORDS
    pub formed : AllFormed plan.shape s.views
    pub numbered : Numbered plan.shape.seats s.views
    pub lawful : AllLawful plan.shape s.words s.views
    pub swept : AllSwept plan.shape s.words s.views
    pub slot_words : (k : ℕ) → k < plan.shape.slots → slice_index s.words k ≤ plan.shape.locks
    pub trailed : Trailed plan.shape s.words s.views
    -- of a pass that was taken in nothing is left
    pub gone : (j : ℕ) (v : View P) → get_elem? s.views j ≡ some v → v.span ≡ 0 → v.part ≡ g.spent
    pub cargo : g.holds plan.cargo (drop (plan.shape.slots + plan.shape.locks) s.words) (map cargo_seat s.views)

  abbrev pub first_view : Plan C → View P
  first_view plan = record {
    shape = plan.shape;
    number = 0;
    span = plan.shape.seats;
    taken = [];
    quota = plan.quota;
    standings = replicate plan.shape.locks Away;
    steps = [];
    trail = [];
    part = g.opening plan.cargo plan.quota;
  }
