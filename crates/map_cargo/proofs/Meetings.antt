-- Whoever was refused met somebody, whose footprint a pass of all numbers has in its trail.
use Rattle.std.proofs.Common.{◌≡◌, ◌≢◌, ◌⊎◌, ℕ, ◌<◌, List, refl, inl, inr, ⊎_elim, true}
use mathlib.Core.Option.{some}
use lib.ListN.{get_elem?}
use Rattle.atomic_table.specs.Table.{State}
use Rattle.lock_model.specs.Locks.{Has}
use Rattle.hall.specs.declared.cargo.CargoRule.{Ghosts}
use Rattle.hall.specs.declared.view.Footprint.{Footprint}
use Rattle.hall.specs.declared.view.Plan.{Plan}
use Rattle.hall.specs.declared.view.View.{View}
use Rattle.hall.specs.Numbers.{width}
use Rattle.hall.specs.Refusals.{BusyForReading, BusyForWriting, ReadTwoWords, racing_met, reading_met, writing_met}
use Rattle.hall.specs.Rule.{Holds}
use Rattle.hall.specs.Trails.{Others, StrongOthers}
use Rattle.hall.specs.Treading.{all_trodden}
use Rattle.query_rules.specs.declared.query.Query.{Query}
use Rattle.query_rules.specs.declared.query.Query.TheVariants.{TryGet, TryPut, GetBy, PutBy}
use Rattle.query_rules.specs.declared.query.Reply.{Reply}
use Rattle.query_rules.specs.declared.query.Reply.TheVariants.{Placed, Busy, Late, Job}
use Rattle.map_cargo.specs.Entries.{named_cells}
use Rattle.map_cargo.specs.Licences.{BusyBy, LateBy, Licensed, MetWhoRefused, WasMet}

busy_reads : (reply : Reply) (R : Type 0) → BusyBy reply R → R
busy_reads Busy R h = h
busy_reads (Placed place said) R h = absurd h
busy_reads (Late now) R h = absurd h
busy_reads (Job at result) R h = absurd h

late_reads : (deadline : ℕ) (reply : Reply) (R : Type 0) → LateBy deadline reply R → R
late_reads deadline (Late now) R h = h.1
late_reads deadline (Placed place said) R h = absurd h
late_reads deadline Busy R h = absurd h
late_reads deadline (Job at result) R h = absurd h

module _ {C P : Type 0} (g : Ghosts C P) (plan : Plan C) (s : State (Unit {0}) (View P)) (h : Holds g plan s) (id : ℕ) (v : View P) (at : get_elem? s.views id ≡ some v) (whole : width v ≡ plan.shape.seats) where
  other : (number lock : ℕ) → Others s.views lock number → (m : Footprint) × Has v.trail m × (m.lock ≡ lock) × (m.number ≢ number)
  other number lock o = (o.0, all_trodden g plan s id v h at whole o.0 o.1, o.2, o.3)

  strong_other : (number lock : ℕ) → StrongOthers s.views lock number → (m : Footprint) × Has v.trail m × (m.lock ≡ lock) × (m.number ≢ number) × (m.strong ≡ true)
  strong_other number lock o = (o.0, all_trodden g plan s id v h at whole o.0 o.1, o.2, o.3, o.4)

  read_by : (number lock : ℕ) → lock < plan.shape.locks → BusyForReading plan.shape number v.steps lock → Others s.views lock number
  read_by number lock near r = let o = reading_met g plan s h id v at number lock near r in (o.0, o.1, o.2, o.3)

  pub met : MetWhoRefused plan.shape v.steps v.trail
  met number (TryGet cell key) reply near l = strong_other number cell (reading_met g plan s h id v at number cell (near cell (inl refl)) (busy_reads reply _ l))
  met number (TryPut cell key value) reply near l = other number cell (writing_met g plan s h id v at number cell (near cell (inl refl)) (busy_reads reply _ l))
  met number (GetBy cell key deadline) reply near l =
      other number cell (⊎_elim (λ r. read_by number cell (near cell (inl refl)) r) (λ r. racing_met g plan s h id v at number cell (near cell (inl refl)) r) (late_reads deadline reply _ l))
  met number (PutBy cell key value deadline) reply near l =
      other number cell (⊎_elim (λ r. writing_met g plan s h id v at number cell (near cell (inl refl)) r) (λ r. racing_met g plan s h id v at number cell (near cell (inl refl)) r) (late_reads deadline reply _ l))
  met number _ reply near l = absurd l
