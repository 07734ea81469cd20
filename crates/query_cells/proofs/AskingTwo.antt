-- A query of two cells: they are taken, it is asked, and they are given back.
use Rattle.std.specs.Prelude.{◌≡◌, ◌≢◌, ℕ, ◌==◌, Bool, true, false, cond, List, [], ◌∷◌}
use Rattle.std.proofs.Common.{sym, subst, ne_eqb}
use Rattle.lock_model.specs.Locks.{Has}
use Rattle.lock_model.specs.declared.model.Mode.{Mode}
use Rattle.lock_model.specs.declared.model.Mode.TheVariants as modes
use Rattle.hall.specs.declared.view.Shape.{Shape}
use Rattle.hall.specs.declared.view.View.{View}
use Rattle.hall.specs.Treading.{Treads, treads_as, treads_then}
use Rattle.acquire_many.specs.declared.guards.Guards.{Guards}
use Rattle.acquire_many.specs.Guards.{said_by}
use Rattle.acquire_many.specs.Met.{IsFor}
use Rattle.acquire_many.specs.MetLaws.{of_held}
use Rattle.acquire_many.specs.Took.{IsForHeld}
use Rattle.acquire_many.specs.Wants.{Want}
use Rattle.query_rules.specs.declared.query.Query.{Query}
use Rattle.query_rules.specs.declared.query.Reply.{Reply}
use Rattle.query_rules.specs.Licence.{taken_cells, is_strong}
use Rattle.map_cargo.specs.declared.size.MapCargo.{MapCargo}
use Rattle.map_cargo.specs.declared.entry.Part.{Part}
use Rattle.map_cargo.specs.Steps.{Left, MoreSteps}
use Rattle.sync_cell.specs.Cells.{maps}
use Rattle.query_cells.specs.Asked.{MayTread, TakesInOrder}
use Rattle.query_cells.specs.Answers.{ChangesWords, LeadsBack, Tells}
use Rattle.query_cells.specs.Two.{GuardsBoth, IsAtCells, TakesBoth, both_wanted}
use Rattle.query_cells.proofs.Pairs.{words_tell_nothing}
use Rattle.query_cells.proofs.Replies.{nothing_then, tells_after, tells_then}
use Rattle.query_cells.proofs.TakingTwo.{for_cells}
use Rattle.query_cells.proofs.Trails.{alike_treads}
use Rattle.query_cells.proofs.Tries.{order_then}

-- the cells that a query of two takes
taken : (same : Bool) (one other k : ℕ) → Has (cond same [] (one ∷ other ∷ [])) k → Has (one ∷ other ∷ []) k
taken true one other k has = absurd has
taken false one other k has = has

taken_apart : (one other k : ℕ) → one ≢ other → Has (one ∷ other ∷ []) k → Has (cond (one == other) [] (one ∷ other ∷ [])) k
taken_apart one other k ne has = subst (λ (b : Bool). Has (cond b [] (one ∷ other ∷ [])) k) (sym (ne_eqb one other ne)) has

-- a pass took two cells (v to a), looked at their words or changed them (a to u), told a reply (u to t), and gave them back (t to w)
module _ (c : MapCargo) (shape : Shape) (one other : ℕ) (mode : Mode) (guards : Guards) (q : Query) (v a u t w : View Part)
    (took : TakesBoth shape one other mode guards v a) (words : ChangesWords a u) (more : MoreSteps u t) (back : LeadsBack c t w) (takes : taken_cells q ≡ cond (one == other) [] (one ∷ other ∷ [])) where
  pub both_tell : (index : ℕ) (reply : Reply) → Tells c u t index q reply → Left t w → Tells c v w index q reply
  both_tell index reply tells left = tells_after c v u w index q reply (nothing_then v a u took.nothing (words_tell_nothing a u words)) (tells_then c u t w index q reply tells left back)

  pub both_in_order : TakesInOrder q v w
  both_in_order = λ low high has_low has_high less.
      let first : Has (one ∷ other ∷ []) low = taken (one == other) one other low (subst (λ (l : List ℕ). Has l low) takes has_low) in
      let second : Has (one ∷ other ∷ []) high = taken (one == other) one other high (subst (λ (l : List ℕ). Has l high) takes has_high) in
      order_then v t w low high (order_then v u t low high (order_then v a u low high (took.order low high first second less) words.alike.steps) more) record { added = back.added; stand = back.stand }

  held_cells : (held : GuardsBoth shape one other mode guards a) → Treads (IsForHeld maps (said_by guards)) t w → Treads (IsAtCells (one ∷ other ∷ []) mode) t w
  held_cells h trail = treads_as (IsForHeld maps (said_by guards)) (IsAtCells (one ∷ other ∷ []) mode) t w
      (λ m is. let of = of_held (both_wanted one other mode) (said_by guards) h.held is.0 is.1 is.2 in for_cells one other mode m is.0 of.0 (subst (λ (x : Want). IsFor x m) of.1 is.3)) trail

  pub both_tread : (mode ≢ modes.Shared → is_strong q ≡ true) → Treads (IsAtCells (one ∷ other ∷ []) mode) u t → Treads (IsForHeld maps (said_by guards)) t w → Treads (MayTread q) v w
  both_tread strong told gave =
      let may = IsAtCells (one ∷ other ∷ []) mode in
      treads_as may (MayTread q) v w (λ m is. (subst (λ (l : List ℕ). Has l m.lock) (sym takes) (taken_apart one other m.lock took.apart is.0), λ any. strong (is.1 any)))
      (treads_then may v a w took.trail (treads_then may a u w (alike_treads may a u words.alike) (treads_then may u t w told (held_cells took.guarded gave))))
