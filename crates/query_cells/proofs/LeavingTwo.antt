-- Cells that were given back, one after the other: the steps lead back to the standings before them.
use Rattle.std.specs.Prelude.{◌≡◌, ◌≢◌, ℕ, zero, suc, ◌+◌, ◌<◌, Bool, true, false, List, [], ◌∷◌, Option, Some, None, slice_index_or}
use Rattle.std.proofs.Common.{refl, sym, ap, ◌∙◌, subst, inl, inr, ⊎_elim, arith, get_or-set_other}
use Rattle.std.proofs.lemmas.List.Elements.{All-nil}
use mathlib.Core.Logic.{dite}
use native.Mathlib.Decide.{ℕ_discrete}
use Rattle.lock_model.specs.Locks.{Has}
use Rattle.lock_model.specs.declared.model.Mode.{Mode}
use Rattle.hall.specs.declared.guards.Form.{Form}
use Rattle.hall.specs.declared.guards.Form.TheVariants as forms
use Rattle.hall.specs.declared.view.StepKind.{StepKind}
use Rattle.hall.specs.declared.view.StepKind.TheVariants as kinds
use Rattle.hall.specs.declared.view.Shape.{Shape}
use Rattle.hall.specs.declared.view.Standing.{Standing}
use Rattle.hall.specs.declared.view.Standing.TheVariants.{Away, Inline}
use Rattle.hall.specs.declared.view.StepEntry.{StepEntry}
use Rattle.hall.specs.declared.view.View.{View}
use Rattle.hall.specs.Views.{after_step, after_step_at, place_of, standing}
use Rattle.reader_slots.specs.declared.Withdrawn.{Withdrawn}
use Rattle.reader_slots.specs.declared.Withdrawn.TheVariants.{Cleared, GaveBack}
use Rattle.reader_slots.specs.Deferring.{LeavesAs}
use Rattle.shared_mutex.specs.Acquiring.{ElsewhereSame, LeavesShared}
use Rattle.acquire_many.specs.declared.guards.How.TheVariants as hows
use Rattle.acquire_many.specs.declared.guards.Guards.{Guards}
use Rattle.acquire_many.specs.declared.guards.TheConstants.{MANY}
use Rattle.acquire_many.specs.Guards.{said_by}
use Rattle.acquire_many.specs.Met.{AtFirst, HoldFits, IfThere, IsFormIn, Returns, ReturnsHeld}
use Rattle.acquire_many.specs.MetLaws.{of_held}
use Rattle.acquire_many.specs.Took.{GaveFirst}
use Rattle.acquire_many.specs.Wants.{Hold, Want, lock_at}
use Rattle.map_cargo.specs.declared.entry.Part.{Part}
use Rattle.map_cargo.specs.declared.size.MapCargo.{MapCargo}
use Rattle.map_cargo.specs.History.{IsRested, IsSettled}
use Rattle.map_cargo.specs.Sharing.{left_shared}
use Rattle.map_cargo.specs.Steps.{IsIdle, Left}
use Rattle.sync_cell.specs.Cells.{maps}
use Rattle.query_cells.specs.Answers.{LeadsBack}
use Rattle.query_cells.specs.Placing.{is_of_lock, number_word}
use Rattle.query_cells.specs.Two.{GuardsBoth, both_wanted}
use Rattle.query_cells.proofs.Pairs.{both_left}
use Rattle.query_cells.proofs.TakingTwo.{each_want}
use Rattle.query_cells.proofs.Placing.{leads_left, leads_once, leads_then}

-- steps that gave something back
abbrev GoesBack : MapCargo → View Part → View Part → Type 0
GoesBack c v w = Left v w × LeadsBack c v w

back_none : (c : MapCargo) (v w : View Part) → w ≡ v → GoesBack c v w
back_none c v w same = subst (λ (z : View Part). GoesBack c v z) (sym same) (
  record { part = refl; number = refl; quota = refl; span = refl; taken = refl },
  record { shape = refl; added = []; stand = refl; aside = All-nil (λ (e : StepEntry). e.place ≢ number_word c v); back = λ lock. refl },
)

back_then : (c : MapCargo) (v u w : View Part) → GoesBack c v u → GoesBack c u w → GoesBack c v w
back_then c v u w a b = (both_left v u w a.0 b.0, leads_then c v u w a.1 b.1)

-- one step for a lock changed the standing there alone
elsewhere_once : (v w : View Part) (kind : StepKind) (lock place word : ℕ) (won : Bool) (y : Standing) (part : Part) → w ≡ after_step_at v kind lock place word won y part → ElsewhereSame v w lock
elsewhere_once v w kind lock place word won y part is = λ k ne. ap (λ (z : View Part). standing z k) is ∙ get_or-set_other v.standings lock k y Away ne

-- one step on the lock's word that left the part
back_once : (c : MapCargo) (v w : View Part) (kind : StepKind) (lock word : ℕ) (y : Standing) (part : Part) → is_of_lock kind ≡ true → lock < v.shape.locks → part ≡ v.part → w ≡ after_step v kind lock word true y part → GoesBack c v w
back_once c v w kind lock word y part of near same is = (
  record { part = ap (λ (z : View Part). z.part) is ∙ same; number = ap (λ (z : View Part). z.number) is; quota = ap (λ (z : View Part). z.quota) is; span = ap (λ (z : View Part). z.span) is; taken = ap (λ (z : View Part). z.taken) is },
  leads_once c v w kind lock word true of near (ap (λ (z : View Part). z.shape) is) (elsewhere_once v w kind lock (place_of v lock) word true y part is) (ap (λ (z : View Part). z.steps) is),
)

-- a reader that left changed its standing at the lock alone, whatever form its hold had
module _ (v w : View Part) (lock : ℕ) where
  slot_elsewhere : (slot : ℕ) (ended : Withdrawn) → LeavesAs maps v lock slot ended w → ElsewhereSame v w lock
  slot_elsewhere slot Cleared l = λ k ne. elsewhere_once v w kinds.LeaveSlot lock slot (lock + 1) true Away _ l.0 k ne
  slot_elsewhere slot GaveBack l =
      let u : View Part = l.0 in λ k ne. elsewhere_once u w kinds.Lower lock (place_of u lock) l.4.0 true Away _ l.4.1.0 k ne ∙ elsewhere_once v u kinds.LeaveSlot lock slot l.1 false Inline _ l.3.0 k ne

  left_elsewhere : (form : Form) → LeavesShared maps v lock form w → ElsewhereSame v w lock
  left_elsewhere (forms.Deferred slot) l = slot_elsewhere slot l.0 l.1
  left_elsewhere (forms.Inline why) l = λ k ne. elsewhere_once v w kinds.Lower lock (place_of v lock) l.0 true Away _ l.1.0 k ne
  left_elsewhere forms.Lowered l = λ k ne. elsewhere_once v w kinds.Lower lock (place_of v lock) l.0 true Away _ l.1.0 k ne

returned : (c : MapCargo) (v w : View Part) (hold : Hold) → hold.0 < v.shape.locks → IsFormIn v.shape.slots hold.1 → Returns maps v hold w → GoesBack c v w
returned c v w (lock, hows.Shared form) near in_slots t = (left_shared maps lock v w (λ held p. refl) form t, leads_left maps c v w lock near (left_elsewhere v w lock form t) form in_slots t)
returned c v w (lock, hows.Upgrade) near in_slots t = back_once c v w kinds.UpgradeOut lock t.0 Away _ refl near refl t.1.0
returned c v w (lock, hows.Exclusive) near in_slots t = back_once c v w kinds.Release lock 8 Away _ refl near refl t.1

-- the holds at the first positions
module _ (c : MapCargo) (holds : List (Option Hold)) (v : View Part) (fits : (k : ℕ) (x : Hold) → slice_index_or holds k None ≡ Some x → HoldFits v.shape v x) where
  one_more : (k : ℕ) (u w : View Part) (o : Option Hold) → slice_index_or holds k None ≡ o → GoesBack c v u → IfThere (ReturnsHeld maps) u o w → GoesBack c v w
  one_more k u w None at before last = subst (λ (z : View Part). GoesBack c v z) (sym last) before
  one_more k u w (Some x) at before last =
      let f = fits k x at in let same : v.shape ≡ u.shape = sym before.1.shape in
      back_then c v u w before (returned c u w x (subst (λ (s : Shape). x.0 < s.locks) same f.0) (subst (λ (s : Shape). IsFormIn s.slots x.1) same f.2) last.1)

  all_back : (n : ℕ) (w : View Part) → AtFirst (ReturnsHeld maps) holds v n w → GoesBack c v w
  all_back zero w same = back_none c v w same
  all_back (suc n) w t = one_more n t.0 w (slice_index_or holds n None) refl (all_back n t.0 t.1) t.2

-- ---- two cells
-- each guard is of one of the cells
wanted_cell : (one other : ℕ) (mode : Mode) (k : ℕ) → k < 2 → Has (one ∷ other ∷ []) (lock_at (both_wanted one other mode) k)
wanted_cell one other mode = each_want (λ (i : ℕ). Has (one ∷ other ∷ []) i) one other mode (inl refl) (inr (inl refl))

module _ (shape : Shape) (one other : ℕ) (mode : Mode) (guards : Guards) (v : View Part) (h : GuardsBoth shape one other mode guards v) where
  held_cell : (k : ℕ) (x : Hold) → slice_index_or (said_by guards) k None ≡ Some x → Has (one ∷ other ∷ []) x.0
  held_cell k x at = let is = of_held (both_wanted one other mode) (said_by guards) h.held k x at in subst (λ (y : Want). Has (one ∷ other ∷ []) y.0) (sym is.1) (wanted_cell one other mode k is.0)

  pub guards_settled : (k : ℕ) (x : Hold) → slice_index_or (said_by guards) k None ≡ Some x → x.1 ≡ hows.Exclusive → IsSettled x.0 v.part
  guards_settled k x at exclusive = h.holds.settled x.0 (held_cell k x at)

module _ (c : MapCargo) (shape : Shape) (one other : ℕ) (mode : Mode) (guards : Guards) (v w : View Part) (same : v.shape ≡ shape) (h : GuardsBoth shape one other mode guards v) (gave : GaveFirst maps (said_by guards) v MANY w) where
  went_back : GoesBack c v w
  went_back = all_back c (said_by guards) v (λ k x at. subst (λ (s : Shape). HoldFits s v x) (sym same) (h.fits.each k x at)) MANY w gave.returned

  pub both_left_so : Left v w
  both_left_so = went_back.0

  pub both_lead_back : LeadsBack c v w
  both_lead_back = went_back.1

  named : (k j : ℕ) (x : Hold) → (Has (one ∷ other ∷ []) k → ⊥) → slice_index_or (said_by guards) j None ≡ Some x → x.0 ≢ k
  named k j x none at = λ e. none (subst (λ (i : ℕ). Has (one ∷ other ∷ []) i) e (held_cell shape one other mode guards v h j x at))

  -- the cell of the want at a position was given back
  given : (k : ℕ) → k < 2 → k < MANY → standing w (lock_at (both_wanted one other mode) k) ≡ Away
  given k near room = let is = h.held.held k near in subst (λ (q : Want). standing w q.0 ≡ Away) is.2 (gave.away k is.0 room is.1)

  away : (k : ℕ) → standing w k ≡ Away
  away k = dite (ℕ_discrete k one)
      (λ e. subst (λ (i : ℕ). standing w i ≡ Away) (sym e) (given 0 (omega arith) (omega arith)))
      (λ no_one. dite (ℕ_discrete k other)
      (λ e. subst (λ (i : ℕ). standing w i ≡ Away) (sym e) (given 1 (omega arith) (omega arith)))
      (λ no_other. let none : Has (one ∷ other ∷ []) k → ⊥ = λ has. ⊎_elim no_one (λ more. ⊎_elim no_other (λ bad. bad) more) has in
      gave.elsewhere k (λ j x low at. named k j x none at) ∙ h.holds.others k none))

  pub both_idle : IsRested v.part → IsIdle w
  both_idle rested = (away, ap (λ (p : Part). p.stored) went_back.0.part ∙ rested)
