-- Steps that refuse no try: those on the words of the cargo, and one that gives a lock back.
use Rattle.std.specs.Prelude.{◌≡◌, ◌⊎◌, ℕ, ◌+◌, zero, suc, true, false, List, [], ◌∷◌, ◌++◌, All, slice_index}
use Rattle.std.proofs.Common.{refl, sym, ap, ◌∙◌, ⊎_elim, append_assoc, inl, inr}
use Rattle.std.proofs.lemmas.List.Elements.{All-nil, All-cons, All-append}
use Rattle.lock_model.specs.Locks.{Has}
use Rattle.hall.specs.declared.view.StepKind.{StepKind}
use Rattle.hall.specs.declared.view.StepKind.TheVariants.{AddCargo, LoadCargo, StoreCargo}
use Rattle.hall.specs.declared.view.StepEntry.{StepEntry}
use Rattle.hall.specs.declared.view.View.{View}
use Rattle.hall.specs.declared.cargo.CargoRule.{Ghosts}
use Rattle.hall.specs.declared.guards.Form.{Form}
use Rattle.hall.specs.declared.guards.Form.TheVariants as forms
use Rattle.hall.specs.declared.view.StepKind.TheVariants as kinds
use Rattle.hall.specs.Views.{entry_at, entry_of}
use Rattle.reader_slots.specs.declared.Withdrawn.{Withdrawn}
use Rattle.reader_slots.specs.declared.Withdrawn.TheVariants.{Cleared, GaveBack}
use Rattle.reader_slots.specs.Deferring.{LeavesAs}
use Rattle.shared_mutex.specs.Acquiring.{LeavesShared}
use Rattle.shared_mutex.specs.Tries.{AddsSteps}
use Rattle.shared_mutex.specs.TryLaws.{adds_then}
use Rattle.sync_cell.specs.Attempts.{is_hold}
use Rattle.sync_cell.specs.Gains.{IsQuiet, looks_in}
use Rattle.map_cargo.specs.declared.size.MapCargo.{MapCargo}
use Rattle.map_cargo.specs.declared.entry.Entry.{Entry}
use Rattle.map_cargo.specs.declared.entry.Part.{Part}
use Rattle.map_cargo.specs.Cells.{log_place, number_place}
use Rattle.map_cargo.specs.Entries.{log_words}
use Rattle.map_cargo.specs.Probes.{StaysInCell}
use Rattle.map_cargo.specs.Steps.{cargo_step, row_stores}

-- one step
pub quiet_once : (v w : View Part) (e : StepEntry) → IsQuiet e → w.steps ≡ e ∷ v.steps → AddsSteps IsQuiet v w
quiet_once v w e quiet is = (e ∷ [], is, All-cons IsQuiet e [] quiet (All-nil IsQuiet))

pub quiet_then : (v u w : View Part) → AddsSteps IsQuiet v u → AddsSteps IsQuiet u w → AddsSteps IsQuiet v w
quiet_then v u w a b = adds_then IsQuiet v u w a b

-- loads and stores of a cell's words
of_cargo : (k : StepKind) (word : ℕ) → (k ≡ LoadCargo) ⊎ (k ≡ StoreCargo) → (looks_in k word ≡ false) × (is_hold k ≡ false)
of_cargo k word is = ⊎_elim (λ l. (ap (λ (z : StepKind). looks_in z word) l, ap is_hold l)) (λ s. (ap (λ (z : StepKind). looks_in z word) s, ap is_hold s)) is

pub quiet_inside : (c : MapCargo) (cell : ℕ) (v w : View Part) → StaysInCell c cell v w → AddsSteps IsQuiet v w
quiet_inside c cell v w s = (s.added, s.stand, has_all s.added (λ e has. of_cargo e.kind e.word (s.each e has).kind))
  where
    has_all : (es : List StepEntry) → ((e : StepEntry) → Has es e → IsQuiet e) → All IsQuiet es
    has_all [] each = All-nil IsQuiet
    has_all (e ∷ es) each = All-cons IsQuiet e es (each e (inl refl)) (has_all es (λ x has. each x (inr has)))

-- a read that was placed, and a write that was drawn
pub quiet_placed : (v w : View Part) (place word : ℕ) → w.steps ≡ cargo_step v LoadCargo place word false ∷ v.steps → AddsSteps IsQuiet v w
quiet_placed v w place word is = quiet_once v w (cargo_step v LoadCargo place word false) (refl, refl) is

row_quiet : (v : View Part) (c : MapCargo) (w k : ℕ) (e : Entry) → All IsQuiet (row_stores v c w e k)
unfolding row_stores
row_quiet v c w zero e = All-nil IsQuiet
row_quiet v c w (suc k) e = All-cons IsQuiet (cargo_step v StoreCargo (log_place c w k) (slice_index (log_words e) k) true) (row_stores v c w e k) (refl, refl) (row_quiet v c w k e)

pub quiet_drawn : (v w : View Part) (c : MapCargo) (n : ℕ) (e : Entry) → w.steps ≡ row_stores v c n e 8 ++ (cargo_step v AddCargo (number_place c) n true ∷ v.steps) → AddsSteps IsQuiet v w
quiet_drawn v w c n e is =
    let first : StepEntry = cargo_step v AddCargo (number_place c) n true in let rows : List StepEntry = row_stores v c n e 8 in
    (rows ++ (first ∷ []), is ∙ sym (append_assoc rows (first ∷ []) v.steps), All-append IsQuiet rows (first ∷ []) (row_quiet v c n 8 e) (All-cons IsQuiet first [] (refl, refl) (All-nil IsQuiet)))

-- a reader that leaves its cell, whatever form its hold had
module _ (g : Ghosts MapCargo Part) (v w : View Part) (lock : ℕ) where
  slot_quiet : (slot : ℕ) (ended : Withdrawn) → LeavesAs g v lock slot ended w → AddsSteps IsQuiet v w
  slot_quiet slot Cleared l = quiet_once v w (entry_at v kinds.LeaveSlot lock slot (lock + 1) true) (refl, refl) (ap (λ (z : View Part). z.steps) l.0)
  slot_quiet slot GaveBack l =
      let u : View Part = l.0 in
      quiet_then v u w (quiet_once v u (entry_at v kinds.LeaveSlot lock slot l.1 false) (refl, refl) (ap (λ (z : View Part). z.steps) l.3.0)) (quiet_once u w (entry_of u kinds.Lower lock l.4.0 true) (refl, refl) (ap (λ (z : View Part). z.steps) l.4.1.0))

  pub quiet_left : (form : Form) → LeavesShared g v lock form w → AddsSteps IsQuiet v w
  quiet_left (forms.Deferred slot) l = slot_quiet slot l.0 l.1
  quiet_left (forms.Inline why) l = quiet_once v w (entry_of v kinds.Lower lock l.0 true) (refl, refl) (ap (λ (z : View Part). z.steps) l.1.0)
  quiet_left forms.Lowered l = quiet_once v w (entry_of v kinds.Lower lock l.0 true) (refl, refl) (ap (λ (z : View Part). z.steps) l.1.0)
