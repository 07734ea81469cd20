-- Laws of steps: what calls leave, one after the other.
use Rattle.std.specs.Prelude.{◌≡◌, ℕ, ◌+◌, ◌-◌, ◌<◌, Bool, zero, suc, true, List, [], ◌∷◌, ◌++◌, slice_index}
use Rattle.std.proofs.Common.{refl, sym, ap, subst, ◌∙◌, append_assoc, arith, add-one}
use Rattle.hall.specs.declared.view.StepKind.{StepKind}
use Rattle.hall.specs.declared.view.StepKind.TheVariants.{AddCargo, StoreCargo}
use Rattle.hall.specs.declared.view.StepEntry.{StepEntry}
use Rattle.hall.specs.declared.view.Standing.TheVariants.{Away}
use Rattle.hall.specs.declared.view.View.{View}
use Rattle.hall.specs.Views.{after_note}
use Rattle.map_cargo.specs.declared.size.MapCargo.{MapCargo}
use Rattle.map_cargo.specs.declared.entry.Entry.{Entry}
use Rattle.map_cargo.specs.declared.entry.Part.{Part}
use Rattle.map_cargo.specs.Cells.{log_place, number_place}
use Rattle.map_cargo.specs.Entries.{log_words}
use Rattle.map_cargo.specs.Steps.{Alike, MoreSteps, Stays, cargo_step, row_stores}

pub more_none : (v : View Part) → MoreSteps v v
more_none v = record { added = []; stand = refl }

pub more_one : (v w : View Part) (e : StepEntry) → w.steps ≡ e ∷ v.steps → MoreSteps v w
more_one v w e is = record { added = e ∷ []; stand = is }

pub more_then : (v u w : View Part) → MoreSteps v u → MoreSteps u w → MoreSteps v w
more_then v u w a b = record { added = b.added ++ a.added; stand = b.stand ∙ ap (λ (l : List StepEntry). b.added ++ l) a.stand ∙ sym (append_assoc b.added a.added v.steps) }

pub alike_none : (v : View Part) → Alike v v
alike_none v = record { shape = refl; standings = refl; number = refl; span = refl; taken = refl; trail = refl; quota = refl; steps = more_none v }

pub alike_then : (v u w : View Part) → Alike v u → Alike u w → Alike v w
alike_then v u w a b = record {
  shape = b.shape ∙ a.shape;
  standings = b.standings ∙ a.standings;
  number = b.number ∙ a.number;
  span = b.span ∙ a.span;
  taken = b.taken ∙ a.taken;
  trail = b.trail ∙ a.trail;
  quota = b.quota ∙ a.quota;
  steps = more_then v u w a.steps b.steps;
}

pub stays_then : (v u w : View Part) → Stays v u → Alike u w → Stays v w
stays_then v u w a b = record {
  shape = b.shape ∙ a.shape;
  standings = b.standings ∙ a.standings;
  number = b.number ∙ a.number;
  span = b.span ∙ a.span;
  taken = b.taken ∙ a.taken;
  trail = b.trail ∙ a.trail;
  steps = more_then v u w a.steps b.steps;
}

pub stays_none : (v : View Part) → Stays v v
stays_none v = record { shape = refl; standings = refl; number = refl; span = refl; taken = refl; trail = refl; steps = more_none v }

pub stays_alike : (v w : View Part) → Alike v w → Stays v w
stays_alike v w a = record { shape = a.shape; standings = a.standings; number = a.number; span = a.span; taken = a.taken; trail = a.trail; steps = a.steps }

-- one step on a word of the cargo
pub noted_stays : (v w : View Part) (kind : StepKind) (place word used : ℕ) (won : Bool) (part : Part) → w ≡ after_note v kind place word won used part → Stays v w
noted_stays v w kind place word used won part is = subst (λ (z : View Part). Stays v z) (sym is) record { shape = refl; standings = refl; number = refl; span = refl; taken = refl; trail = refl; steps = more_one v (after_note v kind place word won used part) _ refl }

less_none : (n : ℕ) → n - 0 ≡ n
less_none n = omega arith

pub noted_alike : (v w : View Part) (kind : StepKind) (place word : ℕ) (won : Bool) (part : Part) → w ≡ after_note v kind place word won 0 part → Alike v w
noted_alike v w kind place word won part is = subst (λ (z : View Part). Alike v z) (sym is) record { shape = refl; standings = refl; number = refl; span = refl; taken = refl; trail = refl; quota = less_none v.quota; steps = more_one v (after_note v kind place word won 0 part) _ refl }

-- the stores of a log row, one after the other
pub no_stores : (v : View Part) (c : MapCargo) (w : ℕ) (e : Entry) → v.steps ≡ row_stores v c w e 0 ++ v.steps
unfolding row_stores
no_stores v c w e = refl

pub one_store_more : (v u x : View Part) (c : MapCargo) (w k : ℕ) (e : Entry) → u.number ≡ v.number → u.shape ≡ v.shape → u.steps ≡ row_stores v c w e k ++ v.steps
    → x.steps ≡ cargo_step u StoreCargo (log_place c w k) (slice_index (log_words e) k) true ∷ u.steps → x.steps ≡ row_stores v c w e (k + 1) ++ v.steps
unfolding row_stores
one_store_more v u x c w k e number shape so_far is =
    let now : StepEntry = cargo_step v StoreCargo (log_place c w k) (slice_index (log_words e) k) true in
    let same : cargo_step u StoreCargo (log_place c w k) (slice_index (log_words e) k) true ≡ now = λ i. record { number = number i; kind = StoreCargo; lock = 0; place = (shape i).slots + (shape i).locks + log_place c w k; before = Away; word = slice_index (log_words e) k; won = true } in
    rw add-one (is ∙ ap (λ (s : StepEntry). s ∷ u.steps) same ∙ ap (λ (l : List StepEntry). now ∷ l) so_far)

-- the place and the number of a step hang on the pass's number and the hall alone
pub same_stores : (v u : View Part) (c : MapCargo) (w k : ℕ) (e : Entry) → u.number ≡ v.number → u.shape ≡ v.shape → row_stores u c w e k ≡ row_stores v c w e k
unfolding row_stores
same_stores v u c w zero e number shape = refl
same_stores v u c w (suc k) e number shape = λ i. record { number = number i; kind = StoreCargo; lock = 0; place = (shape i).slots + (shape i).locks + log_place c w k; before = Away; word = slice_index (log_words e) k; won = true } ∷ same_stores v u c w k e number shape i

pub drawn_steps : (v u w : View Part) (c : MapCargo) (n : ℕ) (e : Entry) → u.number ≡ v.number → u.shape ≡ v.shape → u.steps ≡ cargo_step v AddCargo (number_place c) n true ∷ v.steps → w.steps ≡ row_stores u c n e 8 ++ u.steps
    → w.steps ≡ row_stores v c n e 8 ++ (cargo_step v AddCargo (number_place c) n true ∷ v.steps)
drawn_steps v u w c n e number shape drew stored = stored ∙ ap (λ (l : List StepEntry). l ++ u.steps) (same_stores v u c n 8 e number shape) ∙ ap (λ (l : List StepEntry). row_stores v c n e 8 ++ l) drew
