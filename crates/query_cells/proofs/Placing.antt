-- Which step placed a reply, and under which mode.
use Rattle.std.specs.Prelude.{◌≡◌, ◌≢◌, ℕ, ◌+◌, ◌*◌, ◌<◌, ◌&&◌, Bool, true, false, cond, eqb, zero, suc, List, [], ◌∷◌, ◌++◌, All, None, slice_index, slice_index_or}
use Rattle.std.proofs.Common.{refl, sym, ap, ◌∙◌, subst, arith, append_assoc, ne_eqb, eq-eqb, get_or-set_other}
use Rattle.std.proofs.lemmas.List.Elements.{All-nil, All-cons, All-append}
use mathlib.Core.Logic.{dite}
use native.Mathlib.Decide.{ℕ_discrete}
use Rattle.lock_model.specs.Locks.{Has}
use Rattle.hall.specs.declared.view.View.{View}
use Rattle.hall.specs.declared.view.StepKind.{StepKind}
use Rattle.hall.specs.declared.view.StepKind.TheVariants.{LoadCargo, AddCargo, StoreCargo}
use Rattle.hall.specs.declared.view.StepKind.TheVariants as kinds
use Rattle.hall.specs.declared.view.Shape.{Shape}
use Rattle.hall.specs.declared.view.StepEntry.{StepEntry}
use Rattle.hall.specs.declared.view.Standing.{Standing}
use Rattle.hall.specs.declared.view.Standing.TheVariants.{Away, Inline, Upgrade}
use Rattle.hall.specs.Cargo.{upgrade_mode}
use Rattle.hall.specs.declared.cargo.CargoRule.{Ghosts}
use Rattle.hall.specs.declared.guards.Form.{Form}
use Rattle.hall.specs.declared.guards.Form.TheVariants as forms
use Rattle.hall.specs.Fitting.{IsFormOf}
use Rattle.hall.specs.Plays.{GivesBack}
use Rattle.hall.specs.Views.{standing, mode_of, entry_at, entry_of, place_of}
use Rattle.reader_slots.specs.declared.Withdrawn.{Withdrawn}
use Rattle.reader_slots.specs.declared.Withdrawn.TheVariants.{Cleared, GaveBack}
use Rattle.reader_slots.specs.Deferring.{LeavesAs}
use Rattle.shared_mutex.specs.Acquiring.{ElsewhereSame, LeavesShared}
use Rattle.query_rules.specs.declared.query.Query.{Query}
use Rattle.query_rules.specs.declared.query.Said.{Said}
use Rattle.query_rules.specs.declared.query.Reply.{Reply}
use Rattle.query_rules.specs.declared.query.Reply.TheVariants.{Placed, Busy, Late, Job}
use Rattle.query_rules.specs.Maps.{is_write}
use Rattle.query_rules.specs.History as history
use Rattle.map_cargo.specs.declared.size.MapCargo.{MapCargo}
use Rattle.map_cargo.specs.declared.entry.Entry.{Entry}
use Rattle.map_cargo.specs.declared.entry.Part.{Part}
use Rattle.map_cargo.specs.Cells.{number_place, log_place}
use Rattle.map_cargo.specs.Entries.{log_words, spoken_cells}
use Rattle.map_cargo.specs.StepLaws.{more_then}
use Rattle.map_cargo.specs.Steps.{Alike, MoreSteps, Stays, cargo_step, row_stores}
use Rattle.query_cells.specs.Asked.{is_job}
use Rattle.query_cells.specs.Placing.{IsPlacedUnder, PlacedUnder, is_of_lock, mode_for, number_word, stood_at}
use Rattle.query_cells.specs.Answers.{HoldsFor, LeadsBack}

-- steps that were made one after the other lead back one after the other
stood_append : (lock : ℕ) (a b : List StepEntry) (now : Standing) → stood_at lock (a ++ b) now ≡ stood_at lock b (stood_at lock a now)
stood_append lock [] b now = refl
stood_append lock (e ∷ a) b now = stood_append lock a b (cond (is_of_lock e.kind && eqb e.lock lock) e.before now)

-- a step for another lock leaves the standing, and one for the lock tells the one before it
elsewhere_stood : (lock : ℕ) (e : StepEntry) (now : Standing) → is_of_lock e.kind ≡ true → e.lock ≢ lock → cond (is_of_lock e.kind && eqb e.lock lock) e.before now ≡ now
elsewhere_stood lock e now of ne = ap (λ (b : Bool). cond (b && eqb e.lock lock) e.before now) of ∙ ap (λ (b : Bool). cond b e.before now) (ne_eqb e.lock lock ne)

here_stood : (lock : ℕ) (e : StepEntry) (now : Standing) → is_of_lock e.kind ≡ true → e.lock ≡ lock → cond (is_of_lock e.kind && eqb e.lock lock) e.before now ≡ e.before
here_stood lock e now of is = ap (λ (b : Bool). cond (b && eqb e.lock lock) e.before now) of ∙ ap (λ (b : Bool). cond b e.before now) (eq-eqb e.lock lock is)

-- the stores of a log row are on words of their own
row_aside : (v : View Part) (c : MapCargo) (w k : ℕ) (e : Entry) → All (λ s. s.place ≢ number_word c v) (row_stores v c w e k)
unfolding row_stores
row_aside v c w zero e = All-nil (λ (s : StepEntry). s.place ≢ number_word c v)
row_aside v c w (suc k) e = All-cons (λ (s : StepEntry). s.place ≢ number_word c v) (cargo_step v StoreCargo (log_place c w k) (slice_index (log_words e) k) true) (row_stores v c w e k) (λ same. omega arith) (row_aside v c w k e)

row_stood : (v : View Part) (c : MapCargo) (w k lock : ℕ) (e : Entry) (now : Standing) → stood_at lock (row_stores v c w e k) now ≡ now
unfolding row_stores
row_stood v c w zero lock e now = refl
row_stood v c w (suc k) lock e now = row_stood v c w k lock e now

-- a read that was placed: its one step loaded the number word
pub placed_read : (c : MapCargo) (v w : View Part) (q : Query) (said : Said) (n : ℕ) → Alike v w → HoldsFor q said v → is_write said ≡ false → 2 * n ≡ history.place_of n said → w.steps ≡ cargo_step v LoadCargo (number_place c) n false ∷ v.steps
    → PlacedUnder c v w q (2 * n) said
placed_read c v w q said n alike holds reads place is = record {
  newer = [];
  step = cargo_step v LoadCargo (number_place c) n false;
  older = [];
  stand = is;
  number = refl;
  kind = sym (ap (λ (b : Bool). cond b AddCargo LoadCargo) reads);
  at = ap (λ (s : Shape). s.slots + s.locks + number_place c) (sym alike.shape);
  tells = place;
  last = All-nil (λ (e : StepEntry). e.place ≢ number_word c w);
  held = λ cell has. ap (λ (l : List Standing). mode_of (slice_index_or l cell Away)) alike.standings ∙ holds.each cell has;
}

-- a write that was drawn: its step drew the number, and then its log row was stored
pub placed_write : (c : MapCargo) (v w : View Part) (q : Query) (said : Said) (n : ℕ) (e : Entry) → Stays v w → HoldsFor q said v → is_write said ≡ true → 2 * n + 1 ≡ history.place_of n said
    → w.steps ≡ row_stores v c n e 8 ++ (cargo_step v AddCargo (number_place c) n true ∷ v.steps) → PlacedUnder c v w q (2 * n + 1) said
placed_write c v w q said n e stays holds writes place is = record {
  newer = row_stores v c n e 8;
  step = cargo_step v AddCargo (number_place c) n true;
  older = [];
  stand = is;
  number = refl;
  kind = sym (ap (λ (b : Bool). cond b AddCargo LoadCargo) writes);
  at = ap (λ (s : Shape). s.slots + s.locks + number_place c) (sym stays.shape);
  tells = place;
  last = subst (λ (s : Shape). All (λ (x : StepEntry). x.place ≢ s.slots + s.locks + number_place c) (row_stores v c n e 8)) (sym stays.shape) (row_aside v c n 8 e);
  held = λ cell has. ap mode_of (row_stood v c n 8 cell e (standing w cell)) ∙ ap (λ (l : List Standing). mode_of (slice_index_or l cell Away)) stays.standings ∙ holds.each cell has;
}

-- a reply after steps that placed none
placed_later : (c : MapCargo) (v u w : View Part) (q : Query) (place : ℕ) (said : Said) → u.number ≡ v.number → MoreSteps v u → PlacedUnder c u w q place said → PlacedUnder c v w q place said
placed_later c v u w q place said number more h = record {
  newer = h.newer;
  step = h.step;
  older = h.older ++ more.added;
  stand = h.stand ∙ ap (λ (l : List StepEntry). h.newer ++ (h.step ∷ l)) (ap (λ (l : List StepEntry). h.older ++ l) more.stand ∙ sym (append_assoc h.older more.added v.steps));
  number = h.number ∙ number;
  kind = h.kind;
  at = h.at;
  tells = h.tells;
  last = h.last;
  held = h.held;
}

pub placing_after : (c : MapCargo) (v u w : View Part) (q : Query) (reply : Reply) → u.number ≡ v.number → MoreSteps v u → is_job reply ≡ false → IsPlacedUnder c u w q reply → IsPlacedUnder c v w q reply
placing_after c v u w q (Placed place said) number more maps h = placed_later c v u w q place said number more h
placing_after c v u w q Busy number more maps h = more_then v u w more h
placing_after c v u w q (Late now) number more maps h = more_then v u w more h
placing_after c v u w q (Job at result) number more maps h = absurd (cc)

-- a reply, and then steps that lead back
placed_before : (c : MapCargo) (v u w : View Part) (q : Query) (place : ℕ) (said : Said) → PlacedUnder c v u q place said → LeadsBack c u w → PlacedUnder c v w q place said
placed_before c v u w q place said h more = record {
  newer = more.added ++ h.newer;
  step = h.step;
  older = h.older;
  stand = more.stand ∙ ap (λ (l : List StepEntry). more.added ++ l) h.stand ∙ sym (append_assoc more.added h.newer (h.step ∷ (h.older ++ v.steps)));
  number = h.number;
  kind = h.kind;
  at = h.at ∙ ap (λ (s : Shape). s.slots + s.locks + number_place c) (sym more.shape);
  tells = h.tells;
  last = subst (λ (s : Shape). All (λ (x : StepEntry). x.place ≢ s.slots + s.locks + number_place c) (more.added ++ h.newer)) (sym more.shape) (All-append (λ (x : StepEntry). x.place ≢ number_word c u) more.added h.newer more.aside h.last);
  held = λ cell has. ap mode_of (stood_append cell more.added h.newer (standing w cell) ∙ ap (stood_at cell h.newer) (more.back cell)) ∙ h.held cell has;
}

pub placing_then : (c : MapCargo) (v u w : View Part) (q : Query) (reply : Reply) → is_job reply ≡ false → IsPlacedUnder c v u q reply → LeadsBack c u w → IsPlacedUnder c v w q reply
placing_then c v u w q (Placed place said) maps h more = placed_before c v u w q place said h more
placing_then c v u w q Busy maps h more = more_then v u w h record { added = more.added; stand = more.stand }
placing_then c v u w q (Late now) maps h more = more_then v u w h record { added = more.added; stand = more.stand }
placing_then c v u w q (Job at result) maps h more = absurd (cc)

-- one step for a lock, on its word or on a slot, leads back
pub leads_once_at : (c : MapCargo) (v w : View Part) (kind : StepKind) (lock place word : ℕ) (won : Bool) → is_of_lock kind ≡ true → place < v.shape.slots + v.shape.locks → w.shape ≡ v.shape → ElsewhereSame v w lock → w.steps ≡ entry_at v kind lock place word won ∷ v.steps → LeadsBack c v w
leads_once_at c v w kind lock place word won of near shape same is =
    let e : StepEntry = entry_at v kind lock place word won in record {
      shape = shape;
      added = e ∷ [];
      stand = is;
      aside = All-cons (λ (x : StepEntry). x.place ≢ number_word c v) e [] (λ at. omega arith) (All-nil (λ (x : StepEntry). x.place ≢ number_word c v));
      back = λ k. dite (ℕ_discrete k lock)
          (λ here. here_stood k e (standing w k) of (sym here) ∙ ap (λ (i : ℕ). standing v i) (sym here))
          (λ ne. elsewhere_stood k e (standing w k) of (λ at. ne (sym at)) ∙ same k ne);
    }

pub leads_once : (c : MapCargo) (v w : View Part) (kind : StepKind) (lock word : ℕ) (won : Bool) → is_of_lock kind ≡ true → lock < v.shape.locks → w.shape ≡ v.shape → ElsewhereSame v w lock → w.steps ≡ entry_of v kind lock word won ∷ v.steps → LeadsBack c v w
leads_once c v w kind lock word won of near shape same is = leads_once_at c v w kind lock (place_of v lock) word won of (omega arith) shape same is

-- steps that lead back, one after the other
pub leads_then : (c : MapCargo) (v u w : View Part) → LeadsBack c v u → LeadsBack c u w → LeadsBack c v w
leads_then c v u w a b = record {
  shape = b.shape ∙ a.shape;
  added = b.added ++ a.added;
  stand = b.stand ∙ ap (λ (l : List StepEntry). b.added ++ l) a.stand ∙ sym (append_assoc b.added a.added v.steps);
  aside = All-append (λ (x : StepEntry). x.place ≢ number_word c v) b.added a.added (subst (λ (s : Shape). All (λ (x : StepEntry). x.place ≢ s.slots + s.locks + number_place c) b.added) a.shape b.aside) a.aside;
  back = λ k. stood_append k b.added a.added (standing w k) ∙ ap (stood_at k a.added) (b.back k) ∙ a.back k;
}

-- a pass that holds one cell alone holds all that a placed reply to its query speaks of in the mode of its hold
holds_one : (v : View Part) (lock : ℕ) (q : Query) (said : Said) (y : Standing) → standing v lock ≡ y → ((k : ℕ) → k ≢ lock → standing v k ≡ Away) → ((k : ℕ) → Has (spoken_cells q) k → mode_of (standing v k) ≢ None) → mode_for q said ≡ mode_of y → HoldsFor q said v
holds_one v lock q said y holds only some mode = record {
  each = λ k has. dite (ℕ_discrete k lock)
      (λ here. ap (λ (i : ℕ). mode_of (standing v i)) here ∙ ap mode_of holds ∙ sym mode)
      (λ ne. absurd (some k has (ap mode_of (only k ne))));
}

pub holds_upgrade : (v : View Part) (lock : ℕ) (q : Query) (said : Said) → standing v lock ≡ Upgrade → ((k : ℕ) → k ≢ lock → standing v k ≡ Away) → ((k : ℕ) → Has (spoken_cells q) k → mode_of (standing v k) ≢ None) → mode_for q said ≡ upgrade_mode → HoldsFor q said v
holds_upgrade v lock q said upgrade only some mode = holds_one v lock q said Upgrade upgrade only some mode

-- a reader that leaves its cell leads back, whatever form its hold had
module _ (g : Ghosts MapCargo Part) (c : MapCargo) (v w : View Part) (lock : ℕ) (near : lock < v.shape.locks) (same : ElsewhereSame v w lock) where
  counted_back : (u : View Part) (found : ℕ) → u.shape ≡ v.shape → ElsewhereSame u w lock → GivesBack g u lock found w → LeadsBack c u w
  counted_back u found shape still b =
      leads_once c u w kinds.Lower lock found true refl (subst (λ (s : Shape). lock < s.locks) (sym shape) near) (ap (λ (z : View Part). z.shape) b.0) still (ap (λ (z : View Part). z.steps) b.0)

  slot_back : (slot : ℕ) (ended : Withdrawn) → slot < v.shape.slots → LeavesAs g v lock slot ended w → LeadsBack c v w
  slot_back slot Cleared in_slots l = leads_once_at c v w kinds.LeaveSlot lock slot (lock + 1) true refl (omega arith) (ap (λ (z : View Part). z.shape) l.0) same (ap (λ (z : View Part). z.steps) l.0)
  slot_back slot GaveBack in_slots l =
      let u : View Part = l.0 in let missed = l.3.0 in let shape : u.shape ≡ v.shape = ap (λ (z : View Part). z.shape) missed in
      let stays : ElsewhereSame v u lock = λ k ne. ap (λ (z : View Part). standing z k) missed ∙ get_or-set_other v.standings lock k Inline Away ne in
      leads_then c v u w (leads_once_at c v u kinds.LeaveSlot lock slot l.1 false refl (omega arith) shape stays (ap (λ (z : View Part). z.steps) missed)) (counted_back u l.4.0 shape (λ k ne. same k ne ∙ sym (stays k ne)) l.4.1)

  pub leads_left : (form : Form) → IsFormOf v.shape.slots form → LeavesShared g v lock form w → LeadsBack c v w
  leads_left (forms.Deferred slot) in_slots l = slot_back slot l.0 in_slots l.1
  leads_left (forms.Inline why) in_slots l = counted_back v l.0 refl same l.1
  leads_left forms.Lowered in_slots l = counted_back v l.0 refl same l.1
