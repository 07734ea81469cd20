-- What a reader's entering and leaving are at large, whichever form its hold has.
use Rattle.std.specs.Prelude.{◌≡◌, ℕ, ◌<◌, ◌+◌, ◌||◌, Bool, true, false, List, [], ◌∷◌, ◌++◌, All, length, slice_index_or, slice_set, Some, None}
use Rattle.std.proofs.Common.{refl, sym, ap, ◌∙◌, get_or-set_same}
use Rattle.std.proofs.lemmas.List.{set-set}
use Rattle.std.proofs.lemmas.List.Elements.{All-nil, All-cons}
use Rattle.lock_model.specs.declared.model.Act.TheVariants as act
use Rattle.state_word.specs.Words.{enter_of}
use Rattle.hall.specs.declared.cargo.CargoRule.{Ghosts}
use Rattle.hall.specs.declared.guards.Form.{Form}
use Rattle.hall.specs.declared.guards.Form.TheVariants as forms
use Rattle.hall.specs.declared.guards.Why.TheVariants.{NoDefer, SlotsTaken}
use Rattle.hall.specs.declared.view.StepKind.{StepKind}
use Rattle.hall.specs.declared.view.StepKind.TheVariants as kinds
use Rattle.hall.specs.declared.view.Standing.{Standing}
use Rattle.hall.specs.declared.view.Standing.TheVariants.{Away, Inline, Slotted, Undecided}
use Rattle.hall.specs.declared.view.StepEntry.{StepEntry}
use Rattle.hall.specs.declared.view.View.{View}
use Rattle.hall.specs.Cargo.{shared_mode}
use Rattle.hall.specs.Fitting.{stands_by}
use Rattle.hall.specs.Moves.{Moment}
use Rattle.hall.specs.Plays.{Enters, GivesBack, lowered_part}
use Rattle.hall.specs.Slotting.{Defers}
use Rattle.hall.specs.Treading.{IsBetween, IsWeakAt, Treads, treads_as, treads_step, treads_step_at, treads_then, weak_between}
use Rattle.hall.specs.Views.{after_look, after_step, after_step_at, entry_at, entry_of, is_strong, mode_of, place_of, standing}
use Rattle.reader_slots.specs.declared.Withdrawn.{Withdrawn}
use Rattle.reader_slots.specs.declared.Withdrawn.TheVariants.{Cleared, GaveBack}
use Rattle.reader_slots.specs.Deferring.{LeavesAs}
use Rattle.shared_mutex.specs.Acquiring.{EntersBy, LeavesShared, TakesShared}
use Rattle.shared_mutex.specs.TokenLaws.{both_missed, loaded, placed, stands_there, still_away}
use Rattle.shared_mutex.specs.Tokens.{IsReaderStep, OnlyTried, same_of}
use Rattle.shared_mutex.specs.Tries.{AddsSteps, IsPatientTry, is_retract}
use Rattle.shared_mutex.specs.TryLaws.{adds_as, adds_then, reader_patient}

-- the two steps that let a reader in: the exchange that counts it, and the look that finds that readers may defer
abbrev pub is_entering : StepKind → Bool
is_entering kinds.Enter = true
is_entering kinds.Check = true
is_entering k = false

-- the two by which one leaves
abbrev pub is_leaving : StepKind → Bool
is_leaving kinds.Lower = true
is_leaving kinds.LeaveSlot = true
is_leaving k = false

entering_patient : (k : StepKind) → is_entering k ≡ true → is_retract k ≡ false
entering_patient k e = elim k as (λ z. is_entering z ≡ true → is_retract z ≡ false) [ kinds.Retract ↦ λ h. absurd (cc) | kinds.UpRetract ↦ λ h. absurd (cc) | _ ↦ λ h. refl ] e

module _ {P : Type 0} where
  -- a step of a reader that leaves, under the pass's number, for the lock, from the shared mode
  abbrev pub IsLeavingStep : View P → ℕ → StepEntry → Type 0
  IsLeavingStep v lock e = (e.number ≡ v.number) × (e.lock ≡ lock) × (mode_of e.before ≡ shared_mode) × (is_leaving e.kind ≡ true)

module _ {C P : Type 0} (g : Ghosts C P) where
  -- a reader that was outside entered: until its newest step it had only tried, and that step gained it the shared mode, and noted the cargo words behind the lock
  pub record EntersLast (v : View P) (lock : ℕ) (w : View P) : Type 0 where
    pub before : View P
    pub from : Standing
    pub tried : OnlyTried v lock from before
    pub kind : StepKind
    pub enters : is_entering kind ≡ true
    pub word : ℕ
    pub won : Bool
    pub to : Standing
    pub holds : mode_of to ≡ shared_mode
    pub weak : is_strong to ≡ false
    pub words : List ℕ
    pub part : P
    pub gains : g.gains lock words before.part part
    pub is : w ≡ after_step before kind lock word won to part
    pub left : ℕ
    pub moment : Moment g before w lock word left (Some act.EnterShared)

  -- a reader that was inside left: its steps were made for the lock from the shared mode, and it is away and has the part of a pass that lost the mode
  pub record LeavesLock (v : View P) (lock : ℕ) (w : View P) : Type 0 where
    pub shape : w.shape ≡ v.shape
    pub number : w.number ≡ v.number
    pub span : w.span ≡ v.span
    pub taken : w.taken ≡ v.taken
    pub quota : w.quota ≡ v.quota
    pub part : w.part ≡ g.lowered lock None v.part
    pub standings : w.standings ≡ slice_set v.standings lock Away
    pub added : List StepEntry
    pub steps : w.steps ≡ added ++ v.steps
    pub each : All (IsLeavingStep v lock) added
    pub trail : Treads (IsWeakAt lock) v w

  -- whatever form its hold has
  module _ (v w : View P) (lock : ℕ) (away : standing v lock ≡ Away) where
    by_exchange : (u : View P) (seen : ℕ) → OnlyTried v lock Away u → Enters g u lock seen w → EntersLast v lock w
    by_exchange u seen t e = record { before = u; from = Away; tried = t; kind = kinds.Enter; enters = refl; word = seen; won = true; to = Inline; holds = refl; weak = refl; words = e.0.0; part = e.0.1; gains = e.0.2; is = e.0.3; left = enter_of seen; moment = e.1 }

    by_look : (u : View P) (slot word : ℕ) → OnlyTried v lock (Undecided slot) u → Defers g slot u lock word w → EntersLast v lock w
    by_look u slot word t e = record { before = u; from = Undecided slot; tried = t; kind = kinds.Check; enters = refl; word = word; won = false; to = Slotted slot; holds = refl; weak = refl; words = e.0.0; part = e.0.1; gains = e.0.2; is = e.0.3; left = word; moment = e.1 }

    enters_by : (form : Form) → EntersBy g v lock form w → EntersLast v lock w
    enters_by (forms.Deferred slot) e =
        let l : View P = after_look v kinds.Load lock e.0 in let u : View P = e.2.0 in
        by_look u slot e.2.2.0 (placed g v lock away l u slot (still_away g v lock away e.0) (loaded g v lock away e.0 l refl) e.2.1) e.2.2.2
    enters_by (forms.Inline (NoDefer seen)) e = let l : View P = after_look v kinds.Load lock seen in by_exchange l seen (loaded g v lock away seen l refl) e.2
    enters_by (forms.Inline (SlotsTaken tokens)) e =
        let l : View P = after_look v kinds.Load lock e.0 in let u : View P = e.2.0 in
        by_exchange u e.0 (both_missed g v lock away l u tokens (still_away g v lock away e.0) (loaded g v lock away e.0 l refl) e.2.1).0 e.2.2
    enters_by forms.Lowered e = absurd e

    pub enters_last : TakesShared g v lock w → EntersLast v lock w
    enters_last t = enters_by t.0 t.1

    -- each of its steps was made for the lock with no mode held there
    pub enters_patiently : EntersLast v lock w → AddsSteps (IsPatientTry v lock) v w
    enters_patiently e =
        let t = e.tried in let last : StepEntry = entry_of e.before e.kind lock e.word e.won in
        let here : standing e.before lock ≡ slice_index_or (slice_set v.standings lock e.from) lock Away = ap (λ (l : List Standing). slice_index_or l lock Away) t.standings in
        let free : mode_of (standing e.before lock) ≡ None = ap mode_of here ∙ same_of mode_of v.standings lock e.from (t.outside.0 ∙ sym (ap mode_of away)) ∙ ap mode_of away in
        adds_then (IsPatientTry v lock) v e.before w
        (adds_as (IsReaderStep v lock) (IsPatientTry v lock) v e.before (λ x p. ((p.0, p.1, p.2), reader_patient x.kind p.3)) (t.added, t.steps, t.each))
        (last ∷ [], ap (λ (z : View P). z.steps) e.is, All-cons (IsPatientTry v lock) last [] ((t.number, refl, free), entering_patient e.kind e.enters) (All-nil (IsPatientTry v lock)))

    -- and it left weak footprints at the lock alone
    pub enters_weakly : EntersLast v lock w → Treads (IsWeakAt lock) v w
    enters_weakly e =
        let t = e.tried in
        let here : standing e.before lock ≡ slice_index_or (slice_set v.standings lock e.from) lock Away = ap (λ (l : List Standing). slice_index_or l lock Away) t.standings in
        let before : is_strong (standing e.before lock) ≡ false = ap is_strong here ∙ same_of is_strong v.standings lock e.from (t.outside.1 ∙ sym (ap is_strong away)) ∙ ap is_strong away in
        treads_then (IsWeakAt lock) v e.before w t.trail
        (treads_as (IsBetween lock (standing e.before lock) e.to) (IsWeakAt lock) e.before w (λ m. weak_between lock (standing e.before lock) e.to m (ap (λ (b : Bool). b || is_strong e.to) before ∙ e.weak))
        (treads_step e.before w e.kind lock e.word e.won e.to e.part e.is))

  -- whatever form its hold had
  module _ (v w : View P) (lock : ℕ) (near : lock < length v.standings) where
    -- by one step
    by_one : (kind : StepKind) (place word : ℕ) (x : Standing) (part : P) → standing v lock ≡ x → mode_of x ≡ shared_mode → is_strong x ≡ false → is_leaving kind ≡ true → part ≡ g.lowered lock None v.part → w ≡ after_step_at v kind lock place word true Away part → LeavesLock v lock w
    by_one kind place word x part here held weak kinded lost is = record {
      shape = ap (λ (z : View P). z.shape) is;
      number = ap (λ (z : View P). z.number) is;
      span = ap (λ (z : View P). z.span) is;
      taken = ap (λ (z : View P). z.taken) is;
      quota = ap (λ (z : View P). z.quota) is;
      part = ap (λ (z : View P). z.part) is ∙ lost;
      standings = ap (λ (z : View P). z.standings) is;
      added = entry_at v kind lock place word true ∷ [];
      steps = ap (λ (z : View P). z.steps) is;
      each = All-cons (IsLeavingStep v lock) (entry_at v kind lock place word true) [] (refl, refl, ap mode_of here ∙ held, kinded) (All-nil (IsLeavingStep v lock));
      trail = treads_as (IsBetween lock (standing v lock) Away) (IsWeakAt lock) v w (λ m. weak_between lock (standing v lock) Away m (ap (λ (s : Standing). is_strong s || false) here ∙ ap (λ (b : Bool). b || false) weak)) (treads_step_at v w kind lock place word true Away part is);
    }

    by_count : (found : ℕ) → standing v lock ≡ Inline → GivesBack g v lock found w → LeavesLock v lock w
    by_count found here b = by_one kinds.Lower (place_of v lock) found Inline (lowered_part g (standing v lock) lock v.part) here refl refl refl (ap (λ (x : Standing). lowered_part g x lock v.part) here) b.0

    by_slot : (slot : ℕ) (ended : Withdrawn) → standing v lock ≡ Slotted slot → LeavesAs g v lock slot ended w → LeavesLock v lock w
    by_slot slot Cleared here r = by_one kinds.LeaveSlot slot (lock + 1) (Slotted slot) (g.lowered lock None v.part) here refl refl refl refl r.0
    by_slot slot GaveBack here r =
        let o : View P = r.0 in let missed = r.3.0 in let back = r.4.1.0 in
        let miss : StepEntry = entry_at v kinds.LeaveSlot lock slot r.1 false in let lower : StepEntry = entry_of o kinds.Lower lock r.4.0 true in
        let inside : standing o lock ≡ Inline = ap (λ (z : View P). standing z lock) missed ∙ get_or-set_same v.standings lock Inline Away near in record {
          shape = ap (λ (z : View P). z.shape) back ∙ ap (λ (z : View P). z.shape) missed;
          number = ap (λ (z : View P). z.number) back ∙ ap (λ (z : View P). z.number) missed;
          span = ap (λ (z : View P). z.span) back ∙ ap (λ (z : View P). z.span) missed;
          taken = ap (λ (z : View P). z.taken) back ∙ ap (λ (z : View P). z.taken) missed;
          quota = ap (λ (z : View P). z.quota) back ∙ ap (λ (z : View P). z.quota) missed;
          part = ap (λ (z : View P). z.part) back ∙ ap (λ (x : Standing). lowered_part g x lock o.part) inside ∙ ap (λ (z : View P). g.lowered lock None z.part) missed;
          standings = ap (λ (z : View P). z.standings) back ∙ ap (λ (z : View P). slice_set z.standings lock Away) missed ∙ set-set v.standings lock Inline Away;
          added = lower ∷ (miss ∷ []);
          steps = ap (λ (z : View P). z.steps) back ∙ ap (λ (z : View P). lower ∷ z.steps) missed;
          each = All-cons (IsLeavingStep v lock) lower (miss ∷ []) (ap (λ (z : View P). z.number) missed, refl, ap mode_of inside, refl) (All-cons (IsLeavingStep v lock) miss [] (refl, refl, ap mode_of here, refl) (All-nil (IsLeavingStep v lock)));
          trail = treads_then (IsWeakAt lock) v o w
              (treads_as (IsBetween lock (standing v lock) Inline) (IsWeakAt lock) v o (λ m. weak_between lock (standing v lock) Inline m (ap (λ (s : Standing). is_strong s || false) here)) (treads_step_at v o kinds.LeaveSlot lock slot r.1 false Inline v.part missed))
              (treads_as (IsBetween lock (standing o lock) Away) (IsWeakAt lock) o w (λ m. weak_between lock (standing o lock) Away m (ap (λ (s : Standing). is_strong s || false) inside)) (treads_step o w kinds.Lower lock r.4.0 true Away (lowered_part g (standing o lock) lock o.part) back));
        }

    pub leaves_lock : (form : Form) → standing v lock ≡ stands_by form → LeavesShared g v lock form w → LeavesLock v lock w
    leaves_lock (forms.Deferred slot) here r = by_slot slot r.0 here r.1
    leaves_lock (forms.Inline why) here r = by_count r.0 here r.1
    leaves_lock forms.Lowered here r = by_count r.0 here r.1
