-- Laws of a reader whom no word refused: it entered, or it raced, and each word of the lock that it read in its call lets readers in.
use Rattle.std.specs.Prelude.{◌≡◌, ◌≢◌, ℕ, ◌+◌, ◌<◌, ◌≤◌, ◌==◌, ◌||◌, Bool, true, false, List, [], ◌∷◌, slice_index}
use Rattle.std.proofs.Common.{refl, sym, ap, ◌∙◌, subst, ⊎_elim, arith}
use Rattle.std.proofs.Math.Decide.{dec_lt}
use Rattle.std.proofs.lemmas.List.Elements.{All-nil, All-cons}
use mathlib.Core.Logic.{dite}
use Rattle.lock_model.specs.declared.model.Policy.{Policy}
use Rattle.lock_model.specs.declared.model.Policy.TheVariants.{WritePriority, ReadPriority}
use Rattle.state_word.specs.Words.{begun_of, held_of, may_defer_of}
use Rattle.hall.specs.declared.cargo.CargoRule.{Ghosts}
use Rattle.hall.specs.declared.guards.Form.{Form}
use Rattle.hall.specs.declared.guards.Form.TheVariants as forms
use Rattle.hall.specs.declared.guards.TryFault.TheVariants.{Raced}
use Rattle.hall.specs.declared.guards.Why.TheVariants.{NoDefer, SlotsTaken}
use Rattle.hall.specs.declared.view.StepKind.{StepKind}
use Rattle.hall.specs.declared.view.StepKind.TheVariants as kinds
use Rattle.hall.specs.declared.view.Shape.{Shape}
use Rattle.hall.specs.declared.view.Standing.{Standing}
use Rattle.hall.specs.declared.view.Standing.TheVariants.{Away, Inline, Slotted, Undecided, Owing}
use Rattle.hall.specs.declared.view.StepEntry.{StepEntry}
use Rattle.hall.specs.declared.view.View.{View}
use Rattle.hall.specs.Plays.{Enters, conflicts_for_shared, lowered_part}
use Rattle.hall.specs.Shows.{rule_shows}
use Rattle.hall.specs.Slotting.{Defers}
use Rattle.hall.specs.Views.{after_look, after_step_at, entry_at, place_of, standing}
use Rattle.reader_slots.specs.declared.Placed.TheVariants.{At, Taken}
use Rattle.reader_slots.specs.declared.Withdrawn.{Withdrawn}
use Rattle.reader_slots.specs.declared.Withdrawn.TheVariants.{Cleared, GaveBack}
use Rattle.reader_slots.specs.Deferring.{Places, WithdrawsAs, first_slot, second_slot}
use Rattle.shared_mutex.specs.Acquiring.{EntersBy, RefusesShared, TakesShared, TurnsBack}
use Rattle.shared_mutex.specs.Tries.{AddsSteps}
use Rattle.shared_mutex.specs.TryLaws.{adds_then}

-- the kinds of step by which a reader reads the lock's word to decide by it
abbrev pub is_reading : StepKind → Bool
is_reading kinds.Load = true
is_reading kinds.Check = true
is_reading k = false

-- such a step found a word that lets readers in
abbrev pub IsFree : Policy → StepEntry → Type 0
IsFree policy e = is_reading e.kind ≡ true → conflicts_for_shared policy e.word ≡ false

no_both : (b : Bool) → b ≡ false → b ≡ true → ⊥
no_both b f t = absurd (cc)

-- a word with no writer in it lets readers in
lets_in : (p : Policy) (w : ℕ) → begun_of w ≡ 0 → held_of w ≡ 0 → conflicts_for_shared p w ≡ false
lets_in WritePriority w b h = ap (λ (n : ℕ). (n == 1) || (begun_of w == 1)) h ∙ ap (λ (n : ℕ). n == 1) b
lets_in ReadPriority w b h = ap (λ (n : ℕ). n == 1) h

module _ {P : Type 0} (p : Policy) where
  -- a step that reads no word to decide by it, and one that read such a word
  free_other : (v w : View P) (kind : StepKind) (lock place word : ℕ) (won : Bool) (y : Standing) (part : P) → is_reading kind ≡ false → w ≡ after_step_at v kind lock place word won y part → AddsSteps (IsFree p) v w
  free_other v w kind lock place word won y part other is =
      let e : StepEntry = entry_at v kind lock place word won in (e ∷ [], ap (λ (z : View P). z.steps) is, All-cons (IsFree p) e [] (λ reads. absurd (no_both (is_reading kind) other reads)) (All-nil (IsFree p)))

  free_reading : (v w : View P) (kind : StepKind) (lock place word : ℕ) (won : Bool) (y : Standing) (part : P) → conflicts_for_shared p word ≡ false → w ≡ after_step_at v kind lock place word won y part → AddsSteps (IsFree p) v w
  free_reading v w kind lock place word won y part free is = let e : StepEntry = entry_at v kind lock place word won in (e ∷ [], ap (λ (z : View P). z.steps) is, All-cons (IsFree p) e [] (λ reads. free) (All-nil (IsFree p)))

module _ {C P : Type 0} (g : Ghosts C P) where
  -- where readers may defer no writer is announced or holds the lock
  pub deferred_is_free : (slot : ℕ) (v w : View P) (lock word : ℕ) → may_defer_of word ≡ 1 → Defers g slot v lock word w → (policy : Policy) → conflicts_for_shared policy word ≡ false
  deferred_is_free slot v w lock word may e policy =
      let m = e.1 in
      let here : slice_index m.state.words (m.plan.shape.slots + lock) ≡ word = ap (λ (s : Shape). slice_index m.state.words (s.slots + lock)) m.shape ∙ m.finds in
      let shows = rule_shows g m.plan m.state m.before lock m.near in
      let off : 1 ≤ begun_of word + held_of word → may_defer_of word ≡ 0 = subst (λ (x : ℕ). 1 ≤ begun_of x + held_of x → may_defer_of x ≡ 0) here shows.undeferred in
      dite (dec_lt 0 (begun_of word + held_of word)) (λ some. let none = off (omega (arith, some)) in absurd (omega (arith, none, may))) (λ none. lets_in policy word (omega (arith, none)) (omega (arith, none)))

  module _ (p : Policy) (lock : ℕ) where
    free_missed : (l z : View P) (tokens : List ℕ) → Places g l lock (Taken tokens) z → AddsSteps (IsFree p) l z
    free_missed l u tokens t =
        let z : View P = t.0 in
        adds_then (IsFree p) l z u (free_other p l z kinds.PlaceSlot lock (first_slot l.shape.slots l.number) (slice_index tokens 0) false (standing l lock) l.part refl t.1.1.0) (free_other p z u kinds.PlaceSlot lock (second_slot l.shape.slots l.number) (slice_index tokens 1) false (standing z lock) z.part refl t.3.0)

    free_placed : (l u : View P) (slot : ℕ) → Places g l lock (At slot) u → AddsSteps (IsFree p) l u
    free_placed l u slot t = ⊎_elim
        (λ a. free_other p l u kinds.PlaceSlot lock slot 0 true (Undecided slot) l.part refl a.1.0)
        (λ b. let z : View P = b.1.0 in
        adds_then (IsFree p) l z u (free_other p l z kinds.PlaceSlot lock (first_slot l.shape.slots l.number) b.1.1 false (standing l lock) l.part refl b.1.2.1.0) (free_other p z u kinds.PlaceSlot lock slot 0 true (Undecided slot) z.part refl b.1.3.0))
        t

    free_back : (c w : View P) (slot : ℕ) (ended : Withdrawn) → WithdrawsAs g c lock slot ended w → AddsSteps (IsFree p) c w
    free_back c w slot Cleared r = free_other p c w kinds.WithdrawSlot lock slot (lock + 1) true Away c.part refl r.0
    free_back c w slot GaveBack r =
        let o : View P = r.0 in
        adds_then (IsFree p) c o w (free_other p c o kinds.WithdrawSlot lock slot r.1 false Owing c.part refl r.3.0) (free_other p o w kinds.Lower lock (place_of o lock) r.4.0 true Away (lowered_part g (standing o lock) lock o.part) refl r.4.1.0)

    free_load : (v : View P) (seen : ℕ) → conflicts_for_shared p seen ≡ false → AddsSteps (IsFree p) v (after_look v kinds.Load lock seen)
    free_load v seen free = free_reading p v (after_look v kinds.Load lock seen) kinds.Load lock (place_of v lock) seen false (standing v lock) v.part free refl

    free_entered : (u w : View P) (seen : ℕ) → Enters g u lock seen w → AddsSteps (IsFree p) u w
    free_entered u w seen e = free_other p u w kinds.Enter lock (place_of u lock) seen true Inline e.0.1 refl e.0.3

  module _ (v w : View P) (lock : ℕ) where
    takes_freely_by : (form : Form) → EntersBy g v lock form w → AddsSteps (IsFree v.shape.policy) v w
    takes_freely_by (forms.Deferred slot) e =
        let Free : StepEntry → Type 0 = IsFree v.shape.policy in let l : View P = after_look v kinds.Load lock e.0 in let u : View P = e.2.0 in let inside = e.2.2 in
        adds_then Free v l w (free_load v.shape.policy lock v e.0 e.1.0)
        (adds_then Free l u w (free_placed v.shape.policy lock l u slot e.2.1) (free_reading v.shape.policy u w kinds.Check lock (place_of u lock) inside.0 false (Slotted slot) inside.2.0.1 (deferred_is_free slot u w lock inside.0 inside.1 inside.2 v.shape.policy) inside.2.0.3))
    takes_freely_by (forms.Inline (NoDefer seen)) e =
        let l : View P = after_look v kinds.Load lock seen in
        adds_then (IsFree v.shape.policy) v l w (free_load v.shape.policy lock v seen e.0) (free_entered v.shape.policy lock l w seen e.2)
    takes_freely_by (forms.Inline (SlotsTaken tokens)) e =
        let Free : StepEntry → Type 0 = IsFree v.shape.policy in let l : View P = after_look v kinds.Load lock e.0 in let u : View P = e.2.0 in
        adds_then Free v l w (free_load v.shape.policy lock v e.0 e.1.0) (adds_then Free l u w (free_missed v.shape.policy lock l u tokens e.2.1) (free_entered v.shape.policy lock u w e.0 e.2.2))
    takes_freely_by forms.Lowered e = absurd e

    -- who entered
    pub takes_freely : TakesShared g v lock w → AddsSteps (IsFree v.shape.policy) v w
    takes_freely t = takes_freely_by t.0 t.1

    turned_freely : (seen found : ℕ) → conflicts_for_shared v.shape.policy found ≡ false → TurnsBack g v lock seen found w → AddsSteps (IsFree v.shape.policy) v w
    turned_freely seen found free r =
        let Free : StepEntry → Type 0 = IsFree v.shape.policy in let l : View P = after_look v kinds.Load lock seen in let u : View P = r.3.1 in let c : View P = after_look u kinds.Check lock found in
        adds_then Free v l w (free_load v.shape.policy lock v seen r.2.0)
        (adds_then Free l u w (free_placed v.shape.policy lock l u r.3.0 r.3.2)
        (adds_then Free u c w (free_reading v.shape.policy u c kinds.Check lock (place_of u lock) found false (standing u lock) u.part free refl) (free_back v.shape.policy lock c w r.3.0 r.3.3.2.0 r.3.3.2.1)))

    -- who raced
    pub races_freely : (expected found : ℕ) → RefusesShared g v lock w (Raced expected found) → AddsSteps (IsFree v.shape.policy) v w
    races_freely expected found r =
        let Free : StepEntry → Type 0 = IsFree v.shape.policy in let l : View P = after_look v kinds.Load lock expected in let first = free_load v.shape.policy lock v expected r.1 in
        ⊎_elim
        (λ a. adds_then Free v l w first (free_other v.shape.policy l w kinds.Enter lock (place_of l lock) found false (standing l lock) l.part refl a.1))
        (λ bc. ⊎_elim
        (λ b. let u : View P = b.1.1 in
        adds_then Free v l w first (adds_then Free l u w (free_missed v.shape.policy lock l u b.1.0 b.1.2) (free_other v.shape.policy u w kinds.Enter lock (place_of u lock) found false (standing u lock) u.part refl b.1.3)))
        (λ c. turned_freely expected found c.0 c.1)
        bc)
        r.2
