-- Laws of the steps of tries: all were made for the lock with no mode held there, and where a try raced or won, none was one that refuses busy.
use Rattle.std.specs.Prelude.{◌≡◌, ℕ, ◌+◌, ◌==◌, ◌&&◌, ◌||◌, not, Bool, true, false, List, [], ◌∷◌, ◌++◌, slice_index, All, None}
use Rattle.std.proofs.Common.{refl, sym, ap, ◌∙◌, subst, ⊎_elim, append_assoc}
use Rattle.std.proofs.lemmas.List.{append_cancel_right}
use Rattle.std.proofs.lemmas.List.Elements.{All-append, All-nil, All-cons}
use Rattle.hall.specs.declared.cargo.CargoRule.{Ghosts}
use Rattle.state_word.specs.Words.{may_defer_of}
use Rattle.hall.specs.declared.guards.Form.{Form}
use Rattle.hall.specs.declared.guards.Form.TheVariants as forms
use Rattle.hall.specs.declared.guards.Why.TheVariants.{NoDefer, SlotsTaken}
use Rattle.hall.specs.declared.guards.TryFault.{TryFault}
use Rattle.hall.specs.declared.guards.TryFault.TheVariants.{Busy, Raced}
use Rattle.hall.specs.declared.view.StepKind.{StepKind}
use Rattle.hall.specs.declared.view.StepKind.TheVariants as kinds
use Rattle.hall.specs.declared.view.Shape.{Shape}
use Rattle.hall.specs.declared.view.Standing.{Standing}
use Rattle.hall.specs.declared.view.Standing.TheVariants.{Away, Undecided, Owing, Announcing}
use Rattle.hall.specs.declared.view.StepEntry.{StepEntry}
use Rattle.hall.specs.declared.view.View.{View}
use Rattle.lock_model.specs.declared.model.Policy.{Policy}
use Rattle.hall.specs.Plays.{conflicts_for_announcing, conflicts_for_shared, lowered_part}
use Rattle.hall.specs.Views.{after_look, after_step, after_step_at, entry_at, entry_of, mode_of, place_of, standing}
use Rattle.reader_slots.specs.declared.Placed.TheVariants.{At, Taken}
use Rattle.reader_slots.specs.declared.Withdrawn.{Withdrawn}
use Rattle.reader_slots.specs.declared.Withdrawn.TheVariants.{Cleared, GaveBack}
use Rattle.reader_slots.specs.Deferring.{Places, WithdrawsAs, first_slot, second_slot}
use Rattle.apply_deferred.specs.Sweeping.{Sweeps}
use Rattle.apply_deferred.specs.SweepLaws.{AllSweeping, is_sweeping, same_mode, sweep_goes}
use Rattle.shared_mutex.specs.Acquiring.{AnnouncesWriter, EntersBy, FoundReaders, RefusesAnnouncing, RefusesExclusive, RefusesShared, TakesExclusive}
use Rattle.shared_mutex.specs.Refused.{AddsReads, MadeMore}
use Rattle.shared_mutex.specs.TokenLaws.{both_missed, loaded, placed, still_away}
use Rattle.shared_mutex.specs.Tries.{AddsSteps, IsLook, IsTry, StaysAsItWas}
use Rattle.shared_mutex.specs.TryLaws.{adds_as, adds_none, adds_then, reader_looked}
use Rattle.upgrade_mode.specs.Holding.{EntersUpgrade, RefusesUpgrade}
use Rattle.sync_cell.specs.Attempts.{is_hold, is_load}
use Rattle.sync_cell.specs.Gains.{AnyStep, GainedBy, GainedInOrder, IsQuiet, gains_mode, looks_in, refuses_reader, refuses_writer}

-- what is no look at a lock to be let in is no load of its word
no_load : (k : StepKind) (word : ℕ) → looks_in k word ≡ false → is_load k ≡ false
no_load k word e = elim k as (λ z. looks_in z word ≡ false → is_load z ≡ false) [ kinds.Load ↦ λ h. absurd (cc) | _ ↦ λ h. refl ] e

nobody_there : (a b : Bool) → b ≡ false → (a && b) ≡ false
nobody_there true b e = e
nobody_there false b e = refl

-- a step of a sweep refuses nobody
sweeping_refuses_none : (k : StepKind) (a b : Bool) → is_sweeping k ≡ true → ((is_load k && a) || (is_hold k && b)) ≡ false
sweeping_refuses_none k a b e = elim k as (λ z. is_sweeping z ≡ true → ((is_load z && a) || (is_hold z && b)) ≡ false) [ kinds.Load ↦ λ h. absurd (cc) | kinds.Hold ↦ λ h. absurd (cc) | _ ↦ λ h. refl ] e

module _ {P : Type 0} (such : StepEntry → Type 0) where
  -- a step that was made for the lock with no mode held there, and is such a step
  abbrev pub IsTrySuch : View P → ℕ → StepEntry → Type 0
  IsTrySuch v lock e = IsTry v lock e × such e

  -- the pass only tried so far, and holds no mode at the lock
  record OnlyTries (v w : View P) (lock : ℕ) : Type 0 where
    pub number : w.number ≡ v.number
    pub free : mode_of (standing w lock) ≡ None
    pub steps : AddsSteps (IsTrySuch v lock) v w

  tries_none : (v : View P) (lock : ℕ) → standing v lock ≡ Away → OnlyTries v v lock
  tries_none v lock away = record { number = refl; free = ap mode_of away; steps = adds_none (IsTrySuch v lock) v v refl }

  -- one step more, on the word at a place of the table
  step_more_at : (v u w : View P) (kind : StepKind) (lock place word : ℕ) (won : Bool) (y : Standing) (part : P) → OnlyTries v u lock → such (entry_at u kind lock place word won) → w ≡ after_step_at u kind lock place word won y part → AddsSteps (IsTrySuch v lock) v w
  step_more_at v u w kind lock place word won y part t so is =
      let e : StepEntry = entry_at u kind lock place word won in
      adds_then (IsTrySuch v lock) v u w t.steps (e ∷ [], ap (λ (z : View P). z.steps) is, All-cons (IsTrySuch v lock) e [] ((t.number, refl, t.free), so) (All-nil (IsTrySuch v lock)))

  -- and it leaves a standing without a mode
  tries_more_at : (v u w : View P) (kind : StepKind) (lock place word : ℕ) (won : Bool) (y : Standing) (part : P) → OnlyTries v u lock → such (entry_at u kind lock place word won) → mode_of y ≡ None → w ≡ after_step_at u kind lock place word won y part → OnlyTries v w lock
  tries_more_at v u w kind lock place word won y part t so free is = record {
    number = ap (λ (z : View P). z.number) is ∙ t.number;
    free = ap (λ (z : View P). mode_of (standing z lock)) is ∙ same_mode u.standings lock y (free ∙ sym t.free) ∙ t.free;
    steps = step_more_at v u w kind lock place word won y part t so is;
  }

  -- the same on the lock's own word
  step_more : (v u w : View P) (kind : StepKind) (lock word : ℕ) (won : Bool) (y : Standing) (part : P) → OnlyTries v u lock → such (entry_of u kind lock word won) → w ≡ after_step u kind lock word won y part → AddsSteps (IsTrySuch v lock) v w
  step_more v u w kind lock word won y part t so is = step_more_at v u w kind lock (place_of u lock) word won y part t so is

  tries_more : (v u w : View P) (kind : StepKind) (lock word : ℕ) (won : Bool) (y : Standing) (part : P) → OnlyTries v u lock → such (entry_of u kind lock word won) → mode_of y ≡ None → w ≡ after_step u kind lock word won y part → OnlyTries v w lock
  tries_more v u w kind lock word won y part t so free is = tries_more_at v u w kind lock (place_of u lock) word won y part t so free is

  -- a look
  tries_look : (v u : View P) (kind : StepKind) (lock word : ℕ) → OnlyTries v u lock → such (entry_of u kind lock word false) → OnlyTries v (after_look u kind lock word) lock
  tries_look v u kind lock word t so = tries_more v u (after_look u kind lock word) kind lock word false (standing u lock) u.part t so t.free refl

module _ {P : Type 0} where
  -- tries of one kind are tries
  pub plain_tries : (such : StepEntry → Type 0) (v w : View P) (lock : ℕ) → AddsSteps (IsTrySuch such v lock) v w → AddsSteps (IsTry v lock) v w
  plain_tries such v w lock a = adds_as (IsTrySuch such v lock) (IsTry v lock) v w (λ e p. p.0) a

  pub any_tries : (v w : View P) (lock : ℕ) → AddsSteps (IsTry v lock) v w → AddsSteps (IsTrySuch AnyStep v lock) v w
  any_tries v w lock a = adds_as (IsTry v lock) (IsTrySuch AnyStep v lock) v w (λ e p. (p, tt)) a

  -- tries of a pass that had made others before
  pub tries_then : (such : StepEntry → Type 0) (v u w : View P) (lock : ℕ) → u.number ≡ v.number → AddsSteps (IsTrySuch such v lock) v u → AddsSteps (IsTrySuch such u lock) u w → AddsSteps (IsTrySuch such v lock) v w
  tries_then such v u w lock number a b = adds_then (IsTrySuch such v lock) v u w a (adds_as (IsTrySuch such u lock) (IsTrySuch such v lock) u w (λ e p. ((p.0.0 ∙ number, p.0.1, p.0.2), p.1)) b)

  -- a call that only tried until its newest step, which won
  all_added : (is : StepEntry → Type 0) (v w : View P) (added : List StepEntry) → AddsSteps is v w → w.steps ≡ added ++ v.steps → All is added
  all_added is v w added a stand = subst (λ (l : List StepEntry). All is l) (append_cancel_right a.0 added v.steps (sym a.1 ∙ stand)) a.2

  pub gained_last : (such : StepEntry → Type 0) (v z w : View P) (lock : ℕ) (gain : StepEntry) → AddsSteps (IsTrySuch such v lock) v w → MadeMore v z → w.steps ≡ gain ∷ z.steps → gains_mode gain.kind gain.won gain.word ≡ true → AddsReads (λ shape number added. GainedBy such lock number added) v w
  gained_last such v z w lock gain adds more last gains =
      let stand : w.steps ≡ (gain ∷ more.0) ++ v.steps = last ∙ ap (λ (l : List StepEntry). gain ∷ l) more.1 in
      (gain ∷ more.0, stand, record { later = []; gain = gain; earlier = more.0; stand = refl; tries = all_added (IsTrySuch such v lock) v w (gain ∷ more.0) adds stand; gains = gains; after = All-nil such })

  -- one lock was gained, and then another
  pub gained_in_order : (v u w : View P) (low high : ℕ) → u.number ≡ v.number → AddsReads (λ shape number added. GainedBy AnyStep low number added) v u → AddsReads (λ shape number added. GainedBy AnyStep high number added) u w → AddsReads (λ shape number added. GainedInOrder low high number added) v w
  gained_in_order v u w low high number a b = (
    b.0 ++ a.0,
    b.1 ∙ ap (λ (l : List StepEntry). b.0 ++ l) a.1 ∙ sym (append_assoc b.0 a.0 v.steps),
    record { later = b.0; earlier = a.0; stand = refl; first = a.2; second = subst (λ (n : ℕ). GainedBy AnyStep high n b.0) number b.2 },
  )

-- what was gained stays so where such steps are added
still_gained : (such : StepEntry → Type 0) (lock number : ℕ) (added steps : List StepEntry) → All such added → GainedBy such lock number steps → GainedBy such lock number (added ++ steps)
still_gained such lock number added steps more g = record {
  later = added ++ g.later;
  gain = g.gain;
  earlier = g.earlier;
  stand = ap (λ (l : List StepEntry). added ++ l) g.stand ∙ sym (append_assoc added g.later (g.gain ∷ g.earlier));
  tries = g.tries;
  gains = g.gains;
  after = All-append such added g.later more g.after;
}

pub still_in_order : (low high number : ℕ) (added steps : List StepEntry) → GainedInOrder low high number steps → GainedInOrder low high number (added ++ steps)
still_in_order low high number added steps g = record {
  later = added ++ g.later;
  earlier = g.earlier;
  stand = ap (λ (l : List StepEntry). added ++ l) g.stand ∙ sym (append_assoc added g.later g.earlier);
  first = g.first;
  second = still_gained AnyStep high number added g.later (λ k d lt. tt) g.second;
}

module _ {P : Type 0} where
  pub gained_then : (such : StepEntry → Type 0) (v u w : View P) (lock : ℕ) → AddsReads (λ shape number added. GainedBy such lock number added) v u → AddsSteps such u w → AddsReads (λ shape number added. GainedBy such lock number added) v w
  gained_then such v u w lock a b = (b.0 ++ a.0, b.1 ∙ ap (λ (l : List StepEntry). b.0 ++ l) a.1 ∙ sym (append_assoc b.0 a.0 v.steps), still_gained such lock v.number b.0 a.0 b.2 a.2)

  -- quiet steps refuse neither a reader nor a writer
  pub quiet_for_reader : (v w : View P) (policy : Policy) → AddsSteps IsQuiet v w → AddsSteps (λ e. refuses_reader policy e ≡ false) v w
  quiet_for_reader v w policy a = adds_as IsQuiet (λ e. refuses_reader policy e ≡ false) v w (λ e q. ap (λ (b : Bool). b && conflicts_for_shared policy e.word) q.0) a

  pub quiet_for_writer : (v w : View P) → AddsSteps IsQuiet v w → AddsSteps (λ e. refuses_writer e ≡ false) v w
  quiet_for_writer v w a = adds_as IsQuiet (λ e. refuses_writer e ≡ false) v w
      (λ e q. ap (λ (b : Bool). (b && conflicts_for_announcing e.word) || (is_hold e.kind && not e.won)) (no_load e.kind e.word q.0) ∙ ap (λ (b : Bool). b && not e.won) q.1) a

-- ---- readers
module _ {C P : Type 0} (g : Ghosts C P) (v : View P) (lock : ℕ) where
  -- a step of a reader for which it isn't refused busy
  abbrev Unrefused : StepEntry → Type 0
  Unrefused e = refuses_reader v.shape.policy e ≡ false

  -- it placed a token
  placing : (l u : View P) (slot : ℕ) → OnlyTries Unrefused v l lock → Places g l lock (At slot) u → OnlyTries Unrefused v u lock
  placing l u slot t p = ⊎_elim
      (λ a. tries_more_at Unrefused v l u kinds.PlaceSlot lock slot 0 true (Undecided slot) l.part t refl refl a.1.0)
      (λ b. let z : View P = b.1.0 in
      let first : OnlyTries Unrefused v z lock = tries_more_at Unrefused v l z kinds.PlaceSlot lock (first_slot l.shape.slots l.number) b.1.1 false (standing l lock) l.part t refl t.free b.1.2.1.0 in
      tries_more_at Unrefused v z u kinds.PlaceSlot lock slot 0 true (Undecided slot) z.part first refl refl b.1.3.0)
      p

  -- or found both slots taken
  missing : (l u : View P) (tokens : List ℕ) → OnlyTries Unrefused v l lock → Places g l lock (Taken tokens) u → OnlyTries Unrefused v u lock
  missing l u tokens t p =
      let z : View P = p.0 in
      let first : OnlyTries Unrefused v z lock = tries_more_at Unrefused v l z kinds.PlaceSlot lock (first_slot l.shape.slots l.number) (slice_index tokens 0) false (standing l lock) l.part t refl t.free p.1.1.0 in
      tries_more_at Unrefused v z u kinds.PlaceSlot lock (second_slot l.shape.slots l.number) (slice_index tokens 1) false (standing z lock) z.part first refl first.free p.3.0

  -- it took its token back
  withdrawing : (c w : View P) (slot : ℕ) (ended : Withdrawn) → OnlyTries Unrefused v c lock → WithdrawsAs g c lock slot ended w → AddsSteps (IsTrySuch Unrefused v lock) v w
  withdrawing c w slot Cleared t r = step_more_at Unrefused v c w kinds.WithdrawSlot lock slot (lock + 1) true Away c.part t refl r.0
  withdrawing c w slot GaveBack t r =
      let o : View P = r.0 in let owes : OnlyTries Unrefused v o lock = tries_more_at Unrefused v c o kinds.WithdrawSlot lock slot r.1 false Owing c.part t refl refl r.3.0 in
      step_more Unrefused v o w kinds.Lower lock r.4.0 true Away (lowered_part g (standing o lock) lock o.part) owes refl r.4.1.0

  module _ (away : standing v lock ≡ Away) where
    loading : (seen : ℕ) → conflicts_for_shared v.shape.policy seen ≡ false → OnlyTries Unrefused v (after_look v kinds.Load lock seen) lock
    loading seen free = tries_look Unrefused v v kinds.Load lock seen (tries_none Unrefused v lock away) free

    pub reader_took : (form : Form) (w : View P) → EntersBy g v lock form w → AddsSteps (IsTrySuch (λ e. refuses_reader v.shape.policy e ≡ false) v lock) v w
    reader_took (forms.Deferred slot) w e =
        let u : View P = e.2.0 in
        step_more Unrefused v u w kinds.Check lock e.2.2.0 false _ _ (placing (after_look v kinds.Load lock e.0) u slot (loading e.0 e.1.0) e.2.1)
        (ap (λ (b : ℕ). not (b == 1) && conflicts_for_shared v.shape.policy e.2.2.0) e.2.2.1) e.2.2.2.0.3
    reader_took (forms.Inline (NoDefer seen)) w e = step_more Unrefused v (after_look v kinds.Load lock seen) w kinds.Enter lock seen true _ _ (loading seen e.0) refl e.2.0.3
    reader_took (forms.Inline (SlotsTaken tokens)) w e =
        step_more Unrefused v e.2.0 w kinds.Enter lock e.0 true _ _ (missing (after_look v kinds.Load lock e.0) e.2.0 tokens (loading e.0 e.1.0) e.2.1) refl e.2.2.0.3
    reader_took forms.Lowered w e = absurd e

    -- and by its last step it gained the lock
    last_step : (form : Form) (w : View P) → EntersBy g v lock form w → (z : View P) × (gain : StepEntry) × MadeMore v z × (w.steps ≡ gain ∷ z.steps) × (gains_mode gain.kind gain.won gain.word ≡ true)
    last_step (forms.Deferred slot) w e =
        let l : View P = after_look v kinds.Load lock e.0 in let u : View P = e.2.0 in
        let t = placed g v lock away l u slot (still_away g v lock away e.0) (loaded g v lock away e.0 l refl) e.2.1 in
        (u, entry_of u kinds.Check lock e.2.2.0 false, (t.added, t.steps), ap (λ (z : View P). z.steps) e.2.2.2.0.3, ap (λ (b : ℕ). b == 1) e.2.2.1)
    last_step (forms.Inline (NoDefer seen)) w e =
        let l : View P = after_look v kinds.Load lock seen in (l, entry_of l kinds.Enter lock seen true, (entry_of v kinds.Load lock seen false ∷ [], refl), ap (λ (z : View P). z.steps) e.2.0.3, refl)
    last_step (forms.Inline (SlotsTaken tokens)) w e =
        let l : View P = after_look v kinds.Load lock e.0 in let u : View P = e.2.0 in
        let t = (both_missed g v lock away l u tokens (still_away g v lock away e.0) (loaded g v lock away e.0 l refl) e.2.1).0 in
        (u, entry_of u kinds.Enter lock e.0 true, (t.added, t.steps), ap (λ (z : View P). z.steps) e.2.2.0.3, refl)
    last_step forms.Lowered w e = absurd e

    -- so it did after other tries
    pub reader_gained : (such : StepEntry → Type 0) (o : View P) → MadeMore o v → (form : Form) (w : View P) → EntersBy g v lock form w → AddsSteps (IsTrySuch such o lock) o w → AddsReads (λ shape number added. GainedBy such lock number added) o w
    reader_gained such o more form w e adds =
        let last = last_step form w e in
        gained_last such o last.0 w lock last.1 adds (last.2.0 ++ more.0, last.2.1 ∙ ap (λ (l : List StepEntry). last.2.0 ++ l) more.1 ∙ sym (append_assoc last.2.0 more.0 o.steps)) last.3 last.4

    pub reader_raced : (expected found : ℕ) (w : View P) → RefusesShared g v lock w (Raced expected found) → AddsSteps (IsTrySuch (λ e. refuses_reader v.shape.policy e ≡ false) v lock) v w
    reader_raced expected found w r =
        let look : View P = after_look v kinds.Load lock expected in let t : OnlyTries Unrefused v look lock = loading expected r.1 in
        ⊎_elim
        (λ a. step_more Unrefused v look w kinds.Enter lock found false (standing look lock) look.part t refl a.1)
        (λ bc. ⊎_elim
        (λ b. let u : View P = b.1.1 in step_more Unrefused v u w kinds.Enter lock found false (standing u lock) u.part (missing look u b.1.0 t b.1.2) refl b.1.3)
        (λ c. let back = c.1.3 in let u : View P = back.1 in let turned = back.3 in
        withdrawing (after_look u kinds.Check lock found) w back.0 turned.2.0
        (tries_look Unrefused v u kinds.Check lock found (placing look u back.0 t back.2) (nobody_there (not (may_defer_of found == 1)) (conflicts_for_shared v.shape.policy found) c.0)) turned.2.1)
        bc)
        r.2

  pub reader_tried : (w : View P) (f : TryFault) → standing v lock ≡ Away → RefusesShared g v lock w f → AddsSteps (IsTry v lock) v w
  reader_tried w f away r = let looked : StaysAsItWas v lock w = reader_looked g v lock w f r in adds_as (IsLook v lock) (IsTry v lock) v w (λ e p. (p.0, p.1, p.2 ∙ ap mode_of away)) looked.steps

-- ---- upgrade, of whom the same words are in the way as of a writer's announcement
module _ {C P : Type 0} (g : Ghosts C P) (v w : View P) (lock : ℕ) (away : standing v lock ≡ Away) where
  pub upgrader_took : EntersUpgrade g v lock w → AddsSteps (IsTrySuch (λ e. refuses_writer e ≡ false) v lock) v w
  upgrader_took t =
      let Free : StepEntry → Type 0 = λ e. refuses_writer e ≡ false in
      step_more Free v (after_look v kinds.Load lock t.0) w kinds.UpgradeIn lock t.0 true _ _ (tries_look Free v v kinds.Load lock t.0 (tries_none Free v lock away) (ap (λ (b : Bool). b || false) t.1)) refl t.2.0.3

  pub upgrader_raced : (expected found : ℕ) → RefusesUpgrade g v lock w (Raced expected found) → AddsSteps (IsTrySuch (λ e. refuses_writer e ≡ false) v lock) v w
  upgrader_raced expected found r =
      let Free : StepEntry → Type 0 = λ e. refuses_writer e ≡ false in let look : View P = after_look v kinds.Load lock expected in
      step_more Free v look w kinds.UpgradeIn lock found false (standing look lock) look.part (tries_look Free v v kinds.Load lock expected (tries_none Free v lock away) (ap (λ (b : Bool). b || false) r.3)) refl r.1

  pub upgrader_tried : (f : TryFault) → RefusesUpgrade g v lock w f → AddsSteps (IsTry v lock) v w
  upgrader_tried (Busy word) r = plain_tries AnyStep v w lock (step_more AnyStep v v w kinds.Load lock word false (standing v lock) v.part (tries_none AnyStep v lock away) tt r.1)
  upgrader_tried (Raced expected found) r = plain_tries (λ e. refuses_writer e ≡ false) v w lock (upgrader_raced expected found r)

-- ---- writers
module _ {C P : Type 0} (g : Ghosts C P) (such : StepEntry → Type 0) (v : View P) (lock : ℕ) (away : standing v lock ≡ Away) (sweeping : (e : StepEntry) → is_sweeping e.kind ≡ true → such e) where
  all_such : (number lock : ℕ) (es : List StepEntry) → number ≡ v.number → AllSweeping number lock None es → All (IsTrySuch such v lock) es
  all_such number lock [] same h = All-nil (IsTrySuch such v lock)
  all_such number lock (e ∷ es) same h = All-cons (IsTrySuch such v lock) e es ((h.0 ∙ same, h.1, h.3), sweeping e h.2) (all_such number lock es same h.4)

  -- a writer was announced, and swept
  announced_tries : (u z : View P) (slots taken : ℕ) (a : AnnouncesWriter g v lock u) → such (entry_of v kinds.Load lock a.0 false) → such (entry_of (after_look v kinds.Load lock a.0) kinds.Announce lock a.0 true) → Sweeps g lock slots taken u z → OnlyTries such v z lock
  announced_tries u z slots taken a so_load so_announce sweeps =
      let look : View P = after_look v kinds.Load lock a.0 in
      let t : OnlyTries such v u lock = tries_more such v look u kinds.Announce lock a.0 true (Announcing 0 0 false) look.part (tries_look such v v kinds.Load lock a.0 (tries_none such v lock away) so_load) so_announce refl a.2.0 in
      let s = sweep_goes g lock slots taken u z sweeps in record {
        number = s.number ∙ t.number;
        free = s.mode ∙ t.free;
        steps = adds_then (IsTrySuch such v lock) v u z t.steps (s.added, s.steps, all_such u.number lock s.added t.number (subst (λ m. AllSweeping u.number lock m s.added) t.free s.sweeping));
      }

module _ {C P : Type 0} (g : Ghosts C P) (v w : View P) (lock : ℕ) (away : standing v lock ≡ Away) where
  pub writer_took : TakesExclusive g v lock w → AddsSteps (IsTrySuch (λ e. refuses_writer e ≡ false) v lock) v w
  writer_took t =
      let Free : StepEntry → Type 0 = λ e. refuses_writer e ≡ false in let z : View P = t.2 in
      let tried = announced_tries g Free v lock away (λ e is. sweeping_refuses_none e.kind (conflicts_for_announcing e.word) (not e.won) is) t.0 z v.shape.slots t.3 t.1 (ap (λ (b : Bool). b || false) t.1.1) refl t.4 in
      step_more Free v z w kinds.Hold lock 4 true _ _ tried refl t.5.0.3

  pub writer_raced : (expected found : ℕ) → RefusesExclusive g v lock w (Raced expected found) → AddsSteps (IsTrySuch (λ e. refuses_writer e ≡ false) v lock) v w
  writer_raced expected found r =
      let Free : StepEntry → Type 0 = λ e. refuses_writer e ≡ false in let look : View P = after_look v kinds.Load lock expected in
      step_more Free v look w kinds.Announce lock found false (standing look lock) look.part (tries_look Free v v kinds.Load lock expected (tries_none Free v lock away) (ap (λ (b : Bool). b || false) r.3)) refl r.1

  found_readers_tried : (word : ℕ) → FoundReaders g v lock w word → AddsSteps (IsTry v lock) v w
  found_readers_tried word f =
      let z : View P = f.2 in let look : View P = after_look z kinds.Hold lock word in
      let tried = announced_tries g AnyStep v lock away (λ e is. tt) f.0 z v.shape.slots f.3 f.1 tt tt f.4 in
      plain_tries AnyStep v w lock (step_more AnyStep v look w kinds.Retract lock f.7.0 true Away z.part (tries_look AnyStep v z kinds.Hold lock word tried tt) tt f.7.1)

  pub writer_tried : (f : TryFault) → RefusesExclusive g v lock w f → AddsSteps (IsTry v lock) v w
  writer_tried (Busy word) r = ⊎_elim
      (λ t. plain_tries AnyStep v w lock (step_more AnyStep v v w kinds.Load lock word false (standing v lock) v.part (tries_none AnyStep v lock away) tt t.1))
      (λ t. found_readers_tried word t)
      r
  writer_tried (Raced expected found) r = plain_tries (λ e. refuses_writer e ≡ false) v w lock (writer_raced expected found r)
