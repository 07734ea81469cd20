-- Laws of tries that were refused: they only looked, or took back what they had placed, and tries that follow them go on from there.
use Rattle.std.specs.Prelude.{◌≡◌, ℕ, ◌+◌, Bool, true, false, List, [], ◌∷◌, ◌++◌, length, slice_index, slice_index_or, slice_set}
use Rattle.std.proofs.Common.{refl, sym, ap, ◌∙◌, subst, ⊎_elim, inl, append_assoc, arith}
use Rattle.std.proofs.lemmas.List.{set-get_or}
use Rattle.std.proofs.lemmas.List.Elements.{All-nil, All-cons, All-append}
use Rattle.hall.specs.declared.cargo.CargoRule.{Ghosts}
use Rattle.hall.specs.declared.guards.TryFault.{TryFault}
use Rattle.hall.specs.declared.guards.TryFault.TheVariants.{Busy, Raced}
use Rattle.hall.specs.declared.view.StepKind.{StepKind}
use Rattle.hall.specs.declared.view.StepKind.TheVariants as kinds
use Rattle.hall.specs.declared.view.Standing.{Standing}
use Rattle.hall.specs.declared.view.Standing.TheVariants.{Away}
use Rattle.hall.specs.declared.view.StepEntry.{StepEntry}
use Rattle.hall.specs.declared.view.View.{View}
use Rattle.hall.specs.Treading.{IsBetween, IsWeakAt, treads_as, treads_none, treads_step_at, treads_then}
use Rattle.hall.specs.Views.{after_look, after_step_at, entry_at, mode_of, place_of, standing}
use Rattle.reader_slots.specs.Deferring.{first_slot, second_slot}
use Rattle.shared_mutex.specs.Acquiring.{ElsewhereSame, RefusesShared, RefusesAnnouncing}
use Rattle.shared_mutex.specs.TokenLaws.{turned_back}
use Rattle.shared_mutex.specs.Tokens.{IsReaderStep, OnlyTried, is_reader_step}
use Rattle.shared_mutex.specs.Tries.{AllRefused, AddsSteps, IsLook, MeetsReaders, StaysAsItWas, ReadersMet, ReadersRefused, WinsAtLast, WritersRefused, is_retract}

-- no step of a reader that is outside takes an announcement back
pub reader_patient : (k : StepKind) → is_reader_step k ≡ true → is_retract k ≡ false
reader_patient k e = elim k as (λ z. is_reader_step z ≡ true → is_retract z ≡ false) [ kinds.Retract ↦ λ h. absurd (cc) | kinds.UpRetract ↦ λ h. absurd (cc) | _ ↦ λ h. refl ] e

no_both : (b : Bool) → b ≡ false → b ≡ true → ⊥
no_both b f t = absurd (cc)

module _ {P : Type 0} where
  pub adds_none : (is : StepEntry → Type 0) (v w : View P) → w ≡ v → AddsSteps is v w
  adds_none is v w same = ([], ap (λ (z : View P). z.steps) same, All-nil is)

  pub adds_then : (is : StepEntry → Type 0) (v u w : View P) → AddsSteps is v u → AddsSteps is u w → AddsSteps is v w
  adds_then is v u w a b = (b.0 ++ a.0, b.1 ∙ ap (λ (l : List StepEntry). b.0 ++ l) a.1 ∙ sym (append_assoc b.0 a.0 v.steps), All-append is b.0 a.0 b.2 a.2)

  pub adds_as : (is so : StepEntry → Type 0) (v w : View P) → ((e : StepEntry) → is e → so e) → AddsSteps is v w → AddsSteps so v w
  adds_as is so v w each a = (a.0, a.1, λ k d lt. each (slice_index_or a.0 k d) (a.2 k d lt))

  -- no look
  pub looked_none : (v w : View P) (lock : ℕ) → w ≡ v → StaysAsItWas v lock w
  looked_none v w lock same = record {
    shape = ap (λ (z : View P). z.shape) same;
    number = ap (λ (z : View P). z.number) same;
    span = ap (λ (z : View P). z.span) same;
    taken = ap (λ (z : View P). z.taken) same;
    quota = ap (λ (z : View P). z.quota) same;
    standings = ap (λ (z : View P). z.standings) same;
    part = ap (λ (z : View P). z.part) same;
    steps = adds_none (IsLook v lock) v w same;
    trail = treads_none (IsBetween lock (standing v lock) (standing v lock)) v w (ap (λ (z : View P). z.number) same) (ap (λ (z : View P). z.trail) same);
  }

  -- one look, on the word at a place of the table
  pub looked_once_at : (v w : View P) (kind : StepKind) (lock place word : ℕ) → is_retract kind ≡ false → w ≡ after_step_at v kind lock place word false (standing v lock) v.part → StaysAsItWas v lock w
  looked_once_at v w kind lock place word patient is = record {
    shape = ap (λ (z : View P). z.shape) is;
    number = ap (λ (z : View P). z.number) is;
    span = ap (λ (z : View P). z.span) is;
    taken = ap (λ (z : View P). z.taken) is;
    quota = ap (λ (z : View P). z.quota) is;
    standings = ap (λ (z : View P). z.standings) is ∙ set-get_or v.standings lock Away;
    part = ap (λ (z : View P). z.part) is;
    steps = (
      entry_at v kind lock place word false ∷ [],
      ap (λ (z : View P). z.steps) is,
      All-cons (IsLook v lock) (entry_at v kind lock place word false) [] (refl, refl, refl, patient, inl refl) (All-nil (IsLook v lock)),
    );
    trail = treads_step_at v w kind lock place word false (standing v lock) v.part is;
  }

  -- and on the lock's own
  pub looked_once : (v w : View P) (kind : StepKind) (lock word : ℕ) → is_retract kind ≡ false → w ≡ after_look v kind lock word → StaysAsItWas v lock w
  looked_once v w kind lock word patient is = looked_once_at v w kind lock (place_of v lock) word patient is

  -- a token that was taken back
  pub tried_looked : (v w : View P) (lock : ℕ) → standing v lock ≡ Away → OnlyTried v lock Away w → StaysAsItWas v lock w
  tried_looked v w lock away t = record {
    shape = t.shape;
    number = t.number;
    span = t.span;
    taken = t.taken;
    quota = t.quota;
    standings = t.standings ∙ ap (λ (x : Standing). slice_set v.standings lock x) (sym away) ∙ set-get_or v.standings lock Away;
    part = t.part;
    steps = adds_as (IsReaderStep v lock) (IsLook v lock) v w (λ e p. (p.0, p.1, p.2 ∙ sym (ap mode_of away), reader_patient e.kind p.3, p.4)) (t.added, t.steps, t.each);
    trail = treads_as (IsWeakAt lock) (IsBetween lock (standing v lock) (standing v lock)) v w (λ m p. (p.0, λ strong. absurd (no_both m.strong p.1 strong))) t.trail;
  }

  -- looks after looks
  pub looked_then : (v u w : View P) (lock : ℕ) → StaysAsItWas v lock u → StaysAsItWas u lock w → StaysAsItWas v lock w
  looked_then v u w lock a b =
      let stands : standing u lock ≡ standing v lock = ap (λ (l : List Standing). slice_index_or l lock Away) a.standings in record {
        shape = b.shape ∙ a.shape;
        number = b.number ∙ a.number;
        span = b.span ∙ a.span;
        taken = b.taken ∙ a.taken;
        quota = b.quota ∙ a.quota;
        standings = b.standings ∙ a.standings;
        part = b.part ∙ a.part;
        steps = adds_then (IsLook v lock) v u w a.steps (adds_as (IsLook u lock) (IsLook v lock) u w (λ e p. (p.0 ∙ a.number, p.1, p.2 ∙ ap mode_of stands, p.3, p.4)) b.steps);
        trail = treads_then (IsBetween lock (standing v lock) (standing v lock)) v u w a.trail
            (treads_as (IsBetween lock (standing u lock) (standing u lock)) (IsBetween lock (standing v lock) (standing v lock)) u w (λ m p. subst (λ x. IsBetween lock x x m) stands p) b.trail);
      }

  -- after looks the pass stands where it did
  pub stands_still : (v u : View P) (lock : ℕ) → StaysAsItWas v lock u → standing u lock ≡ standing v lock
  stands_still v u lock looked = ap (λ (l : List Standing). slice_index_or l lock Away) looked.standings

  -- and what then stayed elsewhere had stayed from the start
  pub still_elsewhere : (v u w : View P) (lock : ℕ) → StaysAsItWas v lock u → ElsewhereSame u w lock → ElsewhereSame v w lock
  still_elsewhere v u w lock looked same = λ k ne. same k ne ∙ ap (λ (l : List Standing). slice_index_or l k Away) looked.standings

module _ {V : Type 0} (misses : V → V → TryFault → Type 0) where
  -- refused tries that follow refused ones
  pub refused_then : (v u w : V) (fs gs : List TryFault) → AllRefused misses v fs u → AllRefused misses u gs w → AllRefused misses v (gs ++ fs) w
  refused_then v u w fs [] a b = subst (λ (z : V). AllRefused misses v fs z) (sym b) a
  refused_then v u w fs (g ∷ gs) a b = (b.0, refused_then v u b.0 fs gs a b.1, b.2)

  -- tries that each raise a number by 1 raise it by as many as they are
  pub all_counted : (count : V → ℕ) → ((u w : V) (f : TryFault) → misses u w f → count w ≡ count u + 1) → (v w : V) (fs : List TryFault) → AllRefused misses v fs w → count w ≡ count v + length fs
  all_counted count each v w [] r = omega (arith, ap count r)
  all_counted count each v w (f ∷ fs) r = omega (arith, each r.0 w f r.2, all_counted count each v r.0 fs r.1)

-- where each refused try only looked
module _ {P : Type 0} (misses : View P → View P → TryFault → Type 0) (lock : ℕ) (each : (u w : View P) (f : TryFault) → misses u w f → StaysAsItWas u lock w) where
  -- all of them only looked
  pub all_looked : (v w : View P) (fs : List TryFault) → AllRefused misses v fs w → StaysAsItWas v lock w
  all_looked v w [] r = looked_none v w lock r
  all_looked v w (f ∷ fs) r = looked_then v r.0 w lock (all_looked v r.0 fs r.1) (each r.0 w f r.2)

  -- a try that won after refused ones, where others had been refused before them
  pub wins_then : (wins : View P → View P → Type 0) (v u w : View P) (fs gs : List TryFault) → AllRefused misses v fs u → WinsAtLast misses wins u lock gs w → WinsAtLast misses wins v lock (gs ++ fs) w
  wins_then wins v u w fs gs a e = (e.0, refused_then misses v u e.0 fs gs a e.1, looked_then v u e.0 lock (all_looked v u fs a) e.2, e.3)

module _ {C P : Type 0} (g : Ghosts C P) where
  pub reader_looked : (v : View P) (lock : ℕ) (w : View P) (f : TryFault) → RefusesShared g v lock w f → StaysAsItWas v lock w
  reader_looked v lock w (Busy word) r = ⊎_elim (λ a. looked_once v w kinds.Load lock word refl a) (λ b. tried_looked v w lock b.1.1 (turned_back g v lock b.1.1 w b.0 word b.1)) r.1
  reader_looked v lock w (Raced expected found) r =
      let l : View P = after_look v kinds.Load lock expected in let first : StaysAsItWas v lock l = looked_once v l kinds.Load lock expected refl refl in
      ⊎_elim
      (λ a. looked_then v l w lock first (looked_once l w kinds.Enter lock found refl a.1))
      (λ bc. ⊎_elim
      (λ b. let u : View P = b.1.1 in let p = b.1.2 in let z : View P = p.0 in
      looked_then v l w lock first
      (looked_then l z w lock (looked_once_at l z kinds.PlaceSlot lock (first_slot l.shape.slots l.number) (slice_index b.1.0 0) refl p.1.1.0)
      (looked_then z u w lock (looked_once_at z u kinds.PlaceSlot lock (second_slot l.shape.slots l.number) (slice_index b.1.0 1) refl p.3.0) (looked_once u w kinds.Enter lock found refl b.1.3))))
      (λ c. tried_looked v w lock c.1.1 (turned_back g v lock c.1.1 w expected found c.1))
      bc)
      r.2

  pub writer_looked : (v : View P) (lock : ℕ) (w : View P) (f : TryFault) → RefusesAnnouncing g v lock w f → StaysAsItWas v lock w
  writer_looked v lock w (Busy word) r = looked_once v w kinds.Load lock word refl r.1
  writer_looked v lock w (Raced expected found) r = looked_then v (after_look v kinds.Load lock expected) w lock (looked_once v (after_look v kinds.Load lock expected) kinds.Load lock expected refl refl) (looked_once (after_look v kinds.Load lock expected) w kinds.Announce lock found refl r.1)

  pub meeting_looked : (v : View P) (lock : ℕ) (w : View P) (f : TryFault) → MeetsReaders g v lock w f → StaysAsItWas v lock w
  meeting_looked v lock w (Busy word) r = looked_once v w kinds.Hold lock word refl r.0.1.0
  meeting_looked v lock w (Raced expected found) r = absurd r

  -- readers, writers and announced writers that were refused only looked
  pub readers_looked : (v : View P) (lock : ℕ) (w : View P) (fs : List TryFault) → ReadersRefused g lock v fs w → StaysAsItWas v lock w
  readers_looked v lock w fs r = all_looked (λ v w f. RefusesShared g v lock w f) lock (λ u w f. reader_looked u lock w f) v w fs r

  pub writers_looked : (v : View P) (lock : ℕ) (w : View P) (fs : List TryFault) → WritersRefused g lock v fs w → StaysAsItWas v lock w
  writers_looked v lock w fs r = all_looked (λ v w f. RefusesAnnouncing g v lock w f) lock (λ u w f. writer_looked u lock w f) v w fs r

  pub meetings_looked : (v : View P) (lock : ℕ) (w : View P) (fs : List TryFault) → ReadersMet g lock v fs w → StaysAsItWas v lock w
  meetings_looked v lock w fs r = all_looked (λ v w f. MeetsReaders g v lock w f) lock (λ u w f. meeting_looked u lock w f) v w fs r
