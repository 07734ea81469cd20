-- A reader that was refused: what its steps leave of its pass, a token that it placed and took back included.
use Rattle.std.specs.Prelude.{◌≡◌, ◌⊎◌, ℕ, zero, suc, ◌<◌, ◌||◌, Bool, true, false, List, [], ◌∷◌, ◌++◌, All, length, slice_index_or, slice_set, None}
use Rattle.std.proofs.Common.{refl, sym, ap, ◌∙◌, subst, inr, append_assoc}
use Rattle.std.proofs.lemmas.List.{set-set, set-get_or}
use Rattle.std.proofs.lemmas.List.Elements.{All-nil, All-cons, All-append}
use Rattle.hall.specs.declared.view.StepKind.{StepKind}
use Rattle.hall.specs.declared.view.StepKind.TheVariants as kinds
use Rattle.hall.specs.declared.view.Standing.{Standing}
use Rattle.hall.specs.declared.view.Standing.TheVariants.{Away, Undecided, Owing}
use Rattle.hall.specs.declared.view.StepEntry.{StepEntry}
use Rattle.hall.specs.declared.view.View.{View}
use Rattle.hall.specs.Treading.{IsBetween, IsWeakAt, Treads, treads_as, treads_none, treads_step_at, treads_then, weak_between}
use Rattle.hall.specs.Views.{after_step_at, entry_at, is_strong, mode_of, standing}

-- the kinds of step of a reader's try that is refused: it looks, finds slots taken, places a token and takes it back, or misses an exchange
abbrev pub is_reader_step : StepKind → Bool
is_reader_step kinds.Load = true
is_reader_step kinds.Enter = true
is_reader_step kinds.PlaceSlot = true
is_reader_step kinds.Check = true
is_reader_step kinds.WithdrawSlot = true
is_reader_step kinds.Lower = true
is_reader_step k = false

-- those of them that may change a word: a token is placed, and taken back or paid for
abbrev pub is_token_step : StepKind → Bool
is_token_step kinds.PlaceSlot = true
is_token_step kinds.WithdrawSlot = true
is_token_step kinds.Lower = true
is_token_step k = false

-- what is the same of a standing and of the one that takes its place is the same of what stands there then
pub same_of : {A : Type 0} (f : Standing → A) (l : List Standing) (i : ℕ) (y : Standing) → f y ≡ f (slice_index_or l i Away) → f (slice_index_or (slice_set l i y) i Away) ≡ f (slice_index_or l i Away)
same_of f [] i y e = refl
same_of f (x ∷ xs) zero y e = e
same_of f (x ∷ xs) (suc i) y e = same_of f xs i y e

module _ {P : Type 0} where
  -- a step of a reader that is outside, under the pass's number, for the lock; it changed no word, unless it is one of a token
  abbrev pub IsReaderStep : View P → ℕ → StepEntry → Type 0
  IsReaderStep v lock e = (e.number ≡ v.number) × (e.lock ≡ lock) × (mode_of e.before ≡ None) × (is_reader_step e.kind ≡ true) × ((e.won ≡ false) ⊎ (is_token_step e.kind ≡ true))

  -- such steps were made, and left this standing at the lock
  pub record OnlyTried (v : View P) (lock : ℕ) (y : Standing) (w : View P) : Type 0 where
    pub shape : w.shape ≡ v.shape
    pub number : w.number ≡ v.number
    pub span : w.span ≡ v.span
    pub taken : w.taken ≡ v.taken
    pub quota : w.quota ≡ v.quota
    pub part : w.part ≡ v.part
    pub standings : w.standings ≡ slice_set v.standings lock y
    pub outside : (mode_of y ≡ None) × (is_strong y ≡ false)
    pub added : List StepEntry
    pub steps : w.steps ≡ added ++ v.steps
    pub each : All (IsReaderStep v lock) added
    pub trail : Treads (IsWeakAt lock) v w

  module _ (v : View P) (lock : ℕ) (away : standing v lock ≡ Away) where
    pub none_yet : OnlyTried v lock Away v
    none_yet = record {
      shape = refl;
      number = refl;
      span = refl;
      taken = refl;
      quota = refl;
      part = refl;
      standings = sym (ap (λ (x : Standing). slice_set v.standings lock x) (sym away) ∙ set-get_or v.standings lock Away);
      outside = (refl, refl);
      added = [];
      steps = refl;
      each = All-nil (IsReaderStep v lock);
      trail = treads_none (IsWeakAt lock) v v refl refl;
    }

    -- one step more
    pub one_more : (x y : Standing) (u w : View P) (kind : StepKind) (place word : ℕ) (won : Bool) (part : P) → OnlyTried v lock x u → is_reader_step kind ≡ true → (won ≡ false) ⊎ (is_token_step kind ≡ true) → mode_of y ≡ None → is_strong y ≡ false → part ≡ u.part → w ≡ after_step_at u kind lock place word won y part → OnlyTried v lock y w
    one_more x y u w kind place word won part t token vain free weak still is =
        let e : StepEntry = entry_at u kind lock place word won in
        let here : standing u lock ≡ slice_index_or (slice_set v.standings lock x) lock Away = ap (λ (l : List Standing). slice_index_or l lock Away) t.standings in
        let free_before : mode_of (standing u lock) ≡ None = ap mode_of here ∙ same_of mode_of v.standings lock x (t.outside.0 ∙ sym (ap mode_of away)) ∙ ap mode_of away in
        let weak_before : is_strong (standing u lock) ≡ false = ap is_strong here ∙ same_of is_strong v.standings lock x (t.outside.1 ∙ sym (ap is_strong away)) ∙ ap is_strong away in record {
          shape = ap (λ (z : View P). z.shape) is ∙ t.shape;
          number = ap (λ (z : View P). z.number) is ∙ t.number;
          span = ap (λ (z : View P). z.span) is ∙ t.span;
          taken = ap (λ (z : View P). z.taken) is ∙ t.taken;
          quota = ap (λ (z : View P). z.quota) is ∙ t.quota;
          part = ap (λ (z : View P). z.part) is ∙ still ∙ t.part;
          standings = ap (λ (z : View P). z.standings) is ∙ ap (λ (l : List Standing). slice_set l lock y) t.standings ∙ set-set v.standings lock x y;
          outside = (free, weak);
          added = e ∷ t.added;
          steps = ap (λ (z : View P). z.steps) is ∙ ap (λ (l : List StepEntry). e ∷ l) t.steps;
          each = All-cons (IsReaderStep v lock) e t.added (t.number, refl, free_before, token, vain) t.each;
          trail = treads_then (IsWeakAt lock) v u w t.trail
              (treads_as (IsBetween lock (standing u lock) y) (IsWeakAt lock) u w (λ m. weak_between lock (standing u lock) y m (ap (λ (b : Bool). b || is_strong y) weak_before ∙ weak)) (treads_step_at u w kind lock place word won y part is));
        }
