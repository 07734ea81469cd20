-- A call that waits.
use Rattle.std.proofs.Common.{◌≡◌, ℕ, ◌⊎◌, inl, inr, ◌+◌, ◌<◌, List, [], ◌∷◌, ◌++◌, None, Some, All, length, sym, ap, ◌∙◌, arith, append_assoc, append-nil, length-append, subst}
use Rattle.std.proofs.lemmas.List.Elements.{All-nil, All-cons, All-append}
use Rattle.std.specs.declared.option.Option.{Option}
use Rattle.ql_base.specs.Answers.{AddsAnswer}
use Rattle.timed_wait.specs.Waiting.{AddsAnswers, AnswersBelow, AsksBelow}

-- all tries so far were refused: there was none, or the last one had a fault
abbrev pub AllRefused : {A F : Type 0} → (A → F → A → Type 0) → A → A → Type 0
AllRefused {A} {F} refuses old now = (now ≡ old) ⊎ ((fault : F) × refuses old fault now)

pub one_more_refused : {A F : Type 0} (refuses : A → F → A → Type 0) → ((a b c : A) (f g : F) → refuses a f b → refuses b g c → refuses a g c)
    → (old now new : A) (fault : F) → AllRefused refuses old now → refuses now fault new → refuses old fault new
one_more_refused refuses again old now new fault (inl none) r = let P : _ → Type 0 = λ a. refuses a fault new in subst P none r
one_more_refused refuses again old now new fault (inr (f, before)) r = again old now new f fault before r

pub gives_after : {A F G : Type 0} (refuses : A → F → A → Type 0) (gives : A → G → A → Type 0) → ((a b c : A) (f : F) (got : G) → refuses a f b → gives b got c → gives a got c)
    → (old now new : A) (got : G) → AllRefused refuses old now → gives now got new → gives old got new
gives_after refuses gives at_last old now new got (inl none) r = let P : _ → Type 0 = λ a. gives a got new in subst P none r
gives_after refuses gives at_last old now new got (inr (f, before)) r = at_last old now new f got before r

-- the clock was asked once after each of the tries, which rose from `first` to `now`, and answered each time below the deadline
pub record Early (deadline first now : ℕ) (old new : Option (List ℕ)) : Type 0 where
  pub early : List ℕ
  pub below : All (λ t. t < deadline) early
  pub counted : first + length early ≡ now
  pub told : AddsAnswers old new early

adds_none : (old : Option (List ℕ)) → AddsAnswers old old []
adds_none None = tt
adds_none (Some told) = sym (append-nil told)

adds_more : (old mid new : Option (List ℕ)) (early : List ℕ) (answer : ℕ) → AddsAnswers old mid early → AddsAnswer mid new answer → AddsAnswers old new (early ++ answer ∷ [])
adds_more old mid None early answer h more = tt
adds_more old None (Some new) early answer h more = absurd more
adds_more None (Some mid) (Some new) early answer h more = absurd h
adds_more (Some old) (Some mid) (Some new) early answer h more = more ∙ ap (λ l. l ++ answer ∷ []) h ∙ append_assoc old early (answer ∷ [])

pub early_none : (deadline first : ℕ) (old : Option (List ℕ)) → Early deadline first first old old
early_none deadline first old = record { early = []; below = All-nil _; counted = omega arith; told = adds_none old }

pub early_more : (deadline first now next answer : ℕ) (old mid new : Option (List ℕ)) → Early deadline first now old mid → AddsAnswer mid new answer → next ≡ now + 1 → answer < deadline → Early deadline first next old new
early_more deadline first now next answer old mid new e more counted below = record {
  early = e.early ++ answer ∷ [];
  below = All-append (λ t. t < deadline) e.early (answer ∷ []) e.below (All-cons (λ t. t < deadline) answer [] below (All-nil _));
  counted = omega (arith, length-append e.early (answer ∷ []), e.counted, counted);
  told = adds_more old mid new e.early answer e.told more;
}

-- the last try succeeded
pub asks_in_time : (deadline first now last : ℕ) (old new : Option (List ℕ)) → Early deadline first now old new → last ≡ now + 1 → AsksBelow deadline first last old new []
asks_in_time deadline first now last old new e counted = record {
  answers = record {
    early = e.early;
    below = e.below;
    told = let P : List ℕ → Type 0 = λ l. AddsAnswers old new l in subst P (sym (append-nil e.early)) e.told;
  };
  counted = omega (arith, e.counted, counted);
}

-- the last try was refused, and the clock was asked once more
pub asks_too_late : (deadline first now last answer : ℕ) (old mid new : Option (List ℕ)) → Early deadline first now old mid → AddsAnswer mid new answer → last ≡ now + 1 → AsksBelow deadline first last old new (answer ∷ [])
asks_too_late deadline first now last answer old mid new e more counted = record {
  answers = record { early = e.early; below = e.below; told = adds_more old mid new e.early answer e.told more };
  counted = omega (arith, e.counted, counted);
}

adds_then : (old mid new : Option (List ℕ)) (xs ys : List ℕ) → AddsAnswers old mid xs → AddsAnswers mid new ys → AddsAnswers old new (xs ++ ys)
adds_then old mid None xs ys h more = tt
adds_then old None (Some new) xs ys h more = absurd more
adds_then None (Some mid) (Some new) xs ys h more = absurd h
adds_then (Some old) (Some mid) (Some new) xs ys h more = more ∙ ap (λ l. l ++ ys) h ∙ append_assoc old xs ys

-- one wait in time, and then another by the same clock and deadline
pub answers_then : (deadline : ℕ) (old mid new : Option (List ℕ)) (end : List ℕ) → AnswersBelow deadline old mid [] → AnswersBelow deadline mid new end → AnswersBelow deadline old new end
answers_then deadline old mid new end a b =
    let first : AddsAnswers old mid a.early = let P : List ℕ → Type 0 = λ l. AddsAnswers old mid l in subst P (append-nil a.early) a.told in
    let P : List ℕ → Type 0 = λ l. AddsAnswers old new l in
    record {
      early = a.early ++ b.early;
      below = All-append (λ t. t < deadline) a.early b.early a.below b.below;
      told = subst P (sym (append_assoc a.early b.early end)) (adds_then old mid new a.early (b.early ++ end) first b.told);
    }
