-- Two waits by one clock and deadline, of which the first was in time.
use Rattle.std.proofs.Common.{◌≡◌, ℕ, inl, inr, ⊎_elim, ◌+◌, ◌<◌, List, [], ◌∷◌, ◌++◌, None, Some, sym, ap, ◌∙◌, arith, append_assoc, append-nil, length-append, subst}
use Rattle.std.proofs.lemmas.List.Elements.{All-append}
use Rattle.std.specs.declared.option.Option.{Option}
use Rattle.timed_wait.specs.Waiting.{AddsAnswers, AsksBelow}
use Rattle.sync_cell.specs.Waits.{AskedInTime, AskedTooLate}

adds_then : (old mid new : Option (List ℕ)) (xs ys : List ℕ) → AddsAnswers old mid xs → AddsAnswers mid new ys → AddsAnswers old new (xs ++ ys)
adds_then old mid None xs ys h more = tt
adds_then old None (Some new) xs ys h more = absurd more
adds_then None (Some mid) (Some new) xs ys h more = absurd h
adds_then (Some old) (Some mid) (Some new) xs ys h more = more ∙ ap (λ l. l ++ ys) h ∙ append_assoc old xs ys

-- the asks of two waits by one clock and deadline, of which the first was in time
asks_then : (deadline n m : ℕ) (old mid new : Option (List ℕ)) (end : List ℕ) → AsksBelow deadline 0 (n + 1) old mid [] → AsksBelow deadline 0 m mid new end → AsksBelow deadline 0 (n + m) old new end
asks_then deadline n m old mid new end a b =
    let xs : List ℕ = a.answers.early in let ys : List ℕ = b.answers.early in
    let first : AddsAnswers old mid xs = let P : List ℕ → Type 0 = λ l. AddsAnswers old mid l in subst P (append-nil xs) a.answers.told in let P : List ℕ → Type 0 = λ l. AddsAnswers old new l in record {
      answers = record {
        early = xs ++ ys;
        below = All-append (λ t. t < deadline) xs ys a.answers.below b.answers.below;
        told = subst P (sym (append_assoc xs ys end)) (adds_then old mid new xs (ys ++ end) first b.answers.told);
      };
      counted = omega (arith, length-append xs ys, a.counted, b.counted);
    }

module _ {T : Type 0} (last : T → ℕ) (answers : T → Option (List ℕ)) (deadline n m : ℕ) (old mid new : T) (a : AskedInTime last answers deadline n old mid) where
  -- two waits in time
  pub in_time_then : AskedInTime last answers deadline m mid new → AskedInTime last answers deadline (n + m) old new
  in_time_then b = record {
    asks = let P : ℕ → Type 0 = λ k. AsksBelow deadline 0 k (answers old) (answers new) [] in let same : n + (m + 1) ≡ n + m + 1 = omega arith in subst P same (asks_then deadline n (m + 1) (answers old) (answers mid) (answers new) [] a.asks b.asks);
    unasked = λ z. b.unasked (omega (arith, z)) ∙ a.unasked (omega (arith, z));
    early = ⊎_elim (λ same. ⊎_elim (λ first. inl (same ∙ first)) (λ below. inr (let P : T → Type 0 = λ t. last t < deadline in subst P (sym same) below)) a.early) (λ below. inr below) b.early;
  }

  -- one wait in time, and then one that was late
  pub too_late_then : (now : ℕ) → AskedTooLate last answers deadline m mid new now → AskedTooLate last answers deadline (n + m) old new now
  too_late_then now b = record { asks = asks_then deadline n m (answers old) (answers mid) (answers new) (now ∷ []) a.asks b.asks; late = b.late; now_is = b.now_is }
