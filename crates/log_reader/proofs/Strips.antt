-- Texts taken off the front of bytes, one after the other.
use Rattle.std.proofs.Common.{◌≡◌, ◌≢◌, ℕ, ◌<◌, ◌≤◌, List, [], ◌∷◌, ◌++◌, length, ◌-◌, take, drop, get_or, Option, Some, None, MatchOption, flat_map, append-nil, Bor, refl, sym, ap, ◌∙◌, append_assoc, arith}
use Rattle.std.proofs.lemmas.List.{append_cancel_left, take_rest}

pub strip_then : (bytes l rest m : List ℕ) (r : Option (Bor (List ℕ))) → bytes ≡ l ++ rest → MatchOption r ((t : List ℕ) → rest ≢ m ++ t) (λ x. rest ≡ m ++ x.now) → MatchOption r ((t : List ℕ) → bytes ≢ (l ++ m) ++ t) (λ x. bytes ≡ (l ++ m) ++ x.now)
strip_then bytes l rest m None is h = λ t e. h t (append_cancel_left l rest (m ++ t) (sym is ∙ e ∙ append_assoc l m t))
strip_then bytes l rest m (Some x) is h = is ∙ ap (λ r. l ++ r) h ∙ sym (append_assoc l m x.now)

-- what is left of the bytes, and what is left of the text
pub record Stripped (bytes rest all left : List ℕ) : Type 0 where
  pub front : List ℕ
  pub bytes_are : bytes ≡ front ++ rest
  pub all_is : all ≡ front ++ left

pub strip_start : (bytes all : List ℕ) → Stripped bytes bytes all all
strip_start bytes all = record { front = []; bytes_are = refl; all_is = refl }

pub strip_next : {X : Type 0} (f : X → List ℕ) (bytes rest after all made : List ℕ) (xs : List X) (d : X) → 1 ≤ length xs → Stripped bytes rest all (flat_map f xs) → rest ≡ made ++ after → made ≡ f (get_or xs 0 d)
    → Stripped bytes after all (flat_map f (take (length xs - 1) (drop 1 xs)))
strip_next f bytes rest after all made [] d some h next is = absurd (omega (arith, some))
strip_next f bytes rest after all made (x ∷ xs) d some h next is = rw (take_rest (x ∷ xs) 1) (record {
  front = h.front ++ f x;
  bytes_are = h.bytes_are ∙ ap (λ r. h.front ++ r) (next ∙ ap (λ m. m ++ after) is) ∙ sym (append_assoc h.front (f x) after);
  all_is = h.all_is ∙ sym (append_assoc h.front (f x) (flat_map f xs));
})

pub strip_stop : {X : Type 0} (f : X → List ℕ) (bytes rest all made : List ℕ) (xs : List X) (d : X) → 1 ≤ length xs → Stripped bytes rest all (flat_map f xs) → ((t : List ℕ) → rest ≢ made ++ t) → made ≡ f (get_or xs 0 d)
    → (t : List ℕ) → bytes ≢ all ++ t
strip_stop f bytes rest all made [] d some h other is t whole = absurd (omega (arith, some))
strip_stop f bytes rest all made (x ∷ xs) d some h other is t whole =
    let left : rest ≡ (f x ++ flat_map f xs) ++ t = append_cancel_left h.front rest _ (sym h.bytes_are ∙ whole ∙ ap (λ a. a ++ t) h.all_is ∙ append_assoc h.front (f x ++ flat_map f xs) t) in
    other (flat_map f xs ++ t) (left ∙ append_assoc (f x) (flat_map f xs) t ∙ ap (λ m. m ++ (flat_map f xs ++ t)) (sym is))

pub strip_done : {X : Type 0} (f : X → List ℕ) (bytes rest all : List ℕ) (xs : List X) → length xs < 1 → Stripped bytes rest all (flat_map f xs) → bytes ≡ all ++ rest
strip_done f bytes rest all [] none h = h.bytes_are ∙ ap (λ a. a ++ rest) (sym (h.all_is ∙ append-nil h.front))
strip_done f bytes rest all (x ∷ xs) none h = absurd (omega (arith, none))
