-- Tries after tries.
use Rattle.std.specs.Prelude.{◌≡◌, ◌≢◌, ℕ, List, [], ◌∷◌, ◌++◌, Result, map, All}
use Rattle.std.proofs.Common.{refl, sym, ap, ◌∙◌, subst, append_assoc}
use Rattle.std.proofs.lemmas.List.Elements.{All-nil, All-cons, All-append}
use Rattle.waiter_chain.specs.Steps.{SeatState, entry, with_steps}
use Rattle.waiter_chain.specs.declared.view.Opening.{Opening}
use Rattle.waiter_chain.specs.declared.view.StepEntry.{StepEntry}
use Rattle.waiter_chain.specs.declared.view.StepKind.TheVariants.{TryIn}
use Rattle.waiter_chain.specs.declared.turn.Turn.{Turn}
use Rattle.waiter_chain.specs.declared.turn.DistBusy.{DistBusy}
use Rattle.combine_job.specs.declared.parcel.Kept.{Kept}
use Rattle.combine_job.specs.declared.parcel.Parcel.{Parcel}
use Rattle.dist_mutex.specs.Owners.{LockedBy}
use Rattle.dist_mutex.specs.Tries.{tried_state, Refused, LockedAtLast}

map-append : {A B : Type 0} (f : A → B) (xs ys : List A) → map f (xs ++ ys) ≡ map f xs ++ map f ys
map-append f [] ys = refl
map-append f (x ∷ xs) ys = ap (λ zs. f x ∷ zs) (map-append f xs ys)

all_words : (words : List ℕ) (w : ℕ) → All (λ x. x ≢ 0) words → w ≢ 0 → All (λ x. x ≢ 0) (words ++ w ∷ [])
all_words words w a b = All-append (λ x. x ≢ 0) words (w ∷ []) a (All-cons (λ x. x ≢ 0) w [] b (All-nil _))

module _ {P : Type 0} where
  pub tried_more : (xs ys : List ℕ) (m : SeatState P) → tried_state ys (tried_state xs m) ≡ tried_state (xs ++ ys) m
  tried_more xs ys m = ap (λ (zs : List StepEntry). (with_steps m.0 m.0.stage zs, m.1))
      (append_assoc m.0.steps (map (entry m.0 TryIn 0) xs) (map (entry m.0 TryIn 0) ys) ∙ ap (λ zs. m.0.steps ++ zs) (sym (map-append (entry m.0 TryIn 0) xs ys)))

  pub refused_again : (m l n : SeatState P) (f g : DistBusy) → Refused m f l → Refused l g n → Refused m g n
  refused_again m l n f g x y =
      let words : List ℕ = x.0 ++ f.word ∷ [] in (
        words ++ y.0,
        All-append (λ w. w ≢ 0) words y.0 (all_words x.0 f.word x.1 x.2) y.1,
        y.2,
        y.3 ∙ ap (tried_state (y.0 ++ g.word ∷ [])) x.3 ∙ tried_more words (y.0 ++ g.word ∷ []) m ∙ ap (λ ws. tried_state ws m) (sym (append_assoc words y.0 (g.word ∷ []))),
      )

module _ {V J O X : Type 0} (rooms : V → ℕ) (means : V → J → Result O X → V → Type 0) where
  pub locked_after : (o : Opening (Parcel V J O X)) (slots : ℕ) (m l n : SeatState (Parcel V J O X)) (f : DistBusy) (t : Turn) (kept : Kept V)
      → Refused m f l → LockedAtLast rooms means o slots l n t kept → LockedAtLast rooms means o slots m n t kept
  locked_after o slots m l n f t kept x y =
      let words : List ℕ = x.0 ++ f.word ∷ [] in
      let Goal : SeatState (Parcel V J O X) → Type 0 = λ z. LockedBy rooms means o slots z n (entry m.0 TryIn 0 0) t kept in (
        words ++ y.0,
        All-append (λ w. w ≢ 0) words y.0 (all_words x.0 f.word x.1 x.2) y.1,
        subst Goal (tried_more words y.0 m)
            (subst (λ (z : SeatState (Parcel V J O X)). LockedBy rooms means o slots (tried_state y.0 z) n (entry z.0 TryIn 0 0) t kept) x.3 y.2),
      )
