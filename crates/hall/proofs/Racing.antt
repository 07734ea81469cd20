-- A word that was read and then found changed: what steps and joins do to it.
use Rattle.std.proofs.Common.{◌≡◌, ℕ, ◌≢◌, true, false, cond, eqb, ne_eqb, List, [], ◌∷◌, ◌++◌, sym, refl, ap, ◌∙◌, inl, inr, Option, Some, None}
use Rattle.lock_model.specs.Locks.{Has}
use Rattle.hall.specs.declared.view.StepEntry.{StepEntry}
use Rattle.hall.specs.Trails.{is_join, last_read, Heads, Reasoned}

abbrev pub NoneOf : ℕ → List StepEntry → Type 0
NoneOf m [] = Unit {0}
NoneOf m (e ∷ es) = (e.number ≢ m) × NoneOf m es

beyond : (p n m w : ℕ) (vs : List StepEntry) → Heads m vs → n ≢ m → last_read p n vs ≡ Some w → ⊥
beyond p n m w [] h ne e = cc
beyond p n m w (x ∷ xs) h ne e =
    let off : eqb x.number n ≡ false = ne_eqb x.number n (λ same. ne (sym same ∙ h)) in
    let rest : Option ℕ = cond (is_join x.kind) None (cond (eqb x.place p) (cond x.won None (Some x.word)) (last_read p n xs)) in
    let bad : cond false rest None ≡ Some w = ap (λ b. cond b rest None) (sym off) ∙ e in cc

within : (p n m w : ℕ) (ws vs : List StepEntry) → Heads m vs → n ≢ m → last_read p n (ws ++ vs) ≡ Some w → last_read p n ws ≡ Some w
within p n m w [] vs h ne e = absurd (beyond p n m w vs h ne e)
within p n m w (x ∷ xs) vs h ne told =
    let here : Option ℕ = cond x.won None (Some x.word) in
    elim (eqb x.number n) as (λ a. cond a (cond (is_join x.kind) None (cond (eqb x.place p) here (last_read p n (xs ++ vs)))) None ≡ Some w → cond a (cond (is_join x.kind) None (cond (eqb x.place p) here (last_read p n xs))) None ≡ Some w) [
      | true ↦ elim (is_join x.kind) as (λ b. cond b None (cond (eqb x.place p) here (last_read p n (xs ++ vs))) ≡ Some w → cond b None (cond (eqb x.place p) here (last_read p n xs)) ≡ Some w) [
        | true ↦ λ e. e
        | false ↦ elim (eqb x.place p) as (λ c. cond c here (last_read p n (xs ++ vs)) ≡ Some w → cond c here (last_read p n xs) ≡ Some w) [ true ↦ λ e. e | false ↦ λ e. within p n m w xs vs h ne e ]
      ]
      | false ↦ λ e. e
    ] told

pub none_of : (m : ℕ) (es : List StepEntry) → ((e : StepEntry) → Has es e → e.number ≢ m) → NoneOf m es
none_of m [] h = tt
none_of m (x ∷ xs) h = (h x (inl refl), none_of m xs (λ e has. h e (inr has)))

-- the lists of a join: the other's steps have none of this pass's number
pub reasoned_join : (R : ℕ → Type 0) (p m : ℕ) (ws vs : List StepEntry) → Heads m vs → NoneOf m ws → Reasoned R p ws → Reasoned R p vs → Reasoned R p (ws ++ vs)
reasoned_join R p m [] vs h off a b = b
reasoned_join R p m (x ∷ xs) vs h off a b = ((λ at w e ne. a.0 at w (within p x.number m w xs vs h off.0 e) ne), reasoned_join R p m xs vs h off.1 a.1 b)

-- a step by the pass's own number
pub reasoned_step : (R : ℕ → Type 0) (p : ℕ) (e : StepEntry) (es : List StepEntry) → (e.place ≡ p → (w : ℕ) → last_read p e.number es ≡ Some w → w ≢ e.word → R e.number) → Reasoned R p es → Reasoned R p (e ∷ es)
reasoned_step R p e es here rest = (here, rest)

-- more reasons
pub reasoned_more : (R Q : ℕ → Type 0) (p : ℕ) (es : List StepEntry) → ((n : ℕ) → R n → Q n) → Reasoned R p es → Reasoned Q p es
reasoned_more R Q p [] f a = tt
reasoned_more R Q p (x ∷ xs) f a = ((λ at w e ne. f x.number (a.0 at w e ne)), reasoned_more R Q p xs f a.1)
