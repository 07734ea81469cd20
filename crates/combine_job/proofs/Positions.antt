-- The positions of a history's answers are the numbers from the first value's count up to the last value's.
use Rattle.std.proofs.Common.{◌≡◌, ℕ, ◌+◌, List, [], ◌∷◌, length, cond, nat_lt, sym, ap, ◌∙◌, arith}
use mathlib.Core.Logic.{dite}
use native.Mathlib.Decide.{ℕ_discrete, dec_lt}
use Rattle.std.specs.Prelude.{Result}
use Rattle.std.proofs.lemmas.Bool.{le-ltb, lt-ltb}
use Rattle.view_sums.specs.Sums.{same, same-eq, same-ne}
use Rattle.waiter_chain.specs.Goods.{Runs}
use Rattle.combine_job.specs.declared.parcel.Kept.{Kept}
use Rattle.combine_job.specs.declared.parcel.Parcel.{Parcel}
use Rattle.combine_job.specs.declared.parcel.Parcel.TheVariants.{Value}
use Rattle.combine_job.specs.Parcels.{Related, place, places, EachOnce}
use Rattle.combine_job.specs.Laws.{value-injective}

abbrev before : ℕ → ℕ → ℕ
before p n = cond (nat_lt p n) 1 0

before-more : (p n m : ℕ) → m ≡ n + 1 → before p m ≡ before p n + same n p
before-more p n m e = dite (dec_lt p n) (λ l. omega (arith, ap {B = ℕ} (λ b. cond b 1 0) (lt-ltb p m (omega arith)), ap {B = ℕ} (λ b. cond b 1 0) (lt-ltb p n l), same-ne n p (λ z. omega arith)))
    (λ l. dite (ℕ_discrete n p) (λ z. omega (arith, ap {B = ℕ} (λ b. cond b 1 0) (lt-ltb p m (omega arith)), ap {B = ℕ} (λ b. cond b 1 0) (le-ltb p n (omega arith)), same-eq n p z))
    (λ nz. omega (arith, ap {B = ℕ} (λ b. cond b 1 0) (le-ltb p m (omega arith)), ap {B = ℕ} (λ b. cond b 1 0) (le-ltb p n (omega arith)), same-ne n p nz)))

module _ {V J O X : Type 0} (rooms : V → ℕ) (means : V → J → Result O X → V → Type 0) where
  pub history-places : (p : ℕ) (ran : List (Parcel V J O X × Parcel V J O X)) (v w : Parcel V J O X) (k l : Kept V) → v ≡ Value k → w ≡ Value l → Runs (Related rooms means) v ran w → places p ran + before p k.ran ≡ before p l.ran
  history-places p [] v w k l is ends r = omega (arith, ap (λ (y : Kept V). before p y.ran) (value-injective {J = J} {O = O} {X = X} k l (sym is ∙ r ∙ ends)))
  history-places p (x ∷ xs) v w k l is ends r =
      let t = r.1 in let same-k : t.0 ≡ k = value-injective {J = J} {O = O} {X = X} t.0 k (sym t.4 ∙ is) in
      let ran-k : t.0.ran ≡ k.ran = ap (λ (y : Kept V). y.ran) same-k in
      omega (arith, history-places p xs r.0 w t.1 l t.5 ends r.2, ap (place p) t.7, ap (λ (n : ℕ). same n p) t.8, ap (λ (n : ℕ). same n p) ran-k, before-more p k.ran t.1.ran (omega (arith, t.9)))

  pub history-length : (ran : List (Parcel V J O X × Parcel V J O X)) (v w : Parcel V J O X) (k l : Kept V) → v ≡ Value k → w ≡ Value l → Runs (Related rooms means) v ran w → l.ran ≡ k.ran + length ran
  history-length [] v w k l is ends r = omega (arith, ap (λ (y : Kept V). y.ran) (value-injective {J = J} {O = O} {X = X} k l (sym is ∙ r ∙ ends)))
  history-length (x ∷ xs) v w k l is ends r =
      let t = r.1 in let same-k : t.0 ≡ k = value-injective {J = J} {O = O} {X = X} t.0 k (sym t.4 ∙ is) in
      omega (arith, history-length xs r.0 w t.1 l t.5 ends r.2, t.9, ap (λ (y : Kept V). y.ran) same-k)

  -- from a value on which no job ran, the answers have all positions below the count, each once
  pub history-once : (ran : List (Parcel V J O X × Parcel V J O X)) (v w : Parcel V J O X) (k l : Kept V) → v ≡ Value k → w ≡ Value l → k.ran ≡ 0 → Runs (Related rooms means) v ran w → EachOnce ran l.ran
  history-once ran v w k l is ends zero-ran r = λ p. omega (arith, history-places p ran v w k l is ends r, ap {B = ℕ} (λ b. cond b 1 0) (le-ltb p k.ran (omega arith)))
