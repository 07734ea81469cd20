-- How many jobs ran on a lock's value, counted by the closing pass's list.
use Rattle.std.proofs.Common.{◌≡◌, ℕ, ◌+◌, Result, Option, Some, List, [], ◌∷◌, length, refl, sym, ap, ◌∙◌, arith}
use Rattle.std.proofs.lemmas.List.{length-append}
use Rattle.view_sums.specs.Sums.{total}
use Rattle.waiter_chain.specs.Steps.{SeatState, joined}
use Rattle.waiter_chain.specs.declared.view.Opening.{Opening}
use Rattle.waiter_chain.specs.declared.view.View.{View}
use Rattle.combine_job.specs.declared.parcel.Kept.{Kept}
use Rattle.combine_job.specs.declared.parcel.Parcel.{Parcel}
use Rattle.combine_job.specs.declared.parcel.Parcel.TheVariants.{Value}
use Rattle.combine_job.proofs.Positions.{history-length}
use Rattle.dist_mutex.specs.Owners.{Ends}
use Rattle.dist_mutex.proofs.Finds.{some_inside}

ones : {A : Type 0} (xs : List A) → total (λ x. 1) xs ≡ length xs
ones [] = refl
ones (x ∷ xs) = omega (arith, ones xs)

-- a pass that took another in has the jobs of both in its list
pub joined_long : {P : Type 0} (m : SeatState P) (v w : View P) → m ≡ (joined v w, []) → length m.0.own ≡ length v.own + length w.own
joined_long m v w e = ap (λ (z : SeatState _). length z.0.own) e ∙ length-append v.own w.own

module _ {V J O X : Type 0} (rooms : V → ℕ) (means : V → J → Result O X → V → Type 0) where
  -- from a value on which no job had run, as many ran as stand in the list
  pub ran_listed : (o : Opening (Parcel V J O X)) (own : List (Parcel V J O X × Parcel V J O X)) (out : Option (Kept V)) (first kept : Kept V)
      → o.first.value ≡ Value first → first.ran ≡ 0 → out ≡ Some kept → Ends rooms means o own out → kept.ran ≡ length own
  ran_listed o own out first kept begun fresh is e =
      let same : e.0 ≡ kept = some_inside e.0 kept (sym e.2 ∙ is) in
      let long = history-length rooms means e.1 o.first.value (Value e.0) first e.0 begun refl e.3 in
      omega (arith, long, fresh, e.4 (λ x. 1), ones own, ones e.1, ap (λ (k : Kept V). k.ran) same)
