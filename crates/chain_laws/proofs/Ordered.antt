-- In which order answers come.
use Rattle.std.proofs.Common.{◌≡◌, ℕ, zero, suc, ◌+◌, ◌*◌, ◌≤◌, Result, Option, Some, List, [], ◌∷◌, map, length, false, refl, sym, ap, ◌∙◌, subst, arith, cond}
use Rattle.std.proofs.lemmas.Bool.{le-ltb}
use mathlib.Core.Option.{some, some-injective, some-ne-none}
use lib.ListN.{get_elem?}
use Rattle.atomic_table.specs.Table.{State}
use Rattle.view_sums.specs.Sums.{total, same-eq, term_le}
use Rattle.waiter_chain.specs.Goods.{Goods, Part, goods, Runs}
use Rattle.waiter_chain.specs.Chains.{desk, part_of, turn, Held, Lawful}
use Rattle.waiter_chain.specs.declared.view.Opening.{Opening}
use Rattle.waiter_chain.specs.declared.view.Ownership.{Ownership}
use Rattle.waiter_chain.specs.declared.view.View.{View}
use Rattle.waiter_chain.specs.declared.view.Stage.TheVariants.{Owns}
use Rattle.combine_job.specs.declared.parcel.JobAnswer.{JobAnswer}
use Rattle.combine_job.specs.declared.parcel.Kept.{Kept}
use Rattle.combine_job.specs.declared.parcel.Parcel.{Parcel}
use Rattle.combine_job.specs.declared.parcel.Parcel.TheVariants.{Value, Answered}
use Rattle.combine_job.specs.Parcels.{Related, Ruled, place, places, all_own}
use Rattle.combine_job.specs.Laws.{value-injective}
use Rattle.combine_job.proofs.Positions.{history-length, history-once}
use Rattle.chain_laws.specs.Laws.{Early, AnswersInOrder, RunInOrder}
use Rattle.chain_laws.proofs.Answered.{total-map, answer_waits, answer_taken}

map-there : {A B : Type 0} (f : A → B) (l : List A) (j : ℕ) (a : A) → get_elem? l j ≡ some a → get_elem? (map f l) j ≡ some (f a)
map-there f [] j a e = absurd (some-ne-none a (sym e))
map-there f (x ∷ xs) zero a e = ap (λ y. some (f y)) (some-injective x a e)
map-there f (x ∷ xs) (suc j) a e = map-there f xs j a e

module _ {V J O X : Type 0} (rooms : V → ℕ) (means : V → J → Result O X → V → Type 0) where
  runs-at : (ran : List (Parcel V J O X × Parcel V J O X)) (v w : Parcel V J O X) (k : Kept V) → v ≡ Value k → Runs (Related rooms means) v ran w
      → (i : ℕ) (x : Parcel V J O X × Parcel V J O X) → get_elem? ran i ≡ some x → place (k.ran + i) x.1 ≡ 1
  runs-at [] v w k is r i x e = absurd (some-ne-none x (sym e))
  runs-at (y ∷ ys) v w k is r zero x e =
      let t = r.1 in let same-k : t.0 ≡ k = value-injective {J = J} {O = O} {X = X} t.0 k (sym t.4 ∙ is) in
      let at-k : t.3.at ≡ k.ran + 0 = omega (arith, t.8, ap (λ (z : Kept V). z.ran) same-k) in
      ap (λ (z : Parcel V J O X × Parcel V J O X). place (k.ran + 0) z.1) (sym (some-injective y x e)) ∙ ap (place (k.ran + 0)) t.7 ∙ same-eq t.3.at (k.ran + 0) at-k
  runs-at (y ∷ ys) v w k is r (suc i) x e =
      let t = r.1 in let same-k : t.0 ≡ k = value-injective {J = J} {O = O} {X = X} t.0 k (sym t.4 ∙ is) in
      let next : t.1.ran + i ≡ k.ran + suc i = omega (arith, t.9, ap (λ (z : Kept V). z.ran) same-k) in
      subst (λ (n : ℕ). place n x.1 ≡ 1) next (runs-at ys r.0 w t.1 t.5 r.2 i x e)

  pub run_in_order : RunInOrder rooms means
  run_in_order k l ran r = (history-length rooms means ran (Value k) (Value l) k l refl refl r, runs-at ran (Value k) (Value l) k refl r)

module _ {V J O X : Type 0} (rooms : V → ℕ) (means : V → J → Result O X → V → Type 0) (is_ready : J → Type 0) (o : Opening (Parcel V J O X)) (s : State (Option (Parcel V J O X)) (View (Parcel V J O X))) (l : Lawful (Ruled rooms means is_ready o) o.nodes s) where
  abbrev carried : Goods (Parcel V J O X)
  carried = goods l.value l.posted l.answered (map part_of s.views)

  -- the answer that waits for a pass
  told-order : (j : ℕ) (v : View (Parcel V J O X)) (job a : Parcel V J O X) → get_elem? s.views j ≡ some v → l.answered v.number ≡ some (job, a)
      → (answer : JobAnswer O X) × (a ≡ Answered answer) × Early v.own answer.at
  told-order j v job a there is =
      let r : Ruled rooms means is_ready o carried = l.goods_rule in
      let t = (r.told v.number (job, a) is).2 in
      (t.3, t.7, r.after j (part_of v) (job, a) (map-there part_of s.views j v there) is t.3 t.7)

  -- the value that an owner found
  found-order : (j : ℕ) (v : View (Parcel V J O X)) (k : Ownership (Parcel V J O X)) → get_elem? s.views j ≡ some v → v.stage ≡ Owns k
      → (kept : Kept V) × (k.value ≡ Value kept) × Early v.own kept.ran
  found-order j v k there mine =
      let r : Ruled rooms means is_ready o carried = l.goods_rule in
      let h : Held o.nodes s.words s.homes (desk s.words s.homes l.posted l.answered) l.older l.newer l.value (turn v.number k) =
      subst (λ y. Held o.nodes s.words s.homes (desk s.words s.homes l.posted l.answered) l.older l.newer l.value y) (l.owned j v k there mine) l.held in
      let runs : Runs (Related rooms means) o.first.value r.history (Value r.now) = subst (Runs (Related rooms means) o.first.value r.history) r.is r.runs in
      let once = history-once rooms means r.history o.first.value (Value r.now) r.first r.now r.began refl r.none_ran runs in
      let lists : (w : Parcel V J O X × Parcel V J O X → ℕ) → all_own w (map part_of s.views) ≡ total (λ v. total w v.own) s.views = λ w. total-map part_of (λ x. total w x.own) s.views in
      (r.now, h.4 ∙ r.is, λ p far. omega (arith, term_le (λ (u : View (Parcel V J O X)). places p u.own) s.views j v there, lists (λ z. place p z.1), r.answers (λ z. place p z.1), once p, ap {B = ℕ} (λ b. cond b 1 0) (le-ltb p r.now.ran far)))

module _ {V J O X : Type 0} (rooms : V → ℕ) (means : V → J → Result O X → V → Type 0) (is_ready : J → Type 0) where
  pub answers_in_order : AnswersInOrder rooms means is_ready
  answers_in_order o s l = record {
    waiting = λ j b v job there mine three.
        let w = answer_waits (Ruled rooms means is_ready o) o.nodes s l j b v job there mine three in
        let t = told-order rooms means is_ready o s l j v job w.0 there w.1 in
        (t.0, w.2 ∙ ap (λ (y : Parcel V J O X). some (some (Some y))) t.1, t.2);
    taken = λ j v job a there here mine. told-order rooms means is_ready o s l j v job a there (answer_taken (Ruled rooms means is_ready o) o.nodes s l j v job a there here mine);
    found = λ j v k there mine. found-order rooms means is_ready o s l j v k there mine;
  }
