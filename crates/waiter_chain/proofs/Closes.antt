-- Where one idle pass covers every number, there is no owner.
use Rattle.std.proofs.Common.{◌≡◌, ◌≢◌, ℕ, zero, suc, ◌+◌, ◌<◌, true, false, List, [], ◌∷◌, map, Option, Some, refl, sym, ap, ◌∙◌, subst, arith}
use mathlib.Core.Option.{some, some-injective, some-ne-none, Option as Maybe}
use mathlib.Core.Logic.{dite}
use native.Mathlib.Decide.{ℕ_discrete}
use lib.ListN.{get_elem?}
use Rattle.atomic_table.specs.Table.{State, Final, Seen}
use Rattle.waiter_chain.specs.declared.view.View.{View}
use Rattle.waiter_chain.specs.declared.view.Stage.{Stage}
use Rattle.waiter_chain.specs.declared.view.Stage.TheVariants.{Idle}
use Rattle.waiter_chain.specs.Goods.{Goods, goods}
use Rattle.waiter_chain.specs.Chains.{Waiter, weigh, covers, part_of, desk, Desk, Seated, AtRest, Owner, nobody, turn, granted, owner_weight, AtHome, Held, Lawful, Closes}
use Rattle.view_sums.specs.Sums.{total}
use Rattle.waiter_chain.proofs.Rules.{ruling, low_number, covers_apart, covers-own, bool_cases}

total-zero : {A : Type 0} (f : A → ℕ) (l : List A) → ((i : ℕ) (x : A) → get_elem? l i ≡ some x → f x ≡ 0) → total f l ≡ 0
total-zero f [] h = refl
total-zero f (x ∷ xs) h = omega (arith, h zero x refl, total-zero f xs (λ i. h (suc i)))

total-map : {A B : Type 0} (f : A → B) (w : B → ℕ) (l : List A) → total w (map f l) ≡ total (λ (x : A). w (f x)) l
total-map f w [] = refl
total-map f w (x ∷ xs) = ap (λ n. w (f x) + n) (total-map f w xs)

-- one item alone counts
total-one : {A : Type 0} (f : A → ℕ) (l : List A) (k : ℕ) (v : A) → get_elem? l k ≡ some v → ((i : ℕ) (x : A) → i ≢ k → get_elem? l i ≡ some x → f x ≡ 0) → total f l ≡ f v
total-one f [] k v e h = absurd (some-ne-none v (sym e))
total-one f (x ∷ xs) zero v e h = omega (arith, total-zero f xs (λ i y. h (suc i) y (λ z. absurd (omega arith))), ap f (some-injective x v e))
total-one f (x ∷ xs) (suc k) v e h = omega (arith, h zero x (λ z. absurd (omega arith)) refl, total-one f xs k v e (λ i y ne. h (suc i) y (λ z. ne (omega arith))))

module _ {P : Type 0} where
  at_home : (nodes : ℕ) (words : List ℕ) (homes : List (Maybe (Option P))) (at : ℕ → Desk P) (older newer : List (Waiter P)) (value : P) (o : Owner P) → owner_weight ruling o ≡ 0 → Held nodes words homes at older newer value o → AtHome homes value
  at_home nodes words homes at older newer value nobody e h = h.3
  at_home nodes words homes at older newer value (turn n k) e h = absurd (omega arith)
  at_home nodes words homes at older newer value (granted n b j k) e h = h.2

module _ {P : Type 0} (rule : Goods P → Type 0) (nodes : ℕ) where
  -- where one pass covers every number, each other was taken in
  others_gone : (s : State (Option P) (View P)) (o : Lawful rule nodes s) (id : ℕ) (v : View P) → get_elem? s.views id ≡ some v → ((n : ℕ) → n < nodes → 0 < covers n v) → (j : ℕ) (x : View P) → j ≢ id → get_elem? s.views j ≡ some x → x.gone ≡ true
  others_gone s o id v me all j x apart there = bool_cases x.gone (λ e. e)
      (λ e. absurd (covers_apart rule nodes s o id j v x x.number apart me there (all x.number (low_number rule nodes s o j x there e)) (covers-own rule nodes s o x e)))

  no_owner : (s : State (Option P) (View P)) (o : Lawful rule nodes s) (id : ℕ) (v : View P) → get_elem? s.views id ≡ some v → v.stage ≡ Idle → ((n : ℕ) → n < nodes → 0 < covers n v) → total (weigh ruling) s.views ≡ 0
  no_owner s o id v me idle all = total-zero (weigh ruling) s.views (λ j x there. quiet j x there)
    where
      quiet : (j : ℕ) (x : View P) → get_elem? s.views j ≡ some x → ruling x.number x.stage ≡ 0
      quiet j x there = dite (ℕ_discrete j id)
          (λ e. ap (ruling x.number) (ap (λ (y : View P). y.stage) (some-injective x v (sym there ∙ ap (get_elem? s.views) e ∙ me)) ∙ idle))
          (λ ne. ap (ruling x.number) (o.asleep j x there (others_gone s o id v me all j x ne there)).0)

  -- a closing pass is not one that was taken in
  pub closes : (id : ℕ) (v : View P) (words : List ℕ) (xs : List (Option P)) (out : Option P) → Final (Seen (Lawful rule nodes) id v) words xs → v.gone ≡ false → v.stage ≡ Idle → get_elem? xs 0 ≡ some out → Closes rule nodes v out
  closes id v words xs out f live-now idle found all =
      let s = f.0 in let o = f.1.0 in let me = f.1.1 in
      let at : ℕ → Desk P = desk s.words s.homes o.posted o.answered in
      let none-left = no_owner s o id v me idle all in
      let home = at_home nodes s.words s.homes at o.older o.newer o.value o.owner (omega (arith, o.standing ruling (λ m. (refl, refl, (λ j. refl), (λ j. refl), λ j a. refl)), none-left)) o.held in
      let rests : (n : ℕ) → n < nodes → AtRest (at n) = λ n low. dite (ℕ_discrete n v.number)
      (λ e. subst (λ (i : ℕ). AtRest (at i)) (sym e) (subst (λ (g : Stage P). Seated g (at v.number)) idle (o.seated id v me live-now)))
      (λ ne. o.unused id v n me live-now (all n low) ne) in (
        goods o.value o.posted o.answered (map part_of s.views),
        o.goods_rule,
        some-injective out (Some o.value) (sym found ∙ f.4 0 (Some o.value) home),
        (λ n low. let r = rests n low in (r.1.1, r.1.2)),
        λ w zero-left. total-map part_of w s.views ∙ total-one (λ (x : View P). w (part_of x)) s.views id v me (λ j x apart there. ap w (o.asleep j x there (others_gone s o id v me all j x apart there)).1 ∙ zero-left),
      )
