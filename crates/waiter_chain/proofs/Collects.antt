-- A node whose job another pass has run finds so, and takes its answer out; then it is idle.
use Rattle.std.proofs.Common.{◌≡◌, ◌≢◌, ℕ, ◌+◌, ◌*◌, ◌<◌, List, [], ◌∷◌, map, set, get_or, length-set, get_or-set_other, Option, Some, refl, sym, ap, ◌∙◌, subst, ⊎_elim, arith, cond, nat_eq, eq-eqb, ne_eqb}
use mathlib.Core.Option.{some, none, some-injective, some-ne-none, Option as Maybe}
use mathlib.Core.Logic.{dite}
use native.Mathlib.Decide.{ℕ_discrete, dec_lt}
use lib.ListN.{get_elem?}
use Rattle.atomic_table.specs.Table.{State, takes, gives, Valid, Allows, stepped, carried_after}
use Rattle.atomic_table.proofs.Lists.{set_here, set_else, at_map}
use Rattle.waiter_chain.specs.declared.view.View.{View}
use Rattle.waiter_chain.specs.declared.view.StepEntry.{StepEntry}
use Rattle.waiter_chain.specs.declared.view.Stage.{Stage}
use Rattle.waiter_chain.specs.declared.view.Stage.TheVariants.{Idle, Behind, Done}
use Rattle.waiter_chain.specs.Goods.{Goods, goods, put, Collects}
use Rattle.waiter_chain.specs.Chains.{Waiter, part_of, desk, Desk, Seated, Noted, Finished, AllDone, Weight, line_weight, Lawful}
use Rattle.waiter_chain.specs.Steps.{SeatState, with_steps, collected}
use Rattle.view_sums.specs.Sums.{same, same-refl, same-pos, set_self, map-set}
use Rattle.waiter_chain.proofs.Rules.{awake, desk-same, put-other, put-here, waits-other, done-other, held-other, live, alone, once, low_number, restaged-own, parts-same}
use Rattle.waiter_chain.proofs.Links.{waits_at}

module _ {P : Type 0} where
  -- one node is taken out of a line
  pub pick : (n b : ℕ) (xs : List (Waiter P)) → 0 < line_weight {P = P} (waits_at n b) xs
      → (ys : List (Waiter P)) × ((at : ℕ → Desk P) → AllDone at xs → (j : P) × ((g : Weight P) → line_weight g xs ≡ g n (Behind b (Some j)) + line_weight g ys) × Finished j (at n) × AllDone at ys)
  pick n b [] there = absurd (omega arith)
  pick n b (x ∷ xs) there = dite (dec_lt 0 (cond (nat_eq x.0 n) (same x.1 b) 0))
      (λ h. let t = here x h in (xs, λ at a. (a.0.0, (λ g. ap (λ (y : Waiter P). g y.0 (Behind y.1 y.2) + line_weight g xs) (λ i. (t.0 i, t.1 i, a.0.1 i))), subst (λ m. Finished a.0.0 (at m)) t.0 a.0.2, a.1)))
      (λ h. let r = pick n b xs (omega arith) in (x ∷ r.0, λ at a. let q = r.1 at a.1 in (q.0, (λ g. omega (arith, q.1 g)), q.2, (a.0, q.3))))
    where
      here : (x : Waiter P) → 0 < cond (nat_eq x.0 n) (same x.1 b) 0 → (x.0 ≡ n) × (x.1 ≡ b)
      here x h = dite (ℕ_discrete x.0 n) (λ e. (e, same-pos x.1 b (omega (arith, ap {B = ℕ} (λ t. cond t (same x.1 b) 0) (eq-eqb x.0 n e))))) (λ ne. absurd (omega (arith, ap {B = ℕ} (λ t. cond t (same x.1 b) 0) (ne_eqb x.0 n ne))))

module _ {P : Type 0} (rule : Goods P → Type 0) (nodes : ℕ) where
  -- the store of 0 in its status, by a node that took its answer
  pub rests : Collects rule nodes → (slots id : ℕ) (m : SeatState P) (j a : P) (y : Option P) (k : ℕ) (steps : List StepEntry) → m.0.stage ≡ Done j a → m.1 ≡ (2 + 2 * m.0.number, y) ∷ [] → k ≡ 1 + 2 * m.0.number
      → Allows (Lawful rule nodes) slots id m k (λ _. 0) (λ _ n. n ≡ (collected m.0 (j, a) steps, []))
  rests law slots id m j a y k steps mine hand is s o long me _ =
      let n : ℕ = m.0.number in
      let w : View P = collected m.0 (j, a) steps in
      let words : List ℕ = set s.words (1 + 2 * n) 0 in
      let homes : List (Maybe (Option P)) = set s.homes (2 + 2 * n) (some y) in
      let answered : ℕ → Maybe (P × P) = put o.answered n none in
      let at : ℕ → Desk P = desk s.words s.homes o.posted o.answered in let at' : ℕ → Desk P = desk words homes o.posted answered in
      let live-now = live rule nodes s o id m.0 me (λ z. done-idle j a (sym mine ∙ z)) in
      let low = low_number rule nodes s o id m.0 me live-now in
      let apart = alone rule nodes s o id m.0 me live-now (ap (awake n n) mine) in
      let seat : Seated (Done j a) (at n) = subst (λ (g : Stage P). Seated g (at n)) mine (o.seated id m.0 me live-now) in
      let links : (i : ℕ) → get_or words (2 + 2 * i) 0 ≡ get_or s.words (2 + 2 * i) 0 = λ i. get_or-set_other s.words (1 + 2 * n) (2 + 2 * i) 0 0 (λ e. omega arith) in
      let elsewhere : (i : ℕ) → i ≢ n → at' i ≡ at i = λ i ne. desk-same s.words words s.homes homes o.posted o.posted o.answered answered i
      (get_or-set_other s.words (1 + 2 * n) (1 + 2 * i) 0 0 (λ e. ne (omega arith))) (links i)
      (set_else s.homes (2 + 2 * n) (1 + 2 * i) (some y) (λ e. omega arith)) (set_else s.homes (2 + 2 * n) (2 + 2 * i) (some y) (λ e. ne (omega arith))) refl (put-other o.answered n i none ne) in
      let job : get_elem? homes (1 + 2 * n) ≡ get_elem? s.homes (1 + 2 * n) = set_else s.homes (2 + 2 * n) (1 + 2 * n) (some y) (λ e. omega arith) in (
        w,
        gives,
        tt,
        subst (λ (c : List (ℕ × Option P)). Lawful rule nodes (stepped s k 0 id c w gives)) (sym hand)
            (subst (λ (i : ℕ). Lawful rule nodes record { words = set s.words i 0; homes = homes; views = set s.views id w }) (sym is)
            (restaged-own rule nodes s o id m.0 w words homes o.posted answered o.owner o.older o.newer o.done o.value me live-now refl refl refl (omega arith) (λ _. refl) (length-set s.words (1 + 2 * n) 0) (length-set s.homes (2 + 2 * n) (some y)) links
            (λ g waking. omega (arith, ap (g n) mine, (waking n).4 j a, (waking n).0))
            (λ r e. absurd (cc)) (λ j u r _ there e. o.owned j u r there e)
            elsewhere
            ((seat.0.0, job ∙ seat.0.1), ((y, set_here s.homes (2 + 2 * n) (some y) (omega (arith, o.long))), seat.2, put-here o.answered n none))
            (waits-other at at' n elsewhere o.older apart.0 o.old_waits) (waits-other at at' n elsewhere o.newer apart.1 o.new_waits) (done-other at at' n elsewhere o.done apart.2 o.finished)
            (held-other nodes s.words words s.homes homes at at' n o.older o.newer o.value o.owner elsewhere (get_or-set_other s.words (1 + 2 * n) 0 0 0 (λ e. omega arith)) (set_else s.homes (2 + 2 * n) 0 (some y) (λ e. omega arith)) apart.3 o.held)
            (subst (λ ps. rule (goods o.value o.posted answered ps)) (sym (map-set part_of s.views id w))
            (law (goods o.value o.posted o.answered (map part_of s.views)) id m.0.quota n m.0.own j a o.goods_rule low (at_map part_of s.views id m.0 me) seat.3)))),
        ap (λ (c : List (ℕ × Option P)). (w, carried_after c gives)) hand,
      )
    where
      done-idle : (x y : P) → Done x y ≡ Idle → ⊥
      done-idle x y e = cc

  -- a node that waits with a job finds the status 3
  pub finds-done : (s : State (Option P) (View P)) (o : Lawful rule nodes s) (id : ℕ) (m : SeatState P) (b k : ℕ) (i : P) (steps : List StepEntry) → get_elem? s.views id ≡ some m.0 → m.0.stage ≡ Behind b (Some i) → k ≡ 1 + 2 * m.0.number → get_or s.words k 0 ≡ 3
      → 0 < line_weight {P = P} (waits_at m.0.number b) o.done
      → (a : P) × Valid s.homes m.1 (takes (2 + 2 * m.0.number) (Some a)) × Lawful rule nodes (stepped s k 3 id m.1 (with_steps m.0 (Done i a) steps) (takes (2 + 2 * m.0.number) (Some a))) × (o.answered m.0.number ≡ some (i, a))
  finds-done s o id m b k i steps me mine is three there =
      let n : ℕ = m.0.number in
      let at : ℕ → Desk P = desk s.words s.homes o.posted o.answered in
      let picked = pick {P = P} n b o.done there in let ys : List (Waiter P) = picked.0 in
      let q = picked.1 at o.finished in let j : P = q.0 in let f : Finished j (at n) = q.2 in let a : P = f.2.0 in
      let w : View P = with_steps m.0 (Done i a) steps in
      let homes : List (Maybe (Option P)) = set s.homes (2 + 2 * n) none in
      let at' : ℕ → Desk P = desk s.words homes o.posted o.answered in
      let live-now = live rule nodes s o id m.0 me (λ z. behind-idle b i (sym mine ∙ z)) in
      let note : Noted (Some i) (at n) = subst (λ (g : Stage P). Seated g (at n)) mine (o.seated id m.0 me live-now) in
      let own : i ≡ j = ⊎_elim (λ (z : (at n).posted ≡ some i). absurd (some-ne-none i (sym z ∙ f.3))) (λ (z : (y : P) × ((at n).answered ≡ some (i, y))). ap (λ (y : P × P). y.0) (some-injective (i, z.0) (j, a) (sym z.1 ∙ f.2.2))) note in
      let low = low_number rule nodes s o id m.0 me live-now in
      let counted = once rule nodes s o n in let split = q.1 (awake n) in let here = same-refl n in
      let elsewhere : (i : ℕ) → i ≢ n → at' i ≡ at i = λ i ne. desk-same s.words s.words s.homes homes o.posted o.posted o.answered o.answered i refl refl
      (set_else s.homes (2 + 2 * n) (1 + 2 * i) none (λ e. omega arith)) (set_else s.homes (2 + 2 * n) (2 + 2 * i) none (λ e. ne (omega arith))) refl refl in
      let job : get_elem? homes (1 + 2 * n) ≡ get_elem? s.homes (1 + 2 * n) = set_else s.homes (2 + 2 * n) (1 + 2 * n) none (λ e. omega arith) in (
        a,
        f.2.1,
        subst (λ (ws : List ℕ). Lawful rule nodes record { words = ws; homes = homes; views = set s.views id w }) (sym (set_self s.words k) ∙ ap (set s.words k) three)
            (restaged-own rule nodes s o id m.0 w s.words homes o.posted o.answered o.owner o.older o.newer ys o.value me live-now refl refl refl (omega arith) (λ _. refl) refl (length-set s.homes (2 + 2 * n) none) (λ _. refl)
            (λ g waking. omega (arith, ap (g n) mine, ap (λ (y : P). g n (Behind b (Some y))) own, (waking n).4 i a, q.1 g))
            (λ r e. absurd (cc)) (λ j u r _ there' e. o.owned j u r there' e)
            elsewhere
            ((f.1.0, job ∙ f.1.1), set_here s.homes (2 + 2 * n) none (omega (arith, o.long)), f.3, f.2.2 ∙ (λ t. some (sym own t, a)))
            (waits-other at at' n elsewhere o.older (omega arith) o.old_waits) (waits-other at at' n elsewhere o.newer (omega arith) o.new_waits) (done-other at at' n elsewhere ys (omega arith) q.3)
            (held-other nodes s.words s.words s.homes homes at at' n o.older o.newer o.value o.owner elsewhere refl (set_else s.homes (2 + 2 * n) 0 none (λ e. omega arith)) (omega arith) o.held)
            (parts-same rule nodes s.views id m.0 w o.value o.posted o.answered me refl o.goods_rule)),
        f.2.2 ∙ (λ t. some (sym own t, a)),
      )
    where
      behind-idle : (x : ℕ) (y : P) → ◌≡◌ {A = Stage P} (Behind x (Some y)) Idle → ⊥
      behind-idle x y e = cc
