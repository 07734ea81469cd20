-- A chain that has just been made meets the rule.
use Rattle.std.proofs.Common.{◌≡◌, ℕ, zero, suc, ◌+◌, ◌*◌, ◌<◌, List, [], ◌∷◌, map, length, get_or, replicate, Option, Some, None, true≢false, refl, sym, ap, ◌∙◌, subst, arith}
use Rattle.std.proofs.lemmas.List.{length-replicate, get_or-replicate, length-map}
use mathlib.Core.Option.{some, some-injective, some-ne-none}
use lib.ListN.{get_elem?}
use Rattle.atomic_table.specs.Table.{opening}
use Rattle.waiter_chain.specs.declared.view.View.{View}
use Rattle.waiter_chain.specs.declared.view.Stage.{Stage}
use Rattle.waiter_chain.specs.declared.view.Stage.TheVariants.{Idle, Owns}
use Rattle.waiter_chain.specs.Goods.{Goods, opened, nothing}
use Rattle.waiter_chain.specs.Chains.{covers, desk, Desk, Seated, AtRest, nobody, Lawful}
use Rattle.waiter_chain.specs.Steps.{first_view}
use Rattle.waiter_chain.proofs.Rules.{nat_lt-pos}
use Rattle.waiter_chain.proofs.Numbers.{within-all}

only : {A : Type 0} (x u : A) (j : ℕ) → get_elem? (x ∷ []) j ≡ some u → x ≡ u
only x u zero e = some-injective x u e
only x u (suc j) e = absurd (some-ne-none u (sym e))

empty-at : {A : Type 0} (x : A) (count i : ℕ) → i < count → get_elem? (map some (replicate count x)) i ≡ some (some x)
empty-at x zero i h = absurd (omega arith)
empty-at x (suc count) zero h = refl
empty-at x (suc count) (suc i) h = empty-at x count i (omega arith)

module _ {P : Type 0} (rule : Goods P → Type 0) (nodes quota : ℕ) where
  pub opens : (words : List ℕ) (slots : List (Option P)) (first : P) → 0 < nodes → quota < 18446744073709551616 → words ≡ replicate (1 + 2 * nodes) 0 → slots ≡ Some first ∷ replicate (2 * nodes) None → rule (opened first quota)
      → Lawful rule nodes (opening words slots (first_view nodes quota))
  opens words slots first some-node small zeros filled good =
      let v : View P = first_view nodes quota in
      let at : ℕ → Desk P = desk words (map some slots) nothing nothing in
      let slot : (i j : ℕ) → i ≡ suc j → j < 2 * nodes → get_elem? (map some slots) i ≡ some (some None) = λ i j is low.
      ap (λ (xs : List (Option P)). get_elem? (map some xs) i) filled ∙ ap (get_elem? (map some (Some first ∷ replicate (2 * nodes) None))) is ∙ empty-at None (2 * nodes) j low in
      let rests : (n : ℕ) → n < nodes → AtRest (at n) = λ n low. ((None, slot (1 + 2 * n) (2 * n) (omega arith) (omega arith)), ((None, slot (2 + 2 * n) (1 + 2 * n) (omega arith) (omega arith)), refl, refl)) in
      let low : (n : ℕ) → 0 < covers n v → n < nodes = λ n h. nat_lt-pos n nodes (omega (arith, within-all n nodes some-node, h)) in
      let word : (i : ℕ) → i < 1 + 2 * nodes → get_or words i 0 ≡ 0 = λ i h. ap (λ (ws : List ℕ). get_or ws i 0) zeros ∙ get_or-replicate (1 + 2 * nodes) i 0 0 h in
      record {
        owner = nobody;
        older = [];
        newer = [];
        done = [];
        value = first;
        posted = nothing;
        answered = nothing;
        wide = ap length zeros ∙ length-replicate (1 + 2 * nodes) 0;
        long = length-map slots some ∙ ap length filled ∙ (omega (arith, length-replicate {A = Option P} (2 * nodes) None));
        covered = λ n. omega (arith, within-all n nodes some-node);
        standing = λ g waking. omega (arith, (waking 0).0);
        asleep = λ j u there e. absurd (true≢false (sym e ∙ sym (ap (λ (x : View P). x.gone) (only v u j there))));
        owned = λ j u k there e. absurd (idle-owns k (ap (λ (x : View P). x.stage) (only v u j there) ∙ e));
        seated = λ j u there _. subst (λ (x : View P). Seated x.stage (at x.number)) (only v u j there) (rests 0 some-node);
        unused = λ j u n there _ h _. rests n (low n (subst (λ (x : View P). 0 < covers n x) (sym (only v u j there)) h));
        unlinked = λ j u n there _ _ h. let l = low n (subst (λ (x : View P). 0 < covers n x) (sym (only v u j there)) h) in word (2 + 2 * n) (omega arith);
        old_waits = tt;
        new_waits = tt;
        finished = tt;
        held = (word 0 (omega arith), refl, refl, ap (λ (xs : List (Option P)). get_elem? (map some xs) 0) filled);
        funded = omega arith;
        goods_rule = good;
      }
    where
      idle-owns : (k : _) → ◌≡◌ {A = Stage P} Idle (Owns k) → ⊥
      idle-owns k e = cc
