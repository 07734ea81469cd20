-- An owner frees the lock or makes the next node the owner, whether it has its own job slot in hand or not.
use Rattle.std.proofs.Common.{◌≡◌, ◌≢◌, ℕ, ◌+◌, ◌-◌, ◌*◌, ◌≤◌, List, [], ◌∷◌, ◌++◌, get_or, eqb, Option, Some, None, sym, ap, ◌∙◌, subst, arith}
use mathlib.Core.Option.{some, none, Option as Maybe}
use prog.Atomic.{either}
use Rattle.atomic_table.specs.Table.{step, keeps, gives, chain, rest, Allows}
use Rattle.atomic_table.proofs.Lists.{exchanged}
use Rattle.waiter_chain.specs.declared.view.View.{View}
use Rattle.waiter_chain.specs.declared.view.OwnSlot.{OwnSlot}
use Rattle.waiter_chain.specs.declared.view.OwnSlot.TheVariants.{Unused, InHand, Unrun}
use Rattle.waiter_chain.specs.declared.view.Ownership.{Ownership}
use Rattle.waiter_chain.specs.declared.view.Stage.TheVariants.{Owns}
use Rattle.waiter_chain.specs.declared.view.StepKind.TheVariants.{Free, Grant}
use Rattle.waiter_chain.specs.Goods.{Goods, Runs, Pays, Counts, Ends}
use Rattle.waiter_chain.specs.Chains.{owed, Lawful}
use Rattle.waiter_chain.specs.Steps.{SeatState, OwnHand, passed, entry, moved, ended, freed, handed}
use Rattle.waiter_chain.proofs.Rules.{owns-injective, Goes}
use Rattle.waiter_chain.proofs.Frees.{passes, frees}
use Rattle.waiter_chain.proofs.Grants.{grants}
use Rattle.waiter_chain.proofs.Ends.{frees-mine}
use Rattle.waiter_chain.proofs.Gives.{grants-mine}

module _ {P : Type 0} where
  -- what is left of the quota, where it suffices
  pub pays_for : (y : Maybe P) (ran : List (P × P)) (before count : ℕ) → Counts y ran count → count ≤ before → Pays y ran before (before - count)
  pays_for none ran before count c enough = omega (arith, c, enough)
  pays_for (some j) ran before count c enough = (omega (arith, c.0, enough), c.1)

module _ {P : Type 0} (rule : Goods P → Type 0) (nodes : ℕ) (relates : P → P → P → P → Type 0) (law : Ends rule nodes relates) (slots id : ℕ) (m : SeatState P) (k : Ownership P) (count : ℕ) (ran : List (P × P)) (now : P) (mine : m.0.stage ≡ Owns k) (no-next : k.next ≡ None) (enough : count ≤ m.0.quota) (runs : Runs relates k.value ran now) where
  frees-slot : (mark : ℕ) (z : Option P) → k.first ≡ k.end → mark ≡ k.mark → m.1 ≡ (0, Some now) ∷ (1 + 2 * m.0.number, z) ∷ [] → Pays (owed k.mine) ran m.0.quota (m.0.quota - count)
      → Allows (Lawful rule nodes) slots id m 0 (λ x. either (eqb x mark) 0 x) (freed count ran (step slots 0 mark 0 none) m)
  frees-slot mark z none-left is hand pays s o long me _ =
      let c : ℕ = get_or s.words 0 0 in
      exchanged c mark 0 (Goes rule nodes s 0 id m (freed count ran (step slots 0 mark 0 none) m))
      (λ hit. let w : View P = ended m.0 count ran (entry m.0 Free 0 c) in (
        w,
        chain gives gives,
        (tt, tt),
        frees-mine rule nodes relates law s o id m k now z ran (m.0.quota - count) (m.0.steps ++ entry m.0 Free 0 c ∷ []) me mine no-next none-left (hit ∙ is) hand runs pays (omega arith),
        ((λ _. ap (λ (x : List (ℕ × Option P)). (w, rest (rest x))) hand), λ ne. absurd (ne hit)),
      ))
      (λ miss. (
        moved m.0 (Owns (passed k)) (entry m.0 Free 0 c),
        keeps,
        tt,
        passes rule nodes s o id m k 0 (m.0.steps ++ entry m.0 Free 0 c ∷ []) me mine (λ e. miss (e ∙ sym is)),
        ((λ hit. absurd (miss hit)), λ _ l z. ap (λ (x : Ownership P). (moved m.0 (Owns (passed x)) (entry m.0 Free 0 c), m.1)) (owns-injective _ _ (sym mine ∙ z))),
      ))

  pub frees-any : (mark : ℕ) → (y : OwnSlot P) → k.mine ≡ y → OwnHand y m.0.number (rest m.1) → k.first ≡ k.end → mark ≡ k.mark → m.1 ≡ (0, Some now) ∷ rest m.1 → Counts (owed k.mine) ran count
      → Allows (Lawful rule nodes) slots id m 0 (λ x. either (eqb x mark) 0 x) (freed count ran (step slots 0 mark 0 none) m)
  frees-any mark Unused e own none-left is hand counts =
      frees rule nodes relates law slots id m k count ran now mark mine (no-next, e) none-left is (hand ∙ ap (λ (c : List (ℕ × Option P)). (0, Some now) ∷ c) own) enough (subst (λ (y : OwnSlot P). Counts (owed y) ran count) e counts) runs
  frees-any mark InHand e own none-left is hand counts = frees-slot mark own.0 none-left is (hand ∙ ap (λ (c : List (ℕ × Option P)). (0, Some now) ∷ c) own.1) (pays_for (owed k.mine) ran m.0.quota count counts enough)
  frees-any mark (Unrun j) e own none-left is hand counts = frees-slot mark own.0 none-left is (hand ∙ ap (λ (c : List (ℕ × Option P)). (0, Some now) ∷ c) own.1) (pays_for (owed k.mine) ran m.0.quota count counts enough)

  grants-slot : (i new : ℕ) (z : Option P) → k.first ≢ k.end → i ≡ 1 + 2 * (k.first - 2) → new ≡ k.end + 4 → m.1 ≡ (0, Some now) ∷ (1 + 2 * m.0.number, z) ∷ [] → Pays (owed k.mine) ran m.0.quota (m.0.quota - count)
      → Allows (Lawful rule nodes) slots id m i (λ _. new) (λ _. handed count ran (step slots i new 0 none) m new)
  grants-slot i new z some-left at-word what hand pays s o long me _ = let w : View P = ended m.0 count ran (entry m.0 Grant i new) in (
    w,
    chain gives gives,
    (tt, tt),
    grants-mine rule nodes relates law s o id m k now z ran (m.0.quota - count) i new (m.0.steps ++ entry m.0 Grant i new ∷ []) me mine no-next some-left at-word what hand runs pays (omega arith),
    ap (λ (x : List (ℕ × Option P)). (w, rest (rest x))) hand,
  )

  pub grants-any : (i new : ℕ) → (y : OwnSlot P) → k.mine ≡ y → OwnHand y m.0.number (rest m.1) → k.first ≢ k.end → i ≡ 1 + 2 * (k.first - 2) → new ≡ k.end + 4 → m.1 ≡ (0, Some now) ∷ rest m.1 → Counts (owed k.mine) ran count
      → Allows (Lawful rule nodes) slots id m i (λ _. new) (λ _. handed count ran (step slots i new 0 none) m new)
  grants-any i new Unused e own some-left at-word what hand counts =
      grants rule nodes relates law slots id m k count ran now i new mine (no-next, e) some-left at-word what (hand ∙ ap (λ (c : List (ℕ × Option P)). (0, Some now) ∷ c) own) enough (subst (λ (y : OwnSlot P). Counts (owed y) ran count) e counts) runs
  grants-any i new InHand e own some-left at-word what hand counts = grants-slot i new own.0 some-left at-word what (hand ∙ ap (λ (c : List (ℕ × Option P)). (0, Some now) ∷ c) own.1) (pays_for (owed k.mine) ran m.0.quota count counts enough)
  grants-any i new (Unrun j) e own some-left at-word what hand counts = grants-slot i new own.0 some-left at-word what (hand ∙ ap (λ (c : List (ℕ × Option P)). (0, Some now) ∷ c) own.1) (pays_for (owed k.mine) ran m.0.quota count counts enough)
