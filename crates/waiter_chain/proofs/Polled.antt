-- What a load of a waiting node's own status tells its caller.
use Rattle.std.proofs.Common.{◌≡◌, ℕ, ◌+◌, ◌-◌, ◌*◌, ◌<◌, ◌≤◌, [], ◌∷◌, Option, Some, None, refl, ap, ◌∙◌, subst, arith}
use mathlib.Core.Option.{none}
use Rattle.atomic_table.specs.Table.{step}
use Rattle.waiter_chain.specs.Goods.{Goods}
use Rattle.waiter_chain.specs.Steps.{SeatState, WinsBack, entry, moved, stays, polled}
use Rattle.waiter_chain.specs.Calls.{Won, PolledAs}
use Rattle.waiter_chain.specs.declared.turn.Turn.{Turn}
use Rattle.waiter_chain.specs.declared.turn.Polled.TheVariants as answer
use Rattle.waiter_chain.specs.declared.view.Stage.TheVariants.{Behind, Done}
use Rattle.waiter_chain.specs.declared.view.StepKind.TheVariants.{LoadStatus}
use Rattle.waiter_chain.proofs.Passes.{wins_won}

module _ {P : Type 0} (known : Goods P → Type 0) (slots place r b : ℕ) (m n : SeatState P) where
  pub still_told : (h : Option P) → m.0.stage ≡ Behind b h → place ≡ 1 + 2 * m.0.number → r < 3 → polled known (step slots place 0 0 none) m r n → PolledAs known slots b h m n (answer.Still r)
  still_told None mine is low p = let t = (p.0 b mine).0 (omega (arith, low)) in (t.0, t.1 ∙ ap (λ (x : ℕ). stays m (entry m.0 LoadStatus x r)) is)
  still_told (Some j) mine is low p = let t = (p.1 b j mine).0 low in (t.0, t.1 ∙ ap (λ (x : ℕ). stays m (entry m.0 LoadStatus x r)) is)

  pub done_told : (h : Option P) → m.0.stage ≡ Behind b h → place ≡ 1 + 2 * m.0.number → r ≡ 3 → polled known (step slots place 0 0 none) m r n → PolledAs known slots b h m n answer.Done
  done_told None mine is three p = let t = (p.0 b mine).0 (omega (arith, three)) in absurd (omega (arith, t.0, three))
  done_told (Some j) mine is three p = let f = (p.1 b j mine).1 three in
      (f.0, f.1 ∙ (λ t. (moved m.0 (Done j f.0) (entry m.0 LoadStatus (is t) (three t)), (2 + 2 * m.0.number, Some f.0) ∷ m.1)), f.2)

  pub owner_told : (h : Option P) → m.0.stage ≡ Behind b h → m.1 ≡ [] → place ≡ 1 + 2 * m.0.number → 4 ≤ r → polled known (step slots place 0 0 none) m r n
      → PolledAs known slots b h m n (answer.Owner (record { first = b; end = r - 4; mark = 1 }))
  owner_told None mine empty is big p =
      let t : Turn = record { first = b; end = r - 4; mark = 1 } in let f = (p.0 b mine).1 big in let again : r ≡ r - 4 + 4 = omega (arith, big) in
      (subst (λ (x : ℕ × ℕ). Won known slots t m (entry m.0 LoadStatus x.0 x.1) n) (λ i. (is i, again i)) (wins_won known slots t (entry m.0 LoadStatus place r) m n empty f.0 f.1), refl, refl)
  owner_told (Some j) mine empty is big p =
      let f = (p.1 b j mine).2 big in let again : r ≡ r - 4 + 4 = omega (arith, big) in
      (refl, refl, f.0, subst (λ (x : ℕ × ℕ). WinsBack known m j b (r - 4) (entry m.0 LoadStatus x.0 x.1) n) (λ i. (is i, again i)) f.1)
