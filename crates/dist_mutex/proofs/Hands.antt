-- The owner has put the value back.
use Rattle.std.proofs.Common.{◌≡◌, ℕ, ◌≤◌, Option, Some, List, ◌∷◌, refl, sym, subst}
use Rattle.atomic_table.specs.Table.{rest}
use Rattle.waiter_chain.specs.Goods.{Runs, Counts}
use Rattle.waiter_chain.specs.Chains.{owed}
use Rattle.waiter_chain.specs.Calls.{OwnsBy, MayEnd}
use Rattle.waiter_chain.specs.declared.view.Ownership.{Ownership}
use Rattle.waiter_chain.specs.Steps.{SeatState}
use Rattle.waiter_chain.specs.declared.turn.Turn.{Turn}

module _ {P : Type 0} where
  -- the owner has put the value back: its ownership may end
  pub ended_at : (relates : P → P → P → P → Type 0) (slots due : ℕ) (ran : List (P × P)) (t : Turn) (hand : Option P) (value : P) (m n : SeatState P) (k : Ownership P) → OwnsBy slots t hand m k → n ≡ (m.0, (0, Some value) ∷ rest m.1)
      → due ≤ m.0.quota → Counts (owed k.mine) ran due → Runs relates k.value ran value → MayEnd relates due ran n
  ended_at relates slots due ran t hand value m n k o e enough paid runs = subst (MayEnd relates due ran) (sym e) (k, value, o.0, refl, enough, paid, runs)
