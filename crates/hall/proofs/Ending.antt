-- What is known of a hall that was closed.
use Rattle.std.proofs.Common.{◌≡◌, ◌≢◌, arith, ℕ, zero, suc, ◌+◌, List, [], ◌∷◌, length, map, get_or, drop, sym, subst, ap, length-drop}
use mathlib.Core.Option.{some, some-injective, some-ne-none}
use lib.ListN.{get_elem?}
use Rattle.atomic_table.specs.Table.{Final, Seen}
use Rattle.atomic_table.proofs.Lists.{at_map}
use Rattle.hall.specs.declared.cargo.CargoRule.{Ghosts}
use Rattle.hall.specs.declared.view.View.{View}
use Rattle.hall.specs.declared.view.Plan.{Plan}
use Rattle.hall.specs.Cargo.{CargoSeat}
use Rattle.hall.specs.Rule.{Holds, cargo_seat}
use Rattle.hall.specs.Numbers.{width}
use Rattle.view_sums.specs.Sums.{map_at, terms_le}

pub elem_get : (l : List ℕ) (i a : ℕ) → get_elem? l i ≡ some a → a ≡ get_or l i 0
elem_get [] i a e = absurd (some-ne-none a (sym e))
elem_get (x ∷ xs) zero a e = sym (some-injective x a e)
elem_get (x ∷ xs) (suc i) a e = elem_get xs i a e

pub ends : {C P : Type 0} (g : Ghosts C P) (plan : Plan C) (id base : ℕ) (v : View P) (ws : List ℕ) (xs : List (Unit {0})) → base ≡ plan.shape.slots + plan.shape.locks → Final (Seen (Holds g plan) id v) ws xs
    → (seats : List (CargoSeat P)) × g.holds plan.cargo (drop base ws) seats × (get_elem? seats id ≡ some (cargo_seat v))
    × (width v ≡ plan.shape.seats → (j : ℕ) (q : CargoSeat P) → get_elem? seats j ≡ some q → j ≢ id → q.part ≡ g.spent)
ends {C} {P} g plan id base v ws xs is f =
    let h = f.1.0 in (
      map cargo_seat f.0.views,
      subst (λ (z : ℕ). g.holds plan.cargo (drop z ws) (map cargo_seat f.0.views)) (sym is) (subst (λ l. g.holds plan.cargo (drop (plan.shape.slots + plan.shape.locks) l) (map cargo_seat f.0.views)) f.2 h.cargo),
      at_map cargo_seat f.0.views id v f.1.1,
      λ all j q e ne. let t = map_at cargo_seat f.0.views j q e in
          subst (λ (z : CargoSeat P). z.part ≡ g.spent) t.2 (h.gone j t.0 t.1 (omega (arith, terms_le width f.0.views id j v t.0 ne f.1.1 t.1, h.numbered.all))),
    )

-- so many words are left as the cargo has
pub leaves : {C P : Type 0} (g : Ghosts C P) (plan : Plan C) (id base : ℕ) (v : View P) (ws : List ℕ) (xs : List (Unit {0})) → base ≡ plan.shape.slots + plan.shape.locks → Final (Seen (Holds g plan) id v) ws xs → length (drop base ws) ≡ plan.shape.words
leaves g plan id base v ws xs is f = let h = f.1.0 in let same : length f.0.words ≡ length ws = ap {A = List ℕ} length f.2 in omega (arith, length-drop base ws, same, h.size)
