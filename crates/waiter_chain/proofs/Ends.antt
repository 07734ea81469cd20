-- An owner that has its own job slot in hand frees the lock: it gives back the value and that slot.
use Rattle.std.proofs.Common.{◌≡◌, ◌≢◌, ℕ, ◌+◌, ◌*◌, ◌≤◌, List, [], ◌∷◌, ◌++◌, map, set, get_or, length-set, get_or-set_same, get_or-set_other, Option, Some, None, refl, sym, ap, ◌∙◌, subst, arith}
use mathlib.Core.Option.{some, none, Option as Maybe}
use lib.ListN.{get_elem?}
use Rattle.atomic_table.specs.Table.{State, gives, chain, stepped}
use Rattle.atomic_table.proofs.Lists.{set_here, set_else, at_map}
use Rattle.waiter_chain.specs.declared.view.View.{View}
use Rattle.waiter_chain.specs.declared.view.Next.{Next}
use Rattle.waiter_chain.specs.declared.view.Ownership.{Ownership}
use Rattle.waiter_chain.specs.declared.view.StepEntry.{StepEntry}
use Rattle.waiter_chain.specs.declared.view.Stage.TheVariants.{Idle, Owns}
use Rattle.waiter_chain.specs.Goods.{Goods, goods, put, Runs, Pays, Ends}
use Rattle.waiter_chain.specs.Chains.{part_of, desk, Desk, owed, front, line_weight, nobody, owner_weight, Queued, Lawful}
use Rattle.waiter_chain.specs.Steps.{SeatState}
use Rattle.view_sums.specs.Sums.{map-set}
use Rattle.waiter_chain.proofs.Rules.{line_empty, desk-same, put-other, put-here, done-other, low_number, one_owner, restaged-own}
use Rattle.waiter_chain.proofs.Serves.{mine_owed}
use Rattle.waiter_chain.proofs.Frees.{held_by, live-owner, owner_seat, owner_apart}

module _ {P : Type 0} where
  -- the pass is idle, with this quota and these jobs more, each with its answer
  abbrev pub ended_with : View P → ℕ → List (P × P) → List StepEntry → View P
  ended_with v q ran steps = record { number = v.number; spare = v.spare; past = v.past; gone = v.gone; linked = v.linked; quota = q; stage = Idle; own = v.own ++ ran; steps = steps }

module _ {P : Type 0} (rule : Goods P → Type 0) (nodes : ℕ) where
  pub frees-mine : (relates : P → P → P → P → Type 0) → Ends rule nodes relates → (s : State (Option P) (View P)) (o : Lawful rule nodes s) (id : ℕ) (m : SeatState P) (k : Ownership P) (now : P) (z : Option P) (ran : List (P × P)) (q : ℕ) (steps : List StepEntry)
      → get_elem? s.views id ≡ some m.0 → m.0.stage ≡ Owns k → k.next ≡ None → k.first ≡ k.end → get_or s.words 0 0 ≡ k.mark
      → m.1 ≡ (0, Some now) ∷ (1 + 2 * m.0.number, z) ∷ [] → Runs relates k.value ran now → Pays (owed k.mine) ran m.0.quota q → q ≤ m.0.quota
      → Lawful rule nodes (stepped s 0 0 id m.1 (ended_with m.0 q ran steps) (chain gives gives))
  frees-mine relates law s o id m k now z ran q steps me mine no-next none-left hit hand runs pays spends =
      let n : ℕ = m.0.number in
      let at : ℕ → Desk P = desk s.words s.homes o.posted o.answered in
      let h = held_by rule nodes s o id m.0 k me mine in
      let live-now = live-owner rule nodes s o id m.0 k me mine in
      let low = low_number rule nodes s o id m.0 me live-now in
      let f : Queued nodes s.words o.older o.newer k.first k.end k.mark = subst (λ (y : Option (Next P)). Queued nodes s.words (front y o.older) o.newer k.first k.end k.mark) no-next h.0 in
      let older = line_empty k.first k.end o.older f.old_line f.past_end none-left in
      let newer = line_empty (get_or s.words 0 0) k.mark o.newer f.new_line f.past_mark hit in
      let seat = owner_seat rule nodes s o id m.0 k me mine in
      let mates = owner_apart rule nodes s o id m.0 k me mine in
      let w : View P = ended_with m.0 q ran steps in
      let words : List ℕ = set s.words 0 0 in
      let homes₁ : List (Maybe (Option P)) = set s.homes 0 (some (Some now)) in
      let homes : List (Maybe (Option P)) = set homes₁ (1 + 2 * n) (some z) in
      let posted : ℕ → Maybe P = put o.posted n none in
      let at' : ℕ → Desk P = desk words homes posted o.answered in
      let links : (i : ℕ) → get_or words (2 + 2 * i) 0 ≡ get_or s.words (2 + 2 * i) 0 = λ i. get_or-set_other s.words 0 (2 + 2 * i) 0 0 (λ e. omega arith) in
      let elsewhere : (i : ℕ) → i ≢ n → at' i ≡ at i = λ i ne. desk-same s.words words s.homes homes o.posted posted o.answered o.answered i
      (get_or-set_other s.words 0 (1 + 2 * i) 0 0 (λ e. omega arith)) (links i)
      (set_else homes₁ (1 + 2 * n) (1 + 2 * i) (some z) (λ e. ne (omega arith)) ∙ set_else s.homes 0 (1 + 2 * i) (some (Some now)) (λ e. omega arith))
      (set_else homes₁ (1 + 2 * n) (2 + 2 * i) (some z) (λ e. omega arith) ∙ set_else s.homes 0 (2 + 2 * i) (some (Some now)) (λ e. omega arith))
      (put-other o.posted n i none ne) refl in
      let answer : get_elem? homes (2 + 2 * n) ≡ get_elem? s.homes (2 + 2 * n) = set_else homes₁ (1 + 2 * n) (2 + 2 * n) (some z) (λ e. omega arith) ∙ set_else s.homes 0 (2 + 2 * n) (some (Some now)) (λ e. omega arith) in
      subst (λ (c : List (ℕ × Option P)). Lawful rule nodes (stepped s 0 0 id c w (chain gives gives))) (sym hand)
      (restaged-own rule nodes s o id m.0 w words homes posted o.answered nobody [] [] o.done now me live-now refl refl refl spends (λ _. refl) (length-set s.words 0 0) (length-set homes₁ (1 + 2 * n) (some z) ∙ length-set s.homes 0 (some (Some now))) links
      (λ g waking. omega (arith, ap (g n) mine, ap (owner_weight g) (o.owned id m.0 k me mine), ap (line_weight g) older, ap (line_weight g) newer, (waking n).0, ap (λ (y : Option (Next P)). line_weight g (front y [])) no-next))
      (λ r e. absurd (cc)) (λ i u l ne there e. absurd (one_owner rule nodes s o id i m.0 u k l ne me there mine e))
      elsewhere
      ((z, set_here homes₁ (1 + 2 * n) (some z) (omega (arith, o.long, low, length-set s.homes 0 (some (Some now))))), ((seat.1.0, answer ∙ seat.1.1), put-here o.posted n none, seat.2))
      tt tt (done-other at at' n elsewhere o.done mates.2 o.finished)
      (get_or-set_same s.words 0 0 0 (omega (arith, o.wide)), refl, refl, set_else homes₁ (1 + 2 * n) 0 (some z) (λ e. omega arith) ∙ set_here s.homes 0 (some (Some now)) (omega (arith, o.long)))
      (subst (λ ps. rule (goods now posted o.answered ps)) (sym (map-set part_of s.views id w))
      (law (goods o.value o.posted o.answered (map part_of s.views)) id n m.0.quota q m.0.own ran now o.goods_rule low (at_map part_of s.views id m.0 me) (subst (λ y. Runs relates y ran now) h.4 runs)
      (subst (λ (y : Maybe P). Pays y ran m.0.quota q) (sym (mine_owed k.mine (at n) seat.0)) pays) seat.2)))
