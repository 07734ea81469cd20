-- An owner settles the jobs that it has run for itself, in the middle of its ownership: they enter its list, it pays for them, and its notes have the value that they made.
use Rattle.std.proofs.Common.{◌≡◌, ◌≢◌, ℕ, ◌+◌, ◌*◌, ◌≤◌, List, [], ◌∷◌, map, set, set-set, Option, Some, refl, sym, ap, ◌∙◌, subst, arith}
use mathlib.Core.Option.{some, none, Option as Maybe}
use lib.ListN.{get_elem?}
use Rattle.atomic_table.specs.Table.{State, Allows, homes_after}
use Rattle.atomic_table.proofs.Lists.{at_map, set_here}
use Rattle.waiter_chain.specs.declared.view.View.{View}
use Rattle.waiter_chain.specs.declared.view.OwnSlot.{OwnSlot}
use Rattle.waiter_chain.specs.declared.view.OwnSlot.TheVariants.{Unused, InHand, Unrun}
use Rattle.waiter_chain.specs.declared.view.Ownership.{Ownership}
use Rattle.waiter_chain.specs.declared.view.Stage.TheVariants.{Owns}
use Rattle.waiter_chain.specs.Goods.{Goods, goods, put, Runs, Pays, Ends, Serves}
use Rattle.waiter_chain.specs.Chains.{part_of, desk, Desk, Mine, owed, front, line_weight, turn, owner_weight, Lawful}
use Rattle.view_sums.specs.Sums.{there, map-set, same, same-refl}
use Rattle.waiter_chain.proofs.Rules.{awake, owns-injective, desk-same, put-other, put-here, waits-other, done-other, taken-other, once, low_number, one_owner, restaged-own}
use Rattle.waiter_chain.specs.declared.view.StepEntry.{StepEntry}
use Rattle.waiter_chain.specs.Steps.{SeatState, with_steps, run_slot, settled_notes, settled, served}
use Rattle.waiter_chain.proofs.Serves.{mine_owed, serves}
use Rattle.waiter_chain.proofs.Frees.{held_by, live-owner, owner_seat, owner_apart}

module _ {P : Type 0} where
  mine_run : (y : OwnSlot P) (d d' : Desk P) → d'.job ≡ d.job → d'.posted ≡ none → Mine y d → Mine (run_slot y) d'
  mine_run Unused d d' a b h = ((h.0.0, a ∙ h.0.1), b)
  mine_run InHand d d' a b h = (a ∙ h.0, b)
  mine_run (Unrun j) d d' a b h = (a ∙ h.0, b)

module _ {P : Type 0} (rule : Goods P → Type 0) (nodes : ℕ) where
  pub settles : (relates : P → P → P → P → Type 0) → Ends rule nodes relates → (s : State (Option P) (View P)) (o : Lawful rule nodes s) (id : ℕ) (v : View P) (k : Ownership P) (ran : List (P × P)) (now : P) (q : ℕ)
      → get_elem? s.views id ≡ some v → v.stage ≡ Owns k → Runs relates k.value ran now → Pays (owed k.mine) ran v.quota q → q ≤ v.quota
      → Lawful rule nodes record { words = s.words; homes = s.homes; views = set s.views id (settled v q ran (settled_notes k now)) }
  settles relates law s o id v k ran now q me mine runs pays spends =
      let n : ℕ = v.number in
      let at : ℕ → Desk P = desk s.words s.homes o.posted o.answered in
      let h = held_by rule nodes s o id v k me mine in
      let live-now = live-owner rule nodes s o id v k me mine in
      let low = low_number rule nodes s o id v me live-now in
      let seat = owner_seat rule nodes s o id v k me mine in
      let mates = owner_apart rule nodes s o id v k me mine in
      let r : Ownership P = settled_notes k now in
      let w : View P = settled v q ran r in
      let posted : ℕ → Maybe P = put o.posted n none in
      let at' : ℕ → Desk P = desk s.words s.homes posted o.answered in
      let elsewhere : (i : ℕ) → i ≢ n → at' i ≡ at i = λ i ne. desk-same s.words s.words s.homes s.homes o.posted posted o.answered o.answered i refl refl refl refl (put-other o.posted n i none ne) refl in
      let counted = once rule nodes s o n in let here = same-refl n in
      let ours : owner_weight {P = P} (awake n) o.owner ≡ same n n + line_weight {P = P} (awake n) (front k.next []) = ap (owner_weight {P = P} (awake n)) (o.owned id v k me mine) in
      restaged-own rule nodes s o id v w s.words s.homes posted o.answered (turn n r) o.older o.newer o.done now me live-now refl refl refl spends (λ _. refl) refl refl (λ _. refl)
      (λ g waking. omega (arith, ap (g n) mine, ap (owner_weight g) (o.owned id v k me mine)))
      (λ j z. ap (turn n) (owns-injective _ _ z)) (λ j u l ne there z. absurd (one_owner rule nodes s o id j v u k l ne me there mine z))
      elsewhere
      (mine_run k.mine (at n) (at' n) refl (put-here o.posted n none) seat.0, seat.1, seat.2)
      (waits-other at at' n elsewhere o.older mates.0 o.old_waits) (waits-other at at' n elsewhere o.newer mates.1 o.new_waits) (done-other at at' n elsewhere o.done mates.2 o.finished)
      (h.0, h.1, h.2, h.3, refl, taken-other at at' n elsewhere k.next (omega arith) h.5, h.6)
      (subst (λ ps. rule (goods now posted o.answered ps)) (sym (map-set part_of s.views id w))
      (law (goods o.value o.posted o.answered (map part_of s.views)) id n v.quota q v.own ran now o.goods_rule low (at_map part_of s.views id v me) (subst (λ y. Runs relates y ran now) h.4 runs)
      (subst (λ (y : Maybe P). Pays y ran v.quota q) (sym (mine_owed k.mine (at n) seat.0)) pays) seat.2))

  -- the store of 3 in the status of the node whose job was run, by an owner that has run jobs of its own before: it settles them in the same step
  pub serves-settled : (relates : P → P → P → P → Type 0) → Ends rule nodes relates → Serves rule nodes relates → (slots id : ℕ) (m : SeatState P) (k : Ownership P) (ran : List (P × P)) (q x b : ℕ) (j answer mid now : P) (z : Option P) (more : List (ℕ × Option P)) (i : ℕ) (steps : List StepEntry)
      → m.0.stage ≡ Owns k → k.next ≡ Some (record { node = x; behind = b; job = j }) → m.1 ≡ (2 + 2 * x, Some answer) ∷ (1 + 2 * x, z) ∷ (0, Some now) ∷ more → i ≡ 1 + 2 * x
      → Runs relates k.value ran mid → Pays (owed k.mine) ran m.0.quota q → q ≤ m.0.quota → relates mid j answer now
      → Allows (Lawful rule nodes) slots id m i (λ _. 3) (λ _ n. n ≡ (with_steps (settled m.0 q ran (settled_notes k mid)) (Owns (served (settled_notes k mid) b now)) steps, (0, Some now) ∷ more))
  serves-settled relates ends law slots id m k ran q x b j answer mid now z more i steps mine next hand is runs pays spends run s o long me small =
      let r : Ownership P = settled_notes k mid in let v : View P = settled m.0 q ran r in
      let before : State (Option P) (View P) = record { words = s.words; homes = s.homes; views = set s.views id v } in
      let t = serves rule nodes relates law slots id (v, m.1) r x b j answer now z more i steps refl next hand is run before (settles relates ends s o id m.0 k ran mid q me mine runs pays spends) long (set_here s.views id v (there s.views id m.0 me)) small in
      (t.0, t.1, t.2, subst (λ (vs : List (View P)). Lawful rule nodes record { words = set s.words i 3; homes = homes_after s.homes m.1 t.1; views = vs }) (set-set s.views id v t.0) t.3, t.4)
