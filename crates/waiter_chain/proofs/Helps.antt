-- The steps of an owner that serves the next node, and of a node that was served, as the calls make them.
use Rattle.std.proofs.Common.{◌≡◌, ◌≢◌, ℕ, ◌+◌, ◌-◌, ◌*◌, ◌≤◌, List, [], ◌∷◌, ◌++◌, Option, Some, None, true, false, sym, ap, ◌∙◌, subst, arith}
use mathlib.Core.Option.{none}
use Rattle.atomic_table.specs.Table.{step, rest, Allows}
use Rattle.waiter_chain.specs.declared.view.Next.{Next}
use Rattle.waiter_chain.specs.declared.view.Ownership.{Ownership}
use Rattle.waiter_chain.specs.declared.view.Stage.TheVariants.{Idle, Owns, Done}
use Rattle.waiter_chain.specs.declared.view.StepKind.TheVariants.{SetStatus, LoadStatus, LoadKind, LoadLink, Serve}
use Rattle.waiter_chain.specs.Goods.{Goods, Runs, Counts, Ends, Serves, Collects}
use Rattle.waiter_chain.specs.Chains.{owed, front, Queued, Lawful}
use Rattle.waiter_chain.specs.Steps.{SeatState, entry, kind_seen, link_seen, job_done, rested, holding}
use Rattle.waiter_chain.proofs.Rules.{low_node}
use Rattle.waiter_chain.proofs.Polls.{ranged}
use Rattle.waiter_chain.proofs.Frees.{held_by}
use Rattle.waiter_chain.proofs.Takes.{sees}
use Rattle.waiter_chain.proofs.Serves.{takes-job}
use Rattle.waiter_chain.proofs.Settles.{serves-settled}
use Rattle.waiter_chain.proofs.Endings.{pays_for}
use Rattle.waiter_chain.proofs.Collects.{rests}
use Rattle.waiter_chain.proofs.Entering.{holds}

module _ {P : Type 0} (rule : Goods P → Type 0) (nodes : ℕ) where
  pub holds-slot : (slots id : ℕ) (m : SeatState P) (k : ℕ) → m.0.stage ≡ Idle → m.0.gone ≡ false → Allows (Lawful rule nodes) slots id m k (λ x. x) (holding (step slots k 0 0 none) m)
  holds-slot slots id m k idle live-now = holds rule nodes slots id m k (λ r. m.0.steps ++ entry m.0 LoadStatus k r ∷ []) idle live-now

  pub sees-kind : (slots id : ℕ) (m : SeatState P) (k : Ownership P) (i : ℕ) → m.0.stage ≡ Owns k → k.next ≡ None → k.first ≢ k.end → i ≡ 1 + 2 * (k.first - 2) → Allows (Lawful rule nodes) slots id m i (λ x. x) (kind_seen (step slots i 0 0 none) m)
  sees-kind slots id m k i mine no-next some-left is s o long me small =
      let t = sees rule nodes slots id m k i (λ r. m.0.steps ++ entry m.0 LoadKind i r ∷ []) mine no-next some-left is s o long me small in (t.0, t.1, t.2, t.3, (k, mine, t.4.0, t.4.1))

  pub sees-link : (known : Goods P → Type 0) → ((g : Goods P) → rule g → known g) → (slots id : ℕ) (m : SeatState P) (k : Ownership P) (i : ℕ) → m.0.stage ≡ Owns k → k.next ≡ None → k.job_waits ≡ true → k.first ≢ k.end → i ≡ 2 + 2 * (k.first - 2)
      → Allows (Lawful rule nodes) slots id m i (λ x. x) (link_seen known (step slots i 0 0 none) m)
  sees-link known tells slots id m k i mine no-next seen some-left is s o long me small =
      let t = takes-job rule nodes known tells slots id m k i (λ r. m.0.steps ++ entry m.0 LoadLink i r ∷ []) mine no-next seen some-left is s o long me small in (t.0, t.1, t.2, t.3, (k, mine, t.4.0, t.4.1))

  pub does-job : (relates : P → P → P → P → Type 0) → Ends rule nodes relates → Serves rule nodes relates → (slots id : ℕ) (m : SeatState P) (k : Ownership P) (x : Next P) (count : ℕ) (ran : List (P × P)) (answer mid now : P) (z : Option P) (more : List (ℕ × Option P)) (i : ℕ)
      → m.0.stage ≡ Owns k → k.next ≡ Some x → m.1 ≡ (2 + 2 * x.node, Some answer) ∷ (1 + 2 * x.node, z) ∷ (0, Some now) ∷ more → i ≡ 1 + 2 * x.node
      → Runs relates k.value ran mid → count ≤ m.0.quota → Counts (owed k.mine) ran count → relates mid x.job answer now
      → Allows (Lawful rule nodes) slots id m i (λ _. 3) (λ _. job_done count ran (step slots i 3 0 none) m 3)
  does-job relates ends law slots id m k x count ran answer mid now z more i mine next hand is runs enough counts run s o long me small =
      let q : ℕ = m.0.quota - count in
      let t = serves-settled rule nodes relates ends law slots id m k ran q x.node x.behind x.job answer mid now z more i (m.0.steps ++ entry m.0 Serve i 3 ∷ []) mine next hand is runs (pays_for (owed k.mine) ran m.0.quota count counts enough) (omega arith) run s o long me small in
      let h = held_by rule nodes s o id m.0 k me mine in
      let lines : Queued nodes s.words ((x.node, x.behind, Some x.job) ∷ o.older) o.newer k.first k.end k.mark = subst (λ (y : Option (Next P)). Queued nodes s.words (front y o.older) o.newer k.first k.end k.mark) next h.0 in
      (t.0, t.1, t.2, t.3, (k, x, now, more, mine, next, ap (λ (c : List (ℕ × Option P)). rest (rest c)) hand, ranged nodes slots x.behind k.end o.older (sym long ∙ o.long) (λ l d. low_node rule nodes s o l (omega arith)) lines.old_line.1 lines.low_end, t.4))

  pub rests-now : Collects rule nodes → (slots id : ℕ) (m : SeatState P) (j a : P) (y : Option P) (k : ℕ) → m.0.stage ≡ Done j a → m.1 ≡ (2 + 2 * m.0.number, y) ∷ [] → k ≡ 1 + 2 * m.0.number → Allows (Lawful rule nodes) slots id m k (λ _. 0) (λ _. rested (step slots k 0 0 none) m 0)
  rests-now law slots id m j a y k mine hand is s o long me small =
      let t = rests rule nodes law slots id m j a y k (m.0.steps ++ entry m.0 SetStatus k 0 ∷ []) mine hand is s o long me small in (t.0, t.1, t.2, t.3, (j, a, mine, t.4))
