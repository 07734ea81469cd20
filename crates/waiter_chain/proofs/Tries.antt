-- The step that takes a free lock, and the one that finds it taken.
use Rattle.std.proofs.Common.{◌≡◌, ℕ, ◌+◌, ◌*◌, List, [], ◌∷◌, ◌++◌, set, get_or, eqb, length-set, get_or-set_same, get_or-set_other, Option, Some, false, true≢false, refl, sym, ap, ◌∙◌, subst, inl, arith}
use mathlib.Core.Option.{none, Option as Maybe}
use prog.Atomic.{either}
use Rattle.atomic_table.specs.Table.{step, keeps, takes, Allows}
use Rattle.atomic_table.proofs.Lists.{exchanged, set_here}
use Rattle.waiter_chain.specs.declared.view.View.{View}
use Rattle.waiter_chain.specs.declared.view.Stage.{Stage}
use Rattle.waiter_chain.specs.declared.view.Stage.TheVariants.{Idle, Owns}
use Rattle.waiter_chain.specs.declared.view.StepKind.TheVariants.{TryIn}
use Rattle.waiter_chain.specs.Goods.{Goods}
use Rattle.waiter_chain.specs.Chains.{desk, Desk, Seated, line_weight, owner_weight, turn, Lawful}
use Rattle.waiter_chain.specs.Steps.{SeatState, ownership, entry, moved, tried}
use Rattle.waiter_chain.specs.Calls.{IsIdle}
use Rattle.waiter_chain.proofs.Rules.{awake, was_free, owns-injective, turn-nobody, desk-central, done-other, alone, sound, Goes, restaged-own, parts-same, unmoved}

module _ {P : Type 0} (rule : Goods P → Type 0) (nodes : ℕ) where
  pub tries : (known : Goods P → Type 0) → ((g : Goods P) → rule g → known g) → (slots id : ℕ) (m : SeatState P) → IsIdle m → m.0.gone ≡ false → Allows (Lawful rule nodes) slots id m 0 (λ n. either (eqb n 0) 1 n) (tried known (step slots 0 0 1 none) m)
  tries known tells slots id m idle live-now s o long me _ =
      exchanged (get_or s.words 0 0) 0 1 (Goes rule nodes s 0 id m (tried known (step slots 0 0 1 none) m))
      (λ free.
      let at : ℕ → Desk P = desk s.words s.homes o.posted o.answered in
      let t = was_free nodes s.words s.homes at o.older o.newer o.value o.owner free o.held in let y : P = o.value in
      let n : ℕ = m.0.number in
      let w : View P = moved m.0 (Owns (ownership 1 1 1 false y)) (entry m.0 TryIn 0 (get_or s.words 0 0)) in
      let words : List ℕ = set s.words 0 1 in let homes : List (Maybe (Option P)) = set s.homes 0 none in
      let at' : ℕ → Desk P = desk words homes o.posted o.answered in
      let same : (i : ℕ) → at' i ≡ at i = λ i. desk-central s.words 1 s.homes none o.posted o.answered i in
      let seat : Seated Idle (at' n) = subst (Seated Idle) (sym (same n)) (subst (λ (g : Stage P). Seated g (at n)) idle.0 (o.seated id m.0 me live-now)) in
      let apart = alone rule nodes s o id m.0 me live-now (ap (awake n n) idle.0) in (
        w,
        takes 0 (Some y),
        t.2,
        restaged-own rule nodes s o id m.0 w words homes o.posted o.answered (turn n (ownership 1 1 1 false y)) [] [] o.done y me live-now refl refl refl (omega arith) (λ i. refl) (length-set s.words 0 1) (length-set s.homes 0 none)
            (λ i. get_or-set_other s.words 0 (2 + 2 * i) 1 0 (λ e. omega arith))
            (λ g waking. omega (arith, ap (g n) idle.0, (waking n).0, ap (line_weight g) t.0, ap (line_weight g) t.1, ap (owner_weight g) t.3))
            (λ k e. ap (turn n) (owns-injective _ _ e)) (λ j u k _ there e. absurd (turn-nobody _ _ (sym (o.owned j u k there e) ∙ t.3)))
            (λ i _. same i) ((seat.0, seat.1.1), seat.1.0, seat.1.2)
            tt tt (done-other at at' n (λ i _. same i) o.done apart.2 o.finished) (
              record {
                old_line = refl;
                new_line = get_or-set_same s.words 0 1 0 (omega (arith, o.wide));
                marked = omega arith;
                low_end = omega arith;
                low_mark = omega arith;
                past_end = refl;
                past_mark = refl;
                taken = λ l. refl;
              },
              inl refl,
              (λ e. absurd (true≢false (sym e))),
              set_here s.homes 0 none (omega (arith, o.long)),
              refl,
              tt,
              tt,
            )
            (parts-same rule nodes s.views id m.0 w y o.posted o.answered me refl o.goods_rule),
        ((λ _. (y, refl, sound rule nodes known tells s o id m.0 me)), λ ne. absurd (ne free)),
      ))
      (λ held. (moved m.0 m.0.stage (entry m.0 TryIn 0 (get_or s.words 0 0)), keeps, tt, unmoved rule nodes s o id m 0 (m.0.steps ++ entry m.0 TryIn 0 (get_or s.words 0 0) ∷ []) me live-now, ((λ free. absurd (held free)), λ _. refl)))
