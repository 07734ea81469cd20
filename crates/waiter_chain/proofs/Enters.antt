-- The two steps by which a pass enters: its status, and its swap into the central word.
use Rattle.std.proofs.Common.{◌≡◌, ◌≢◌, ℕ, ◌+◌, ◌*◌, ◌<◌, List, [], ◌∷◌, length, set, get_or, length-set, get_or-set_same, get_or-set_other, Option, Some, None, false, true≢false, refl, sym, ap, ◌∙◌, subst, inl, inr, ⊎_elim, arith}
use mathlib.Core.Option.{none, Option as Maybe}
use mathlib.Core.Logic.{dite}
use native.Mathlib.Decide.{ℕ_discrete}
use lib.ListN.{get_elem?}
use Rattle.atomic_table.specs.Table.{step, keeps, takes, Allows}
use Rattle.atomic_table.proofs.Lists.{set_here}
use Rattle.waiter_chain.specs.declared.view.View.{View}
use Rattle.waiter_chain.specs.declared.view.Stage.{Stage}
use Rattle.waiter_chain.specs.declared.view.Stage.TheVariants.{Idle, Ready, Behind, Owns}
use Rattle.waiter_chain.specs.declared.view.StepKind.TheVariants.{SwapIn}
use Rattle.waiter_chain.specs.Goods.{Goods}
use Rattle.waiter_chain.specs.Chains.{Waiter, Line, desk, Desk, Seated, Granted, front, line_weight, Owner, owner_weight, nobody, turn, granted, Queued, Held, Lawful}
use Rattle.waiter_chain.specs.Steps.{SeatState, ownership, entry, moved, swapped}
use Rattle.view_sums.specs.Sums.{same-ne, same-eq}
use Rattle.waiter_chain.proofs.Rules.{was_free, owns-injective, turn-nobody, awake, desk-same, desk-central, waits-other, done-other, taken-other, live, alone, low_number, sound, Goes, restaged-own, parts-same}

-- a node joins the newer line
queued-push : {P : Type 0} (nodes : ℕ) (words words' : List ℕ) (x : Waiter P) (older newer : List (Waiter P)) (f e m : ℕ) → get_or words' 0 0 ≡ x.0 + 2 → x.1 ≡ get_or words 0 0 → m ≢ x.0 + 2 → Queued nodes words older newer f e m → Queued nodes words' older (x ∷ newer) f e m
queued-push nodes words words' x older newer f e m c b ne q = record {
  old_line = q.old_line;
  new_line = (c, subst (λ (y : ℕ). Line y newer m) (sym b) q.new_line);
  marked = q.marked;
  low_end = q.low_end;
  low_mark = q.low_mark;
  past_end = q.past_end;
  past_mark = omega (arith, same-ne (x.0 + 2) m (λ z. ne (sym z)), q.past_mark);
  taken = q.taken;
}

module _ {P : Type 0} where
  pub held-push : (nodes : ℕ) (words words' : List ℕ) (x : Waiter P) (homes homes' : List (Maybe (Option P))) (at at' : ℕ → Desk P) (older newer : List (Waiter P)) (value : P) (o : Owner P)
      → ((i : ℕ) → i ≢ x.0 → at' i ≡ at i) → get_or words' 0 0 ≡ x.0 + 2 → x.1 ≡ get_or words 0 0 → get_elem? homes' 0 ≡ get_elem? homes 0 → get_or words 0 0 ≢ 0 → owner_weight (awake x.0) o ≡ 0
      → Held nodes words homes at older newer value o → Held nodes words' homes' at' older (x ∷ newer) value o
  held-push nodes words words' x homes homes' at at' older newer value nobody elsewhere c b z held own h = absurd (held h.0)
  held-push nodes words words' x homes homes' at at' older newer value (turn k r) elsewhere c b z held own h =
      (queued-push nodes words words' x (front r.next older) newer r.first r.end r.mark c b (⊎_elim (λ y. λ w. omega arith) (λ y. λ w. omega (arith, same-eq k x.0 (omega arith))) h.1) h.0, h.1, (λ _. omega arith), z ∙ h.3, h.4, taken-other at at' x.0 elsewhere r.next (omega arith) h.5, h.6)
  held-push nodes words words' x homes homes' at at' older newer value (granted k d j e) elsewhere c b z held own h =
      (queued-push nodes words words' x older newer d e 1 c b (λ y. omega arith) h.0, subst (Granted j e) (sym (elsewhere k (λ y. omega (arith, same-eq k x.0 y)))) h.1, z ∙ h.2)

  ready-idle : ◌≡◌ {A = Stage P} (Ready false) Idle → ⊥
  ready-idle e = cc

module _ {P : Type 0} (rule : Goods P → Type 0) (nodes : ℕ) where
  pub swaps : (known : Goods P → Type 0) → ((g : Goods P) → rule g → known g) → (slots id : ℕ) (m : SeatState P) (new : ℕ) → m.0.stage ≡ Ready false → new ≡ m.0.number + 2 → Allows (Lawful rule nodes) slots id m 0 (λ _. new) (swapped known (step slots 0 new 0 none) m)
  swaps known tells slots id m new mine is s o long me _ =
      let n : ℕ = m.0.number in let found : ℕ = get_or s.words 0 0 in
      let live-now = live rule nodes s o id m.0 me (λ z. ready-idle (sym mine ∙ z)) in
      let low = low_number rule nodes s o id m.0 me live-now in
      let apart = alone rule nodes s o id m.0 me live-now (ap (awake n n) mine) in
      let wide : 0 < length s.words = omega (arith, o.wide) in
      let words : List ℕ = set s.words 0 (n + 2) in
      let at : ℕ → Desk P = desk s.words s.homes o.posted o.answered in
      let seat : Seated (Ready false) (at n) = subst (λ (g : Stage P). Seated g (at n)) mine (o.seated id m.0 me live-now) in
      let links : (i : ℕ) → get_or words (2 + 2 * i) 0 ≡ get_or s.words (2 + 2 * i) 0 = λ i. get_or-set_other s.words 0 (2 + 2 * i) (n + 2) 0 (λ e. omega arith) in
      subst (λ (x : ℕ). Goes rule nodes s 0 id m (swapped known (step slots 0 x 0 none) m) x) (sym is)
      (dite (ℕ_discrete (get_or s.words 0 0) 0)
      (λ free. let t = was_free nodes s.words s.homes at o.older o.newer o.value o.owner free o.held in
      let w : View P = moved m.0 (Owns (ownership (n + 2) (n + 2) (n + 2) false o.value)) (entry m.0 SwapIn 0 found) in
      let homes : List (Maybe (Option P)) = set s.homes 0 none in
      let at' : ℕ → Desk P = desk words homes o.posted o.answered in
      let same : (i : ℕ) → at' i ≡ at i = λ i. desk-central s.words (n + 2) s.homes none o.posted o.answered i in
      let now : Seated (Ready false) (at' n) = subst (Seated (Ready false)) (sym (same n)) seat in (
        w,
        takes 0 (Some o.value),
        t.2,
        restaged-own rule nodes s o id m.0 w words homes o.posted o.answered (turn n (ownership (n + 2) (n + 2) (n + 2) false o.value)) [] [] o.done o.value me live-now refl refl refl (omega arith) (λ _. refl) (length-set s.words 0 (n + 2)) (length-set s.homes 0 none) links
            (λ g waking. omega (arith, ap (g n) mine, (waking n).3 false, ap (line_weight g) t.0, ap (line_weight g) t.1, ap (owner_weight g) t.3))
            (λ k e. ap (turn n) (owns-injective _ _ e)) (λ j u k _ there e. absurd (turn-nobody _ _ (sym (o.owned j u k there e) ∙ t.3)))
            (λ i _. same i) ((now.0, now.1.1), now.1.0, now.1.2)
            tt tt (done-other at at' n (λ i _. same i) o.done apart.2 o.finished) (
              record {
                old_line = refl;
                new_line = get_or-set_same s.words 0 (n + 2) 0 wide;
                marked = omega arith;
                low_end = omega arith;
                low_mark = omega arith;
                past_end = refl;
                past_mark = refl;
                taken = λ l. absurd (omega arith);
              },
              inr refl,
              (λ e. absurd (true≢false (sym e))),
              set_here s.homes 0 none (omega (arith, o.long)),
              refl,
              tt,
              tt,
            )
            (parts-same rule nodes s.views id m.0 w o.value o.posted o.answered me refl o.goods_rule),
        ((λ _. (o.value, refl, sound rule nodes known tells s o id m.0 me)), λ ne. absurd (ne free)),
      ))
      (λ held. let w : View P = moved m.0 (Behind found None) (entry m.0 SwapIn 0 found) in
      let at' : ℕ → Desk P = desk words s.homes o.posted o.answered in
      let same : (i : ℕ) → at' i ≡ at i = λ i. desk-same s.words words s.homes s.homes o.posted o.posted o.answered o.answered i (get_or-set_other s.words 0 (1 + 2 * i) (n + 2) 0 (λ e. omega arith)) (links i) refl refl refl refl in
      let now : Seated (Ready false) (at' n) = subst (Seated (Ready false)) (sym (same n)) seat in (
        w,
        keeps,
        tt,
        restaged-own rule nodes s o id m.0 w words s.homes o.posted o.answered o.owner o.older ((n, found, None) ∷ o.newer) o.done o.value me live-now refl refl refl (omega arith) (λ _. refl) (length-set s.words 0 (n + 2)) refl links
            (λ g waking. omega (arith, ap (g n) mine, (waking n).3 false))
            (λ k e. absurd (cc)) (λ j u k _ there e. o.owned j u k there e)
            (λ i _. same i) tt
            (waits-other at at' n (λ i _. same i) o.older apart.0 o.old_waits)
            ((inl now.2, now.3, now.1.0, now.1.2, (now.0, now.1.1)), waits-other at at' n (λ i _. same i) o.newer apart.1 o.new_waits)
            (done-other at at' n (λ i _. same i) o.done apart.2 o.finished)
            (held-push nodes s.words words (n, found, None) s.homes s.homes at at' o.older o.newer o.value o.owner (λ i _. same i) (get_or-set_same s.words 0 (n + 2) 0 wide) refl refl held apart.3 o.held)
            (parts-same rule nodes s.views id m.0 w o.value o.posted o.answered me refl o.goods_rule),
        ((λ free. absurd (held free)), λ _. refl),
      )))
