-- A pass that is to enter stores 0 in its link, where it is to post a job with its own job slot in hand, and then its status.
use Rattle.std.proofs.Common.{◌≡◌, ◌≢◌, ℕ, ◌+◌, ◌*◌, List, ◌∷◌, set, get_or, length-set, get_or-set_same, get_or-set_other, Option, true, false, refl, sym, ap, ◌∙◌, subst, arith}
use mathlib.Core.Option.{none, Option as Maybe}
use Rattle.atomic_table.specs.Table.{keeps, takes, Allows, stepped}
use Rattle.atomic_table.proofs.Lists.{set_here, set_else}
use Rattle.waiter_chain.specs.declared.view.View.{View}
use Rattle.waiter_chain.specs.declared.view.StepEntry.{StepEntry}
use Rattle.waiter_chain.specs.declared.view.Stage.{Stage}
use Rattle.waiter_chain.specs.declared.view.Stage.TheVariants.{Idle, Cleared, Ready}
use Rattle.waiter_chain.specs.Goods.{Goods}
use Rattle.waiter_chain.specs.Chains.{desk, Desk, Seated, AtRest, Lawful}
use Rattle.waiter_chain.specs.Steps.{SeatState, with_steps}
use Rattle.waiter_chain.proofs.Rules.{awake, desk-same, waits-other, done-other, held-other, live, alone, low_number, numbers_apart, covers_mine, restaged, restaged-own, parts-same}

module _ {P : Type 0} (rule : Goods P → Type 0) (nodes : ℕ) where
  -- the store of 0 in its link, by which an idle pass takes its own job slot
  pub clears : (slots id : ℕ) (m : SeatState P) (k : ℕ) (steps : List StepEntry) → m.0.stage ≡ Idle → m.0.gone ≡ false → k ≡ 2 + 2 * m.0.number
      → Allows (Lawful rule nodes) slots id m k (λ _. 0) (λ _ n. (y : Option P) × (n ≡ (with_steps m.0 (Cleared true) steps, (1 + 2 * m.0.number, y) ∷ m.1)))
  clears slots id m k steps idle live-now is s o long me _ =
      let n : ℕ = m.0.number in
      let w : View P = with_steps m.0 (Cleared true) steps in
      let words : List ℕ = set s.words (2 + 2 * n) 0 in let homes : List (Maybe (Option P)) = set s.homes (1 + 2 * n) none in
      let at : ℕ → Desk P = desk s.words s.homes o.posted o.answered in let at' : ℕ → Desk P = desk words homes o.posted o.answered in
      let low = low_number rule nodes s o id m.0 me live-now in
      let apart = alone rule nodes s o id m.0 me live-now (ap (awake n n) idle) in
      let link : get_or words (2 + 2 * n) 0 ≡ 0 = get_or-set_same s.words (2 + 2 * n) 0 0 (omega (arith, o.wide, low)) in
      let elsewhere : (i : ℕ) → i ≢ n → at' i ≡ at i = λ i ne. desk-same s.words words s.homes homes o.posted o.posted o.answered o.answered i
      (get_or-set_other s.words (2 + 2 * n) (1 + 2 * i) 0 0 (λ e. omega arith)) (get_or-set_other s.words (2 + 2 * n) (2 + 2 * i) 0 0 (λ e. ne (omega arith)))
      (set_else s.homes (1 + 2 * n) (1 + 2 * i) none (λ e. ne (omega arith))) (set_else s.homes (1 + 2 * n) (2 + 2 * i) none (λ e. omega arith)) refl refl in
      let seat : AtRest (at n) = subst (λ (g : Stage P). Seated g (at n)) idle (o.seated id m.0 me live-now) in (
        w,
        takes (1 + 2 * n) seat.0.0,
        seat.0.1,
        subst (λ (i : ℕ). Lawful rule nodes (stepped s i 0 id m.1 w (takes (1 + 2 * n) seat.0.0))) (sym is)
            (restaged rule nodes s o id m.0 w words homes o.posted o.answered o.owner o.older o.newer o.done o.value n me live-now refl refl (omega arith) (λ _. refl) (length-set s.words (2 + 2 * n) 0) (length-set s.homes (1 + 2 * n) none)
            (λ i ne. get_or-set_other s.words (2 + 2 * n) (2 + 2 * i) 0 0 (λ e. ne (omega arith))) (λ f. (f, link))
            (λ g waking. omega (arith, ap (g n) idle, (waking n).0, (waking n).2 true))
            (λ r e. absurd (cc)) (λ j u r _ there. o.owned j u r there) elsewhere
            (set_here s.homes (1 + 2 * n) none (omega (arith, o.long, low)), ((seat.1.0.0, set_else s.homes (1 + 2 * n) (2 + 2 * n) none (λ e. omega arith) ∙ seat.1.0.1), seat.1.1, seat.1.2), link)
            (λ j u ne there live-u e. absurd (numbers_apart rule nodes s o id j m.0 u ne me there live-now live-u e)) (covers_mine rule nodes s o id m.0 me live-now)
            (waits-other at at' n elsewhere o.older apart.0 o.old_waits) (waits-other at at' n elsewhere o.newer apart.1 o.new_waits) (done-other at at' n elsewhere o.done apart.2 o.finished)
            (held-other nodes s.words words s.homes homes at at' n o.older o.newer o.value o.owner elsewhere (get_or-set_other s.words (2 + 2 * n) 0 0 0 (λ e. omega arith)) (set_else s.homes (1 + 2 * n) 0 none (λ e. omega arith)) apart.3 o.held)
            (parts-same rule nodes s.views id m.0 w o.value o.posted o.answered me refl o.goods_rule)),
        (seat.0.0, refl),
      )

  -- the store of 2 in its status, with the job in its slot
  pub readies-job : (slots id : ℕ) (m : SeatState P) (k : ℕ) (steps : List StepEntry) → m.0.stage ≡ Cleared true → k ≡ 1 + 2 * m.0.number
      → Allows (Lawful rule nodes) slots id m k (λ _. 2) (λ _ n. n ≡ (with_steps m.0 (Ready true) steps, m.1))
  readies-job slots id m k steps mine is s o long me _ =
      let n : ℕ = m.0.number in
      let w : View P = with_steps m.0 (Ready true) steps in
      let words : List ℕ = set s.words (1 + 2 * n) 2 in
      let at : ℕ → Desk P = desk s.words s.homes o.posted o.answered in let at' : ℕ → Desk P = desk words s.homes o.posted o.answered in
      let live-now = live rule nodes s o id m.0 me (λ z. cleared-idle (sym mine ∙ z)) in
      let low = low_number rule nodes s o id m.0 me live-now in
      let apart = alone rule nodes s o id m.0 me live-now (ap (awake n n) mine) in
      let links : (i : ℕ) → get_or words (2 + 2 * i) 0 ≡ get_or s.words (2 + 2 * i) 0 = λ i. get_or-set_other s.words (1 + 2 * n) (2 + 2 * i) 2 0 (λ e. omega arith) in
      let elsewhere : (i : ℕ) → i ≢ n → at' i ≡ at i = λ i ne. desk-same s.words words s.homes s.homes o.posted o.posted o.answered o.answered i
      (get_or-set_other s.words (1 + 2 * n) (1 + 2 * i) 2 0 (λ e. ne (omega arith))) (links i) refl refl refl refl in
      let seat : Seated (Cleared true) (at n) = subst (λ (g : Stage P). Seated g (at n)) mine (o.seated id m.0 me live-now) in (
        w,
        keeps,
        tt,
        subst (λ (i : ℕ). Lawful rule nodes (stepped s i 2 id m.1 w keeps)) (sym is)
            (restaged-own rule nodes s o id m.0 w words s.homes o.posted o.answered o.owner o.older o.newer o.done o.value me live-now refl refl refl (omega arith) (λ _. refl) (length-set s.words (1 + 2 * n) 2) refl links
            (λ g waking. omega (arith, ap (g n) mine, (waking n).2 true, (waking n).3 true))
            (λ r e. absurd (cc)) (λ j u r _ there. o.owned j u r there) elsewhere
            (seat.0, seat.1, links n ∙ seat.2, get_or-set_same s.words (1 + 2 * n) 2 0 (omega (arith, o.wide, low)))
            (waits-other at at' n elsewhere o.older apart.0 o.old_waits) (waits-other at at' n elsewhere o.newer apart.1 o.new_waits) (done-other at at' n elsewhere o.done apart.2 o.finished)
            (held-other nodes s.words words s.homes s.homes at at' n o.older o.newer o.value o.owner elsewhere (get_or-set_other s.words (1 + 2 * n) 0 2 0 (λ e. omega arith)) refl apart.3 o.held)
            (parts-same rule nodes s.views id m.0 w o.value o.posted o.answered me refl o.goods_rule)),
        refl,
      )
    where
      cleared-idle : ◌≡◌ {A = Stage P} (Cleared true) Idle → ⊥
      cleared-idle e = cc
