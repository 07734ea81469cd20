-- An idle pass takes its own job slot by a load of its status. One that is to enter stores 0 in its link, and then how it enters in its status.
use Rattle.std.proofs.Common.{◌≡◌, ◌≢◌, ℕ, ◌+◌, ◌*◌, List, [], ◌∷◌, ◌++◌, set, get_or, length-set, get_or-set_same, get_or-set_other, Option, Bool, true, false, refl, sym, ap, ◌∙◌, subst, arith}
use mathlib.Core.Option.{none, Option as Maybe}
use Rattle.atomic_table.specs.Table.{step, keeps, takes, Allows, stepped}
use Rattle.atomic_table.proofs.Lists.{set_here, set_else}
use Rattle.waiter_chain.specs.declared.view.View.{View}
use Rattle.waiter_chain.specs.declared.view.StepEntry.{StepEntry}
use Rattle.waiter_chain.specs.declared.view.StepKind.TheVariants.{SetStatus, StoreLink}
use Rattle.waiter_chain.specs.declared.view.Stage.{Stage}
use Rattle.waiter_chain.specs.declared.view.Stage.TheVariants.{Idle, Holding, Cleared, Ready}
use Rattle.waiter_chain.specs.Goods.{Goods}
use Rattle.waiter_chain.specs.Chains.{desk, Desk, Seated, AtRest, Clear, JobAt, entering, Weight, Waking, Lawful}
use Rattle.waiter_chain.specs.Steps.{SeatState, waits_to_enter, with_steps, moved, entry, cleared, readied}
use Rattle.view_sums.specs.Sums.{set_self}
use Rattle.waiter_chain.proofs.Rules.{awake, desk-same, waits-other, done-other, held-other, live, alone, low_number, numbers_apart, covers_mine, restaged, restaged-own, parts-same}

module _ {P : Type 0} where
  holding-idle : ◌≡◌ {A = Stage P} Holding Idle → ⊥
  holding-idle e = cc

  start-seat : (b : Bool) (d : Desk P) → Seated (waits_to_enter b) d → JobAt b d × Clear d
  start-seat true d h = h
  start-seat false d h = h

  start-weight : (g : Weight P) (n : ℕ) (b : Bool) → Waking g → g n (waits_to_enter b) ≡ 0
  start-weight g n true waking = (waking n).1
  start-weight g n false waking = (waking n).0

  start-same : (b c : Bool) → ◌≡◌ {A = Stage P} (waits_to_enter b) (waits_to_enter c) → b ≡ c
  start-same true true e = refl
  start-same false false e = refl
  start-same true false e = absurd (holding-idle e)
  start-same false true e = absurd (holding-idle (sym e))

  job-at-same : (b : Bool) (d d' : Desk P) → d'.job ≡ d.job → JobAt b d → JobAt b d'
  job-at-same true d d' e h = e ∙ h
  job-at-same false d d' e h = (h.0, e ∙ h.1)

  cleared-idle : (b : Bool) → ◌≡◌ {A = Stage P} (Cleared b) Idle → ⊥
  cleared-idle b e = cc

start-awake : (P : Type 0) (n : ℕ) (b : Bool) → awake {P = P} n n (waits_to_enter b) ≡ 0
start-awake P n true = refl
start-awake P n false = refl

module _ {P : Type 0} (rule : Goods P → Type 0) (nodes : ℕ) where
  pub holds : (slots id : ℕ) (m : SeatState P) (k : ℕ) (steps : ℕ → List StepEntry) → m.0.stage ≡ Idle → m.0.gone ≡ false
      → Allows (Lawful rule nodes) slots id m k (λ x. x) (λ r n. (y : Option P) × (n ≡ (with_steps m.0 Holding (steps r), (1 + 2 * m.0.number, y) ∷ m.1)))
  holds slots id m k steps idle live-now s o long me _ =
      let n : ℕ = m.0.number in
      let w : View P = with_steps m.0 Holding (steps (get_or s.words k 0)) in
      let homes : List (Maybe (Option P)) = set s.homes (1 + 2 * n) none in
      let at : ℕ → Desk P = desk s.words s.homes o.posted o.answered in let at' : ℕ → Desk P = desk s.words homes o.posted o.answered in
      let low = low_number rule nodes s o id m.0 me live-now in
      let apart = alone rule nodes s o id m.0 me live-now (ap (awake n n) idle) in
      let elsewhere : (i : ℕ) → i ≢ n → at' i ≡ at i = λ i ne. desk-same s.words s.words s.homes homes o.posted o.posted o.answered o.answered i refl refl
      (set_else s.homes (1 + 2 * n) (1 + 2 * i) none (λ e. ne (omega arith))) (set_else s.homes (1 + 2 * n) (2 + 2 * i) none (λ e. omega arith)) refl refl in
      let seat : AtRest (at n) = subst (λ (g : Stage P). Seated g (at n)) idle (o.seated id m.0 me live-now) in (
        w,
        takes (1 + 2 * n) seat.0.0,
        seat.0.1,
        subst (λ (ws : List ℕ). Lawful rule nodes record { words = ws; homes = homes; views = set s.views id w }) (sym (set_self s.words k))
            (restaged-own rule nodes s o id m.0 w s.words homes o.posted o.answered o.owner o.older o.newer o.done o.value me live-now refl refl refl (omega arith) (λ _. refl) refl (length-set s.homes (1 + 2 * n) none) (λ _. refl)
            (λ g waking. omega (arith, ap (g n) idle, (waking n).0, (waking n).1))
            (λ r e. absurd (cc)) (λ j u r _ there. o.owned j u r there) elsewhere
            (set_here s.homes (1 + 2 * n) none (omega (arith, o.long, low)), ((seat.1.0.0, set_else s.homes (1 + 2 * n) (2 + 2 * n) none (λ e. omega arith) ∙ seat.1.0.1), seat.1.1, seat.1.2))
            (waits-other at at' n elsewhere o.older apart.0 o.old_waits) (waits-other at at' n elsewhere o.newer apart.1 o.new_waits) (done-other at at' n elsewhere o.done apart.2 o.finished)
            (held-other nodes s.words s.words s.homes homes at at' n o.older o.newer o.value o.owner elsewhere refl (set_else s.homes (1 + 2 * n) 0 none (λ e. omega arith)) apart.3 o.held)
            (parts-same rule nodes s.views id m.0 w o.value o.posted o.answered me refl o.goods_rule)),
        (seat.0.0, refl),
      )

  -- the store of 0 in its link
  pub clears-as : (b : Bool) (slots id : ℕ) (m : SeatState P) (k : ℕ) (steps : List StepEntry) → m.0.stage ≡ waits_to_enter b → m.0.gone ≡ false → k ≡ 2 + 2 * m.0.number
      → Allows (Lawful rule nodes) slots id m k (λ _. 0) (λ _ n. n ≡ (with_steps m.0 (Cleared b) steps, m.1))
  clears-as b slots id m k steps start live-now is s o long me _ =
      let n : ℕ = m.0.number in
      let w : View P = with_steps m.0 (Cleared b) steps in
      let words : List ℕ = set s.words (2 + 2 * n) 0 in
      let at : ℕ → Desk P = desk s.words s.homes o.posted o.answered in let at' : ℕ → Desk P = desk words s.homes o.posted o.answered in
      let low = low_number rule nodes s o id m.0 me live-now in
      let apart = alone rule nodes s o id m.0 me live-now (ap (awake n n) start ∙ start-awake P n b) in
      let link : get_or words (2 + 2 * n) 0 ≡ 0 = get_or-set_same s.words (2 + 2 * n) 0 0 (omega (arith, o.wide, low)) in
      let elsewhere : (i : ℕ) → i ≢ n → at' i ≡ at i = λ i ne. desk-same s.words words s.homes s.homes o.posted o.posted o.answered o.answered i
      (get_or-set_other s.words (2 + 2 * n) (1 + 2 * i) 0 0 (λ e. omega arith)) (get_or-set_other s.words (2 + 2 * n) (2 + 2 * i) 0 0 (λ e. ne (omega arith))) refl refl refl refl in
      let seat = start-seat b (at n) (subst (λ (g : Stage P). Seated g (at n)) start (o.seated id m.0 me live-now)) in (
        w,
        keeps,
        tt,
        subst (λ (i : ℕ). Lawful rule nodes (stepped s i 0 id m.1 w keeps)) (sym is)
            (restaged rule nodes s o id m.0 w words s.homes o.posted o.answered o.owner o.older o.newer o.done o.value n me live-now refl refl (omega arith) (λ _. refl) (length-set s.words (2 + 2 * n) 0) refl
            (λ i ne. get_or-set_other s.words (2 + 2 * n) (2 + 2 * i) 0 0 (λ e. ne (omega arith))) (λ f. (f, link))
            (λ g waking. omega (arith, ap (g n) start, start-weight g n b waking, (waking n).2 b))
            (λ r e. absurd (cc)) (λ j u r _ there. o.owned j u r there) elsewhere
            (job-at-same b (at n) (at' n) refl seat.0, seat.1, link)
            (λ j u ne there live-u e. absurd (numbers_apart rule nodes s o id j m.0 u ne me there live-now live-u e)) (covers_mine rule nodes s o id m.0 me live-now)
            (waits-other at at' n elsewhere o.older apart.0 o.old_waits) (waits-other at at' n elsewhere o.newer apart.1 o.new_waits) (done-other at at' n elsewhere o.done apart.2 o.finished)
            (held-other nodes s.words words s.homes s.homes at at' n o.older o.newer o.value o.owner elsewhere (get_or-set_other s.words (2 + 2 * n) 0 0 0 (λ e. omega arith)) refl apart.3 o.held)
            (parts-same rule nodes s.views id m.0 w o.value o.posted o.answered me refl o.goods_rule)),
        refl,
      )

  -- the store of 1 or 2 in its status
  pub readies-as : (b : Bool) (slots id : ℕ) (m : SeatState P) (k new : ℕ) (steps : List StepEntry) → m.0.stage ≡ Cleared b → k ≡ 1 + 2 * m.0.number → new ≡ entering b
      → Allows (Lawful rule nodes) slots id m k (λ _. new) (λ _ n. n ≡ (with_steps m.0 (Ready b) steps, m.1))
  readies-as b slots id m k new steps mine is what s o long me _ =
      let n : ℕ = m.0.number in
      let w : View P = with_steps m.0 (Ready b) steps in
      let words : List ℕ = set s.words (1 + 2 * n) new in
      let at : ℕ → Desk P = desk s.words s.homes o.posted o.answered in let at' : ℕ → Desk P = desk words s.homes o.posted o.answered in
      let live-now = live rule nodes s o id m.0 me (λ z. cleared-idle b (sym mine ∙ z)) in
      let low = low_number rule nodes s o id m.0 me live-now in
      let apart = alone rule nodes s o id m.0 me live-now (ap (awake n n) mine) in
      let links : (i : ℕ) → get_or words (2 + 2 * i) 0 ≡ get_or s.words (2 + 2 * i) 0 = λ i. get_or-set_other s.words (1 + 2 * n) (2 + 2 * i) new 0 (λ e. omega arith) in
      let elsewhere : (i : ℕ) → i ≢ n → at' i ≡ at i = λ i ne. desk-same s.words words s.homes s.homes o.posted o.posted o.answered o.answered i
      (get_or-set_other s.words (1 + 2 * n) (1 + 2 * i) new 0 (λ e. ne (omega arith))) (links i) refl refl refl refl in
      let seat : Seated (Cleared b) (at n) = subst (λ (g : Stage P). Seated g (at n)) mine (o.seated id m.0 me live-now) in (
        w,
        keeps,
        tt,
        subst (λ (i : ℕ). Lawful rule nodes (stepped s i new id m.1 w keeps)) (sym is)
            (restaged-own rule nodes s o id m.0 w words s.homes o.posted o.answered o.owner o.older o.newer o.done o.value me live-now refl refl refl (omega arith) (λ _. refl) (length-set s.words (1 + 2 * n) new) refl links
            (λ g waking. omega (arith, ap (g n) mine, (waking n).2 b, (waking n).3 b))
            (λ r e. absurd (cc)) (λ j u r _ there. o.owned j u r there) elsewhere
            (job-at-same b (at n) (at' n) refl seat.0, seat.1, links n ∙ seat.2, get_or-set_same s.words (1 + 2 * n) new 0 (omega (arith, o.wide, low)) ∙ what)
            (waits-other at at' n elsewhere o.older apart.0 o.old_waits) (waits-other at at' n elsewhere o.newer apart.1 o.new_waits) (done-other at at' n elsewhere o.done apart.2 o.finished)
            (held-other nodes s.words words s.homes s.homes at at' n o.older o.newer o.value o.owner elsewhere (get_or-set_other s.words (1 + 2 * n) 0 new 0 (λ e. omega arith)) refl apart.3 o.held)
            (parts-same rule nodes s.views id m.0 w o.value o.posted o.answered me refl o.goods_rule)),
        refl,
      )

  -- the two stores, as the calls make them
  pub clears-now : (b : Bool) (slots id : ℕ) (m : SeatState P) (k : ℕ) → m.0.stage ≡ waits_to_enter b → m.0.gone ≡ false → k ≡ 2 + 2 * m.0.number → Allows (Lawful rule nodes) slots id m k (λ _. 0) (λ _. cleared (step slots k 0 0 none) m 0)
  clears-now b slots id m k start live-now is s o long me small =
      let t = clears-as b slots id m k (m.0.steps ++ entry m.0 StoreLink k 0 ∷ []) start live-now is s o long me small in
      (t.0, t.1, t.2, t.3, λ c z. t.4 ∙ ap (λ (x : Bool). (moved m.0 (Cleared x) (entry m.0 StoreLink k 0), m.1)) (start-same b c (sym start ∙ z)))

  pub readies-now : (b : Bool) (slots id : ℕ) (m : SeatState P) (k new : ℕ) → m.0.stage ≡ Cleared b → k ≡ 1 + 2 * m.0.number → new ≡ entering b → Allows (Lawful rule nodes) slots id m k (λ _. new) (λ _. readied (step slots k new 0 none) m new)
  readies-now b slots id m k new mine is what s o long me small =
      let t = readies-as b slots id m k new (m.0.steps ++ entry m.0 SetStatus k new ∷ []) mine is what s o long me small in
      (t.0, t.1, t.2, t.3, λ c z. t.4 ∙ ap (λ (x : Bool). (moved m.0 (Ready x) (entry m.0 SetStatus k new), m.1)) (same-cleared b c (sym mine ∙ z)))
    where
      same-cleared : (b c : Bool) → ◌≡◌ {A = Stage P} (Cleared b) (Cleared c) → b ≡ c
      same-cleared b c e = cc
