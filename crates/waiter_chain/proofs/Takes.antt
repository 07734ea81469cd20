-- An owner notes that the next node waits with a job; and a node that posted a job and was granted takes it back.
use Rattle.std.proofs.Common.{◌≡◌, ◌≢◌, ℕ, ◌+◌, ◌-◌, ◌*◌, List, set, get_or, length-set, Option, Some, None, true, true≢false, refl, sym, ap, ◌∙◌, subst, inl, ⊎_elim, arith}
use mathlib.Core.Option.{some, none, some-injective, some-ne-none, Option as Maybe}
use lib.ListN.{get_elem?}
use Rattle.atomic_table.specs.Table.{State, keeps, takes, chain, Valid, Allows, stepped}
use Rattle.atomic_table.proofs.Lists.{set_here, set_else}
use Rattle.waiter_chain.specs.declared.view.View.{View}
use Rattle.waiter_chain.specs.declared.view.Next.{Next}
use Rattle.waiter_chain.specs.declared.view.Ownership.{Ownership}
use Rattle.waiter_chain.specs.declared.view.StepEntry.{StepEntry}
use Rattle.waiter_chain.specs.declared.view.Stage.{Stage}
use Rattle.waiter_chain.specs.declared.view.Stage.TheVariants.{Idle, Behind, Owns}
use Rattle.waiter_chain.specs.Goods.{Goods}
use Rattle.waiter_chain.specs.Chains.{Waiter, desk, Desk, Seated, Noted, kind, Waits, AllWait, HasSeen, front, turn, granted, owner_weight, Queued, Held, Lawful}
use Rattle.waiter_chain.specs.Steps.{SeatState, with_steps, seen_job, ownership_back}
use Rattle.view_sums.specs.Sums.{same, same-refl, set_self}
use Rattle.waiter_chain.proofs.Rules.{awake, owns-injective, desk-same, waits-other, done-other, live, once, low_number, one_owner, unmoved, restaged-own, parts-same}
use Rattle.waiter_chain.proofs.Frees.{held_by, live-owner, owner_seat}
use Rattle.waiter_chain.proofs.Grants.{line_cut}

job_cases : {P A : Type 0} (y : Option P) → ((j : P) → y ≡ Some j → A) → (y ≡ None → A) → A
job_cases None f g = g refl
job_cases (Some j) f g = f j refl

module _ {P : Type 0} (rule : Goods P → Type 0) (nodes : ℕ) where
  -- a load of the next node's status
  pub sees : (slots id : ℕ) (m : SeatState P) (k : Ownership P) (i : ℕ) (steps : ℕ → List StepEntry) → m.0.stage ≡ Owns k → k.next ≡ None → k.first ≢ k.end → i ≡ 1 + 2 * (k.first - 2)
      → Allows (Lawful rule nodes) slots id m i (λ x. x) (λ r n. (r ≡ 1 → n ≡ (with_steps m.0 m.0.stage (steps r), m.1)) × (r ≢ 1 → (r ≡ 2) × (n ≡ (with_steps m.0 (Owns (seen_job k)) (steps r), m.1))))
  sees slots id m k i steps mine no-next some-left is s o long me _ =
      let x : ℕ = k.first - 2 in let r : ℕ = get_or s.words i 0 in let n : ℕ = m.0.number in
      let at : ℕ → Desk P = desk s.words s.homes o.posted o.answered in
      let h = held_by rule nodes s o id m.0 k me mine in let live-now = live-owner rule nodes s o id m.0 k me mine in
      let q : Queued nodes s.words o.older o.newer k.first k.end k.mark = subst (λ (y : Option (Next P)). Queued nodes s.words (front y o.older) o.newer k.first k.end k.mark) no-next h.0 in
      let cut = line_cut k.first k.end o.older q.old_line some-left in let ys : List (Waiter P) = cut.1 in
      let node : cut.0.0 ≡ x = omega (arith, cut.3) in
      let waits : Waits cut.0.1 cut.0.2 (at cut.0.0) × AllWait at ys = subst (AllWait at) cut.2 o.old_waits in
      let read : r ≡ kind cut.0.2 = ap (λ (y : ℕ). get_or s.words y 0) is ∙ ap (λ (y : ℕ). (at y).status) (sym node) ∙ waits.0.1 in
      let w : View P = with_steps m.0 (Owns (seen_job k)) (steps r) in
      job_cases cut.0.2
      (λ posted-job job. let two : r ≡ 2 = read ∙ ap (λ (y : Option P). kind y) job in (
        w,
        keeps,
        tt,
        subst (λ (ws : List ℕ). Lawful rule nodes record { words = ws; homes = s.homes; views = set s.views id w }) (sym (set_self s.words i))
            (restaged-own rule nodes s o id m.0 w s.words s.homes o.posted o.answered (turn n (seen_job k)) o.older o.newer o.done o.value me live-now refl refl refl (omega arith) (λ _. refl) refl refl (λ _. refl)
            (λ g waking. omega (arith, ap (g n) mine, ap (owner_weight g) (o.owned id m.0 k me mine)))
            (λ j z. ap (turn n) (owns-injective _ _ z)) (λ j u l ne there z. absurd (one_owner rule nodes s o id j m.0 u k l ne me there mine z))
            (λ _ _. refl) (owner_seat rule nodes s o id m.0 k me mine) o.old_waits o.new_waits o.finished
            (h.0, h.1, h.2, h.3, h.4, h.5, subst (HasSeen true) (sym cut.2) (posted-job, job))
            (parts-same rule nodes s.views id m.0 w o.value o.posted o.answered me refl o.goods_rule)),
        ((λ one. absurd (omega (arith, two, one))), λ _. (two, refl)),
      ))
      (λ plain. let one : r ≡ 1 = read ∙ ap (λ (y : Option P). kind y) plain in (with_steps m.0 m.0.stage (steps r), keeps, tt, unmoved rule nodes s o id m i (steps r) me live-now, ((λ _. refl), λ ne. absurd (ne one))))

  -- a load of its own status by a node that waits with a job, and was granted
  pub takes-back : (s : State (Option P) (View P)) (o : Lawful rule nodes s) (id : ℕ) (m : SeatState P) (b e k : ℕ) (i j : P) (steps : List StepEntry) → get_elem? s.views id ≡ some m.0 → m.0.stage ≡ Behind b (Some i) → o.owner ≡ granted m.0.number b (Some j) e
      → (j ≡ i) × Valid s.homes m.1 (chain (takes (1 + 2 * m.0.number) (Some i)) (takes 0 (Some o.value)))
      × Lawful rule nodes (stepped s k (get_or s.words k 0) id m.1 (with_steps m.0 (Owns (ownership_back b e i o.value)) steps) (chain (takes (1 + 2 * m.0.number) (Some i)) (takes 0 (Some o.value))))
      × (o.posted m.0.number ≡ some i)
  takes-back s o id m b e k i j steps me mine was =
      let n : ℕ = m.0.number in let y : P = o.value in
      let at : ℕ → Desk P = desk s.words s.homes o.posted o.answered in
      let live-now = live rule nodes s o id m.0 me (λ z. behind-idle i (sym mine ∙ z)) in
      let low = low_number rule nodes s o id m.0 me live-now in
      let h : Held nodes s.words s.homes at o.older o.newer y (granted n b (Some j) e) = subst (λ x. Held nodes s.words s.homes at o.older o.newer y x) was o.held in
      let here = h.1 in
      let note : Noted (Some i) (at n) = subst (λ (g : Stage P). Seated g (at n)) mine (o.seated id m.0 me live-now) in
      let own : j ≡ i = ⊎_elim (λ (z : (at n).posted ≡ some i). some-injective j i (sym here.3.1 ∙ z)) (λ (z : (a : P) × ((at n).answered ≡ some (i, a))). absurd (some-ne-none (i, z.0) (sym z.1 ∙ here.2))) note in
      let r : Ownership P = ownership_back b e i y in
      let w : View P = with_steps m.0 (Owns r) steps in
      let homes₁ : List (Maybe (Option P)) = set s.homes (1 + 2 * n) none in
      let homes : List (Maybe (Option P)) = set homes₁ 0 none in
      let at' : ℕ → Desk P = desk s.words homes o.posted o.answered in
      let counted = once rule nodes s o n in let one = same-refl n in
      let ours : owner_weight {P = P} (awake n) o.owner ≡ same n n = ap (owner_weight {P = P} (awake n)) was in
      let elsewhere : (i : ℕ) → i ≢ n → at' i ≡ at i = λ i ne. desk-same s.words s.words s.homes homes o.posted o.posted o.answered o.answered i refl refl
      (set_else homes₁ 0 (1 + 2 * i) none (λ z. omega arith) ∙ set_else s.homes (1 + 2 * n) (1 + 2 * i) none (λ z. ne (omega arith)))
      (set_else homes₁ 0 (2 + 2 * i) none (λ z. omega arith) ∙ set_else s.homes (1 + 2 * n) (2 + 2 * i) none (λ z. omega arith)) refl refl in
      let answer : get_elem? homes (2 + 2 * n) ≡ get_elem? s.homes (2 + 2 * n) = set_else homes₁ 0 (2 + 2 * n) none (λ z. omega arith) ∙ set_else s.homes (1 + 2 * n) (2 + 2 * n) none (λ z. omega arith) in (
        own,
        (here.3.0 ∙ (λ t. some (some (Some (own t)))), set_else s.homes (1 + 2 * n) 0 none (λ z. omega arith) ∙ h.2),
        subst (λ (ws : List ℕ). Lawful rule nodes record { words = ws; homes = homes; views = set s.views id w }) (sym (set_self s.words k))
            (restaged-own rule nodes s o id m.0 w s.words homes o.posted o.answered (turn n r) o.older o.newer o.done y me live-now refl refl refl (omega arith) (λ _. refl) refl (length-set homes₁ 0 none ∙ length-set s.homes (1 + 2 * n) none) (λ _. refl)
            (λ g waking. omega (arith, ap (g n) mine, ap (owner_weight g) was, ap (λ (y : P). g n (Behind b (Some y))) own))
            (λ l z. ap (turn n) (owns-injective _ _ z)) (λ l u p _ there z. absurd (granted-turn _ _ _ _ _ _ (sym (o.owned l u p there z) ∙ was)))
            elsewhere
            ((set_else homes₁ 0 (1 + 2 * n) none (λ z. omega arith) ∙ set_here s.homes (1 + 2 * n) none (omega (arith, o.long, low)), here.3.1 ∙ (λ t. some (own t))), (here.1.0, answer ∙ here.1.1), here.2)
            (waits-other at at' n elsewhere o.older (omega arith) o.old_waits) (waits-other at at' n elsewhere o.newer (omega arith) o.new_waits) (done-other at at' n elsewhere o.done (omega arith) o.finished)
            (h.0, inl refl, (λ z. absurd (true≢false (sym z))), set_here homes₁ 0 none (omega (arith, o.long, length-set s.homes (1 + 2 * n) none)), refl, tt, tt)
            (parts-same rule nodes s.views id m.0 w y o.posted o.answered me refl o.goods_rule)),
        here.3.1 ∙ (λ t. some (own t)),
      )
    where
      behind-idle : (y : P) → ◌≡◌ {A = Stage P} (Behind b (Some y)) Idle → ⊥
      behind-idle y z = cc

      granted-turn : (n c d l : ℕ) (y : Option P) (p : Ownership P) → turn l p ≡ granted n c y d → ⊥
      granted-turn n c d l y p z = cc
