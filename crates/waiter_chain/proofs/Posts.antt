-- A node that holds its job slot, filled, swaps itself in: the job is posted.
use Rattle.std.proofs.Common.{◌≡◌, ◌≢◌, ℕ, ◌+◌, ◌-◌, ◌*◌, ◌<◌, ◌≤◌, List, [], ◌∷◌, map, length, set, get_or, length-set, get_or-set_same, get_or-set_other, Option, Some, None, true, true≢false, refl, sym, ap, ◌∙◌, subst, inl, inr, arith}
use mathlib.Core.Option.{some, none, Option as Maybe}
use mathlib.Core.Logic.{dite}
use native.Mathlib.Decide.{ℕ_discrete}
use Rattle.atomic_table.specs.Table.{step, takes, gives, Allows, stepped, carried_after}
use Rattle.atomic_table.proofs.Lists.{set_here, set_else, at_map}
use Rattle.waiter_chain.specs.declared.view.View.{View}
use Rattle.waiter_chain.specs.declared.view.Ownership.{Ownership}
use Rattle.waiter_chain.specs.declared.view.StepEntry.{StepEntry}
use Rattle.waiter_chain.specs.declared.view.StepKind.TheVariants.{SwapIn}
use Rattle.waiter_chain.specs.declared.view.Stage.{Stage}
use Rattle.waiter_chain.specs.declared.view.Stage.TheVariants.{Idle, Ready, Behind, Owns}
use Rattle.waiter_chain.specs.Goods.{Goods, goods, part, put, Posts}
use Rattle.waiter_chain.specs.Chains.{part_of, desk, Desk, Seated, line_weight, turn, owner_weight, Lawful}
use Rattle.waiter_chain.specs.Steps.{SeatState, SoundJob, entry, ownership_with, paid, posting}
use Rattle.view_sums.specs.Sums.{there, map-set}
use Rattle.waiter_chain.proofs.Rules.{awake, was_free, owns-injective, turn-nobody, desk-same, put-other, put-here, waits-other, done-other, live, alone, low_number, Goes, restaged-own}
use Rattle.waiter_chain.proofs.Enters.{held-push}

module _ {P : Type 0} where
  same-hand : (n : ℕ) (x y : P) → ◌≡◌ {A = List (ℕ × Option P)} ((n, Some x) ∷ []) ((n, Some y) ∷ []) → x ≡ y
  same-hand n x y e = ap (λ (l : List (ℕ × Option P)). first l x) e
    where
      inside : Option P → P → P
      inside None d = d
      inside (Some z) d = z

      first : List (ℕ × Option P) → P → P
      first [] d = d
      first (z ∷ zs) d = inside z.1 d

module _ {P : Type 0} (is_job : P → Type 0) (rule : Goods P → Type 0) (nodes : ℕ) where
  pub posts : Posts rule nodes is_job → (known : Goods P → Type 0) → ((g : Goods P) → rule g → known g) → (slots id : ℕ) (m : SeatState P) (job : P) (new : ℕ) → m.0.stage ≡ Ready true → m.1 ≡ (1 + 2 * m.0.number, Some job) ∷ [] → 1 ≤ m.0.quota → is_job job → new ≡ m.0.number + 2
      → Allows (Lawful rule nodes) slots id m 0 (λ _. new) (posting known (step slots 0 new 0 none) m)
  posts law known tells slots id m job new mine hand some-quota good is s o long me _ =
      let n : ℕ = m.0.number in let found : ℕ = get_or s.words 0 0 in
      let q : ℕ = m.0.quota - 1 in let enough : m.0.quota ≡ q + 1 = omega (arith, some-quota) in
      let e : StepEntry = entry m.0 SwapIn 0 found in
      let at : ℕ → Desk P = desk s.words s.homes o.posted o.answered in
      let live-now = live rule nodes s o id m.0 me (λ z. ready-idle (sym mine ∙ z)) in
      let low = low_number rule nodes s o id m.0 me live-now in
      let apart = alone rule nodes s o id m.0 me live-now (ap (awake n n) mine) in
      let seat : Seated (Ready true) (at n) = subst (λ (g : Stage P). Seated g (at n)) mine (o.seated id m.0 me live-now) in
      let words : List ℕ = set s.words 0 (n + 2) in
      let wide : 0 < length s.words = omega (arith, o.wide) in
      let posted : ℕ → Maybe P = put o.posted n (some job) in
      let status : (i : ℕ) → get_or words (1 + 2 * i) 0 ≡ get_or s.words (1 + 2 * i) 0 = λ i. get_or-set_other s.words 0 (1 + 2 * i) (n + 2) 0 (λ e. omega arith) in
      let link : (i : ℕ) → get_or words (2 + 2 * i) 0 ≡ get_or s.words (2 + 2 * i) 0 = λ i. get_or-set_other s.words 0 (2 + 2 * i) (n + 2) 0 (λ e. omega arith) in
      let goods-now : (stage : Stage P) → rule (goods o.value posted o.answered (map part_of (set s.views id (paid m.0 q stage e)))) = λ stage.
      subst (λ ps. rule (goods o.value posted o.answered ps)) (sym (map-set part_of s.views id (paid m.0 q stage e)))
      (law (goods o.value o.posted o.answered (map part_of s.views)) id q n m.0.own job o.goods_rule low (at_map part_of s.views id m.0 me ∙ ap (λ (x : ℕ). some (part n x m.0.own)) enough) good seat.1.1 seat.1.2) in
      let told : (stage : Stage P) (x : P) → job ≡ x → SoundJob known o.value (part n q m.0.own) n x = λ stage x same. (goods o.value posted o.answered (map part_of (set s.views id (paid m.0 q stage e))), tells _ (goods-now stage), refl, (id, at_map part_of (set s.views id (paid m.0 q stage e)) id (paid m.0 q stage e) (set_here s.views id (paid m.0 q stage e) (there s.views id m.0 me))), put-here o.posted n (some job) ∙ ap (λ (z : P). some z) same) in
      subst (λ (x : ℕ). Goes rule nodes s 0 id m (posting known (step slots 0 x 0 none) m) x) (sym is)
      (dite (ℕ_discrete found 0)
      (λ free. let t = was_free nodes s.words s.homes at o.older o.newer o.value o.owner free o.held in
      let r : Ownership P = ownership_with (n + 2) job o.value in
      let w : View P = paid m.0 q (Owns r) e in
      let homes : List (Maybe (Option P)) = set s.homes 0 none in
      let at' : ℕ → Desk P = desk words homes posted o.answered in
      let elsewhere : (i : ℕ) → i ≢ n → at' i ≡ at i = λ i ne. desk-same s.words words s.homes homes o.posted posted o.answered o.answered i (status i) (link i) (set_else s.homes 0 (1 + 2 * i) none (λ e. omega arith)) (set_else s.homes 0 (2 + 2 * i) none (λ e. omega arith)) (put-other o.posted n i (some job) ne) refl in (
        w,
        takes 0 (Some o.value),
        t.2,
        restaged-own rule nodes s o id m.0 w words homes posted o.answered (turn n r) [] [] o.done o.value me live-now refl refl refl (omega (arith, enough)) (λ _. refl) (length-set s.words 0 (n + 2)) (length-set s.homes 0 none) link
            (λ g waking. omega (arith, ap (g n) mine, (waking n).3 true, ap (line_weight g) t.0, ap (line_weight g) t.1, ap (owner_weight g) t.3))
            (λ k e. ap (turn n) (owns-injective _ _ e)) (λ j u k _ there e. absurd (turn-nobody _ _ (sym (o.owned j u k there e) ∙ t.3)))
            elsewhere
            ((set_else s.homes 0 (1 + 2 * n) none (λ e. omega arith) ∙ seat.0, put-here o.posted n (some job)), (seat.1.0.0, set_else s.homes 0 (2 + 2 * n) none (λ e. omega arith) ∙ seat.1.0.1), seat.1.2)
            tt tt (done-other at at' n elsewhere o.done apart.2 o.finished) (
              record {
                old_line = refl;
                new_line = get_or-set_same s.words 0 (n + 2) 0 wide;
                marked = omega arith;
                low_end = omega arith;
                low_mark = omega arith;
                past_end = refl;
                past_mark = refl;
                taken = λ l. absurd (omega arith);
              },
              inr refl,
              (λ e. absurd (true≢false (sym e))),
              set_here s.homes 0 none (omega (arith, o.long)),
              refl,
              tt,
              tt,
            )
            (goods-now (Owns r)),
        λ job' h. (
          (λ _. (o.value, ap (λ (x : P). (paid m.0 q (Owns (ownership_with (n + 2) x o.value)) e, (0, Some o.value) ∷ m.1)) (same-hand (1 + 2 * n) job job' (sym hand ∙ h)), told (Owns r) job' (same-hand (1 + 2 * n) job job' (sym hand ∙ h)))),
          λ ne. absurd (ne free),
        ),
      ))
      (λ held. let w : View P = paid m.0 q (Behind found (Some job)) e in
      let homes : List (Maybe (Option P)) = set s.homes (1 + 2 * n) (some (Some job)) in
      let at' : ℕ → Desk P = desk words homes posted o.answered in
      let elsewhere : (i : ℕ) → i ≢ n → at' i ≡ at i = λ i ne. desk-same s.words words s.homes homes o.posted posted o.answered o.answered i (status i) (link i) (set_else s.homes (1 + 2 * n) (1 + 2 * i) (some (Some job)) (λ e. ne (omega arith))) (set_else s.homes (1 + 2 * n) (2 + 2 * i) (some (Some job)) (λ e. omega arith)) (put-other o.posted n i (some job) ne) refl in (
        w,
        gives,
        tt,
        subst (λ (c : List (ℕ × Option P)). Lawful rule nodes (stepped s 0 (n + 2) id c w gives)) (sym hand)
            (restaged-own rule nodes s o id m.0 w words homes posted o.answered o.owner o.older ((n, found, Some job) ∷ o.newer) o.done o.value me live-now refl refl refl (omega (arith, enough)) (λ _. refl) (length-set s.words 0 (n + 2)) (length-set s.homes (1 + 2 * n) (some (Some job))) link
            (λ g waking. omega (arith, ap (g n) mine, (waking n).3 true))
            (λ k e. absurd (cc)) (λ j u k _ there e. o.owned j u k there e)
            elsewhere
            (inl (put-here o.posted n (some job)))
            (waits-other at at' n elsewhere o.older apart.0 o.old_waits) (
              (
                inl (link n ∙ seat.2),
                status n ∙ seat.3,
                (seat.1.0.0, set_else s.homes (1 + 2 * n) (2 + 2 * n) (some (Some job)) (λ e. omega arith) ∙ seat.1.0.1),
                seat.1.2,
                (set_here s.homes (1 + 2 * n) (some (Some job)) (omega (arith, o.long)), put-here o.posted n (some job)),
              ),
              waits-other at at' n elsewhere o.newer apart.1 o.new_waits,
            )
            (done-other at at' n elsewhere o.done apart.2 o.finished)
            (held-push nodes s.words words (n, found, Some job) s.homes homes at at' o.older o.newer o.value o.owner elsewhere (get_or-set_same s.words 0 (n + 2) 0 wide) refl (set_else s.homes (1 + 2 * n) 0 (some (Some job)) (λ e. omega arith)) held apart.3 o.held)
            (goods-now (Behind found (Some job)))),
        λ job' h. (
          (λ free. absurd (held free)),
          λ _. ap (λ (c : List (ℕ × Option P)). (w, carried_after c gives)) hand ∙ ap (λ (x : P). (paid m.0 q (Behind found (Some x)) e, [])) (same-hand (1 + 2 * n) job job' (sym hand ∙ h)),
        ),
      )))
    where
      ready-idle : ◌≡◌ {A = Stage P} (Ready true) Idle → ⊥
      ready-idle e = cc
