-- The steps of an owner on the central word: it frees the lock, sees that others came, or takes the newer line.
use Rattle.std.proofs.Common.{◌≡◌, ◌≢◌, ℕ, ◌+◌, ◌-◌, ◌*◌, ◌≤◌, List, [], ◌∷◌, ◌++◌, map, length, set, get_or, eqb, length-set, get_or-set_same, get_or-set_other, Option, Some, None, true, false, true≢false, refl, sym, ap, ◌∙◌, subst, inl, arith}
use mathlib.Core.Option.{some, none, Option as Maybe}
use mathlib.Core.Logic.{dite}
use native.Mathlib.Decide.{ℕ_discrete}
use lib.ListN.{get_elem?}
use prog.Atomic.{either}
use Rattle.atomic_table.specs.Table.{State, step, keeps, gives, rest, Allows, stepped}
use Rattle.atomic_table.proofs.Lists.{exchanged, set_here, at_map}
use Rattle.waiter_chain.specs.declared.view.View.{View}
use Rattle.waiter_chain.specs.declared.view.Next.{Next}
use Rattle.waiter_chain.specs.declared.view.OwnSlot.{OwnSlot}
use Rattle.waiter_chain.specs.declared.view.OwnSlot.TheVariants.{Unused}
use Rattle.waiter_chain.specs.declared.view.Ownership.{Ownership}
use Rattle.waiter_chain.specs.declared.view.StepEntry.{StepEntry}
use Rattle.waiter_chain.specs.declared.view.Stage.TheVariants.{Owns}
use Rattle.waiter_chain.specs.declared.view.Stage.{Stage}
use Rattle.waiter_chain.specs.declared.view.StepKind.TheVariants.{Free, TakeChain}
use Rattle.waiter_chain.specs.Goods.{Goods, goods, put, Pays, Runs, Ends}
use Rattle.waiter_chain.specs.Chains.{desk, Desk, Seated, Mine, AtRest, front, line_weight, owner_weight, part_of, nobody, turn, Queued, Held, Lawful}
use Rattle.waiter_chain.specs.Steps.{SeatState, Ranged, passed, retook, entry, with_steps, moved, noted, ended, freed, took, looked, counted}
use Rattle.view_sums.specs.Sums.{term_le, set_self, map-set, same-refl}
use Rattle.waiter_chain.proofs.Rules.{awake, has, owns-idle, owns-injective, line_empty, line_some, line_ne, put-none, desk-same, desk-central, waits-other, done-other, once, one_owner, live, low_node, low_number, Goes, restaged-own, unmoved, parts-same}
use Rattle.waiter_chain.proofs.Polls.{ranged}

module _ {P : Type 0} where
  -- the owner has no slot of another node, and its own job slot is at home
  abbrev pub HasNone : Ownership P → Type 0
  HasNone r = (r.next ≡ None) × (r.mine ≡ Unused)

module _ {P : Type 0} (rule : Goods P → Type 0) (nodes : ℕ) where
  module _ (s : State (Option P) (View P)) (o : Lawful rule nodes s) (id : ℕ) (v : View P) (k : Ownership P) (me : get_elem? s.views id ≡ some v) (mine : v.stage ≡ Owns k) where
    -- what the rule says of a pass that owns the lock
    pub held_by : Held nodes s.words s.homes (desk s.words s.homes o.posted o.answered) o.older o.newer o.value (turn v.number k)
    held_by = subst (λ x. Held nodes s.words s.homes (desk s.words s.homes o.posted o.answered) o.older o.newer o.value x) (o.owned id v k me mine) o.held

    pub live-owner : v.gone ≡ false
    live-owner = live rule nodes s o id v me (λ z. owns-idle k (sym mine ∙ z))

    pub owner_seat : Seated (Owns k) (desk s.words s.homes o.posted o.answered v.number)
    owner_seat = subst (λ (g : Stage P). Seated g (desk s.words s.homes o.posted o.answered v.number)) mine (o.seated id v me live-owner)

    -- with no job of its own, its node is at rest
    pub owner_rest : HasNone k → AtRest (desk s.words s.homes o.posted o.answered v.number)
    owner_rest bare = let m : Mine Unused (desk s.words s.homes o.posted o.answered v.number) = subst (λ (y : OwnSlot P). Mine y (desk s.words s.homes o.posted o.answered v.number)) bare.1 owner_seat.0 in
        (m.0, (owner_seat.1, m.1, owner_seat.2))

    -- the two lines, where it has no slots of another node
    pub owner_lines : k.next ≡ None → Queued nodes s.words o.older o.newer k.first k.end k.mark
    owner_lines no-next = subst (λ (y : Option (Next P)). Queued nodes s.words (front y o.older) o.newer k.first k.end k.mark) no-next held_by.0

    -- its own number is in no line
    pub owner_apart : (has v.number o.older ≡ 0) × (has v.number o.newer ≡ 0) × (has v.number o.done ≡ 0)
    owner_apart =
        let c = once rule nodes s o v.number in let h = same-refl v.number in
        let ours : owner_weight {P = P} (awake v.number) o.owner ≡ owner_weight (awake v.number) (turn v.number k) = ap (owner_weight {P = P} (awake v.number)) (o.owned id v k me mine) in
        (omega arith, omega arith, omega arith)

  -- what such an owner counts beside its lines
  pub weigh_bare : (g : ℕ → Stage P → ℕ) (n : ℕ) (k : Ownership P) → HasNone k → owner_weight g (turn n k) ≡ g n (Owns k)
  weigh_bare g n k bare = omega (arith, ap (λ (y : Option (Next P)). line_weight g (front y [])) bare.0)

  -- the goods, after the value was put back
  pub put-back : (relates : P → P → P → P → Type 0) → Ends rule nodes relates → (s : State (Option P) (View P)) (o : Lawful rule nodes s) (id : ℕ) (v : View P) (k : Ownership P) (count : ℕ) (ran : List (P × P)) (now : P) (e : StepEntry)
      → get_elem? s.views id ≡ some v → v.stage ≡ Owns k → HasNone k → count ≤ v.quota → count ≡ length ran → Runs relates k.value ran now
      → rule (goods now (put o.posted v.number none) o.answered (map part_of (set s.views id (ended v count ran e))))
  put-back relates law s o id v k count ran now e me mine bare enough all runs =
      let q : ℕ = v.quota - count in let n : ℕ = v.number in let home = owner_rest s o id v k me mine bare in
      subst (λ ps. rule (goods now (put o.posted n none) o.answered ps)) (sym (map-set part_of s.views id (ended v count ran e)))
      (law (goods o.value o.posted o.answered (map part_of s.views)) id n v.quota q v.own ran now o.goods_rule (low_number rule nodes s o id v me (live-owner s o id v k me mine))
      (at_map part_of s.views id v me) (subst (λ x. Runs relates x ran now) (held_by s o id v k me mine).4 runs) (subst (λ (y : Maybe P). Pays y ran v.quota q) (sym home.1.1) (omega (arith, enough, all))) home.1.2)

  -- an owner sees that others came, and changes no word
  pub passes : (s : State (Option P) (View P)) (o : Lawful rule nodes s) (id : ℕ) (m : SeatState P) (k : Ownership P) (i : ℕ) (steps : List StepEntry) → get_elem? s.views id ≡ some m.0 → m.0.stage ≡ Owns k → get_or s.words 0 0 ≢ k.mark
      → Lawful rule nodes (stepped s i (get_or s.words i 0) id m.1 (with_steps m.0 (Owns (passed k)) steps) keeps)
  passes s o id m k i steps me mine others =
      let n : ℕ = m.0.number in let w : View P = with_steps m.0 (Owns (passed k)) steps in let h = held_by s o id m.0 k me mine in
      subst (λ (ws : List ℕ). Lawful rule nodes record { words = ws; homes = s.homes; views = set s.views id w }) (sym (set_self s.words i))
      (restaged-own rule nodes s o id m.0 w s.words s.homes o.posted o.answered (turn n (passed k)) o.older o.newer o.done o.value me (live-owner s o id m.0 k me mine) refl refl refl (omega arith) (λ _. refl) refl refl (λ _. refl)
      (λ g waking. omega (arith, ap (g n) mine, ap (owner_weight g) (o.owned id m.0 k me mine)))
      (λ j z. ap (turn n) (owns-injective _ _ z)) (λ j u l ne at z. absurd (one_owner rule nodes s o id j m.0 u k l ne me at mine z))
      (λ _ _. refl) (owner_seat s o id m.0 k me mine) o.old_waits o.new_waits o.finished
      (h.0, h.1, (λ _. line_some (get_or s.words 0 0) k.mark o.newer h.0.new_line others), h.3, h.4, h.5, h.6)
      (parts-same rule nodes s.views id m.0 w o.value o.posted o.answered me refl o.goods_rule))

  pub looks : (slots id : ℕ) (m : SeatState P) (k : Ownership P) → m.0.stage ≡ Owns k → Allows (Lawful rule nodes) slots id m 0 (λ x. x) (looked (step slots 0 0 0 none) m)
  looks slots id m k mine s o long me _ =
      let c : ℕ = get_or s.words 0 0 in
      dite (ℕ_discrete c k.mark)
      (λ e. (
        with_steps m.0 m.0.stage m.0.steps,
        keeps,
        tt,
        unmoved rule nodes s o id m 0 m.0.steps me (live-owner s o id m.0 k me mine),
        λ l z. ((λ _. ap (λ (x : Stage P). (noted m.0 x, m.1)) z), λ ne. absurd (ne (e ∙ ap (λ (x : Ownership P). x.mark) (owns-injective _ _ (sym mine ∙ z))))),
      ))
      (λ ne. (
        noted m.0 (Owns (passed k)),
        keeps,
        tt,
        passes s o id m k 0 m.0.steps me mine ne,
        λ l z. ((λ e. absurd (ne (e ∙ ap (λ (x : Ownership P). x.mark) (owns-injective _ _ (sym z ∙ mine))))), λ _. ap (λ (x : Ownership P). (noted m.0 (Owns (passed x)), m.1)) (owns-injective _ _ (sym mine ∙ z))),
      ))

  pub takes-line : (slots id : ℕ) (m : SeatState P) (k : Ownership P) → m.0.stage ≡ Owns k → k.next ≡ None → k.first ≡ k.end → k.others_came ≡ true → Allows (Lawful rule nodes) slots id m 0 (λ _. 1) (took (step slots 0 1 0 none) m)
  takes-line slots id m k mine no-next none-left others_came s o long me _ =
      let n : ℕ = m.0.number in let c : ℕ = get_or s.words 0 0 in let h = held_by s o id m.0 k me mine in let q = owner_lines s o id m.0 k me mine no-next in
      let r : Ownership P = retook k c in
      let w : View P = moved m.0 (Owns r) (entry m.0 TakeChain 0 c) in
      let words : List ℕ = set s.words 0 1 in
      let at : ℕ → Desk P = desk s.words s.homes o.posted o.answered in let at' : ℕ → Desk P = desk words s.homes o.posted o.answered in
      let links : (i : ℕ) → get_or words (2 + 2 * i) 0 ≡ get_or s.words (2 + 2 * i) 0 = λ i. get_or-set_other s.words 0 (2 + 2 * i) 1 0 (λ e. omega arith) in
      let same : (i : ℕ) → at' i ≡ at i = λ i. desk-same s.words words s.homes s.homes o.posted o.posted o.answered o.answered i (get_or-set_other s.words 0 (1 + 2 * i) 1 0 (λ e. omega arith)) (links i) refl refl refl refl in
      let seat : Seated (Owns r) (at' n) = subst (Seated (Owns r)) (sym (same n)) (owner_seat s o id m.0 k me mine) in
      let mates = owner_apart s o id m.0 k me mine in
      let empty = line_empty k.first k.end o.older q.old_line q.past_end none-left in
      let apart : c ≢ k.mark = line_ne c k.mark o.newer q.new_line q.past_mark (h.2 others_came) in
      let next : Lawful rule nodes (stepped s 0 1 id m.1 w keeps) = restaged-own rule nodes s o id m.0 w words s.homes o.posted o.answered (turn n r) o.newer [] o.done o.value me (live-owner s o id m.0 k me mine) refl refl refl (omega arith) (λ _. refl) (length-set s.words 0 1) refl links
      (λ g waking. omega (arith, ap (g n) mine, ap (owner_weight g) (o.owned id m.0 k me mine), ap (λ (y : Option (Next P)). line_weight g (front y [])) no-next, ap (line_weight g) empty))
      (λ j z. ap (turn n) (owns-injective _ _ z)) (λ j u l ne there z. absurd (one_owner rule nodes s o id j m.0 u k l ne me there mine z))
      (λ i _. same i) seat
      (waits-other at at' n (λ i _. same i) o.newer mates.1 o.new_waits) tt (done-other at at' n (λ i _. same i) o.done mates.2 o.finished) (
        record {
          old_line = q.new_line;
          new_line = get_or-set_same s.words 0 1 0 (omega (arith, o.wide));
          marked = omega arith;
          low_end = q.low_mark;
          low_mark = omega arith;
          past_end = q.past_mark;
          past_mark = refl;
          taken = λ _. refl;
        },
        inl refl,
        (λ e. absurd (true≢false (sym e))),
        h.3,
        h.4,
        tt,
        tt,
      )
      (parts-same rule nodes s.views id m.0 w o.value o.posted o.answered me refl o.goods_rule) in (
        w,
        keeps,
        tt,
        next,
        λ l z. let e = owns-injective k l (sym mine ∙ z) in subst (λ (x : Ownership P). ◌≡◌ {A = SeatState P} (w, m.1) (moved m.0 (Owns (retook x c)) (entry m.0 TakeChain 0 c), m.1) × (c ≢ x.mark) × Ranged slots c x.mark) e
            (refl, apart, ranged nodes slots c k.mark o.newer (sym long ∙ o.long) (λ i y. low_node rule nodes s o i (omega arith)) q.new_line q.low_mark),
      )

  pub frees : (relates : P → P → P → P → Type 0) → Ends rule nodes relates → (slots id : ℕ) (m : SeatState P) (k : Ownership P) (count : ℕ) (ran : List (P × P)) (now : P) (mark : ℕ) → m.0.stage ≡ Owns k → HasNone k → k.first ≡ k.end → mark ≡ k.mark → m.1 ≡ (0, Some now) ∷ []
      → count ≤ m.0.quota → count ≡ length ran → Runs relates k.value ran now
      → Allows (Lawful rule nodes) slots id m 0 (λ x. either (eqb x mark) 0 x) (freed count ran (step slots 0 mark 0 none) m)
  frees relates law slots id m k count ran now mark mine bare none-left is hand enough all runs s o long me _ =
      let n : ℕ = m.0.number in let c : ℕ = get_or s.words 0 0 in let q = owner_lines s o id m.0 k me mine bare.0 in
      exchanged c mark 0 (Goes rule nodes s 0 id m (freed count ran (step slots 0 mark 0 none) m))
      (λ hit.
      let w : View P = ended m.0 count ran (entry m.0 Free 0 c) in
      let older = line_empty k.first k.end o.older q.old_line q.past_end none-left in
      let newer = line_empty c k.mark o.newer q.new_line q.past_mark (hit ∙ is) in
      let words : List ℕ = set s.words 0 0 in let homes : List (Maybe (Option P)) = set s.homes 0 (some (Some now)) in
      let posted : ℕ → Maybe P = put o.posted n none in
      let at : ℕ → Desk P = desk s.words s.homes o.posted o.answered in let at' : ℕ → Desk P = desk words homes posted o.answered in
      let rested = owner_rest s o id m.0 k me mine bare in
      let same : (i : ℕ) → at' i ≡ at i = λ i. (λ t. desk words homes (λ j. put-none o.posted n j rested.1.1 t) o.answered i) ∙ desk-central s.words 0 s.homes (some (Some now)) o.posted o.answered i in
      let mates = owner_apart s o id m.0 k me mine in (
        w,
        gives,
        tt,
        subst (λ (x : List (ℕ × Option P)). Lawful rule nodes (stepped s 0 0 id x w gives)) (sym hand)
            (restaged-own rule nodes s o id m.0 w words homes posted o.answered nobody [] [] o.done now me (live-owner s o id m.0 k me mine) refl refl refl (omega arith) (λ _. refl) (length-set s.words 0 0) (length-set s.homes 0 (some (Some now)))
            (λ i. get_or-set_other s.words 0 (2 + 2 * i) 0 0 (λ e. omega arith))
            (λ g waking. omega (arith, ap (g n) mine, ap (owner_weight g) (o.owned id m.0 k me mine), weigh_bare g n k bare, ap (line_weight g) older, ap (line_weight g) newer, (waking n).0))
            (λ j z. absurd (cc)) (λ j u l ne there z. absurd (one_owner rule nodes s o id j m.0 u k l ne me there mine z))
            (λ i _. same i) (subst AtRest (sym (same n)) rested) tt tt (done-other at at' n (λ i _. same i) o.done mates.2 o.finished)
            (get_or-set_same s.words 0 0 0 (omega (arith, o.wide)), refl, refl, set_here s.homes 0 (some (Some now)) (omega (arith, o.long)))
            (put-back relates law s o id m.0 k count ran now (entry m.0 Free 0 c) me mine bare enough all runs)),
        ((λ _. ap (λ (x : List (ℕ × Option P)). (w, rest x)) hand), λ ne. absurd (ne hit)),
      ))
      (λ miss. (
        moved m.0 (Owns (passed k)) (entry m.0 Free 0 c),
        keeps,
        tt,
        passes s o id m k 0 (m.0.steps ++ entry m.0 Free 0 c ∷ []) me mine (λ e. miss (e ∙ sym is)),
        ((λ hit. absurd (miss hit)), λ _ l z. ap (λ (x : Ownership P). (moved m.0 (Owns (passed x)) (entry m.0 Free 0 c), m.1)) (owns-injective _ _ (sym mine ∙ z))),
      ))

  -- any word is looked at
  pub counts : (slots id : ℕ) (m : SeatState P) (k : ℕ) → m.0.gone ≡ false → Allows (Lawful rule nodes) slots id m k (λ x. x) (counted (step slots k 0 0 none) m)
  counts slots id m k live-now s o long me _ =
      (with_steps m.0 m.0.stage m.0.steps, keeps, tt, unmoved rule nodes s o id m k m.0.steps me live-now, (refl, omega (arith, term_le (λ (x : View P). x.quota) s.views id m.0 me, o.funded)))
