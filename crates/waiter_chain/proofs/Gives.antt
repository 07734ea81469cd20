-- An owner that has its own job slot in hand makes the next node the owner: it gives back the value and that slot.
use Rattle.std.proofs.Common.{◌≡◌, ◌≢◌, ℕ, ◌+◌, ◌-◌, ◌*◌, ◌≤◌, List, [], ◌∷◌, map, length, set, get_or, length-set, get_or-set_same, get_or-set_other, Option, Some, None, refl, sym, ap, ◌∙◌, subst, arith}
use mathlib.Core.Option.{some, none, Option as Maybe}
use lib.ListN.{get_elem?}
use Rattle.atomic_table.specs.Table.{State, gives, chain, stepped}
use Rattle.atomic_table.proofs.Lists.{set_here, set_else, at_map}
use Rattle.waiter_chain.specs.declared.view.View.{View}
use Rattle.waiter_chain.specs.declared.view.Next.{Next}
use Rattle.waiter_chain.specs.declared.view.OwnSlot.{OwnSlot}
use Rattle.waiter_chain.specs.declared.view.OwnSlot.TheVariants.{Unused}
use Rattle.waiter_chain.specs.declared.view.Ownership.{Ownership}
use Rattle.waiter_chain.specs.declared.view.StepEntry.{StepEntry}
use Rattle.waiter_chain.specs.declared.view.Stage.TheVariants.{Idle, Owns}
use Rattle.waiter_chain.specs.Goods.{Goods, goods, put, Runs, Pays, Ends}
use Rattle.waiter_chain.specs.Chains.{Waiter, Line, part_of, desk, Desk, Seated, owed, Mine, Waits, Taken, AllWait, HasTaken, front, line_weight, owner_weight, granted, named, Queued, Lawful}
use Rattle.waiter_chain.specs.Steps.{SeatState, with_steps}
use Rattle.view_sums.specs.Sums.{map-set, same, same-refl, same-eq}
use Rattle.waiter_chain.proofs.Rules.{has, awake, queued-words, desk-same, noted-same, put-other, put-here, waits-other, done-other, covers-own, covers_awake, once, low_node, low_number, one_owner, restaged, restaged-two, parts-same}
use Rattle.waiter_chain.proofs.Frees.{held_by, live-owner, owner_seat, owner_lines, owner_apart}
use Rattle.waiter_chain.proofs.Grants.{line_cut, with_status, keeps-status, waits_there}
use Rattle.waiter_chain.proofs.Serves.{mine_owed}
use Rattle.waiter_chain.proofs.Ends.{ended_with}

module _ {P : Type 0} (rule : Goods P → Type 0) (nodes : ℕ) where
  pub grants-mine : (relates : P → P → P → P → Type 0) → Ends rule nodes relates → (s : State (Option P) (View P)) (o : Lawful rule nodes s) (id : ℕ) (m : SeatState P) (k : Ownership P) (now : P) (z : Option P) (ran : List (P × P)) (q i new : ℕ) (steps : List StepEntry)
      → get_elem? s.views id ≡ some m.0 → m.0.stage ≡ Owns k → k.next ≡ None → k.first ≢ k.end → i ≡ 1 + 2 * (k.first - 2) → new ≡ k.end + 4
      → m.1 ≡ (0, Some now) ∷ (1 + 2 * m.0.number, z) ∷ [] → Runs relates k.value ran now → Pays (owed k.mine) ran m.0.quota q → q ≤ m.0.quota
      → Lawful rule nodes (stepped s i new id m.1 (ended_with m.0 q ran steps) (chain gives gives))
  grants-mine relates law s o id m k now z ran q i new steps me mine no-next some-left at-word what hand runs pays spends =
      let n : ℕ = m.0.number in let lines = owner_lines rule nodes s o id m.0 k me mine no-next in
      let cut = line_cut k.first k.end o.older lines.old_line some-left in let x : ℕ = cut.0.0 in let b : ℕ = cut.0.1 in let j = cut.0.2 in let ys : List (Waiter P) = cut.1 in let is : o.older ≡ (x, b, j) ∷ ys = cut.2 in
      let one : k.mark ≡ 1 = lines.taken (omega (arith, ap length is)) in
      let counted = once rule nodes s o x in let here = same-refl x in let split : has x o.older ≡ has x ((x, b, j) ∷ ys) = ap (has x) is in
      let not-old : has x ys ≡ 0 = omega arith in let not-new : has x o.newer ≡ 0 = omega arith in let not-done : has x o.done ≡ 0 = omega arith in
      let low = low_node rule nodes s o x (omega arith) in let live-now = live-owner rule nodes s o id m.0 k me mine in
      let low-own = low_number rule nodes s o id m.0 me live-now in
      let mates = owner_apart rule nodes s o id m.0 k me mine in let seat = owner_seat rule nodes s o id m.0 k me mine in let h = held_by rule nodes s o id m.0 k me mine in
      let apart : n ≢ x = λ t. let a : has n o.older ≡ has x o.older = ap (λ (c : ℕ). has c o.older) t in omega (arith, mates.0) in
      let e : ℕ = k.end in
      let words : List ℕ = set s.words (1 + 2 * x) (e + 4) in
      let homes₁ : List (Maybe (Option P)) = set s.homes 0 (some (Some now)) in
      let homes : List (Maybe (Option P)) = set homes₁ (1 + 2 * n) (some z) in
      let posted : ℕ → Maybe P = put o.posted n none in
      let at : ℕ → Desk P = desk s.words s.homes o.posted o.answered in
      -- where its own desk has changed, and then the next node's
      let mid : ℕ → Desk P = desk s.words homes posted o.answered in let at' : ℕ → Desk P = desk words homes posted o.answered in
      let job : (l : ℕ) → l ≢ n → get_elem? homes (1 + 2 * l) ≡ get_elem? s.homes (1 + 2 * l) = λ l ne. set_else homes₁ (1 + 2 * n) (1 + 2 * l) (some z) (λ t. ne (omega arith)) ∙ set_else s.homes 0 (1 + 2 * l) (some (Some now)) (λ t. omega arith) in
      let answer : (l : ℕ) → get_elem? homes (2 + 2 * l) ≡ get_elem? s.homes (2 + 2 * l) = λ l. set_else homes₁ (1 + 2 * n) (2 + 2 * l) (some z) (λ t. omega arith) ∙ set_else s.homes 0 (2 + 2 * l) (some (Some now)) (λ t. omega arith) in
      let own-changed : (l : ℕ) → l ≢ n → mid l ≡ at l = λ l ne. desk-same s.words s.words s.homes homes o.posted posted o.answered o.answered l refl refl (job l ne) (answer l) (put-other o.posted n l none ne) refl in
      let links : (l : ℕ) → get_or words (2 + 2 * l) 0 ≡ get_or s.words (2 + 2 * l) 0 = λ l. get_or-set_other s.words (1 + 2 * x) (2 + 2 * l) (e + 4) 0 (λ t. omega arith) in
      let central : get_or words 0 0 ≡ get_or s.words 0 0 = get_or-set_other s.words (1 + 2 * x) 0 (e + 4) 0 (λ t. omega arith) in
      let elsewhere : (l : ℕ) → l ≢ x → at' l ≡ mid l = λ l ne. desk-same s.words words homes homes posted posted o.answered o.answered l (get_or-set_other s.words (1 + 2 * x) (1 + 2 * l) (e + 4) 0 (λ t. ne (omega arith))) (links l) refl refl refl refl in
      let as-before : with_status (mid x).status (at' x) ≡ mid x = λ t. record { status = (mid x).status; link = links x t; job = (mid x).job; answer = (mid x).answer; posted = (mid x).posted; answered = o.answered x } in
      let w : View P = ended_with m.0 q ran steps in
      let old : AllWait mid ((x, b, j) ∷ ys) = subst (AllWait mid) is (waits-other at mid n own-changed o.older mates.0 o.old_waits) in
      let waited : Waits b j (with_status (mid x).status (at' x)) = subst (Waits b j) (sym as-before) old.0 in
      let place : i ≡ 1 + 2 * x = omega (arith, cut.3) in
      let q' = queued-words nodes s.words words o.older o.newer k.first k.end k.mark central lines in
      let past : named e ((x, b, j) ∷ ys) ≡ 0 = subst (λ l. named e l ≡ 0) is lines.past_end in
      subst (λ (c : List (ℕ × Option P)). Lawful rule nodes (stepped s i new id c w (chain gives gives))) (sym hand)
      (subst (λ (t : ℕ × ℕ). Lawful rule nodes record { words = set s.words t.0 t.1; homes = homes; views = set s.views id w }) (λ t. (sym place t, sym what t))
      (restaged-two rule nodes s o id m.0 w words homes posted o.answered (granted x b j e) ys o.newer o.done now x me live-now refl refl spends (λ _. refl) (length-set s.words (1 + 2 * x) (e + 4)) (length-set homes₁ (1 + 2 * n) (some z) ∙ length-set s.homes 0 (some (Some now))) (λ l _. links l)
      (λ f. (f, links n ∙ o.unlinked id m.0 n me live-now f (covers-own rule nodes s o m.0 live-now)))
      (λ g waking. omega (arith, ap (g n) mine, ap (owner_weight g) (o.owned id m.0 k me mine), ap (λ (y : Option (Next P)). line_weight g (front y [])) no-next, ap (line_weight g) is, (waking n).0))
      (λ l t. absurd (cc)) (λ l u r ne there t. absurd (one_owner rule nodes s o id l m.0 u k r ne me there mine t))
      (λ l lx ln. elsewhere l lx ∙ own-changed l ln)
      (subst (λ (d : Desk P). Seated Idle d) (sym (elsewhere n apart)) ((z, set_here homes₁ (1 + 2 * n) (some z) (omega (arith, o.long, low-own, length-set s.homes 0 (some (Some now))))), ((seat.1.0, answer n ∙ seat.1.1), put-here o.posted n none, seat.2)))
      (λ l u ne there live-u t. waits_there rule nodes s o id m.0 k x at' me mine (omega arith) (λ y. noted-same y (at x) (at' x) (put-other o.posted n x none (λ r. apart (sym r))) refl) l u ne there live-u t)
      (covers_awake rule nodes s o x (omega arith))
      (waits-other mid at' x elsewhere ys not-old old.1) (waits-other mid at' x elsewhere o.newer not-new (waits-other at mid n own-changed o.newer mates.1 o.new_waits)) (done-other mid at' x elsewhere o.done not-done (done-other at mid n own-changed o.done mates.2 o.finished)) (
        record {
          old_line = cut.4;
          new_line = subst (λ (y : ℕ). Line (get_or words 0 0) o.newer y) one q'.new_line;
          marked = omega arith;
          low_end = lines.low_end;
          low_mark = omega arith;
          past_end = omega arith;
          past_mark = subst (λ (y : ℕ). named y o.newer ≡ 0) one lines.past_mark;
          taken = λ _. refl;
        },
        (get_or-set_same s.words (1 + 2 * x) (e + 4) 0 (omega (arith, o.wide)), waited.2, waited.3, keeps-status j (mid x).status (at' x) waited.4),
        set_else homes₁ (1 + 2 * n) 0 (some z) (λ t. omega arith) ∙ set_here s.homes 0 (some (Some now)) (omega (arith, o.long)),
      )
      (subst (λ ps. rule (goods now posted o.answered ps)) (sym (map-set part_of s.views id w))
      (law (goods o.value o.posted o.answered (map part_of s.views)) id n m.0.quota q m.0.own ran now o.goods_rule low-own (at_map part_of s.views id m.0 me) (subst (λ y. Runs relates y ran now) h.4 runs)
      (subst (λ (y : Maybe P). Pays y ran m.0.quota q) (sym (mine_owed k.mine (at n) seat.0)) pays) seat.2))))

  -- the same, of an owner that has taken the next node's two slots after all, and whose own job slot is at home: it gives back all three
  pub grants-taken : (s : State (Option P) (View P)) (o : Lawful rule nodes s) (id : ℕ) (m : SeatState P) (k : Ownership P) (x b : ℕ) (j : P) (y : Option P) (i new : ℕ) (steps : List StepEntry)
      → get_elem? s.views id ≡ some m.0 → m.0.stage ≡ Owns k → k.next ≡ Some (record { node = x; behind = b; job = j }) → k.mine ≡ Unused → i ≡ 1 + 2 * x → new ≡ k.end + 4
      → m.1 ≡ (2 + 2 * x, y) ∷ (1 + 2 * x, Some j) ∷ (0, Some k.value) ∷ []
      → Lawful rule nodes (stepped s i new id m.1 (with_steps m.0 Idle steps) (chain gives (chain gives gives)))
  grants-taken s o id m k x b j y i new steps me mine next own at-word what hand =
      let n : ℕ = m.0.number in let e : ℕ = k.end in
      let at : ℕ → Desk P = desk s.words s.homes o.posted o.answered in
      let h = held_by rule nodes s o id m.0 k me mine in
      let live-now = live-owner rule nodes s o id m.0 k me mine in
      let seat = owner_seat rule nodes s o id m.0 k me mine in
      let rested : Mine Unused (at n) = subst (λ (z : OwnSlot P). Mine z (at n)) own seat.0 in
      let q : Queued nodes s.words ((x, b, Some j) ∷ o.older) o.newer k.first k.end k.mark = subst (λ (z : Option (Next P)). Queued nodes s.words (front z o.older) o.newer k.first k.end k.mark) next h.0 in
      let one : k.mark ≡ 1 = q.taken (omega arith) in
      let t : Taken b j (at x) = subst (HasTaken at) next h.5 in
      let owned : owner_weight {P = P} (awake x) o.owner ≡ same n x + line_weight {P = P} (awake x) (front k.next []) = ap (owner_weight (awake x)) (o.owned id m.0 k me mine) in
      let fronted : line_weight {P = P} (awake x) (front k.next []) ≡ same x x + 0 = ap (λ (z : Option (Next P)). line_weight {P = P} (awake x) (front z [])) next in
      let counted = once rule nodes s o x in let here = same-refl x in
      let low = low_node rule nodes s o x (omega arith) in
      let ne : n ≢ x = λ z. omega (arith, same-eq n x z) in
      let words : List ℕ = set s.words (1 + 2 * x) (e + 4) in
      let homes₁ : List (Maybe (Option P)) = set s.homes (2 + 2 * x) (some y) in
      let homes₂ : List (Maybe (Option P)) = set homes₁ (1 + 2 * x) (some (Some j)) in
      let homes : List (Maybe (Option P)) = set homes₂ 0 (some (Some k.value)) in
      let long₁ : length homes₁ ≡ length s.homes = length-set s.homes (2 + 2 * x) (some y) in
      let long₂ : length homes₂ ≡ length s.homes = length-set homes₁ (1 + 2 * x) (some (Some j)) ∙ long₁ in
      let at' : ℕ → Desk P = desk words homes o.posted o.answered in
      let w : View P = with_steps m.0 Idle steps in
      let links : (l : ℕ) → get_or words (2 + 2 * l) 0 ≡ get_or s.words (2 + 2 * l) 0 = λ l. get_or-set_other s.words (1 + 2 * x) (2 + 2 * l) (e + 4) 0 (λ z. omega arith) in
      let central : get_or words 0 0 ≡ get_or s.words 0 0 = get_or-set_other s.words (1 + 2 * x) 0 (e + 4) 0 (λ z. omega arith) in
      let elsewhere : (l : ℕ) → l ≢ x → at' l ≡ at l = λ l nx. desk-same s.words words s.homes homes o.posted o.posted o.answered o.answered l
      (get_or-set_other s.words (1 + 2 * x) (1 + 2 * l) (e + 4) 0 (λ z. nx (omega arith))) (links l)
      (set_else homes₂ 0 (1 + 2 * l) (some (Some k.value)) (λ z. omega arith) ∙ set_else homes₁ (1 + 2 * x) (1 + 2 * l) (some (Some j)) (λ z. nx (omega arith)) ∙ set_else s.homes (2 + 2 * x) (1 + 2 * l) (some y) (λ z. omega arith))
      (set_else homes₂ 0 (2 + 2 * l) (some (Some k.value)) (λ z. omega arith) ∙ set_else homes₁ (1 + 2 * x) (2 + 2 * l) (some (Some j)) (λ z. omega arith) ∙ set_else s.homes (2 + 2 * x) (2 + 2 * l) (some y) (λ z. nx (omega arith))) refl refl in
      let q' = queued-words nodes s.words words ((x, b, Some j) ∷ o.older) o.newer k.first k.end k.mark central q in
      subst (λ (c : List (ℕ × Option P)). Lawful rule nodes (stepped s i new id c w (chain gives (chain gives gives)))) (sym hand)
      (subst (λ (z : ℕ × ℕ). Lawful rule nodes record { words = set s.words z.0 z.1; homes = homes; views = set s.views id w }) (λ z. (sym at-word z, sym what z))
      (restaged rule nodes s o id m.0 w words homes o.posted o.answered (granted x b (Some j) e) o.older o.newer o.done o.value x me live-now refl refl (omega arith) (λ _. refl) (length-set s.words (1 + 2 * x) (e + 4)) (length-set homes₂ 0 (some (Some k.value)) ∙ long₂) (λ l _. links l)
      (λ f. (f, links n ∙ o.unlinked id m.0 n me live-now f (covers-own rule nodes s o m.0 live-now)))
      (λ g waking. omega (arith, ap (g n) mine, ap (owner_weight g) (o.owned id m.0 k me mine), ap (λ (z : Option (Next P)). line_weight g (front z [])) next, (waking n).0))
      (λ l z. absurd (cc)) (λ l u r nl there z. absurd (one_owner rule nodes s o id l m.0 u k r nl me there mine z))
      elsewhere
      (subst (λ (d : Desk P). Seated Idle d) (sym (elsewhere n ne)) (rested.0, (seat.1, rested.1, seat.2)))
      (λ l u nl there live-u z. waits_there rule nodes s o id m.0 k x at' me mine (omega arith) (λ c. noted-same c (at x) (at' x) refl refl) l u nl there live-u z)
      (covers_awake rule nodes s o x (omega arith))
      (waits-other at at' x elsewhere o.older (omega arith) o.old_waits) (waits-other at at' x elsewhere o.newer (omega arith) o.new_waits) (done-other at at' x elsewhere o.done (omega arith) o.finished) (
        record {
          old_line = q.old_line.1;
          new_line = subst (λ (z : ℕ). Line (get_or words 0 0) o.newer z) one q'.new_line;
          marked = omega arith;
          low_end = q.low_end;
          low_mark = omega arith;
          past_end = omega (arith, q.past_end);
          past_mark = subst (λ (z : ℕ). named z o.newer ≡ 0) one q.past_mark;
          taken = λ _. refl;
        },
        (
          get_or-set_same s.words (1 + 2 * x) (e + 4) 0 (omega (arith, o.wide)),
          (y, set_else homes₂ 0 (2 + 2 * x) (some (Some k.value)) (λ z. omega arith) ∙ set_else homes₁ (1 + 2 * x) (2 + 2 * x) (some (Some j)) (λ z. omega arith) ∙ set_here s.homes (2 + 2 * x) (some y) (omega (arith, o.long))),
          t.4,
          (set_else homes₂ 0 (1 + 2 * x) (some (Some k.value)) (λ z. omega arith) ∙ set_here homes₁ (1 + 2 * x) (some (Some j)) (omega (arith, o.long, long₁)), t.3),
        ),
        set_here homes₂ 0 (some (Some k.value)) (omega (arith, o.long, long₂)) ∙ ap (λ (z : P). some (some (Some z))) h.4,
      )
      (parts-same rule nodes s.views id m.0 w o.value o.posted o.answered me refl o.goods_rule)))
