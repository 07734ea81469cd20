-- An owner takes the job slot and the answer slot of the next node, and gives them back with the answer.
use Rattle.std.proofs.Common.{◌≡◌, ◌≢◌, ℕ, ◌+◌, ◌-◌, ◌*◌, List, [], ◌∷◌, map, set, get_or, length-set, get_or-set_same, get_or-set_other, Option, Some, None, Bool, true, refl, sym, ap, ◌∙◌, subst, inr, ⊎_elim, arith}
use mathlib.Core.Option.{some, none, some-injective, some-ne-none, Option as Maybe}
use mathlib.Core.Logic.{dite}
use native.Mathlib.Decide.{ℕ_discrete}
use lib.ListN.{get_elem?}
use Rattle.atomic_table.specs.Table.{keeps, takes, gives, chain, Allows, stepped, carried_after}
use Rattle.atomic_table.proofs.Lists.{set_here, set_else, at_map}
use Rattle.waiter_chain.specs.declared.view.View.{View}
use Rattle.waiter_chain.specs.declared.view.Next.{Next}
use Rattle.waiter_chain.specs.declared.view.Ownership.{Ownership}
use Rattle.waiter_chain.specs.declared.view.OwnSlot.{OwnSlot}
use Rattle.waiter_chain.specs.declared.view.OwnSlot.TheVariants.{Unused, InHand, Unrun}
use Rattle.waiter_chain.specs.declared.view.StepEntry.{StepEntry}
use Rattle.waiter_chain.specs.declared.view.Stage.TheVariants.{Behind, Owns}
use Rattle.waiter_chain.specs.Goods.{Goods, goods, part, put, Serves}
use Rattle.waiter_chain.specs.Chains.{Waiter, Line, part_of, desk, Desk, Seated, Mine, owed, Noted, Waits, Taken, AllWait, HasTaken, HasSeen, front, line_weight, turn, owner_weight, Queued, Lawful}
use Rattle.waiter_chain.specs.Steps.{SeatState, SoundNext, with_steps, with_next, served}
use Rattle.view_sums.specs.Sums.{same, same-refl, same-eq, set_self, map-set_same}
use Rattle.waiter_chain.proofs.Rules.{has, awake, owns-injective, noted-same, desk-same, put-other, put-here, waits-other, done-other, covers-own, covers_awake, once, low_node, one_owner, unmoved, restaged}
use Rattle.waiter_chain.proofs.Frees.{held_by, live-owner, owner_seat}
use Rattle.waiter_chain.proofs.Grants.{line_cut, waits_there}

module _ {P : Type 0} where
  -- what the owner has posted is its job that has not run
  pub mine_owed : (y : OwnSlot P) (d : Desk P) → Mine y d → d.posted ≡ owed y
  mine_owed Unused d h = h.1
  mine_owed InHand d h = h.1
  mine_owed (Unrun j) d h = h.1

  -- who noted a job finds that job answered
  answers : (j answer : P) (d d' : Desk P) → d.posted ≡ some j → d.answered ≡ none → d'.answered ≡ some (j, answer) → (y : Option P) → Noted y d → Noted y d'
  answers j answer d d' was empty now None h = tt
  answers j answer d d' was empty now (Some i) h = ⊎_elim
      (λ (z : d.posted ≡ some i). let same : j ≡ i = some-injective j i (sym was ∙ z) in inr (answer, now ∙ (λ t. some (same t, answer))))
      (λ (z : (a : P) × (d.answered ≡ some (i, a))). absurd (some-ne-none (i, z.0) (sym z.1 ∙ empty))) h

module _ {P : Type 0} (rule : Goods P → Type 0) (nodes : ℕ) where
  -- a load of the next node's link, where its status was found to be 2
  pub takes-job : (known : Goods P → Type 0) → ((g : Goods P) → rule g → known g) → (slots id : ℕ) (m : SeatState P) (k : Ownership P) (i : ℕ) (steps : ℕ → List StepEntry) → m.0.stage ≡ Owns k → k.next ≡ None → k.job_waits ≡ true → k.first ≢ k.end → i ≡ 2 + 2 * (k.first - 2)
      → Allows (Lawful rule nodes) slots id m i (λ x. x)
      (λ r n. (r ≡ 0 → n ≡ (with_steps m.0 m.0.stage (steps r), m.1)) × (r ≢ 0 → (j : P) × (a : Option P) × (n ≡ (with_steps m.0 (Owns (with_next k (k.first - 2) r j)) (steps r), (2 + 2 * (k.first - 2), a) ∷ (1 + 2 * (k.first - 2), Some j) ∷ m.1)) × (m.0.number ≢ k.first - 2) × SoundNext known k.value (part m.0.number m.0.quota m.0.own) (k.first - 2) j (owed k.mine)))
  takes-job known tells slots id m k i steps mine no-next seen some-left is s o long me _ =
      let x : ℕ = k.first - 2 in let r : ℕ = get_or s.words i 0 in let n : ℕ = m.0.number in
      let at : ℕ → Desk P = desk s.words s.homes o.posted o.answered in
      let h = held_by rule nodes s o id m.0 k me mine in
      let live-now = live-owner rule nodes s o id m.0 k me mine in
      let q : Queued nodes s.words o.older o.newer k.first k.end k.mark = subst (λ (y : Option (Next P)). Queued nodes s.words (front y o.older) o.newer k.first k.end k.mark) no-next h.0 in
      let cut = line_cut k.first k.end o.older q.old_line some-left in let ys : List (Waiter P) = cut.1 in let b : ℕ = cut.0.1 in
      let node : cut.0.0 ≡ x = omega (arith, cut.3) in
      let job = subst (λ (l : List (Waiter P)). HasSeen true l) cut.2 (subst (λ (c : Bool). HasSeen c o.older) seen h.6) in let j : P = job.0 in let with_job : cut.0.2 ≡ Some j = job.1 in
      let older : o.older ≡ (x, b, Some j) ∷ ys = cut.2 ∙ (λ t. (node t, b, with_job t) ∷ ys) in
      let waits : Waits b (Some j) (at x) × AllWait at ys = subst (AllWait at) older o.old_waits in
      let read : r ≡ (at x).link = ap (λ (y : ℕ). get_or s.words y 0) is in
      dite (ℕ_discrete r 0)
      (λ zero-link. (with_steps m.0 m.0.stage (steps r), keeps, tt, unmoved rule nodes s o id m i (steps r) me live-now, ((λ _. refl), λ ne. absurd (ne zero-link))))
      (λ linked.
      let link : r ≡ b = ⊎_elim (λ (z : (at x).link ≡ 0). absurd (linked (read ∙ z))) (λ (z : (at x).link ≡ b). read ∙ z) waits.0.0 in
      let a : Option P = waits.0.2.0 in
      let next : Ownership P = with_next k x r j in
      let w : View P = with_steps m.0 (Owns next) (steps r) in
      let homes₁ : List (Maybe (Option P)) = set s.homes (1 + 2 * x) none in
      let homes : List (Maybe (Option P)) = set homes₁ (2 + 2 * x) none in
      let at' : ℕ → Desk P = desk s.words homes o.posted o.answered in
      let counted = once rule nodes s o x in let here = same-refl x in let split : has x o.older ≡ has x ((x, b, Some j) ∷ ys) = ap (has x) older in
      let low = low_node rule nodes s o x (omega arith) in
      let own : owner_weight {P = P} (awake x) o.owner ≡ same n x + line_weight {P = P} (awake x) (front k.next []) = ap (owner_weight (awake x)) (o.owned id m.0 k me mine) in
      let ne : n ≢ x = λ z. omega (arith, same-eq n x z) in
      let elsewhere : (l : ℕ) → l ≢ x → at' l ≡ at l = λ l nx. desk-same s.words s.words s.homes homes o.posted o.posted o.answered o.answered l refl refl
      (set_else homes₁ (2 + 2 * x) (1 + 2 * l) none (λ e. omega arith) ∙ set_else s.homes (1 + 2 * x) (1 + 2 * l) none (λ e. nx (omega arith)))
      (set_else homes₁ (2 + 2 * x) (2 + 2 * l) none (λ e. nx (omega arith)) ∙ set_else s.homes (1 + 2 * x) (2 + 2 * l) none (λ e. omega arith)) refl refl in
      let seat : Seated (Owns next) (at' n) = subst (Seated (Owns next)) (sym (elsewhere n ne)) (owner_seat rule nodes s o id m.0 k me mine) in
      let answer-home : get_elem? homes₁ (2 + 2 * x) ≡ some (some a) = set_else s.homes (1 + 2 * x) (2 + 2 * x) none (λ e. omega arith) ∙ waits.0.2.1 in
      let one : Queued nodes s.words ((x, r, Some j) ∷ ys) o.newer k.first k.end k.mark = subst (λ (l : List (Waiter P)). Queued nodes s.words l o.newer k.first k.end k.mark) (older ∙ (λ t. (x, sym link t, Some j) ∷ ys)) q in (
        w,
        chain (takes (1 + 2 * x) (Some j)) (takes (2 + 2 * x) a),
        (waits.0.4.0, answer-home),
        subst (λ (ws : List ℕ). Lawful rule nodes record { words = ws; homes = homes; views = set s.views id w }) (sym (set_self s.words i))
            (restaged rule nodes s o id m.0 w s.words homes o.posted o.answered (turn n next) ys o.newer o.done o.value x me live-now refl refl (omega arith) (λ _. refl) refl (length-set homes₁ (2 + 2 * x) none ∙ length-set s.homes (1 + 2 * x) none) (λ _ _. refl)
            (λ f. (f, o.unlinked id m.0 n me live-now f (covers-own rule nodes s o m.0 live-now)))
            (λ g waking. omega (arith, ap (g n) mine, ap (owner_weight g) (o.owned id m.0 k me mine), ap (line_weight g) older, ap (λ (y : Option (Next P)). line_weight g (front y [])) no-next, ap (λ (y : ℕ). g x (Behind y (Some j))) link))
            (λ l z. ap (turn n) (owns-injective _ _ z)) (λ l u p nz there z. absurd (one_owner rule nodes s o id l m.0 u k p nz me there mine z))
            elsewhere seat
            (λ l u nz there live-u e. waits_there rule nodes s o id m.0 k x at' me mine (omega arith) (λ y. noted-same y (at x) (at' x) refl refl) l u nz there live-u e) (covers_awake rule nodes s o x (omega arith))
            (waits-other at at' x elsewhere ys (omega arith) waits.1) (waits-other at at' x elsewhere o.newer (omega arith) o.new_waits) (done-other at at' x elsewhere o.done (omega arith) o.finished) (
              one,
              h.1,
              h.2,
              (set_else homes₁ (2 + 2 * x) 0 none (λ e. omega arith) ∙ set_else s.homes (1 + 2 * x) 0 none (λ e. omega arith) ∙ h.3),
              h.4,
              (
                waits.0.1,
                set_else homes₁ (2 + 2 * x) (1 + 2 * x) none (λ e. omega arith) ∙ set_here s.homes (1 + 2 * x) none (omega (arith, o.long)),
                set_here homes₁ (2 + 2 * x) none (omega (arith, o.long, length-set s.homes (1 + 2 * x) none)),
                waits.0.4.1,
                waits.0.3,
                sym read,
              ),
              tt,
            )
            (subst (λ ps. rule (goods o.value o.posted o.answered ps)) (sym (map-set_same part_of s.views id m.0 w me refl)) o.goods_rule)),
        ((λ z. absurd (linked z)), λ _. (j, a, refl, ne, (goods o.value o.posted o.answered (map part_of s.views), tells _ o.goods_rule, sym h.4, (id, at_map part_of s.views id m.0 me), waits.0.4.1, mine_owed k.mine (at n) (owner_seat rule nodes s o id m.0 k me mine).0))),
      ))

  -- the store of 3 in the status of the node whose job was run
  pub serves : (relates : P → P → P → P → Type 0) → Serves rule nodes relates → (slots id : ℕ) (m : SeatState P) (k : Ownership P) (x b : ℕ) (j answer now : P) (z : Option P) (more : List (ℕ × Option P)) (i : ℕ) (steps : List StepEntry)
      → m.0.stage ≡ Owns k → k.next ≡ Some (record { node = x; behind = b; job = j }) → m.1 ≡ (2 + 2 * x, Some answer) ∷ (1 + 2 * x, z) ∷ (0, Some now) ∷ more → i ≡ 1 + 2 * x → relates k.value j answer now
      → Allows (Lawful rule nodes) slots id m i (λ _. 3) (λ _ n. n ≡ (with_steps m.0 (Owns (served k b now)) steps, (0, Some now) ∷ more))
  serves relates law slots id m k x b j answer now z more i steps mine next hand is ran s o long me _ =
      let n : ℕ = m.0.number in
      let at : ℕ → Desk P = desk s.words s.homes o.posted o.answered in
      let h = held_by rule nodes s o id m.0 k me mine in
      let live-now = live-owner rule nodes s o id m.0 k me mine in
      let q : Queued nodes s.words ((x, b, Some j) ∷ o.older) o.newer k.first k.end k.mark = subst (λ (y : Option (Next P)). Queued nodes s.words (front y o.older) o.newer k.first k.end k.mark) next h.0 in
      let t : Taken b j (at x) = subst (HasTaken at) next h.5 in
      let r : Ownership P = served k b now in
      let w : View P = with_steps m.0 (Owns r) steps in
      let words : List ℕ = set s.words (1 + 2 * x) 3 in
      let homes₁ : List (Maybe (Option P)) = set s.homes (2 + 2 * x) (some (Some answer)) in
      let homes : List (Maybe (Option P)) = set homes₁ (1 + 2 * x) (some z) in
      let posted : ℕ → Maybe P = put o.posted x none in let answered : ℕ → Maybe (P × P) = put o.answered x (some (j, answer)) in
      let at' : ℕ → Desk P = desk words homes posted answered in
      let own : owner_weight {P = P} (awake x) o.owner ≡ same n x + line_weight {P = P} (awake x) (front k.next []) = ap (owner_weight (awake x)) (o.owned id m.0 k me mine) in
      let fronted : line_weight {P = P} (awake x) (front k.next []) ≡ same x x + 0 = ap (λ (y : Option (Next P)). line_weight {P = P} (awake x) (front y [])) next in
      let counted = once rule nodes s o x in let here = same-refl x in
      let low = low_node rule nodes s o x (omega arith) in
      let ne : n ≢ x = λ e. omega (arith, same-eq n x e) in
      let links : (l : ℕ) → get_or words (2 + 2 * l) 0 ≡ get_or s.words (2 + 2 * l) 0 = λ l. get_or-set_other s.words (1 + 2 * x) (2 + 2 * l) 3 0 (λ e. omega arith) in
      let elsewhere : (l : ℕ) → l ≢ x → at' l ≡ at l = λ l nx. desk-same s.words words s.homes homes o.posted posted o.answered answered l
      (get_or-set_other s.words (1 + 2 * x) (1 + 2 * l) 3 0 (λ e. nx (omega arith))) (links l)
      (set_else homes₁ (1 + 2 * x) (1 + 2 * l) (some z) (λ e. nx (omega arith)) ∙ set_else s.homes (2 + 2 * x) (1 + 2 * l) (some (Some answer)) (λ e. omega arith))
      (set_else homes₁ (1 + 2 * x) (2 + 2 * l) (some z) (λ e. omega arith) ∙ set_else s.homes (2 + 2 * x) (2 + 2 * l) (some (Some answer)) (λ e. nx (omega arith)))
      (put-other o.posted x l none nx) (put-other o.answered x l (some (j, answer)) nx) in
      let seat : Seated (Owns r) (at' n) = subst (Seated (Owns r)) (sym (elsewhere n ne)) (owner_seat rule nodes s o id m.0 k me mine) in
      let notes : (y : Option P) → Noted y (at x) → Noted y (at' x) = answers j answer (at x) (at' x) t.3 t.4 (put-here o.answered x (some (j, answer))) in
      let c : get_or words 0 0 ≡ get_or s.words 0 0 = get_or-set_other s.words (1 + 2 * x) 0 3 0 (λ e. omega arith) in (
        w,
        chain gives gives,
        (tt, tt),
        subst (λ (c : List (ℕ × Option P)). Lawful rule nodes (stepped s i 3 id c w (chain gives gives))) (sym hand)
            (subst (λ (y : ℕ). Lawful rule nodes record { words = set s.words y 3; homes = homes; views = set s.views id w }) (sym is)
            (restaged rule nodes s o id m.0 w words homes posted answered (turn n r) o.older o.newer ((x, b, Some j) ∷ o.done) now x me live-now refl refl (omega arith) (λ _. refl) (length-set s.words (1 + 2 * x) 3)
            (length-set homes₁ (1 + 2 * x) (some z) ∙ length-set s.homes (2 + 2 * x) (some (Some answer))) (λ l _. links l)
            (λ f. (f, links n ∙ o.unlinked id m.0 n me live-now f (covers-own rule nodes s o m.0 live-now)))
            (λ g waking. omega (arith, ap (g n) mine, ap (owner_weight g) (o.owned id m.0 k me mine), ap (λ (y : Option (Next P)). line_weight g (front y [])) next))
            (λ l e. ap (turn n) (owns-injective _ _ e)) (λ l u p nz there e. absurd (one_owner rule nodes s o id l m.0 u k p nz me there mine e))
            elsewhere seat
            (λ l u nz there live-u e. waits_there rule nodes s o id m.0 k x at' me mine (omega arith) notes l u nz there live-u e) (covers_awake rule nodes s o x (omega arith))
            (waits-other at at' x elsewhere o.older (omega arith) o.old_waits) (waits-other at at' x elsewhere o.newer (omega arith) o.new_waits) (
              (
                j,
                refl,
                (
                  get_or-set_same s.words (1 + 2 * x) 3 0 (omega (arith, o.wide)),
                  (z, set_here homes₁ (1 + 2 * x) (some z) (omega (arith, o.long, length-set s.homes (2 + 2 * x) (some (Some answer))))),
                  (answer, set_else homes₁ (1 + 2 * x) (2 + 2 * x) (some z) (λ e. omega arith) ∙ set_here s.homes (2 + 2 * x) (some (Some answer)) (omega (arith, o.long)), put-here o.answered x (some (j, answer))),
                  put-here o.posted x none,
                ),
              ),
              done-other at at' x elsewhere o.done (omega arith) o.finished,
            ) (
              record {
                old_line = q.old_line.1;
                new_line = subst (λ (y : ℕ). Line y o.newer k.mark) (sym c) q.new_line;
                marked = q.marked;
                low_end = q.low_end;
                low_mark = q.low_mark;
                past_end = omega (arith, q.past_end);
                past_mark = q.past_mark;
                taken = λ _. q.taken (omega arith);
              },
              h.1,
              h.2,
              (set_else homes₁ (1 + 2 * x) 0 (some z) (λ e. omega arith) ∙ set_else s.homes (2 + 2 * x) 0 (some (Some answer)) (λ e. omega arith) ∙ h.3),
              refl,
              tt,
              tt,
            )
            (subst (λ ps. rule (goods now posted answered ps)) (sym (map-set_same part_of s.views id m.0 w me refl))
            (law (goods o.value o.posted o.answered (map part_of s.views)) x j answer now o.goods_rule low t.3 t.4 (subst (λ y. relates y j answer now) h.4 ran))))),
        ap (λ (c : List (ℕ × Option P)). (w, carried_after c (chain gives gives))) hand,
      )
