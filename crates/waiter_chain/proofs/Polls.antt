-- The step by which a node that waits with no job reads its own status.
use Rattle.std.proofs.Common.{◌≡◌, ◌≢◌, ◌⊎◌, ℕ, ◌+◌, ◌-◌, ◌*◌, ◌<◌, ◌≤◌, List, [], ◌∷◌, ◌++◌, set, get_or, length-set, Option, Some, None, false, true≢false, refl, sym, ap, ◌∙◌, subst, inl, inr, ⊎_elim, arith, cond, eq-eqb, ne_eqb}
use mathlib.Core.Option.{some, none, Option as Maybe}
use mathlib.Core.Logic.{dite}
use native.Mathlib.Decide.{ℕ_discrete, dec_lt}
use lib.ListN.{get_elem?}
use Rattle.atomic_table.specs.Table.{State, step, keeps, takes, Allows}
use Rattle.atomic_table.proofs.Lists.{set_here, set_else}
use Rattle.waiter_chain.specs.declared.view.View.{View}
use Rattle.waiter_chain.specs.declared.view.Next.{Next}
use Rattle.waiter_chain.specs.declared.view.Ownership.{Ownership}
use Rattle.waiter_chain.specs.declared.view.Stage.{Stage}
use Rattle.waiter_chain.specs.declared.view.Stage.TheVariants.{Idle, Holding, Cleared, Ready, Behind, Owns, Done}
use Rattle.waiter_chain.specs.declared.view.StepKind.TheVariants.{LoadStatus}
use Rattle.waiter_chain.specs.Goods.{part, Goods}
use Rattle.waiter_chain.specs.Chains.{Waiter, Line, desk, Desk, kind, AllWait, AllDone, front, Weight, weigh, line_weight, Owner, owner_weight, nobody, turn, granted, Queued, Held, Lawful}
use Rattle.waiter_chain.specs.Steps.{Sound, SeatState, Ranged, ownership, entry, moved, polled_plain}
use Rattle.view_sums.specs.Sums.{same, same-refl, same-pos, term_le, set_self}
use Rattle.waiter_chain.proofs.Rules.{awake, once, sound, owns-injective, spot, has, desk-same, waits-other, done-other, live, low_node, restaged-own, unmoved, parts-same}

-- the head of a line that is not empty
pub line_head : {P : Type 0} (v w : ℕ) (xs : List (Waiter P)) → Line v xs w → v ≢ w → (n : ℕ) × (v ≡ n + 2) × (0 < has n xs)
line_head v w [] h ne = absurd (ne h)
line_head v w (x ∷ xs) h ne = (x.0, h.0, omega (arith, same-refl x.0))

-- a line's first word and its end are in bounds
pub ranged : {P : Type 0} (nodes slots first end : ℕ) (xs : List (Waiter P)) → slots ≡ 1 + 2 * nodes → ((n : ℕ) → 0 < has n xs → n < nodes) → Line first xs end → end < nodes + 2 → Ranged slots first end
ranged nodes slots first end xs is low line low-end =
    (omega arith, λ ne. let t = line_head first end xs line ne in let l = low t.0 t.2 in (omega (arith, t.1), omega (arith, t.1)))

-- what the weight of one waiting node says of a node
spot-is : (P : Type 0) (n b m c : ℕ) (j : Option P) → 0 < spot {P = P} n b m (Behind c j) → (m ≡ n) × (c ≡ b) × (j ≡ None)
spot-is P n b m c None h = dite (ℕ_discrete m n)
    (λ z. (z, same-pos c b (omega (arith, h, ap {B = ℕ} (λ x. cond x (same c b) 0) (eq-eqb m n z))), refl))
    (λ nz. absurd (omega (arith, h, ap {B = ℕ} (λ x. cond x (same c b) 0) (ne_eqb m n nz))))
spot-is P n b m c (Some j) h = absurd (omega arith)

pub spot-self : (P : Type 0) (n b : ℕ) → spot {P = P} n b n (Behind b None) ≡ 1
spot-self P n b = ap {B = ℕ} (λ t. cond t (same b b) 0) (eq-eqb n n refl) ∙ same-refl b

-- no node with a job counts
spot-job : (P : Type 0) (n b m c : ℕ) (i : P) (j : Option P) → j ≡ Some i → spot {P = P} n b m (Behind c j) ≡ 0
spot-job P n b m c i j t = ap (λ (x : Option P). spot {P = P} n b m (Behind c x)) t

module _ {P : Type 0} where
  -- a node that waits in a line with no job has the status 1
  line-spot : (n b : ℕ) (at : ℕ → Desk P) (xs : List (Waiter P)) → AllWait at xs → 0 < line_weight {P = P} (spot n b) xs → (at n).status ≡ 1
  line-spot n b at [] w h = absurd (omega arith)
  line-spot n b at (x ∷ xs) w h = dite (dec_lt 0 (spot {P = P} n b x.0 (Behind x.1 x.2)))
      (λ l. let i = spot-is P n b x.0 x.1 x.2 l in subst (λ (m : ℕ). (at m).status ≡ 1) i.0 (w.0.1 ∙ ap kind i.2))
      (λ l. line-spot n b at xs w.1 (omega arith))

  done-spot : (n b : ℕ) (at : ℕ → Desk P) (xs : List (Waiter P)) → AllDone at xs → line_weight {P = P} (spot n b) xs ≡ 0
  done-spot n b at [] w = refl
  done-spot n b at (x ∷ xs) w = omega (arith, spot-job P n b x.0 x.1 w.0.0 x.2 w.0.1, done-spot n b at xs w.1)

  front-spot : (n b : ℕ) (y : Option (Next P)) → line_weight {P = P} (spot n b) (front y []) ≡ 0
  front-spot n b None = refl
  front-spot n b (Some x) = refl

  -- a granted node, or none: what the weight of one node says of the owner
  pub granted-spot : (n b : ℕ) (o : Owner P) → 0 < owner_weight (spot n b) o → (e : ℕ) × (o ≡ granted n b None e)
  granted-spot n b nobody h = absurd (omega arith)
  granted-spot n b (turn k r) h = absurd (omega (arith, front-spot n b r.next))
  granted-spot n b (granted k c j e) h = let i = spot-is P n b k c j h in (e, λ z. granted (i.0 z) (i.1 z) (i.2 z) e)

  behind_of : Stage P → ℕ
  behind_of (Behind b j) = b
  behind_of Idle = 0
  behind_of Holding = 0
  behind_of (Cleared j) = 0
  behind_of (Ready j) = 0
  behind_of (Owns k) = 0
  behind_of (Done j a) = 0

  granted-turn : (n b e m : ℕ) (k : Ownership P) → turn m k ≡ granted n b None e → ⊥
  granted-turn n b e m k q = cc

pub behind-idle : (P : Type 0) (b : ℕ) (j : Option P) → ◌≡◌ {A = Stage P} (Behind b j) Idle → ⊥
behind-idle P b j e = cc

pub behind-injective : (P : Type 0) (b c : ℕ) (j k : Option P) → ◌≡◌ {A = Stage P} (Behind b j) (Behind c k) → b ≡ c
unfolding behind_of
behind-injective P b c j k e = ap behind_of e

module _ {P : Type 0} (rule : Goods P → Type 0) (nodes : ℕ) where
  -- a node that waits with no job is in one of the lines, or was granted
  pub waiting : (s : State (Option P) (View P)) (o : Lawful rule nodes s) (id : ℕ) (v : View P) (b : ℕ) → get_elem? s.views id ≡ some v → v.stage ≡ Behind b None
      → ((e : ℕ) × (o.owner ≡ granted v.number b None e)) ⊎ ((desk s.words s.homes o.posted o.answered v.number).status ≡ 1)
  waiting s o id v b me mine = let n : ℕ = v.number in let g : Weight P = spot n b in let at : ℕ → Desk P = desk s.words s.homes o.posted o.answered in
      let there : 0 < line_weight g o.older + line_weight g o.newer + owner_weight g o.owner =
      omega (arith, o.standing g (λ m. (refl, refl, (λ j. refl), (λ j. refl), λ j a. refl)), term_le (weigh g) s.views id v me, ap (g n) mine, spot-self P n b, done-spot n b at o.done o.finished) in
      dite (dec_lt 0 (owner_weight g o.owner))
      (λ h. inl (granted-spot n b o.owner h))
      (λ h. dite (dec_lt 0 (line_weight g o.older)) (λ l. inr (line-spot n b at o.older o.old_waits l))
      (λ l. inr (line-spot n b at o.newer o.new_waits (omega (arith, there)))))

  pub polls : (known : Goods P → Type 0) → ((g : Goods P) → rule g → known g) → (slots id : ℕ) (m : SeatState P) (k b : ℕ) → m.0.stage ≡ Behind b None → k ≡ 1 + 2 * m.0.number → Allows (Lawful rule nodes) slots id m k (λ x. x) (polled_plain known (step slots k 0 0 none) m)
  polls known tells slots id m k b mine is s o long me _ =
      let n : ℕ = m.0.number in let r : ℕ = get_or s.words k 0 in let y : P = o.value in
      let live-now = live rule nodes s o id m.0 me (λ z. behind-idle P b None (sym mine ∙ z)) in
      let at : ℕ → Desk P = desk s.words s.homes o.posted o.answered in
      let read : r ≡ (at n).status = ap (λ (i : ℕ). get_or s.words i 0) is in
      ⊎_elim
      (λ (t : (e : ℕ) × (o.owner ≡ granted n b None e)).
      let e : ℕ = t.0 in
      let h : Held nodes s.words s.homes at o.older o.newer y (granted n b None e) = subst (λ x. Held nodes s.words s.homes at o.older o.newer y x) t.1 o.held in
      let end : e ≡ r - 4 = omega (arith, read, h.1.0) in
      let big : 4 ≤ r = omega (arith, read, h.1.0) in
      let q : Queued nodes s.words o.older o.newer b (r - 4) 1 = subst (λ (x : ℕ). Queued nodes s.words o.older o.newer b x 1) end h.0 in
      let w : View P = moved m.0 (Owns (ownership b (r - 4) 1 false y)) (entry m.0 LoadStatus k r) in
      let homes : List (Maybe (Option P)) = set s.homes 0 none in
      let at' : ℕ → Desk P = desk s.words homes o.posted o.answered in
      let job : (i : ℕ) → get_elem? homes (1 + 2 * i) ≡ get_elem? s.homes (1 + 2 * i) = λ i. set_else s.homes 0 (1 + 2 * i) none (λ z. omega arith) in
      let answer : (i : ℕ) → get_elem? homes (2 + 2 * i) ≡ get_elem? s.homes (2 + 2 * i) = λ i. set_else s.homes 0 (2 + 2 * i) none (λ z. omega arith) in
      let same-desk : (i : ℕ) → at' i ≡ at i = λ i. desk-same s.words s.words s.homes homes o.posted o.posted o.answered o.answered i refl refl (job i) (answer i) refl refl in
      let here = h.1 in let counted = once rule nodes s o n in
      let ours : owner_weight {P = P} (awake n) o.owner ≡ same n n = ap (owner_weight {P = P} (awake n)) t.1 in let one = same-refl n in (
        w,
        takes 0 (Some y),
        h.2,
        subst (λ (ws : List ℕ). Lawful rule nodes record { words = ws; homes = homes; views = set s.views id w }) (sym (set_self s.words k))
            (restaged-own rule nodes s o id m.0 w s.words homes o.posted o.answered (turn n (ownership b (r - 4) 1 false y)) o.older o.newer o.done y me live-now refl refl refl (omega arith) (λ _. refl) refl (length-set s.homes 0 none) (λ _. refl)
            (λ g waking. omega (arith, ap (g n) mine, ap (owner_weight g) t.1))
            (λ j z. ap (turn n) (owns-injective _ _ z)) (λ j u j' _ there z. absurd (granted-turn _ _ _ _ _ (sym (o.owned j u j' there z) ∙ t.1)))
            (λ i _. same-desk i) (((here.3.0.0, job n ∙ here.3.0.1), here.3.1), (here.1.0, answer n ∙ here.1.1), here.2)
            (waits-other at at' n (λ i _. same-desk i) o.older (omega arith) o.old_waits) (waits-other at at' n (λ i _. same-desk i) o.newer (omega arith) o.new_waits) (done-other at at' n (λ i _. same-desk i) o.done (omega arith) o.finished)
            (q, inl refl, (λ z. absurd (true≢false (sym z))), set_here s.homes 0 none (omega (arith, o.long)), refl, tt, tt)
            (parts-same rule nodes s.views id m.0 w y o.posted o.answered me refl o.goods_rule)),
        λ c z. (
          (λ small. absurd (omega arith)),
          λ _. subst (λ (x : ℕ). Ranged slots x (r - 4) × ((y' : P) × ◌≡◌ {A = SeatState P} (w, (0, Some y) ∷ m.1) (moved m.0 (Owns (ownership x (r - 4) 1 false y')) (entry m.0 LoadStatus k r), (0, Some y') ∷ m.1) × Sound known y' (part m.0.number m.0.quota m.0.own))) (behind-injective P b c None None (sym mine ∙ z))
              (ranged nodes slots b (r - 4) o.older (sym long ∙ o.long) (λ i l. low_node rule nodes s o i (omega arith)) q.old_line q.low_end, (y, refl, sound rule nodes known tells s o id m.0 me)),
        ),
      ))
      (λ (one : (at n).status ≡ 1). (
        moved m.0 m.0.stage (entry m.0 LoadStatus k r),
        keeps,
        tt,
        unmoved rule nodes s o id m k (m.0.steps ++ entry m.0 LoadStatus k r ∷ []) me live-now,
        λ c z. ((λ _. (read ∙ one, refl)), λ big. absurd (omega (arith, read))),
      ))
      (waiting s o id m.0 b me mine)
