-- A waiting node stores what its swap found in its link.
use Rattle.std.proofs.Common.{◌≡◌, ◌≢◌, ℕ, ◌+◌, ◌*◌, ◌<◌, ◌≤◌, List, [], ◌∷◌, set, get_or, length-set, get_or-set_same, get_or-set_other, Option, Some, None, true≢false, refl, sym, ap, ◌∙◌, subst, inr, arith, cond, nat_eq, eq-eqb, ne_eqb}
use mathlib.Core.Option.{none, Option as Maybe}
use mathlib.Core.Logic.{dite}
use native.Mathlib.Decide.{ℕ_discrete}
use Rattle.atomic_table.specs.Table.{step, keeps, Allows}
use Rattle.waiter_chain.specs.declared.view.View.{View}
use Rattle.waiter_chain.specs.declared.view.Next.{Next}
use Rattle.waiter_chain.specs.declared.view.StepKind.TheVariants.{StoreLink}
use Rattle.waiter_chain.specs.declared.view.Stage.{Stage}
use Rattle.waiter_chain.specs.declared.view.Stage.TheVariants.{Idle, Holding, Cleared, Ready, Behind, Owns, Done}
use Rattle.waiter_chain.specs.Goods.{Goods, goods}
use Rattle.waiter_chain.specs.Chains.{Waiter, part_of, desk, Desk, Seated, Keeps, Waits, Taken, Finished, Granted, AllWait, AllDone, HasTaken, front, Weight, weigh, line_weight, Owner, nobody, turn, granted, owner_weight, Held, Lawful}
use Rattle.waiter_chain.specs.Steps.{SeatState, entry, linked_by, linking}
use Rattle.view_sums.specs.Sums.{same, same-refl, same-ne, same-eq, same-pos, term_le, map-set_same}
use Rattle.waiter_chain.proofs.Rules.{has, awake, desk-same, noted-same, queued-words, live, once, low_number, numbers_apart, covers_mine, restaged}

module _ {P : Type 0} where
  -- a node of this number waits behind this word, with a job or without one
  abbrev pub waits_at : ℕ → ℕ → Weight P
  waits_at n b m Idle = 0
  waits_at n b m Holding = 0
  waits_at n b m (Cleared j) = 0
  waits_at n b m (Ready j) = 0
  waits_at n b m (Behind c j) = cond (nat_eq m n) (same c b) 0
  waits_at n b m (Owns k) = 0
  waits_at n b m (Done j a) = 0

at-le : (P : Type 0) (n b m c : ℕ) (j : Option P) → waits_at {P = P} n b m (Behind c j) ≤ same m n
at-le P n b m c j = dite (ℕ_discrete m n)
    (λ z. dite (ℕ_discrete c b) (λ y. omega (arith, ap {B = ℕ} (λ t. cond t (same c b) 0) (eq-eqb m n z), same-eq c b y, same-eq m n z)) (λ y. omega (arith, ap {B = ℕ} (λ t. cond t (same c b) 0) (eq-eqb m n z), same-ne c b y)))
    (λ nz. omega (arith, ap {B = ℕ} (λ t. cond t (same c b) 0) (ne_eqb m n nz)))

ats-le : (P : Type 0) (n b : ℕ) (xs : List (Waiter P)) → line_weight {P = P} (waits_at n b) xs ≤ has n xs
ats-le P n b [] = omega arith
ats-le P n b (x ∷ xs) = omega (arith, at-le P n b x.0 x.1 x.2, ats-le P n b xs)

module _ {P : Type 0} where
  owner-at : (n b : ℕ) (o : Owner P) → owner_weight (waits_at n b) o ≤ owner_weight (awake n) o
  owner-at n b nobody = omega arith
  owner-at n b (turn k r) = omega (arith, ats-le P n b (front r.next []))
  owner-at n b (granted k c j e) = at-le P n b k c j

  abbrev with_link : Desk P → ℕ → Desk P
  with_link d l = record { status = d.status; link = l; job = d.job; answer = d.answer; posted = d.posted; answered = d.answered }

  -- what lies in a waiting node's job slot does not hang on its link
  keeps-link : (j : Option P) (d : Desk P) (l : ℕ) → Keeps j d → Keeps j (with_link d l)
  keeps-link (Some j) d l h = h
  keeps-link None d l h = h

  module _ (at at' : ℕ → Desk P) (k b : ℕ) (elsewhere : (n : ℕ) → n ≢ k → at' n ≡ at n) (here : at' k ≡ with_link (at k) b) where
    -- a fact that does not read the link
    keeps-fact : (F : Desk P → Type 0) → ((d : Desk P) (l : ℕ) → F d → F (with_link d l)) → (n : ℕ) → F (at n) → F (at' n)
    keeps-fact F unread n h = dite (ℕ_discrete n k) (λ e. subst (λ i. F (at' i)) (sym e) (subst F (sym here) (unread (at k) b (subst (λ i. F (at i)) e h)))) (λ ne. subst F (sym (elsewhere n ne)) h)

    waits-link : (xs : List (Waiter P)) → has k xs ≤ line_weight {P = P} (waits_at k b) xs → AllWait at xs → AllWait at' xs
    waits-link [] all h = tt
    waits-link (x ∷ xs) all h = (
      dite (ℕ_discrete x.0 k)
          (λ e. let same-b : x.1 ≡ b = same-pos x.1 b (omega (arith, same-eq x.0 k e, ats-le P k b xs, ap {B = ℕ} (λ t. cond t (same x.1 b) 0) (eq-eqb x.0 k e))) in
          subst (λ i. Waits x.1 x.2 (at' i)) (sym e) (subst (Waits x.1 x.2) (sym here) (let w : Waits x.1 x.2 (at k) = subst (λ i. Waits x.1 x.2 (at i)) e h.0 in (inr (sym same-b), w.1, w.2, w.3, keeps-link x.2 (at k) b w.4))))
          (λ ne. subst (Waits x.1 x.2) (sym (elsewhere x.0 ne)) h.0),
      waits-link xs (omega (arith, at-le P k b x.0 x.1 x.2, ats-le P k b xs)) h.1,
    )

    done-link : (xs : List (Waiter P)) → AllDone at xs → AllDone at' xs
    done-link [] h = tt
    done-link (x ∷ xs) h = ((h.0.0, h.0.1, keeps-fact (Finished h.0.0) (λ d l f. f) x.0 h.0.2), done-link xs h.1)

    taken-link : (y : Option (Next P)) → has k (front y []) ≤ line_weight {P = P} (waits_at k b) (front y []) → HasTaken at y → HasTaken at' y
    taken-link None all h = tt
    taken-link (Some x) all h = dite (ℕ_discrete x.node k)
        (λ e. let same-b : x.behind ≡ b = same-pos x.behind b (omega (arith, all, same-eq x.node k e, ap {B = ℕ} (λ t. cond t (same x.behind b) 0) (eq-eqb x.node k e))) in
        let t : Taken x.behind x.job (at k) = subst (λ i. Taken x.behind x.job (at i)) e h in
        subst (λ i. Taken x.behind x.job (at' i)) (sym e) (subst (Taken x.behind x.job) (sym here) (t.0, t.1, t.2, t.3, t.4, sym same-b)))
        (λ ne. subst (Taken x.behind x.job) (sym (elsewhere x.node ne)) h)

    held-link : (nodes : ℕ) (words words' : List ℕ) (homes : List (Maybe (Option P))) (older newer : List (Waiter P)) (value : P) (o : Owner P) → owner_weight (awake k) o ≤ owner_weight {P = P} (waits_at k b) o → get_or words' 0 0 ≡ get_or words 0 0
        → Held nodes words homes at older newer value o → Held nodes words' homes at' older newer value o
    held-link nodes words words' homes older newer value nobody all c h = (c ∙ h.0, h.1, h.2, h.3)
    held-link nodes words words' homes older newer value (turn n r) all c h = (queued-words nodes words words' (front r.next older) newer r.first r.end r.mark c h.0, h.1, h.2, h.3, h.4, taken-link r.next (omega (arith, all)) h.5, h.6)
    held-link nodes words words' homes older newer value (granted n q j e) all c h = (queued-words nodes words words' older newer q e 1 c h.0, keeps-fact (Granted j e) (λ d l f. (f.0, f.1, f.2, keeps-link j d l f.3)) n h.1, h.2)

module _ {P : Type 0} (rule : Goods P → Type 0) (nodes : ℕ) where
  pub links : (slots id : ℕ) (m : SeatState P) (b i : ℕ) (j : Option P) → m.0.stage ≡ Behind b j → i ≡ 2 + 2 * m.0.number → Allows (Lawful rule nodes) slots id m i (λ _. b) (λ _. linking (step slots i b 0 none) m b)
  links slots id m b i j mine is s o long me _ =
      let n : ℕ = m.0.number in let g : Weight P = waits_at n b in let a : Weight P = awake n in
      let words : List ℕ = set s.words (2 + 2 * n) b in
      let at : ℕ → Desk P = desk s.words s.homes o.posted o.answered in let at' : ℕ → Desk P = desk words s.homes o.posted o.answered in
      let live-now = live rule nodes s o id m.0 me (λ z. behind-idle b j (sym mine ∙ z)) in
      let low = low_number rule nodes s o id m.0 me live-now in
      let elsewhere : (l : ℕ) → l ≢ n → at' l ≡ at l = λ l ne. desk-same s.words words s.homes s.homes o.posted o.posted o.answered o.answered l
      (get_or-set_other s.words (2 + 2 * n) (1 + 2 * l) b 0 (λ e. omega arith)) (get_or-set_other s.words (2 + 2 * n) (2 + 2 * l) b 0 (λ e. ne (omega arith))) refl refl refl refl in
      let here : at' n ≡ with_link (at n) b = λ t. record { status = get_or-set_other s.words (2 + 2 * n) (1 + 2 * n) b 0 (λ e. omega arith) t; link = get_or-set_same s.words (2 + 2 * n) b 0 (omega (arith, o.wide)) t; job = (at n).job; answer = (at n).answer; posted = (at n).posted; answered = (at n).answered } in
      let spots : 0 < line_weight g o.older + line_weight g o.newer + line_weight g o.done + owner_weight g o.owner =
      omega (arith, o.standing g (λ x. (refl, refl, (λ h. refl), (λ h. refl), λ y a. refl)), term_le (weigh g) s.views id m.0 me, ap (g n) mine, ap {B = ℕ} (λ t. cond t (same b b) 0) (eq-eqb n n refl), same-refl b) in
      let counted = once rule nodes s o n in let os = owner-at n b o.owner in
      let w : View P = linked_by m.0 (entry m.0 StoreLink i b) in (
        w,
        keeps,
        tt,
        subst (λ (l : ℕ). Lawful rule nodes record { words = set s.words l b; homes = s.homes; views = set s.views id w }) (sym is)
            (restaged rule nodes s o id m.0 w words s.homes o.posted o.answered o.owner o.older o.newer o.done o.value n me live-now refl refl (omega arith) (λ _. refl) (length-set s.words (2 + 2 * n) b) refl
            (λ l ne. get_or-set_other s.words (2 + 2 * n) (2 + 2 * l) b 0 (λ e. ne (omega arith))) (λ e. absurd (true≢false e))
            (λ _ _. refl) (λ r e. o.owned id m.0 r me e) (λ l u r _ there e. o.owned l u r there e) elsewhere
            (subst (λ (x : Stage P). Seated x (at' n)) (sym mine) (noted-same j (at n) (at' n) refl refl (subst (λ (x : Stage P). Seated x (at n)) mine (o.seated id m.0 me live-now))))
            (λ l u ne there live-u e. absurd (numbers_apart rule nodes s o id l m.0 u ne me there live-now live-u e)) (covers_mine rule nodes s o id m.0 me live-now)
            (waits-link at at' n b elsewhere here o.older (omega (arith, ats-le P n b o.older, ats-le P n b o.newer, ats-le P n b o.done)) o.old_waits)
            (waits-link at at' n b elsewhere here o.newer (omega (arith, ats-le P n b o.older, ats-le P n b o.newer, ats-le P n b o.done)) o.new_waits)
            (done-link at at' n b elsewhere here o.done o.finished)
            (held-link at at' n b elsewhere here nodes s.words words s.homes o.older o.newer o.value o.owner (omega (arith, ats-le P n b o.older, ats-le P n b o.newer, ats-le P n b o.done)) (get_or-set_other s.words (2 + 2 * n) 0 b 0 (λ e. omega arith)) o.held)
            (subst (λ ps. rule (goods o.value o.posted o.answered ps)) (sym (map-set_same part_of s.views id m.0 w me refl)) o.goods_rule)),
        refl,
      )
    where
      behind-idle : (x : ℕ) (y : Option P) → ◌≡◌ {A = Stage P} (Behind x y) Idle → ⊥
      behind-idle x y e = cc
