-- The rule of a chain says what specs/Shows.antt has in plain words.
use Rattle.std.proofs.Common.{◌≡◌, ◌≢◌, ◌⊎◌, ℕ, zero, suc, ◌+◌, ◌-◌, ◌*◌, ◌<◌, ◌≤◌, List, [], ◌∷◌, get_or, Option, Some, None, refl, sym, ap, ◌∙◌, subst, inl, inr, ⊎_elim, arith, cond, nat_eq, eq-eqb, ne_eqb}
use mathlib.Core.Option.{some, none, some-injective, some-ne-none, Option as Maybe}
use mathlib.Core.Logic.{dite}
use native.Mathlib.Decide.{ℕ_discrete, dec_lt}
use lib.ListN.{get_elem?}
use Rattle.atomic_table.specs.Table.{State}
use Rattle.view_sums.specs.Sums.{same, same-refl, same-eq, same-pos, term_le, find}
use Rattle.waiter_chain.specs.Goods.{Goods}
use Rattle.waiter_chain.specs.declared.view.View.{View}
use Rattle.waiter_chain.specs.declared.view.Next.{Next}
use Rattle.waiter_chain.specs.declared.view.Ownership.{Ownership}
use Rattle.waiter_chain.specs.declared.view.Stage.{Stage}
use Rattle.waiter_chain.specs.declared.view.Stage.TheVariants.{Idle, Holding, Cleared, Ready, Behind, Owns, Done}
use Rattle.waiter_chain.specs.Chains.{Waiter, Line, kind, desk, Desk, Seated, Noted, Filled, IsOut, Waits, Taken, Finished, AllWait, AllDone, HasTaken, front, Weight, weigh, line_weight, Owner, nobody, turn, granted, owner_weight, Held, Lawful}
use Rattle.waiter_chain.specs.Shows.{status_at, link_at, HasNotes, IsGranted, IsOwner, IsWaiting, ChainShows}
use Rattle.waiter_chain.proofs.Rules.{awake, ruling, once, live, one_owner, numbers_apart, was_free}
use Rattle.waiter_chain.proofs.Links.{waits_at}

module _ {P : Type 0} where
  -- a node of this number waits behind this word, and its status is this
  abbrev kinded : ℕ → ℕ → ℕ → Weight P
  kinded n b t m Idle = 0
  kinded n b t m Holding = 0
  kinded n b t m (Cleared j) = 0
  kinded n b t m (Ready j) = 0
  kinded n b t m (Behind c h) = cond (nat_eq m n) (cond (nat_eq c b) (same (kind h) t) 0) 0
  kinded n b t m (Owns k) = 0
  kinded n b t m (Done j a) = 0

  kinded-is : (n b t m c : ℕ) (h : Option P) → 0 < kinded n b t m (Behind c h) → (m ≡ n) × (c ≡ b) × (kind h ≡ t)
  kinded-is n b t m c h pos = dite (ℕ_discrete m n)
      (λ e. let one = ap {B = ℕ} (λ x. cond x (cond (nat_eq c b) (same (kind h) t) 0) 0) (eq-eqb m n e) in dite (ℕ_discrete c b)
      (λ f. (e, f, same-pos (kind h) t (omega (arith, pos, one, ap {B = ℕ} (λ x. cond x (same (kind h) t) 0) (eq-eqb c b f)))))
      (λ nf. absurd (omega (arith, pos, one, ap {B = ℕ} (λ x. cond x (same (kind h) t) 0) (ne_eqb c b nf)))))
      (λ ne. absurd (omega (arith, pos, ap {B = ℕ} (λ x. cond x (cond (nat_eq c b) (same (kind h) t) 0) 0) (ne_eqb m n ne))))

  kinded-self : (n b : ℕ) (h : Option P) → kinded n b (kind h) n (Behind b h) ≡ 1
  kinded-self n b h = ap {B = ℕ} (λ x. cond x (cond (nat_eq b b) (same (kind h) (kind h)) 0) 0) (eq-eqb n n refl) ∙ ap {B = ℕ} (λ x. cond x (same (kind h) (kind h)) 0) (eq-eqb b b refl) ∙ same-refl (kind h)

  waits-self : (n b m c : ℕ) (h : Option P) → m ≡ n → c ≡ b → waits_at n b m (Behind c h) ≡ 1
  waits-self n b m c h e f = ap {B = ℕ} (λ t. cond t (same c b) 0) (eq-eqb m n e) ∙ same-eq c b f

  kind-le : (h : Option P) → kind h ≤ 2
  kind-le None = omega arith
  kind-le (Some j) = omega arith

  pub with-job : (h : Option P) → kind h ≡ 2 → (job : P) × (h ≡ Some job)
  with-job None two = absurd (omega (arith, two))
  with-job (Some j) two = (j, refl)

  -- the older line, with the node whose slots the owner has taken
  abbrev pub whole : Owner P → List (Waiter P) → List (Waiter P)
  whole nobody xs = xs
  whole (turn n r) xs = front r.next xs
  whole (granted n b j e) xs = xs

  front-weight : (g : Weight P) (y : Option (Next P)) (xs : List (Waiter P)) → line_weight g (front y xs) ≡ line_weight g (front y []) + line_weight g xs
  front-weight g None xs = omega arith
  front-weight g (Some x) xs = omega arith

  older-le : (g : Weight P) (o : Owner P) (xs : List (Waiter P)) → line_weight g xs ≤ line_weight g (whole o xs)
  older-le g nobody xs = omega arith
  older-le g (turn n r) xs = omega (arith, front-weight g r.next xs)
  older-le g (granted n b j e) xs = omega arith

  whole-weight : (g : Weight P) (o : Owner P) (xs : List (Waiter P)) → line_weight g (whole o xs) ≤ line_weight g xs + owner_weight g o
  whole-weight g nobody xs = omega arith
  whole-weight g (turn n r) xs = omega (arith, front-weight g r.next xs)
  whole-weight g (granted n b j e) xs = omega arith

  all-status : (at : ℕ → Desk P) (xs : List (Waiter P)) → AllWait at xs → (i : ℕ) (x : Waiter P) → get_elem? xs i ≡ some x → Waits x.1 x.2 (at x.0)
  all-status at [] w i x e = absurd (some-ne-none x (sym e))
  all-status at (y ∷ ys) w zero x e = let same-x = some-injective y x e in subst (λ (z : Waiter P). Waits z.1 z.2 (at z.0)) same-x w.0
  all-status at (y ∷ ys) w (suc i) x e = all-status at ys w.1 i x e

  done-status : (at : ℕ → Desk P) (xs : List (Waiter P)) → AllDone at xs → (i : ℕ) (x : Waiter P) → get_elem? xs i ≡ some x → (j : P) × (x.2 ≡ Some j) × Finished j (at x.0)
  done-status at [] w i x e = absurd (some-ne-none x (sym e))
  done-status at (y ∷ ys) w zero x e = let same-x = some-injective y x e in subst (λ (z : Waiter P). (j : P) × (z.2 ≡ Some j) × Finished j (at z.0)) same-x w.0
  done-status at (y ∷ ys) w (suc i) x e = done-status at ys w.1 i x e

  -- a node whose slots the owner has taken, or one that waits
  abbrev pub Seen : ℕ → Option P → Desk P → Type 0
  Seen b h d = Waits b h d ⊎ ((j : P) × (h ≡ Some j) × Taken b j d)

  front-seen : (at : ℕ → Desk P) (y : Option (Next P)) (xs : List (Waiter P)) → AllWait at xs → HasTaken at y → (i : ℕ) (x : Waiter P) → get_elem? (front y xs) i ≡ some x → Seen x.1 x.2 (at x.0)
  front-seen at None xs w t i x e = inl (all-status at xs w i x e)
  front-seen at (Some n) xs w t zero x e = let same-x : ◌≡◌ {A = Waiter P} (n.node, n.behind, Some n.job) x = some-injective (n.node, n.behind, Some n.job) x e in
      subst (λ (z : Waiter P). Seen z.1 z.2 (at z.0)) same-x (inr (n.job, refl, t))
  front-seen at (Some n) xs w t (suc i) x e = inl (all-status at xs w i x e)

  whole-seen : (nodes : ℕ) (words : List ℕ) (homes : List (Maybe (Option P))) (at : ℕ → Desk P) (o : Owner P) (older newer : List (Waiter P)) (value : P) → AllWait at older → Held nodes words homes at older newer value o
      → (i : ℕ) (x : Waiter P) → get_elem? (whole o older) i ≡ some x → Seen x.1 x.2 (at x.0)
  whole-seen nodes words homes at nobody older newer value w h i x e = inl (all-status at older w i x e)
  whole-seen nodes words homes at (turn n r) older newer value w h i x e = front-seen at r.next older w h.5 i x e
  whole-seen nodes words homes at (granted n b j e') older newer value w h i x e = inl (all-status at older w i x e)

  pub seen-status : (b : ℕ) (h : Option P) (d : Desk P) → Seen b h d → d.status ≡ kind h
  seen-status b h d = ⊎_elim (λ (w : Waits b h d). w.1) (λ (t : (j : P) × (h ≡ Some j) × Taken b j d). t.2.0 ∙ ap (λ (y : Option P). kind y) (sym t.1))

  -- where a weight counts this stage, it is that of a node which waits so
  kinded-stage : (n b t m : ℕ) (g : Stage P) → 0 < kinded n b t m g → (h : Option P) × (g ≡ Behind b h) × (m ≡ n) × (kind h ≡ t)
  kinded-stage n b t m Idle pos = absurd (omega arith)
  kinded-stage n b t m Holding pos = absurd (omega arith)
  kinded-stage n b t m (Cleared j) pos = absurd (omega arith)
  kinded-stage n b t m (Ready j) pos = absurd (omega arith)
  kinded-stage n b t m (Behind c h) pos = let k = kinded-is n b t m c h pos in (h, (λ i. Behind (k.1 i) h), k.0, k.2)
  kinded-stage n b t m (Owns k) pos = absurd (omega arith)
  kinded-stage n b t m (Done j a) pos = absurd (omega arith)

  ruling-stage : (m : ℕ) (g : Stage P) → 0 < ruling m g → (k : Ownership P) × (g ≡ Owns k)
  ruling-stage m Idle pos = absurd (omega arith)
  ruling-stage m Holding pos = absurd (omega arith)
  ruling-stage m (Cleared j) pos = absurd (omega arith)
  ruling-stage m (Ready j) pos = absurd (omega arith)
  ruling-stage m (Behind c h) pos = absurd (omega arith)
  ruling-stage m (Owns k) pos = (k, refl)
  ruling-stage m (Done j a) pos = absurd (omega arith)

  granted-kinded : (n b t : ℕ) (o : Owner P) → 0 < owner_weight (kinded n b t) o → ((e : ℕ) × (j : Option P) × (o ≡ granted n b j e) × (kind j ≡ t)) ⊎ ((m : ℕ) × (r : Ownership P) × (o ≡ turn m r))
  granted-kinded n b t nobody pos = absurd (omega arith)
  granted-kinded n b t (turn m r) pos = inr (m, r, refl)
  granted-kinded n b t (granted m c j e) pos = let k = kinded-is n b t m c j pos in inl (e, j, (λ i. granted (k.0 i) (k.1 i) j e), k.2)

  turn-granted : (m n b e : ℕ) (r : Ownership P) (j : Option P) → turn m r ≡ granted n b j e → ⊥
  turn-granted m n b e r j z = cc

  number_of : Owner P → ℕ
  number_of nobody = 0
  number_of (turn m r) = m
  number_of (granted n b j e) = n

  granted-number : (n b e m c f : ℕ) (j i : Option P) → granted n b j e ≡ granted m c i f → n ≡ m
  unfolding number_of
  granted-number n b e m c f j i z = ap number_of z

  behind-not-idle : (b : ℕ) (h : Option P) → ◌≡◌ {A = Stage P} (Behind b h) Idle → ⊥
  behind-not-idle b h z = cc

  owns-behind : (b : ℕ) (h : Option P) (k : Ownership P) → ◌≡◌ {A = Stage P} (Owns k) (Behind b h) → ⊥
  owns-behind b h k z = cc

module _ {P : Type 0} (rule : Goods P → Type 0) (nodes : ℕ) (s : State (Option P) (View P)) (o : Lawful rule nodes s) where
  abbrev at : ℕ → Desk P
  at = desk s.words s.homes o.posted o.answered

  -- where a node behind another stands: in a line, among those whose jobs have run, or it was granted
  pub place : (j b : ℕ) (v : View P) (h : Option P) → get_elem? s.views j ≡ some v → v.stage ≡ Behind b h
      → ((i : ℕ) × (x : Waiter P) × ((get_elem? (whole o.owner o.older) i ≡ some x) ⊎ (get_elem? o.newer i ≡ some x)) × (x.0 ≡ v.number) × (x.1 ≡ b) × Seen x.1 x.2 (at v.number) × (kind x.2 ≡ kind h))
      ⊎ (((i : P) × Finished i (at v.number) × (kind h ≡ 2) × (0 < line_weight {P = P} (waits_at v.number b) o.done)) ⊎ ((e : ℕ) × (i : Option P) × (o.owner ≡ granted v.number b i e) × (kind i ≡ kind h)))
  place j b v h there mine =
      let n : ℕ = v.number in let g : Weight P = kinded n b (kind h) in
      let all = o.standing g (λ m. (refl, refl, (λ z. refl), (λ z. refl), λ z a. refl)) in
      let one = term_le (weigh g) s.views j v there in let self = kinded-self n b h in let here = ap (g n) mine in
      let seen : (i : ℕ) (x : Waiter P) → get_elem? (whole o.owner o.older) i ≡ some x → Seen x.1 x.2 (at x.0) = whole-seen nodes s.words s.homes at o.owner o.older o.newer o.value o.old_waits o.held in
      dite (dec_lt 0 (line_weight g (whole o.owner o.older)))
      (λ pos. let f = find (λ (x : Waiter P). g x.0 (Behind x.1 x.2)) (whole o.owner o.older) pos in let k = kinded-is n b (kind h) f.1.0 f.1.1 f.1.2 f.3 in
      inl (f.0, f.1, inl f.2, k.0, k.1, subst (λ (i : ℕ). Seen f.1.1 f.1.2 (at i)) k.0 (seen f.0 f.1 f.2), k.2))
      (λ no. dite (dec_lt 0 (line_weight g o.newer))
      (λ pos. let f = find (λ (x : Waiter P). g x.0 (Behind x.1 x.2)) o.newer pos in let k = kinded-is n b (kind h) f.1.0 f.1.1 f.1.2 f.3 in
      inl (f.0, f.1, inr f.2, k.0, k.1, subst (λ (i : ℕ). Seen f.1.1 f.1.2 (at i)) k.0 (inl (all-status at o.newer o.new_waits f.0 f.1 f.2)), k.2))
      (λ no-new. dite (dec_lt 0 (line_weight g o.done))
      (λ pos. let f = find (λ (x : Waiter P). g x.0 (Behind x.1 x.2)) o.done pos in let k = kinded-is n b (kind h) f.1.0 f.1.1 f.1.2 f.3 in
      let d = done-status at o.done o.finished f.0 f.1 f.2 in
      inr (inl (d.0, subst (λ (i : ℕ). Finished d.0 (at i)) k.0 d.2, sym k.2 ∙ ap (λ (y : Option P). kind y) d.1, (let one = term_le (λ (x : Waiter P). waits_at {P = P} n b x.0 (Behind x.1 x.2)) o.done f.0 f.1 f.2 in omega (arith, one, waits-self n b f.1.0 f.1.1 f.1.2 k.0 k.1)))))
      (λ no-done. ⊎_elim
      (λ (t : (e : ℕ) × (i : Option P) × (o.owner ≡ granted n b i e) × (kind i ≡ kind h)). inr (inr t))
      (λ (t : (m : ℕ) × (r : Ownership P) × (o.owner ≡ turn m r)). absurd (
      let a : owner_weight g o.owner ≡ g t.0 (Owns t.1) + line_weight g (front t.1.next []) = ap (owner_weight g) t.2 in
      let c : line_weight g (whole o.owner o.older) ≡ line_weight g (front t.1.next o.older) = ap (λ (y : Owner P). line_weight g (whole y o.older)) t.2 in
      omega (arith, a, c, front-weight g t.1.next o.older)))
      (granted-kinded n b (kind h) o.owner (omega (arith, all, one, self, here, older-le g o.owner o.older))))))

  -- a waiting node is in a line
  in-line : (j b : ℕ) (v : View P) (h : Option P) → get_elem? s.views j ≡ some v → IsWaiting s.words v b h
      → (i : ℕ) × (x : Waiter P) × ((get_elem? (whole o.owner o.older) i ≡ some x) ⊎ (get_elem? o.newer i ≡ some x)) × (x.0 ≡ v.number) × (x.1 ≡ b) × Seen x.1 x.2 (at v.number) × (kind x.2 ≡ kind h)
  in-line j b v h there w = ⊎_elim (λ t. t)
      (⊎_elim
      (λ (t : (i : P) × Finished i (at v.number) × (kind h ≡ 2) × (0 < line_weight {P = P} (waits_at v.number b) o.done)). absurd (omega (arith, t.1.0, w.1, t.2)))
      (λ (t : (e : ℕ) × (i : Option P) × (o.owner ≡ granted v.number b i e) × (kind i ≡ kind h)). absurd (
      let g : Held nodes s.words s.homes at o.older o.newer o.value (granted v.number b t.1 t.0) = subst (λ y. Held nodes s.words s.homes at o.older o.newer o.value y) t.2 o.held in omega (arith, g.1.0, w.1, kind-le h))))
      (place j b v h there w.0)

  -- a node whose status is 4 or more was granted
  is-granted : (j b : ℕ) (v : View P) → get_elem? s.views j ≡ some v → IsGranted s.words v b → (e : ℕ) × (i : Option P) × (o.owner ≡ granted v.number b i e)
  is-granted j b v there w = ⊎_elim
      (λ (t : (i : ℕ) × (x : Waiter P) × ((get_elem? (whole o.owner o.older) i ≡ some x) ⊎ (get_elem? o.newer i ≡ some x)) × (x.0 ≡ v.number) × (x.1 ≡ b) × Seen x.1 x.2 (at v.number) × (kind x.2 ≡ kind w.0)). absurd (omega (arith, seen-status t.1.1 t.1.2 (at v.number) t.5, w.2, kind-le t.1.2)))
      (⊎_elim (λ (t : (i : P) × Finished i (at v.number) × (kind w.0 ≡ 2) × (0 < line_weight {P = P} (waits_at v.number b) o.done)). absurd (omega (arith, t.1.0, w.2))) (λ (t : (e : ℕ) × (i : Option P) × (o.owner ≡ granted v.number b i e) × (kind i ≡ kind w.0)). (t.0, t.1, t.2)))
      (place j b v w.0 there w.1)

  -- where a pass has the turn, it is the owner
  no-other : (i j : ℕ) (v u : View P) (k : Ownership P) → get_elem? s.views i ≡ some v → get_elem? s.views j ≡ some u → HasNotes v k → (b : ℕ) → IsGranted s.words u b → ⊥
  no-other i j v u k at-i at-j mine b g = let t = is-granted j b u at-j g in turn-granted v.number u.number b t.0 k t.1 (sym (o.owned i v k at-i mine) ∙ t.2)

  two-owners : (i j : ℕ) (v u : View P) → j ≢ i → get_elem? s.views i ≡ some v → get_elem? s.views j ≡ some u → IsOwner s.words v → IsOwner s.words u → ⊥
  two-owners i j v u ne at-i at-j = ⊎_elim
      (λ (a : (k : Ownership P) × HasNotes v k). ⊎_elim
      (λ (c : (k : Ownership P) × HasNotes u k). one_owner rule nodes s o i j v u a.0 c.0 ne at-i at-j a.1 c.1)
      (λ (c : (b : ℕ) × IsGranted s.words u b). no-other i j v u a.0 at-i at-j a.1 c.0 c.1))
      (λ (a : (b : ℕ) × IsGranted s.words v b). ⊎_elim
      (λ (c : (k : Ownership P) × HasNotes u k). no-other j i u v c.0 at-j at-i c.1 a.0 a.1)
      (λ (c : (b : ℕ) × IsGranted s.words u b).
      let x = is-granted i a.0 v at-i a.1 in let y = is-granted j c.0 u at-j c.1 in
      numbers_apart rule nodes s o i j v u ne at-i at-j (live rule nodes s o i v at-i (λ z. behind-not-idle a.0 a.1.0 (sym a.1.1 ∙ z))) (live rule nodes s o j u at-j (λ z. behind-not-idle c.0 c.1.0 (sym c.1.1 ∙ z)))
      (granted-number u.number c.0 y.0 v.number a.0 x.0 y.1 x.1 (sym y.2 ∙ x.2))))

  owner-found : (w : Owner P) → o.owner ≡ w → get_or s.words 0 0 ≢ 0 → (j : ℕ) × (v : View P) × (get_elem? s.views j ≡ some v) × IsOwner s.words v
  owner-found nobody is ne = absurd (ne (let h : Held nodes s.words s.homes at o.older o.newer o.value nobody = subst (λ y. Held nodes s.words s.homes at o.older o.newer o.value y) is o.held in h.0))
  owner-found (turn n r) is ne =
      let all = o.standing ruling (λ m. (refl, refl, (λ z. refl), (λ z. refl), λ z a. refl)) in
      let one : owner_weight {P = P} ruling o.owner ≡ 1 + line_weight {P = P} ruling (front r.next []) = ap (owner_weight {P = P} ruling) is in
      let f = find (weigh ruling) s.views (omega (arith, all, one)) in let k = ruling-stage f.1.number f.1.stage f.3 in
      (f.0, f.1, f.2, inl (k.0, k.1))
  owner-found (granted n b j e) is ne =
      let g : Weight P = kinded n b (kind j) in
      let all = o.standing g (λ m. (refl, refl, (λ z. refl), (λ z. refl), λ z a. refl)) in
      let one : owner_weight g o.owner ≡ g n (Behind b j) = ap (owner_weight g) is in
      let f = find (weigh g) s.views (omega (arith, all, one, kinded-self n b j)) in let k = kinded-stage n b (kind j) f.1.number f.1.stage f.3 in
      let h : Held nodes s.words s.homes at o.older o.newer o.value (granted n b j e) = subst (λ y. Held nodes s.words s.homes at o.older o.newer o.value y) is o.held in
      (f.0, f.1, f.2, inr (b, (k.0, k.1, (let same-status : (at f.1.number).status ≡ (at n).status = ap (λ (i : ℕ). (at i).status) k.2 in omega (arith, same-status, h.1.0)))))

  value-at : (w : Owner P) → o.owner ≡ w → ((j : ℕ) (v : View P) (k : Ownership P) → get_elem? s.views j ≡ some v → HasNotes v k → ⊥) → Filled (get_elem? s.homes 0) o.value
  value-at nobody is none-has = (let h : Held nodes s.words s.homes at o.older o.newer o.value nobody = subst (λ y. Held nodes s.words s.homes at o.older o.newer o.value y) is o.held in h.3)
  value-at (turn n r) is none-has =
      let all = o.standing ruling (λ m. (refl, refl, (λ z. refl), (λ z. refl), λ z a. refl)) in
      let one : owner_weight {P = P} ruling o.owner ≡ 1 + line_weight {P = P} ruling (front r.next []) = ap (owner_weight {P = P} ruling) is in
      let f = find (weigh ruling) s.views (omega (arith, all, one)) in let k = ruling-stage f.1.number f.1.stage f.3 in absurd (none-has f.0 f.1 k.0 f.2 k.1)
  value-at (granted n b j e) is none-has = (let h : Held nodes s.words s.homes at o.older o.newer o.value (granted n b j e) = subst (λ y. Held nodes s.words s.homes at o.older o.newer o.value y) is o.held in h.2)

  -- unless a pass has the turn, the value stands in slot 0
  pub value_home : ((j : ℕ) (v : View P) (k : Ownership P) → get_elem? s.views j ≡ some v → HasNotes v k → ⊥) → Filled (get_elem? s.homes 0) o.value
  value_home none-has = value-at o.owner refl none-has

  note : (j b : ℕ) (v : View P) (h : Option P) → get_elem? s.views j ≡ some v → v.stage ≡ Behind b h → Noted h (at v.number)
  note j b v h there mine = subst (λ (g : Stage P). Seated g (at v.number)) mine (o.seated j v there (live rule nodes s o j v there (λ z. behind-not-idle b h (sym mine ∙ z))))

  -- the job of a waiting node has not run
  pub still_posted : (j b : ℕ) (v : View P) (job : P) → get_elem? s.views j ≡ some v → IsWaiting s.words v b (Some job) → o.posted v.number ≡ some job
  still_posted j b v job there w =
      let t = in-line j b v (Some job) there w in
      let none-yet : (at v.number).answered ≡ none = ⊎_elim (λ (y : Waits t.1.1 t.1.2 (at v.number)). y.3) (λ (y : (i : P) × (t.1.2 ≡ Some i) × Taken t.1.1 i (at v.number)). y.2.4) t.5 in
      ⊎_elim (λ (z : (at v.number).posted ≡ some job). z) (λ (z : (a : P) × ((at v.number).answered ≡ some (job, a))). absurd (some-ne-none (job, z.0) (sym z.1 ∙ none-yet))) (note j b v (Some job) there w.0)

  owner-turn : (w : Owner P) → o.owner ≡ w → (k : Ownership P) (n : ℕ) → o.owner ≡ turn n k → Line k.first (whole o.owner o.older) k.end × Line (get_or s.words 0 0) o.newer k.mark
  owner-turn w is k n has-turn =
      let h : Held nodes s.words s.homes at o.older o.newer o.value (turn n k) = subst (λ y. Held nodes s.words s.homes at o.older o.newer o.value y) has-turn o.held in
      (subst (λ (y : Owner P). Line k.first (whole y o.older) k.end) (sym has-turn) h.0.old_line, h.0.new_line)

  owner-granted : (n b e : ℕ) (j : Option P) → o.owner ≡ granted n b j e → Line b (whole o.owner o.older) (status_at s.words n - 4) × Line (get_or s.words 0 0) o.newer 1
  owner-granted n b e j was =
      let h : Held nodes s.words s.homes at o.older o.newer o.value (granted n b j e) = subst (λ y. Held nodes s.words s.homes at o.older o.newer o.value y) was o.held in
      let end : e ≡ status_at s.words n - 4 = omega (arith, h.1.0) in
      (subst (λ (y : Owner P). Line b (whole y o.older) (status_at s.words n - 4)) (sym was) (subst (λ (y : ℕ). Line b o.older y) end h.0.old_line), h.0.new_line)

  -- what lies in the job slot of a node that waits with a job
  job-there : (b c : ℕ) (x : Option P) (v : View P) (job : P) → v.stage ≡ Behind b (Some job) → Noted (Some job) (at v.number) → kind x ≡ 2 → Seen c x (at v.number) → Filled (get_elem? s.homes (1 + 2 * v.number)) job ⊎ IsOut (get_elem? s.homes (1 + 2 * v.number))
  job-there b c None v job mine note two seen = absurd (omega (arith, two))
  job-there b c (Some i) v job mine note two seen = ⊎_elim
      (λ (w : Waits c (Some i) (at v.number)). inl (w.4.0 ∙ ap (λ (y : P). some (some (Some y)))
      (⊎_elim (λ (z : (at v.number).posted ≡ some job). some-injective i job (sym w.4.1 ∙ z)) (λ (z : (a : P) × ((at v.number).answered ≡ some (job, a))). absurd (some-ne-none (job, z.0) (sym z.1 ∙ w.3))) note)))
      (λ (t : (j : P) × (Some i ≡ Some j) × Taken c j (at v.number)). inr t.2.1) seen

  link-there : (b c : ℕ) (x : Option P) (n : ℕ) → c ≡ b → Seen c x (at n) → (link_at s.words n ≡ 0) ⊎ (link_at s.words n ≡ b)
  link-there b c x n is = ⊎_elim
      (λ (w : Waits c x (at n)). ⊎_elim (λ (z : (at n).link ≡ 0). inl z) (λ (z : (at n).link ≡ c). inr (z ∙ is)) w.0)
      (λ (t : (j : P) × (x ≡ Some j) × Taken c j (at n)). inr (t.2.5 ∙ is))

  waiting-number : (i : ℕ) (x : Waiter P) → (get_elem? (whole o.owner o.older) i ≡ some x) ⊎ (get_elem? o.newer i ≡ some x) → (j : ℕ) × (v : View P) × (h : Option P) × (get_elem? s.views j ≡ some v) × (v.number ≡ x.0) × IsWaiting s.words v x.1 h
  waiting-number i x there =
      let g : Weight P = kinded x.0 x.1 (kind x.2) in
      let all = o.standing g (λ m. (refl, refl, (λ z. refl), (λ z. refl), λ z a. refl)) in
      let count : (l : List (Waiter P)) → get_elem? l i ≡ some x → 1 ≤ line_weight g l = λ l e. (let t = term_le (λ (y : Waiter P). g y.0 (Behind y.1 y.2)) l i x e in omega (arith, t, kinded-self x.0 x.1 x.2)) in
      let some-there : 1 ≤ line_weight g (whole o.owner o.older) + line_weight g o.newer = ⊎_elim (λ e. (let t = count (whole o.owner o.older) e in omega (arith, t))) (λ e. (let t = count o.newer e in omega (arith, t))) there in
      let seen : Seen x.1 x.2 (at x.0) = ⊎_elim (λ e. whole-seen nodes s.words s.homes at o.owner o.older o.newer o.value o.old_waits o.held i x e) (λ e. inl (all-status at o.newer o.new_waits i x e)) there in
      let f = find (weigh g) s.views (omega (arith, all, some-there, whole-weight g o.owner o.older)) in let k = kinded-stage x.0 x.1 (kind x.2) f.1.number f.1.stage f.3 in
      (f.0, f.1, k.0, f.2, k.2, (k.1, ap (λ (n : ℕ). (at n).status) k.2 ∙ seen-status x.1 x.2 (at x.0) seen ∙ sym k.3))

  pub chain_shows : ChainShows s
  chain_shows = record {
    older = whole o.owner o.older;
    newer = o.newer;
    once = λ n. omega (arith, once rule nodes s o n, whole-weight (awake n) o.owner o.older);
    waiting = λ j b v h there w. (let t = in-line j b v h there w in (t.0, t.1, t.2, t.3, t.4));
    listed = waiting-number;
    alone = two-owners;
    free = λ zero-now. (
        let t = was_free nodes s.words s.homes at o.older o.newer o.value o.owner zero-now o.held in (
          (ap (λ (y : Owner P). whole y o.older) t.3 ∙ t.0),
          t.1,
          λ j v there. ⊎_elim
              (λ (a : (k : Ownership P) × HasNotes v k). turn-nobody v.number a.0 (sym (o.owned j v a.0 there a.1) ∙ t.3))
              (λ (a : (b : ℕ) × IsGranted s.words v b). (let g = is-granted j a.0 v there a.1 in granted-nobody v.number a.0 g.0 g.1 (sym g.2 ∙ t.3))),
        ));
    owned = owner-found o.owner refl;
    turn_lines = λ j v k there mine. owner-turn o.owner refl k v.number (o.owned j v k there mine);
    granted_lines = λ j b v there g. (let t = is-granted j b v there g in owner-granted v.number b t.0 t.1 t.2);
    links = λ j b v h there w. (let t = in-line j b v h there w in link-there b t.1.1 t.1.2 v.number t.4 t.5);
    value = λ none-has. (o.value, value_home none-has);
    jobs = λ j b v job there w. (let t = in-line j b v (Some job) there w in job-there b t.1.1 t.1.2 v job w.0 (note j b v (Some job) there w.0) t.6 t.5);
    answers = λ j b v h there mine three. ⊎_elim
        (λ (t : (i : ℕ) × (x : Waiter P) × ((get_elem? (whole o.owner o.older) i ≡ some x) ⊎ (get_elem? o.newer i ≡ some x)) × (x.0 ≡ v.number) × (x.1 ≡ b) × Seen x.1 x.2 (at v.number) × (kind x.2 ≡ kind h)). absurd (omega (arith, seen-status t.1.1 t.1.2 (at v.number) t.5, three, kind-le t.1.2)))
        (⊎_elim
        (λ (t : (i : P) × Finished i (at v.number) × (kind h ≡ 2) × (0 < line_weight {P = P} (waits_at v.number b) o.done)). (with-job h t.2, (t.1.2.0, t.1.2.1)))
        (λ (t : (e : ℕ) × (i : Option P) × (o.owner ≡ granted v.number b i e) × (kind i ≡ kind h)). absurd (
        let g : Held nodes s.words s.homes at o.older o.newer o.value (granted v.number b t.1 t.0) = subst (λ y. Held nodes s.words s.homes at o.older o.newer o.value y) t.2 o.held in omega (arith, g.1.0, three))))
        (place j b v h there mine);
  }
    where
      turn-nobody : (n : ℕ) (k : Ownership P) → turn n k ≡ nobody → ⊥
      turn-nobody n k e = cc

      granted-nobody : (n b e : ℕ) (j : Option P) → granted n b j e ≡ nobody → ⊥
      granted-nobody n b e j z = cc
