-- The part of the rule on trails: one lemma for all steps at a lock's word.
use Rattle.std.proofs.Common.{◌≡◌, ℕ, ◌+◌, ◌/◌, ◌%◌, ◌<◌, ◌≢◌, ◌⊎◌, inl, inr, ⊎_elim, ◌≤◌, Bool, true, false, ◌&&◌, ◌||◌, cond, eqb, eq-eqb, ne_eqb, List, [], ◌∷◌, ◌++◌, set, get_or, length, sym, refl, ap, ◌∙◌, subst, arith, get_or-set_same, get_or-set_other, Option, Some, None}
use mathlib.Core.Logic.{dite}
use mathlib.Core.Option.{some}
use native.Mathlib.Decide.{ℕ_discrete}
use Rattle.std.proofs.Math.Decide.{dec_lt}
use lib.ListN.{get_elem?}
use Rattle.atomic_table.proofs.Lists.{at_set, set_here, set_else}
use Rattle.hall.specs.declared.view.View.{View}
use Rattle.hall.specs.declared.view.Shape.{Shape}
use Rattle.hall.specs.declared.view.Footprint.{Footprint}
use Rattle.hall.specs.declared.view.StepKind.{StepKind}
use Rattle.hall.specs.declared.view.StepEntry.{StepEntry}
use Rattle.hall.specs.declared.view.Standing.{Standing}
use Rattle.hall.specs.declared.view.Standing.TheVariants.{Away}
use Rattle.hall.specs.Views.{footprint, is_away, is_outside, is_strong, footprints_left, standing, place_of, after_step, after_step_at}
use Rattle.lock_model.specs.Locks.{Has}
use Rattle.state_word.specs.Words.{units_of}
use Rattle.view_sums.specs.Sums.{same, same-refl}
use Rattle.hall.specs.declared.view.StepKind.TheVariants.{Hold}
use Rattle.hall.specs.Numbers.{owns}
use Rattle.hall.specs.Trails.{is_join, last_read, Heads, Reasoned, IsTrodden, Others, StrongOthers, Trailed}
use Rattle.hall.proofs.Racing.{reasoned_more}
use Rattle.hall.specs.Rule.{AllFormed}

pub Has-behind : {A : Type 0} (xs ys : List A) (a : A) → Has ys a → Has (xs ++ ys) a
Has-behind [] ys a h = h
Has-behind (x ∷ xs) ys a h = inr (Has-behind xs ys a h)

false_true : false ≡ true → ⊥
false_true e = cc

-- a step from or to a standing at the lock leaves a footprint
pub marked_head : (n lock : ℕ) (x y : Standing) (old : List Footprint) → is_away x && is_away y ≡ false → Has (footprints_left n lock x y ++ old) (footprint n lock (is_strong x || is_strong y))
marked_head n lock x y old e = subst (λ (b : Bool). Has (cond b [] (footprint n lock (is_strong x || is_strong y) ∷ []) ++ old) (footprint n lock (is_strong x || is_strong y))) (sym e) (inl refl)

left_or_old : (b : Bool) (f m : Footprint) (old : List Footprint) → Has (cond b [] (f ∷ []) ++ old) m → (m ≡ f) ⊎ Has old m
left_or_old b f m old has = elim b as (λ z. Has (cond z [] (f ∷ []) ++ old) m → (m ≡ f) ⊎ Has old m) [ true ↦ λ h. inr h | false ↦ λ h. h ] has

pub and_right : (a b : Bool) → b ≡ false → a && b ≡ false
and_right a b e = elim a as (λ z. z && b ≡ false) [ true ↦ e | false ↦ refl ]

or_right : (a b : Bool) → b ≡ true → a || b ≡ true
or_right a b e = elim a as (λ z. z || b ≡ true) [ true ↦ refl | false ↦ e ]

strong_is_there : (y : Standing) → is_strong y ≡ true → is_away y ≡ false
strong_is_there y e = elim y as (λ z. is_strong z ≡ true → is_away z ≡ false) [ Away ↦ λ h. absurd (false_true h) | _ ↦ λ h. refl ] e

module _ {P : Type 0} where
  -- marks stay
  pub IsTrodden_stays : (views : List (View P)) (id : ℕ) (v w : View P) (m : Footprint) → get_elem? views id ≡ some v → ((a : Footprint) → Has v.trail a → Has w.trail a) → IsTrodden views m → IsTrodden (set views id w) m
  IsTrodden_stays views id v w m at grows h =
      dite (ℕ_discrete h.0 id)
      (λ e. (id, w, set_here views id w (Rattle.view_sums.specs.Sums.there views id v at), grows m (subst (λ (z : View P). Has z.trail m) (Rattle.view_sums.specs.Sums.one_there views id h.1 v (subst (λ (k : ℕ). get_elem? views k ≡ some h.1) e h.2) at) h.3)))
      (λ ne. (h.0, h.1, set_else views id h.0 w ne ∙ h.2, h.3))

  pub Others_stay : (views : List (View P)) (id : ℕ) (v w : View P) (lock n : ℕ) → get_elem? views id ≡ some v → ((a : Footprint) → Has v.trail a → Has w.trail a) → Others views lock n → Others (set views id w) lock n
  Others_stay views id v w lock n at grows h = (h.0, IsTrodden_stays views id v w h.0 at grows h.1, h.2, h.3)

module _ {P : Type 0} where
  pub StrongOthers_stay : (views : List (View P)) (id : ℕ) (v w : View P) (lock n : ℕ) → get_elem? views id ≡ some v → ((a : Footprint) → Has v.trail a → Has w.trail a) → StrongOthers views lock n → StrongOthers (set views id w) lock n
  StrongOthers_stay views id v w lock n at grows h = (h.0, IsTrodden_stays views id v w h.0 at grows h.1, h.2, h.3, h.4)

-- what a step for a lock leaves in the trail, whatever word it was made on
module _ {P : Type 0} (sh : Shape) (words : List ℕ) (views : List (View P)) (id lock place word : ℕ) (v : View P) (kind : StepKind) (won : Bool) (y : Standing) (part : P) (tr : Trailed sh words views) (formed : AllFormed sh views) (at : get_elem? views id ≡ some v) (lives : 0 < v.span)
    (near : lock < sh.locks) where
  abbrev pub stepped : View P
  stepped = after_step_at v kind lock place word won y part

  pub trail_grows : (a : Footprint) → Has v.trail a → Has stepped.trail a
  trail_grows a h = Has-behind (footprints_left v.number lock (standing v lock) y) v.trail a h

  stands : standing stepped lock ≡ y
  stands = let f = formed id v at in get_or-set_same v.standings lock y Away (subst (λ (k : ℕ). lock < k) (sym (f.wide lives)) near)

  elsewhere : (k : ℕ) → k ≢ lock → standing stepped k ≡ standing v k
  elsewhere k ne = get_or-set_other v.standings lock k y Away ne

  pub present_now : (k : ℕ) → is_away (standing stepped k) ≡ false → (strong : Bool) × Has stepped.trail (footprint v.number k strong)
  present_now k h =
      dite (ℕ_discrete k lock)
      (λ e. let y_there : is_away y ≡ false = ap is_away (sym stands) ∙ ap (λ (j : ℕ). is_away (standing stepped j)) (sym e) ∙ h in
      subst (λ (j : ℕ). (strong : Bool) × Has stepped.trail (footprint v.number j strong)) (sym e) (is_strong (standing v lock) || is_strong y, marked_head v.number lock (standing v lock) y v.trail (and_right _ _ y_there)))
      (λ ne. let old = tr.present id v at k (ap is_away (sym (elsewhere k ne)) ∙ h) in (old.0, trail_grows _ old.1))

  pub strongly_now : (k : ℕ) → is_strong (standing stepped k) ≡ true → Has stepped.trail (footprint v.number k true)
  strongly_now k h =
      dite (ℕ_discrete k lock)
      (λ e. let y_strong : is_strong y ≡ true = ap is_strong (sym stands) ∙ ap (λ (j : ℕ). is_strong (standing stepped j)) (sym e) ∙ h in
      subst (λ (j : ℕ). Has stepped.trail (footprint v.number j true)) (sym e)
      (subst (λ (b : Bool). Has stepped.trail (footprint v.number lock b)) (or_right (is_strong (standing v lock)) (is_strong y) y_strong)
      (marked_head v.number lock (standing v lock) y v.trail (and_right _ _ (strong_is_there y y_strong)))))
      (λ ne. trail_grows _ (tr.strongly id v at k (ap is_strong (sym (elsewhere k ne)) ∙ h)))

  pub trodden_now : (m : Footprint) → Has stepped.trail m → (0 < v.span) × (1 ≤ owns m.number stepped)
  trodden_now m has = (
    lives,
    ⊎_elim (λ is. subst (λ (z : Footprint). 1 ≤ owns z.number stepped) (sym is) (omega (arith, same-refl v.number))) (λ old. (tr.trodden id v at m old).1)
        (left_or_old (is_away (standing v lock) && is_away y) (footprint v.number lock (is_strong (standing v lock) || is_strong y)) m v.trail has),
  )

module _ {P : Type 0} (sh : Shape) (words : List ℕ) (views : List (View P)) (id lock n : ℕ) (v : View P) (kind : StepKind) (won : Bool) (y : Standing) (part : P) (tr : Trailed sh words views) (formed : AllFormed sh views) (at : get_elem? views id ≡ some v)
    (lives : 0 < v.span) (near : lock < sh.locks) (inside : sh.slots + lock < length words) (steps : is_join kind ≡ false) (kept : won ≡ false → n ≡ get_or words (sh.slots + lock) 0)
    (shown : n ≢ get_or words (sh.slots + lock) 0 → is_away (standing v lock) && is_away y ≡ false)
    (cause : is_outside (standing v lock) ≡ true → get_or words (sh.slots + lock) 0 / 2 % 8 ≢ 0 → StrongOthers views lock v.number)
    (held : kind ≡ Hold → won ≡ false → units_of (get_or words (sh.slots + lock) 0) ≢ 0 → Others views lock v.number)
    (alone : (k : ℕ) (u : View P) → get_elem? views k ≡ some u → k ≢ id → 0 < u.span → u.number ≢ v.number) where
  abbrev after : View P
  after = after_step v kind lock (get_or words (sh.slots + lock) 0) won y part

  grows : (a : Footprint) → Has v.trail a → Has after.trail a
  grows a h = trail_grows sh words views id lock (place_of v lock) (get_or words (sh.slots + lock) 0) v kind won y part tr formed at lives near a h

  -- what another pass remembers
  abbrev Recalls : List ℕ → List (View P) → ℕ → ℕ → ℕ → Type 0
  Recalls ws vs k w number = (get_or ws (sh.slots + k) 0 ≡ w) ⊎ Others vs k number

  -- what is recalled is still there where this step isn't of the same number, or changed no word
  recalls : (k w number : ℕ) → (n ≢ get_or words (sh.slots + lock) 0 → k ≡ lock → v.number ≢ number) → Recalls words views k w number → Recalls (set words (sh.slots + lock) n) (set views id after) k w number
  recalls k w number differs old =
      ⊎_elim
      (λ e. dite (ℕ_discrete k lock)
      (λ same. dite (ℕ_discrete n (get_or words (sh.slots + lock) 0))
      (λ stays. inl (subst (λ (j : ℕ). get_or (set words (sh.slots + lock) n) (sh.slots + j) 0 ≡ w) (sym same) (get_or-set_same words (sh.slots + lock) n 0 inside ∙ stays ∙ ap (λ (j : ℕ). get_or words (sh.slots + j) 0) (sym same) ∙ e)))
      (λ changed. inr (
        footprint v.number lock (is_strong (standing v lock) || is_strong y),
        (id, after, set_here views id after (Rattle.view_sums.specs.Sums.there views id v at), marked_head v.number lock (standing v lock) y v.trail (shown changed)),
        sym same,
        differs changed same,
      )))
      (λ ne. inl (get_or-set_other words (sh.slots + lock) (sh.slots + k) n 0 (λ h. ne (omega arith)) ∙ e)))
      (λ o. inr (Others_stay views id v after k number at grows o))
      old

  -- what this pass has read last
  read_now : (k w : ℕ) → k < sh.locks → v.shape ≡ sh → last_read (sh.slots + k) v.number after.steps ≡ Some w → Recalls (set words (sh.slots + lock) n) (set views id after) k w v.number
  read_now k w below is_sh h =
      let word : ℕ = get_or words (sh.slots + lock) 0 in let old : Option ℕ = last_read (sh.slots + k) v.number v.steps in let this : Option ℕ = cond won None (Some word) in
      let place : v.shape.slots + lock ≡ sh.slots + lock = ap (λ (z : Shape). z.slots + lock) is_sh in
      let mine : cond (is_join kind) None (cond (eqb (v.shape.slots + lock) (sh.slots + k)) this old) ≡ Some w =
      ap (λ b. cond b (cond (is_join kind) None (cond (eqb (v.shape.slots + lock) (sh.slots + k)) this old)) None) (sym (eq-eqb v.number v.number refl)) ∙ h in
      let step1 : cond (eqb (sh.slots + lock) (sh.slots + k)) this old ≡ Some w =
      ap (λ (j : ℕ). cond (eqb j (sh.slots + k)) this old) (sym place) ∙ ap (λ b. cond b None (cond (eqb (v.shape.slots + lock) (sh.slots + k)) this old)) (sym steps) ∙ mine in
      dite (ℕ_discrete k lock)
      (λ same. let step2 : this ≡ Some w = ap (λ b. cond b this old) (sym (eq-eqb (sh.slots + lock) (sh.slots + k) (ap (λ (j : ℕ). sh.slots + j) (sym same)))) ∙ step1 in
      let Goal : ℕ → Type 0 = λ j. Recalls (set words (sh.slots + lock) n) (set views id after) j w v.number in
      let by_won : (b : Bool) → (b ≡ false → n ≡ word) → cond b None (Some word) ≡ Some w → get_or (set words (sh.slots + lock) n) (sh.slots + lock) 0 ≡ w
      = λ b. elim b as (λ b. (b ≡ false → n ≡ word) → cond b None (Some word) ≡ Some w → get_or (set words (sh.slots + lock) n) (sh.slots + lock) 0 ≡ w)
      [ true ↦ λ k e. absurd (cc) | false ↦ λ k e. let same_word : word ≡ w = cc in get_or-set_same words (sh.slots + lock) n 0 inside ∙ k refl ∙ same_word ] in
      subst Goal (sym same) (inl (by_won won kept step2)))
      (λ ne. let step2 : old ≡ Some w = ap (λ b. cond b this old) (sym (ne_eqb (sh.slots + lock) (sh.slots + k) (λ e. ne (omega arith)))) ∙ step1 in
      recalls k w v.number (λ _ same. absurd (ne same)) (tr.remembered id v at k w below step2))

  -- a step that found another word than its number had read
  raced_now : (k : ℕ) → k < sh.locks → v.shape ≡ sh → Reasoned (Others (set views id after) k) (sh.slots + k) after.steps
  raced_now k below is_sh = (
    (λ place w told other.
        let same : k ≡ lock = let q : v.shape.slots ≡ sh.slots = ap (λ (z : Shape). z.slots) is_sh in omega arith in
        ⊎_elim (λ still. absurd (other (sym still ∙ ap (λ (j : ℕ). get_or words (sh.slots + j) 0) same))) (λ o. Others_stay views id v after k v.number at grows o) (tr.remembered id v at k w below told)),
    reasoned_more (Others views k) (Others (set views id after) k) (sh.slots + k) v.steps (λ m o. Others_stay views id v after k m at grows o) (tr.raced id v at k below),
  )

  pub trailed_moved : Trailed sh (set words (sh.slots + lock) n) (set views id after)
  trailed_moved = record {
    present = λ j u e k h. ⊎_elim
        (λ t. let F : View P → Type 0 = λ z. is_away (standing z k) ≡ false → (strong : Bool) × Has z.trail (footprint z.number k strong) in subst F t.1 (present_now sh words views id lock (place_of v lock) (get_or words (sh.slots + lock) 0) v kind won y part tr formed at lives near k) h)
        (λ t. tr.present j u t.1 k h) (at_set views id j after u e);
    strongly = λ j u e k h. ⊎_elim
        (λ t. let F : View P → Type 0 = λ z. is_strong (standing z k) ≡ true → Has z.trail (footprint z.number k true) in subst F t.1 (strongly_now sh words views id lock (place_of v lock) (get_or words (sh.slots + lock) 0) v kind won y part tr formed at lives near k) h)
        (λ t. tr.strongly j u t.1 k h) (at_set views id j after u e);
    remembered = λ j u e k w below h. ⊎_elim
        (λ t. let F : View P → Type 0 = λ z. last_read (sh.slots + k) z.number z.steps ≡ Some w → Recalls (set words (sh.slots + lock) n) (set views id after) k w z.number in
        subst F t.1 (read_now k w below (let f = formed id v at in f.shape lives)) h)
        (λ t. recalls k w u.number (λ _ _ same. dite (dec_lt 0 u.span) (λ living. alone j u t.1 t.0 living (sym same))
        (λ dead. let f = formed j u t.1 in let g = f.spent (omega arith) in let bad : last_read (sh.slots + k) u.number [] ≡ Some w = ap (last_read (sh.slots + k) u.number) (sym g.1) ∙ h in absurd (cc))) (tr.remembered j u t.1 k w below h))
        (at_set views id j after u e);
    owned = λ j u there e has. ⊎_elim
        (λ t. let F : View P → Type 0 = λ z. Has z.steps e → 1 ≤ owns e.number z in
        subst F t.1 (⊎_elim (λ is. subst (λ (z : StepEntry). 1 ≤ owns z.number after) (sym is) (omega (arith, same-refl v.number))) (λ old. tr.owned id v at e old)) has)
        (λ t. tr.owned j u t.1 e has) (at_set views id j after u there);
    trodden = λ j u there m has. ⊎_elim
        (λ t. let F : View P → Type 0 = λ z. Has z.trail m → (0 < z.span) × (1 ≤ owns m.number z) in subst F t.1 (trodden_now sh words views id lock (place_of v lock) (get_or words (sh.slots + lock) 0) v kind won y part tr formed at lives near m) has)
        (λ t. tr.trodden j u t.1 m has) (at_set views id j after u there);
    newest = λ j u there. ⊎_elim (λ t. let F : View P → Type 0 = λ z. Heads z.number z.steps in subst F t.1 refl) (λ t. tr.newest j u t.1) (at_set views id j after u there);
    counted = λ j u there e has k below place is_hold lost count. ⊎_elim
        (λ t. let F : View P → Type 0 = λ z. Has z.steps e → Others (set views id after) k e.number in
        subst F t.1 (⊎_elim
        (λ is. let same : lock ≡ k = let p : v.shape.slots + lock ≡ sh.slots + k = ap (λ (z : StepEntry). z.place) (sym is) ∙ place in let f = formed id v at in let q : v.shape.slots ≡ sh.slots = ap (λ (z : Shape). z.slots) (f.shape lives) in omega arith in
        subst (λ (z : StepEntry). Others (set views id after) k z.number) (sym is) (subst (λ (i : ℕ). Others (set views id after) i v.number) same
        (Others_stay views id v after lock v.number at grows (held (ap (λ (z : StepEntry). z.kind) (sym is) ∙ is_hold) (ap (λ (z : StepEntry). z.won) (sym is) ∙ lost) (λ zeroed. count (ap (λ (z : StepEntry). units_of z.word) is ∙ zeroed))))))
        (λ old. Others_stay views id v after k e.number at grows (tr.counted id v at e old k below place is_hold lost count))) has)
        (λ t. Others_stay views id v after k e.number at grows (tr.counted j u t.1 e has k below place is_hold lost count)) (at_set views id j after u there);
    raced = λ j u there k below. ⊎_elim
        (λ t. subst (λ (z : View P). Reasoned (Others (set views id after) k) (sh.slots + k) z.steps) t.1 (raced_now k below (let f = formed id v at in f.shape lives)))
        (λ t. reasoned_more (Others views k) (Others (set views id after) k) (sh.slots + k) u.steps (λ m o. Others_stay views id v after k m at grows o) (tr.raced j u t.1 k below)) (at_set views id j after u there);
    excused = λ j u there e has k below place off bits. ⊎_elim
        (λ t. let F : View P → Type 0 = λ z. Has z.steps e → StrongOthers (set views id after) k e.number in
        subst F t.1 (⊎_elim
        (λ is. let same : lock ≡ k = let p : v.shape.slots + lock ≡ sh.slots + k = ap (λ (z : StepEntry). z.place) (sym is) ∙ place in let f = formed id v at in let q : v.shape.slots ≡ sh.slots = ap (λ (z : Shape). z.slots) (f.shape lives) in omega arith in
        subst (λ (z : StepEntry). StrongOthers (set views id after) k z.number) (sym is) (subst (λ (i : ℕ). StrongOthers (set views id after) i v.number) same
        (StrongOthers_stay views id v after lock v.number at grows (cause (ap (λ (z : StepEntry). is_outside z.before) (sym is) ∙ off) (λ zeroed. bits (ap (λ (z : StepEntry). z.word / 2 % 8) is ∙ zeroed))))))
        (λ old. StrongOthers_stay views id v after k e.number at grows (tr.excused id v at e old k below place off bits))) has)
        (λ t. StrongOthers_stay views id v after k e.number at grows (tr.excused j u t.1 e has k below place off bits)) (at_set views id j after u there);
  }
