-- The steps on the cargo's words keep the rule.
use Rattle.std.proofs.Common.{◌≡◌, ℕ, ◌+◌, ◌%◌, ◌^◌, ◌<◌, ◌≤◌, ◌⊎◌, inl, inr, ⊎_elim, List, map, set, get_or, drop, Bool, true, false, cond, eqb, eq-eqb, ne_eqb, sym, refl, ap, ◌∙◌, subst, arith, length-set, length-drop, get_or-drop, get_or-set_other, Option, Some, None}
use Rattle.std.proofs.lemmas.List.{map-set, drop-set-add}
use mathlib.Core.Option.{none, some}
use lib.ListN.{get_elem?}
use Rattle.atomic_table.specs.Table.{State, Me, step, keeps, Allows}
use Rattle.atomic_table.proofs.Lists.{at_set, at_map}
use Rattle.hall.specs.declared.cargo.CargoRule.{Ghosts}
use Rattle.hall.specs.declared.view.View.{View}
use Rattle.hall.specs.declared.view.Plan.{Plan}
use Rattle.hall.specs.declared.view.StepKind.{StepKind}
use Rattle.hall.specs.declared.view.StepKind.TheVariants.{LoadCargo, StoreCargo, AddCargo}
use Rattle.hall.specs.Cargo.{Apart, Notes, noted_seat}
use Rattle.hall.specs.Locks.{Lawful, cover, counts, named_by}
use Rattle.hall.specs.Views.{footprint, is_away, is_strong, standing, after_note, cargo_place_of}
use Rattle.lock_model.specs.Locks.{Has}
use Rattle.hall.specs.Numbers.{owns}
use Rattle.hall.specs.Trails.{is_join, last_read, Heads, Reasoned, Others, StrongOthers}
use Rattle.hall.proofs.Racing.{reasoned_more}
use Rattle.hall.specs.declared.view.StepEntry.{StepEntry}
use Rattle.hall.specs.Plays.{OnCargo, LoadsWord, StoresWord, AddsToWord}
use Rattle.hall.specs.Moves.{CargoMoment}
use Rattle.hall.specs.ShownLaws.{shown_same}
use Rattle.hall.specs.declared.view.Shape.{Shape}
use Rattle.hall.specs.Rule.{Holds, Formed, cargo_seat}
use Rattle.hall.specs.NumberLaws.{numbered_same}
use Rattle.hall.proofs.Locking.{counts_same, named_same, swept_same}
use Rattle.hall.proofs.Trailing.{Others_stay, StrongOthers_stay}
use Rattle.view_sums.specs.Sums.{total-set, total-same, same-refl}
use Rattle.hall.proofs.Cargoes.{all_apart}

module _ {C P : Type 0} (g : Ghosts C P) (plan : Plan C) (s : State (Unit {0}) (View P)) (h : Holds g plan s) (id k n : ℕ) (v : View P) (kind : StepKind) (word used : ℕ) (won : Bool) (part : P) (at : get_elem? s.views id ≡ some v) (lives : 0 < v.span) (inside : k < plan.shape.words)
    (steps : is_join kind ≡ false) where
  abbrev base : ℕ
  base = plan.shape.slots + plan.shape.locks

  abbrev after : View P
  after = after_note v kind (base + k) word won used part

  elsewhere : (lock : ℕ) → lock < plan.shape.locks → get_or (set s.words (base + k) n) (plan.shape.slots + lock) 0 ≡ get_or s.words (plan.shape.slots + lock) 0
  elsewhere lock below = get_or-set_other s.words (base + k) (plan.shape.slots + lock) n 0 (λ e. omega arith)

  pub apart : Apart (map cargo_seat s.views)
  apart = all_apart plan.shape s.words s.views h.formed h.lawful

  stays : (lock w number : ℕ) → lock < plan.shape.locks → (get_or s.words (plan.shape.slots + lock) 0 ≡ w) ⊎ Others s.views lock number → (get_or (set s.words (base + k) n) (plan.shape.slots + lock) 0 ≡ w) ⊎ Others (set s.views id after) lock number
  stays lock w number below = ⊎_elim (λ e. inl (elsewhere lock below ∙ e)) (λ o. inr (Others_stay s.views id v after lock number at (λ a t. t) o))

  skip : (lock w : ℕ) → lock < plan.shape.locks → last_read (plan.shape.slots + lock) v.number after.steps ≡ Some w → last_read (plan.shape.slots + lock) v.number v.steps ≡ Some w
  skip lock w below is =
      let rest : Option ℕ = last_read (plan.shape.slots + lock) v.number v.steps in let this : Option ℕ = cond won None (Some word) in
      let far : eqb (base + k) (plan.shape.slots + lock) ≡ false = ne_eqb (base + k) (plan.shape.slots + lock) (λ e. omega arith) in
      sym (ap (λ b. cond b (cond (is_join kind) None (cond (eqb (base + k) (plan.shape.slots + lock)) this rest)) None) (eq-eqb v.number v.number refl)
      ∙ ap (λ b. cond b None (cond (eqb (base + k) (plan.shape.slots + lock)) this rest)) steps ∙ ap (λ b. cond b this rest) far) ∙ is

  pub carried : g.holds plan.cargo (set (drop base s.words) k n) (set (map cargo_seat s.views) id (noted_seat (cargo_seat v) used part)) → Holds g plan record { words = set s.words (base + k) n; homes = s.homes; views = set s.views id after }
  carried loads = record {
    size = length-set s.words (base + k) n ∙ h.size;
    some_slot = h.some_slot;
    few_slots = h.few_slots;
    few = h.few;
    rationed = omega (arith, total-set (λ (u : View P). u.quota) s.views id v after at, h.rationed);
    counted = h.counted;
    formed = λ j u e. ⊎_elim (λ t. let f = h.formed id v at in subst (Formed plan.shape) t.1 record { shape = f.shape; wide = f.wide; spent = λ dead. absurd (omega arith); seated = f.seated; one_pending = f.one_pending }) (λ t. h.formed j u t.1) (at_set s.views id j after u e);
    numbered = numbered_same plan.shape.seats s.views id v after h.numbered at refl refl refl;
    lawful = λ lock below.
        subst (λ (z : ℕ). Lawful z (named_by plan.shape.slots lock (set s.words (base + k) n)) (counts lock (set s.views id after))) (sym (elsewhere lock below))
        (subst (λ (z : ℕ). Lawful (get_or s.words (plan.shape.slots + lock) 0) z (counts lock (set s.views id after))) (sym (named_same plan.shape.slots lock s.words (base + k) n (omega arith)))
        (subst (Lawful (get_or s.words (plan.shape.slots + lock) 0) (named_by plan.shape.slots lock s.words)) (sym (counts_same s.views id lock v after at refl)) (h.lawful lock below)));
    swept = swept_same plan.shape s.words (set s.words (base + k) n) s.views (set s.views id after) h.swept (λ j b. get_or-set_other s.words (base + k) j n 0 (λ e. omega arith)) (λ j lock. total-same (λ (u : View P). cover j (standing u lock)) s.views id v after at refl);
    slot_words = λ j b. subst (λ (z : ℕ). z ≤ plan.shape.locks) (sym (get_or-set_other s.words (base + k) j n 0 (λ e. omega arith))) (h.slot_words j b);
    trailed = record {
      present = λ j u e lock is. ⊎_elim (λ t. let F : View P → Type 0 = λ z. is_away (standing z lock) ≡ false → (strong : Bool) × Has z.trail (footprint z.number lock strong) in subst F t.1 (h.trailed.present id v at lock) is) (λ t. h.trailed.present j u t.1 lock is) (at_set s.views id j after u e);
      strongly = λ j u e lock is. ⊎_elim (λ t. let F : View P → Type 0 = λ z. is_strong (standing z lock) ≡ true → Has z.trail (footprint z.number lock true) in subst F t.1 (h.trailed.strongly id v at lock) is) (λ t. h.trailed.strongly j u t.1 lock is) (at_set s.views id j after u e);
      remembered = λ j u e lock w below is. ⊎_elim
          (λ t. let F : View P → Type 0 = λ z. last_read (plan.shape.slots + lock) z.number z.steps ≡ Some w → (get_or (set s.words (base + k) n) (plan.shape.slots + lock) 0 ≡ w) ⊎ Others (set s.views id after) lock z.number in
          subst F t.1 (λ is. stays lock w v.number below (h.trailed.remembered id v at lock w below (skip lock w below is))) is)
          (λ t. stays lock w u.number below (h.trailed.remembered j u t.1 lock w below is)) (at_set s.views id j after u e);
      owned = λ j u there e has. ⊎_elim
          (λ t. let F : View P → Type 0 = λ z. Has z.steps e → 1 ≤ owns e.number z in subst F t.1 (⊎_elim (λ is. subst (λ (z : StepEntry). 1 ≤ owns z.number after) (sym is) (omega (arith, same-refl v.number))) (λ old. h.trailed.owned id v at e old)) has)
          (λ t. h.trailed.owned j u t.1 e has) (at_set s.views id j after u there);
      trodden = λ j u there m has. ⊎_elim
          (λ t. let F : View P → Type 0 = λ z. Has z.trail m → (0 < z.span) × (1 ≤ owns m.number z) in subst F t.1 (h.trailed.trodden id v at m) has)
          (λ t. h.trailed.trodden j u t.1 m has) (at_set s.views id j after u there);
      newest = λ j u there. ⊎_elim (λ t. let F : View P → Type 0 = λ z. Heads z.number z.steps in subst F t.1 refl) (λ t. h.trailed.newest j u t.1) (at_set s.views id j after u there);
      counted = λ j u there e has lock below place is_hold lost count. ⊎_elim
          (λ t. let F : View P → Type 0 = λ z. Has z.steps e → Others (set s.views id after) lock e.number in
          subst F t.1 (⊎_elim (λ is. absurd (let p : base + k ≡ plan.shape.slots + lock = ap (λ (z : StepEntry). z.place) (sym is) ∙ place in omega arith))
          (λ old. Others_stay s.views id v after lock e.number at (λ a t. t) (h.trailed.counted id v at e old lock below place is_hold lost count))) has)
          (λ t. Others_stay s.views id v after lock e.number at (λ a t. t) (h.trailed.counted j u t.1 e has lock below place is_hold lost count)) (at_set s.views id j after u there);
      raced = λ j u there lock below. ⊎_elim
          (λ t. subst (λ (z : View P). Reasoned (Others (set s.views id after) lock) (plan.shape.slots + lock) z.steps) t.1 (
            (λ place. absurd (omega (arith, place))),
            reasoned_more (Others s.views lock) (Others (set s.views id after) lock) (plan.shape.slots + lock) v.steps (λ m o. Others_stay s.views id v after lock m at (λ a t. t) o) (h.trailed.raced id v at lock below),
          ))
          (λ t. reasoned_more (Others s.views lock) (Others (set s.views id after) lock) (plan.shape.slots + lock) u.steps (λ m o. Others_stay s.views id v after lock m at (λ a t. t) o) (h.trailed.raced j u t.1 lock below)) (at_set s.views id j after u there);
      excused = λ j u there e has lock below place off bits. ⊎_elim
          (λ t. let F : View P → Type 0 = λ z. Has z.steps e → StrongOthers (set s.views id after) lock e.number in
          subst F t.1 (⊎_elim (λ is. absurd (let p : base + k ≡ plan.shape.slots + lock = ap (λ (z : StepEntry). z.place) (sym is) ∙ place in omega arith))
          (λ old. StrongOthers_stay s.views id v after lock e.number at (λ a t. t) (h.trailed.excused id v at e old lock below place off bits))) has)
          (λ t. StrongOthers_stay s.views id v after lock e.number at (λ a t. t) (h.trailed.excused j u t.1 e has lock below place off bits)) (at_set s.views id j after u there);
    };
    gone = λ j u e dead. ⊎_elim (λ t. absurd (let z : v.span ≡ 0 = ap (λ (y : View P). y.span) t.1 ∙ dead in omega arith)) (λ t. h.gone j u t.1 dead) (at_set s.views id j after u e);
    cargo = subst (λ ws. g.holds plan.cargo ws (map cargo_seat (set s.views id after))) (sym (drop-set-add base s.words k n)) (subst (g.holds plan.cargo (set (drop base s.words) k n)) (sym (map-set cargo_seat s.views id after)) loads);
  }

  -- the moment of the step
  pub moment : (shape : v.shape ≡ plan.shape) → Holds g plan record { words = set s.words (base + k) n; homes = s.homes; views = set s.views id after } → CargoMoment g v after k (get_or s.words (base + k) 0) n (drop base s.words)
  moment shape kept = record {
    plan = plan;
    state = s;
    id = id;
    shape = sym shape;
    near = inside;
    mine = at;
    words = refl;
    finds = get_or-drop base s.words k 0;
    before = h;
    after = kept;
    apart = λ j low. get_or-set_other s.words (base + k) j n 0 (λ e. omega arith);
    still = λ lock. shown_same s.views id lock v after at refl refl refl;
  }

  -- the view after it, by the pass's own shape
  pub placed : v.shape ≡ plan.shape → after ≡ after_note v kind (cargo_place_of v k) word won used part
  placed shape = ap (λ (z : Shape). after_note v kind (z.slots + z.locks + k) word won used part) (sym shape)

module _ {C P : Type 0} (g : Ghosts C P) (plan : Plan C) (n id : ℕ) (me : Me (Unit {0}) (View P)) (k i : ℕ) (is : i ≡ plan.shape.slots + plan.shape.locks + k) (shape : me.0.shape ≡ plan.shape) (lives : 0 < me.0.span) (inside : k < plan.shape.words) (becomes : List ℕ → ℕ → P → P → Type 0) where
  abbrev base' : ℕ
  base' = plan.shape.slots + plan.shape.locks

  read : (s : State (Unit {0}) (View P)) → get_or (drop base' s.words) k 0 ≡ get_or s.words (base' + k) 0
  read s = get_or-drop base' s.words k 0

  here : base' + k ≡ cargo_place_of me.0 k
  here = ap (λ (z : Shape). z.slots + z.locks + k) (sym shape)

  pub loads : Notes (g.holds plan.cargo) id (cargo_seat me.0) 0 k (λ x. x) becomes → Allows (Holds g plan) n id me i (λ x. x) (OnCargo (LoadsWord g becomes) (step n i 0 0 none) me)
  loads note =
      let F : ℕ → Type 0 = λ i. Allows (Holds g plan) n id me i (λ x. x) (OnCargo (LoadsWord g becomes) (step n i 0 0 none) me) in
      subst F (sym is) (λ s h wide at fits. let v : View P = me.0 in let x : ℕ = get_or s.words (base' + k) 0 in let ws : List ℕ = drop base' s.words in
      let t = note ws (map cargo_seat s.views) h.cargo (apart g plan s h id k x v LoadCargo x 0 false v.part at lives inside refl) (at_map cargo_seat s.views id v at) (omega (arith, length-drop base' s.words, h.size)) (subst (λ (z : ℕ). z < 18446744073709551616) (sym (read s)) fits) in
      let kept = carried g plan s h id k x v LoadCargo x 0 false t.0 at lives inside refl
      (subst (λ (z : ℕ). g.holds plan.cargo (set ws k z) (set (map cargo_seat s.views) id (noted_seat (cargo_seat v) 0 t.0))) (read s) t.2) in (
        after_note v LoadCargo (base' + k) x false 0 t.0,
        keeps,
        tt,
        kept,
        (refl, (k, here, (ws, t.0, subst (λ (z : ℕ). becomes ws z v.part t.0) (read s) t.1, placed g plan s h id k x v LoadCargo x 0 false t.0 at lives inside refl shape, moment g plan s h id k x v LoadCargo x 0 false t.0 at lives inside refl shape kept))),
      ))

  pub stores : (value : ℕ) → Notes (g.holds plan.cargo) id (cargo_seat me.0) 0 k (λ _. value) becomes → Allows (Holds g plan) n id me i (λ _. value) (λ _. OnCargo (StoresWord g becomes) (step n i value 0 none) me value)
  stores value note =
      let F : ℕ → Type 0 = λ i. Allows (Holds g plan) n id me i (λ _. value) (λ _. OnCargo (StoresWord g becomes) (step n i value 0 none) me value) in
      subst F (sym is) (λ s h wide at fits. let v : View P = me.0 in let x : ℕ = get_or s.words (base' + k) 0 in let ws : List ℕ = drop base' s.words in
      let t = note ws (map cargo_seat s.views) h.cargo (apart g plan s h id k x v LoadCargo x 0 false v.part at lives inside refl) (at_map cargo_seat s.views id v at) (omega (arith, length-drop base' s.words, h.size)) (subst (λ (z : ℕ). z < 18446744073709551616) (sym (read s)) fits) in
      let kept = carried g plan s h id k value v StoreCargo value 0 true t.0 at lives inside refl t.2 in (
        after_note v StoreCargo (base' + k) value true 0 t.0,
        keeps,
        tt,
        kept,
        (refl, (k, here, (x, ws, t.0, subst (λ (z : ℕ). becomes ws z v.part t.0) (read s) t.1, placed g plan s h id k value v StoreCargo value 0 true t.0 at lives inside refl shape, moment g plan s h id k value v StoreCargo value 0 true t.0 at lives inside refl shape kept))),
      ))

  pub adds : (k' : ℕ) → k' ≤ me.0.quota → Notes (g.holds plan.cargo) id (cargo_seat me.0) k' k (λ x. (x + k') % 2 ^ 64) becomes → Allows (Holds g plan) n id me i (λ x. (x + k') % 2 ^ 64) (OnCargo (AddsToWord g becomes k') (step n i k' 0 none) me)
  adds k' enough note =
      let F : ℕ → Type 0 = λ i. Allows (Holds g plan) n id me i (λ x. (x + k') % 2 ^ 64) (OnCargo (AddsToWord g becomes k') (step n i k' 0 none) me) in
      subst F (sym is) (λ s h wide at fits. let v : View P = me.0 in let x : ℕ = get_or s.words (base' + k) 0 in let ws : List ℕ = drop base' s.words in
      let t = note ws (map cargo_seat s.views) h.cargo (apart g plan s h id k x v LoadCargo x 0 false v.part at lives inside refl) (at_map cargo_seat s.views id v at) (omega (arith, length-drop base' s.words, h.size)) (subst (λ (z : ℕ). z < 18446744073709551616) (sym (read s)) fits) in
      let kept = carried g plan s h id k ((x + k') % 2 ^ 64) v AddCargo x k' true t.0 at lives inside refl
      (subst (λ (z : ℕ). g.holds plan.cargo (set ws k ((z + k') % 2 ^ 64)) (set (map cargo_seat s.views) id (noted_seat (cargo_seat v) k' t.0))) (read s) t.2) in (
        after_note v AddCargo (base' + k) x true k' t.0,
        keeps,
        tt,
        kept,
        (refl, (k, here, (ws, t.0, subst (λ (z : ℕ). becomes ws z v.part t.0) (read s) t.1, placed g plan s h id k ((x + k') % 2 ^ 64) v AddCargo x k' true t.0 at lives inside refl shape, moment g plan s h id k ((x + k') % 2 ^ 64) v AddCargo x k' true t.0 at lives inside refl shape kept))),
      ))
