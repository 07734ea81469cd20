-- The part of the rule on trails: one lemma for all steps on a slot.
use Rattle.std.proofs.Common.{◌≡◌, ℕ, ◌+◌, ◌<◌, ◌≤◌, ◌⊎◌, inl, inr, ⊎_elim, Bool, true, false, cond, eqb, eq-eqb, ne_eqb, List, set, get_or, sym, refl, ap, ◌∙◌, subst, arith, get_or-set_other, Option, Some, None}
use mathlib.Core.Option.{some}
use lib.ListN.{get_elem?}
use Rattle.atomic_table.proofs.Lists.{at_set}
use Rattle.hall.specs.declared.view.View.{View}
use Rattle.hall.specs.declared.view.Shape.{Shape}
use Rattle.hall.specs.declared.view.Footprint.{Footprint}
use Rattle.hall.specs.declared.view.StepKind.{StepKind}
use Rattle.hall.specs.declared.view.StepEntry.{StepEntry}
use Rattle.hall.specs.declared.view.Standing.{Standing}
use Rattle.hall.specs.Views.{footprint, is_away, is_strong, standing, after_step_at}
use Rattle.lock_model.specs.Locks.{Has}
use Rattle.view_sums.specs.Sums.{same-refl}
use Rattle.hall.specs.Numbers.{owns}
use Rattle.hall.specs.Trails.{is_join, last_read, Heads, Reasoned, Others, StrongOthers, Trailed}
use Rattle.hall.proofs.Racing.{reasoned_more}
use Rattle.hall.proofs.Trailing.{Others_stay, StrongOthers_stay, trail_grows, present_now, strongly_now, trodden_now}
use Rattle.hall.specs.Rule.{AllFormed}

module _ {P : Type 0} (sh : Shape) (words : List ℕ) (views : List (View P)) (id lock slot n word : ℕ) (v : View P) (kind : StepKind) (won : Bool) (y : Standing) (part : P) (tr : Trailed sh words views) (formed : AllFormed sh views) (at : get_elem? views id ≡ some v)
    (lives : 0 < v.span) (near : lock < sh.locks) (inside : slot < sh.slots) (steps : is_join kind ≡ false) where
  abbrev after : View P
  after = after_step_at v kind lock slot word won y part

  grows : (a : Footprint) → Has v.trail a → Has after.trail a
  grows a h = trail_grows sh words views id lock slot word v kind won y part tr formed at lives near a h

  -- the words of the locks stay
  stays : (k : ℕ) → get_or (set words slot n) (sh.slots + k) 0 ≡ get_or words (sh.slots + k) 0
  stays k = get_or-set_other words slot (sh.slots + k) n 0 (λ e. omega arith)

  -- and what is remembered of them
  still : (k w number : ℕ) → (get_or words (sh.slots + k) 0 ≡ w) ⊎ Others views k number → (get_or (set words slot n) (sh.slots + k) 0 ≡ w) ⊎ Others (set views id after) k number
  still k w number = ⊎_elim (λ e. inl (stays k ∙ e)) (λ o. inr (Others_stay views id v after k number at grows o))

  -- the step is no read of a lock's word
  skip : (k w : ℕ) → last_read (sh.slots + k) v.number after.steps ≡ Some w → last_read (sh.slots + k) v.number v.steps ≡ Some w
  skip k w is =
      let rest : Option ℕ = last_read (sh.slots + k) v.number v.steps in let this : Option ℕ = cond won None (Some word) in
      let far : eqb slot (sh.slots + k) ≡ false = ne_eqb slot (sh.slots + k) (λ e. omega arith) in
      sym (ap (λ b. cond b (cond (is_join kind) None (cond (eqb slot (sh.slots + k)) this rest)) None) (eq-eqb v.number v.number refl)
      ∙ ap (λ b. cond b None (cond (eqb slot (sh.slots + k)) this rest)) steps ∙ ap (λ b. cond b this rest) far) ∙ is

  pub trailed_slot : Trailed sh (set words slot n) (set views id after)
  trailed_slot = record {
    present = λ j u e k h. ⊎_elim
        (λ t. let F : View P → Type 0 = λ z. is_away (standing z k) ≡ false → (strong : Bool) × Has z.trail (footprint z.number k strong) in subst F t.1 (present_now sh words views id lock slot word v kind won y part tr formed at lives near k) h)
        (λ t. tr.present j u t.1 k h) (at_set views id j after u e);
    strongly = λ j u e k h. ⊎_elim
        (λ t. let F : View P → Type 0 = λ z. is_strong (standing z k) ≡ true → Has z.trail (footprint z.number k true) in subst F t.1 (strongly_now sh words views id lock slot word v kind won y part tr formed at lives near k) h)
        (λ t. tr.strongly j u t.1 k h) (at_set views id j after u e);
    remembered = λ j u e k w below h. ⊎_elim
        (λ t. let F : View P → Type 0 = λ z. last_read (sh.slots + k) z.number z.steps ≡ Some w → (get_or (set words slot n) (sh.slots + k) 0 ≡ w) ⊎ Others (set views id after) k z.number in
        subst F t.1 (λ told. still k w v.number (tr.remembered id v at k w below (skip k w told))) h)
        (λ t. still k w u.number (tr.remembered j u t.1 k w below h)) (at_set views id j after u e);
    owned = λ j u there e has. ⊎_elim
        (λ t. let F : View P → Type 0 = λ z. Has z.steps e → 1 ≤ owns e.number z in
        subst F t.1 (⊎_elim (λ is. subst (λ (z : StepEntry). 1 ≤ owns z.number after) (sym is) (omega (arith, same-refl v.number))) (λ old. tr.owned id v at e old)) has)
        (λ t. tr.owned j u t.1 e has) (at_set views id j after u there);
    trodden = λ j u there m has. ⊎_elim
        (λ t. let F : View P → Type 0 = λ z. Has z.trail m → (0 < z.span) × (1 ≤ owns m.number z) in subst F t.1 (trodden_now sh words views id lock slot word v kind won y part tr formed at lives near m) has)
        (λ t. tr.trodden j u t.1 m has) (at_set views id j after u there);
    newest = λ j u there. ⊎_elim (λ t. let F : View P → Type 0 = λ z. Heads z.number z.steps in subst F t.1 refl) (λ t. tr.newest j u t.1) (at_set views id j after u there);
    counted = λ j u there e has k below place is_hold lost count. ⊎_elim
        (λ t. let F : View P → Type 0 = λ z. Has z.steps e → Others (set views id after) k e.number in
        subst F t.1 (⊎_elim (λ is. absurd (let p : slot ≡ sh.slots + k = ap (λ (z : StepEntry). z.place) (sym is) ∙ place in omega arith)) (λ old. Others_stay views id v after k e.number at grows (tr.counted id v at e old k below place is_hold lost count))) has)
        (λ t. Others_stay views id v after k e.number at grows (tr.counted j u t.1 e has k below place is_hold lost count)) (at_set views id j after u there);
    raced = λ j u there k below. ⊎_elim
        (λ t. subst (λ (z : View P). Reasoned (Others (set views id after) k) (sh.slots + k) z.steps) t.1 (
          (λ place. absurd (omega arith)),
          reasoned_more (Others views k) (Others (set views id after) k) (sh.slots + k) v.steps (λ m o. Others_stay views id v after k m at grows o) (tr.raced id v at k below),
        ))
        (λ t. reasoned_more (Others views k) (Others (set views id after) k) (sh.slots + k) u.steps (λ m o. Others_stay views id v after k m at grows o) (tr.raced j u t.1 k below)) (at_set views id j after u there);
    excused = λ j u there e has k below place off bits. ⊎_elim
        (λ t. let F : View P → Type 0 = λ z. Has z.steps e → StrongOthers (set views id after) k e.number in
        subst F t.1 (⊎_elim (λ is. absurd (let p : slot ≡ sh.slots + k = ap (λ (z : StepEntry). z.place) (sym is) ∙ place in omega arith)) (λ old. StrongOthers_stay views id v after k e.number at grows (tr.excused id v at e old k below place off bits))) has)
        (λ t. StrongOthers_stay views id v after k e.number at grows (tr.excused j u t.1 e has k below place off bits)) (at_set views id j after u there);
  }
