-- Why an acquisition may be refused: whoever read a word that conflicts, or found a word changed, was not alone at the lock.
use Rattle.std.specs.Prelude.{◌≡◌, ◌≢◌, ◌⊎◌, ℕ, zero, suc, ◌+◌, ◌/◌, ◌%◌, cond, eqb, ◌==◌, ◌||◌, List, [], ◌∷◌, slice_set, Bool, true, false, Option, Some, None}
use Rattle.std.proofs.Common.{arith, refl, sym, ap, ◌∙◌, subst, inl, inr, ⊎_elim, eq-eqb, ne_eqb}
use mathlib.Core.Option.{some, some-ne-none}
use mathlib.Core.Logic.{dite}
use native.Mathlib.Decide.{ℕ_discrete}
use lib.ListN.{get_elem?}
use Rattle.atomic_table.specs.Table.{State}
use Rattle.lock_model.specs.declared.model.Act.{Act}
use Rattle.lock_model.specs.declared.model.Policy.{Policy}
use Rattle.lock_model.specs.declared.model.Policy.TheVariants.{WritePriority, ReadPriority}
use Rattle.state_word.specs.Words.{upgrade_of, begun_of, held_of, units_of}
use Rattle.hall.specs.declared.cargo.CargoRule.{Ghosts}
use Rattle.hall.specs.declared.view.View.{View}
use Rattle.hall.specs.declared.view.Plan.{Plan}
use Rattle.hall.specs.declared.view.Shape.{Shape}
use Rattle.hall.specs.declared.view.StepKind.{StepKind}
use Rattle.hall.specs.declared.view.StepKind.TheVariants.{Load, Hold}
use Rattle.hall.specs.Moves.{Moment}
use Rattle.hall.specs.Plays.{conflicts_for_shared, conflicts_for_announcing}
use Rattle.hall.specs.Rule.{Holds}
use Rattle.hall.specs.Trails.{Others, StrongOthers, last_read}
use Rattle.hall.specs.Views.{is_outside, standing, after_look}

module _ {C P : Type 0} (g : Ghosts C P) where
  -- at a moment at which the rule held and the pass had this view, another number had been at the lock
  pub record WasNotAlone (v : View P) (lock : ℕ) : Type 0 where
    pub plan : Plan C
    pub state : State (Unit {0}) (View P)
    pub id : ℕ
    pub shape : plan.shape ≡ v.shape
    pub mine : get_elem? state.views id ≡ some v
    pub holds : Holds g plan state
    pub others : Others state.views lock v.number

  -- the same, and the other was announced there, or held upgrade or exclusive
  pub record MetAWriter (v : View P) (lock : ℕ) : Type 0 where
    pub plan : Plan C
    pub state : State (Unit {0}) (View P)
    pub id : ℕ
    pub shape : plan.shape ≡ v.shape
    pub mine : get_elem? state.views id ≡ some v
    pub holds : Holds g plan state
    pub others : StrongOthers state.views lock v.number

set_there : {A : Type 0} (l : List A) (i : ℕ) (a b : A) → get_elem? l i ≡ some a → get_elem? (slice_set l i b) i ≡ some b
set_there [] i a b e = absurd (some-ne-none a (sym e))
set_there (x ∷ xs) zero a b e = refl
set_there (x ∷ xs) (suc i) a b e = set_there xs i a b e

either_on : (a b : Bool) → a || b ≡ true → (a ≡ true) ⊎ (b ≡ true)
either_on a b h = elim a as (λ z. z || b ≡ true → (z ≡ true) ⊎ (b ≡ true)) [ true ↦ λ _. inl refl | false ↦ λ e. inr e ] h

is_set : (b : ℕ) → (b == 1) ≡ true → b ≡ 1
is_set b e = dite (ℕ_discrete b 1) (λ is. is) (λ ne. let off : (b == 1) ≡ false = ne_eqb b 1 ne in absurd (cc))

-- a word that conflicts has one of the three bits
pub shared_bits : (p : Policy) (w : ℕ) → conflicts_for_shared p w ≡ true → w / 2 % 8 ≢ 0
shared_bits WritePriority w h zeroed = ⊎_elim (λ a. let one = is_set (held_of w) a in omega arith) (λ b. let one = is_set (begun_of w) b in omega arith) (either_on (held_of w == 1) (begun_of w == 1) h)
shared_bits ReadPriority w h zeroed = let one = is_set (held_of w) h in omega arith

pub announcing_bits : (w : ℕ) → conflicts_for_announcing w ≡ true → w / 2 % 8 ≢ 0
announcing_bits w h zeroed = ⊎_elim (λ a. let one = is_set (upgrade_of w) a in omega arith)
    (λ b. ⊎_elim (λ c. let one = is_set (begun_of w) c in omega arith) (λ c. let one = is_set (held_of w) c in omega arith) (either_on (begun_of w == 1) (held_of w == 1) b))
    (either_on (upgrade_of w == 1) ((begun_of w == 1) || (held_of w == 1)) h)

module _ {C P : Type 0} (g : Ghosts C P) (v w : View P) (lock found left : ℕ) (kind : StepKind) (act : Option Act) (m : Moment g v w lock found left act) (is : w ≡ after_look v kind lock found) where
  place_is : v.shape.slots + lock ≡ m.plan.shape.slots + lock
  place_is = ap (λ (z : Shape). z.slots + lock) (sym m.shape)

  here : get_elem? (slice_set m.state.views m.id w) m.id ≡ some w
  here = set_there m.state.views m.id v w m.mine

  shape_is : m.plan.shape ≡ w.shape
  shape_is = m.shape ∙ ap (λ (z : View P). z.shape) (sym is)

  -- who read a bit of a writer or of an upgrade from outside met one
  pub read_conflict : is_outside (standing v lock) ≡ true → found / 2 % 8 ≢ 0 → MetAWriter g w lock
  read_conflict outside bits = record {
    plan = m.plan;
    state = record { words = slice_set m.state.words (v.shape.slots + lock) left; homes = m.state.homes; views = slice_set m.state.views m.id w };
    id = m.id;
    shape = shape_is;
    mine = here;
    holds = m.after;
    others =
        let look : View P = after_look v kind lock found in
        let at_look : get_elem? (slice_set m.state.views m.id w) m.id ≡ some look = here ∙ ap some is in
        let got : StrongOthers (slice_set m.state.views m.id w) lock v.number = m.after.trailed.excused m.id look at_look (record { number = v.number; kind = kind; lock = lock; place = v.shape.slots + lock; before = standing v lock; word = found; won = false }) (inl refl) lock m.near place_is outside bits in
        subst (λ (z : View P). StrongOthers (slice_set m.state.views m.id w) lock z.number) (sym is) got;
  }

  -- an announced writer that found a count met a reader
  pub found_readers : kind ≡ Hold → units_of found ≢ 0 → WasNotAlone g w lock
  found_readers held count = record {
    plan = m.plan;
    state = record { words = slice_set m.state.words (v.shape.slots + lock) left; homes = m.state.homes; views = slice_set m.state.views m.id w };
    id = m.id;
    shape = shape_is;
    mine = here;
    holds = m.after;
    others =
        let look : View P = after_look v kind lock found in
        let at_look : get_elem? (slice_set m.state.views m.id w) m.id ≡ some look = here ∙ ap some is in
        let got : Others (slice_set m.state.views m.id w) lock v.number = m.after.trailed.counted m.id look at_look (record { number = v.number; kind = kind; lock = lock; place = v.shape.slots + lock; before = standing v lock; word = found; won = false }) (inl refl) lock m.near place_is held refl count in
        subst (λ (z : View P). Others (slice_set m.state.views m.id w) lock z.number) (sym is) got;
  }

  -- who found another word than it had loaded just before was not alone
  pub found_changed : (before : View P) (expected : ℕ) → v ≡ after_look before Load lock expected → expected ≢ found → WasNotAlone g w lock
  found_changed before expected loaded differ = record {
    plan = m.plan;
    state = record { words = slice_set m.state.words (v.shape.slots + lock) left; homes = m.state.homes; views = slice_set m.state.views m.id w };
    id = m.id;
    shape = shape_is;
    mine = here;
    holds = m.after;
    others =
        let look : View P = after_look v kind lock found in let p : ℕ = m.plan.shape.slots + lock in
        let at_look : get_elem? (slice_set m.state.views m.id w) m.id ≡ some look = here ∙ ap some is in
        let reason = m.after.trailed.raced m.id look at_look lock m.near in
        let same_place : before.shape.slots + lock ≡ p = ap (λ (z : View P). z.shape.slots + lock) (sym loaded) ∙ place_is in
        let told : last_read p before.number (after_look before Load lock expected).steps ≡ Some expected =
        ap (λ (b : Bool). cond b (cond (eqb (before.shape.slots + lock) p) (Some expected) (last_read p before.number before.steps)) None) (eq-eqb before.number before.number refl)
        ∙ ap (λ (b : Bool). cond b (Some expected) (last_read p before.number before.steps)) (eq-eqb (before.shape.slots + lock) p same_place) in
        let told_v : last_read p v.number v.steps ≡ Some expected = ap (λ (z : View P). last_read p z.number z.steps) loaded ∙ told in
        let got : Others (slice_set m.state.views m.id w) lock v.number = reason.0 place_is expected told_v differ in
        subst (λ (z : View P). Others (slice_set m.state.views m.id w) lock z.number) (sym is) got;
  }
