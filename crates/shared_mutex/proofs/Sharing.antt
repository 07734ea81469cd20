-- Why a reader was refused, after whatever step ended its call.
use Rattle.std.proofs.Common.{◌≡◌, ◌≢◌, ℕ, zero, suc, ◌+◌, ◌<◌, Bool, true, false, List, [], ◌∷◌, ◌++◌, slice_set, cond, eqb, Option, Some, None, arith, refl, sym, ap, ◌∙◌, subst, inl, inr, eq-eqb, ne_eqb}
use mathlib.Core.Option.{some, some-ne-none}
use lib.ListN.{get_elem?}
use Rattle.atomic_table.specs.Table.{State}
use Rattle.lock_model.specs.declared.model.Act.{Act}
use Rattle.hall.specs.declared.cargo.CargoRule.{Ghosts}
use Rattle.hall.specs.declared.view.Shape.{Shape}
use Rattle.hall.specs.declared.view.StepEntry.{StepEntry}
use Rattle.hall.specs.declared.view.View.{View}
use Rattle.hall.specs.Moves.{MomentAt}
use Rattle.std.specs.Prelude.{MatchResult, Ok, Err}
use Rattle.std.specs.declared.result.Result.{Result}
use Rattle.state_word.specs.Words.{may_defer_of}
use Rattle.hall.specs.declared.guards.Form.{Form}
use Rattle.hall.specs.declared.guards.Form.TheVariants as forms
use Rattle.hall.specs.declared.guards.SharedGuard.{SharedGuard}
use Rattle.hall.specs.declared.guards.TryFault.{TryFault}
use Rattle.hall.specs.declared.guards.Why.TheVariants.{NoDefer}
use Rattle.hall.specs.declared.view.StepKind.TheVariants as kinds
use Rattle.hall.specs.Plays.{Enters, conflicts_for_shared}
use Rattle.hall.specs.declared.view.Standing.{Standing}
use Rattle.hall.specs.declared.view.Standing.TheVariants.{Away}
use Rattle.hall.specs.Fitting.{stands_by}
use Rattle.hall.specs.Views.{after_look, pending}
use Rattle.shared_mutex.specs.Acquiring.{EntersBy, EntersInline, RefusesShared}
use Rattle.hall.specs.Reasons.{MetAWriter, WasNotAlone, found_changed}
use Rattle.hall.specs.Refusals.{BusyForReading, ReadTwoWords, reading_met, racing_met}

set_there : {A : Type 0} (l : List A) (i : ℕ) (a b : A) → get_elem? l i ≡ some a → get_elem? (slice_set l i b) i ≡ some b
set_there [] i a b e = absurd (some-ne-none a (sym e))
set_there (x ∷ xs) zero a b e = refl
set_there (x ∷ xs) (suc i) a b e = set_there xs i a b e

-- at the moment after a step
module _ {C P : Type 0} (g : Ghosts C P) (v w : View P) (lock place found left : ℕ) (act : Option Act) (m : MomentAt g v w lock place found left act) (same : w.shape ≡ v.shape) where
  abbrev after : State (Unit {0}) (View P)
  after = record { words = slice_set m.state.words place left; homes = m.state.homes; views = slice_set m.state.views m.id w }

  here : get_elem? (slice_set m.state.views m.id w) m.id ≡ some w
  here = set_there m.state.views m.id v w m.mine

  shape_is : m.plan.shape ≡ w.shape
  shape_is = m.shape ∙ sym same

  -- who has read a word that lets no reader in met a writer
  pub met_a_writer : BusyForReading w.shape w.number w.steps lock → MetAWriter g w lock
  met_a_writer r = record {
    plan = m.plan;
    state = after;
    id = m.id;
    shape = shape_is;
    mine = here;
    holds = m.after;
    others = reading_met g m.plan after m.after m.id w here w.number lock m.near (subst (λ (s : Shape). BusyForReading s w.number w.steps lock) (sym shape_is) r);
  }

  -- and who has read two words was not alone
  pub was_not_alone : ReadTwoWords w.shape w.number w.steps lock → WasNotAlone g w lock
  was_not_alone r = record {
    plan = m.plan;
    state = after;
    id = m.id;
    shape = shape_is;
    mine = here;
    holds = m.after;
    others = racing_met g m.plan after m.after m.id w here w.number lock m.near (subst (λ (s : Shape). ReadTwoWords s w.number w.steps lock) (sym shape_is) r);
  }

module _ {C P : Type 0} (g : Ghosts C P) (v l w : View P) (lock seen : ℕ) (is : l ≡ after_look v kinds.Load lock seen) (free : conflicts_for_shared v.shape.policy seen ≡ false) where
  -- what a try leaves that ended so
  abbrev Ends : Result SharedGuard TryFault → Type 0
  Ends r = MatchResult r (λ guard. (guard.lock ≡ lock) × EntersBy g v lock guard.form w) (λ fault. RefusesShared g v lock w fault)

  -- an exchange right after the load, from a word that lets nobody defer
  pub by_word : (r : Result SharedGuard TryFault) → may_defer_of seen ≡ 0 → EntersInline g l lock seen (NoDefer seen) w r → Ends r
  by_word (Ok guard) clear e = (e.0, subst (λ (f : Form). EntersBy g v lock f w) (sym e.1) (free, clear, subst (λ (z : View P). Enters g z lock seen w) is e.2))
  by_word (Err fault) clear e =
      let found : ℕ = e.0 in let differ : seen ≢ found = λ same. e.2 (sym same) in let look = e.3 in
      subst (λ (f : TryFault). RefusesShared g v lock w f) (sym e.1)
      (differ, free, inl (clear, look.0 ∙ ap (λ (z : View P). after_look z kinds.Enter lock found) is), found_changed g l w lock found found kinds.Enter None look.2 look.0 v seen is differ)

-- with what a reader's try leaves nothing is pending
pending_by : (form : Form) → pending (stands_by form) ≡ 0
pending_by (forms.Deferred slot) = refl
pending_by (forms.Inline why) = refl
pending_by forms.Lowered = refl

pub settled : (r : Result SharedGuard TryFault) (x : Standing) → MatchResult r (λ guard. x ≡ stands_by guard.form) (λ _. x ≡ Away) → pending x ≡ 0
settled (Ok guard) x e = ap pending e ∙ pending_by guard.form
settled (Err fault) x e = ap pending e
