-- Whom the lock shown lists, and what follows for a reader that enters.
use Rattle.std.proofs.Common.{◌≡◌, ℕ, zero, suc, ◌+◌, ◌<◌, ◌≤◌, true, false, None, List, [], ◌∷◌, slice_set, sym, refl, subst, inl, inr, arith}
use mathlib.Core.Logic.{dite}
use mathlib.Core.Option.{some, some-injective, some-ne-none}
use Rattle.std.proofs.Math.Decide.{dec_lt}
use lib.ListN.{get_elem?}
use Rattle.atomic_table.specs.Table.{State}
use Rattle.lock_model.specs.declared.model.SeatRole.{SeatRole}
use Rattle.lock_model.specs.Locks.{Has}
use Rattle.lock_model.specs.Moves.{no_reader_passes}
use Rattle.state_word.specs.Words.{enter-fields, lower-fields, announce-fields, hold-fields, retract-fields, release-fields, up-fields, down-fields, to_shared-fields, to_upgrade-fields, add-fields}
use Rattle.hall.specs.declared.cargo.CargoRule.{Ghosts}
use Rattle.hall.specs.declared.view.View.{View}
use Rattle.hall.specs.Moves.{shown, lock_shown}
use Rattle.hall.specs.NumberLaws.{numbers_differ}
use Rattle.hall.specs.Shows.{rule_shows}
use Rattle.hall.specs.ShownLaws.{entry, shown_living, shown_spent}
use Rattle.hall.specs.declared.view.Standing.{Standing}
use Rattle.hall.specs.declared.view.Standing.TheVariants.{Away, Inline, Slotted, Undecided, Owing, Upgrade, Exclusive, Announcing}
use Rattle.hall.specs.Cargo.{exclusive_mode}
use Rattle.hall.specs.Locks.{Tally, weight, count}
use Rattle.hall.specs.Views.{mode_of, standing}
use Rattle.view_sums.specs.Sums.{total, terms_le}
use Rattle.lock_laws.specs.Laws.{RuleShows, UnitsCountedOnce, NoReaderEntersPast, CargoStepShows, HolderIsAlone, ChangesFields}

module _ {P : Type 0} where
  -- a pass that isn't spent stands in the lock shown
  shows_it : (views : List (View P)) (lock j : ℕ) (u : View P) → get_elem? views j ≡ some u → 0 < u.span → Has (shown lock views) (entry lock u)
  shows_it [] lock j u e lives = absurd (some-ne-none u (sym e))
  shows_it (x ∷ xs) lock zero u e lives = subst (λ (z : View P). Has (shown lock (z ∷ xs)) (entry lock u)) (sym (some-injective x u e)) (subst (λ (l : List SeatRole). Has l (entry lock u)) (sym (shown_living lock u xs lives)) (inl refl))
  shows_it (x ∷ xs) lock (suc j) u e lives =
      let rest : Has (shown lock xs) (entry lock u) = shows_it xs lock j u e lives in
      dite (dec_lt 0 x.span)
      (λ living. subst (λ (l : List SeatRole). Has l (entry lock u)) (sym (shown_living lock x xs living)) (inr rest))
      (λ dead. subst (λ (l : List SeatRole). Has l (entry lock u)) (sym (shown_spent lock x xs (omega arith))) rest)

-- who holds exclusively counts once as such
exclusive_one : (x : Standing) → mode_of x ≡ exclusive_mode → (weight x).exclusive ≡ 1
exclusive_one x h = elim x as (λ z. mode_of z ≡ exclusive_mode → (weight z).exclusive ≡ 1) [
  | Exclusive ↦ λ _. refl
  | Away ↦ λ h. absurd (cc)
  | Inline ↦ λ h. absurd (cc)
  | Slotted k ↦ λ h. absurd (cc)
  | Undecided k ↦ λ h. absurd (cc)
  | Owing ↦ λ h. absurd (cc)
  | Upgrade ↦ λ h. absurd (cc)
  | Announcing p k f ↦ elim f as (λ b. mode_of (Announcing p k b) ≡ exclusive_mode → (weight (Announcing p k b)).exclusive ≡ 1) [ true ↦ λ h. absurd (cc) | false ↦ λ h. absurd (cc) ]
] h

-- who counts as nothing that has a mode has none
no_mode : (x : Standing) → (weight x).exclusive + (weight x).shared + (weight x).upgrade + (weight x).raised ≤ 0 → mode_of x ≡ None
no_mode x h = elim x as (λ z. (weight z).exclusive + (weight z).shared + (weight z).upgrade + (weight z).raised ≤ 0 → mode_of z ≡ None) [
  | Inline ↦ λ h. absurd (omega arith)
  | Slotted k ↦ λ h. absurd (omega arith)
  | Upgrade ↦ λ h. absurd (omega arith)
  | Exclusive ↦ λ h. absurd (omega arith)
  | Announcing p k f ↦ elim f as (λ b. (weight (Announcing p k b)).exclusive + (weight (Announcing p k b)).shared + (weight (Announcing p k b)).upgrade + (weight (Announcing p k b)).raised ≤ 0 → mode_of (Announcing p k b) ≡ None) [ true ↦ λ h. absurd (omega arith) | false ↦ λ _. refl ]
  | _ ↦ λ _. refl
] h

module _ {C P : Type 0} (g : Ghosts C P) where
  pub shows_locks : RuleShows g
  shows_locks plan s h lock near = rule_shows g plan s h lock near

  pub units_once : UnitsCountedOnce g
  units_once v w lock place found left act m =
      let then : State (Unit {0}) (View P) = record { words = slice_set m.state.words place left; homes = m.state.homes; views = slice_set m.state.views m.id w } in
      ((rule_shows g m.plan m.state m.before lock m.near).units, (rule_shows g m.plan then m.after lock m.near).units)

  pub enters_past_nobody : NoReaderEntersPast g
  enters_past_nobody v w lock found left m lives first j u there ne living f =
      no_reader_passes (lock_shown v.shape.policy lock m.state.views) _ v.number first m.moves (entry lock u) f (shows_it m.state.views lock j u there living)
      (numbers_differ m.plan.shape.seats m.state.views m.id j v u m.before.numbered m.mine there ne lives living)

  pub moves_no_lock : CargoStepShows g
  moves_no_lock v w place found left ws m lock near = (rule_shows g m.plan m.state m.before lock near, m.still lock)

  pub alone_there : HolderIsAlone g
  alone_there v w place found left ws m lock near held j u there ne =
      let l = m.before.lawful lock near in let one = exclusive_one (standing v lock) held in
      let two : (f : Tally → ℕ) → f (weight (standing v lock)) + f (weight (standing u lock)) ≤ total (count f lock) m.state.views = λ f. terms_le (count f lock) m.state.views m.id j v u ne m.mine there in
      let nobody = l.nobody (omega (arith, one, two (λ t. t.exclusive))) in let alone = l.alone in
      no_mode (standing u lock) (omega (arith, one, nobody, alone, two (λ t. t.exclusive), two (λ t. t.upgrade), two (λ t. t.raised), two (λ t. t.shared)))

pub sets_fields : ChangesFields
sets_fields w fits = record {
  enter = enter-fields w fits;
  lower = lower-fields w fits;
  announce = announce-fields w fits;
  hold = hold-fields w fits;
  retract = retract-fields w fits;
  release = release-fields w fits;
  up = up-fields w fits;
  down = down-fields w fits;
  to_shared = to_shared-fields w fits;
  to_upgrade = to_upgrade-fields w fits;
  add = add-fields w fits;
}
