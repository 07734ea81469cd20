-- How queries came to their cells: what they tried, what they gained, and in which order.
use Rattle.std.specs.Prelude.{◌≡◌, ℕ, Bool, true, false, cond, List, [], ◌∷◌}
use Rattle.std.proofs.Common.{sym, ap, ◌∙◌, subst, ⊎_elim, arith, eq-eqb}
use Rattle.std.proofs.lemmas.List.Elements.{All-nil, All-cons}
use Rattle.lock_model.specs.Locks.{Has}
use Rattle.hall.specs.declared.cargo.CargoRule.{Ghosts}
use Rattle.hall.specs.declared.guards.TryFault.{TryFault}
use Rattle.hall.specs.declared.guards.TryFault.TheVariants.{Raced}
use Rattle.hall.specs.declared.view.StepKind.TheVariants.{Load}
use Rattle.hall.specs.declared.view.Shape.{Shape}
use Rattle.hall.specs.declared.view.Standing.TheVariants.{Away}
use Rattle.hall.specs.declared.view.StepEntry.{StepEntry}
use Rattle.hall.specs.declared.view.View.{View}
use Rattle.hall.specs.Views.{entry_of, mode_of, standing}
use Rattle.shared_mutex.specs.Acquiring.{RefusesExclusive, RefusesShared}
use Rattle.shared_mutex.specs.Refused.{AddsReads, reads_then}
use Rattle.shared_mutex.specs.Tries.{AddsSteps, IsTry}
use Rattle.shared_mutex.specs.TryLaws.{adds_as, adds_then}
use Rattle.sync_cell.specs.Gains.{GainedInOrder, refuses_reader, refuses_writer}
use Rattle.sync_cell.specs.GainLaws.{IsTrySuch, reader_raced, still_in_order, tries_then, writer_raced}
use Rattle.query_rules.specs.declared.query.Query.{Query}
use Rattle.query_rules.specs.declared.query.Query.TheVariants as query
use Rattle.query_rules.specs.declared.query.Reply.{Reply}
use Rattle.query_rules.specs.Licence.{taken_cells}
use Rattle.map_cargo.specs.declared.size.MapCargo.{MapCargo}
use Rattle.map_cargo.specs.declared.entry.Part.{Part}
use Rattle.map_cargo.specs.Entries.{named_cells}
use Rattle.map_cargo.specs.Licences.{LoadedOnce}
use Rattle.map_cargo.specs.Steps.{MoreSteps}
use Rattle.query_cells.specs.Asked.{OnlyTried, TakesInOrder, is_granted}
use Rattle.query_cells.specs.Answers.{TurnedAway}

pub not_both : (b : Bool) → b ≡ true → b ≡ false → ⊥
not_both b t f = absurd (cc)

is_one : (a k : ℕ) → Has (a ∷ []) k → k ≡ a
is_one a k has = ⊎_elim (λ e. e) (λ bad. absurd bad) has

-- ---- tries after tries
pub plain_then : (v u w : View Part) (lock : ℕ) → u.number ≡ v.number → AddsSteps (IsTry v lock) v u → AddsSteps (IsTry u lock) u w → AddsSteps (IsTry v lock) v w
plain_then v u w lock number a b = adds_then (IsTry v lock) v u w a (adds_as (IsTry u lock) (IsTry v lock) u w (λ e p. (p.0 ∙ number, p.1, p.2)) b)

pub reads_more : (v u w : View Part) (lock : ℕ) → u.number ≡ v.number → u.shape ≡ v.shape → AddsSteps (IsTrySuch (λ e. refuses_reader v.shape.policy e ≡ false) v lock) v u → AddsSteps (IsTrySuch (λ e. refuses_reader u.shape.policy e ≡ false) u lock) u w
    → AddsSteps (IsTrySuch (λ e. refuses_reader v.shape.policy e ≡ false) v lock) v w
reads_more v u w lock number shape a b =
    tries_then (λ e. refuses_reader v.shape.policy e ≡ false) v u w lock number a (subst (λ (s : Shape). AddsSteps (IsTrySuch (λ e. refuses_reader s.policy e ≡ false) u lock) u w) shape b)

module _ (g : Ghosts MapCargo Part) (v w : View Part) (lock : ℕ) (away : standing v lock ≡ Away) (fault : TryFault) (expected found : ℕ) (is : fault ≡ Raced expected found) where
  pub raced_read : RefusesShared g v lock w fault → AddsSteps (IsTrySuch (λ e. refuses_reader v.shape.policy e ≡ false) v lock) v w
  raced_read r = reader_raced g v lock away expected found w (subst (λ (f : TryFault). RefusesShared g v lock w f) is r)

  pub raced_write : RefusesExclusive g v lock w fault → AddsSteps (IsTrySuch (λ e. refuses_writer e ≡ false) v lock) v w
  raced_write r = writer_raced g v w lock away expected found (subst (λ (f : TryFault). RefusesExclusive g v lock w f) is r)

-- ---- refused queries
pub granted_tried : (q : Query) (reply : Reply) (v w : View Part) → is_granted reply ≡ true → OnlyTried q reply v w
granted_tried q reply v w granted = λ refused cell has. absurd (not_both (is_granted reply) granted refused)

-- a pass that was turned away from its cell, and then told so
pub refused_tried : (v u w : View Part) (q : Query) (cell : ℕ) (reply : Reply) → named_cells q ≡ cell ∷ [] → taken_cells q ≡ cell ∷ [] → TurnedAway cell v u → LoadedOnce q u w → OnlyTried q reply v w
refused_tried v u w q cell reply names takes away load =
    let here : load.0 ≡ cell = is_one cell load.0 (subst (λ (l : List ℕ). Has l load.0) names load.2) in
    let e : StepEntry = entry_of u Load load.0 load.1 false in
    let all : AddsSteps (IsTry v cell) v w = adds_then (IsTry v cell) v u w away.tries (e ∷ [], load.3, All-cons (IsTry v cell) e [] (away.nothing.number, here, ap (λ (i : ℕ). mode_of (standing u i)) here ∙ ap mode_of away.away) (All-nil (IsTry v cell))) in
    λ refused k has. subst (λ (i : ℕ). AddsSteps (IsTry v i) v w) (sym (is_one cell k (subst (λ (l : List ℕ). Has l k) takes has))) all

-- ---- two cells
pub none_in_order : (q : Query) (v w : View Part) → taken_cells q ≡ [] → TakesInOrder q v w
none_in_order q v w none = λ low high a b less. absurd (subst (λ (l : List ℕ). Has l low) none a)

pub one_in_order : (q : Query) (cell : ℕ) (v w : View Part) → taken_cells q ≡ cell ∷ [] → TakesInOrder q v w
one_in_order q cell v w takes = λ low high a b less.
    let l : low ≡ cell = is_one cell low (subst (λ (l : List ℕ). Has l low) takes a) in let h : high ≡ cell = is_one cell high (subst (λ (l : List ℕ). Has l high) takes b) in
    absurd (omega (arith, l, h, less))

pub order_then : (v u w : View Part) (low high : ℕ) → AddsReads (λ shape number added. GainedInOrder low high number added) v u → MoreSteps u w → AddsReads (λ shape number added. GainedInOrder low high number added) v w
order_then v u w low high order more = reads_then (λ shape number added. GainedInOrder low high number added) (λ shape number added steps. still_in_order low high number added steps) v u w order (more.added, more.stand)

-- two that are the same one aren't taken
pub same_in_move : (a b key n : ℕ) (v w : View Part) → a ≡ b → TakesInOrder (query.Move a b key n) v w
same_in_move a b key n v w e = none_in_order (query.Move a b key n) v w (ap (λ (t : Bool). cond t [] (a ∷ b ∷ [])) (eq-eqb a b e))

pub same_in_both : (a b key : ℕ) (v w : View Part) → a ≡ b → TakesInOrder (query.Both a b key) v w
same_in_both a b key v w e = none_in_order (query.Both a b key) v w (ap (λ (t : Bool). cond t [] (a ∷ b ∷ [])) (eq-eqb a b e))
