-- The footprints of a query's calls.
use Rattle.std.proofs.Common.{◌≡◌, ℕ, Bool, true, false, List, [], ◌∷◌, refl, sym, subst, inl}
use Rattle.lock_model.specs.Locks.{Has}
use Rattle.hall.specs.declared.view.Footprint.{Footprint}
use Rattle.hall.specs.declared.view.View.{View}
use Rattle.hall.specs.Treading.{IsAt, IsWeakAt, Treads, treads_as, treads_none}
use Rattle.query_rules.specs.declared.query.Query.{Query}
use Rattle.query_rules.specs.Licence.{taken_cells, is_strong}
use Rattle.map_cargo.specs.declared.entry.Part.{Part}
use Rattle.map_cargo.specs.Steps.{Alike, Stays}
use Rattle.query_cells.specs.Asked.{MayTread}

pub treads_self : (may : Footprint → Type 0) (v : View Part) → Treads may v v
treads_self may v = treads_none may v v refl refl

-- what leaves the trail of a pass adds nothing to it
pub alike_treads : (may : Footprint → Type 0) (v w : View Part) → Alike v w → Treads may v w
alike_treads may v w a = treads_none may v w a.number a.trail

pub stays_treads : (may : Footprint → Type 0) (v w : View Part) → Stays v w → Treads may v w
stays_treads may v w a = treads_none may v w a.number a.trail

-- a guard's lock is the cell
pub weak_here : (v w : View Part) (lock cell : ℕ) → lock ≡ cell → Treads (IsWeakAt lock) v w → Treads (IsWeakAt cell) v w
weak_here v w lock cell e t = subst (λ (l : ℕ). Treads (IsWeakAt l) v w) e t

pub at_here : (v w : View Part) (lock cell : ℕ) → lock ≡ cell → Treads (IsAt lock) v w → Treads (IsAt cell) v w
at_here v w lock cell e t = subst (λ (l : ℕ). Treads (IsAt l) v w) e t

-- what a query of one cell may leave
not_strong : (b : Bool) → b ≡ false → b ≡ true → ⊥
not_strong b weak strong = absurd (cc)

pub reads_tread : (q : Query) (cell : ℕ) (v w : View Part) → taken_cells q ≡ cell ∷ [] → Treads (IsWeakAt cell) v w → Treads (MayTread q) v w
reads_tread q cell v w takes t =
    treads_as (IsWeakAt cell) (MayTread q) v w (λ m is. (subst (λ (l : List ℕ). Has l m.lock) (sym takes) (inl is.0), λ strong. absurd (not_strong m.strong is.1 strong))) t

pub writes_tread : (q : Query) (cell : ℕ) (v w : View Part) → taken_cells q ≡ cell ∷ [] → is_strong q ≡ true → Treads (IsAt cell) v w → Treads (MayTread q) v w
writes_tread q cell v w takes strong t =
    treads_as (IsAt cell) (MayTread q) v w (λ m is. (subst (λ (l : List ℕ). Has l m.lock) (sym takes) (inl is), λ any. strong)) t
