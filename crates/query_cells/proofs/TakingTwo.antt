-- Two cells that were taken at once: what the pass knows then, and by which steps it came to them.
use Rattle.std.specs.Prelude.{Bool, false, ◌==◌, Option, ◌≡◌, ◌≢◌, ◌⊎◌, ℕ, zero, suc, ◌<◌, true, List, [], ◌∷◌, length, Some, Result, Ok, Err, MatchResult}
use Rattle.std.proofs.Common.{refl, sym, ap, ◌∙◌, subst, inl, inr, ⊎_elim, arith}
use Rattle.lock_model.specs.Locks.{Has}
use Rattle.lock_model.specs.declared.model.Mode.{Mode}
use Rattle.hall.specs.declared.view.Footprint.{Footprint}
use Rattle.hall.specs.declared.view.StepKind.{StepKind}
use Rattle.hall.specs.declared.view.StepKind.TheVariants as kinds
use Rattle.hall.specs.declared.view.Shape.{Shape}
use Rattle.hall.specs.declared.view.Standing.{Standing}
use Rattle.hall.specs.declared.view.Standing.TheVariants.{Away, Inline, Slotted, Undecided, Upgrade, Exclusive}
use Rattle.hall.specs.declared.view.View.{View}
use Rattle.hall.specs.Treading.{treads_as}
use Rattle.hall.specs.Views.{after_look, after_step, entry_of, mode_of, standing}
use Rattle.shared_mutex.specs.Refused.{AddsReads}
use Rattle.shared_mutex.specs.Tries.{AddsSteps, IsPatientTry, IsTry}
use Rattle.shared_mutex.specs.TryLaws.{adds_as, stands_still}
use Rattle.acquire_many.specs.declared.guards.Guards.{Guards}
use Rattle.acquire_many.specs.declared.many.SameCell.{SameCell}
use Rattle.acquire_many.specs.Guards.{Fit, said_by}
use Rattle.acquire_many.specs.MetLaws.{of_held}
use Rattle.acquire_many.specs.declared.guards.How.TheVariants as hows
use Rattle.hall.specs.declared.guards.Form.{Form}
use Rattle.hall.specs.declared.guards.Form.TheVariants as forms
use Rattle.hall.specs.declared.guards.Why.TheVariants.{NoDefer, SlotsTaken}
use Rattle.shared_mutex.specs.Acquiring.{EntersBy}
use Rattle.shared_mutex.specs.TokenLaws.{both_missed, loaded, placed, still_away}
use Rattle.shared_mutex.specs.Tokens.{OnlyTried}
use Rattle.acquire_many.specs.Met.{HeldAll, InTurn, IsFor, IsForAny, MeetsPatiently}
use Rattle.acquire_many.specs.Took.{TookAll}
use Rattle.acquire_many.specs.Wants.{Hold, InOrder, IsFirstTwice, Want, lock_at, want_at}
use Rattle.map_cargo.specs.declared.entry.Part.{Part}
use Rattle.map_cargo.specs.Gaining.{gained_with}
use Rattle.map_cargo.specs.History.{IsSettled, Learns}
use Rattle.map_cargo.specs.Steps.{Gained, IsIdle}
use Rattle.sync_cell.specs.Cells.{maps}
use Rattle.sync_cell.specs.Gains.{AnyStep, GainedBy, GainedInOrder, gains_mode}
use Rattle.sync_cell.specs.GainLaws.{any_tries, gained_in_order, gained_last}
use Rattle.query_cells.specs.Answers.{TellsNothing}
use Rattle.query_cells.specs.Two.{GainsInOrder, IsAtCells, TakesBoth, both_wanted}
use Rattle.query_cells.proofs.Pairs.{one_of_two}
use Rattle.query_cells.proofs.Replies.{nothing_gained, nothing_then}
use Rattle.query_cells.proofs.Taking.{Unchanged, announced_at_last, gained_later, unchanged_look, unchanged_once, unchanged_then}

-- ---- one cell
-- a cell was gained: the pass knows its map, and one of the steps gained it
abbrev GainsCell : ℕ → View Part → View Part → Type 0
GainsCell lock v w = Gained lock v w × AddsReads (λ shape number added. GainedBy AnyStep lock number added) v w

gains_by : (v u w : View Part) (lock : ℕ) (kind : StepKind) (won : Bool) (word : ℕ) (y : Standing) → Unchanged v u → (ws : List ℕ) × (part : Part) × Learns lock u.part part × (w ≡ after_step u kind lock word won y part) → gains_mode kind won word ≡ true → AddsSteps (IsPatientTry v lock) v w → GainsCell lock v w
gains_by v u w lock kind won word y before gains such patient = (
  gained_later lock v u w before (gained_with kind won y u lock word w gains),
  gained_last AnyStep v u w lock (entry_of u kind lock word won) (any_tries v w lock (adds_as (IsPatientTry v lock) (IsTry v lock) v w (λ e p. p.0) patient)) before.goes_on.more (ap (λ (x : View Part). x.steps) gains.3) such,
)

-- a reader that only tried so far
unchanged_tried : (v w : View Part) (lock : ℕ) (y : Standing) → OnlyTried v lock y w → Unchanged v w
unchanged_tried v w lock y t = record { part = t.part; quota = t.quota; span = t.span; taken = t.taken; goes_on = record { shape = t.shape; number = t.number; more = (t.added, t.steps) } }

-- it entered after looks, by a token or by the count
reader_by : (v u w : View Part) (lock : ℕ) → standing u lock ≡ Away → Unchanged v u → AddsSteps (IsPatientTry v lock) v w → (form : Form) → EntersBy maps u lock form w → GainsCell lock v w
reader_by v u w lock away before patient (forms.Deferred slot) e =
    let l = after_look u kinds.Load lock e.0 in let z = e.2.0 in
    let t = placed maps u lock away l z slot (still_away maps u lock away e.0) (loaded maps u lock away e.0 l refl) e.2.1 in
    gains_by v z w lock kinds.Check false e.2.2.0 (Slotted slot) (unchanged_then v u z before (unchanged_tried u z lock (Undecided slot) t)) e.2.2.2.0 (ap (λ (b : ℕ). b == 1) e.2.2.1) patient
reader_by v u w lock away before patient (forms.Inline (NoDefer seen)) e =
    let l = after_look u kinds.Load lock seen in
    gains_by v l w lock kinds.Enter true seen Inline (unchanged_then v u l before (unchanged_tried u l lock Away (loaded maps u lock away seen l refl))) e.2.0 refl patient
reader_by v u w lock away before patient (forms.Inline (SlotsTaken tokens)) e =
    let l = after_look u kinds.Load lock e.0 in let z = e.2.0 in
    let t = both_missed maps u lock away l z tokens (still_away maps u lock away e.0) (loaded maps u lock away e.0 l refl) e.2.1 in
    gains_by v z w lock kinds.Enter true e.0 Inline (unchanged_then v u z before (unchanged_tried u z lock Away t.0)) e.2.2.0 refl patient
reader_by v u w lock away before patient forms.Lowered e = absurd e

met_one : (v w : View Part) (hold : Hold) → MeetsPatiently maps v hold w → GainsCell hold.0 v w
met_one v w (lock, hows.Shared form) m = let e = m.1.1 in let u = e.0 in reader_by v u w lock (stands_still v u lock e.2 ∙ m.0) (unchanged_look v u lock e.2) m.2 form e.3
met_one v w (lock, hows.Upgrade) m =
    let e = m.1.1 in let u = after_look e.0 kinds.Load lock e.3.0 in
    gains_by v u w lock kinds.UpgradeIn true e.3.0 Upgrade (unchanged_then v e.0 u (unchanged_look v e.0 lock e.2) (unchanged_once e.0 kinds.Load lock e.3.0)) e.3.2.0 refl m.2
met_one v w (lock, hows.Exclusive) m =
    let s = m.1.2 in let a = s.0 in let last = s.2 in
    gains_by v last.0 w lock kinds.Hold true 4 Exclusive (unchanged_then v a last.0 (announced_at_last maps v lock m.1.0 a s.1) (unchanged_look a last.0 lock last.2)) last.3.0 refl m.2

-- ---- one after the other
nothing_same : (v w : View Part) → w ≡ v → TellsNothing v w
nothing_same v w same = subst (λ (z : View Part). TellsNothing v z) (sym same) record { number = refl; span = refl; taken = refl; quota = refl; seen = refl; told = refl; row = refl; stored = refl; steps = record { added = []; stand = refl } }

met_nothing : (holds : List (Option Hold)) (v : View Part) (order : List ℕ) (w : View Part) → InTurn (MeetsPatiently maps) holds v order w → TellsNothing v w
met_nothing holds v [] w same = nothing_same v w same
met_nothing holds v (k ∷ ks) w t = nothing_then v t.0 w (met_nothing holds v ks t.0 t.1) (nothing_gained t.2.0.0 t.0 w (met_one t.0 w t.2.0 t.2.2).0)

-- two of them, the second one's position first
met_two : (wants : List Want) (holds : List (Option Hold)) → HeldAll wants holds → (v w : View Part) (first second : ℕ) → InTurn (MeetsPatiently maps) holds v (second ∷ first ∷ []) w
    → AddsReads (λ shape number added. GainedInOrder (lock_at wants first) (lock_at wants second) number added) v w
met_two wants holds held v w first second t =
    let u = t.0 in let begun = t.1 in let x = begun.2.0 in let y = t.2.0 in
    let a = met_one v u x (subst (λ (z : View Part). MeetsPatiently maps z x u) begun.1 begun.2.2) in let b = met_one u w y t.2.2 in
    let lock_x : x.0 ≡ lock_at wants first = ap (λ (q : Want). q.0) (of_held wants holds held first x begun.2.1).1 in let lock_y : y.0 ≡ lock_at wants second = ap (λ (q : Want). q.0) (of_held wants holds held second y t.2.1).1 in
    subst (λ (i : ℕ). AddsReads (λ shape number added. GainedInOrder i (lock_at wants second) number added) v w) lock_x
    (subst (λ (j : ℕ). AddsReads (λ shape number added. GainedInOrder x.0 j number added) v w) lock_y (gained_in_order v u w x.0 y.0 a.0.number a.1 b.1))

-- ---- two wants
-- the positions of two wants, the greater lock first
below_two : (k : ℕ) → k < 2 → (k ≡ 0) ⊎ (k ≡ 1)
below_two zero near = inl refl
below_two (suc zero) near = inr refl
below_two (suc (suc k)) near = absurd (omega (arith, near))

differs : (wants : List Want) (j k : ℕ) → lock_at wants j < lock_at wants k → j ≢ k
differs wants j k low e = let same : lock_at wants j ≡ lock_at wants k = ap (lock_at wants) e in omega (arith, low, same)

two_of : (x y : Want) (k j : ℕ) → k < 2 → j < 2 → lock_at (x ∷ y ∷ []) j < lock_at (x ∷ y ∷ []) k → ((x.0 < y.0) × (k ∷ j ∷ [] ≡ 1 ∷ 0 ∷ [])) ⊎ ((y.0 < x.0) × (k ∷ j ∷ [] ≡ 0 ∷ 1 ∷ []))
two_of x y k j near_k near_j low =
    let wants : List Want = x ∷ y ∷ [] in let ne : j ≢ k = differs wants j k low in
    ⊎_elim
    (λ e. let d : j ≡ 1 = omega (arith, e, ne, near_j) in let a : lock_at wants k ≡ x.0 = ap (lock_at wants) e in let b : lock_at wants j ≡ y.0 = ap (lock_at wants) d in inr (omega (arith, a, b, low), λ i. e i ∷ d i ∷ []))
    (λ e. let d : j ≡ 0 = omega (arith, e, ne, near_j) in let a : lock_at wants k ≡ y.0 = ap (lock_at wants) e in let b : lock_at wants j ≡ x.0 = ap (lock_at wants) d in inl (omega (arith, a, b, low), λ i. e i ∷ d i ∷ []))
    (below_two k near_k)

alone : (j k : ℕ) → Has (k ∷ []) j → j ≡ k
alone j k has = ⊎_elim (λ e. e) (λ bad. absurd bad) has

in_order : (x y : Want) (order : List ℕ) → InOrder (x ∷ y ∷ []) order → ((x.0 < y.0) × (order ≡ 1 ∷ 0 ∷ [])) ⊎ ((y.0 < x.0) × (order ≡ 0 ∷ 1 ∷ []))
in_order x y [] o = absurd (o.here 0 (omega arith))
in_order x y (k ∷ []) o = let a : 0 ≡ k = alone 0 k (o.here 0 (omega arith)) in let b : 1 ≡ k = alone 1 k (o.here 1 (omega arith)) in absurd (omega (arith, a, b))
in_order x y (k ∷ j ∷ []) o = two_of x y k j (o.there k (inl refl)) (o.there j (inr (inl refl))) (o.falls.0 j (inl refl))
in_order x y (k ∷ j ∷ i ∷ is) o =
    let wants : List Want = x ∷ y ∷ [] in let near_k : k < 2 = o.there k (inl refl) in let near_j : j < 2 = o.there j (inr (inl refl)) in let near_i : i < 2 = o.there i (inr (inr (inl refl))) in
    let a : j ≢ k = differs wants j k (o.falls.0 j (inl refl)) in let b : i ≢ k = differs wants i k (o.falls.0 i (inr (inl refl))) in let d : i ≢ j = differs wants i j (o.falls.1.0 i (inl refl)) in
    absurd (omega (arith, near_k, near_j, near_i, a, b, d))

is_either : (one other k : ℕ) → Has (one ∷ other ∷ []) k → (k ≡ one) ⊎ (k ≡ other)
is_either one other k has = ⊎_elim (λ e. inl e) (λ more. ⊎_elim (λ e. inr e) (λ bad. absurd bad) more) has

-- of the two that the lower one and the higher one are
lower_of : (one other low high : ℕ) → one < other → Has (one ∷ other ∷ []) low → Has (one ∷ other ∷ []) high → low < high → (low ≡ one) × (high ≡ other)
lower_of one other low high apart a b less = let p = is_either one other low a in let q = is_either one other high b in (
  ⊎_elim (λ e. e) (λ e. absurd (⊎_elim (λ d. omega (arith, e, d, apart, less)) (λ d. omega (arith, e, d, less)) q)) p,
  ⊎_elim (λ d. absurd (⊎_elim (λ e. omega (arith, e, d, less)) (λ e. omega (arith, e, d, apart, less)) p)) (λ d. d) q,
)

turned : (one other k : ℕ) → Has (one ∷ other ∷ []) k → Has (other ∷ one ∷ []) k
turned one other k has = ⊎_elim (λ e. inr (inl e)) (λ e. inl e) (is_either one other k has)

gains_in_order : (one other : ℕ) (v w : View Part) → one < other → AddsReads (λ shape number added. GainedInOrder one other number added) v w → GainsInOrder (one ∷ other ∷ []) v w
gains_in_order one other v w apart gained = λ low high a b less.
    let is = lower_of one other low high apart a b less in
    subst (λ (i : ℕ). AddsReads (λ shape number added. GainedInOrder i high number added) v w) (sym is.0) (subst (λ (i : ℕ). AddsReads (λ shape number added. GainedInOrder one i number added) v w) (sym is.1) gained)

-- what is so of both cells is so of the lock of each want
pub each_want : (P : ℕ → Type 0) (one other : ℕ) (mode : Mode) → P one → P other → (k : ℕ) → k < 2 → P (lock_at (both_wanted one other mode) k)
each_want P one other mode x y zero near = x
each_want P one other mode x y (suc zero) near = y
each_want P one other mode x y (suc (suc k)) near = absurd (omega (arith, near))

-- a footprint for one of the wants is at one of the cells
pub for_cells : (one other : ℕ) (mode : Mode) (m : Footprint) (k : ℕ) → k < length (both_wanted one other mode) → IsFor (want_at (both_wanted one other mode) k) m → IsAtCells (one ∷ other ∷ []) mode m
for_cells one other mode m zero near is = (inl is.0, is.1)
for_cells one other mode m (suc zero) near is = (inr (inl is.0), is.1)
for_cells one other mode m (suc (suc k)) near is = let far : suc (suc k) < 2 = near in absurd (omega (arith, far))

-- ---- both
module _ (shape : Shape) (one other : ℕ) (mode : Mode) (guards : Guards) (v w : View Part) (idle : IsIdle v) (t : TookAll maps (MeetsPatiently maps) (both_wanted one other mode) v (said_by guards) w) where
  order_of : ((one < other) × (t.order ≡ 1 ∷ 0 ∷ [])) ⊎ ((other < one) × (t.order ≡ 0 ∷ 1 ∷ []))
  order_of = in_order (one, mode) (other, mode) t.order t.sorted

  met : (order : List ℕ) → t.order ≡ order → InTurn (MeetsPatiently maps) (said_by guards) v order w
  met order is = subst (λ (l : List ℕ). InTurn (MeetsPatiently maps) (said_by guards) v l w) is t.met

  took_in_order : GainsInOrder (one ∷ other ∷ []) v w
  took_in_order = ⊎_elim
      (λ o. gains_in_order one other v w o.0 (met_two (both_wanted one other mode) (said_by guards) t.held v w 0 1 (met (1 ∷ 0 ∷ []) o.1)))
      (λ o. λ low high a b less. gains_in_order other one v w o.0 (met_two (both_wanted one other mode) (said_by guards) t.held v w 1 0 (met (0 ∷ 1 ∷ []) o.1)) low high (turned one other low a) (turned one other high b) less)
      order_of

  aside : (k : ℕ) → (Has (one ∷ other ∷ []) k → ⊥) → (j : ℕ) → j < length (both_wanted one other mode) → lock_at (both_wanted one other mode) j ≢ k
  aside k none zero near = λ e. none (inl (sym e))
  aside k none (suc zero) near = λ e. none (inr (inl (sym e)))
  aside k none (suc (suc j)) near = λ e. let far : suc (suc j) < 2 = near in absurd (omega (arith, far))

  differ : one ≢ other
  differ e = ⊎_elim (λ o. omega (arith, e, o.0)) (λ o. omega (arith, e, o.0)) order_of

  pub took_both : Fit shape w (said_by guards) → TakesBoth shape one other mode guards v w
  took_both fits = record {
    apart = differ;
    guarded = record {
      holds = record {
        each = λ k has. one_of_two (λ (i : ℕ). mode_of (standing w i) ≡ Some mode) one other k has (t.stands 0 (omega arith)) (t.stands 1 (omega arith));
        others = λ k none. t.elsewhere k (aside k none) ∙ idle.0 k;
        settled = λ k has. one_of_two (λ (i : ℕ). IsSettled i w.part) one other k has (t.settled 0 (omega arith)) (t.settled 1 (omega arith));
      };
      fits = fits;
      held = t.held;
    };
    nothing = met_nothing (said_by guards) v t.order w t.met;
    order = took_in_order;
    trail = treads_as (IsForAny (both_wanted one other mode)) (IsAtCells (one ∷ other ∷ []) mode) v w (λ m is. for_cells one other mode m is.0 is.1 is.2) t.trail;
  }

-- the wants of one cell, twice
same_one : (one other : ℕ) (mode : Mode) (j k : ℕ) → j < k → k < 2 → lock_at (both_wanted one other mode) j ≡ lock_at (both_wanted one other mode) k → one ≡ other
same_one one other mode j k low near same =
    let wants : List Want = both_wanted one other mode in let e : j ≡ 0 = omega (arith, low, near) in let d : k ≡ 1 = omega (arith, low, near) in
    sym (ap (lock_at wants) e) ∙ same ∙ ap (lock_at wants) d

pub took_two : (shape : Shape) (one other : ℕ) (mode : Mode) (v w : View Part) → IsIdle v → (r : Result Guards SameCell)
    → MatchResult r (λ guards. TookAll maps (MeetsPatiently maps) (both_wanted one other mode) v (said_by guards) w) (λ same. IsFirstTwice (both_wanted one other mode) same.index × (w ≡ v))
    → MatchResult r (λ guards. Fit shape w (said_by guards)) (λ _. w ≡ v) → MatchResult r (λ guards. TakesBoth shape one other mode guards v w) (λ _. (one ≡ other) × (w ≡ v))
took_two shape one other mode v w idle (Ok guards) t fits = took_both shape one other mode guards v w idle t fits
took_two shape one other mode v w idle (Err same) t fits = let first = t.0 in (same_one one other mode first.1.0 same.index first.1.1 first.0 first.1.2, t.1)
