-- Queries that were refused.
use Rattle.std.specs.Prelude.{◌≡◌, ℕ, ◌<◌, Bool, true, false, List, [], ◌∷◌, MatchBool}
use Rattle.std.proofs.Common.{refl, sym, ap, ◌∙◌, subst, ⊎_elim}
use Rattle.lock_model.specs.Locks.{Has}
use Rattle.hall.specs.declared.view.StepKind.TheVariants.{Load}
use Rattle.hall.specs.declared.view.Shape.{Shape}
use Rattle.hall.specs.declared.view.Standing.TheVariants.{Away}
use Rattle.hall.specs.declared.view.StepEntry.{StepEntry}
use Rattle.hall.specs.declared.view.View.{View}
use Rattle.hall.specs.Views.{entry_of, standing}
use Rattle.shared_mutex.specs.Refused.{reads_in_all, reads_then}
use Rattle.query_rules.specs.declared.query.Query.{Query}
use Rattle.query_rules.specs.declared.query.Query.TheVariants as query
use Rattle.query_rules.specs.declared.query.Reply.{Reply}
use Rattle.query_rules.specs.declared.query.Reply.TheVariants.{Placed, Busy, Late, Job}
use Rattle.query_rules.specs.History.{IsKindFor}
use Rattle.map_cargo.specs.declared.size.MapCargo.{MapCargo}
use Rattle.map_cargo.specs.declared.entry.Told.TheVariants.{Refused}
use Rattle.map_cargo.specs.declared.entry.Part.{Part}
use Rattle.map_cargo.specs.Entries.{named_cells}
use Rattle.map_cargo.specs.Gaining.{everywhere}
use Rattle.map_cargo.specs.History.{IsRested}
use Rattle.map_cargo.specs.Licences.{Licensed, LoadedOnce, MayRefuse, licence_joined, still_licensed}
use Rattle.map_cargo.specs.Steps.{Alike, IsIdle, MoreSteps, told_too}
use Rattle.query_cells.specs.Asked.{AddsReply, AsksUntil, IsForced, IsLateBy, WasRefused, is_granted, is_job, tells_write}
use Rattle.query_cells.specs.Placing.{IsPlacedUnder}
use Rattle.sync_cell.specs.Waits.{AskedInTime, AskedTooLate}
use Rattle.std.specs.declared.option.Option.{Option}
use Rattle.query_cells.specs.Answers.{Tells, TurnedAway}

-- what a licensed reply is
pub record Refusable (q : Query) (reply : Reply) : Type 0 where
  pub kind : IsKindFor q reply
  pub of_maps : is_job reply ≡ false
  pub reads : tells_write reply ≡ false
  pub unplaced : (c : MapCargo) (v w : View Part) → MoreSteps v w → IsPlacedUnder c v w q reply
  pub adds : (n index : ℕ) (p r : Part) → r ≡ told_too p (Refused n index q reply) → AddsReply n index q reply p r

busy : (q : Query) → IsKindFor q Busy → Refusable q Busy
busy q kind = record { kind = kind; of_maps = refl; reads = refl; unplaced = λ c v w more. more; adds = λ n index p r is. (ap (λ (z : Part). z.told) is, ap (λ (z : Part). z.seen) is) }

late : (q : Query) (now : ℕ) → IsKindFor q (Late now) → Refusable q (Late now)
late q now kind = record { kind = kind; of_maps = refl; reads = refl; unplaced = λ c v w more. more; adds = λ n index p r is. (ap (λ (z : Part). z.told) is, ap (λ (z : Part). z.seen) is) }

refusable : (shape : Shape) (number : ℕ) (steps : List StepEntry) (q : Query) (reply : Reply) → Licensed shape number steps q reply → Refusable q reply
refusable shape number steps (query.TryGet cell key) Busy h = busy (query.TryGet cell key) refl
refusable shape number steps (query.TryPut cell key value) Busy h = busy (query.TryPut cell key value) refl
refusable shape number steps (query.GetBy cell key deadline) (Late now) h = late (query.GetBy cell key deadline) now refl
refusable shape number steps (query.PutBy cell key value deadline) (Late now) h = late (query.PutBy cell key value deadline) now refl
refusable shape number steps q reply h = absurd h

not_written : (b : Bool) (A B : Type 0) → b ≡ false → B → MatchBool b A B
not_written true A B e x = absurd (cc)
not_written false A B e x = x

-- a refused reply was told
pub refusal_tells : (c : MapCargo) (v w : View Part) (index : ℕ) (q : Query) (reply : Reply) → MayRefuse v q reply → Alike v w → w.part ≡ told_too v.part (Refused v.number index q reply) → Tells c v w index q reply
refusal_tells c v w index q reply may alike told =
    let r = refusable v.shape v.number v.steps q reply may.licence in record {
      number = alike.number;
      span = alike.span;
      taken = alike.taken;
      quota = not_written (tells_write reply) _ _ r.reads alike.quota;
      kind = r.kind;
      of_maps = r.of_maps;
      told = r.adds v.number index v.part w.part told;
      placing = r.unplaced c v w alike.steps;
    }

pub still_rested : (v w : View Part) (index : ℕ) (q : Query) (reply : Reply) → w.part ≡ told_too v.part (Refused v.number index q reply) → IsIdle v → IsRested w.part
still_rested v w index q reply told idle = ap (λ (p : Part). p.stored) told ∙ idle.1

-- a pass that was turned away from a cell is idle, as before
pub idle_away : (v w : View Part) (cell : ℕ) → TurnedAway cell v w → IsIdle v → IsIdle w
idle_away v w cell away idle = (everywhere w cell away.away (λ k ne. away.elsewhere k ne ∙ idle.0 k), away.nothing.stored ∙ idle.1)

one_in : (P : ℕ → Type 0) (a k : ℕ) → Has (a ∷ []) k → P a → P k
one_in P a k has x = ⊎_elim (λ e. subst P (sym e) x) (λ bad. absurd bad) has

-- a query of one cell that its lock refused
pub may_refuse : (v w : View Part) (q : Query) (cell locks : ℕ) (reply : Reply) → named_cells q ≡ cell ∷ [] → w.shape ≡ v.shape → w.shape.locks ≡ locks → cell < locks → TurnedAway cell v w → WasRefused q reply v w → MayRefuse w q reply
may_refuse v w q cell locks reply names same is near away refused = record {
  near = λ k has. one_in (λ (i : ℕ). i < w.shape.locks) cell k (subst (λ (l : List ℕ). Has l k) names has) (subst (λ (n : ℕ). cell < n) (sym is) near);
  away = λ k has. one_in (λ (i : ℕ). standing w i ≡ Away) cell k (subst (λ (l : List ℕ). Has l k) names has) away.away;
  licence = reads_in_all (λ shape number steps. Licensed shape number steps q reply) (λ shape number steps others. licence_joined shape number steps others q reply) v w same away.nothing.number refused;
}

-- after the tries that were refused, telling so adds one load
refused_then : (v u w : View Part) (q : Query) (reply : Reply) → WasRefused q reply v u → LoadedOnce q u w → WasRefused q reply v w
refused_then v u w q reply refused load =
    reads_then (λ shape number steps. Licensed shape number steps q reply) (λ shape number added steps. still_licensed shape number added steps q reply) v u w refused (entry_of u Load load.0 load.1 false ∷ [], load.3)

forced_by : (v w : View Part) (q : Query) (reply : Reply) → WasRefused q reply v w → IsForced q reply v w
forced_by v w q (Placed place said) refused = tt
forced_by v w q Busy refused = refused
forced_by v w q (Late now) refused = refused
forced_by v w q (Job at result) refused = tt

pub is_forced : (v u w : View Part) (q : Query) (reply told : Reply) → told ≡ reply → WasRefused q reply v u → LoadedOnce q u w → IsForced q told v w
is_forced v u w q reply told is refused load = subst (λ (r : Reply). IsForced q r v w) (sym is) (forced_by v w q reply (refused_then v u w q reply refused load))

-- a reply that was granted was forced by nothing
pub granted_unforced : (v w : View Part) (q : Query) (reply : Reply) → is_granted reply ≡ true → IsForced q reply v w
granted_unforced v w q (Placed place said) e = tt
granted_unforced v w q Busy e = absurd (cc)
granted_unforced v w q (Late now) e = absurd (cc)
granted_unforced v w q (Job at result) e = tt

-- a reply that was granted isn't late
pub granted_in_time : (q : Query) (last : ℕ) (reply : Reply) → is_granted reply ≡ true → IsLateBy q last reply
granted_in_time q last (Placed place said) e = tt
granted_in_time q last Busy e = tt
granted_in_time q last (Late now) e = absurd (cc)
granted_in_time q last (Job at result) e = tt

-- a reply of the maps that was granted in time
pub granted_asks : {T : Type 0} (last : T → ℕ) (answers : T → Option (List ℕ)) (old new : T) (deadline : ℕ) (reply : Reply) → is_granted reply ≡ true → is_job reply ≡ false → (refusals : ℕ) × AskedInTime last answers deadline refusals old new → AsksUntil last answers old new deadline reply
granted_asks last answers old new deadline (Placed place said) e maps asked = asked
granted_asks last answers old new deadline Busy e maps asked = absurd (cc)
granted_asks last answers old new deadline (Late now) e maps asked = absurd (cc)
granted_asks last answers old new deadline (Job at result) e maps asked = absurd (cc)

-- and one that was late
pub late_asks : {T : Type 0} (last : T → ℕ) (answers : T → Option (List ℕ)) (old new : T) (deadline now : ℕ) (told : Reply) → told ≡ Late now → (refusals : ℕ) × AskedTooLate last answers deadline refusals old new now → AsksUntil last answers old new deadline told
late_asks {T} last answers old new deadline now told is asked = subst (λ (r : Reply). AsksUntil {T = T} last answers old new deadline r) (sym is) asked
