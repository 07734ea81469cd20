-- Telling a refusal keeps one history.
use Rattle.std.proofs.Common.{◌≡◌, ◌≢◌, ◌<◌, ◌≤◌, ◌+◌, ℕ, List, length, cond, sym, refl, ap, ◌∙◌, subst, ⊎_elim, arith, false, ◌++◌, None, inl}
use Rattle.std.proofs.lemmas.List.{set-get_or}
use Rattle.view_sums.specs.Sums.{total, total-same}
use Rattle.lock_model.specs.Locks.{Has}
use Rattle.hall.specs.declared.cargo.CargoRule.{Ghosts}
use Rattle.hall.specs.declared.view.StepKind.TheVariants.{Load}
use Rattle.hall.specs.declared.view.Shape.{Shape}
use Rattle.hall.specs.declared.view.Standing.{Standing}
use Rattle.hall.specs.declared.view.Standing.TheVariants.{Away}
use Rattle.hall.specs.declared.view.StepEntry.{StepEntry}
use Rattle.hall.specs.declared.view.View.{View}
use Rattle.hall.specs.Cargo.{NotesAside, exclusive_mode, learnt_seat}
use Rattle.hall.specs.Moves.{Moment}
use Rattle.hall.specs.Refusals.{BusyForReading, BusyForWriting, ReadTwoWords, several_readers, several_writers, several_racers}
use Rattle.hall.specs.Views.{after_step, entry_of, footprints_left, standing}
use Rattle.query_rules.specs.declared.query.Query.{Query}
use Rattle.query_rules.specs.declared.query.Query.TheVariants.{TryGet, TryPut, GetBy, PutBy}
use Rattle.query_rules.specs.declared.query.Reply.{Reply}
use Rattle.query_rules.specs.declared.query.Reply.TheVariants.{Placed, Busy, Late, Job}
use Rattle.query_rules.specs.History.{StandsAt, is_write_at}
use Rattle.query_rules.specs.Maps.{Maps}
use Rattle.map_cargo.specs.declared.size.MapCargo.{MapCargo}
use Rattle.map_cargo.specs.declared.entry.Told.{Told}
use Rattle.map_cargo.specs.declared.entry.Told.TheVariants.{Wrote, Refused}
use Rattle.map_cargo.specs.declared.entry.Part.{Part}
use Rattle.map_cargo.specs.Entries.{named_cells}
use Rattle.map_cargo.specs.Openings.{first_maps}
use Rattle.map_cargo.specs.History.{Seat, IsRefusal, Knows, OneHistory, Stands, is_wrote, mode_at}
use Rattle.map_cargo.specs.Laws.{each_set, each_back}
use Rattle.map_cargo.specs.Licences.{BusyBy, LateBy, Licensed}
use Rattle.map_cargo.specs.StepLaws.{more_one}
use Rattle.map_cargo.specs.Steps.{Alike, told_too}

busy_refuses : (reply : Reply) (Reads : Type 0) → BusyBy reply Reads → IsRefusal reply
busy_refuses (Placed place said) Reads h = absurd h
busy_refuses Busy Reads h = tt
busy_refuses (Late now) Reads h = absurd h
busy_refuses (Job at result) Reads h = absurd h

late_refuses : (deadline : ℕ) (reply : Reply) (Reads : Type 0) → LateBy deadline reply Reads → IsRefusal reply
late_refuses deadline (Placed place said) Reads h = absurd h
late_refuses deadline Busy Reads h = absurd h
late_refuses deadline (Late now) Reads h = tt
late_refuses deadline (Job at result) Reads h = absurd h

module _ (shape : Shape) (number : ℕ) (steps : List StepEntry) where
  -- a reply that is allowed has no place
  pub is_refusal : (query : Query) (reply : Reply) → Licensed shape number steps query reply → IsRefusal reply
  is_refusal query reply h = elim query as (λ q. Licensed shape number steps q reply → IsRefusal reply) [
    | TryGet cell key ↦ busy_refuses reply _
    | TryPut cell key value ↦ busy_refuses reply _
    | GetBy cell key deadline ↦ late_refuses deadline reply _
    | PutBy cell key value deadline ↦ late_refuses deadline reply _
    | _ ↦ λ h. absurd h
  ] h

-- a reply without a place stands in each history, and is no write there
pub refusal_stands : (rows : ℕ) (opening : Maps) (writes : List Query) (query : Query) (reply : Reply) → IsRefusal reply → StandsAt rows opening writes (query, reply)
refusal_stands rows opening writes query (Placed place said) h = absurd h
refusal_stands rows opening writes query Busy h = tt
refusal_stands rows opening writes query (Late now) h = tt
refusal_stands rows opening writes query (Job at result) h = absurd h

pub refusal_mark : (w : ℕ) (query : Query) (reply : Reply) → IsRefusal reply → cond {A = ℕ} (is_write_at w (query, reply)) 1 0 ≡ 0
refusal_mark w query (Placed place said) h = absurd h
refusal_mark w query Busy h = refl
refusal_mark w query (Late now) h = refl
refusal_mark w query (Job at result) h = absurd h

-- a refusal is told
pub refuses : (c : MapCargo) (id caller index : ℕ) (query : Query) (reply : Reply) (t : Told) (q : Seat) → Refused caller index query reply ≡ t → IsRefusal reply → NotesAside (OneHistory c) id q (λ words found p r. r ≡ told_too p t)
refuses c id caller index query reply t q is refusal ws qs h apart at found fits =
    let k = h.knows id q at in let part : Part = told_too q.part (Refused caller index query reply) in let r : Seat = learnt_seat q part in (
      part,
      (λ i. told_too q.part (is i)),
      record {
        entries = h.entries;
        size = h.size;
        number = h.number;
        room = subst (λ (n : ℕ). length h.entries + n ≤ c.writes) (sym (total-same (λ (u : Seat). u.quota) qs id q r at refl)) h.room;
        few = h.few;
        knows = each_set (Knows c h.entries ws) qs id r h.knows record {
          seen = k.seen;
          told = λ u has. ⊎_elim (λ same. subst (Stands (first_maps c) c.rows h.entries) (sym same) refusal) (k.told u) has;
          logged = λ w x has j small less. ⊎_elim (λ same. absurd (let F : Told → Type 0 = λ u. elim u [ Wrote a b ↦ ⊥ | _ ↦ Unit {0} ] in subst F (sym same) tt)) (λ old. k.logged w x old j small less) has;
          known = k.known;
        };
        once = λ w below. total-same (λ (u : Seat). total (is_wrote w) u.part.told) qs id q r at (omega arith) ∙ h.once w below;
        calm = λ cell below nobody. h.calm cell below (each_back (λ (u : Seat). mode_at u cell ≢ exclusive_mode) qs id q r at nobody (λ o. o));
      },
    )

-- a load from away leaves all as it was but the steps and the part
pub load_alike : (v w : View Part) (lock found : ℕ) (part : Part) → standing v lock ≡ Away → w ≡ after_step v Load lock found false (standing v lock) part → Alike v w
load_alike v w lock found part away is = record {
  shape = ap (λ (z : View Part). z.shape) is;
  standings = ap (λ (z : View Part). z.standings) is ∙ set-get_or v.standings lock Away;
  number = ap (λ (z : View Part). z.number) is;
  span = ap (λ (z : View Part). z.span) is;
  taken = ap (λ (z : View Part). z.taken) is;
  trail = ap (λ (z : View Part). z.trail) is ∙ ap (λ (x : Standing). footprints_left v.number lock x x ++ v.trail) away;
  quota = ap (λ (z : View Part). z.quota) is;
  steps = more_one v w (entry_of v Load lock found false) (ap (λ (z : View Part). z.steps) is);
}

module _ {C P : Type 0} (g : Ghosts C P) (v w : View P) (lock found left : ℕ) (m : Moment g v w lock found left None) where
  near : (cell : ℕ) → cell < v.shape.locks → cell < m.plan.shape.locks
  near cell below = subst (λ (s : Shape). cell < s.locks) (sym m.shape) below

  busy_two : (reply : Reply) (Reads : Type 0) → (Reads → 1 < v.shape.seats) → BusyBy reply Reads → 1 < v.shape.seats
  busy_two (Placed place said) Reads two h = absurd h
  busy_two Busy Reads two h = two h
  busy_two (Late now) Reads two h = absurd h
  busy_two (Job at result) Reads two h = absurd h

  late_two : (deadline : ℕ) (reply : Reply) (Reads : Type 0) → (Reads → 1 < v.shape.seats) → LateBy deadline reply Reads → 1 < v.shape.seats
  late_two deadline (Placed place said) Reads two h = absurd h
  late_two deadline Busy Reads two h = absurd h
  late_two deadline (Late now) Reads two h = two h.1
  late_two deadline (Job at result) Reads two h = absurd h

  module _ (cell : ℕ) (below : cell < v.shape.locks) where
    reading_two : BusyForReading v.shape v.number v.steps cell → 1 < v.shape.seats
    reading_two h = subst (λ (s : Shape). 1 < s.seats) m.shape (several_readers g m.plan m.state m.before m.id v m.mine v.number cell (near cell below) (subst (λ (s : Shape). BusyForReading s v.number v.steps cell) (sym m.shape) h))

    writing_two : BusyForWriting v.shape v.number v.steps cell → 1 < v.shape.seats
    writing_two h = subst (λ (s : Shape). 1 < s.seats) m.shape (several_writers g m.plan m.state m.before m.id v m.mine v.number cell (near cell below) (subst (λ (s : Shape). BusyForWriting s v.number v.steps cell) (sym m.shape) h))

    racing_two : ReadTwoWords v.shape v.number v.steps cell → 1 < v.shape.seats
    racing_two h = subst (λ (s : Shape). 1 < s.seats) m.shape (several_racers g m.plan m.state m.before m.id v m.mine v.number cell (near cell below) (subst (λ (s : Shape). ReadTwoWords s v.number v.steps cell) (sym m.shape) h))

  -- where a refusal is allowed there are two seats
  pub two_seats : (query : Query) (reply : Reply) → ((cell : ℕ) → Has (named_cells query) cell → cell < v.shape.locks) → Licensed v.shape v.number v.steps query reply → 1 < v.shape.seats
  two_seats query reply below h = elim query as (λ q. ((cell : ℕ) → Has (named_cells q) cell → cell < v.shape.locks) → Licensed v.shape v.number v.steps q reply → 1 < v.shape.seats) [
    | TryGet cell key ↦ λ below. busy_two reply _ (reading_two cell (below cell (inl refl)))
    | TryPut cell key value ↦ λ below. busy_two reply _ (writing_two cell (below cell (inl refl)))
    | GetBy cell key deadline ↦ λ below. late_two deadline reply _ (⊎_elim (reading_two cell (below cell (inl refl))) (racing_two cell (below cell (inl refl))))
    | PutBy cell key value deadline ↦ λ below. late_two deadline reply _ (⊎_elim (writing_two cell (below cell (inl refl))) (racing_two cell (below cell (inl refl))))
    | _ ↦ λ below h. absurd h
  ] below h
