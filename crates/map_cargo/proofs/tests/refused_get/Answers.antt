use Rattle.std.proofs.Common.{◌≡◌, ◌<◌, ℕ, ap, sym, subst, ⊎_elim}
use Rattle.hall.specs.declared.cargo.CargoRule.{Ghosts}
use Rattle.hall.specs.declared.guards.TryFault.{TryFault}
use Rattle.hall.specs.declared.guards.TryFault.TheVariants.{Busy}
use Rattle.hall.specs.declared.view.Shape.{Shape}
use Rattle.hall.specs.declared.view.Standing.TheVariants.{Away}
use Rattle.hall.specs.declared.view.View.{View}
use Rattle.hall.specs.Passes.{view}
use Rattle.hall.specs.Refusals.{BusyForReading, joined_busy_reading}
use Rattle.hall.specs.Views.{pending, standing}
use Rattle.shared_mutex.specs.Acquiring.{RefusesShared}
use Rattle.shared_mutex.specs.Refused.{reader_refused, reads_in_all}
use Rattle.shared_mutex.specs.TokenLaws.{reader_tried}
use Rattle.shared_mutex.specs.Tokens.{OnlyTried}
use Rattle.map_cargo.specs.declared.size.MapCargo.{MapCargo}
use Rattle.map_cargo.specs.declared.entry.Part.{Part}
use Rattle.map_cargo.proofs.tests.refused_get.Goals as goal

-- a try that was busy has the read among the pass's steps
busy_read : (g : Ghosts MapCargo Part) (v w : View Part) (lock : ℕ) (fault : TryFault) (word : ℕ) → fault ≡ Busy word → standing v lock ≡ Away → RefusesShared g v lock w fault → BusyForReading w.shape w.number w.steps lock
busy_read g v w lock fault word is away r =
    let s : RefusesShared g v lock w (Busy word) = subst (λ (f : TryFault). RefusesShared g v lock w f) is r in
    let t : OnlyTried v lock Away w = reader_tried g v lock away w (Busy word) s in
    reads_in_all (λ shape number steps. BusyForReading shape number steps lock) (λ shape number steps others. joined_busy_reading shape number steps others lock)
    v w t.shape t.number (reader_refused g v lock w (Busy word) away s)

pub try_lock_shared-requires-clause-clear : goal.try_lock_shared-requires-clause-clear
try_lock_shared-requires-clause-clear g c κs k = ap pending (c.requires.idle.0 k)

pub note_refused-requires-clause-may : goal.note_refused-requires-clause-may
note_refused-requires-clause-may g c =
    let w = view c.try_lock_shared.new.pass in let e = c.in-Err-Busy.ensures in
    let below : c.args.cell < w.shape.locks = subst (λ (s : Shape). c.args.cell < s.locks) (sym e.pass.1) c.requires.cell in
    record {
      near = λ cell has. ⊎_elim (λ is. subst (λ (k : ℕ). k < w.shape.locks) (sym is) below) (λ bad. absurd bad) has;
      away = λ cell has. ⊎_elim (λ is. subst (λ (k : ℕ). standing w k ≡ Away) (sym is) e.stands) (λ bad. absurd bad) has;
      licence = busy_read _ (view c.args.pass.now) w c.args.cell c.in-Err-Busy.field-0 _ c.in-Err-Busy.field-0-is (c.requires.idle.0 c.args.cell) e.step;
    }
