use Rattle.std.proofs.Common.{◌≡◌, ◌∙◌, ℕ, refl, sym, ap, subst}
use Rattle.hall.specs.Fitting.{SharedFits, stands_by}
use Rattle.hall.specs.Passes.{view, shape_of}
use Rattle.hall.specs.Views.{mode_of, standing}
use Rattle.hall.specs.declared.view.Standing.TheVariants.{Away}
use Rattle.shared_mutex.specs.Acquiring.{LeavesShared}
use Rattle.sync_cell.specs.Cells.{maps}
use Rattle.sync_cell.specs.Within.{Answers, TookToRead, reads_at}
use Rattle.sync_cell.proofs.within.with_rlock.Goals as goal

pub f-answer-requires : goal.f-answer-requires
f-answer-requires g c = let taken = c.rlock-ptr.ensures in let form = c.rlock-ptr.result.guard.form in
    let took : TookToRead c.args.hall.now (view c.args.pass.now) c.args.cell form c.rlock-ptr.new.pass =
    (taken.pass, subst (λ (k : ℕ). SharedFits (shape_of c.args.hall.now) (view c.rlock-ptr.new.pass) (record { lock = k; form = form })) taken.cell taken.fits, taken.elsewhere, taken.step) in
    c.requires.ready form c.rlock-ptr.new.pass took _ _ _ refl refl (ap (λ (k : ℕ). reads_at k form) taken.cell)

pub unlock_read-requires-clause-pass : goal.unlock_read-requires-clause-pass
unlock_read-requires-clause-pass g c = let taken = c.rlock-ptr.ensures in let form = c.rlock-ptr.result.guard.form in
    let took : TookToRead c.args.hall.now (view c.args.pass.now) c.args.cell form c.rlock-ptr.new.pass =
    (taken.pass, subst (λ (k : ℕ). SharedFits (shape_of c.args.hall.now) (view c.rlock-ptr.new.pass) (record { lock = k; form = form })) taken.cell taken.fits, taken.elsewhere, taken.step) in
    let said : Answers g.F.FnOnce c.args.f c.args.hall.now c.rlock-ptr.new.pass (reads_at c.args.cell form) c.f-answer.result c.f-answer.new.arg3 =
    record { h = _; p = _; x = _; shows = (refl, refl, ap (λ (k : ℕ). reads_at k form) taken.cell); left = _; met = c.f-answer.ensures; leaves = refl } in
    let still = c.requires.leaves form c.rlock-ptr.new.pass c.f-answer.result c.f-answer.new.arg3 took said in
    still.0

pub unlock_read-requires-clause-fits : goal.unlock_read-requires-clause-fits
unlock_read-requires-clause-fits g c = let taken = c.rlock-ptr.ensures in let form = c.rlock-ptr.result.guard.form in
    let took : TookToRead c.args.hall.now (view c.args.pass.now) c.args.cell form c.rlock-ptr.new.pass =
    (taken.pass, subst (λ (k : ℕ). SharedFits (shape_of c.args.hall.now) (view c.rlock-ptr.new.pass) (record { lock = k; form = form })) taken.cell taken.fits, taken.elsewhere, taken.step) in
    let said : Answers g.F.FnOnce c.args.f c.args.hall.now c.rlock-ptr.new.pass (reads_at c.args.cell form) c.f-answer.result c.f-answer.new.arg3 =
    record { h = _; p = _; x = _; shows = (refl, refl, ap (λ (k : ℕ). reads_at k form) taken.cell); left = _; met = c.f-answer.ensures; leaves = refl } in
    let still = c.requires.leaves form c.rlock-ptr.new.pass c.f-answer.result c.f-answer.new.arg3 took said in
    (taken.fits.0, subst (λ (k : ℕ). standing (view c.f-answer.new.arg3) k ≡ stands_by form) (sym taken.cell) still.1, taken.fits.2)

pub returns-clause-away : goal.returns-clause-away
returns-clause-away g c = subst (λ (k : ℕ). standing (view c.unlock_read.new.pass) k ≡ Away) c.rlock-ptr.ensures.cell c.unlock_read.ensures.away

pub returns-clause-elsewhere : goal.returns-clause-elsewhere
returns-clause-elsewhere g c = let taken = c.rlock-ptr.ensures in let form = c.rlock-ptr.result.guard.form in
    let took : TookToRead c.args.hall.now (view c.args.pass.now) c.args.cell form c.rlock-ptr.new.pass =
    (taken.pass, subst (λ (k : ℕ). SharedFits (shape_of c.args.hall.now) (view c.rlock-ptr.new.pass) (record { lock = k; form = form })) taken.cell taken.fits, taken.elsewhere, taken.step) in
    let said : Answers g.F.FnOnce c.args.f c.args.hall.now c.rlock-ptr.new.pass (reads_at c.args.cell form) c.f-answer.result c.f-answer.new.arg3 =
    record { h = _; p = _; x = _; shows = (refl, refl, ap (λ (k : ℕ). reads_at k form) taken.cell); left = _; met = c.f-answer.ensures; leaves = refl } in
    let still = c.requires.leaves form c.rlock-ptr.new.pass c.f-answer.result c.f-answer.new.arg3 took said in
    λ k ne. ap mode_of (c.unlock_read.ensures.elsewhere k (λ is. ne (is ∙ taken.cell))) ∙ still.2 k ∙ ap mode_of (taken.elsewhere k ne)

pub returns-clause-step : goal.returns-clause-step
returns-clause-step g c = let taken = c.rlock-ptr.ensures in let form = c.rlock-ptr.result.guard.form in
    let took : TookToRead c.args.hall.now (view c.args.pass.now) c.args.cell form c.rlock-ptr.new.pass =
    (taken.pass, subst (λ (k : ℕ). SharedFits (shape_of c.args.hall.now) (view c.rlock-ptr.new.pass) (record { lock = k; form = form })) taken.cell taken.fits, taken.elsewhere, taken.step) in
    let said : Answers g.F.FnOnce c.args.f c.args.hall.now c.rlock-ptr.new.pass (reads_at c.args.cell form) c.f-answer.result c.f-answer.new.arg3 =
    record { h = _; p = _; x = _; shows = (refl, refl, ap (λ (k : ℕ). reads_at k form) taken.cell); left = _; met = c.f-answer.ensures; leaves = refl } in
    let still = c.requires.leaves form c.rlock-ptr.new.pass c.f-answer.result c.f-answer.new.arg3 took said in (
      form,
      c.rlock-ptr.new.pass,
      c.f-answer.new.arg3,
      took,
      said,
      subst (λ (k : ℕ). LeavesShared maps (view c.f-answer.new.arg3) k form (view c.unlock_read.new.pass)) taken.cell c.unlock_read.ensures.step,
      c.unlock_read.ensures.clear,
    )
