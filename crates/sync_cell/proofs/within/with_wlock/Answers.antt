use Rattle.std.proofs.Common.{◌≡◌, ◌∙◌, ℕ, refl, sym, ap, subst}
use Rattle.hall.specs.Passes.{view}
use Rattle.hall.specs.Plays.{Releases}
use Rattle.hall.specs.Views.{mode_of, standing}
use Rattle.hall.specs.declared.view.Standing.TheVariants.{Away, Exclusive}
use Rattle.map_cargo.specs.History.{IsSettled}
use Rattle.sync_cell.specs.Cells.{maps}
use Rattle.sync_cell.specs.Within.{Answers, writes_at}
use Rattle.sync_cell.proofs.within.with_wlock.Goals as goal

pub f-answer-requires : goal.f-answer-requires
f-answer-requires g c = let taken = c.wlock-ptr.ensures in
    c.requires.ready c.wlock-ptr.new.pass (taken.pass, taken.stands, taken.elsewhere, taken.step) _ _ _ refl refl (ap writes_at taken.cell)

pub unlock_write-requires-clause-pass : goal.unlock_write-requires-clause-pass
unlock_write-requires-clause-pass g c = let taken = c.wlock-ptr.ensures in
    let said : Answers g.F.FnOnce c.args.f c.args.hall.now c.wlock-ptr.new.pass (writes_at c.args.cell) c.f-answer.result c.f-answer.new.arg3 = record { h = _; p = _; x = _; shows = (refl, refl, ap writes_at taken.cell); left = _; met = c.f-answer.ensures; leaves = refl } in
    (c.requires.leaves c.wlock-ptr.new.pass c.f-answer.result c.f-answer.new.arg3 (taken.pass, taken.stands, taken.elsewhere, taken.step) said).0.0

pub unlock_write-requires-clause-exclusive : goal.unlock_write-requires-clause-exclusive
unlock_write-requires-clause-exclusive g c = let taken = c.wlock-ptr.ensures in
    let said : Answers g.F.FnOnce c.args.f c.args.hall.now c.wlock-ptr.new.pass (writes_at c.args.cell) c.f-answer.result c.f-answer.new.arg3 = record { h = _; p = _; x = _; shows = (refl, refl, ap writes_at taken.cell); left = _; met = c.f-answer.ensures; leaves = refl } in
    subst (λ (k : ℕ). standing (view c.f-answer.new.arg3) k ≡ Exclusive) (sym taken.cell) (c.requires.leaves c.wlock-ptr.new.pass c.f-answer.result c.f-answer.new.arg3 (taken.pass, taken.stands, taken.elsewhere, taken.step) said).0.1

pub unlock_write-requires-clause-settled : goal.unlock_write-requires-clause-settled
unlock_write-requires-clause-settled g c = let taken = c.wlock-ptr.ensures in
    let said : Answers g.F.FnOnce c.args.f c.args.hall.now c.wlock-ptr.new.pass (writes_at c.args.cell) c.f-answer.result c.f-answer.new.arg3 = record { h = _; p = _; x = _; shows = (refl, refl, ap writes_at taken.cell); left = _; met = c.f-answer.ensures; leaves = refl } in
    subst (λ (k : ℕ). IsSettled k (view c.f-answer.new.arg3).part) (sym taken.cell) (c.requires.leaves c.wlock-ptr.new.pass c.f-answer.result c.f-answer.new.arg3 (taken.pass, taken.stands, taken.elsewhere, taken.step) said).1

pub returns-clause-away : goal.returns-clause-away
returns-clause-away g c = subst (λ (k : ℕ). standing (view c.unlock_write.new.pass) k ≡ Away) c.wlock-ptr.ensures.cell c.unlock_write.ensures.away

pub returns-clause-elsewhere : goal.returns-clause-elsewhere
returns-clause-elsewhere g c = let taken = c.wlock-ptr.ensures in
    let said : Answers g.F.FnOnce c.args.f c.args.hall.now c.wlock-ptr.new.pass (writes_at c.args.cell) c.f-answer.result c.f-answer.new.arg3 = record { h = _; p = _; x = _; shows = (refl, refl, ap writes_at taken.cell); left = _; met = c.f-answer.ensures; leaves = refl } in
    let kept = (c.requires.leaves c.wlock-ptr.new.pass c.f-answer.result c.f-answer.new.arg3 (taken.pass, taken.stands, taken.elsewhere, taken.step) said).0.2 in
    λ k ne. ap mode_of (c.unlock_write.ensures.elsewhere k (λ is. ne (is ∙ taken.cell))) ∙ kept k ∙ ap mode_of (taken.elsewhere k ne)

pub returns-clause-step : goal.returns-clause-step
returns-clause-step g c = let taken = c.wlock-ptr.ensures in
    let said : Answers g.F.FnOnce c.args.f c.args.hall.now c.wlock-ptr.new.pass (writes_at c.args.cell) c.f-answer.result c.f-answer.new.arg3 = record { h = _; p = _; x = _; shows = (refl, refl, ap writes_at taken.cell); left = _; met = c.f-answer.ensures; leaves = refl } in (
      c.wlock-ptr.new.pass,
      c.f-answer.new.arg3,
      (taken.pass, taken.stands, taken.elsewhere, taken.step),
      said,
      subst (λ (k : ℕ). Releases maps (view c.f-answer.new.arg3) k 8 (view c.unlock_write.new.pass)) taken.cell c.unlock_write.ensures.step,
      c.unlock_write.ensures.clear,
    )
