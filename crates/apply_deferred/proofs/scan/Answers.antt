use Rattle.std.proofs.Common.{arith, ℕ, true, false, ap, ◌∙◌, sym}
use Rattle.hall.specs.declared.view.Standing.TheVariants.{Announcing}
use Rattle.hall.specs.Passes.{view, shape_of}
use Rattle.hall.specs.SlotLaws.{none_pending_at}
use Rattle.hall.specs.Views.{pending}
use Rattle.apply_deferred.proofs.Scanning.{so_far, swept_all, ends, few_steps, one_more}
use Rattle.apply_deferred.proofs.scan.Goals as goal
use Rattle.apply_deferred.proofs.scan.Goals.{then-sweep_slot, else-sweep_slot}

pub sweep_slot-requires-clause-announced : goal.sweep_slot-requires-clause-announced
sweep_slot-requires-clause-announced g c =
    λ _ _. (c.loop-slot.hand, c.args.announced.now.from_upgrade, (so_far g.C.CargoRule (shape_of c.args.hall.now) (view c.args.pass.now) c.args.announced.now c.requires.fits c.requires.unswept c.requires.pass.2 _ _ _ c.loop-slot.invariant.1).0)

pub overflow_add-hand : goal.overflow_add-hand
overflow_add-hand g c =
    let few = (so_far g.C.CargoRule (shape_of c.args.hall.now) (view c.args.pass.now) c.args.announced.now c.requires.fits c.requires.unswept c.requires.pass.2 _ _ _ c.loop-slot.invariant.1).1 in
    let low = c.slots-slot-end.ensures.low in let here = c.loop-slot-test.true in omega arith

pub loop-slot-preserved : goal.loop-slot-preserved
loop-slot-preserved g c = (
  c.sweep_slot.ensures.pass,
  elim c.if-sweep_slot.branch [
    | then-sweep_slot w ↦ one_more g.C.CargoRule _ _ _ _ _ true _ _ _ c.loop-slot.invariant.1 c.sweep_slot.ensures.sweep w.if-sweep_slot.true w.hand-is
    | else-sweep_slot w ↦ one_more g.C.CargoRule _ _ _ _ _ false _ _ _ c.loop-slot.invariant.1 c.sweep_slot.ensures.sweep w.if-sweep_slot.false (w.hand-is ∙ (omega arith))
  ],
)

pub add_hand-requires-clause-announced : goal.add_hand-requires-clause-announced
add_hand-requires-clause-announced g c =
    λ _ _. (
      c.loop-slot.slot,
      c.args.announced.now.from_upgrade,
      (so_far g.C.CargoRule (shape_of c.args.hall.now) (view c.args.pass.now) c.args.announced.now c.requires.fits c.requires.unswept c.requires.pass.2 _ _ _ c.loop-slot.invariant.1).0 ∙ ap (λ (n : ℕ). Announcing c.loop-slot.slot n c.args.announced.now.from_upgrade) (sym c.from.ensures),
    )

pub returns-clause-sweep : goal.returns-clause-sweep
returns-clause-sweep g c =
    swept_all g.C.CargoRule (shape_of c.args.hall.now) (view c.args.pass.now) c.args.announced.now c.requires.fits c.requires.unswept c.requires.pass.2 c.loop-slot.slot _ _ (view c.loop-slot.pass) _
    (let all = c.slots-slot-end.ensures.value in let low = c.loop-slot-test.false in let high = c.loop-slot.auto.slot-end in omega arith) c.loop-slot.invariant.1 c.add_hand.ensures.step

pub returns-clause-fits : goal.returns-clause-fits
returns-clause-fits g c = (c.requires.fits.0, (ends g.C.CargoRule (shape_of c.args.hall.now) (view c.args.pass.now) c.args.announced.now c.requires.fits c.requires.unswept c.requires.pass.2 _ _ (returns-clause-sweep g c)).1)

pub returns-clause-elsewhere : goal.returns-clause-elsewhere
returns-clause-elsewhere g c = (ends g.C.CargoRule (shape_of c.args.hall.now) (view c.args.pass.now) c.args.announced.now c.requires.fits c.requires.unswept c.requires.pass.2 _ _ (returns-clause-sweep g c)).0.elsewhere

pub returns-clause-clear : goal.returns-clause-clear
returns-clause-clear g c = none_pending_at (view c.args.pass.now) (view c.add_hand.new.pass) c.args.announced.now.lock (returns-clause-elsewhere g c) (ap pending (returns-clause-fits g c).1)

pub returns-clause-steps : goal.returns-clause-steps
returns-clause-steps g c = few_steps _ _ _ _ (ends g.C.CargoRule (shape_of c.args.hall.now) (view c.args.pass.now) c.args.announced.now c.requires.fits c.requires.unswept c.requires.pass.2 _ _ (returns-clause-sweep g c)).0
