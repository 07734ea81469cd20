use Rattle.std.proofs.Common.{sym, ap, ◌∙◌, inr}
use Rattle.hall.specs.declared.view.Shape.{Shape}
use Rattle.hall.specs.Passes.{view}
use Rattle.reader_slots.proofs.Placing.{first_taken, second_is, second_taken}
use Rattle.reader_slots.proofs.place.Goals as goal

pub returns-in_default-place_slot-clause-step : goal.returns-in_default-place_slot-clause-step
returns-in_default-place_slot-clause-step g c =
    let v = view c.args.pass.now in let slots = ap (λ (s : Shape). s.slots) (sym c.requires.pass.1) in
    let taken = first_taken g.C.CargoRule v c.args.lock _ _ c.number-twice.ensures.value (c.slots.ensures.value ∙ slots) _ _ c.in-Err.ensures.step.0 c.in-Err.ensures.step.1 in
    inr (second_is v _ _ c.number-twice.ensures.value (c.slots-2.ensures.value ∙ slots), (view c.place_slot.new.pass, c.in-Err.seen_first, taken, c.in_default-place_slot.ensures.step))

pub returns-clause-step : goal.returns-clause-step
returns-clause-step g c =
    let v = view c.args.pass.now in let slots = ap (λ (s : Shape). s.slots) (sym c.requires.pass.1) in
    let taken = first_taken g.C.CargoRule v c.args.lock _ _ c.number-twice.ensures.value (c.slots.ensures.value ∙ slots) _ _ c.in-Err.ensures.step.0 c.in-Err.ensures.step.1 in
    let again = c.in-Err-place_slot.ensures.step in
    (view c.place_slot.new.pass, taken, again.0, second_taken g.C.CargoRule v c.args.lock _ _ c.number-twice.ensures.value (c.slots-2.ensures.value ∙ slots) _ _ _ again.1)
