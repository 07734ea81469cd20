use Rattle.std.proofs.Common.{rules, ◌+◌, ◌∙◌, sym, arith, ap}
use Rattle.hall.specs.declared.view.Shape.{Shape}
use Rattle.hall.proofs.SlotSteps.{checks}
use Rattle.hall.proofs.hall.Hall.check.Goals as goal

pub load-requires : goal.load-requires
load-requires g c = (search rules, search rules, checks g.C.CargoRule c.args.self.now.table.shared.key _ _ _ c.args.lock _ c.place-place.ensures.value c.requires.pass.1 (omega (arith, c.args.pass.now.tied.1)) c.requires.lock c.requires.undecided.0 c.requires.undecided.1)

pub invariant_of-pass : goal.invariant_of-pass
invariant_of-pass g c = let k = c.load.ensures.2.0 in let t = c.args.pass.now.tied in record { tied = (t.0 ∙ sym k.2, k.3 ∙ t.1, t.2 ∙ sym k.4, k.0 ∙ t.3); low = c.args.pass.now.low }

pub returns-clause-pass : goal.returns-clause-pass
returns-clause-pass g c = let k = c.load.ensures.2.0 in (c.load.ensures.0 ∙ c.requires.pass.0, k.1 ∙ c.requires.pass.1, k.5 ∙ c.requires.pass.2)

pub returns-clause-step : goal.returns-clause-step
returns-clause-step g c = c.load.ensures.2.1 c.args.lock (c.place-place.ensures.value ∙ ap (λ (z : Shape). z.slots + c.args.lock) (sym c.requires.pass.1))
