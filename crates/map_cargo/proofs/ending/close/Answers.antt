use Rattle.hall.specs.Passes.{view}
use Rattle.hall.specs.Rule.{cargo_seat}
use Rattle.map_cargo.proofs.Ended.{ended, legal}
use Rattle.map_cargo.proofs.Meetings.{met}
use Rattle.map_cargo.proofs.ending.close.Goals as goal

pub returns-clause-ended : goal.returns-clause-ended
returns-clause-ended c = ended _ _ (cargo_seat (view c.args.pass)) _ _ c.requires.rested c.close.ensures.cargo

pub returns-clause-legal : goal.returns-clause-legal
returns-clause-legal c = legal _ _ _ _ (ended _ _ (cargo_seat (view c.args.pass)) _ _ c.requires.rested c.close.ensures.cargo)

pub returns-clause-met : goal.returns-clause-met
returns-clause-met c = λ whole. let rule = c.close.ensures.rule in met _ _ rule.0 rule.1 _ _ rule.2 whole
