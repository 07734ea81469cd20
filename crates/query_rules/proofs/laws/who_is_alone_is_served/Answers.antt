use Rattle.query_rules.proofs.Licences.{alone_is_served}
use Rattle.query_rules.proofs.laws.who_is_alone_is_served.Goals as goal

pub returns : goal.returns
returns c = alone_is_served
