use Rattle.waiter_chain.proofs.Shown.{chain_shows}
use Rattle.chain_laws.proofs.the_rule_shows_the_chain.Goals as goal

pub returns : goal.returns
returns g c o s l = chain_shows (g.P.Freight.rule o) o.nodes s l
