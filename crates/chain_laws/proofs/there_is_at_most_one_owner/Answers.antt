use Rattle.waiter_chain.proofs.Shown.{chain_shows}
use Rattle.chain_laws.proofs.there_is_at_most_one_owner.Goals as goal

pub returns : goal.returns
returns g c o s l = (chain_shows (g.P.Freight.rule o) o.nodes s l).alone
