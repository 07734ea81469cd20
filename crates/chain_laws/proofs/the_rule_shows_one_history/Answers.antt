use Rattle.dist_mutex.proofs.Shown.{lock_shows}
use Rattle.chain_laws.proofs.the_rule_shows_one_history.Goals as goal

pub returns : goal.returns
returns g c o s l = lock_shows g.V.Room.rooms g.J.Job.means g.J.Job.is_ready o s l
