use Rattle.std.proofs.Common.{refl}
use Rattle.dist_mutex.proofs.Shown.{lock_shows}
use Rattle.dist_mutex.proofs.mutex.DistMutex.make.Goals as goal

pub make-requires-clause-admits : goal.make-requires-clause-admits
make-requires-clause-admits g c = (record { value = c.args.value; ran = 0 }, refl, refl, c.requires.room)

pub returns-clause-shows : goal.returns-clause-shows
returns-clause-shows g c s l = lock_shows g.V.Room.rooms g.J.Job.means g.J.Job.is_ready _ s l
