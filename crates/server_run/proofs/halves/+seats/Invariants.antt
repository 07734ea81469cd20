use Rattle.std.proofs.Common.{length, ◌+◌, ◌-◌, ◌*◌}
use Rattle.server_run.proofs.halves.+seats.Given as goal

abbrev pub decreases-run_all : goal.decreases-run_all
decreases-run_all g l = 4 * length l.seated.now

abbrev pub decreases-run_halves : goal.decreases-run_halves
decreases-run_halves g l = 4 * (length l.front.now + length l.back.now) - 1

abbrev pub decreases-run_halves-one : goal.decreases-run_halves-one
decreases-run_halves-one g l = 4 * length l.front.now + 1

abbrev pub decreases-run_halves-other : goal.decreases-run_halves-other
decreases-run_halves-other g l = 4 * length l.back.now + 1
