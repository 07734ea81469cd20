use Rattle.std.proofs.Common.{◌≤◌, length}
use Rattle.ql_base.proofs.Pieces.{HasTaken}
use Rattle.ql_base.proofs.sink.write_whole.Given as goal

-- a front of the piece is written
abbrev pub invariant-loop-rest : goal.invariant-loop-rest
invariant-loop-rest g l =
    HasTaken (g.K.Sink.written l.fn.sink) (g.K.Sink.written l.sink) l.piece l.rest
    × (g.K.Sink.faults l.fn.sink ≤ g.K.Sink.faults l.sink)

abbrev pub decreases-loop-rest : goal.decreases-loop-rest
decreases-loop-rest g l = length l.rest
