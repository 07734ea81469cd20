use Rattle.std.proofs.Common.{◌≤◌, drop}
use Rattle.ql_base.proofs.Pieces.{HasTaken}
use Rattle.query_rules.specs.Log.{refused_from}
use Rattle.query_text.proofs.log.write_refused_of.Given as goal

-- the lines so far are written
abbrev pub invariant-loop-index : goal.invariant-loop-index
invariant-loop-index g l =
    HasTaken (g.K.Sink.written l.fn.sink) (g.K.Sink.written l.sink) (refused_from l.caller 0 l.queries l.replies) (refused_from l.caller l.index (drop l.index l.queries) (drop l.index l.replies))
    × (g.K.Sink.faults l.fn.sink ≤ g.K.Sink.faults l.sink)
