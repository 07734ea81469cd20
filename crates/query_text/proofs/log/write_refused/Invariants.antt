use Rattle.std.proofs.Common.{◌≤◌, drop}
use Rattle.ql_base.proofs.Pieces.{HasTaken}
use Rattle.query_rules.specs.Log.{refused_text, refused_of}
use Rattle.query_text.proofs.log.write_refused.Given as goal

-- the lines of the callers so far are written
abbrev pub invariant-loop-caller : goal.invariant-loop-caller
invariant-loop-caller g l =
    HasTaken (g.K.Sink.written l.fn.sink) (g.K.Sink.written l.sink) (refused_text l.callers l.outcome) (refused_of l.caller (drop l.caller l.callers) (drop l.caller l.outcome))
    × (g.K.Sink.faults l.fn.sink ≤ g.K.Sink.faults l.sink)
