use Rattle.std.proofs.Common.{◌+◌, ◌-◌, ◌≤◌, vec_len, take}
use Rattle.std.specs.Io.KnownBytes.{Consumes}
use Rattle.ql_base.proofs.source.read_to_end.Given as goal

-- what was read so far
abbrev pub invariant-loop-filled : goal.invariant-loop-filled
invariant-loop-filled g l = record {
  came : Consumes (g.S.Source.left l.fn.source) (g.S.Source.left l.source) (take l.filled l.bytes.items);
  within : l.filled ≤ vec_len l.bytes;
  bound : l.filled ≤ l.limit + 1;
  later : g.S.Source.faults l.fn.source ≤ g.S.Source.faults l.source;
}

abbrev pub decreases-loop-filled : goal.decreases-loop-filled
decreases-loop-filled g l = (l.limit + 1) - l.filled
