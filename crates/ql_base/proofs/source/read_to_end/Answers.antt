use Rattle.std.proofs.Common.{arith}
use Rattle.ql_base.proofs.Filled.{filled_next}
use Rattle.ql_base.proofs.source.read_to_end.Goals as goal

pub loop-filled-preserved : goal.loop-filled-preserved
loop-filled-preserved g c =
    let read = c.in_ok-count.ensures in
    record {
      came = filled_next _ _ _ c.loop-filled.bytes.items c.read_piece.new.bytes.items c.loop-filled.filled c.in_ok-count.count read.front c.loop-filled.invariant.came read.ok;
      within = read.fits;
      bound = omega (arith, read.bound);
      later = omega (arith, read.later);
    }
