use Rattle.std.proofs.Common.{refl}
use Rattle.std.proofs.lemmas.List.{length-set}
use Rattle.query_log.proofs.Cells.{set_removed}
use Rattle.query_log.proofs.plain.PlainMaps.remove.Goals as goal

pub returns : goal.returns
returns c = record {
  maps = set_removed c.args.self.now.maps.items c.args.cell c.index_mut.result.now c.remove.new.self c.args.key c.remove.result c.requires c.index_mut.ensures.value c.remove.ensures.updates c.remove.ensures.value c.remove.ensures.len;
  cells = length-set c.args.self.now.maps.items c.args.cell c.remove.new.self;
  rows = refl;
}
