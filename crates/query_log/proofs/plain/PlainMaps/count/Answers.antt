use Rattle.std.proofs.Common.{sym, ap, ◌∙◌}
use Rattle.std.specs.BTreeMap.{btree_map_len}
use Rattle.query_rules.specs.Maps.{PlainMap}
use Rattle.query_log.proofs.Cells.{map_there}
use Rattle.query_log.proofs.plain.PlainMaps.count.Goals as goal

pub returns-clause-value : goal.returns-clause-value
returns-clause-value c =
    c.len.ensures.len ∙ ap (λ m. btree_map_len m) c.index.ensures
    ∙ sym (ap (λ (m : PlainMap). m.count) (map_there c.args.self.now.maps.items c.args.cell c.index.result.now c.requires))
