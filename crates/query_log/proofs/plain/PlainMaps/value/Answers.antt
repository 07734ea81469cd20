use Rattle.std.proofs.Common.{sym, ap, ◌∙◌}
use Rattle.std.specs.Ordering.{nat_cmp}
use Rattle.std.specs.BTreeMap.{get}
use Rattle.query_rules.specs.Maps.{PlainMap}
use Rattle.query_log.proofs.Cells.{map_there}
use Rattle.query_log.proofs.plain.PlainMaps.value.Goals as goal

pub returns : goal.returns
returns c =
    c.copied.ensures ∙ c.get.ensures.value ∙ ap (λ m. get nat_cmp m c.args.key) c.index.ensures
    ∙ sym (ap (λ (m : PlainMap). m.value_at c.args.key) (map_there c.args.self.now.maps.items c.args.cell c.index.result.now c.requires))
