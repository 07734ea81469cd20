use Rattle.std.proofs.Common.{refl, sym, ap, ◌∙◌}
use Rattle.std.proofs.lemmas.List.{length-set}
use Rattle.std.specs.Ordering.{nat_cmp}
use Rattle.std.specs.BTreeMap.{get}
use Rattle.query_rules.specs.Maps.{PlainMap}
use Rattle.query_log.proofs.Cells.{map_there, set_inserted, on_err_from, on_ok_from, if_ok_both, not_absent}
use Rattle.query_log.proofs.plain.PlainMaps.replace.Goals as goal

pub unreachable-requires : goal.unreachable-requires
unreachable-requires c =
    let same = ap (λ (m : PlainMap). m.value_at c.args.key) (map_there c.args.self.now.maps.items c.args.cell c.index_mut.result.now c.requires.cell) ∙ sym (ap (λ m. get nat_cmp m c.args.key) c.index_mut.ensures.value) in
    not_absent _ c.requires.there (same ∙ on_err_from c.insert.result (sym c.is_err.ensures.value ∙ c.if-is_err.true) c.insert.ensures.absent)

pub returns : goal.returns
returns c =
    let done = sym c.is_err.ensures.value ∙ c.if-is_err.false in
    let old = if_ok_both c.insert.result done c.insert.ensures.old c.insert.ensures.len in
    record {
      maps = set_inserted c.args.self.now.maps.items c.args.cell c.index_mut.result.now c.insert.new.self c.args.key c.args.value old.0 c.requires.cell c.index_mut.ensures.value (on_ok_from c.insert.result done c.insert.ensures.updates) old.1 old.2;
      cells = length-set c.args.self.now.maps.items c.args.cell c.insert.new.self;
      rows = refl;
    }
