use Rattle.std.proofs.Common.{refl, ap, ◌∙◌}
use Rattle.std.proofs.lemmas.List.{length-set}
use Rattle.query_log.proofs.Cells.{set_inserted, maps_same, on_err_any}
use Rattle.query_log.proofs.plain.PlainMaps.set.Goals as goal

pub returns-in_err-insert-clause-err : goal.returns-in_err-insert-clause-err
returns-in_err-insert-clause-err c = on_err_any c.from_residual.result (record {
  maps = maps_same c.args.self.now.maps.items c.args.cell c.index_mut.result.now c.insert.new.self c.requires (c.in_err-insert.ensures.err ∙ ap (λ m. m.entries) c.index_mut.ensures.value);
  cells = length-set c.args.self.now.maps.items c.args.cell c.insert.new.self;
  rows = refl;
})

pub returns-clause-ok : goal.returns-clause-ok
returns-clause-ok c = record {
  maps = set_inserted c.args.self.now.maps.items c.args.cell c.index_mut.result.now c.insert.new.self c.args.key c.args.value c.in_ok-insert.field-0 c.requires c.index_mut.ensures.value c.in_ok-insert.ensures.updates c.in_ok-insert.ensures.old c.in_ok-insert.ensures.len;
  cells = length-set c.args.self.now.maps.items c.args.cell c.insert.new.self;
  rows = refl;
}
