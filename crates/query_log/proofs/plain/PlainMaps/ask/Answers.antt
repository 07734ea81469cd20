use Rattle.std.proofs.Common.{◌≡◌, true, false, sym, ap, ◌∙◌}
use Rattle.query_rules.specs.History.{asks_ledger}
use Rattle.query_log.proofs.plain.PlainMaps.ask.Goals as goal

pub unreachable-requires : goal.unreachable-requires
unreachable-requires c = let e : true ≡ false = sym (ap asks_ledger c.in-Give.is) ∙ c.requires.of_maps in cc

pub unreachable-requires-in-Take : goal.unreachable-requires-in-Take
unreachable-requires-in-Take c = let e : true ≡ false = sym (ap asks_ledger c.in-Take.is) ∙ c.requires.of_maps in cc

pub unreachable-requires-in-Audit : goal.unreachable-requires-in-Audit
unreachable-requires-in-Audit c = let e : true ≡ false = sym (ap asks_ledger c.in-Audit.is) ∙ c.requires.of_maps in cc
