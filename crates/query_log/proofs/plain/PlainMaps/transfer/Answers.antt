use Rattle.std.proofs.Common.{◌≡◌, ◌+◌, ◌-◌, true, false, sym, ap, ◌∙◌, arith, is_some, unwrap_or}
use Rattle.query_rules.specs.Maps.{Maps, with_map, with_value, amount_at}
use Rattle.query_log.specs.Plain.{maps_in}
use Rattle.query_log.proofs.Cells.{there_after, moved_some, moved_none}
use Rattle.query_log.proofs.plain.PlainMaps.transfer.Goals as goal

pub replace-requires-clause-there : goal.replace-requires-clause-there
replace-requires-clause-there c =
    let there : is_some ((maps_in c.args.self.now c.args.from).value_at c.args.key) ≡ true = sym (ap is_some c.value-has.ensures) ∙ sym c.is_some.ensures ∙ c.if-is_some.true in
    there_after (maps_in c.args.self.now) (maps_in c.set.new.self) c.args.from c.args.to c.args.key _ c.if-from-to.false there c.in_ok-set.ensures.ok.maps

pub returns-then-is_some-clause-ok : goal.returns-then-is_some-clause-ok
returns-then-is_some-clause-ok c =
    let M : Maps = maps_in c.args.self.now in
    let there : is_some ((M c.args.from).value_at c.args.key) ≡ true = sym (ap is_some c.value-has.ensures) ∙ sym c.is_some.ensures ∙ c.if-is_some.true in
    let had : c.unwrap_or.result ≡ amount_at (M c.args.to) c.args.key = c.unwrap_or.ensures ∙ ap (λ o. unwrap_or o 0) c.value-had.ensures in
    let sum : c.in-Some.sum ≡ amount_at (M c.args.to) c.args.key + c.args.n = omega (arith, c.in-Some.ensures, had) in
    let left : c.unwrap_or-amount.result - c.args.n ≡ amount_at (M c.args.from) c.args.key - c.args.n = ap (λ v. v - c.args.n) (c.unwrap_or-amount.ensures ∙ ap (λ o. unwrap_or o 0) c.value-has.ensures) in
    let set = c.in_ok-set.ensures.ok.maps ∙ ap (λ s. with_map M c.args.to (with_value (M c.args.to) c.args.key s)) sum in
    record {
      maps = moved_some M (maps_in c.set.new.self) (maps_in c.replace.new.self) c.args.from c.args.to c.args.key c.args.n _ _ c.if-from-to.false there left set c.replace.ensures.maps;
      cells = c.replace.ensures.cells ∙ c.in_ok-set.ensures.ok.cells;
      rows = c.replace.ensures.rows ∙ c.in_ok-set.ensures.ok.rows;
    }

pub returns-else-is_some-clause-ok : goal.returns-else-is_some-clause-ok
returns-else-is_some-clause-ok c =
    let M : Maps = maps_in c.args.self.now in
    let gone : is_some ((M c.args.from).value_at c.args.key) ≡ false = sym (ap is_some c.value-has.ensures) ∙ sym c.is_some.ensures ∙ c.if-is_some.false in
    let had : c.unwrap_or.result ≡ amount_at (M c.args.to) c.args.key = c.unwrap_or.ensures ∙ ap (λ o. unwrap_or o 0) c.value-had.ensures in
    let sum : c.in-Some.sum ≡ amount_at (M c.args.to) c.args.key + c.args.n = omega (arith, c.in-Some.ensures, had) in
    let set = c.in_ok-set.ensures.ok.maps ∙ ap (λ s. with_map M c.args.to (with_value (M c.args.to) c.args.key s)) sum in
    record {
      maps = moved_none M (maps_in c.set.new.self) c.args.from c.args.to c.args.key c.args.n _ gone set;
      cells = c.in_ok-set.ensures.ok.cells;
      rows = c.in_ok-set.ensures.ok.rows;
    }
