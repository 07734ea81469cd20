use Rattle.std.proofs.Common.{arith, subst, sym, List}
use Rattle.query_rules.specs.declared.query.Query.{Query}
use Rattle.query_rules.specs.Grammar.{IsScript}
use Rattle.soak.proofs.Made.{is_script, made}
use Rattle.soak.proofs.generate.make_soak.Goals as goal

pub of-requires : goal.of-requires
of-requires c =
    let P : List (List Query) → Type 0 = λ callers. IsScript (record { cells = 8; callers = callers }) in
    subst P (sym (made c.args.count c.loop-caller.caller c.loop-caller.callers (omega arith) c.loop-caller.invariant)) (is_script c.args.count c.requires)
