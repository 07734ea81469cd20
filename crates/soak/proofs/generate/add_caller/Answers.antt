use Rattle.std.proofs.Common.{◌∙◌, ◌++◌, ◌∷◌, [], ◌+◌, ◌*◌, ap, sym, refl}
use Rattle.query_rules.specs.Grammar.{with_query}
use Rattle.soak.proofs.Made.{from_none, query_more}
use Rattle.soak.proofs.generate.add_caller.Goals as goal

pub loop-a-init : goal.loop-a-init
loop-a-init c = c.in_ok-add_caller.ensures.ok ∙ ap (λ qs. c.args.callers.now ++ qs ∷ []) (sym (from_none c.args.caller 0))

pub loop-a-preserved : goal.loop-a-preserved
loop-a-preserved c =
    c.in_ok-add_query.ensures.ok
    ∙ ap (with_query c.loop-a.callers) c.soak_query.ensures
    ∙ query_more c.args.callers.now c.loop-a.callers c.args.caller c.loop-a.a (4 * c.loop-a.a + c.args.caller) c.loop-a.invariant refl
