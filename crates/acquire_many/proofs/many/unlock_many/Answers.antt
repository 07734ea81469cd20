use Rattle.std.proofs.Common.{◌≡◌, ℕ, List, Option, Some, None, slice_index_or, sym, subst}
use Rattle.acquire_many.specs.declared.guards.How.TheVariants as hows
use Rattle.hall.specs.Passes.{view}
use Rattle.acquire_many.specs.Wants.{Hold}
use Rattle.acquire_many.proofs.many.unlock_many.Goals as goal

pub give_all_back-requires-clause-settled : goal.give_all_back-requires-clause-settled
give_all_back-requires-clause-settled g c = λ _ _.
    subst (λ (l : List (Option Hold)). (k : ℕ) (x : Hold) → slice_index_or l k None ≡ Some x → x.1 ≡ hows.Exclusive → g.C.CargoRule.settled x.0 (view c.args.pass.now).part) (sym c.holds_in.ensures) c.requires.settled
