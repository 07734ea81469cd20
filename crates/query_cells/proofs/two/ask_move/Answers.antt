use Rattle.std.proofs.Common.{refl, inl, inr, [], ◌∷◌}
use Rattle.hall.specs.Passes.{view, cargo_of, shape_of}
use Rattle.lock_model.specs.declared.model.Mode.TheVariants.{Exclusive}
use Rattle.query_rules.specs.declared.query.Query.TheVariants as query
use Rattle.query_rules.specs.declared.query.Said.TheVariants.{Same}
use Rattle.query_cells.specs.Two.{IsAtCells}
use Rattle.query_cells.proofs.AskingTwo.{both_in_order, both_tell, both_tread}
use Rattle.query_cells.proofs.Pairs.{may_same_move, none_for_move, two_told}
use Rattle.query_cells.proofs.Trails.{stays_treads}
use Rattle.query_cells.proofs.two.ask_move.Goals as goal

-- two cells that are the same one
pub tell_read-requires-clause-may : goal.tell_read-requires-clause-may
tell_read-requires-clause-may g c = may_same_move (cargo_of c.args.hall.now) (view c.take_two.new.pass) c.args.index c.args.from c.args.to c.args.key c.args.n c.in_default.ensures.took.0

pub tell_read-requires-clause-holds : goal.tell_read-requires-clause-holds
tell_read-requires-clause-holds g c = none_for_move (view c.take_two.new.pass) c.args.from c.args.to c.args.key c.args.n Same c.in_default.ensures.took.0

-- two that differ
pub shift-said-requires-clause-held : goal.shift-said-requires-clause-held
shift-said-requires-clause-held g c = let h = c.in-Ok.ensures.took.guarded.holds in (h.each c.args.from (inl refl), h.each c.args.to (inr (inl refl)))

pub shift-said-requires-clause-settled : goal.shift-said-requires-clause-settled
shift-said-requires-clause-settled g c = let h = c.in-Ok.ensures.took.guarded.holds in (h.settled c.args.from (inl refl), h.settled c.args.to (inr (inl refl)))

pub leave_two-requires-clause-held : goal.leave_two-requires-clause-held
leave_two-requires-clause-held g c =
    let said = c.shift-said.ensures in let told = c.tell-reply.ensures in (
      c.args.from,
      c.args.to,
      Exclusive,
      two_told (shape_of c.args.hall.now) c.args.from c.args.to c.in-Ok.guards (view c.take_two.new.pass) (view c.shift-said.new.pass) (view c.tell-reply.new.pass) (query.Move c.args.from c.args.to c.args.key c.args.n) c.shift-said.result
          c.in-Ok.ensures.took.guarded said.words told.pass.1 told.follows said.from said.to,
    )

pub returns-clause-tells : goal.returns-clause-tells
returns-clause-tells g c =
    let said = c.shift-said.ensures in let told = c.tell-reply.ensures in let left = c.leave_two.ensures in
    both_tell (cargo_of c.args.hall.now) (shape_of c.args.hall.now) c.args.from c.args.to Exclusive c.in-Ok.guards (query.Move c.args.from c.args.to c.args.key c.args.n) (view c.args.pass.now) (view c.take_two.new.pass) (view c.shift-said.new.pass) (view c.tell-reply.new.pass) (view c.leave_two.new.pass)
    c.in-Ok.ensures.took said.words told.pass.1.steps left.back refl c.args.index c.tell-reply.result told.tells left.left

pub returns-clause-order : goal.returns-clause-order
returns-clause-order g c =
    let said = c.shift-said.ensures in let told = c.tell-reply.ensures in let left = c.leave_two.ensures in
    both_in_order (cargo_of c.args.hall.now) (shape_of c.args.hall.now) c.args.from c.args.to Exclusive c.in-Ok.guards (query.Move c.args.from c.args.to c.args.key c.args.n) (view c.args.pass.now) (view c.take_two.new.pass) (view c.shift-said.new.pass) (view c.tell-reply.new.pass) (view c.leave_two.new.pass)
    c.in-Ok.ensures.took said.words told.pass.1.steps left.back refl

pub returns-clause-trail : goal.returns-clause-trail
returns-clause-trail g c =
    let said = c.shift-said.ensures in let told = c.tell-reply.ensures in let left = c.leave_two.ensures in let u = view c.shift-said.new.pass in let t = view c.tell-reply.new.pass in
    both_tread (cargo_of c.args.hall.now) (shape_of c.args.hall.now) c.args.from c.args.to Exclusive c.in-Ok.guards (query.Move c.args.from c.args.to c.args.key c.args.n) (view c.args.pass.now) (view c.take_two.new.pass) u t (view c.leave_two.new.pass)
    c.in-Ok.ensures.took said.words told.pass.1.steps left.back refl (λ ne. refl) (stays_treads (IsAtCells (c.args.from ∷ c.args.to ∷ []) Exclusive) u t told.pass.1) left.trail
