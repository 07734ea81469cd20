use Rattle.std.proofs.Common.{refl, inl, inr, [], ◌∷◌}
use Rattle.hall.specs.Passes.{view, cargo_of, shape_of}
use Rattle.lock_model.specs.declared.model.Mode.TheVariants.{Shared}
use Rattle.query_rules.specs.declared.query.Query.TheVariants as query
use Rattle.query_rules.specs.declared.query.Said.TheVariants.{Same}
use Rattle.query_cells.specs.Two.{IsAtCells}
use Rattle.query_cells.proofs.AskingTwo.{both_in_order, both_tell, both_tread}
use Rattle.query_cells.proofs.Pairs.{is_held, may_same_both, none_for_both, two_read}
use Rattle.query_cells.proofs.Trails.{alike_treads}
use Rattle.query_cells.proofs.two.ask_both.Goals as goal

-- two cells that are the same one
pub tell_read-requires-clause-may : goal.tell_read-requires-clause-may
tell_read-requires-clause-may g c = may_same_both (cargo_of c.args.hall.now) (view c.take_two.new.pass) c.args.index c.args.first c.args.second c.args.key c.in_default.ensures.took.0

pub tell_read-requires-clause-holds : goal.tell_read-requires-clause-holds
tell_read-requires-clause-holds g c = none_for_both (view c.take_two.new.pass) c.args.first c.args.second c.args.key Same c.in_default.ensures.took.0

-- two that differ
pub look_up_two-said-requires-clause-held : goal.look_up_two-said-requires-clause-held
look_up_two-said-requires-clause-held g c = let h = c.in-Ok.ensures.took.guarded.holds in (is_held _ Shared (h.each c.args.first (inl refl)), is_held _ Shared (h.each c.args.second (inr (inl refl))))

pub look_up_two-said-requires-clause-settled : goal.look_up_two-said-requires-clause-settled
look_up_two-said-requires-clause-settled g c = let h = c.in-Ok.ensures.took.guarded.holds in (h.settled c.args.first (inl refl), h.settled c.args.second (inr (inl refl)))

pub leave_two-requires-clause-held : goal.leave_two-requires-clause-held
leave_two-requires-clause-held g c =
    let said = c.look_up_two-said.ensures in let told = c.tell_read-reply.ensures in (
      c.args.first,
      c.args.second,
      Shared,
      two_read (shape_of c.args.hall.now) c.args.first c.args.second c.in-Ok.guards (view c.take_two.new.pass) (view c.look_up_two-said.new.pass) (view c.tell_read-reply.new.pass) (query.Both c.args.first c.args.second c.args.key) c.look_up_two-said.result
          c.in-Ok.ensures.took.guarded said.words said.part told.pass.1 told.follows said.reads,
    )

pub returns-clause-tells : goal.returns-clause-tells
returns-clause-tells g c =
    let said = c.look_up_two-said.ensures in let told = c.tell_read-reply.ensures in let left = c.leave_two.ensures in
    both_tell (cargo_of c.args.hall.now) (shape_of c.args.hall.now) c.args.first c.args.second Shared c.in-Ok.guards (query.Both c.args.first c.args.second c.args.key) (view c.args.pass.now) (view c.take_two.new.pass) (view c.look_up_two-said.new.pass) (view c.tell_read-reply.new.pass) (view c.leave_two.new.pass)
    c.in-Ok.ensures.took said.words told.pass.1.steps left.back refl c.args.index c.tell_read-reply.result told.tells left.left

pub returns-clause-order : goal.returns-clause-order
returns-clause-order g c =
    let said = c.look_up_two-said.ensures in let told = c.tell_read-reply.ensures in let left = c.leave_two.ensures in
    both_in_order (cargo_of c.args.hall.now) (shape_of c.args.hall.now) c.args.first c.args.second Shared c.in-Ok.guards (query.Both c.args.first c.args.second c.args.key) (view c.args.pass.now) (view c.take_two.new.pass) (view c.look_up_two-said.new.pass) (view c.tell_read-reply.new.pass) (view c.leave_two.new.pass)
    c.in-Ok.ensures.took said.words told.pass.1.steps left.back refl

pub returns-clause-trail : goal.returns-clause-trail
returns-clause-trail g c =
    let said = c.look_up_two-said.ensures in let told = c.tell_read-reply.ensures in let left = c.leave_two.ensures in let u = view c.look_up_two-said.new.pass in let t = view c.tell_read-reply.new.pass in
    both_tread (cargo_of c.args.hall.now) (shape_of c.args.hall.now) c.args.first c.args.second Shared c.in-Ok.guards (query.Both c.args.first c.args.second c.args.key) (view c.args.pass.now) (view c.take_two.new.pass) u t (view c.leave_two.new.pass)
    c.in-Ok.ensures.took said.words told.pass.1.steps left.back refl (λ ne. absurd (ne refl)) (alike_treads (IsAtCells (c.args.first ∷ c.args.second ∷ []) Shared) u t told.pass.1) left.trail
