use Rattle.dist_mutex.specs.Passes.{opening_of}
use Rattle.query_cells.proofs.Jobs.{owned_answer, owns_fresh}
use Rattle.query_cells.proofs.ledger.run_owned.Goals as goal

pub returns-clause-answered : goal.returns-clause-answered
returns-clause-answered g c =
    let l = c.lock-owner in let r = c.run_owned-answer in let u = c.unlock-released in
    owned_answer (opening_of c.args.dist.now) c.args.dist.now.chain.table.shared.table_id.slots c.args.dist_pass.now.pass.seat.me l.new.pass.pass.seat.me r.new.pass.pass.seat.me u.new.pass.pass.seat.me
    l.new.pass.runs.count r.new.pass.runs.count l.new.pass.runs.log.items r.new.pass.runs.log.items l.result.turn l.result.kept r.new.owner.kept c.args.job r.result c.requires.quota l.ensures.owner l.ensures.runs r.ensures.same.0 r.ensures.listed r.ensures.due r.ensures.position.0 r.ensures.related u.ensures.spent

pub run_owned-answer-requires-clause-owner : goal.run_owned-answer-requires-clause-owner
run_owned-answer-requires-clause-owner g c =
    let l = c.lock-owner in
    owns_fresh (opening_of c.args.dist.now) c.args.dist.now.chain.table.shared.table_id.slots c.args.dist_pass.now.pass.seat.me l.new.pass.pass.seat.me l.new.pass.runs.count l.new.pass.runs.log.items l.result.turn l.result.kept l.ensures.owner l.ensures.runs
