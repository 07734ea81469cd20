use Rattle.std.proofs.Common.{rules, arith, ap, ◌∙◌, subst}
use Rattle.lock_rounds.specs.Outside.{HasDone}
use Rattle.lock_rounds.specs.Works.{act_in}
use Rattle.lock_rounds.proofs.shares.play.Goals as goal

pub loop-round-preserved : goal.loop-round-preserved
loop-round-preserved g c = record {
  outside = search rules;
  last = λ n e. subst (λ act. HasDone act c.play_round.new.pass) (c.act.ensures ∙ ap (act_in c.args.turn) (omega (arith, e))) c.play_round.ensures.done;
  reads = search rules;
}
