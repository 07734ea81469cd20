use Rattle.std.proofs.Common.{subst}
use Rattle.std.specs.Io.KnownBytes.{Appends}
use Rattle.ql_base.specs.Bytes.{AppendsFront}
use Rattle.query_rules.specs.declared.query.Totals.{Totals}
use Rattle.query_rules.specs.Soak.{soak_text}
use Rattle.server_run.proofs.Soaked.{has_soaked}
use Rattle.server_run.proofs.serve.serve_soak.Goals as goal

pub returns-in-Ok-write_soak-clause-soak : goal.returns-in-Ok-write_soak-clause-soak
returns-in-Ok-write_soak-clause-soak g c = λ _. record {
  ran = has_soaked c.args.options.now c.in-Ok-run_script.soaked.ended c.in-Ok.script c.in-Ok-run_script.soaked.outcome c.a_soak_has_one_summary.ensures c.requires.count c.requires.rows c.in-Ok.ensures c.in-Ok-run_script.ensures.history c.in-Ok-run_script.ensures.ended;
  grew = subst (λ (t : Totals). Appends (g.K.Sink.written c.args.sink.now) (g.K.Sink.written c.write_soak.new.sink) (soak_text c.args.options.now.count t)) c.sum_up-totals.ensures c.in-Ok-write_soak.ensures.bytes;
}

pub returns-clause-cut : goal.returns-clause-cut
returns-clause-cut g c = λ _. record {
  ran = has_soaked c.args.options.now c.in-Ok-run_script.soaked.ended c.in-Ok.script c.in-Ok-run_script.soaked.outcome c.a_soak_has_one_summary.ensures c.requires.count c.requires.rows c.in-Ok.ensures c.in-Ok-run_script.ensures.history c.in-Ok-run_script.ensures.ended;
  grew = subst (λ (t : Totals). AppendsFront (g.K.Sink.written c.args.sink.now) (g.K.Sink.written c.write_soak.new.sink) (soak_text c.args.options.now.count t)) c.sum_up-totals.ensures c.in-Err.ensures.bytes;
}
