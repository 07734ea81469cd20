use Rattle.std.proofs.Common.{inr, refl, subst}
use Rattle.ql_base.specs.Bytes.{AppendsFront}
use Rattle.query_text.specs.declared.refusal.Refusal.{Refusal}
use Rattle.query_text.specs.Refusals.{refusal_text}
use Rattle.server_run.proofs.Refusals.{accepted_alone, asked_writable}
use Rattle.server_run.proofs.serve.serve_run.Goals as goal

pub returns-in-Err-Refused-clause-cut : goal.returns-in-Err-Refused-clause-cut
returns-in-Err-Refused-clause-cut g c = λ is.
    let P : Refusal → Type 0 = λ r. AppendsFront (g.K.Sink.written c.args.sink.now) (g.K.Sink.written c.refuse.new.sink) (refusal_text r) in
    inr (
      record {
        text = refusal_text c.in-Err-Refused.refusal;
        refused = c.in-Err-Refused.ensures.refused c.in-Err-Refused.refusal c.in-Err-Refused.field-0-is;
        grew = subst P c.in-Err-Refused.refusal-is (c.refuse.ensures.cut is);
      },
      refl,
    )

pub returns-in-Err-Refused-clause-complete : goal.returns-in-Err-Refused-clause-complete
returns-in-Err-Refused-clause-complete g c = λ bytes told accepted read write.
    absurd (accepted_alone (g.S.Source.left c.args.source.now) bytes (refusal_text c.in-Err-Refused.refusal) told (c.in-Err-Refused.ensures.refused c.in-Err-Refused.refusal c.in-Err-Refused.field-0-is) accepted)

pub answer-requires-clause-script : goal.answer-requires-clause-script
answer-requires-clause-script g c κs within = asked_writable _ _ c.in-Ok.script c.in-Ok.ensures.read
