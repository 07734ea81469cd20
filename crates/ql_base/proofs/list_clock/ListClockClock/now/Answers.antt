use Rattle.std.proofs.Common.{◌≡◌, ap, ◌∙◌}
use Rattle.ql_base.specs.Answers.{answer_at}
use Rattle.ql_base.proofs.Told.{told_next}
use Rattle.ql_base.proofs.list_clock.ListClockClock.now.Goals as goal

pub returns-clause-answers : goal.returns-clause-answers
returns-clause-answers c =
    let calls = c.self.inside.place.calls in
    let is : c.next.result ≡ answer_at c.self.inside.answers.items calls = c.next.ensures.answer ∙ ap (λ l. answer_at l calls) c.deref.ensures.value in
    rw (← c.self.view_is) (told_next c.self.inside.answers.items calls _ _ c.next.ensures.calls is)
