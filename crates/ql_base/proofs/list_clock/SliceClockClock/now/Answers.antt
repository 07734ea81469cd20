use Rattle.ql_base.proofs.Told.{told_next}
use Rattle.ql_base.proofs.list_clock.SliceClockClock.now.Goals as goal

pub returns-clause-answers : goal.returns-clause-answers
returns-clause-answers c = rw (← c.self.view_is) (told_next c.self.inside.answers.now c.self.inside.place.calls _ _ c.next.ensures.calls c.next.ensures.answer)
