use Rattle.std.proofs.Common.{None}
use Rattle.waiter_chain.proofs.tests.poll_plain.Goals as goal

pub poll-requires-clause-behind : goal.poll-requires-clause-behind
poll-requires-clause-behind c = let b = c.requires.behind in (None, b.0, b.1)

pub returns-clause-answer : goal.returns-clause-answer
returns-clause-answer c = c.poll.ensures.answer None c.requires.behind.0
