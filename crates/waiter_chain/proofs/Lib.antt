-- The lemmas of this crate, in an order to read them in: each file stands on those above it alone.

-- What the rule needs at each step.
pub mod Rules
-- The step that takes a free lock, and the one that finds it taken.
pub mod Tries
-- The two steps by which a pass enters: its status, and its swap into the central word.
pub mod Enters
-- The step by which a node that waits with no job reads its own status.
pub mod Polls
-- The steps of an owner on the central word: it frees the lock, sees that others came, or takes the newer line.
pub mod Frees
-- The step by which an owner makes the next node the owner, whether that waits with a job or without one.
pub mod Grants
-- How turns bring a slot of a hand to the front, and back.
pub mod Turns
-- What contracts say of an owner, from what the steps tell.
pub mod Passes
-- Ranges of numbers, as a pass is split and joined.
pub mod Numbers
-- Where one idle pass covers every number, there is no owner.
pub mod Closes
-- A chain that has just been made meets the rule.
pub mod Opens
-- What stays as an owner goes on with a chain, so that its ownership may still end.
pub mod Hands
-- A waiting node stores what its swap found in its link.
pub mod Links
-- A node whose job another pass has run finds so, and takes its answer out; then it is idle.
pub mod Collects
-- An owner takes the job slot and the answer slot of the next node, and gives them back with the answer.
pub mod Serves
-- A node that holds its job slot, filled, swaps itself in: the job is posted.
pub mod Posts
-- An owner that has its own job slot in hand frees the lock: it gives back the value and that slot.
pub mod Ends
-- A pass that is to enter stores 0 in its link, where it is to post a job with its own job slot in hand, and then its status.
pub mod Clears
-- An owner notes that the next node waits with a job; and a node that posted a job and was granted takes it back.
pub mod Takes
-- An owner settles the jobs that it has run for itself, in the middle of its ownership: they enter its list, it pays for them, and its notes have the value that they made.
pub mod Settles
-- An idle pass takes its own job slot by a load of its status. One that is to enter stores 0 in its link, and then how it enters in its status.
pub mod Entering
-- The rule of a chain says what specs/Shows.antt has in plain words.
pub mod Shown
-- The step by which a node that waits with a job reads its own status: it waits still, its job has run, or it was made the owner and takes its job back.
pub mod JobPolls
-- What a load of a waiting node's own status tells its caller.
pub mod Polled
-- An owner that has its own job slot in hand makes the next node the owner: it gives back the value and that slot.
pub mod Gives
-- An owner frees the lock or makes the next node the owner, whether it has its own job slot in hand or not.
pub mod Endings
-- The steps of an owner that serves the next node, and of a node that was served, as the calls make them.
pub mod Helps
