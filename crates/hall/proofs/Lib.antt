-- The lemmas of this crate, in an order to read them in: each file stands on those above it alone.

-- The part of the rule on locks.
mod Locking
-- What each step does to the word of a lock and to the counts there.
mod Arith
-- What each event of upgrade mode, and each lowering, does to the word of a lock and to the counts there.
mod Upgrades
-- The part of the rule on the cargo.
mod Cargoes
-- A word that was read and then found changed: what steps and joins do to it.
mod Racing
-- The part of the rule on trails: one lemma for all steps at a lock's word.
mod Trailing
-- A step at a lock's word keeps the rule: each part by its own lemma, and two things are left to each step, the counts at its lock and the cargo.
mod Keeps
-- Tokens in slots: what the sweep has passed is covered by undecided passes, and each step on a slot keeps the counts.
mod Slots
-- The part of the rule on trails: one lemma for all steps on a slot.
mod SlotTrails
-- A step on a slot keeps the rule: left to each are the counts at its lock, the slots that are covered, and the cargo.
mod SlotKeeps
-- What all steps at a lock's word have in common.
mod Steps
-- Each event keeps the rule, and tells what its play says.
mod Events
-- Each event of upgrade mode, and each lowering, keeps the rule, and tells what its play says.
mod Upgrading
-- The steps of the table that make the events.
mod Allowing
-- Each step of deferred readers and of a sweep keeps the rule, and tells what its play says.
mod SlotEvents
-- The steps of the table that make the steps of deferred readers and of a sweep.
mod SlotSteps
-- The steps of the table that make the events of upgrade mode and the lowerings.
mod UpgradeSteps
-- A split and a join keep the rule.
mod Dividing
-- A split and a join move nothing at the abstract locks that the views show.
mod Parting
-- The rule holds of a new hall.
mod Opening
-- The steps on the cargo's words keep the rule.
mod Carrying
-- What is known of a hall that was closed.
mod Ending
