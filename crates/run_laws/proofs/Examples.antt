-- The own lists at worked examples: each holds by computation.
use Rattle.std.proofs.Common.{◌≡◌, List, [], ◌∷◌, Ok, refl}
use Rattle.query_rules.specs.declared.query.Query.{Query}
use Rattle.query_rules.specs.declared.query.Query.TheVariants.{Get, Put, TryGet, Give, Audit}
use Rattle.query_rules.specs.declared.query.LedgerAct.TheVariants as act
use Rattle.query_rules.specs.declared.query.LedgerTold.TheVariants as ledger
use Rattle.query_rules.specs.declared.query.Reply.{Reply}
use Rattle.query_rules.specs.declared.query.Reply.TheVariants.{Placed, Busy, Job}
use Rattle.query_rules.specs.declared.query.Said.TheVariants.{Absent, New}
use Rattle.map_cargo.specs.declared.entry.Told.TheVariants.{Wrote, Read, Refused}
use Rattle.query_cells.specs.Asked.{entry_for, answer_for}
use Rattle.run_laws.specs.Lists.{told_from, all_told, answers_from, all_answers}

abbrev first : List Query
first = Put 0 1 5 ∷ Give 7 2 ∷ Get 0 3 ∷ []

abbrev first_replies : List Reply
first_replies = Placed 1 New ∷ Job 1 (Ok (ledger.Now 2)) ∷ Placed 2 Absent ∷ []

abbrev second : List Query
second = TryGet 0 1 ∷ Audit ∷ []

abbrev second_replies : List Reply
second_replies = Busy ∷ Job 0 (Ok (ledger.Sum 0)) ∷ []

-- the newest first, with write number 0 and a read after one write
first_told : told_from 0 0 first first_replies ≡ Read 1 (entry_for 0 2 (Get 0 3) Absent) ∷ Wrote 0 (entry_for 0 0 (Put 0 1 5) New) ∷ []
first_told = refl

first_answers : answers_from 0 0 first first_replies ≡ answer_for 0 1 (act.Give 7 2) 1 (Ok (ledger.Now 2)) ∷ []
first_answers = refl

-- the second caller was refused its first query, and tells that under its number
both_told : all_told 0 (first ∷ second ∷ []) (first_replies ∷ second_replies ∷ [])
    ≡ Refused 1 0 (TryGet 0 1) Busy ∷ Read 1 (entry_for 0 2 (Get 0 3) Absent) ∷ Wrote 0 (entry_for 0 0 (Put 0 1 5) New) ∷ []
both_told = refl

-- the answers stand by caller, whatever their positions
both_answers : all_answers 0 (first ∷ second ∷ []) (first_replies ∷ second_replies ∷ [])
    ≡ answer_for 0 1 (act.Give 7 2) 1 (Ok (ledger.Now 2)) ∷ answer_for 1 1 act.Audit 0 (Ok (ledger.Sum 0)) ∷ []
both_answers = refl

-- a caller without queries is passed over, and callers without replies tell nothing
empty_first : all_told 0 ([] ∷ second ∷ []) ([] ∷ second_replies ∷ []) ≡ Refused 1 0 (TryGet 0 1) Busy ∷ []
empty_first = refl

second_waits : all_answers 0 (first ∷ second ∷ []) (first_replies ∷ []) ≡ answer_for 0 1 (act.Give 7 2) 1 (Ok (ledger.Now 2)) ∷ []
second_waits = refl
