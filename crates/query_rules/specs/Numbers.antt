-- Queries and replies whose numbers are those of a machine.
use Rattle.std.specs.Prelude.{ℕ, ◌^◌, ◌<◌, Some, None, Ok, Err}
use Rattle.std.specs.declared.option.Option.{Option}
use Rattle.std.specs.declared.result.Result.{Result}
use Rattle.std.specs.List.{AllByRecursion}
use Rattle.query_rules.specs.declared.query.Query.{Query}
use Rattle.query_rules.specs.declared.query.Said.{Said}
use Rattle.query_rules.specs.declared.query.Said.TheVariants.{Found, Absent, Count, New, Old, Full, Now, Over, Yes, No, NewCount, OldCount, Moved, Short, Same, Pair}
use Rattle.query_rules.specs.declared.query.LedgerTold.{LedgerTold}
use Rattle.query_rules.specs.declared.query.LedgerTold.TheVariants as told
use Rattle.query_rules.specs.declared.query.LedgerTrouble.{LedgerTrouble}
use Rattle.query_rules.specs.declared.query.LedgerTrouble.TheVariants as trouble
use Rattle.query_rules.specs.declared.query.Reply.{Reply}
use Rattle.query_rules.specs.declared.query.Reply.TheVariants.{Placed, Busy, Late, Job}
use Rattle.query_rules.specs.Verbs.{numbers_of}

-- 64 bits
abbrev pub IsNumber : ℕ → Type 0
IsNumber n = n < 2 ^ 64

abbrev pub IsFound : Option ℕ → Type 0
IsFound (Some value) = IsNumber value
IsFound None = Unit {0}

-- what a reply tells
abbrev pub IsSaid : Said → Type 0
IsSaid (Found value) = IsNumber value
IsSaid Absent = Unit {0}
IsSaid (Count n) = IsNumber n
IsSaid New = Unit {0}
IsSaid (Old value) = IsNumber value
IsSaid Full = Unit {0}
IsSaid (Now value) = IsNumber value
IsSaid Over = Unit {0}
IsSaid Yes = Unit {0}
IsSaid (No value) = IsNumber value
IsSaid (NewCount n) = IsNumber n
IsSaid (OldCount value n) = IsNumber value × IsNumber n
IsSaid Moved = Unit {0}
IsSaid (Short value) = IsNumber value
IsSaid Same = Unit {0}
IsSaid (Pair first second) = IsFound first × IsFound second

-- a sum may be twice as wide
abbrev pub IsResult : Result LedgerTold LedgerTrouble → Type 0
IsResult (Ok (told.Now n)) = IsNumber n
IsResult (Ok (told.Sum n)) = n < 2 ^ 128
IsResult (Err trouble.Over) = Unit {0}
IsResult (Err trouble.Full) = Unit {0}
IsResult (Err (trouble.Short n)) = IsNumber n

abbrev pub IsReply : Reply → Type 0
IsReply (Placed place said) = IsNumber place × IsSaid said
IsReply Busy = Unit {0}
IsReply (Late now) = IsNumber now
IsReply (Job at result) = IsNumber at × IsResult result

abbrev pub IsQuery : Query → Type 0
IsQuery q = AllByRecursion IsNumber (numbers_of q)
