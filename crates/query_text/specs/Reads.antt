-- What a function that reads answers, beside what the text says.
use Rattle.std.specs.Prelude.{◌≡◌, ℕ, List, [], Ok, Err, Some, None}
use Rattle.std.specs.declared.option.Option.{Option}
use Rattle.std.specs.declared.result.Result.{Result}
use Rattle.query_rules.specs.declared.query.Cause.{Cause}
use Rattle.query_rules.specs.Words.{words_of}
use Rattle.query_text.specs.declared.script_line.LineFault.{LineFault}
use Rattle.query_text.specs.declared.script_line.LineFault.TheVariants.{NoMemory, Bad}
use Rattle.query_text.specs.declared.parse.ParseFault.{ParseFault}
use Rattle.query_text.specs.declared.parse.ParseFault.TheVariants as fault

-- the words of what is left of a line, where a word follows
abbrev pub rest_words : Option (List ℕ) → List (List ℕ)
rest_words None = []
rest_words (Some rest) = words_of rest

-- the answer, seen by view, is what the words say
abbrev pub Says : {X A : Type 0} → (X → A) → Result X Cause → Result A Cause → Type 0
Says view (Ok x) said = said ≡ Ok (view x)
Says view (Err cause) said = said ≡ Err cause

abbrev pub FailsAs : {A : Type 0} → LineFault → Result A Cause → Type 0
FailsAs NoMemory said = Unit {0}
FailsAs (Bad cause) said = said ≡ Err cause

-- the answer, seen by view, is what the line says, unless memory ran out
abbrev pub Reads : {X A : Type 0} → (X → A) → Result X LineFault → Result A Cause → Type 0
Reads view (Ok x) said = said ≡ Ok (view x)
Reads view (Err e) said = FailsAs e said

abbrev pub Refuses : {A : Type 0} → ParseFault → Result A (ℕ × Cause) → Type 0
Refuses fault.NoMemory said = Unit {0}
Refuses (fault.Refused line cause) said = said ≡ Err (line, cause)

-- the answer, seen by view, is what the text says, unless memory ran out
abbrev pub Parses : {X A : Type 0} → (X → A) → Result X ParseFault → Result A (ℕ × Cause) → Type 0
Parses view (Ok x) said = said ≡ Ok (view x)
Parses view (Err e) said = Refuses e said

abbrev pub fault_at : ℕ → LineFault → ParseFault
fault_at line NoMemory = fault.NoMemory
fault_at line (Bad cause) = fault.Refused line cause
