-- What the command is to clap.
use Rattle.std.proofs.Common.{◌≡◌, List, [], true, false, Bool, refl, Result, Ok, Err, IsErrAnd, IsErrOf}
use Rattle.clap.specs.Words.{Text, fault_of, is_simple, is_simple_and_free, takes}
use Rattle.command_line.specs.Program.{program}
use Rattle.command_line.specs.declared.options.WordsFault.{WordsFault}
use Rattle.command_line.specs.declared.options.WordsFault.TheVariants.{Usage}
use Rattle.command_line.proofs.Taken.{takes_all_else}

pub program_simple : is_simple program ≡ true
unfolding program
program_simple = refl

pub program_free : is_simple_and_free program ≡ true
unfolding program
program_free = refl

-- no fault of clap's means that clap takes the words
pub taken : (words : List Text) → fault_of program words ≡ [] → takes program words ≡ true
unfolding program
taken words e = takes_all_else program words refl refl refl refl e

pub not_taken : (b : Bool) → (b ≡ true → ⊥) → b ≡ false
not_taken true h = absurd (h refl)
not_taken false h = refl

-- an answer of one cause has what that cause says
pub of_cause : {T : Type 0} (r : Result T WordsFault) (P : Type 0) → IsErrAnd r (λ w. w ≡ Usage → P) → IsErrOf r Usage → P
of_cause (Ok x) P h e = absurd h
of_cause {T} (Err w) P h e = let same : w ≡ Usage = cc in h same
