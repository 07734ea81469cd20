-- What a run of the program has read and written, by its status.
use Rattle.std.specs.Prelude.{◌≡◌, ℕ, ◌<◌, ◌≤◌, ◌⊎◌, List, [], length, Ok, Err, Some, None, IfSome, String, option_and_then, if◌then◌else◌, nat_lt}
use Rattle.std.specs.declared.alloc.Global.{Global}
use Rattle.std.specs.declared.option.Option.{Option}
use Rattle.std.specs.declared.result.Result.{Result}
use Rattle.std.specs.Io.KnownBytes.{Appends, IsAtEnd}
use Rattle.ql_base.specs.Bytes.{AppendsFront}
use Rattle.ql_base.specs.Causes.{Rose}
use Rattle.query_rules.specs.declared.query.Reply.{Reply}
use Rattle.query_rules.specs.declared.query.Cause.{Cause}
use Rattle.query_rules.specs.Grammar.{Asked, said_by}
use Rattle.query_rules.specs.History.{IsHistory}
use Rattle.query_rules.specs.Log.{IsLogOf, refused_at, refused_length}
use Rattle.query_rules.specs.Soak.{soak_script, soak_totals, soak_text}
use Rattle.soak_laws.specs.Totals.{ComesTo}
use Rattle.hall.specs.Closing.{closing_view}
use Rattle.waiter_chain.specs.declared.make.Retired.{Retired}
use Rattle.query_cells.specs.Asked.{LedgerParcel, LedgerRun}
use Rattle.run_laws.specs.Lists.{all_told, all_answers}
use Rattle.command_line.specs.Form.{options_in}
use Rattle.command_line.specs.declared.options.Options.{Options}
use Rattle.command_line.specs.declared.options.RunMode.{RunMode}
use Rattle.command_line.specs.declared.options.RunMode.TheVariants.{Run, Soak}
use Rattle.server_run.specs.declared.ended.Ended.{Ended}

abbrev pub run_only : RunMode → Options → Option Options
run_only Run o = Some o
run_only Soak o = None

abbrev pub soak_only : RunMode → Options → Option Options
soak_only Run o = None
soak_only Soak o = Some o

-- what the words ask for, where they ask for a run
abbrev pub run_in : List (String Global) → Option Options
run_in words = option_and_then (λ o. run_only o.mode o) (options_in words)

-- the same where they ask for a soak
abbrev pub soak_in : List (String Global) → Option Options
soak_in words = option_and_then (λ o. soak_only o.mode o) (options_in words)

-- the most bytes that a script may have
abbrev pub limit : ℕ
limit = 67108864

abbrev pub script_in : Result Asked (ℕ × Cause) → Option Asked
script_in (Ok s) = Some s
script_in (Err fault) = None

-- the script that bytes ask, where they ask one
abbrev pub script_of : List ℕ → Option Asked
script_of bytes = script_in (said_by bytes)

-- these are the bytes that the source had left, where it tells them
abbrev pub IsInput : Option (List ℕ) → List ℕ → Type 0
IsInput left bytes = IfSome left (λ told. bytes ≡ told)

-- the input was read to its end, it isn't too long, and it asks this script
pub record Reads (left left_new : Option (List ℕ)) (script : Asked) : Type 0 where
  pub bytes : List ℕ
  pub input : IsInput left bytes
  pub asked : script_of bytes ≡ Some script
  pub short : length bytes ≤ limit
  pub end : IsAtEnd left_new

-- there is one, and it is such
abbrev pub Holds : {X : Type 0} → Option X → (X → Type 0) → Type 0
Holds (Some x) F = F x
Holds None F = ⊥

-- the jobs and answers that the closing pass of a lock listed
abbrev pub own_in : Retired LedgerParcel → List LedgerRun
own_in r = r.seat.value.me.0.own

-- The closes of a run of this script under these options gave this, and the lists of the closing passes are exactly the replies of this outcome, each under its caller and index.
pub record EndedAs (script : Asked) (o : Options) (told : List (List Reply)) (e : Ended) : Type 0 where
  pub hall : Holds e.hall (λ closed. (closed.locks ≡ script.cells) × (closed.slots ≡ o.slots) × (closed.policy ≡ o.policy) × ((closing_view closed).part.told ≡ all_told 0 script.callers told))
  pub dist : Holds e.dist (λ retired. (retired.combine ≡ o.combine) × (own_in retired ≡ all_answers 0 script.callers told))

-- Status 0: what was written is exactly the printed form of one history of the script that the input asks.
-- Each caller's queries stand in it once, in its order, with the replies of plain maps and of a plain ledger that one thread changes, and the totals count them.
-- The maps stood behind a hall's locks and the ledger behind a lock of its own, and the closes of both tell the same replies.
-- A source that tells nothing leaves open which script it is.
pub record WritesOneHistory (left left_new written written_new : Option (List ℕ)) (o : Options) (e : Ended) : Type 0 where
  pub script : Asked
  pub read : Reads left left_new script
  pub told : List (List Reply)
  pub text : List ℕ
  pub log : IsLogOf script o.rows told text
  pub history : IsHistory o.rows script.callers told
  pub ended : EndedAs script o told e
  pub grew : Appends written written_new text

-- Status 5: a front of such a text was written.
pub record WritesFront (left left_new written written_new : Option (List ℕ)) (o : Options) (e : Ended) : Type 0 where
  pub script : Asked
  pub read : Reads left left_new script
  pub told : List (List Reply)
  pub text : List ℕ
  pub log : IsLogOf script o.rows told text
  pub history : IsHistory o.rows script.callers told
  pub ended : EndedAs script o told e
  pub grew : AppendsFront written written_new text

-- A soak under these options came to its end: the closes tell the replies of one history of its script, and that comes to its totals.
pub record HasSoaked (o : Options) (e : Ended) : Type 0 where
  pub told : List (List Reply)
  pub history : IsHistory 16 (soak_script o.count).callers told
  pub totals : ComesTo 8 16 (soak_script o.count).callers told history (soak_totals o.count)
  pub ended : EndedAs (soak_script o.count) o told e

-- what a soak under these options writes: its totals, which no schedule can change
abbrev pub summary_of : Options → List ℕ
summary_of o = soak_text o.count (soak_totals o.count)

-- Status 0 of a soak: what was written is exactly its summary.
pub record WritesSoak (written written_new : Option (List ℕ)) (o : Options) (e : Ended) : Type 0 where
  pub ran : HasSoaked o e
  pub grew : Appends written written_new (summary_of o)

-- Status 5 of a soak: a front of that was written.
pub record WritesSoakFront (written written_new : Option (List ℕ)) (o : Options) (e : Ended) : Type 0 where
  pub ran : HasSoaked o e
  pub grew : AppendsFront written written_new (summary_of o)

-- more bytes came than a script may have, or they ask no script
abbrev pub IsRefused : List ℕ → Type 0
IsRefused bytes = (limit < length bytes) ⊎ (script_of bytes ≡ None)

abbrev pub fault_text : Result Asked (ℕ × Cause) → List ℕ
fault_text (Ok s) = []
fault_text (Err fault) = refused_at fault.0 fault.1

-- what is written of bytes that are refused: their length, or their first bad line with its cause
abbrev pub refusal_of : List ℕ → List ℕ
refusal_of bytes = if nat_lt limit (length bytes) then refused_length else fault_text (said_by bytes)

-- the bytes are refused, and this says why
abbrev pub IsRefusalOf : List ℕ → List ℕ → Type 0
IsRefusalOf text bytes = IsRefused bytes × (text ≡ refusal_of bytes)

-- the input is refused, and this says why
pub record TellsRefusal (left : Option (List ℕ)) (text : List ℕ) : Type 0 where
  pub bytes : List ℕ
  pub input : IsInput left bytes
  pub refused : IsRefusalOf text bytes

-- Status 3: the input is refused, and what was written says why.
pub record WritesRefusal (left written written_new : Option (List ℕ)) : Type 0 where
  pub text : List ℕ
  pub refused : TellsRefusal left text
  pub grew : Appends written written_new text

-- Status 5 of a refused input: a front of that was written.
pub record WritesRefusalFront (left written written_new : Option (List ℕ)) : Type 0 where
  pub text : List ℕ
  pub refused : TellsRefusal left text
  pub grew : AppendsFront written written_new text

-- these bytes are a script, and not too many
abbrev pub IsAccepted : List ℕ → Type 0
IsAccepted bytes = (length bytes ≤ limit) × ((script : Asked) × (script_of bytes ≡ Some script))

-- Completeness: where the bytes are told and accepted and no fault is counted, the status is 0, or 6 for want of memory.
abbrev pub Completes : Option (List ℕ) → ℕ → ℕ → ℕ → ℕ → ℕ → Type 0
Completes left reads reads_new writes writes_new status =
    (bytes : List ℕ) → left ≡ Some bytes → IsAccepted bytes → (Rose reads reads_new → ⊥) → (Rose writes writes_new → ⊥) → (status ≡ 0) ⊎ (status ≡ 6)

-- Where the bytes are told and refused and no fault is counted, the status is 3, or 6 for want of memory.
abbrev pub Refuses : Option (List ℕ) → ℕ → ℕ → ℕ → ℕ → ℕ → Type 0
Refuses left reads reads_new writes writes_new status =
    (bytes : List ℕ) → left ≡ Some bytes → IsRefused bytes → (Rose reads reads_new → ⊥) → (Rose writes writes_new → ⊥) → (status ≡ 3) ⊎ (status ≡ 6)
