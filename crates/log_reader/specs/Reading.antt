-- Reading a line from left to right, word by word. The reading is lenient: what is read is then compared with its one spelling.
use Rattle.std.specs.Prelude.{◌≡◌, ℕ, ◌^◌, ◌&&◌, List, [], ◌∷◌, length, take, drop, Some, None, Ok, Err, nat_lt, if◌then◌else◌, bytes_eq, codes, option_map}
use Rattle.std.specs.declared.option.Option.{Option}
use Rattle.std.specs.declared.result.Result.{Result}
use Rattle.std.specs.Str.{all_ascii_digits}
use Rattle.std.specs.Str.Parse.{digits_value}
use Rattle.query_rules.specs.declared.query.Query.{Query}
use Rattle.query_rules.specs.declared.query.Said.{Said}
use Rattle.query_rules.specs.declared.query.Said.TheVariants.{Found, Absent, Count, New, Old, Full, Now, Over, Yes, No, NewCount, OldCount, Moved, Short, Same, Pair}
use Rattle.query_rules.specs.declared.query.LedgerTold.{LedgerTold}
use Rattle.query_rules.specs.declared.query.LedgerTold.TheVariants as told
use Rattle.query_rules.specs.declared.query.LedgerTrouble.{LedgerTrouble}
use Rattle.query_rules.specs.declared.query.LedgerTrouble.TheVariants as trouble
use Rattle.query_rules.specs.declared.query.Reply.{Reply}
use Rattle.query_rules.specs.declared.query.Reply.TheVariants.{Placed, Busy, Late, Job}
use Rattle.query_rules.specs.Verbs.{verb_named, arity, query_of}
use Rattle.query_rules.specs.Words.{number_of}
use Rattle.query_rules.specs.Grammar.{numbers_in}
use Rattle.log_reader.specs.declared.answered.Answered.{Answered}
use Rattle.log_reader.specs.declared.read_words.Question.{Question}
use Rattle.log_reader.specs.declared.fault.LogFault.{LogFault}
use Rattle.log_reader.specs.declared.fault.LogFault.TheVariants.{NoMemory, NotALog}

infixl 10 ◌>>=◌
abbrev pub ◌>>=◌ : {A B : Type 0} → Option A → (A → Option B) → Option B
None >>= f = None
(Some x) >>= f = f x

-- it is no log only where this holds
abbrev pub FailsOnly : LogFault → Type 0 → Type 0
FailsOnly NoMemory P = Unit {0}
FailsOnly NotALog P = P

-- the answer, seen by view, is what was read
abbrev pub Finds : {X A : Type 0} → (X → A) → Option X → Option A → Type 0
Finds view (Some x) read = read ≡ Some (view x)
Finds view None read = read ≡ None

-- a word, and the words after it
abbrev pub name_at : List (List ℕ) → Option (List ℕ × List (List ℕ))
name_at [] = None
name_at (w ∷ ws) = Some (w, ws)

abbrev pub number_at : List (List ℕ) → Option (ℕ × List (List ℕ))
number_at [] = None
number_at (w ∷ ws) = option_map (λ n. (n, ws)) (number_of w)

abbrev pub numbers_at : ℕ → List (List ℕ) → Option (List ℕ × List (List ℕ))
numbers_at k ws = if nat_lt (length ws) k then None else option_map (λ ns. (ns, drop k ws)) (numbers_in (take k ws))

-- a number below 2 ^ 128, leading zeros or not
abbrev pub wide_of : List ℕ → Option ℕ
wide_of word = if all_ascii_digits word && nat_lt (digits_value 10 word) (2 ^ 128) then Some (digits_value 10 word) else None

unfoldable pub query_at : List (List ℕ) → Option (Query × List (List ℕ))
query_at ws = do
  name ← name_at ws
  verb ← verb_named name.0
  ns ← numbers_at (arity verb) name.1
  Some (query_of verb ns.0, ns.1)

-- whose query it is, the query, and the words after the sign
unfoldable pub question_at : List (List ℕ) → Option (Question × List (List ℕ))
question_at ws = do
  caller ← number_at ws
  index ← number_at caller.1
  q ← query_at index.1
  sign ← name_at q.1
  Some (record { caller = caller.0; index = index.0; query = q.0 }, sign.1)

-- what one word says
abbrev pub said_named : List ℕ → Option Said
said_named word =
    if bytes_eq word (codes "none") then Some Absent else
    if bytes_eq word (codes "new") then Some New else
    if bytes_eq word (codes "full") then Some Full else
    if bytes_eq word (codes "over") then Some Over else
    if bytes_eq word (codes "yes") then Some Yes else
    if bytes_eq word (codes "moved") then Some Moved else
    if bytes_eq word (codes "same") then Some Same else None

abbrev pub said_alone : List ℕ → Option Said
said_alone word = elim (number_of word) [ Some n ↦ Some (Count n) | None ↦ said_named word ]

-- what a name and a number say
abbrev pub said_with : List ℕ → ℕ → Option Said
said_with name n =
    if bytes_eq name (codes "some") then Some (Found n) else
    if bytes_eq name (codes "old") then Some (Old n) else
    if bytes_eq name (codes "now") then Some (Now n) else
    if bytes_eq name (codes "no") then Some (No n) else
    if bytes_eq name (codes "new") then Some (NewCount n) else
    if bytes_eq name (codes "short") then Some (Short n) else None

abbrev pub said_by_two : List ℕ → List ℕ → Option Said
said_by_two name word = if bytes_eq name (codes "none") then Some (Pair None None) else (number_of word >>= said_with name)

abbrev pub said_by_three : List ℕ → List ℕ → List ℕ → Option Said
said_by_three name second third =
    if bytes_eq name (codes "old") then (number_of second >>= λ value. number_of third >>= λ n. Some (OldCount value n)) else
    if bytes_eq name (codes "none") then (number_of third >>= λ value. Some (Pair None (Some value))) else
    (number_of second >>= λ value. Some (Pair (Some value) None))

abbrev pub said_by_four : List ℕ → List ℕ → Option Said
said_by_four second fourth = number_of second >>= λ value. number_of fourth >>= λ other. Some (Pair (Some value) (Some other))

-- what words say of the maps, by how many they are
abbrev pub said_in : List (List ℕ) → Option Said
said_in [] = None
said_in (a ∷ []) = said_alone a
said_in (a ∷ b ∷ []) = said_by_two a b
said_in (a ∷ b ∷ c ∷ []) = said_by_three a b c
said_in (a ∷ b ∷ c ∷ d ∷ []) = said_by_four b d
said_in (a ∷ b ∷ c ∷ d ∷ e ∷ ws) = None

abbrev pub refusal_in : List (List ℕ) → Option Reply
refusal_in [] = None
refusal_in (a ∷ []) = Some Busy
refusal_in (a ∷ b ∷ []) = number_of b >>= λ now. Some (Late now)
refusal_in (a ∷ b ∷ c ∷ ws) = None

abbrev pub result_by_two : List ℕ → List ℕ → Option (Result LedgerTold LedgerTrouble)
result_by_two name word =
    if bytes_eq name (codes "now") then (number_of word >>= λ n. Some (Ok (told.Now n))) else
    if bytes_eq name (codes "sum") then (wide_of word >>= λ n. Some (Ok (told.Sum n))) else
    if bytes_eq word (codes "over") then Some (Err trouble.Over) else Some (Err trouble.Full)

-- what words say of the ledger
abbrev pub result_in : List (List ℕ) → Option (Result LedgerTold LedgerTrouble)
result_in [] = None
result_in (a ∷ []) = None
result_in (a ∷ b ∷ []) = result_by_two a b
result_in (a ∷ b ∷ c ∷ []) = number_of c >>= λ n. Some (Err (trouble.Short n))
result_in (a ∷ b ∷ c ∷ d ∷ ws) = None

unfoldable pub placed_in : List (List ℕ) → Option Answered
placed_in ws = do
  place ← number_at ws
  q ← question_at place.1
  said ← said_in q.1
  Some (record { caller = q.0.caller; index = q.0.index; query = q.0.query; reply = Placed place.0 said })

unfoldable pub refused_in : List (List ℕ) → Option Answered
refused_in ws = do
  q ← question_at ws
  reply ← refusal_in q.1
  Some (record { caller = q.0.caller; index = q.0.index; query = q.0.query; reply = reply })

unfoldable pub job_in : List (List ℕ) → Option Answered
job_in ws = do
  at ← number_at ws
  q ← question_at at.1
  result ← result_in q.1
  Some (record { caller = q.0.caller; index = q.0.index; query = q.0.query; reply = Job at.0 result })

-- the rest of a line, by its first word
unfoldable pub kind_in : List ℕ → List (List ℕ) → Option Answered
kind_in kind ws =
    if bytes_eq kind (codes "map") then placed_in ws else
    if bytes_eq kind (codes "ref") then refused_in ws else
    if bytes_eq kind (codes "job") then job_in ws else None

abbrev pub answered_in : List (List ℕ) → Option Answered
answered_in [] = None
answered_in (kind ∷ ws) = kind_in kind ws

-- the numbers of the second line
unfoldable pub tables_in : List (List ℕ) → Option (ℕ × ℕ × ℕ)
tables_in ws = do
  a ← name_at ws
  cells ← number_at a.1
  b ← name_at cells.1
  rows ← number_at b.1
  c ← name_at rows.1
  callers ← number_at c.1
  Some (cells.0, rows.0, callers.0)
