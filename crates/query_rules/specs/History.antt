-- One history of a script's queries: what is said to all of them is what one thread would say that changes plain maps, and one that keeps a plain ledger.
use Rattle.std.specs.Prelude.{◌≡◌, ℕ, ◌+◌, ◌*◌, ◌/◌, ◌%◌, ◌<◌, ◌≤◌, ◌==◌, Bool, true, false, IsTrue, IsFalse, List, [], ◌∷◌, ◌++◌, Some, Ok, Err, length, take, slice_get, zip, count_by, MatchBool, if◌then◌else◌}
use Rattle.std.specs.declared.result.Result.{Result}
use Rattle.std.specs.List.{AllByRecursion, AllZip}
use Rattle.query_rules.specs.declared.query.Query.{Query}
use Rattle.query_rules.specs.declared.query.Query.TheVariants.{Get, Len, Put, Del, Add, Cas, PutLen, Move, Both, TryGet, TryPut, GetBy, PutBy, Give, Take, Audit}
use Rattle.query_rules.specs.declared.query.Said.{Said}
use Rattle.query_rules.specs.declared.query.Said.TheVariants.{Found, Absent, Count, New, Old, Full, Now, Over, Yes, No, NewCount, OldCount, Moved, Short, Same, Pair}
use Rattle.query_rules.specs.declared.query.LedgerTold.{LedgerTold}
use Rattle.query_rules.specs.declared.query.LedgerTold.TheVariants as told
use Rattle.query_rules.specs.declared.query.LedgerTrouble.{LedgerTrouble}
use Rattle.query_rules.specs.declared.query.LedgerTrouble.TheVariants as trouble
use Rattle.query_rules.specs.declared.query.Reply.{Reply}
use Rattle.query_rules.specs.declared.query.Reply.TheVariants.{Placed, Busy, Late, Job}
use Rattle.query_rules.specs.Maps.{Maps, no_entries, reply_of, is_write, written}
use Rattle.query_rules.specs.Ledger.{no_accounts, IsLegalLedger}
use Rattle.query_rules.specs.Licence.{AllLicensed}

-- write number w stands at place 2w + 1, and a read after w writes at 2w
abbrev pub place_of : ℕ → Said → ℕ
place_of w said = if is_write said then 2 * w + 1 else 2 * w

-- the maps after these writes, the newest first
abbrev pub maps_after : Maps → List Query → Maps
maps_after opening [] = opening
maps_after opening (q ∷ older) = written (maps_after opening older) q

-- the maps after these writes, the oldest first
abbrev pub replay : Maps → List Query → Maps
replay opening [] = opening
replay opening (q ∷ later) = replay (written opening q) later

-- the maps after the first w of these writes
abbrev pub maps_at : Maps → List Query → ℕ → Maps
maps_at opening writes w = replay opening (take w writes)

-- queries with their replies, of all callers
abbrev pub entries : List (List Query) → List (List Reply) → List (Query × Reply)
entries [] told = []
entries (qs ∷ asked) [] = []
entries (qs ∷ asked) (rs ∷ told) = zip qs rs ++ entries asked told

-- a placed reply is the plain one on the maps of its place: at 2w + 1 it is write number w, and at 2w it follows w writes and is none
abbrev pub StandsAt : ℕ → Maps → List Query → Query × Reply → Type 0
StandsAt rows opening writes (q, Placed place said) =
    (reply_of rows (maps_at opening writes (place / 2)) q ≡ Some said)
    × MatchBool (place % 2 == 1)
    ((slice_get writes (place / 2) ≡ Some q) × IsTrue (is_write said))
    ((place / 2 ≤ length writes) × IsFalse (is_write said))
StandsAt rows opening writes (q, Busy) = Unit {0}
StandsAt rows opening writes (q, Late now) = Unit {0}
StandsAt rows opening writes (q, Job at result) = Unit {0}

-- an entry has the place of write w
abbrev pub is_write_at : ℕ → Query × Reply → Bool
is_write_at w (q, Placed place said) = place == 2 * w + 1
is_write_at w (q, Busy) = false
is_write_at w (q, Late now) = false
is_write_at w (q, Job at result) = false

-- there are writes, each an entry once, such that every placed entry stands where its place says
pub record IsLegal (rows : ℕ) (opening : Maps) (all : List (Query × Reply)) : Type 0 where
  pub writes : List Query
  pub stand : AllByRecursion (StandsAt rows opening writes) all
  pub once : (w : ℕ) → w < length writes → count_by (is_write_at w) all ≡ 1

-- a caller's later reply stands at no earlier place, and at a later one where one of the two is a write; its later job has a later position
abbrev pub Precedes : Reply → Reply → Type 0
Precedes (Placed place said) (Placed later told) = (place ≤ later) × (1 ≤ place % 2 + later % 2 → place < later)
Precedes (Placed place said) Busy = Unit {0}
Precedes (Placed place said) (Late now) = Unit {0}
Precedes (Placed place said) (Job at result) = Unit {0}
Precedes Busy reply = Unit {0}
Precedes (Late now) reply = Unit {0}
Precedes (Job at result) (Placed place said) = Unit {0}
Precedes (Job at result) Busy = Unit {0}
Precedes (Job at result) (Late now) = Unit {0}
Precedes (Job at result) (Job later more) = at < later

abbrev pub InOrder : List Reply → Type 0
InOrder [] = Unit {0}
InOrder (reply ∷ later) = AllByRecursion (Precedes reply) later × InOrder later

abbrev pub is_try : Query → Bool
is_try (TryGet cell key) = true
is_try (TryPut cell key value) = true
is_try _ = false

abbrev pub has_deadline : Query → Bool
has_deadline (GetBy cell key deadline) = true
has_deadline (PutBy cell key value deadline) = true
has_deadline _ = false

abbrev pub asks_ledger : Query → Bool
asks_ledger (Give key n) = true
asks_ledger (Take key n) = true
asks_ledger Audit = true
asks_ledger _ = false

-- what the maps may say to a query, by the form of what is said
abbrev pub is_value : Said → Bool
is_value (Found v) = true
is_value Absent = true
is_value _ = false

abbrev pub is_count : Said → Bool
is_count (Count n) = true
is_count _ = false

abbrev pub is_put : Said → Bool
is_put New = true
is_put (Old v) = true
is_put Full = true
is_put _ = false

abbrev pub is_del : Said → Bool
is_del (Old v) = true
is_del Absent = true
is_del _ = false

abbrev pub is_add : Said → Bool
is_add (Now v) = true
is_add Over = true
is_add Full = true
is_add _ = false

abbrev pub is_cas : Said → Bool
is_cas Yes = true
is_cas (No v) = true
is_cas Absent = true
is_cas _ = false

abbrev pub is_put_len : Said → Bool
is_put_len (NewCount n) = true
is_put_len (OldCount v n) = true
is_put_len Full = true
is_put_len _ = false

abbrev pub is_move : Said → Bool
is_move Moved = true
is_move (Short v) = true
is_move Over = true
is_move Full = true
is_move Same = true
is_move _ = false

abbrev pub is_both : Said → Bool
is_both (Pair v w) = true
is_both Same = true
is_both _ = false

abbrev pub has_said : Query → Said → Bool
has_said (Get cell key) said = is_value said
has_said (Len cell) said = is_count said
has_said (Put cell key value) said = is_put said
has_said (Del cell key) said = is_del said
has_said (Add cell key delta) said = is_add said
has_said (Cas cell key old new) said = is_cas said
has_said (PutLen cell key value) said = is_put_len said
has_said (Move from to key n) said = is_move said
has_said (Both first second key) said = is_both said
has_said (TryGet cell key) said = is_value said
has_said (TryPut cell key value) said = is_put said
has_said (GetBy cell key deadline) said = is_value said
has_said (PutBy cell key value deadline) said = is_put said
has_said (Give key n) said = false
has_said (Take key n) said = false
has_said Audit said = false

-- what the ledger may answer to a job
abbrev pub is_give : Result LedgerTold LedgerTrouble → Bool
is_give (Ok (told.Now n)) = true
is_give (Err trouble.Over) = true
is_give (Err trouble.Full) = true
is_give _ = false

abbrev pub is_take : Result LedgerTold LedgerTrouble → Bool
is_take (Ok (told.Now n)) = true
is_take (Err (trouble.Short n)) = true
is_take _ = false

abbrev pub is_audit : Result LedgerTold LedgerTrouble → Bool
is_audit (Ok (told.Sum n)) = true
is_audit _ = false

abbrev pub has_result : Query → Result LedgerTold LedgerTrouble → Bool
has_result (Give key n) result = is_give result
has_result (Take key n) result = is_take result
has_result Audit result = is_audit result
has_result _ result = false

-- a reply of a kind that the query may get
abbrev pub IsKindFor : Query → Reply → Type 0
IsKindFor q (Placed place said) = IsTrue (has_said q said)
IsKindFor q Busy = IsTrue (is_try q)
IsKindFor q (Late now) = IsTrue (has_deadline q)
IsKindFor q (Job at result) = IsTrue (has_result q result)

-- each of a caller's queries has its one reply, in the caller's order
pub record AnswersEachOnce (queries : List Query) (replies : List Reply) : Type 0 where
  pub each : AllZip IsKindFor queries replies
  pub order : InOrder replies

-- one history of what these callers ask; a reply without a place stands only where another caller's queries allow it
pub record IsHistory (rows : ℕ) (callers : List (List Query)) (told : List (List Reply)) : Type 0 where
  pub once : AllZip AnswersEachOnce callers told
  pub legal : IsLegal rows no_entries (entries callers told)
  pub ledger : IsLegalLedger rows no_accounts (entries callers told)
  pub licensed : AllLicensed callers 0 callers told
