-- When a reply without a place may stand: where another caller has a query for the same cell.
use Rattle.std.specs.Prelude.{◌≡◌, ◌≢◌, ℕ, ◌+◌, ◌≤◌, ◌==◌, ◌&&◌, Bool, true, false, IsTrue, List, [], ◌∷◌, Some, if◌then◌else◌, get_or, slice_get}
use Rattle.std.specs.List.{AllZip, list_any}
use Rattle.query_rules.specs.declared.query.Query.{Query}
use Rattle.query_rules.specs.declared.query.Query.TheVariants.{Get, Len, Put, Del, Add, Cas, PutLen, Move, Both, TryGet, TryPut, GetBy, PutBy, Give, Take, Audit}
use Rattle.query_rules.specs.declared.query.Reply.{Reply}
use Rattle.query_rules.specs.declared.query.Reply.TheVariants.{Placed, Busy, Late, Job}

-- the cells that a query takes: none where its two cells are one, and none for the ledger
abbrev pub taken_cells : Query → List ℕ
taken_cells (Get cell key) = cell ∷ []
taken_cells (Len cell) = cell ∷ []
taken_cells (Put cell key value) = cell ∷ []
taken_cells (Del cell key) = cell ∷ []
taken_cells (Add cell key delta) = cell ∷ []
taken_cells (Cas cell key old new) = cell ∷ []
taken_cells (PutLen cell key value) = cell ∷ []
taken_cells (Move a b key n) = if a == b then [] else a ∷ b ∷ []
taken_cells (Both a b key) = if a == b then [] else a ∷ b ∷ []
taken_cells (TryGet cell key) = cell ∷ []
taken_cells (TryPut cell key value) = cell ∷ []
taken_cells (GetBy cell key deadline) = cell ∷ []
taken_cells (PutBy cell key value deadline) = cell ∷ []
taken_cells (Give key n) = []
taken_cells (Take key n) = []
taken_cells Audit = []

-- a query that takes its cells for writing, or so that it may come to write, whatever it is told
abbrev pub is_strong : Query → Bool
is_strong (Get cell key) = false
is_strong (Len cell) = false
is_strong (Put cell key value) = true
is_strong (Del cell key) = true
is_strong (Add cell key delta) = true
is_strong (Cas cell key old new) = true
is_strong (PutLen cell key value) = true
is_strong (Move from to key n) = true
is_strong (Both first second key) = false
is_strong (TryGet cell key) = false
is_strong (TryPut cell key value) = true
is_strong (GetBy cell key deadline) = false
is_strong (PutBy cell key value deadline) = true
is_strong (Give key n) = false
is_strong (Take key n) = false
is_strong Audit = false

abbrev pub takes : ℕ → Query → Bool
takes cell q = list_any (λ c. c == cell) (taken_cells q)

abbrev pub takes_strongly : ℕ → Query → Bool
takes_strongly cell q = is_strong q && takes cell q

-- the list of another caller has a query of this sort
pub record AnotherAsks (sort : Query → Bool) (callers : List (List Query)) (caller : ℕ) : Type 0 where
  pub other : ℕ
  pub differs : other ≢ caller
  pub index : ℕ
  pub query : Query
  pub asks : slice_get (get_or callers other []) index ≡ Some query
  pub such : IsTrue (sort query)

-- a query may find its cell busy: a read where another caller may come to write, and a write where another caller comes at all
abbrev pub MayBeBusy : List (List Query) → ℕ → Query → Type 0
MayBeBusy callers caller (TryGet cell key) = AnotherAsks (takes_strongly cell) callers caller
MayBeBusy callers caller (TryPut cell key value) = AnotherAsks (takes cell) callers caller
MayBeBusy callers caller _ = ⊥

-- a query may be late at this answer of the clock: its deadline has come, and another caller comes to its cell
abbrev pub MayBeLate : List (List Query) → ℕ → ℕ → Query → Type 0
MayBeLate callers caller now (GetBy cell key deadline) = (deadline ≤ now) × AnotherAsks (takes cell) callers caller
MayBeLate callers caller now (PutBy cell key value deadline) = (deadline ≤ now) × AnotherAsks (takes cell) callers caller
MayBeLate callers caller now _ = ⊥

-- the reply may be given to this query of a caller
abbrev pub IsLicensed : List (List Query) → ℕ → Query → Reply → Type 0
IsLicensed callers caller q (Placed place said) = Unit {0}
IsLicensed callers caller q Busy = MayBeBusy callers caller q
IsLicensed callers caller q (Late now) = MayBeLate callers caller now q
IsLicensed callers caller q (Job at result) = Unit {0}

-- the replies to the queries of the callers from this number on
abbrev pub AllLicensed : List (List Query) → ℕ → List (List Query) → List (List Reply) → Type 0
AllLicensed callers caller [] told = Unit {0}
AllLicensed callers caller (queries ∷ asked) [] = Unit {0}
AllLicensed callers caller (queries ∷ asked) (replies ∷ told) =
    AllZip (IsLicensed callers caller) queries replies × AllLicensed callers (caller + 1) asked told
