-- What the text of a log is, line by line.
use Rattle.std.specs.Prelude.{◌≡◌, ℕ, ◌+◌, Bool, true, ◌&&◌, nat_lt, nat_le, List, [], ◌∷◌, ◌++◌, length, IsPermutation, IsSorted}
use Rattle.std.specs.List.{list_all}
use Rattle.query_rules.specs.declared.query.Query.{Query}
use Rattle.query_rules.specs.declared.query.Reply.{Reply}
use Rattle.query_rules.specs.declared.query.Reply.TheVariants.{Placed, Busy, Late, Job}
use Rattle.query_rules.specs.declared.query.TheConstants.{MOST_CALLERS, MOST_CELLS, MOST_QUERIES}
use Rattle.query_rules.specs.Grammar.{Asked, cells_of}
use Rattle.query_rules.specs.History.{has_said, is_try, has_deadline, has_result}
use Rattle.log_reader.specs.declared.answered.Answered.{Answered}
use Rattle.log_reader.specs.Listing.{Listing, IsWritableListing, listing_text, line_cmp}

-- the query's cells are below this
abbrev pub takes_below : ℕ → Query → Bool
takes_below cells q = list_all (λ c. nat_lt c cells) (cells_of q)

-- the reply is of a kind that the query may get
abbrev pub has_reply : Query → Reply → Bool
has_reply q (Placed place said) = has_said q said
has_reply q Busy = is_try q
has_reply q (Late now) = has_deadline q
has_reply q (Job at result) = has_result q result

-- one caller's queries and replies, from this index on
abbrev pub answered_from : ℕ → ℕ → List Query → List Reply → List Answered
answered_from caller index [] rs = []
answered_from caller index (q ∷ qs) [] = []
answered_from caller index (q ∷ qs) (r ∷ rs) = record { caller = caller; index = index; query = q; reply = r } ∷ answered_from caller (index + 1) qs rs

-- all queries and replies, from this caller on
abbrev pub answered_of : ℕ → List (List Query) → List (List Reply) → List Answered
answered_of caller [] told = []
answered_of caller (qs ∷ asked) [] = []
answered_of caller (qs ∷ asked) (rs ∷ told) = answered_from caller 0 qs rs ++ answered_of (caller + 1) asked told

-- one reply to each query
abbrev pub IsPaired : List (List Query) → List (List Reply) → Type 0
IsPaired [] [] = Unit {0}
IsPaired [] (rs ∷ told) = ⊥
IsPaired (qs ∷ asked) [] = ⊥
IsPaired (qs ∷ asked) (rs ∷ told) = (length qs ≡ length rs) × IsPaired asked told

-- these are the lines of the script's queries and their replies, each once, in their order
pub record IsLinesOf (s : Asked) (told : List (List Reply)) (lines : List Answered) : Type 0 where
  pub paired : IsPaired s.callers told
  pub each : IsPermutation (answered_of 0 s.callers told) lines
  pub sorted : IsSorted line_cmp lines

-- its cells are some of these, and its reply is of a kind that its query has
abbrev pub is_answer : ℕ → Answered → Bool
is_answer cells a = takes_below cells a.query && has_reply a.query a.reply

-- the limits of a script, and each line's
abbrev pub is_log : Listing → Bool
is_log l = nat_lt 0 l.cells && nat_le l.cells MOST_CELLS && nat_le l.callers MOST_CALLERS && nat_le (length l.lines) MOST_QUERIES && list_all (is_answer l.cells) l.lines

-- what a log's lines must meet
pub record IsLog (l : Listing) : Type 0 where
  pub writable : IsWritableListing l
  pub fits : is_log l ≡ true

abbrev pub listing : Asked → ℕ → List Answered → Listing
listing s rows lines = record { cells = s.cells; rows = rows; callers = length s.callers; lines = lines }

-- the text of a script with so many rows and of these replies
pub record IsLogText (s : Asked) (rows : ℕ) (told : List (List Reply)) (text : List ℕ) : Type 0 where
  pub lines : List Answered
  pub of : IsLinesOf s told lines
  pub log : IsLog (listing s rows lines)
  pub text_is : text ≡ listing_text (listing s rows lines)
