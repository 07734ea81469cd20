-- The lines of a log in their order, and the text that they make.
use Rattle.std.specs.Prelude.{ℕ, Bool, List, [], ◌∷◌, ◌++◌, flat_map, count_by}
use Rattle.std.specs.Ordering.{nat_cmp, ordering_then}
use Rattle.std.specs.declared.cmp.Ordering.{Ordering}
use Rattle.std.specs.List.{AllByRecursion}
use Rattle.query_rules.specs.declared.query.Reply.{Reply}
use Rattle.query_rules.specs.declared.query.Reply.TheVariants.{Placed, Busy, Late, Job}
use Rattle.query_rules.specs.declared.query.Total.{Total}
use Rattle.query_rules.specs.declared.query.Total.TheVariants.{Queries, Writes, Reads, Refused, Jobs}
use Rattle.query_rules.specs.Numbers.{IsNumber, IsQuery, IsReply}
use Rattle.query_rules.specs.Log.{answer_words, answer_line, is_counted, head_text, totals_text, end_line}
use Rattle.log_reader.specs.declared.answered.Answered.{Answered}

-- each of a line's numbers is one of a machine
pub record IsWritable (a : Answered) : Type 0 where
  pub caller : IsNumber a.caller
  pub index : IsNumber a.index
  pub query : IsQuery a.query
  pub reply : IsReply a.reply

abbrev pub answered_words : Answered → List (List ℕ)
answered_words a = answer_words a.caller a.index a.query a.reply

unfoldable pub answered_line : Answered → List ℕ
answered_line a = answer_line a.caller a.index a.query a.reply

-- the order of lines: placed replies by place, then refusals, then jobs by position; each then by caller and index
abbrev pub section_of : Reply → ℕ
section_of (Placed place said) = 0
section_of Busy = 1
section_of (Late now) = 1
section_of (Job at result) = 2

abbrev pub key_of : Reply → ℕ
key_of (Placed place said) = place
key_of Busy = 0
key_of (Late now) = 0
key_of (Job at result) = at

abbrev pub line_cmp : Answered → Answered → Ordering
line_cmp a b = ordering_then (nat_cmp (section_of a.reply) (section_of b.reply)) (ordering_then (nat_cmp (key_of a.reply) (key_of b.reply)) (ordering_then (nat_cmp a.caller b.caller) (nat_cmp a.index b.index)))

-- what a log says, line by line
pub record Listing : Type 0 where
  pub cells : ℕ
  pub rows : ℕ
  pub callers : ℕ
  pub lines : List Answered

-- a total over lines
abbrev pub counts : Total → Answered → Bool
counts total a = is_counted total a.reply

abbrev pub lines_total : Total → List Answered → ℕ
lines_total total lines = count_by (counts total) lines

abbrev pub lines_totals : List Answered → List (Total × ℕ)
lines_totals lines =
    (Queries, lines_total Queries lines)
    ∷ (Writes, lines_total Writes lines)
    ∷ (Reads, lines_total Reads lines)
    ∷ (Refused, lines_total Refused lines)
    ∷ (Jobs, lines_total Jobs lines) ∷ []

unfoldable pub answers_text : List Answered → List ℕ
answers_text lines = flat_map answered_line lines

unfoldable pub tail_text : List Answered → List ℕ
tail_text lines = totals_text (lines_totals lines) ++ end_line

unfoldable pub listing_text : Listing → List ℕ
listing_text l = head_text l.cells l.rows l.callers ++ (answers_text l.lines ++ tail_text l.lines)

-- what has a text
pub record IsWritableListing (l : Listing) : Type 0 where
  pub cells : IsNumber l.cells
  pub rows : IsNumber l.rows
  pub callers : IsNumber l.callers
  pub lines : AllByRecursion IsWritable l.lines
