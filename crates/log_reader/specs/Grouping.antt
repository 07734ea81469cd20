-- Lines by caller and index, put together again as lists.
use Rattle.std.specs.Prelude.{ℕ, ◌+◌, ◌*◌, ◌^◌, ◌==◌, ◌&&◌, Bool, zero, suc, List, [], ◌∷◌, if◌then◌else◌}
use Rattle.query_rules.specs.declared.query.Query.{Query}
use Rattle.query_rules.specs.declared.query.Reply.{Reply}
use Rattle.log_reader.specs.declared.answered.Answered.{Answered}

pub record Front : Type 0 where
  pub queries : List Query
  pub replies : List Reply
  pub rest : List Answered

abbrev pub none_of : List Answered → Front
none_of lines = record { queries = []; replies = []; rest = lines }

abbrev pub one_more : Answered → Front → Front
one_more a f = record { queries = a.query ∷ f.queries; replies = a.reply ∷ f.replies; rest = f.rest }

abbrev pub is_next : ℕ → ℕ → Answered → Bool
is_next caller index a = a.caller == caller && a.index == index

-- the lines at the front that are one caller's, from this index on
unfoldable pub front_of : ℕ → ℕ → List Answered → Front
front_of caller index [] = none_of []
front_of caller index (a ∷ lines) = if is_next caller index a then one_more a (front_of caller (index + 1) lines) else none_of (a ∷ lines)

pub record Groups : Type 0 where
  pub asked : List (List Query)
  pub told : List (List Reply)
  pub rest : List Answered

abbrev pub one_group : Front → Groups → Groups
one_group f g = record { asked = f.queries ∷ g.asked; told = f.replies ∷ g.told; rest = g.rest }

-- so many callers, from this one on
unfoldable pub groups_of : ℕ → ℕ → List Answered → Groups
groups_of zero caller lines = record { asked = []; told = []; rest = lines }
groups_of (suc k) caller lines = one_group (front_of caller 0 lines) (groups_of k (caller + 1) (front_of caller 0 lines).rest)

-- by this number lines are in the order of callers and indexes
abbrev pub slot : Answered → ℕ
slot a = a.caller * 2 ^ 64 + a.index
