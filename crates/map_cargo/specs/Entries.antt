-- Entries of the history: which cells a query names, and the words of a log row.
use Rattle.std.specs.Prelude.{ℕ, ◌+◌, ◌==◌, if◌then◌else◌, List, [], ◌∷◌, map}
use Rattle.query_rules.specs.declared.query.Query.{Query}
use Rattle.query_rules.specs.declared.query.Query.TheVariants.{Get, Len, Put, Del, Add, Cas, PutLen, Move, Both, TryGet, TryPut, GetBy, PutBy, Give, Take, Audit}
use Rattle.query_rules.specs.declared.query.Reply.{Reply}
use Rattle.query_rules.specs.declared.query.Reply.TheVariants.{Placed}
use Rattle.query_rules.specs.History.{place_of}
use Rattle.map_cargo.specs.declared.entry.Entry.{Entry}
use Rattle.map_cargo.specs.declared.entry.Told.{Told}
use Rattle.map_cargo.specs.declared.entry.Told.TheVariants.{Wrote, Read, Refused}

-- the cells that a query names
abbrev pub named_cells : Query → List ℕ
named_cells (Get cell key) = cell ∷ []
named_cells (Len cell) = cell ∷ []
named_cells (Put cell key value) = cell ∷ []
named_cells (Del cell key) = cell ∷ []
named_cells (Add cell key delta) = cell ∷ []
named_cells (Cas cell key old new) = cell ∷ []
named_cells (PutLen cell key value) = cell ∷ []
named_cells (Move a b key n) = a ∷ b ∷ []
named_cells (Both a b key) = a ∷ b ∷ []
named_cells (TryGet cell key) = cell ∷ []
named_cells (TryPut cell key value) = cell ∷ []
named_cells (GetBy cell key deadline) = cell ∷ []
named_cells (PutBy cell key value deadline) = cell ∷ []
named_cells (Give key n) = []
named_cells (Take key n) = []
named_cells Audit = []

-- the cells that a reply speaks of: that two cells are the same one is said without a look at it
abbrev pub spoken_cells : Query → List ℕ
spoken_cells (Get cell key) = cell ∷ []
spoken_cells (Len cell) = cell ∷ []
spoken_cells (Put cell key value) = cell ∷ []
spoken_cells (Del cell key) = cell ∷ []
spoken_cells (Add cell key delta) = cell ∷ []
spoken_cells (Cas cell key old new) = cell ∷ []
spoken_cells (PutLen cell key value) = cell ∷ []
spoken_cells (Move a b key n) = if a == b then [] else a ∷ b ∷ []
spoken_cells (Both a b key) = if a == b then [] else a ∷ b ∷ []
spoken_cells (TryGet cell key) = cell ∷ []
spoken_cells (TryPut cell key value) = cell ∷ []
spoken_cells (GetBy cell key deadline) = cell ∷ []
spoken_cells (PutBy cell key value deadline) = cell ∷ []
spoken_cells (Give key n) = []
spoken_cells (Take key n) = []
spoken_cells Audit = []

-- the words of a log row that a query gives: its code, cell, second cell, key and two numbers
abbrev pub query_words : Query → List ℕ
query_words (Get cell key) = 0 ∷ 0 ∷ 0 ∷ 0 ∷ 0 ∷ 0 ∷ []
query_words (Len cell) = 0 ∷ 0 ∷ 0 ∷ 0 ∷ 0 ∷ 0 ∷ []
query_words (Put cell key value) = 1 ∷ cell ∷ 0 ∷ key ∷ value ∷ 0 ∷ []
query_words (Del cell key) = 2 ∷ cell ∷ 0 ∷ key ∷ 0 ∷ 0 ∷ []
query_words (Add cell key delta) = 3 ∷ cell ∷ 0 ∷ key ∷ delta ∷ 0 ∷ []
query_words (Cas cell key old new) = 4 ∷ cell ∷ 0 ∷ key ∷ old ∷ new ∷ []
query_words (PutLen cell key value) = 5 ∷ cell ∷ 0 ∷ key ∷ value ∷ 0 ∷ []
query_words (Move a b key n) = 6 ∷ a ∷ b ∷ key ∷ n ∷ 0 ∷ []
query_words (Both a b key) = 0 ∷ 0 ∷ 0 ∷ 0 ∷ 0 ∷ 0 ∷ []
query_words (TryGet cell key) = 0 ∷ 0 ∷ 0 ∷ 0 ∷ 0 ∷ 0 ∷ []
query_words (TryPut cell key value) = 7 ∷ cell ∷ 0 ∷ key ∷ value ∷ 0 ∷ []
query_words (GetBy cell key deadline) = 0 ∷ 0 ∷ 0 ∷ 0 ∷ 0 ∷ 0 ∷ []
query_words (PutBy cell key value deadline) = 8 ∷ cell ∷ 0 ∷ key ∷ value ∷ deadline ∷ []
query_words (Give key n) = 0 ∷ 0 ∷ 0 ∷ 0 ∷ 0 ∷ 0 ∷ []
query_words (Take key n) = 0 ∷ 0 ∷ 0 ∷ 0 ∷ 0 ∷ 0 ∷ []
query_words Audit = 0 ∷ 0 ∷ 0 ∷ 0 ∷ 0 ∷ 0 ∷ []

-- the eight words of an entry's log row
abbrev pub log_words : Entry → List ℕ
log_words e = (e.caller + 1) ∷ e.index ∷ query_words e.query

abbrev pub queries : List Entry → List Query
queries = map (λ (e : Entry). e.query)

-- a reply with its place, as a history has it, or one that has none
abbrev pub as_reply : Told → Query × Reply
as_reply (Wrote w e) = (e.query, Placed (place_of w e.said) e.said)
as_reply (Read w e) = (e.query, Placed (place_of w e.said) e.said)
as_reply (Refused caller index query reply) = (query, reply)
