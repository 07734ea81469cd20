-- The names of the queries and their numbers. One table serves both ways: a script is read by it, and a log is written by it.
use Rattle.std.specs.Prelude.{ℕ, List, [], ◌∷◌, Some, None, codes, decimal, map, bytes_eq, if◌then◌else◌, slice_index}
use Rattle.std.specs.declared.option.Option.{Option}
use Rattle.query_rules.specs.declared.query.Query.{Query}
use Rattle.query_rules.specs.declared.query.Query.TheVariants as query
use Rattle.query_rules.specs.declared.verb.Verb.{Verb}
use Rattle.query_rules.specs.declared.verb.Verb.TheVariants.{Get, Len, Put, Del, Add, Cas, PutLen, Move, Both, TryGet, TryPut, GetBy, PutBy, Give, Take, Audit}

abbrev pub verb_word : Verb → List ℕ
verb_word Get = codes "get"
verb_word Len = codes "len"
verb_word Put = codes "put"
verb_word Del = codes "del"
verb_word Add = codes "add"
verb_word Cas = codes "cas"
verb_word PutLen = codes "putlen"
verb_word Move = codes "move"
verb_word Both = codes "both"
verb_word TryGet = codes "tryget"
verb_word TryPut = codes "tryput"
verb_word GetBy = codes "getby"
verb_word PutBy = codes "putby"
verb_word Give = codes "give"
verb_word Take = codes "take"
verb_word Audit = codes "audit"

-- the verb of this name
abbrev pub verb_named : List ℕ → Option Verb
verb_named word =
    if bytes_eq word (codes "get") then Some Get else
    if bytes_eq word (codes "len") then Some Len else
    if bytes_eq word (codes "put") then Some Put else
    if bytes_eq word (codes "del") then Some Del else
    if bytes_eq word (codes "add") then Some Add else
    if bytes_eq word (codes "cas") then Some Cas else
    if bytes_eq word (codes "putlen") then Some PutLen else
    if bytes_eq word (codes "move") then Some Move else
    if bytes_eq word (codes "both") then Some Both else
    if bytes_eq word (codes "tryget") then Some TryGet else
    if bytes_eq word (codes "tryput") then Some TryPut else
    if bytes_eq word (codes "getby") then Some GetBy else
    if bytes_eq word (codes "putby") then Some PutBy else
    if bytes_eq word (codes "give") then Some Give else
    if bytes_eq word (codes "take") then Some Take else
    if bytes_eq word (codes "audit") then Some Audit else None

-- how many numbers follow the name
abbrev pub arity : Verb → ℕ
arity Get = 2
arity Len = 1
arity Put = 3
arity Del = 2
arity Add = 3
arity Cas = 4
arity PutLen = 3
arity Move = 4
arity Both = 3
arity TryGet = 2
arity TryPut = 3
arity GetBy = 3
arity PutBy = 4
arity Give = 2
arity Take = 2
arity Audit = 0

-- how many of them, at the front, are cells
abbrev pub cells_in : Verb → ℕ
cells_in Get = 1
cells_in Len = 1
cells_in Put = 1
cells_in Del = 1
cells_in Add = 1
cells_in Cas = 1
cells_in PutLen = 1
cells_in Move = 2
cells_in Both = 2
cells_in TryGet = 1
cells_in TryPut = 1
cells_in GetBy = 1
cells_in PutBy = 1
cells_in Give = 0
cells_in Take = 0
cells_in Audit = 0

-- the query with these numbers
abbrev pub query_of : Verb → List ℕ → Query
query_of Get ns = query.Get (slice_index ns 0) (slice_index ns 1)
query_of Len ns = query.Len (slice_index ns 0)
query_of Put ns = query.Put (slice_index ns 0) (slice_index ns 1) (slice_index ns 2)
query_of Del ns = query.Del (slice_index ns 0) (slice_index ns 1)
query_of Add ns = query.Add (slice_index ns 0) (slice_index ns 1) (slice_index ns 2)
query_of Cas ns = query.Cas (slice_index ns 0) (slice_index ns 1) (slice_index ns 2) (slice_index ns 3)
query_of PutLen ns = query.PutLen (slice_index ns 0) (slice_index ns 1) (slice_index ns 2)
query_of Move ns = query.Move (slice_index ns 0) (slice_index ns 1) (slice_index ns 2) (slice_index ns 3)
query_of Both ns = query.Both (slice_index ns 0) (slice_index ns 1) (slice_index ns 2)
query_of TryGet ns = query.TryGet (slice_index ns 0) (slice_index ns 1)
query_of TryPut ns = query.TryPut (slice_index ns 0) (slice_index ns 1) (slice_index ns 2)
query_of GetBy ns = query.GetBy (slice_index ns 0) (slice_index ns 1) (slice_index ns 2)
query_of PutBy ns = query.PutBy (slice_index ns 0) (slice_index ns 1) (slice_index ns 2) (slice_index ns 3)
query_of Give ns = query.Give (slice_index ns 0) (slice_index ns 1)
query_of Take ns = query.Take (slice_index ns 0) (slice_index ns 1)
query_of Audit ns = query.Audit

abbrev pub verb_of : Query → Verb
verb_of (query.Get cell key) = Get
verb_of (query.Len cell) = Len
verb_of (query.Put cell key value) = Put
verb_of (query.Del cell key) = Del
verb_of (query.Add cell key delta) = Add
verb_of (query.Cas cell key old new) = Cas
verb_of (query.PutLen cell key value) = PutLen
verb_of (query.Move from to key n) = Move
verb_of (query.Both first second key) = Both
verb_of (query.TryGet cell key) = TryGet
verb_of (query.TryPut cell key value) = TryPut
verb_of (query.GetBy cell key deadline) = GetBy
verb_of (query.PutBy cell key value deadline) = PutBy
verb_of (query.Give key n) = Give
verb_of (query.Take key n) = Take
verb_of query.Audit = Audit

-- a query's numbers, in the order in which they are written
abbrev pub numbers_of : Query → List ℕ
numbers_of (query.Get cell key) = cell ∷ key ∷ []
numbers_of (query.Len cell) = cell ∷ []
numbers_of (query.Put cell key value) = cell ∷ key ∷ value ∷ []
numbers_of (query.Del cell key) = cell ∷ key ∷ []
numbers_of (query.Add cell key delta) = cell ∷ key ∷ delta ∷ []
numbers_of (query.Cas cell key old new) = cell ∷ key ∷ old ∷ new ∷ []
numbers_of (query.PutLen cell key value) = cell ∷ key ∷ value ∷ []
numbers_of (query.Move from to key n) = from ∷ to ∷ key ∷ n ∷ []
numbers_of (query.Both first second key) = first ∷ second ∷ key ∷ []
numbers_of (query.TryGet cell key) = cell ∷ key ∷ []
numbers_of (query.TryPut cell key value) = cell ∷ key ∷ value ∷ []
numbers_of (query.GetBy cell key deadline) = cell ∷ key ∷ deadline ∷ []
numbers_of (query.PutBy cell key value deadline) = cell ∷ key ∷ value ∷ deadline ∷ []
numbers_of (query.Give key n) = key ∷ n ∷ []
numbers_of (query.Take key n) = key ∷ n ∷ []
numbers_of query.Audit = []

-- the words of a query
abbrev pub query_words : Query → List (List ℕ)
query_words q = verb_word (verb_of q) ∷ map decimal (numbers_of q)
