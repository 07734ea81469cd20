-- The plain maps: what they say to a query, and what maps the query leaves.
use Rattle.std.specs.Prelude.{ℕ, ◌+◌, ◌-◌, ◌^◌, ◌==◌, ◌&&◌, Bool, true, false, List, Some, None, if◌then◌else◌, nat_le, nat_lt, count_by, is_some, is_none, unwrap_or}
use Rattle.std.specs.declared.option.Option.{Option}
use Rattle.query_rules.specs.declared.query.Query.{Query}
use Rattle.query_rules.specs.declared.query.Query.TheVariants.{Get, Len, Put, Del, Add, Cas, PutLen, Move, Both, TryGet, TryPut, GetBy, PutBy, Give, Take, Audit}
use Rattle.query_rules.specs.declared.query.Said.{Said}
use Rattle.query_rules.specs.declared.query.Said.TheVariants.{Found, Absent, Count, New, Old, Full, Now, Over, Yes, No, NewCount, OldCount, Moved, Short, Same, Pair}

-- a finite map is what it says of each key, and how many keys it has
pub record PlainMap : Type 0 where
  pub value_at : ℕ → Option ℕ
  pub count : ℕ

-- a map for each cell
abbrev pub Maps : Type 0
Maps = ℕ → PlainMap

abbrev pub no_keys : PlainMap
no_keys = record { value_at = λ key. None; count = 0 }

-- the opening maps of a run: all empty
abbrev pub no_entries : Maps
no_entries cell = no_keys

-- the map with this value at the key
abbrev pub with_value : PlainMap → ℕ → ℕ → PlainMap
with_value m key value = record {
  value_at = λ k. if k == key then Some value else m.value_at k;
  count = if is_some (m.value_at key) then m.count else m.count + 1;
}

-- the map without the key
abbrev pub without : PlainMap → ℕ → PlainMap
without m key = record {
  value_at = λ k. if k == key then None else m.value_at k;
  count = if is_some (m.value_at key) then m.count - 1 else m.count;
}

-- the maps with this one in a cell
abbrev pub with_map : Maps → ℕ → PlainMap → Maps
with_map maps cell m = λ i. if i == cell then m else maps i

abbrev pub is_full : ℕ → PlainMap → Bool
is_full rows m = nat_le rows m.count

-- what a key has, where no value counts as 0
abbrev pub amount_at : PlainMap → ℕ → ℕ
amount_at m key = unwrap_or (m.value_at key) 0

abbrev pub exceeds_u64 : ℕ → Bool
exceeds_u64 n = nat_le (2 ^ 64) n

abbrev pub get_says : Option ℕ → Said
get_says (Some v) = Found v
get_says None = Absent

abbrev pub put_says : Option ℕ → Bool → Said
put_says (Some old) full = Old old
put_says None full = if full then Full else New

abbrev pub del_says : Option ℕ → Said
del_says (Some old) = Old old
del_says None = Absent

abbrev pub add_says : Option ℕ → Bool → ℕ → Said
add_says (Some v) full delta = if exceeds_u64 (v + delta) then Over else Now (v + delta)
add_says None full delta = if full then Full else Now delta

abbrev pub cas_says : Option ℕ → ℕ → Said
cas_says (Some v) old = if v == old then Yes else No v
cas_says None old = Absent

-- as a put says, with the number of keys afterwards
abbrev pub put_len_says : Option ℕ → Bool → ℕ → Said
put_len_says (Some old) full count = OldCount old count
put_len_says None full count = if full then Full else NewCount (count + 1)

abbrev pub move_says : ℕ → PlainMap → PlainMap → ℕ → ℕ → Said
move_says rows a b key n =
    if nat_lt (amount_at a key) n then Short (amount_at a key)
    else if exceeds_u64 (amount_at b key + n) then Over
    else if is_none (b.value_at key) && is_full rows b then Full
    else Moved

-- what maps with so many rows each say to a query; nothing where it is one for the ledger
abbrev pub reply_of : ℕ → Maps → Query → Option Said
reply_of rows maps (Get cell key) = Some (get_says ((maps cell).value_at key))
reply_of rows maps (Len cell) = Some (Count (maps cell).count)
reply_of rows maps (Put cell key value) = Some (put_says ((maps cell).value_at key) (is_full rows (maps cell)))
reply_of rows maps (Del cell key) = Some (del_says ((maps cell).value_at key))
reply_of rows maps (Add cell key delta) = Some (add_says ((maps cell).value_at key) (is_full rows (maps cell)) delta)
reply_of rows maps (Cas cell key old new) = Some (cas_says ((maps cell).value_at key) old)
reply_of rows maps (PutLen cell key value) = Some (put_len_says ((maps cell).value_at key) (is_full rows (maps cell)) (maps cell).count)
reply_of rows maps (Move a b key n) = Some (if a == b then Same else move_says rows (maps a) (maps b) key n)
reply_of rows maps (Both a b key) = Some (if a == b then Same else Pair ((maps a).value_at key) ((maps b).value_at key))
reply_of rows maps (TryGet cell key) = Some (get_says ((maps cell).value_at key))
reply_of rows maps (TryPut cell key value) = Some (put_says ((maps cell).value_at key) (is_full rows (maps cell)))
reply_of rows maps (GetBy cell key deadline) = Some (get_says ((maps cell).value_at key))
reply_of rows maps (PutBy cell key value deadline) = Some (put_says ((maps cell).value_at key) (is_full rows (maps cell)))
reply_of rows maps (Give key n) = None
reply_of rows maps (Take key n) = None
reply_of rows maps Audit = None

-- a reply that is a write
abbrev pub is_write : Said → Bool
is_write (Found v) = false
is_write Absent = false
is_write (Count n) = false
is_write New = true
is_write (Old v) = true
is_write Full = false
is_write (Now v) = true
is_write Over = false
is_write Yes = true
is_write (No v) = false
is_write (NewCount n) = true
is_write (OldCount v n) = true
is_write Moved = true
is_write (Short v) = false
is_write Same = false
is_write (Pair v w) = false

-- the queries that may change a map
abbrev pub may_write : Query → Bool
may_write (Get cell key) = false
may_write (Len cell) = false
may_write (Put cell key value) = true
may_write (Del cell key) = true
may_write (Add cell key delta) = true
may_write (Cas cell key old new) = true
may_write (PutLen cell key value) = true
may_write (Move from to key n) = true
may_write (Both first second key) = false
may_write (TryGet cell key) = false
may_write (TryPut cell key value) = true
may_write (GetBy cell key deadline) = false
may_write (PutBy cell key value deadline) = true
may_write (Give key n) = false
may_write (Take key n) = false
may_write Audit = false

-- how many of these may change a map
abbrev pub writes_of : List Query → ℕ
writes_of queries = count_by may_write queries

-- the first map of a move: a key that isn't there stays away
abbrev pub less : PlainMap → ℕ → ℕ → PlainMap
less m key n = if is_some (m.value_at key) then with_value m key (amount_at m key - n) else m

-- the maps after a query whose reply is a write
abbrev pub written : Maps → Query → Maps
written maps (Get cell key) = maps
written maps (Len cell) = maps
written maps (Put cell key value) = with_map maps cell (with_value (maps cell) key value)
written maps (Del cell key) = with_map maps cell (without (maps cell) key)
written maps (Add cell key delta) = with_map maps cell (with_value (maps cell) key (amount_at (maps cell) key + delta))
written maps (Cas cell key old new) = with_map maps cell (with_value (maps cell) key new)
written maps (PutLen cell key value) = with_map maps cell (with_value (maps cell) key value)
written maps (Move a b key n) = with_map (with_map maps a (less (maps a) key n)) b (with_value (maps b) key (amount_at (maps b) key + n))
written maps (Both a b key) = maps
written maps (TryGet cell key) = maps
written maps (TryPut cell key value) = with_map maps cell (with_value (maps cell) key value)
written maps (GetBy cell key deadline) = maps
written maps (PutBy cell key value deadline) = with_map maps cell (with_value (maps cell) key value)
written maps (Give key n) = maps
written maps (Take key n) = maps
written maps Audit = maps

-- a query that is told this leaves these maps: a reply that isn't a write leaves them as they were
abbrev pub after : Maps → Query → Said → Maps
after maps q said = if is_write said then written maps q else maps
