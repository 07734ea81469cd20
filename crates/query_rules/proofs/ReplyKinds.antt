-- What is said to a query is of the kind that its row allows.
use Rattle.std.proofs.Common.{◌≡◌, ℕ, ◌+◌, ◌==◌, ◌&&◌, Bool, true, false, cond, length, Option, Some, None, is_none, nat_lt, nat_le, refl, sym, ap, ◌∙◌}
use Rattle.query_rules.specs.declared.query.Query.{Query}
use Rattle.query_rules.specs.declared.query.Query.TheVariants as query
use Rattle.query_rules.specs.declared.query.Said.{Said}
use Rattle.query_rules.specs.declared.query.Said.TheVariants.{Full, New, Over, Now, Yes, No, NewCount, Same, Pair}
use Rattle.query_rules.specs.declared.query.LedgerAct.{LedgerAct}
use Rattle.query_rules.specs.Maps.{Maps, PlainMap, reply_of, amount_at, exceeds_u64, get_says, put_says, del_says, add_says, cas_says, put_len_says, move_says, is_full}
use Rattle.query_rules.specs.History.{has_said, has_result, is_value, is_put, is_del, is_add, is_cas, is_put_len, is_move, is_both, is_give, is_take}
use Rattle.query_rules.specs.Ledger.{Accounts, LedgerResult, given, taken, balance_at, act_of, result_of}

either : {A : Type 0} (test : A → Bool) (b : Bool) (x y : A) → test x ≡ true → test y ≡ true → test (cond b x y) ≡ true
either test true x y p q = p
either test false x y p q = q

get_kind : (o : Option ℕ) → is_value (get_says o) ≡ true
get_kind (Some v) = refl
get_kind None = refl

put_kind : (o : Option ℕ) (full : Bool) → is_put (put_says o full) ≡ true
put_kind (Some old) full = refl
put_kind None full = either is_put full Full New refl refl

del_kind : (o : Option ℕ) → is_del (del_says o) ≡ true
del_kind (Some old) = refl
del_kind None = refl

add_kind : (o : Option ℕ) (full : Bool) (delta : ℕ) → is_add (add_says o full delta) ≡ true
add_kind (Some v) full delta = either is_add (exceeds_u64 (v + delta)) Over (Now (v + delta)) refl refl
add_kind None full delta = either is_add full Full (Now delta) refl refl

cas_kind : (o : Option ℕ) (old : ℕ) → is_cas (cas_says o old) ≡ true
cas_kind (Some v) old = either is_cas (v == old) Yes (No v) refl refl
cas_kind None old = refl

put_len_kind : (o : Option ℕ) (full : Bool) (count : ℕ) → is_put_len (put_len_says o full count) ≡ true
put_len_kind (Some old) full count = refl
put_len_kind None full count = either is_put_len full Full (NewCount (count + 1)) refl refl

move_kind : (rows : ℕ) (a b : PlainMap) (key n : ℕ) → is_move (move_says rows a b key n) ≡ true
move_kind rows a b key n =
    either is_move (nat_lt (amount_at a key) n) _ _ refl (either is_move (exceeds_u64 (amount_at b key + n)) _ _ refl (either is_move (is_none (b.value_at key) && is_full rows b) _ _ refl refl))

same : (q : Query) (x said : Said) → has_said q x ≡ true → Some x ≡ Some said → has_said q said ≡ true
same q x said e is = let one : x ≡ said = cc in sym (ap (has_said q) one) ∙ e

-- of the maps
pub said_kind : (rows : ℕ) (maps : Maps) (q : Query) (said : Said) → reply_of rows maps q ≡ Some said → has_said q said ≡ true
said_kind rows maps (query.Get cell key) said e = same (query.Get cell key) _ said (get_kind ((maps cell).value_at key)) e
said_kind rows maps (query.Len cell) said e = same (query.Len cell) _ said refl e
said_kind rows maps (query.Put cell key value) said e = same (query.Put cell key value) _ said (put_kind ((maps cell).value_at key) (is_full rows (maps cell))) e
said_kind rows maps (query.Del cell key) said e = same (query.Del cell key) _ said (del_kind ((maps cell).value_at key)) e
said_kind rows maps (query.Add cell key delta) said e = same (query.Add cell key delta) _ said (add_kind ((maps cell).value_at key) (is_full rows (maps cell)) delta) e
said_kind rows maps (query.Cas cell key old new) said e = same (query.Cas cell key old new) _ said (cas_kind ((maps cell).value_at key) old) e
said_kind rows maps (query.PutLen cell key value) said e = same (query.PutLen cell key value) _ said (put_len_kind ((maps cell).value_at key) (is_full rows (maps cell)) (maps cell).count) e
said_kind rows maps (query.Move a b key n) said e = same (query.Move a b key n) _ said (either is_move (a == b) Same (move_says rows (maps a) (maps b) key n) refl (move_kind rows (maps a) (maps b) key n)) e
said_kind rows maps (query.Both a b key) said e = same (query.Both a b key) _ said (either is_both (a == b) Same (Pair ((maps a).value_at key) ((maps b).value_at key)) refl refl) e
said_kind rows maps (query.TryGet cell key) said e = same (query.TryGet cell key) _ said (get_kind ((maps cell).value_at key)) e
said_kind rows maps (query.TryPut cell key value) said e = same (query.TryPut cell key value) _ said (put_kind ((maps cell).value_at key) (is_full rows (maps cell))) e
said_kind rows maps (query.GetBy cell key deadline) said e = same (query.GetBy cell key deadline) _ said (get_kind ((maps cell).value_at key)) e
said_kind rows maps (query.PutBy cell key value deadline) said e = same (query.PutBy cell key value deadline) _ said (put_kind ((maps cell).value_at key) (is_full rows (maps cell))) e
said_kind rows maps (query.Give key n) said e = absurd (cc)
said_kind rows maps (query.Take key n) said e = absurd (cc)
said_kind rows maps query.Audit said e = absurd (cc)

give_kind : (rows : ℕ) (accounts : Accounts) (key n : ℕ) (o : Option ℕ) → is_give (given rows accounts key n o).0 ≡ true
give_kind rows accounts key n (Some w) = either (λ (p : LedgerResult × Accounts). is_give p.0) (exceeds_u64 (w + n)) _ _ refl refl
give_kind rows accounts key n None = either (λ (p : LedgerResult × Accounts). is_give p.0) (nat_le rows (length accounts)) _ _ refl refl

take_kind : (accounts : Accounts) (key n : ℕ) (o : Option ℕ) → is_take (taken accounts key n o).0 ≡ true
take_kind accounts key n (Some w) = either (λ (p : LedgerResult × Accounts). is_take p.0) (nat_lt w n) _ _ refl refl
take_kind accounts key n None = either (λ (p : LedgerResult × Accounts). is_take p.0) (nat_lt 0 n) _ _ refl refl

result_same : (q : Query) (rows : ℕ) (accounts : Accounts) (a act : LedgerAct) → has_result q (result_of rows accounts a) ≡ true → Some a ≡ Some act → has_result q (result_of rows accounts act) ≡ true
result_same q rows accounts a act e is = let one : a ≡ act = cc in sym (ap (λ x. has_result q (result_of rows accounts x)) one) ∙ e

-- of the ledger
pub result_kind : (rows : ℕ) (accounts : Accounts) (q : Query) (act : LedgerAct) → act_of q ≡ Some act → has_result q (result_of rows accounts act) ≡ true
result_kind rows accounts (query.Give key n) act e = result_same (query.Give key n) rows accounts _ act (give_kind rows accounts key n (balance_at accounts key)) e
result_kind rows accounts (query.Take key n) act e = result_same (query.Take key n) rows accounts _ act (take_kind accounts key n (balance_at accounts key)) e
result_kind rows accounts query.Audit act e = result_same query.Audit rows accounts _ act refl e
result_kind rows accounts _ act e = absurd (cc)
