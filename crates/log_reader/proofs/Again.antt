-- A line's words are read again.
use Rattle.std.proofs.Common.{◌≡◌, ℕ, ◌<◌, ◌≤◌, false, List, [], ◌∷◌, ◌++◌, length, map, take, drop, decimal, codes, Option, Some, None, Result, Ok, Err, zero, suc, refl, ap, nat_lt, ◌∙◌, length-append, arith, rules, option_map}
use Rattle.std.specs.List.{AllByRecursion}
use Rattle.query_rules.specs.declared.query.Query.{Query}
use Rattle.query_rules.specs.declared.query.Query.TheVariants as query
use Rattle.query_rules.specs.declared.query.Said.{Said}
use Rattle.query_rules.specs.declared.query.Said.TheVariants as said
use Rattle.query_rules.specs.declared.query.LedgerTold.{LedgerTold}
use Rattle.query_rules.specs.declared.query.LedgerTold.TheVariants as told
use Rattle.query_rules.specs.declared.query.LedgerTrouble.{LedgerTrouble}
use Rattle.query_rules.specs.declared.query.LedgerTrouble.TheVariants as trouble
use Rattle.query_rules.specs.declared.query.Reply.{Reply}
use Rattle.query_rules.specs.declared.query.Reply.TheVariants.{Placed, Busy, Late, Job}
use Rattle.query_rules.specs.declared.verb.Verb.{Verb}
use Rattle.query_rules.specs.declared.verb.Verb.TheVariants.{Get, Len, Put, Del, Add, Cas, PutLen, Move, Both, TryGet, TryPut, GetBy, PutBy, Give, Take, Audit}
use Rattle.query_rules.specs.Words.{number_of}
use Rattle.query_rules.specs.Verbs.{verb_word, verb_named, verb_of, numbers_of, arity, query_of, query_words}
use Rattle.query_rules.specs.Grammar.{numbers_in}
use Rattle.query_rules.specs.Log.{found_words, said_words, ledger_words, reply_words, place_words, answer_words}
use Rattle.query_rules.proofs.Spelled.{number_again}
use Rattle.log_reader.specs.declared.answered.Answered.{Answered}
use Rattle.log_reader.specs.declared.read_words.Question.{Question}
use Rattle.query_rules.specs.Numbers.{IsNumber, IsFound, IsSaid, IsResult, IsReply, IsQuery}
use Rattle.log_reader.specs.Listing.{IsWritable, answered_words}
use Rattle.log_reader.specs.Reading.{◌>>=◌, name_at, number_at, numbers_at, query_at, question_at, said_named, said_with, said_in, refusal_in, result_in, placed_in, refused_in, job_in, kind_in, answered_in, tables_in}
use Rattle.log_reader.proofs.WideNumbers.{wide_again}
use Rattle.log_reader.proofs.Clean.{Clean, IsForm, clean_number, clean_numbers, clean_wide, clean_if, all_append}

pub number_at_again : (n : ℕ) (ws : List (List ℕ)) → IsNumber n → number_at (decimal n ∷ ws) ≡ Some (n, ws)
number_at_again n ws small = ap (option_map (λ m. (m, ws))) (number_again n small)

pub numbers_again : (ns : List ℕ) → AllByRecursion IsNumber ns → numbers_in (map decimal ns) ≡ Some ns
numbers_again [] all = refl
numbers_again (n ∷ ns) all =
    ap (λ (r : Option ℕ). elim r [ Some m ↦ option_map (λ ms. m ∷ ms) (numbers_in (map decimal ns)) | None ↦ None ]) (number_again n all.0)
    ∙ ap (option_map (λ ms. n ∷ ms)) (numbers_again ns all.1)

-- the table of the queries: one line of `refl` for each
table_verb : (v : Verb) → verb_named (verb_word v) ≡ Some v
table_verb Get = refl
table_verb Len = refl
table_verb Put = refl
table_verb Del = refl
table_verb Add = refl
table_verb Cas = refl
table_verb PutLen = refl
table_verb Move = refl
table_verb Both = refl
table_verb TryGet = refl
table_verb TryPut = refl
table_verb GetBy = refl
table_verb PutBy = refl
table_verb Give = refl
table_verb Take = refl
table_verb Audit = refl

clean_verb : (v : Verb) → Clean (verb_word v)
clean_verb Get = clean_if (codes "get") refl
clean_verb Len = clean_if (codes "len") refl
clean_verb Put = clean_if (codes "put") refl
clean_verb Del = clean_if (codes "del") refl
clean_verb Add = clean_if (codes "add") refl
clean_verb Cas = clean_if (codes "cas") refl
clean_verb PutLen = clean_if (codes "putlen") refl
clean_verb Move = clean_if (codes "move") refl
clean_verb Both = clean_if (codes "both") refl
clean_verb TryGet = clean_if (codes "tryget") refl
clean_verb TryPut = clean_if (codes "tryput") refl
clean_verb GetBy = clean_if (codes "getby") refl
clean_verb PutBy = clean_if (codes "putby") refl
clean_verb Give = clean_if (codes "give") refl
clean_verb Take = clean_if (codes "take") refl
clean_verb Audit = clean_if (codes "audit") refl

table_arity : (q : Query) → length (map decimal (numbers_of q)) ≡ arity (verb_of q)
table_arity (query.Get cell key) = refl
table_arity (query.Len cell) = refl
table_arity (query.Put cell key value) = refl
table_arity (query.Del cell key) = refl
table_arity (query.Add cell key delta) = refl
table_arity (query.Cas cell key old new) = refl
table_arity (query.PutLen cell key value) = refl
table_arity (query.Move from to key n) = refl
table_arity (query.Both first second key) = refl
table_arity (query.TryGet cell key) = refl
table_arity (query.TryPut cell key value) = refl
table_arity (query.GetBy cell key deadline) = refl
table_arity (query.PutBy cell key value deadline) = refl
table_arity (query.Give key n) = refl
table_arity (query.Take key n) = refl
table_arity query.Audit = refl

table_query : (q : Query) → query_of (verb_of q) (numbers_of q) ≡ q
table_query (query.Get cell key) = refl
table_query (query.Len cell) = refl
table_query (query.Put cell key value) = refl
table_query (query.Del cell key) = refl
table_query (query.Add cell key delta) = refl
table_query (query.Cas cell key old new) = refl
table_query (query.PutLen cell key value) = refl
table_query (query.Move from to key n) = refl
table_query (query.Both first second key) = refl
table_query (query.TryGet cell key) = refl
table_query (query.TryPut cell key value) = refl
table_query (query.GetBy cell key deadline) = refl
table_query (query.PutBy cell key value deadline) = refl
table_query (query.Give key n) = refl
table_query (query.Take key n) = refl
table_query query.Audit = refl

few_numbers : (v : Verb) → arity v ≤ 4
few_numbers Get = omega arith
few_numbers Len = omega arith
few_numbers Put = omega arith
few_numbers Del = omega arith
few_numbers Add = omega arith
few_numbers Cas = omega arith
few_numbers PutLen = omega arith
few_numbers Move = omega arith
few_numbers Both = omega arith
few_numbers TryGet = omega arith
few_numbers TryPut = omega arith
few_numbers GetBy = omega arith
few_numbers PutBy = omega arith
few_numbers Give = omega arith
few_numbers Take = omega arith
few_numbers Audit = omega arith

take_front : {X : Type 0} (k : ℕ) (xs ys : List X) → length xs ≡ k → take k (xs ++ ys) ≡ xs
take_front zero [] ys h = refl
take_front zero (x ∷ xs) ys h = absurd (omega (arith, h))
take_front (suc k) [] ys h = absurd (omega (arith, h))
take_front (suc k) (x ∷ xs) ys h = ap (λ l. x ∷ l) (take_front k xs ys (omega (arith, h)))

drop_front : {X : Type 0} (k : ℕ) (xs ys : List X) → length xs ≡ k → drop k (xs ++ ys) ≡ ys
drop_front zero [] ys h = refl
drop_front zero (x ∷ xs) ys h = absurd (omega (arith, h))
drop_front (suc k) [] ys h = absurd (omega (arith, h))
drop_front (suc k) (x ∷ xs) ys h = drop_front k xs ys (omega (arith, h))

numbers_at_again : (k : ℕ) (ns : List ℕ) (ws : List (List ℕ)) → AllByRecursion IsNumber ns → length (map decimal ns) ≡ k → numbers_at k (map decimal ns ++ ws) ≡ Some (ns, ws)
numbers_at_again k ns ws all len =
    let long : k ≤ length (map decimal ns ++ ws) = grind (arith, length-append) in
    let no : nat_lt (length (map decimal ns ++ ws)) k ≡ false = search (rules, long) in
    rw (no, take_front k (map decimal ns) ws len, drop_front k (map decimal ns) ws len) (ap (option_map (λ ms. (ms, ws))) (numbers_again ns all))

-- the query is read again, whatever follows
query_again : (q : Query) (ws : List (List ℕ)) → IsQuery q → query_at (query_words q ++ ws) ≡ Some (q, ws)
unfolding query_at
query_again q ws all =
    let named = table_verb (verb_of q) in
    let numbers = numbers_at_again (arity (verb_of q)) (numbers_of q) ws all (table_arity q) in
    ap (λ (v : Option Verb). v >>= λ verb. numbers_at (arity verb) (map decimal (numbers_of q) ++ ws) >>= λ ns. Some (query_of verb ns.0, ns.1)) named
    ∙ ap (λ (r : Option (List ℕ × List (List ℕ))). r >>= λ ns. Some (query_of (verb_of q) ns.0, ns.1)) numbers
    ∙ ap (λ x. Some (x, ws)) (table_query q)

question_again : (caller index : ℕ) (q : Query) (ws : List (List ℕ)) → IsNumber caller → IsNumber index → IsQuery q
    → question_at (decimal caller ∷ decimal index ∷ (query_words q ++ codes "=" ∷ ws)) ≡ Some (record { caller = caller; index = index; query = q }, ws)
unfolding question_at
question_again caller index q ws c i all =
    ap (λ (r : Option (ℕ × List (List ℕ))). r >>= λ x. number_at x.1 >>= λ y. query_at y.1 >>= λ z. name_at z.1 >>= λ s. Some (record { caller = x.0; index = y.0; query = z.0 }, s.1)) (number_at_again caller _ c)
    ∙ ap (λ (r : Option (ℕ × List (List ℕ))). r >>= λ y. query_at y.1 >>= λ z. name_at z.1 >>= λ s. Some (record { caller = caller; index = y.0; query = z.0 }, s.1)) (number_at_again index _ i)
    ∙ ap (λ (r : Option (Query × List (List ℕ))). r >>= λ z. name_at z.1 >>= λ s. Some (record { caller = caller; index = index; query = z.0 }, s.1)) (query_again q (codes "=" ∷ ws) all)

-- what is said is read again
named_again : (name : List ℕ) (n : ℕ) → IsNumber n → (number_of (decimal n) >>= said_with name) ≡ said_with name n
named_again name n small = ap (λ (r : Option ℕ). r >>= said_with name) (number_again n small)

pair_again : (first second : Option ℕ) → IsFound first → IsFound second → said_in (found_words first ++ found_words second) ≡ Some (said.Pair first second)
pair_again None None f s = refl
pair_again None (Some n) f s = ap (λ (r : Option ℕ). r >>= λ value. Some (said.Pair None (Some value))) (number_again n s)
pair_again (Some n) None f s = ap (λ (r : Option ℕ). r >>= λ value. Some (said.Pair (Some value) None)) (number_again n f)
pair_again (Some n) (Some m) f s =
    ap (λ (r : Option ℕ). r >>= λ value. number_of (decimal m) >>= λ other. Some (said.Pair (Some value) (Some other))) (number_again n f)
    ∙ ap (λ (r : Option ℕ). r >>= λ other. Some (said.Pair (Some n) (Some other))) (number_again m s)

said_again : (s : Said) → IsSaid s → said_in (said_words s) ≡ Some s
said_again (said.Found value) h = named_again (codes "some") value h
said_again said.Absent h = refl
said_again (said.Count n) h = ap (λ (r : Option ℕ). elim r [ Some m ↦ Some (said.Count m) | None ↦ said_named (decimal n) ]) (number_again n h)
said_again said.New h = refl
said_again (said.Old value) h = named_again (codes "old") value h
said_again said.Full h = refl
said_again (said.Now value) h = named_again (codes "now") value h
said_again said.Over h = refl
said_again said.Yes h = refl
said_again (said.No value) h = named_again (codes "no") value h
said_again (said.NewCount n) h = named_again (codes "new") n h
said_again (said.OldCount value n) h =
    ap (λ (r : Option ℕ). r >>= λ v. number_of (decimal n) >>= λ m. Some (said.OldCount v m)) (number_again value h.0)
    ∙ ap (λ (r : Option ℕ). r >>= λ m. Some (said.OldCount value m)) (number_again n h.1)
said_again said.Moved h = refl
said_again (said.Short value) h = named_again (codes "short") value h
said_again said.Same h = refl
said_again (said.Pair first second) h = pair_again first second h.0 h.1

result_again : (r : Result LedgerTold LedgerTrouble) → IsResult r → result_in (ledger_words r) ≡ Some r
result_again (Ok (told.Now n)) h = ap (λ (o : Option ℕ). o >>= λ m. Some (Ok (told.Now m))) (number_again n h)
result_again (Ok (told.Sum n)) h = ap (λ (o : Option ℕ). o >>= λ m. Some (Ok (told.Sum m))) (wide_again n h)
result_again (Err trouble.Over) h = refl
result_again (Err trouble.Full) h = refl
result_again (Err (trouble.Short n)) h = ap (λ (o : Option ℕ). o >>= λ m. Some (Err (trouble.Short m))) (number_again n h)

abbrev rest_words : ℕ → ℕ → Query → List (List ℕ) → List (List ℕ)
rest_words caller index q ws = decimal caller ∷ decimal index ∷ (query_words q ++ codes "=" ∷ ws)

refused_again : (caller index : ℕ) (q : Query) (reply : Reply) (ws : List (List ℕ)) → IsNumber caller → IsNumber index → IsQuery q → refusal_in ws ≡ Some reply
    → refused_in (rest_words caller index q ws) ≡ Some (record { caller = caller; index = index; query = q; reply = reply })
unfolding refused_in
refused_again caller index q reply ws c i all again =
    ap (λ (r : Option (Question × List (List ℕ))). r >>= λ y. refusal_in y.1 >>= λ z. Some (record { caller = y.0.caller; index = y.0.index; query = y.0.query; reply = z })) (question_again caller index q ws c i all)
    ∙ ap (λ (r : Option Reply). r >>= λ z. Some (record { caller = caller; index = index; query = q; reply = z })) again

answered_again : (caller index : ℕ) (q : Query) (reply : Reply) → IsNumber caller → IsNumber index → IsQuery q → IsReply reply
    → answered_in (answer_words caller index q reply) ≡ Some (record { caller = caller; index = index; query = q; reply = reply })
unfolding kind_in placed_in job_in
answered_again caller index q (Placed place said) c i all told =
    ap (λ (r : Option (ℕ × List (List ℕ))). r >>= λ x. question_at x.1 >>= λ y. said_in y.1 >>= λ z. Some (record { caller = y.0.caller; index = y.0.index; query = y.0.query; reply = Placed x.0 z })) (number_at_again place _ told.0)
    ∙ ap (λ (r : Option (Question × List (List ℕ))). r >>= λ y. said_in y.1 >>= λ z. Some (record { caller = y.0.caller; index = y.0.index; query = y.0.query; reply = Placed place z })) (question_again caller index q (said_words said) c i all)
    ∙ ap (λ (r : Option Said). r >>= λ z. Some (record { caller = caller; index = index; query = q; reply = Placed place z })) (said_again said told.1)
answered_again caller index q Busy c i all told = refused_again caller index q Busy (codes "busy" ∷ []) c i all refl
answered_again caller index q (Late now) c i all told = refused_again caller index q (Late now) (codes "late" ∷ decimal now ∷ []) c i all (ap (λ (r : Option ℕ). r >>= λ n. Some (Late n)) (number_again now told))
answered_again caller index q (Job at result) c i all told =
    ap (λ (r : Option (ℕ × List (List ℕ))). r >>= λ x. question_at x.1 >>= λ y. result_in y.1 >>= λ z. Some (record { caller = y.0.caller; index = y.0.index; query = y.0.query; reply = Job x.0 z })) (number_at_again at _ told.0)
    ∙ ap (λ (r : Option (Question × List (List ℕ))). r >>= λ y. result_in y.1 >>= λ z. Some (record { caller = y.0.caller; index = y.0.index; query = y.0.query; reply = Job at z })) (question_again caller index q (ledger_words result) c i all)
    ∙ ap (λ (r : Option (Result LedgerTold LedgerTrouble)). r >>= λ z. Some (record { caller = caller; index = index; query = q; reply = Job at z })) (result_again result told.1)

line_again : (a : Answered) → IsWritable a → answered_in (answered_words a) ≡ Some a
line_again a fits = answered_again a.caller a.index a.query a.reply fits.caller fits.index fits.query fits.reply

-- no word has a space or a line feed
clean_found : (value : Option ℕ) → IsFound value → AllByRecursion Clean (found_words value)
clean_found (Some n) h = (clean_if (codes "some") refl, (clean_number n h, tt))
clean_found None h = (clean_if (codes "none") refl, tt)

clean_said : (s : Said) → IsSaid s → AllByRecursion Clean (said_words s)
clean_said (said.Found value) h = (clean_if (codes "some") refl, (clean_number value h, tt))
clean_said said.Absent h = (clean_if (codes "none") refl, tt)
clean_said (said.Count n) h = (clean_number n h, tt)
clean_said said.New h = (clean_if (codes "new") refl, tt)
clean_said (said.Old value) h = (clean_if (codes "old") refl, (clean_number value h, tt))
clean_said said.Full h = (clean_if (codes "full") refl, tt)
clean_said (said.Now value) h = (clean_if (codes "now") refl, (clean_number value h, tt))
clean_said said.Over h = (clean_if (codes "over") refl, tt)
clean_said said.Yes h = (clean_if (codes "yes") refl, tt)
clean_said (said.No value) h = (clean_if (codes "no") refl, (clean_number value h, tt))
clean_said (said.NewCount n) h = (clean_if (codes "new") refl, (clean_number n h, tt))
clean_said (said.OldCount value n) h = (clean_if (codes "old") refl, (clean_number value h.0, (clean_number n h.1, tt)))
clean_said said.Moved h = (clean_if (codes "moved") refl, tt)
clean_said (said.Short value) h = (clean_if (codes "short") refl, (clean_number value h, tt))
clean_said said.Same h = (clean_if (codes "same") refl, tt)
clean_said (said.Pair first second) h = all_append Clean (found_words first) (found_words second) (clean_found first h.0) (clean_found second h.1)

clean_result : (r : Result LedgerTold LedgerTrouble) → IsResult r → AllByRecursion Clean (ledger_words r)
clean_result (Ok (told.Now n)) h = (clean_if (codes "now") refl, (clean_number n h, tt))
clean_result (Ok (told.Sum n)) h = (clean_if (codes "sum") refl, (clean_wide n h, tt))
clean_result (Err trouble.Over) h = (clean_if (codes "err") refl, (clean_if (codes "over") refl, tt))
clean_result (Err trouble.Full) h = (clean_if (codes "err") refl, (clean_if (codes "full") refl, tt))
clean_result (Err (trouble.Short n)) h = (clean_if (codes "err") refl, (clean_if (codes "short") refl, (clean_number n h, tt)))

clean_reply : (reply : Reply) → IsReply reply → AllByRecursion Clean (reply_words reply)
clean_reply (Placed place said) h = clean_said said h.1
clean_reply Busy h = (clean_if (codes "busy") refl, tt)
clean_reply (Late now) h = (clean_if (codes "late") refl, (clean_number now h, tt))
clean_reply (Job at result) h = clean_result result h.1

clean_query : (q : Query) → IsQuery q → AllByRecursion Clean (query_words q)
clean_query q all = (clean_verb (verb_of q), clean_numbers (numbers_of q) all)

-- what follows the place
clean_rest : (a : Answered) → IsWritable a → AllByRecursion Clean (rest_words a.caller a.index a.query (reply_words a.reply))
clean_rest a fits = (
  clean_number a.caller fits.caller,
  (
    clean_number a.index fits.index,
    all_append Clean (query_words a.query) (codes "=" ∷ reply_words a.reply) (clean_query a.query fits.query)
        (clean_if (codes "=") refl, clean_reply a.reply fits.reply),
  ),
)

clean_place : (reply : Reply) (ws : List (List ℕ)) → IsReply reply → AllByRecursion Clean ws → AllByRecursion Clean (place_words reply ++ ws)
clean_place (Placed place said) ws all rest = (clean_if (codes "map") refl, (clean_number place all.0, rest))
clean_place Busy ws all rest = (clean_if (codes "ref") refl, rest)
clean_place (Late now) ws all rest = (clean_if (codes "ref") refl, rest)
clean_place (Job at result) ws all rest = (clean_if (codes "job") refl, (clean_number at all.0, rest))

answered_clean : (a : Answered) → IsWritable a → AllByRecursion Clean (answered_words a)
answered_clean a fits = clean_place a.reply _ fits.reply (clean_rest a fits)

some_words : (reply : Reply) (ws : List (List ℕ)) → 0 < length (place_words reply ++ ws)
some_words (Placed place said) ws = omega arith
some_words Busy ws = omega arith
some_words (Late now) ws = omega arith
some_words (Job at result) ws = omega arith

answered_some : (a : Answered) → 0 < length (answered_words a)
answered_some a = some_words a.reply _

-- no line has more than sixteen words
few_found : (value : Option ℕ) → length (found_words value) ≤ 2
few_found (Some n) = omega arith
few_found None = omega arith

few_said : (s : Said) → length (said_words s) ≤ 4
few_said (said.Found value) = omega arith
few_said said.Absent = omega arith
few_said (said.Count n) = omega arith
few_said said.New = omega arith
few_said (said.Old value) = omega arith
few_said said.Full = omega arith
few_said (said.Now value) = omega arith
few_said said.Over = omega arith
few_said said.Yes = omega arith
few_said (said.No value) = omega arith
few_said (said.NewCount n) = omega arith
few_said (said.OldCount value n) = omega arith
few_said said.Moved = omega arith
few_said (said.Short value) = omega arith
few_said said.Same = omega arith
few_said (said.Pair first second) =
    let len = length-append (found_words first) (found_words second) in
    let a = few_found first in
    let b = few_found second in
    omega (arith, len, a, b)

few_result : (r : Result LedgerTold LedgerTrouble) → length (ledger_words r) ≤ 4
few_result (Ok (told.Now n)) = omega arith
few_result (Ok (told.Sum n)) = omega arith
few_result (Err trouble.Over) = omega arith
few_result (Err trouble.Full) = omega arith
few_result (Err (trouble.Short n)) = omega arith

few_reply : (reply : Reply) → length (reply_words reply) ≤ 4
few_reply (Placed place said) = few_said said
few_reply Busy = omega arith
few_reply (Late now) = omega arith
few_reply (Job at result) = few_result result

few_place : (reply : Reply) → length (place_words reply) ≤ 2
few_place (Placed place said) = omega arith
few_place Busy = omega arith
few_place (Late now) = omega arith
few_place (Job at result) = omega arith

answered_few : (a : Answered) → length (answered_words a) ≤ 16
answered_few a =
    let arity_is = table_arity a.query in
    let few = few_numbers (verb_of a.query) in
    let told = few_reply a.reply in
    let place = few_place a.reply in
    let inner = length-append (query_words a.query) (codes "=" ∷ reply_words a.reply) in
    let outer = length-append (place_words a.reply) (rest_words a.caller a.index a.query (reply_words a.reply)) in
    omega (arith, arity_is, few, told, place, inner, outer)

pub answered_form : IsForm IsWritable answered_words answered_in
answered_form = record { again = line_again; clean = answered_clean; some = answered_some; few = answered_few }

-- the line of tables
abbrev pub AreTables : ℕ × ℕ × ℕ → Type 0
AreTables t = IsNumber t.0 × IsNumber t.1 × IsNumber t.2

abbrev pub tables_words : ℕ × ℕ × ℕ → List (List ℕ)
tables_words t = codes "cells" ∷ decimal t.0 ∷ codes "rows" ∷ decimal t.1 ∷ codes "callers" ∷ decimal t.2 ∷ []

tables_again : (t : ℕ × ℕ × ℕ) → AreTables t → tables_in (tables_words t) ≡ Some t
unfolding tables_in
tables_again t fits =
    ap (λ (r : Option (ℕ × List (List ℕ))). r >>= λ x. name_at x.1 >>= λ b. number_at b.1 >>= λ y. name_at y.1 >>= λ c. number_at c.1 >>= λ z. Some (x.0, y.0, z.0)) (number_at_again t.0 _ fits.0)
    ∙ ap (λ (r : Option (ℕ × List (List ℕ))). r >>= λ y. name_at y.1 >>= λ c. number_at c.1 >>= λ z. Some (t.0, y.0, z.0)) (number_at_again t.1 _ fits.1)
    ∙ ap (λ (r : Option (ℕ × List (List ℕ))). r >>= λ z. Some (t.0, t.1, z.0)) (number_at_again t.2 _ fits.2)

tables_clean : (t : ℕ × ℕ × ℕ) → AreTables t → AllByRecursion Clean (tables_words t)
tables_clean t fits = (
  clean_if (codes "cells") refl,
  (
    clean_number t.0 fits.0,
    (
      clean_if (codes "rows") refl,
      (
        clean_number t.1 fits.1,
        (clean_if (codes "callers") refl, (clean_number t.2 fits.2, tt)),
      ),
    ),
  ),
)

pub tables_form : IsForm AreTables tables_words tables_in
tables_form = record { again = tables_again; clean = tables_clean; some = λ t. omega arith; few = λ t. omega arith }
