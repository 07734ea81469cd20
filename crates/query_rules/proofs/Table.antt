-- The table of queries, both ways: a name tells its verb, and a verb with its numbers is the query that has them.
use Rattle.std.proofs.Common.{◌≡◌, ℕ, Bool, true, false, cond, List, [], ◌∷◌, length, take, Some, None, refl, ap, ◌∙◌, arith, bytes_eq, slice_index}
use Rattle.std.specs.declared.option.Option.{Option}
use Rattle.std.proofs.lemmas.Option.{same_Some}
use Rattle.std.proofs.lemmas.Slice.Eq.{bytes_eq-Decides}
use Rattle.query_rules.specs.declared.query.Query.{Query}
use Rattle.query_rules.specs.declared.query.Query.TheVariants as query
use Rattle.query_rules.specs.declared.verb.Verb.{Verb}
use Rattle.query_rules.specs.declared.verb.Verb.TheVariants.{Get, Len, Put, Del, Add, Cas, PutLen, Move, Both, TryGet, TryPut, GetBy, PutBy, Give, Take, Audit}
use Rattle.query_rules.specs.Verbs.{verb_named, verb_word, arity, cells_in, query_of, verb_of, numbers_of}
use Rattle.query_rules.specs.Grammar.{cells_of}

-- each name tells its verb
pub named_again : (verb : Verb) → verb_named (verb_word verb) ≡ Some verb
named_again Get = refl
named_again Len = refl
named_again Put = refl
named_again Del = refl
named_again Add = refl
named_again Cas = refl
named_again PutLen = refl
named_again Move = refl
named_again Both = refl
named_again TryGet = refl
named_again TryPut = refl
named_again GetBy = refl
named_again PutBy = refl
named_again Give = refl
named_again Take = refl
named_again Audit = refl

pub same_bytes : (xs ys : List ℕ) → bytes_eq xs ys ≡ true → xs ≡ ys
same_bytes xs ys e = grind (arith, bytes_eq-Decides xs ys, e)

name_or_later : (word : List ℕ) (v verb : Verb) (later : Option Verb) → (later ≡ Some verb → word ≡ verb_word verb) → cond (bytes_eq word (verb_word v)) (Some v) later ≡ Some verb → word ≡ verb_word verb
name_or_later word v verb later more = by_test (bytes_eq word (verb_word v)) refl
  where
    by_test : (b : Bool) → bytes_eq word (verb_word v) ≡ b → cond b (Some v) later ≡ Some verb → word ≡ verb_word verb
    by_test true is e = same_bytes word (verb_word v) is ∙ ap verb_word (same_Some v verb e)
    by_test false is e = more e

-- a verb is told by its name alone
pub named_only : (word : List ℕ) (verb : Verb) → verb_named word ≡ Some verb → word ≡ verb_word verb
named_only word verb =
    name_or_later word Get verb _ (
    name_or_later word Len verb _ (
    name_or_later word Put verb _ (
    name_or_later word Del verb _ (
    name_or_later word Add verb _ (
    name_or_later word Cas verb _ (
    name_or_later word PutLen verb _ (
    name_or_later word Move verb _ (
    name_or_later word Both verb _ (
    name_or_later word TryGet verb _ (
    name_or_later word TryPut verb _ (
    name_or_later word GetBy verb _ (
    name_or_later word PutBy verb _ (
    name_or_later word Give verb _ (
    name_or_later word Take verb _ (
    name_or_later word Audit verb None (λ e. absurd (cc)))))))))))))))))

-- a query is its verb with its numbers
pub query_again : (q : Query) → query_of (verb_of q) (numbers_of q) ≡ q
query_again (query.Get cell key) = refl
query_again (query.Len cell) = refl
query_again (query.Put cell key value) = refl
query_again (query.Del cell key) = refl
query_again (query.Add cell key delta) = refl
query_again (query.Cas cell key old new) = refl
query_again (query.PutLen cell key value) = refl
query_again (query.Move from to key n) = refl
query_again (query.Both first second key) = refl
query_again (query.TryGet cell key) = refl
query_again (query.TryPut cell key value) = refl
query_again (query.GetBy cell key deadline) = refl
query_again (query.PutBy cell key value deadline) = refl
query_again (query.Give key n) = refl
query_again (query.Take key n) = refl
query_again query.Audit = refl

pub numbers_count : (q : Query) → length (numbers_of q) ≡ arity (verb_of q)
numbers_count (query.Get cell key) = refl
numbers_count (query.Len cell) = refl
numbers_count (query.Put cell key value) = refl
numbers_count (query.Del cell key) = refl
numbers_count (query.Add cell key delta) = refl
numbers_count (query.Cas cell key old new) = refl
numbers_count (query.PutLen cell key value) = refl
numbers_count (query.Move from to key n) = refl
numbers_count (query.Both first second key) = refl
numbers_count (query.TryGet cell key) = refl
numbers_count (query.TryPut cell key value) = refl
numbers_count (query.GetBy cell key deadline) = refl
numbers_count (query.PutBy cell key value deadline) = refl
numbers_count (query.Give key n) = refl
numbers_count (query.Take key n) = refl
numbers_count query.Audit = refl

pub verb_again : (verb : Verb) (ns : List ℕ) → verb_of (query_of verb ns) ≡ verb
verb_again Get ns = refl
verb_again Len ns = refl
verb_again Put ns = refl
verb_again Del ns = refl
verb_again Add ns = refl
verb_again Cas ns = refl
verb_again PutLen ns = refl
verb_again Move ns = refl
verb_again Both ns = refl
verb_again TryGet ns = refl
verb_again TryPut ns = refl
verb_again GetBy ns = refl
verb_again PutBy ns = refl
verb_again Give ns = refl
verb_again Take ns = refl
verb_again Audit ns = refl

-- so many numbers, read at their indexes
none_of : (ns : List ℕ) → length ns ≡ 0 → [] ≡ ns
none_of [] len = refl
none_of (a ∷ ns) len = absurd (omega (arith, len))

one_of : (ns : List ℕ) → length ns ≡ 1 → slice_index ns 0 ∷ [] ≡ ns
one_of [] len = absurd (omega (arith, len))
one_of (a ∷ ns) len = ap (λ l. a ∷ l) (none_of ns (omega (arith, len)))

two_of : (ns : List ℕ) → length ns ≡ 2 → slice_index ns 0 ∷ slice_index ns 1 ∷ [] ≡ ns
two_of [] len = absurd (omega (arith, len))
two_of (a ∷ ns) len = ap (λ l. a ∷ l) (one_of ns (omega (arith, len)))

three_of : (ns : List ℕ) → length ns ≡ 3 → slice_index ns 0 ∷ slice_index ns 1 ∷ slice_index ns 2 ∷ [] ≡ ns
three_of [] len = absurd (omega (arith, len))
three_of (a ∷ ns) len = ap (λ l. a ∷ l) (two_of ns (omega (arith, len)))

four_of : (ns : List ℕ) → length ns ≡ 4 → slice_index ns 0 ∷ slice_index ns 1 ∷ slice_index ns 2 ∷ slice_index ns 3 ∷ [] ≡ ns
four_of [] len = absurd (omega (arith, len))
four_of (a ∷ ns) len = ap (λ l. a ∷ l) (three_of ns (omega (arith, len)))

-- a query has the numbers that it was made of
pub numbers_again : (verb : Verb) (ns : List ℕ) → length ns ≡ arity verb → numbers_of (query_of verb ns) ≡ ns
numbers_again Get ns len = two_of ns len
numbers_again Len ns len = one_of ns len
numbers_again Put ns len = three_of ns len
numbers_again Del ns len = two_of ns len
numbers_again Add ns len = three_of ns len
numbers_again Cas ns len = four_of ns len
numbers_again PutLen ns len = three_of ns len
numbers_again Move ns len = four_of ns len
numbers_again Both ns len = three_of ns len
numbers_again TryGet ns len = two_of ns len
numbers_again TryPut ns len = three_of ns len
numbers_again GetBy ns len = three_of ns len
numbers_again PutBy ns len = four_of ns len
numbers_again Give ns len = two_of ns len
numbers_again Take ns len = two_of ns len
numbers_again Audit ns len = none_of ns len

-- a query's cells are the first of its numbers
pub cells_first : (verb : Verb) (ns : List ℕ) → length ns ≡ arity verb → cells_of (query_of verb ns) ≡ take (cells_in verb) ns
cells_first verb ns len = ap (λ v. take (cells_in v) (numbers_of (query_of verb ns))) (verb_again verb ns) ∙ ap (take (cells_in verb)) (numbers_again verb ns len)
