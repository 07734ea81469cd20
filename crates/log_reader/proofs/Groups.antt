-- Lists are put together from their lines, and from no others.
use Rattle.std.proofs.Common.{◌≡◌, ℕ, ◌+◌, ◌<◌, ◌≤◌, ◌==◌, ◌&&◌, zero, suc, Bool, true, false, cond, List, [], ◌∷◌, ◌++◌, length, refl, sym, ap, ◌∙◌, append_assoc, append-nil, take, drop, get_or, set, length-append, ◌-◌, subst, arith, rules, tests}
use Rattle.std.proofs.lemmas.List.{take_rest}
use Rattle.std.proofs.lemmas.Bool.{and_parts}
use Rattle.query_rules.specs.declared.query.Query.{Query}
use Rattle.query_rules.specs.declared.query.Reply.{Reply}
use Rattle.query_rules.specs.Grammar.{with_query}
use Rattle.log_reader.specs.declared.answered.Answered.{Answered}
use Rattle.log_reader.specs.LogText.{answered_from, answered_of, IsPaired}
use Rattle.log_reader.specs.Grouping.{Front, none_of, one_more, is_next, front_of, Groups, one_group, groups_of}

eq_is : (m n : ℕ) → (m == n) ≡ true → m ≡ n
eq_is m n h = search (rules, tests, h)

eq_self : (n : ℕ) → (n == n) ≡ true
eq_self n = search (rules, tests)

-- ---- what is put together has these lines
abbrev FrontLaw : ℕ → ℕ → Front → List Answered → Type 0
FrontLaw c i f lines = (answered_from c i f.queries f.replies ++ f.rest ≡ lines) × (length f.queries ≡ length f.replies)

next_is : (c i : ℕ) (a : Answered) → is_next c i a ≡ true → record { caller = c; index = i; query = a.query; reply = a.reply } ≡ a
next_is c i a h =
    let p = and_parts (a.caller == c) (a.index == i) h in
    let caller : c ≡ a.caller = sym (eq_is a.caller c p.0) in
    let index : i ≡ a.index = sym (eq_is a.index i p.1) in
    let first : Answered = record { caller = c; index = i; query = a.query; reply = a.reply } in
    let step : first ≡ record { caller = a.caller; index = i; query = a.query; reply = a.reply } = ap (λ n. record { caller = n; index = i; query = a.query; reply = a.reply }) caller in
    step ∙ ap (λ n. record { caller = a.caller; index = n; query = a.query; reply = a.reply }) index

front_step : (c i : ℕ) (a : Answered) (f : Front) (lines : List Answered) (b : Bool) → is_next c i a ≡ b → FrontLaw c (i + 1) f lines → FrontLaw c i (cond b (one_more a f) (none_of (a ∷ lines))) (a ∷ lines)
front_step c i a f lines true h law = (ap (λ x. x ∷ (answered_from c (i + 1) f.queries f.replies ++ f.rest)) (next_is c i a h) ∙ ap (λ l. a ∷ l) law.0, ap suc law.1)
front_step c i a f lines false h law = (refl, refl)

pub front_law : (c i : ℕ) (lines : List Answered) → FrontLaw c i (front_of c i lines) lines
unfolding front_of
front_law c i [] = (refl, refl)
front_law c i (a ∷ lines) = front_step c i a (front_of c (i + 1) lines) lines (is_next c i a) refl (front_law c (i + 1) lines)

pub record GroupLaw (k c : ℕ) (g : Groups) (lines : List Answered) : Type 0 where
  pub lines_are : answered_of c g.asked g.told ++ g.rest ≡ lines
  pub paired : IsPaired g.asked g.told
  pub count : length g.asked ≡ k

pub group_law : (k c : ℕ) (lines : List Answered) → GroupLaw k c (groups_of k c lines) lines
unfolding groups_of
group_law zero c lines = record { lines_are = refl; paired = tt; count = refl }
group_law (suc k) c lines =
    let f = front_of c 0 lines in
    let first = front_law c 0 lines in
    let g = groups_of k (c + 1) f.rest in
    let more = group_law k (c + 1) f.rest in
    record {
      lines_are = append_assoc (answered_from c 0 f.queries f.replies) (answered_of (c + 1) g.asked g.told) g.rest ∙ ap (λ l. answered_from c 0 f.queries f.replies ++ l) more.lines_are ∙ first.0;
      paired = (first.1, more.paired);
      count = let n = more.count in omega (arith, n);
    }

-- ---- lists are put together again
-- the first line is another caller's
abbrev pub IsApart : ℕ → List Answered → Type 0
IsApart c [] = Unit {0}
IsApart c (a ∷ lines) = (a.caller == c) ≡ false

front_none : (c i : ℕ) (lines : List Answered) → IsApart c lines → front_of c i lines ≡ none_of lines
unfolding front_of
front_none c i [] apart = refl
front_none c i (a ∷ lines) apart = ap (λ b. cond (b && (a.index == i)) (one_more a (front_of c (i + 1) lines)) (none_of (a ∷ lines))) apart

pub front_again : (c i : ℕ) (qs : List Query) (rs : List Reply) (lines : List Answered) → length qs ≡ length rs → IsApart c lines → front_of c i (answered_from c i qs rs ++ lines) ≡ record { queries = qs; replies = rs; rest = lines }
unfolding front_of
front_again c i [] [] lines same apart = front_none c i lines apart
front_again c i [] (r ∷ rs) lines same apart = absurd (omega (arith, same))
front_again c i (q ∷ qs) [] lines same apart = absurd (omega (arith, same))
front_again c i (q ∷ qs) (r ∷ rs) lines same apart =
    let a : Answered = record { caller = c; index = i; query = q; reply = r } in
    let more = front_again c (i + 1) qs rs lines (omega (arith, same)) apart in
    let left = answered_from c (i + 1) qs rs ++ lines in
    ap (λ b. cond (b && (i == i)) (one_more a (front_of c (i + 1) left)) (none_of (a ∷ left))) (eq_self c)
    ∙ ap (λ b. cond b (one_more a (front_of c (i + 1) left)) (none_of (a ∷ left))) (eq_self i)
    ∙ ap (one_more a) more

pub of_apart : (c k : ℕ) (asked : List (List Query)) (told : List (List Reply)) → c < k → IsApart c (answered_of k asked told)
of_apart c k [] told lt = tt
of_apart c k (qs ∷ asked) [] lt = tt
of_apart c k ([] ∷ asked) (rs ∷ told) lt = of_apart c (k + 1) asked told (omega (arith, lt))
of_apart c k ((q ∷ qs) ∷ asked) ([] ∷ told) lt = of_apart c (k + 1) asked told (omega (arith, lt))
of_apart c k ((q ∷ qs) ∷ asked) ((r ∷ rs) ∷ told) lt = grind (arith, tests)

pub groups_again : (asked : List (List Query)) (told : List (List Reply)) (c : ℕ) → IsPaired asked told → groups_of (length asked) c (answered_of c asked told) ≡ record { asked = asked; told = told; rest = [] }
unfolding groups_of
groups_again [] [] c paired = refl
groups_again [] (rs ∷ told) c paired = absurd paired
groups_again (qs ∷ asked) [] c paired = absurd paired
groups_again (qs ∷ asked) (rs ∷ told) c paired =
    let rest = answered_of (c + 1) asked told in
    let first = front_again c 0 qs rs rest paired.0 (of_apart c (c + 1) asked told (omega arith)) in
    ap (λ f. one_group f (groups_of (length asked) (c + 1) f.rest)) first
    ∙ ap (one_group (record { queries = qs; replies = rs; rest = rest })) (groups_again asked told (c + 1) paired.1)

-- ---- the loops
-- what is taken and what is left to take are all that is to be taken
pub record FrontSoFar (all : Front) (qs : List Query) (rs : List Reply) (left : Front) : Type 0 where
  pub queries : qs ++ left.queries ≡ all.queries
  pub replies : rs ++ left.replies ≡ all.replies
  pub rest : left.rest ≡ all.rest

pub front_more : (c i : ℕ) (all : Front) (qs : List Query) (rs : List Reply) (xs : List Answered) (d : Answered) → 1 ≤ length xs → is_next c i (get_or xs 0 d) ≡ true → FrontSoFar all qs rs (front_of c i xs)
    → FrontSoFar all (qs ++ (get_or xs 0 d).query ∷ []) (rs ++ (get_or xs 0 d).reply ∷ []) (front_of c (i + 1) (take (length xs - 1) (drop 1 xs)))
unfolding front_of
front_more c i all qs rs [] d some does h = absurd (omega (arith, some))
front_more c i all qs rs (a ∷ xs) d some does h =
    let step : front_of c i (a ∷ xs) ≡ one_more a (front_of c (i + 1) xs) = ap (λ b. cond b (one_more a (front_of c (i + 1) xs)) (none_of (a ∷ xs))) does in
    let k = subst (λ f. FrontSoFar all qs rs f) step h in
    rw (take_rest (a ∷ xs) 1) (record {
      queries = append_assoc qs (a.query ∷ []) _ ∙ k.queries;
      replies = append_assoc rs (a.reply ∷ []) _ ∙ k.replies;
      rest = k.rest;
    })

pub front_stop : (c i : ℕ) (all : Front) (qs : List Query) (rs : List Reply) (xs : List Answered) (d : Answered) → 1 ≤ length xs → is_next c i (get_or xs 0 d) ≡ false → FrontSoFar all qs rs (front_of c i xs)
    → (qs ≡ all.queries) × (rs ≡ all.replies) × (xs ≡ all.rest)
unfolding front_of
front_stop c i all qs rs [] d some miss h = absurd (omega (arith, some))
front_stop c i all qs rs (a ∷ xs) d some miss h =
    let step : front_of c i (a ∷ xs) ≡ none_of (a ∷ xs) = ap (λ b. cond b (one_more a (front_of c (i + 1) xs)) (none_of (a ∷ xs))) miss in
    let k = subst (λ f. FrontSoFar all qs rs f) step h in
    (sym (append-nil qs) ∙ k.queries, sym (append-nil rs) ∙ k.replies, k.rest)

pub front_end : (c i : ℕ) (all : Front) (qs : List Query) (rs : List Reply) (xs : List Answered) → length xs < 1 → FrontSoFar all qs rs (front_of c i xs)
    → (qs ≡ all.queries) × (rs ≡ all.replies) × (xs ≡ all.rest)
unfolding front_of
front_end c i all qs rs [] none h = (sym (append-nil qs) ∙ h.queries, sym (append-nil rs) ∙ h.replies, h.rest)
front_end c i all qs rs (a ∷ xs) none h = absurd (omega (arith, none))

pub record GroupsSoFar (all : Groups) (asked : List (List Query)) (told : List (List Reply)) (left : Groups) : Type 0 where
  pub asked_are : asked ++ left.asked ≡ all.asked
  pub told_are : told ++ left.told ≡ all.told
  pub rest : left.rest ≡ all.rest

pub groups_more : (k m c : ℕ) (all : Groups) (asked : List (List Query)) (told : List (List Reply)) (xs after : List Answered) (qs : List Query) (rs : List Reply) → k ≡ suc m
    → qs ≡ (front_of c 0 xs).queries → rs ≡ (front_of c 0 xs).replies → after ≡ (front_of c 0 xs).rest → GroupsSoFar all asked told (groups_of k c xs)
    → GroupsSoFar all (asked ++ qs ∷ []) (told ++ rs ∷ []) (groups_of m (c + 1) after)
unfolding groups_of
groups_more k m c all asked told xs after qs rs is q r left h =
    let f : Front = record { queries = qs; replies = rs; rest = after } in
    let same : front_of c 0 xs ≡ f = sym (ap (λ l. record { queries = l; replies = rs; rest = after }) q ∙ ap (λ l. record { queries = (front_of c 0 xs).queries; replies = l; rest = after }) r ∙ ap (λ l. record { queries = (front_of c 0 xs).queries; replies = (front_of c 0 xs).replies; rest = l }) left) in
    let k1 = subst (λ n. GroupsSoFar all asked told (groups_of n c xs)) is h in
    let k2 = subst (λ (z : Front). GroupsSoFar all asked told (one_group z (groups_of m (c + 1) z.rest))) same k1 in
    record { asked_are = append_assoc asked (qs ∷ []) _ ∙ k2.asked_are; told_are = append_assoc told (rs ∷ []) _ ∙ k2.told_are; rest = k2.rest }

pub groups_end : (k c : ℕ) (all : Groups) (asked : List (List Query)) (told : List (List Reply)) (xs : List Answered) → k ≡ 0 → GroupsSoFar all asked told (groups_of k c xs) → (asked ≡ all.asked) × (told ≡ all.told) × (xs ≡ all.rest)
unfolding groups_of
groups_end k c all asked told xs is h =
    let g = subst (λ n. GroupsSoFar all asked told (groups_of n c xs)) is h in
    (sym (append-nil asked) ∙ g.asked_are, sym (append-nil told) ∙ g.told_are, g.rest)

pub groups_start : (all : Groups) → GroupsSoFar all [] [] all
groups_start all = record { asked_are = refl; told_are = refl; rest = refl }

-- ---- one list, query by query
set_end : (old : List (List Query)) (x v : List Query) → set (old ++ x ∷ []) (length old) v ≡ old ++ v ∷ []
set_end [] x v = refl
set_end (y ∷ old) x v = ap (λ l. y ∷ l) (set_end old x v)

get_end : (old : List (List Query)) (x : List Query) → get_or (old ++ x ∷ []) (length old) [] ≡ x
get_end [] x = refl
get_end (y ∷ old) x = get_end old x

pub next_length : (xs : List Answered) (i n : ℕ) → 1 ≤ length xs → i + length xs ≤ n → i + 1 + length (take (length xs - 1) (drop 1 xs)) ≤ n
next_length [] i n some h = absurd (omega (arith, some))
next_length (x ∷ xs) i n some h = rw (take_rest (x ∷ xs) 1) (omega (arith, h))

at_end : (old : List (List Query)) (front : List Query) (q : Query) → with_query (old ++ front ∷ []) q ≡ old ++ (front ++ q ∷ []) ∷ []
at_end old front q =
    let last : length (old ++ front ∷ []) - 1 ≡ length old = grind (arith, length-append) in
    ap (λ n. set (old ++ front ∷ []) n (get_or (old ++ front ∷ []) n [] ++ q ∷ [])) last
    ∙ ap (λ l. set (old ++ front ∷ []) (length old) (l ++ q ∷ [])) (get_end old front)
    ∙ set_end old front (front ++ q ∷ [])

pub list_more : (old : List (List Query)) (front : List Query) (q : Query) (lists new : List (List Query)) → lists ≡ old ++ front ∷ [] → new ≡ with_query lists q → new ≡ old ++ (front ++ q ∷ []) ∷ []
list_more old front q lists new is more = more ∙ ap (λ l. with_query l q) is ∙ at_end old front q

pub list_next : (old : List (List Query)) (queries rest : List Query) (lists new : List (List Query)) (d : Query) → 1 ≤ length rest
    → (front : List Query) × (front ++ rest ≡ queries) × (lists ≡ old ++ front ∷ []) → new ≡ with_query lists (get_or rest 0 d)
    → (front : List Query) × (front ++ take (length rest - 1) (drop 1 rest) ≡ queries) × (new ≡ old ++ front ∷ [])
list_next old queries [] lists new d some h more = absurd (omega (arith, some))
list_next old queries (q ∷ rest) lists new d some h more =
    rw (take_rest (q ∷ rest) 1) (h.0 ++ q ∷ [], append_assoc h.0 (q ∷ []) rest ∙ h.1, list_more old h.0 q lists new h.2 more)
