-- The own lists of passes that have taken all callers in have just the replies of the outcome, each under its caller and index.
use Rattle.std.specs.Prelude.{◌≡◌, ◌⊎◌, ℕ, zero, suc, ◌+◌, List, [], ◌∷◌, ◌++◌, Some, get_or, slice_get}
use Rattle.std.proofs.Common.{refl, sym, subst, ⊎_elim, arith, inl, inr}
use Rattle.std.proofs.lemmas.Option.{none-some, same_Some}
use Rattle.lock_model.specs.Locks.{Has}
use Rattle.query_rules.specs.declared.query.Query.{Query}
use Rattle.query_rules.specs.declared.query.Reply.{Reply}
use Rattle.hall.specs.Treading.{has_either}
use Rattle.map_cargo.specs.declared.entry.Told.{Told}
use Rattle.query_cells.specs.Asked.{LedgerRun}
use Rattle.run_laws.specs.Laws.{HasJust, TellJustTheReplies}
use Rattle.run_laws.specs.Lists.{all_answers, all_told, answer_of, answers_from, told_from, told_of}

-- ---- two lists in a row
in_front : {A : Type 0} (xs ys : List A) (a : A) → Has xs a → Has (xs ++ ys) a
in_front [] ys a h = absurd h
in_front (x ∷ xs) ys a h = ⊎_elim (λ e. inl e) (λ t. inr (in_front xs ys a t)) h

behind : {A : Type 0} (xs ys : List A) (a : A) → Has ys a → Has (xs ++ ys) a
behind [] ys a h = h
behind (x ∷ xs) ys a h = inr (behind xs ys a h)

-- ---- any list that is put together from what is told of each reply, whichever end is the newest
module _ {A : Type 0} (of : ℕ → ℕ → Query → Reply → List A) where
  -- of the replies to one caller, the first of which has this index
  pub record OfOne (caller index : ℕ) (qs : List Query) (rs : List Reply) (all : List A) : Type 0 where
    pub each : (i : ℕ) (q : Query) (r : Reply) → slice_get qs i ≡ Some q → slice_get rs i ≡ Some r → (a : A) → Has (of caller (index + i) q r) a → Has all a
    pub no_other : (a : A) → Has all a → (i : ℕ) × (q : Query) × (r : Reply) × (slice_get qs i ≡ Some q) × (slice_get rs i ≡ Some r) × Has (of caller (index + i) q r) a

  -- of the replies to callers, the first of whom has this number
  pub record OfAll (first : ℕ) (callers : List (List Query)) (told : List (List Reply)) (all : List A) : Type 0 where
    pub each : (j i : ℕ) (q : Query) (r : Reply) → slice_get (get_or callers j []) i ≡ Some q → slice_get (get_or told j []) i ≡ Some r → (a : A) → Has (of (first + j) i q r) a → Has all a
    pub no_other : (a : A) → Has all a → (j : ℕ) × (i : ℕ) × (q : Query) × (r : Reply) × (slice_get (get_or callers j []) i ≡ Some q) × (slice_get (get_or told j []) i ≡ Some r) × Has (of (first + j) i q r) a

  -- there is no query, or no reply
  no_query : (caller index : ℕ) (rs : List Reply) → OfOne caller index [] rs []
  no_query caller index rs = record { each = λ i q r is said a has. absurd (none-some q is); no_other = λ a has. absurd has }

  no_reply : (caller index : ℕ) (qs : List Query) → OfOne caller index qs [] []
  no_reply caller index qs = record { each = λ i q r is said a has. absurd (none-some r said); no_other = λ a has. absurd has }

  module _ (caller index : ℕ) (x : Query) (y : Reply) (qs : List Query) (rs : List Reply) (rest all : List A) (others : OfOne caller (index + 1) qs rs rest) where
    each_more : ((a : A) → Has (of caller index x y) a ⊎ Has rest a → Has all a)
        → (i : ℕ) (q : Query) (r : Reply) → slice_get (x ∷ qs) i ≡ Some q → slice_get (y ∷ rs) i ≡ Some r → (a : A) → Has (of caller (index + i) q r) a → Has all a
    each_more into zero q r is said a has =
        let at : index + 0 ≡ index = omega arith in
        let here : Has (of caller index q r) a = subst (λ n. Has (of caller n q r) a) at has in
        let of_x : Has (of caller index x r) a = subst (λ (z : Query). Has (of caller index z r) a) (sym (same_Some x q is)) here in
        into a (inl (subst (λ (z : Reply). Has (of caller index x z) a) (sym (same_Some y r said)) of_x))
    each_more into (suc i) q r is said a has =
        let at : index + suc i ≡ index + 1 + i = omega arith in
        into a (inr (others.each i q r is said a (subst (λ n. Has (of caller n q r) a) at has)))

    other_more : (a : A) → Has (of caller index x y) a ⊎ Has rest a → (i : ℕ) × (q : Query) × (r : Reply) × (slice_get (x ∷ qs) i ≡ Some q) × (slice_get (y ∷ rs) i ≡ Some r) × Has (of caller (index + i) q r) a
    other_more a h = ⊎_elim
        (λ l. (let at : index ≡ index + 0 = omega arith in (0, x, y, refl, refl, subst (λ n. Has (of caller n x y) a) at l)))
        (λ t. (let o = others.no_other a t in let at : index + 1 + o.0 ≡ index + suc o.0 = omega arith in (suc o.0, o.1, o.2, o.3, o.4, subst (λ n. Has (of caller n o.1 o.2) a) at o.5)))
        h

    one_more : ((a : A) → Has (of caller index x y) a ⊎ Has rest a → Has all a) → ((a : A) → Has all a → Has (of caller index x y) a ⊎ Has rest a) → OfOne caller index (x ∷ qs) (y ∷ rs) all
    one_more into out = record { each = each_more into; no_other = λ a has. other_more a (out a has) }

  -- there is no caller, or none has replies
  no_caller : (first : ℕ) (told : List (List Reply)) → OfAll first [] told []
  no_caller first told = record { each = λ j i q r is said a has. absurd (none-some q is); no_other = λ a has. absurd has }

  no_told : (first : ℕ) (callers : List (List Query)) → OfAll first callers [] []
  no_told first callers = record { each = λ j i q r is said a has. absurd (none-some r said); no_other = λ a has. absurd has }

  module _ (first : ℕ) (qs : List Query) (rs : List Reply) (callers : List (List Query)) (told : List (List Reply)) (one rest all : List A) (mine : OfOne first 0 qs rs one) (others : OfAll (first + 1) callers told rest) where
    each_caller : ((a : A) → Has one a ⊎ Has rest a → Has all a)
        → (j i : ℕ) (q : Query) (r : Reply) → slice_get (get_or (qs ∷ callers) j []) i ≡ Some q → slice_get (get_or (rs ∷ told) j []) i ≡ Some r → (a : A) → Has (of (first + j) i q r) a → Has all a
    each_caller into zero i q r is said a has =
        let at : first + 0 ≡ first = omega arith in
        let from : i ≡ 0 + i = omega arith in
        let here : Has (of first i q r) a = subst (λ n. Has (of n i q r) a) at has in
        into a (inl (mine.each i q r is said a (subst (λ n. Has (of first n q r) a) from here)))
    each_caller into (suc j) i q r is said a has =
        let at : first + suc j ≡ first + 1 + j = omega arith in
        into a (inr (others.each j i q r is said a (subst (λ n. Has (of n i q r) a) at has)))

    other_caller : (a : A) → Has one a ⊎ Has rest a
        → (j : ℕ) × (i : ℕ) × (q : Query) × (r : Reply) × (slice_get (get_or (qs ∷ callers) j []) i ≡ Some q) × (slice_get (get_or (rs ∷ told) j []) i ≡ Some r) × Has (of (first + j) i q r) a
    other_caller a h = ⊎_elim
        (λ l. (
        let o = mine.no_other a l in
        let at : first ≡ first + 0 = omega arith in
        let from : 0 + o.0 ≡ o.0 = omega arith in
        let here : Has (of first o.0 o.1 o.2) a = subst (λ n. Has (of first n o.1 o.2) a) from o.5 in
        (0, o.0, o.1, o.2, o.3, o.4, subst (λ n. Has (of n o.0 o.1 o.2) a) at here)
        ))
        (λ t. (let o = others.no_other a t in let at : first + 1 + o.0 ≡ first + suc o.0 = omega arith in (suc o.0, o.1, o.2, o.3, o.4, o.5, subst (λ n. Has (of n o.1 o.2 o.3) a) at o.6)))
        h

    caller_more : ((a : A) → Has one a ⊎ Has rest a → Has all a) → ((a : A) → Has all a → Has one a ⊎ Has rest a) → OfAll first (qs ∷ callers) (rs ∷ told) all
    caller_more into out = record { each = each_caller into; no_other = λ a has. other_caller a (out a has) }

-- ---- the rest in front, or behind
module _ {A : Type 0} (one rest : List A) where
  before_in : (a : A) → Has one a ⊎ Has rest a → Has (rest ++ one) a
  before_in a h = ⊎_elim (λ l. behind rest one a l) (λ t. in_front rest one a t) h

  before_out : (a : A) → Has (rest ++ one) a → Has one a ⊎ Has rest a
  before_out a h = ⊎_elim (λ t. inr t) (λ l. inl l) (has_either rest one a h)

  after_in : (a : A) → Has one a ⊎ Has rest a → Has (one ++ rest) a
  after_in a h = ⊎_elim (λ l. in_front one rest a l) (λ t. behind one rest a t) h

-- ---- what the pass of the hall tells
one_told : (caller index : ℕ) (qs : List Query) (rs : List Reply) → OfOne told_of caller index qs rs (told_from caller index qs rs)
one_told caller index [] rs = no_query told_of caller index rs
one_told caller index (q ∷ qs) [] = no_reply told_of caller index (q ∷ qs)
one_told caller index (q ∷ qs) (r ∷ rs) =
    let one = told_of caller index q r in
    let rest = told_from caller (index + 1) qs rs in
    one_more told_of caller index q r qs rs rest (rest ++ one) (one_told caller (index + 1) qs rs) (before_in one rest) (before_out one rest)

every_told : (first : ℕ) (callers : List (List Query)) (told : List (List Reply)) → OfAll told_of first callers told (all_told first callers told)
every_told first [] told = no_caller told_of first told
every_told first (qs ∷ callers) [] = no_told told_of first (qs ∷ callers)
every_told first (qs ∷ callers) (rs ∷ told) =
    let one = told_from first 0 qs rs in
    let rest = all_told (first + 1) callers told in
    caller_more told_of first qs rs callers told one rest (rest ++ one) (one_told first 0 qs rs) (every_told (first + 1) callers told) (before_in one rest) (before_out one rest)

-- ---- what the pass of the ledger's lock lists
one_answered : (caller index : ℕ) (qs : List Query) (rs : List Reply) → OfOne answer_of caller index qs rs (answers_from caller index qs rs)
one_answered caller index [] rs = no_query answer_of caller index rs
one_answered caller index (q ∷ qs) [] = no_reply answer_of caller index (q ∷ qs)
one_answered caller index (q ∷ qs) (r ∷ rs) =
    let one = answer_of caller index q r in
    let rest = answers_from caller (index + 1) qs rs in
    one_more answer_of caller index q r qs rs rest (one ++ rest) (one_answered caller (index + 1) qs rs) (after_in one rest) (has_either one rest)

every_answered : (first : ℕ) (callers : List (List Query)) (told : List (List Reply)) → OfAll answer_of first callers told (all_answers first callers told)
every_answered first [] told = no_caller answer_of first told
every_answered first (qs ∷ callers) [] = no_told answer_of first (qs ∷ callers)
every_answered first (qs ∷ callers) (rs ∷ told) =
    let one = answers_from first 0 qs rs in
    let rest = all_answers (first + 1) callers told in
    caller_more answer_of first qs rs callers told one rest (one ++ rest) (one_answered first 0 qs rs) (every_answered (first + 1) callers told) (after_in one rest) (has_either one rest)

-- ---- the law
just : {A : Type 0} (of : ℕ → ℕ → Query → Reply → List A) (callers : List (List Query)) (told : List (List Reply)) (all : List A) → OfAll of 0 callers told all → HasJust of callers told all
just of callers told all h = record {
  each = λ caller index q reply is a has. (let from : caller ≡ 0 + caller = omega arith in h.each caller index q reply is.asks is.said a (subst (λ n. Has (of n index q reply) a) from has));
  no_other = λ a has. (
      let o = h.no_other a has in
      let from : 0 + o.0 ≡ o.0 = omega arith in
      (o.0, o.1, o.2, o.3, record { asks = o.4; said = o.5 }, subst (λ n. Has (of n o.1 o.2 o.3) a) from o.6)
      );
}

pub tell_just_the_replies : TellJustTheReplies
tell_just_the_replies callers told w e whole = (
  subst (λ (l : List Told). HasJust told_of callers told l) (sym whole.tells) (just told_of callers told (all_told 0 callers told) (every_told 0 callers told)),
  subst (λ (l : List LedgerRun). HasJust answer_of callers told l) (sym whole.lists) (just answer_of callers told (all_answers 0 callers told) (every_answered 0 callers told)),
)
