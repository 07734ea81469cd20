-- Totals, counted one reply and one list at a time.
use Rattle.std.proofs.Common.{◌≡◌, ℕ, ◌+◌, ◌-◌, ◌≤◌, Bool, cond, List, [], ◌∷◌, length, take, drop, map, get_or, refl, ap, arith, sum_by, count_by, Vec}
use Rattle.std.proofs.lemmas.List.{take_rest}
use Rattle.std.proofs.lemmas.List.Sums.{sum_by-cons}
use Rattle.std.specs.declared.alloc.Global.{Global}
use Rattle.query_rules.specs.declared.query.Reply.{Reply}
use Rattle.query_rules.specs.declared.query.Total.TheVariants.{Queries}
use Rattle.query_rules.specs.Log.{is_counted}

abbrev pub one_if : Bool → ℕ
one_if b = cond b 1 0

pub count_cons : (p : Reply → Bool) (x : Reply) (xs : List Reply) → count_by p (x ∷ xs) ≡ one_if (p x) + count_by p xs
count_cons p x xs = sum_by-cons (λ (y : Reply). one_if (p y)) x xs

-- one reply
pub count_next : (p : Reply → Bool) (rest : List Reply) (d : Reply) (new old whole : ℕ) → 1 ≤ length rest → new ≡ old + one_if (p (get_or rest 0 d)) → old + count_by p rest ≡ whole
    → new + count_by p (take (length rest - 1) (drop 1 rest)) ≡ whole
count_next p [] d new old whole some step inv = absurd (omega (arith, some))
count_next p (x ∷ rest) d new old whole some step inv = rw (take_rest (x ∷ rest) 1) (let c = count_cons p x rest in omega (arith, c, step, inv))

pub length_next : {X : Type 0} (rest : List X) (new old whole : ℕ) → 1 ≤ length rest → new ≡ old + 1 → old + length rest ≡ whole → new + length (take (length rest - 1) (drop 1 rest)) ≡ whole
length_next [] new old whole some step inv = absurd (omega (arith, some))
length_next (x ∷ rest) new old whole some step inv = rw (take_rest (x ∷ rest) 1) (omega (arith, step, inv))

abbrev replies_of : List (Vec Reply Global) → List (List Reply)
replies_of vs = map (λ v. v.items) vs

-- one list, counted by f
pub lists_next : (f : List Reply → ℕ) (rest : List (Vec Reply Global)) (d : Vec Reply Global) (items : List Reply) (new old whole : ℕ) → 1 ≤ length rest → items ≡ (get_or rest 0 d).items → new ≡ old + f items → old + sum_by f (replies_of rest) ≡ whole
    → new + sum_by f (replies_of (take (length rest - 1) (drop 1 rest))) ≡ whole
lists_next f [] d items new old whole some is step inv = absurd (omega (arith, some))
lists_next f (v ∷ rest) d items new old whole some is step inv =
    rw (take_rest (v ∷ rest) 1) (let c = sum_by-cons f v.items (replies_of rest) in let same : f items ≡ f v.items = ap f is in omega (arith, c, step, inv, same))

-- each reply is one query's
pub count_queries : (replies : List Reply) → count_by (is_counted Queries) replies ≡ length replies
count_queries [] = refl
count_queries (x ∷ replies) = let c = count_cons (is_counted Queries) x replies in let rest = count_queries replies in omega (arith, c, rest)
