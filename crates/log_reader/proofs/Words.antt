-- The words of a line, kept as slices.
use Rattle.std.proofs.Common.{◌≡◌, ℕ, ◌≤◌, List, [], ◌∷◌, ◌++◌, length, map, take, drop, append-nil, Option, None, option_map, nat_lt, false, Bor, refl, sym, ap, ◌∙◌, rules, arith}
use Rattle.std.proofs.lemmas.List.{take-map, drop-map, length-map, take_all}
use Rattle.query_rules.specs.Grammar.{numbers_in}
use Rattle.std.proofs.Math.Seq.{take-append_seam}
use Rattle.log_reader.specs.Reading.{numbers_at, said_in}

abbrev pub texts : List (Bor (List ℕ)) → List (List ℕ)
texts ws = map (λ w. w.now) ws

pub numbers_front : {V : Type 0} (items : V → List ℕ) (ws : List (Bor (List ℕ))) (k : ℕ) (o p : Option V) → k ≤ length ws → o ≡ p → option_map items o ≡ numbers_in (texts (take k ws)) → numbers_at k (texts ws) ≡ option_map (λ ns. (ns, texts (drop k ws))) (option_map items p)
numbers_front items ws k o p some is found =
    let same : length (texts ws) ≡ length ws = length-map ws (λ (w : Bor (List ℕ)). w.now) in
    let no : nat_lt (length (texts ws)) k ≡ false = search (rules, same, some) in
    let front : numbers_in (take k (texts ws)) ≡ option_map items p = ap numbers_in (take-map (λ (w : Bor (List ℕ)). w.now) k ws) ∙ sym found ∙ ap (option_map items) is in
    let rest : drop k (texts ws) ≡ texts (drop k ws) = drop-map (λ (w : Bor (List ℕ)). w.now) k ws in
    rw (no, front, rest) refl

-- the first sixteen of some words
pub words_front : (xs ys zs : List (List ℕ)) → length xs ≡ 16 → xs ++ ys ≡ zs → xs ≡ take 16 zs
words_front xs ys zs len e = sym (ap (take 16) (sym e) ∙ ap (λ n. take n (xs ++ ys)) (sym len) ∙ take-append_seam xs ys)

pub words_all : (xs zs : List (List ℕ)) → length xs ≤ 16 → xs ++ [] ≡ zs → xs ≡ take 16 zs
words_all xs zs len e = sym (ap (take 16) (sym e ∙ append-nil xs) ∙ take_all 16 xs len)

-- no reply has more than four words
pub said_many : (ws : List (Bor (List ℕ))) → 5 ≤ length ws → None ≡ said_in (texts ws)
said_many [] many = absurd (omega (arith, many))
said_many (a ∷ []) many = absurd (omega (arith, many))
said_many (a ∷ b ∷ []) many = absurd (omega (arith, many))
said_many (a ∷ b ∷ c ∷ []) many = absurd (omega (arith, many))
said_many (a ∷ b ∷ c ∷ d ∷ []) many = absurd (omega (arith, many))
said_many (a ∷ b ∷ c ∷ d ∷ e ∷ ws) many = refl
