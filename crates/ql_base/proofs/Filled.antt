-- A buffer whose front is filled by reads.
use Rattle.std.proofs.Common.{◌≡◌, ℕ, ◌+◌, ◌<◌, List, [], ◌++◌, length, min, take, drop, sym, ap, subst, ◌∙◌, arith, take-append-drop}
use Rattle.std.proofs.Math.Seq.{take-add}
use Rattle.std.proofs.lemmas.List.{drop-drop, nil_from_length}
use Rattle.std.specs.declared.option.Option.{Option}
use Rattle.std.specs.Io.KnownBytes.{Consumes}
use Rattle.std.proofs.KnownBytes.{Consumes-trans}

-- a read put n bytes after the first f, which stay
pub filled_next : (a b c : Option (List ℕ)) (xs ys : List ℕ) (f n : ℕ) → take f ys ≡ take f xs → Consumes a b (take f xs) → Consumes b c (take n (drop f ys)) → Consumes a c (take (f + n) ys)
filled_next a b c xs ys f n front before read =
    let grown : take (f + n) ys ≡ take f xs ++ take n (drop f ys) = take-add f n ys ∙ ap (λ l. l ++ take n (drop f ys)) front in
    subst (Consumes a c) (sym grown) (Consumes-trans a b c _ _ before read)

-- as much as fits was copied from what is left of a list, which is what stands from `at` on
pub copied_front : (left shown bytes old buf : List ℕ) (at n : ℕ) → left ≡ drop at bytes → shown ≡ drop at bytes → n ≡ min (length shown) (length old) → length buf ≡ length old
    → take n buf ≡ take n shown → (left ≡ take n buf ++ drop (at + n) bytes) × (n ≡ 0 → 0 < length buf → drop (at + n) bytes ≡ [])
copied_front left shown bytes old buf at n is shows count long copied =
    let rest : drop n shown ≡ drop (at + n) bytes = ap (drop n) shows ∙ drop-drop n at bytes in (
      is ∙ sym shows ∙ sym (take-append-drop n shown) ∙ ap (λ l. l ++ drop n shown) (sym copied) ∙ ap (λ l. take n buf ++ l) rest,
      λ none some. let empty : length shown ≡ 0 = omega arith in sym rest ∙ ap (λ k. drop k shown) none ∙ nil_from_length shown empty,
    )
