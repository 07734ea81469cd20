-- The lines of what says a spot, one at a time.
use Rattle.std.proofs.Common.{◌≡◌, ℕ, ◌-◌, ◌<◌, ◌≤◌, List, [], ◌∷◌, length, map, take, drop, get_or, refl, sym, subst, arith}
use Rattle.std.specs.Prelude.{IsErr, flat_map}
use Rattle.std.specs.Io.KnownBytes.{Appends}
use Rattle.std.specs.List.{AllByRecursion}
use Rattle.std.specs.declared.option.Option.{Option}
use Rattle.std.specs.declared.result.Result.{Result}
use Rattle.std.proofs.lemmas.List.{take_rest}
use Rattle.query_rules.specs.declared.query.Spot.{Spot}
use Rattle.ql_base.specs.Bytes.{AppendsFront, Writes}
use Rattle.ql_base.proofs.Pieces.{HasTaken, taken_part, taken_exit, taken_all}

pub lines_next : {X : Type 0} (g : Spot → List ℕ) (f : X → Spot) (old mid new : Option (List ℕ)) (text : List ℕ) (rest : List X) (x : X) → x ≡ get_or rest 0 x → 1 ≤ length rest → HasTaken old mid text (flat_map g (map f rest)) → Appends mid new (g (f x)) → HasTaken old new text (flat_map g (map f (take (length rest - 1) (drop 1 rest))))
lines_next g f old mid new text [] x is some h more = absurd (omega (arith, some))
lines_next g f old mid new text (y ∷ rest) x is some h more =
    let here = subst (λ z. Appends mid new (g (f z))) is more in
    rw (take_rest (y ∷ rest) 1) (taken_part old mid new text (g (f y)) (flat_map g (map f rest)) h here)

pub lines_exit : {X T E : Type 0} (g : Spot → List ℕ) (f : X → Spot) (old mid new : Option (List ℕ)) (text : List ℕ) (rest : List X) (x : X) (r : Result T E) → x ≡ get_or rest 0 x → IsErr r → 1 ≤ length rest → HasTaken old mid text (flat_map g (map f rest)) → AppendsFront mid new (g (f x)) → Writes old new r text
lines_exit g f old mid new text [] x r is bad some h fail = absurd (omega (arith, some))
lines_exit g f old mid new text (y ∷ rest) x r is bad some h fail =
    taken_exit old mid new text (g (f y)) (flat_map g (map f rest)) r bad h (subst (λ z. AppendsFront mid new (g (f z))) is fail)

pub lines_end : {X : Type 0} (g : Spot → List ℕ) (f : X → Spot) (old new : Option (List ℕ)) (text : List ℕ) (rest : List X) → length rest < 1 → HasTaken old new text (flat_map g (map f rest)) → Appends old new text
lines_end g f old new text [] none h = taken_all old new text [] h refl
lines_end g f old new text (y ∷ rest) none h = absurd (omega (arith, none))

pub spots_next : {X : Type 0} (P : Spot → Type 0) (f : X → Spot) (rest : List X) → AllByRecursion P (map f rest) → AllByRecursion P (map f (take (length rest - 1) (drop 1 rest)))
spots_next P f [] h = h
spots_next P f (y ∷ rest) h = rw (take_rest (y ∷ rest) 1) h.1

pub spots_first : {X : Type 0} (P : Spot → Type 0) (f : X → Spot) (rest : List X) (x : X) → x ≡ get_or rest 0 x → 1 ≤ length rest → AllByRecursion P (map f rest) → P (f x)
spots_first P f [] x is some h = absurd (omega (arith, some))
spots_first P f (y ∷ rest) x is some h = subst (λ z. P (f z)) (sym is) h.0
