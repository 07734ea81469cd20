-- A text that is written in pieces.
use Rattle.std.proofs.Common.{◌≡◌, ℕ, List, [], ◌∷◌, ◌≤◌, ◌++◌, refl, sym, ap, ◌∙◌, append_assoc, append-nil, take, drop, take-append-drop, subst, length, get_or, arith, ◌-◌, ◌<◌}
use Rattle.std.proofs.lemmas.List.{take_rest}
use Rattle.std.specs.declared.option.Option.{Option}
use Rattle.std.specs.Io.KnownBytes.{Appends, Keeps}
use Rattle.std.proofs.KnownBytes.{Appends-nil, Appends-trans, Appends-kept}
use Rattle.std.specs.declared.result.Result.{Result}
use Rattle.std.specs.Prelude.{Ok, Err, IsErr, flat_map}
use Rattle.std.specs.List.{AllByRecursion}
use Rattle.ql_base.specs.Bytes.{AppendsFront, Writes}

-- a front of the text was written, and the rest is still to be written
pub record HasTaken (old new : Option (List ℕ)) (text rest : List ℕ) : Type 0 where
  pub front : List ℕ
  pub cut : text ≡ front ++ rest
  pub grew : Appends old new front

pub taken_none : (old : Option (List ℕ)) (text : List ℕ) → HasTaken old old text text
taken_none old text = record { front = []; cut = refl; grew = Appends-nil old }

pub taken_more : (old mid new : Option (List ℕ)) (text rest : List ℕ) (n : ℕ) → HasTaken old mid text rest → Appends mid new (take n rest) → HasTaken old new text (drop n rest)
taken_more old mid new text rest n h more = record {
  front = h.front ++ take n rest;
  cut = h.cut ∙ ap (λ l. h.front ++ l) (sym (take-append-drop n rest)) ∙ sym (append_assoc h.front (take n rest) (drop n rest));
  grew = Appends-trans old mid new h.front (take n rest) h.grew more;
}

pub taken_all : (old new : Option (List ℕ)) (text rest : List ℕ) → HasTaken old new text rest → rest ≡ [] → Appends old new text
taken_all old new text rest h none = let e : h.front ≡ text = sym (append-nil h.front) ∙ ap (λ l. h.front ++ l) (sym none) ∙ sym h.cut in
    let P : List ℕ → Type 0 = λ t. Appends old new t in subst P e h.grew

pub taken_front : (old mid new : Option (List ℕ)) (text rest : List ℕ) → HasTaken old mid text rest → Keeps mid new → AppendsFront old new text
taken_front old mid new text rest h kept = (h.front, rest, h.cut, Appends-kept old mid new h.front h.grew kept)

-- as the code cuts the rest
pub taken_next : (old mid new : Option (List ℕ)) (text rest : List ℕ) (n : ℕ) → HasTaken old mid text rest → Appends mid new (take n rest) → HasTaken old new text (take (length rest - n) (drop n rest))
taken_next old mid new text rest n h more = rw take_rest (taken_more old mid new text rest n h more)

-- one text, and then another
pub front_first : (old new : Option (List ℕ)) (x y : List ℕ) → AppendsFront old new x → AppendsFront old new (x ++ y)
front_first old new x y h = (h.0, h.1 ++ y, ap (λ l. l ++ y) h.2 ∙ append_assoc h.0 h.1 y, h.3)

pub front_then : (old mid new : Option (List ℕ)) (x y : List ℕ) → Appends old mid x → AppendsFront mid new y → AppendsFront old new (x ++ y)
front_then old mid new x y first h = (x ++ h.0, h.1, ap (λ l. x ++ l) h.2 ∙ sym (append_assoc x h.0 h.1), Appends-trans old mid new x h.0 first h.3)

pub front_all : (old new : Option (List ℕ)) (x : List ℕ) → Appends old new x → AppendsFront old new x
front_all old new x h = (x, [], sym (append-nil x), h)

pub taken_part : (old mid new : Option (List ℕ)) (text x rest : List ℕ) → HasTaken old mid text (x ++ rest) → Appends mid new x → HasTaken old new text rest
taken_part old mid new text x rest h more = record {
  front = h.front ++ x;
  cut = h.cut ∙ sym (append_assoc h.front x rest);
  grew = Appends-trans old mid new h.front x h.grew more;
}

pub taken_failed : (old mid new : Option (List ℕ)) (text x rest : List ℕ) → HasTaken old mid text (x ++ rest) → AppendsFront mid new x → AppendsFront old new text
taken_failed old mid new text x rest h fail =
    let all = front_then old mid new h.front (x ++ rest) h.grew (front_first mid new x rest fail) in
    let P : List ℕ → Type 0 = λ t. AppendsFront old new t in subst P (sym h.cut) all

pub writes_then : {T E : Type 0} (old mid new : Option (List ℕ)) (x y : List ℕ) (r : Result T E) → Appends old mid x → Writes mid new r y → Writes old new r (x ++ y)
writes_then old mid new x y (Ok v) first h = Appends-trans old mid new x y first h
writes_then old mid new x y (Err e) first h = front_then old mid new x y first h

-- where a call fails, the text that it was to begin isn't whole
pub writes_failed : {T E : Type 0} (old new : Option (List ℕ)) (x y : List ℕ) (r : Result T E) → IsErr r → AppendsFront old new x → Writes old new r (x ++ y)
writes_failed old new x y (Ok v) bad h = absurd (cc)
writes_failed old new x y (Err e) bad h = front_first old new x y h

pub writes_failed_later : {T E : Type 0} (old mid new : Option (List ℕ)) (x y z : List ℕ) (r : Result T E) → IsErr r → Appends old mid x → AppendsFront mid new y → Writes old new r (x ++ (y ++ z))
writes_failed_later old mid new x y z (Ok v) bad first h = absurd (cc)
writes_failed_later old mid new x y z (Err e) bad first h = front_then old mid new x (y ++ z) first (front_first mid new y z h)

pub taken_exit : {T E : Type 0} (old mid new : Option (List ℕ)) (text x rest : List ℕ) (r : Result T E) → IsErr r → HasTaken old mid text (x ++ rest) → AppendsFront mid new x → Writes old new r text
taken_exit old mid new text x rest (Ok v) bad h fail = absurd (cc)
taken_exit old mid new text x rest (Err e) bad h fail = taken_failed old mid new text x rest h fail

-- texts of the members of a list, one after the other
pub flat_next : {X : Type 0} (f : X → List ℕ) (old mid new : Option (List ℕ)) (text : List ℕ) (rest : List X) (d : X) → 1 ≤ length rest → HasTaken old mid text (flat_map f rest) → Appends mid new (f (get_or rest 0 d)) → HasTaken old new text (flat_map f (take (length rest - 1) (drop 1 rest)))
flat_next f old mid new text [] d some h more = absurd (omega (arith, some))
flat_next f old mid new text (y ∷ rest) d some h more = rw (take_rest (y ∷ rest) 1) (taken_part old mid new text (f y) (flat_map f rest) h more)

pub flat_exit : {X T E : Type 0} (f : X → List ℕ) (old mid new : Option (List ℕ)) (text : List ℕ) (rest : List X) (d : X) (r : Result T E) → IsErr r → 1 ≤ length rest → HasTaken old mid text (flat_map f rest) → AppendsFront mid new (f (get_or rest 0 d)) → Writes old new r text
flat_exit f old mid new text [] d r bad some h fail = absurd (omega (arith, some))
flat_exit f old mid new text (y ∷ rest) d r bad some h fail = taken_exit old mid new text (f y) (flat_map f rest) r bad h fail

pub flat_end : {X : Type 0} (f : X → List ℕ) (old new : Option (List ℕ)) (text : List ℕ) (rest : List X) → length rest < 1 → HasTaken old new text (flat_map f rest) → Appends old new text
flat_end f old new text [] none h = taken_all old new text [] h refl
flat_end f old new text (y ∷ rest) none h = absurd (omega (arith, none))

pub all_next : {X : Type 0} (P : X → Type 0) (rest : List X) → AllByRecursion P rest → AllByRecursion P (take (length rest - 1) (drop 1 rest))
all_next P [] h = h
all_next P (y ∷ rest) h = rw (take_rest (y ∷ rest) 1) h.1

pub all_first : {X : Type 0} (P : X → Type 0) (rest : List X) (d : X) → 1 ≤ length rest → AllByRecursion P rest → P (get_or rest 0 d)
all_first P [] d some h = absurd (omega (arith, some))
all_first P (y ∷ rest) d some h = h.0
