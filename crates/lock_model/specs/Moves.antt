-- What the moves of the abstract lock do to its list of seats, and that each allowed move keeps a lawful lock lawful.
use Rattle.std.specs.Prelude.{◌≡◌, ◌≢◌, ℕ, zero, suc, ◌<◌, ◌&&◌, ◌||◌, not, ◌==◌, if◌then◌else◌, List, [], ◌∷◌, Option, Some, None, Bool, true, false, length, ◌⊎◌, ◌++◌}
use Rattle.std.proofs.Common.{refl, sym, ap, ◌∙◌, subst, set, eq-eqb, ne_eqb, arith, inl, inr, ⊎_elim}
use native.Mathlib.Decide.{ℕ_discrete}
use mathlib.Core.Logic.{dite}
use mathlib.Core.Option.{some, some-injective, some-ne-none}
use lib.ListN.{get_elem?}
use Rattle.lock_model.specs.declared.model.Mode.TheVariants.{Shared, Upgrade, Exclusive}
use Rattle.lock_model.specs.declared.model.Policy.{Policy}
use Rattle.lock_model.specs.declared.model.Policy.TheVariants.{WritePriority, ReadPriority}
use Rattle.lock_model.specs.declared.model.Role.{Role}
use Rattle.lock_model.specs.declared.model.Role.TheVariants.{Outside, Holds, Announces}
use Rattle.lock_model.specs.declared.model.Act.{Act}
use Rattle.lock_model.specs.declared.model.Act.TheVariants.{EnterShared, EnterUpgrade, Announce, TakeExclusive, Retract, Leave, UpgradeToShared, ExclusiveToShared, ExclusiveToUpgrade}
use Rattle.lock_model.specs.declared.model.SeatRole.{SeatRole}
use Rattle.lock_model.specs.Locks.{fits, role_after, bars, seat_role, Lock, role_in, with_role, is_free, given_role, after_event, Has, IsLawful}

-- no entry before the place i is of the seat
abbrev pub NotBefore : List SeatRole → ℕ → ℕ → Type 0
NotBefore l i seat = (j : ℕ) (t : SeatRole) → get_elem? l j ≡ some t → j < i → t.seat ≢ seat

-- of a seat that stands once, the role is the entry's
pub role_in-at : (l : List SeatRole) (i : ℕ) (s : SeatRole) → get_elem? l i ≡ some s → NotBefore l i s.seat → role_in l s.seat ≡ s.role
role_in-at [] i s e alone = absurd (some-ne-none s (sym e))
role_in-at (x ∷ xs) zero s e alone = let is : x ≡ s = some-injective x s e in
    subst (λ (z : SeatRole). (if z.seat == s.seat then z.role else role_in xs s.seat) ≡ s.role) (sym is) (ap (λ (b : Bool). if b then s.role else role_in xs s.seat) (eq-eqb s.seat s.seat refl))
role_in-at (x ∷ xs) (suc i) s e alone =
    ap (λ (b : Bool). if b then x.role else role_in xs s.seat) (ne_eqb x.seat s.seat (alone zero x refl (omega arith)))
    ∙ role_in-at xs i s e (λ j t at before. alone (suc j) t at (omega arith))

-- and a new role replaces the entry
pub with_role-at : (l : List SeatRole) (i : ℕ) (s : SeatRole) (r : Role) → get_elem? l i ≡ some s → NotBefore l i s.seat → with_role l s.seat r ≡ set l i (seat_role s.seat r)
with_role-at [] i s r e alone = absurd (some-ne-none s (sym e))
with_role-at (x ∷ xs) zero s r e alone = let is : x ≡ s = some-injective x s e in
    subst (λ (z : SeatRole). (if z.seat == s.seat then seat_role s.seat r ∷ xs else z ∷ with_role xs s.seat r) ≡ seat_role s.seat r ∷ xs) (sym is) (ap (λ (b : Bool). if b then seat_role s.seat r ∷ xs else s ∷ with_role xs s.seat r) (eq-eqb s.seat s.seat refl))
with_role-at (x ∷ xs) (suc i) s r e alone =
    ap (λ (b : Bool). if b then seat_role s.seat r ∷ xs else x ∷ with_role xs s.seat r) (ne_eqb x.seat s.seat (alone zero x refl (omega arith)))
    ∙ ap (λ (ys : List SeatRole). x ∷ ys) (with_role-at xs i s r e (λ j t at before. alone (suc j) t at (omega arith)))

-- a lock is free for an act where no entry of another seat bars it
pub is_free-each : (p : Policy) (a : Act) (seat : ℕ) (l : List SeatRole) → ((j : ℕ) (t : SeatRole) → get_elem? l j ≡ some t → t.seat ≢ seat → bars p a t.role ≡ false) → is_free p a seat l ≡ true
is_free-each p a seat [] h = refl
is_free-each p a seat (x ∷ xs) h =
    let rest : is_free p a seat xs ≡ true = is_free-each p a seat xs (λ j t e. h (suc j) t e) in
    let open_to : not (x.seat == seat) && bars p a x.role ≡ false = dite (ℕ_discrete x.seat seat) (λ e. ap (λ (b : Bool). not b && bars p a x.role) (eq-eqb x.seat seat e)) (λ ne. ap (λ (b : Bool). not b && bars p a x.role) (ne_eqb x.seat seat ne) ∙ h zero x refl ne) in
    ap (λ (b : Bool). if b then false else is_free p a seat xs) open_to ∙ rest

if_false : {b c : Bool} → (if b then false else c) ≡ true → (b ≡ false) × (c ≡ true)
if_false {b} {c} h = elim b as (λ z. (if z then false else c) ≡ true → (z ≡ false) × (c ≡ true)) [ true ↦ λ bad. absurd (cc) | false ↦ λ k. (refl, k) ] h

pub each-is_free : (p : Policy) (a : Act) (seat : ℕ) (l : List SeatRole) → is_free p a seat l ≡ true → (j : ℕ) (t : SeatRole) → get_elem? l j ≡ some t → t.seat ≢ seat → bars p a t.role ≡ false
each-is_free p a seat [] h j t e ne = absurd (some-ne-none t (sym e))
each-is_free p a seat (x ∷ xs) h zero t e ne = let is : x ≡ t = some-injective x t e in let parts = if_false h in
    subst (λ (z : SeatRole). bars p a z.role ≡ false) is (ap (λ (b : Bool). not b && bars p a x.role) (sym (ne_eqb x.seat seat (λ same. ne (ap (λ (z : SeatRole). z.seat) (sym is) ∙ same)))) ∙ parts.0)
each-is_free p a seat (x ∷ xs) h (suc j) t e ne = each-is_free p a seat xs (if_false h).1 j t e ne

-- a seat that isn't in the list comes to its end
pub with_role-none : (l : List SeatRole) (seat : ℕ) (r : Role) → NotBefore l (length l) seat → with_role l seat r ≡ l ++ seat_role seat r ∷ []
with_role-none [] seat r alone = refl
with_role-none (x ∷ xs) seat r alone =
    ap (λ (b : Bool). if b then seat_role seat r ∷ xs else x ∷ with_role xs seat r) (ne_eqb x.seat seat (alone zero x refl (omega arith)))
    ∙ ap (λ (ys : List SeatRole). x ∷ ys) (with_role-none xs seat r (λ j t at before. alone (suc j) t at (omega arith)))

abbrev all_of : {A : Type 0} → List A → (A → Bool) → Bool
all_of [] f = true
all_of (x ∷ xs) f = f x && all_of xs f

both : (a b : Bool) → a && b ≡ true → (a ≡ true) × (b ≡ true)
both a b h = elim a as (λ z. z && b ≡ true → (z ≡ true) × (b ≡ true)) [ true ↦ λ k. (refl, k) | false ↦ λ bad. absurd (cc) ] h

each_of : {A : Type 0} (l : List A) (f : A → Bool) (a : A) → all_of l f ≡ true → Has l a → f a ≡ true
each_of [] f a h bad = absurd bad
each_of (x ∷ xs) f a h has = let parts = both (f x) (all_of xs f) h in ⊎_elim (λ e. ap f e ∙ parts.0) (λ t. each_of xs f a parts.1 t) has

abbrev roles : List Role
roles = Outside ∷ Holds Shared ∷ Holds Upgrade ∷ Holds Exclusive ∷ Announces false ∷ Announces true ∷ []

abbrev acts : List Act
acts = EnterShared ∷ EnterUpgrade ∷ Announce ∷ TakeExclusive ∷ Retract ∷ Leave ∷ UpgradeToShared ∷ ExclusiveToShared ∷ ExclusiveToUpgrade ∷ []

a_role : (r : Role) → Has roles r
a_role Outside = inl refl
a_role (Holds Shared) = inr (inl refl)
a_role (Holds Upgrade) = inr (inr (inl refl))
a_role (Holds Exclusive) = inr (inr (inr (inl refl)))
a_role (Announces false) = inr (inr (inr (inr (inl refl))))
a_role (Announces true) = inr (inr (inr (inr (inr (inl refl)))))

an_act : (a : Act) → Has acts a
an_act EnterShared = inl refl
an_act EnterUpgrade = inr (inl refl)
an_act Announce = inr (inr (inl refl))
an_act TakeExclusive = inr (inr (inr (inl refl)))
an_act Retract = inr (inr (inr (inr (inl refl))))
an_act Leave = inr (inr (inr (inr (inr (inl refl)))))
an_act UpgradeToShared = inr (inr (inr (inr (inr (inr (inl refl))))))
an_act ExclusiveToShared = inr (inr (inr (inr (inr (inr (inr (inl refl)))))))
an_act ExclusiveToUpgrade = inr (inr (inr (inr (inr (inr (inr (inr (inl refl))))))))

abbrev fits_after : Role → Option Role → Bool
fits_after o None = true
fits_after o (Some r) = fits r o

-- where two roles fit, and the other doesn't bar the act, they fit after it
abbrev keeps : Policy → Act → Role → Role → Bool
keeps p a r o = not (fits r o) || (bars p a o || fits_after o (role_after a r))

all_keep : (p : Policy) → all_of acts (λ a. all_of roles (λ r. all_of roles (λ o. keeps p a r o))) ≡ true
all_keep WritePriority = refl
all_keep ReadPriority = refl

implied : (a b c : Bool) → not a || (b || c) ≡ true → a ≡ true → b ≡ false → c ≡ true
implied a b c h x y = sym (ap (λ (z : Bool). not z || (b || c)) x ∙ ap (λ (z : Bool). z || c) y) ∙ h

pub move_fits : (p : Policy) (a : Act) (r o s : Role) → fits r o ≡ true → bars p a o ≡ false → role_after a r ≡ Some s → fits s o ≡ true
move_fits p a r o s fit open_to is =
    let at_act = each_of acts (λ a. all_of roles (λ r. all_of roles (λ o. keeps p a r o))) a (all_keep p) (an_act a) in
    let at_role = each_of roles (λ r. all_of roles (λ o. keeps p a r o)) r at_act (a_role r) in
    sym (ap (fits_after o) is) ∙ implied (fits r o) (bars p a o) (fits_after o (role_after a r)) (each_of roles (λ o. keeps p a r o) o at_role (a_role o)) fit open_to

pub fits_outside : (r : Role) → fits r Outside ≡ true
fits_outside Outside = refl
fits_outside (Holds m) = refl
fits_outside (Announces f) = refl

pub fits_back : (r s : Role) → fits r s ≡ true → fits s r ≡ true
fits_back r s h =
    let at_role = each_of roles (λ r. all_of roles (λ s. not (fits r s) || (false || fits s r))) r refl (a_role r) in
    implied (fits r s) false (fits s r) (each_of roles (λ s. not (fits r s) || (false || fits s r)) s at_role (a_role s)) h refl

none_some : {A : Type 0} {a : A} → None ≡ Some a → ⊥
none_some e = cc

-- what an allowed event is: the seat's role can go on to another, no other seat bars it, and the list has the new role
pub record IsEvent (l : Lock) (seat : ℕ) (a : Act) (after : Lock) : Type 0 where
  pub role : Role
  pub turns : role_after a (role_in l.seats seat) ≡ Some role
  pub free : is_free l.policy a seat l.seats ≡ true
  pub becomes : after ≡ record { policy = l.policy; seats = with_role l.seats seat role }

pub after_event-is : (l after : Lock) (seat : ℕ) (a : Act) → after_event l seat a ≡ Some after → IsEvent l seat a after
after_event-is l after seat a e = by_role (role_after a (role_in l.seats seat)) refl e
  where
    by_role : (o : Option Role) → role_after a (role_in l.seats seat) ≡ o → given_role l seat a o ≡ Some after → IsEvent l seat a after
    by_role None is bad = absurd (none_some bad)
    by_role (Some r) is got = by_free (is_free l.policy a seat l.seats) refl got
      where
        by_free : (b : Bool) → is_free l.policy a seat l.seats ≡ b → (if b then Some record { policy = l.policy; seats = with_role l.seats seat r } else None) ≡ Some after → IsEvent l seat a after
        by_free true free same = record { role = r; turns = is; free = free; becomes = cc }
        by_free false free bad = absurd (none_some bad)

-- the role of a seat is that of an entry, or outside
role_in-has : (l : List SeatRole) (seat : ℕ) → Has l (seat_role seat (role_in l seat)) ⊎ (role_in l seat ≡ Outside)
role_in-has [] seat = inr refl
role_in-has (x ∷ xs) seat = dite (ℕ_discrete x.seat seat)
    (λ e. let is : role_in (x ∷ xs) seat ≡ x.role = ap (λ (b : Bool). if b then x.role else role_in xs seat) (eq-eqb x.seat seat e) in inl (inl (λ i. seat_role (sym e i) (is i))))
    (λ ne. let is : role_in (x ∷ xs) seat ≡ role_in xs seat = ap (λ (b : Bool). if b then x.role else role_in xs seat) (ne_eqb x.seat seat ne) in
    ⊎_elim (λ h. inl (inr (subst (λ (z : Role). Has xs (seat_role seat z)) (sym is) h))) (λ out. inr (is ∙ out)) (role_in-has xs seat))

-- an entry of the list with a new role is that one or an old one of another seat
with_role-cases : (l : List SeatRole) (seat : ℕ) (r : Role) (t : SeatRole) → Has (with_role l seat r) t → (t ≡ seat_role seat r) ⊎ Has l t
with_role-cases [] seat r t h = inl (⊎_elim (λ e. e) (λ bad. absurd bad) h)
with_role-cases (x ∷ xs) seat r t h = dite (ℕ_discrete x.seat seat)
    (λ e. ⊎_elim (λ is. inl is) (λ old. inr (inr old)) (subst (λ (l : List SeatRole). Has l t) (ap (λ (b : Bool). if b then seat_role seat r ∷ xs else x ∷ with_role xs seat r) (eq-eqb x.seat seat e)) h))
    (λ ne. ⊎_elim (λ is. inr (inl is)) (λ old. ⊎_elim (λ is. inl is) (λ there. inr (inr there)) (with_role-cases xs seat r t old)) (subst (λ (l : List SeatRole). Has l t) (ap (λ (b : Bool). if b then seat_role seat r ∷ xs else x ∷ with_role xs seat r) (ne_eqb x.seat seat ne)) h))

not_barred : (p : Policy) (a : Act) (seat : ℕ) (x : SeatRole) (xs : List SeatRole) → x.seat ≢ seat → is_free p a seat (x ∷ xs) ≡ true → bars p a x.role ≡ false
not_barred p a seat x xs ne h = let open_to = (if_false h).0 in ap (λ (b : Bool). not b && bars p a x.role) (sym (ne_eqb x.seat seat ne)) ∙ open_to

free_has : (p : Policy) (a : Act) (seat : ℕ) (l : List SeatRole) → is_free p a seat l ≡ true → (t : SeatRole) → Has l t → t.seat ≢ seat → bars p a t.role ≡ false
free_has p a seat [] h t bad ne = absurd bad
free_has p a seat (x ∷ xs) h t has ne = ⊎_elim (λ e. subst (λ (z : SeatRole). bars p a z.role ≡ false) (sym e) (not_barred p a seat x xs (λ same. ne (ap (λ (z : SeatRole). z.seat) e ∙ same)) h)) (λ old. free_has p a seat xs (if_false h).1 t old ne) has

with_role-lawful : (p : Policy) (a : Act) (l : List SeatRole) (seat : ℕ) (r : Role) → IsLawful l → role_after a (role_in l seat) ≡ Some r → is_free p a seat l ≡ true → IsLawful (with_role l seat r)
with_role-lawful p a [] seat r h turns free = ((λ t bad. absurd bad), tt)
with_role-lawful p a (x ∷ xs) seat r h turns free = dite (ℕ_discrete x.seat seat)
    (λ e.
    let yes = eq-eqb x.seat seat e in
    let turns' : role_after a x.role ≡ Some r = ap (λ (b : Bool). role_after a (if b then x.role else role_in xs seat)) (sym yes) ∙ turns in
    let now : IsLawful (seat_role seat r ∷ xs) = ((λ t has. let was = h.0 t has in (move_fits p a x.role t.role r was.0 (free_has p a seat xs (if_false free).1 t has (λ same. was.1 (e ∙ sym same))) turns', λ same. was.1 (e ∙ same))), h.1) in
    subst IsLawful (sym (ap (λ (b : Bool). if b then seat_role seat r ∷ xs else x ∷ with_role xs seat r) yes)) now)
    (λ ne.
    let no = ne_eqb x.seat seat ne in
    let turns' : role_after a (role_in xs seat) ≡ Some r = ap (λ (b : Bool). role_after a (if b then x.role else role_in xs seat)) (sym no) ∙ turns in
    let before : fits (role_in xs seat) x.role ≡ true = ⊎_elim (λ has. fits_back x.role (role_in xs seat) (h.0 (seat_role seat (role_in xs seat)) has).0) (λ out. ap (λ (z : Role). fits z x.role) out) (role_in-has xs seat) in
    let fresh : fits x.role r ≡ true = fits_back r x.role (move_fits p a (role_in xs seat) x.role r before (not_barred p a seat x xs ne free) turns') in
    let now : IsLawful (x ∷ with_role xs seat r) = (
      (λ t has. ⊎_elim (λ is. subst (λ (z : SeatRole). (fits x.role z.role ≡ true) × (x.seat ≢ z.seat)) (sym is) (fresh, ne)) (λ old. h.0 t old) (with_role-cases xs seat r t has)),
      with_role-lawful p a xs seat r h.1 turns' (if_false free).1,
    ) in
    subst IsLawful (sym (ap (λ (b : Bool). if b then seat_role seat r ∷ xs else x ∷ with_role xs seat r) no)) now)

-- each allowed event keeps a lawful lock lawful
pub after_event-lawful : (l after : Lock) (seat : ℕ) (a : Act) → IsLawful l.seats → after_event l seat a ≡ Some after → IsLawful after.seats
after_event-lawful l after seat a h e = let event = after_event-is l after seat a e in
    subst (λ (z : Lock). IsLawful z.seats) (sym event.becomes) (with_role-lawful l.policy a l.seats seat event.role h event.turns event.free)

-- under write priority no reader enters while a writer is announced
pub no_reader_passes : (l after : Lock) (seat : ℕ) → l.policy ≡ WritePriority → after_event l seat EnterShared ≡ Some after → (t : SeatRole) (f : Bool) → Has l.seats t → t.seat ≢ seat → t.role ≢ Announces f
no_reader_passes l after seat first e t f has ne is = let event = after_event-is l after seat EnterShared e in
    let barred : bars WritePriority EnterShared (Announces f) ≡ false = ap (λ (p : Policy). bars p EnterShared (Announces f)) (sym first) ∙ ap (bars l.policy EnterShared) (sym is) ∙ free_has l.policy EnterShared seat l.seats event.free t has ne in
    absurd (cc)
