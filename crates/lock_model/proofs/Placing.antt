-- The place of a seat in the list.
use Rattle.std.proofs.Common.{◌≡◌, ◌≢◌, ℕ, zero, suc, ◌+◌, ◌<◌, ◌≤◌, ◌++◌, List, [], ◌∷◌, get_or, set, length, sym, ap, ◌∙◌, subst, arith}
use native.Mathlib.Decide.{ℕ_discrete}
use mathlib.Core.Logic.{dite}
use mathlib.Core.Option.{some, some-injective}
use lib.ListN.{get_elem?}
use Rattle.lock_model.specs.declared.model.Role.{Role}
use Rattle.lock_model.specs.declared.model.SeatRole.{SeatRole}
use Rattle.lock_model.specs.Locks.{seat_role, with_role}
use Rattle.lock_model.specs.Moves.{NotBefore, with_role-at, with_role-none}

at_index : {A : Type 0} (l : List A) (i : ℕ) (x : A) → i < length l → x ≡ get_or l i x → get_elem? l i ≡ some x
at_index [] i x h e = absurd (omega arith)
at_index (y ∷ ys) zero x h e = ap some (sym e)
at_index (y ∷ ys) (suc i) x h e = at_index ys i x (omega arith) e

module _ (now l : List SeatRole) (is : now ≡ l) (i seat : ℕ) (h : NotBefore now i seat) where
  pub found : (x : SeatRole) → i < length l → x ≡ get_or l i x → x.seat ≡ seat → (i < length now) × ((r : Role) → with_role now seat r ≡ set now i (seat_role seat r))
  found x inside e same =
      let there : get_elem? now i ≡ some x = ap (λ (z : List SeatRole). get_elem? z i) is ∙ at_index l i x inside e in (
        subst (λ (z : List SeatRole). i < length z) (sym is) inside,
        λ r. subst (λ (s : ℕ). with_role now s r ≡ set now i (seat_role s r)) same (with_role-at now i x r there (subst (NotBefore now i) (sym same) h)),
      )

  pub passed : (x : SeatRole) → i < length l → x ≡ get_or l i x → x.seat ≢ seat → NotBefore now (i + 1) seat
  passed x inside e other j t at before = dite (ℕ_discrete j i)
      (λ same same_seat. other (ap (λ (z : SeatRole). z.seat) (some-injective x t (sym (at_index l i x inside e) ∙ ap (λ (k : ℕ). get_elem? l k) (sym same) ∙ ap (λ (z : List SeatRole). get_elem? z j) (sym is) ∙ at)) ∙ same_seat))
      (λ ne. h j t at (omega (arith, ne)))

  pub ended : length l ≤ i → (r : Role) → with_role now seat r ≡ now ++ seat_role seat r ∷ []
  ended past r = with_role-none now seat r (λ j t at before. h j t at (let e : length now ≡ length l = ap (λ (z : List SeatRole). length z) is in omega arith))
