-- A split and a join move nothing at the abstract locks that the views show.
use Rattle.std.proofs.Common.{◌≡◌, ℕ, zero, suc, ◌<◌, ◌≤◌, ◌≢◌, ◌==◌, if◌then◌else◌, List, [], ◌∷◌, ◌++◌, set, Bool, true, false, ne_eqb, eq-eqb, sym, refl, ap, ◌∙◌, subst, ⊎_elim, arith}
use mathlib.Core.Logic.{dite}
use mathlib.Core.Option.{some, some-injective, some-ne-none}
use native.Mathlib.Decide.{ℕ_discrete}
use Rattle.std.proofs.Math.Decide.{dec_lt}
use lib.ListN.{get_elem?}
use Rattle.atomic_table.proofs.Lists.{at_set, set_else}
use Rattle.lock_model.specs.declared.model.Role.{Role}
use Rattle.lock_model.specs.declared.model.Role.TheVariants.{Outside}
use Rattle.lock_model.specs.declared.model.SeatRole.{SeatRole}
use Rattle.lock_model.specs.Locks.{seat_role, role_in}
use Rattle.hall.specs.declared.cargo.CargoRule.{Ghosts}
use Rattle.hall.specs.declared.view.View.{View}
use Rattle.hall.specs.declared.view.Plan.{Plan}
use Rattle.hall.specs.declared.view.Standing.TheVariants.{Away}
use Rattle.hall.specs.Moves.{role_of, shown}
use Rattle.hall.specs.ShownLaws.{Alone, entry, shown_spent, shown_living}
use Rattle.hall.specs.NumberLaws.{numbers_differ}
use Rattle.hall.specs.Views.{standing, split_left, split_right, joined_view, spent_view}
use Rattle.hall.specs.Partings.{Met, SplitMoment, SplitKeeps, JoinKeeps}
use Rattle.hall.proofs.Dividing.{splits, joins}
use Rattle.hall.specs.SlotLaws.{away_in}

-- a seat that is outside may stand in the list or not
role_last : (l : List SeatRole) (n seat : ℕ) → role_in (l ++ seat_role n Outside ∷ []) seat ≡ role_in l seat
role_last [] n seat = elim (n == seat) as (λ b. (if b then Outside else Outside) ≡ Outside) [ true ↦ refl | false ↦ refl ]
role_last (x ∷ xs) n seat = ap (λ (r : Role). if x.seat == seat then x.role else r) (role_last xs n seat)

module _ {P : Type 0} where
  -- a pass that keeps its number and its role is shown as before, with however many spare numbers
  shown_kept : (views : List (View P)) (id lock : ℕ) (v w : View P) → get_elem? views id ≡ some v → 0 < v.span → 0 < w.span → w.number ≡ v.number → role_of (standing w lock) ≡ role_of (standing v lock) → shown lock (set views id w) ≡ shown lock views
  shown_kept [] id lock v w e lives living number role = absurd (some-ne-none v (sym e))
  shown_kept (x ∷ xs) zero lock v w e lives living number role =
      shown_living lock w xs living ∙ (λ i. seat_role (number i) (role i) ∷ shown lock xs) ∙ sym (shown_living lock v xs lives) ∙ ap (λ (z : View P). shown lock (z ∷ xs)) (sym (some-injective x v e))
  shown_kept (x ∷ xs) (suc id) lock v w e lives living number role = ap (λ (l : List SeatRole). if x.span == 0 then l else entry lock x ∷ l) (shown_kept xs id lock v w e lives living number role)

  shown_last : (views : List (View P)) (lock : ℕ) (r : View P) → 0 < r.span → standing r lock ≡ Away → shown lock (views ++ r ∷ []) ≡ shown lock views ++ seat_role r.number Outside ∷ []
  shown_last [] lock r living off = shown_living lock r [] living ∙ ap (λ z. seat_role r.number (role_of z) ∷ []) off
  shown_last (x ∷ xs) lock r living off = dite (dec_lt 0 x.span)
      (λ here. shown_living lock x (xs ++ r ∷ []) here ∙ ap (λ (l : List SeatRole). entry lock x ∷ l) (shown_last xs lock r living off) ∙ ap (λ (l : List SeatRole). l ++ seat_role r.number Outside ∷ []) (sym (shown_living lock x xs here)))
      (λ dead. shown_spent lock x (xs ++ r ∷ []) (omega arith) ∙ shown_last xs lock r living off ∙ ap (λ (l : List SeatRole). l ++ seat_role r.number Outside ∷ []) (sym (shown_spent lock x xs (omega arith))))

  -- a number that no pass has is outside
  role_nobody : (views : List (View P)) (lock n : ℕ) → ((j : ℕ) (u : View P) → get_elem? views j ≡ some u → 0 < u.span → u.number ≢ n) → role_in (shown lock views) n ≡ Outside
  role_nobody [] lock n none = refl
  role_nobody (x ∷ xs) lock n none =
      let rest : role_in (shown lock xs) n ≡ Outside = role_nobody xs lock n (λ j u e. none (suc j) u e) in
      dite (dec_lt 0 x.span)
      (λ here. ap (λ (l : List SeatRole). role_in l n) (shown_living lock x xs here) ∙ ap (λ (b : Bool). if b then role_of (standing x lock) else role_in (shown lock xs) n) (ne_eqb x.number n (none zero x refl here)) ∙ rest)
      (λ dead. ap (λ (l : List SeatRole). role_in l n) (shown_spent lock x xs (omega arith)) ∙ rest)

  -- a pass that was away and is spent is missed at no lock
  role_spent : (views : List (View P)) (other lock seat : ℕ) (w z : View P) → get_elem? views other ≡ some w → 0 < w.span → standing w lock ≡ Away → z.span ≡ 0 → Alone views other w.number → role_in (shown lock (set views other z)) seat ≡ role_in (shown lock views) seat
  role_spent [] other lock seat w z e lives off gone alone = absurd (some-ne-none w (sym e))
  role_spent (x ∷ xs) zero lock seat w z e lives off gone alone =
      let is : w ≡ x = sym (some-injective x w e) in
      let unseen : role_in (shown lock (z ∷ xs)) seat ≡ role_in (shown lock xs) seat = ap (λ (l : List SeatRole). role_in l seat) (shown_spent lock z xs gone) in
      let first : role_in (shown lock (w ∷ xs)) seat ≡ (if w.number == seat then Outside else role_in (shown lock xs) seat) = ap (λ (l : List SeatRole). role_in l seat) (shown_living lock w xs lives) ∙ ap (λ s. if w.number == seat then role_of s else role_in (shown lock xs) seat) off in
      let same : role_in (shown lock xs) seat ≡ (if w.number == seat then Outside else role_in (shown lock xs) seat) = dite (ℕ_discrete w.number seat)
      (λ e. role_nobody xs lock seat (λ j u there living here. alone (suc j) u there (λ k. omega (arith, k)) living (here ∙ sym e)) ∙ ap (λ (b : Bool). if b then Outside else role_in (shown lock xs) seat) (sym (eq-eqb w.number seat e)))
      (λ ne. ap (λ (b : Bool). if b then Outside else role_in (shown lock xs) seat) (sym (ne_eqb w.number seat ne))) in
      unseen ∙ same ∙ sym first ∙ ap (λ (y : View P). role_in (shown lock (y ∷ xs)) seat) is
  role_spent (x ∷ xs) (suc other) lock seat w z e lives off gone alone =
      let rest : role_in (shown lock (set xs other z)) seat ≡ role_in (shown lock xs) seat = role_spent xs other lock seat w z e lives off gone (λ j u at ne. alone (suc j) u at (λ same. ne (omega (arith, same)))) in
      dite (dec_lt 0 x.span)
      (λ here. ap (λ (l : List SeatRole). role_in l seat) (shown_living lock x (set xs other z) here) ∙ ap (λ (r : Role). if x.number == seat then role_of (standing x lock) else r) rest ∙ ap (λ (l : List SeatRole). role_in l seat) (sym (shown_living lock x xs here)))
      (λ dead. ap (λ (l : List SeatRole). role_in l seat) (shown_spent lock x (set xs other z) (omega arith)) ∙ rest ∙ ap (λ (l : List SeatRole). role_in l seat) (sym (shown_spent lock x xs (omega arith))))

module _ {C P : Type 0} (g : Ghosts C P) (v : View P) (lives : 0 < v.span) where
  module _ (seats quota : ℕ) (some_seats : 0 < seats) (few : seats < v.span) (enough : quota ≤ v.quota) where
    abbrev left : View P
    left = split_left seats quota (g.kept v.part) v

    abbrev right : View P
    right = split_right seats quota (g.split_off v.part) v

    pub split_keeps : (plan : Plan C) (id : ℕ) → SplitKeeps g plan id v left right
    split_keeps plan id s h at = (
      splits g plan s h id v at lives seats quota some_seats few enough,
      λ lock seat. ap (λ (l : List SeatRole). role_in l seat) (shown_last (set s.views id left) lock right some_seats (away_in v.shape.locks lock))
          ∙ role_last (shown lock (set s.views id left)) right.number seat
          ∙ ap (λ (l : List SeatRole). role_in l seat) (shown_kept s.views id lock v left at lives (omega arith) refl refl),
    )

    pub split_moment : Met g v → SplitMoment g v left right
    split_moment m = let k = split_keeps m.plan m.id m.state m.holds m.mine in record { plan = m.plan; state = m.state; id = m.id; shape = m.shape; mine = m.mine; before = m.holds; after = k.0; still = k.1 }

    -- the same of the views that the code leaves, which a look lies before
    module _ (u l r : View P) (same : u ≡ v) (is_left : l ≡ split_left seats quota (g.kept u.part) u) (is_right : r ≡ split_right seats quota (g.split_off u.part) u) where
      left_is : left ≡ l
      left_is = sym (is_left ∙ ap (λ (z : View P). split_left seats quota (g.kept z.part) z) same)

      right_is : right ≡ r
      right_is = sym (is_right ∙ ap (λ (z : View P). split_right seats quota (g.split_off z.part) z) same)

      pub split_told : Met g v → SplitMoment g v l r
      split_told m = subst (λ (z : View P). SplitMoment g v l z) right_is (subst (λ (z : View P). SplitMoment g v z right) left_is (split_moment m))

      pub split_kept : (plan : Plan C) (id : ℕ) → SplitKeeps g plan id v l r
      split_kept plan id = subst (λ (z : View P). SplitKeeps g plan id v l z) right_is (subst (λ (z : View P). SplitKeeps g plan id v z right) left_is (split_keeps plan id))

  pub join_keeps : (w : View P) → 0 < w.span → ((lock : ℕ) → standing w lock ≡ Away) → g.rested w.part → (plan : Plan C) (id other : ℕ) → JoinKeeps g plan id other v w (joined_view (g.joined v.part w.part) v w)
  join_keeps w lives' off calm plan id other s h at there ne =
      let both : View P = joined_view (g.joined v.part w.part) v w in
      let still : get_elem? (set s.views id both) other ≡ some w = set_else s.views id other both ne ∙ there in (
        joins g plan s h id other v w at ne there lives lives' off calm,
        λ lock seat. role_spent (set s.views id both) other lock seat w (spent_view g.spent) still lives' (off lock) refl
            (λ j u e far living. ⊎_elim
            (λ t. subst (λ (z : View P). z.number ≢ w.number) t.1 (λ same. numbers_differ plan.shape.seats s.views id other v w h.numbered at there ne lives lives' (sym same)))
            (λ t. numbers_differ plan.shape.seats s.views other j w u h.numbered there t.1 far lives' living)
            (at_set s.views id j both u e))
            ∙ ap (λ (l : List SeatRole). role_in l seat) (shown_kept s.views id lock v both at lives lives refl refl),
      )

  pub join_told : (w both : View P) → 0 < w.span → ((lock : ℕ) → standing w lock ≡ Away) → g.rested w.part → both ≡ joined_view (g.joined v.part w.part) v w → (plan : Plan C) (id other : ℕ) → JoinKeeps g plan id other v w both
  join_told w both lives' off calm is plan id other = subst (λ (z : View P). JoinKeeps g plan id other v w z) (sym is) (join_keeps w lives' off calm plan id other)
