-- What a step does to the abstract lock that the views show.
use Rattle.std.proofs.Common.{◌≡◌, ℕ, zero, suc, ◌<◌, ◌≢◌, ◌==◌, ◌&&◌, not, if◌then◌else◌, List, [], ◌∷◌, set, Bool, true, false, ne_eqb, eq-eqb, sym, refl, ap, ◌∙◌, subst, ⊎_elim, arith, Some, None}
use mathlib.Core.Logic.{dite}
use mathlib.Core.Option.{some, some-injective, some-ne-none}
use native.Mathlib.Decide.{ℕ_discrete}
use Rattle.std.proofs.Math.Decide.{dec_lt}
use lib.ListN.{get_elem?}
use Rattle.lock_model.specs.declared.model.Policy.{Policy}
use Rattle.lock_model.specs.declared.model.Role.{Role}
use Rattle.lock_model.specs.declared.model.Act.{Act}
use Rattle.lock_model.specs.declared.model.SeatRole.{SeatRole}
use Rattle.lock_model.specs.Locks.{Lock, Has, IsLawful, fits, seat_role, role_in, with_role, is_free, bars, role_after, given_role, after_event}
use Rattle.hall.specs.declared.view.View.{View}
use Rattle.hall.specs.Views.{standing}
use Rattle.hall.specs.Moves.{role_of, shown, lock_shown}

module _ {P : Type 0} where
  abbrev pub entry : ℕ → View P → SeatRole
  entry lock v = seat_role v.number (role_of (standing v lock))

  pub shown_spent : (lock : ℕ) (v : View P) (vs : List (View P)) → v.span ≡ 0 → shown lock (v ∷ vs) ≡ shown lock vs
  shown_spent lock v vs e = ap (λ (b : Bool). if b then shown lock vs else entry lock v ∷ shown lock vs) (eq-eqb v.span 0 e)

  pub shown_living : (lock : ℕ) (v : View P) (vs : List (View P)) → 0 < v.span → shown lock (v ∷ vs) ≡ entry lock v ∷ shown lock vs
  shown_living lock v vs lives = ap (λ (b : Bool). if b then shown lock vs else entry lock v ∷ shown lock vs) (ne_eqb v.span 0 (λ e. omega (arith, e)))

  -- a step that changes no role at a lock
  pub shown_same : (views : List (View P)) (id lock : ℕ) (v w : View P) → get_elem? views id ≡ some v → w.number ≡ v.number → w.span ≡ v.span → role_of (standing w lock) ≡ role_of (standing v lock) → shown lock (set views id w) ≡ shown lock views
  shown_same [] id lock v w e number span role = absurd (some-ne-none v (sym e))
  shown_same (x ∷ xs) zero lock v w e number span role = (λ i. if span i == 0 then shown lock xs else seat_role (number i) (role i) ∷ shown lock xs) ∙ ap (λ (z : View P). shown lock (z ∷ xs)) (sym (some-injective x v e))
  shown_same (x ∷ xs) (suc id) lock v w e number span role = ap (λ (l : List SeatRole). if x.span == 0 then l else entry lock x ∷ l) (shown_same xs id lock v w e number span role)

  pub shown_has : (views : List (View P)) (lock : ℕ) (t : SeatRole) → Has (shown lock views) t → (j : ℕ) × (u : View P) × (get_elem? views j ≡ some u) × (0 < u.span) × (t ≡ entry lock u)
  shown_has [] lock t h = absurd h
  shown_has (x ∷ xs) lock t h = dite (dec_lt 0 x.span)
      (λ lives. ⊎_elim (λ is. (zero, x, refl, lives, is)) (λ old. let r = shown_has xs lock t old in (suc r.0, r.1, r.2, r.3, r.4)) (subst (λ (l : List SeatRole). Has l t) (shown_living lock x xs lives) h))
      (λ dead. let r = shown_has xs lock t (subst (λ (l : List SeatRole). Has l t) (shown_spent lock x xs (omega arith)) h) in (suc r.0, r.1, r.2, r.3, r.4))

  -- no other pass that isn't spent has the number
  abbrev pub Alone : List (View P) → ℕ → ℕ → Type 0
  Alone views id n = (j : ℕ) (u : View P) → get_elem? views j ≡ some u → j ≢ id → 0 < u.span → u.number ≢ n

  role_shown : (views : List (View P)) (id lock : ℕ) (v : View P) → get_elem? views id ≡ some v → 0 < v.span → Alone views id v.number → role_in (shown lock views) v.number ≡ role_of (standing v lock)
  role_shown [] id lock v e lives alone = absurd (some-ne-none v (sym e))
  role_shown (x ∷ xs) zero lock v e lives alone = let is : v ≡ x = sym (some-injective x v e) in
      subst (λ (z : View P). role_in (shown lock (z ∷ xs)) v.number ≡ role_of (standing v lock)) is
      (ap (λ (l : List SeatRole). role_in l v.number) (shown_living lock v xs lives) ∙ ap (λ (b : Bool). if b then role_of (standing v lock) else role_in (shown lock xs) v.number) (eq-eqb v.number v.number refl))
  role_shown (x ∷ xs) (suc id) lock v e lives alone =
      let rest : role_in (shown lock xs) v.number ≡ role_of (standing v lock) = role_shown xs id lock v e lives (λ j u at ne. alone (suc j) u at (λ same. ne (omega (arith, same)))) in
      dite (dec_lt 0 x.span)
      (λ living. ap (λ (l : List SeatRole). role_in l v.number) (shown_living lock x xs living) ∙ ap (λ (b : Bool). if b then role_of (standing x lock) else role_in (shown lock xs) v.number) (ne_eqb x.number v.number (alone zero x refl (λ same. omega (arith, same)) living)) ∙ rest)
      (λ dead. ap (λ (l : List SeatRole). role_in l v.number) (shown_spent lock x xs (omega arith)) ∙ rest)

  with_role_shown : (views : List (View P)) (id lock : ℕ) (v w : View P) → get_elem? views id ≡ some v → w.number ≡ v.number → w.span ≡ v.span → 0 < v.span → Alone views id v.number → with_role (shown lock views) v.number (role_of (standing w lock)) ≡ shown lock (set views id w)
  with_role_shown [] id lock v w e number span lives alone = absurd (some-ne-none v (sym e))
  with_role_shown (x ∷ xs) zero lock v w e number span lives alone = let is : v ≡ x = sym (some-injective x v e) in let r : Role = role_of (standing w lock) in
      subst (λ (z : View P). with_role (shown lock (z ∷ xs)) v.number r ≡ shown lock (w ∷ xs)) is
      (ap (λ (l : List SeatRole). with_role l v.number r) (shown_living lock v xs lives) ∙ ap (λ (b : Bool). if b then seat_role v.number r ∷ shown lock xs else entry lock v ∷ with_role (shown lock xs) v.number r) (eq-eqb v.number v.number refl)
      ∙ ap (λ (n : ℕ). seat_role n r ∷ shown lock xs) (sym number) ∙ sym (shown_living lock w xs (omega (arith, span))))
  with_role_shown (x ∷ xs) (suc id) lock v w e number span lives alone = let r : Role = role_of (standing w lock) in
      let rest : with_role (shown lock xs) v.number r ≡ shown lock (set xs id w) = with_role_shown xs id lock v w e number span lives (λ j u at ne. alone (suc j) u at (λ same. ne (omega (arith, same)))) in
      dite (dec_lt 0 x.span)
      (λ living. ap (λ (l : List SeatRole). with_role l v.number r) (shown_living lock x xs living) ∙ ap (λ (b : Bool). if b then seat_role v.number r ∷ shown lock xs else entry lock x ∷ with_role (shown lock xs) v.number r) (ne_eqb x.number v.number (alone zero x refl (λ same. omega (arith, same)) living))
      ∙ ap (λ (l : List SeatRole). entry lock x ∷ l) rest ∙ sym (shown_living lock x (set xs id w) living))
      (λ dead. ap (λ (l : List SeatRole). with_role l v.number r) (shown_spent lock x xs (omega arith)) ∙ rest ∙ sym (shown_spent lock x (set xs id w) (omega arith)))

  free_shown : (p : Policy) (a : Act) (n : ℕ) (views : List (View P)) (lock : ℕ) → ((j : ℕ) (u : View P) → get_elem? views j ≡ some u → 0 < u.span → u.number ≢ n → bars p a (role_of (standing u lock)) ≡ false) → is_free p a n (shown lock views) ≡ true
  free_shown p a n [] lock h = refl
  free_shown p a n (x ∷ xs) lock h =
      let rest : is_free p a n (shown lock xs) ≡ true = free_shown p a n xs lock (λ j u e. h (suc j) u e) in
      dite (dec_lt 0 x.span)
      (λ living. ap (is_free p a n) (shown_living lock x xs living) ∙ ap (λ (b : Bool). if b then false else is_free p a n (shown lock xs))
      (dite (ℕ_discrete x.number n) (λ e. ap (λ (b : Bool). not b && bars p a (role_of (standing x lock))) (eq-eqb x.number n e)) (λ ne. ap (λ (b : Bool). not b && bars p a (role_of (standing x lock))) (ne_eqb x.number n ne) ∙ h zero x refl living ne)) ∙ rest)
      (λ dead. ap (is_free p a n) (shown_spent lock x xs (omega arith)) ∙ rest)

  -- a step whose role goes by the table, and which no other pass bars, is that act of the lock shown
  pub acts : (p : Policy) (a : Act) (views : List (View P)) (id lock : ℕ) (v w : View P) → get_elem? views id ≡ some v → w.number ≡ v.number → w.span ≡ v.span → 0 < v.span → Alone views id v.number
      → role_after a (role_of (standing v lock)) ≡ Some (role_of (standing w lock))
      → ((j : ℕ) (u : View P) → get_elem? views j ≡ some u → j ≢ id → bars p a (role_of (standing u lock)) ≡ false)
      → after_event (lock_shown p lock views) v.number a ≡ Some (lock_shown p lock (set views id w))
  acts p a views id lock v w at number span lives alone table open_to =
      let l : Lock = lock_shown p lock views in let r : Role = role_of (standing w lock) in
      let free : is_free p a v.number (shown lock views) ≡ true = free_shown p a v.number views lock (λ j u e living ne. dite (ℕ_discrete j id)
      (λ same. absurd (ne (ap (λ (z : View P). z.number) (some-injective u v (sym e ∙ ap (get_elem? views) same ∙ at)))))
      (λ other. open_to j u e other)) in
      ap (given_role l v.number a) (ap (role_after a) (role_shown views id lock v at lives alone) ∙ table)
      ∙ ap (λ (b : Bool). if b then Some (record { policy = p; seats = with_role (shown lock views) v.number r }) else None) free
      ∙ ap (λ (z : List SeatRole). Some (record { policy = p; seats = z })) (with_role_shown views id lock v w at number span lives alone)

  -- the lock shown is lawful where the roles of any two passes fit, and their numbers differ
  pub shown_lawful : (views : List (View P)) (lock : ℕ) → ((j k : ℕ) (v u : View P) → get_elem? views j ≡ some v → get_elem? views k ≡ some u → j ≢ k → 0 < v.span → 0 < u.span → (fits (role_of (standing v lock)) (role_of (standing u lock)) ≡ true) × (v.number ≢ u.number)) → IsLawful (shown lock views)
  shown_lawful [] lock h = tt
  shown_lawful (x ∷ xs) lock h =
      let rest : IsLawful (shown lock xs) = shown_lawful xs lock (λ j k v u e f ne. h (suc j) (suc k) v u e f (λ same. ne (omega (arith, same)))) in
      dite (dec_lt 0 x.span)
      (λ living. subst IsLawful (sym (shown_living lock x xs living)) (
        (λ t has. let r = shown_has xs lock t has in subst (λ (z : SeatRole). (fits (role_of (standing x lock)) z.role ≡ true) × (x.number ≢ z.seat)) (sym r.4) (h zero (suc r.0) x r.1 refl r.2 (λ same. omega (arith, same)) living r.3)),
        rest,
      ))
      (λ dead. subst IsLawful (sym (shown_spent lock x xs (omega arith))) rest)
