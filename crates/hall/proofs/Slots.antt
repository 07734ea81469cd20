-- Tokens in slots: what the sweep has passed is covered by undecided passes, and each step on a slot keeps the counts.
use Rattle.std.proofs.Common.{◌≡◌, ℕ, zero, suc, ◌+◌, ◌*◌, ◌%◌, ◌<◌, ◌≤◌, ◌≢◌, Bool, true, false, cond, eqb, eq-eqb, ne_eqb, nat_lt, lt-ltb, le-ltb, subst, List, [], ◌∷◌, get_or, sym, refl, ap, ◌∙◌, arith}
use mathlib.Core.Logic.{dite}
use mathlib.Core.Option.{some}
use lib.ListN.{get_elem?}
use native.Mathlib.Decide.{ℕ_discrete}
use Rattle.std.proofs.Math.Decide.{dec_lt}
use Rattle.hall.specs.declared.view.View.{View}
use Rattle.hall.specs.declared.view.Standing.{Standing}
use Rattle.hall.specs.declared.view.Standing.TheVariants.{Away, Inline, Slotted, Undecided, Owing, Upgrade, Exclusive, Announcing}
use Rattle.view_sums.specs.Sums.{total, total-le, one_there}
use Rattle.state_word.specs.Words.{may_defer_of}
use Rattle.hall.specs.Locks.{Tally, weight, Lawful, IsSwept, below, count, cover, naming, named_by}
use Rattle.hall.specs.Views.{standing}
use Rattle.hall.proofs.Locking.{plus}
use Rattle.hall.proofs.Arith.{units}
use Rattle.hall.specs.Shows.{law_bits}

below_le : (f g : ℕ → ℕ) (n : ℕ) → ((k : ℕ) → k < n → f k ≤ g k) → below f n ≤ below g n
below_le f g zero h = omega arith
below_le f g (suc n) h = omega (arith, below_le f g n (λ k b. h k (omega arith)), h n (omega arith))

below_plus : (f g : ℕ → ℕ) (n : ℕ) → below (λ k. f k + g k) n ≡ below f n + below g n
below_plus f g zero = refl
below_plus f g (suc n) = omega (arith, below_plus f g n)

below_none : (n : ℕ) → below (λ k. 0) n ≡ 0
below_none zero = refl
below_none (suc n) = omega (arith, below_none n)

-- only the number j has the weight x
at_one : (j x n : ℕ) → (n ≤ j → below (λ k. cond (eqb j k) x 0) n ≡ 0) × (j < n → below (λ k. cond (eqb j k) x 0) n ≡ x)
at_one j x zero = ((λ _. refl), λ h. absurd (omega arith))
at_one j x (suc n) =
    let before = at_one j x n in
    dite (ℕ_discrete j n)
    (λ e. let here : cond (eqb j n) x 0 ≡ x = ap (λ b. cond b x 0) (eq-eqb j n e) in ((λ h. absurd (omega arith)), λ h. omega (arith, before.0 (omega arith), here)))
    (λ ne. let here : cond (eqb j n) x 0 ≡ 0 = ap (λ b. cond b x 0) (ne_eqb j n ne) in ((λ h. omega (arith, before.0 (omega arith), here)), λ h. omega (arith, before.1 (omega arith), here)))

at_most_one : (j n : ℕ) → below (λ k. cond (eqb j k) 1 0) n ≤ 1
at_most_one j n = dite (dec_lt j n) (λ h. omega (arith, (at_one j 1 n).1 h)) (λ no. omega (arith, (at_one j 1 n).0 (omega arith)))

-- 1 where the standing is undecided about the slot k
abbrev pub about : ℕ → Standing → ℕ
about k Away = 0
about k Inline = 0
about k (Slotted j) = 0
about k (Undecided j) = cond (eqb j k) 1 0
about k Owing = 0
about k Upgrade = 0
about k Exclusive = 0
about k (Announcing p h f) = 0

about_once : (x : Standing) (n : ℕ) → below (λ k. about k x) n ≤ (weight x).undecided
about_once x n = elim x as (λ z. below (λ k. about k z) n ≤ (weight z).undecided) [
  | Away ↦ omega (arith, below_none n)
  | Inline ↦ omega (arith, below_none n)
  | Slotted j ↦ omega (arith, below_none n)
  | Undecided j ↦ at_most_one j n
  | Owing ↦ omega (arith, below_none n)
  | Upgrade ↦ omega (arith, below_none n)
  | Exclusive ↦ omega (arith, below_none n)
  | Announcing p h f ↦ omega (arith, below_none n)
]

pub names_yes : (lock x : ℕ) → x ≡ lock + 1 → naming lock x ≡ 1
names_yes lock x e = ap (λ b. cond b 1 0) (eq-eqb x (lock + 1) e)

pub names_no : (lock x : ℕ) → x ≢ lock + 1 → naming lock x ≡ 0
names_no lock x ne = ap (λ b. cond b 1 0) (ne_eqb x (lock + 1) ne)

one_announced : (f : Bool) → cond f 0 1 + cond f 1 0 ≡ 1
one_announced f = elim f as (λ b. cond b 0 1 + cond b 1 0 ≡ 1) [ true ↦ refl | false ↦ refl ]

module _ {P : Type 0} (lock : ℕ) where
  abbrev pub undecided : ℕ → List (View P) → ℕ
  undecided k views = total (λ v. about k (standing v lock)) views

  swap : (views : List (View P)) (n : ℕ) → below (λ k. undecided k views) n ≤ total (count (λ t. t.undecided) lock) views
  swap [] n = omega (arith, below_none n)
  swap (v ∷ vs) n = omega (arith, below_plus (λ k. about k (standing v lock)) (λ k. undecided k vs) n, swap vs n, about_once (standing v lock) n)

  -- each slot below the edge that names the lock is one of an undecided pass
  abbrev pub Swept : ℕ → List ℕ → List (View P) → Type 0
  Swept edge words views = (k : ℕ) → k < edge → get_or words k 0 ≡ lock + 1 → 1 ≤ undecided k views

  -- so there are no more such slots than undecided passes
  pub swept_named : (slots : ℕ) (words : List ℕ) (views : List (View P)) → Swept slots words views → named_by slots lock words ≤ total (count (λ t. t.undecided) lock) views
  swept_named slots words views h = omega (
    arith,
    swap views slots,
    below_le (λ k. naming lock (get_or words k 0)) (λ k. undecided k views) slots (λ k b.
        dite (ℕ_discrete (get_or words k 0) (lock + 1)) (λ e. omega (arith, h k b e, names_yes lock (get_or words k 0) e)) (λ ne. omega (arith, names_no lock (get_or words k 0) ne))),
  )

  -- and fewer, by those that are undecided about a slot that doesn't name it
  pub swept_fewer : (slots j : ℕ) (words : List ℕ) (views : List (View P)) → Swept slots words views → j < slots → get_or words j 0 ≢ lock + 1 → named_by slots lock words + undecided j views ≤ total (count (λ t. t.undecided) lock) views
  swept_fewer slots j words views h inside other =
      let U : ℕ = undecided j views in
      omega (
        arith,
        swap views slots,
        below_plus (λ k. naming lock (get_or words k 0)) (λ k. cond (eqb j k) U 0) slots,
        (at_one j U slots).1 inside,
        below_le (λ k. naming lock (get_or words k 0) + cond (eqb j k) U 0) (λ k. undecided k views) slots (λ k b.
            dite (ℕ_discrete j k)
            (λ same. let off : naming lock (get_or words k 0) ≡ 0 = ap (λ (i : ℕ). naming lock (get_or words i 0)) (sym same) ∙ names_no lock (get_or words j 0) other in
            omega (arith, off, ap (λ b. cond b U 0) (eq-eqb j k same), ap (λ (i : ℕ). undecided i views) same))
            (λ ne. let skip : cond (eqb j k) U 0 ≡ 0 = ap (λ b. cond b U 0) (ne_eqb j k ne) in
            dite (ℕ_discrete (get_or words k 0) (lock + 1)) (λ e. omega (arith, skip, h k b e, names_yes lock (get_or words k 0) e)) (λ off. omega (arith, skip, names_no lock (get_or words k 0) off)))),
      )

-- an announced writer with this standing has looked at every slot
abbrev pub Done : ℕ → Standing → Type 0
Done slots Away = Unit {0}
Done slots Inline = Unit {0}
Done slots (Slotted k) = Unit {0}
Done slots (Undecided k) = Unit {0}
Done slots Owing = Unit {0}
Done slots Upgrade = Unit {0}
Done slots Exclusive = Unit {0}
Done slots (Announcing p h f) = p ≡ slots

pub cover_about : (k : ℕ) (x : Standing) → (weight x).plain + (weight x).raised ≤ 0 → cover k x ≤ about k x
cover_about k x h = elim x as (λ z. (weight z).plain + (weight z).raised ≤ 0 → cover k z ≤ about k z) [
  | Announcing p j f ↦ λ h. absurd (omega (arith, one_announced f))
  | _ ↦ λ h. omega arith
] h

cover_done : (k slots : ℕ) (x : Standing) → k < slots → Done slots x → cover k x ≤ about k x
cover_done k slots x inside h = elim x as (λ z. Done slots z → cover k z ≤ about k z) [
  | Announcing p j f ↦ λ e. let past : nat_lt k p ≡ true = lt-ltb k p (omega (arith, e)) in omega (arith, ap {B = ℕ} (λ (b : Bool). cond b 0 1) past)
  | _ ↦ λ h. omega arith
] h

-- who was just announced accounts for every slot
pub cover_start : (k : ℕ) (f : Bool) → cover k (Announcing 0 0 f) ≡ 1
cover_start k f = ap {B = ℕ} (λ (b : Bool). cond b 0 1) (le-ltb k 0 (omega arith))

-- where nobody else is announced, the sweep is done and readers don't defer, each slot that names the lock is one of an undecided pass
pub swept_done : {P : Type 0} (slots lock : ℕ) (words : List ℕ) (views : List (View P)) (id : ℕ) (v : View P) → get_elem? views id ≡ some v → IsSwept slots lock words views → may_defer_of (get_or words (slots + lock) 0) ≡ 0 → Done slots (standing v lock)
    → ((j : ℕ) (u : View P) → get_elem? views j ≡ some u → j ≢ id → (weight (standing u lock)).plain + (weight (standing u lock)).raised ≤ 0)
    → named_by slots lock words ≤ total (count (λ t. t.undecided) lock) views
swept_done {P} slots lock words views id v at swept clear looked none = swept_named lock slots words views (λ k inside names.
    let each : (j : ℕ) (u : View P) → get_elem? views j ≡ some u → cover k (standing u lock) ≤ about k (standing u lock) = λ j u e. dite (ℕ_discrete j id)
    (λ same. cover_done k slots (standing u lock) inside (subst (λ (z : View P). Done slots (standing z lock)) (one_there views id v u at (subst (λ (i : ℕ). get_elem? views i ≡ some u) same e)) looked))
    (λ other. cover_about k (standing u lock) (none j u e other)) in
    omega (arith, swept k inside, names_yes lock (get_or words k 0) names, total-le (λ u. cover k (standing u lock)) (λ u. about k (standing u lock)) views each, clear))

-- a token is placed
pub place_lawful : (w named k : ℕ) (o : Tally) → Lawful w named (plus o (weight Away)) → units o < 1073741824 → Lawful w (named + 1) (plus o (weight (Undecided k)))
place_lawful w named k o h few = let s = h.shows in let a = h.alone in let nob = h.nobody in let bar = h.barred in
    record { bounded = h.bounded; may = h.may; bit = h.bit; shows = omega arith; alone = omega arith; nobody = λ e. omega (arith, nob (omega arith)); barred = λ e. bar (omega arith); drained = λ e. h.drained (omega arith) }

-- a check that finds deferral on
pub check_lawful : (w named k : ℕ) (o : Tally) → Lawful w named (plus o (weight (Undecided k))) → w % 2 ≡ 1 → Lawful w named (plus o (weight (Slotted k)))
check_lawful w named k o h on = let s = h.shows in let a = h.alone in let bar = h.barred in let b = (law_bits w named (plus o (weight (Undecided k))) h).0 in
    record { bounded = h.bounded; may = h.may; bit = h.bit; shows = omega arith; alone = omega arith; nobody = λ e. absurd (omega (arith, bar (omega arith))); barred = λ e. bar (omega arith); drained = λ e. h.drained (omega arith) }

-- a token is taken back by who placed it
pub withdraw_lawful : (w named k : ℕ) (o : Tally) → Lawful w (named + 1) (plus o (weight (Undecided k))) → units o < 1073741824 → Lawful w named (plus o (weight Away))
withdraw_lawful w named k o h few = let s = h.shows in let a = h.alone in let nob = h.nobody in let bar = h.barred in
    record { bounded = h.bounded; may = h.may; bit = h.bit; shows = omega arith; alone = omega arith; nobody = λ e. omega (arith, nob (omega arith)); barred = λ e. bar (omega arith); drained = λ e. h.drained (omega arith) }

-- a token is taken back by a reader that leaves
pub leave_lawful : (w named k : ℕ) (o : Tally) → Lawful w (named + 1) (plus o (weight (Slotted k))) → units o < 1073741824 → Lawful w named (plus o (weight Away))
leave_lawful w named k o h few = let s = h.shows in let a = h.alone in let nob = h.nobody in let bar = h.barred in
    record { bounded = h.bounded; may = h.may; bit = h.bit; shows = omega arith; alone = omega arith; nobody = λ e. absurd (omega (arith, nob (omega arith))); barred = λ e. bar (omega arith); drained = λ e. h.drained (omega arith) }

-- a token that was taken by another: the pass owes a unit. While the lock is held this can't be, since then each undecided pass has its token
pub owe_lawful : (w named k : ℕ) (o : Tally) → Lawful w named (plus o (weight (Undecided k))) → (1 ≤ o.exclusive → named ≤ o.undecided) → (o.plain + o.raised ≡ 0 → o.hand ≡ 0) → units o < 1073741824 → Lawful w named (plus o (weight Owing))
owe_lawful w named k o h fewer empty few = let s = h.shows in let a = h.alone in let nob = h.nobody in let bar = h.barred in
    record { bounded = h.bounded; may = h.may; bit = h.bit; shows = omega arith; alone = omega arith; nobody = λ e. let d : w ≡ 8 = h.drained (omega arith) in let m = bar (omega arith) in let hd = empty (omega arith) in let n = fewer (omega arith) in absurd (omega arith); barred = λ e. bar (omega arith); drained = λ e. h.drained (omega arith) }

-- a sweep takes a token
pub pick_lawful : (w named p k : ℕ) (f : Bool) (o : Tally) → Lawful w (named + 1) (plus o (weight (Announcing p k f))) → Lawful w named (plus o (weight (Announcing (p + 1) (k + 1) f)))
pick_lawful w named p k f o h = let s = h.shows in let a = h.alone in let nob = h.nobody in let bar = h.barred in
    record { bounded = h.bounded; may = h.may; bit = h.bit; shows = omega arith; alone = omega arith; nobody = λ e. omega (arith, nob (omega arith)); barred = λ e. bar (omega arith); drained = λ e. h.drained (omega arith) }

-- a sweep adds its hand to the count
pub add_lawful : (w named p k : ℕ) (f : Bool) (o : Tally) → Lawful w named (plus o (weight (Announcing p k f))) → Lawful ((w + 4294967296 * k) % 18446744073709551616) named (plus o (weight (Announcing p 0 f)))
add_lawful w named p k f o h = let one = one_announced f in let s = h.shows in let a = h.alone in let nob = h.nobody in let bar = h.barred in
    record { bounded = omega arith; may = h.may; bit = h.bit; shows = omega arith; alone = omega arith; nobody = λ e. absurd (omega arith); barred = λ e. bar (omega arith); drained = λ e. absurd (omega arith) }
