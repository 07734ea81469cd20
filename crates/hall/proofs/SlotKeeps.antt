-- A step on a slot keeps the rule: left to each are the counts at its lock, the slots that are covered, and the cargo.
use Rattle.std.proofs.Common.{◌≡◌, ℕ, zero, suc, ◌+◌, ◌<◌, ◌≤◌, ◌≢◌, List, [], ◌∷◌, map, set, get_or, length, drop, Bool, false, cond, eq-eqb, lt-ltb, le-ltb, sym, refl, ap, ◌∙◌, subst, ⊎_elim, arith, length-set, drop-set-lt, get_or-set_same, get_or-set_other}
use mathlib.Core.Logic.{dite}
use mathlib.Core.Option.{some}
use native.Mathlib.Decide.{ℕ_discrete}
use Rattle.std.proofs.Math.Decide.{dec_lt}
use lib.ListN.{get_elem?}
use Rattle.atomic_table.specs.Table.{State}
use Rattle.atomic_table.proofs.Lists.{at_set}
use Rattle.hall.specs.declared.cargo.CargoRule.{Ghosts}
use Rattle.hall.specs.declared.view.View.{View}
use Rattle.hall.specs.declared.view.Plan.{Plan}
use Rattle.hall.specs.declared.view.StepKind.{StepKind}
use Rattle.hall.specs.declared.view.Standing.{Standing}
use Rattle.hall.specs.declared.view.Standing.TheVariants.{Away, Undecided, Announcing}
use Rattle.state_word.specs.Words.{may_defer_of}
use Rattle.view_sums.specs.Sums.{total, total-same, total-set, total-le, term_le}
use Rattle.hall.specs.Locks.{Tally, weight, Lawful, IsSeated, below, count, counts, cover, covered, naming, named_by}
use Rattle.hall.specs.Views.{pending, standing, after_step_at}
use Rattle.hall.specs.Trails.{is_join}
use Rattle.hall.specs.Rule.{Holds, AllLawful, AllSwept, cargo_seat}
use Rattle.hall.specs.NumberLaws.{numbered_same}
use Rattle.hall.specs.Shows.{law_bits}
use Rattle.hall.proofs.Locking.{gone, below_same, counts_same, counts_split}
use Rattle.hall.proofs.Keeps.{formed_moved}
use Rattle.hall.proofs.Slots.{undecided, about, cover_about, swept_fewer, names_yes}
use Rattle.hall.proofs.SlotTrails.{trailed_slot}

-- two sums that differ at one number alone
below_change : (f g : ℕ → ℕ) (j n : ℕ) → j < n → ((k : ℕ) → k ≢ j → f k ≡ g k) → below f n + g j ≡ below g n + f j
below_change f g j zero h same = absurd (omega arith)
below_change f g j (suc n) h same = dite (ℕ_discrete j n)
    (λ e. let before : below f n ≡ below g n = below_same n f g (λ k b. same k (λ is. omega (arith, is, e))) in let a : f j ≡ f n = ap f e in let b : g j ≡ g n = ap g e in omega (arith, before, a, b))
    (λ ne. omega (arith, below_change f g j n (omega arith) same, same n (λ is. ne (omega (arith, is)))))

-- a slot's word changes, and with it how many slots name the lock
pub named_moved : (slots lock : ℕ) (words : List ℕ) (slot n : ℕ) → slot < slots → slot < length words → named_by slots lock (set words slot n) + naming lock (get_or words slot 0) ≡ named_by slots lock words + naming lock n
named_moved slots lock words slot n inside there =
    let f : ℕ → ℕ = λ k. naming lock (get_or (set words slot n) k 0) in let g : ℕ → ℕ = λ k. naming lock (get_or words k 0) in
    let now : naming lock (get_or (set words slot n) slot 0) ≡ naming lock n = ap (naming lock) (get_or-set_same words slot n 0 there) in
    omega (arith, below_change f g slot slots inside (λ k ne. ap (naming lock) (get_or-set_other words slot k n 0 ne)), now)

-- the place that a sweep leaves is covered no longer, and each other is as it was
pub cover_next : (k p h j : ℕ) (f : Bool) → k ≢ p → cover k (Announcing (p + 1) j f) ≡ cover k (Announcing p h f)
cover_next k p h j f ne = dite (dec_lt k p)
    (λ low. ap {B = ℕ} (λ (b : Bool). cond b 0 1) (lt-ltb k (p + 1) (omega arith)) ∙ ap {B = ℕ} (λ (b : Bool). cond b 0 1) (sym (lt-ltb k p low)))
    (λ high. ap {B = ℕ} (λ (b : Bool). cond b 0 1) (le-ltb k (p + 1) (omega arith)) ∙ ap {B = ℕ} (λ (b : Bool). cond b 0 1) (sym (le-ltb k p (omega arith))))

-- one standing for another changes a sum no more than the two do
pub total_replaced : (f : Standing → ℕ) (l : List Standing) (i : ℕ) (a : Standing) → f a ≤ f (get_or l i Away) → total f (set l i a) ≤ total f l
total_replaced f [] i a h = omega arith
total_replaced f (x ∷ xs) zero a h = omega (arith, h)
total_replaced f (x ∷ xs) (suc i) a h = omega (arith, total_replaced f xs i a h)

-- and no standing that counts leaves the one that is set
pub total_alone : (f : Standing → ℕ) (l : List Standing) (i : ℕ) (a : Standing) → ((k : ℕ) → f (get_or l k Away) ≡ 0) → total f (set l i a) ≤ f a
total_alone f [] i a h = omega arith
total_alone f (x ∷ xs) zero a h = let z : f x ≡ 0 = h zero in omega (arith, total_none f xs (λ k. h (suc k)))
  where
    total_none : (f : Standing → ℕ) (l : List Standing) → ((k : ℕ) → f (get_or l k Away) ≡ 0) → total f l ≡ 0
    total_none f [] h = refl
    total_none f (x ∷ xs) h = let z : f x ≡ 0 = h zero in omega (arith, total_none f xs (λ k. h (suc k)))
total_alone f (x ∷ xs) (suc i) a h = let z : f x ≡ 0 = h zero in omega (arith, total_alone f xs i a (λ k. h (suc k)))

module _ {C P : Type 0} (g : Ghosts C P) (plan : Plan C) (s : State (Unit {0}) (View P)) (h : Holds g plan s) (id lock slot n : ℕ) (v : View P) (kind : StepKind) (won : Bool) (y : Standing) (part : P) (at : get_elem? s.views id ≡ some v) (lives : 0 < v.span)
    (near : lock < plan.shape.locks) (inside : slot < plan.shape.slots) where
  abbrev found : ℕ
  found = get_or s.words slot 0

  abbrev word : ℕ
  word = get_or s.words (plan.shape.slots + lock) 0

  abbrev after : View P
  after = after_step_at v kind lock slot found won y part

  there : slot < length s.words
  there = omega (arith, h.size)

  stands : standing after lock ≡ y
  stands = let f = h.formed id v at in get_or-set_same v.standings lock y Away (subst (λ (k : ℕ). lock < k) (sym (f.wide lives)) near)

  elsewhere : (k : ℕ) → k ≢ lock → standing after k ≡ standing v k
  elsewhere k ne = get_or-set_other v.standings lock k y Away ne

  -- the words of the locks stay
  stays : (k : ℕ) → get_or (set s.words slot n) (plan.shape.slots + k) 0 ≡ get_or s.words (plan.shape.slots + k) 0
  stays k = get_or-set_other s.words slot (plan.shape.slots + k) n 0 (λ e. omega arith)

  lawful_slot : ((k : ℕ) → k ≢ lock → naming k n ≡ naming k found) → Lawful word (named_by plan.shape.slots lock (set s.words slot n)) (counts lock (set s.views id after)) → AllLawful plan.shape (set s.words slot n) (set s.views id after)
  lawful_slot others now k below =
      subst (λ (z : ℕ). Lawful z (named_by plan.shape.slots k (set s.words slot n)) (counts k (set s.views id after))) (sym (stays k))
      (dite (ℕ_discrete k lock)
      (λ e. subst (λ (j : ℕ). Lawful (get_or s.words (plan.shape.slots + j) 0) (named_by plan.shape.slots j (set s.words slot n)) (counts j (set s.views id after))) (sym e) now)
      (λ ne. let same : named_by plan.shape.slots k (set s.words slot n) ≡ named_by plan.shape.slots k s.words = omega (arith, named_moved plan.shape.slots k s.words slot n inside there, others k ne) in
      subst (λ (z : ℕ). Lawful (get_or s.words (plan.shape.slots + k) 0) z (counts k (set s.views id after))) (sym same)
      (subst (λ (t : Tally). Lawful (get_or s.words (plan.shape.slots + k) 0) (named_by plan.shape.slots k s.words) t) (sym (counts_same s.views id k v after at (elsewhere k ne))) (h.lawful k below))))

  swept_slot : ((k : ℕ) → k ≢ lock → naming k n ≡ naming k found) → ((k : ℕ) → k ≢ slot → cover k y ≡ cover k (standing v lock))
      → ((old cov : ℕ) → cov + cover slot (standing v lock) ≡ old + cover slot y → naming lock found ≤ may_defer_of word + old → naming lock n ≤ may_defer_of word + cov)
      → AllSwept plan.shape (set s.words slot n) (set s.views id after)
  swept_slot others far here j below k within =
      subst (λ (z : ℕ). naming j (get_or (set s.words slot n) k 0) ≤ may_defer_of z + covered k j (set s.views id after)) (sym (stays j))
      (dite (ℕ_discrete j lock)
      (λ e. let Goal : ℕ → Type 0 = λ i. naming i (get_or (set s.words slot n) k 0) ≤ may_defer_of (get_or s.words (plan.shape.slots + i) 0) + covered k i (set s.views id after) in subst Goal (sym e) (at_lock k within))
      (λ ne. let cov : covered k j (set s.views id after) ≡ covered k j s.views = total-same (λ (u : View P). cover k (standing u j)) s.views id v after at (ap (cover k) (elsewhere j ne)) in
      let name : naming j (get_or (set s.words slot n) k 0) ≡ naming j (get_or s.words k 0) = dite (ℕ_discrete k slot)
      (λ e. ap (λ (i : ℕ). naming j (get_or (set s.words slot n) i 0)) e ∙ ap (naming j) (get_or-set_same s.words slot n 0 there) ∙ others j ne ∙ ap (λ (i : ℕ). naming j (get_or s.words i 0)) (sym e))
      (λ other. ap (naming j) (get_or-set_other s.words slot k n 0 other)) in
      omega (arith, cov, name, h.swept j below k within)))
    where
      at_lock : (k : ℕ) → k < plan.shape.slots → naming lock (get_or (set s.words slot n) k 0) ≤ may_defer_of word + covered k lock (set s.views id after)
      at_lock k within =
          let sum : covered k lock (set s.views id after) + cover k (standing v lock) ≡ covered k lock s.views + cover k (standing after lock) = total-set (λ (u : View P). cover k (standing u lock)) s.views id v after at in
          let c : cover k (standing after lock) ≡ cover k y = ap (cover k) stands in
          dite (ℕ_discrete k slot)
          (λ e. subst (λ (i : ℕ). naming lock (get_or (set s.words slot n) i 0) ≤ may_defer_of word + covered i lock (set s.views id after)) (sym e)
          (subst (λ (z : ℕ). naming lock z ≤ may_defer_of word + covered slot lock (set s.views id after)) (sym (get_or-set_same s.words slot n 0 there))
          (here (covered slot lock s.views) (covered slot lock (set s.views id after))
          (total-set (λ (u : View P). cover slot (standing u lock)) s.views id v after at ∙ ap (λ (x : Standing). covered slot lock s.views + cover slot x) stands)
          (h.swept lock near slot inside))))
          (λ other. let name : naming lock (get_or (set s.words slot n) k 0) ≡ naming lock (get_or s.words k 0) = ap (naming lock) (get_or-set_other s.words slot k n 0 other) in
          omega (arith, sum, c, far k other, name, h.swept lock near k within))

  pub slot_kept : is_join kind ≡ false → n ≤ plan.shape.locks → ((k : ℕ) → k ≢ lock → naming k n ≡ naming k found)
      → Lawful word (named_by plan.shape.slots lock (set s.words slot n)) (counts lock (set s.views id after))
      → ((k : ℕ) → k ≢ slot → cover k y ≡ cover k (standing v lock))
      → ((old cov : ℕ) → cov + cover slot (standing v lock) ≡ old + cover slot y → naming lock found ≤ may_defer_of word + old → naming lock n ≤ may_defer_of word + cov)
      → IsSeated plan.shape.slots y → total pending (set v.standings lock y) ≤ 1
      → g.holds plan.cargo (drop (plan.shape.slots + plan.shape.locks) s.words) (map cargo_seat (set s.views id after))
      → Holds g plan record { words = set s.words slot n; homes = s.homes; views = set s.views id after }
  slot_kept steps names others now far here seat one loads = record {
    size = length-set s.words slot n ∙ h.size;
    some_slot = h.some_slot;
    few_slots = h.few_slots;
    few = h.few;
    rationed = omega (arith, total-same (λ u. u.quota) s.views id v after at refl, h.rationed);
    counted = h.counted;
    formed = formed_moved plan.shape s.views id lock slot found v kind won y part h.formed at lives near seat one;
    numbered = numbered_same plan.shape.seats s.views id v after h.numbered at refl refl refl;
    lawful = lawful_slot others now;
    swept = swept_slot others far here;
    slot_words = λ k b. dite (ℕ_discrete k slot)
        (λ e. subst (λ (z : ℕ). z ≤ plan.shape.locks) (sym (ap (λ (i : ℕ). get_or (set s.words slot n) i 0) e ∙ get_or-set_same s.words slot n 0 there)) names)
        (λ ne. subst (λ (z : ℕ). z ≤ plan.shape.locks) (sym (get_or-set_other s.words slot k n 0 ne)) (h.slot_words k b));
    trailed = trailed_slot plan.shape s.words s.views id lock slot n found v kind won y part h.trailed h.formed at lives near inside steps;
    gone = λ j u e dead. ⊎_elim (λ t. absurd (let z : v.span ≡ 0 = ap (λ (y : View P). y.span) t.1 ∙ dead in omega arith)) (λ t. h.gone j u t.1 dead) (at_set s.views id j after u e);
    cargo = subst (λ ws. g.holds plan.cargo ws (map cargo_seat (set s.views id after))) (sym (drop-set-lt (plan.shape.slots + plan.shape.locks) s.words slot n (omega arith))) loads;
  }

module _ {C P : Type 0} (g : Ghosts C P) (plan : Plan C) (s : State (Unit {0}) (View P)) (h : Holds g plan s) (id lock slot : ℕ) (v : View P) (at : get_elem? s.views id ≡ some v) (near : lock < plan.shape.locks) (inside : slot < plan.shape.slots) where
  -- while a pass holds the lock exclusively, an undecided pass whose slot doesn't name the lock leaves fewer tokens there than other passes are undecided
  pub fewer_tokens : standing v lock ≡ Undecided slot → get_or s.words slot 0 ≢ lock + 1 → 1 ≤ (counts lock (set s.views id (gone v))).exclusive → named_by plan.shape.slots lock s.words ≤ (counts lock (set s.views id (gone v))).undecided
  fewer_tokens st other held =
      let l = h.lawful lock near in let split = (counts_split s.views id lock v v at).0 in
      let alone = l.alone in
      let ex : (counts lock s.views).exclusive ≡ (counts lock (set s.views id (gone v))).exclusive + (weight (standing v lock)).exclusive = ap (λ (t : Tally). t.exclusive) split in
      let un : (counts lock s.views).undecided ≡ (counts lock (set s.views id (gone v))).undecided + (weight (standing v lock)).undecided = ap (λ (t : Tally). t.undecided) split in
      let mine : (weight (standing v lock)).undecided ≡ 1 = ap (λ (x : Standing). (weight x).undecided) st in
      let off = l.barred (omega arith) in
      let bit = (law_bits (get_or s.words (plan.shape.slots + lock) 0) (named_by plan.shape.slots lock s.words) (counts lock s.views) l).0 in
      let none : (j : ℕ) (u : View P) → get_elem? s.views j ≡ some u → (weight (standing u lock)).plain + (weight (standing u lock)).raised ≤ 0 = λ j u e. omega (arith, term_le (count (λ t. t.plain) lock) s.views j u e, term_le (count (λ t. t.raised) lock) s.views j u e) in
      let token : 1 ≤ undecided lock slot s.views = let one : about slot (standing v lock) ≡ 1 = ap (about slot) st ∙ ap (λ (b : Bool). cond b 1 0) (eq-eqb slot slot refl) in omega (arith, term_le (λ (u : View P). about slot (standing u lock)) s.views id v at, one) in
      omega (
        arith,
        un,
        mine,
        token,
        swept_fewer lock plan.shape.slots slot s.words s.views
            (λ k within names. omega (arith, h.swept lock near k within, names_yes lock (get_or s.words k 0) names, total-le (λ (u : View P). cover k (standing u lock)) (λ (u : View P). about k (standing u lock)) s.views (λ j u e. cover_about k (standing u lock) (none j u e)), bit, off))
            inside other,
      )
