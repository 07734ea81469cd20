-- A step at a lock's word keeps the rule: each part by its own lemma, and two things are left to each step, the counts at its lock and the cargo.
use Rattle.std.proofs.Common.{◌≡◌, ℕ, zero, suc, ◌+◌, ◌/◌, ◌%◌, ◌<◌, ◌≤◌, ◌≢◌, List, [], ◌∷◌, map, set, get_or, length, drop, Bool, true, false, ◌&&◌, sym, refl, ap, ◌∙◌, subst, ⊎_elim, arith, length-set, drop-set-lt, get_or-set_same, get_or-set_other}
use mathlib.Core.Option.{some}
use lib.ListN.{get_elem?}
use Rattle.atomic_table.specs.Table.{State}
use Rattle.atomic_table.proofs.Lists.{at_set}
use Rattle.hall.specs.declared.cargo.CargoRule.{Ghosts}
use Rattle.hall.specs.declared.view.View.{View}
use Rattle.hall.specs.declared.view.Plan.{Plan}
use Rattle.hall.specs.declared.view.Shape.{Shape}
use Rattle.hall.specs.declared.view.StepKind.{StepKind}
use Rattle.hall.specs.declared.view.Standing.{Standing}
use Rattle.hall.specs.declared.view.Standing.TheVariants.{Away, Inline, Slotted, Undecided, Owing, Upgrade, Exclusive, Announcing}
use Rattle.state_word.specs.Words.{may_defer_of, units_of}
use Rattle.hall.specs.Locks.{weight, Lawful, IsSeated, cover, count, counts, naming, named_by}
use Rattle.view_sums.specs.Sums.{total}
use Rattle.hall.specs.declared.view.StepKind.TheVariants.{Hold}
use Rattle.hall.specs.Views.{pending, footprint, is_away, is_outside, is_strong, standing, place_of, after_step, after_step_at}
use Rattle.hall.specs.Trails.{is_join, Others, StrongOthers}
use Rattle.hall.specs.Rule.{Holds, Formed, AllFormed, cargo_seat}
use Rattle.hall.specs.NumberLaws.{numbered_same, numbers_differ}
use Rattle.hall.proofs.Locking.{gone, lawful_moved, swept_moved}
use Rattle.view_sums.specs.Sums.{total-same, total-plus4, find, one_there}
use Rattle.hall.specs.Shows.{law_bits}
use mathlib.Core.Logic.{dite}
use native.Mathlib.Decide.{ℕ_discrete}
use Rattle.std.proofs.Math.Decide.{dec_lt}
use Rattle.hall.proofs.Trailing.{trailed_moved}

-- what counts for nothing leaves a sum no greater
pub total_lighter : {A : Type 0} (f : A → ℕ) (l : List A) (i : ℕ) (a : A) → f a ≡ 0 → total f (set l i a) ≤ total f l
total_lighter f [] i a z = omega arith
total_lighter f (x ∷ xs) zero a z = omega (arith, z)
total_lighter f (x ∷ xs) (suc i) a z = omega (arith, total_lighter f xs i a z)

module _ {P : Type 0} where
  pub formed_moved : (sh : Shape) (views : List (View P)) (id lock place word : ℕ) (v : View P) (kind : StepKind) (won : Bool) (y : Standing) (part : P) → AllFormed sh views → get_elem? views id ≡ some v → 0 < v.span → lock < sh.locks
      → IsSeated sh.slots y → total pending (set v.standings lock y) ≤ 1 → AllFormed sh (set views id (after_step_at v kind lock place word won y part))
  formed_moved sh views id lock place word v kind won y part all at lives near seat one j u e = ⊎_elim
      (λ t. let f = all id v at in subst (Formed sh) t.1 record {
        shape = f.shape;
        wide = λ h. length-set v.standings lock y ∙ f.wide h;
        spent = λ dead. absurd (omega arith);
        seated = λ k. dite (ℕ_discrete k lock)
            (λ same. subst (IsSeated sh.slots) (sym (ap (λ (j : ℕ). get_or (set v.standings lock y) j Away) same ∙ get_or-set_same v.standings lock y Away (subst (λ (n : ℕ). lock < n) (sym (f.wide lives)) near))) seat)
            (λ ne. subst (IsSeated sh.slots) (sym (get_or-set_other v.standings lock k y Away ne)) (f.seated k));
        one_pending = one;
      })
      (λ t. all j u t.1) (at_set views id j (after_step_at v kind lock place word won y part) u e)

  elsewhere : (v : View P) (kind : StepKind) (lock word : ℕ) (won : Bool) (y : Standing) (part : P) (k : ℕ) → k ≢ lock → standing (after_step v kind lock word won y part) k ≡ standing v k
  elsewhere v kind lock word won y part k ne = get_or-set_other v.standings lock k y Away ne

-- of the standings with a bit in the word
abbrev strength : Standing → ℕ
strength x = (weight x).upgrade + (weight x).plain + ((weight x).raised + (weight x).exclusive)

strong_here : (x : Standing) → 0 < strength x → is_strong x ≡ true
strong_here x = elim x as (λ z. 0 < strength z → is_strong z ≡ true) [
  | Away ↦ λ h. absurd (omega arith)
  | Inline ↦ λ h. absurd (omega arith)
  | Slotted k ↦ λ h. absurd (omega arith)
  | Undecided k ↦ λ h. absurd (omega arith)
  | Owing ↦ λ h. absurd (omega arith)
  | Upgrade ↦ λ _. refl
  | Exclusive ↦ λ _. refl
  | Announcing p k f ↦ λ _. refl
]

weak_outside : (x : Standing) → is_outside x ≡ true → strength x ≡ 0
weak_outside x = elim x as (λ z. is_outside z ≡ true → strength z ≡ 0) [
  | Away ↦ λ _. refl
  | Inline ↦ λ h. absurd (cc)
  | Slotted k ↦ λ h. absurd (cc)
  | Undecided k ↦ λ _. refl
  | Owing ↦ λ h. absurd (cc)
  | Upgrade ↦ λ h. absurd (cc)
  | Exclusive ↦ λ h. absurd (cc)
  | Announcing p k f ↦ λ h. absurd (cc)
]

reader_here : (x : Standing) → 0 < (weight x).shared + (weight x).undecided + (weight x).owing → is_away x ≡ false
reader_here x = elim x as (λ z. 0 < (weight z).shared + (weight z).undecided + (weight z).owing → is_away z ≡ false) [ Away ↦ λ h. absurd (omega arith) | _ ↦ λ h. refl ]

-- a seat that is strong where a bit is set
module _ {C P : Type 0} (g : Ghosts C P) (plan : Plan C) (s : State (Unit {0}) (View P)) (h : Holds g plan s) (id lock : ℕ) (v : View P) (at : get_elem? s.views id ≡ some v) (near : lock < plan.shape.locks) where
  pub strong_cause : is_outside (standing v lock) ≡ true → get_or s.words (plan.shape.slots + lock) 0 / 2 % 8 ≢ 0 → 0 < v.span → StrongOthers s.views lock v.number
  strong_cause off bits lives =
      let w : ℕ = get_or s.words (plan.shape.slots + lock) 0 in
      let b = law_bits w (named_by plan.shape.slots lock s.words) (counts lock s.views) (h.lawful lock near) in let b1 = b.1 in let b2 = b.2 in let b3 = b.3 in
      let sum = total-plus4 (count (λ t. t.upgrade) lock) (count (λ t. t.plain) lock) (count (λ t. t.raised) lock) (count (λ t. t.exclusive) lock) s.views in
      let some_there : 0 < total (λ u. strength (standing u lock)) s.views = dite (dec_lt 0 (total (λ u. strength (standing u lock)) s.views)) (λ d. d) (λ no. absurd (bits (omega arith))) in
      let t = find (λ u. strength (standing u lock)) s.views some_there in
      let strong = strong_here (standing t.1 lock) t.3 in
      let other : t.0 ≢ id = λ e. let u_is : t.1 ≡ v = one_there s.views id t.1 v (subst (λ (i : ℕ). get_elem? s.views i ≡ some t.1) e t.2) at in
      let z : strength (standing t.1 lock) ≡ 0 = ap (λ (u : View P). strength (standing u lock)) u_is ∙ weak_outside (standing v lock) off in let p = t.3 in omega arith in
      let living : 0 < t.1.span = dite (dec_lt 0 t.1.span) (λ d. d) (λ dead. let f = h.formed t.0 t.1 t.2 in let none' : standing t.1 lock ≡ Away = ap (λ (l : List Standing). get_or l lock Away) (f.spent (omega arith)).0 in
      let z : strength (standing t.1 lock) ≡ 0 = ap strength none' in let p = t.3 in absurd (omega arith)) in
      (footprint t.1.number lock true, (t.0, t.1, t.2, h.trailed.strongly t.0 t.1 t.2 lock strong), refl, numbers_differ plan.shape.seats s.views id t.0 v t.1 h.numbered at t.2 other lives living, refl)

  -- a seat that is a reader there or owes a unit, and isn't this one
  pub reader_cause : 0 < total (λ u. (weight (standing u lock)).shared + (weight (standing u lock)).undecided + (weight (standing u lock)).owing) (set s.views id (gone v)) → 0 < v.span → Others s.views lock v.number
  reader_cause some_there lives =
      let F : View P → ℕ = λ u. (weight (standing u lock)).shared + (weight (standing u lock)).undecided + (weight (standing u lock)).owing in
      let t = find F (set s.views id (gone v)) some_there in
      ⊎_elim
      (λ same. let z : F t.1 ≡ 0 = ap F (sym same.1) in let p = t.3 in absurd (omega arith))
      (λ other.
      let here : is_away (standing t.1 lock) ≡ false = reader_here (standing t.1 lock) t.3 in
      let living : 0 < t.1.span = dite (dec_lt 0 t.1.span) (λ d. d) (λ dead. let f = h.formed t.0 t.1 other.1 in let none' : standing t.1 lock ≡ Away = ap (λ (l : List Standing). get_or l lock Away) (f.spent (omega arith)).0 in
      let z : is_away (standing t.1 lock) ≡ true = ap is_away none' in absurd (cc)) in
      let print = h.trailed.present t.0 t.1 other.1 lock here in
      (footprint t.1.number lock print.0, (t.0, t.1, other.1, print.1), refl, numbers_differ plan.shape.seats s.views id t.0 v t.1 h.numbered at other.1 other.0 lives living))
      (at_set s.views id t.0 (gone v) t.1 t.2)

module _ {C P : Type 0} (g : Ghosts C P) (plan : Plan C) (s : State (Unit {0}) (View P)) (h : Holds g plan s) (id lock n : ℕ) (v : View P) (kind : StepKind) (won : Bool) (y : Standing) (part : P) (at : get_elem? s.views id ≡ some v) (lives : 0 < v.span)
    (near : lock < plan.shape.locks) where
  abbrev pub place : ℕ
  place = plan.shape.slots + lock

  abbrev pub after : View P
  after = after_step v kind lock (get_or s.words place 0) won y part

  pub kept : is_join kind ≡ false → (won ≡ false → n ≡ get_or s.words place 0) → (n ≢ get_or s.words place 0 → is_away (standing v lock) && is_away y ≡ false)
      → (kind ≡ Hold → won ≡ false → units_of (get_or s.words place 0) ≢ 0 → Others s.views lock v.number)
      → Lawful n (named_by plan.shape.slots lock s.words) (counts lock (set s.views id after))
      → ((k ns old new : ℕ) → k < plan.shape.slots → ns ≡ naming lock (get_or s.words k 0) → new + cover k (standing v lock) ≡ old + cover k (standing after lock) → ns ≤ may_defer_of (get_or s.words place 0) + old → ns ≤ may_defer_of n + new)
      → IsSeated plan.shape.slots y → total pending (set v.standings lock y) ≤ 1
      → g.holds plan.cargo (drop (plan.shape.slots + plan.shape.locks) s.words) (map cargo_seat (set s.views id after))
      → Holds g plan record { words = set s.words place n; homes = s.homes; views = set s.views id after }
  kept steps stays shown held now sweeps seat one loads =
      let inside : place < length s.words = omega (arith, h.size) in
      record {
        size = length-set s.words place n ∙ h.size;
        some_slot = h.some_slot;
        few_slots = h.few_slots;
        few = h.few;
        rationed = omega (arith, total-same (λ u. u.quota) s.views id v after at refl, h.rationed);
        counted = h.counted;
        formed = formed_moved plan.shape s.views id lock (place_of v lock) (get_or s.words place 0) v kind won y part h.formed at lives near seat one;
        numbered = numbered_same plan.shape.seats s.views id v after h.numbered at refl refl refl;
        lawful = lawful_moved plan.shape s.words s.views id lock n v after h.lawful at (elsewhere v kind lock (get_or s.words place 0) won y part) near inside now;
        swept = swept_moved plan.shape s.words s.views id lock n v after h.swept at (elsewhere v kind lock (get_or s.words place 0) won y part) near inside sweeps;
        slot_words = λ k b. subst (λ (z : ℕ). z ≤ plan.shape.locks) (sym (get_or-set_other s.words place k n 0 (λ e. omega arith))) (h.slot_words k b);
        trailed = trailed_moved plan.shape s.words s.views id lock n v kind won y part h.trailed h.formed at lives near inside steps stays shown
            (λ off bits. strong_cause g plan s h id lock v at near off bits lives)
            held
            (λ k u e ne living. numbers_differ plan.shape.seats s.views id k v u h.numbered at e ne lives living);
        gone = λ j u e dead. ⊎_elim (λ t. absurd (let z : v.span ≡ 0 = ap (λ (y : View P). y.span) t.1 ∙ dead in omega arith)) (λ t. h.gone j u t.1 dead) (at_set s.views id j after u e);
        cargo = subst (λ ws. g.holds plan.cargo ws (map cargo_seat (set s.views id after))) (sym (drop-set-lt (plan.shape.slots + plan.shape.locks) s.words place n (omega arith))) loads;
      }
