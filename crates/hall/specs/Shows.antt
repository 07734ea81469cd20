-- What the rule of a hall says of each lock, in plain words, with the law that the rule says it.
use Rattle.std.specs.Prelude.{◌≡◌, ◌≢◌, ◌⊎◌, ℕ, zero, suc, [], ◌∷◌, ◌+◌, ◌*◌, ◌/◌, ◌%◌, ◌<◌, ◌≤◌, cond, eqb, List, slice_index, Bool, true, false}
use Rattle.std.proofs.Common.{get_or, arith, refl, sym, ap, ◌∙◌, inl, inr, ⊎_elim, eq-eqb}
use mathlib.Core.Option.{some}
use mathlib.Core.Logic.{dite}
use Rattle.std.proofs.Math.Decide.{dec_lt}
use lib.ListN.{get_elem?}
use Rattle.atomic_table.specs.Table.{State}
use Rattle.lock_model.specs.Locks.{IsLawful, fits, upgrade_role, exclusive_role}
use Rattle.lock_model.specs.declared.model.Role.{Role}
use Rattle.lock_model.specs.declared.model.Role.TheVariants.{Outside, Announces}
use Rattle.lock_model.specs.declared.model.Role.TheVariants as role
use Rattle.lock_model.specs.declared.model.Mode.TheVariants.{Shared}
use Rattle.lock_model.specs.declared.model.Mode.TheVariants as mode
use Rattle.hall.specs.declared.making.TheConstants.{MOST_SEATS, MOST_SLOTS}
use Rattle.hall.specs.declared.view.Shape.{Shape}
use Rattle.state_word.specs.declared.TheConstants.{COUNTS, FIRST_NEGATIVE, MOST_COUNTED, WORDS}
use Rattle.state_word.specs.Words.{may_defer_of, upgrade_of, begun_of, held_of, idle_of, units_of}
use Rattle.view_sums.specs.Sums.{total, total-le, total-plus, find, term_le, terms_le}
use Rattle.hall.specs.declared.cargo.CargoRule.{Ghosts}
use Rattle.hall.specs.declared.view.View.{View}
use Rattle.hall.specs.declared.view.Plan.{Plan}
use Rattle.hall.specs.declared.view.Standing.{Standing}
use Rattle.hall.specs.declared.view.Standing.TheVariants.{Away, Inline, Slotted, Undecided, Owing, Upgrade, Exclusive, Announcing}
use Rattle.hall.specs.Locks.{Tally, weight, Lawful, IsSeated, below, naming, cover, count, counts, named_by}
use Rattle.hall.specs.Numbers.{width}
use Rattle.hall.specs.Moves.{role_of, shown}
use Rattle.hall.specs.NumberLaws.{numbers_differ}
use Rattle.hall.specs.Rule.{Holds, Formed}
use Rattle.hall.specs.ShownLaws.{shown_lawful}
use Rattle.hall.specs.Views.{standing}

module _ {P : Type 0} where
  -- some pass has such a standing at the lock
  abbrev pub SomeStands : List (View P) → ℕ → (Standing → Type 0) → Type 0
  SomeStands views lock F = (j : ℕ) × (v : View P) × (get_elem? views j ≡ some v) × F (standing v lock)

  -- the views show a lawful lock, and the word's bits say which
  pub record ShowsLawfulLock (views : List (View P)) (lock w : ℕ) : Type 0 where
    pub lawful : IsLawful (shown lock views)
    -- UPGRADE is set exactly where a seat holds upgrade, announced or not
    pub upgrade : (upgrade_of w ≡ 1 → SomeStands views lock (λ x. (role_of x ≡ upgrade_role) ⊎ (role_of x ≡ Announces true))) × (SomeStands views lock (λ x. (role_of x ≡ upgrade_role) ⊎ (role_of x ≡ Announces true)) → upgrade_of w ≡ 1)
    -- BEGUN exactly where a writer is announced
    pub begun : (begun_of w ≡ 1 → SomeStands views lock (λ x. (f : Bool) × (role_of x ≡ Announces f))) × (SomeStands views lock (λ x. (f : Bool) × (role_of x ≡ Announces f)) → begun_of w ≡ 1)
    -- HELD exactly where a seat holds exclusive
    pub held : (held_of w ≡ 1 → SomeStands views lock (λ x. role_of x ≡ exclusive_role)) × (SomeStands views lock (λ x. role_of x ≡ exclusive_role) → held_of w ≡ 1)

-- Each reader's unit is counted once: the inline count, the announced writers' hands and the slots that name the lock are together the readers and those who owe a unit.
-- The count is a whole number, whose 32 bits are in two's complement.
abbrev pub CountsUnits : ℕ → ℕ → Tally → Type 0
CountsUnits w named t = ((units_of w < FIRST_NEGATIVE) × (units_of w + (t.hand + named) ≡ t.shared + t.undecided + t.owing)) ⊎ ((FIRST_NEGATIVE ≤ units_of w) × (units_of w + (t.hand + named) ≡ COUNTS + (t.shared + t.undecided + t.owing)))

-- A word has 64 bits, of which 4 to 31 are 0. Its count is no greater than there may be seats, and no less than there may be hands and tokens.
pub record IsStateWord (w : ℕ) : Type 0 where
  pub bounded : w < WORDS
  pub idle : idle_of w ≡ 0
  pub count : (units_of w ≤ MOST_SEATS) ⊎ (COUNTS ≤ units_of w + 2 * MOST_SLOTS)

module _ {P : Type 0} where
  -- while readers don't defer, each slot that names the lock has a pass that is undecided about it, or an announced writer that hasn't looked at it
  abbrev pub AccountsForSlots : ℕ → ℕ → List ℕ → List (View P) → Type 0
  AccountsForSlots slots lock words views = may_defer_of (slice_index words (slots + lock)) ≡ 0 → (k : ℕ) → k < slots → slice_index words k ≡ lock + 1 → SomeStands views lock (λ x. 0 < cover k x)

  -- what holds of a lock between any two steps
  pub record LockShows (slots lock : ℕ) (words : List ℕ) (views : List (View P)) : Type 0 where
    pub formed : IsStateWord (slice_index words (slots + lock))
    pub shows : ShowsLawfulLock views lock (slice_index words (slots + lock))
    pub units : CountsUnits (slice_index words (slots + lock)) (named_by slots lock words) (counts lock views)
    pub slots_known : AccountsForSlots slots lock words views
    -- while a writer is announced or holds the lock, readers don't defer
    pub undeferred : 1 ≤ begun_of (slice_index words (slots + lock)) + held_of (slice_index words (slots + lock)) → may_defer_of (slice_index words (slots + lock)) ≡ 0
    -- while one holds it, the count is 0, and no pass is a reader there or owes a unit
    pub emptied : held_of (slice_index words (slots + lock)) ≡ 1 → (units_of (slice_index words (slots + lock)) ≡ 0) × ((counts lock views).shared + (counts lock views).owing ≡ 0)

-- the four bits of a word
bits : (w k m u a e U : ℕ) → (w + 4294967296 * k) % 18446744073709551616 ≡ m + 2 * u + 4 * a + 8 * e + 4294967296 * U → m ≤ 1 → u ≤ 1 → a ≤ 1 → e ≤ 1 → (w % 2 ≡ m) × (w / 2 % 2 ≡ u) × (w / 4 % 2 ≡ a) × (w / 8 % 2 ≡ e)
bits w k m u a e U s hm hu ha he = (omega arith, omega arith, omega arith, omega arith)

pub law_bits : (w named : ℕ) (t : Tally) (h : Lawful w named t) → (w % 2 ≡ h.may) × (w / 2 % 2 ≡ t.upgrade + t.raised) × (w / 4 % 2 ≡ t.plain + t.raised) × (w / 8 % 2 ≡ t.exclusive)
law_bits w named t h = let a = h.alone in bits w (t.hand + named) h.may (t.upgrade + t.raised) (t.plain + t.raised) t.exclusive (t.shared + t.undecided + t.owing) h.shows h.bit (omega arith) (omega arith) (omega arith)

-- the counts of any two standings at a lock: at most one is strong, and beside an exclusive one no reader stands
abbrev Apart : Standing → Standing → Type 0
Apart x y = ((weight x).exclusive + (weight x).upgrade + (weight x).plain + (weight x).raised + ((weight y).exclusive + (weight y).upgrade + (weight y).plain + (weight y).raised) ≤ 1)
    × (1 ≤ (weight x).exclusive + (weight y).exclusive → (weight x).shared + (weight y).shared ≤ 0)

strong_two : (f : Bool) → cond f 0 1 + cond f 1 0 ≡ 1
strong_two f = elim f as (λ b. cond b 0 1 + cond b 1 0 ≡ 1) [ true ↦ refl | false ↦ refl ]

roles_fit : (x y : Standing) → Apart x y → fits (role_of x) (role_of y) ≡ true
roles_fit x y h = elim x as (λ z. Apart z y → fits (role_of z) (role_of y) ≡ true) [
  | Away ↦ λ _. refl
  | Undecided k ↦ λ _. refl
  | Owing ↦ λ _. refl
  | Inline ↦ λ h. beside_reader Inline y refl refl h
  | Slotted k ↦ λ h. beside_reader (Slotted k) y refl refl h
  | Upgrade ↦ λ h. elim y as (λ z. Apart Upgrade z → fits upgrade_role (role_of z) ≡ true) [
    | Upgrade ↦ λ h. absurd (let a = h.0 in omega arith)
    | Exclusive ↦ λ h. absurd (let a = h.0 in omega arith)
    | Announcing p k f ↦ λ h. absurd (let a = h.0 in omega (arith, strong_two f))
    | _ ↦ λ _. refl
  ] h
  | Exclusive ↦ λ h. elim y as (λ z. Apart Exclusive z → fits exclusive_role (role_of z) ≡ true) [
    | Inline ↦ λ h. absurd (let b = h.1 (omega arith) in omega arith)
    | Slotted k ↦ λ h. absurd (let b = h.1 (omega arith) in omega arith)
    | Upgrade ↦ λ h. absurd (let a = h.0 in omega arith)
    | Exclusive ↦ λ h. absurd (let a = h.0 in omega arith)
    | Announcing p k f ↦ λ h. absurd (let a = h.0 in omega (arith, strong_two f))
    | _ ↦ λ _. refl
  ] h
  | Announcing p k f ↦ λ h. elim y as (λ z. Apart (Announcing p k f) z → fits (Announces f) (role_of z) ≡ true) [
    | Upgrade ↦ λ h. absurd (let a = h.0 in omega (arith, strong_two f))
    | Exclusive ↦ λ h. absurd (let a = h.0 in omega (arith, strong_two f))
    | Announcing q j e ↦ λ h. absurd (let a = h.0 in omega (arith, strong_two f, strong_two e))
    | _ ↦ λ _. refl
  ] h
] h
  where
    beside_reader : (x y : Standing) → role_of x ≡ role_of Inline → (weight x).shared ≡ 1 → Apart x y → fits (role_of x) (role_of y) ≡ true
    beside_reader x y is one h = ap (λ (r : Role). fits r (role_of y)) is ∙ elim y as (λ z. Apart x z → fits (role_of Inline) (role_of z) ≡ true) [
      | Exclusive ↦ λ h. absurd (let b = h.1 (omega arith) in omega (arith, one))
      | _ ↦ λ _. refl
    ] h

units_whole : (w named : ℕ) (t : Tally) → Lawful w named t → t.hand + named ≤ 512 → t.shared + t.undecided + t.owing ≤ 1048576 → CountsUnits w named t
units_whole w named t l tokens few = let lim = l.bounded in let s = l.shows in let b = l.bit in let a = l.alone in
    dite (dec_lt (units_of w) FIRST_NEGATIVE) (λ low. inl (low, omega arith)) (λ high. inr (omega arith, omega arith))

word_formed : (w named : ℕ) (t : Tally) → Lawful w named t → t.hand + named ≤ 512 → t.shared + t.undecided + t.owing ≤ 1048576 → IsStateWord w
word_formed w named t l tokens few = let lim = l.bounded in let s = l.shows in let b = l.bit in let a = l.alone in record {
  bounded = lim;
  idle = omega arith;
  count = dite (dec_lt (units_of w) FIRST_NEGATIVE) (λ low. inl (omega arith)) (λ high. inr (omega arith));
}

one_unit : (x : Standing) → (weight x).shared + (weight x).undecided + (weight x).owing ≤ 1
one_unit x = elim x as (λ z. (weight z).shared + (weight z).undecided + (weight z).owing ≤ 1) [ Announcing p k f ↦ omega arith | _ ↦ omega arith ]

few_of : {P : Type 0} {sh : Shape} (u : View P) → Formed sh u → (lock : ℕ) → (weight (standing u lock)).shared + (weight (standing u lock)).undecided + (weight (standing u lock)).owing ≤ width u
few_of u f lock = dite (dec_lt 0 u.span) (λ living. omega (arith, one_unit (standing u lock)))
    (λ dead. let none : standing u lock ≡ Away = ap (λ (l : List Standing). get_or l lock Away) (f.spent (omega arith)).0 in
    let z : (weight (standing u lock)).shared + (weight (standing u lock)).undecided + (weight (standing u lock)).owing ≡ 0 = ap (λ (x : Standing). (weight x).shared + (weight x).undecided + (weight x).owing) none in omega arith)

pub naming_one : (lock x : ℕ) → naming lock x ≤ 1
naming_one lock x = elim (eqb x (lock + 1)) as (λ b. cond b 1 0 ≤ 1) [ true ↦ omega arith | false ↦ omega arith ]

below_most : (n : ℕ) (f : ℕ → ℕ) → ((k : ℕ) → f k ≤ 1) → below f n ≤ n
below_most zero f h = omega arith
below_most (suc n) f h = omega (arith, below_most n f h, h n)

hand_few : (x : Standing) (slots : ℕ) → IsSeated slots x → slots ≤ 256 → (weight x).hand ≤ 256 * ((weight x).plain + (weight x).raised)
hand_few x slots h few = elim x as (λ z. IsSeated slots z → (weight z).hand ≤ 256 * ((weight z).plain + (weight z).raised)) [
  | Announcing p k f ↦ λ h. elim f as (λ b. k ≤ 256 * (cond b 0 1 + cond b 1 0)) [ true ↦ (let a = h.0 in let b = h.1 in omega arith) | false ↦ (let a = h.0 in let b = h.1 in omega arith) ]
  | _ ↦ λ h. omega arith
] h

hands_le : {P : Type 0} (views : List (View P)) (lock : ℕ) → ((j : ℕ) (v : View P) → get_elem? views j ≡ some v → (weight (standing v lock)).hand ≤ 256 * ((weight (standing v lock)).plain + (weight (standing v lock)).raised))
    → total (count (λ t. t.hand) lock) views ≤ 256 * (total (count (λ t. t.plain) lock) views + total (count (λ t. t.raised) lock) views)
hands_le [] lock h = omega arith
hands_le (x ∷ xs) lock h = omega (arith, h zero x refl, hands_le xs lock (λ j v e. h (suc j) v e))

pub room_left : (w named : ℕ) (t : Tally) → Lawful w named t → t.shared + t.undecided + t.owing ≤ 1048576 → t.hand + named ≤ 512 → units_of w ≢ MOST_COUNTED
room_left w named t l few tokens full = let s = l.shows in let b = l.bit in let a = l.alone in omega arith

module _ {C P : Type 0} (g : Ghosts C P) (plan : Plan C) where
  -- no more units are at a lock than there are seats
  pub all_units : (s : State (Unit {0}) (View P)) (h : Holds g plan s) (lock : ℕ) → (let t = counts lock s.views in t.shared + t.undecided + t.owing) ≤ 1048576
  all_units s h lock =
      let sum = total-plus (count (λ t. t.shared) lock) (count (λ t. t.undecided) lock) (count (λ t. t.owing) lock) s.views in
      let most = total-le (λ u. count (λ t. t.shared) lock u + count (λ t. t.undecided) lock u + count (λ t. t.owing) lock u) width s.views (λ j u e. few_of u (h.formed j u e) lock) in
      omega (arith, sum, most, h.numbered.all, h.few)

  -- no more than so many are out of slots or in them
  pub few_tokens : (s : State (Unit {0}) (View P)) (h : Holds g plan s) (lock : ℕ) → lock < plan.shape.locks → (counts lock s.views).hand + named_by plan.shape.slots lock s.words ≤ 512
  few_tokens s h lock near =
      let hands = hands_le s.views lock (λ j u e. hand_few (standing u lock) plan.shape.slots ((h.formed j u e).seated lock) h.few_slots) in
      let l = h.lawful lock near in let a = l.alone in
      omega (arith, hands, below_most plan.shape.slots (λ k. naming lock (get_or s.words k 0)) (λ k. naming_one lock (get_or s.words k 0)), h.few_slots)

pos_upgrade : (x : Standing) → 0 < (weight x).upgrade → role_of x ≡ upgrade_role
pos_upgrade x = elim x as (λ z. 0 < (weight z).upgrade → role_of z ≡ upgrade_role) [ Upgrade ↦ λ _. refl | _ ↦ λ h. absurd (omega arith) ]

pos_exclusive : (x : Standing) → 0 < (weight x).exclusive → role_of x ≡ exclusive_role
pos_exclusive x = elim x as (λ z. 0 < (weight z).exclusive → role_of z ≡ exclusive_role) [ Exclusive ↦ λ _. refl | _ ↦ λ h. absurd (omega arith) ]

pos_announced : (f : Bool) → (0 < cond f 1 0 → f ≡ true) × (0 < cond f 0 1 → f ≡ false)
pos_announced true = ((λ _. refl), λ h. absurd (omega arith))
pos_announced false = ((λ h. absurd (omega arith)), λ _. refl)

pos_raised : (x : Standing) → 0 < (weight x).raised → role_of x ≡ Announces true
pos_raised x = elim x as (λ z. 0 < (weight z).raised → role_of z ≡ Announces true) [ Announcing p k f ↦ λ h. ap Announces ((pos_announced f).0 h) | _ ↦ λ h. absurd (omega arith) ]

pos_plain : (x : Standing) → 0 < (weight x).plain → role_of x ≡ Announces false
pos_plain x = elim x as (λ z. 0 < (weight z).plain → role_of z ≡ Announces false) [ Announcing p k f ↦ λ h. ap Announces ((pos_announced f).1 h) | _ ↦ λ h. absurd (omega arith) ]

-- counts that a role tells
abbrev upgrades : Role → ℕ
upgrades Outside = 0
upgrades (role.Holds Shared) = 0
upgrades (role.Holds mode.Upgrade) = 1
upgrades (role.Holds mode.Exclusive) = 0
upgrades (Announces f) = 0

abbrev exclusives : Role → ℕ
exclusives Outside = 0
exclusives (role.Holds Shared) = 0
exclusives (role.Holds mode.Upgrade) = 0
exclusives (role.Holds mode.Exclusive) = 1
exclusives (Announces f) = 0

abbrev raised_ones : Role → ℕ
raised_ones Outside = 0
raised_ones (role.Holds m) = 0
raised_ones (Announces f) = cond f 1 0

abbrev announced_ones : Role → ℕ
announced_ones Outside = 0
announced_ones (role.Holds m) = 0
announced_ones (Announces f) = 1

roles_count : (x : Standing) → (upgrades (role_of x) ≡ (weight x).upgrade) × (exclusives (role_of x) ≡ (weight x).exclusive) × (raised_ones (role_of x) ≡ (weight x).raised) × (announced_ones (role_of x) ≡ (weight x).plain + (weight x).raised)
roles_count x = elim x as (λ z. (upgrades (role_of z) ≡ (weight z).upgrade) × (exclusives (role_of z) ≡ (weight z).exclusive) × (raised_ones (role_of z) ≡ (weight z).raised) × (announced_ones (role_of z) ≡ (weight z).plain + (weight z).raised)) [
  | Announcing p k f ↦ (refl, refl, refl, sym (strong_two f))
  | _ ↦ (refl, refl, refl, omega arith)
]

module _ {C P : Type 0} (g : Ghosts C P) (plan : Plan C) (s : State (Unit {0}) (View P)) (h : Holds g plan s) (lock : ℕ) (near : lock < plan.shape.locks) where
  abbrev word : ℕ
  word = slice_index s.words (plan.shape.slots + lock)

  abbrev named : ℕ
  named = named_by plan.shape.slots lock s.words

  abbrev Law : Type 0
  Law = Lawful word named (counts lock s.views)

  some_one : (f : Tally → ℕ) (F : Standing → Type 0) → ((x : Standing) → 0 < f (weight x) → F x) → 0 < total (count f lock) s.views → SomeStands s.views lock F
  some_one f F each pos = let t = find (count f lock) s.views pos in (t.0, t.1, t.2, each (standing t.1 lock) t.3)

  counted_one : (f : Tally → ℕ) (j : ℕ) (v : View P) → get_elem? s.views j ≡ some v → 1 ≤ f (weight (standing v lock)) → 1 ≤ total (count f lock) s.views
  counted_one f j v at one = omega (arith, term_le (count f lock) s.views j v at)

  -- the rule shows a lawful lock
  shows_lawful : ShowsLawfulLock s.views lock word
  shows_lawful =
      let l = h.lawful lock near in let bits = law_bits word named (counts lock s.views) l in let alone = l.alone in let b1 = bits.1 in let b2 = bits.2 in let b3 = bits.3 in
      let Up : Standing → Type 0 = λ x. (role_of x ≡ upgrade_role) ⊎ (role_of x ≡ Announces true) in
      let An : Standing → Type 0 = λ x. (f : Bool) × (role_of x ≡ Announces f) in
      record {
        lawful = shown_lawful s.views lock (λ j k v u e f ne lives lives'.
            let two : (t : Tally → ℕ) → t (weight (standing v lock)) + t (weight (standing u lock)) ≤ total (count t lock) s.views = λ t. terms_le (count t lock) s.views j k v u (λ e. ne (sym e)) e f in (
              roles_fit (standing v lock) (standing u lock) (omega (arith, two (λ t. t.exclusive), two (λ t. t.upgrade), two (λ t. t.plain), two (λ t. t.raised)), λ some_ex. omega (arith, two (λ t. t.shared), l.nobody (omega (arith, two (λ t. t.exclusive))))),
              λ same. numbers_differ plan.shape.seats s.views j k v u h.numbered e f (λ e. ne (sym e)) lives lives' (sym same),
            ));
        upgrade = (
          (λ on. dite (dec_lt 0 (counts lock s.views).upgrade)
              (λ held. some_one (λ t. t.upgrade) Up (λ x pos. inl (pos_upgrade x pos)) held)
              (λ no. some_one (λ t. t.raised) Up (λ x pos. inr (pos_raised x pos)) (omega arith))),
          λ t. ⊎_elim
              (λ is. let one = counted_one (λ t. t.upgrade) t.0 t.1 t.2 (omega (arith, (roles_count (standing t.1 lock)).0, ap upgrades is)) in omega arith)
              (λ is. let one = counted_one (λ t. t.raised) t.0 t.1 t.2 (omega (arith, (roles_count (standing t.1 lock)).2, ap raised_ones is)) in omega arith)
              t.3,
        );
        begun = (
          (λ on. dite (dec_lt 0 (counts lock s.views).plain)
              (λ held. some_one (λ t. t.plain) An (λ x pos. (false, pos_plain x pos)) held)
              (λ no. some_one (λ t. t.raised) An (λ x pos. (true, pos_raised x pos)) (omega arith))),
          λ t. let is = t.3 in let both = roles_count (standing t.1 lock) in
              let one : 1 ≤ (weight (standing t.1 lock)).plain + (weight (standing t.1 lock)).raised = omega (arith, both.3, ap announced_ones is.1) in
              omega (arith, one, term_le (count (λ t. t.plain) lock) s.views t.0 t.1 t.2, term_le (count (λ t. t.raised) lock) s.views t.0 t.1 t.2),
        );
        held = (
          (λ on. some_one (λ t. t.exclusive) (λ x. role_of x ≡ exclusive_role) pos_exclusive (omega arith)),
          λ t. let one = counted_one (λ t. t.exclusive) t.0 t.1 t.2 (omega (arith, (roles_count (standing t.1 lock)).1, ap exclusives t.3)) in omega arith,
        );
      }

  -- between any two steps, each lock is as the rule says
  pub rule_shows : LockShows plan.shape.slots lock s.words s.views
  rule_shows =
      let l = h.lawful lock near in let bits = law_bits word named (counts lock s.views) l in let b0 = bits.0 in let b2 = bits.2 in let b3 = bits.3 in record {
        shows = shows_lawful;
        formed = word_formed word named (counts lock s.views) l (few_tokens g plan s h lock near) (all_units g plan s h lock);
        units = units_whole word named (counts lock s.views) l (few_tokens g plan s h lock near) (all_units g plan s h lock);
        slots_known = λ clear k inside names.
            let one : naming lock (slice_index s.words k) ≡ 1 = ap {B = ℕ} (λ (b : Bool). cond b 1 0) (eq-eqb (slice_index s.words k) (lock + 1) names) in
            let t = find (λ v. cover k (standing v lock)) s.views (omega (arith, h.swept lock near k inside, one, clear)) in (t.0, t.1, t.2, t.3);
        undeferred = λ writer. let m = l.barred (omega arith) in omega arith;
        emptied = λ held. let w8 = l.drained (omega arith) in let nobody = l.nobody (omega arith) in (omega arith, nobody);
      }
