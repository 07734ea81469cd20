-- Each event keeps the rule, and tells what its play says.
use Rattle.std.proofs.Common.{◌≡◌, ℕ, ◌+◌, ◌-◌, ◌*◌, ◌/◌, ◌%◌, ◌^◌, ◌<◌, ◌≤◌, ◌≢◌, ◌⊎◌, inl, inr, ⊎_elim, ◌||◌, ◌&&◌, ◌==◌, if◌then◌else◌, List, map, set, get_or, drop, Bool, true, false, eqb, ne_eqb, eq-eqb, nat_lt, lt-ltb, cond, sym, refl, ap, ◌∙◌, subst, arith, length-set, get_or-set_same, get_or-set_other, Option, Some, None, lit<}
use mathlib.Core.Option.{some}
use mathlib.Core.Logic.{dite}
use Rattle.std.proofs.Math.Decide.{dec_lt}
use native.Mathlib.Decide.{ℕ_discrete}
use lib.ListN.{get_elem?}
use Rattle.std.specs.Prelude.{bit_xor}
use Rattle.std.proofs.lemmas.Nat.{xor_block}
use Rattle.std.specs.Int.Bits.{xor_zero_r}
use Rattle.atomic_table.specs.Table.{State}
use Rattle.atomic_table.proofs.Lists.{set_else}
use Rattle.lock_model.specs.declared.model.Policy.{Policy}
use Rattle.lock_model.specs.declared.model.Policy.TheVariants.{WritePriority, ReadPriority}
use Rattle.lock_model.specs.declared.model.Act.{Act}
use Rattle.lock_model.specs.declared.model.Act.TheVariants as act
use Rattle.lock_model.specs.declared.model.SeatRole.{SeatRole}
use Rattle.lock_model.specs.Locks.{bars, role_after}
use Rattle.state_word.specs.Words.{may_defer_of, upgrade_of, begun_of, held_of, units_of, is_deep, enter_of, lower_of, announce_of, retract_of}
use Rattle.hall.specs.declared.cargo.CargoRule.{Ghosts}
use Rattle.hall.specs.declared.view.View.{View}
use Rattle.hall.specs.declared.view.Plan.{Plan}
use Rattle.hall.specs.declared.view.Shape.{Shape}
use Rattle.hall.specs.declared.view.StepKind.{StepKind}
use Rattle.hall.specs.declared.view.StepKind.TheVariants as kinds
use Rattle.hall.specs.declared.view.Standing.{Standing}
use Rattle.hall.specs.declared.view.Standing.TheVariants.{Away, Inline, Undecided, Owing, Upgrade, Announcing, Exclusive}
use Rattle.hall.specs.Cargo.{shared_mode, exclusive_mode, CargoSeat, Lowers, learnt_seat}
use Rattle.hall.specs.Rule.{cargo_seat}
use Rattle.std.proofs.lemmas.List.{set-get_or, map-set}
use Rattle.view_sums.specs.Sums.{total, term_le, total-plus}
use Rattle.hall.specs.Locks.{Tally, weight, Lawful, cover, count, counts, named_by}
use Rattle.hall.specs.Views.{pending, is_away, mode_of, standing, after_step, after_look}
use Rattle.hall.specs.Trails.{is_join, Others}
use Rattle.hall.specs.Moves.{role_of, lock_shown, after_act, Moment, cargo_words}
use Rattle.hall.specs.Plays.{conflicts_for_shared, conflicts_for_announcing, Looks, Enters, GivesBack, lowered_part, lowered_act, Announces, Holding, HoldMisses, Retracts, Releases}
use Rattle.hall.specs.Rule.{Holds, Formed}
use Rattle.hall.specs.NumberLaws.{numbers_differ}
use Rattle.hall.proofs.Arith.{enter_lawful, lower_lawful, announce_lawful, hold_lawful, retract_lawful, release_lawful, units}
use Rattle.hall.specs.Shows.{law_bits}
use Rattle.hall.proofs.Locking.{plus, gone, counts_same, counts_split, no_hands}
use Rattle.hall.proofs.Cargoes.{reading_fits, writing_fits}
use Rattle.hall.proofs.Keeps.{kept, reader_cause}
use Rattle.hall.specs.ShownLaws.{shown_same, acts}
use Rattle.hall.proofs.Slots.{Done, cover_start}
use Rattle.hall.proofs.Steps.{quiet, few_units, few_named, roomy, changes, gains, loses, rests}
use Rattle.hall.proofs.Trailing.{and_right}

-- a bit that isn't 1 is 0
not_set : (b : ℕ) → b < 2 → (b == 1) ≡ false → b ≡ 0
not_set b small e = dite (ℕ_discrete b 1) (λ is. let on : (b == 1) ≡ true = eq-eqb b 1 is in absurd (cc)) (λ ne. omega (arith, ne))

both_off : (a b : Bool) → a || b ≡ false → (a ≡ false) × (b ≡ false)
both_off a b h = elim a as (λ z. z || b ≡ false → (z ≡ false) × (b ≡ false)) [ true ↦ λ bad. absurd (cc) | false ↦ λ e. (refl, e) ] h

share_held : (p : Policy) (w : ℕ) → conflicts_for_shared p w ≡ false → held_of w ≡ 0
share_held WritePriority w h = not_set (held_of w) (omega arith) (both_off (held_of w == 1) (begun_of w == 1) h).0
share_held ReadPriority w h = not_set (held_of w) (omega arith) h

share_begun : (p : Policy) (w : ℕ) → conflicts_for_shared p w ≡ false → p ≡ WritePriority → begun_of w ≡ 0
share_begun p w h first = let t : conflicts_for_shared WritePriority w ≡ false = ap (λ (z : Policy). conflicts_for_shared z w) (sym first) ∙ h in not_set (begun_of w) (omega arith) (both_off (held_of w == 1) (begun_of w == 1) t).1

pub announce_clear : (w : ℕ) → conflicts_for_announcing w ≡ false → (upgrade_of w ≡ 0) × (begun_of w ≡ 0) × (held_of w ≡ 0)
announce_clear w h = let a = both_off (upgrade_of w == 1) ((begun_of w == 1) || (held_of w == 1)) h in let b = both_off (begun_of w == 1) (held_of w == 1) a.1 in
    (not_set (upgrade_of w) (omega arith) a.0, not_set (begun_of w) (omega arith) b.0, not_set (held_of w) (omega arith) b.1)

-- which standings of others bar no act
pub enter_open : (p : Policy) (x : Standing) → (weight x).exclusive ≤ 0 → (p ≡ WritePriority → (weight x).plain + (weight x).raised ≤ 0) → bars p act.EnterShared (role_of x) ≡ false
enter_open p x h calm = elim x as (λ z. (weight z).exclusive ≤ 0 → (p ≡ WritePriority → (weight z).plain + (weight z).raised ≤ 0) → bars p act.EnterShared (role_of z) ≡ false) [
  | Exclusive ↦ λ h _. absurd (omega arith)
  | Announcing q k f ↦ λ _ calm. elim p as (λ z. (z ≡ WritePriority → (weight (Announcing q k f)).plain + (weight (Announcing q k f)).raised ≤ 0) → bars z act.EnterShared (role_of (Announcing q k f)) ≡ false) [
    | WritePriority ↦ λ c. absurd (let bad = c refl in elim f as (λ b. cond b 0 1 + cond b 1 0 ≤ 0 → ⊥) [ true ↦ λ e. omega arith | false ↦ λ e. omega arith ] bad)
    | ReadPriority ↦ λ _. refl
  ] calm
  | _ ↦ λ _ _. refl
] h calm

pub announce_open : (p : Policy) (x : Standing) → (weight x).upgrade + (weight x).plain + (weight x).raised + (weight x).exclusive ≤ 0 → bars p act.Announce (role_of x) ≡ false
announce_open p x h = elim x as (λ z. (weight z).upgrade + (weight z).plain + (weight z).raised + (weight z).exclusive ≤ 0 → bars p act.Announce (role_of z) ≡ false) [
  | Upgrade ↦ λ h. absurd (omega arith)
  | Exclusive ↦ λ h. absurd (omega arith)
  | Announcing q k f ↦ λ h. absurd (elim f as (λ b. 0 + cond b 0 1 + cond b 1 0 + 0 ≤ 0 → ⊥) [ true ↦ λ e. omega arith | false ↦ λ e. omega arith ] h)
  | _ ↦ λ _. refl
] h

pub hold_open : (p : Policy) (x : Standing) → (weight x).exclusive + (weight x).shared + (weight x).upgrade + (weight x).plain + (weight x).raised ≤ 0 → bars p act.TakeExclusive (role_of x) ≡ false
hold_open p x h = elim x as (λ z. (weight z).exclusive + (weight z).shared + (weight z).upgrade + (weight z).plain + (weight z).raised ≤ 0 → bars p act.TakeExclusive (role_of z) ≡ false) [
  | Away ↦ λ _. refl
  | Undecided k ↦ λ _. refl
  | Owing ↦ λ _. refl
  | Announcing q k f ↦ λ h. absurd (elim f as (λ b. 0 + 0 + 0 + cond b 0 1 + cond b 1 0 ≤ 0 → ⊥) [ true ↦ λ e. omega arith | false ↦ λ e. omega arith ] h)
  | _ ↦ λ h. absurd (omega arith)
] h

bump_fits : (w : ℕ) → (if is_deep w then 1 - w % 2 else 0) + w % 2 ≤ 1
bump_fits w = elim (is_deep w) as (λ b. (if b then 1 - w % 2 else 0) + w % 2 ≤ 1) [ true ↦ omega arith | false ↦ omega arith ]

bump_calm : (w : ℕ) → 0 < (if is_deep w then 1 - w % 2 else 0) → w / 4 % 2 ≡ 0
bump_calm w h = dite (ℕ_discrete (w / 4 % 2) 0) (λ e. e) (λ ne.
    let no : (begun_of w == 0) ≡ false = ne_eqb (w / 4 % 2) 0 ne in
    let shut : is_deep w ≡ false = and_right (nat_lt 1 (units_of w) && nat_lt (units_of w) 2147483648) (begun_of w == 0) no in
    let zero_bump : (if is_deep w then 1 - w % 2 else 0) ≡ 0 = ap (λ b. if b then 1 - w % 2 else 0) shut in absurd (omega arith))

enter_may : (w b : ℕ) → b + w % 2 ≤ 1 → ((w + 4294967296) % 18446744073709551616 + b) % 2 ≡ w % 2 + b
enter_may w b h = omega arith

pub retract_word : (w : ℕ) → w % 8 ≡ 4 → bit_xor w 5 ≡ w - 3
retract_word w e = let q : ℕ = w / 8 in let is : w ≡ q * 2 ^ 3 + 4 = omega arith in
    let block : bit_xor (q * 2 ^ 3 + 4) 5 ≡ bit_xor q 0 * 2 ^ 3 + 1 = xor_block 3 q 0 4 5 (lit< tt) (lit< tt) in
    ap (λ (z : ℕ). bit_xor z 5) is ∙ block ∙ ap (λ (z : ℕ). z * 2 ^ 3 + 1) (xor_zero_r q) ∙ omega arith

shared_exclusive : shared_mode ≡ exclusive_mode → ⊥
shared_exclusive e = cc

announced_bits : (w named p : ℕ) (o : Tally) → Lawful w named (plus o (weight (Announcing p 0 false))) → w % 8 ≡ 4
announced_bits w named p o l = let b = law_bits w named (plus o (weight (Announcing p 0 false))) l in let a = l.alone in let m = l.barred (omega arith) in let b0 = b.0 in let b1 = b.1 in let b2 = b.2 in omega arith

-- an announced writer whose sweep is done finds no reader where the count is 0
held_law : (named p : ℕ) (o : Tally) → (o.plain + o.raised ≡ 0 → o.hand ≡ 0) → units o < 1073741824 → (4 % 2 ≡ 0 → o.plain + o.raised ≡ 0 → named ≤ o.undecided + 0) → Lawful 4 named (plus o (weight (Announcing p 0 false))) → Lawful 8 named (plus o (weight Exclusive))
held_law named p o empty few swept l = let a = l.alone in let n = swept (omega arith) (omega arith) in hold_lawful named p o l (omega arith) (empty (omega arith)) few (omega arith)

-- and where it finds another word, the count isn't 0, and a reader is there
missed_law : (w named p : ℕ) (o : Tally) → w < 18446744073709551616 → (o.plain + o.raised ≡ 0 → o.hand ≡ 0) → units o < 1073741824 → (w % 2 ≡ 0 → o.plain + o.raised ≡ 0 → named ≤ o.undecided + 0) → Lawful w named (plus o (weight (Announcing p 0 false))) → w ≢ 4 → (w / 4294967296 ≢ 0) × (0 < units o)
missed_law w named p o fits empty few swept l miss = let a = l.alone in let m = l.barred (omega arith) in let b = law_bits w named (plus o (weight (Announcing p 0 false))) l in let b0 = b.0 in let n = swept (omega arith) (omega arith) in let e = empty (omega arith) in let s = l.shows in
    ((λ z. miss (omega (arith, z))), dite (dec_lt 0 (units o)) (λ d. d) (λ no. absurd (miss (omega arith))))

load_hold : kinds.Load ≡ kinds.Hold → ⊥
load_hold e = cc

module _ {C P : Type 0} (g : Ghosts C P) (plan : Plan C) (s : State (Unit {0}) (View P)) (h : Holds g plan s) (id lock : ℕ) (v : View P) (at : get_elem? s.views id ≡ some v) (lives : 0 < v.span) (shape : v.shape ≡ plan.shape) (near : lock < plan.shape.locks) where
  abbrev word : ℕ
  word = get_or s.words (plan.shape.slots + lock) 0

  abbrev Kept : ℕ → View P → Type 0
  Kept new w = Holds g plan record { words = set s.words (plan.shape.slots + lock) new; homes = s.homes; views = set s.views id w }

  -- the moment of a step that kept the rule
  pub moment : (w : View P) (new : ℕ) (a : Option Act) → Kept new w → ((k : ℕ) → k ≢ lock → standing w k ≡ standing v k) → w.number ≡ v.number → w.span ≡ v.span
      → after_act (lock_shown v.shape.policy lock s.views) v.number a ≡ Some (lock_shown v.shape.policy lock (set s.views id w)) → Moment g v w lock word new a
  moment w new a kept else_same number span move =
      let place : (k : ℕ) → plan.shape.slots + k ≡ v.shape.slots + k = λ k. ap (λ (z : Shape). z.slots + k) (sym shape) in record {
        plan = plan;
        state = s;
        id = id;
        shape = sym shape;
        near = near;
        mine = at;
        finds = ap (λ (j : ℕ). get_or s.words j 0) (sym (place lock));
        before = h;
        after = subst (λ (j : ℕ). Holds g plan record { words = set s.words j new; homes = s.homes; views = set s.views id w }) (place lock) kept;
        moves = move;
        elsewhere = λ k ne. shown_same s.views id k v w at number span (ap role_of (else_same k ne));
      }

  -- a step that moves nothing
  pub still : (w : View P) → w.number ≡ v.number → w.span ≡ v.span → role_of (standing w lock) ≡ role_of (standing v lock) → after_act (lock_shown v.shape.policy lock s.views) v.number None ≡ Some (lock_shown v.shape.policy lock (set s.views id w))
  still w number span role = ap (λ (l : List SeatRole). Some (record { policy = v.shape.policy; seats = l })) (sym (shown_same s.views id lock v w at number span role))

  -- a step that is an act
  pub acting : (w : View P) (a : Act) (x y : Standing) → standing v lock ≡ x → standing w lock ≡ y → w.number ≡ v.number → w.span ≡ v.span → role_after a (role_of x) ≡ Some (role_of y)
      → ((j : ℕ) (u : View P) → get_elem? s.views j ≡ some u → j ≢ id → bars v.shape.policy a (role_of (standing u lock)) ≡ false)
      → after_act (lock_shown v.shape.policy lock s.views) v.number (Some a) ≡ Some (lock_shown v.shape.policy lock (set s.views id w))
  acting w a x y was is number span table open_to = acts v.shape.policy a s.views id lock v w at number span lives (λ j u e ne living. numbers_differ plan.shape.seats s.views id j v u h.numbered at e ne lives living)
      (ap (λ (z : Standing). role_after a (role_of z)) was ∙ table ∙ ap (λ (z : Standing). Some (role_of z)) (sym is)) open_to

  pub stands : (kind : StepKind) (x : ℕ) (won : Bool) (y : Standing) (part : P) → standing (after_step v kind lock x won y part) lock ≡ y
  stands kind x won y part = let f = h.formed id v at in get_or-set_same v.standings lock y Away (subst (λ (k : ℕ). lock < k) (sym (f.wide lives)) near)

  pub stays : (kind : StepKind) (x : ℕ) (won : Bool) (y : Standing) (part : P) (k : ℕ) → k ≢ lock → standing (after_step v kind lock x won y part) k ≡ standing v k
  stays kind x won y part k ne = get_or-set_other v.standings lock k y Away ne

  -- what a step tells that changed nothing
  pub looks_at : (kind : StepKind) → is_join kind ≡ false → word < 18446744073709551616 → (kind ≡ kinds.Hold → units_of word ≢ 0 → Others s.views lock v.number) → Kept word (after_look v kind lock word) × Looks g kind v lock word (after_look v kind lock word)
  looks_at kind steps fits held = let kept : Kept word (after_look v kind lock word) = quiet g plan s h id lock v kind at lives near steps held in
      (kept, (refl, roomy g plan s h lock near fits, moment (after_look v kind lock word) word None kept (stays kind word false (standing v lock) v.part) refl refl (still (after_look v kind lock word) refl refl (ap role_of (stands kind word false (standing v lock) v.part)))))

  -- the same with another part
  pub looks_noted : word < 18446744073709551616 → (part : P) → g.holds plan.cargo (drop (plan.shape.slots + plan.shape.locks) s.words) (set (map cargo_seat s.views) id (learnt_seat (cargo_seat v) part))
      → let w = after_step v kinds.Load lock word false (standing v lock) part in Kept word w × ((w ≡ w) × (units_of word ≢ 2147483647) × (m : Moment g v w lock word word None) × (cargo_words g m.plan m.state ≡ drop (plan.shape.slots + plan.shape.locks) s.words))
  unfolding moment
  looks_noted fits part loads =
      let w : View P = after_step v kinds.Load lock word false (standing v lock) part in
      let same : standing w lock ≡ standing v lock = stands kinds.Load word false (standing v lock) part in
      let modes : map mode_of (set v.standings lock (standing v lock)) ≡ map mode_of v.standings = ap (map mode_of) (set-get_or v.standings lock Away) in
      let seat : cargo_seat w ≡ learnt_seat (cargo_seat v) part = λ i. record { number = v.number; quota = v.quota; modes = modes i; part = part } in
      let seats : map cargo_seat (set s.views id w) ≡ set (map cargo_seat s.views) id (learnt_seat (cargo_seat v) part) = map-set cargo_seat s.views id w ∙ ap (λ (z : CargoSeat P). set (map cargo_seat s.views) id z) seat in
      let kept' : Kept word w = kept g plan s h id lock word v kinds.Load false (standing v lock) part at lives near refl (λ _. refl) (λ ne. absurd (ne refl)) (λ is _ _. absurd (load_hold is))
      (subst (Lawful word (named_by plan.shape.slots lock s.words)) (sym (counts_same s.views id lock v w at same)) (h.lawful lock near))
      (λ k ns old new inside is sum le. let c : cover k (standing w lock) ≡ cover k (standing v lock) = ap (cover k) same in omega (arith, c, sum, le))
      ((h.formed id v at).seated lock)
      (subst (λ (l : List Standing). total pending l ≤ 1) (sym (set-get_or v.standings lock Away)) (h.formed id v at).one_pending)
      (subst (g.holds plan.cargo (drop (plan.shape.slots + plan.shape.locks) s.words)) (sym seats) loads) in
      (kept', (refl, roomy g plan s h lock near fits, moment w word None kept' (stays kinds.Load word false (standing v lock) part) refl refl (still w refl refl (ap role_of same)), refl))

  -- the counts of the others, and the law with this pass's standing x
  pub law_at : (x : Standing) → standing v lock ≡ x → Lawful word (named_by plan.shape.slots lock s.words) (plus (counts lock (set s.views id (gone v))) (weight x))
  law_at x st = let split = counts_split s.views id lock v v at in
      subst (λ (z : Standing). Lawful word (named_by plan.shape.slots lock s.words) (plus (counts lock (set s.views id (gone v))) (weight z))) st
      (subst (Lawful word (named_by plan.shape.slots lock s.words)) split.0 (h.lawful lock near))

  -- a count of the others that is 0 is 0 of each
  pub each_none : (f : Tally → ℕ) → total (count f lock) (set s.views id (gone v)) ≡ 0 → (j : ℕ) (u : View P) → get_elem? s.views j ≡ some u → j ≢ id → f (weight (standing u lock)) ≤ 0
  each_none f none' j u e ne = let there : get_elem? (set s.views id (gone v)) j ≡ some u = set_else s.views id j (gone v) ne ∙ e in omega (arith, term_le (count f lock) (set s.views id (gone v)) j u there, none')

  pub entered : standing v lock ≡ Away → conflicts_for_shared plan.shape.policy word ≡ false → word < 18446744073709551616 → (w : View P) × Kept (enter_of word) w × Enters g v lock word w
  entered away may fits =
      let law = law_bits word (named_by plan.shape.slots lock s.words) (counts lock s.views) (h.lawful lock near) in
      let held : held_of word ≡ 0 = share_held plan.shape.policy word may in
      let others = law_bits word (named_by plan.shape.slots lock s.words) (plus (counts lock (set s.views id (gone v))) (weight Away)) (law_at Away away) in
      let got = gains g plan s h id lock word v kinds.Enter Inline shared_mode at (ap mode_of away) refl (λ e. cc) (reading_fits s.views id lock (sym law.3 ∙ held)) in let part : P = got.0 in
      let w : View P = after_step v kinds.Enter lock word true Inline part in
      let kept : Kept (enter_of word) w = changes g plan s h id lock (enter_of word) v kinds.Enter Inline part at lives near refl (and_right (is_away (standing v lock)) false refl)
      (λ named o _ few _ law. enter_lawful word named (if is_deep word then 1 - word % 2 else 0) o (subst (λ (z : Standing). Lawful word named (plus o (weight z))) away law) held few (bump_fits word) (bump_calm word))
      (λ k ns old cov inside _ sum le. let c : cover k (standing v lock) ≡ 0 = ap (cover k) away in omega (arith, c, sum, le, enter_may word (if is_deep word then 1 - word % 2 else 0) (bump_fits word)))
      tt refl got.2 in
      let o3 = others.3 in let o2 = others.2 in
      let move = acting w act.EnterShared Away Inline away (stands kinds.Enter word true Inline part) refl refl refl
      (λ j u e ne. enter_open v.shape.policy (standing u lock) (each_none (λ t. t.exclusive) (omega (arith, held)) j u e ne)
      (λ first. let calm : begun_of word ≡ 0 = share_begun plan.shape.policy word may (ap (λ (z : Shape). z.policy) (sym shape) ∙ first) in omega (arith, each_none (λ t. t.plain) (omega (arith, calm)) j u e ne, each_none (λ t. t.raised) (omega (arith, calm)) j u e ne))) in
      (w, kept, ((drop (plan.shape.slots + plan.shape.locks) s.words, part, got.1, refl), moment w (enter_of word) (Some act.EnterShared) kept (stays kinds.Enter word true Inline part) refl refl move))

  -- the count of units at a lock is a sum over the passes
  pub unit_sum : (l : List (View P)) → units (counts lock l) ≡ total (λ u. (weight (standing u lock)).shared + (weight (standing u lock)).undecided + (weight (standing u lock)).owing) l
  unit_sum l = sym (total-plus (count (λ t. t.shared) lock) (count (λ t. t.undecided) lock) (count (λ t. t.owing) lock) l)

  pub lowered : (standing v lock ≡ Inline) ⊎ (standing v lock ≡ Owing) → (w : View P) × Kept (lower_of word) w × GivesBack g v lock word w
  lowered inside = ⊎_elim from_inline from_owing inside
    where
      sweeps : (x : Standing) → standing v lock ≡ x → ((k : ℕ) → cover k x ≡ 0) → (k ns old cov : ℕ) → k < plan.shape.slots → ns ≤ 1 → cov + cover k (standing v lock) ≡ old + 0 → ns ≤ may_defer_of word + old → ns ≤ may_defer_of (lower_of word) + cov
      sweeps x st bare k ns old cov inside one sum le = let c : cover k (standing v lock) ≡ 0 = ap (cover k) st ∙ bare k in omega (arith, c, sum, le)

      from_inline : standing v lock ≡ Inline → (w : View P) × Kept (lower_of word) w × GivesBack g v lock word w
      from_inline st =
          let part : P = g.lowered lock None v.part in let w : View P = after_step v kinds.Lower lock word true Away part in
          let kept : Kept (lower_of word) w = changes g plan s h id lock (lower_of word) v kinds.Lower Away part at lives near refl (ap (λ (z : Standing). is_away z && true) st)
          (λ named o _ few _ law. lower_lawful word named 1 0 o (subst (λ (z : Standing). Lawful word named (plus o (weight z))) st law) refl few)
          (sweeps Inline st (λ k. refl)) tt refl
          (loses g plan s h id lock word v kinds.Lower Away None at refl (subst (λ (z : Standing). Lowers (mode_of z) None) (sym st) tt) (λ e. absurd (shared_exclusive (sym (ap mode_of st) ∙ e)))) in
          let m : Moment g v w lock word (lower_of word) (Some act.Leave) = moment w (lower_of word) (Some act.Leave) kept (stays kinds.Lower word true Away part) refl refl
          (acting w act.Leave Inline Away st (stands kinds.Lower word true Away part) refl refl refl (λ j u e ne. refl)) in
          (w, kept, (ap (λ (z : Standing). after_step v kinds.Lower lock word true Away (lowered_part g z lock v.part)) (sym st), subst (λ (z : Standing). Moment g v w lock word (lower_of word) (lowered_act g z)) (sym st) m))

      from_owing : standing v lock ≡ Owing → (w : View P) × Kept (lower_of word) w × GivesBack g v lock word w
      from_owing st =
          let w : View P = after_step v kinds.Lower lock word true Away v.part in
          let kept : Kept (lower_of word) w = changes g plan s h id lock (lower_of word) v kinds.Lower Away v.part at lives near refl (ap (λ (z : Standing). is_away z && true) st)
          (λ named o _ few _ law. lower_lawful word named 0 1 o (subst (λ (z : Standing). Lawful word named (plus o (weight z))) st law) refl few)
          (sweeps Owing st (λ k. refl)) tt refl
          (rests g plan s h id lock word v kinds.Lower Away at (ap mode_of (sym st))) in
          let m : Moment g v w lock word (lower_of word) None = moment w (lower_of word) None kept (stays kinds.Lower word true Away v.part) refl refl
          (still w refl refl (ap role_of (stands kinds.Lower word true Away v.part) ∙ ap role_of (sym st))) in
          (w, kept, (ap (λ (z : Standing). after_step v kinds.Lower lock word true Away (lowered_part g z lock v.part)) (sym st), subst (λ (z : Standing). Moment g v w lock word (lower_of word) (lowered_act g z)) (sym st) m))

  pub announced : standing v lock ≡ Away → conflicts_for_announcing word ≡ false → word < 18446744073709551616 → (w : View P) × Kept (announce_of word) w × Announces g v lock word w
  announced away may fits =
      let clear = announce_clear word may in let y : Standing = Announcing 0 0 false in
      let others = law_bits word (named_by plan.shape.slots lock s.words) (plus (counts lock (set s.views id (gone v))) (weight Away)) (law_at Away away) in let o1 = others.1 in let o2 = others.2 in let o3 = others.3 in let c0 = clear.0 in let c1 = clear.1 in let c2 = clear.2 in
      let w : View P = after_step v kinds.Announce lock word true y v.part in
      let kept : Kept (announce_of word) w = changes g plan s h id lock (announce_of word) v kinds.Announce y v.part at lives near refl (and_right (is_away (standing v lock)) false refl)
      (λ named o _ _ _ law. announce_lawful word named 0 o fits (subst (λ (z : Standing). Lawful word named (plus o (weight z))) away law) clear.0 clear.1 clear.2)
      (λ k ns old cov inside one sum le. let c : cover k (standing v lock) ≡ 0 = ap (cover k) away in omega (arith, c, cover_start k false, sum, one))
      (omega arith, omega arith) refl
      (rests g plan s h id lock word v kinds.Announce y at (ap mode_of (sym away))) in
      let move = acting w act.Announce Away y away (stands kinds.Announce word true y v.part) refl refl refl
      (λ j u e ne. announce_open v.shape.policy (standing u lock) (omega (arith, each_none (λ t. t.upgrade) (omega arith) j u e ne, each_none (λ t. t.plain) (omega arith) j u e ne, each_none (λ t. t.raised) (omega arith) j u e ne, each_none (λ t. t.exclusive) (omega arith) j u e ne))) in
      (w, kept, (refl, moment w (announce_of word) (Some act.Announce) kept (stays kinds.Announce word true y v.part) refl refl move))

  swept : standing v lock ≡ Announcing plan.shape.slots 0 false → Done plan.shape.slots (standing v lock)
  swept st = subst (Done plan.shape.slots) (sym st) refl

  pub held : standing v lock ≡ Announcing plan.shape.slots 0 false → word ≡ 4 → (w : View P) × Kept 8 w × Holding g v lock 4 w
  held st hit =
      let o : Tally = counts lock (set s.views id (gone v)) in let x : Standing = Announcing plan.shape.slots 0 false in let named : ℕ = named_by plan.shape.slots lock s.words in
      let law8 : Lawful 8 named (plus o (weight Exclusive)) = held_law named plan.shape.slots o (no_hands (set s.views id (gone v)) lock) (few_units g plan s h id lock v at)
      (λ _ calm. let n = few_named g plan s h id lock v at near (ap may_defer_of hit) calm (swept st) in let z : (weight (standing v lock)).undecided ≡ 0 = ap (λ (z : Standing). (weight z).undecided) st in omega (arith, n, z))
      (subst (λ (z : ℕ). Lawful z named (plus o (weight x))) hit (law_at x st)) in
      let nobody = law8.nobody (omega arith) in let alone = law8.alone in
      let got = gains g plan s h id lock 4 v kinds.Hold Exclusive exclusive_mode at (ap mode_of st) refl (λ e. cc) (writing_fits s.views id lock v at (omega arith)) in let part : P = got.0 in
      let w : View P = after_step v kinds.Hold lock 4 true Exclusive part in
      let before : after_step v kinds.Hold lock word true Exclusive part ≡ w = ap (λ (z : ℕ). after_step v kinds.Hold lock z true Exclusive part) hit in
      let kept' : Kept 8 (after_step v kinds.Hold lock word true Exclusive part) = changes g plan s h id lock 8 v kinds.Hold Exclusive part at lives near refl (and_right (is_away (standing v lock)) false refl)
      (λ named o empty few swept_here law. held_law named plan.shape.slots o empty few
      (λ _ calm. let n = swept_here (ap may_defer_of hit) calm (swept st) in let z : (weight (standing v lock)).undecided ≡ 0 = ap (λ (z : Standing). (weight z).undecided) st in omega (arith, n, z))
      (subst (λ (z : ℕ). Lawful z named (plus o (weight x))) hit (subst (λ (z : Standing). Lawful word named (plus o (weight z))) st law)))
      (λ k ns old cov inside one sum le. let past : nat_lt k plan.shape.slots ≡ true = lt-ltb k plan.shape.slots inside in
      let c : cover k (standing v lock) ≡ 0 = ap (cover k) st ∙ ap {B = ℕ} (λ (b : Bool). cond b 0 1) past in let m : may_defer_of word ≡ 0 = ap may_defer_of hit in omega (arith, c, sum, le, m))
      tt refl (subst (λ (z : ℕ). g.holds plan.cargo (drop (plan.shape.slots + plan.shape.locks) s.words) (Rattle.std.proofs.Common.map Rattle.hall.specs.Rule.cargo_seat (set s.views id (after_step v kinds.Hold lock z true Exclusive part)))) (sym hit) got.2) in
      let kept : Kept 8 w = subst (Kept 8) before kept' in
      let move = acting w act.TakeExclusive x Exclusive st (stands kinds.Hold 4 true Exclusive part) refl refl refl
      (λ j u e ne. hold_open v.shape.policy (standing u lock) (omega (arith, each_none (λ t. t.exclusive) (omega arith) j u e ne, each_none (λ t. t.shared) (omega arith) j u e ne, each_none (λ t. t.upgrade) (omega arith) j u e ne, each_none (λ t. t.plain) (omega arith) j u e ne, each_none (λ t. t.raised) (omega arith) j u e ne))) in
      (w, kept, ((drop (plan.shape.slots + plan.shape.locks) s.words, part, got.1, refl), subst (λ (z : ℕ). Moment g v w lock z 8 (Some act.TakeExclusive)) hit (moment w 8 (Some act.TakeExclusive) kept (stays kinds.Hold 4 true Exclusive part) refl refl move)))

  pub hold_missed : standing v lock ≡ Announcing plan.shape.slots 0 false → word < 18446744073709551616 → word ≢ 4 → (w : View P) × Kept word w × HoldMisses g v lock word w
  hold_missed st fits miss =
      let o : Tally = counts lock (set s.views id (gone v)) in let x : Standing = Announcing plan.shape.slots 0 false in let named : ℕ = named_by plan.shape.slots lock s.words in
      let found = missed_law word named plan.shape.slots o fits (no_hands (set s.views id (gone v)) lock) (few_units g plan s h id lock v at)
      (λ clear calm. let n = few_named g plan s h id lock v at near clear calm (swept st) in let z : (weight (standing v lock)).undecided ≡ 0 = ap (λ (z : Standing). (weight z).undecided) st in omega (arith, n, z))
      (law_at x st) miss in
      let readers = found.1 in
      let t = looks_at kinds.Hold refl fits (λ _ _. reader_cause g plan s h id lock v at near (omega (arith, readers, unit_sum (set s.views id (gone v)))) lives) in
      (after_look v kinds.Hold lock word, t.0, (found.0, t.1))

  pub retracted : (p : ℕ) → standing v lock ≡ Announcing p 0 false → (w : View P) × Kept (bit_xor word 5) w × Retracts g v lock word w
  retracted p st =
      let x : Standing = Announcing p 0 false in let named : ℕ = named_by plan.shape.slots lock s.words in
      let bits : word % 8 ≡ 4 = announced_bits word named p (counts lock (set s.views id (gone v))) (law_at x st) in
      let w : View P = after_step v kinds.Retract lock word true Away v.part in
      let kept : Kept (retract_of word) w = changes g plan s h id lock (retract_of word) v kinds.Retract Away v.part at lives near refl (ap (λ (z : Standing). is_away z && true) st)
      (λ named o _ few _ law. retract_lawful word named p o (subst (λ (z : Standing). Lawful word named (plus o (weight z))) st law))
      (λ k ns old cov inside one sum le. let on : may_defer_of (word - 3) ≡ 1 = omega arith in omega (arith, one, on))
      tt refl (rests g plan s h id lock word v kinds.Retract Away at (ap mode_of (sym st))) in
      let move = acting w act.Retract x Away st (stands kinds.Retract word true Away v.part) refl refl refl (λ j u e ne. refl) in
      (w, subst (λ (z : ℕ). Kept z w) (sym (retract_word word bits)) kept, (refl, moment w (retract_of word) (Some act.Retract) kept (stays kinds.Retract word true Away v.part) refl refl move))

  pub released : standing v lock ≡ Exclusive → g.settled lock v.part → (w : View P) × Kept (bit_xor word 8) w × Releases g v lock word w
  released st calm =
      let named : ℕ = named_by plan.shape.slots lock s.words in let is : word ≡ 8 = (law_at Exclusive st).drained (omega arith) in
      let part : P = g.lowered lock None v.part in let w : View P = after_step v kinds.Release lock 8 true Away part in
      let before : after_step v kinds.Release lock word true Away part ≡ w = ap (λ (z : ℕ). after_step v kinds.Release lock z true Away part) is in
      let kept' : Kept 0 (after_step v kinds.Release lock word true Away part) = changes g plan s h id lock 0 v kinds.Release Away part at lives near refl (ap (λ (z : Standing). is_away z && true) st)
      (λ named o _ few _ law. (release_lawful word named o (subst (λ (z : Standing). Lawful word named (plus o (weight z))) st law)).1)
      (λ k ns old cov inside one sum le. let c : cover k (standing v lock) ≡ 0 = ap (cover k) st in let m : may_defer_of word ≡ 0 = ap may_defer_of is in omega (arith, c, sum, le, m))
      tt refl (loses g plan s h id lock word v kinds.Release Away None at refl (subst (λ (z : Standing). Lowers (mode_of z) None) (sym st) tt) (λ _. calm)) in
      let kept : Kept 0 w = subst (Kept 0) before kept' in
      let move = acting w act.Leave Exclusive Away st (stands kinds.Release 8 true Away part) refl refl refl (λ j u e ne. refl) in
      (w, subst (λ (z : ℕ). Kept (bit_xor z 8) w) (sym is) kept, (is, refl, subst (λ (z : ℕ). Moment g v w lock z 0 (Some act.Leave)) is (moment w 0 (Some act.Leave) kept (stays kinds.Release 8 true Away part) refl refl move)))
