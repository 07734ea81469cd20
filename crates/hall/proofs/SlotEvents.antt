-- Each step of deferred readers and of a sweep keeps the rule, and tells what its play says.
use Rattle.std.proofs.Common.{◌≡◌, ℕ, ◌+◌, ◌*◌, ◌%◌, ◌<◌, ◌≤◌, ◌≢◌, ◌&&◌, ◌⊎◌, inl, inr, ⊎_elim, Option, map, set, get_or, drop, true, false, Bool, cond, eq-eqb, ne_eqb, sym, refl, ap, ◌∙◌, subst, arith, Some, None}
use mathlib.Core.Option.{some}
use mathlib.Core.Logic.{dite}
use native.Mathlib.Decide.{ℕ_discrete}
use Rattle.std.proofs.Math.Decide.{dec_le}
use lib.ListN.{get_elem?}
use Rattle.atomic_table.specs.Table.{State}
use Rattle.lock_model.specs.declared.model.Act.{Act}
use Rattle.lock_model.specs.declared.model.Act.TheVariants as act
use Rattle.state_word.specs.Words.{may_defer_of, add_of}
use Rattle.hall.specs.declared.cargo.CargoRule.{Ghosts}
use Rattle.hall.specs.declared.view.View.{View}
use Rattle.hall.specs.declared.view.Plan.{Plan}
use Rattle.hall.specs.declared.view.StepKind.{StepKind}
use Rattle.hall.specs.declared.view.StepKind.TheVariants as kinds
use Rattle.hall.specs.declared.view.Standing.{Standing}
use Rattle.hall.specs.declared.view.Standing.TheVariants.{Away, Inline, Slotted, Undecided, Owing, Announcing}
use Rattle.hall.specs.Cargo.{shared_mode, exclusive_mode, Lowers}
use Rattle.hall.specs.Locks.{Tally, weight, Lawful, IsSeated, cover, counts, naming, named_by}
use Rattle.hall.specs.Moves.{role_of, lock_shown, after_act, Moment, MomentAt}
use Rattle.hall.specs.Rule.{Holds, cargo_seat}
use Rattle.hall.specs.Shows.{law_bits, naming_one}
use Rattle.hall.specs.ShownLaws.{shown_same}
use Rattle.hall.specs.Slotting.{HasNonePending, moved_on, picked, handless, hand_in, looked, SlotStays, PlacesToken, FindsTaken, Defers, Checks, Withdraws, Owes, LeavesSlot, IsInline, LooksAtSlot, PicksToken, FindsCleared, AddsHand}
use Rattle.hall.specs.Trails.{is_join}
use Rattle.hall.specs.Views.{pending, is_away, mode_of, standing, place_of, after_look, after_step, after_step_at}
use Rattle.view_sums.specs.Sums.{total}
use Rattle.hall.proofs.Arith.{units}
use Rattle.hall.proofs.Cargoes.{reading_fits}
use Rattle.hall.proofs.Events.{moment, still, acting, stands, stays, law_at, each_none, looks_at, enter_open}
use Rattle.hall.proofs.Keeps.{kept, total_lighter}
use Rattle.hall.proofs.Locking.{plus, gone, counts_split, no_hands}
use Rattle.hall.proofs.Slots.{names_yes, names_no, place_lawful, check_lawful, withdraw_lawful, leave_lawful, owe_lawful, pick_lawful, add_lawful}
use Rattle.hall.proofs.SlotKeeps.{named_moved, cover_next, total_replaced, total_alone, slot_kept, fewer_tokens}
use Rattle.hall.proofs.Steps.{few_units, changes, gains_at, loses_at, rests_at, rests}

shared_exclusive : shared_mode ≡ exclusive_mode → ⊥
shared_exclusive e = cc

check_hold : kinds.Check ≡ kinds.Hold → ⊥
check_hold e = cc

-- an undecided pass accounts for its own slot alone
own_slot : (slot k : ℕ) → k ≢ slot → cover k (Undecided slot) ≡ 0
own_slot slot k ne = ap (λ (b : Bool). cond b 1 0) (ne_eqb slot k (λ e. ne (sym e)))

-- a hand of so many units, as the number that is added
hand_word : (w k : ℕ) → k ≤ 256 → (w + k * 4294967296 % 18446744073709551616) % 18446744073709551616 ≡ add_of w k
hand_word w k few = omega arith

hand_order : (w k : ℕ) → (w + 4294967296 * k) % 18446744073709551616 ≡ add_of w k
hand_order w k = omega arith

hand_even : (w k : ℕ) → may_defer_of (add_of w k) ≡ may_defer_of w
hand_even w k = omega arith

module _ {C P : Type 0} (g : Ghosts C P) (plan : Plan C) (s : State (Unit {0}) (View P)) (h : Holds g plan s) (id lock : ℕ) (v : View P) (at : get_elem? s.views id ≡ some v) (lives : 0 < v.span) (shape : v.shape ≡ plan.shape) (near : lock < plan.shape.locks) where
  abbrev word : ℕ
  word = get_or s.words (plan.shape.slots + lock) 0

  abbrev others : Tally
  others = counts lock (set s.views id (gone v))

  abbrev KeptAt : ℕ → ℕ → View P → Type 0
  KeptAt place new w = Holds g plan record { words = set s.words place new; homes = s.homes; views = set s.views id w }

  law : (x : Standing) → standing v lock ≡ x → Lawful word (named_by plan.shape.slots lock s.words) (plus others (weight x))
  law x st = law_at g plan s h id lock v at lives shape near x st

  few : units others < 1073741824
  few = few_units g plan s h id lock v at

  -- a step on a slot from the standing x to y: left to it are the counts at its lock, the slots that are covered, the cargo, and the move
  slot_steps : (slot new : ℕ) (kind : StepKind) (won : Bool) (x y : Standing) (part : P) (a : Option Act) → slot < plan.shape.slots → is_join kind ≡ false → standing v lock ≡ x → new ≤ plan.shape.locks
      → ((k : ℕ) → k ≢ lock → naming k new ≡ naming k (get_or s.words slot 0))
      → ((named : ℕ) → named + naming lock (get_or s.words slot 0) ≡ named_by plan.shape.slots lock s.words + naming lock new → Lawful word named (plus others (weight y)))
      → ((k : ℕ) → k ≢ slot → cover k y ≡ cover k x)
      → ((old cov : ℕ) → cov + cover slot x ≡ old + cover slot y → naming lock (get_or s.words slot 0) ≤ may_defer_of word + old → naming lock new ≤ may_defer_of word + cov)
      → IsSeated plan.shape.slots y → total pending (set v.standings lock y) ≤ 1
      → (let w = after_step_at v kind lock slot (get_or s.words slot 0) won y part in g.holds plan.cargo (drop (plan.shape.slots + plan.shape.locks) s.words) (map cargo_seat (set s.views id w)) × (after_act (lock_shown v.shape.policy lock s.views) v.number a ≡ Some (lock_shown v.shape.policy lock (set s.views id w))))
      → let w = after_step_at v kind lock slot (get_or s.words slot 0) won y part in KeptAt slot new w × MomentAt g v w lock slot (get_or s.words slot 0) new a
  slot_steps slot new kind won x y part a inside steps st names other now far here seat one rest =
      let w : View P = after_step_at v kind lock slot (get_or s.words slot 0) won y part in
      let split = (counts_split s.views id lock v w at).1 in
      let on : standing w lock ≡ y = stands g plan s h id lock v at lives shape near kind 0 won y part in
      let law' : Lawful word (named_by plan.shape.slots lock (set s.words slot new)) (counts lock (set s.views id w)) =
      subst (Lawful word (named_by plan.shape.slots lock (set s.words slot new))) (sym (split ∙ ap (λ (z : Standing). plus others (weight z)) on))
      (now (named_by plan.shape.slots lock (set s.words slot new)) (named_moved plan.shape.slots lock s.words slot new inside (omega (arith, h.size)))) in
      let kept' : KeptAt slot new w = slot_kept g plan s h id lock slot new v kind won y part at lives near inside steps names other law'
      (λ k ne. far k ne ∙ ap (cover k) (sym st)) (λ old cov sum. here old cov (subst (λ (z : Standing). cov + cover slot z ≡ old + cover slot y) st sum)) seat one rest.0 in (
        kept',
        record {
          plan = plan;
          state = s;
          id = id;
          shape = sym shape;
          near = near;
          mine = at;
          finds = refl;
          before = h;
          after = kept';
          moves = rest.1;
          elsewhere = λ k ne. shown_same s.views id k v w at refl refl (ap role_of (stays g plan s h id lock v at lives shape near kind 0 won y part k ne));
        },
      )

  -- a step that leaves the slot's word, changes no mode and moves nothing
  slot_quiet : (slot : ℕ) (kind : StepKind) (x y : Standing) → slot < plan.shape.slots → is_join kind ≡ false → standing v lock ≡ x → Lawful word (named_by plan.shape.slots lock s.words) (plus others (weight y))
      → ((k : ℕ) → k ≢ slot → cover k y ≡ cover k x) → (cover slot y ≡ cover slot x) ⊎ (get_or s.words slot 0 ≢ lock + 1)
      → IsSeated plan.shape.slots y → pending y ≤ pending x → mode_of y ≡ mode_of x → role_of y ≡ role_of x
      → let w = after_step_at v kind lock slot (get_or s.words slot 0) false y v.part in KeptAt slot (get_or s.words slot 0) w × SlotStays g kind y v lock slot (get_or s.words slot 0) w
  slot_quiet slot kind x y inside steps st now far here seat calm mode role =
      let found : ℕ = get_or s.words slot 0 in let w : View P = after_step_at v kind lock slot found false y v.part in
      let on : standing w lock ≡ y = stands g plan s h id lock v at lives shape near kind 0 false y v.part in
      let pends : pending y ≤ pending (standing v lock) = subst (λ (z : Standing). pending y ≤ pending z) (sym st) calm in
      let t = slot_steps slot found kind false x y v.part None inside steps st (h.slot_words slot inside) (λ k ne. refl)
      (λ named same. let is : named ≡ named_by plan.shape.slots lock s.words = omega arith in subst (λ (z : ℕ). Lawful word z (plus others (weight y))) (sym is) now)
      far
      (λ old cov sum le. ⊎_elim (λ e. omega (arith, e)) (λ off. omega (arith, names_no lock found off)) here)
      seat (omega (arith, pends, total_replaced pending v.standings lock y pends, (h.formed id v at).one_pending))
      (rests_at g plan s h id lock slot found v kind false y at (mode ∙ ap mode_of (sym st)), still g plan s h id lock v at lives shape near w refl refl (ap role_of on ∙ role ∙ ap role_of (sym st))) in
      (t.0, (refl, t.1))

  pub placed : (slot : ℕ) → slot < plan.shape.slots → standing v lock ≡ Away → HasNonePending v → get_or s.words slot 0 ≡ 0 → (w : View P) × KeptAt slot (lock + 1) w × PlacesToken g v lock slot 0 w
  placed slot inside away none hit =
      let y : Standing = Undecided slot in let found : ℕ = get_or s.words slot 0 in
      let Told : ℕ → Type 0 = λ z. KeptAt slot (lock + 1) (after_step_at v kinds.PlaceSlot lock slot z true y v.part) × MomentAt g v (after_step_at v kinds.PlaceSlot lock slot z true y v.part) lock slot z (lock + 1) None in
      let w : View P = after_step_at v kinds.PlaceSlot lock slot found true y v.part in
      let on : standing w lock ≡ y = stands g plan s h id lock v at lives shape near kinds.PlaceSlot 0 true y v.part in
      let empty : (k : ℕ) → naming k found ≡ 0 = λ k. ap (naming k) hit ∙ names_no k 0 (λ e. omega (arith, e)) in
      let mine : naming lock (lock + 1) ≡ 1 = names_yes lock (lock + 1) refl in
      let t : Told 0 = subst Told hit (slot_steps slot (lock + 1) kinds.PlaceSlot true Away y v.part None inside refl away (omega arith)
      (λ k ne. names_no k (lock + 1) (λ e. ne (omega (arith, e))) ∙ sym (empty k))
      (λ named same. let is : named ≡ named_by plan.shape.slots lock s.words + 1 = omega (arith, same, empty lock, mine) in
      subst (λ (z : ℕ). Lawful word z (plus others (weight y))) (sym is) (place_lawful word (named_by plan.shape.slots lock s.words) slot others (law Away away) few))
      (λ k ne. own_slot slot k ne)
      (λ old cov sum le. let c : cover slot y ≡ 1 = ap (λ (b : Bool). cond b 1 0) (eq-eqb slot slot refl) in omega (arith, c, sum, mine))
      inside (total_alone pending v.standings lock y none)
      (rests_at g plan s h id lock slot found v kinds.PlaceSlot true y at (ap mode_of (sym away)), still g plan s h id lock v at lives shape near w refl refl (ap role_of on ∙ ap role_of (sym away)))) in
      (after_step_at v kinds.PlaceSlot lock slot 0 true y v.part, t.0, (refl, t.1))

  -- a slot that was taken
  pub found_taken : (slot : ℕ) → slot < plan.shape.slots → (w : View P) × KeptAt slot (get_or s.words slot 0) w × FindsTaken g v lock slot (get_or s.words slot 0) w
  found_taken slot inside =
      let x : Standing = standing v lock in
      let t = slot_quiet slot kinds.PlaceSlot x x inside refl refl (law x refl) (λ k ne. refl) (inl refl) ((h.formed id v at).seated lock) (omega arith) refl refl in
      (after_step_at v kinds.PlaceSlot lock slot (get_or s.words slot 0) false x v.part, t.0, t.1)

  -- the token goes back to an empty slot
  clears : (slot : ℕ) (kind : StepKind) (x y : Standing) (part : P) (a : Option Act) → slot < plan.shape.slots → is_join kind ≡ false → standing v lock ≡ x → get_or s.words slot 0 ≡ lock + 1
      → ((named : ℕ) → Lawful word (named + 1) (plus others (weight x)) → Lawful word named (plus others (weight y)))
      → ((k : ℕ) → k ≢ slot → cover k y ≡ cover k x) → IsSeated plan.shape.slots y → pending y ≡ 0
      → (let w = after_step_at v kind lock slot (get_or s.words slot 0) true y part in g.holds plan.cargo (drop (plan.shape.slots + plan.shape.locks) s.words) (map cargo_seat (set s.views id w)) × (after_act (lock_shown v.shape.policy lock s.views) v.number a ≡ Some (lock_shown v.shape.policy lock (set s.views id w))))
      → let w = after_step_at v kind lock slot (lock + 1) true y part in KeptAt slot 0 w × MomentAt g v w lock slot (lock + 1) 0 a
  clears slot kind x y part a inside steps st hit now far seat calm rest =
      let found : ℕ = get_or s.words slot 0 in
      let Told : ℕ → Type 0 = λ z. KeptAt slot 0 (after_step_at v kind lock slot z true y part) × MomentAt g v (after_step_at v kind lock slot z true y part) lock slot z 0 a in
      let mine : naming lock found ≡ 1 = names_yes lock found hit in
      let off : (k : ℕ) → naming k 0 ≡ 0 = λ k. names_no k 0 (λ e. omega (arith, e)) in
      subst Told hit (slot_steps slot 0 kind true x y part a inside steps st (omega arith)
      (λ k ne. off k ∙ sym (names_no k found (λ e. ne (omega (arith, e, hit)))))
      (λ named same. let is : named_by plan.shape.slots lock s.words ≡ named + 1 = omega (arith, same, mine, off lock) in now named (subst (λ (z : ℕ). Lawful word z (plus others (weight x))) is (law x st)))
      far
      (λ old cov sum le. omega (arith, off lock))
      seat (omega (arith, total_lighter pending v.standings lock y calm, (h.formed id v at).one_pending)) rest)

  pub withdrawn : (slot : ℕ) → slot < plan.shape.slots → standing v lock ≡ Undecided slot → get_or s.words slot 0 ≡ lock + 1 → (w : View P) × KeptAt slot 0 w × Withdraws g v lock slot (lock + 1) w
  withdrawn slot inside st hit =
      let x : Standing = Undecided slot in let found : ℕ = get_or s.words slot 0 in let w : View P = after_step_at v kinds.WithdrawSlot lock slot found true Away v.part in
      let on : standing w lock ≡ Away = stands g plan s h id lock v at lives shape near kinds.WithdrawSlot 0 true Away v.part in
      let t = clears slot kinds.WithdrawSlot x Away v.part None inside refl st hit (λ named l. withdraw_lawful word named slot others l few)
      (λ k ne. sym (own_slot slot k ne)) tt refl
      (rests_at g plan s h id lock slot found v kinds.WithdrawSlot true Away at (ap mode_of (sym st)), still g plan s h id lock v at lives shape near w refl refl (ap role_of on ∙ ap role_of (sym st))) in
      (after_step_at v kinds.WithdrawSlot lock slot (lock + 1) true Away v.part, t.0, (refl, t.1))

  pub owing : (slot : ℕ) → slot < plan.shape.slots → standing v lock ≡ Undecided slot → get_or s.words slot 0 ≢ lock + 1 → (w : View P) × KeptAt slot (get_or s.words slot 0) w × Owes g v lock slot (get_or s.words slot 0) w
  owing slot inside st miss =
      let t = slot_quiet slot kinds.WithdrawSlot (Undecided slot) Owing inside refl st
      (owe_lawful word (named_by plan.shape.slots lock s.words) slot others (law (Undecided slot) st) (fewer_tokens g plan s h id lock slot v at near inside st miss) (no_hands (set s.views id (gone v)) lock) few)
      (λ k ne. sym (own_slot slot k ne)) (inr miss) tt (omega arith) refl refl in
      (after_step_at v kinds.WithdrawSlot lock slot (get_or s.words slot 0) false Owing v.part, t.0, t.1)

  pub left_slot : (slot : ℕ) → slot < plan.shape.slots → standing v lock ≡ Slotted slot → get_or s.words slot 0 ≡ lock + 1 → (w : View P) × KeptAt slot 0 w × LeavesSlot g v lock slot (lock + 1) w
  left_slot slot inside st hit =
      let x : Standing = Slotted slot in let found : ℕ = get_or s.words slot 0 in let part : P = g.lowered lock None v.part in let w : View P = after_step_at v kinds.LeaveSlot lock slot found true Away part in
      let on : standing w lock ≡ Away = stands g plan s h id lock v at lives shape near kinds.LeaveSlot 0 true Away part in
      let t = clears slot kinds.LeaveSlot x Away part (Some act.Leave) inside refl st hit (λ named l. leave_lawful word named slot others l few)
      (λ k ne. refl) tt refl (
        loses_at g plan s h id lock slot found v kinds.LeaveSlot true Away None at refl (subst (λ (z : Standing). Lowers (mode_of z) None) (sym st) tt) (λ e. absurd (shared_exclusive (sym (ap mode_of st) ∙ e))),
        acting g plan s h id lock v at lives shape near w act.Leave x Away st on refl refl refl (λ j u e ne. refl),
      ) in
      (after_step_at v kinds.LeaveSlot lock slot (lock + 1) true Away part, t.0, (refl, t.1))

  pub inlined : (slot : ℕ) → slot < plan.shape.slots → standing v lock ≡ Slotted slot → get_or s.words slot 0 ≢ lock + 1 → (w : View P) × KeptAt slot (get_or s.words slot 0) w × IsInline g v lock slot (get_or s.words slot 0) w
  inlined slot inside st miss =
      let t = slot_quiet slot kinds.LeaveSlot (Slotted slot) Inline inside refl st (law (Slotted slot) st) (λ k ne. refl) (inl refl) tt (omega arith) refl refl in
      (after_step_at v kinds.LeaveSlot lock slot (get_or s.words slot 0) false Inline v.part, t.0, t.1)

  -- a sweep that goes on past a slot that doesn't name the lock
  passes_by : (kind : StepKind) (p k : ℕ) (f : Bool) → is_join kind ≡ false → p < plan.shape.slots → standing v lock ≡ Announcing p k f → get_or s.words p 0 ≢ lock + 1
      → let w = after_step_at v kind lock p (get_or s.words p 0) false (Announcing (p + 1) k f) v.part in KeptAt p (get_or s.words p 0) w × SlotStays g kind (Announcing (p + 1) k f) v lock p (get_or s.words p 0) w
  passes_by kind p k f steps inside st miss =
      let seat : IsSeated plan.shape.slots (Announcing p k f) = subst (IsSeated plan.shape.slots) st ((h.formed id v at).seated lock) in let low = seat.0 in
      slot_quiet p kind (Announcing p k f) (Announcing (p + 1) k f) inside steps st (law (Announcing p k f) st) (λ j ne. cover_next j p k k f ne) (inr miss) (omega arith, omega arith) (omega arith) refl refl

  pub looked_at : (p k : ℕ) (f : Bool) → p < plan.shape.slots → standing v lock ≡ Announcing p k f → (w : View P) × KeptAt p (get_or s.words p 0) w × LooksAtSlot g v lock p (get_or s.words p 0) w
  looked_at p k f inside st =
      let found : ℕ = get_or s.words p 0 in let x : Standing = Announcing p k f in let y : Standing = Announcing (p + 1) k f in
      let Told : Standing → Type 0 = λ z. (w : View P) × KeptAt p found w × SlotStays g kinds.Look z v lock p found w in
      dite (ℕ_discrete found (lock + 1))
      (λ hit. let t = slot_quiet p kinds.Look x x inside refl st (law x st) (λ j ne. refl) (inl refl) (subst (IsSeated plan.shape.slots) st ((h.formed id v at).seated lock)) (omega arith) refl refl in
      let is : x ≡ looked lock found (standing v lock) = sym st ∙ ap (λ (b : Bool). cond b (standing v lock) (moved_on (standing v lock))) (sym (eq-eqb found (lock + 1) hit)) in
      subst Told is (after_step_at v kinds.Look lock p found false x v.part, t.0, t.1))
      (λ miss. let t = passes_by kinds.Look p k f refl inside st miss in
      let is : y ≡ looked lock found (standing v lock) = ap moved_on (sym st) ∙ ap (λ (b : Bool). cond b (standing v lock) (moved_on (standing v lock))) (sym (ne_eqb found (lock + 1) miss)) in
      subst Told is (after_step_at v kinds.Look lock p found false y v.part, t.0, t.1))

  pub picked_up : (p k : ℕ) (f : Bool) → p < plan.shape.slots → standing v lock ≡ Announcing p k f → get_or s.words p 0 ≡ lock + 1 → (w : View P) × KeptAt p 0 w × PicksToken g v lock p (lock + 1) w
  picked_up p k f inside st hit =
      let x : Standing = Announcing p k f in let y : Standing = Announcing (p + 1) (k + 1) f in let found : ℕ = get_or s.words p 0 in let w : View P = after_step_at v kinds.Pick lock p found true y v.part in
      let on : standing w lock ≡ y = stands g plan s h id lock v at lives shape near kinds.Pick 0 true y v.part in
      let seat : IsSeated plan.shape.slots x = subst (IsSeated plan.shape.slots) st ((h.formed id v at).seated lock) in let low = seat.0 in
      let t = clears p kinds.Pick x y v.part None inside refl st hit (λ named l. pick_lawful word named p k f others l)
      (λ j ne. cover_next j p k (k + 1) f ne) (omega arith, omega arith) refl
      (rests_at g plan s h id lock p found v kinds.Pick true y at (ap mode_of (sym st)), still g plan s h id lock v at lives shape near w refl refl (ap role_of on ∙ ap role_of (sym st))) in
      let Told : Standing → Type 0 = λ z. (w : View P) × KeptAt p 0 w × ((w ≡ after_step_at v kinds.Pick lock p (lock + 1) true z v.part) × MomentAt g v w lock p (lock + 1) 0 None) in
      subst Told (ap picked (sym st)) (after_step_at v kinds.Pick lock p (lock + 1) true y v.part, t.0, (refl, t.1))

  pub found_cleared : (p k : ℕ) (f : Bool) → p < plan.shape.slots → standing v lock ≡ Announcing p k f → get_or s.words p 0 ≢ lock + 1 → (w : View P) × KeptAt p (get_or s.words p 0) w × FindsCleared g v lock p (get_or s.words p 0) w
  found_cleared p k f inside st miss =
      let found : ℕ = get_or s.words p 0 in let t = passes_by kinds.Pick p k f refl inside st miss in
      let Told : Standing → Type 0 = λ z. (w : View P) × KeptAt p found w × SlotStays g kinds.Pick z v lock p found w in
      subst Told (ap moved_on (sym st)) (after_step_at v kinds.Pick lock p found false (Announcing (p + 1) k f) v.part, t.0, t.1)

  -- where readers may defer, who is undecided is inside
  pub deferred : (slot : ℕ) → standing v lock ≡ Undecided slot → may_defer_of word ≡ 1 → word < 18446744073709551616 → (w : View P) × KeptAt (plan.shape.slots + lock) word w × Defers g slot v lock word w
  deferred slot st on fits =
      let x : Standing = Undecided slot in let y : Standing = Slotted slot in let named : ℕ = named_by plan.shape.slots lock s.words in
      let l = law x st in let alone = l.alone in
      let bits = law_bits word named (plus others (weight x)) l in let b0 = bits.0 in let b2 = bits.2 in let b3 = bits.3 in
      let calm : others.plain + others.raised + others.exclusive ≡ 0 = dite (dec_le (others.plain + others.raised + others.exclusive) 0) (λ none. omega arith) (λ some_there. absurd (omega (arith, l.barred (omega arith)))) in
      let all = law_bits word named (counts lock s.views) (h.lawful lock near) in let a3 = all.3 in
      let got = gains_at g plan s h id lock (place_of v lock) word v kinds.Check false y shared_mode at (ap mode_of st) refl (λ e. cc) (reading_fits s.views id lock (omega (arith, calm))) in let part : P = got.0 in
      let w : View P = after_step v kinds.Check lock word false y part in
      let here : standing w lock ≡ y = stands g plan s h id lock v at lives shape near kinds.Check word false y part in
      let split = (counts_split s.views id lock v w at).1 in
      let pends : pending y ≤ pending (standing v lock) = omega arith in
      let kept' : KeptAt (plan.shape.slots + lock) word w = kept g plan s h id lock word v kinds.Check false y part at lives near refl (λ _. refl) (λ ne. absurd (ne refl)) (λ is _ _. absurd (check_hold is))
      (subst (Lawful word named) (sym (split ∙ ap (λ (z : Standing). plus others (weight z)) here)) (check_lawful word named slot others l on))
      (λ k ns old new inside is sum le. omega (arith, is, on, naming_one lock (get_or s.words k 0)))
      (subst (IsSeated plan.shape.slots) st ((h.formed id v at).seated lock))
      (omega (arith, total_replaced pending v.standings lock y pends, (h.formed id v at).one_pending))
      got.2 in
      let move = acting g plan s h id lock v at lives shape near w act.EnterShared x y st here refl refl refl
      (λ j u e ne. enter_open v.shape.policy (standing u lock) (each_none g plan s h id lock v at lives shape near (λ t. t.exclusive) (omega (arith, calm)) j u e ne)
      (λ _. omega (arith, each_none g plan s h id lock v at lives shape near (λ t. t.plain) (omega (arith, calm)) j u e ne, each_none g plan s h id lock v at lives shape near (λ t. t.raised) (omega (arith, calm)) j u e ne))) in
      (w, kept', ((drop (plan.shape.slots + plan.shape.locks) s.words, part, got.1, refl), moment g plan s h id lock v at lives shape near w word (Some act.EnterShared) kept' (stays g plan s h id lock v at lives shape near kinds.Check word false y part) refl refl move))

  pub checked : (slot : ℕ) → standing v lock ≡ Undecided slot → word < 18446744073709551616 → (w : View P) × KeptAt (plan.shape.slots + lock) word w × Checks g v lock word w
  checked slot st fits =
      let one : (k : ℕ) → standing v lock ≡ Undecided k → k ≡ slot = λ k e. let both : Undecided k ≡ Undecided slot = sym e ∙ st in cc in
      dite (ℕ_discrete (may_defer_of word) 1)
      (λ on. let t = deferred slot st on fits in (t.0, t.1, λ k e. ((λ _. subst (λ (j : ℕ). Defers g j v lock word t.0) (sym (one k e)) t.2), λ off. absurd (omega arith))))
      (λ off. let t = looks_at g plan s h id lock v at lives shape near kinds.Check refl fits (λ is _. absurd (check_hold is)) in (after_look v kinds.Check lock word, t.0, λ k e. ((λ on. absurd (off on)), λ _. t.1)))

  pub added_hand : (p k : ℕ) (f : Bool) → standing v lock ≡ Announcing p k f → (w : View P) × KeptAt (plan.shape.slots + lock) ((word + k * 4294967296 % 18446744073709551616) % 18446744073709551616) w × AddsHand g v lock word w
  added_hand p k f st =
      let x : Standing = Announcing p k f in let y : Standing = Announcing p 0 f in
      let seat : IsSeated plan.shape.slots x = subst (IsSeated plan.shape.slots) st ((h.formed id v at).seated lock) in let low = seat.0 in let high = seat.1 in let most = h.few_slots in
      let w : View P = after_step v kinds.AddHand lock word true y v.part in
      let here : standing w lock ≡ y = stands g plan s h id lock v at lives shape near kinds.AddHand word true y v.part in
      let kept' : KeptAt (plan.shape.slots + lock) (add_of word k) w = changes g plan s h id lock (add_of word k) v kinds.AddHand y v.part at lives near refl (ap (λ (z : Standing). is_away z && is_away y) st)
      (λ named o _ _ _ now. subst (λ (z : ℕ). Lawful z named (plus o (weight y))) (hand_order word k) (add_lawful word named p k f o (subst (λ (z : Standing). Lawful word named (plus o (weight z))) st now)))
      (λ j ns old cov inside one sum le. let c : cover j (standing v lock) ≡ cover j y = ap (cover j) st in omega (arith, c, sum, le, hand_even word k))
      (omega arith, omega arith) refl
      (rests g plan s h id lock word v kinds.AddHand y at (ap mode_of (sym st))) in
      let m : Moment g v w lock word (add_of word k) None = moment g plan s h id lock v at lives shape near w (add_of word k) None kept' (stays g plan s h id lock v at lives shape near kinds.AddHand word true y v.part) refl refl
      (still g plan s h id lock v at lives shape near w refl refl (ap role_of here ∙ ap role_of (sym st))) in
      let Told : Standing → Type 0 = λ z. (u : View P) × KeptAt (plan.shape.slots + lock) (add_of word k) u × ((u ≡ after_step v kinds.AddHand lock word true (handless z) v.part) × Moment g v u lock word (add_of word (hand_in z)) None) in
      let t = subst Told (sym st) (w, kept', (refl, m)) in
      (t.0, subst (λ (z : ℕ). KeptAt (plan.shape.slots + lock) z t.0) (sym (hand_word word k (omega arith))) t.1, t.2)
