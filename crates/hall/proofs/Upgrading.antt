-- Each event of upgrade mode, and each lowering, keeps the rule, and tells what its play says.
use Rattle.std.proofs.Common.{◌≡◌, ℕ, ◌+◌, ◌-◌, ◌%◌, ◌<◌, ◌≤◌, ◌≢◌, ◌&&◌, map, set, get_or, drop, true, false, lt-ltb, cond, Bool, sym, refl, ap, ◌∙◌, subst, arith, Some, None}
use mathlib.Core.Option.{some}
use lib.ListN.{get_elem?}
use Rattle.std.specs.Prelude.{bit_xor}
use Rattle.atomic_table.specs.Table.{State}
use Rattle.lock_model.specs.declared.model.Policy.{Policy}
use Rattle.lock_model.specs.declared.model.Act.{Act}
use Rattle.lock_model.specs.declared.model.Act.TheVariants as act
use Rattle.lock_model.specs.Locks.{bars, role_after}
use Rattle.state_word.specs.Words.{may_defer_of, announce_of, retract_of, up_of, down_of, to_shared_of}
use Rattle.hall.specs.declared.cargo.CargoRule.{Ghosts}
use Rattle.hall.specs.declared.view.View.{View}
use Rattle.hall.specs.declared.view.Plan.{Plan}
use Rattle.hall.specs.declared.view.StepKind.{StepKind}
use Rattle.hall.specs.declared.view.StepKind.TheVariants as kinds
use Rattle.hall.specs.declared.view.Standing.{Standing}
use Rattle.hall.specs.declared.view.Standing.TheVariants.{Away, Inline, Upgrade, Announcing, Exclusive}
use Rattle.hall.specs.Cargo.{shared_mode, upgrade_mode, exclusive_mode, Lowers}
use Rattle.hall.specs.Locks.{Tally, weight, Lawful, IsSeated, cover, count, counts, named_by}
use Rattle.hall.specs.Moves.{role_of, Moment}
use Rattle.hall.specs.Plays.{conflicts_for_announcing, HoldMisses}
use Rattle.hall.specs.Rule.{Holds, cargo_seat}
use Rattle.hall.specs.Shows.{law_bits}
use Rattle.hall.specs.Trails.{is_join}
use Rattle.hall.specs.Upgrading.{TakesUpgrade, LeavesUpgrade, LowersUpgrade, AnnouncesUp, RetractsUp, HoldingUp, LowersToShared, LowersToUpgrade}
use Rattle.view_sums.specs.Sums.{total}
use Rattle.hall.specs.Views.{pending, is_away, mode_of, standing, after_step, after_look}
use Rattle.hall.proofs.Arith.{units}
use Rattle.hall.proofs.Cargoes.{upgrading_fits, writing_fits}
use Rattle.hall.proofs.Events.{announce_clear, announce_open, hold_open, moment, acting, stands, stays, law_at, each_none, looks_at, unit_sum}
use Rattle.hall.proofs.Keeps.{reader_cause}
use Rattle.hall.proofs.Locking.{plus, gone, no_hands}
use Rattle.hall.proofs.Slots.{Done, cover_start}
use Rattle.hall.proofs.Steps.{few_units, few_named, changes, gains, raises, loses, rests}
use Rattle.hall.proofs.Upgrades.{upgrade_in_lawful, upgrade_out_lawful, upgrade_lower_lawful, up_lawful, up_retract_lawful, exclusive_shared_lawful, exclusive_upgrade_lawful, hold_up_lawful, hold_up_missed, raised_bits, up_retract_word}

-- no other that is strong, no bar for upgrade
upgrade_open : (p : Policy) (x : Standing) → (weight x).upgrade + (weight x).plain + (weight x).raised + (weight x).exclusive ≤ 0 → bars p act.EnterUpgrade (role_of x) ≡ false
upgrade_open p x h = elim x as (λ z. (weight z).upgrade + (weight z).plain + (weight z).raised + (weight z).exclusive ≤ 0 → bars p act.EnterUpgrade (role_of z) ≡ false) [
  | Upgrade ↦ λ h. absurd (omega arith)
  | Exclusive ↦ λ h. absurd (omega arith)
  | Announcing q k f ↦ λ h. absurd (elim f as (λ b. 0 + cond b 0 1 + cond b 1 0 + 0 ≤ 0 → ⊥) [ true ↦ λ e. omega arith | false ↦ λ e. omega arith ] h)
  | _ ↦ λ _. refl
] h

upgrade_exclusive : upgrade_mode ≡ exclusive_mode → ⊥
upgrade_exclusive e = cc

module _ {C P : Type 0} (g : Ghosts C P) (plan : Plan C) (s : State (Unit {0}) (View P)) (h : Holds g plan s) (id lock : ℕ) (v : View P) (at : get_elem? s.views id ≡ some v) (lives : 0 < v.span) (shape : v.shape ≡ plan.shape) (near : lock < plan.shape.locks) where
  abbrev word : ℕ
  word = get_or s.words (plan.shape.slots + lock) 0

  abbrev Kept : ℕ → View P → Type 0
  Kept new w = Holds g plan record { words = set s.words (plan.shape.slots + lock) new; homes = s.homes; views = set s.views id w }

  abbrev others : Tally
  others = counts lock (set s.views id (gone v))

  law : (x : Standing) → standing v lock ≡ x → Lawful word (named_by plan.shape.slots lock s.words) (plus others (weight x))
  law x st = law_at g plan s h id lock v at lives shape near x st

  none_of : (f : Tally → ℕ) → total (count f lock) (set s.views id (gone v)) ≡ 0 → (j : ℕ) (u : View P) → get_elem? s.views j ≡ some u → j ≢ id → f (weight (standing u lock)) ≤ 0
  none_of f zero j u e ne = each_none g plan s h id lock v at lives shape near f zero j u e ne

  -- a step from the standing x to y that is an act of the abstract lock: left to it are the counts at its lock, the slots that are covered, the cargo, and that nobody else bars the act
  pub makes : (kind : StepKind) (x y : Standing) (part : P) (new : ℕ) (a : Act) → is_join kind ≡ false → standing v lock ≡ x → is_away x && is_away y ≡ false
      → ((named : ℕ) (o : Tally) → (o.plain + o.raised ≡ 0 → o.hand ≡ 0) → units o < 1073741824 → (may_defer_of word ≡ 0 → o.plain + o.raised ≡ 0 → Done plan.shape.slots x → named ≤ o.undecided + (weight x).undecided) → Lawful word named (plus o (weight x)) → Lawful new named (plus o (weight y)))
      → ((k ns old cov : ℕ) → k < plan.shape.slots → ns ≤ 1 → cov + cover k x ≡ old + cover k y → ns ≤ may_defer_of word + old → ns ≤ may_defer_of new + cov)
      → IsSeated plan.shape.slots y → pending y ≡ 0
      → g.holds plan.cargo (drop (plan.shape.slots + plan.shape.locks) s.words) (map cargo_seat (set s.views id (after_step v kind lock word true y part)))
      → role_after a (role_of x) ≡ Some (role_of y)
      → ((j : ℕ) (u : View P) → get_elem? s.views j ≡ some u → j ≢ id → bars v.shape.policy a (role_of (standing u lock)) ≡ false)
      → Kept new (after_step v kind lock word true y part) × Moment g v (after_step v kind lock word true y part) lock word new (Some a)
  makes kind x y part new a steps st there turns sweeps seat calm loads table open_to =
      let w : View P = after_step v kind lock word true y part in
      let kept : Kept new w = changes g plan s h id lock new v kind y part at lives near steps (ap (λ (z : Standing). is_away z && is_away y) st ∙ there)
      (λ named o empty few swept now. turns named o empty few
      (subst (λ (z : Standing). may_defer_of word ≡ 0 → o.plain + o.raised ≡ 0 → Done plan.shape.slots z → named ≤ o.undecided + (weight z).undecided) st swept)
      (subst (λ (z : Standing). Lawful word named (plus o (weight z))) st now))
      (λ k ns old cov inside one sum le. sweeps k ns old cov inside one (subst (λ (z : Standing). cov + cover k z ≡ old + cover k y) st sum) le)
      seat calm loads in (
        kept,
        moment g plan s h id lock v at lives shape near w new (Some a) kept (stays g plan s h id lock v at lives shape near kind word true y part) refl refl
            (acting g plan s h id lock v at lives shape near w a x y st (stands g plan s h id lock v at lives shape near kind word true y part) refl refl table open_to),
      )

  pub upgraded_in : standing v lock ≡ Away → conflicts_for_announcing word ≡ false → word < 18446744073709551616 → (w : View P) × Kept (up_of word) w × TakesUpgrade g v lock word w
  upgraded_in away may fits =
      let clear = announce_clear word may in let c0 = clear.0 in let c1 = clear.1 in let c2 = clear.2 in
      let b = law_bits word (named_by plan.shape.slots lock s.words) (plus others (weight Away)) (law Away away) in let b1 = b.1 in let b2 = b.2 in let b3 = b.3 in
      let got = gains g plan s h id lock word v kinds.UpgradeIn Upgrade upgrade_mode at (ap mode_of away) refl (λ e. cc) (upgrading_fits s.views id lock v at (omega arith)) in let part : P = got.0 in
      let t = makes kinds.UpgradeIn Away Upgrade part (up_of word) act.EnterUpgrade refl away refl
      (λ named o _ few _ now. upgrade_in_lawful word named o few fits now clear.0 clear.1 clear.2)
      (λ k ns old cov inside _ sum le. omega arith)
      tt refl got.2 refl
      (λ j u e ne. upgrade_open v.shape.policy (standing u lock) (omega (arith, none_of (λ t. t.upgrade) (omega arith) j u e ne, none_of (λ t. t.plain) (omega arith) j u e ne, none_of (λ t. t.raised) (omega arith) j u e ne, none_of (λ t. t.exclusive) (omega arith) j u e ne))) in
      (after_step v kinds.UpgradeIn lock word true Upgrade part, t.0, ((drop (plan.shape.slots + plan.shape.locks) s.words, part, got.1, refl), t.1))

  -- less 2, round 2^64
  abbrev less_two : ℕ
  less_two = (word + 18446744073709551614) % 18446744073709551616

  pub upgraded_out : standing v lock ≡ Upgrade → word < 18446744073709551616 → (w : View P) × Kept less_two w × LeavesUpgrade g v lock word w
  upgraded_out st fits =
      let b = law_bits word (named_by plan.shape.slots lock s.words) (plus others (weight Upgrade)) (law Upgrade st) in let b1 = b.1 in
      let a = (law Upgrade st).alone in let is : less_two ≡ down_of word = omega arith in
      let t = makes kinds.UpgradeOut Upgrade Away (g.lowered lock None v.part) less_two act.Leave refl st refl
      (λ named o _ few _ now. upgrade_out_lawful word named o few fits now)
      (λ k ns old cov inside _ sum le. omega arith)
      tt refl
      (loses g plan s h id lock word v kinds.UpgradeOut Away None at refl (subst (λ (z : Standing). Lowers (mode_of z) None) (sym st) tt) (λ e. absurd (upgrade_exclusive (sym (ap mode_of st) ∙ e))))
      refl (λ j u e ne. refl) in
      let w : View P = after_step v kinds.UpgradeOut lock word true Away (g.lowered lock None v.part) in
      (w, t.0, (refl, subst (λ (z : ℕ). Moment g v w lock word z (Some act.Leave)) is t.1))

  pub upgrade_lowered : standing v lock ≡ Upgrade → word < 18446744073709551616 → (w : View P) × Kept ((word + 4294967294) % 18446744073709551616) w × LowersUpgrade g v lock word w
  upgrade_lowered st fits =
      let b = law_bits word (named_by plan.shape.slots lock s.words) (plus others (weight Upgrade)) (law Upgrade st) in let b1 = b.1 in let b3 = b.3 in
      let a = (law Upgrade st).alone in let new : ℕ = (word + 4294967294) % 18446744073709551616 in let is : new ≡ to_shared_of word = omega arith in
      let part : P = g.lowered lock shared_mode v.part in
      let t = makes kinds.UpgradeLower Upgrade Inline part new act.UpgradeToShared refl st refl
      (λ named o _ few _ now. upgrade_lower_lawful word named o few fits now)
      (λ k ns old cov inside _ sum le. omega arith)
      tt refl
      (loses g plan s h id lock word v kinds.UpgradeLower Inline shared_mode at refl (subst (λ (z : Standing). Lowers (mode_of z) shared_mode) (sym st) tt) (λ e. absurd (upgrade_exclusive (sym (ap mode_of st) ∙ e))))
      refl (λ j u e ne. refl) in
      let w : View P = after_step v kinds.UpgradeLower lock word true Inline part in
      (w, t.0, (refl, subst (λ (z : ℕ). Moment g v w lock word z (Some act.UpgradeToShared)) is t.1))

  pub announced_up : standing v lock ≡ Upgrade → word < 18446744073709551616 → (w : View P) × Kept (announce_of word) w × AnnouncesUp g v lock word w
  announced_up st fits =
      let a = (law Upgrade st).alone in let y : Standing = Announcing 0 0 true in
      let t = makes kinds.Up Upgrade y v.part (announce_of word) act.Announce refl st refl
      (λ named o _ few _ now. up_lawful word named o few fits 0 now)
      (λ k ns old cov inside one sum le. omega (arith, cover_start k true, sum, one))
      (omega arith, omega arith) refl
      (rests g plan s h id lock word v kinds.Up y at (ap mode_of (sym st)))
      refl
      (λ j u e ne. announce_open v.shape.policy (standing u lock) (omega (arith, none_of (λ t. t.upgrade) (omega arith) j u e ne, none_of (λ t. t.plain) (omega arith) j u e ne, none_of (λ t. t.raised) (omega arith) j u e ne, none_of (λ t. t.exclusive) (omega arith) j u e ne))) in
      (after_step v kinds.Up lock word true y v.part, t.0, (refl, t.1))

  pub retracted_up : (p : ℕ) → standing v lock ≡ Announcing p 0 true → word < 18446744073709551616 → (w : View P) × Kept (bit_xor word 5) w × RetractsUp g v lock word w
  retracted_up p st fits =
      let x : Standing = Announcing p 0 true in
      let bits : word % 8 ≡ 6 = raised_bits word (named_by plan.shape.slots lock s.words) p others (law x st) in
      let t = makes kinds.UpRetract x Upgrade v.part (retract_of word) act.Retract refl st refl
      (λ named o _ few _ now. up_retract_lawful word named o few fits p now)
      (λ k ns old cov inside one sum le. let on : may_defer_of (word - 3) ≡ 1 = omega arith in omega (arith, one, on))
      tt refl
      (rests g plan s h id lock word v kinds.UpRetract Upgrade at (ap mode_of (sym st)))
      refl (λ j u e ne. refl) in
      let w : View P = after_step v kinds.UpRetract lock word true Upgrade v.part in
      (w, subst (λ (z : ℕ). Kept z w) (sym (up_retract_word word bits)) t.0, (refl, t.1))

  pub lowered_to_shared : standing v lock ≡ Exclusive → g.settled lock v.part → (w : View P) × Kept ((word + 4294967288) % 18446744073709551616) w × LowersToShared g v lock word w
  lowered_to_shared st calm =
      let is : word ≡ 8 = (law Exclusive st).drained (omega arith) in let m : may_defer_of word ≡ 0 = ap may_defer_of is in let part : P = g.lowered lock shared_mode v.part in
      let Told : ℕ → Type 0 = λ z. Kept 4294967296 (after_step v kinds.ExclusiveShared lock z true Inline part) × Moment g v (after_step v kinds.ExclusiveShared lock z true Inline part) lock z 4294967296 (Some act.ExclusiveToShared) in
      let t : Told 8 = subst Told is (makes kinds.ExclusiveShared Exclusive Inline part 4294967296 act.ExclusiveToShared refl st refl
      (λ named o _ few _ now. (exclusive_shared_lawful word named o now few).1)
      (λ k ns old cov inside _ sum le. omega (arith, m))
      tt refl
      (loses g plan s h id lock word v kinds.ExclusiveShared Inline shared_mode at refl (subst (λ (z : Standing). Lowers (mode_of z) shared_mode) (sym st) tt) (λ _. calm))
      refl (λ j u e ne. refl)) in
      let w : View P = after_step v kinds.ExclusiveShared lock 8 true Inline part in
      (w, subst (λ (z : ℕ). Kept ((z + 4294967288) % 18446744073709551616) w) (sym is) t.0, (is, refl, t.1))

  pub lowered_to_upgrade : standing v lock ≡ Exclusive → g.settled lock v.part → (w : View P) × Kept (bit_xor word 10) w × LowersToUpgrade g v lock word w
  lowered_to_upgrade st calm =
      let is : word ≡ 8 = (law Exclusive st).drained (omega arith) in let m : may_defer_of word ≡ 0 = ap may_defer_of is in let part : P = g.lowered lock upgrade_mode v.part in
      let Told : ℕ → Type 0 = λ z. Kept 2 (after_step v kinds.ExclusiveUpgrade lock z true Upgrade part) × Moment g v (after_step v kinds.ExclusiveUpgrade lock z true Upgrade part) lock z 2 (Some act.ExclusiveToUpgrade) in
      let t : Told 8 = subst Told is (makes kinds.ExclusiveUpgrade Exclusive Upgrade part 2 act.ExclusiveToUpgrade refl st refl
      (λ named o _ few _ now. (exclusive_upgrade_lawful word named o now).1)
      (λ k ns old cov inside _ sum le. omega (arith, m))
      tt refl
      (loses g plan s h id lock word v kinds.ExclusiveUpgrade Upgrade upgrade_mode at refl (subst (λ (z : Standing). Lowers (mode_of z) upgrade_mode) (sym st) tt) (λ _. calm))
      refl (λ j u e ne. refl)) in
      let w : View P = after_step v kinds.ExclusiveUpgrade lock 8 true Upgrade part in
      (w, subst (λ (z : ℕ). Kept (bit_xor z 10) w) (sym is) t.0, (is, refl, t.1))

  -- the tokens that name the lock, where this pass has looked at every slot and nobody else is announced
  tokens : (x : Standing) → standing v lock ≡ x → Done plan.shape.slots x → may_defer_of word ≡ 0 → others.plain + others.raised ≡ 0 → named_by plan.shape.slots lock s.words ≤ others.undecided + (weight x).undecided
  tokens x st done clear calm = subst (λ (z : Standing). named_by plan.shape.slots lock s.words ≤ others.undecided + (weight z).undecided) st (few_named g plan s h id lock v at near clear calm (subst (Done plan.shape.slots) (sym st) done))

  pub held_up : standing v lock ≡ Announcing plan.shape.slots 0 true → word ≡ 6 → (w : View P) × Kept 8 w × HoldingUp g v lock 6 w
  held_up st hit =
      let x : Standing = Announcing plan.shape.slots 0 true in let clear : may_defer_of word ≡ 0 = ap may_defer_of hit in
      let law8 : Lawful 8 (named_by plan.shape.slots lock s.words) (plus others (weight Exclusive)) = hold_up_lawful (named_by plan.shape.slots lock s.words) plan.shape.slots others (no_hands (set s.views id (gone v)) lock) (few_units g plan s h id lock v at)
      (tokens x st refl clear) (subst (λ (z : ℕ). Lawful z (named_by plan.shape.slots lock s.words) (plus others (weight x))) hit (law x st)) in
      let nobody = law8.nobody (omega arith) in let alone = law8.alone in
      let Told : ℕ → Type 0 = λ z. Kept 8 (after_step v kinds.Hold lock z true Exclusive v.part) × Moment g v (after_step v kinds.Hold lock z true Exclusive v.part) lock z 8 (Some act.TakeExclusive) in
      let t : Told 6 = subst Told hit (makes kinds.Hold x Exclusive v.part 8 act.TakeExclusive refl st refl
      (λ named o empty few swept now. hold_up_lawful named plan.shape.slots o empty few (λ calm. swept clear calm refl) (subst (λ (z : ℕ). Lawful z named (plus o (weight x))) hit now))
      (λ k ns old cov inside _ sum le. let c : cover k x ≡ 0 = ap {B = ℕ} (λ (b : Bool). cond b 0 1) (lt-ltb k plan.shape.slots inside) in omega (arith, c, sum, le, clear))
      tt refl
      (raises g plan s h id lock word v kinds.Hold Exclusive at (ap mode_of st) refl (writing_fits s.views id lock v at (omega arith)))
      refl
      (λ j u e ne. hold_open v.shape.policy (standing u lock) (omega (arith, none_of (λ t. t.exclusive) (omega arith) j u e ne, none_of (λ t. t.shared) (omega arith) j u e ne, none_of (λ t. t.upgrade) (omega arith) j u e ne, none_of (λ t. t.plain) (omega arith) j u e ne, none_of (λ t. t.raised) (omega arith) j u e ne)))) in
      (after_step v kinds.Hold lock 6 true Exclusive v.part, t.0, (refl, t.1))

  pub hold_up_lost : standing v lock ≡ Announcing plan.shape.slots 0 true → word < 18446744073709551616 → word ≢ 6 → (w : View P) × Kept word w × HoldMisses g v lock word w
  hold_up_lost st fits miss =
      let x : Standing = Announcing plan.shape.slots 0 true in
      let found = hold_up_missed word (named_by plan.shape.slots lock s.words) plan.shape.slots others fits (no_hands (set s.views id (gone v)) lock) (few_units g plan s h id lock v at) (tokens x st refl) (law x st) miss in
      let readers = found.1 in
      let t = looks_at g plan s h id lock v at lives shape near kinds.Hold refl fits (λ _ _. reader_cause g plan s h id lock v at near (omega (arith, readers, unit_sum g plan s h id lock v at lives shape near (set s.views id (gone v)))) lives) in
      (after_look v kinds.Hold lock word, t.0, (found.0, t.1))
