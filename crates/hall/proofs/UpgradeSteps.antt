-- The steps of the table that make the events of upgrade mode and the lowerings.
use Rattle.std.proofs.Common.{◌≡◌, ℕ, ◌+◌, ◌-◌, ◌%◌, ◌^◌, ◌<◌, true, false, eqb, None, get_or, set, sym, refl, ap, ◌∙◌, subst}
use mathlib.Core.Option.{none}
use prog.Atomic.{either}
use Rattle.std.specs.Prelude.{bit_xor}
use Rattle.atomic_table.specs.Table.{Me, step, keeps, Allows}
use Rattle.atomic_table.proofs.Lists.{exchanged}
use Rattle.state_word.specs.Words.{announce_of, up_of}
use Rattle.hall.specs.declared.cargo.CargoRule.{Ghosts}
use Rattle.hall.specs.declared.view.View.{View}
use Rattle.hall.specs.declared.view.Plan.{Plan}
use Rattle.hall.specs.declared.view.StepKind.TheVariants as kinds
use Rattle.hall.specs.declared.view.Standing.TheVariants.{Away, Inline, Upgrade, Announcing, Exclusive}
use Rattle.hall.specs.Cargo.{shared_mode, upgrade_mode}
use Rattle.hall.specs.Views.{standing, after_look}
use Rattle.hall.specs.Plays.{conflicts_for_announcing, At, TriedAt, HoldMisses}
use Rattle.hall.specs.Rule.{Holds}
use Rattle.hall.specs.Upgrading.{TakesUpgrade, UpgradeMisses, LeavesUpgrade, LowersUpgrade, AnnouncesUp, UpMisses, RetractsUp, HoldingUp, LowersToShared, LowersToUpgrade}
use Rattle.hall.proofs.Allowing.{same, told}
use Rattle.hall.proofs.Steps.{Goes}
use Rattle.hall.proofs.Events.{looks_at}
use Rattle.hall.proofs.Upgrading.{upgraded_in, upgraded_out, upgrade_lowered, announced_up, retracted_up, held_up, hold_up_lost, lowered_to_shared, lowered_to_upgrade}

module _ {C P : Type 0} (g : Ghosts C P) (plan : Plan C) (n id : ℕ) (me : Me (Unit {0}) (View P)) (lock i : ℕ) (is : i ≡ plan.shape.slots + lock) (shape : me.0.shape ≡ plan.shape) (lives : 0 < me.0.span) (near : lock < plan.shape.locks) where
  abbrev place : ℕ
  place = plan.shape.slots + lock

  pub upgrades_in : (seen new : ℕ) → standing me.0 lock ≡ Away → conflicts_for_announcing seen ≡ false → new ≡ up_of seen → Allows (Holds g plan) n id me i (λ x. either (eqb x seen) new x) (TriedAt (TakesUpgrade g) (UpgradeMisses g) (step n i seen new none) me)
  upgrades_in seen new away may turns = let F : ℕ → Type 0 = λ i. Allows (Holds g plan) n id me i (λ x. either (eqb x seen) new x) (TriedAt (TakesUpgrade g) (UpgradeMisses g) (step n i seen new none) me) in
      subst F (sym is) (λ s h wide at fits. let x : ℕ = get_or s.words place 0 in
      exchanged x seen new (Goes g plan s place id me (TriedAt (TakesUpgrade g) (UpgradeMisses g) (step n place seen new none) me))
      (λ hit. let t = upgraded_in g plan s h id lock me.0 at lives shape near away (ap conflicts_for_announcing hit ∙ may) fits in let gains = t.2.0 in (
        t.0,
        keeps,
        tt,
        subst (λ (z : ℕ). Holds g plan record { words = set s.words place z; homes = s.homes; views = set s.views id t.0 }) (ap up_of hit ∙ sym turns) t.1,
        (same g plan n id me lock i is shape lives near t.0 kinds.UpgradeIn x true Upgrade gains.1 gains.3, λ k e. ((λ _. told g plan n id me lock i is shape lives near (TakesUpgrade g) x t.0 t.2 k e), λ ne. absurd (ne hit))),
      ))
      (λ miss. let t = looks_at g plan s h id lock me.0 at lives shape near kinds.UpgradeIn refl fits (λ e. absurd (cc)) in let w : View P = after_look me.0 kinds.UpgradeIn lock x in (
        w,
        keeps,
        tt,
        t.0,
        (same g plan n id me lock i is shape lives near w kinds.UpgradeIn x false (standing me.0 lock) me.0.part refl, λ k e. ((λ hit. absurd (miss hit)), λ _. told g plan n id me lock i is shape lives near (UpgradeMisses g) x w t.1 k e)),
      )))

  pub upgrades_out : standing me.0 lock ≡ Upgrade → Allows (Holds g plan) n id me i (λ x. (x + (2 ^ 64 - 2)) % 2 ^ 64) (At (LeavesUpgrade g) (step n i 2 0 none) me)
  upgrades_out st = let F : ℕ → Type 0 = λ i. Allows (Holds g plan) n id me i (λ x. (x + (2 ^ 64 - 2)) % 2 ^ 64) (At (LeavesUpgrade g) (step n i 2 0 none) me) in
      subst F (sym is) (λ s h wide at fits. let x : ℕ = get_or s.words place 0 in let t = upgraded_out g plan s h id lock me.0 at lives shape near st fits in
      (t.0, keeps, tt, t.1, (same g plan n id me lock i is shape lives near t.0 kinds.UpgradeOut x true Away (g.lowered lock None me.0.part) t.2.0, told g plan n id me lock i is shape lives near (LeavesUpgrade g) x t.0 t.2)))

  pub lowers_upgrade : standing me.0 lock ≡ Upgrade → Allows (Holds g plan) n id me i (λ x. (x + 4294967294) % 2 ^ 64) (At (LowersUpgrade g) (step n i 4294967294 0 none) me)
  lowers_upgrade st = let F : ℕ → Type 0 = λ i. Allows (Holds g plan) n id me i (λ x. (x + 4294967294) % 2 ^ 64) (At (LowersUpgrade g) (step n i 4294967294 0 none) me) in
      subst F (sym is) (λ s h wide at fits. let x : ℕ = get_or s.words place 0 in let t = upgrade_lowered g plan s h id lock me.0 at lives shape near st fits in
      (t.0, keeps, tt, t.1, (same g plan n id me lock i is shape lives near t.0 kinds.UpgradeLower x true Inline (g.lowered lock shared_mode me.0.part) t.2.0, told g plan n id me lock i is shape lives near (LowersUpgrade g) x t.0 t.2)))

  pub announces_up : (seen new : ℕ) → standing me.0 lock ≡ Upgrade → new ≡ announce_of seen → Allows (Holds g plan) n id me i (λ x. either (eqb x seen) new x) (TriedAt (AnnouncesUp g) (UpMisses g) (step n i seen new none) me)
  announces_up seen new st turns = let F : ℕ → Type 0 = λ i. Allows (Holds g plan) n id me i (λ x. either (eqb x seen) new x) (TriedAt (AnnouncesUp g) (UpMisses g) (step n i seen new none) me) in
      subst F (sym is) (λ s h wide at fits. let x : ℕ = get_or s.words place 0 in
      exchanged x seen new (Goes g plan s place id me (TriedAt (AnnouncesUp g) (UpMisses g) (step n place seen new none) me))
      (λ hit. let t = announced_up g plan s h id lock me.0 at lives shape near st fits in (
        t.0,
        keeps,
        tt,
        subst (λ (z : ℕ). Holds g plan record { words = set s.words place z; homes = s.homes; views = set s.views id t.0 }) (ap announce_of hit ∙ sym turns) t.1,
        (same g plan n id me lock i is shape lives near t.0 kinds.Up x true (Announcing 0 0 true) me.0.part t.2.0, λ k e. ((λ _. told g plan n id me lock i is shape lives near (AnnouncesUp g) x t.0 t.2 k e), λ ne. absurd (ne hit))),
      ))
      (λ miss. let t = looks_at g plan s h id lock me.0 at lives shape near kinds.Up refl fits (λ e. absurd (cc)) in let w : View P = after_look me.0 kinds.Up lock x in (
        w,
        keeps,
        tt,
        t.0,
        (same g plan n id me lock i is shape lives near w kinds.Up x false (standing me.0 lock) me.0.part refl, λ k e. ((λ hit. absurd (miss hit)), λ _. told g plan n id me lock i is shape lives near (UpMisses g) x w t.1 k e)),
      )))

  pub retracts_up : (p : ℕ) → standing me.0 lock ≡ Announcing p 0 true → Allows (Holds g plan) n id me i (λ x. bit_xor x 5) (At (RetractsUp g) (step n i 5 0 none) me)
  retracts_up p st = let F : ℕ → Type 0 = λ i. Allows (Holds g plan) n id me i (λ x. bit_xor x 5) (At (RetractsUp g) (step n i 5 0 none) me) in
      subst F (sym is) (λ s h wide at fits. let x : ℕ = get_or s.words place 0 in let t = retracted_up g plan s h id lock me.0 at lives shape near p st fits in
      (t.0, keeps, tt, t.1, (same g plan n id me lock i is shape lives near t.0 kinds.UpRetract x true Upgrade me.0.part t.2.0, told g plan n id me lock i is shape lives near (RetractsUp g) x t.0 t.2)))

  pub holds_up : standing me.0 lock ≡ Announcing plan.shape.slots 0 true → Allows (Holds g plan) n id me i (λ x. either (eqb x 6) 8 x) (TriedAt (HoldingUp g) (HoldMisses g) (step n i 6 8 none) me)
  holds_up st = let F : ℕ → Type 0 = λ i. Allows (Holds g plan) n id me i (λ x. either (eqb x 6) 8 x) (TriedAt (HoldingUp g) (HoldMisses g) (step n i 6 8 none) me) in
      subst F (sym is) (λ s h wide at fits. let x : ℕ = get_or s.words place 0 in
      exchanged x 6 8 (Goes g plan s place id me (TriedAt (HoldingUp g) (HoldMisses g) (step n place 6 8 none) me))
      (λ hit. let t = held_up g plan s h id lock me.0 at lives shape near st hit in (
        t.0,
        keeps,
        tt,
        t.1,
        (same g plan n id me lock i is shape lives near t.0 kinds.Hold 6 true Exclusive me.0.part t.2.0, λ k e. ((λ _. told g plan n id me lock i is shape lives near (HoldingUp g) x t.0 t.2 k e), λ ne. absurd (ne hit))),
      ))
      (λ miss. let t = hold_up_lost g plan s h id lock me.0 at lives shape near st fits miss in (
        t.0,
        keeps,
        tt,
        t.1,
        (same g plan n id me lock i is shape lives near t.0 kinds.Hold x false (standing me.0 lock) me.0.part t.2.1.0, λ k e. ((λ hit. absurd (miss hit)), λ _. told g plan n id me lock i is shape lives near (HoldMisses g) x t.0 t.2 k e)),
      )))

  pub lowers_to_shared : standing me.0 lock ≡ Exclusive → g.settled lock me.0.part → Allows (Holds g plan) n id me i (λ x. (x + 4294967288) % 2 ^ 64) (At (LowersToShared g) (step n i 4294967288 0 none) me)
  lowers_to_shared st calm = let F : ℕ → Type 0 = λ i. Allows (Holds g plan) n id me i (λ x. (x + 4294967288) % 2 ^ 64) (At (LowersToShared g) (step n i 4294967288 0 none) me) in
      subst F (sym is) (λ s h wide at fits. let x : ℕ = get_or s.words place 0 in let t = lowered_to_shared g plan s h id lock me.0 at lives shape near st calm in
      (t.0, keeps, tt, t.1, (same g plan n id me lock i is shape lives near t.0 kinds.ExclusiveShared 8 true Inline (g.lowered lock shared_mode me.0.part) t.2.1, told g plan n id me lock i is shape lives near (LowersToShared g) x t.0 t.2)))

  pub lowers_to_upgrade : standing me.0 lock ≡ Exclusive → g.settled lock me.0.part → Allows (Holds g plan) n id me i (λ x. bit_xor x 10) (At (LowersToUpgrade g) (step n i 10 0 none) me)
  lowers_to_upgrade st calm = let F : ℕ → Type 0 = λ i. Allows (Holds g plan) n id me i (λ x. bit_xor x 10) (At (LowersToUpgrade g) (step n i 10 0 none) me) in
      subst F (sym is) (λ s h wide at fits. let x : ℕ = get_or s.words place 0 in let t = lowered_to_upgrade g plan s h id lock me.0 at lives shape near st calm in
      (t.0, keeps, tt, t.1, (same g plan n id me lock i is shape lives near t.0 kinds.ExclusiveUpgrade 8 true Upgrade (g.lowered lock upgrade_mode me.0.part) t.2.1, told g plan n id me lock i is shape lives near (LowersToUpgrade g) x t.0 t.2)))
