-- The steps of the table that make the events.
use Rattle.std.proofs.Common.{◌≡◌, ℕ, ◌+◌, ◌-◌, ◌%◌, ◌^◌, ◌<◌, ◌⊎◌, List, Bool, true, false, eqb, None, map, drop, get_or, set, sym, refl, ap, ◌∙◌, subst, length-set}
use mathlib.Core.Option.{none}
use prog.Atomic.{either}
use Rattle.std.specs.Prelude.{bit_xor}
use Rattle.atomic_table.specs.Table.{Me, step, keeps, Allows}
use Rattle.atomic_table.proofs.Lists.{exchanged, at_map}
use Rattle.state_word.specs.Words.{enter_of, announce_of}
use Rattle.hall.specs.declared.cargo.CargoRule.{Ghosts}
use Rattle.hall.specs.declared.view.View.{View}
use Rattle.hall.specs.declared.view.Plan.{Plan}
use Rattle.hall.specs.declared.view.StepKind.{StepKind}
use Rattle.hall.specs.declared.view.StepKind.TheVariants as kinds
use Rattle.hall.specs.declared.view.Standing.{Standing}
use Rattle.hall.specs.declared.view.Standing.TheVariants.{Away, Inline, Owing, Announcing, Exclusive}
use Rattle.hall.specs.Views.{standing, after_step, after_look}
use Rattle.hall.specs.Plays.{conflicts_for_shared, conflicts_for_announcing, Same, At, TriedAt, LoadsNoted, Loads, Enters, EnterMisses, GivesBack, lowered_part, Announces, AnnounceMisses, Holding, HoldMisses, Retracts, Releases}
use Rattle.hall.specs.Rule.{Holds, cargo_seat}
use Rattle.hall.specs.Cargo.{NotesAside}
use Rattle.hall.proofs.Cargoes.{all_apart}
use Rattle.hall.proofs.Steps.{Goes, one_lock}
use Rattle.hall.proofs.Events.{looks_noted, looks_at, entered, lowered, announced, held, hold_missed, retracted, released}

module _ {C P : Type 0} (g : Ghosts C P) (plan : Plan C) (n id : ℕ) (me : Me (Unit {0}) (View P)) (lock i : ℕ) (is : i ≡ plan.shape.slots + lock) (shape : me.0.shape ≡ plan.shape) (lives : 0 < me.0.span) (near : lock < plan.shape.locks) where
  abbrev place : ℕ
  place = plan.shape.slots + lock

  pub same : (w : View P) (kind : StepKind) (x : ℕ) (won : Bool) (y : Standing) (part : P) → w ≡ after_step me.0 kind lock x won y part → Same me (w, me.1)
  same w kind x won y part e = subst (λ (z : View P). Same me (z, me.1)) (sym e) (refl, refl, refl, refl, refl, length-set me.0.standings lock y)

  -- a fact of this lock is one of the lock whose word it was
  pub told : (F : View P → ℕ → ℕ → View P → Type 0) (x : ℕ) (w : View P) → F me.0 lock x w → (k : ℕ) → place ≡ me.0.shape.slots + k → F me.0 k x w
  told F x w f k e = subst (λ (j : ℕ). F me.0 j x w) (one_lock g plan me.0 lock k shape e) f

  pub loads : Allows (Holds g plan) n id me i (λ x. x) (At (Loads g) (step n i 0 0 none) me)
  loads = let F : ℕ → Type 0 = λ i. Allows (Holds g plan) n id me i (λ x. x) (At (Loads g) (step n i 0 0 none) me) in
      subst F (sym is) (λ s h wide at fits. let t = looks_at g plan s h id lock me.0 at lives shape near kinds.Load refl fits (λ e. absurd (cc)) in let w : View P = after_look me.0 kinds.Load lock (get_or s.words place 0) in
      (w, keeps, tt, t.0, (same w kinds.Load (get_or s.words place 0) false (standing me.0 lock) me.0.part refl, told (Loads g) (get_or s.words place 0) w t.1)))

  pub loads_noted : (becomes : List ℕ → ℕ → P → P → Type 0) → NotesAside (g.holds plan.cargo) id (cargo_seat me.0) becomes → Allows (Holds g plan) n id me i (λ x. x) (At (LoadsNoted g becomes) (step n i 0 0 none) me)
  loads_noted becomes note = let F : ℕ → Type 0 = λ i. Allows (Holds g plan) n id me i (λ x. x) (At (LoadsNoted g becomes) (step n i 0 0 none) me) in
      subst F (sym is) (λ s h wide at fits. let x : ℕ = get_or s.words place 0 in
      let learnt = note (drop (plan.shape.slots + plan.shape.locks) s.words) (map cargo_seat s.views) h.cargo (all_apart plan.shape s.words s.views h.formed h.lawful) (at_map cargo_seat s.views id me.0 at) x fits in let part : P = learnt.0 in
      let t = looks_noted g plan s h id lock me.0 at lives shape near fits part learnt.2 in let w : View P = after_step me.0 kinds.Load lock x false (standing me.0 lock) part in let told_all = t.1 in let ws = drop (plan.shape.slots + plan.shape.locks) s.words in
      (w, keeps, tt, t.0, (same w kinds.Load x false (standing me.0 lock) part refl, told (LoadsNoted g becomes) x w (ws, part, learnt.1, refl, told_all.1, told_all.2, told_all.3))))

  pub enters : (seen new : ℕ) → standing me.0 lock ≡ Away → conflicts_for_shared plan.shape.policy seen ≡ false → new ≡ enter_of seen → Allows (Holds g plan) n id me i (λ x. either (eqb x seen) new x) (TriedAt (Enters g) (EnterMisses g) (step n i seen new none) me)
  enters seen new away may turns = let F : ℕ → Type 0 = λ i. Allows (Holds g plan) n id me i (λ x. either (eqb x seen) new x) (TriedAt (Enters g) (EnterMisses g) (step n i seen new none) me) in
      subst F (sym is) (λ s h wide at fits. let x : ℕ = get_or s.words place 0 in
      exchanged x seen new (Goes g plan s place id me (TriedAt (Enters g) (EnterMisses g) (step n place seen new none) me))
      (λ hit. let t = entered g plan s h id lock me.0 at lives shape near away (ap (conflicts_for_shared plan.shape.policy) hit ∙ may) fits in let gains = t.2.0 in (
        t.0,
        keeps,
        tt,
        subst (λ (z : ℕ). Holds g plan record { words = set s.words place z; homes = s.homes; views = set s.views id t.0 }) (ap enter_of hit ∙ sym turns) t.1,
        (same t.0 kinds.Enter x true Inline gains.1 gains.3, λ k e. ((λ _. told (Enters g) x t.0 t.2 k e), λ ne. absurd (ne hit))),
      ))
      (λ miss. let t = looks_at g plan s h id lock me.0 at lives shape near kinds.Enter refl fits (λ e. absurd (cc)) in let w : View P = after_look me.0 kinds.Enter lock x in (
        w,
        keeps,
        tt,
        t.0,
        (same w kinds.Enter x false (standing me.0 lock) me.0.part refl, λ k e. ((λ hit. absurd (miss hit)), λ _. told (EnterMisses g) x w t.1 k e)),
      )))

  pub lowers : (standing me.0 lock ≡ Inline) ⊎ (standing me.0 lock ≡ Owing) → Allows (Holds g plan) n id me i (λ x. (x + (2 ^ 64 - 4294967296)) % 2 ^ 64) (At (GivesBack g) (step n i 4294967296 0 none) me)
  lowers inside = let F : ℕ → Type 0 = λ i. Allows (Holds g plan) n id me i (λ x. (x + (2 ^ 64 - 4294967296)) % 2 ^ 64) (At (GivesBack g) (step n i 4294967296 0 none) me) in
      subst F (sym is) (λ s h wide at fits. let x : ℕ = get_or s.words place 0 in let t = lowered g plan s h id lock me.0 at lives shape near inside in
      (t.0, keeps, tt, t.1, (same t.0 kinds.Lower x true Away (lowered_part g (standing me.0 lock) lock me.0.part) t.2.0, told (GivesBack g) x t.0 t.2)))

  pub announces : (seen new : ℕ) → standing me.0 lock ≡ Away → conflicts_for_announcing seen ≡ false → new ≡ announce_of seen → Allows (Holds g plan) n id me i (λ x. either (eqb x seen) new x) (TriedAt (Announces g) (AnnounceMisses g) (step n i seen new none) me)
  announces seen new away may turns = let F : ℕ → Type 0 = λ i. Allows (Holds g plan) n id me i (λ x. either (eqb x seen) new x) (TriedAt (Announces g) (AnnounceMisses g) (step n i seen new none) me) in
      subst F (sym is) (λ s h wide at fits. let x : ℕ = get_or s.words place 0 in
      exchanged x seen new (Goes g plan s place id me (TriedAt (Announces g) (AnnounceMisses g) (step n place seen new none) me))
      (λ hit. let t = announced g plan s h id lock me.0 at lives shape near away (ap conflicts_for_announcing hit ∙ may) fits in (
        t.0,
        keeps,
        tt,
        subst (λ (z : ℕ). Holds g plan record { words = set s.words place z; homes = s.homes; views = set s.views id t.0 }) (ap announce_of hit ∙ sym turns) t.1,
        (same t.0 kinds.Announce x true (Announcing 0 0 false) me.0.part t.2.0, λ k e. ((λ _. told (Announces g) x t.0 t.2 k e), λ ne. absurd (ne hit))),
      ))
      (λ miss. let t = looks_at g plan s h id lock me.0 at lives shape near kinds.Announce refl fits (λ e. absurd (cc)) in let w : View P = after_look me.0 kinds.Announce lock x in (
        w,
        keeps,
        tt,
        t.0,
        (same w kinds.Announce x false (standing me.0 lock) me.0.part refl, λ k e. ((λ hit. absurd (miss hit)), λ _. told (AnnounceMisses g) x w t.1 k e)),
      )))

  pub holds_it : standing me.0 lock ≡ Announcing plan.shape.slots 0 false → Allows (Holds g plan) n id me i (λ x. either (eqb x 4) 8 x) (TriedAt (Holding g) (HoldMisses g) (step n i 4 8 none) me)
  holds_it st = let F : ℕ → Type 0 = λ i. Allows (Holds g plan) n id me i (λ x. either (eqb x 4) 8 x) (TriedAt (Holding g) (HoldMisses g) (step n i 4 8 none) me) in
      subst F (sym is) (λ s h wide at fits. let x : ℕ = get_or s.words place 0 in
      exchanged x 4 8 (Goes g plan s place id me (TriedAt (Holding g) (HoldMisses g) (step n place 4 8 none) me))
      (λ hit. let t = held g plan s h id lock me.0 at lives shape near st hit in let gains = t.2.0 in (
        t.0,
        keeps,
        tt,
        t.1,
        (same t.0 kinds.Hold 4 true Exclusive gains.1 gains.3, λ k e. ((λ _. told (Holding g) x t.0 t.2 k e), λ ne. absurd (ne hit))),
      ))
      (λ miss. let t = hold_missed g plan s h id lock me.0 at lives shape near st fits miss in (
        t.0,
        keeps,
        tt,
        t.1,
        (same t.0 kinds.Hold x false (standing me.0 lock) me.0.part t.2.1.0, λ k e. ((λ hit. absurd (miss hit)), λ _. told (HoldMisses g) x t.0 t.2 k e)),
      )))

  pub retracts : (p : ℕ) → standing me.0 lock ≡ Announcing p 0 false → Allows (Holds g plan) n id me i (λ x. bit_xor x 5) (At (Retracts g) (step n i 5 0 none) me)
  retracts p st = let F : ℕ → Type 0 = λ i. Allows (Holds g plan) n id me i (λ x. bit_xor x 5) (At (Retracts g) (step n i 5 0 none) me) in
      subst F (sym is) (λ s h wide at fits. let x : ℕ = get_or s.words place 0 in let t = retracted g plan s h id lock me.0 at lives shape near p st in
      (t.0, keeps, tt, t.1, (same t.0 kinds.Retract x true Away me.0.part t.2.0, told (Retracts g) x t.0 t.2)))

  pub releases : standing me.0 lock ≡ Exclusive → g.settled lock me.0.part → Allows (Holds g plan) n id me i (λ x. bit_xor x 8) (At (Releases g) (step n i 8 0 none) me)
  releases st calm = let F : ℕ → Type 0 = λ i. Allows (Holds g plan) n id me i (λ x. bit_xor x 8) (At (Releases g) (step n i 8 0 none) me) in
      subst F (sym is) (λ s h wide at fits. let x : ℕ = get_or s.words place 0 in let t = released g plan s h id lock me.0 at lives shape near st calm in
      (t.0, keeps, tt, t.1, (same t.0 kinds.Release 8 true Away (g.lowered lock None me.0.part) t.2.1, told (Releases g) x t.0 t.2)))
