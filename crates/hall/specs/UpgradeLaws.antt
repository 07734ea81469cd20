-- What the rule says to an upgrade holder of the word that it finds.
use Rattle.std.specs.Prelude.{◌≡◌, ℕ, ◌+◌, ◌≤◌, slice_index, Option}
use Rattle.std.proofs.Common.{arith, ap, ◌∙◌, subst}
use Rattle.lock_model.specs.declared.model.Act.{Act}
use Rattle.view_sums.specs.Sums.{term_le}
use Rattle.hall.specs.declared.cargo.CargoRule.{Ghosts}
use Rattle.hall.specs.declared.view.View.{View}
use Rattle.hall.specs.declared.view.Shape.{Shape}
use Rattle.hall.specs.declared.view.Standing.{Standing}
use Rattle.hall.specs.declared.view.Standing.TheVariants.{Upgrade}
use Rattle.hall.specs.Locks.{weight, count, counts, named_by}
use Rattle.hall.specs.Moves.{Moment}
use Rattle.hall.specs.Shows.{law_bits}
use Rattle.hall.specs.Upgrading.{ShowsUpgrade}
use Rattle.hall.specs.Views.{standing}

module _ {C P : Type 0} (g : Ghosts C P) where
  -- the word that an upgrade holder finds shows its upgrade, and nobody's announcement or exclusive hold
  pub holder_finds : (v w : View P) (lock found left : ℕ) (act : Option Act) → Moment g v w lock found left act → standing v lock ≡ Upgrade → ShowsUpgrade found
  holder_finds v w lock found left act m st =
      let l = m.before.lawful lock m.near in let alone = l.alone in
      let bits = law_bits (slice_index m.state.words (m.plan.shape.slots + lock)) (named_by m.plan.shape.slots lock m.state.words) (counts lock m.state.views) l in let b1 = bits.1 in let b2 = bits.2 in let b3 = bits.3 in
      let one : 1 ≤ (counts lock m.state.views).upgrade = omega (arith, term_le (count (λ t. t.upgrade) lock) m.state.views m.id v m.mine, ap (λ (x : Standing). (weight x).upgrade) st) in
      subst ShowsUpgrade (ap (λ (z : Shape). slice_index m.state.words (z.slots + lock)) m.shape ∙ m.finds) (omega arith, omega arith, omega arith)
