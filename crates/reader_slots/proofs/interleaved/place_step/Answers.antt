use Rattle.std.proofs.Common.{◌≡◌, ℕ, zero, suc, List, [], ◌∷◌, length, get_or, refl, ap, arith, ◌∙◌}
use Rattle.hall.specs.declared.view.Standing.{Standing}
use Rattle.hall.specs.declared.view.Standing.TheVariants.{Away}
use Rattle.hall.specs.Passes.{view}
use Rattle.hall.specs.Views.{pending}
use Rattle.reader_slots.proofs.interleaved.place_step.Goals as goal

-- in a hall of one lock nothing is pending at a lock where nothing is at that one
alone : (l : List Standing) → length l ≡ 1 → get_or l 0 Away ≡ Away → (k : ℕ) → pending (get_or l k Away) ≡ 0
alone [] one here k = refl
alone (x ∷ []) one here zero = ap pending here
alone (x ∷ []) one here (suc k) = refl
alone (x ∷ y ∷ l) one here k = absurd (omega (arith, one))

pub place_slot-requires-clause-clear : goal.place_slot-requires-clause-clear
place_slot-requires-clause-clear g c = λ any. alone (view c.args.pass.now).standings (c.requires.pass.0.2 ∙ c.requires.lock) c.requires.pass.1
