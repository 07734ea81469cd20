use Rattle.std.proofs.Common.{◌≡◌, ℕ, zero, suc, replicate, get_or, refl, ap, ◌∙◌}
use Rattle.hall.specs.declared.view.View.{View}
use Rattle.hall.specs.declared.view.Standing.TheVariants.{Away}
use Rattle.hall.specs.Views.{pending, standing}
use Rattle.apply_deferred.proofs.tests.a_token_is_swept.Goals as goal

away_in : (n k : ℕ) → get_or (replicate n Away) k Away ≡ Away
away_in zero k = refl
away_in (suc n) zero = refl
away_in (suc n) (suc k) = away_in n k

pub places-requires-clause-clear : goal.places-requires-clause-clear
places-requires-clause-clear g c = λ k. ap (λ (z : View _). pending (standing z k)) c.split-three.ensures.new.1 ∙ ap pending (away_in _ k)
