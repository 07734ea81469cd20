use Rattle.std.proofs.Common.{Bool, ◌≡◌, false, ap, sym, refl, ◌∙◌, inr, subst}
use Rattle.hall.specs.Passes.{view}
use Rattle.hall.specs.declared.guards.Announced.{Announced}
use Rattle.hall.specs.declared.view.Shape.{Shape}
use Rattle.shared_mutex.specs.Acquiring.{Finishes}
use Rattle.shared_mutex.proofs.Finishing.{took, gave_up}
use Rattle.shared_mutex.proofs.exclusive.try_lock.Goals as goal

pub returns-in-Ok-clause-step : goal.returns-in-Ok-clause-step
returns-in-Ok-clause-step g c =
    let starts = c.in_ok-announced.ensures.step in let done = c.in-Ok.ensures.step in
    let at : c.scan.new.announced.lock ≡ c.in_ok-announced.announced.lock = ap (λ (z : Announced). z.lock) c.scan.ensures.announced in
    let plain : c.scan.new.announced.from_upgrade ≡ false = ap (λ (z : Announced). z.from_upgrade) c.scan.ensures.announced ∙ starts.2 in (
      done.0 ∙ at ∙ starts.0,
      took g.C.CargoRule _ _ _ _ _ _ _ _ starts.3 starts.0 (ap (λ (z : Shape). z.slots) (sym c.requires.pass.1)) c.scan.ensures.sweep _ at
          (subst (λ (b : Bool). Finishes g.C.CargoRule b (view c.scan.new.pass) c.scan.new.announced.lock (view c.try_finish.new.pass)) plain done.1),
    )

pub returns-in-Err-clause-step : goal.returns-in-Err-clause-step
returns-in-Err-clause-step g c =
    let starts = c.in_ok-announced.ensures.step in let refused = c.in-Err.ensures.step in
    let at : c.scan.new.announced.lock ≡ c.in_ok-announced.announced.lock = ap (λ (z : Announced). z.lock) c.scan.ensures.announced in
    inr (gave_up g.C.CargoRule _ _ _ _ _ _ _ _ starts.3 starts.0 (ap (λ (z : Shape). z.slots) (sym c.requires.pass.1)) c.scan.ensures.sweep _ _ _ _ at (ap (λ (z : Announced). z.lock) refused.0) refused.1 refused.2 c.retract.ensures.step _ refl)

pub returns-in-Err-clause-elsewhere : goal.returns-in-Err-clause-elsewhere
returns-in-Err-clause-elsewhere g c =
    let starts = c.in_ok-announced.ensures.step in let refused = c.in-Err.ensures.step in
    let at : c.scan.new.announced.lock ≡ c.in_ok-announced.announced.lock = ap (λ (z : Announced). z.lock) c.scan.ensures.announced in
    let back : c.in-Err.refused.0.lock ≡ c.scan.new.announced.lock = ap (λ (z : Announced). z.lock) refused.0 in
    λ k ne. c.retract.ensures.elsewhere k (λ e. ne (e ∙ back ∙ at ∙ starts.0)) ∙ c.in-Err.ensures.elsewhere k (λ e. ne (e ∙ at ∙ starts.0)) ∙ c.scan.ensures.elsewhere k (λ e. ne (e ∙ starts.0)) ∙ c.in_ok-announced.ensures.elsewhere k ne

pub returns-in-Err-clause-clear : goal.returns-in-Err-clause-clear
returns-in-Err-clause-clear g c = λ clear. c.retract.ensures.clear (c.in-Err.ensures.clear (c.scan.ensures.clear (c.in_ok-announced.ensures.clear clear)))
