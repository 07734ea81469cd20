use Rattle.std.proofs.Common.{rules, ◌≡◌, true, false, ◌<◌, sym, ap, ◌∙◌, subst, inl, arith}
use Rattle.lock_model.specs.declared.model.Policy.{Policy}
use Rattle.state_word.specs.Words.{may_defer_of}
use Rattle.hall.specs.declared.view.StepKind.TheVariants as kinds
use Rattle.hall.specs.declared.view.Shape.{Shape}
use Rattle.hall.specs.declared.view.View.{View}
use Rattle.hall.specs.Passes.{view}
use Rattle.hall.specs.Plays.{conflicts_for_shared}
use Rattle.hall.specs.Reasons.{read_conflict, shared_bits}
use Rattle.hall.specs.SlotLaws.{none_pending_at, none_pending_looked, stands_elsewhere}
use Rattle.hall.specs.Views.{is_outside, place_of, standing}
use Rattle.shared_mutex.proofs.Sharing.{by_word, settled}
use Rattle.shared_mutex.proofs.Turning.{by_count, by_token}
use Rattle.shared_mutex.proofs.shared.try_lock_shared.Goals as goal

pub returns-then-conflicts_for_shared-clause-step :
    goal.returns-then-conflicts_for_shared-clause-step
returns-then-conflicts_for_shared-clause-step g c =
    let t = c.load-seen.ensures.step in
    let on : conflicts_for_shared (view c.args.pass.now).shape.policy c.load-seen.result ≡ true =
    ap (λ (z : Shape). conflicts_for_shared z.policy c.load-seen.result) c.requires.pass.1 ∙ ap (λ (p : Policy). conflicts_for_shared p c.load-seen.result) (sym c.policy.ensures) ∙ sym c.conflicts_for_shared.ensures ∙ c.if-conflicts_for_shared.true in
    (on, inl t.0, read_conflict g.C.CargoRule _ _ _ _ _ _ _ t.2 t.0 (ap is_outside c.requires.away) (shared_bits _ _ on))

pub returns-then-not-may_defer-clause-step : goal.returns-then-not-may_defer-clause-step
returns-then-not-may_defer-clause-step g c =
    let free : conflicts_for_shared (view c.args.pass.now).shape.policy c.load-seen.result ≡ false =
    ap (λ (z : Shape). conflicts_for_shared z.policy c.load-seen.result) c.requires.pass.1 ∙ ap (λ (p : Policy). conflicts_for_shared p c.load-seen.result) (sym c.policy.ensures) ∙ sym c.conflicts_for_shared.ensures ∙ c.if-conflicts_for_shared.false in
    let clear : may_defer_of c.load-seen.result ≡ 0 = search rules in
    by_word g.C.CargoRule (view c.args.pass.now) (view c.load-seen.new.pass) (view c.enter_inline.new.pass) c.args.lock c.load-seen.result c.load-seen.ensures.step.0 free c.enter_inline.result clear c.enter_inline.ensures.step

pub returns-in-At-clause-step : goal.returns-in-At-clause-step
returns-in-At-clause-step g c =
    let v = view c.args.pass.now in let l = view c.load-seen.new.pass in
    let free : conflicts_for_shared (view c.args.pass.now).shape.policy c.load-seen.result ≡ false =
    ap (λ (z : Shape). conflicts_for_shared z.policy c.load-seen.result) c.requires.pass.1 ∙ ap (λ (p : Policy). conflicts_for_shared p c.load-seen.result) (sym c.policy.ensures) ∙ sym c.conflicts_for_shared.ensures ∙ c.if-conflicts_for_shared.false in
    let defers : may_defer_of c.load-seen.result ≡ 1 = search rules in
    let t = c.load-seen.ensures.step in let some_slot : 0 < v.shape.slots = subst (λ (s : Shape). 0 < s.slots) t.2.shape t.2.before.some_slot in
    by_token g.C.CargoRule v l (view c.place.new.pass) (view c.settle.new.pass) c.args.lock c.load-seen.result t.0 (free, defers) some_slot c.in-At.slot c.requires.away (omega (arith, c.requires.pass.2, c.requires.lock))
    (subst (λ (s : Shape). c.in-At.slot < s.slots) (sym c.requires.pass.1) c.in-At.ensures.slot) c.in-At.ensures.step c.settle.result c.settle.ensures.step

pub returns-in-Taken-clause-step : goal.returns-in-Taken-clause-step
returns-in-Taken-clause-step g c =
    let v = view c.args.pass.now in let l = view c.load-seen.new.pass in
    let free : conflicts_for_shared (view c.args.pass.now).shape.policy c.load-seen.result ≡ false =
    ap (λ (z : Shape). conflicts_for_shared z.policy c.load-seen.result) c.requires.pass.1 ∙ ap (λ (p : Policy). conflicts_for_shared p c.load-seen.result) (sym c.policy.ensures) ∙ sym c.conflicts_for_shared.ensures ∙ c.if-conflicts_for_shared.false in
    let defers : may_defer_of c.load-seen.result ≡ 1 = search rules in
    let t = c.load-seen.ensures.step in let some_slot : 0 < v.shape.slots = subst (λ (s : Shape). 0 < s.slots) t.2.shape t.2.before.some_slot in
    by_count g.C.CargoRule v l (view c.place.new.pass) (view c.enter_inline-in-Taken.new.pass) c.args.lock c.load-seen.result t.0 (free, defers) some_slot _ c.in-Taken.ensures.step c.enter_inline-in-Taken.result c.enter_inline-in-Taken.ensures.step

pub returns-in-Taken-clause-elsewhere : goal.returns-in-Taken-clause-elsewhere
returns-in-Taken-clause-elsewhere g c =
    let v = view c.args.pass.now in let l = view c.load-seen.new.pass in
    λ k ne. c.enter_inline-in-Taken.ensures.elsewhere k ne ∙ c.place.ensures.elsewhere k ne ∙ stands_elsewhere v l c.args.lock (place_of v c.args.lock) c.load-seen.result kinds.Load false (standing v c.args.lock) v.part c.load-seen.ensures.step.0 k ne

pub returns-then-conflicts_for_shared-clause-clear :
    goal.returns-then-conflicts_for_shared-clause-clear
returns-then-conflicts_for_shared-clause-clear g c = none_pending_looked (view c.args.pass.now) (view c.load-seen.new.pass) c.args.lock c.load-seen.result kinds.Load c.load-seen.ensures.step.0 c.requires.clear

pub returns-then-not-may_defer-clause-clear : goal.returns-then-not-may_defer-clause-clear
returns-then-not-may_defer-clause-clear g c =
    let l = view c.load-seen.new.pass in let w = view c.enter_inline.new.pass in
    none_pending_at l w c.args.lock c.enter_inline.ensures.elsewhere (settled c.enter_inline.result (standing w c.args.lock) c.enter_inline.ensures.stands)
    (none_pending_looked (view c.args.pass.now) l c.args.lock c.load-seen.result kinds.Load c.load-seen.ensures.step.0 c.requires.clear)

pub returns-in-At-clause-clear : goal.returns-in-At-clause-clear
returns-in-At-clause-clear g c =
    let l = view c.load-seen.new.pass in let w = view c.settle.new.pass in
    none_pending_at l w c.args.lock (λ k ne. c.settle.ensures.elsewhere k ne ∙ c.place.ensures.elsewhere k ne) (settled c.settle.result (standing w c.args.lock) c.settle.ensures.stands)
    (none_pending_looked (view c.args.pass.now) l c.args.lock c.load-seen.result kinds.Load c.load-seen.ensures.step.0 c.requires.clear)

pub returns-in-Taken-clause-clear : goal.returns-in-Taken-clause-clear
returns-in-Taken-clause-clear g c =
    let l = view c.load-seen.new.pass in let w = view c.enter_inline-in-Taken.new.pass in
    none_pending_at l w c.args.lock (λ k ne. c.enter_inline-in-Taken.ensures.elsewhere k ne ∙ c.place.ensures.elsewhere k ne) (settled c.enter_inline-in-Taken.result (standing w c.args.lock) c.enter_inline-in-Taken.ensures.stands)
    (none_pending_looked (view c.args.pass.now) l c.args.lock c.load-seen.result kinds.Load c.load-seen.ensures.step.0 c.requires.clear)
