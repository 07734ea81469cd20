use Rattle.std.proofs.Common.{◌≡◌, ℕ, ◌+◌, ◌*◌, ◌≤◌, List, [], ◌∷◌, Option, Some, refl, sym, ap, ◌∙◌, subst, inr, arith}
use Rattle.waiter_chain.specs.Hands.{StandsAt}
use Rattle.waiter_chain.specs.Steps.{SeatState, entry, moved}
use Rattle.waiter_chain.specs.Calls.{MayEnter}
use Rattle.waiter_chain.specs.declared.view.StepKind.TheVariants.{LoadStatus}
use Rattle.waiter_chain.specs.declared.view.Stage.TheVariants.{Holding}
use Rattle.waiter_chain.specs.declared.turn.Kind.TheVariants.{WithJob}
use Rattle.waiter_chain.proofs.tests.enter_with_job.Goals as goal

module _ {P : Type 0} where
  abbrev held_state : ℕ → Option P → SeatState P → SeatState P
  held_state word y m = (moved m.0 Holding (entry m.0 LoadStatus (1 + 2 * m.0.number) word), (1 + 2 * m.0.number, y) ∷ [])

  alone : (slot k : ℕ) (y : Option P) (c : List (ℕ × Option P)) → slot ≡ k → c ≡ (k, y) ∷ [] → c ≡ (slot, y) ∷ []
  alone slot k y c is hand = hand ∙ (λ t. (sym is t, y) ∷ [])

  stands_alone : (n slot : ℕ) → StandsAt {A = Option P} n slot [] []
  stands_alone n slot = (omega arith, inr (inr (inr (inr (refl, refl)))))

  may_enter : (is_job : P → Type 0) (word slot : ℕ) (y : Option P) (job : P) (m l n : SeatState P) → slot ≡ 1 + 2 * m.0.number → l ≡ held_state word y m → n ≡ (l.0, (slot, Some job) ∷ [])
      → is_job job → 1 ≤ m.0.quota → MayEnter is_job WithJob n
  may_enter is_job word slot y job m l n is h e good enough =
      let all : n ≡ held_state word (Some job) m = e ∙ ap (λ (x : SeatState P). (x.0, (slot, Some job) ∷ [])) h ∙ (λ t. ((held_state word y m).0, (is t, Some job) ∷ [])) in
      subst (MayEnter is_job WithJob) (sym all) (refl, (job, refl, good), enough)

pub move_slot-empty-requires-clause-held : goal.move_slot-empty-requires-clause-held
move_slot-empty-requires-clause-held g c = let h = c.hold.ensures.held in
    ([], [], h.1, alone _ (1 + 2 * c.args.pass.now.seat.me.0.number) h.1 c.hold.new.pass.seat.me.1 (ap (λ (y : ℕ). 1 + 2 * y) c.number.ensures) (ap (λ z. z.1) h.2), stands_alone _ _)

pub enter-requires-clause-enters : goal.enter-requires-clause-enters
enter-requires-clause-enters g c = let h = c.hold.ensures.held in let m = c.args.pass.now.seat.me in
    let slot = ap (λ (y : ℕ). 1 + 2 * y) c.number.ensures in
    let hand = alone _ (1 + 2 * m.0.number) h.1 c.hold.new.pass.seat.me.1 slot (ap (λ z. z.1) h.2) in
    may_enter (λ x. Unit {0}) h.0 _ h.1 _ m c.hold.new.pass.seat.me c.move_slot-empty.new.pass.seat.me slot h.2 (c.move_slot-empty.ensures.moved [] [] h.1 hand (stands_alone _ _)).1 tt c.requires.quota

pub returns-clause-waits : goal.returns-clause-waits
returns-clause-waits g c = let y = c.in-Behind.ensures.answer.1 in (Some y.0, ap (λ z. z.0.stage) y.2, ap (λ z. z.1) y.2)
