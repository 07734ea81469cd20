-- A pass that polls its own status again and again.
use Rattle.std.proofs.Common.{◌≡◌, ℕ, zero, suc, ◌+◌, ◌*◌, List, [], ◌∷◌, ◌++◌, replicate, None, refl, sym, ap, ◌∙◌, append_assoc}
use Rattle.waiter_chain.specs.Steps.{SeatState, entry, with_steps, stays}
use Rattle.waiter_chain.specs.Calls.{IsBehind}
use Rattle.waiter_chain.specs.declared.view.StepEntry.{StepEntry}
use Rattle.waiter_chain.specs.declared.view.Stage.TheVariants.{Behind}
use Rattle.waiter_chain.specs.declared.view.StepKind.TheVariants.{LoadStatus}
use Rattle.dist_mutex.specs.Owners.{polled_as, polled_state}

append_nil : {A : Type 0} (xs : List A) → xs ≡ xs ++ []
append_nil [] = refl
append_nil (x ∷ xs) = ap (λ ys. x ∷ ys) (append_nil xs)

replicate-snoc : {A : Type 0} (k : ℕ) (x : A) → replicate k x ++ x ∷ [] ≡ replicate (suc k) x
replicate-snoc zero x = refl
replicate-snoc (suc k) x = ap (λ ys. x ∷ ys) (replicate-snoc k x)

module _ {P : Type 0} where
  pub polled-none : (word : ℕ) (m : SeatState P) → m ≡ polled_as word 0 m
  polled-none word m = ap (λ (xs : List StepEntry). (with_steps m.0 m.0.stage xs, m.1)) (append_nil m.0.steps)

  pub polled-more : (word : ℕ) (m : SeatState P) (k w : ℕ) → w ≡ word → stays (polled_as word k m) (entry (polled_as word k m).0 LoadStatus (1 + 2 * (polled_as word k m).0.number) w) ≡ polled_as word (suc k) m
  polled-more word m k w one =
      let e : StepEntry = entry m.0 LoadStatus (1 + 2 * m.0.number) word in
      ap (λ (x : ℕ). stays (polled_as word k m) (entry m.0 LoadStatus (1 + 2 * m.0.number) x)) one
      ∙ ap (λ (xs : List StepEntry). (with_steps m.0 m.0.stage xs, m.1)) (append_assoc m.0.steps (replicate k e) (e ∷ []) ∙ ap (λ xs. m.0.steps ++ xs) (replicate-snoc k e))

  -- so it waits still
  pub polled_behind : (b c k : ℕ) (m n : SeatState P) → c ≡ b → IsBehind b m → n ≡ polled_state k m → (n.0.stage ≡ Behind c None) × (n.1 ≡ [])
  polled_behind b c k m n same h e = (ap (λ (z : SeatState P). z.0.stage) e ∙ h.0 ∙ ap (λ (x : ℕ). Behind x None) (sym same), ap (λ (z : SeatState P). z.1) e ∙ h.1)
