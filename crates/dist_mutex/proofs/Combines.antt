-- A pass that takes the lock for one job.
use Rattle.std.proofs.Common.{◌≡◌, ℕ, ◌≤◌, Result, List, [], ◌∷◌, ◌++◌, false, ap, ◌∙◌, ⊎_elim, arith, cond}
use Rattle.std.proofs.lemmas.Bool.{le-ltb}
use Rattle.waiter_chain.specs.Steps.{SeatState}
use Rattle.waiter_chain.specs.Calls.{readied_state}
use Rattle.waiter_chain.specs.declared.view.Opening.{Opening}
use Rattle.waiter_chain.specs.declared.view.StepEntry.{StepEntry}
use Rattle.waiter_chain.specs.declared.turn.Turn.{Turn}
use Rattle.combine_job.specs.declared.parcel.Kept.{Kept}
use Rattle.combine_job.specs.declared.parcel.Parcel.{Parcel}
use Rattle.combine_job.specs.Parcels.{place, places}
use Rattle.dist_mutex.specs.Owners.{Stands, Owning, LockedBy, WonLock, Spent, RanOne, behind_state, polled_state}

module _ {V J O X : Type 0} (rooms : V → ℕ) (means : V → J → Result O X → V → Type 0) (o : Opening (Parcel V J O X)) where
  -- what a lock leaves of the view, and what it tells
  abbrev pub Found : ℕ → SeatState (Parcel V J O X) → SeatState (Parcel V J O X) → Turn → Kept V → Type 0
  Found slots m n t kept = Stands rooms means o m.0.own m.0.quota kept × Owning rooms means slots n 0 [] t kept
      × (n.0.number ≡ m.0.number) × (n.0.spare ≡ m.0.spare) × (n.0.past ≡ m.0.past) × (n.0.quota ≡ m.0.quota) × (n.0.own ≡ m.0.own)

  of-locked : (slots : ℕ) (m n : SeatState (Parcel V J O X)) (e : StepEntry) (t : Turn) (kept : Kept V) → LockedBy rooms means o slots m n e t kept → Found slots m n t kept
  of-locked slots m n e t kept l =
      (l.1, l.2, ap (λ (z : SeatState (Parcel V J O X)). z.0.number) l.0, ap (λ (z : SeatState (Parcel V J O X)). z.0.spare) l.0, ap (λ (z : SeatState (Parcel V J O X)). z.0.past) l.0, ap (λ (z : SeatState (Parcel V J O X)). z.0.quota) l.0, ap (λ (z : SeatState (Parcel V J O X)). z.0.own) l.0)

  pub found : (slots : ℕ) (m n : SeatState (Parcel V J O X)) (t : Turn) (kept : Kept V) → WonLock rooms means o slots m n t kept → Found slots m n t kept
  found slots m n t kept = ⊎_elim
      (λ l. of-locked slots (readied_state false m) n _ t kept l)
      (λ w. of-locked slots (polled_state w.1 (behind_state w.0 m)) n _ t kept w.3)

  -- the pass's own answers lie below the count
  pub own_below : (own : List (Parcel V J O X × Parcel V J O X)) (q : ℕ) (kept : Kept V) → Stands rooms means o own q kept → (p : ℕ) → kept.ran ≤ p → places p own ≡ 0
  own_below own q kept s p far = omega (arith, s.mine (λ x. place p x.1), s.once p, ap {B = ℕ} (λ b. cond b 1 0) (le-ltb p kept.ran far))

module _ {V J O X : Type 0} where
  pub ran_one : (most due : ℕ) (m l n : SeatState (Parcel V J O X)) (ran : List (Parcel V J O X × Parcel V J O X)) (job answer : Parcel V J O X) → ran ≡ (job, answer) ∷ [] → due ≡ 1 → 1 ≤ m.0.quota
      → (l.0.number ≡ m.0.number) × (l.0.spare ≡ m.0.spare) × (l.0.past ≡ m.0.past) × (l.0.quota ≡ m.0.quota) × (l.0.own ≡ m.0.own) → Spent most due ran l n → RanOne m n job answer
  ran_one most due m l n ran job answer is one enough a s =
      (s.0, s.1 ∙ a.0, s.2 ∙ a.1, s.3 ∙ a.2, omega (arith, s.4, a.3, one, enough), s.5 ∙ (λ i. a.4 i ++ is i))
