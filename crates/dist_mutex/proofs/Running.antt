-- An owner that runs the job of the next node.
use Rattle.std.proofs.Common.{◌≡◌, ℕ, ◌+◌, ◌-◌, ◌*◌, Result, List, [], ◌∷◌, refl, sym, ap, ◌∙◌, subst}
use Rattle.waiter_chain.specs.Steps.{SeatState, entry}
use Rattle.waiter_chain.specs.declared.view.Opening.{Opening}
use Rattle.waiter_chain.specs.declared.view.View.{View}
use Rattle.waiter_chain.specs.declared.view.StepEntry.{StepEntry}
use Rattle.waiter_chain.specs.declared.view.StepKind.TheVariants.{Serve}
use Rattle.waiter_chain.specs.declared.turn.Turn.{Turn}
use Rattle.combine_job.specs.declared.parcel.Kept.{Kept}
use Rattle.combine_job.specs.declared.parcel.Parcel.{Parcel}
use Rattle.combine_job.specs.declared.parcel.Parcel.TheVariants.{Value}
use Rattle.combine_job.specs.Parcels.{Related, Ruled}
use Rattle.combine_job.specs.Laws.{runs_lead}
use Rattle.combine_job.specs.Combining.{HasJob, RanNext}
use Rattle.dist_mutex.specs.Unlocks.{serves, Went}
use Rattle.dist_mutex.proofs.Unlocking.{went_from, went_to, went_as}

module _ {V J O X : Type 0} (rooms : V → ℕ) (means : V → J → Result O X → V → Type 0) where
  -- what stands in slot 0 is a value
  pub now_kept : (is_ready : J → Type 0) (o : Opening (Parcel V J O X)) (slots count : ℕ) (ran : List (Parcel V J O X × Parcel V J O X)) (t : Turn) (link : ℕ) (m : SeatState (Parcel V J O X)) → (d : HasJob (Related rooms means) (Ruled rooms means is_ready o) slots count ran t link m) → (kept : Kept V) × (d.now ≡ Value kept)
  now_kept is_ready o slots count ran t link m d = let r : Ruled rooms means is_ready o d.sound.0 = d.sound.1 in let l = runs_lead rooms means ran d.notes.value d.now r.now (sym d.sound.2 ∙ r.is) d.runs in (l.0, l.1)

  pub run_went : (slots count : ℕ) (ran : List (Parcel V J O X × Parcel V J O X)) (t : Turn) (link : ℕ) (kept : Kept V) (m n : SeatState (Parcel V J O X)) (u : Turn) (later : Kept V) → RanNext rooms means slots count ran t link kept m n u later → Went count ran (serves m.0.number (t.first - 2) ∷ []) m n
  run_went slots count ran t link kept m n u later r =
      let l : SeatState (Parcel V J O X) = r.2 in let s : SeatState (Parcel V J O X) = r.3 in let w = r.6.4 in let x : ℕ = t.first - 2 in
      let e : StepEntry = entry l.0 Serve (1 + 2 * x) 3 in
      let served : Went count ran (e ∷ []) l s = subst (Went count ran (e ∷ []) l) (sym w.7) (record { number = refl; spare = refl; past = refl; quota = refl; own = refl; steps = refl }) in
      let here : l.0 ≡ m.0 = r.5 in
      went_to count ran (serves m.0.number x ∷ []) m s n (ap (λ (z : SeatState (Parcel V J O X)). z.0) r.8)
      (went_from count ran (serves m.0.number x ∷ []) m l s here (went_as count ran (e ∷ []) (serves m.0.number x ∷ []) l s (ap (λ (v : View (Parcel V J O X)). serves v.number x ∷ []) here) served))
