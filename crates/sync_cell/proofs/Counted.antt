-- How many tries there were, and what the clock was asked between them.
use Rattle.std.proofs.Common.{◌≡◌, ℕ, ◌⊎◌, ◌+◌, ◌<◌, ◌≤◌, true, false, cond, List, [], ◌∷◌, ◌++◌, length, refl, ap, ◌∙◌, ⊎_elim, arith}
use Rattle.std.specs.declared.option.Option.{Option}
use Rattle.lock_model.specs.declared.model.Mode.{Mode}
use Rattle.hall.specs.declared.view.StepKind.{StepKind}
use Rattle.hall.specs.declared.view.StepKind.TheVariants as kinds
use Rattle.hall.specs.declared.view.StepEntry.{StepEntry}
use Rattle.hall.specs.declared.guards.Form.{Form}
use Rattle.hall.specs.declared.guards.Form.TheVariants as forms
use Rattle.hall.specs.declared.guards.Why.TheVariants.{NoDefer, SlotsTaken}
use Rattle.hall.specs.Views.{after_look, mode_of, standing}
use Rattle.reader_slots.specs.declared.Placed.TheVariants.{At, Taken}
use Rattle.reader_slots.specs.declared.Withdrawn.{Withdrawn}
use Rattle.reader_slots.specs.declared.Withdrawn.TheVariants.{Cleared, GaveBack}
use Rattle.reader_slots.specs.Deferring.{Places, WithdrawsAs}
use Rattle.apply_deferred.specs.Sweeping.{Sweeps}
use Rattle.apply_deferred.specs.SweepLaws.{AllSweeping, is_sweeping, sweep_goes}
use Rattle.hall.specs.declared.cargo.CargoRule.{Ghosts}
use Rattle.hall.specs.declared.guards.TryFault.{TryFault}
use Rattle.hall.specs.declared.guards.TryFault.TheVariants.{Busy, Raced}
use Rattle.hall.specs.declared.view.View.{View}
use Rattle.shared_mutex.specs.Acquiring.{EntersBy, RefusesAnnouncing, RefusesShared, TurnsBack}
use Rattle.upgrade_mode.specs.Holding.{EntersUpgrade, RefusesUpgrade}
use Rattle.upgrade_mode.specs.Tries.{EntersUpgradeAtLast, MissesBeginning, UpgradersRefused}
use Rattle.timed_wait.specs.Waiting.{AsksBelow}
use Rattle.sync_cell.specs.Attempts.{ReadsAtLast, how_many, is_hold, is_load}
use Rattle.shared_mutex.specs.TryLaws.{all_counted}
use Rattle.shared_mutex.specs.Tries.{AnnouncesAtLast, HoldsAtLast, MeetsReaders, ReadersMet, ReadersRefused, WritersRefused}
use Rattle.sync_cell.specs.Waits.{AskedInTime, AskedTooLate}

module _ {P : Type 0} where
  abbrev pub loads : View P → ℕ
  loads v = how_many is_load v.steps

  abbrev pub holds : View P → ℕ
  holds v = how_many is_hold v.steps

sweeping_load : (k : StepKind) → is_sweeping k ≡ true → is_load k ≡ false
sweeping_load k e = elim k as (λ z. is_sweeping z ≡ true → is_load z ≡ false) [ kinds.Load ↦ λ h. absurd (cc) | _ ↦ λ h. refl ] e

no_loads : (number lock : ℕ) (mode : Option Mode) (es old : List StepEntry) → AllSweeping number lock mode es → how_many is_load (es ++ old) ≡ how_many is_load old
no_loads number lock mode [] old h = refl
no_loads number lock mode (e ∷ es) old h = ap (λ b. cond b 1 0 + how_many is_load (es ++ old)) (sweeping_load e.kind h.2) ∙ omega (arith, no_loads number lock mode es old h.4)

module _ {C P : Type 0} (g : Ghosts C P) where
  -- a reader loads once, whatever became of its token
  placing_counts : (lock slot : ℕ) (l u : View P) → Places g l lock (At slot) u → loads u ≡ loads l
  placing_counts lock slot l u p = ⊎_elim
      (λ a. let e : loads u ≡ 0 + loads l = ap loads a.1.0 in omega (arith, e))
      (λ b. let e : loads u ≡ 0 + loads b.1.0 = ap loads b.1.3.0 in let first : loads b.1.0 ≡ 0 + loads l = ap loads b.1.2.1.0 in omega (arith, e, first))
      p

  missing_counts : (lock : ℕ) (tokens : List ℕ) (l u : View P) → Places g l lock (Taken tokens) u → loads u ≡ loads l
  missing_counts lock tokens l u p = let e : loads u ≡ 0 + loads p.0 = ap loads p.3.0 in let first : loads p.0 ≡ 0 + loads l = ap loads p.1.1.0 in omega (arith, e, first)

  withdrawing_counts : (lock slot : ℕ) (ended : Withdrawn) (c w : View P) → WithdrawsAs g c lock slot ended w → loads w ≡ loads c
  withdrawing_counts lock slot Cleared c w r = let e : loads w ≡ 0 + loads c = ap loads r.0 in omega (arith, e)
  withdrawing_counts lock slot GaveBack c w r = let e : loads w ≡ 0 + loads r.0 = ap loads r.4.1.0 in let first : loads r.0 ≡ 0 + loads c = ap loads r.3.0 in omega (arith, e, first)

  turning_counts : (lock seen word : ℕ) (v w : View P) → TurnsBack g v lock seen word w → loads w ≡ loads v + 1
  turning_counts lock seen word v w r =
      let u : View P = r.3.1 in
      let back : loads w ≡ 0 + loads u = withdrawing_counts lock r.3.0 r.3.3.2.0 (after_look u kinds.Check lock word) w r.3.3.2.1 in
      let first : loads u ≡ 1 + loads v = placing_counts lock r.3.0 (after_look v kinds.Load lock seen) u r.3.2 in
      omega (arith, back, first)

  pub reader_counts : (lock : ℕ) (v w : View P) (f : TryFault) → RefusesShared g v lock w f → loads w ≡ loads v + 1
  reader_counts lock v w (Busy word) r = ⊎_elim (λ a. let e : loads w ≡ 1 + loads v = ap loads a in omega (arith, e)) (λ b. turning_counts lock b.0 word v w b.1) r.1
  reader_counts lock v w (Raced expected found) r = ⊎_elim
      (λ a. let e : loads w ≡ 0 + (1 + loads v) = ap loads a.1 in omega (arith, e))
      (λ bc. ⊎_elim
      (λ b. let e : loads w ≡ 0 + loads b.1.1 = ap loads b.1.3 in let first : loads b.1.1 ≡ 1 + loads v = missing_counts lock b.1.0 (after_look v kinds.Load lock expected) b.1.1 b.1.2 in omega (arith, e, first))
      (λ c. turning_counts lock expected found v w c.1)
      bc)
      r.2

  pub entering_counts : (lock : ℕ) (v w : View P) (form : Form) → EntersBy g v lock form w → loads w ≡ loads v + 1
  entering_counts lock v w (forms.Deferred slot) t =
      let e : loads w ≡ 0 + loads t.2.0 = ap loads t.2.2.2.0.3 in let first : loads t.2.0 ≡ 1 + loads v = placing_counts lock slot (after_look v kinds.Load lock t.0) t.2.0 t.2.1 in omega (arith, e, first)
  entering_counts lock v w (forms.Inline (NoDefer seen)) t = let e : loads w ≡ 0 + (1 + loads v) = ap loads t.2.0.3 in omega (arith, e)
  entering_counts lock v w (forms.Inline (SlotsTaken tokens)) t =
      let e : loads w ≡ 0 + loads t.2.0 = ap loads t.2.2.0.3 in let first : loads t.2.0 ≡ 1 + loads v = missing_counts lock tokens (after_look v kinds.Load lock t.0) t.2.0 t.2.1 in omega (arith, e, first)
  entering_counts lock v w forms.Lowered t = absurd t

  writer_counts : (lock : ℕ) (v w : View P) (f : TryFault) → RefusesAnnouncing g v lock w f → loads w ≡ loads v + 1
  writer_counts lock v w (Busy word) r = let e : loads w ≡ 1 + loads v = ap loads r.1 in omega (arith, e)
  writer_counts lock v w (Raced expected found) r = let e : loads w ≡ 0 + (1 + loads v) = ap loads r.1 in omega (arith, e)

  pub upgrader_counts : (lock : ℕ) (v w : View P) (f : TryFault) → RefusesUpgrade g v lock w f → loads w ≡ loads v + 1
  upgrader_counts lock v w (Busy word) r = let e : loads w ≡ 1 + loads v = ap loads r.1 in omega (arith, e)
  upgrader_counts lock v w (Raced expected found) r = let e : loads w ≡ 0 + (1 + loads v) = ap loads r.1 in omega (arith, e)

  pub upgrading_counts : (lock : ℕ) (v w : View P) → EntersUpgrade g v lock w → loads w ≡ loads v + 1
  upgrading_counts lock v w t = let e : loads w ≡ 0 + (1 + loads v) = ap loads t.2.0.3 in omega (arith, e)

  pub beginning_counts : (lock : ℕ) (v w : View P) (f : TryFault) → MissesBeginning g v lock w f → loads w ≡ loads v + 1
  beginning_counts lock v w (Busy word) r = absurd r
  beginning_counts lock v w (Raced expected found) r = let e : loads w ≡ 0 + (1 + loads v) = ap loads r.1 in omega (arith, e)

  meeting_counts : (lock : ℕ) (v w : View P) (f : TryFault) → MeetsReaders g v lock w f → holds w ≡ holds v + 1
  meeting_counts lock v w (Busy word) r = let e : holds w ≡ 1 + holds v = ap holds r.0.1.0 in omega (arith, e)
  meeting_counts lock v w (Raced expected found) r = absurd r

  -- so many tries were refused
  pub readers_counted : (lock : ℕ) (v w : View P) (fs : List TryFault) → ReadersRefused g lock v fs w → loads w ≡ loads v + length fs
  readers_counted lock v w fs r = all_counted (λ v w f. RefusesShared g v lock w f) loads (λ v w f. reader_counts lock v w f) v w fs r

  pub writers_counted : (lock : ℕ) (v w : View P) (fs : List TryFault) → WritersRefused g lock v fs w → loads w ≡ loads v + length fs
  writers_counted lock v w fs r = all_counted (λ v w f. RefusesAnnouncing g v lock w f) loads (λ v w f. writer_counts lock v w f) v w fs r

  pub upgraders_counted : (lock : ℕ) (v w : View P) (fs : List TryFault) → UpgradersRefused g lock v fs w → loads w ≡ loads v + length fs
  upgraders_counted lock v w fs r = all_counted (λ v w f. RefusesUpgrade g v lock w f) loads (λ v w f. upgrader_counts lock v w f) v w fs r

  pub meetings_counted : (lock : ℕ) (v w : View P) (fs : List TryFault) → ReadersMet g lock v fs w → holds w ≡ holds v + length fs
  meetings_counted lock v w fs r = all_counted (λ v w f. MeetsReaders g v lock w f) holds (λ v w f. meeting_counts lock v w f) v w fs r

  -- a sweep loads no lock's word
  pub swept_loads : (lock slots taken : ℕ) (u w : View P) → Sweeps g lock slots taken u w → loads w ≡ loads u
  swept_loads lock slots taken u w r = let t = sweep_goes g lock slots taken u w r in let e : loads w ≡ how_many is_load (t.added ++ u.steps) = ap (how_many is_load) t.steps in omega (arith, e, no_loads u.number lock (mode_of (standing u lock)) t.added u.steps t.sweeping)

  -- and then one succeeded
  pub entered_counted : (lock : ℕ) (v w : View P) (form : Form) (fs : List TryFault) → ReadsAtLast g v lock form fs w → loads w ≡ loads v + (length fs + 1)
  entered_counted lock v w form fs e = omega (arith, readers_counted lock v e.0 fs e.1, entering_counts lock e.0 w form e.3)

  pub upgraded_counted : (lock : ℕ) (v w : View P) (fs : List TryFault) → EntersUpgradeAtLast g v lock fs w → loads w ≡ loads v + (length fs + 1)
  upgraded_counted lock v w fs e = omega (arith, upgraders_counted lock v e.0 fs e.1, upgrading_counts lock e.0 w e.3)

  pub announced_counted : (lock : ℕ) (v w : View P) (fs : List TryFault) → AnnouncesAtLast g v lock fs w → loads w ≡ loads v + (length fs + 1)
  announced_counted lock v w fs e =
      let won = e.3 in let last : loads won.0 ≡ 0 + (1 + loads e.0) = ap loads won.1.2.0 in
      omega (arith, writers_counted lock v e.0 fs e.1, last, swept_loads lock v.shape.slots won.2.0 won.0 w won.2.1)

  pub finished_counted : (lock : ℕ) (v w : View P) (fs : List TryFault) → HoldsAtLast g v lock fs w → holds w ≡ holds v + (length fs + 1)
  finished_counted lock v w fs e = let last : holds w ≡ 1 + holds e.0 = ap holds e.3.0.3 in omega (arith, meetings_counted lock v e.0 fs e.1, last)

-- asks that are counted from 0
asks_from_none : (deadline first last n : ℕ) (old new : Option (List ℕ)) (end : List ℕ) → AsksBelow deadline first last old new end → last ≡ first + n → AsksBelow deadline 0 n old new end
asks_from_none deadline first last n old new end a counted = record { answers = a.answers; counted = omega (arith, a.counted, counted) }

module _ {T : Type 0} (last : T → ℕ) (answers : T → Option (List ℕ)) (deadline n before after : ℕ) (old new : T) where
  -- a wait that succeeded with its try number n + 1
  pub in_time : AsksBelow deadline before after (answers old) (answers new) [] → (after ≡ before + 1 → new ≡ old) → (new ≡ old) ⊎ (last new < deadline) → after ≡ before + (n + 1) → AskedInTime last answers deadline n old new
  in_time asks once early counted = record { asks = asks_from_none deadline before after (n + 1) (answers old) (answers new) [] asks counted; unasked = λ z. once (omega (arith, z, counted)); early = early }

  -- a wait that was late after n tries
  pub too_late : (now : ℕ) → AsksBelow deadline before after (answers old) (answers new) (now ∷ []) → deadline ≤ now → now ≡ last new → after ≡ before + n → AskedTooLate last answers deadline n old new now
  too_late now asks late is counted = record { asks = asks_from_none deadline before after n (answers old) (answers new) (now ∷ []) asks counted; late = late; now_is = is }
