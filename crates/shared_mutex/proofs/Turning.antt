-- A reader that placed a token and was turned back: why.
use Rattle.std.specs.Prelude.{MatchResult, Ok, Err}
use Rattle.std.specs.declared.result.Result.{Result}
use Rattle.std.proofs.Common.{◌≡◌, ◌≢◌, ℕ, ◌+◌, ◌<◌, ◌%◌, ◌*◌, Bool, true, false, List, [], ◌∷◌, length, slice_index, cond, eqb, Option, Some, None, arith, refl, sym, ap, ◌∙◌, subst, inl, inr, ⊎_elim, eq-eqb, ne_eqb}
use Rattle.lock_model.specs.Locks.{Has}
use Rattle.state_word.specs.Words.{may_defer_of}
use Rattle.hall.specs.declared.cargo.CargoRule.{Ghosts}
use Rattle.hall.specs.declared.guards.Form.{Form}
use Rattle.hall.specs.declared.guards.Form.TheVariants as forms
use Rattle.hall.specs.declared.guards.SharedGuard.{SharedGuard}
use Rattle.hall.specs.declared.guards.TryFault.{TryFault}
use Rattle.hall.specs.declared.guards.TryFault.TheVariants.{Busy, Raced}
use Rattle.hall.specs.declared.view.StepKind.TheVariants as kinds
use Rattle.hall.specs.declared.view.Shape.{Shape}
use Rattle.hall.specs.declared.view.Standing.{Standing}
use Rattle.hall.specs.declared.view.Standing.TheVariants.{Away, Undecided, Owing}
use Rattle.hall.specs.declared.view.StepEntry.{StepEntry}
use Rattle.hall.specs.declared.view.View.{View}
use Rattle.hall.specs.Plays.{conflicts_for_shared, lowered_part}
use Rattle.hall.specs.Reasons.{MetAWriter, WasNotAlone}
use Rattle.hall.specs.Refusals.{BusyForReading, ReadTwoWords}
use Rattle.hall.specs.Trails.{last_read}
use Rattle.hall.specs.Views.{after_look, after_step, after_step_at, entry_at, entry_of, is_outside, place_of, standing}
use Rattle.reader_slots.specs.declared.Withdrawn.{Withdrawn}
use Rattle.reader_slots.specs.declared.Withdrawn.TheVariants.{Cleared, GaveBack}
use Rattle.reader_slots.specs.Deferring.{FindsFirstTaken, Places, WithdrawsAs, first_slot, second_slot}
use Rattle.reader_slots.specs.declared.Placed.TheVariants.{At, Taken}
use Rattle.std.proofs.lemmas.Nat.{mod_below}
use Rattle.hall.specs.declared.guards.Why.TheVariants.{SlotsTaken}
use Rattle.shared_mutex.specs.Acquiring.{EntersBy, EntersInline, MayDefer, RefusesShared, Settles, TakesTokenBack, TurnsBack}
use Rattle.shared_mutex.specs.TokenLaws.{loaded, placed, stands_there, still_away}
use Rattle.shared_mutex.specs.Tokens.{OnlyTried}
use Rattle.shared_mutex.proofs.Sharing.{met_a_writer, was_not_alone}

module _ {C P : Type 0} (g : Ghosts C P) (u w : View P) (lock slot word : ℕ) (here : standing u lock ≡ Undecided slot) where
  abbrev second_look : View P
  second_look = after_look u kinds.Check lock word

  abbrev looked : StepEntry
  looked = entry_of u kinds.Check lock word false

  -- it found a word that lets no reader in
  pub met_then : (ended : Withdrawn) → conflicts_for_shared u.shape.policy word ≡ true → WithdrawsAs g second_look lock slot ended w → MetAWriter g w lock
  met_then Cleared on r =
      let B : View P → Type 0 = λ z. BusyForReading z.shape z.number z.steps lock in
      met_a_writer g second_look w lock slot (lock + 1) 0 None r.1 (ap (λ (z : View P). z.shape) r.0)
      (subst B (sym r.0) (looked, inr (inl refl), (refl, refl), ap is_outside here, on))
  met_then GaveBack on r =
      let B : View P → Type 0 = λ z. BusyForReading z.shape z.number z.steps lock in let o : View P = r.0 in
      met_a_writer g o w lock (place_of o lock) r.4.0 _ _ r.4.1.1 (ap (λ (z : View P). z.shape) r.4.1.0)
      (subst B (sym r.4.1.0)
      (subst (λ (y : View P). B (after_step y kinds.Lower lock r.4.0 true Away (lowered_part g (standing y lock) lock y.part))) (sym r.3.0) (looked, inr (inr (inl refl)), (refl, refl), ap is_outside here, on)))

  -- it found another word than the first look
  pub alone_then : (ended : Withdrawn) (seen : ℕ) → last_read (place_of u lock) u.number u.steps ≡ Some seen → seen ≢ word → WithdrawsAs g second_look lock slot ended w → WasNotAlone g w lock
  alone_then Cleared seen told differ r =
      let B : View P → Type 0 = λ z. ReadTwoWords z.shape z.number z.steps lock in
      was_not_alone g second_look w lock slot (lock + 1) 0 None r.1 (ap (λ (z : View P). z.shape) r.0)
      (subst B (sym r.0) (entry_at second_look kinds.WithdrawSlot lock slot (lock + 1) true ∷ [], looked, u.steps, seen, refl, (refl, refl), told, differ))
  alone_then GaveBack seen told differ r =
      let B : View P → Type 0 = λ z. ReadTwoWords z.shape z.number z.steps lock in let o : View P = r.0 in let owing : View P = after_step_at second_look kinds.WithdrawSlot lock slot r.1 false Owing second_look.part in
      was_not_alone g o w lock (place_of o lock) r.4.0 _ _ r.4.1.1 (ap (λ (z : View P). z.shape) r.4.1.0)
      (subst B (sym r.4.1.0)
      (subst (λ (y : View P). B (after_step y kinds.Lower lock r.4.0 true Away (lowered_part g (standing y lock) lock y.part))) (sym r.3.0)
      (entry_of owing kinds.Lower lock r.4.0 true ∷ (entry_at second_look kinds.WithdrawSlot lock slot r.1 false ∷ []), looked, u.steps, seen, refl, (refl, refl), told, differ)))

module _ {P : Type 0} where
  -- a load is the last read, and a step on a slot isn't one
  pub told_first : (v : View P) (lock seen : ℕ) → last_read (place_of v lock) v.number (after_look v kinds.Load lock seen).steps ≡ Some seen
  told_first v lock seen =
      let p : ℕ = place_of v lock in let before : Option ℕ = last_read p v.number v.steps in
      ap (λ (b : Bool). cond b (cond (eqb p p) (Some seen) before) None) (eq-eqb v.number v.number refl) ∙ ap (λ (b : Bool). cond b (Some seen) before) (eq-eqb p p refl)

  pub told_still : (y z : View P) (lock slot found seen : ℕ) (won : Bool) (s : Standing) → slot < y.shape.slots → z ≡ after_step_at y kinds.PlaceSlot lock slot found won s y.part → last_read (place_of y lock) y.number y.steps ≡ Some seen → last_read (place_of z lock) z.number z.steps ≡ Some seen
  told_still y z lock slot found seen won s inside is told =
      let p : ℕ = place_of y lock in let rest : Option ℕ = last_read p y.number y.steps in let read : Option ℕ = cond won None (Some found) in
      subst (λ (x : View P). last_read (place_of x lock) x.number x.steps ≡ Some seen) (sym is)
      (ap (λ (b : Bool). cond b (cond (eqb slot p) read rest) None) (eq-eqb y.number y.number refl) ∙ ap (λ (b : Bool). cond b read rest) (ne_eqb slot p (λ e. absurd (omega (arith, inside, e)))) ∙ told)

module _ {C P : Type 0} (g : Ghosts C P) (v l u w : View P) (lock seen : ℕ) (is : l ≡ after_look v kinds.Load lock seen) (may : MayDefer v seen) (some_slot : 0 < v.shape.slots) where
  abbrev Ends : Result SharedGuard TryFault → Type 0
  Ends r = MatchResult r (λ guard. (guard.lock ≡ lock) × EntersBy g v lock guard.form w) (λ fault. RefusesShared g v lock w fault)

  abbrev loaded_view : View P
  loaded_view = after_look v kinds.Load lock seen

  told_missed : (z : View P) (found : ℕ) → FindsFirstTaken g loaded_view lock found z → last_read (place_of z lock) z.number z.steps ≡ Some seen
  told_missed z found f = told_still loaded_view z lock (first_slot v.shape.slots v.number) found seen false (standing loaded_view lock) (mod_below (2 * v.number) v.shape.slots some_slot) f.1.0 (told_first v lock seen)

  module _ (slot : ℕ) (away : standing v lock ≡ Away) (near : lock < length v.standings) (inside : slot < v.shape.slots) (places : Places g l lock (At slot) u) where
    from : Places g loaded_view lock (At slot) u
    from = subst (λ (z : View P). Places g z lock (At slot) u) is places

    token : OnlyTried v lock (Undecided slot) u
    token = placed g v lock away loaded_view u slot (still_away g v lock away seen) (loaded g v lock away seen loaded_view refl) from

    told : last_read (place_of u lock) u.number u.steps ≡ Some seen
    told = ⊎_elim
        (λ a. told_still loaded_view u lock slot 0 seen true (Undecided slot) inside a.1.0 (told_first v lock seen))
        (λ b. let z : View P = b.1.0 in
        told_still z u lock slot 0 seen true (Undecided slot) (subst (λ (s : Shape). slot < s.slots) (sym (ap (λ (k : View P). k.shape) b.1.2.1.0)) inside) b.1.3.0 (told_missed z b.1.1 b.1.2))
        from

    -- a reader that placed a token
    pub by_token : (r : Result SharedGuard TryFault) → Settles g u lock slot seen w r → Ends r
    by_token (Ok guard) e = (e.0, subst (λ (f : Form). EntersBy g v lock f w) (sym e.1) (seen, may, (u, from, e.2)))
    by_token (Err fault) e =
        let word : ℕ = e.0 in let back : TakesTokenBack g u lock slot word w = e.1 in
        let here : standing u lock ≡ Undecided slot = stands_there g v lock away (Undecided slot) u token near in
        let turns : TurnsBack g v lock seen word w = (near, away, may, (slot, u, from, back)) in
        let policy : conflicts_for_shared v.shape.policy word ≡ conflicts_for_shared u.shape.policy word = sym (ap (λ (s : Shape). conflicts_for_shared s.policy word) token.shape) in
        let differ : seen ≢ word = λ same. absurd (omega (arith, may.1, back.0, ap may_defer_of same)) in
        ⊎_elim
        (λ a. subst (λ (f : TryFault). RefusesShared g v lock w f) (sym a.1) (policy ∙ a.0, inr (seen, turns), met_then g u w lock slot word here back.2.0 a.0 back.2.1))
        (λ b. subst (λ (f : TryFault). RefusesShared g v lock w f) (sym b.1) (differ, may.0, inr (inr (policy ∙ b.0, turns)), alone_then g u w lock slot word here back.2.0 seen told differ back.2.1))
        e.2

  module _ (tokens : List ℕ) (places : Places g l lock (Taken tokens) u) where
    both : Places g loaded_view lock (Taken tokens) u
    both = subst (λ (z : View P). Places g z lock (Taken tokens) u) is places

    still_told : last_read (place_of u lock) u.number u.steps ≡ Some seen
    still_told =
        let z : View P = both.0 in
        told_still z u lock (second_slot v.shape.slots v.number) (slice_index tokens 1) seen false (standing z lock)
        (subst (λ (s : Shape). second_slot v.shape.slots v.number < s.slots) (sym (ap (λ (k : View P). k.shape) both.1.1.0)) (mod_below (2 * v.number + 1) v.shape.slots some_slot)) both.3.0 (told_missed z (slice_index tokens 0) both.1)

    -- one that found both slots taken
    pub by_count : (r : Result SharedGuard TryFault) → EntersInline g u lock seen (SlotsTaken tokens) w r → Ends r
    by_count (Ok guard) e = (e.0, subst (λ (f : Form). EntersBy g v lock f w) (sym e.1) (seen, may, (u, both, e.2)))
    by_count (Err fault) e =
        let found : ℕ = e.0 in let differ : seen ≢ found = λ same. e.2 (sym same) in let look = e.3 in
        let B : View P → Type 0 = λ z. ReadTwoWords z.shape z.number z.steps lock in
        subst (λ (f : TryFault). RefusesShared g v lock w f) (sym e.1)
        (differ, may.0, inr (inl (may.1, (tokens, u, both, look.0))), was_not_alone g u w lock (place_of u lock) found found None look.2 (ap (λ (z : View P). z.shape) look.0) (subst B (sym look.0) ([], entry_of u kinds.Enter lock found false, u.steps, seen, refl, (refl, refl), still_told, differ)))
