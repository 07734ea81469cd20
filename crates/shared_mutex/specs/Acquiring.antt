-- What the calls of the shared lock leave to their pass.
use Rattle.std.specs.Prelude.{◌≡◌, ◌≢◌, ℕ, ◌⊎◌, ◌<◌, Bool, true, false, List, length, MatchResult, Some}
use Rattle.std.specs.declared.result.Result.{Result}
use Rattle.lock_model.specs.declared.model.Act.TheVariants as act
use Rattle.state_word.specs.Words.{may_defer_of, units_of, retract_of}
use Rattle.hall.specs.declared.cargo.CargoRule.{Ghosts}
use Rattle.hall.specs.declared.guards.Form.{Form}
use Rattle.hall.specs.declared.guards.Form.TheVariants as forms
use Rattle.hall.specs.declared.guards.SharedGuard.{SharedGuard}
use Rattle.hall.specs.declared.guards.Why.{Why}
use Rattle.hall.specs.declared.guards.Why.TheVariants.{NoDefer, SlotsTaken}
use Rattle.hall.specs.declared.guards.TryFault.{TryFault}
use Rattle.hall.specs.declared.guards.TryFault.TheVariants.{Busy, Raced}
use Rattle.hall.specs.declared.view.View.{View}
use Rattle.hall.specs.declared.view.StepKind.TheVariants as kinds
use Rattle.hall.specs.declared.view.Standing.TheVariants.{Away}
pub use Rattle.hall.specs.Calls.{ElsewhereSame, MadeAtMost}
use Rattle.hall.specs.Moves.{Moment}
use Rattle.hall.specs.Plays.{conflicts_for_shared, conflicts_for_announcing, Announces, EnterMisses, Enters, GivesBack, Holding, Looks}
use Rattle.hall.specs.Reasons.{WasNotAlone, MetAWriter}
use Rattle.hall.specs.Upgrading.{HoldingUp}
use Rattle.hall.specs.Views.{after_look, after_step, standing}
use Rattle.apply_deferred.specs.Sweeping.{Sweeps}
use Rattle.hall.specs.Slotting.{Defers}
use Rattle.reader_slots.specs.declared.Placed.TheVariants.{At, Taken}
use Rattle.reader_slots.specs.declared.Withdrawn.{Withdrawn}
use Rattle.reader_slots.specs.Deferring.{LeavesAs, Places, WithdrawsAs}

-- how many steps it may take to leave: of a reader in a slot two, and else one
abbrev pub steps_to_leave : Form → ℕ
steps_to_leave (forms.Deferred slot) = 2
steps_to_leave (forms.Inline why) = 1
steps_to_leave forms.Lowered = 1

module _ {P : Type 0} where
  -- one load found a word that lets a reader in and lets it defer
  abbrev pub MayDefer : View P → ℕ → Type 0
  MayDefer v seen = (conflicts_for_shared v.shape.policy seen ≡ false) × (may_defer_of seen ≡ 1)

module _ {C P : Type 0} (g : Ghosts C P) where
  -- Deferred: one load found a word that lets readers defer, a token was placed in this slot, and a second look found that they still may.
  -- Inline: one load found a word that doesn't conflict, and one exchange from it entered; what forced it was that the word doesn't let readers defer, or that both slots were found taken, by these words.
  abbrev pub EntersBy : View P → ℕ → Form → View P → Type 0
  EntersBy v lock (forms.Deferred slot) w = (seen : ℕ) × MayDefer v seen × ((u : View P) × Places g (after_look v kinds.Load lock seen) lock (At slot) u × ((word : ℕ) × (may_defer_of word ≡ 1) × Defers g slot u lock word w))
  EntersBy v lock (forms.Inline (NoDefer seen)) w = (conflicts_for_shared v.shape.policy seen ≡ false) × (may_defer_of seen ≡ 0) × Enters g (after_look v kinds.Load lock seen) lock seen w
  EntersBy v lock (forms.Inline (SlotsTaken tokens)) w = (seen : ℕ) × MayDefer v seen × ((u : View P) × Places g (after_look v kinds.Load lock seen) lock (Taken tokens) u × Enters g u lock seen w)
  EntersBy v lock forms.Lowered w = ⊥

  -- it entered, in one of these forms
  abbrev pub TakesShared : View P → ℕ → View P → Type 0
  TakesShared v lock w = (form : Form) × EntersBy v lock form w

  -- a second look found this word, which doesn't let readers defer, and the token was taken back, or a unit given back for it
  abbrev pub TakesTokenBack : View P → ℕ → ℕ → ℕ → View P → Type 0
  TakesTokenBack v lock slot word w = (may_defer_of word ≡ 0) × Looks g kinds.Check v lock word (after_look v kinds.Check lock word) × ((ended : Withdrawn) × WithdrawsAs g (after_look v kinds.Check lock word) lock slot ended w)

  -- from outside: one load found a word that lets readers defer, and a token was placed; but a second look found this word, and the token was taken back
  abbrev pub TurnsBack : View P → ℕ → ℕ → ℕ → View P → Type 0
  TurnsBack v lock seen word w = (lock < length v.standings) × (standing v lock ≡ Away) × MayDefer v seen × ((slot : ℕ) × (u : View P) × Places g (after_look v kinds.Load lock seen) lock (At slot) u × TakesTokenBack u lock slot word w)

  -- Busy: one load, from outside, found this word, which conflicts; or it was found by the second look of a reader that turned back. So a writer or an upgrade holder was there.
  -- Raced: one load found a word that doesn't conflict, and then a failed exchange another word, right after it or after both slots were found taken; or the second look did, and the reader turned back. So another seat was there
  abbrev pub RefusesShared : View P → ℕ → View P → TryFault → Type 0
  RefusesShared v lock w (Busy word) = (conflicts_for_shared v.shape.policy word ≡ true) × ((w ≡ after_look v kinds.Load lock word) ⊎ ((seen : ℕ) × TurnsBack v lock seen word w)) × MetAWriter g w lock
  RefusesShared v lock w (Raced expected found) = (expected ≢ found) × (conflicts_for_shared v.shape.policy expected ≡ false)
      × (((may_defer_of expected ≡ 0) × (w ≡ after_look (after_look v kinds.Load lock expected) kinds.Enter lock found))
      ⊎ ((may_defer_of expected ≡ 1) × ((tokens : List ℕ) × (u : View P) × Places g (after_look v kinds.Load lock expected) lock (Taken tokens) u × (w ≡ after_look u kinds.Enter lock found)))
      ⊎ ((conflicts_for_shared v.shape.policy found ≡ false) × TurnsBack v lock expected found w))
      × WasNotAlone g w lock

  -- a reader left: by the count, or from its slot
  abbrev pub LeavesShared : View P → ℕ → Form → View P → Type 0
  LeavesShared v lock (forms.Deferred slot) w = (ended : Withdrawn) × LeavesAs g v lock slot ended w
  LeavesShared v lock (forms.Inline why) w = (found : ℕ) × GivesBack g v lock found w
  LeavesShared v lock forms.Lowered w = (found : ℕ) × GivesBack g v lock found w

  -- an exchange from this word entered, as forced by this; or it failed
  abbrev pub EntersInline : View P → ℕ → ℕ → Why → View P → Result SharedGuard TryFault → Type 0
  EntersInline v lock seen why w r = MatchResult r (λ guard. (guard.lock ≡ lock) × (guard.form ≡ forms.Inline why) × Enters g v lock seen w)
      (λ fault. (found : ℕ) × (fault ≡ Raced seen found) × (found ≢ seen) × EnterMisses g v lock found w)

  -- a reader with a token in this slot is inside by it, or took it back and was refused
  abbrev pub Settles : View P → ℕ → ℕ → ℕ → View P → Result SharedGuard TryFault → Type 0
  Settles v lock slot seen w r = MatchResult r (λ guard. (guard.lock ≡ lock) × (guard.form ≡ forms.Deferred slot) × ((word : ℕ) × (may_defer_of word ≡ 1) × Defers g slot v lock word w))
      (λ fault. (word : ℕ) × TakesTokenBack v lock slot word w × (((conflicts_for_shared v.shape.policy word ≡ true) × (fault ≡ Busy word)) ⊎ ((conflicts_for_shared v.shape.policy word ≡ false) × (fault ≡ Raced seen word))))

  -- one load found a word that doesn't conflict, and one exchange from it announced the writer
  abbrev pub AnnouncesWriter : View P → ℕ → View P → Type 0
  AnnouncesWriter v lock w = (seen : ℕ) × (conflicts_for_announcing seen ≡ false) × Announces g (after_look v kinds.Load lock seen) lock seen w

  abbrev pub RefusesAnnouncing : View P → ℕ → View P → TryFault → Type 0
  RefusesAnnouncing v lock w (Busy word) = (conflicts_for_announcing word ≡ true) × (w ≡ after_look v kinds.Load lock word) × MetAWriter g w lock
  RefusesAnnouncing v lock w (Raced expected found) = (expected ≢ found) × (w ≡ after_look (after_look v kinds.Load lock expected) kinds.Announce lock found) × WasNotAlone g w lock × (conflicts_for_announcing expected ≡ false)

  -- the announced writer took the lock: from outside it gained its mode, and from upgrade it raised it
  abbrev pub Finishes : Bool → View P → ℕ → View P → Type 0
  Finishes false v lock w = Holding g v lock 4 w
  Finishes true v lock w = HoldingUp g v lock 6 w

  -- the writer was announced, swept, and then took the lock
  abbrev pub TakesExclusive : View P → ℕ → View P → Type 0
  TakesExclusive v lock w = (u : View P) × AnnouncesWriter v lock u × (z : View P) × (taken : ℕ) × Sweeps g lock v.shape.slots taken u z × Holding g z lock 4 w

  -- the writer was announced and swept, found readers, and took its announcement back
  abbrev pub FoundReaders : View P → ℕ → View P → ℕ → Type 0
  FoundReaders v lock w word = (u : View P) × AnnouncesWriter v lock u × (z : View P) × (taken : ℕ) × Sweeps g lock v.shape.slots taken u z × (units_of word ≢ 0) × WasNotAlone g (after_look z kinds.Hold lock word) lock
      × ((found : ℕ) × (w ≡ after_step (after_look z kinds.Hold lock word) kinds.Retract lock found true Away z.part) × Moment g (after_look z kinds.Hold lock word) w lock found (retract_of found) (Some act.Retract))

  -- a try to take the lock was refused before the writer was announced, or after it
  abbrev pub RefusesExclusive : View P → ℕ → View P → TryFault → Type 0
  RefusesExclusive v lock w (Busy word) = RefusesAnnouncing v lock w (Busy word) ⊎ FoundReaders v lock w word
  RefusesExclusive v lock w (Raced expected found) = RefusesAnnouncing v lock w (Raced expected found)
