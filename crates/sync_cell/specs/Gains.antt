-- By which of its steps a call gained a lock, and how it came to it.
use Rattle.std.specs.Prelude.{◌≡◌, ℕ, ◌==◌, ◌&&◌, ◌||◌, not, Bool, true, false, List, ◌∷◌, ◌++◌, All, None}
use Rattle.lock_model.specs.declared.model.Policy.{Policy}
use Rattle.state_word.specs.Words.{may_defer_of}
use Rattle.hall.specs.declared.view.StepKind.{StepKind}
use Rattle.hall.specs.declared.view.StepKind.TheVariants as kinds
use Rattle.hall.specs.declared.view.StepEntry.{StepEntry}
use Rattle.hall.specs.Plays.{conflicts_for_announcing, conflicts_for_shared}
use Rattle.hall.specs.Views.{mode_of}
use Rattle.sync_cell.specs.Attempts.{is_hold, is_load}

-- a step of this kind, won or not, that found this word, gained a mode at a lock for a pass that held none there: an exchange that won, or the look of a reader with a token in a slot that found that readers may defer
abbrev pub gains_mode : StepKind → Bool → ℕ → Bool
gains_mode kinds.Enter won word = won
gains_mode kinds.UpgradeIn won word = won
gains_mode kinds.Hold won word = won
gains_mode kinds.Check won word = may_defer_of word == 1
gains_mode kind won word = false

-- a step that looked at a lock's word to be let in: a try's first load, or the look of a reader with a token in a slot that found that readers may defer no more
abbrev pub looks_in : StepKind → ℕ → Bool
looks_in kinds.Load word = true
looks_in kinds.Check word = not (may_defer_of word == 1)
looks_in kind word = false

-- a step for which a reader's try is refused busy: such a look that found a word that lets no reader in
abbrev pub refuses_reader : Policy → StepEntry → Bool
refuses_reader policy e = looks_in e.kind e.word && conflicts_for_shared policy e.word

-- a step for which a writer's try or one for upgrade is refused busy: a load that found a word that lets neither be granted, or an exchange of an announced writer that found readers counted
abbrev pub refuses_writer : StepEntry → Bool
refuses_writer e = (is_load e.kind && conflicts_for_announcing e.word) || (is_hold e.kind && not e.won)

-- a step that is no look at a lock to be let in and no last exchange of a writer, so that it refuses nobody
abbrev pub IsQuiet : StepEntry → Type 0
IsQuiet e = (looks_in e.kind e.word ≡ false) × (is_hold e.kind ≡ false)

-- These steps of a pass of this number, the newest first, are all such steps, and one of them gained a mode at a lock. All up to it were made for the lock, with no mode held there
pub record GainedBy (such : StepEntry → Type 0) (lock number : ℕ) (steps : List StepEntry) : Type 0 where
  pub later : List StepEntry
  pub gain : StepEntry
  pub earlier : List StepEntry
  pub stand : steps ≡ later ++ (gain ∷ earlier)
  pub tries : All (λ (e : StepEntry). ((e.number ≡ number) × (e.lock ≡ lock) × (mode_of e.before ≡ None)) × such e) (gain ∷ earlier)
  pub gains : gains_mode gain.kind gain.won gain.word ≡ true
  pub after : All such later

-- any step
abbrev pub AnyStep : StepEntry → Type 0
AnyStep e = Unit {0}

-- One lock was gained before another was tried for: the earlier of these steps gained the low one, and the later ones then the high one
pub record GainedInOrder (low high number : ℕ) (steps : List StepEntry) : Type 0 where
  pub later : List StepEntry
  pub earlier : List StepEntry
  pub stand : steps ≡ later ++ earlier
  pub first : GainedBy AnyStep low number earlier
  pub second : GainedBy AnyStep high number later
