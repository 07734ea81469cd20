-- What the trails say of standings and of words that were read.
use Rattle.std.specs.Prelude.{◌≡◌, ◌≢◌, ◌⊎◌, ℕ, ◌+◌, ◌/◌, ◌%◌, ◌<◌, ◌≤◌, Bool, true, false, cond, eqb, List, [], ◌∷◌, slice_index, Option, Some, None}
use mathlib.Core.Option.{some}
use lib.ListN.{get_elem?}
use Rattle.lock_model.specs.Locks.{Has}
use Rattle.state_word.specs.Words.{units_of}
use Rattle.hall.specs.declared.view.View.{View}
use Rattle.hall.specs.declared.view.Shape.{Shape}
use Rattle.hall.specs.declared.view.Footprint.{Footprint}
use Rattle.hall.specs.declared.view.StepEntry.{StepEntry}
use Rattle.hall.specs.declared.view.StepKind.{StepKind}
use Rattle.hall.specs.declared.view.StepKind.TheVariants.{Hold, Join}
use Rattle.hall.specs.Numbers.{owns}
use Rattle.hall.specs.Views.{footprint, is_away, is_outside, is_strong, standing}

abbrev pub is_join : StepKind → Bool
is_join Join = true
is_join k = false

-- the word that the number n last read at a place p, where since then it made no step that may have changed it, and no join
abbrev pub last_read : ℕ → ℕ → List StepEntry → Option ℕ
last_read p n [] = None
last_read p n (e ∷ es) = cond (eqb e.number n) (cond (is_join e.kind) None (cond (eqb e.place p) (cond e.won None (Some e.word)) (last_read p n es))) None

-- the newest step has the number n
abbrev pub Heads : ℕ → List StepEntry → Type 0
Heads n [] = Unit {0}
Heads n (e ∷ es) = e.number ≡ n

-- each step at the place p that found another word than its number had last read there has its reason
abbrev pub Reasoned : (ℕ → Type 0) → ℕ → List StepEntry → Type 0
Reasoned R p [] = Unit {0}
Reasoned R p (e ∷ es) = (e.place ≡ p → (w : ℕ) → last_read p e.number es ≡ Some w → w ≢ e.word → R e.number) × Reasoned R p es

module _ {P : Type 0} where
  -- a pass has this footprint in its trail
  abbrev pub IsTrodden : List (View P) → Footprint → Type 0
  IsTrodden views m = (j : ℕ) × (v : View P) × (get_elem? views j ≡ some v) × Has v.trail m

  -- another number than n has been at the lock
  abbrev pub Others : List (View P) → ℕ → ℕ → Type 0
  Others views lock n = (m : Footprint) × IsTrodden views m × (m.lock ≡ lock) × (m.number ≢ n)

  -- another number than n was announced at the lock, or held upgrade or exclusive there
  abbrev pub StrongOthers : List (View P) → ℕ → ℕ → Type 0
  StrongOthers views lock n = (m : Footprint) × IsTrodden views m × (m.lock ≡ lock) × (m.number ≢ n) × (m.strong ≡ true)

  pub record Trailed (sh : Shape) (words : List ℕ) (views : List (View P)) : Type 0 where
    -- who is at a lock has a footprint there
    pub present : (j : ℕ) (v : View P) → get_elem? views j ≡ some v → (lock : ℕ) → is_away (standing v lock) ≡ false → (strong : Bool) × Has v.trail (footprint v.number lock strong)
    -- and a strong one where its standing is strong
    pub strongly : (j : ℕ) (v : View P) → get_elem? views j ≡ some v → (lock : ℕ) → is_strong (standing v lock) ≡ true → Has v.trail (footprint v.number lock true)
    -- a pass made its steps under numbers of its own
    pub owned : (j : ℕ) (v : View P) → get_elem? views j ≡ some v → (e : StepEntry) → Has v.steps e → 1 ≤ owns e.number v
    -- and its trail has numbers of its own alone; a pass that was taken in has no trail
    pub trodden : (j : ℕ) (v : View P) → get_elem? views j ≡ some v → (m : Footprint) → Has v.trail m → (0 < v.span) × (1 ≤ owns m.number v)
    pub newest : (j : ℕ) (v : View P) → get_elem? views j ≡ some v → Heads v.number v.steps
    -- a word that was read is still there, or another number has been at its lock
    pub remembered : (j : ℕ) (v : View P) → get_elem? views j ≡ some v → (lock w : ℕ) → lock < sh.locks → last_read (sh.slots + lock) v.number v.steps ≡ Some w → (slice_index words (sh.slots + lock) ≡ w) ⊎ Others views lock v.number
    -- who was outside and read a bit of a writer or of an upgrade was not alone
    pub excused : (j : ℕ) (v : View P) → get_elem? views j ≡ some v → (e : StepEntry) → Has v.steps e → (lock : ℕ) → lock < sh.locks → e.place ≡ sh.slots + lock → is_outside e.before ≡ true → e.word / 2 % 8 ≢ 0 → StrongOthers views lock e.number
    -- nor was an announced writer that found a count
    pub counted : (j : ℕ) (v : View P) → get_elem? views j ≡ some v → (e : StepEntry) → Has v.steps e → (lock : ℕ) → lock < sh.locks → e.place ≡ sh.slots + lock → e.kind ≡ Hold → e.won ≡ false → units_of e.word ≢ 0 → Others views lock e.number
    -- nor who found another word than it had read
    pub raced : (j : ℕ) (v : View P) → get_elem? views j ≡ some v → (lock : ℕ) → lock < sh.locks → Reasoned (Others views lock) (sh.slots + lock) v.steps
