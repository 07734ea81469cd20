-- Which reads of a lock's state word refuse an acquisition, as they stand among the steps that were made; and that whoever made them was not alone at the lock.
use Rattle.std.specs.Prelude.{◌≡◌, ◌≢◌, ◌⊎◌, ℕ, ◌+◌, ◌<◌, ◌≤◌, true, false, List, [], ◌∷◌, ◌++◌, cond, eqb, Option, Some, None}
use Rattle.std.proofs.Common.{arith, refl, sym, ap, ◌∙◌, subst, ⊎_elim, inl, inr, append_assoc}
use mathlib.Core.Option.{some}
use mathlib.Core.Logic.{dite}
use Rattle.std.proofs.Math.Decide.{dec_lt}
use lib.ListN.{get_elem?}
use Rattle.atomic_table.specs.Table.{State}
use Rattle.lock_model.specs.Locks.{Has}
use Rattle.state_word.specs.Words.{units_of}
use Rattle.view_sums.specs.Sums.{term_le}
use Rattle.hall.specs.declared.cargo.CargoRule.{Ghosts}
use Rattle.hall.specs.declared.view.View.{View}
use Rattle.hall.specs.declared.view.Plan.{Plan}
use Rattle.hall.specs.declared.view.Shape.{Shape}
use Rattle.hall.specs.declared.view.StepEntry.{StepEntry}
use Rattle.hall.specs.declared.view.StepKind.TheVariants.{Hold}
use Rattle.hall.specs.NumberLaws.{owns_le, within-above}
use Rattle.hall.specs.Numbers.{covers, owns, Numbered}
use Rattle.hall.specs.Plays.{conflicts_for_shared, conflicts_for_announcing}
use Rattle.hall.specs.Reasons.{shared_bits, announcing_bits}
use Rattle.hall.specs.Rule.{Holds}
use Rattle.hall.specs.Trails.{is_join, last_read, Others, StrongOthers, Reasoned}
use Rattle.hall.specs.Views.{is_outside}

module _ (shape : Shape) (number : ℕ) (steps : List StepEntry) (lock : ℕ) where
  -- a step of this number at the lock's state word
  abbrev pub IsReadOf : StepEntry → Type 0
  IsReadOf e = (e.number ≡ number) × (e.place ≡ shape.slots + lock)

  -- one was made from outside, and found a word that lets no reader in
  abbrev pub BusyForReading : Type 0
  BusyForReading = (e : StepEntry) × Has steps e × IsReadOf e × (is_outside e.before ≡ true) × (conflicts_for_shared shape.policy e.word ≡ true)

  -- one was made from outside, and found a word that lets no writer be announced; or an announced writer, which couldn't finish, found one that counts readers
  abbrev pub BusyForWriting : Type 0
  BusyForWriting = (e : StepEntry) × Has steps e × IsReadOf e
      × (((is_outside e.before ≡ true) × (conflicts_for_announcing e.word ≡ true)) ⊎ ((e.kind ≡ Hold) × (e.won ≡ false) × (units_of e.word ≢ 0)))

  -- one was made from outside, and found a word that grants nobody upgrade
  abbrev pub BusyForUpgrade : Type 0
  BusyForUpgrade = (e : StepEntry) × Has steps e × IsReadOf e × (is_outside e.before ≡ true) × (conflicts_for_announcing e.word ≡ true)

  -- one found another word than its number had read before, and neither that read nor a step since then may have changed the word
  abbrev pub ReadTwoWords : Type 0
  ReadTwoWords = (newer : List StepEntry) × (e : StepEntry) × (older : List StepEntry) × (first : ℕ) × (steps ≡ newer ++ e ∷ older)
      × IsReadOf e × (last_read (shape.slots + lock) number older ≡ Some first) × (first ≢ e.word)

has_behind : {A : Type 0} (xs ys : List A) (a : A) → Has ys a → Has (xs ++ ys) a
has_behind [] ys a h = h
has_behind (x ∷ xs) ys a h = inr (has_behind xs ys a h)

-- the reads stay where steps are added
module _ (shape : Shape) (number : ℕ) (added steps : List StepEntry) (lock : ℕ) where
  pub still_busy_reading : BusyForReading shape number steps lock → BusyForReading shape number (added ++ steps) lock
  still_busy_reading r = (r.0, has_behind added steps r.0 r.1, r.2, r.3, r.4)

  pub still_busy_writing : BusyForWriting shape number steps lock → BusyForWriting shape number (added ++ steps) lock
  still_busy_writing r = (r.0, has_behind added steps r.0 r.1, r.2, r.3)

  pub still_busy_upgrade : BusyForUpgrade shape number steps lock → BusyForUpgrade shape number (added ++ steps) lock
  still_busy_upgrade r = (r.0, has_behind added steps r.0 r.1, r.2, r.3, r.4)

  pub still_two_words : ReadTwoWords shape number steps lock → ReadTwoWords shape number (added ++ steps) lock
  still_two_words r = (added ++ r.0, r.1, r.2, r.3, ap (λ (l : List StepEntry). added ++ l) r.4 ∙ sym (append_assoc added r.0 (r.1 ∷ r.2)), r.5, r.6, r.7)

has_before : {A : Type 0} (xs ys : List A) (a : A) → Has xs a → Has (xs ++ ys) a
has_before [] ys a h = absurd h
has_before (x ∷ xs) ys a h = ⊎_elim inl (λ t. inr (has_before xs ys a t)) h

-- what was read last among the newer steps was read last
still_read : (p n w : ℕ) (newer older : List StepEntry) → last_read p n newer ≡ Some w → last_read p n (newer ++ older) ≡ Some w
still_read p n w [] older told = absurd (cc)
still_read p n w (x ∷ xs) older told =
    let here : Option ℕ = cond x.won None (Some x.word) in let few : Option ℕ = last_read p n xs in let all : Option ℕ = last_read p n (xs ++ older) in
    elim (eqb x.number n) as (λ a. cond a (cond (is_join x.kind) None (cond (eqb x.place p) here few)) None ≡ Some w → cond a (cond (is_join x.kind) None (cond (eqb x.place p) here all)) None ≡ Some w) [
      | true ↦ elim (is_join x.kind) as (λ b. cond b None (cond (eqb x.place p) here few) ≡ Some w → cond b None (cond (eqb x.place p) here all) ≡ Some w) [
        | true ↦ λ e. e
        | false ↦ elim (eqb x.place p) as (λ c. cond c here few ≡ Some w → cond c here all ≡ Some w) [ true ↦ λ e. e | false ↦ λ e. still_read p n w xs older e ]
      ]
      | false ↦ λ e. e
    ] told

-- the reads stay where the pass is taken in
module _ (shape : Shape) (number : ℕ) (steps others : List StepEntry) (lock : ℕ) where
  pub joined_busy_reading : BusyForReading shape number steps lock → BusyForReading shape number (steps ++ others) lock
  joined_busy_reading r = (r.0, has_before steps others r.0 r.1, r.2, r.3, r.4)

  pub joined_busy_writing : BusyForWriting shape number steps lock → BusyForWriting shape number (steps ++ others) lock
  joined_busy_writing r = (r.0, has_before steps others r.0 r.1, r.2, r.3)

  pub joined_busy_upgrade : BusyForUpgrade shape number steps lock → BusyForUpgrade shape number (steps ++ others) lock
  joined_busy_upgrade r = (r.0, has_before steps others r.0 r.1, r.2, r.3, r.4)

  pub joined_two_words : ReadTwoWords shape number steps lock → ReadTwoWords shape number (steps ++ others) lock
  joined_two_words r = (r.0, r.1, r.2 ++ others, r.3, ap (λ (l : List StepEntry). l ++ others) r.4 ∙ append_assoc r.0 (r.1 ∷ r.2) others, r.5, still_read (shape.slots + lock) number r.3 r.2 others r.6, r.7)

reasoned_from : (R : ℕ → Type 0) (p : ℕ) (newer older : List StepEntry) → Reasoned R p (newer ++ older) → Reasoned R p older
reasoned_from R p [] older h = h
reasoned_from R p (x ∷ newer) older h = reasoned_from R p newer older h.1

module _ {P : Type 0} where
  -- a number that a pass owns is one of a seat
  is_seat : (seats : ℕ) (views : List (View P)) → Numbered seats views → (j : ℕ) (v : View P) → get_elem? views j ≡ some v → 0 < v.span → (x : ℕ) → 1 ≤ owns x v → x < seats
  is_seat seats views numbered j v at lives x owned = dite (dec_lt x seats) (λ yes. yes)
      (λ no. absurd (omega (arith, term_le (covers x) views j v at, numbered.once x, within-above x 0 seats (omega arith), owns_le x v lives)))

module _ {C P : Type 0} (g : Ghosts C P) (plan : Plan C) (s : State (Unit {0}) (View P)) (h : Holds g plan s) (id : ℕ) (v : View P) (at : get_elem? s.views id ≡ some v) (number lock : ℕ) (near : lock < plan.shape.locks) where
  -- who was refused as a reader met a writer or an upgrade holder
  pub reading_met : BusyForReading plan.shape number v.steps lock → StrongOthers s.views lock number
  reading_met r = subst (StrongOthers s.views lock) r.2.0 (h.trailed.excused id v at r.0 r.1 lock near r.2.1 r.3 (shared_bits plan.shape.policy r.0.word r.4))

  -- and so did who was refused upgrade
  pub upgrading_met : BusyForUpgrade plan.shape number v.steps lock → StrongOthers s.views lock number
  upgrading_met r = subst (StrongOthers s.views lock) r.2.0 (h.trailed.excused id v at r.0 r.1 lock near r.2.1 r.3 (announcing_bits r.0.word r.4))

  -- who was refused as a writer met somebody
  pub writing_met : BusyForWriting plan.shape number v.steps lock → Others s.views lock number
  writing_met r =
      subst (Others s.views lock) r.2.0 (⊎_elim
      (λ t. let o = h.trailed.excused id v at r.0 r.1 lock near r.2.1 t.0 (announcing_bits r.0.word t.1) in (o.0, o.1, o.2, o.3))
      (λ t. h.trailed.counted id v at r.0 r.1 lock near r.2.1 t.0 t.1 t.2) r.3)

  -- and so did who read two words
  pub racing_met : ReadTwoWords plan.shape number v.steps lock → Others s.views lock number
  racing_met r =
      let p : ℕ = plan.shape.slots + lock in let R : ℕ → Type 0 = Others s.views lock in let e : StepEntry = r.1 in let older : List StepEntry = r.2 in
      let here : Reasoned R p (e ∷ older) = reasoned_from R p r.0 (e ∷ older) (subst (Reasoned R p) r.4 (h.trailed.raced id v at lock near)) in
      subst R r.5.0 (here.0 r.5.1 r.3 (subst (λ (n : ℕ). last_read p n older ≡ Some r.3) (sym r.5.0) r.6) r.7)

  -- where another number was at a lock there are two seats
  several : (e : StepEntry) → Has v.steps e → e.number ≡ number → Others s.views lock number → 1 < plan.shape.seats
  several e has is o =
      let seats : ℕ = plan.shape.seats in let t = o.1 in let left = h.trailed.trodden t.0 t.1 t.2 o.0 t.3 in
      let other : o.0.number < seats = is_seat seats s.views h.numbered t.0 t.1 t.2 left.0 o.0.number left.1 in
      let lives : 0 < v.span = dite (dec_lt 0 v.span) (λ yes. yes) (λ no. let f = h.formed id v at in let none = f.spent (omega arith) in absurd (subst (λ (l : List StepEntry). Has l e) none.1 has)) in
      let mine : number < seats = subst (λ (n : ℕ). n < seats) is (is_seat seats s.views h.numbered id v at lives e.number (h.trailed.owned id v at e has)) in
      dite (dec_lt 1 seats) (λ yes. yes) (λ no. absurd (o.3 (omega arith)))

  -- so there are two seats at least wherever such reads were made
  pub several_readers : BusyForReading plan.shape number v.steps lock → 1 < plan.shape.seats
  several_readers r = let o = reading_met r in several r.0 r.1 r.2.0 (o.0, o.1, o.2, o.3)

  pub several_writers : BusyForWriting plan.shape number v.steps lock → 1 < plan.shape.seats
  several_writers r = several r.0 r.1 r.2.0 (writing_met r)

  pub several_upgraders : BusyForUpgrade plan.shape number v.steps lock → 1 < plan.shape.seats
  several_upgraders r = let o = upgrading_met r in several r.0 r.1 r.2.0 (o.0, o.1, o.2, o.3)

  pub several_racers : ReadTwoWords plan.shape number v.steps lock → 1 < plan.shape.seats
  several_racers r = several r.1 (subst (λ (l : List StepEntry). Has l r.1) (sym r.4) (has_behind r.0 (r.1 ∷ r.2) r.1 (inl refl))) r.5.0 (racing_met r)
