-- The rule holds of a new hall.
use Rattle.std.proofs.Common.{◌≡◌, ℕ, zero, suc, ◌+◌, ◌/◌, ◌%◌, ◌<◌, ◌≤◌, ◌≢◌, ◌⊎◌, List, [], ◌∷◌, get_or, drop, replicate, Bool, true, false, sym, refl, ap, ◌∙◌, subst, arith, length-drop, get_or-drop, Some}
use Rattle.std.proofs.lemmas.List.{length-replicate}
use mathlib.Core.Option.{some, some-injective, some-ne-none}
use lib.ListN.{get_elem?}
use Rattle.atomic_table.specs.Table.{opening}
use Rattle.hall.specs.declared.cargo.CargoRule.{Ghosts}
use Rattle.hall.specs.declared.view.View.{View}
use Rattle.hall.specs.declared.view.Plan.{Plan}
use Rattle.hall.specs.declared.view.Standing.{Standing}
use Rattle.hall.specs.declared.view.Standing.TheVariants.{Away}
use Rattle.view_sums.specs.Sums.{total}
use Rattle.hall.specs.Locks.{Tally, weight, Lawful, IsSeated, count, counts, naming, named_by}
use Rattle.hall.specs.Views.{footprint, mode_of, is_away, is_outside, is_strong, standing}
use Rattle.lock_model.specs.Locks.{Has}
use Rattle.state_word.specs.Words.{units_of}
use Rattle.hall.specs.Numbers.{owns}
use Rattle.hall.specs.declared.view.StepKind.TheVariants.{Hold}
use Rattle.hall.specs.Trails.{last_read, Heads, Reasoned, Others, StrongOthers}
use Rattle.hall.specs.declared.view.StepEntry.{StepEntry}
use Rattle.hall.specs.declared.view.Footprint.{Footprint}
use Rattle.hall.specs.Rule.{Holds, Formed, cargo_seat, first_view}
use Rattle.hall.proofs.Locking.{same_tally}
use Rattle.hall.proofs.Dividing.{none_pending}
use Rattle.hall.specs.SlotLaws.{away_in}
use Rattle.hall.proofs.Slots.{names_no}
use Rattle.hall.proofs.Cargoes.{mode_at}

abbrev zeros : ℕ → List ℕ
zeros n = replicate n 0

zero_in : (n k : ℕ) → get_or (zeros n) k 0 ≡ 0
zero_in zero k = refl
zero_in (suc n) zero = refl
zero_in (suc n) (suc k) = zero_in n k

unnamed_slot : (lock n k : ℕ) → naming lock (get_or (zeros n) k 0) ≡ 0
unnamed_slot lock n k = ap (naming lock) (zero_in n k) ∙ names_no lock 0 (λ e. omega (arith, e))

unnamed : (lock n m : ℕ) → named_by m lock (zeros n) ≡ 0
unnamed lock n zero = refl
unnamed lock n (suc m) = omega (arith, unnamed lock n m, unnamed_slot lock n m)

-- the one pass of a list of one
only_one : {A : Type 0} (F : A → Type 0) (a : A) → F a → (j : ℕ) (u : A) → get_elem? (a ∷ []) j ≡ some u → F u
only_one F a h zero u e = subst F (some-injective a u e) h
only_one F a h (suc j) u e = absurd (some-ne-none u (sym e))

module _ {C P : Type 0} (g : Ghosts C P) (plan : Plan C) where
  abbrev v : View P
  v = first_view g plan

  off : (lock : ℕ) → standing v lock ≡ Away
  off lock = away_in plan.shape.locks lock

  no_counts : (lock : ℕ) → counts lock (v ∷ []) ≡ weight Away
  no_counts lock = let part : (f : Tally → ℕ) → f (weight Away) ≡ 0 → total (count f lock) (v ∷ []) ≡ 0 = λ f z. omega (arith, ap (λ (x : Standing). f (weight x)) (off lock)) in
      same_tally (part (λ t. t.shared) refl) (part (λ t. t.undecided) refl) (part (λ t. t.owing) refl) (part (λ t. t.upgrade) refl) (part (λ t. t.plain) refl) (part (λ t. t.raised) refl) (part (λ t. t.exclusive) refl) (part (λ t. t.hand) refl)

  law : Lawful 0 0 (weight Away)
  law = record { bounded = omega arith; may = 0; bit = omega arith; shows = refl; alone = omega arith; nobody = λ e. refl; barred = λ e. refl; drained = λ e. absurd (omega arith) }

  pub opens : (n : ℕ) → n ≡ plan.shape.slots + plan.shape.locks + plan.shape.words → 0 < plan.shape.slots → plan.shape.slots ≤ 256 → 0 < plan.shape.seats → plan.shape.seats ≤ 1048576 → plan.quota < 18446744073709551616 → plan.shape.words ≡ g.word_count plan.cargo → g.admits plan.cargo plan.quota
      → Holds g plan (opening (zeros n) [] v)
  opens n is some_slot few_slots some_seat few fits extra admitted = record {
    size = length-replicate {A = ℕ} n 0 ∙ is;
    some_slot = some_slot;
    few_slots = few_slots;
    few = few;
    rationed = omega arith;
    counted = fits;
    formed = only_one (Formed plan.shape) v record { shape = λ _. refl; wide = λ _. length-replicate plan.shape.locks Away; spent = λ dead. absurd (omega arith); seated = λ k. subst (IsSeated plan.shape.slots) (sym (off k)) tt; one_pending = omega (arith, none_pending plan.shape.locks) };
    numbered = record { once = λ x. omega arith; all = omega arith };
    lawful = λ lock below. subst (λ (z : ℕ). Lawful z (named_by plan.shape.slots lock (zeros n)) (counts lock (v ∷ []))) (sym (zero_in n (plan.shape.slots + lock)))
        (subst (λ (z : ℕ). Lawful 0 z (counts lock (v ∷ []))) (sym (unnamed lock n plan.shape.slots)) (subst (Lawful 0 0) (sym (no_counts lock)) law));
    swept = λ lock near k inside. omega (arith, unnamed_slot lock n k);
    slot_words = λ k inside. omega (arith, zero_in n k);
    trailed = record {
      present = only_one (λ u. (lock : ℕ) → is_away (standing u lock) ≡ false → (strong : Bool) × Has u.trail (footprint u.number lock strong)) v (λ k bad. let there : is_away (standing v k) ≡ true = ap is_away (off k) in absurd (cc));
      strongly = only_one (λ u. (lock : ℕ) → is_strong (standing u lock) ≡ true → Has u.trail (footprint u.number lock true)) v (λ k bad. let there : is_strong (standing v k) ≡ false = ap is_strong (off k) in absurd (cc));
      remembered = only_one (λ u. (lock w : ℕ) → lock < plan.shape.locks → last_read (plan.shape.slots + lock) u.number u.steps ≡ Some w → (get_or (zeros n) (plan.shape.slots + lock) 0 ≡ w) ⊎ Others (v ∷ []) lock u.number) v (λ k w below bad. absurd (cc));
      owned = only_one (λ u. (e : StepEntry) → Has u.steps e → 1 ≤ owns e.number u) v (λ e has. absurd has);
      trodden = only_one (λ u. (m : Footprint) → Has u.trail m → (0 < u.span) × (1 ≤ owns m.number u)) v (λ m has. absurd has);
      newest = only_one (λ u. Heads u.number u.steps) v tt;
      counted = only_one (λ u. (e : StepEntry) → Has u.steps e → (k : ℕ) → k < plan.shape.locks → e.place ≡ plan.shape.slots + k → e.kind ≡ Hold → e.won ≡ false → units_of e.word ≢ 0 → Others (v ∷ []) k e.number) v (λ e has. absurd has);
      raced = only_one (λ u. (k : ℕ) → k < plan.shape.locks → Reasoned (Others (v ∷ []) k) (plan.shape.slots + k) u.steps) v (λ k below. tt);
      excused = only_one (λ u. (e : StepEntry) → Has u.steps e → (k : ℕ) → k < plan.shape.locks → e.place ≡ plan.shape.slots + k → is_outside e.before ≡ true → e.word / 2 % 8 ≢ 0 → StrongOthers (v ∷ []) k e.number) v (λ e has. absurd has);
    };
    gone = only_one (λ u. u.span ≡ 0 → u.part ≡ g.spent) v (λ dead. absurd (omega arith));
    cargo = g.starts plan.cargo (drop (plan.shape.slots + plan.shape.locks) (zeros n)) (cargo_seat v) plan.quota (omega (arith, length-drop (plan.shape.slots + plan.shape.locks) (zeros n), length-replicate {A = ℕ} n 0)) (λ k. get_or-drop (plan.shape.slots + plan.shape.locks) (zeros n) k 0 ∙ zero_in n (plan.shape.slots + plan.shape.locks + k)) (λ lock. mode_at v lock ∙ ap mode_of (off lock)) admitted refl refl;
  }
