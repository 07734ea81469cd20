-- What a pass knows after it took a lock.
use Rattle.std.specs.Prelude.{◌≡◌, ◌≢◌, ℕ, Bool, true, List, [], ◌∷◌}
use Rattle.std.proofs.Common.{refl, sym, ap, subst, ◌∙◌}
use mathlib.Core.Logic.{dite}
use native.Mathlib.Decide.{ℕ_discrete}
use Rattle.hall.specs.declared.view.View.{View}
use Rattle.hall.specs.declared.view.StepKind.{StepKind}
use Rattle.hall.specs.declared.view.Standing.{Standing}
use Rattle.hall.specs.declared.view.Standing.TheVariants.{Away}
use Rattle.hall.specs.Slotting.{HasNonePending}
use Rattle.hall.specs.Views.{after_step, entry_of, pending, standing}
use Rattle.map_cargo.specs.declared.entry.Entry.{Entry}
use Rattle.map_cargo.specs.declared.entry.Part.{Part}
use Rattle.map_cargo.specs.Cells.{Means}
use Rattle.map_cargo.specs.History.{Learns, IsSettled, words_of, plain_of}
use Rattle.map_cargo.specs.Laws.{after_gain}
use Rattle.map_cargo.specs.StepLaws.{more_then}
use Rattle.map_cargo.specs.Steps.{Gained, MoreSteps, placed}

-- by one step for the lock, whatever its kind, and whether it won an exchange or only looked
pub gained_with : (kind : StepKind) (won : Bool) (y : Standing) (v : View Part) (lock found : ℕ) (w : View Part) → (ws : List ℕ) × (part : Part) × Learns lock v.part part × (w ≡ after_step v kind lock found won y part) → Gained lock v w
gained_with kind won y v lock found w t =
    let a = after_gain lock v.part t.1 t.2 in subst (λ (z : View Part). Gained lock v z) (sym t.3) record {
      settled = a.0;
      words = λ k ne. (a.5 k ne).0;
      plain = λ k ne. (a.5 k ne).1;
      seen = a.2;
      told = a.1;
      row = a.3;
      stored = a.4;
      number = refl;
      quota = refl;
      span = refl;
      taken = refl;
      steps = record { added = entry_of v kind lock found won ∷ []; stand = refl };
    }

pub gained_by : (kind : StepKind) (y : Standing) (v : View Part) (lock found : ℕ) (w : View Part) → (ws : List ℕ) × (part : Part) × Learns lock v.part part × (w ≡ after_step v kind lock found true y part) → Gained lock v w
gained_by kind y = gained_with kind true y

-- a pass that is away from one lock and from each other is away from all
pub everywhere : (v : View Part) (cell : ℕ) → standing v cell ≡ Away → ((k : ℕ) → k ≢ cell → standing v k ≡ Away) → (k : ℕ) → standing v k ≡ Away
everywhere v cell here others k = dite (ℕ_discrete k cell) (λ same. subst (λ (i : ℕ). standing v i ≡ Away) (sym same) here) (others k)

-- and has nothing pending
pub away_clear : {P : Type 0} (v : View P) → ((k : ℕ) → standing v k ≡ Away) → HasNonePending v
away_clear v away k = ap pending (away k)

-- steps before a gain that left the part as it was don't matter
pub gained_from : (lock : ℕ) (u v w : View Part) → u.part ≡ v.part → u.number ≡ v.number → u.quota ≡ v.quota → u.span ≡ v.span → u.taken ≡ v.taken → MoreSteps v u → Gained lock u w → Gained lock v w
gained_from lock u v w part number quota span taken steps h = record {
  settled = h.settled;
  words = λ k ne. h.words k ne ∙ ap (λ (p : Part). words_of p k) part;
  plain = λ k ne. h.plain k ne ∙ ap (λ (p : Part). plain_of p k) part;
  seen = h.seen ∙ ap (λ (p : Part). p.seen) part;
  told = h.told ∙ ap (λ (p : Part). p.told) part;
  row = h.row ∙ ap (λ (p : Part). p.row) part;
  stored = h.stored ∙ ap (λ (p : Part). p.stored) part;
  number = h.number ∙ number;
  quota = h.quota ∙ quota;
  span = h.span ∙ span;
  taken = h.taken ∙ taken;
  steps = more_then v u w steps h.steps;
}

-- a settled cell stays settled where the pass only places a read
pub still_settled : (lock cell : ℕ) (p q r : Part) (n : ℕ) (e : Entry) → lock ≡ cell → q ≡ p → r ≡ placed q n e → IsSettled cell p → IsSettled lock r
still_settled lock cell p q r n e at same is h =
    subst (IsSettled lock) (sym (is ∙ ap (λ (z : Part). placed z n e) same)) (subst (λ (k : ℕ). Means (words_of p k) (plain_of p k)) (sym at) h)
