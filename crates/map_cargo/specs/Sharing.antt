-- What a pass knows after it took a lock as a reader, by the count or by a token in a slot, and after it left.
use Rattle.std.specs.Prelude.{◌≡◌, ℕ, List, Option, None}
use Rattle.std.proofs.Common.{refl, sym, ap, ◌∙◌}
use Rattle.lock_model.specs.declared.model.Mode.{Mode}
use Rattle.hall.specs.declared.cargo.CargoRule.{Ghosts}
use Rattle.hall.specs.declared.guards.Form.{Form}
use Rattle.hall.specs.declared.guards.Form.TheVariants as forms
use Rattle.hall.specs.declared.guards.SharedGuard.{SharedGuard}
use Rattle.hall.specs.declared.view.Shape.{Shape}
use Rattle.hall.specs.declared.view.Standing.{Standing}
use Rattle.hall.specs.declared.view.Standing.TheVariants.{Away, Owing}
use Rattle.hall.specs.declared.view.View.{View}
use Rattle.hall.specs.Cargo.{shared_mode}
use Rattle.hall.specs.Fitting.{SharedFits, stands_by}
use Rattle.hall.specs.Plays.{GivesBack, lowered_part}
use Rattle.hall.specs.Views.{mode_of, standing}
use Rattle.reader_slots.specs.declared.Withdrawn.{Withdrawn}
use Rattle.reader_slots.specs.declared.Withdrawn.TheVariants.{Cleared, GaveBack}
use Rattle.reader_slots.specs.Deferring.{LeavesAs}
use Rattle.shared_mutex.specs.Acquiring.{EntersBy, LeavesShared}
use Rattle.shared_mutex.specs.Entering.{EntersLast, enters_last}
use Rattle.map_cargo.specs.declared.entry.Part.{Part}
use Rattle.map_cargo.specs.declared.size.MapCargo.{MapCargo}
use Rattle.map_cargo.specs.Gaining.{gained_from, gained_with}
use Rattle.map_cargo.specs.History.{Learns}
use Rattle.map_cargo.specs.Steps.{Gained, Left}

-- a hold in any form is a shared one
pub shared_by : (form : Form) → mode_of (stands_by form) ≡ shared_mode
shared_by (forms.Deferred slot) = refl
shared_by (forms.Inline why) = refl
shared_by forms.Lowered = refl

pub fits_shared : {P : Type 0} (shape : Shape) (v : View P) (guard : SharedGuard) (lock : ℕ) → guard.lock ≡ lock → SharedFits shape v guard → mode_of (standing v lock) ≡ shared_mode
fits_shared shape v guard lock at fits = ap (λ (k : ℕ). mode_of (standing v k)) (sym at) ∙ ap mode_of fits.1 ∙ shared_by guard.form

-- of the maps a reader learns its cell's, in whatever form it entered, and knows them still after it left
module _ (g : Ghosts MapCargo Part) (lock : ℕ) (v w : View Part) where
  pub gained_shared : ((ws : List ℕ) (p q : Part) → g.gains lock ws p q → Learns lock p q) → standing v lock ≡ Away → (form : Form) → EntersBy g v lock form w → Gained lock v w
  gained_shared learns away form enters =
      let e : EntersLast g v lock w = enters_last g v w lock away (form, enters) in let t = e.tried in
      gained_from lock e.before v w t.part t.number t.quota t.span t.taken record { added = t.added; stand = t.steps }
      (gained_with e.kind e.won e.to e.before lock e.word w (e.words, e.part, learns e.words e.before.part e.part e.gains, e.is))

  module _ (keeps : (held : Option Mode) (p : Part) → g.lowered lock held p ≡ p) where
    same_lowered : (x : Standing) (p : Part) → lowered_part g x lock p ≡ p
    same_lowered x p = elim x as (λ z. lowered_part g z lock p ≡ p) [ Owing ↦ refl | _ ↦ keeps None p ]

    gave_back : (u : View Part) (found : ℕ) → Left v u → GivesBack g u lock found w → Left v w
    gave_back u found before b = record {
      part = ap (λ (z : View Part). z.part) b.0 ∙ same_lowered (standing u lock) u.part ∙ before.part;
      number = ap (λ (z : View Part). z.number) b.0 ∙ before.number;
      quota = ap (λ (z : View Part). z.quota) b.0 ∙ before.quota;
      span = ap (λ (z : View Part). z.span) b.0 ∙ before.span;
      taken = ap (λ (z : View Part). z.taken) b.0 ∙ before.taken;
    }

    nothing_left : Left v v
    nothing_left = record { part = refl; number = refl; quota = refl; span = refl; taken = refl }

    left_slot : (slot : ℕ) (ended : Withdrawn) → LeavesAs g v lock slot ended w → Left v w
    left_slot slot Cleared l = record {
      part = ap (λ (z : View Part). z.part) l.0 ∙ keeps None v.part;
      number = ap (λ (z : View Part). z.number) l.0;
      quota = ap (λ (z : View Part). z.quota) l.0;
      span = ap (λ (z : View Part). z.span) l.0;
      taken = ap (λ (z : View Part). z.taken) l.0;
    }
    left_slot slot GaveBack l =
        let u : View Part = l.0 in let is = l.3.0 in
        gave_back u l.4.0 record { part = ap (λ (z : View Part). z.part) is; number = ap (λ (z : View Part). z.number) is; quota = ap (λ (z : View Part). z.quota) is; span = ap (λ (z : View Part). z.span) is; taken = ap (λ (z : View Part). z.taken) is } l.4.1

    pub left_shared : (form : Form) → LeavesShared g v lock form w → Left v w
    left_shared (forms.Deferred slot) l = left_slot slot l.0 l.1
    left_shared (forms.Inline why) l = gave_back v l.0 nothing_left l.1
    left_shared forms.Lowered l = gave_back v l.0 nothing_left l.1
