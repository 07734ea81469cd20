-- What a pass knows of the maps after it took a cell.
use Rattle.std.specs.Prelude.{◌≡◌, ℕ, false, true, List}
use Rattle.std.proofs.Common.{ap, refl, ◌∙◌}
use Rattle.hall.specs.declared.guards.Form.{Form}
use Rattle.hall.specs.declared.guards.TryFault.{TryFault}
use Rattle.hall.specs.declared.view.View.{View}
use Rattle.hall.specs.declared.view.StepKind.TheVariants as kinds
use Rattle.hall.specs.declared.view.Standing.TheVariants.{Away, Upgrade, Exclusive}
use Rattle.hall.specs.Views.{after_look, entry_of, standing}
use Rattle.map_cargo.specs.declared.entry.Part.{Part}
use Rattle.map_cargo.specs.Gaining.{gained_by, gained_from}
use Rattle.map_cargo.specs.Sharing.{gained_shared}
use Rattle.map_cargo.specs.StepLaws.{more_one, more_then}
use Rattle.map_cargo.specs.Steps.{Gained, MoreSteps}
use Rattle.apply_deferred.specs.SweepLaws.{sweep_goes}
use Rattle.sync_cell.specs.Attempts.{ReadsAtLast}
use Rattle.sync_cell.specs.Cells.{maps}
use Rattle.shared_mutex.specs.Tries.{AnnouncesAtLast, StaysAsItWas, WritesAtLast}
use Rattle.shared_mutex.specs.TryLaws.{stands_still}
use Rattle.upgrade_mode.specs.Tries.{EntersUpgradeAtLast}

-- looks only add steps
looked_more : (v w : View Part) (lock : ℕ) → StaysAsItWas v lock w → MoreSteps v w
looked_more v w lock looked = record { added = looked.steps.0; stand = looked.steps.1 }

load_more : (v : View Part) (lock word : ℕ) → MoreSteps v (after_look v kinds.Load lock word)
load_more v lock word = more_one v (after_look v kinds.Load lock word) (entry_of v kinds.Load lock word false) refl

-- and so does a writer that is announced at last
announced_more : (v : View Part) (cell : ℕ) (faults : List TryFault) (a : View Part) → AnnouncesAtLast maps v cell faults a → MoreSteps v a
announced_more v cell faults a s =
    let u : View Part = s.0 in let won = s.3 in let b : View Part = won.0 in let seen : ℕ = won.1.0 in let look : View Part = after_look u kinds.Load cell seen in let swept = sweep_goes maps cell v.shape.slots won.2.0 b a won.2.1 in
    more_then v b a
    (more_then v u b (looked_more v u cell s.2)
    (more_then u look b (load_more u cell seen) (more_one look b (entry_of look kinds.Announce cell seen true) (ap (λ (z : View Part). z.steps) won.1.2.0))))
    record { added = swept.added; stand = swept.steps }

-- its words mean its map, and all else that the pass knew stays
pub gained_to_read : (v : View Part) (cell : ℕ) (form : Form) (faults : List TryFault) (w : View Part) → standing v cell ≡ Away → ReadsAtLast maps v cell form faults w → Gained cell v w
gained_to_read v cell form faults w away s =
    let u : View Part = s.0 in let looked = s.2 in
    gained_from cell u v w looked.part looked.number looked.quota looked.span looked.taken (looked_more v u cell looked) (gained_shared maps cell u w (λ ws p q learns. learns) (stands_still v u cell looked ∙ away) form s.3)

pub gained_to_upgrade : (v : View Part) (cell : ℕ) (faults : List TryFault) (w : View Part) → EntersUpgradeAtLast maps v cell faults w → Gained cell v w
gained_to_upgrade v cell faults w s =
    let u : View Part = s.0 in let looked = s.2 in let look : View Part = after_look u kinds.Load cell s.3.0 in
    gained_from cell look v w looked.part looked.number looked.quota looked.span looked.taken (more_then v u look (looked_more v u cell looked) (load_more u cell s.3.0)) (gained_by kinds.UpgradeIn Upgrade _ cell s.3.0 w s.3.2.0)

pub gained_to_write : (v : View Part) (cell : ℕ) (faults misses : List TryFault) (w : View Part) → WritesAtLast maps v cell faults misses w → Gained cell v w
gained_to_write v cell faults misses w s =
    let first = s.1 in let won = first.3 in let is = won.1.2.0 in let last = s.2 in let swept = sweep_goes maps cell v.shape.slots won.2.0 won.0 s.0 won.2.1 in
    gained_from cell last.0 v w
    (last.2.part ∙ swept.part ∙ ap (λ (z : View Part). z.part) is ∙ first.2.part)
    (last.2.number ∙ swept.number ∙ ap (λ (z : View Part). z.number) is ∙ first.2.number)
    (last.2.quota ∙ swept.quota ∙ ap (λ (z : View Part). z.quota) is ∙ first.2.quota)
    (last.2.span ∙ swept.span ∙ ap (λ (z : View Part). z.span) is ∙ first.2.span)
    (last.2.taken ∙ swept.taken ∙ ap (λ (z : View Part). z.taken) is ∙ first.2.taken)
    (more_then v s.0 last.0 (announced_more v cell faults s.0 first) (looked_more s.0 last.0 cell last.2))
    (gained_by kinds.Hold Exclusive last.0 cell 4 w last.3.0)
