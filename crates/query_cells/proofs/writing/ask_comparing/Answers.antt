use Rattle.std.proofs.Common.{◌≡◌, ◌∙◌, ◌≤◌, ℕ, ap, subst, sym}
use Rattle.hall.specs.Passes.{view, cargo_of}
use Rattle.hall.specs.Treading.{IsAt, treads_then}
use Rattle.hall.specs.Views.{standing, mode_of}
use Rattle.map_cargo.specs.declared.entry.Part.{Part}
use Rattle.map_cargo.specs.History.{IsSettled, plain_of}
use Rattle.query_cells.specs.Answers.{HasExpected, cell_of}
use Rattle.query_cells.proofs.Cells.{nothing_read, settled_here, still_stands}
use Rattle.query_cells.proofs.Replies.{nothing_gained, nothing_then, tells_after}
use Rattle.query_cells.proofs.Single.{change_of_one, changes_compared, changes_strongly, compared_mode, is_upgrade, may_read}
use Rattle.query_cells.proofs.Trails.{alike_treads, at_here, writes_tread}
use Rattle.query_cells.proofs.Tries.{one_in_order}
use Rattle.query_cells.proofs.writing.ask_comparing.Goals as goal

pub returns-in-Ok-clause-tells : goal.returns-in-Ok-clause-tells
returns-in-Ok-clause-tells g c =
    let v = view c.args.pass.now in let a = view c.hold_for_upgrade-ptr.new.pass in let b = view c.compare.new.pass in let d = view c.go_on_to_write-ptr.new.pass in
    tells_after (cargo_of c.args.hall.now) v d (view c.answer_write.new.pass) c.args.index c.args.query.now c.answer_write.result
    (nothing_then v a d (nothing_gained c.in-Cas.cell v a c.hold_for_upgrade-ptr.ensures.gained)
    (nothing_then a b d (nothing_read a b c.compare.ensures.pass.1 c.compare.ensures.part) c.go_on_to_write-ptr.ensures.nothing)) c.answer_write.ensures.tells

pub returns-in-Ok-clause-trail : goal.returns-in-Ok-clause-trail
returns-in-Ok-clause-trail g c =
    let v = view c.args.pass.now in let a = view c.hold_for_upgrade-ptr.new.pass in let b = view c.compare.new.pass in let d = view c.go_on_to_write-ptr.new.pass in let w = view c.answer_write.new.pass in
    let q = c.args.query.now in let held = c.hold_for_upgrade-ptr.ensures in let here : c.in-Cas.cell ≡ cell_of q = sym (ap cell_of c.in-Cas.is) in let may = IsAt (cell_of q) in let changes = changes_compared q c.requires.asks in
    writes_tread q (cell_of q) v w (change_of_one q changes).takes (changes_strongly q changes)
    (treads_then may v a w (at_here v a c.in-Cas.cell (cell_of q) here held.trail)
    (treads_then may a b w (alike_treads may a b c.compare.ensures.pass.1)
    (treads_then may b d w (at_here b d c.hold_for_upgrade-ptr.result.guard.lock (cell_of q) (held.held.0 ∙ here) c.go_on_to_write-ptr.ensures.trail) c.answer_write.ensures.trail)))

pub returns-in-Ok-clause-order : goal.returns-in-Ok-clause-order
returns-in-Ok-clause-order g c = let q = c.args.query.now in one_in_order q (cell_of q) (view c.args.pass.now) (view c.answer_write.new.pass) (change_of_one q (changes_compared q c.requires.asks)).takes

pub returns-in-Err-clause-tells : goal.returns-in-Err-clause-tells
returns-in-Err-clause-tells g c =
    let v = view c.args.pass.now in let a = view c.hold_for_upgrade-ptr.new.pass in let b = view c.compare.new.pass in
    tells_after (cargo_of c.args.hall.now) v b (view c.answer_upgraded.new.pass) c.args.index c.args.query.now c.answer_upgraded.result
    (nothing_then v a b (nothing_gained c.in-Cas.cell v a c.hold_for_upgrade-ptr.ensures.gained) (nothing_read a b c.compare.ensures.pass.1 c.compare.ensures.part)) c.answer_upgraded.ensures.tells

pub returns-in-Err-clause-trail : goal.returns-in-Err-clause-trail
returns-in-Err-clause-trail g c =
    let v = view c.args.pass.now in let a = view c.hold_for_upgrade-ptr.new.pass in let b = view c.compare.new.pass in let w = view c.answer_upgraded.new.pass in
    let q = c.args.query.now in let held = c.hold_for_upgrade-ptr.ensures in let here : c.in-Cas.cell ≡ cell_of q = sym (ap cell_of c.in-Cas.is) in let may = IsAt (cell_of q) in let changes = changes_compared q c.requires.asks in
    writes_tread q (cell_of q) v w (change_of_one q changes).takes (changes_strongly q changes)
    (treads_then may v a w (at_here v a c.in-Cas.cell (cell_of q) here held.trail)
    (treads_then may a b w (alike_treads may a b c.compare.ensures.pass.1) (at_here b w c.hold_for_upgrade-ptr.result.guard.lock (cell_of q) (held.held.0 ∙ here) c.answer_upgraded.ensures.trail)))

pub returns-in-Err-clause-order : goal.returns-in-Err-clause-order
returns-in-Err-clause-order g c = let q = c.args.query.now in one_in_order q (cell_of q) (view c.args.pass.now) (view c.answer_upgraded.new.pass) (change_of_one q (changes_compared q c.requires.asks)).takes

pub compare-requires-clause-held : goal.compare-requires-clause-held
compare-requires-clause-held g c =
    let a = view c.hold_for_upgrade-ptr.new.pass in
    is_upgrade (mode_of (standing a (cell_of c.args.query.now))) (ap (λ (i : ℕ). mode_of (standing a i)) (ap cell_of c.in-Cas.is) ∙ ap mode_of c.hold_for_upgrade-ptr.ensures.held.1)

pub compare-requires-clause-settled : goal.compare-requires-clause-settled
compare-requires-clause-settled g c =
    settled_here (view c.hold_for_upgrade-ptr.new.pass).part (cell_of c.args.query.now) c.in-Cas.cell (ap cell_of c.in-Cas.is) c.hold_for_upgrade-ptr.ensures.gained.settled

pub answer_write-requires-clause-at : goal.answer_write-requires-clause-at
answer_write-requires-clause-at g c = c.go_on_to_write-ptr.ensures.held.0 ∙ c.hold_for_upgrade-ptr.ensures.held.0 ∙ sym (ap cell_of c.in-Cas.is)

pub answer_write-requires-clause-only : goal.answer_write-requires-clause-only
answer_write-requires-clause-only g c =
    let a = view c.hold_for_upgrade-ptr.new.pass in let b = view c.compare.new.pass in let held = c.hold_for_upgrade-ptr.ensures in
    λ k ne. c.go_on_to_write-ptr.ensures.elsewhere k (λ e. ne (e ∙ held.held.0 ∙ sym (ap cell_of c.in-Cas.is))) ∙ still_stands a b k c.compare.ensures.pass.1 ∙ held.elsewhere k (λ e. ne (e ∙ sym (ap cell_of c.in-Cas.is))) ∙ c.requires.idle.0 k

pub answer_write-requires-clause-settled : goal.answer_write-requires-clause-settled
answer_write-requires-clause-settled g c =
    let cell = cell_of c.args.query.now in
    subst (λ (p : Part). IsSettled cell p) (sym (c.go_on_to_write-ptr.ensures.part ∙ c.compare.ensures.part))
    (settled_here (view c.hold_for_upgrade-ptr.new.pass).part cell c.in-Cas.cell (ap cell_of c.in-Cas.is) c.hold_for_upgrade-ptr.ensures.gained.settled)

pub answer_write-requires-clause-rested : goal.answer_write-requires-clause-rested
answer_write-requires-clause-rested g c =
    ap (λ (p : Part). p.stored) (c.go_on_to_write-ptr.ensures.part ∙ c.compare.ensures.part) ∙ c.hold_for_upgrade-ptr.ensures.gained.stored ∙ c.requires.idle.1

pub answer_write-requires-clause-quota : goal.answer_write-requires-clause-quota
answer_write-requires-clause-quota g c =
    subst (λ (n : ℕ). 1 ≤ n) (sym (c.go_on_to_write-ptr.ensures.nothing.quota ∙ c.compare.ensures.pass.1.quota ∙ c.hold_for_upgrade-ptr.ensures.gained.quota)) c.requires.quota

pub answer_write-requires-clause-expected : goal.answer_write-requires-clause-expected
answer_write-requires-clause-expected g c =
    subst (λ (p : Part). HasExpected c.args.query.now (plain_of p)) (sym (c.go_on_to_write-ptr.ensures.part ∙ c.compare.ensures.part)) c.in-Ok.ensures.says

pub answer_upgraded-requires-clause-may : goal.answer_upgraded-requires-clause-may
answer_upgraded-requires-clause-may g c =
    let a = view c.hold_for_upgrade-ptr.new.pass in let b = view c.compare.new.pass in let q = c.args.query.now in let e = c.in-Err.ensures in
    may_read (cargo_of c.args.hall.now) a b c.args.index q c.in-Err.said (change_of_one q (changes_compared q c.requires.asks)) c.requires.cell.0 e.pass.1 e.part
    (is_upgrade (mode_of (standing a (cell_of q))) (ap (λ (i : ℕ). mode_of (standing a i)) (ap cell_of c.in-Cas.is) ∙ ap mode_of c.hold_for_upgrade-ptr.ensures.held.1)) e.says.0 e.says.1

pub answer_upgraded-requires-clause-mode : goal.answer_upgraded-requires-clause-mode
answer_upgraded-requires-clause-mode g c = compared_mode c.args.query.now c.in-Err.said c.requires.asks c.in-Err.ensures.says.1
