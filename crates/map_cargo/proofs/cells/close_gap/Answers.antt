use Rattle.std.proofs.Common.{arith, ◌+◌, ◌*◌, ℕ, List, sym, refl, subst}
use Rattle.hall.specs.Passes.{view, cargo_of}
use Rattle.query_rules.specs.Maps.{without}
use Rattle.map_cargo.specs.declared.entry.Part.{Part}
use Rattle.map_cargo.specs.History.{words_of}
use Rattle.map_cargo.specs.Rows.{key_at, value_in, WithRow, Moved, Passed, IsNext, Closes}
use Rattle.map_cargo.specs.StepLaws.{alike_then}
use Rattle.map_cargo.proofs.Meaning.{at_none, then'}
use Rattle.map_cargo.proofs.Stores.{cleared_row}
use Rattle.map_cargo.proofs.Tables.{cleared, moved, spread_falls}
use Rattle.map_cargo.proofs.Traces.{inside_then, store_inside}
use Rattle.map_cargo.proofs.Walks.{moves_none, moves_more, moves_end}
use Rattle.map_cargo.proofs.cells.close_gap.Goals as goal

pub loop-from-init : goal.loop-from-init
loop-from-init c =
    let n : ℕ = (cargo_of c.args.hall.now).rows in let k : ℕ = c.args.cell in let row : ℕ = c.args.row in
    let W : List ℕ = words_of (view c.args.pass.now).part k in let W' : List ℕ = words_of (view c.set_word.new.pass).part k in
    let long = c.set_word.ensures.length in let low = c.requires.used.below in
    let w : WithRow W W' row 0 (key_at W row) (value_in W row) = subst (λ (l : List ℕ). WithRow W l row 0 (key_at W row) (value_in W row)) (sym c.set_word.ensures.words) (cleared_row W row (omega arith)) in record {
      pass = c.set_word.ensures.pass.0;
      alike = c.set_word.ensures.pass.1;
      inside = store_inside (cargo_of c.args.hall.now) k _ _ (3 * row + 1) 0 (omega arith) c.set_word.ensures.step;
      part = c.set_word.ensures.part;
      closing = λ m h. cleared n W W' m row (key_at W row) (key_at W row) (value_in W row) h c.requires.used refl w;
      moves = moves_none n W' row;
    }

pub loop-from-smaller : goal.loop-from-smaller
loop-from-smaller c =
    let n : ℕ = (cargo_of c.args.hall.now).rows in let k : ℕ = c.args.cell in let from : ℕ = c.in-Some.from in let gap : ℕ = c.loop-from.gap in
    let W0 : List ℕ = words_of (view c.args.pass.now).part k in let W : List ℕ = words_of (view c.loop-from.pass).part k in let W' : List ℕ = words_of (view c.move_row.new.pass).part k in
    let moves : Moved W W' from gap = subst (λ (p : Part). Moved (words_of p k) W' from gap) c.row_for.ensures.part c.move_row.ensures.moved in
    spread_falls n W W' gap from (without c.requires.whole.0 (key_at W0 c.args.row)) (c.loop-from.invariant.closing c.requires.whole.0 c.requires.whole.1) c.in-Some.ensures.row.may moves

pub loop-from-preserved : goal.loop-from-preserved
loop-from-preserved c =
    let n : ℕ = (cargo_of c.args.hall.now).rows in let k : ℕ = c.args.cell in let from : ℕ = c.in-Some.from in let gap : ℕ = c.loop-from.gap in
    let W0 : List ℕ = words_of (view c.args.pass.now).part k in let W : List ℕ = words_of (view c.loop-from.pass).part k in let W' : List ℕ = words_of (view c.move_row.new.pass).part k in
    let moves : Moved W W' from gap = subst (λ (p : Part). Moved (words_of p k) W' from gap) c.row_for.ensures.part c.move_row.ensures.moved in
    let i = c.loop-from.invariant in record {
      pass = c.move_row.ensures.pass.0;
      alike = alike_then _ _ _ (alike_then _ _ _ i.alike c.row_for.ensures.pass.1) c.move_row.ensures.pass.1;
      inside = inside_then _ k _ _ _ (alike_then _ _ _ i.alike c.row_for.ensures.pass.1) (inside_then _ k _ _ _ i.alike i.inside c.row_for.ensures.inside) c.move_row.ensures.inside;
      part = then' k _ _ _ i.part (subst (λ (p : Part). Rattle.map_cargo.specs.Steps.Reworded k p (view c.move_row.new.pass).part) c.row_for.ensures.part c.move_row.ensures.part);
      closing = λ m h. moved n W W' gap from (without m (key_at W0 c.args.row)) (i.closing m h) c.in-Some.ensures.row.may moves;
      moves = moves_more n (words_of (view c.set_word.new.pass).part k) c.args.row W gap from W' i.moves c.in-Some.ensures.row moves;
    }

pub returns-clause-pass : goal.returns-clause-pass
returns-clause-pass c = (c.row_for.ensures.pass.0, alike_then _ _ _ c.loop-from.invariant.alike c.row_for.ensures.pass.1)

pub returns-clause-moves : goal.returns-clause-moves
returns-clause-moves c =
    let n : ℕ = (cargo_of c.args.hall.now).rows in let k : ℕ = c.args.cell in let row : ℕ = c.args.row in let gap : ℕ = c.loop-from.gap in
    let W : List ℕ = words_of (view c.args.pass.now).part k in let clear : List ℕ = words_of (view c.set_word.new.pass).part k in let left : List ℕ = words_of (view c.loop-from.pass).part k in
    let long = c.set_word.ensures.length in let low = c.requires.used.below in
    let w : WithRow W clear row 0 (key_at W row) (value_in W row) = subst (λ (l : List ℕ). WithRow W l row 0 (key_at W row) (value_in W row)) (sym c.set_word.ensures.words) (cleared_row W row (omega arith)) in
    let passed : Passed n left gap = at_none (Passed n left gap) (λ from. IsNext n left gap from) c.row_for.result c.in_default.is c.row_for.ensures.row in
    let t = moves_end n clear row left gap c.loop-from.invariant.moves passed in
    (clear, w, t.0, subst (λ (p : Part). Closes n clear row t.0 (words_of p k)) (sym c.row_for.ensures.part) t.1)

pub returns-clause-inside : goal.returns-clause-inside
returns-clause-inside c = inside_then _ _ _ _ _ c.loop-from.invariant.alike c.loop-from.invariant.inside c.row_for.ensures.inside
