use Rattle.std.proofs.Common.{arith, ◌≡◌, ◌<◌, ◌≤◌, ◌+◌, ◌*◌, ℕ, List, sym, refl, ap, ◌∙◌, subst, ⊎_elim, inl, inr}
use Rattle.hall.specs.Passes.{view, cargo_of}
use Rattle.map_cargo.specs.declared.size.MapCargo.{MapCargo}
use Rattle.map_cargo.specs.declared.entry.Part.{Part}
use Rattle.map_cargo.specs.History.{words_of}
use Rattle.map_cargo.specs.Rows.{home, way, row_above, used_at, key_at, IsUsed, IsFree, Closing, Passed, Kept, IsNext}
use Rattle.map_cargo.specs.StepLaws.{alike_none, alike_then}
use Rattle.map_cargo.proofs.Stores.{used_if}
use Rattle.map_cargo.proofs.Traces.{inside_none, inside_then, load_inside}
use Rattle.map_cargo.proofs.Walks.{at_row, goes_on, steps_off, kept_none, kept_more, off_gap, passed_at_end, passed_round}
use Rattle.map_cargo.proofs.cells.row_for.Goals as goal

pub loop-distance-init : goal.loop-distance-init
loop-distance-init c =
    let n : ℕ = c.cargo.result.now.rows in let same : c.cargo-2.result.now ≡ c.cargo.result.now = c.cargo-2.ensures ∙ sym c.cargo.ensures in
    let all : n ≡ (cargo_of c.args.hall.now).rows = ap (λ (z : MapCargo). z.rows) c.cargo.ensures in let inside = c.requires.closing.1.free.below in
    let low : c.args.gap < n = omega arith in
    let above : c.row_above-row.result ≡ row_above n c.args.gap = c.row_above-row.ensures.is ∙ ap (λ (z : MapCargo). row_above z.rows c.args.gap) same in record {
      pass = c.requires.pass;
      alike = alike_none _;
      inside = inside_none _ _ _;
      part = refl;
      all = all;
      below = subst (λ (z : MapCargo). c.row_above-row.result < z.rows) same c.row_above-row.ensures.low;
      some = omega arith;
      few = omega arith;
      place = ⊎_elim (λ e. inl (ap (way n c.args.gap) above ∙ e)) (λ e. inr e) (steps_off n c.args.gap low);
      kept = kept_none n _ c.args.gap low;
    }

pub returns-then-word-eq0-clause-pass : goal.returns-then-word-eq0-clause-pass
returns-then-word-eq0-clause-pass c = (c.word.ensures.pass.0, alike_then _ _ _ c.loop-distance.invariant.alike c.word.ensures.pass.1)

pub returns-then-word-eq0-clause-row : goal.returns-then-word-eq0-clause-row
returns-then-word-eq0-clause-row c =
    let i = c.loop-distance.invariant in let n : ℕ = c.cargo.result.now.rows in let w : ℕ = c.loop-distance.distance in let row : ℕ = c.loop-distance.row in let gap : ℕ = c.args.gap in
    let W : List ℕ = words_of (view c.args.pass.now).part c.args.cell in let m = c.requires.closing.0 in
    let h : Closing n W m gap = subst (λ (k : ℕ). Closing k W m gap) (sym i.all) c.requires.closing.1 in
    let at : way n gap row ≡ w = at_row n gap row w i.place (let test = c.loop-distance-test.true in omega arith) in
    let free : IsFree n W row = record { below = i.below; unmarked = sym (c.word.ensures.word ∙ ap (λ (p : Part). used_at (words_of p c.args.cell) row) i.part) ∙ c.if-word-eq0.true } in
    subst (λ (k : ℕ). Passed k W gap) i.all (passed_at_end n W m gap row w h i.kept at (off_gap n W gap row w h.free.below at i.some) free)

pub returns-then-way-clause-pass : goal.returns-then-way-clause-pass
returns-then-way-clause-pass c = (c.word-in-loop-distance.ensures.pass.0, alike_then _ _ _ (alike_then _ _ _ c.loop-distance.invariant.alike c.word.ensures.pass.1) c.word-in-loop-distance.ensures.pass.1)

pub loop-distance-preserved : goal.loop-distance-preserved
loop-distance-preserved c =
    let i = c.loop-distance.invariant in let n : ℕ = c.cargo.result.now.rows in let w : ℕ = c.loop-distance.distance in let row : ℕ = c.loop-distance.row in let gap : ℕ = c.args.gap in
    let W : List ℕ = words_of (view c.args.pass.now).part c.args.cell in let m = c.requires.closing.0 in
    let h : Closing n W m gap = subst (λ (k : ℕ). Closing k W m gap) (sym i.all) c.requires.closing.1 in
    let at : way n gap row ≡ w = at_row n gap row w i.place (let test = c.loop-distance-test.true in omega arith) in
    let one : c.word.result ≡ used_at W row = c.word.ensures.word ∙ ap (λ (p : Part). used_at (words_of p c.args.cell) row) i.part in
    let two : c.word-in-loop-distance.result ≡ key_at W row = c.word-in-loop-distance.ensures.word ∙ ap (λ (p : Part). key_at (words_of p c.args.cell) row) (c.word.ensures.part ∙ i.part) in
    let used : IsUsed n W row = used_if n W m row c.word.result h.holds i.below one c.if-word-eq0.false in
    let start : c.home-home.result ≡ home n (key_at W row) = c.home-home.ensures.is ∙ ap (λ (z : MapCargo). home z.rows c.word-in-loop-distance.result) c.cargo-in-loop-distance.ensures ∙ ap (λ (k : ℕ). home k c.word-in-loop-distance.result) (sym i.all) ∙ ap (home n) two in
    let to_gap : c.way.result ≡ way n (home n (key_at W row)) gap = c.way.ensures ∙ ap (λ (z : MapCargo). way z.rows c.home-home.result gap) c.cargo-in-loop-distance-2.ensures ∙ ap (λ (k : ℕ). way k c.home-home.result gap) (sym i.all) ∙ ap (λ (k : ℕ). way n k gap) start in
    let to_row : c.way-in-loop-distance.result ≡ way n (home n (key_at W row)) row = c.way-in-loop-distance.ensures ∙ ap (λ (z : MapCargo). way z.rows c.home-home.result row) c.cargo-in-loop-distance-3.ensures ∙ ap (λ (k : ℕ). way k c.home-home.result row) (sym i.all) ∙ ap (λ (k : ℕ). way n k row) start in
    let over : way n (home n (key_at W row)) row ≤ way n (home n (key_at W row)) gap = (let no = c.if-way.false in omega arith) in
    let above : c.row_above-row-in-loop-distance.result ≡ row_above n row = c.row_above-row-in-loop-distance.ensures.is ∙ ap (λ (z : MapCargo). row_above z.rows row) c.cargo-in-loop-distance-4.ensures ∙ ap (λ (k : ℕ). row_above k row) (sym i.all) in
    let K : MapCargo = cargo_of c.args.hall.now in let cell : ℕ = c.args.cell in let low : row < K.rows = subst (λ (k : ℕ). row < k) i.all i.below in
    let test = c.loop-distance-test.true in record {
      pass = c.word-in-loop-distance.ensures.pass.0;
      alike = alike_then _ _ _ (alike_then _ _ _ i.alike c.word.ensures.pass.1) c.word-in-loop-distance.ensures.pass.1;
      inside = inside_then K cell _ _ _ (alike_then _ _ _ i.alike c.word.ensures.pass.1) (inside_then K cell _ _ _ i.alike i.inside (load_inside K cell _ _ (3 * row + 1) _ (omega arith) c.word.ensures.step)) (load_inside K cell _ _ (3 * row + 2) _ (omega arith) c.word-in-loop-distance.ensures.step);
      part = c.word-in-loop-distance.ensures.part ∙ c.word.ensures.part ∙ i.part;
      all = i.all;
      below = subst (λ (k : ℕ). c.row_above-row-in-loop-distance.result < k) (ap (λ (z : MapCargo). z.rows) c.cargo-in-loop-distance-4.ensures ∙ sym i.all) c.row_above-row-in-loop-distance.ensures.low;
      some = omega arith;
      few = omega arith;
      place = ⊎_elim (λ e. inl (ap (way n gap) above ∙ e)) (λ e. inr e) (goes_on n gap row w h.free.below i.below at);
      kept = kept_more n W gap row w h.free.below i.below (off_gap n W gap row w h.free.below at i.some) at used over i.kept;
    }

pub returns-clause-row : goal.returns-clause-row
returns-clause-row c =
    let i = c.loop-distance.invariant in let n : ℕ = c.cargo.result.now.rows in let gap : ℕ = c.args.gap in
    let W : List ℕ = words_of (view c.args.pass.now).part c.args.cell in let m = c.requires.closing.0 in
    let h : Closing n W m gap = subst (λ (k : ℕ). Closing k W m gap) (sym i.all) c.requires.closing.1 in
    let end : c.loop-distance.distance ≡ n = (let test = c.loop-distance-test.false in let few = i.few in omega arith) in
    subst (λ (k : ℕ). Passed k W gap) i.all (passed_round n W m gap h (subst (λ (d : ℕ). Kept n W gap d) end i.kept))

pub returns-then-way-clause-row : goal.returns-then-way-clause-row
returns-then-way-clause-row c =
    let i = c.loop-distance.invariant in let n : ℕ = c.cargo.result.now.rows in let w : ℕ = c.loop-distance.distance in let row : ℕ = c.loop-distance.row in let gap : ℕ = c.args.gap in
    let W : List ℕ = words_of (view c.args.pass.now).part c.args.cell in let m = c.requires.closing.0 in
    let h : Closing n W m gap = subst (λ (k : ℕ). Closing k W m gap) (sym i.all) c.requires.closing.1 in
    let at : way n gap row ≡ w = at_row n gap row w i.place (let test = c.loop-distance-test.true in omega arith) in
    let one : c.word.result ≡ used_at W row = c.word.ensures.word ∙ ap (λ (p : Part). used_at (words_of p c.args.cell) row) i.part in
    let two : c.word-in-loop-distance.result ≡ key_at W row = c.word-in-loop-distance.ensures.word ∙ ap (λ (p : Part). key_at (words_of p c.args.cell) row) (c.word.ensures.part ∙ i.part) in
    let start : c.home-home.result ≡ home n (key_at W row) = c.home-home.ensures.is ∙ ap (λ (z : MapCargo). home z.rows c.word-in-loop-distance.result) c.cargo-in-loop-distance.ensures ∙ ap (λ (k : ℕ). home k c.word-in-loop-distance.result) (sym i.all) ∙ ap (home n) two in
    let to_gap : c.way.result ≡ way n (home n (key_at W row)) gap = c.way.ensures ∙ ap (λ (z : MapCargo). way z.rows c.home-home.result gap) c.cargo-in-loop-distance-2.ensures ∙ ap (λ (k : ℕ). way k c.home-home.result gap) (sym i.all) ∙ ap (λ (k : ℕ). way n k gap) start in
    let to_row : c.way-in-loop-distance.result ≡ way n (home n (key_at W row)) row = c.way-in-loop-distance.ensures ∙ ap (λ (z : MapCargo). way z.rows c.home-home.result row) c.cargo-in-loop-distance-3.ensures ∙ ap (λ (k : ℕ). way k c.home-home.result row) (sym i.all) ∙ ap (λ (k : ℕ). way n k row) start in
    let yes = c.if-way.true in
    subst (λ (k : ℕ). IsNext k W gap row) i.all record {
      may = record { used = used_if n W m row c.word.result h.holds i.below one c.if-word-eq0.false; on_way = omega arith };
      first = subst (λ (d : ℕ). Kept n W gap d) (sym at) i.kept;
    }

pub returns-then-word-eq0-clause-inside : goal.returns-then-word-eq0-clause-inside
returns-then-word-eq0-clause-inside c =
    let i = c.loop-distance.invariant in let K : MapCargo = cargo_of c.args.hall.now in let row : ℕ = c.loop-distance.row in let low : row < K.rows = subst (λ (k : ℕ). row < k) i.all i.below in
    inside_then K c.args.cell _ _ _ i.alike i.inside (load_inside K c.args.cell _ _ (3 * row + 1) _ (omega arith) c.word.ensures.step)

pub returns-then-way-clause-inside : goal.returns-then-way-clause-inside
returns-then-way-clause-inside c =
    let i = c.loop-distance.invariant in let K : MapCargo = cargo_of c.args.hall.now in let cell : ℕ = c.args.cell in let row : ℕ = c.loop-distance.row in let low : row < K.rows = subst (λ (k : ℕ). row < k) i.all i.below in
    inside_then K cell _ _ _ (alike_then _ _ _ i.alike c.word.ensures.pass.1) (inside_then K cell _ _ _ i.alike i.inside (load_inside K cell _ _ (3 * row + 1) _ (omega arith) c.word.ensures.step)) (load_inside K cell _ _ (3 * row + 2) _ (omega arith) c.word-in-loop-distance.ensures.step)
