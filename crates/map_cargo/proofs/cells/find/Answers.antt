use Rattle.std.proofs.Common.{arith, ◌≡◌, ◌<◌, ◌+◌, ◌-◌, ◌*◌, ℕ, List, length, sym, refl, ap, ◌∙◌, subst, ⊎_elim, inl, inr}
use Rattle.hall.specs.Passes.{view, cargo_of}
use Rattle.map_cargo.specs.declared.size.MapCargo.{MapCargo}
use Rattle.map_cargo.specs.declared.entry.Part.{Part}
use Rattle.map_cargo.specs.Cells.{width}
use Rattle.map_cargo.specs.History.{words_of}
use Rattle.map_cargo.specs.Rows.{home, way, row_above, used_at, key_at, IsUsed}
use Rattle.map_cargo.specs.StepLaws.{alike_none, alike_then}
use Rattle.map_cargo.proofs.Stores.{used_if, table_of}
use Rattle.map_cargo.proofs.Traces.{Goes, goes_first, goes_more, at_free, at_key, at_end, inside_none, inside_then, load_inside}
use Rattle.map_cargo.proofs.Walks.{at_row, begins, goes_on, looked_none, looked_more}
use Rattle.map_cargo.proofs.Ways.{home_below}
use Rattle.map_cargo.proofs.cells.find.Goals as goal

pub loop-walked-init : goal.loop-walked-init
loop-walked-init c =
    let n : ℕ = c.cargo.result.now.rows in let same : c.cargo-2.result.now ≡ c.cargo.result.now = c.cargo-2.ensures ∙ sym c.cargo.ensures in
    let low : c.home-row.result < n = subst (λ (z : MapCargo). c.home-row.result < z.rows) same c.home-row.ensures.low in record {
      pass = c.requires.pass;
      alike = alike_none _;
      inside = inside_none _ _ _;
      part = refl;
      all = ap (λ (z : MapCargo). z.rows) c.cargo.ensures;
      below = low;
      few = omega arith;
      place = inl (ap (way n (home n c.args.key)) (c.home-row.ensures.is ∙ ap (λ (z : MapCargo). home z.rows c.args.key) same) ∙ begins n c.args.key (omega arith));
      looked = looked_none n _ c.args.key;
      wide = λ bad. absurd (omega arith);
      goes = goes_first _ _ _ _ _ _ (c.home-row.ensures.is ∙ ap (λ (z : MapCargo). home z.rows c.args.key) c.cargo-2.ensures) (let e = ap (λ (z : MapCargo). z.rows) c.cargo.ensures in omega arith);
    }

pub returns-then-word-eq0-clause-loads : goal.returns-then-word-eq0-clause-loads
returns-then-word-eq0-clause-loads c =
    let n : ℕ = c.cargo.result.now.rows in let w : ℕ = c.loop-walked.walked in let test = c.loop-walked-test.true in
    at_free (cargo_of c.args.hall.now) (view c.args.pass.now) c.args.cell c.args.key c.loop-walked.row (n - w) (n - (w + 1)) (view c.loop-walked.pass) (view c.word.new.pass) c.word.result (omega arith) c.loop-walked.invariant.alike c.loop-walked.invariant.goes c.word.ensures.step c.if-word-eq0.true

pub returns-then-word-key-clause-loads : goal.returns-then-word-key-clause-loads
returns-then-word-key-clause-loads c =
    let i = c.loop-walked.invariant in let n : ℕ = c.cargo.result.now.rows in let w : ℕ = c.loop-walked.walked in let test = c.loop-walked-test.true in
    let W : List ℕ = words_of (view c.args.pass.now).part c.args.cell in let row : ℕ = c.loop-walked.row in
    let wide : length W ≡ 1 + 3 * n = ap (λ (p : Part). length (words_of p c.args.cell)) (sym i.part) ∙ c.word.ensures.length ∙ ap (λ (k : ℕ). 1 + 3 * k) (sym i.all) in
    let one : c.word.result ≡ used_at W row = c.word.ensures.word ∙ ap (λ (p : Part). used_at (words_of p c.args.cell) row) i.part in
    let used : IsUsed n W row = used_if n W c.requires.whole.0 row c.word.result (table_of n W c.requires.whole.0 wide c.requires.whole.1).holds i.below one c.if-word-eq0.false in
    at_key (cargo_of c.args.hall.now) (view c.args.pass.now) c.args.cell c.args.key row (n - w) (n - (w + 1)) (view c.loop-walked.pass) (view c.word.new.pass) (view c.word-in-loop-walked.new.pass) c.word.result c.word-in-loop-walked.result (omega arith) i.alike (alike_then _ _ _ i.alike c.word.ensures.pass.1) i.goes c.word.ensures.step (one ∙ used.marked) c.word-in-loop-walked.ensures.step c.if-word-key.true

pub returns-then-word-key-clause-ends : goal.returns-then-word-key-clause-ends
returns-then-word-key-clause-ends c =
    let i = c.loop-walked.invariant in let n : ℕ = c.cargo.result.now.rows in let W : List ℕ = words_of (view c.args.pass.now).part c.args.cell in let row : ℕ = c.loop-walked.row in
    let wide : length W ≡ 1 + 3 * n = ap (λ (p : Part). length (words_of p c.args.cell)) (sym i.part) ∙ c.word.ensures.length ∙ ap (λ (k : ℕ). 1 + 3 * k) (sym i.all) in
    let one : c.word.result ≡ used_at W row = c.word.ensures.word ∙ ap (λ (p : Part). used_at (words_of p c.args.cell) row) i.part in
    let two : c.word-in-loop-walked.result ≡ key_at W row = c.word-in-loop-walked.ensures.word ∙ ap (λ (p : Part). key_at (words_of p c.args.cell) row) (c.word.ensures.part ∙ i.part) in
    let used : IsUsed n W row = used_if n W c.requires.whole.0 row c.word.result (table_of n W c.requires.whole.0 wide c.requires.whole.1).holds i.below one c.if-word-eq0.false in
    (subst (λ (k : ℕ). IsUsed k W row) i.all used, sym two ∙ c.if-word-key.true)

pub loop-walked-preserved : goal.loop-walked-preserved
loop-walked-preserved c =
    let i = c.loop-walked.invariant in let n : ℕ = c.cargo.result.now.rows in let w : ℕ = c.loop-walked.walked in let test = c.loop-walked-test.true in
    let W : List ℕ = words_of (view c.args.pass.now).part c.args.cell in let row : ℕ = c.loop-walked.row in let key : ℕ = c.args.key in
    let long : length W ≡ width (cargo_of c.args.hall.now) = ap (λ (p : Part). length (words_of p c.args.cell)) (sym i.part) ∙ c.word.ensures.length in
    let wide : length W ≡ 1 + 3 * n = long ∙ ap (λ (k : ℕ). 1 + 3 * k) (sym i.all) in
    let one : c.word.result ≡ used_at W row = c.word.ensures.word ∙ ap (λ (p : Part). used_at (words_of p c.args.cell) row) i.part in
    let two : c.word-in-loop-walked.result ≡ key_at W row = c.word-in-loop-walked.ensures.word ∙ ap (λ (p : Part). key_at (words_of p c.args.cell) row) (c.word.ensures.part ∙ i.part) in
    let used : IsUsed n W row = used_if n W c.requires.whole.0 row c.word.result (table_of n W c.requires.whole.0 wide c.requires.whole.1).holds i.below one c.if-word-eq0.false in
    let at : way n (home n key) row ≡ w = at_row n (home n key) row w i.place (omega arith) in
    let above : c.row_above-row.result ≡ row_above (cargo_of c.args.hall.now).rows row = c.row_above-row.ensures.is ∙ ap (λ (z : MapCargo). row_above z.rows row) c.cargo-in-loop-walked.ensures in
    let above' : c.row_above-row.result ≡ row_above n row = above ∙ ap (λ (k : ℕ). row_above k row) (sym i.all) in
    let K : MapCargo = cargo_of c.args.hall.now in let cell : ℕ = c.args.cell in let low : row < K.rows = subst (λ (k : ℕ). row < k) i.all i.below in
    let like = alike_then _ _ _ i.alike c.word.ensures.pass.1 in record {
      pass = c.word-in-loop-walked.ensures.pass.0;
      alike = alike_then _ _ _ like c.word-in-loop-walked.ensures.pass.1;
      inside = inside_then K cell _ _ _ like (inside_then K cell _ _ _ i.alike i.inside (load_inside K cell _ _ (3 * row + 1) _ (omega arith) c.word.ensures.step)) (load_inside K cell _ _ (3 * row + 2) _ (omega arith) c.word-in-loop-walked.ensures.step);
      part = c.word-in-loop-walked.ensures.part ∙ c.word.ensures.part ∙ i.part;
      all = i.all;
      below = subst (λ (k : ℕ). c.row_above-row.result < k) (ap (λ (z : MapCargo). z.rows) c.cargo-in-loop-walked.ensures ∙ sym i.all) c.row_above-row.ensures.low;
      few = omega arith;
      place = ⊎_elim (λ e. inl (ap (way n (home n key)) above' ∙ e)) (λ e. inr e) (goes_on n (home n key) row w (home_below n key (omega arith)) i.below at);
      looked = looked_more n W key row w i.below at used (λ e. c.if-word-key.false (two ∙ e)) i.looked;
      wide = λ _. long;
      goes = subst (λ (r : ℕ). Goes (cargo_of c.args.hall.now) (view c.args.pass.now) c.args.cell key r (n - (w + 1)) (view c.word-in-loop-walked.new.pass)) (sym above)
          (goes_more (cargo_of c.args.hall.now) (view c.args.pass.now) c.args.cell c.args.key row (n - w) (n - (w + 1)) (view c.loop-walked.pass) (view c.word.new.pass) (view c.word-in-loop-walked.new.pass) c.word.result c.word-in-loop-walked.result (omega arith) i.alike like i.goes c.word.ensures.step (one ∙ used.marked) c.word-in-loop-walked.ensures.step c.if-word-key.false);
    }

pub returns-clause-loads : goal.returns-clause-loads
returns-clause-loads c = let test = c.loop-walked-test.false in at_end (cargo_of c.args.hall.now) (view c.args.pass.now) c.args.cell c.args.key c.loop-walked.row (c.cargo.result.now.rows - c.loop-walked.walked) (view c.loop-walked.pass) (omega arith) c.loop-walked.invariant.goes

pub returns-then-word-eq0-clause-inside : goal.returns-then-word-eq0-clause-inside
returns-then-word-eq0-clause-inside c =
    let i = c.loop-walked.invariant in let K : MapCargo = cargo_of c.args.hall.now in let row : ℕ = c.loop-walked.row in let low : row < K.rows = subst (λ (k : ℕ). row < k) i.all i.below in
    inside_then K c.args.cell _ _ _ i.alike i.inside (load_inside K c.args.cell _ _ (3 * row + 1) _ (omega arith) c.word.ensures.step)

pub returns-then-word-key-clause-inside : goal.returns-then-word-key-clause-inside
returns-then-word-key-clause-inside c =
    let i = c.loop-walked.invariant in let K : MapCargo = cargo_of c.args.hall.now in let cell : ℕ = c.args.cell in let row : ℕ = c.loop-walked.row in let low : row < K.rows = subst (λ (k : ℕ). row < k) i.all i.below in
    inside_then K cell _ _ _ (alike_then _ _ _ i.alike c.word.ensures.pass.1) (inside_then K cell _ _ _ i.alike i.inside (load_inside K cell _ _ (3 * row + 1) _ (omega arith) c.word.ensures.step)) (load_inside K cell _ _ (3 * row + 2) _ (omega arith) c.word-in-loop-walked.ensures.step)
