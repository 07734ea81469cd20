use Rattle.std.proofs.Common.{arith, ◌≡◌, ◌<◌, ◌+◌, ◌*◌, ℕ, List, sym, ap, ◌∙◌, subst, get_or, set, ◌-◌}
use Rattle.hall.specs.Passes.{view, cargo_of}
use Rattle.query_rules.specs.Maps.{PlainMap, without}
use Rattle.map_cargo.specs.declared.size.MapCargo.{MapCargo}
use Rattle.map_cargo.specs.declared.entry.Part.{Part}
use Rattle.map_cargo.specs.History.{words_of}
use Rattle.map_cargo.specs.Rows.{value_in, key_at, Table, WithRow, Closes}
use Rattle.map_cargo.specs.StepLaws.{alike_then}
use Rattle.map_cargo.proofs.Meaning.{del_old}
use Rattle.map_cargo.proofs.Stores.{table_of}
use Rattle.map_cargo.proofs.Tables.{absent, nowhere, some_count}
use Rattle.map_cargo.proofs.Traces.{within_then, load_inside, store_inside}
use Rattle.map_cargo.proofs.cells.del.Goals as goal

pub overflow_sub-count : goal.overflow_sub-count
overflow_sub-count c =
    let n : ℕ = (cargo_of c.args.hall.now).rows in let W : List ℕ = words_of (view c.args.pass.now).part c.args.cell in let m = c.requires.whole.0 in let h = c.requires.whole.1 in
    let some : 0 < m.count = some_count n W m c.in-Here.row (table_of n W m c.find.ensures.length h).holds c.in-Here.ensures.ends.0 in
    let is : c.word-count.result ≡ m.count = c.word-count.ensures.word ∙ ap (λ (p : Part). get_or (words_of p c.args.cell) 0 0) (c.word-before.ensures.part ∙ c.find.ensures.part) ∙ h.count in omega arith

pub close_gap-requires-clause-whole : goal.close_gap-requires-clause-whole
close_gap-requires-clause-whole c =
    let n : ℕ = (cargo_of c.args.hall.now).rows in let W : List ℕ = words_of (view c.args.pass.now).part c.args.cell in let m : PlainMap = c.requires.whole.0 in
    (m, subst (λ (p : Part). Table n (words_of p c.args.cell) m) (sym (c.word-count.ensures.part ∙ c.word-before.ensures.part ∙ c.find.ensures.part)) (table_of n W m c.find.ensures.length c.requires.whole.1))

pub returns-in-Here-clause-pass : goal.returns-in-Here-clause-pass
returns-in-Here-clause-pass c = (
  c.set_word.ensures.pass.0,
  alike_then _ _ _ (alike_then _ _ _ (alike_then _ _ _ (alike_then _ _ _ c.find.ensures.pass.1 c.word-before.ensures.pass.1) c.word-count.ensures.pass.1) c.close_gap.ensures.pass.1) c.set_word.ensures.pass.1,
)

pub returns-in-Here-clause-del : goal.returns-in-Here-clause-del
returns-in-Here-clause-del c =
    let n : ℕ = (cargo_of c.args.hall.now).rows in let k : ℕ = c.args.cell in let row : ℕ = c.in-Here.row in let W : List ℕ = words_of (view c.args.pass.now).part k in let middle : List ℕ = words_of (view c.close_gap.new.pass).part k in
    let same = c.word-before.ensures.part ∙ c.find.ensures.part in
    del_old n W middle _ c.args.key row c.word-before.result c.word-count.result c.find.ensures.length c.in-Here.ensures.ends.0 c.in-Here.ensures.ends.1
    (c.word-before.ensures.word ∙ ap (λ (p : Part). value_in (words_of p k) row) c.find.ensures.part)
    (c.word-count.ensures.word ∙ ap (λ (p : Part). get_or (words_of p k) 0 0) same)
    (c.set_word.ensures.length ∙ sym c.find.ensures.length)
    (subst (λ (p : Part). (m : PlainMap) → Table n (words_of p k) m → Table n middle (without m (key_at (words_of p k) row))) (c.word-count.ensures.part ∙ same) c.close_gap.ensures.closed)
    c.set_word.ensures.words

pub returns-in-Free-clause-del : goal.returns-in-Free-clause-del
returns-in-Free-clause-del c m h =
    let n : ℕ = (cargo_of c.args.hall.now).rows in let W : List ℕ = words_of (view c.args.pass.now).part c.args.cell in
    (absent n W m c.args.key c.in-Free.field-0 (table_of n W m c.find.ensures.length h) c.in-Free.ensures.ends.1 c.in-Free.ensures.ends.0, c.find.ensures.part)

pub returns-in-Nowhere-clause-del : goal.returns-in-Nowhere-clause-del
returns-in-Nowhere-clause-del c m h =
    let n : ℕ = (cargo_of c.args.hall.now).rows in let W : List ℕ = words_of (view c.args.pass.now).part c.args.cell in
    ((nowhere n W m c.args.key (table_of n W m c.find.ensures.length h).holds c.in-Nowhere.ensures.ends).0, c.find.ensures.part)

pub returns-in-Here-clause-moves : goal.returns-in-Here-clause-moves
returns-in-Here-clause-moves c =
    let n : ℕ = (cargo_of c.args.hall.now).rows in let k : ℕ = c.args.cell in let row : ℕ = c.in-Here.row in let W : List ℕ = words_of (view c.args.pass.now).part k in let left : List ℕ = words_of (view c.close_gap.new.pass).part k in
    let same = c.word-before.ensures.part ∙ c.find.ensures.part in
    let t = subst (λ (p : Part). (clear : List ℕ) × WithRow (words_of p k) clear row 0 (key_at (words_of p k) row) (value_in (words_of p k) row) × (moves : List ℕ) × Closes n clear row moves left) (c.word-count.ensures.part ∙ same) c.close_gap.ensures.moves in record {
      row = row;
      used = c.in-Here.ensures.ends.0;
      its = c.in-Here.ensures.ends.1;
      clear = t.0;
      clears = t.1;
      moves = t.2;
      left = left;
      closes = t.3;
      counted = c.set_word.ensures.words ∙ ap (λ (x : ℕ). set left 0 (x - 1)) (c.word-count.ensures.word ∙ ap (λ (p : Part). get_or (words_of p k) 0 0) same);
    }

pub returns-in-Here-clause-inside : goal.returns-in-Here-clause-inside
returns-in-Here-clause-inside c =
    let K : MapCargo = cargo_of c.args.hall.now in let cell : ℕ = c.args.cell in let row : ℕ = c.in-Here.row in let low : row < K.rows = c.in-Here.ensures.ends.0.below in
    (within_then K cell _ _ _
    (within_then K cell _ _ _
    (within_then K cell _ _ _
    (within_then K cell _ _ _ (c.find.ensures.pass.1, c.find.ensures.inside) (c.word-before.ensures.pass.1, load_inside K cell _ _ (3 * row + 3) _ (omega arith) c.word-before.ensures.step))
    (c.word-count.ensures.pass.1, load_inside K cell _ _ 0 _ (omega arith) c.word-count.ensures.step))
    (c.close_gap.ensures.pass.1, c.close_gap.ensures.inside))
    (c.set_word.ensures.pass.1, store_inside K cell _ _ 0 _ (omega arith) c.set_word.ensures.step)).1
