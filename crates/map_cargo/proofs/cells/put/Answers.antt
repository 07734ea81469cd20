use Rattle.std.proofs.Common.{arith, ◌≡◌, ◌<◌, ◌+◌, ◌*◌, ℕ, List, ap, ◌∙◌, subst, set, get_or}
use Rattle.hall.specs.Passes.{view, cargo_of}
use Rattle.map_cargo.specs.declared.size.MapCargo.{MapCargo}
use Rattle.map_cargo.specs.declared.entry.Part.{Part}
use Rattle.map_cargo.specs.History.{words_of}
use Rattle.map_cargo.specs.Rows.{value_in, WithRow}
use Rattle.map_cargo.specs.StepLaws.{alike_then}
use Rattle.map_cargo.proofs.Meaning.{put_old, put_new}
use Rattle.map_cargo.proofs.Stores.{table_of}
use Rattle.map_cargo.proofs.Tables.{has_room, nowhere}
use Rattle.map_cargo.proofs.Traces.{within_then, load_inside, store_inside}
use Rattle.map_cargo.proofs.cells.put.Goals as goal

pub overflow_add-count : goal.overflow_add-count
overflow_add-count c =
    let n : ℕ = (cargo_of c.args.hall.now).rows in let W : List ℕ = words_of (view c.args.pass.now).part c.args.cell in let m = c.requires.whole.0 in let h = c.requires.whole.1 in
    let few : m.count < n = has_room n W m c.in-Free.row (table_of n W m c.find.ensures.length h).holds c.in-Free.ensures.ends.0 in
    let is : c.word-count.result ≡ m.count = c.word-count.ensures.word ∙ ap (λ (p : Part). get_or (words_of p c.args.cell) 0 0) c.find.ensures.part ∙ h.count in
    let small = (cargo_of c.args.hall.now).small in let less = small.1 in omega arith

pub returns-in-Here-clause-pass : goal.returns-in-Here-clause-pass
returns-in-Here-clause-pass c = (c.set_word.ensures.pass.0, alike_then _ _ _ (alike_then _ _ _ c.find.ensures.pass.1 c.word-before.ensures.pass.1) c.set_word.ensures.pass.1)

pub returns-in-Here-clause-put : goal.returns-in-Here-clause-put
returns-in-Here-clause-put c =
    let k : ℕ = c.args.cell in let row : ℕ = c.in-Here.row in let same = c.word-before.ensures.part ∙ c.find.ensures.part in
    put_old (cargo_of c.args.hall.now).rows (words_of (view c.args.pass.now).part k) _ c.args.key row c.word-before.result c.args.value c.find.ensures.length c.in-Here.ensures.ends.0 c.in-Here.ensures.ends.1
    (c.word-before.ensures.word ∙ ap (λ (p : Part). value_in (words_of p k) row) c.find.ensures.part)
    (c.set_word.ensures.words ∙ ap (λ (p : Part). set (words_of p k) (3 * row + 3) c.args.value) same)

pub returns-in-Free-clause-pass : goal.returns-in-Free-clause-pass
returns-in-Free-clause-pass c = (c.set_word-in-Free.ensures.pass.0, alike_then _ _ _ (alike_then _ _ _ (alike_then _ _ _ c.find.ensures.pass.1 c.word-count.ensures.pass.1) c.set_row.ensures.pass.1) c.set_word-in-Free.ensures.pass.1)

pub returns-in-Free-clause-put : goal.returns-in-Free-clause-put
returns-in-Free-clause-put c =
    let k : ℕ = c.args.cell in let row : ℕ = c.in-Free.row in let middle : List ℕ = words_of (view c.set_row.new.pass).part k in
    put_new (cargo_of c.args.hall.now).rows (words_of (view c.args.pass.now).part k) middle _ c.args.key row c.word-count.result c.args.value c.find.ensures.length c.in-Free.ensures.ends.0 c.in-Free.ensures.ends.1
    (c.word-count.ensures.word ∙ ap (λ (p : Part). get_or (words_of p k) 0 0) c.find.ensures.part)
    (subst (λ (p : Part). WithRow (words_of p k) middle row 1 c.args.key c.args.value) (c.word-count.ensures.part ∙ c.find.ensures.part) c.set_row.ensures.row)
    c.set_word-in-Free.ensures.words

pub returns-in-Nowhere-clause-put : goal.returns-in-Nowhere-clause-put
returns-in-Nowhere-clause-put c m h =
    let n : ℕ = (cargo_of c.args.hall.now).rows in let W : List ℕ = words_of (view c.args.pass.now).part c.args.cell in
    let t = nowhere n W m c.args.key (table_of n W m c.find.ensures.length h).holds c.in-Nowhere.ensures.ends in
    (ap (λ (z : MapCargo). z.rows) c.cargo.ensures, t.0, t.1, c.find.ensures.part)

pub returns-in-Here-clause-inside : goal.returns-in-Here-clause-inside
returns-in-Here-clause-inside c =
    let K : MapCargo = cargo_of c.args.hall.now in let cell : ℕ = c.args.cell in let row : ℕ = c.in-Here.row in let low : row < K.rows = c.in-Here.ensures.ends.0.below in
    (within_then K cell _ _ _
    (within_then K cell _ _ _ (c.find.ensures.pass.1, c.find.ensures.inside) (c.word-before.ensures.pass.1, load_inside K cell _ _ (3 * row + 3) _ (omega arith) c.word-before.ensures.step))
    (c.set_word.ensures.pass.1, store_inside K cell _ _ (3 * row + 3) _ (omega arith) c.set_word.ensures.step)).1

pub returns-in-Free-clause-inside : goal.returns-in-Free-clause-inside
returns-in-Free-clause-inside c =
    let K : MapCargo = cargo_of c.args.hall.now in let cell : ℕ = c.args.cell in
    (within_then K cell _ _ _
    (within_then K cell _ _ _
    (within_then K cell _ _ _ (c.find.ensures.pass.1, c.find.ensures.inside) (c.word-count.ensures.pass.1, load_inside K cell _ _ 0 _ (omega arith) c.word-count.ensures.step))
    (c.set_row.ensures.pass.1, c.set_row.ensures.inside))
    (c.set_word-in-Free.ensures.pass.1, store_inside K cell _ _ 0 _ (omega arith) c.set_word-in-Free.ensures.step)).1
