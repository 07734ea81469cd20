-- What the calls on a cell make of the map that its words mean.
use Rattle.std.specs.Prelude.{MatchOption}
use Rattle.std.proofs.Common.{◌≡◌, ◌<◌, ◌+◌, ◌-◌, ◌*◌, ℕ, List, [], length, set, get_or, sym, refl, ap, ◌∙◌, subst, arith, Option, Some, None}
use mathlib.Core.Logic.{dite}
use native.Mathlib.Decide.{ℕ_discrete}
use Rattle.query_rules.specs.Maps.{PlainMap, with_value, without, written}
use Rattle.map_cargo.specs.declared.entry.Entry.{Entry}
use Rattle.map_cargo.specs.declared.entry.Made.{Made}
use Rattle.map_cargo.specs.declared.entry.Part.{Part}
use Rattle.map_cargo.specs.Cells.{Means, lookup}
use Rattle.map_cargo.specs.Openings.{map_made, unmade}
use Rattle.map_cargo.specs.History.{IsSettled, words_of, plain_of}
use Rattle.map_cargo.specs.Laws.{lookup_here, lookup_else}
use Rattle.map_cargo.specs.Rows.{home, way, key_at, value_in, IsUsed, IsFree, LookedAt, Table, WithRow}
use Rattle.map_cargo.specs.Steps.{rewrote, Drew, Reworded}
use Rattle.map_cargo.proofs.Stores.{value_stored, table_of, means_of, counted}
use Rattle.map_cargo.proofs.Tables.{with_here, with_else, with_old, with_new, without_here, without_else, without_one, found, absent, has_room, rewritten, filled}

-- a key that was put in and taken out again leaves the map as it was
pub restored : (m : PlainMap) (key value : ℕ) → m.value_at key ≡ None → without (with_value m key value) key ≡ m
restored m key value none =
    let at : (k : ℕ) → (without (with_value m key value) key).value_at k ≡ m.value_at k = λ k. dite (ℕ_discrete k key)
    (λ same. subst (λ (z : ℕ). (without (with_value m key value) key).value_at z ≡ m.value_at z) (sym same) (without_here (with_value m key value) key ∙ sym none))
    (λ ne. without_else (with_value m key value) key k ne ∙ with_else m key value k ne) in
    let size : (without (with_value m key value) key).count ≡ m.count = without_one (with_value m key value) key value (with_here m key value) ∙ (let more = with_new m key value none in omega arith) in
    λ i. record { value_at = λ k. at k i; count = size i }

module _ (p : Part) (cell : ℕ) where
  pub words_here : (i v : ℕ) → words_of (rewrote p cell i v) cell ≡ set (words_of p cell) i v
  words_here i v = lookup_here [] p.words cell (set (words_of p cell) i v)

  pub reworded : (i v : ℕ) → Reworded cell p (rewrote p cell i v)
  reworded i v = record { others = λ k ne. lookup_else [] p.words cell k (set (words_of p cell) i v) ne; made = refl; seen = refl; told = refl; row = refl; stored = refl }

pub then' : (cell : ℕ) (p q r : Part) → Reworded cell p q → Reworded cell q r → Reworded cell p r
then' cell p q r h k = record { others = λ i ne. k.others i ne ∙ h.others i ne; made = k.made ∙ h.made; seen = k.seen ∙ h.seen; told = k.told ∙ h.told; row = k.row ∙ h.row; stored = k.stored ∙ h.stored }

pub at_none : (X : Type 0) (Y : ℕ → Type 0) (o : Option ℕ) → o ≡ None → MatchOption o X Y → X
at_none X Y o is h = subst (λ z. MatchOption z X Y) is h

-- what `put` leaves where the key has a row
pub put_old : (rows : ℕ) (words words' : List ℕ) (key row before value : ℕ) → length words ≡ 1 + 3 * rows → IsUsed rows words row → key_at words row ≡ key → before ≡ value_in words row → words' ≡ set words (3 * row + 3) value
    → (m : PlainMap) → Means words m → (Some before ≡ m.value_at key) × (Some before ≡ None → m.count < rows) × Means words' (with_value m key value)
put_old rows words words' key row before value wide used is old made m h =
    let t : Table rows words m = table_of rows words m wide h in let low = used.below in
    let w : WithRow words (set words (3 * row + 3) value) row 1 key value = value_stored words row rows key value (omega arith) used is in
    let size : (with_value m key value).count ≡ m.count = with_old m key value (value_in words row) (found rows words m key row t.holds used is) in (
      ap Some old ∙ sym (found rows words m key row t.holds used is),
      (λ bad. absurd (cc)),
      subst (λ (l : List ℕ). Means l (with_value m key value)) (sym made)
          (means_of rows (set words (3 * row + 3) value) (with_value m key value) (w.wide ∙ wide) (w.first ∙ h.count ∙ sym size) (rewritten rows words (set words (3 * row + 3) value) m row key value t used is w)),
    )

-- what it leaves where the key has none
pub put_new : (rows : ℕ) (words middle words' : List ℕ) (key row count value : ℕ) → length words ≡ 1 + 3 * rows → IsFree rows words row → LookedAt rows words key (way rows (home rows key) row) → count ≡ get_or words 0 0
    → WithRow words middle row 1 key value → words' ≡ set middle 0 (count + 1)
    → (m : PlainMap) → Means words m → (None ≡ m.value_at key) × ((◌≡◌ {A = Option ℕ} None None) → m.count < rows) × Means words' (with_value m key value)
put_new rows words middle words' key row count value wide free looked counts w made m h =
    let t : Table rows words m = table_of rows words m wide h in let none = absent rows words m key row t looked free in (
      sym none,
      (λ _. has_room rows words m row t.holds free),
      subst (λ (l : List ℕ). Means l (with_value m key value)) (sym made)
          (counted rows middle (with_value m key value) (count + 1) (w.wide ∙ wide) (let x = h.count in let y = with_new m key value none in omega arith) (filled rows words middle m row key value t free looked w)),
    )

-- what `del` leaves where the key has a row
pub del_old : (rows : ℕ) (words middle words' : List ℕ) (key row before count : ℕ) → length words ≡ 1 + 3 * rows → IsUsed rows words row → key_at words row ≡ key → before ≡ value_in words row → count ≡ get_or words 0 0
    → length middle ≡ length words → ((m : PlainMap) → Table rows words m → Table rows middle (without m (key_at words row))) → words' ≡ set middle 0 (count - 1)
    → (m : PlainMap) → Means words m → (m.value_at key ≡ Some before) × Means words' (without m key)
del_old rows words middle words' key row before count wide used is old counts long closes made m h =
    let t : Table rows words m = table_of rows words m wide h in let there = found rows words m key row t.holds used is in (
      there ∙ ap Some (sym old),
      subst (λ (l : List ℕ). Means l (without m key)) (sym made)
          (counted rows middle (without m key) (count - 1) (long ∙ wide) (let x = h.count in let y = without_one m key (value_in words row) there in omega arith) (subst (λ (k : ℕ). Table rows middle (without m k)) is (closes m t))),
    )

-- a key that was put in without a draw and taken out again leaves its cell settled
pub taken_back : (lock cell key value : ℕ) (p q q' r : Part) → lock ≡ cell → Reworded cell p q → None ≡ (plain_of p cell).value_at key → q' ≡ q → Reworded cell q' r
    → Means (words_of r cell) (without (with_value (plain_of p cell) key value) key) → IsSettled lock r
taken_back lock cell key value p q q' r at first none same second h =
    let made : r.made ≡ p.made = second.made ∙ ap (λ (z : Part). z.made) same ∙ first.made in
    let maps : without (with_value (plain_of p cell) key value) key ≡ plain_of r cell = restored (plain_of p cell) key value (sym none) ∙ ap (λ (l : List (ℕ × Made)). map_made (lookup unmade l cell) cell) (sym made) in
    subst (λ (k : ℕ). IsSettled k r) (sym at) (subst (Means (words_of r cell)) maps h)

-- a cell is settled behind a draw, where its words mean the map that the drawn write leaves
pub settled_by_draw : (lock cell n : ℕ) (q r : Part) (e : Entry) (m : PlainMap) → lock ≡ cell → Drew 8 q r n e → Means (words_of q cell) m → written (plain_of q) e.query cell ≡ m → IsSettled lock r
settled_by_draw lock cell n q r e m at drew means leaves =
    subst (λ (k : ℕ). IsSettled k r) (sym at)
    (subst (λ (l : List ℕ). Means l (plain_of r cell)) (sym (ap (λ (w : List (ℕ × List ℕ)). lookup [] w cell) drew.words)) (subst (Means (words_of q cell)) (sym (drew.plain cell ∙ leaves)) means))
