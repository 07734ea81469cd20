-- A move from one cell to another.
use Rattle.std.specs.Prelude.{◌≡◌, ◌≢◌, ℕ, ◌+◌, ◌<◌, ◌≤◌, ◌^◌, ◌&&◌, Bool, true, false, cond, List, Some, None, Option, is_none, nat_le, nat_lt}
use Rattle.std.proofs.Common.{refl, sym, ap, ◌∙◌, subst, arith, ne_eqb, eq-eqb}
use Rattle.query_rules.specs.declared.query.Query.TheVariants as query
use Rattle.query_rules.specs.declared.query.Said.{Said}
use Rattle.query_rules.specs.declared.query.Said.TheVariants.{Same, Short, Over, Full, Moved}
use Rattle.query_rules.specs.Maps.{Maps, PlainMap, reply_of, after, with_map, with_value, less, amount_at, exceeds_u64, is_full, move_says}
use Rattle.map_cargo.specs.Cells.{Means}

-- two cells that differ
pub says_move : (rows : ℕ) (maps : Maps) (from to key n : ℕ) (said : Said) → from ≢ to → move_says rows (maps from) (maps to) key n ≡ said → reply_of rows maps (query.Move from to key n) ≡ Some said
says_move rows maps from to key n said ne is = ap (λ (t : Bool). Some (cond t Same (move_says rows (maps from) (maps to) key n))) (ne_eqb from to ne) ∙ ap (λ (s : Said). Some s) is

-- there is enough, and the sum fits
fits_so_far : (rows : ℕ) (a b : PlainMap) (key n : ℕ) → n ≤ amount_at a key → amount_at b key + n < 2 ^ 64 → move_says rows a b key n ≡ cond (is_none (b.value_at key) && is_full rows b) Full Moved
fits_so_far rows a b key n enough fits =
    let one : nat_lt (amount_at a key) n ≡ false = grind arith in let two : exceeds_u64 (amount_at b key + n) ≡ false = grind arith in
    ap (λ (t : Bool). cond t (Short (amount_at a key)) (cond (exceeds_u64 (amount_at b key + n)) Over (cond (is_none (b.value_at key) && is_full rows b) Full Moved))) one
    ∙ ap (λ (t : Bool). cond t Over (cond (is_none (b.value_at key) && is_full rows b) Full Moved)) two

full_test : (rows count : ℕ) (o : Option ℕ) → o ≡ None → count ≡ rows → (is_none o && nat_le rows count) ≡ true
full_test rows count o none all = ap (λ (x : Option ℕ). is_none x && nat_le rows count) none ∙ (let e : nat_le rows count ≡ true = grind arith in e)

room_test : (rows count : ℕ) (o : Option ℕ) → (o ≡ None → count < rows) → (is_none o && nat_le rows count) ≡ false
room_test rows count (Some v) room = refl
room_test rows count None room = let low : count < rows = room refl in let e : nat_le rows count ≡ false = grind arith in e

pub says_full : (rows : ℕ) (a b : PlainMap) (key n : ℕ) → n ≤ amount_at a key → amount_at b key + n < 2 ^ 64 → b.value_at key ≡ None → b.count ≡ rows → move_says rows a b key n ≡ Full
says_full rows a b key n enough fits none all = fits_so_far rows a b key n enough fits ∙ ap (λ (t : Bool). cond t Full Moved) (full_test rows b.count (b.value_at key) none all)

pub says_moved : (rows : ℕ) (a b : PlainMap) (key n : ℕ) → n ≤ amount_at a key → amount_at b key + n < 2 ^ 64 → (b.value_at key ≡ None → b.count < rows) → move_says rows a b key n ≡ Moved
says_moved rows a b key n enough fits room = fits_so_far rows a b key n enough fits ∙ ap (λ (t : Bool). cond t Full Moved) (room_test rows b.count (b.value_at key) room)

-- the maps that it leaves
pub leaves_to : (maps : Maps) (from to key n sum : ℕ) (words : List ℕ) → sum ≡ amount_at (maps to) key + n → Means words (with_value (maps to) key sum) → Means words (after maps (query.Move from to key n) Moved to)
leaves_to maps from to key n sum words is h =
    let end : after maps (query.Move from to key n) Moved to ≡ with_value (maps to) key (amount_at (maps to) key + n) =
    ap (λ (t : Bool). cond t (with_value (maps to) key (amount_at (maps to) key + n)) (with_map maps from (less (maps from) key n) to)) (eq-eqb to to refl) in
    subst (Means words) (sym end) (subst (λ (s : ℕ). Means words (with_value (maps to) key s)) is h)

pub leaves_from : (maps : Maps) (from to key n : ℕ) (words : List ℕ) → from ≢ to → Means words (less (maps from) key n) → Means words (after maps (query.Move from to key n) Moved from)
leaves_from maps from to key n words ne h =
    let end : after maps (query.Move from to key n) Moved from ≡ less (maps from) key n =
    ap (λ (t : Bool). cond t (with_value (maps to) key (amount_at (maps to) key + n)) (with_map maps from (less (maps from) key n) from)) (ne_eqb from to ne)
    ∙ ap (λ (t : Bool). cond t (less (maps from) key n) (maps from)) (eq-eqb from from refl) in
    subst (Means words) (sym end) h
