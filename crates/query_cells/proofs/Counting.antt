-- A put that counts the keys.
use Rattle.std.specs.Prelude.{◌≡◌, ℕ, ◌+◌, ◌<◌, Bool, false, cond, Some, None, Option, is_some, nat_le}
use Rattle.std.proofs.Common.{sym, ap, ◌∙◌, subst, arith}
use Rattle.query_rules.specs.declared.query.Said.TheVariants.{OldCount, NewCount, Full}
use Rattle.query_rules.specs.Maps.{PlainMap, with_value, put_len_says, is_full}

pub counted_old : (m : PlainMap) (key value old r : ℕ) (full : Bool) → Some old ≡ m.value_at key → r ≡ (with_value m key value).count → Some (put_len_says (m.value_at key) full m.count) ≡ Some (OldCount old r)
counted_old m key value old r full has is = subst (λ (o : Option ℕ). r ≡ cond (is_some o) m.count (m.count + 1) → Some (put_len_says o full m.count) ≡ Some (OldCount old r)) has (λ e. ap (λ (k : ℕ). Some (OldCount old k)) (sym e)) is

not_full : (rows n : ℕ) → n < rows → nat_le rows n ≡ false
not_full rows n low = grind arith

pub counted_new : (m : PlainMap) (key value rows r : ℕ) → None ≡ m.value_at key → m.count < rows → r ≡ (with_value m key value).count → Some (put_len_says (m.value_at key) (is_full rows m) m.count) ≡ Some (NewCount r)
counted_new m key value rows r none room is =
    subst (λ (o : Option ℕ). r ≡ cond (is_some o) m.count (m.count + 1) → Some (put_len_says o (is_full rows m) m.count) ≡ Some (NewCount r)) none
    (λ e. ap (λ (b : Bool). Some (cond b Full (NewCount (m.count + 1)))) (not_full rows m.count room) ∙ ap (λ (k : ℕ). Some (NewCount k)) (sym e)) is
