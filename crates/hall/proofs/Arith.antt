-- What each step does to the word of a lock and to the counts there.
use Rattle.std.proofs.Common.{◌≡◌, ℕ, ◌+◌, ◌-◌, ◌*◌, ◌/◌, ◌%◌, ◌<◌, ◌≤◌, refl, arith}
use Rattle.hall.specs.declared.view.Standing.TheVariants.{Away, Inline, Exclusive, Announcing}
use Rattle.std.specs.Prelude.{false}
use mathlib.Core.Logic.{dite}
use Rattle.std.proofs.Math.Decide.{dec_le}
use Rattle.hall.specs.Locks.{Tally, tally, weight, Lawful}
use Rattle.hall.specs.Shows.{law_bits}
use Rattle.hall.proofs.Locking.{plus}

-- the units of a word after d more
units_more : (w k F U b : ℕ) → (w + 4294967296 * k) % 18446744073709551616 ≡ F + 4294967296 * U → F + b < 16 → U < 1073741824
    → (((w + 4294967296) % 18446744073709551616 + b) + 4294967296 * k) % 18446744073709551616 ≡ (F + b) + 4294967296 * (U + 1)
units_more w k F U b e small few = omega arith

units_less : (w k F U : ℕ) → (w + 4294967296 * k) % 18446744073709551616 ≡ F + 4294967296 * (U + 1) → F < 16 → U < 1073741824
    → ((w + 18446744069414584320) % 18446744073709551616 + 4294967296 * k) % 18446744073709551616 ≡ F + 4294967296 * U
units_less w k F U e small few = omega arith

abbrev pub units : Tally → ℕ
units t = t.shared + t.undecided + t.owing

abbrev flags : ℕ → Tally → ℕ
flags may t = may + 2 * (t.upgrade + t.raised) + 4 * (t.plain + t.raised) + 8 * t.exclusive

pub enter_lawful : (w named b : ℕ) (o : Tally) → Lawful w named (plus o (weight Away)) → w / 8 % 2 ≡ 0 → units o < 1073741824 → b + w % 2 ≤ 1 → (0 < b → w / 4 % 2 ≡ 0)
    → Lawful ((w + 4294967296) % 18446744073709551616 + b) named (plus o (weight Inline))
enter_lawful w named b o h clear few one calm =
    let k = law_bits w named (plus o (weight Away)) h in let a = h.alone in let bt = h.bit in let s = h.shows in
    let k0 = k.0 in let k2 = k.2 in let k3 = k.3 in
    let lim = h.bounded in record {
      bounded = omega arith;
      may = h.may + b;
      bit = omega arith;
      shows = omega (arith, units_more w (o.hand + named) (flags h.may o) (units o) b (omega arith) (omega arith) few);
      alone = omega arith;
      nobody = λ e. absurd (omega arith);
      barred = λ e. let b0 : b ≤ 0 = dite (dec_le b 0) (λ d. d) (λ n. absurd (omega (arith, calm (omega arith)))) in let m = h.barred (omega arith) in omega arith;
      drained = λ e. absurd (omega arith);
    }

-- from Inline (1 and 0) or Owing (0 and 1)
pub lower_lawful : (w named x y : ℕ) (o : Tally) → Lawful w named (plus o (tally x 0 y 0 0 0 0 0)) → x + y ≡ 1 → units o < 1073741824
    → Lawful ((w + 18446744069414584320) % 18446744073709551616) named (plus o (weight Away))
lower_lawful w named x y o h one few =
    let a = h.alone in let bt = h.bit in let s = h.shows in let nob = h.nobody in
    let lim = h.bounded in record {
      bounded = omega arith;
      may = h.may;
      bit = bt;
      shows = omega (arith, units_less w (o.hand + named) (flags h.may o) (units o) (omega arith) (omega arith) few);
      alone = omega arith;
      nobody = λ e. absurd (omega (arith, nob (omega arith)));
      barred = λ e. let m = h.barred (omega arith) in m;
      drained = λ e. absurd (omega (arith, nob (omega arith)));
    }

-- the word after w % 2 was cleared and 4 set
pub announce_lawful : (w named p : ℕ) (o : Tally) → w < 18446744073709551616 → Lawful w named (plus o (weight Away)) → w / 2 % 2 ≡ 0 → w / 4 % 2 ≡ 0 → w / 8 % 2 ≡ 0
    → Lawful (w + 4 - w % 2) named (plus o (weight (Announcing p 0 false)))
announce_lawful w named p o fits h no_up no_begun no_held =
    let k = law_bits w named (plus o (weight Away)) h in let a = h.alone in let bt = h.bit in let s = h.shows in
    let k0 = k.0 in let k1 = k.1 in let k2 = k.2 in let k3 = k.3 in
    let lim = h.bounded in record {
      bounded = omega arith;
      may = 0;
      bit = omega arith;
      shows = omega arith;
      alone = omega arith;
      nobody = λ e. absurd (omega arith);
      barred = λ e. refl;
      drained = λ e. absurd (omega arith);
    }

whole : (k U : ℕ) → (4 + 4294967296 * k) % 18446744073709551616 ≡ 4 + 4294967296 * U → U < 1073741824 → k < 1073741824 → U ≡ k
whole k U e few deep = omega arith

-- the count is 0, no hand is out, and each slot that names the lock is one of an undecided pass
pub hold_lawful : (named p : ℕ) (o : Tally) → Lawful 4 named (plus o (weight (Announcing p 0 false))) → named ≤ o.undecided → o.hand ≡ 0 → units o < 1073741824 → named < 1073741824 → Lawful 8 named (plus o (weight Exclusive))
hold_lawful named p o h swept empty few deep =
    let k = law_bits 4 named (plus o (weight (Announcing p 0 false))) h in let a = h.alone in let bt = h.bit in let s = h.shows in let k0 = k.0 in let k1 = k.1 in let k2 = k.2 in let k3 = k.3 in
    let lim = h.bounded in record {
      bounded = omega arith;
      may = 0;
      bit = omega arith;
      shows = omega (arith, whole (o.hand + named) (units o) (omega arith) (omega arith) (omega arith));
      alone = omega arith;
      nobody = λ e. omega (arith, whole (o.hand + named) (units o) (omega arith) (omega arith) (omega arith));
      barred = λ e. refl;
      drained = λ e. refl;
    }

pub retract_lawful : (w named p : ℕ) (o : Tally) → Lawful w named (plus o (weight (Announcing p 0 false))) → Lawful (w - 3) named (plus o (weight Away))
retract_lawful w named p o h =
    let k = law_bits w named (plus o (weight (Announcing p 0 false))) h in let a = h.alone in let bt = h.bit in let s = h.shows in let k0 = k.0 in let k1 = k.1 in let k2 = k.2 in let k3 = k.3 in let m = h.barred (omega arith) in
    let lim = h.bounded in record {
      bounded = omega arith;
      may = 1;
      bit = omega arith;
      shows = omega arith;
      alone = omega arith;
      nobody = λ e. absurd (omega arith);
      barred = λ e. absurd (omega arith);
      drained = λ e. absurd (omega arith);
    }

pub release_lawful : (w named : ℕ) (o : Tally) → Lawful w named (plus o (weight Exclusive)) → (w ≡ 8) × Lawful 0 named (plus o (weight Away))
release_lawful w named o h =
    let a = h.alone in let s = h.shows in let is : w ≡ 8 = h.drained (omega arith) in let m = h.barred (omega arith) in (
      is,
      record {
        bounded = omega arith;
        may = 0;
        bit = omega arith;
        shows = omega arith;
        alone = omega arith;
        nobody = λ e. absurd (omega arith);
        barred = λ e. refl;
        drained = λ e. absurd (omega arith);
      },
    )
