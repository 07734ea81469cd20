-- What each event of upgrade mode, and each lowering, does to the word of a lock and to the counts there.
use Rattle.std.proofs.Common.{◌≡◌, ℕ, ◌+◌, ◌-◌, ◌*◌, ◌/◌, ◌%◌, ◌^◌, ◌<◌, ◌≤◌, ◌≢◌, refl, ap, ◌∙◌, arith, true, lit<}
use mathlib.Core.Logic.{dite}
use Rattle.std.proofs.Math.Decide.{dec_lt}
use Rattle.std.specs.Prelude.{bit_xor}
use Rattle.std.proofs.lemmas.Nat.{xor_block}
use Rattle.std.specs.Int.Bits.{xor_zero_r}
use Rattle.hall.specs.declared.view.Standing.TheVariants.{Away, Inline, Upgrade, Exclusive, Announcing}
use Rattle.hall.specs.Locks.{Tally, weight, Lawful}
use Rattle.hall.proofs.Locking.{plus}
use Rattle.hall.proofs.Arith.{units}
use Rattle.hall.specs.Shows.{law_bits}

module _ (w named : ℕ) (o : Tally) (few : units o < 1073741824) (fits : w < 18446744073709551616) where
  -- upgrade is taken
  pub upgrade_in_lawful : Lawful w named (plus o (weight Away)) → w / 2 % 2 ≡ 0 → w / 4 % 2 ≡ 0 → w / 8 % 2 ≡ 0 → Lawful (w + 2) named (plus o (weight Upgrade))
  upgrade_in_lawful h b1 b2 b3 = let k = law_bits w named (plus o (weight Away)) h in let k0 = k.0 in let k1 = k.1 in let k2 = k.2 in let k3 = k.3 in let a = h.alone in let s = h.shows in let bt = h.bit in
      record { bounded = (let lim = h.bounded in omega arith); may = h.may; bit = h.bit; shows = omega arith; alone = omega arith; nobody = λ e. absurd (omega arith); barred = λ e. absurd (omega arith); drained = λ e. absurd (omega arith) }

  -- upgrade is given up
  pub upgrade_out_lawful : Lawful w named (plus o (weight Upgrade)) → Lawful ((w + 18446744073709551614) % 18446744073709551616) named (plus o (weight Away))
  upgrade_out_lawful h = let k = law_bits w named (plus o (weight Upgrade)) h in let k0 = k.0 in let k1 = k.1 in let k2 = k.2 in let k3 = k.3 in let a = h.alone in let s = h.shows in let bt = h.bit in
      record { bounded = (let lim = h.bounded in omega arith); may = h.may; bit = h.bit; shows = omega arith; alone = omega arith; nobody = λ e. absurd (omega arith); barred = λ e. absurd (omega arith); drained = λ e. absurd (omega arith) }

  -- upgrade is lowered to shared
  pub upgrade_lower_lawful : Lawful w named (plus o (weight Upgrade)) → Lawful ((w + 4294967294) % 18446744073709551616) named (plus o (weight Inline))
  upgrade_lower_lawful h = let k = law_bits w named (plus o (weight Upgrade)) h in let k0 = k.0 in let k1 = k.1 in let k2 = k.2 in let k3 = k.3 in let a = h.alone in let s = h.shows in let bt = h.bit in
      record { bounded = (let lim = h.bounded in omega arith); may = h.may; bit = h.bit; shows = omega arith; alone = omega arith; nobody = λ e. absurd (omega arith); barred = λ e. absurd (omega arith); drained = λ e. absurd (omega arith) }

  -- an upgrade holder is announced
  pub up_lawful : (p : ℕ) → Lawful w named (plus o (weight Upgrade)) → Lawful (w + 4 - w % 2) named (plus o (weight (Announcing p 0 true)))
  up_lawful p h = let k = law_bits w named (plus o (weight Upgrade)) h in let k0 = k.0 in let k1 = k.1 in let k2 = k.2 in let k3 = k.3 in let a = h.alone in let s = h.shows in let bt = h.bit in
      record { bounded = (let lim = h.bounded in omega arith); may = 0; bit = omega arith; shows = omega arith; alone = omega arith; nobody = λ e. absurd (omega arith); barred = λ e. refl; drained = λ e. absurd (omega arith) }

  -- its announcement is taken back
  pub up_retract_lawful : (p : ℕ) → Lawful w named (plus o (weight (Announcing p 0 true))) → Lawful (w - 3) named (plus o (weight Upgrade))
  up_retract_lawful p h = let k = law_bits w named (plus o (weight (Announcing p 0 true))) h in let k0 = k.0 in let k1 = k.1 in let k2 = k.2 in let k3 = k.3 in let a = h.alone in let s = h.shows in let m = h.barred (omega arith) in
      record { bounded = (let lim = h.bounded in omega arith); may = 1; bit = omega arith; shows = omega arith; alone = omega arith; nobody = λ e. absurd (omega arith); barred = λ e. absurd (omega arith); drained = λ e. absurd (omega arith) }

-- exclusive is lowered to shared
pub exclusive_shared_lawful : (w named : ℕ) (o : Tally) → Lawful w named (plus o (weight Exclusive)) → units o < 1073741824 → (w ≡ 8) × Lawful 4294967296 named (plus o (weight Inline))
exclusive_shared_lawful w named o h few = let a = h.alone in let s = h.shows in let is : w ≡ 8 = h.drained (omega arith) in let m = h.barred (omega arith) in
    (is, record { bounded = (let lim = h.bounded in omega arith); may = 0; bit = omega arith; shows = omega arith; alone = omega arith; nobody = λ e. absurd (omega arith); barred = λ e. refl; drained = λ e. absurd (omega arith) })

-- exclusive is lowered to upgrade
pub exclusive_upgrade_lawful : (w named : ℕ) (o : Tally) → Lawful w named (plus o (weight Exclusive)) → (w ≡ 8) × Lawful 2 named (plus o (weight Upgrade))
exclusive_upgrade_lawful w named o h = let a = h.alone in let s = h.shows in let is : w ≡ 8 = h.drained (omega arith) in let m = h.barred (omega arith) in
    (is, record { bounded = (let lim = h.bounded in omega arith); may = 0; bit = omega arith; shows = omega arith; alone = omega arith; nobody = λ e. absurd (omega arith); barred = λ e. refl; drained = λ e. absurd (omega arith) })

-- the writer that was announced from upgrade takes the lock: the count is 0, no hand is out, and each slot that names the lock is one of an undecided pass
pub hold_up_lawful : (named p : ℕ) (o : Tally) → (o.plain + o.raised ≡ 0 → o.hand ≡ 0) → units o < 1073741824 → (o.plain + o.raised ≡ 0 → named ≤ o.undecided + 0) → Lawful 6 named (plus o (weight (Announcing p 0 true))) → Lawful 8 named (plus o (weight Exclusive))
hold_up_lawful named p o empty few swept h =
    let k = law_bits 6 named (plus o (weight (Announcing p 0 true))) h in let a = h.alone in let bt = h.bit in let s = h.shows in let k0 = k.0 in let k1 = k.1 in let k2 = k.2 in let k3 = k.3 in
    let n = swept (omega arith) in let e = empty (omega arith) in
    let all : units o ≡ named = omega arith in
    record { bounded = (let lim = h.bounded in omega arith); may = 0; bit = omega arith; shows = omega arith; alone = omega arith; nobody = λ _. omega arith; barred = λ _. refl; drained = λ _. refl }

-- and where it finds another word, the count isn't 0, and a reader is there
pub hold_up_missed : (w named p : ℕ) (o : Tally) → w < 18446744073709551616 → (o.plain + o.raised ≡ 0 → o.hand ≡ 0) → units o < 1073741824 → (w % 2 ≡ 0 → o.plain + o.raised ≡ 0 → named ≤ o.undecided + 0) → Lawful w named (plus o (weight (Announcing p 0 true))) → w ≢ 6
    → (w / 4294967296 ≢ 0) × (0 < units o)
hold_up_missed w named p o fits empty few swept l miss = let a = l.alone in let m = l.barred (omega arith) in let b = law_bits w named (plus o (weight (Announcing p 0 true))) l in let b0 = b.0 in let n = swept (omega arith) (omega arith) in let e = empty (omega arith) in let s = l.shows in
    ((λ z. miss (omega (arith, z))), dite (dec_lt 0 (units o)) (λ d. d) (λ no. absurd (miss (omega arith))))

-- the word of a lock whose writer was announced from upgrade, and what taking the announcement back makes of it
pub raised_bits : (w named p : ℕ) (o : Tally) → Lawful w named (plus o (weight (Announcing p 0 true))) → w % 8 ≡ 6
raised_bits w named p o l = let b = law_bits w named (plus o (weight (Announcing p 0 true))) l in let a = l.alone in let m = l.barred (omega arith) in let b0 = b.0 in let b1 = b.1 in let b2 = b.2 in omega arith

pub up_retract_word : (w : ℕ) → w % 8 ≡ 6 → bit_xor w 5 ≡ w - 3
up_retract_word w e = let q : ℕ = w / 8 in let is : w ≡ q * 2 ^ 3 + 6 = omega arith in
    let block : bit_xor (q * 2 ^ 3 + 6) 5 ≡ bit_xor q 0 * 2 ^ 3 + 3 = xor_block 3 q 0 6 5 (lit< tt) (lit< tt) in
    ap (λ (z : ℕ). bit_xor z 5) is ∙ block ∙ ap (λ (z : ℕ). z * 2 ^ 3 + 3) (xor_zero_r q) ∙ omega arith
