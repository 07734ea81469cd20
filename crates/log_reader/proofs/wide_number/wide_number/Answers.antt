use Rattle.std.proofs.Common.{arith, sym, get_or}
use Rattle.std.proofs.lemmas.Str.{digit_value_digit}
use Rattle.std.proofs.lemmas.Str.Parse.{digit_from_value}
use Rattle.log_reader.proofs.WideNumbers.{wide_over}
use Rattle.log_reader.proofs.wide_number.wide_number.Goals as goal

pub returns-in_default-checked_mul : goal.returns-in_default-checked_mul
returns-in_default-checked_mul c = sym (wide_over c.args.word.now c.loop-rest.rest.now c.loop-rest.number c.in-len1-up.len_at_least c.loop-rest.invariant.1 (omega (arith, c.in_default-checked_mul.ensures)))

pub returns-in_default-checked_add : goal.returns-in_default-checked_add
returns-in_default-checked_add c =
    let d = get_or c.loop-rest.rest.now 0 0 in
    let digit = digit_value_digit d (digit_from_value d c.if-not-is_ascii_digit.ensures.bound) in
    sym (wide_over c.args.word.now c.loop-rest.rest.now c.loop-rest.number c.in-len1-up.len_at_least c.loop-rest.invariant.1
    (omega (arith, c.in_default-checked_add.ensures, c.in-Some.ensures, c.from.ensures, digit)))
