use Rattle.std.proofs.Common.{arith}
use Rattle.dist_mutex.specs.Passes.{dist_state, dist_view, opening_of}
use Rattle.lock_rounds.proofs.Ran.{joined_long, ran_listed}
use Rattle.lock_rounds.proofs.office.Office.close.Goals as goal

pub returns : goal.returns
returns c =
    let office = c.args.self in
    let one = c.join in let two = c.join-2 in let three = c.join-3 in
    let ends = c.close-kept.ensures.value (λ n low. omega (arith, c.requires.covered n low, one.ensures.covers n, two.ensures.covers n, three.ensures.covers n)) in
    let ran = ran_listed _ _ (opening_of office.desk) (dist_view three.new.pass).own c.close-kept.result.0 c.requires.first c.unwrap.result c.requires.begun c.requires.fresh c.unwrap.ensures ends in
    let first = joined_long (dist_state one.new.pass) (dist_view office.zero) (dist_view office.one) one.ensures.joined.0 in
    let second = joined_long (dist_state two.new.pass) (dist_view one.new.pass) (dist_view office.two) two.ensures.joined.0 in
    let third = joined_long (dist_state three.new.pass) (dist_view two.new.pass) (dist_view office.three) three.ensures.joined.0 in
    omega (arith, ran, first, second, third)
