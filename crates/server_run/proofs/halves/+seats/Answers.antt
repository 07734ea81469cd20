use Rattle.std.proofs.Common.{◌≡◌, ◌+◌, ◌/◌, ◌<◌, length, rules, arith, subst}
use Rattle.server_run.specs.Crowd.{AllReady}
use Rattle.server_run.proofs.Crowds.{done_join, ready_cut}
use Rattle.server_run.proofs.halves.+seats.Goals as goal

pub run_all-run_halves-requires : goal.run_all-run_halves-requires
run_all-run_halves-requires g t c κs within =
    let h = c.args.hall.now in
    let m = c.args.dist.now in
    let all = c.args.callers.now in
    let cut = c.split_at_mut-front in
    let cs = cut.result.0.now in
    let ds = cut.result.1.now in
    let half = length c.args.seated.now / 2 in
    let size : length c.args.seated.now ≡ length cs + length ds = search rules in
    let mid : length cs ≡ half = search rules in
    let ready = ready_cut h m all c.args.first (c.args.first + half) cs ds (omega (arith, mid)) (subst (λ l. AllReady h m all c.args.first l) cut.ensures.value c.requires.ready) in
    let number = c.requires.number in
    let some : 1 < length c.args.seated.now = search rules in (
      search rules,
      (within.0, (within.1.0, (within.1.1, (search rules, (search rules, (search rules, (c.requires.may, ((omega (arith, size, mid, some), omega (arith, size, mid, some)), ((omega (arith, number, size), omega (arith, number, size, mid)), (ready.0, ready.1)))))))))),
    )

pub run_all-returns : goal.run_all-returns
run_all-returns g t c =
    let half = length c.args.seated.now / 2 in
    let size : length c.run_halves.new.front ≡ half = search rules in
    done_join c.args.hall.now c.args.dist.now c.args.callers.now c.args.first (c.args.first + half) c.run_halves.new.front c.run_halves.new.back (omega (arith, size)) c.run_halves.ensures.front c.run_halves.ensures.back
