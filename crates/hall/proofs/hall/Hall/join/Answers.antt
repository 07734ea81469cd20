use Rattle.std.proofs.Common.{arith, ◌∙◌, sym, ap}
use Rattle.atomic_table.proofs.Lists.{set_else}
use Rattle.hall.proofs.Dividing.{joins, weighs}
use Rattle.hall.proofs.Parting.{join_told}
use Rattle.hall.proofs.hall.Hall.join.Goals as goal

pub join_seat-requires : goal.join_seat-requires
join_seat-requires g c = (
  c.requires.pass.0,
  c.requires.other.0,
  c.args.other.tied.3,
  (let a = c.args.self.now.counted in let a0 = a.0 in let a2 = a.2 in omega arith),
  λ s h at ne there. joins g.C.CargoRule _ s h c.args.pass.now.seat.id c.args.other.seat.id c.args.pass.now.seat.me.0 c.args.other.seat.me.0 at ne (sym (set_else s.views _ _ _ ne) ∙ there) (omega (arith, c.args.pass.now.tied.1)) (omega (arith, c.args.other.tied.1)) c.requires.away c.requires.rested,
)

pub load-requires : goal.load-requires
load-requires g c = (c.join_seat.ensures.0 ∙ c.requires.pass.0, (let a = c.args.self.now.counted in let a0 = a.0 in let a2 = a.2 in omega arith), weighs g.C.CargoRule _ _ _ _ _ (let e = ap (λ m. m.0.span) c.join_seat.ensures.2 in omega (arith, e, c.args.pass.now.tied.1)))

pub returns-clause-keeps : goal.returns-clause-keeps
returns-clause-keeps g c = join_told g.C.CargoRule _ (omega (arith, c.args.pass.now.tied.1)) _ _ (omega (arith, c.args.other.tied.1)) c.requires.away c.requires.rested (ap (λ m. m.0) (c.load.ensures.2.0 ∙ c.join_seat.ensures.2)) _ _ _
