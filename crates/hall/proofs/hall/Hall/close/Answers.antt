use Rattle.std.proofs.Common.{arith}
use Rattle.hall.proofs.Ending.{ends, leaves}
use Rattle.hall.proofs.hall.Hall.close.Goals as goal

pub returns-clause-rule : goal.returns-clause-rule
returns-clause-rule g c = let v = c.close_with.ensures.values in let seen = v.2.1 in (v.2.0, seen.0, seen.1)

pub returns-clause-cargo : goal.returns-clause-cargo
returns-clause-cargo g c = let v = c.close_with.ensures.values in ends g.C.CargoRule _ _ _ _ _ _ (let s = c.args.self.sized in let s0 = s.0 in let s1 = s.1 in omega arith) v.2

pub returns-clause-words : goal.returns-clause-words
returns-clause-words g c = let v = c.close_with.ensures.values in leaves g.C.CargoRule _ _ _ _ _ _ (let s = c.args.self.sized in let s0 = s.0 in let s1 = s.1 in omega arith) v.2
