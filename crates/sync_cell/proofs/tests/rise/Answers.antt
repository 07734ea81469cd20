use Rattle.std.proofs.Common.{◌≡◌, ◌∙◌, ap, sym, subst}
use Rattle.hall.specs.Passes.{view}
use Rattle.map_cargo.specs.History.{IsRested, IsSettled}
use Rattle.sync_cell.specs.WithinLaws.{gained_to_upgrade}
use Rattle.sync_cell.proofs.tests.rise.Goals as goal

pub returns-clause-others : goal.returns-clause-others
returns-clause-others g c = λ k ne. c.move_from_upgrade_to_write.ensures.elsewhere k (λ at. ne (at ∙ c.ulock-ptr.ensures.cell)) ∙ c.ulock-ptr.ensures.elsewhere k ne ∙ c.requires.idle.0 k

pub returns-clause-settled : goal.returns-clause-settled
returns-clause-settled g c =
    let s = c.ulock-ptr.ensures.step in let gained = gained_to_upgrade (view c.args.pass.now) 0 s.0 (view c.ulock-ptr.new.pass) s.1 in
    let same = c.move_from_upgrade_to_write.ensures.part in
    (subst (λ p. IsSettled 0 p) (sym same) gained.settled, ap (λ p. p.stored) same ∙ gained.stored ∙ c.requires.idle.1)
