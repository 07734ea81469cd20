use Rattle.std.proofs.Common.{◌≡◌, ◌∙◌, ap, sym, refl}
use Rattle.clap.specs.Words.{app_of, fault_of, is_simple, is_simple_and_free, matches_of, takes}
use Rattle.command_line.specs.Form.{texts_of}
use Rattle.command_line.specs.Program.{program}
use Rattle.command_line.proofs.OfProgram.{not_taken, of_cause, program_free, program_simple, taken}
use Rattle.command_line.proofs.check.matches_in.Goals as goal

pub returns-clause-ok : goal.returns-clause-ok
returns-clause-ok c =
    let ws = texts_of c.args.words.now in
    let is : app_of c.in_ok-command.command ≡ program = c.in_ok-command.ensures in
    let faults = c.in_ok-matches.ensures.kinds (ap is_simple_and_free is ∙ program_free) in
    let rows = c.in_ok-matches.ensures.matches (ap is_simple is ∙ program_simple) in
    (taken ws (sym (ap (λ a. fault_of a ws) is) ∙ faults), rows.0 ∙ ap (λ a. matches_of a ws) is)

pub returns-in_err-matches-clause-usage : goal.returns-in_err-matches-clause-usage
returns-in_err-matches-clause-usage c =
    let ws = texts_of c.args.words.now in
    let is : app_of c.in_ok-command.command ≡ program = c.in_ok-command.ensures in
    λ usage. not_taken (takes program ws) (λ t.
    of_cause c.from_residual-in_err-matches.result _ c.from_residual-in_err-matches.ensures.1 usage
    (c.in_err-matches.ensures.passes (ap (λ a. takes a ws) is ∙ t)))
