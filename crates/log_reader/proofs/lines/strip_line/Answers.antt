use Rattle.std.proofs.Common.{ap, ◌∙◌, ◌∷◌, [], ◌++◌}
use Rattle.log_reader.proofs.Strips.{strip_then}
use Rattle.log_reader.proofs.lines.strip_line.Goals as goal

pub returns : goal.returns
returns c = strip_then c.args.bytes.now _ c.in_ok-rest.rest.now (10 ∷ []) c.strip-2.result (c.in_ok-rest.ensures ∙ ap (λ l. l ++ c.in_ok-rest.rest.now) c.as_bytes.ensures) c.strip-2.ensures
