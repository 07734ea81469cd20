-- A soak that ran comes to its totals.
use Rattle.std.proofs.Common.{◌≡◌, ◌≤◌, ℕ, List, subst}
use Rattle.query_rules.specs.declared.query.Reply.{Reply}
use Rattle.query_rules.specs.Grammar.{Asked}
use Rattle.query_rules.specs.History.{IsHistory}
use Rattle.query_rules.specs.Soak.{soak_script}
use Rattle.soak_laws.specs.Totals.{SoakHasOneSummary}
use Rattle.command_line.specs.declared.options.Options.{Options}
use Rattle.server_run.specs.declared.ended.Ended.{Ended}
use Rattle.server_run.specs.Serve.{EndedAs, HasSoaked}

-- by the law of all its histories
pub has_soaked : (o : Options) (e : Ended) (script : Asked) (told : List (List Reply)) → SoakHasOneSummary → o.count ≤ 1000000 → o.rows ≡ 16 → script ≡ soak_script o.count → IsHistory o.rows script.callers told → EndedAs script o told e → HasSoaked o e
has_soaked o e script told law few rows is history ended =
    let own : IsHistory 16 (soak_script o.count).callers told = subst (λ (s : Asked). IsHistory 16 s.callers told) is (subst (λ (r : ℕ). IsHistory r script.callers told) rows history) in
    record { told = told; history = own; totals = law o.count few told own; ended = subst (λ (s : Asked). EndedAs s o told e) is ended }
