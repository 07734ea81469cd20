use Rattle.std.proofs.Common.{arith, ◌∙◌, ap, length, sum_by}
use Rattle.query_rules.specs.declared.query.Query.{Query}
use Rattle.query_rules.specs.declared.query.Total.TheVariants as total
use Rattle.query_rules.specs.Grammar.{Asked}
use Rattle.soak.proofs.Left.{sums_same, same_totals, few_deltas, few_gifts, deltas, gifts, queries_are, writes_are, reads_are, refused_are, jobs_are}
use Rattle.soak.proofs.Made.{is_script}
use Rattle.soak.proofs.sums.sum_up.Goals as goal

pub totals-counts-requires : goal.totals-counts-requires
totals-counts-requires c =
    let same = sums_same c.args.script.now.callers c.args.outcome.now c.requires.history.once in
    let is = ap (λ (s : Asked). sum_by (length {A = Query}) s.callers) c.requires.script in
    let few = (is_script c.args.count c.requires.count).few in
    omega (arith, same, is, few)

pub of-sums-requires-clause-maps : goal.of-sums-requires-clause-maps
of-sums-requires-clause-maps c = few_deltas c.args.count c.requires.count c.args.script.now c.args.outcome.now c.requires.script c.requires.history c.a_soak_has_one_summary.ensures

pub of-sums-requires-clause-ledger : goal.of-sums-requires-clause-ledger
of-sums-requires-clause-ledger c = few_gifts c.args.count c.requires.count c.args.script.now c.args.outcome.now c.requires.script c.requires.history c.a_soak_has_one_summary.ensures

pub returns : goal.returns
returns c =
    let told = c.totals-counts.ensures in
    let up = c.of-sums.ensures in
    same_totals
    (told total.Queries ∙ queries_are c.args.count c.requires.count c.args.script.now c.args.outcome.now c.requires.script c.requires.history c.a_soak_has_one_summary.ensures)
    (told total.Writes ∙ writes_are c.args.count c.requires.count c.args.script.now c.args.outcome.now c.requires.script c.requires.history c.a_soak_has_one_summary.ensures)
    (told total.Reads ∙ reads_are c.args.count c.requires.count c.args.script.now c.args.outcome.now c.requires.script c.requires.history c.a_soak_has_one_summary.ensures)
    (told total.Refused ∙ refused_are c.args.count c.requires.count c.args.script.now c.args.outcome.now c.requires.script c.requires.history c.a_soak_has_one_summary.ensures)
    (told total.Jobs ∙ jobs_are c.args.count c.requires.count c.args.script.now c.args.outcome.now c.requires.script c.requires.history c.a_soak_has_one_summary.ensures)
    (up.maps ∙ deltas c.args.count c.requires.count c.args.script.now c.args.outcome.now c.requires.script c.requires.history c.a_soak_has_one_summary.ensures)
    (up.ledger ∙ gifts c.args.count c.requires.count c.args.script.now c.args.outcome.now c.requires.script c.requires.history c.a_soak_has_one_summary.ensures)
