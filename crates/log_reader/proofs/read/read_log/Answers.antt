use Rattle.std.proofs.Common.{arith, ap, sym, ◌∙◌, subst, List}
use Rattle.std.specs.Prelude.{IsSorted}
use Rattle.log_reader.specs.declared.answered.Answered.{Answered}
use Rattle.std.proofs.lemmas.Result.{err_from_is_err_and}
use Rattle.query_rules.specs.Grammar.{Asked}
use Rattle.query_rules.specs.Log.{IsLogOf}
use Rattle.log_reader.specs.Listing.{line_cmp}
use Rattle.log_reader.specs.Pages.{page}
use Rattle.log_reader.specs.Grouping.{groups_of}
use Rattle.log_reader.proofs.LogLaws.{no_log, no_order, no_lists, log_found}
use Rattle.log_reader.proofs.Bridge.{no_logs, page_none, log_from, script_from}
use Rattle.log_reader.proofs.read.read_log.Goals as goal

pub returns-in_err-page-clause-none : goal.returns-in_err-page-clause-none
returns-in_err-page-clause-none c =
    let p = err_from_is_err_and c.from_residual.result c.from_residual.ensures.1 in
    rw (p.1, p.2) (page_none c.in_err-page.field-0.0 c.args.bytes.now c.in_err-page.ensures.none)

pub returns-then-not-is_log-clause-none : goal.returns-then-not-is_log-clause-none
returns-then-not-is_log-clause-none c =
    no_logs c.args.bytes.now (no_log (page c.in_ok-page.page) c.args.bytes.now c.in_ok-page.ensures.found c.in_ok-page.ensures.fits (sym c.if-not-is_log.ensures))

pub returns-then-not-is_sorted-clause-none : goal.returns-then-not-is_sorted-clause-none
returns-then-not-is_sorted-clause-none c =
    no_logs c.args.bytes.now (no_order (page c.in_ok-page.page) c.args.bytes.now c.in_ok-page.ensures.found c.in_ok-page.ensures.fits
    (λ h. c.if-not-is_sorted.ensures (subst (λ (l : List Answered). IsSorted line_cmp l) (sym c.deref.ensures.value) h)))

pub returns-then-not-is_empty-clause-none : goal.returns-then-not-is_empty-clause-none
returns-then-not-is_empty-clause-none c =
    let p = c.in_ok-page.page in
    no_logs c.args.bytes.now (no_lists (page p) c.args.bytes.now c.sort_lines.new.lines.items c.in_ok-callers.rest.now c.in_ok-page.ensures.found c.in_ok-page.ensures.fits c.sort_lines.ensures.same c.sort_lines.ensures.sorted
    (c.in_ok-callers.ensures.rest ∙ ap (λ (l : List Answered). (groups_of p.callers 0 l).rest) c.deref-2.ensures.value) (λ none. grind arith))

pub of-requires : goal.of-requires
of-requires c =
    let p = c.in_ok-page.page in
    let g = c.in_ok-callers.ensures in
    let lines = c.deref-2.ensures.value in
    script_from p.rows c.in_ok-callers.outcome c.args.bytes.now (log_found (page p) c.args.bytes.now c.sort_lines.new.lines.items c.in_ok-callers.rest.now c.in_ok-callers.callers c.in_ok-callers.outcome c.in_ok-page.ensures.found c.in_ok-page.ensures.fits
    (sym c.if-not-is_log.ensures) (subst (λ (l : List Answered). IsSorted line_cmp l) c.deref.ensures.value c.if-not-is_sorted.ensures) c.sort_lines.ensures.same
    (g.asked ∙ ap (λ (l : List Answered). (groups_of p.callers 0 l).asked) lines) (g.told ∙ ap (λ (l : List Answered). (groups_of p.callers 0 l).told) lines)
    (g.rest ∙ ap (λ (l : List Answered). (groups_of p.callers 0 l).rest) lines) (grind arith))

pub returns-clause-read : goal.returns-clause-read
returns-clause-read c =
    let p = c.in_ok-page.page in
    let g = c.in_ok-callers.ensures in
    let lines = c.deref-2.ensures.value in
    subst (λ (s : Asked). IsLogOf s p.rows c.in_ok-callers.outcome c.args.bytes.now) (sym c.of.ensures) (log_from _ p.rows c.in_ok-callers.outcome c.args.bytes.now (log_found (page p) c.args.bytes.now c.sort_lines.new.lines.items c.in_ok-callers.rest.now c.in_ok-callers.callers c.in_ok-callers.outcome c.in_ok-page.ensures.found c.in_ok-page.ensures.fits
    (sym c.if-not-is_log.ensures) (subst (λ (l : List Answered). IsSorted line_cmp l) c.deref.ensures.value c.if-not-is_sorted.ensures) c.sort_lines.ensures.same
    (g.asked ∙ ap (λ (l : List Answered). (groups_of p.callers 0 l).asked) lines) (g.told ∙ ap (λ (l : List Answered). (groups_of p.callers 0 l).told) lines)
    (g.rest ∙ ap (λ (l : List Answered). (groups_of p.callers 0 l).rest) lines) (grind arith)))
