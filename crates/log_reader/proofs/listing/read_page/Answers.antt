use Rattle.std.proofs.Common.{ap, sym, ◌∙◌}
use Rattle.log_reader.specs.Listing.{tail_text}
use Rattle.log_reader.proofs.Front.{page_found, page_other, page_headless}
use Rattle.log_reader.proofs.listing.read_page.Goals as goal

pub returns-in_default-clause-none : goal.returns-in_default-clause-none
returns-in_default-clause-none c = page_headless c.args.bytes.now c.in_default.ensures.none

pub returns-then-is_tail-clause-found : goal.returns-then-is_tail-clause-found
returns-then-is_tail-clause-found c =
    let t = c.in-Some.tables in
    page_found (record { cells = t.cells; rows = t.rows; callers = t.callers; lines = c.in_ok-lines.lines.items }) c.args.bytes.now c.in-Some.rest.now c.in_ok-lines.rest.now
    c.in-Some.ensures.found c.in_ok-lines.ensures.found (c.if-is_tail.ensures ∙ ap tail_text c.deref.ensures.value)

pub returns-else-is_tail-clause-none : goal.returns-else-is_tail-clause-none
returns-else-is_tail-clause-none c =
    let t = c.in-Some.tables in
    page_other t.cells t.rows t.callers c.in_ok-lines.lines.items c.args.bytes.now c.in-Some.rest.now c.in_ok-lines.rest.now
    (c.known.ensures.cells, c.known.ensures.rows, c.known.ensures.callers) c.in_ok-lines.ensures.fits c.in-Some.ensures.found c.in_ok-lines.ensures.found c.in_ok-lines.ensures.all
    (λ same. c.if-is_tail.ensures (same ∙ ap tail_text (sym c.deref.ensures.value)))
