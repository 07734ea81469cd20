-- A page as a list of lines.
use Rattle.log_reader.specs.Listing.{Listing}
use Rattle.log_reader.specs.declared.listing.Page.{Page}

abbrev pub page : Page → Listing
page p = record { cells = p.cells; rows = p.rows; callers = p.callers; lines = p.lines.items }
