-- The reply that is kept in a form.
use Rattle.std.specs.Prelude.{◌+◌, ◌*◌, ◌^◌, Some, None, Ok, Err}
use Rattle.query_rules.specs.declared.query.Said.TheVariants as said
use Rattle.query_rules.specs.declared.query.LedgerTold.TheVariants as told
use Rattle.query_rules.specs.declared.query.LedgerTrouble.TheVariants as trouble
use Rattle.query_rules.specs.declared.query.Reply.{Reply}
use Rattle.query_rules.specs.declared.query.Reply.TheVariants.{Placed, Busy, Late, Job}
use Rattle.query_text.specs.declared.kept.Form.{Form}
use Rattle.query_text.specs.declared.kept.Form.TheVariants as form

abbrev pub reply_in : Form → Reply
reply_in (form.Found place value) = Placed place (said.Found value)
reply_in (form.Absent place) = Placed place said.Absent
reply_in (form.Count place n) = Placed place (said.Count n)
reply_in (form.New place) = Placed place said.New
reply_in (form.Old place value) = Placed place (said.Old value)
reply_in (form.Full place) = Placed place said.Full
reply_in (form.Now place value) = Placed place (said.Now value)
reply_in (form.Over place) = Placed place said.Over
reply_in (form.Yes place) = Placed place said.Yes
reply_in (form.No place value) = Placed place (said.No value)
reply_in (form.NewCount place n) = Placed place (said.NewCount n)
reply_in (form.OldCount place value n) = Placed place (said.OldCount value n)
reply_in (form.Moved place) = Placed place said.Moved
reply_in (form.Short place value) = Placed place (said.Short value)
reply_in (form.Same place) = Placed place said.Same
reply_in (form.Neither place) = Placed place (said.Pair None None)
reply_in (form.First place first) = Placed place (said.Pair (Some first) None)
reply_in (form.Second place second) = Placed place (said.Pair None (Some second))
reply_in (form.Both place first second) = Placed place (said.Pair (Some first) (Some second))
reply_in form.Busy = Busy
reply_in (form.Late now) = Late now
reply_in (form.Balance at n) = Job at (Ok (told.Now n))
reply_in (form.Sum at high low) = Job at (Ok (told.Sum (high * 2 ^ 64 + low)))
reply_in (form.LedgerOver at) = Job at (Err trouble.Over)
reply_in (form.LedgerFull at) = Job at (Err trouble.Full)
reply_in (form.LedgerShort at n) = Job at (Err (trouble.Short n))
