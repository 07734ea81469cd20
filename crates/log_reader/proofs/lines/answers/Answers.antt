use Rattle.std.proofs.Common.{refl, ◌∷◌, []}
use Rattle.log_reader.specs.Listing.{answers_text, IsWritable}
use Rattle.log_reader.proofs.Clean.{all_append}
use Rattle.log_reader.proofs.Front.{answers_next, answers_shorter}
use Rattle.log_reader.proofs.lines.answers.Goals as goal

pub loop-first-init : goal.loop-first-init
unfolding answers_text
loop-first-init c = rw c.new-lines.ensures.items (refl, tt)

pub loop-first-smaller : goal.loop-first-smaller
loop-first-smaller c = answers_shorter c.loop-first.rest.now c.in-Some.after.now c.in-Some.first c.in-Some.ensures.found

pub loop-first-preserved : goal.loop-first-preserved
loop-first-preserved c = rw c.in_ok-push.ensures.items (
  answers_next c.args.bytes.now c.loop-first.rest.now c.in-Some.after.now c.loop-first.lines.items c.in-Some.first c.loop-first.invariant.0 c.in-Some.ensures.found,
  all_append IsWritable c.loop-first.lines.items (c.in-Some.first ∷ []) c.loop-first.invariant.1 (c.in-Some.ensures.fits, tt),
)
