use Rattle.run_laws.specs.ListLaws.{tell_just_the_replies}
use Rattle.run_laws.proofs.joined_passes_tell_just_the_replies.Goals as goal

pub returns : goal.returns
returns c = tell_just_the_replies
