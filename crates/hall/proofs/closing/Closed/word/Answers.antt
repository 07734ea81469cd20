use Rattle.std.proofs.Common.{ℕ, ◌+◌, ◌∙◌, sym, get_or-drop, List}
use Rattle.core.specs.Mem.Slots.{slots_items}
use Rattle.hall.proofs.Ending.{elem_get}
use Rattle.hall.proofs.closing.Closed.word.Goals as goal

pub returns : goal.returns
returns g c = let l : List ℕ = slots_items c.args.self.now.table.words in elem_get l (c.args.self.now.slots + c.args.self.now.locks + c.args.place) _ c.word.ensures ∙ sym (get_or-drop (c.args.self.now.slots + c.args.self.now.locks) l c.args.place 0)
