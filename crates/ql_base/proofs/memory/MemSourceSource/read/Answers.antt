use Rattle.std.proofs.Common.{drop, sym, ap, ◌∙◌}
use Rattle.std.proofs.lemmas.List.{take_rest}
use Rattle.ql_base.proofs.Filled.{copied_front}
use Rattle.ql_base.proofs.memory.MemSourceSource.read.Goals as goal

pub returns-clause-bytes : goal.returns-clause-bytes
returns-clause-bytes c =
    let at = c.self.inside.at in
    let all = c.deref.result.now in
    let copy = c.copy_front-count.ensures in
    let left = sym (ap (λ v. v.left) c.self.view_is) in
    let shown = take_rest all at ∙ ap (drop at) c.deref.ensures.value in
    copied_front _ _ c.self.inside.bytes.items c.args.buf.now c.copy_front-count.new.buf at c.copy_front-count.result left shown copy.count copy.len copy.copied
