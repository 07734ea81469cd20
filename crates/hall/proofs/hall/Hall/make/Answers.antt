use Rattle.std.proofs.Common.{rules, arith, ℕ, ◌≡◌, ◌+◌, sym, subst, [], List, replicate}
use Rattle.atomic_table.specs.Table.{opening}
use Rattle.hall.specs.Rule.{Holds, first_view}
use Rattle.hall.specs.declared.view.Plan.{Plan}
use Rattle.hall.proofs.Opening.{opens}
use Rattle.hall.proofs.hall.Hall.make.Goals as goal

pub of_words-requires : goal.of_words-requires
of_words-requires g c =
    let plan : Plan g.row.C.Denot = record { shape = record { locks = c.args.locks; slots = c.args.slots; seats = c.args.seats; policy = c.args.policy; words = c.words-extra.result }; quota = c.args.quota; cargo = c.args.cargo } in
    let count : ℕ = c.args.slots + c.args.locks + c.words-extra.result in
    let zero_words : c.as_slice.result.now ≡ replicate count 0 = search rules in
    let w = c.words-extra.ensures in let q = c.ranges.quota.fits in let sl = c.requires.slots in let st = c.requires.seats in let sl0 = sl.0 in let st0 = st.0 in let st1 = st.1 in
    let F : List ℕ → Type 0 = λ ws. Holds g.C.CargoRule plan (opening ws [] (first_view g.C.CargoRule plan)) in
    subst F (sym zero_words) (opens g.C.CargoRule plan count (omega arith) sl0 (let sl1 = sl.1 in omega arith) st0 (omega arith) (search rules) w c.requires.admits)
