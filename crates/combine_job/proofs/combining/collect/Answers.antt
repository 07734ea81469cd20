use Rattle.std.proofs.Common.{ℕ, ◌+◌, ◌*◌, [], ◌∷◌, Some, None, sym, ap, ◌∙◌, arith}
use Rattle.combine_job.specs.declared.parcel.Parcel.TheVariants.{Answered}
use Rattle.combine_job.proofs.Posting.{alone, stands_alone, inside, is_there, collected_told}
use Rattle.combine_job.proofs.combining.collect.Goals as goal

pub move_slot-requires-clause-held : goal.move_slot-requires-clause-held
move_slot-requires-clause-held g c = let d = c.requires.done in
    ([], [], Some d.1, alone _ (2 + 2 * c.args.pass.now.seat.me.0.number) (Some d.1) c.args.pass.now.seat.me.1 (omega (arith, c.number.ensures)) d.3, stands_alone _ _)

pub unwrap-requires : goal.unwrap-requires
unwrap-requires g c = let d = c.requires.done in
    let hand = alone _ (2 + 2 * c.args.pass.now.seat.me.0.number) (Some d.1) c.args.pass.now.seat.me.1 (omega (arith, c.number.ensures)) d.3 in
    is_there _ d.1 (c.move_slot.ensures.moved [] [] (Some d.1) hand (stands_alone _ _)).0

pub into_answer-answer-requires : goal.into_answer-answer-requires
into_answer-answer-requires g c = let d = c.requires.done in let t = (d.4.1.told c.args.pass.now.seat.me.0.number (d.0, d.1) d.4.3).2 in
    let hand = alone _ (2 + 2 * c.args.pass.now.seat.me.0.number) (Some d.1) c.args.pass.now.seat.me.1 (omega (arith, c.number.ensures)) d.3 in
    let there = (c.move_slot.ensures.moved [] [] (Some d.1) hand (stands_alone _ _)).0 in
    (t.3, inside c.unwrap.result d.1 (sym c.unwrap.ensures ∙ there) ∙ t.7)

pub rest-requires-clause-done : goal.rest-requires-clause-done
rest-requires-clause-done g c = let d = c.requires.done in
    let hand = alone _ (2 + 2 * c.args.pass.now.seat.me.0.number) (Some d.1) c.args.pass.now.seat.me.1 (omega (arith, c.number.ensures)) d.3 in
    let e = (c.move_slot.ensures.moved [] [] (Some d.1) hand (stands_alone _ _)).1 in
    (d.0, d.1, ap (λ z. z.0.stage) e ∙ d.2, ap (λ z. z.1) e ∙ (λ t. (2 + 2 * c.number.ensures t, None) ∷ []) ∙ ap (λ (x : ℕ). (2 + 2 * x, None) ∷ []) (sym (ap (λ z. z.0.number) e)))

pub returns-clause-collected : goal.returns-clause-collected
returns-clause-collected g c = let d = c.requires.done in
    let hand = alone _ (2 + 2 * c.args.pass.now.seat.me.0.number) (Some d.1) c.args.pass.now.seat.me.1 (omega (arith, c.number.ensures)) d.3 in
    let e = c.move_slot.ensures.moved [] [] (Some d.1) hand (stands_alone _ _) in
    collected_told d.0 d.1 (Answered c.into_answer-answer.result) c.args.pass.now.seat.me c.move_slot.new.pass.seat.me c.rest.new.pass.seat.me d.2 (ap (λ z. z.0) e.1) c.rest.ensures.rested
    (sym (inside c.unwrap.result d.1 (sym c.unwrap.ensures ∙ e.0)) ∙ c.into_answer-answer.ensures)
