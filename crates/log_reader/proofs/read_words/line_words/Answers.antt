use Rattle.std.proofs.Common.{arith, sym, ◌≡◌, ◌∙◌, ap, ◌++◌, length, map}
use Rattle.std.proofs.lemmas.List.{length-map}
use Rattle.std.specs.Option.{option_copied}
use Rattle.query_text.specs.Reads.{rest_words}
use Rattle.log_reader.proofs.Words.{words_front, words_all}
use Rattle.log_reader.proofs.read_words.line_words.Goals as goal

pub returns-then-is_full : goal.returns-then-is_full
returns-then-is_full c =
    let full : length c.loop-rest.words.items ≡ 16 = grind (arith, c.is_full.ensures.value, c.if-is_full.true) in
    words_front _ _ _ (length-map c.loop-rest.words.items _ ∙ full) c.loop-rest.invariant.0

pub returns : goal.returns
returns c =
    let few = c.loop-rest.invariant.1 in
    let len = length-map c.loop-rest.words.items (λ w. w.now) in
    words_all _ _ (omega (arith, few, len)) (sym (ap (λ r. map (λ w. w.now) c.loop-rest.words.items ++ rest_words (option_copied r)) c.in_default.is) ∙ c.loop-rest.invariant.0)
