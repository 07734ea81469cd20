use Rattle.std.proofs.Common.{arith, ◌≡◌, ◌∙◌, length}
use Rattle.std.proofs.lemmas.List.{length-map}
use Rattle.query_text.proofs.Lists.{six_front}
use Rattle.query_text.proofs.words.spell_words.Goals as goal

pub returns-in-None-clause-words : goal.returns-in-None-clause-words
returns-in-None-clause-words c =
    let full : length c.loop-rest.words.items ≡ 6 = grind (arith, c.is_full.ensures.value, c.if-is_full.true) in
    six_front _ _ _ (length-map c.loop-rest.words.items _ ∙ full) c.loop-rest.invariant.0
