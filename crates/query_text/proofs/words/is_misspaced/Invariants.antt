use Rattle.std.proofs.Common.{◌≡◌, ◌+◌, length}
use Rattle.std.specs.Option.{option_copied, option_map_or}
use Rattle.query_rules.specs.Grammar as grammar
use Rattle.query_rules.specs.Words.{words_of}
use Rattle.query_text.specs.Reads.{rest_words}
use Rattle.query_text.proofs.words.is_misspaced.Given as goal

abbrev pub invariant-loop-rest : goal.invariant-loop-rest
invariant-loop-rest l = grammar.is_misspaced (rest_words (option_copied l.rest)) ≡ grammar.is_misspaced (words_of l.line)

abbrev pub decreases-loop-rest : goal.decreases-loop-rest
decreases-loop-rest l = option_map_or (λ t. length t.now + 1) l.rest 0
