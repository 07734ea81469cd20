use Rattle.std.proofs.Common.{◌≡◌, ◌+◌, ◌++◌, ◌≤◌, length, map}
use Rattle.std.specs.Option.{option_copied, option_map_or}
use Rattle.query_rules.specs.Words.{words_of}
use Rattle.query_text.specs.Reads.{rest_words}
use Rattle.query_text.specs.Spelling.{fault_in, rest_fault}
use Rattle.query_text.proofs.words.spell_words.Given as goal

-- the words so far, and those of what is left, which has the faults of the line
abbrev pub invariant-loop-rest : goal.invariant-loop-rest
invariant-loop-rest l =
    (map (λ w. w.now) l.words.items ++ rest_words (option_copied l.rest) ≡ words_of l.line)
    × (length l.words.items ≤ 6)
    × (fault_in l.line ≡ rest_fault (option_copied l.rest))

abbrev pub decreases-loop-rest : goal.decreases-loop-rest
decreases-loop-rest l = option_map_or (λ t. length t.now + 1) l.rest 0
