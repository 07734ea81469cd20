use Rattle.std.proofs.Common.{◌≡◌, ◌++◌, ◌+◌, length, map, option_map}
use Rattle.query_rules.specs.Grammar.{numbers_in}
use Rattle.query_text.proofs.number.numbers.Given as goal

abbrev pub invariant-loop-rest : goal.invariant-loop-rest
invariant-loop-rest l = (option_map (λ ns. l.numbers.items ++ ns) (numbers_in (map (λ w. w.now) l.rest)) ≡ numbers_in (map (λ w. w.now) l.words)) × (length l.numbers.items + length l.rest ≡ length l.words)

abbrev pub decreases-loop-rest : goal.decreases-loop-rest
decreases-loop-rest l = length l.rest
