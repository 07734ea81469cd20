use Rattle.std.proofs.lemmas.List.{take_rest}
use Rattle.log_reader.proofs.Words.{numbers_front}
use Rattle.log_reader.proofs.read_words.first_numbers.Goals as goal

pub returns-clause-read : goal.returns-clause-read
returns-clause-read c = rw (take_rest c.args.words.now c.args.count) (numbers_front (λ _. c.numbers.new.numbers.items) c.args.words.now c.args.count _ _ c.if-words-count.false c.in_ok-numbers.was c.numbers.ensures.found)

pub returns-in_err-numbers-clause-read : goal.returns-in_err-numbers-clause-read
returns-in_err-numbers-clause-read c = rw c.from_residual.ensures (numbers_front (λ _. c.numbers.new.numbers.items) c.args.words.now c.args.count _ _ c.if-words-count.false c.in_err-numbers.was c.numbers.ensures.found)
