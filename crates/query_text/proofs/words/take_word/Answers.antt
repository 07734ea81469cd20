use Rattle.std.proofs.Common.{arith}
use Rattle.std.proofs.lemmas.List.{take_rest}
use Rattle.query_text.proofs.Spellings.{word_cut, word_last, fault_cut, fault_last}
use Rattle.query_text.proofs.words.take_word.Goals as goal

pub returns-then-end-text-clause-cut : goal.returns-then-end-text-clause-cut
returns-then-end-text-clause-cut c = word_last c.args.text.now (λ k h. c.word_end-end.ensures.before k (omega arith))

pub returns-then-end-text-clause-spelled : goal.returns-then-end-text-clause-spelled
returns-then-end-text-clause-spelled c = λ some. fault_last c.args.text.now (λ k h. c.word_end-end.ensures.before k (omega arith)) some

pub returns-then-text-end-eq32-clause-cut : goal.returns-then-text-end-eq32-clause-cut
returns-then-text-end-eq32-clause-cut c = rw take_rest (word_cut c.args.text.now c.word_end-end.result (omega arith) c.word_end-end.ensures.before c.if-text-end-eq32.true)

pub returns-then-text-end-eq32-clause-spelled : goal.returns-then-text-end-eq32-clause-spelled
returns-then-text-end-eq32-clause-spelled c = rw take_rest (fault_cut c.args.text.now c.word_end-end.result (omega arith) c.word_end-end.ensures.before c.if-text-end-eq32.true)
