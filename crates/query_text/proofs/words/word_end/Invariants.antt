use Rattle.std.proofs.Common.{◌≡◌, ◌<◌, ℕ, get_or, true}
use Rattle.query_text.specs.Spelling.{is_visible}
use Rattle.query_text.proofs.words.word_end.Given as goal

-- all so far can stand in a word
abbrev pub invariant-loop-i : goal.invariant-loop-i
invariant-loop-i l = (k : ℕ) → k < l.i → is_visible (get_or l.text k 0) ≡ true
