-- The bytes and spaces of a line, before its words are looked at.
use Rattle.std.specs.Prelude.{ℕ, ◌&&◌, Bool, List, Some, None, if◌then◌else◌, nat_lt, nat_le}
use Rattle.std.specs.declared.option.Option.{Option}
use Rattle.query_rules.specs.declared.query.Cause.{Cause}
use Rattle.query_rules.specs.declared.query.Cause.TheVariants.{BadByte, Spacing}
use Rattle.query_rules.specs.Grammar.{has_bad_byte, is_misspaced}
use Rattle.query_rules.specs.Words.{words_of}

-- a byte that can stand in a word
abbrev pub is_visible : ℕ → Bool
is_visible b = nat_lt 32 b && nat_le b 126

-- what is wrong with a text
abbrev pub fault_in : List ℕ → Option Cause
fault_in text = if has_bad_byte text then Some BadByte else if is_misspaced (words_of text) then Some Spacing else None

-- what is wrong with what is left of a line, where a word follows
abbrev pub rest_fault : Option (List ℕ) → Option Cause
rest_fault None = None
rest_fault (Some rest) = fault_in rest
