-- The spelling of a script, as it stands in a file.
use Rattle.std.proofs.Common.{◌≡◌, ℕ, List, [], ◌∷◌, ◌++◌, refl, arith, codes, decimal}
use Rattle.std.proofs.lemmas.Fmt.{decimal_digit}
use Rattle.query_rules.specs.declared.query.Query.TheVariants.{Get, Move}
use Rattle.query_rules.specs.Words.{text_of}
use Rattle.query_rules.specs.Grammar.{Asked}
use Rattle.script_laws.specs.Spelling.{IsWritable, spelling}
use Rattle.script_laws.proofs.Writing.{read_spelled}

abbrev line : List ℕ → List ℕ
line words = words ++ 10 ∷ []

-- a caller with two queries and one with none
abbrev asked : Asked
asked = record { cells = 2; callers = (Get 0 1 ∷ Move 0 1 7 9 ∷ []) ∷ [] ∷ [] }

zero_word : decimal 0 ≡ codes "0"
zero_word = decimal_digit 0 (omega arith)

one_word : decimal 1 ≡ codes "1"
one_word = decimal_digit 1 (omega arith)

spelled : spelling asked ≡ line (codes "cells 2") ++ (line (codes "caller") ++ (line (codes "get 0 1") ++ (line (codes "move 0 1 7 9") ++ line (codes "caller"))))
spelled = λ i.
    text_of (
    (codes "cells" ∷ decimal_digit 2 (omega arith) i ∷ [])
    ∷ (codes "caller" ∷ [])
    ∷ (codes "get" ∷ zero_word i ∷ one_word i ∷ [])
    ∷ (codes "move" ∷ zero_word i ∷ one_word i ∷ decimal_digit 7 (omega arith) i ∷ decimal_digit 9 (omega arith) i ∷ [])
    ∷ (codes "caller" ∷ []) ∷ []
    )

-- a text without its last line feed says a script
writable : IsWritable (record { cells = 64; callers = (Get 63 1 ∷ []) ∷ [] })
writable = (read_spelled _ (line (codes "cells 64") ++ (line (codes "caller") ++ codes "get 63 1")) refl).0
