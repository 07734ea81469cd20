-- What is refused isn't accepted, and what is accepted is a script that can be written.
use Rattle.std.proofs.Common.{◌≡◌, ℕ, List, Option, Some, None, Result, Ok, Err, subst, sym, ◌∙◌, arith, inl, inr}
use Rattle.query_rules.specs.declared.query.Cause.{Cause}
use Rattle.query_rules.specs.Grammar.{Asked, said_by}
use Rattle.script_laws.specs.Spelling.{IsWritable}
use Rattle.script_laws.proofs.Writing.{read_spelled}
use Rattle.server_run.specs.Serve.{script_in, script_of, IsInput, Reads, IsRefused, IsRefusalOf, TellsRefusal, IsAccepted}

some_is_not_none : (o : Option Asked) (s : Asked) → o ≡ Some s → o ≡ None → ⊥
some_is_not_none o s e n = let both : Some s ≡ None = sym e ∙ n in cc

not_both : (bytes : List ℕ) → IsAccepted bytes → IsRefused bytes → ⊥
not_both bytes accepted refused = elim refused [
  | inl long ↦ (let short = accepted.0 in omega (arith, long, short))
  | inr gone ↦ some_is_not_none (script_of bytes) accepted.1.0 accepted.1.1 gone
]

-- the input is the one that is told
told_input : (left : Option (List ℕ)) (bytes told : List ℕ) → left ≡ Some told → IsInput left bytes → bytes ≡ told
told_input left bytes told is input = subst (λ (o : Option (List ℕ)). IsInput o bytes) is input

pub accepted_alone : (left : Option (List ℕ)) (bytes text : List ℕ) → left ≡ Some bytes → TellsRefusal left text → IsAccepted bytes → ⊥
accepted_alone left bytes text told refused accepted =
    let why : IsRefusalOf text bytes = subst (IsRefusalOf text) (told_input left refused.bytes bytes told refused.input) refused.refused in
    not_both bytes accepted why.0

-- what is asked is a script that can be written
script_said : (said : Result Asked (ℕ × Cause)) (s : Asked) → script_in said ≡ Some s → said ≡ Ok s
script_said (Ok t) s e = cc
script_said (Err fault) s e = absurd (let bad : None ≡ Some s = e in cc)

pub asked_writable : (left left_new : Option (List ℕ)) (script : Asked) → Reads left left_new script → IsWritable script
asked_writable left left_new script read = (read_spelled script read.bytes (script_said (said_by read.bytes) script read.asked)).0
