-- A law of histories.
use Rattle.std.specs.Prelude.{◌≡◌, ℕ, ◌≤◌, false, List, length}
use Rattle.std.specs.List.{AllByRecursion}
use Rattle.query_rules.specs.declared.query.Query.{Query}
use Rattle.query_rules.specs.declared.query.Reply.{Reply}
use Rattle.query_rules.specs.History.{IsHistory}
use Rattle.query_rules.specs.Log.{is_refusal}

-- who is alone meets nobody: no reply to one caller is `busy` or `late`
abbrev pub AloneIsServed : Type 0
AloneIsServed = (rows : ℕ) (callers : List (List Query)) (told : List (List Reply)) → length callers ≤ 1 → IsHistory rows callers told → AllByRecursion (AllByRecursion (λ reply. is_refusal reply ≡ false)) told
