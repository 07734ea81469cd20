-- A list of queries: those that are done, and the rest.
use Rattle.std.proofs.Common.{◌≡◌, ◌-◌, ◌<◌, ◌≤◌, List, [], ◌∷◌, ◌++◌, length, take, drop, get_or, sym, ap, ◌∙◌, arith, append_assoc, append-nil}
use Rattle.std.proofs.lemmas.List.{take_rest}
use Rattle.query_rules.specs.declared.query.Query.{Query}

-- one more is done
pub done_next : (queries done rest : List Query) (d : Query) → 1 ≤ length rest → queries ≡ done ++ rest → queries ≡ (done ++ get_or rest 0 d ∷ []) ++ take (length rest - 1) (drop 1 rest)
done_next queries done [] d some is = absurd (omega (arith, some))
done_next queries done (q ∷ qs) d some is = is ∙ sym (append_assoc done (q ∷ []) qs) ∙ ap (λ (l : List Query). (done ++ q ∷ []) ++ l) (sym (take_rest (q ∷ qs) 1))

-- all are
pub done_all : (queries done rest : List Query) → length rest < 1 → queries ≡ done ++ rest → done ≡ queries
done_all queries done [] none is = sym (append-nil done) ∙ sym is
done_all queries done (q ∷ qs) none is = absurd (omega (arith, none))
