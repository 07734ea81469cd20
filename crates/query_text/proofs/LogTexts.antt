-- A log's text, by its parts.
use Rattle.std.proofs.Common.{◌≡◌, ℕ, ◌+◌, List, [], ◌∷◌, ◌++◌, length, map, take, drop, sym, ap, ◌∙◌, subst}
use Rattle.std.specs.List.{AllByRecursion}
use Rattle.std.proofs.lemmas.List.{take-map, drop-map}
use Rattle.query_rules.specs.declared.query.Query.{Query}
use Rattle.query_rules.specs.declared.query.Reply.{Reply}
use Rattle.query_rules.specs.declared.query.Spot.{Spot}
use Rattle.query_rules.specs.declared.query.Section.TheVariants as section
use Rattle.query_rules.specs.declared.query.Total.{Total}
use Rattle.query_rules.specs.declared.query.Total.TheVariants.{Queries, Writes, Reads, Refused, Jobs}
use Rattle.query_rules.specs.Grammar.{Asked}
use Rattle.query_rules.specs.Log.{log_text, head_text, spots_text, refused_text, totals_text, totals_of, total_of, end_line, placed_count, IsSpot, IsOrder}
use Rattle.query_text.specs.declared.outcome.Counts.{Counts}
use Rattle.query_text.specs.Counts.{total_in, totals_in}
use Rattle.query_text.proofs.Spots.{AreReplies, order_spots}

totals_same : (t : Counts) (told : List (List Reply)) → ((k : Total) → total_in k t ≡ total_of k told) → totals_in t ≡ totals_of told
totals_same t told e = λ i. (Queries, e Queries i) ∷ (Writes, e Writes i) ∷ (Reads, e Reads i) ∷ (Refused, e Refused i) ∷ (Jobs, e Jobs i) ∷ []

-- as many map lines as writes and reads were counted
placed_same : (t : Counts) (told : List (List Reply)) → ((k : Total) → total_in k t ≡ total_of k told) → t.writes + t.reads ≡ placed_count told
placed_same t told e = ap (λ w. w + t.reads) (e Writes) ∙ ap (λ r. total_of Writes told + r) (e Reads)

-- what lies before a seam, and behind it, says what stands there
taken : {X : Type 0} (f : X → Spot) (n : ℕ) (order part : List X) → part ≡ take n order → map f part ≡ take n (map f order)
taken f n order part cut = ap (λ l. map f l) cut ∙ sym (take-map f n order)

dropped : {X : Type 0} (f : X → Spot) (n : ℕ) (order part : List X) → part ≡ drop n order → map f part ≡ drop n (map f order)
dropped f n order part cut = ap (λ l. map f l) cut ∙ sym (drop-map f n order)

pub map_spots : {X : Type 0} (f : X → Spot) (asked asked' : List (List Query)) (told : List (List Reply)) (order maps : List X) (t : Counts) → AreReplies asked told → IsOrder told (map f order) → asked' ≡ asked → ((k : Total) → total_in k t ≡ total_of k told) → maps ≡ take (t.writes + t.reads) order
    → AllByRecursion (IsSpot asked' told) (map f maps)
map_spots f asked asked' told order maps t is in_order a e cut =
    let same : map f maps ≡ take (placed_count told) (map f order) = taken f _ order maps cut ∙ ap (λ n. take n (map f order)) (placed_same t told e) in
    let P : List (List Query) → Type 0 = λ l. AllByRecursion (IsSpot l told) (map f maps) in
    let Q : List Spot → Type 0 = λ l. AllByRecursion (IsSpot asked told) l in
    subst P (sym a) (subst Q (sym same) (order_spots section.Maps asked told _ is in_order.maps))

pub job_spots : {X : Type 0} (f : X → Spot) (asked asked' : List (List Query)) (told : List (List Reply)) (order jobs : List X) (t : Counts) → AreReplies asked told → IsOrder told (map f order) → asked' ≡ asked → ((k : Total) → total_in k t ≡ total_of k told) → jobs ≡ drop (t.writes + t.reads) order
    → AllByRecursion (IsSpot asked' told) (map f jobs)
job_spots f asked asked' told order jobs t is in_order a e cut =
    let same : map f jobs ≡ drop (placed_count told) (map f order) = dropped f _ order jobs cut ∙ ap (λ n. drop n (map f order)) (placed_same t told e) in
    let P : List (List Query) → Type 0 = λ l. AllByRecursion (IsSpot l told) (map f jobs) in
    let Q : List Spot → Type 0 = λ l. AllByRecursion (IsSpot asked told) l in
    subst P (sym a) (subst Q (sym same) (order_spots section.Jobs asked told _ is in_order.jobs))

abbrev pub parts : Asked → ℕ → List (List Query) → List (List Reply) → List Spot → List Spot → Counts → List ℕ
parts s rows asked told maps jobs t =
    head_text s.cells rows (length s.callers) ++ (spots_text asked told maps ++ (refused_text asked told ++ (spots_text asked told jobs ++ (totals_text (totals_in t) ++ end_line))))

pub log_is : {X : Type 0} (f : X → Spot) (s : Asked) (rows : ℕ) (asked : List (List Query)) (told : List (List Reply)) (order maps jobs : List X) (t : Counts) → asked ≡ s.callers → ((k : Total) → total_in k t ≡ total_of k told)
    → maps ≡ take (t.writes + t.reads) order → jobs ≡ drop (t.writes + t.reads) order → parts s rows asked told (map f maps) (map f jobs) t ≡ log_text s rows told (map f order)
unfolding log_text
log_is f s rows asked told order maps jobs t a e front back =
    let n = placed_same t told e in
    let all = map f order in
    ap (λ l. parts s rows l told (map f maps) (map f jobs) t) a
    ∙ ap (λ l. parts s rows s.callers told l (map f jobs) t) (taken f _ order maps front ∙ ap (λ k. take k all) n)
    ∙ ap (λ l. parts s rows s.callers told (take (placed_count told) all) l t) (dropped f _ order jobs back ∙ ap (λ k. drop k all) n)
    ∙ ap (λ l. head_text s.cells rows (length s.callers) ++ (spots_text s.callers told (take (placed_count told) all) ++ (refused_text s.callers told ++ (spots_text s.callers told (drop (placed_count told) all) ++ (totals_text l ++ end_line))))) (totals_same t told e)
