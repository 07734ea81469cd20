-- Bytes that begin with a line, with two, with the lines of a log.
use Rattle.std.proofs.Common.{◌≡◌, ◌≢◌, ℕ, ◌<◌, Bool, true, false, List, [], ◌∷◌, ◌++◌, length, get_or, MatchBool, decimal, Option, Some, None, IfSome, IfNone, codes, flat_map, append-nil, Bor, refl, sym, ap, ◌∙◌, append_assoc, length-append, arith}
use Rattle.std.proofs.lemmas.List.{append_cancel_left}
use Rattle.std.proofs.lemmas.List.Concat.{flat_map-append}
use Rattle.std.specs.List.{AllByRecursion}
use Rattle.query_rules.specs.Words.{line_of}
use Rattle.query_rules.specs.Verbs.{query_words}
use Rattle.query_rules.specs.Log.{number_line, tables_line, head_text, totals_text, end_line, answer_line, place_words, reply_words}
use Rattle.query_rules.specs.declared.query.Query.{Query}
use Rattle.query_rules.specs.declared.query.Reply.{Reply}
use Rattle.query_rules.specs.declared.query.Reply.TheVariants.{Placed, Busy, Late, Job}
use Rattle.query_rules.specs.declared.query.Total.{Total}
use Rattle.log_reader.specs.declared.answered.Answered.{Answered}
use Rattle.log_reader.specs.declared.lines.Tables.{Tables}
use Rattle.log_reader.specs.Listing.{IsWritable, answered_line, answered_words, answers_text, tail_text, lines_totals, listing_text, Listing, IsWritableListing}
use Rattle.log_reader.specs.Fronts.{NoLine, NoTables, NoHead}
use Rattle.log_reader.proofs.Clean.{front_same, rest_same}
use Rattle.log_reader.proofs.Again.{answered_form, tables_form, AreTables}

regroup : (bytes made n t rest r : List ℕ) → bytes ≡ made ++ rest → made ≡ n → rest ≡ t ++ r → bytes ≡ (n ++ t) ++ r
regroup bytes made n t rest r is same tail = is ∙ ap (λ m. m ++ rest) same ∙ ap (λ x. n ++ x) tail ∙ sym (append_assoc n t r)

ungroup : (bytes made n t rest r : List ℕ) → bytes ≡ made ++ rest → made ≡ n → bytes ≡ (n ++ t) ++ r → rest ≡ t ++ r
ungroup bytes made n t rest r is same whole = append_cancel_left n rest (t ++ r) (sym (is ∙ ap (λ m. m ++ rest) same) ∙ whole ∙ append_assoc n t r)

pub head_found : (r : Option (Tables × Bor (List ℕ))) (bytes made rest : List ℕ) → bytes ≡ made ++ rest → made ≡ number_line (codes "querylog") 1
    → IfSome r (λ x. rest ≡ tables_line x.0.cells x.0.rows x.0.callers ++ x.1.now) → IfSome r (λ x. bytes ≡ head_text x.0.cells x.0.rows x.0.callers ++ x.1.now)
unfolding head_text
head_found (Some x) bytes made rest is same found = regroup bytes made _ _ rest x.1.now is same found
head_found None bytes made rest is same found = tt

pub head_none : (r : Option (Tables × Bor (List ℕ))) (bytes made rest : List ℕ) → bytes ≡ made ++ rest → made ≡ number_line (codes "querylog") 1
    → IfNone r (NoTables rest) → IfNone r (NoHead bytes)
unfolding head_text
head_none (Some x) bytes made rest is same none = tt
head_none None bytes made rest is same none = λ cells rows callers h i j t whole. none cells rows callers h i j t (ungroup bytes made _ _ rest t is same whole)

pub no_head : (bytes made : List ℕ) → made ≡ number_line (codes "querylog") 1 → ((t : List ℕ) → bytes ≢ made ++ t) → NoHead bytes
unfolding head_text
no_head bytes made same none = λ cells rows callers h i j t whole. none (tables_line cells rows callers ++ t) (whole ∙ append_assoc _ (tables_line cells rows callers) t ∙ ap (λ m. m ++ (tables_line cells rows callers ++ t)) (sym same))

-- ---- the lines of queries and replies
line_bytes : (ws : List (List ℕ)) → 0 < length (line_of ws)
line_bytes [] = omega arith
line_bytes (w ∷ ws) = grind (arith, length-append)

line_long : (a : Answered) → 0 < length (answered_line a)
unfolding answered_line answer_line
line_long a = line_bytes (answered_words a)

pub answers_next : (bytes rest after : List ℕ) (lines : List Answered) (a : Answered) → bytes ≡ answers_text lines ++ rest → rest ≡ answered_line a ++ after → bytes ≡ answers_text (lines ++ a ∷ []) ++ after
unfolding answers_text
answers_next bytes rest after lines a is next =
    is ∙ ap (λ r. flat_map answered_line lines ++ r) next ∙ sym (append_assoc (flat_map answered_line lines) (answered_line a) after)
    ∙ ap (λ t. t ++ after) (sym (flat_map-append answered_line lines (a ∷ []) ∙ ap (λ t. flat_map answered_line lines ++ t) (append-nil (answered_line a))))

pub answers_shorter : (rest after : List ℕ) (a : Answered) → rest ≡ answered_line a ++ after → length after < length rest
answers_shorter rest after a next =
    let some = line_long a in
    let same : length rest ≡ length (answered_line a ++ after) = ap length next in
    grind (arith, some, same, length-append)

-- ---- the totals and the end
pub tail_some : (b : Bool) (bytes rest : List ℕ) (totals : List (Total × ℕ)) (lines : List Answered) → totals ≡ lines_totals lines → bytes ≡ totals_text totals ++ rest → MatchBool b (rest ≡ end_line) (rest ≢ end_line) → MatchBool b (bytes ≡ tail_text lines) (bytes ≢ tail_text lines)
unfolding tail_text
tail_some true bytes rest totals lines same is end = is ∙ ap (λ r. totals_text totals ++ r) end ∙ ap (λ t. totals_text t ++ end_line) same
tail_some false bytes rest totals lines same is miss = λ whole. miss (append_cancel_left (totals_text totals) rest end_line (sym is ∙ whole ∙ ap (λ t. totals_text t ++ end_line) (sym same)))

pub tail_none : (bytes : List ℕ) (totals : List (Total × ℕ)) (lines : List Answered) → totals ≡ lines_totals lines → ((t : List ℕ) → bytes ≢ totals_text totals ++ t) → bytes ≢ tail_text lines
unfolding tail_text
tail_none bytes totals lines same miss whole = miss end_line (whole ∙ ap (λ t. totals_text t ++ end_line) (sym same))

-- ---- a text determines its lines
pub answers_same : (xs ys : List Answered) (r s : List ℕ) → AllByRecursion IsWritable xs → AllByRecursion IsWritable ys → NoLine r → NoLine s → answers_text xs ++ r ≡ answers_text ys ++ s → (xs ≡ ys) × (r ≡ s)
unfolding answers_text answered_line answer_line
answers_same [] [] r s fx fy nr ns is = (refl, is)
answers_same [] (y ∷ ys) r s fx fy nr ns is = absurd (nr y fy.0 (answers_text ys ++ s) (is ∙ append_assoc (answered_line y) (answers_text ys) s))
answers_same (x ∷ xs) [] r s fx fy nr ns is = absurd (ns x fx.0 (answers_text xs ++ r) (sym is ∙ append_assoc (answered_line x) (answers_text xs) r))
answers_same (x ∷ xs) (y ∷ ys) r s fx fy nr ns is =
    let cut : answered_line x ++ (answers_text xs ++ r) ≡ answered_line y ++ (answers_text ys ++ s) =
    sym (append_assoc (answered_line x) (answers_text xs) r) ∙ is ∙ append_assoc (answered_line y) (answers_text ys) s in
    let first : x ≡ y = front_same _ _ _ answered_form x y _ _ fx.0 fy.0 cut in
    let more = answers_same xs ys r s fx.1 fy.1 nr ns (rest_same _ _ _ answered_form x y _ _ fx.0 fy.0 cut) in
    (ap (λ z. z ∷ xs) first ∙ ap (λ zs. y ∷ zs) more.0, more.1)

first_byte : (ws : List (List ℕ)) (lines : List Answered) (t : List ℕ) (b : ℕ) → get_or (line_of ws ++ t) 0 0 ≡ b → b ≢ 113 → tail_text lines ≢ line_of ws ++ t
unfolding tail_text totals_text number_line
first_byte ws lines t b is other whole = other (sym is ∙ ap (λ l. get_or l 0 0) (sym whole))

abbrev line_words : ℕ → ℕ → Query → Reply → List (List ℕ)
line_words caller index q reply = place_words reply ++ (decimal caller ∷ decimal index ∷ (query_words q ++ codes "=" ∷ reply_words reply))

no_line_at : (caller index : ℕ) (q : Query) (reply : Reply) (lines : List Answered) (t : List ℕ) → tail_text lines ≢ line_of (line_words caller index q reply) ++ t
no_line_at caller index q (Placed place said) lines t whole = first_byte (line_words caller index q (Placed place said)) lines t 109 refl (λ h. omega (arith, h)) whole
no_line_at caller index q Busy lines t whole = first_byte (line_words caller index q Busy) lines t 114 refl (λ h. omega (arith, h)) whole
no_line_at caller index q (Late now) lines t whole = first_byte (line_words caller index q (Late now)) lines t 114 refl (λ h. omega (arith, h)) whole
no_line_at caller index q (Job at result) lines t whole = first_byte (line_words caller index q (Job at result)) lines t 106 refl (λ h. omega (arith, h)) whole

pub tail_no_line : (lines : List Answered) → NoLine (tail_text lines)
unfolding answered_line answer_line
tail_no_line lines a fits t whole = no_line_at a.caller a.index a.query a.reply lines t whole

-- ---- the whole text
head_same : (c d m k n o : ℕ) (x y : List ℕ) → AreTables (c, d, m) → AreTables (k, n, o) → head_text c d m ++ x ≡ head_text k n o ++ y → x ≡ y
unfolding head_text tables_line
head_same c d m k n o x y f g is =
    let name = number_line (codes "querylog") 1 in
    let cut : tables_line c d m ++ x ≡ tables_line k n o ++ y = append_cancel_left name _ _ (sym (append_assoc name (tables_line c d m) x) ∙ is ∙ append_assoc name (tables_line k n o) y) in
    rest_same _ _ _ tables_form (c, d, m) (k, n, o) x y f g cut

pub page_found : (l : Listing) (bytes rest left : List ℕ) → bytes ≡ head_text l.cells l.rows l.callers ++ rest → rest ≡ answers_text l.lines ++ left → left ≡ tail_text l.lines → bytes ≡ listing_text l
unfolding listing_text
page_found l bytes rest left head answers tail =
    head ∙ ap (λ r. head_text l.cells l.rows l.callers ++ r) (answers ∙ ap (λ r. answers_text l.lines ++ r) tail)

pub page_headless : (bytes : List ℕ) → NoHead bytes → (l : Listing) → IsWritableListing l → bytes ≢ listing_text l
unfolding listing_text
page_headless bytes none l fits whole = none l.cells l.rows l.callers fits.cells fits.rows fits.callers _ whole

pub page_other : (c d m : ℕ) (lines : List Answered) (bytes rest left : List ℕ) → AreTables (c, d, m) → AllByRecursion IsWritable lines → bytes ≡ head_text c d m ++ rest → rest ≡ answers_text lines ++ left → NoLine left → left ≢ tail_text lines
    → (l : Listing) → IsWritableListing l → bytes ≢ listing_text l
unfolding listing_text
page_other c d m lines bytes rest left numbers fits head answers stop other l fl whole =
    let after : rest ≡ answers_text l.lines ++ tail_text l.lines = head_same c d m l.cells l.rows l.callers rest _ numbers (fl.cells, fl.rows, fl.callers) (sym head ∙ whole) in
    let same = answers_same lines l.lines left (tail_text l.lines) fits fl.lines stop (tail_no_line l.lines) (sym answers ∙ after) in
    other (same.1 ∙ ap tail_text (sym same.0))

pub listing_same : (l k : Listing) → IsWritableListing l → IsWritableListing k → listing_text l ≡ listing_text k → l ≡ k
unfolding listing_text head_text tables_line
listing_same l k fl fk is =
    let name = number_line (codes "querylog") 1 in
    let x = answers_text l.lines ++ tail_text l.lines in
    let y = answers_text k.lines ++ tail_text k.lines in
    let nl : AreTables (l.cells, l.rows, l.callers) = (fl.cells, fl.rows, fl.callers) in
    let nk : AreTables (k.cells, k.rows, k.callers) = (fk.cells, fk.rows, fk.callers) in
    let cut : tables_line l.cells l.rows l.callers ++ x ≡ tables_line k.cells k.rows k.callers ++ y =
    append_cancel_left name _ _ (sym (append_assoc name (tables_line l.cells l.rows l.callers) x) ∙ is ∙ append_assoc name (tables_line k.cells k.rows k.callers) y) in
    let tables = front_same _ _ _ tables_form (l.cells, l.rows, l.callers) (k.cells, k.rows, k.callers) x y nl nk cut in
    let rest = rest_same _ _ _ tables_form (l.cells, l.rows, l.callers) (k.cells, k.rows, k.callers) x y nl nk cut in
    let lines = (answers_same l.lines k.lines (tail_text l.lines) (tail_text k.lines) fl.lines fk.lines (tail_no_line l.lines) (tail_no_line k.lines) rest).0 in
    ap (λ (t : ℕ × ℕ × ℕ). record { cells = t.0; rows = t.1; callers = t.2; lines = l.lines }) tables
    ∙ ap (λ z. record { cells = k.cells; rows = k.rows; callers = k.callers; lines = z }) lines
