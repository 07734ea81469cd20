-- What a log's text determines, and where a text is no log.
use Rattle.std.proofs.Common.{◌≡◌, ◌≢◌, ℕ, true, false, List, [], ◌∷◌, ◌++◌, length, refl, sym, ap, subst, ◌∙◌, append-nil, arith}
use Rattle.std.specs.Prelude.{IsSorted}
use Rattle.std.specs.List.{AllByRecursion}
use Rattle.std.specs.List.Sorted.{IsPermutation, IsNonDecreasingBy}
use Rattle.std.proofs.lemmas.List.Sorted.{IsPermutation-sym, IsPermutation-trans}
use Rattle.std.proofs.lemmas.Bool.{false≢true}
use Rattle.query_rules.specs.declared.query.Query.{Query}
use Rattle.query_rules.specs.declared.query.Reply.{Reply}
use Rattle.query_rules.specs.Grammar.{Asked}
use Rattle.log_reader.specs.declared.answered.Answered.{Answered}
use Rattle.log_reader.specs.Listing.{Listing, IsWritable, IsWritableListing, listing_text, line_cmp}
use Rattle.log_reader.specs.LogText.{answered_of, is_log, listing, IsLogText}
use Rattle.log_reader.specs.Grouping.{groups_of, Groups, slot}
use Rattle.log_reader.proofs.Groups.{group_law, groups_again}
use Rattle.log_reader.proofs.Unique.{lists_rise, all_moved, moved_rising, sorted_lines}
use Rattle.log_reader.proofs.Front.{listing_same}

abbrev pub NoLog : List ℕ → Type 0
NoLog text = (s : Asked) (rows : ℕ) (told : List (List Reply)) → IsLogText s rows told text → ⊥

pub no_page : (text : List ℕ) → ((l : Listing) → IsWritableListing l → text ≢ listing_text l) → NoLog text
no_page text miss s rows told h = miss (listing s rows h.lines) h.log.writable h.text_is

-- the lines are the page's
page_is : (p : Listing) (text : List ℕ) → text ≡ listing_text p → IsWritableListing p → (s : Asked) (rows : ℕ) (told : List (List Reply)) (h : IsLogText s rows told text) → listing s rows h.lines ≡ p
page_is p text is fits s rows told h = listing_same (listing s rows h.lines) p h.log.writable fits (sym h.text_is ∙ is)

pub no_log : (p : Listing) (text : List ℕ) → text ≡ listing_text p → IsWritableListing p → is_log p ≡ false → NoLog text
no_log p text is fits bad s rows told h = false≢true (sym bad ∙ sym (ap is_log (page_is p text is fits s rows told h)) ∙ h.log.fits)

pub no_order : (p : Listing) (text : List ℕ) → text ≡ listing_text p → IsWritableListing p → (IsSorted line_cmp p.lines → ⊥) → NoLog text
no_order p text is fits bad s rows told h = bad (subst (λ l. IsSorted line_cmp l) (ap (λ (l : Listing). l.lines) (page_is p text is fits s rows told h)) h.of.sorted)

-- the lines of the lists, by caller and index
lists_are : (asked : List (List Query)) (told : List (List Reply)) (lines sorted : List Answered) → AllByRecursion IsWritable lines → IsPermutation (answered_of 0 asked told) lines → IsPermutation lines sorted → IsNonDecreasingBy slot sorted → answered_of 0 asked told ≡ sorted
lists_are asked told lines sorted fits moved again up =
    let rising = lists_rise asked told (all_moved IsWritable lines (answered_of 0 asked told) (IsPermutation-sym _ _ moved) fits) in
    sorted_lines (answered_of 0 asked told) sorted (IsPermutation-trans _ _ _ moved again) up rising

pub no_lists : (p : Listing) (text : List ℕ) (sorted rest : List Answered) → text ≡ listing_text p → IsWritableListing p → IsPermutation p.lines sorted → IsNonDecreasingBy slot sorted
    → rest ≡ (groups_of p.callers 0 sorted).rest → (length rest ≡ 0 → ⊥) → NoLog text
no_lists p text sorted rest is fits moved up left some s rows told h =
    let page = page_is p text is fits s rows told h in
    let each = subst (λ l. IsPermutation (answered_of 0 s.callers told) l) (ap (λ (l : Listing). l.lines) page) h.of.each in
    let lists = lists_are s.callers told p.lines sorted fits.lines each moved up in
    let count : length s.callers ≡ p.callers = ap (λ (l : Listing). l.callers) page in
    let again = groups_again s.callers told 0 h.of.paired in
    let none : rest ≡ [] = left ∙ ap (λ n. (groups_of n 0 sorted).rest) (sym count) ∙ ap (λ l. (groups_of (length s.callers) 0 l).rest) (sym lists) ∙ ap (λ (g : Groups). g.rest) again in
    some (ap length none)

no_member : (xs : List Answered) → length xs ≡ 0 → xs ≡ []
no_member [] none = refl
no_member (x ∷ xs) none = absurd (omega (arith, none))

pub log_found : (p : Listing) (text : List ℕ) (sorted rest : List Answered) (asked : List (List Query)) (told : List (List Reply)) → text ≡ listing_text p → IsWritableListing p → is_log p ≡ true → IsSorted line_cmp p.lines
    → IsPermutation p.lines sorted → asked ≡ (groups_of p.callers 0 sorted).asked → told ≡ (groups_of p.callers 0 sorted).told → rest ≡ (groups_of p.callers 0 sorted).rest → length rest ≡ 0
    → IsLogText (record { cells = p.cells; callers = asked }) p.rows told text
log_found p text sorted rest asked told is fits good order moved asked_is told_is left none =
    let g = groups_of p.callers 0 sorted in
    let law = group_law p.callers 0 sorted in
    let empty : g.rest ≡ [] = sym left ∙ no_member rest none in
    let whole : answered_of 0 g.asked g.told ≡ sorted = sym (append-nil (answered_of 0 g.asked g.told)) ∙ ap (λ l. answered_of 0 g.asked g.told ++ l) (sym empty) ∙ law.lines_are in
    let back = subst (λ l. IsPermutation l p.lines) (sym whole) (IsPermutation-sym p.lines sorted moved) in
    let s : Asked = record { cells = p.cells; callers = g.asked } in
    let page : p ≡ listing s p.rows p.lines = ap (λ n. record { cells = p.cells; rows = p.rows; callers = n; lines = p.lines }) (sym law.count) in
    let found : IsLogText s p.rows g.told text = record {
      lines = p.lines;
      of = record { paired = law.paired; each = back; sorted = order };
      log = record { writable = subst IsWritableListing page fits; fits = ap is_log (sym page) ∙ good };
      text_is = is ∙ ap listing_text page;
    } in
    subst (λ (l : List (List Query)). IsLogText (record { cells = p.cells; callers = l }) p.rows told text) (sym asked_is) (subst (λ l. IsLogText s p.rows l text) (sym told_is) found)

-- one text, one script, rows and replies
pub determined : (s t : Asked) (m n : ℕ) (said told : List (List Reply)) (text : List ℕ) → IsLogText s m said text → IsLogText t n told text → (s ≡ t) × (m ≡ n) × (said ≡ told)
determined s t m n said told text h k =
    let page : listing s m h.lines ≡ listing t n k.lines = page_is (listing t n k.lines) text k.text_is k.log.writable s m said h in
    let lines : h.lines ≡ k.lines = ap (λ (l : Listing). l.lines) page in
    let count : length s.callers ≡ length t.callers = ap (λ (l : Listing). l.callers) page in
    let each = subst (λ l. IsPermutation (answered_of 0 s.callers said) l) lines h.of.each in
    let rs = lists_rise s.callers said (all_moved IsWritable h.lines _ (IsPermutation-sym _ _ h.of.each) h.log.writable.lines) in
    let rt = lists_rise t.callers told (all_moved IsWritable k.lines _ (IsPermutation-sym _ _ k.of.each) k.log.writable.lines) in
    let same = moved_rising _ _ (IsPermutation-trans _ _ _ each (IsPermutation-sym _ _ k.of.each)) rs rt in
    let groups = sym (groups_again s.callers said 0 h.of.paired) ∙ ap (λ l. groups_of (length s.callers) 0 l) same ∙ ap (λ n. groups_of n 0 (answered_of 0 t.callers told)) count ∙ groups_again t.callers told 0 k.of.paired in
    let asked : s.callers ≡ t.callers = ap (λ (g : Groups). g.asked) groups in
    let cells : s.cells ≡ t.cells = ap (λ (l : Listing). l.cells) page in
    let script : s ≡ t = ap (λ x. record { cells = x; callers = s.callers }) cells ∙ ap (λ x. record { cells = t.cells; callers = x }) asked in
    (script, ap (λ (l : Listing). l.rows) page, ap (λ (g : Groups). g.told) groups)
