-- A log's text, by its spots and by its lines: each gives the other.
use Rattle.std.proofs.Common.{◌≡◌, ℕ, zero, suc, ◌+◌, ◌<◌, ◌≤◌, ◌^◌, Bool, true, false, cond, List, [], ◌∷◌, ◌++◌, length, map, filter, take, drop, flat_map, sum_by, nat_lt, nat_le, ◌≢◌, get_or, set, swap, IsPermutation, refl, sym, ap, ◌∙◌, subst, append_assoc, arith, rules, tests}
use Rattle.std.specs.Prelude.{IsSorted}
use Rattle.std.specs.List.{AllByRecursion, AllZip, list_all}
use Rattle.std.proofs.lemmas.Bool.{and_parts}
use Rattle.std.proofs.lemmas.List.{length-map, map-set, get_or-map}
use Rattle.std.proofs.lemmas.List.Concat.{flat_map-append}
use Rattle.std.proofs.lemmas.List.Sums.{sum_by-cons}
use Rattle.std.proofs.lemmas.List.Sorted.{IsPermutation-refl, IsPermutation-sym, IsPermutation-trans, IsPermutation-append, IsPermutation-map, length_permutation, IsPermutation-keeps, IsPermutation-swap}
use Rattle.std.proofs.lemmas.Slice.Zip.{AllZip-long}
use Rattle.query_rules.specs.declared.query.Query.{Query}
use Rattle.query_rules.specs.declared.query.Reply.{Reply}
use Rattle.query_rules.specs.declared.query.Reply.TheVariants.{Placed, Busy, Late, Job}
use Rattle.query_rules.specs.declared.query.Section.{Section}
use Rattle.query_rules.specs.declared.query.Section.TheVariants.{Maps, Jobs}
use Rattle.query_rules.specs.declared.query.Spot.{Spot}
use Rattle.query_rules.specs.Grammar.{Asked, IsScript, TakesBelow, cells_of}
use Rattle.query_rules.specs.History.{IsKindFor}
use Rattle.query_rules.specs.Log.{log_text, head_text, spots_text, refused_text, spots_of, spot_cmp, totals_text, totals_of, end_line, placed_count, IsOrderOf, IsLogOf}
use Rattle.query_text.proofs.Spots.{maps_count}
use Rattle.log_reader.specs.declared.answered.Answered.{Answered}
use Rattle.query_rules.specs.Numbers.{IsNumber, IsQuery, IsReply}
use Rattle.log_reader.specs.Listing.{IsWritable, Listing, IsWritableListing, answered_line, answers_text, tail_text, listing_text, line_cmp, section_of, key_of, lines_totals}
use Rattle.log_reader.specs.LogText.{answered_from, answered_of, IsPaired, is_log, is_answer, has_reply, takes_below, listing, IsLogText}
use Rattle.log_reader.specs.IsLog.{IsNoLog}
use Rattle.log_reader.specs.Reading.{FailsOnly}
use Rattle.log_reader.specs.declared.fault.LogFault.{LogFault}
use Rattle.log_reader.specs.declared.fault.LogFault.TheVariants.{NoMemory, NotALog}
use Rattle.log_reader.proofs.LogLaws.{NoLog, no_page}
use Rattle.log_reader.specs.Grouping.{slot}
use Rattle.log_reader.proofs.Clean.{all_append}
use Rattle.log_reader.proofs.Unique.{Rises, lists_rise, all_moved, all_parts, sorted_lines}
use Rattle.log_reader.proofs.ScriptLaw.{all_true, count_of, log_script}
use Rattle.log_reader.proofs.Orders.{IsIn, IsRefusalLine, spot_of, spots_sorted, lines_sorted, refusals_sorted, refusals_rise, filter_sorted, sorted_append, cross_sections}
use Rattle.log_reader.proofs.Sections.{is_in, section_lines, section_all, filter_all, filter_moved, sections_moved, sections_whole, number_of_section, spots_of_lines, refused_of_lines, lines_at, spots_text_is, totals_are, IsAt}

-- ---- the texts of three sections
abbrev text : List Answered → List ℕ
text lines = flat_map answered_line lines

parts_text : (s : Asked) (rows : ℕ) (told : List (List Reply)) (order maps jobs : List Spot) (lm lr lj : List Answered) → maps ≡ take (placed_count told) order → jobs ≡ drop (placed_count told) order
    → spots_text s.callers told maps ≡ text lm → refused_text s.callers told ≡ text lr → spots_text s.callers told jobs ≡ text lj → totals_of told ≡ lines_totals (lm ++ (lr ++ lj))
    → log_text s rows told order ≡ listing_text (listing s rows (lm ++ (lr ++ lj)))
unfolding log_text listing_text answers_text tail_text
parts_text s rows told order maps jobs lm lr lj front back m r j totals =
    let head : List ℕ = head_text s.cells rows (length s.callers) in
    let tail : List ℕ = totals_text (lines_totals (lm ++ (lr ++ lj))) ++ end_line in
    let a : spots_text s.callers told (take (placed_count told) order) ≡ text lm = ap (spots_text s.callers told) (sym front) ∙ m in
    let b : spots_text s.callers told (drop (placed_count told) order) ≡ text lj = ap (spots_text s.callers told) (sym back) ∙ j in
    let whole : text (lm ++ (lr ++ lj)) ≡ text lm ++ (text lr ++ text lj) = flat_map-append answered_line lm (lr ++ lj) ∙ ap (λ t. text lm ++ t) (flat_map-append answered_line lr lj) in
    ap (λ t. head ++ (t ++ (refused_text s.callers told ++ (spots_text s.callers told (drop (placed_count told) order) ++ (totals_text (totals_of told) ++ end_line))))) a
    ∙ ap (λ t. head ++ (text lm ++ (t ++ (spots_text s.callers told (drop (placed_count told) order) ++ (totals_text (totals_of told) ++ end_line))))) r
    ∙ ap (λ t. head ++ (text lm ++ (text lr ++ (t ++ (totals_text (totals_of told) ++ end_line))))) b
    ∙ ap (λ t. head ++ (text lm ++ (text lr ++ (text lj ++ (totals_text t ++ end_line))))) totals
    ∙ ap (λ t. head ++ (text lm ++ t)) (sym (append_assoc (text lr) (text lj) tail))
    ∙ ap (λ t. head ++ t) (sym (append_assoc (text lm) (text lr ++ text lj) tail))
    ∙ ap (λ t. head ++ (t ++ tail)) (sym whole)

-- ---- refusals have no key
refusals_all : (lines : List Answered) → AllByRecursion IsWritable lines → AllByRecursion IsRefusalLine (section_lines 1 lines)
refusals_all lines fits = pair (section_lines 1 lines) (section_all 1 lines) (filter_all IsWritable (is_in 1) lines fits)
  where
    no_key : (r : Reply) → section_of r ≡ 1 → key_of r ≡ 0
    no_key (Placed place said) h = absurd (omega (arith, h))
    no_key Busy h = refl
    no_key (Late now) h = refl
    no_key (Job at result) h = absurd (omega (arith, h))

    pair : (ls : List Answered) → AllByRecursion (IsIn 1) ls → AllByRecursion IsWritable ls → AllByRecursion IsRefusalLine ls
    pair [] a w = tt
    pair (x ∷ ls) a w = ((a.0, no_key x.reply a.0, w.0), pair ls a.1 w.1)

-- ---- kinds and limits, list by list and line by line
kind_true : (q : Query) (r : Reply) → IsKindFor q r → has_reply q r ≡ true
kind_true q (Placed place said) h = h
kind_true q Busy h = h
kind_true q (Late now) h = h
kind_true q (Job at result) h = h

true_kind : (q : Query) (r : Reply) → has_reply q r ≡ true → IsKindFor q r
true_kind q (Placed place said) h = h
true_kind q Busy h = h
true_kind q (Late now) h = h
true_kind q (Job at result) h = h

pub pairs_from : (asked : List (List Query)) (told : List (List Reply)) → AllZip (AllZip IsKindFor) asked told → IsPaired asked told
pairs_from [] [] h = tt
pairs_from [] (rs ∷ told) h = absurd h
pairs_from (qs ∷ asked) [] h = absurd h
pairs_from (qs ∷ asked) (rs ∷ told) h = (sym (AllZip-long IsKindFor qs rs h.0), pairs_from asked told h.1)

below_true : (cells : ℕ) (cs : List ℕ) → AllByRecursion (λ c. c < cells) cs → list_all (λ c. nat_lt c cells) cs ≡ true
below_true cells [] h = refl
below_true cells (c ∷ cs) h =
    let first : nat_lt c cells ≡ true = search (rules, tests, h.0) in
    rw (first, below_true cells cs h.1) refl

answer_true : (cells c i : ℕ) (q : Query) (r : Reply) → TakesBelow cells q → IsKindFor q r → is_answer cells (record { caller = c; index = i; query = q; reply = r }) ≡ true
answer_true cells c i q r t k = rw (below_true cells (cells_of q) t, kind_true q r k) refl

abbrev Answers : ℕ → Answered → Type 0
Answers cells a = is_answer cells a ≡ true

from_answers : (cells c i : ℕ) (qs : List Query) (rs : List Reply) → AllByRecursion (TakesBelow cells) qs → AllZip IsKindFor qs rs → AllByRecursion (Answers cells) (answered_from c i qs rs)
from_answers cells c i [] rs t k = tt
from_answers cells c i (q ∷ qs) [] t k = absurd k
from_answers cells c i (q ∷ qs) (r ∷ rs) t k = (answer_true cells c i q r t.0 k.0, from_answers cells c (i + 1) qs rs t.1 k.1)

of_answers : (cells c : ℕ) (asked : List (List Query)) (told : List (List Reply)) → AllByRecursion (AllByRecursion (TakesBelow cells)) asked → AllZip (AllZip IsKindFor) asked told → AllByRecursion (Answers cells) (answered_of c asked told)
of_answers cells c [] told t k = tt
of_answers cells c (qs ∷ asked) [] t k = absurd k
of_answers cells c (qs ∷ asked) (rs ∷ told) t k =
    all_append (Answers cells) (answered_from c 0 qs rs) (answered_of (c + 1) asked told) (from_answers cells c 0 qs rs t.0 k.0) (of_answers cells (c + 1) asked told t.1 k.1)

all_from : (test : Answered → Bool) (xs : List Answered) → AllByRecursion (λ x. test x ≡ true) xs → list_all test xs ≡ true
all_from test [] h = refl
all_from test (x ∷ xs) h = rw (h.0, all_from test xs h.1) refl

from_kinds : (cells c i : ℕ) (qs : List Query) (rs : List Reply) → length qs ≡ length rs → AllByRecursion (Answers cells) (answered_from c i qs rs) → AllZip IsKindFor qs rs
from_kinds cells c i [] [] same all = tt
from_kinds cells c i [] (r ∷ rs) same all = absurd (omega (arith, same))
from_kinds cells c i (q ∷ qs) [] same all = absurd (omega (arith, same))
from_kinds cells c i (q ∷ qs) (r ∷ rs) same all = (true_kind q r (and_parts (takes_below cells q) (has_reply q r) all.0).1, from_kinds cells c (i + 1) qs rs (omega (arith, same)) all.1)

of_kinds : (cells c : ℕ) (asked : List (List Query)) (told : List (List Reply)) → IsPaired asked told → AllByRecursion (Answers cells) (answered_of c asked told) → AllZip (AllZip IsKindFor) asked told
of_kinds cells c [] [] paired all = tt
of_kinds cells c [] (rs ∷ told) paired all = absurd paired
of_kinds cells c (qs ∷ asked) [] paired all = absurd paired
of_kinds cells c (qs ∷ asked) (rs ∷ told) paired all =
    let p = all_parts (Answers cells) (answered_from c 0 qs rs) (answered_of (c + 1) asked told) all in
    (from_kinds cells c 0 qs rs paired.0 p.0, of_kinds cells (c + 1) asked told paired.1 p.1)

-- numbers
from_writable : (c i : ℕ) (qs : List Query) (rs : List Reply) → IsNumber c → i + length qs ≤ 2 ^ 64 → AllByRecursion IsQuery qs → AllByRecursion IsReply rs → AllByRecursion IsWritable (answered_from c i qs rs)
from_writable c i [] rs small room asks tells = tt
from_writable c i (q ∷ qs) [] small room asks tells = tt
from_writable c i (q ∷ qs) (r ∷ rs) small room asks tells =
    (record { caller = small; index = omega (arith, room); query = asks.0; reply = tells.0 }, from_writable c (i + 1) qs rs small (omega (arith, room)) asks.1 tells.1)

of_writable : (c : ℕ) (asked : List (List Query)) (told : List (List Reply)) → c + length asked ≤ 2 ^ 64 → sum_by length asked ≤ 2 ^ 64 → AllByRecursion (AllByRecursion IsQuery) asked → AllByRecursion (AllByRecursion IsReply) told → AllByRecursion IsWritable (answered_of c asked told)
of_writable c [] told room few asks tells = tt
of_writable c (qs ∷ asked) [] room few asks tells = tt
of_writable c (qs ∷ asked) (rs ∷ told) room few asks tells =
    let sum = sum_by-cons (length {A = Query}) qs asked in
    all_append IsWritable (answered_from c 0 qs rs) (answered_of (c + 1) asked told)
    (from_writable c 0 qs rs (omega (arith, room)) (omega (arith, sum, few)) asks.0 tells.0)
    (of_writable (c + 1) asked told (omega (arith, room)) (omega (arith, sum, few)) asks.1 tells.1)

from_numbers : (c i : ℕ) (qs : List Query) (rs : List Reply) → length qs ≡ length rs → AllByRecursion IsWritable (answered_from c i qs rs) → AllByRecursion IsQuery qs × AllByRecursion IsReply rs
from_numbers c i [] [] same all = (tt, tt)
from_numbers c i [] (r ∷ rs) same all = absurd (omega (arith, same))
from_numbers c i (q ∷ qs) [] same all = absurd (omega (arith, same))
from_numbers c i (q ∷ qs) (r ∷ rs) same all =
    let more = from_numbers c (i + 1) qs rs (omega (arith, same)) all.1 in
    ((all.0.query, more.0), (all.0.reply, more.1))

of_numbers : (c : ℕ) (asked : List (List Query)) (told : List (List Reply)) → IsPaired asked told → AllByRecursion IsWritable (answered_of c asked told) → AllByRecursion (AllByRecursion IsQuery) asked × AllByRecursion (AllByRecursion IsReply) told
of_numbers c [] [] paired all = (tt, tt)
of_numbers c [] (rs ∷ told) paired all = absurd paired
of_numbers c (qs ∷ asked) [] paired all = absurd paired
of_numbers c (qs ∷ asked) (rs ∷ told) paired all =
    let p = all_parts IsWritable (answered_from c 0 qs rs) (answered_of (c + 1) asked told) all in
    let first = from_numbers c 0 qs rs paired.0 p.0 in
    let more = of_numbers (c + 1) asked told paired.1 p.1 in
    ((first.0, more.0), (first.1, more.1))

-- ---- the spots of lines in order
front_is : (k : ℕ) (xs ys : List Spot) → length xs ≡ k → xs ≡ take k (xs ++ ys)
front_is zero [] ys h = refl
front_is zero (x ∷ xs) ys h = absurd (omega (arith, h))
front_is (suc k) [] ys h = absurd (omega (arith, h))
front_is (suc k) (x ∷ xs) ys h = ap (λ l. x ∷ l) (front_is k xs ys (omega (arith, h)))

back_is : (k : ℕ) (xs ys : List Spot) → length xs ≡ k → ys ≡ drop k (xs ++ ys)
back_is zero [] ys h = refl
back_is zero (x ∷ xs) ys h = absurd (omega (arith, h))
back_is (suc k) [] ys h = absurd (omega (arith, h))
back_is (suc k) (x ∷ xs) ys h = back_is k xs ys (omega (arith, h))

order_from : (section : Section) (asked : List (List Query)) (told : List (List Reply)) (lines : List Answered) → IsPaired asked told → IsPermutation (answered_of 0 asked told) lines → IsSorted line_cmp lines
    → IsOrderOf section told (map spot_of (section_lines (number_of_section section) lines))
order_from section asked told lines paired each up =
    let k : ℕ = number_of_section section in
    record {
      each = subst (λ l. IsPermutation l (map spot_of (section_lines k lines))) (sym (spots_of_lines section 0 asked told paired))
          (IsPermutation-map spot_of (section_lines k (answered_of 0 asked told)) (section_lines k lines) (filter_moved (is_in k) (answered_of 0 asked told) lines each));
      sorted = spots_sorted k (section_lines k lines) (section_all k lines) (filter_sorted (is_in k) lines up);
    }

refused_is : (asked : List (List Query)) (told : List (List Reply)) → refused_text asked told ≡ text (section_lines 1 (answered_of 0 asked told))
unfolding refused_text
refused_is asked told = refused_of_lines 0 asked told

rises_one : (b : Bool) (x : Answered) (xs : List Answered) → AllByRecursion (λ b. slot x < slot b) xs → Rises xs → Rises (cond b (x ∷ xs) xs)
rises_one true x xs head rest = (head, rest)
rises_one false x xs head rest = rest

rises_filter : (p : Answered → Bool) (xs : List Answered) → Rises xs → Rises (filter p xs)
rises_filter p [] up = tt
rises_filter p (x ∷ xs) up = rises_one (p x) x (filter p xs) (filter_all (λ b. slot x < slot b) p xs up.0) (rises_filter p xs up.1)

pub log_from : (s : Asked) (rows : ℕ) (told : List (List Reply)) (bytes : List ℕ) → IsLogText s rows told bytes → IsLogOf s rows told bytes
log_from s rows told bytes h =
    let lines : List Answered = h.lines in
    let all : List Answered = answered_of 0 s.callers told in
    let paired = h.of.paired in
    let each = h.of.each in
    let up = h.of.sorted in
    let fits : AllByRecursion IsWritable all = all_moved IsWritable lines all (IsPermutation-sym all lines each) h.log.writable.lines in
    let m : List Answered = section_lines 0 lines in
    let r : List Answered = section_lines 1 lines in
    let j : List Answered = section_lines 2 lines in
    let whole : lines ≡ m ++ (r ++ j) = sections_whole lines up in
    let maps : List Spot = map spot_of m in
    let jobs : List Spot = map spot_of j in
    let maps_in = order_from Maps s.callers told lines paired each up in
    let jobs_in = order_from Jobs s.callers told lines paired each up in
    let long : length maps ≡ placed_count told = length_permutation (spots_of Maps 0 told) maps maps_in.each ∙ maps_count 0 told in
    let front : maps ≡ take (placed_count told) (maps ++ jobs) = front_is (placed_count told) maps jobs long in
    let back : jobs ≡ drop (placed_count told) (maps ++ jobs) = back_is (placed_count told) maps jobs long in
    let at = all_moved (IsAt s.callers told) all lines each (lines_at s.callers told) in
    let refused : section_lines 1 all ≡ r =
    sorted_lines (section_lines 1 all) r (filter_moved (is_in 1) all lines each)
    (refusals_rise r (refusals_all lines h.log.writable.lines) (filter_sorted (is_in 1) lines up))
    (rises_filter (is_in 1) all (lists_rise s.callers told fits)) in
    let totals = totals_are s.callers told lines paired each ∙ ap lines_totals whole in
    let same = parts_text s rows told (maps ++ jobs) maps jobs m r j front back
    (spots_text_is s.callers told m (filter_all (IsAt s.callers told) (is_in 0) lines at))
    (refused_is s.callers told ∙ ap text refused)
    (spots_text_is s.callers told j (filter_all (IsAt s.callers told) (is_in 2) lines at)) totals in
    let numbers = of_numbers 0 s.callers told paired fits in
    let good = all_moved (Answers s.cells) lines all (IsPermutation-sym all lines each) (all_true (is_answer s.cells) lines (and_parts _ (list_all (is_answer s.cells) lines) h.log.fits).1) in
    record {
      script = log_script s rows told bytes h;
      asks = numbers.0;
      room = h.log.writable.rows;
      tells = numbers.1;
      kinds = of_kinds s.cells 0 s.callers told paired good;
      order = maps ++ jobs;
      in_order = record { maps = subst (IsOrderOf Maps told) front maps_in; jobs = subst (IsOrderOf Jobs told) back jobs_in };
      text_is = h.text_is ∙ ap (λ l. listing_text (listing s rows l)) whole ∙ sym same;
    }

-- ---- lines from their spots
swap_map : {X Y : Type 0} (f : X → Y) (zs : List X) (i j : ℕ) → i < length zs → j < length zs → swap (map f zs) i j ≡ map f (swap zs i j)
swap_map f [] i j a b = refl
swap_map {X} f (z ∷ zs) i j a b =
    let l : List X = z ∷ zs in
    ap (λ v. set (set (map f l) i v) j (get_or (map f l) i (f z))) (get_or-map f l j z (f z) b)
    ∙ ap (λ v. set (set (map f l) i (f (get_or l j z))) j v) (get_or-map f l i z (f z) a)
    ∙ sym (ap (λ w. set w j (f (get_or l i z))) (map-set f l i (get_or l j z)))
    ∙ sym (map-set f (set l i (get_or l j z)) j (get_or l i z))

-- what images make in another order, some order of what they are of makes
record Unmapped {X Y : Type 0} (f : X → Y) (xs : List X) (ys : List Y) : Type 0 where
  items : List X
  are : ys ≡ map f items
  moved : IsPermutation xs items

unmapped_step : {X Y : Type 0} (f : X → Y) (xs : List X) (l : List Y) (i j : ℕ) → i < length l → j < length l → Unmapped f xs l → Unmapped f xs (swap l i j)
unmapped_step {X} f xs l i j a b h =
    let n : length l ≡ length h.items = ap length h.are ∙ length-map h.items f in
    let p : i < length h.items = omega (arith, n, a) in
    let q : j < length h.items = omega (arith, n, b) in
    record {
      items = swap h.items i j;
      are = ap (λ z. swap z i j) h.are ∙ swap_map f h.items i j p q;
      moved = IsPermutation-trans xs h.items (swap h.items i j) h.moved (IsPermutation-swap h.items (swap h.items i j) i j p q refl);
    }

unmapped : {X Y : Type 0} (f : X → Y) (xs : List X) (ys : List Y) → IsPermutation (map f xs) ys → Unmapped f xs ys
unmapped f xs ys h = IsPermutation-keeps (map f xs) (λ l. Unmapped f xs l) (record { items = xs; are = refl; moved = IsPermutation-refl xs }) (λ l i j a b before. unmapped_step f xs l i j a b before) ys h

at_least : (k m : ℕ) (lines : List Answered) → m ≤ k → AllByRecursion (IsIn k) lines → AllByRecursion (λ b. m ≤ section_of b.reply) lines
at_least k m [] le all = tt
at_least k m (b ∷ lines) le all = (let h = all.0 in omega (arith, le, h), at_least k m lines le all.1)

-- the lines of a section, in the order of its spots
record SectionOf (section : Section) (asked : List (List Query)) (told : List (List Reply)) (spots : List Spot) : Type 0 where
  lines : List Answered
  are : spots ≡ map spot_of lines
  moved : IsPermutation (section_lines (number_of_section section) (answered_of 0 asked told)) lines
  in_section : AllByRecursion (IsIn (number_of_section section)) lines
  sorted : IsSorted line_cmp lines
  text_is : spots_text asked told spots ≡ text lines

section_from : (section : Section) (asked : List (List Query)) (told : List (List Reply)) (spots : List Spot) → IsPaired asked told → IsOrderOf section told spots → SectionOf section asked told spots
section_from section asked told spots paired order =
    let k : ℕ = number_of_section section in
    let own : List Answered = section_lines k (answered_of 0 asked told) in
    let u = unmapped spot_of own spots (subst (λ l. IsPermutation l spots) (spots_of_lines section 0 asked told paired) order.each) in
    let inside = all_moved (IsIn k) own u.items u.moved (section_all k (answered_of 0 asked told)) in
    let at = all_moved (IsAt asked told) own u.items u.moved (filter_all (IsAt asked told) (is_in k) (answered_of 0 asked told) (lines_at asked told)) in
    record {
      lines = u.items;
      are = u.are;
      moved = u.moved;
      in_section = inside;
      sorted = lines_sorted k u.items inside (subst (λ l. IsSorted spot_cmp l) u.are order.sorted);
      text_is = ap (spots_text asked told) u.are ∙ spots_text_is asked told u.items at;
    }

is_log_true : (cells rows callers : ℕ) (lines : List Answered) → 0 < cells → cells ≤ 64 → callers ≤ 64 → length lines ≤ 1000000 → AllByRecursion (Answers cells) lines → is_log (record { cells = cells; rows = rows; callers = callers; lines = lines }) ≡ true
is_log_true cells rows callers lines some few crowd all good =
    let a : nat_lt 0 cells ≡ true = search (rules, tests, some) in
    let b : nat_le cells 64 ≡ true = search (rules, tests, few) in
    let c : nat_le callers 64 ≡ true = search (rules, tests, crowd) in
    let d : nat_le (length lines) 1000000 ≡ true = search (rules, tests, all) in
    rw (a, b, c, d, all_from (is_answer cells) lines good) refl

pub lines_from : (s : Asked) (rows : ℕ) (told : List (List Reply)) (bytes : List ℕ) → IsLogOf s rows told bytes → IsLogText s rows told bytes
lines_from s rows told bytes h =
    let script = h.script in
    let few_cells = script.cells in
    let crowd = script.crowd in
    let few = script.few in
    let all : List Answered = answered_of 0 s.callers told in
    let paired = pairs_from s.callers told h.kinds in
    let fits : AllByRecursion IsWritable all = of_writable 0 s.callers told (omega (arith, crowd)) (omega (arith, few)) h.asks h.tells in
    let m = section_from Maps s.callers told (take (placed_count told) h.order) paired h.in_order.maps in
    let j = section_from Jobs s.callers told (drop (placed_count told) h.order) paired h.in_order.jobs in
    let r : List Answered = section_lines 1 all in
    let lines : List Answered = m.lines ++ (r ++ j.lines) in
    let each : IsPermutation all lines = IsPermutation-trans all _ lines (sections_moved all)
    (IsPermutation-append (section_lines 0 all) m.lines (r ++ section_lines 2 all) (r ++ j.lines) m.moved (IsPermutation-append r r (section_lines 2 all) j.lines (IsPermutation-refl r) j.moved)) in
    let in_one = section_all 1 all in
    let later = sorted_append r j.lines (cross_sections 1 2 r j.lines (omega arith) in_one (at_least 2 2 j.lines (omega arith) j.in_section))
    (refusals_sorted (is_in 1) all (lists_rise s.callers told fits) (refusals_all all fits)) j.sorted in
    let up = sorted_append m.lines (r ++ j.lines)
    (cross_sections 0 1 m.lines (r ++ j.lines) (omega arith) m.in_section (all_append (λ b. 1 ≤ section_of b.reply) r j.lines (at_least 1 1 r (omega arith) in_one) (at_least 2 1 j.lines (omega arith) j.in_section)))
    m.sorted later in
    let good = all_moved (Answers s.cells) all lines each (of_answers s.cells 0 s.callers told script.taken h.kinds) in
    let count = count_of 0 s.callers told paired in
    let long = length_permutation all lines each in
    record {
      lines = lines;
      of = record { paired = paired; each = each; sorted = up };
      log = record {
        writable = record { cells = omega (arith, few_cells); rows = h.room; callers = omega (arith, crowd); lines = all_moved IsWritable all lines each fits };
        fits = is_log_true s.cells rows (length s.callers) lines script.some few_cells crowd (omega (arith, count, long, few)) good;
      };
      text_is = h.text_is ∙ parts_text s rows told h.order _ _ m.lines r j.lines refl refl m.text_is (refused_is s.callers told) j.text_is (totals_are s.callers told lines paired each);
    }

-- ---- what is no log by its lines is none
pub no_logs : (bytes : List ℕ) → NoLog bytes → IsNoLog bytes
no_logs bytes none s rows told h = none s rows told (lines_from s rows told bytes h)

-- where reading the lines fails, so does reading the log
pub page_none : (e : LogFault) (bytes : List ℕ) → FailsOnly e ((l : Listing) → IsWritableListing l → bytes ≢ listing_text l) → FailsOnly e (IsNoLog bytes)
page_none NoMemory bytes none = tt
page_none NotALog bytes none = no_logs bytes (no_page bytes none)

pub script_from : {s : Asked} (rows : ℕ) (told : List (List Reply)) (bytes : List ℕ) → IsLogText s rows told bytes → IsScript s
script_from {s} rows told bytes h = log_script s rows told bytes h
