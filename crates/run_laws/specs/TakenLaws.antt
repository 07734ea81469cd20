-- One caller's passes taken in: the laws of a loop that joins.
use Rattle.std.specs.Prelude.{◌≡◌, ℕ, ◌+◌, ◌<◌, Bool, false, cond, List, [], ◌∷◌, ◌++◌, length, take, get_or}
use Rattle.std.proofs.Common.{refl, sym, ap, ◌∙◌, subst, append_assoc, append-nil, arith}
use Rattle.std.proofs.Math.Seq.{take-length}
use Rattle.std.specs.List.{AllByRecursion, AllZip}
use Rattle.std.proofs.lemmas.List.{take_more, length-append}
use mathlib.Core.Logic.{dite}
use native.Mathlib.Decide.{dec_lt}
use Rattle.view_sums.specs.Sums.{total}
use Rattle.waiter_chain.specs.Chains.{covers, within}
use Rattle.waiter_chain.specs.Steps.{joined}
use Rattle.waiter_chain.specs.declared.view.View.{View as ChainView}
use Rattle.dist_mutex.specs.Passes.{SameNumbers}
use Rattle.query_rules.specs.declared.query.Query.{Query}
use Rattle.query_rules.specs.declared.query.Reply.{Reply}
use Rattle.query_rules.specs.declared.query.Reply.TheVariants.{Placed, Busy, Late, Job}
use Rattle.query_rules.specs.History.{AnswersEachOnce}
use Rattle.query_rules.specs.Numbers.{IsReply}
use Rattle.hall.specs.declared.view.Footprint.{Footprint}
use Rattle.hall.specs.declared.view.StepKind.TheVariants.{Join}
use Rattle.hall.specs.declared.view.Shape.{Shape}
use Rattle.hall.specs.declared.view.Standing.TheVariants.{Away}
use Rattle.hall.specs.declared.view.StepEntry.{StepEntry}
use Rattle.hall.specs.declared.view.View.{View}
use Rattle.hall.specs.Numbers.{width}
use Rattle.lock_model.specs.Locks.{Has}
use Rattle.hall.specs.Treading.{Treads}
use Rattle.hall.specs.Views.{joined_view}
use Rattle.hall.specs.Widths.{width_join}
use Rattle.map_cargo.specs.declared.entry.Part.{Part}
use Rattle.map_cargo.specs.declared.entry.Told.{Told}
use Rattle.map_cargo.specs.History.{joined_part}
use Rattle.map_cargo.specs.Licences.{licence_joined, still_licensed}
use Rattle.query_cells.specs.Asked.{KeepsNumbers, LedgerParcel, LedgerRun}
use Rattle.query_cells.specs.LicenceLaws.{AllBacked, AllTrod, IsBacked, OneMayTread, backed_longer, list_backed, trod_from, trod_joined}
use Rattle.run_laws.specs.AskedLaws.{all_as, all_push, zip_push}
use Rattle.run_laws.specs.Callers.{HasAsked, IsBehind, IsFresh, IsPlaced, IsTaken, IsWhole, seats_for}
use Rattle.run_laws.specs.Lists.{all_answers, all_told, answers_from, told_from}

-- ---- numbers
-- a pass with the same numbers covers as many
pub same_width : (v w : View Part) → KeepsNumbers v w → width w ≡ width v
same_width v w k = ap (λ (n : ℕ). n + total (λ (r : ℕ × ℕ). r.1) w.taken) k.span ∙ ap (λ (l : List (ℕ × ℕ)). v.span + total (λ (r : ℕ × ℕ). r.1) l) k.taken

-- and the same ones
pub same_covers : (n : ℕ) (v w : ChainView LedgerParcel) → SameNumbers v w → covers n w ≡ covers n v
same_covers n v w s =
    ap (λ (b : Bool). cond b 0 (within n (w.number, w.spare) + total (within n) w.past)) s.gone
    ∙ ap (λ (k : ℕ). cond v.gone 0 (within n (k, w.spare) + total (within n) w.past)) s.number
    ∙ ap (λ (k : ℕ). cond v.gone 0 (within n (v.number, k) + total (within n) w.past)) s.spare
    ∙ ap (λ (l : List (ℕ × ℕ)). cond v.gone 0 (within n (v.number, v.spare) + total (within n) l)) s.past

-- ---- lists of callers
none_told : (caller : ℕ) (callers : List (List Query)) → all_told caller callers [] ≡ []
none_told caller [] = refl
none_told caller (qs ∷ callers) = refl

none_answered : (caller : ℕ) (callers : List (List Query)) → all_answers caller callers [] ≡ []
none_answered caller [] = refl
none_answered caller (qs ∷ callers) = refl

none_backed : (shape : Shape) (steps : List StepEntry) (caller : ℕ) (callers : List (List Query)) → AllBacked shape steps caller callers []
none_backed shape steps caller [] = tt
none_backed shape steps caller (qs ∷ callers) = tt

-- the replies to one caller more
pub all_told_more : (first last : ℕ) (callers : List (List Query)) (told : List (List Reply)) (replies : List Reply) → length told < length callers → last ≡ first + length told
    → all_told first callers (told ++ replies ∷ []) ≡ told_from last 0 (get_or callers (length told) []) replies ++ all_told first callers told
all_told_more first last [] told replies low at = absurd (omega (arith, low))
all_told_more first last (qs ∷ callers) [] replies low at =
    let same : first ≡ last = omega (arith, at) in
    ap (λ (l : List Told). l ++ told_from first 0 qs replies) (none_told (first + 1) callers) ∙ ap (λ n. told_from n 0 qs replies) same ∙ sym (append-nil (told_from last 0 qs replies))
all_told_more first last (qs ∷ callers) (rs ∷ told) replies low at =
    ap (λ (l : List Told). l ++ told_from first 0 qs rs) (all_told_more (first + 1) last callers told replies (omega (arith, low)) (omega (arith, at)))
    ∙ append_assoc (told_from last 0 (get_or callers (length told) []) replies) (all_told (first + 1) callers told) (told_from first 0 qs rs)

pub all_answers_more : (first last : ℕ) (callers : List (List Query)) (told : List (List Reply)) (replies : List Reply) → length told < length callers → last ≡ first + length told
    → all_answers first callers (told ++ replies ∷ []) ≡ all_answers first callers told ++ answers_from last 0 (get_or callers (length told) []) replies
all_answers_more first last [] told replies low at = absurd (omega (arith, low))
all_answers_more first last (qs ∷ callers) [] replies low at =
    let same : first ≡ last = omega (arith, at) in
    ap (λ (l : List LedgerRun). answers_from first 0 qs replies ++ l) (none_answered (first + 1) callers) ∙ append-nil (answers_from first 0 qs replies) ∙ ap (λ n. answers_from n 0 qs replies) same
all_answers_more first last (qs ∷ callers) (rs ∷ told) replies low at =
    ap (λ (l : List LedgerRun). answers_from first 0 qs rs ++ l) (all_answers_more (first + 1) last callers told replies (omega (arith, low)) (omega (arith, at)))
    ∙ sym (append_assoc (answers_from first 0 qs rs) (all_answers (first + 1) callers told) (answers_from last 0 (get_or callers (length told) []) replies))

all_backed_more : (shape : Shape) (steps : List StepEntry) (first last : ℕ) (callers : List (List Query)) (told : List (List Reply)) (replies : List Reply) → length told < length callers → last ≡ first + length told
    → AllBacked shape steps first callers told → AllZip (IsBacked shape steps last) (get_or callers (length told) []) replies → AllBacked shape steps first callers (told ++ replies ∷ [])
all_backed_more shape steps first last [] told replies low at all one = absurd (omega (arith, low))
all_backed_more shape steps first last (qs ∷ callers) [] replies low at all one =
    let same : last ≡ first = omega (arith, at) in (subst (λ n. AllZip (IsBacked shape steps n) qs replies) same one, none_backed shape steps (first + 1) callers)
all_backed_more shape steps first last (qs ∷ callers) (rs ∷ told) replies low at all one =
    (all.0, all_backed_more shape steps (first + 1) last callers told replies (omega (arith, low)) (omega (arith, at)) all.1 one)

-- ---- one caller
placed_behind : (seen : ℕ) (own : List LedgerRun) (reply : Reply) → IsBehind seen own reply → IsPlaced reply
placed_behind seen own (Placed place said) h = h.0
placed_behind seen own Busy h = tt
placed_behind seen own (Late now) h = tt
placed_behind seen own (Job at result) h = tt

module _ (number : ℕ) (queries : List Query) (replies : List Reply) (w : View Part) (e : ChainView LedgerParcel) (h : HasAsked number queries replies w e) where
  asked_wide : width w ≡ 1
  asked_wide = same_width h.before w h.asked.kept.0 ∙ h.fresh.alone

  asked_covers : 0 < covers number e
  asked_covers = omega (arith, h.fresh.covered, same_covers number h.before_too e h.asked.kept_too)

  asked_told : w.part.told ≡ told_from number 0 queries replies
  asked_told =
      let none : h.before.part.told ≡ [] = ap (λ (p : Part). p.told) h.fresh.part in
      h.asked.tells ∙ ap (λ (l : List Told). told_from h.before.number 0 queries replies ++ l) none ∙ append-nil (told_from h.before.number 0 queries replies)
      ∙ ap (λ n. told_from n 0 queries replies) h.fresh.mine

  asked_answers : e.own ≡ answers_from number 0 queries replies
  asked_answers = h.asked.lists ∙ ap (λ (l : List LedgerRun). l ++ answers_from h.before.number 0 queries replies) h.fresh.own ∙ ap (λ n. answers_from n 0 queries replies) h.fresh.mine

  asked_placed : AllByRecursion IsPlaced replies
  asked_placed = all_as (IsBehind w.part.seen e.own) IsPlaced replies (placed_behind w.part.seen e.own) h.asked.behind

  asked_backed : AllZip (IsBacked w.shape w.steps number) queries replies
  asked_backed = subst (λ n. AllZip (IsBacked w.shape w.steps n) queries replies) h.fresh.mine h.asked.backed

  asked_trod : (callers : List (List Query)) → queries ≡ get_or callers number [] → AllTrod callers w.trail
  asked_trod callers is =
      let all : queries ≡ get_or callers h.before.number [] = is ∙ ap (λ n. get_or callers n []) (sym h.fresh.mine) in
      trod_from callers h.before w h.fresh.trail (subst (λ (qs : List Query). Treads (OneMayTread qs) h.before w) all h.asked.trod)

-- ---- the loop
-- the first caller's own passes
pub taken_first : (callers : List (List Query)) (replies : List Reply) (w : View Part) (e : ChainView LedgerParcel) → 0 < length callers → HasAsked 0 (get_or callers 0 []) replies w e → IsTaken w e callers (replies ∷ [])
taken_first callers replies w e some h =
    let first : List Query = get_or callers 0 [] in
    let front : take 1 callers ≡ first ∷ [] = take_more callers 0 [] some in
    record {
      wide = asked_wide 0 first replies w e h;
      covered = λ n low. (let zero_is : 0 ≡ n = omega (arith, low) in subst (λ k. 0 < covers k e) zero_is (asked_covers 0 first replies w e h));
      once = subst (λ (l : List (List Query)). AllZip AnswersEachOnce l (replies ∷ [])) (sym front) (h.asked.once, tt);
      numbers = (h.asked.numbers, tt);
      placed = (asked_placed 0 first replies w e h, tt);
      tells = asked_told 0 first replies w e h ∙ sym (append-nil (told_from 0 0 first replies)) ∙ ap (λ (l : List Told). told_from 0 0 first replies ++ l) (sym (none_told 0 callers))
          ∙ sym (all_told_more 0 0 callers [] replies some refl);
      lists = asked_answers 0 first replies w e h ∙ ap (λ (l : List LedgerRun). l ++ answers_from 0 0 first replies) (sym (none_answered 0 callers)) ∙ sym (all_answers_more 0 0 callers [] replies some refl);
      backed = all_backed_more w.shape w.steps 0 0 callers [] replies some refl (none_backed w.shape w.steps 0 callers) (asked_backed 0 first replies w e h);
      trod = asked_trod 0 first replies w e h callers refl;
    }

module _ (callers : List (List Query)) (told : List (List Reply)) (replies : List Reply) (v w x : View Part) (d e y : ChainView LedgerParcel) where
  -- the passes of one caller more, taken in
  pub taken_more : IsTaken v d callers told → HasAsked (length told) (get_or callers (length told) []) replies w e → length told < length callers
      → w.shape ≡ v.shape → x ≡ joined_view (joined_part v.part w.part) v w → y ≡ joined d e → ((n : ℕ) → covers n y ≡ covers n d + covers n e)
      → IsTaken x y callers (told ++ replies ∷ [])
  taken_more so h low shape is is_too covered =
      let k : ℕ = length told in
      let qs : List Query = get_or callers k [] in
      let last : k ≡ 0 + k = omega arith in
      let long : length (told ++ replies ∷ []) ≡ k + 1 = length-append told (replies ∷ []) in
      let front : take (length (told ++ replies ∷ [])) callers ≡ take k callers ++ qs ∷ [] = ap (λ n. take n callers) long ∙ take_more callers k [] low in
      let one : AllZip (IsBacked v.shape w.steps k) qs replies = subst (λ (s : Shape). AllZip (IsBacked s w.steps k) qs replies) shape (asked_backed k qs replies w e h) in
      let both : List StepEntry = w.steps ++ v.steps in
      let step : StepEntry = record { number = v.number; kind = Join; lock = 0; place = 0; before = Away; word = 0; won = false } in
      let one_joined : AllZip (IsBacked v.shape both k) qs replies = list_backed v.shape w.steps both (λ n q reply l. licence_joined v.shape n w.steps v.steps q reply l) k qs replies one in
      let one_longer : AllZip (IsBacked v.shape (step ∷ both) k) qs replies = list_backed v.shape both (step ∷ both) (λ n q reply l. still_licensed v.shape n (step ∷ []) both q reply l) k qs replies one_joined in
      let all_longer : AllBacked v.shape (step ∷ both) 0 callers told = backed_longer v.shape v.steps (step ∷ w.steps) 0 callers told so.backed in
      let backed : AllBacked v.shape (step ∷ both) 0 callers (told ++ replies ∷ []) = all_backed_more v.shape (step ∷ both) 0 k callers told replies low last all_longer one_longer in
      let trod : AllTrod callers (w.trail ++ v.trail) = trod_joined callers w.trail v.trail (asked_trod k qs replies w e h callers refl) so.trod in
      record {
        wide = ap width is ∙ width_join (joined_part v.part w.part) v w ∙ (let a = so.wide in let b = asked_wide k qs replies w e h in omega (arith, a, b, long));
        covered = λ n less. dite (dec_lt n k)
            (λ before. (let a = so.covered n before in omega (arith, covered n, a)))
            (λ last. (let same : k ≡ n = omega (arith, less, last, long) in let a : 0 < covers n e = subst (λ j. 0 < covers j e) same (asked_covers k qs replies w e h) in omega (arith, covered n, a)));
        once = subst (λ (l : List (List Query)). AllZip AnswersEachOnce l (told ++ replies ∷ [])) (sym front) (zip_push AnswersEachOnce (take k callers) told qs replies so.once h.asked.once);
        numbers = all_push (AllByRecursion IsReply) told replies so.numbers h.asked.numbers;
        placed = all_push (AllByRecursion IsPlaced) told replies so.placed (asked_placed k qs replies w e h);
        tells = ap (λ (z : View Part). z.part.told) is ∙ ap (λ (l : List Told). l ++ v.part.told) (asked_told k qs replies w e h) ∙ ap (λ (l : List Told). told_from k 0 qs replies ++ l) so.tells
            ∙ sym (all_told_more 0 k callers told replies low last);
        lists = ap (λ (z : ChainView LedgerParcel). z.own) is_too ∙ ap (λ (l : List LedgerRun). d.own ++ l) (asked_answers k qs replies w e h) ∙ ap (λ (l : List LedgerRun). l ++ answers_from k 0 qs replies) so.lists
            ∙ sym (all_answers_more 0 k callers told replies low last);
        backed = subst (λ (z : View Part). AllBacked z.shape z.steps 0 callers (told ++ replies ∷ [])) (sym is) backed;
        trod = subst (λ (z : View Part). AllTrod callers z.trail) (sym is) trod;
      }

-- all callers' passes were taken in
pub taken_whole : (callers : List (List Query)) (told : List (List Reply)) (w : View Part) (e : ChainView LedgerParcel) → IsTaken w e callers told → 0 < length callers → length told ≡ length callers → IsWhole w e callers told
taken_whole callers told w e so some all =
    let seats : seats_for callers ≡ length told = omega (arith, some, all) in
    let front : take (length told) callers ≡ callers = ap (λ n. take n callers) all ∙ take-length callers in
    record {
      wide = so.wide ∙ sym seats;
      covered = λ n low. so.covered n (omega (arith, low, seats));
      once = subst (λ (l : List (List Query)). AllZip AnswersEachOnce l told) front so.once;
      numbers = so.numbers;
      placed = so.placed;
      tells = so.tells;
      lists = so.lists;
      backed = so.backed;
      trod = so.trod;
    }

-- there is no caller
pub whole_none : (callers : List (List Query)) (told : List (List Reply)) (w : View Part) (e : ChainView LedgerParcel) → length callers ≡ 0 → told ≡ [] → IsFresh 0 w e → IsWhole w e callers told
whole_none [] told w e none is h = subst (λ (t : List (List Reply)). IsWhole w e [] t) (sym is) record {
  wide = h.alone;
  covered = λ n low. (let zero_is : 0 ≡ n = omega (arith, low) in subst (λ k. 0 < covers k e) zero_is h.covered);
  once = tt;
  numbers = tt;
  placed = tt;
  tells = ap (λ (p : Part). p.told) h.part;
  lists = h.own;
  backed = tt;
  trod = λ m has. absurd (subst (λ (l : List Footprint). Has l m) h.trail has);
}
whole_none (qs ∷ callers) told w e none is h = absurd (omega (arith, none))
