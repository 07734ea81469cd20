-- A reply without a place has its licence in the scripts: by the reads that forced it, and by the footprints of those that were met.
use Rattle.std.specs.Prelude.{◌≡◌, ◌≢◌, ℕ, ◌+◌, ◌<◌, ◌==◌, ◌&&◌, ◌||◌, Bool, true, false, List, [], ◌∷◌, ◌++◌, Some, get_or, slice_get}
use Rattle.std.proofs.Common.{refl, sym, ap, ◌∙◌, subst, ⊎_elim, append-nil, eq-eqb}
use Rattle.std.specs.List.{AllByRecursion, AllZip, list_any}
use Rattle.lock_model.specs.Locks.{Has}
use Rattle.hall.specs.declared.view.Footprint.{Footprint}
use Rattle.hall.specs.declared.view.Shape.{Shape}
use Rattle.hall.specs.declared.view.StepEntry.{StepEntry}
use Rattle.hall.specs.declared.view.View.{View}
use Rattle.hall.specs.Treading.{Treads, has_either}
use Rattle.query_rules.specs.declared.query.Query.{Query}
use Rattle.query_rules.specs.declared.query.Query.TheVariants.{TryGet, TryPut, GetBy, PutBy}
use Rattle.query_rules.specs.declared.query.Reply.{Reply}
use Rattle.query_rules.specs.declared.query.Reply.TheVariants.{Placed, Busy, Late, Job}
use Rattle.query_rules.specs.Licence.{AnotherAsks, IsLicensed, AllLicensed, is_strong, taken_cells, takes, takes_strongly}
use Rattle.map_cargo.specs.declared.entry.Part.{Part}
use Rattle.map_cargo.specs.Entries.{named_cells}
use Rattle.map_cargo.specs.Licences.{Licensed, MetWhoRefused, licence_joined, still_licensed}
use Rattle.query_cells.specs.Asked.{MayTread}

-- a footprint that one of these queries may leave
pub record OneMayTread (queries : List Query) (m : Footprint) : Type 0 where
  pub index : ℕ
  pub query : Query
  pub asks : slice_get queries index ≡ Some query
  pub may : MayTread query m

-- each footprint of the trail may be left by a query of the caller of its number
abbrev pub AllTrod : List (List Query) → List Footprint → Type 0
AllTrod callers trail = (m : Footprint) → Has trail m → OneMayTread (get_or callers m.number []) m

-- a reply without a place was forced by reads among these steps
abbrev pub IsBacked : Shape → List StepEntry → ℕ → Query → Reply → Type 0
IsBacked shape steps number q (Placed place said) = Unit {0}
IsBacked shape steps number q Busy = Licensed shape number steps q Busy
IsBacked shape steps number q (Late now) = Licensed shape number steps q (Late now)
IsBacked shape steps number q (Job at result) = Unit {0}

-- and each reply to the callers from this number on
abbrev pub AllBacked : Shape → List StepEntry → ℕ → List (List Query) → List (List Reply) → Type 0
AllBacked shape steps caller [] told = Unit {0}
AllBacked shape steps caller (qs ∷ asked) [] = Unit {0}
AllBacked shape steps caller (qs ∷ asked) (rs ∷ told) = AllZip (IsBacked shape steps caller) qs rs × AllBacked shape steps (caller + 1) asked told

-- the cells that a query names lie below this
abbrev pub IsNear : ℕ → Query → Type 0
IsNear locks q = (cell : ℕ) → Has (named_cells q) cell → cell < locks

-- ---- one reply
takes_has : (cell lock : ℕ) (cells : List ℕ) → lock ≡ cell → Has cells lock → list_any (λ c. c == cell) cells ≡ true
takes_has cell lock [] e has = absurd has
takes_has cell lock (c ∷ cells) e has = ⊎_elim (λ here. first c cells (eq-eqb c cell (sym here ∙ e))) (λ more. second (c == cell) (list_any (λ c. c == cell) cells) (takes_has cell lock cells e more)) has
  where
    first : (c : ℕ) (cells : List ℕ) → (c == cell) ≡ true → list_any (λ c. c == cell) (c ∷ cells) ≡ true
    first c cells is = ap (λ b. b || list_any (λ c. c == cell) cells) is

    second : (b d : Bool) → d ≡ true → (b || d) ≡ true
    second true d is = refl
    second false d is = is

both_true : (a b : Bool) → a ≡ true → b ≡ true → (a && b) ≡ true
both_true true b p q = q
both_true false b p q = absurd (cc)

module _ (callers : List (List Query)) (trail : List Footprint) (trod : AllTrod callers trail) (number cell : ℕ) (m : Footprint) (has : Has trail m) (at : m.lock ≡ cell) (differs : m.number ≢ number) where
  asked_by : AnotherAsks (takes cell) callers number
  asked_by = let t = trod m has in record { other = m.number; differs = differs; index = t.index; query = t.query; asks = t.asks; such = takes_has cell m.lock (taken_cells t.query) at t.may.0 }

  asked_strongly_by : m.strong ≡ true → AnotherAsks (takes_strongly cell) callers number
  asked_strongly_by strong =
      let t = trod m has in record { other = m.number; differs = differs; index = t.index; query = t.query; asks = t.asks; such = both_true (is_strong t.query) (takes cell t.query) (t.may.1 strong) (takes_has cell m.lock (taken_cells t.query) at t.may.0) }

module _ (callers : List (List Query)) (shape : Shape) (steps : List StepEntry) (trail : List Footprint) (met : MetWhoRefused shape steps trail) (trod : AllTrod callers trail) where
  busy_licensed : (number : ℕ) (q : Query) → IsNear shape.locks q → Licensed shape number steps q Busy → IsLicensed callers number q Busy
  busy_licensed number (TryGet cell key) near l = let w = met number (TryGet cell key) Busy near l in asked_strongly_by callers trail trod number cell w.0 w.1 w.2 w.3 w.4
  busy_licensed number (TryPut cell key value) near l = let w = met number (TryPut cell key value) Busy near l in asked_by callers trail trod number cell w.0 w.1 w.2 w.3
  busy_licensed number (GetBy cell key deadline) near l = l
  busy_licensed number (PutBy cell key value deadline) near l = l
  busy_licensed number _ near l = l

  late_licensed : (number now : ℕ) (q : Query) → IsNear shape.locks q → Licensed shape number steps q (Late now) → IsLicensed callers number q (Late now)
  late_licensed number now (GetBy cell key deadline) near l = let w = met number (GetBy cell key deadline) (Late now) near l in (l.0, asked_by callers trail trod number cell w.0 w.1 w.2 w.3)
  late_licensed number now (PutBy cell key value deadline) near l = let w = met number (PutBy cell key value deadline) (Late now) near l in (l.0, asked_by callers trail trod number cell w.0 w.1 w.2 w.3)
  late_licensed number now (TryGet cell key) near l = l
  late_licensed number now (TryPut cell key value) near l = l
  late_licensed number now _ near l = l

  pub is_licensed : (number : ℕ) (q : Query) (reply : Reply) → IsNear shape.locks q → IsBacked shape steps number q reply → IsLicensed callers number q reply
  is_licensed number q (Placed place said) near b = tt
  is_licensed number q Busy near b = busy_licensed number q near b
  is_licensed number q (Late now) near b = late_licensed number now q near b
  is_licensed number q (Job at result) near b = tt

  -- ---- all replies
  list_licensed : (number : ℕ) (qs : List Query) (rs : List Reply) → AllByRecursion (IsNear shape.locks) qs → AllZip (IsBacked shape steps number) qs rs → AllZip (IsLicensed callers number) qs rs
  list_licensed number [] [] near b = tt
  list_licensed number [] (r ∷ rs) near b = b
  list_licensed number (q ∷ qs) [] near b = b
  list_licensed number (q ∷ qs) (r ∷ rs) near b = (is_licensed number q r near.0 b.0, list_licensed number qs rs near.1 b.1)

  pub all_licensed : (caller : ℕ) (asked : List (List Query)) (told : List (List Reply)) → AllByRecursion (AllByRecursion (IsNear shape.locks)) asked → AllBacked shape steps caller asked told → AllLicensed callers caller asked told
  all_licensed caller [] told near b = tt
  all_licensed caller (qs ∷ asked) [] near b = tt
  all_licensed caller (qs ∷ asked) (rs ∷ told) near b = (list_licensed caller qs rs near.0 b.0, all_licensed (caller + 1) asked told near.1 b.1)

-- ---- what was forced stays so where steps are added, and where the pass is taken in
module _ (shape : Shape) (steps more : List StepEntry) (as_more : (number : ℕ) (q : Query) (reply : Reply) → Licensed shape number steps q reply → Licensed shape number more q reply) where
  one_backed : (number : ℕ) (q : Query) (reply : Reply) → IsBacked shape steps number q reply → IsBacked shape more number q reply
  one_backed number q (Placed place said) b = tt
  one_backed number q Busy b = as_more number q Busy b
  one_backed number q (Late now) b = as_more number q (Late now) b
  one_backed number q (Job at result) b = tt

  pub list_backed : (number : ℕ) (qs : List Query) (rs : List Reply) → AllZip (IsBacked shape steps number) qs rs → AllZip (IsBacked shape more number) qs rs
  list_backed number [] [] b = tt
  list_backed number [] (r ∷ rs) b = b
  list_backed number (q ∷ qs) [] b = b
  list_backed number (q ∷ qs) (r ∷ rs) b = (one_backed number q r b.0, list_backed number qs rs b.1)

  all_backed : (caller : ℕ) (asked : List (List Query)) (told : List (List Reply)) → AllBacked shape steps caller asked told → AllBacked shape more caller asked told
  all_backed caller [] told b = tt
  all_backed caller (qs ∷ asked) [] b = tt
  all_backed caller (qs ∷ asked) (rs ∷ told) b = (list_backed caller qs rs b.0, all_backed (caller + 1) asked told b.1)

pub backed_longer : (shape : Shape) (steps added : List StepEntry) (caller : ℕ) (asked : List (List Query)) (told : List (List Reply)) → AllBacked shape steps caller asked told → AllBacked shape (added ++ steps) caller asked told
backed_longer shape steps added caller asked told b = all_backed shape steps (added ++ steps) (λ number q reply l. still_licensed shape number added steps q reply l) caller asked told b

pub backed_joined : (shape : Shape) (steps others : List StepEntry) (caller : ℕ) (asked : List (List Query)) (told : List (List Reply)) → AllBacked shape steps caller asked told → AllBacked shape (steps ++ others) caller asked told
backed_joined shape steps others caller asked told b = all_backed shape steps (steps ++ others) (λ number q reply l. licence_joined shape number steps others q reply l) caller asked told b

-- ---- trails
pub trod_joined : (callers : List (List Query)) (a b : List Footprint) → AllTrod callers a → AllTrod callers b → AllTrod callers (a ++ b)
trod_joined callers a b p q m has = ⊎_elim (λ l. p m l) (λ r. q m r) (has_either a b m has)

-- a caller's pass that began without a trail
pub trod_from : (callers : List (List Query)) (v w : View Part) → v.trail ≡ [] → Treads (OneMayTread (get_or callers v.number [])) v w → AllTrod callers w.trail
trod_from callers v w none t m has =
    let all : w.trail ≡ t.added = t.stand ∙ ap (λ (l : List Footprint). t.added ++ l) none ∙ append-nil t.added in
    let is = t.each m (subst (λ (l : List Footprint). Has l m) all has) in
    subst (λ (n : ℕ). OneMayTread (get_or callers n []) m) (sym is.0) is.1

-- one query's footprints are those of its list
pub one_of : (queries : List Query) (index : ℕ) (q : Query) (m : Footprint) → slice_get queries index ≡ Some q → MayTread q m → OneMayTread queries m
one_of queries index q m asks may = record { index = index; query = q; asks = asks; may = may }
