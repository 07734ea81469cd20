-- The rule of parcels is kept by each step of a chain.
use Rattle.std.specs.Prelude.{◌≡◌, ◌≢◌, ℕ, ◌+◌, ◌≤◌, ◌<◌, Result, List, [], ◌∷◌, ◌++◌, length}
use Rattle.std.proofs.Common.{set, arith, refl, sym, ap, ◌∙◌, subst, ⊎_elim}
use mathlib.Core.Option.{some, none, some-injective, some-ne-none, Option as Maybe}
use lib.ListN.{get_elem?}
use Rattle.atomic_table.proofs.Lists.{set_else, at_set, at_snoc}
use Rattle.view_sums.specs.Sums.{total, total-set, total-append, term_le, same-ne}
use Rattle.waiter_chain.specs.declared.view.Opening.{Opening}
use Rattle.waiter_chain.specs.Goods.{Goods, Part, part, opened, Runs, Pays, Posts, Ends, Serves, Collects, Cuts, Merges, put}
use Rattle.combine_job.specs.declared.parcel.Kept.{Kept}
use Rattle.combine_job.specs.declared.parcel.JobAnswer.{JobAnswer}
use Rattle.combine_job.specs.declared.parcel.Parcel.{Parcel}
use Rattle.combine_job.specs.declared.parcel.Parcel.TheVariants.{Value, Posted, Answered}
use Rattle.combine_job.specs.Parcels.{Related, Admits, IsJob, Ruled, WasRun, ComesAfter, AllAfter, place, places, weight, one, quotas}
use Rattle.combine_job.specs.Below.{put_some, put-here, below-put, below-nothing}

module _ {P : Type 0} (relates : P → P → P → P → Type 0) where
  pub runs-append : (xs ys : List (P × P)) (v u w : P) → Runs relates v xs u → Runs relates u ys w → Runs relates v (xs ++ ys) w
  runs-append [] ys v u w r t = subst (λ (z : P). Runs relates z ys w) (sym r) t
  runs-append (x ∷ xs) ys v u w r t = (r.0, r.1, runs-append xs ys r.0 u w r.2 t)

module _ {V J O X : Type 0} where
  value_of : Kept V → Parcel V J O X → Kept V
  value_of d (Value k) = k
  value_of d (Posted j) = d
  value_of d (Answered a) = d

  pub value-injective : (k l : Kept V) → ◌≡◌ {A = Parcel V J O X} (Value k) (Value l) → k ≡ l
  unfolding value_of
  value-injective k l e = ap (value_of k) e

  pub answered_inside : (a b : JobAnswer O X) → ◌≡◌ {A = Parcel V J O X} (Answered a) (Answered b) → a ≡ b
  answered_inside a b e = cc

  -- a part has changed to this one
  after-set : (ps : List (Part (Parcel V J O X))) (answered : ℕ → Maybe (Parcel V J O X × Parcel V J O X)) (i : ℕ) (y : Part (Parcel V J O X)) → AllAfter ps answered
      → ((x : Parcel V J O X × Parcel V J O X) → answered y.number ≡ some x → ComesAfter y.own x.1) → AllAfter (set ps i y) answered
  after-set ps answered i y a mine j z x there e = ⊎_elim
      (λ (t : (j ≡ i) × (y ≡ z)). subst (λ (b : Part (Parcel V J O X)). answered b.number ≡ some x → ComesAfter b.own x.1) t.1 (mine x) e)
      (λ (t : (j ≢ i) × (get_elem? ps j ≡ some z)). a j z x t.1 e) (at_set ps i j y z there)

  -- no answer waits for this node any more
  after-none : (ps : List (Part (Parcel V J O X))) (answered : ℕ → Maybe (Parcel V J O X × Parcel V J O X)) (n : ℕ) → AllAfter ps answered → AllAfter ps (put answered n none)
  after-none ps answered n a j y x there e = ⊎_elim (λ (t : (y.number ≡ n) × (none ≡ some x)). absurd (some-ne-none x (sym t.1))) (λ (t : answered y.number ≡ some x). a j y x there t) (put_some answered n y.number none x e)

  cost : (m : Maybe (Parcel V J O X)) (ran : List (Parcel V J O X × Parcel V J O X)) (before after : ℕ) → Pays m ran before after → before + one m ≡ after + length ran
  cost none ran before after p = omega (arith, p)
  cost (some j) ran before after p = omega (arith, p.0)

module _ {V J O X : Type 0} (rooms : V → ℕ) (means : V → J → Result O X → V → Type 0) where
  -- what a run of jobs does to the room and the count
  abbrev pub Leads : Kept V → List (Parcel V J O X × Parcel V J O X) → Parcel V J O X → Type 0
  Leads k ran w = (l : Kept V) × (w ≡ Value l) × (rooms k.value ≤ rooms l.value + length ran) × (l.ran ≡ k.ran + length ran)

  pub runs_lead : (ran : List (Parcel V J O X × Parcel V J O X)) (v w : Parcel V J O X) (k : Kept V) → v ≡ Value k → Runs (Related rooms means) v ran w → Leads k ran w
  runs_lead [] v w k e r = (k, sym r ∙ e, omega arith, omega arith)
  runs_lead (x ∷ xs) v w k e r =
      let t = r.1 in let same-k : t.0 ≡ k = value-injective {J = J} {O = O} {X = X} t.0 k (sym t.4 ∙ e) in
      let rest = runs_lead xs r.0 w t.1 t.5 r.2 in
      let rooms-k : rooms t.0.value ≡ rooms k.value = ap (λ (y : Kept V). rooms y.value) same-k in let ran-k : t.0.ran ≡ k.ran = ap (λ (y : Kept V). y.ran) same-k in
      (rest.0, rest.1, omega (arith, rest.2, t.11), omega (arith, rest.3, t.9))

  -- their answers stand below the count of the last value
  pub runs_below : (ran : List (Parcel V J O X × Parcel V J O X)) (v w : Parcel V J O X) (k l : Kept V) → v ≡ Value k → w ≡ Value l → Runs (Related rooms means) v ran w → (p : ℕ) → l.ran ≤ p → places p ran ≡ 0
  runs_below [] v w k l e d r p far = refl
  runs_below (x ∷ xs) v w k l e d r p far =
      let t = r.1 in let later = runs_lead xs r.0 w t.1 t.5 r.2 in
      let last : later.0.ran ≡ l.ran = ap (λ (y : Kept V). y.ran) (value-injective {J = J} {O = O} {X = X} later.0 l (sym later.1 ∙ d)) in
      omega (arith, runs_below xs r.0 w t.1 l t.5 d r.2 p far, ap (place p) t.7, same-ne t.3.at p (λ z. omega (arith, z, t.8, t.9, later.3, last, far)))

module _ {V J O X : Type 0} (rooms : V → ℕ) (means : V → J → Result O X → V → Type 0) (is_ready : J → Type 0) where
  abbrev Rule : Opening (Parcel V J O X) → Goods (Parcel V J O X) → Type 0
  Rule o g = Ruled rooms means is_ready o g

  pub opens : (o : Opening (Parcel V J O X)) → o.quota < 18446744073709551616 → Admits rooms o.first.value o.quota → Rule o (opened o.first.value o.quota)
  opens o small a = record {
    first = a.0;
    now = a.0;
    history = [];
    began = a.1;
    none_ran = a.2;
    is = a.1;
    runs = refl;
    answers = λ w. omega (arith, below-nothing (weight w) o.nodes refl);
    jobs = λ n x e. absurd (some-ne-none x (sym e));
    told = λ n x e. absurd (some-ne-none x (sym e));
    after = λ i y x there e. absurd (some-ne-none x (sym e));
    room = omega (arith, a.3, below-nothing {P = Parcel V J O X} one o.nodes refl);
    paid = omega (arith, a.2, below-nothing {P = Parcel V J O X} one o.nodes refl);
    small = small;
  }

  pub posts : (o : Opening (Parcel V J O X)) → Posts (Rule o) o.nodes (IsJob is_ready)
  posts o g i q n xs job r low me good empty unanswered = let now = part n q xs in record {
    first = r.first;
    now = r.now;
    history = r.history;
    began = r.began;
    none_ran = r.none_ran;
    is = r.is;
    runs = r.runs;
    answers = λ w. omega (arith, r.answers w, total-set (λ (x : Part (Parcel V J O X)). total w x.own) g.parts i (part n (q + 1) xs) now me);
    jobs = λ m x e. ⊎_elim (λ (t : (m ≡ n) × (some job ≡ some x)). subst (IsJob is_ready) (some-injective job x t.1) good) (λ t. r.jobs m x t) (put_some g.posted n m (some job) x e);
    told = r.told;
    after = after-set g.parts g.answered i now r.after (λ x e. r.after i (part n (q + 1) xs) x me e);
    room = omega (arith, r.room, below-put one g.posted n o.nodes (some job) low, ap one empty, total-set (λ (x : Part (Parcel V J O X)). x.quota) g.parts i (part n (q + 1) xs) now me);
    paid = omega (arith, r.paid, below-put one g.posted n o.nodes (some job) low, ap one empty, total-set (λ (x : Part (Parcel V J O X)). x.quota) g.parts i (part n (q + 1) xs) now me);
    small = r.small;
  }

  pub ends : (o : Opening (Parcel V J O X)) → Ends (Rule o) o.nodes (Related rooms means)
  ends o g i n before after xs ran w r low me runs pays unanswered =
      let l = runs_lead rooms means ran g.value w r.now r.is runs in let now = part n after (xs ++ ran) in let paid-for = cost (g.posted n) ran before after pays in record {
        first = r.first;
        now = l.0;
        history = r.history ++ ran;
        began = r.began;
        none_ran = r.none_ran;
        is = l.1;
        runs = runs-append (Related rooms means) r.history ran o.first.value g.value w r.runs runs;
        answers = λ h. omega (arith, r.answers h, total-set (λ (x : Part (Parcel V J O X)). total h x.own) g.parts i (part n before xs) now me, total-append h xs ran, total-append h r.history ran);
        jobs = λ m x e. ⊎_elim (λ (t : (m ≡ n) × (none ≡ some x)). absurd (some-ne-none x (sym t.1))) (λ t. r.jobs m x t) (put_some g.posted n m none x e);
        told = r.told;
        after = after-set g.parts g.answered i now r.after (λ x e. absurd (some-ne-none x (sym e ∙ unanswered)));
        room = omega (arith, r.room, l.2, paid-for, below-put one g.posted n o.nodes none low, total-set (λ (x : Part (Parcel V J O X)). x.quota) g.parts i (part n before xs) now me);
        paid = omega (arith, r.paid, l.3, paid-for, below-put one g.posted n o.nodes none low, total-set (λ (x : Part (Parcel V J O X)). x.quota) g.parts i (part n before xs) now me);
        small = r.small;
      }

  pub serves : (o : Opening (Parcel V J O X)) → Serves (Rule o) o.nodes (Related rooms means)
  serves o g n job answer w r low filled unanswered related =
      let ran : List (Parcel V J O X × Parcel V J O X) = (job, answer) ∷ [] in let runs : Runs (Related rooms means) g.value ran w = (w, related, refl) in let l = runs_lead rooms means ran g.value w r.now r.is runs in record {
        first = r.first;
        now = l.0;
        history = r.history ++ ran;
        began = r.began;
        none_ran = r.none_ran;
        is = l.1;
        runs = runs-append (Related rooms means) r.history ran o.first.value g.value w r.runs runs;
        answers = λ h. omega (arith, r.answers h, total-append h r.history ran, below-put (weight h) g.answered n o.nodes (some (job, answer)) low, ap (weight h) unanswered);
        jobs = λ m x e. ⊎_elim (λ (t : (m ≡ n) × (none ≡ some x)). absurd (some-ne-none x (sym t.1))) (λ t. r.jobs m x t) (put_some g.posted n m none x e);
        told = λ m x e. ⊎_elim (λ (t : (m ≡ n) × (some (job, answer) ≡ some x)). subst (WasRun rooms means) (some-injective (job, answer) x t.1) (g.value, w, related)) (λ t. r.told m x t) (put_some g.answered n m (some (job, answer)) x e);
        after = λ j y x there e. ⊎_elim
            (λ (t : (y.number ≡ n) × (some (job, answer) ≡ some x)).
            λ b is p far.
            let same-answer : related.3 ≡ b = answered_inside {V = V} {J = J} related.3 b (sym related.7 ∙ ap (λ (z : Parcel V J O X × Parcel V J O X). z.1) (some-injective (job, answer) x t.1) ∙ is) in
            let at-now : related.0 ≡ r.now = value-injective {J = J} {O = O} {X = X} related.0 r.now (sym related.4 ∙ r.is) in
            let below-now = runs_below rooms means r.history o.first.value g.value r.first r.now r.began r.is r.runs p (omega (arith, far, related.8, ap (λ (z : JobAnswer O X). z.at) same-answer, ap (λ (z : Kept V). z.ran) at-now)) in
            omega (arith, below-now, r.answers (λ z. place p z.1), term_le (λ (z : Part (Parcel V J O X)). places p z.own) g.parts j y there))
            (λ t. r.after j y x there t) (put_some g.answered n y.number (some (job, answer)) x e);
        room = omega (arith, r.room, l.2, below-put one g.posted n o.nodes none low, ap one filled);
        paid = omega (arith, r.paid, l.3, below-put one g.posted n o.nodes none low, ap one filled);
        small = r.small;
      }

  pub collects : (o : Opening (Parcel V J O X)) → Collects (Rule o) o.nodes
  collects o g i q n xs job answer r low me filled = let now = part n q (xs ++ (job, answer) ∷ []) in record {
    first = r.first;
    now = r.now;
    history = r.history;
    began = r.began;
    none_ran = r.none_ran;
    is = r.is;
    runs = r.runs;
    answers = λ w. omega (arith, r.answers w, total-set (λ (x : Part (Parcel V J O X)). total w x.own) g.parts i (part n q xs) now me, total-append w xs ((job, answer) ∷ []), below-put (weight w) g.answered n o.nodes none low, ap (weight w) filled);
    jobs = r.jobs;
    told = λ m x e. ⊎_elim (λ (t : (m ≡ n) × (none ≡ some x)). absurd (some-ne-none x (sym t.1))) (λ t. r.told m x t) (put_some g.answered n m none x e);
    after = after-set g.parts (put g.answered n none) i now (after-none g.parts g.answered n r.after) (λ x e. absurd (some-ne-none x (sym e ∙ put-here g.answered n none)));
    room = omega (arith, r.room, total-set (λ (x : Part (Parcel V J O X)). x.quota) g.parts i (part n q xs) now me);
    paid = omega (arith, r.paid, total-set (λ (x : Part (Parcel V J O X)). x.quota) g.parts i (part n q xs) now me);
    small = r.small;
  }

  pub cuts : (o : Opening (Parcel V J O X)) → Cuts (Rule o)
  cuts o g i n m q c xs r me =
      let ps = set g.parts i (part n q xs) in let new : List (Part (Parcel V J O X)) = part m c [] ∷ [] in
      let quota-sum : quotas (ps ++ new) ≡ quotas g.parts = omega (arith, total-append (λ (x : Part (Parcel V J O X)). x.quota) ps new, total-set (λ (x : Part (Parcel V J O X)). x.quota) g.parts i (part n (q + c) xs) (part n q xs) me) in record {
        first = r.first;
        now = r.now;
        history = r.history;
        began = r.began;
        none_ran = r.none_ran;
        is = r.is;
        runs = r.runs;
        answers = λ w. omega (arith, r.answers w, total-append (λ (x : Part (Parcel V J O X)). total w x.own) ps new, total-set (λ (x : Part (Parcel V J O X)). total w x.own) g.parts i (part n (q + c) xs) (part n q xs) me);
        jobs = r.jobs;
        told = r.told;
        after = λ j y x there e. ⊎_elim
            (λ (t : get_elem? ps j ≡ some y). after-set g.parts g.answered i (part n q xs) r.after (λ z d. r.after i (part n (q + c) xs) z me d) j y x t e)
            (λ (t : part m c [] ≡ y). λ b is p far. ap (λ (z : Part (Parcel V J O X)). places p z.own) (sym t)) (at_snoc ps (part m c []) y j there);
        room = omega (arith, r.room, quota-sum);
        paid = omega (arith, r.paid, quota-sum);
        small = r.small;
      }

  pub merges : (o : Opening (Parcel V J O X)) → Merges (Rule o)
  merges o g i j n m q c xs ys r empty apart me them =
      let now = part n (q + c) (xs ++ ys) in let ps = set g.parts i now in
      let there : get_elem? ps j ≡ some (part m c ys) = set_else g.parts i j now apart ∙ them in
      let quota-sum : quotas (set ps j (part 0 0 [])) ≡ quotas g.parts = omega (arith, total-set (λ (x : Part (Parcel V J O X)). x.quota) g.parts i (part n q xs) now me, total-set (λ (x : Part (Parcel V J O X)). x.quota) ps j (part m c ys) (part 0 0 []) there) in record {
        first = r.first;
        now = r.now;
        history = r.history;
        began = r.began;
        none_ran = r.none_ran;
        is = r.is;
        runs = r.runs;
        answers = λ w. omega (arith, r.answers w, total-set (λ (x : Part (Parcel V J O X)). total w x.own) g.parts i (part n q xs) now me, total-set (λ (x : Part (Parcel V J O X)). total w x.own) ps j (part m c ys) (part 0 0 []) there, total-append w xs ys);
        jobs = r.jobs;
        told = r.told;
        after = after-set ps g.answered j (part 0 0 []) (after-set g.parts g.answered i now r.after (λ x e. absurd (some-ne-none x (sym e ∙ empty)))) (λ x e b is p far. refl);
        room = omega (arith, r.room, quota-sum);
        paid = omega (arith, r.paid, quota-sum);
        small = r.small;
      }
