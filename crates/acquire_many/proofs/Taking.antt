-- One want more, and one hold given back.
use Rattle.std.specs.Prelude.{◌≡◌, ◌≢◌, ◌⊎◌, ℕ, suc, ◌+◌, ◌<◌, ◌≤◌, List, [], ◌∷◌, length, slice_index_or, slice_set, Option, Some, None, IfSome, MatchOption}
use Rattle.std.proofs.Common.{refl, sym, ap, ◌∙◌, subst, inl, inr, ⊎_elim, arith, get_or-set_same, get_or-set_other}
use Rattle.std.proofs.lemmas.Bool.{cases_lt, cases_eq}
use mathlib.Core.Logic.{dite}
use native.Mathlib.Decide.{ℕ_discrete}
use Rattle.lock_model.specs.Locks.{Has}
use Rattle.hall.specs.declared.cargo.CargoRule.{Ghosts}
use Rattle.hall.specs.declared.view.Shape.{Shape}
use Rattle.hall.specs.declared.view.Standing.TheVariants as stand
use Rattle.hall.specs.declared.view.View.{View}
use Rattle.hall.specs.Calls.{ElsewhereSame}
use Rattle.hall.specs.Treading.{Treads, treads_as, treads_none, treads_then}
use Rattle.hall.specs.Views.{mode_of, pending, standing}
use Rattle.hall.specs.Fitting.{stands_by}
use Rattle.hall.specs.Slotting.{HasNonePending}
use Rattle.hall.specs.declared.guards.Form.{Form}
use Rattle.hall.specs.declared.guards.Form.TheVariants as forms
use Rattle.hall.specs.declared.view.Standing.{Standing}
use Rattle.shared_mutex.specs.Acquiring.{steps_to_leave}
use Rattle.acquire_many.specs.declared.guards.How.{How}
use Rattle.acquire_many.specs.declared.guards.How.TheVariants as hows
use Rattle.lock_model.specs.declared.model.Mode.{Mode}
use Rattle.lock_model.specs.declared.model.Mode.TheVariants as modes
use Rattle.acquire_many.specs.Guards.{Fit}
use Rattle.acquire_many.specs.MetLaws.{no_some, returns_leave, returns_treads, some_same}
use Rattle.acquire_many.specs.Met.{AtFirst, IfThere, Learns, HeldBelow, HoldFits, InTurn, IsFor, IsForAny, IsHeld, Returns, ReturnsHeld, stands_for}
use Rattle.acquire_many.specs.Took.{GaveFirst, IsForHeld, TookAll, TookBelow}
use Rattle.acquire_many.specs.Wants.{AllBelow, AreApart, Hold, IsLeast, Want, lock_at, mode_in, want_at, want_of}

mode_by : (form : Form) → mode_of (stands_by form) ≡ Some modes.Shared
mode_by (forms.Deferred slot) = refl
mode_by (forms.Inline why) = refl
mode_by forms.Lowered = refl

mode_for : (how : How) → mode_of (stands_for how) ≡ Some (mode_in how)
mode_for (hows.Shared form) = mode_by form
mode_for hows.Upgrade = refl
mode_for hows.Exclusive = refl

-- a reader leaves by two steps at most
pub few_to_leave : (form : Form) → steps_to_leave form ≤ 2
few_to_leave (forms.Deferred slot) = omega arith
few_to_leave (forms.Inline why) = omega arith
few_to_leave forms.Lowered = omega arith

-- where no token is undecided and no unit owed, it is so after a lock was gained or given back
clear_by : (form : Form) → pending (stands_by form) ≡ 0
clear_by (forms.Deferred slot) = refl
clear_by (forms.Inline why) = refl
clear_by forms.Lowered = refl

pub clear_for : (how : How) → pending (stands_for how) ≡ 0
clear_for (hows.Shared form) = clear_by form
clear_for hows.Upgrade = refl
clear_for hows.Exclusive = refl

pub still_clear : {P : Type 0} (v w : View P) (lock : ℕ) (y : Standing) → HasNonePending v → ElsewhereSame v w lock → standing w lock ≡ y → pending y ≡ 0 → HasNonePending w
still_clear v w lock y clear elsewhere stands none k = dite (ℕ_discrete k lock) (λ e. ap (λ (i : ℕ). pending (standing w i)) e ∙ ap pending stands ∙ none) (λ ne. ap pending (elsewhere k ne) ∙ clear k)

-- a hold that stands at a position is of a want below the bound
pub of_below : (wants : List Want) (from : ℕ) (holds : List (Option Hold)) → HeldBelow wants from holds → (j : ℕ) (x : Hold) → slice_index_or holds j None ≡ Some x → (j < length wants) × (lock_at wants j < from) × (want_of x ≡ want_at wants j)
of_below wants from holds h j x at = ⊎_elim
    (λ near. ⊎_elim (λ low. let is = h.held j near low in (near, low, subst (λ (y : Hold). want_of y ≡ want_at wants j) (some_same is.0 x (sym is.1 ∙ at)) is.2)) (λ high. absurd (no_some x (sym (h.others j (λ _. high)) ∙ at))) (cases_lt (lock_at wants j) from))
    (λ far. absurd (no_some x (sym (h.others j (λ near. absurd (omega (arith, near, far)))) ∙ at)))
    (cases_lt j (length wants))

-- what stood at other positions still stands there
in_turn_set : {V : Type 0} (meets : V → Hold → V → Type 0) (holds : List (Option Hold)) (k : ℕ) (h : Hold) (v : V) (ks : List ℕ) (u : V) → ((j : ℕ) → Has ks j → j ≢ k) → InTurn meets holds v ks u → InTurn meets (slice_set holds k (Some h)) v ks u
in_turn_set meets holds k h v [] u ne t = t
in_turn_set meets holds k h v (j ∷ js) u ne t = (t.0, in_turn_set meets holds k h v js t.0 (λ i has. ne i (inr has)) t.1, (t.2.0, get_or-set_other holds k j (Some h) None (ne j (inl refl)) ∙ t.2.1, t.2.2))

-- a want below the next bound is the one that was just met, or was met before
below_more : (wants : List Want) (from k j : ℕ) → AreApart wants → IsLeast wants from k → j < length wants → lock_at wants j < lock_at wants k + 1 → (j ≡ k) ⊎ (lock_at wants j < from)
below_more wants from k j apart least near low = ⊎_elim inr (λ high.
    let same : lock_at wants j ≡ lock_at wants k = omega (arith, low, least.2 j near high) in
    ⊎_elim (λ lt. absurd (apart k least.0 (j, lt, same))) (λ ge. ⊎_elim inl (λ ne. absurd (apart j near (k, omega (arith, ge, ne), sym same))) (cases_eq j k)) (cases_lt j k)) (cases_lt (lock_at wants j) from)

module _ {C P : Type 0} (g : Ghosts C P) (meets : View P → Hold → View P → Type 0) (wants : List Want) (shape : Shape) (v : View P) where
  -- before the first want
  pub took_none : (holds : List (Option Hold)) → ((k : ℕ) → slice_index_or holds k None ≡ None) → TookBelow g meets wants shape 0 v holds v
  took_none holds none = record {
    order = [];
    sorted = record { here = λ k near low. absurd (omega (arith, low)); there = λ k has. absurd has; falls = tt };
    met = refl;
    held = record { held = λ k near low. absurd (omega (arith, low)); others = λ k high. none k };
    stands = λ k x at. absurd (no_some x (sym (none k) ∙ at));
    elsewhere = λ lock aside. refl;
    trail = treads_none (IsForAny wants) v v refl refl;
    settled = λ k near low. absurd (omega (arith, low));
    others = λ lock aside settled. settled;
  }

  module _ (from k : ℕ) (holds : List (Option Hold)) (u w : View P) (apart : AreApart wants) (least : IsLeast wants from k) (t : TookBelow g meets wants shape from v holds u) (how : How) (mode : mode_in how ≡ (want_at wants k).1) where
    abbrev lock : ℕ
    lock = lock_at wants k

    abbrev hold : Hold
    hold = (lock, how)

    is_want : want_of hold ≡ want_at wants k
    is_want = ap (λ (m : Mode). (lock_at wants k, m)) mode

    -- one want more
    pub took_more : k < length holds → meets u hold w → HoldFits shape w hold → ElsewhereSame u w lock → Treads (IsFor (want_of hold)) u w → g.settled lock w.part → ((other : ℕ) → other ≢ lock → g.settled other u.part → g.settled other w.part)
        → TookBelow g meets wants shape (lock + 1) v (slice_set holds k (Some hold)) w
    took_more room met fits elsewhere trail settled others = record {
      order = k ∷ t.order;
      sorted = record {
        here = λ j near low. ⊎_elim (λ e. inl e) (λ older. inr (t.sorted.here j near older)) (below_more wants from k j apart least near low);
        there = λ j has. ⊎_elim (λ e. (subst (λ i. i < length wants) (sym e) least.0, subst (λ i. lock_at wants i < lock + 1) (sym e) (omega arith))) (λ older. let is = t.sorted.there j older in (is.0, omega (arith, is.1, least.1))) has;
        falls = (λ j has. omega (arith, (t.sorted.there j has).1, least.1), t.sorted.falls);
      };
      met = (u, in_turn_set meets holds k hold v t.order u (λ j has. differs j (t.sorted.there j has).1) t.met, (hold, set_here, met));
      held = record {
        held = λ j near low. ⊎_elim (λ e. subst (λ i. IsHeld (want_at wants i) (slice_index_or (slice_set holds k (Some hold)) i None)) (sym e) (hold, set_here, is_want))
            (λ older. let is = t.held.held j near older in (is.0, get_or-set_other holds k j (Some hold) None (differs j older) ∙ is.1, is.2)) (below_more wants from k j apart least near low);
        others = λ j high. get_or-set_other holds k j (Some hold) None (λ e. no_low (subst (λ i. lock + 1 ≤ lock_at wants i) e (high (subst (λ i. i < length wants) (sym e) least.0)))) ∙ t.held.others j (λ near. omega (arith, high near, least.1));
      };
      stands = λ j x at. ⊎_elim (λ e. subst (λ (y : Hold). HoldFits shape w y) (some_same hold x (sym set_here ∙ subst (λ i. slice_index_or (slice_set holds k (Some hold)) i None ≡ Some x) e at)) fits)
          (λ ne. stood j x (sym (get_or-set_other holds k j (Some hold) None ne) ∙ at)) (cases_eq j k);
      elsewhere = λ other aside. elsewhere other (λ e. aside k least.0 (omega arith) (sym e)) ∙ t.elsewhere other (λ j near low. aside j near (omega (arith, low, least.1)));
      trail = treads_then (IsForAny wants) v u w t.trail (treads_as (IsFor (want_of hold)) (IsForAny wants) u w (λ m is. (k, least.0, subst (λ (q : Want). IsFor q m) is_want is)) trail);
      settled = λ j near low. ⊎_elim (λ e. subst (λ i. g.settled (lock_at wants i) w.part) (sym e) settled) (λ older. others (lock_at wants j) (λ e. lower j older e) (t.settled j near older)) (below_more wants from k j apart least near low);
      others = λ other aside was. others other (λ e. aside k least.0 (sym e)) (t.others other aside was);
    }
      where
        set_here : slice_index_or (slice_set holds k (Some hold)) k None ≡ Some hold
        set_here = get_or-set_same holds k (Some hold) None room

        lower : (j : ℕ) → lock_at wants j < from → lock_at wants j ≡ lock → ⊥
        lower j older e = omega (arith, older, e, least.1)

        differs : (j : ℕ) → lock_at wants j < from → j ≢ k
        differs j older e = lower j older (ap (lock_at wants) e)

        no_low : lock + 1 ≤ lock → ⊥
        no_low h = omega (arith, h)

        stood : (j : ℕ) (x : Hold) → slice_index_or holds j None ≡ Some x → HoldFits shape w x
        stood j x at =
            let is = of_below wants from holds t.held j x at in let f = t.stands j x at in
            (f.0, elsewhere x.0 (λ e. lower j is.1 (sym (ap (λ (q : Want). q.0) is.2) ∙ e)) ∙ f.1, f.2)

    -- and so by its own step
    pub took_by : ((x y : View P) (h : Hold) → standing x h.0 ≡ stand.Away → meets x h y → Treads (IsFor (want_of h)) x y) → ((x y : View P) (h : Hold) → standing x h.0 ≡ stand.Away → meets x h y → Learns g h.0 x y)
        → k < length holds → standing v lock ≡ stand.Away → meets u hold w → HoldFits shape w hold → ElsewhereSame u w lock → TookBelow g meets wants shape (lock + 1) v (slice_set holds k (Some hold)) w
    took_by treads learns room away met fits elsewhere =
        let l = learns u w hold (still_away ∙ away) met in
        took_more room met fits elsewhere (treads u w hold (still_away ∙ away) met) (g.gains_settles lock l.0 u.part w.part l.1) (λ other ne was. g.gains_leave lock other l.0 u.part w.part ne l.1 was)
      where
        still_away : standing u lock ≡ standing v lock
        still_away = t.elsewhere lock (λ j near low e. omega (arith, low, e, least.1))

  -- where no want is left
  pub took_all : (from : ℕ) (holds : List (Option Hold)) (w : View P) → AllBelow wants from → TookBelow g meets wants shape from v holds w → TookAll g meets wants v holds w
  took_all from holds w all t = record {
    order = t.order;
    sorted = record { here = λ k near. t.sorted.here k near (all k near); there = λ k has. (t.sorted.there k has).0; falls = t.sorted.falls };
    met = t.met;
    held = record { held = λ k near. t.held.held k near (all k near); none = λ k far. t.held.others k (λ near. absurd (omega (arith, near, far))) };
    stands = λ k near. let is = t.held.held k near (all k near) in subst (λ (q : Want). mode_of (standing w q.0) ≡ Some q.1) is.2 (ap mode_of (t.stands k is.0 is.1).1 ∙ mode_for is.0.1);
    elsewhere = λ lock aside. t.elsewhere lock (λ k near low. aside k near);
    trail = t.trail;
    settled = λ k near. t.settled k near (all k near);
    others = t.others;
  }

  -- the guards fit
  pub fit_all : (from : ℕ) (holds : List (Option Hold)) (w : View P) → TookBelow g meets wants shape from v holds w → AreApart wants → Fit shape w holds
  fit_all from holds w t apart = record {
    each = t.stands;
    apart = λ j k x y at_j at_k ne same.
        let a = of_below wants from holds t.held j x at_j in let b = of_below wants from holds t.held k y at_k in
        let e : lock_at wants j ≡ lock_at wants k = sym (ap (λ (z : Want). z.0) a.2) ∙ same ∙ ap (λ (z : Want). z.0) b.2 in
        ⊎_elim (λ lt. absurd (apart k b.0 (j, lt, e))) (λ ge. absurd (apart j a.0 (k, omega (arith, ge, ne), sym e))) (cases_lt j k);
  }

module _ {C P : Type 0} (g : Ghosts C P) (holds : List (Option Hold)) (v : View P) where
  -- none was given back yet
  pub gave_none : GaveFirst g holds v 0 v
  gave_none = record { returned = refl; away = λ k x low. absurd (omega (arith, low)); elsewhere = λ lock aside. refl; trail = treads_none (IsForHeld g holds) v v refl refl; others = λ lock aside was. was }

  at_more : (n : ℕ) (u w : View P) → AtFirst (ReturnsHeld g) holds v n u → IfThere (ReturnsHeld g) u (slice_index_or holds n None) w → AtFirst (ReturnsHeld g) holds v (n + 1) w
  at_more n u w before last =
      let more : AtFirst (ReturnsHeld g) holds v (suc n) w = (u, before, last) in let e : suc n ≡ n + 1 = omega arith in
      subst (λ (i : ℕ). AtFirst (ReturnsHeld g) holds v i w) e more

  -- at the next position there is none
  pub gave_skip : (n : ℕ) (u : View P) → slice_index_or holds n None ≡ None → GaveFirst g holds v n u → GaveFirst g holds v (n + 1) u
  gave_skip n u none t = record {
    returned = at_more n u u t.returned (subst (λ (o : Option Hold). IfThere (ReturnsHeld g) u o u) (sym none) refl);
    away = λ k x low at. ⊎_elim (λ lt. t.away k x lt at) (λ ge. absurd (no_hold x (subst (λ i. slice_index_or holds i None ≡ Some x) (omega (arith, low, ge)) at))) (cases_lt k n);
    elsewhere = λ lock aside. t.elsewhere lock (λ k x low at. aside k x (omega (arith, low)) at);
    trail = t.trail;
    others = λ lock aside was. t.others lock (λ k x low at. aside k x (omega (arith, low)) at) was;
  }
    where
      no_hold : (x : Hold) → slice_index_or holds n None ≡ Some x → ⊥
      no_hold x at = absurd (cc)

  -- the next one was given back
  pub gave_more : (n : ℕ) (x : Hold) (shape : Shape) (u w : View P) → Fit shape v holds → slice_index_or holds n None ≡ Some x → GaveFirst g holds v n u → ReturnsHeld g u x w → standing w x.0 ≡ stand.Away → ElsewhereSame u w x.0 → Treads (IsFor (want_of x)) u w → ((other : ℕ) → other ≢ x.0 → g.settled other u.part → g.settled other w.part) → GaveFirst g holds v (n + 1) w
  gave_more n x shape u w fit here t back away elsewhere trail others = record {
    returned = at_more n u w t.returned (subst (λ (o : Option Hold). IfThere (ReturnsHeld g) u o w) (sym here) back);
    away = λ k y low at. ⊎_elim
        (λ lt. elsewhere y.0 (fit.apart k n y x at here (λ e. absurd (omega (arith, lt, e)))) ∙ t.away k y lt at)
        (λ ge. let e : k ≡ n = omega (arith, low, ge) in subst (λ (z : Hold). standing w z.0 ≡ stand.Away) (same_hold y (subst (λ i. slice_index_or holds i None ≡ Some y) e at)) away)
        (cases_lt k n);
    elsewhere = λ lock aside. elsewhere lock (λ e. aside n x (omega arith) here (sym e)) ∙ t.elsewhere lock (λ k y low at. aside k y (omega (arith, low)) at);
    trail = treads_then (IsForHeld g holds) v u w t.trail (treads_as (IsFor (want_of x)) (IsForHeld g holds) u w (λ m is. (n, x, here, is)) trail);
    others = λ lock aside was. others lock (λ e. aside n x (omega arith) here (sym e)) (t.others lock (λ k y low at. aside k y (omega (arith, low)) at) was);
  }
    where
      same_hold : (y : Hold) → slice_index_or holds n None ≡ Some y → x ≡ y
      same_hold y at = some_same x y (sym here ∙ at)

  -- those that weren't given back yet are held as before
  pub still_held : (n : ℕ) (shape : Shape) (u : View P) → Fit shape v holds → ((k : ℕ) (x : Hold) → slice_index_or holds k None ≡ Some x → x.1 ≡ hows.Exclusive → g.settled x.0 v.part) → GaveFirst g holds v n u
      → (o : Option Hold) → slice_index_or holds n None ≡ o → IfSome o (λ x. HoldFits shape u x × (x.1 ≡ hows.Exclusive → g.settled x.0 u.part))
  still_held n shape u fit settled t None at = tt
  still_held n shape u fit settled t (Some x) at =
      let others : (k : ℕ) (y : Hold) → k < n → slice_index_or holds k None ≡ Some y → y.0 ≢ x.0 = λ k y low there. fit.apart k n y x there at (λ e. absurd (omega (arith, low, e))) in
      let f = fit.each n x at in ((f.0, t.elsewhere x.0 others ∙ f.1, f.2), λ exclusive. t.others x.0 others (settled n x at exclusive))

  -- the next position
  pub gave_at : (n : ℕ) (shape : Shape) (u w : View P) → length u.standings ≡ shape.locks → Fit shape v holds → GaveFirst g holds v n u → (o : Option Hold) → slice_index_or holds n None ≡ o → IfSome o (λ x. HoldFits shape u x × (x.1 ≡ hows.Exclusive → g.settled x.0 u.part))
      → MatchOption o (w ≡ u) (λ x. Returns g u x w × (standing w x.0 ≡ stand.Away) × ElsewhereSame u w x.0) → GaveFirst g holds v (n + 1) w
  gave_at n shape u w wide fit t None at held same = subst (λ (z : View P). GaveFirst g holds v (n + 1) z) (sym same) (gave_skip n u at t)
  gave_at n shape u w wide fit t (Some x) at held s =
      let near : x.0 < length u.standings = omega (arith, held.0.0, wide) in gave_more n x shape u w fit at t (held.0.1, s.0) s.1 s.2 (returns_treads g u w x near held.0.1 s.0) (returns_leave g u w x near held.0.1 s.0)
