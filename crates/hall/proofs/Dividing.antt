-- A split and a join keep the rule.
use Rattle.std.proofs.Common.{◌≡◌, ℕ, zero, suc, ◌+◌, ◌-◌, ◌/◌, ◌%◌, ◌<◌, ◌≤◌, ◌≢◌, ◌⊎◌, inl, inr, ⊎_elim, List, [], ◌∷◌, ◌++◌, map, set, get_or, drop, replicate, ◌^◌, Bool, true, false, cond, eqb, eq-eqb, ne_eqb, sym, refl, ap, ◌∙◌, subst, arith, Option, Some, None}
use Rattle.std.proofs.lemmas.List.{set-get_or, map-set, map-append, length-replicate}
use mathlib.Core.Logic.{dite}
use native.Mathlib.Decide.{ℕ_discrete}
use mathlib.Core.Option.{some}
use lib.ListN.{get_elem?}
use Rattle.atomic_table.specs.Table.{State, Me, keeps, Allows}
use Rattle.atomic_table.proofs.Lists.{set_again, at_set, at_map, at_snoc, at_longer, set_here, set_else}
use Rattle.hall.specs.declared.cargo.CargoRule.{Ghosts}
use Rattle.hall.specs.declared.view.View.{View}
use Rattle.hall.specs.declared.view.Plan.{Plan}
use Rattle.hall.specs.declared.view.Shape.{Shape}
use Rattle.hall.specs.declared.view.Footprint.{Footprint}
use Rattle.hall.specs.declared.view.StepEntry.{StepEntry}
use Rattle.hall.specs.declared.view.Standing.{Standing}
use Rattle.hall.specs.declared.view.Standing.TheVariants.{Away}
use Rattle.view_sums.specs.Sums.{total, same, same-refl, same-ne}
use Rattle.hall.specs.Numbers.{within, owns, covers, width, Numbered}
use Rattle.hall.specs.Locks.{Tally, weight, Lawful, IsSeated, cover, count, counts, named_by}
use Rattle.hall.specs.Views.{pending, footprint, mode_of, is_away, is_outside, is_strong, standing, split_left, split_right, joined_view, spent_view}
use Rattle.lock_model.specs.Locks.{Has}
use Rattle.state_word.specs.Words.{units_of}
use Rattle.hall.specs.declared.view.StepKind.TheVariants.{Hold}
use Rattle.hall.specs.Trails.{last_read, Heads, Reasoned, IsTrodden, Others, StrongOthers, Trailed}
use Rattle.hall.specs.Partings.{Met}
use Rattle.hall.proofs.Racing.{none_of, reasoned_more, reasoned_join}
use Rattle.hall.specs.Rule.{Holds, Formed, AllFormed, cargo_seat}
use Rattle.hall.specs.NumberLaws.{within-add, within-none, within-yes, steps_apart}
use Rattle.hall.specs.Cargo.{CargoSeat}
use Rattle.hall.proofs.Cargoes.{mode_at}
use Rattle.hall.specs.SlotLaws.{away_in}
use Rattle.hall.proofs.Locking.{same_tally, swept_same}
use Rattle.hall.proofs.Trailing.{Others_stay, IsTrodden_stays, Has-behind}
use Rattle.view_sums.specs.Sums.{total-append, total-set, total-same, one_there, term_le}

pub none_pending : (n : ℕ) → total pending (replicate n Away) ≡ 0
none_pending zero = refl
none_pending (suc n) = omega (arith, none_pending n)

module _ {P : Type 0} where
  -- the counts of a longer list whose last pass is away
  counts_given : (views : List (View P)) (id lock : ℕ) (v l r : View P) → get_elem? views id ≡ some v → standing l lock ≡ standing v lock → standing r lock ≡ Away → counts lock (set views id l ++ r ∷ []) ≡ counts lock views
  counts_given views id lock v l r at same off =
      let part : (f : Tally → ℕ) → f (weight Away) ≡ 0 → total (count f lock) (set views id l ++ r ∷ []) ≡ total (count f lock) views = λ f z. omega (
        arith,
        total-append (count f lock) (set views id l) (r ∷ []),
        total-same (count f lock) views id v l at (ap (λ (x : Standing). f (weight x)) same),
        ap (λ (x : Standing). f (weight x)) off,
      ) in
      same_tally (part (λ t. t.shared) refl) (part (λ t. t.undecided) refl) (part (λ t. t.owing) refl) (part (λ t. t.upgrade) refl) (part (λ t. t.plain) refl) (part (λ t. t.raised) refl) (part (λ t. t.exclusive) refl) (part (λ t. t.hand) refl)

  counts_joined : (views : List (View P)) (id other lock : ℕ) (v w b z : View P) → get_elem? views id ≡ some v → get_elem? (set views id b) other ≡ some w → standing b lock ≡ standing v lock → standing w lock ≡ Away → standing z lock ≡ Away
      → counts lock (set (set views id b) other z) ≡ counts lock views
  counts_joined views id other lock v w b z at there same off gone =
      let part : (f : Tally → ℕ) → total (count f lock) (set (set views id b) other z) ≡ total (count f lock) views = λ f.
      total-same (count f lock) (set views id b) other w z there (ap (λ (x : Standing). f (weight x)) (gone ∙ sym off)) ∙ total-same (count f lock) views id v b at (ap (λ (x : Standing). f (weight x)) same) in
      same_tally (part (λ t. t.shared)) (part (λ t. t.undecided)) (part (λ t. t.owing)) (part (λ t. t.upgrade)) (part (λ t. t.plain)) (part (λ t. t.raised)) (part (λ t. t.exclusive)) (part (λ t. t.hand))

  Others_longer : (views more : List (View P)) (lock n : ℕ) → Others views lock n → Others (views ++ more) lock n
  Others_longer views more lock n h = (h.0, (h.1.0, h.1.1, at_longer views more h.1.0 h.1.1 h.1.2, h.1.3), h.2, h.3)

module _ {C P : Type 0} (g : Ghosts C P) (plan : Plan C) (s : State (Unit {0}) (View P)) (h : Holds g plan s) (id : ℕ) (v : View P) (at : get_elem? s.views id ≡ some v) (lives : 0 < v.span) (seats quota : ℕ) (some_seats : 0 < seats) (few : seats < v.span) (enough : quota ≤ v.quota) where
  abbrev left : View P
  left = split_left seats quota (g.kept v.part) v

  abbrev right : View P
  right = split_right seats quota (g.split_off v.part) v

  abbrev views' : List (View P)
  views' = set s.views id left ++ right ∷ []

  right_away : (lock : ℕ) → standing right lock ≡ Away
  right_away lock = away_in v.shape.locks lock

  split_numbered : Numbered plan.shape.seats views'
  split_numbered = record {
    once = λ x. omega (
      arith,
      total-append (covers x) (set s.views id left) (right ∷ []),
      total-set (covers x) s.views id v left at,
      within-add x v.number (v.span - seats) seats,
      (let e : v.span - seats + seats ≡ v.span = omega arith in ap (within x v.number) e),
      (let e : v.number + (v.span - seats) ≡ v.number + v.span - seats = omega arith in ap (λ (a : ℕ). within x a seats) e),
      h.numbered.once x,
    );
    all = omega (arith, total-append width (set s.views id left) (right ∷ []), total-set width s.views id v left at, h.numbered.all);
  }

  split_formed : AllFormed plan.shape views'
  split_formed j u e = let f = h.formed id v at in ⊎_elim
      (λ e. ⊎_elim (λ t. subst (Formed plan.shape) t.1 record { shape = λ _. f.shape lives; wide = λ _. f.wide lives; spent = λ dead. absurd (omega arith); seated = f.seated; one_pending = f.one_pending }) (λ t. h.formed j u t.1) (at_set s.views id j left u e))
      (λ e. subst (Formed plan.shape) e record { shape = λ _. f.shape lives; wide = λ _. length-replicate v.shape.locks Away ∙ ap (λ (z : Shape). z.locks) (f.shape lives); spent = λ dead. absurd (omega arith); seated = λ k. subst (IsSeated plan.shape.slots) (sym (right_away k)) tt; one_pending = omega (arith, none_pending v.shape.locks) })
      (at_snoc (set s.views id left) right u j e)

  -- the split itself is no read of a state word
  skip : (k w : ℕ) → last_read (plan.shape.slots + k) v.number left.steps ≡ Some w → last_read (plan.shape.slots + k) v.number v.steps ≡ Some w
  skip k w is = let far : eqb 0 (plan.shape.slots + k) ≡ false = let pos = h.some_slot in ne_eqb 0 (plan.shape.slots + k) (λ e. omega arith) in let old : Option ℕ = last_read (plan.shape.slots + k) v.number v.steps in
      ap (λ b. cond b (Some 0) old) (sym far) ∙ ap (λ b. cond b (cond (eqb 0 (plan.shape.slots + k)) (Some 0) old) None) (sym (eq-eqb v.number v.number refl)) ∙ is

  split_trailed : Trailed plan.shape s.words views'
  split_trailed =
      let stay : (lock n : ℕ) → Others s.views lock n → Others views' lock n = λ lock n o. Others_longer (set s.views id left) (right ∷ []) lock n (Others_stay s.views id v left lock n at (λ a t. t) o) in
      record {
        present = λ j u e k there. ⊎_elim
            (λ e. ⊎_elim (λ t. let F : View P → Type 0 = λ z. is_away (standing z k) ≡ false → (strong : Bool) × Has z.trail (footprint z.number k strong) in subst F t.1 (h.trailed.present id v at k) there) (λ t. h.trailed.present j u t.1 k there) (at_set s.views id j left u e))
            (λ e. let F : View P → Type 0 = λ z. is_away (standing z k) ≡ false → (strong : Bool) × Has z.trail (footprint z.number k strong) in subst F e (λ bad. let off : is_away (standing right k) ≡ true = ap is_away (right_away k) in absurd (cc)) there)
            (at_snoc (set s.views id left) right u j e);
        strongly = λ j u e k there. ⊎_elim
            (λ e. ⊎_elim (λ t. let F : View P → Type 0 = λ z. is_strong (standing z k) ≡ true → Has z.trail (footprint z.number k true) in subst F t.1 (h.trailed.strongly id v at k) there) (λ t. h.trailed.strongly j u t.1 k there) (at_set s.views id j left u e))
            (λ e. let F : View P → Type 0 = λ z. is_strong (standing z k) ≡ true → Has z.trail (footprint z.number k true) in subst F e (λ bad. let off : is_strong (standing right k) ≡ false = ap is_strong (right_away k) in absurd (cc)) there)
            (at_snoc (set s.views id left) right u j e);
        remembered = λ j u e k w below is. ⊎_elim
            (λ e. ⊎_elim
            (λ t. let F : View P → Type 0 = λ z. last_read (plan.shape.slots + k) z.number z.steps ≡ Some w → (get_or s.words (plan.shape.slots + k) 0 ≡ w) ⊎ Others views' k z.number in
            subst F t.1 (λ is. ⊎_elim inl (λ o. inr (stay k v.number o)) (h.trailed.remembered id v at k w below (skip k w is))) is)
            (λ t. ⊎_elim inl (λ o. inr (stay k u.number o)) (h.trailed.remembered j u t.1 k w below is)) (at_set s.views id j left u e))
            (λ e. let F : View P → Type 0 = λ z. last_read (plan.shape.slots + k) z.number z.steps ≡ Some w → (get_or s.words (plan.shape.slots + k) 0 ≡ w) ⊎ Others views' k z.number in subst F e (λ bad. absurd (cc)) is)
            (at_snoc (set s.views id left) right u j e);
        owned = λ j u there e has. ⊎_elim
            (λ there. ⊎_elim
            (λ t. let F : View P → Type 0 = λ z. Has z.steps e → 1 ≤ owns e.number z in subst F t.1 (⊎_elim (λ is. subst (λ (z : StepEntry). 1 ≤ owns z.number left) (sym is) (omega (arith, same-refl v.number))) (λ old. h.trailed.owned id v at e old)) has)
            (λ t. h.trailed.owned j u t.1 e has) (at_set s.views id j left u there))
            (λ is. let F : View P → Type 0 = λ z. Has z.steps e → 1 ≤ owns e.number z in subst F is (λ bad. absurd bad) has)
            (at_snoc (set s.views id left) right u j there);
        trodden = λ j u there m has. ⊎_elim
            (λ there. ⊎_elim
            (λ t. let F : View P → Type 0 = λ z. Has z.trail m → (0 < z.span) × (1 ≤ owns m.number z) in subst F t.1 (λ mine. (omega arith, (h.trailed.trodden id v at m mine).1)) has)
            (λ t. h.trailed.trodden j u t.1 m has) (at_set s.views id j left u there))
            (λ is. let F : View P → Type 0 = λ z. Has z.trail m → (0 < z.span) × (1 ≤ owns m.number z) in subst F is (λ bad. absurd bad) has)
            (at_snoc (set s.views id left) right u j there);
        newest = λ j u there. ⊎_elim
            (λ there. ⊎_elim (λ t. let F : View P → Type 0 = λ z. Heads z.number z.steps in subst F t.1 refl) (λ t. h.trailed.newest j u t.1) (at_set s.views id j left u there))
            (λ is. let F : View P → Type 0 = λ z. Heads z.number z.steps in subst F is tt)
            (at_snoc (set s.views id left) right u j there);
        counted = λ j u there e has k below place is_hold lost count. ⊎_elim
            (λ there. ⊎_elim
            (λ t. let F : View P → Type 0 = λ z. Has z.steps e → Others views' k e.number in subst F t.1 (⊎_elim (λ is. absurd (let p : 0 ≡ plan.shape.slots + k = ap (λ (z : StepEntry). z.place) (sym is) ∙ place in let pos = h.some_slot in omega arith)) (λ old. stay k e.number (h.trailed.counted id v at e old k below place is_hold lost count))) has)
            (λ t. stay k e.number (h.trailed.counted j u t.1 e has k below place is_hold lost count)) (at_set s.views id j left u there))
            (λ is. let F : View P → Type 0 = λ z. Has z.steps e → Others views' k e.number in subst F is (λ bad. absurd bad) has)
            (at_snoc (set s.views id left) right u j there);
        raced = λ j u there k below. ⊎_elim
            (λ there. ⊎_elim
            (λ t. subst (λ (z : View P). Reasoned (Others views' k) (plan.shape.slots + k) z.steps) t.1 (
              (λ place. absurd (let pos = h.some_slot in omega (arith, place))),
              reasoned_more (Others s.views k) (Others views' k) (plan.shape.slots + k) v.steps (stay k) (h.trailed.raced id v at k below),
            ))
            (λ t. reasoned_more (Others s.views k) (Others views' k) (plan.shape.slots + k) u.steps (stay k) (h.trailed.raced j u t.1 k below)) (at_set s.views id j left u there))
            (λ is. subst (λ (z : View P). Reasoned (Others views' k) (plan.shape.slots + k) z.steps) is tt)
            (at_snoc (set s.views id left) right u j there);
        excused = λ j u there e has k below place off bits. let more : (number : ℕ) → StrongOthers s.views k number → StrongOthers views' k number = λ number o. let m = IsTrodden_stays s.views id v left o.0 at (λ a t. t) o.1 in (o.0, (m.0, m.1, at_longer (set s.views id left) (right ∷ []) m.0 m.1 m.2, m.3), o.2, o.3, o.4) in ⊎_elim
            (λ there. ⊎_elim
            (λ t. let F : View P → Type 0 = λ z. Has z.steps e → StrongOthers views' k e.number in subst F t.1 (⊎_elim (λ is. absurd (let p : 0 ≡ plan.shape.slots + k = ap (λ (z : StepEntry). z.place) (sym is) ∙ place in let pos = h.some_slot in omega arith)) (λ old. more e.number (h.trailed.excused id v at e old k below place off bits))) has)
            (λ t. more e.number (h.trailed.excused j u t.1 e has k below place off bits)) (at_set s.views id j left u there))
            (λ is. let F : View P → Type 0 = λ z. Has z.steps e → StrongOthers views' k e.number in subst F is (λ bad. absurd bad) has)
            (at_snoc (set s.views id left) right u j there);
      }

  pub splits : Holds g plan record { words = s.words; homes = s.homes; views = views' }
  splits = record {
    size = h.size;
    some_slot = h.some_slot;
    few_slots = h.few_slots;
    few = h.few;
    rationed = omega (arith, total-append (λ u. u.quota) (set s.views id left) (right ∷ []), total-set (λ u. u.quota) s.views id v left at, h.rationed);
    counted = h.counted;
    formed = split_formed;
    numbered = split_numbered;
    lawful = λ lock below. subst (Lawful (get_or s.words (plan.shape.slots + lock) 0) (named_by plan.shape.slots lock s.words)) (sym (counts_given s.views id lock v left right at refl (right_away lock))) (h.lawful lock below);
    swept = swept_same plan.shape s.words s.words s.views views' h.swept (λ k b. refl) (λ k lock. omega (
      arith,
      total-append (λ (u : View P). cover k (standing u lock)) (set s.views id left) (right ∷ []),
      total-same (λ (u : View P). cover k (standing u lock)) s.views id v left at refl,
      ap (cover k) (right_away lock),
    ));
    slot_words = h.slot_words;
    trailed = split_trailed;
    gone = λ j u e dead. ⊎_elim
        (λ e. ⊎_elim (λ t. absurd (let z : left.span ≡ 0 = ap (λ (y : View P). y.span) t.1 ∙ dead in omega arith)) (λ t. h.gone j u t.1 dead) (at_set s.views id j left u e))
        (λ is. absurd (let z : right.span ≡ 0 = ap (λ (y : View P). y.span) is ∙ dead in omega arith))
        (at_snoc (set s.views id left) right u j e);
    cargo = let quota_is : v.quota ≡ v.quota - quota + quota = omega arith in
        subst (g.holds plan.cargo (drop (plan.shape.slots + plan.shape.locks) s.words)) (sym (map-append cargo_seat (set s.views id left) (right ∷ []) ∙ ap (λ (z : List (CargoSeat P)). z ++ cargo_seat right ∷ []) (map-set cargo_seat s.views id left)))
        (g.split_keeps plan.cargo (drop (plan.shape.slots + plan.shape.locks) s.words) (map cargo_seat s.views) id right.number (v.quota - quota) quota (cargo_seat right).modes (cargo_seat v) h.cargo (at_map cargo_seat s.views id v at) quota_is
        (λ lock. mode_at right lock ∙ ap mode_of (right_away lock)));
  }

Has-split : {A : Type 0} (xs ys : List A) (a : A) → Has (xs ++ ys) a → Has xs a ⊎ Has ys a
Has-split [] ys a h = inr h
Has-split (x ∷ xs) ys a h = ⊎_elim (λ t. inl (inl t)) (λ t. ⊎_elim (λ p. inl (inr p)) inr (Has-split xs ys a t)) h

Has-either : {A : Type 0} (xs ys : List A) (a : A) → Has xs a → Has (xs ++ ys) a
Has-either [] ys a h = absurd h
Has-either (x ∷ xs) ys a h = ⊎_elim inl (λ t. inr (Has-either xs ys a t)) h

module _ {C P : Type 0} (g : Ghosts C P) (plan : Plan C) (s : State (Unit {0}) (View P)) (h : Holds g plan s) (id other : ℕ) (v w : View P) (at : get_elem? s.views id ≡ some v) (ne : other ≢ id) (there : get_elem? s.views other ≡ some w) (lives : 0 < v.span) (lives' : 0 < w.span)
    (off : (lock : ℕ) → standing w lock ≡ Away) (calm : g.rested w.part) where
  abbrev both : View P
  both = joined_view (g.joined v.part w.part) v w

  abbrev spent : View P
  spent = spent_view g.spent

  abbrev joined : List (View P)
  joined = set (set s.views id both) other spent

  still : get_elem? (set s.views id both) other ≡ some w
  still = set_else s.views id other both ne ∙ there

  -- a pass after the join is the joined one, the spent one or as it was
  cases : (F : ℕ → View P → Type 0) → F id both → F other spent → ((j : ℕ) (u : View P) → get_elem? s.views j ≡ some u → j ≢ id → j ≢ other → F j u) → (j : ℕ) (u : View P) → get_elem? joined j ≡ some u → F j u
  cases F one two rest j u e = ⊎_elim
      (λ t. subst (F j) t.1 (subst (λ (k : ℕ). F k spent) (sym t.0) two))
      (λ t. ⊎_elim (λ q. subst (F j) q.1 (subst (λ (k : ℕ). F k both) (sym q.0) one)) (λ q. rest j u q.1 q.0 t.0) (at_set s.views id j both u t.1))
      (at_set (set s.views id both) other j spent u e)

  join_marks : (m : Footprint) → IsTrodden s.views m → IsTrodden joined m
  join_marks m k =
      let here : get_elem? joined id ≡ some both = set_else (set s.views id both) other id spent (λ e. ne (sym e)) ∙ set_here s.views id both (Rattle.view_sums.specs.Sums.there s.views id v at) in
      dite (ℕ_discrete k.0 id)
      (λ e. (id, both, here, Has-behind w.trail v.trail m (subst (λ (z : View P). Has z.trail m) (one_there s.views id k.1 v (subst (λ (i : ℕ). get_elem? s.views i ≡ some k.1) e k.2) at) k.3)))
      (λ n1. dite (ℕ_discrete k.0 other)
      (λ e. (id, both, here, Has-either w.trail v.trail m (subst (λ (z : View P). Has z.trail m) (one_there s.views other k.1 w (subst (λ (i : ℕ). get_elem? s.views i ≡ some k.1) e k.2) there) k.3)))
      (λ n2. (k.0, k.1, set_else (set s.views id both) other k.0 spent n2 ∙ set_else s.views id k.0 both n1 ∙ k.2, k.3)))

  strong_joined : (lock n : ℕ) → StrongOthers s.views lock n → StrongOthers joined lock n
  strong_joined lock n o = (o.0, join_marks o.0 o.1, o.2, o.3, o.4)

  others_joined : (lock n : ℕ) → Others s.views lock n → Others joined lock n
  others_joined lock n o = (o.0, join_marks o.0 o.1, o.2, o.3)

  -- what either pass owned, the joined one owns
  owned_joined : (n : ℕ) → (1 ≤ owns n w) ⊎ (1 ≤ owns n v) → 1 ≤ owns n both
  owned_joined n one = let sum = total-append (λ (r : ℕ × ℕ). within n r.0 r.1) w.taken v.taken in ⊎_elim
      (λ theirs. dite (ℕ_discrete n w.number)
      (λ is. omega (arith, sum, within-yes n w.number w.span (omega (arith, is)) (omega (arith, is))))
      (λ ne. omega (arith, sum, theirs, same-ne n w.number ne)))
      (λ mine. omega (arith, sum, mine)) one

  total_join : (f : View P → ℕ) → f both ≡ f v + f w → f spent ≡ 0 → total f joined ≡ total f s.views
  total_join f sum none' = omega (arith, total-set f s.views id v both at, total-set f (set s.views id both) other w spent still)

  pub joins : Holds g plan record { words = s.words; homes = s.homes; views = joined }
  joins = record {
    size = h.size;
    some_slot = h.some_slot;
    few_slots = h.few_slots;
    few = h.few;
    rationed = omega (arith, total_join (λ u. u.quota) refl refl, h.rationed);
    counted = h.counted;
    formed = let f = h.formed id v at in cases (λ _ u. Formed plan.shape u) record { shape = f.shape; wide = f.wide; spent = λ dead. absurd (omega arith); seated = f.seated; one_pending = f.one_pending } record { shape = λ bad. absurd (omega arith); wide = λ bad. absurd (omega arith); spent = λ _. (refl, refl, refl); seated = λ k. tt; one_pending = omega arith } (λ j u e _ _. h.formed j u e);
    numbered = record {
      once = λ x. total_join (covers x) (omega (arith, total-append (λ (r : ℕ × ℕ). within x r.0 r.1) w.taken v.taken)) (omega (arith, within-none x)) ∙ h.numbered.once x;
      all = total_join width (omega (arith, total-append (λ (r : ℕ × ℕ). r.1) w.taken v.taken)) refl ∙ h.numbered.all;
    };
    lawful = λ lock below. subst (Lawful (get_or s.words (plan.shape.slots + lock) 0) (named_by plan.shape.slots lock s.words)) (sym (counts_joined s.views id other lock v w both spent at still refl (off lock) refl)) (h.lawful lock below);
    swept = swept_same plan.shape s.words s.words s.views joined h.swept (λ k b. refl) (λ k lock. omega (
      arith,
      total-set (λ (u : View P). cover k (standing u lock)) s.views id v both at,
      total-set (λ (u : View P). cover k (standing u lock)) (set s.views id both) other w spent still,
      ap (cover k) (off lock),
    ));
    slot_words = h.slot_words;
    trailed = record {
      present = cases (λ _ u. (lock : ℕ) → is_away (standing u lock) ≡ false → (strong : Bool) × Has u.trail (footprint u.number lock strong))
          (λ k is. let t = h.trailed.present id v at k is in (t.0, Has-behind w.trail v.trail _ t.1)) (λ k bad. absurd (cc)) (λ j u e _ _. h.trailed.present j u e);
      strongly = cases (λ _ u. (lock : ℕ) → is_strong (standing u lock) ≡ true → Has u.trail (footprint u.number lock true))
          (λ k is. Has-behind w.trail v.trail _ (h.trailed.strongly id v at k is)) (λ k bad. absurd (cc)) (λ j u e _ _. h.trailed.strongly j u e);
      owned = cases (λ _ u. (e : StepEntry) → Has u.steps e → 1 ≤ owns e.number u)
          (λ e has. ⊎_elim (λ is. subst (λ (z : StepEntry). 1 ≤ owns z.number both) (sym is) (omega (arith, same-refl v.number)))
          (λ old. owned_joined e.number (⊎_elim (λ o. inl (h.trailed.owned other w there e o)) (λ o. inr (h.trailed.owned id v at e o)) (Has-split w.steps v.steps e old))) has)
          (λ e has. absurd has) (λ j u e _ _. h.trailed.owned j u e);
      trodden = cases (λ _ u. (m : Footprint) → Has u.trail m → (0 < u.span) × (1 ≤ owns m.number u))
          (λ m has. (lives, owned_joined m.number (⊎_elim (λ o. inl (h.trailed.trodden other w there m o).1) (λ o. inr (h.trailed.trodden id v at m o).1) (Has-split w.trail v.trail m has))))
          (λ m has. absurd has) (λ j u e _ _. h.trailed.trodden j u e);
      newest = cases (λ _ u. Heads u.number u.steps) refl tt (λ j u e _ _. h.trailed.newest j u e);
      remembered = cases (λ _ u. (lock x : ℕ) → lock < plan.shape.locks → last_read (plan.shape.slots + lock) u.number u.steps ≡ Some x → (get_or s.words (plan.shape.slots + lock) 0 ≡ x) ⊎ Others joined lock u.number)
          (λ k x _ bad. let nothing : None ≡ Some x = ap (λ b. cond b None None) (sym (eq-eqb v.number v.number refl)) ∙ bad in absurd (cc)) (λ k x _ bad. absurd (cc)) (λ j u e _ _ k x below is. ⊎_elim inl (λ o. inr (others_joined k u.number o)) (h.trailed.remembered j u e k x below is));
      counted = cases (λ _ u. (e : StepEntry) → Has u.steps e → (k : ℕ) → k < plan.shape.locks → e.place ≡ plan.shape.slots + k → e.kind ≡ Hold → e.won ≡ false → units_of e.word ≢ 0 → Others joined k e.number)
          (λ e has k below place is_hold lost count. ⊎_elim (λ is. absurd (let p : 0 ≡ plan.shape.slots + k = ap (λ (z : StepEntry). z.place) (sym is) ∙ place in let pos = h.some_slot in omega arith))
          (λ old. others_joined k e.number (⊎_elim (λ o. h.trailed.counted other w there e o k below place is_hold lost count) (λ o. h.trailed.counted id v at e o k below place is_hold lost count) (Has-split w.steps v.steps e old))) has)
          (λ e has. absurd has) (λ j u there _ _ e has k below place is_hold lost count. others_joined k e.number (h.trailed.counted j u there e has k below place is_hold lost count));
      raced = cases (λ _ u. (k : ℕ) → k < plan.shape.locks → Reasoned (Others joined k) (plan.shape.slots + k) u.steps)
          (λ k below. (
            (λ place. absurd (let pos = h.some_slot in omega (arith, place))),
            reasoned_join (Others joined k) (plan.shape.slots + k) v.number w.steps v.steps (h.trailed.newest id v at)
                (none_of v.number w.steps (λ e has. steps_apart plan.shape.seats s.views id other v w h.numbered at there ne lives lives' e.number (h.trailed.owned other w there e has)))
                (reasoned_more (Others s.views k) (Others joined k) (plan.shape.slots + k) w.steps (others_joined k) (h.trailed.raced other w there k below))
                (reasoned_more (Others s.views k) (Others joined k) (plan.shape.slots + k) v.steps (others_joined k) (h.trailed.raced id v at k below)),
          ))
          (λ k below. tt) (λ j u e _ _ k below. reasoned_more (Others s.views k) (Others joined k) (plan.shape.slots + k) u.steps (others_joined k) (h.trailed.raced j u e k below));
      excused = cases (λ _ u. (e : StepEntry) → Has u.steps e → (k : ℕ) → k < plan.shape.locks → e.place ≡ plan.shape.slots + k → is_outside e.before ≡ true → e.word / 2 % 8 ≢ 0 → StrongOthers joined k e.number)
          (λ e has k below place off bits. ⊎_elim (λ is. absurd (let p : 0 ≡ plan.shape.slots + k = ap (λ (z : StepEntry). z.place) (sym is) ∙ place in let pos = h.some_slot in omega arith))
          (λ old. strong_joined k e.number (⊎_elim (λ o. h.trailed.excused other w there e o k below place off bits) (λ o. h.trailed.excused id v at e o k below place off bits) (Has-split w.steps v.steps e old))) has)
          (λ e has. absurd has) (λ j u there _ _ e has k below place off bits. strong_joined k e.number (h.trailed.excused j u there e has k below place off bits));
    };
    gone = cases (λ _ u. u.span ≡ 0 → u.part ≡ g.spent) (λ dead. absurd (omega arith)) (λ _. refl) (λ j u e _ _. h.gone j u e);
    cargo = subst (g.holds plan.cargo (drop (plan.shape.slots + plan.shape.locks) s.words)) (sym (map-set cargo_seat (set s.views id both) other spent ∙ ap (λ (z : List (CargoSeat P)). set z other (cargo_seat spent)) (map-set cargo_seat s.views id both)))
        (g.join_keeps plan.cargo (drop (plan.shape.slots + plan.shape.locks) s.words) (map cargo_seat s.views) id other (cargo_seat v) (cargo_seat w) h.cargo (at_map cargo_seat s.views id v at) (at_map cargo_seat s.views other w there) ne
        (λ lock. mode_at w lock ∙ ap mode_of (off lock)) calm);
  }

module _ {C P : Type 0} (g : Ghosts C P) (plan : Plan C) where
  -- a look that leaves all as it was tells that the rule holds, and that a quota is one of a `u64`
  pub weighs : (n id i : ℕ) (me : Me (Unit {0}) (View P)) → 0 < me.0.span → Allows (Holds g plan) n id me i (λ x. x) (λ r m. (m ≡ me) × (me.0.quota < 2 ^ 64) × Met g me.0)
  weighs n id i me lives s h wide at fits = (
    me.0,
    keeps,
    tt,
    (let same : record { words = set s.words i (get_or s.words i 0); homes = s.homes; views = set s.views id me.0 } ≡ s = λ k. record { words = set-get_or s.words i 0 k; homes = s.homes; views = set_again s.views id me.0 at k } in subst (Holds g plan) (sym same) h),
    (
      refl,
      omega (arith, h.rationed, h.counted, term_le (λ u. u.quota) s.views id me.0 at),
      record { plan = plan; state = s; id = id; shape = sym ((h.formed id me.0 at).shape lives); mine = at; holds = h },
    ),
  )
