-- What the rule needs at each step.
use Rattle.std.proofs.Common.{◌≡◌, ◌≢◌, ℕ, zero, suc, ◌+◌, ◌*◌, ◌<◌, ◌≤◌, List, [], ◌∷◌, map, length, set, get_or, get_or-set_other, Option, Some, None, Bool, true, false, true≢false, refl, sym, ap, ◌∙◌, subst, inl, inr, ⊎_elim, arith, cond, nat_lt, nat_eq, eq-eqb, ne_eqb}
use mathlib.Core.Option.{some, none, some-ne-none, some-injective, Option as Maybe}
use mathlib.Core.Logic.{dite}
use native.Mathlib.Decide.{ℕ_discrete, dec_lt}
use Rattle.std.proofs.lemmas.Bool.{le-ltb}
use lib.ListN.{get_elem?}
use Rattle.atomic_table.specs.Table.{State, Act, keeps, Valid, stepped, carried_after}
use Rattle.atomic_table.proofs.Lists.{at_set, at_map, set_else}
use Rattle.waiter_chain.specs.declared.view.View.{View}
use Rattle.waiter_chain.specs.declared.view.Next.{Next}
use Rattle.waiter_chain.specs.declared.view.Ownership.{Ownership}
use Rattle.waiter_chain.specs.declared.view.StepEntry.{StepEntry}
use Rattle.waiter_chain.specs.Steps.{SeatState, Sound, with_steps}
use Rattle.waiter_chain.specs.declared.view.Stage.{Stage}
use Rattle.waiter_chain.specs.declared.view.Stage.TheVariants.{Idle, Holding, Cleared, Ready, Behind, Owns, Done}
use Rattle.waiter_chain.specs.Goods.{Goods, goods, part, put}
use Rattle.waiter_chain.specs.Chains.{Waiter, Line, named, covers, part_of, desk, Desk, Seated, AtRest, Waits, Taken, Finished, Granted, Noted, AllWait, AllDone, HasTaken, front, Weight, weigh, line_weight, Waking, within, Owner, nobody, turn, granted, owner_weight, Queued, AtHome, Held, Lawful}
pub use Rattle.waiter_chain.specs.Shows.{has}
use Rattle.view_sums.specs.Sums.{total, same, total-set, term_le, terms_le, total-le, map-set_same, set_self, same-refl, same-ne, same-eq}

line_up : {P : Type 0} (v w : ℕ) (xs : List (Waiter P)) → Line v xs w → 0 < w → 0 < v
line_up v w [] h up = omega arith
line_up v w (x ∷ xs) h up = omega (arith, h.0)

-- from a word to itself a line is empty, if it does not name that word
pub line_empty : {P : Type 0} (v w : ℕ) (xs : List (Waiter P)) → Line v xs w → named w xs ≡ 0 → v ≡ w → xs ≡ []
line_empty v w [] h none-there e = refl
line_empty v w (x ∷ xs) h none-there e = absurd (omega (arith, same-eq (x.0 + 2) w (sym h.0 ∙ e)))

pub line_some : {P : Type 0} (v w : ℕ) (xs : List (Waiter P)) → Line v xs w → v ≢ w → 0 < length xs
line_some v w [] h ne = absurd (ne h)
line_some v w (x ∷ xs) h ne = omega arith

pub line_ne : {P : Type 0} (v w : ℕ) (xs : List (Waiter P)) → Line v xs w → named w xs ≡ 0 → 0 < length xs → v ≢ w
line_ne v w [] h none-there long = absurd (omega arith)
line_ne v w (x ∷ xs) h none-there long = λ e. omega (arith, same-eq (x.0 + 2) w (sym h.0 ∙ e))

pub cond-le : (b : Bool) → cond b 1 0 ≤ 1
cond-le true = omega arith
cond-le false = omega arith

pub nat_lt-pos : (n k : ℕ) → 0 < cond (nat_lt n k) 1 0 → n < k
nat_lt-pos n k h = dite (dec_lt n k) (λ l. l) (λ nl. absurd (omega (arith, ap {B = ℕ} (λ b. cond b 1 0) (le-ltb n k (omega arith)))))

pub bool_cases : {A : Type 0} (b : Bool) → (b ≡ true → A) → (b ≡ false → A) → A
bool_cases true f g = f refl
bool_cases false f g = g refl

pub within-first : (n a k : ℕ) → same a n ≤ within n (a, k)
within-first n a k = dite (ℕ_discrete a n)
    (λ e. let p = ap {B = ℕ} (λ b. cond b 0 (cond (nat_lt (a + k) n) 0 1)) (le-ltb n a (omega arith)) in let q = ap {B = ℕ} (λ b. cond b 0 1) (le-ltb (a + k) n (omega arith)) in omega (arith, same-eq a n e))
    (λ ne. omega (arith, same-ne a n ne))

module _ {P : Type 0} where
  -- a node of this number is awake: it waits, or owns the lock
  abbrev pub awake : ℕ → Weight P
  awake n m Idle = 0
  awake n m Holding = 0
  awake n m (Cleared j) = 0
  awake n m (Ready j) = 0
  awake n m (Behind b j) = same m n
  awake n m (Owns k) = same m n
  awake n m (Done j a) = 0

  -- an owner, whatever its number
  abbrev pub ruling : Weight P
  ruling m Idle = 0
  ruling m Holding = 0
  ruling m (Cleared j) = 0
  ruling m (Ready j) = 0
  ruling m (Behind b j) = 0
  ruling m (Owns k) = 1
  ruling m (Done j a) = 0

  -- a node of this number waits behind this word, with no job
  abbrev pub spot : ℕ → ℕ → Weight P
  spot n b m Idle = 0
  spot n b m Holding = 0
  spot n b m (Cleared j) = 0
  spot n b m (Ready j) = 0
  spot n b m (Behind c None) = cond (nat_eq m n) (same c b) 0
  spot n b m (Behind c (Some j)) = 0
  spot n b m (Owns k) = 0
  spot n b m (Done j a) = 0

line-ruling : (P : Type 0) (xs : List (Waiter P)) → line_weight {P = P} ruling xs ≡ 0
line-ruling P [] = refl
line-ruling P (x ∷ xs) = omega (arith, line-ruling P xs)

module _ {P : Type 0} where
  awake-same : (n m : ℕ) (g : Stage P) → awake n m g ≤ same m n
  awake-same n m Idle = omega arith
  awake-same n m Holding = omega arith
  awake-same n m (Cleared j) = omega arith
  awake-same n m (Ready j) = omega arith
  awake-same n m (Behind b j) = omega arith
  awake-same n m (Owns k) = omega arith
  awake-same n m (Done j a) = omega arith

  pub covers-live : (n : ℕ) (v : View P) → v.gone ≡ false → covers n v ≡ within n (v.number, v.spare) + total (within n) v.past
  covers-live n v e = ap {B = ℕ} (λ b. cond b 0 (within n (v.number, v.spare) + total (within n) v.past)) e

  pub covers-number : (n : ℕ) (v : View P) → v.gone ≡ false → same v.number n ≤ covers n v
  covers-number n v e = omega (arith, covers-live n v e, within-first n v.number v.spare)

  awake-le : (n : ℕ) (v : View P) → (v.gone ≡ true → v.stage ≡ Idle) → weigh (awake n) v ≤ covers n v
  awake-le n v asleep = bool_cases v.gone (λ e. omega (arith, ap (awake n v.number) (asleep e))) (λ e. omega (arith, awake-same n v.number v.stage, covers-number n v e))

  total-le_at : (f g : View P → ℕ) (l : List (View P)) (j : ℕ) (v : View P) → ((i : ℕ) (x : View P) → get_elem? l i ≡ some x → f x ≤ g x) → get_elem? l j ≡ some v → total f l + g v ≤ total g l + f v
  total-le_at f g [] j v h e = absurd (some-ne-none v (sym e))
  total-le_at f g (x ∷ xs) zero v h e = omega (arith, total-le f g xs (λ i. h (suc i)), ap f (some-injective x v e), ap g (some-injective x v e))
  total-le_at f g (x ∷ xs) (suc j) v h e = omega (arith, h zero x refl, total-le_at f g xs j v (λ i. h (suc i)) e)

  owner-le : (o : Owner P) → owner_weight ruling o ≤ 1
  owner-le nobody = omega arith
  owner-le (turn n r) = omega (arith, line-ruling P (front r.next []))
  owner-le (granted n b j e) = omega arith

  ownership_of : Ownership P → Stage P → Ownership P
  ownership_of d (Owns k) = k
  ownership_of d Idle = d
  ownership_of d Holding = d
  ownership_of d (Cleared j) = d
  ownership_of d (Ready j) = d
  ownership_of d (Behind b j) = d
  ownership_of d (Done j a) = d

  pub owns-injective : (r k : Ownership P) → Owns r ≡ Owns k → r ≡ k
  unfolding ownership_of
  owns-injective r k e = ap (ownership_of r) e

  pub owns-idle : (k : Ownership P) → Owns k ≡ Idle → ⊥
  owns-idle k e = cc

  pub turn-nobody : (n : ℕ) (k : Ownership P) → turn n k ≡ nobody → ⊥
  turn-nobody n k e = cc

  -- where central is 0, there is no owner and nobody waits
  pub was_free : (nodes : ℕ) (words : List ℕ) (homes : List (Maybe (Option P))) (at : ℕ → Desk P) (older newer : List (Waiter P)) (value : P) (o : Owner P) → get_or words 0 0 ≡ 0 → Held nodes words homes at older newer value o
      → (older ≡ []) × (newer ≡ []) × AtHome homes value × (o ≡ nobody)
  was_free nodes words homes at older newer value nobody e h = (h.1, h.2, h.3, refl)
  was_free nodes words homes at older newer value (turn n r) e h = absurd (omega (arith, line_up (get_or words 0 0) r.mark newer h.0.new_line h.0.marked))
  was_free nodes words homes at older newer value (granted n b j k) e h = absurd (omega (arith, line_up (get_or words 0 0) 1 newer h.0.new_line h.0.marked))

  -- a node's desk, read at six places
  pub desk-same : (words words' : List ℕ) (homes homes' : List (Maybe (Option P))) (posted posted' : ℕ → Maybe P) (answered answered' : ℕ → Maybe (P × P)) (n : ℕ)
      → get_or words' (1 + 2 * n) 0 ≡ get_or words (1 + 2 * n) 0 → get_or words' (2 + 2 * n) 0 ≡ get_or words (2 + 2 * n) 0
      → get_elem? homes' (1 + 2 * n) ≡ get_elem? homes (1 + 2 * n) → get_elem? homes' (2 + 2 * n) ≡ get_elem? homes (2 + 2 * n)
      → posted' n ≡ posted n → answered' n ≡ answered n
      → desk words' homes' posted' answered' n ≡ desk words homes posted answered n
  desk-same words words' homes homes' posted posted' answered answered' n a b c d e f = λ i. record { status = a i; link = b i; job = c i; answer = d i; posted = e i; answered = f i }

  pub put-other : (f : ℕ → Maybe P) (k n : ℕ) (y : Maybe P) → n ≢ k → put f k y n ≡ f n
  put-other f k n y ne = ap {B = Maybe P} (λ b. cond b y (f n)) (ne_eqb n k ne)

  pub put-here : (f : ℕ → Maybe P) (k : ℕ) (y : Maybe P) → put f k y k ≡ y
  put-here f k y = ap {B = Maybe P} (λ b. cond b y (f k)) (eq-eqb k k refl)

  -- nothing is put where there was nothing
  pub put-none : (f : ℕ → Maybe P) (k n : ℕ) → f k ≡ none → put f k none n ≡ f n
  put-none f k n e = dite (ℕ_discrete n k) (λ s. subst (λ (i : ℕ). put f k none i ≡ f i) (sym s) (put-here f k none ∙ sym e)) (λ ne. put-other f k n none ne)

  -- a desk where the central word has changed, and slot 0
  pub desk-central : (words : List ℕ) (x : ℕ) (homes : List (Maybe (Option P))) (y : Maybe (Option P)) (posted : ℕ → Maybe P) (answered : ℕ → Maybe (P × P)) (n : ℕ)
      → desk (set words 0 x) (set homes 0 y) posted answered n ≡ desk words homes posted answered n
  desk-central words x homes y posted answered n = desk-same words (set words 0 x) homes (set homes 0 y) posted posted answered answered n
      (get_or-set_other words 0 (1 + 2 * n) x 0 (λ e. omega arith)) (get_or-set_other words 0 (2 + 2 * n) x 0 (λ e. omega arith))
      (set_else homes 0 (1 + 2 * n) y (λ e. omega arith)) (set_else homes 0 (2 + 2 * n) y (λ e. omega arith)) refl refl

  -- what a pass notes of its job hangs on what was posted and answered alone
  pub noted-same : (h : Option P) (d d' : Desk P) → d'.posted ≡ d.posted → d'.answered ≡ d.answered → Noted h d → Noted h d'
  noted-same None d d' p a h = tt
  noted-same (Some j) d d' p a h = ⊎_elim (λ (z : d.posted ≡ some j). inl (p ∙ z)) (λ (z : (y : P) × (d.answered ≡ some (j, y))). inr (z.0, a ∙ z.1)) h

  module _ (at at' : ℕ → Desk P) (k : ℕ) (elsewhere : (n : ℕ) → n ≢ k → at' n ≡ at n) where
    pub waits-other : (xs : List (Waiter P)) → has k xs ≡ 0 → AllWait at xs → AllWait at' xs
    waits-other [] none-there h = tt
    waits-other (x ∷ xs) none-there h = (subst (Waits x.1 x.2) (sym (elsewhere x.0 (λ e. omega (arith, same-eq x.0 k e)))) h.0, waits-other xs (omega arith) h.1)

    pub done-other : (xs : List (Waiter P)) → has k xs ≡ 0 → AllDone at xs → AllDone at' xs
    done-other [] none-there h = tt
    done-other (x ∷ xs) none-there h = ((h.0.0, h.0.1, subst (Finished h.0.0) (sym (elsewhere x.0 (λ e. omega (arith, same-eq x.0 k e)))) h.0.2), done-other xs (omega arith) h.1)

    pub taken-other : (y : Option (Next P)) → has k (front y []) ≡ 0 → HasTaken at y → HasTaken at' y
    taken-other None none-there h = tt
    taken-other (Some x) none-there h = subst (Taken x.behind x.job) (sym (elsewhere x.node (λ e. omega (arith, same-eq x.node k e)))) h

pub queued-words : {P : Type 0} (nodes : ℕ) (words words' : List ℕ) (older newer : List (Waiter P)) (f e m : ℕ) → get_or words' 0 0 ≡ get_or words 0 0 → Queued nodes words older newer f e m → Queued nodes words' older newer f e m
queued-words nodes words words' older newer f e m c q = record {
  old_line = q.old_line;
  new_line = subst (λ (y : ℕ). Line y newer m) (sym c) q.new_line;
  marked = q.marked;
  low_end = q.low_end;
  low_mark = q.low_mark;
  past_end = q.past_end;
  past_mark = q.past_mark;
  taken = q.taken;
}

module _ {P : Type 0} where
  -- a desk changes that is none of the owner's business
  pub held-other : (nodes : ℕ) (words words' : List ℕ) (homes homes' : List (Maybe (Option P))) (at at' : ℕ → Desk P) (k : ℕ) (older newer : List (Waiter P)) (value : P) (o : Owner P)
      → ((n : ℕ) → n ≢ k → at' n ≡ at n) → get_or words' 0 0 ≡ get_or words 0 0 → get_elem? homes' 0 ≡ get_elem? homes 0 → owner_weight (awake k) o ≡ 0
      → Held nodes words homes at older newer value o → Held nodes words' homes' at' older newer value o
  held-other nodes words words' homes homes' at at' k older newer value nobody elsewhere c z own h = (c ∙ h.0, h.1, h.2, z ∙ h.3)
  held-other nodes words words' homes homes' at at' k older newer value (turn n r) elsewhere c z own h =
      (queued-words nodes words words' (front r.next older) newer r.first r.end r.mark c h.0, h.1, h.2, z ∙ h.3, h.4, taken-other at at' k elsewhere r.next (omega arith) h.5, h.6)
  held-other nodes words words' homes homes' at at' k older newer value (granted n b j e) elsewhere c z own h =
      (queued-words nodes words words' older newer b e 1 c h.0, subst (Granted j e) (sym (elsewhere n (λ y. omega (arith, same-eq n k y)))) h.1, z ∙ h.2)

module _ {P : Type 0} (rule : Goods P → Type 0) (nodes : ℕ) where
  module _ (s : State (Option P) (View P)) (o : Lawful rule nodes s) where
    -- a pass that is not idle was not taken in
    pub live : (id : ℕ) (v : View P) → get_elem? s.views id ≡ some v → (v.stage ≡ Idle → ⊥) → v.gone ≡ false
    live id v me not-idle = bool_cases v.gone (λ e. absurd (not-idle (o.asleep id v me e).0)) (λ e. e)

    below : (n i : ℕ) (x : View P) → get_elem? s.views i ≡ some x → weigh (awake n) x ≤ covers n x
    below n i x at = awake-le n x (λ e. (o.asleep i x at e).0)

    awake-standing : (n : ℕ) → total (weigh (awake n)) s.views ≡ has n o.older + has n o.newer + has n o.done + owner_weight (awake n) o.owner
    awake-standing n = o.standing (awake n) (λ m. (refl, refl, (λ j. refl), (λ j. refl), λ j a. refl))

    -- a number that a pass covers, and by which it neither waits nor owns, is that of no waiting node, and not the owner's
    pub quiet : (id : ℕ) (v : View P) (n : ℕ) → get_elem? s.views id ≡ some v → 0 < covers n v → weigh (awake n) v ≡ 0
        → (has n o.older ≡ 0) × (has n o.newer ≡ 0) × (has n o.done ≡ 0) × (owner_weight (awake n) o.owner ≡ 0)
    quiet id v n me some-there idle =
        let a = total-le_at (weigh (awake n)) (covers n) s.views id v (below n) me in let b = o.covered n in let c = cond-le (nat_lt n nodes) in let e = awake-standing n in
        (omega arith, omega arith, omega arith, omega arith)

    pub covers-own : (v : View P) → v.gone ≡ false → 0 < covers v.number v
    covers-own v live-now = omega (arith, covers-number v.number v live-now, same-refl v.number)

    pub alone : (id : ℕ) (v : View P) → get_elem? s.views id ≡ some v → v.gone ≡ false → weigh (awake v.number) v ≡ 0
        → (has v.number o.older ≡ 0) × (has v.number o.newer ≡ 0) × (has v.number o.done ≡ 0) × (owner_weight (awake v.number) o.owner ≡ 0)
    alone id v me live-now idle = quiet id v v.number me (covers-own v live-now) idle

    -- a node is counted once
    pub once : (n : ℕ) → has n o.older + has n o.newer + has n o.done + owner_weight (awake n) o.owner ≤ 1
    once n = omega (arith, total-le (weigh (awake n)) (covers n) s.views (below n), o.covered n, cond-le (nat_lt n nodes), awake-standing n)

    -- a node that waits or owns is one of the table's
    pub low_node : (n : ℕ) → 0 < has n o.older + has n o.newer + has n o.done + owner_weight (awake n) o.owner → n < nodes
    low_node n h = nat_lt-pos n nodes (omega (arith, total-le (weigh (awake n)) (covers n) s.views (below n), o.covered n, awake-standing n))

    pub low_covered : (id : ℕ) (v : View P) (n : ℕ) → get_elem? s.views id ≡ some v → 0 < covers n v → n < nodes
    low_covered id v n me some-there = nat_lt-pos n nodes (omega (arith, term_le (covers n) s.views id v me, o.covered n))

    pub low_number : (id : ℕ) (v : View P) → get_elem? s.views id ≡ some v → v.gone ≡ false → v.number < nodes
    low_number id v me live-now = low_covered id v v.number me (covers-own v live-now)

    -- no number is covered by two passes
    pub covers_apart : (i j : ℕ) (v u : View P) (n : ℕ) → j ≢ i → get_elem? s.views i ≡ some v → get_elem? s.views j ≡ some u → 0 < covers n v → 0 < covers n u → ⊥
    covers_apart i j v u n ne at there a b = omega (arith, terms_le (covers n) s.views i j v u ne at there, o.covered n, cond-le (nat_lt n nodes))

    -- two passes have two numbers
    pub numbers_apart : (i j : ℕ) (v u : View P) → j ≢ i → get_elem? s.views i ≡ some v → get_elem? s.views j ≡ some u → v.gone ≡ false → u.gone ≡ false → u.number ≢ v.number
    numbers_apart i j v u ne at there a b e = covers_apart i j v u v.number ne at there (covers-own v a) (subst (λ (n : ℕ). 0 < covers n u) e (covers-own u b))

    -- who covers the own number of a pass is that pass
    pub covers_mine : (id : ℕ) (v : View P) → get_elem? s.views id ≡ some v → v.gone ≡ false → (j : ℕ) (u : View P) → get_elem? s.views j ≡ some u → 0 < covers v.number u → v.number ≡ u.number
    covers_mine id v me live-now j u there some-there = dite (ℕ_discrete j id)
        (λ e. ap (λ (x : View P). x.number) (some-injective v u (sym me ∙ ap (get_elem? s.views) (sym e) ∙ there)))
        (λ ne. absurd (covers_apart id j v u v.number ne me there (covers-own v live-now) some-there))

    -- who covers the number of a node that waits or owns has it as its own
    pub covers_awake : (n : ℕ) → 0 < has n o.older + has n o.newer + has n o.done + owner_weight (awake n) o.owner → (j : ℕ) (u : View P) → get_elem? s.views j ≡ some u → 0 < covers n u → n ≡ u.number
    covers_awake n h j u there some-there = dite (ℕ_discrete u.number n) (λ e. sym e)
        (λ ne. let q = quiet j u n there some-there (omega (arith, awake-same n u.number u.stage, same-ne u.number n ne)) in absurd (omega (arith, h, q.0, q.1, q.2, q.3)))

    -- there is one owner
    pub one_owner : (i j : ℕ) (v u : View P) (k l : Ownership P) → j ≢ i → get_elem? s.views i ≡ some v → get_elem? s.views j ≡ some u → v.stage ≡ Owns k → u.stage ≡ Owns l → ⊥
    one_owner i j v u k l ne at there mine theirs =
        omega (arith, terms_le (weigh ruling) s.views i j v u ne at there, ap (ruling v.number) mine, ap (ruling u.number) theirs, o.standing ruling (λ m. (refl, refl, (λ j. refl), (λ j. refl), λ j a. refl)), line-ruling P o.older, line-ruling P o.newer, line-ruling P o.done, owner-le o.owner)

  -- what the freight's rule says to a pass
  pub sound : (known : Goods P → Type 0) → ((g : Goods P) → rule g → known g) → (s : State (Option P) (View P)) (o : Lawful rule nodes s) (id : ℕ) (v : View P) → get_elem? s.views id ≡ some v → Sound known o.value (part v.number v.quota v.own)
  sound known tells s o id v me = let g : Goods P = goods o.value o.posted o.answered (map part_of s.views) in (g, tells g o.goods_rule, refl, (id, at_map part_of s.views id v me))

  -- the step that makes the word k n, for which `then` is to hold
  abbrev pub Goes : State (Option P) (View P) → ℕ → ℕ → SeatState P → (ℕ → SeatState P → Type 0) → ℕ → Type 0
  Goes s k id m then n = (w : View P) × (a : Act (Option P)) × Valid s.homes m.1 a × Lawful rule nodes (stepped s k n id m.1 w a) × then (get_or s.words k 0) (w, carried_after m.1 a)

  -- a step of one pass, that changes the desk of one node and its own, and no link but that of its own
  pub restaged-two : (s : State (Option P) (View P)) (o : Lawful rule nodes s) (id : ℕ) (v w : View P) (words : List ℕ) (homes : List (Maybe (Option P))) (posted : ℕ → Maybe P) (answered : ℕ → Maybe (P × P))
      (owner : Owner P) (older newer done : List (Waiter P)) (value : P) (k : ℕ)
      → get_elem? s.views id ≡ some v
      → v.gone ≡ false → w.gone ≡ v.gone → w.number ≡ v.number → w.quota ≤ v.quota
      → ((n : ℕ) → covers n w ≡ covers n v)
      → length words ≡ length s.words → length homes ≡ length s.homes
      → ((n : ℕ) → n ≢ v.number → get_or words (2 + 2 * n) 0 ≡ get_or s.words (2 + 2 * n) 0) → (w.linked ≡ false → (v.linked ≡ false) × (get_or words (2 + 2 * v.number) 0 ≡ 0))
      → ((g : Weight P) → Waking g → line_weight g older + line_weight g newer + line_weight g done + owner_weight g owner + weigh g v ≡ line_weight g o.older + line_weight g o.newer + line_weight g o.done + owner_weight g o.owner + weigh g w)
      → ((r : Ownership P) → w.stage ≡ Owns r → owner ≡ turn w.number r)
      → ((j : ℕ) (u : View P) (r : Ownership P) → j ≢ id → get_elem? s.views j ≡ some u → u.stage ≡ Owns r → owner ≡ turn u.number r)
      → ((n : ℕ) → n ≢ k → n ≢ v.number → desk words homes posted answered n ≡ desk s.words s.homes o.posted o.answered n)
      → Seated w.stage (desk words homes posted answered w.number)
      → ((j : ℕ) (u : View P) → j ≢ id → get_elem? s.views j ≡ some u → u.gone ≡ false → u.number ≡ k → Seated u.stage (desk words homes posted answered u.number))
      → ((j : ℕ) (u : View P) → get_elem? s.views j ≡ some u → 0 < covers k u → k ≡ u.number)
      → AllWait (desk words homes posted answered) older → AllWait (desk words homes posted answered) newer → AllDone (desk words homes posted answered) done
      → Held nodes words homes (desk words homes posted answered) older newer value owner
      → rule (goods value posted answered (map part_of (set s.views id w)))
      → Lawful rule nodes record { words = words; homes = homes; views = set s.views id w }
  restaged-two s o id v w words homes posted answered owner older newer done value k me live-now still number spends covers-same long₁ long₂ links own-link weights own-mine own-others elsewhere mine others sole old new fin held goods-rule =
      let at : ℕ → Desk P = desk words homes posted answered in
      -- a number at rest stays so
      let rests : (j : ℕ) (u : View P) (n : ℕ) → get_elem? s.views j ≡ some u → u.gone ≡ false → 0 < covers n u → n ≢ u.number → AtRest (at n) = λ j u n there live-u some-there ne.
      subst AtRest (sym (elsewhere n (λ e. ne (e ∙ sole j u there (subst (λ (i : ℕ). 0 < covers i u) e some-there))) (λ e. ne (e ∙ covers_mine s o id v me live-now j u there (subst (λ (i : ℕ). 0 < covers i u) e some-there))))) (o.unused j u n there live-u some-there ne) in
      record {
        owner = owner;
        older = older;
        newer = newer;
        done = done;
        value = value;
        posted = posted;
        answered = answered;
        wide = long₁ ∙ o.wide;
        long = long₂ ∙ o.long;
        covered = λ n. omega (arith, total-set (covers n) s.views id v w me, covers-same n, o.covered n);
        standing = λ g waking. omega (arith, total-set (weigh g) s.views id v w me, o.standing g waking, weights g waking);
        asleep = λ j u there e. ⊎_elim (λ (t : (j ≡ id) × (w ≡ u)). absurd (true≢false (sym e ∙ ap (λ (x : View P). x.gone) (sym t.1) ∙ still ∙ live-now))) (λ (t : (j ≢ id) × (get_elem? s.views j ≡ some u)). o.asleep j u t.1 e) (at_set s.views id j w u there);
        owned = λ j u r there e. ⊎_elim (λ (t : (j ≡ id) × (w ≡ u)). subst (λ (x : View P). owner ≡ turn x.number r) t.1 (own-mine r (ap (λ (x : View P). x.stage) t.1 ∙ e))) (λ (t : (j ≢ id) × (get_elem? s.views j ≡ some u)). own-others j u r t.0 t.1 e) (at_set s.views id j w u there);
        seated = λ j u there live-u. ⊎_elim (λ (t : (j ≡ id) × (w ≡ u)). subst (λ (x : View P). Seated x.stage (at x.number)) t.1 mine)
            (λ (t : (j ≢ id) × (get_elem? s.views j ≡ some u)). dite (ℕ_discrete u.number k) (others j u t.0 t.1 live-u) (λ ne. subst (Seated u.stage) (sym (elsewhere u.number ne (λ e. numbers_apart s o id j v u t.0 me t.1 live-now live-u e))) (o.seated j u t.1 live-u))) (at_set s.views id j w u there);
        unused = λ j u n there live-u some-there ne. ⊎_elim
            (λ (t : (j ≡ id) × (w ≡ u)). rests id v n me live-now (omega (arith, covers-same n, subst (λ (x : View P). 0 < covers n x) (sym t.1) some-there)) (λ e. ne (e ∙ sym number ∙ ap (λ (x : View P). x.number) t.1)))
            (λ (t : (j ≢ id) × (get_elem? s.views j ≡ some u)). rests j u n t.1 live-u some-there ne) (at_set s.views id j w u there);
        unlinked = λ j u n there live-u e some-there. ⊎_elim
            (λ (t : (j ≡ id) × (w ≡ u)).
            let own = own-link (ap (λ (x : View P). x.linked) t.1 ∙ e) in let some-mine : 0 < covers n v = omega (arith, covers-same n, subst (λ (x : View P). 0 < covers n x) (sym t.1) some-there) in
            dite (ℕ_discrete n v.number) (λ is. subst (λ (i : ℕ). get_or words (2 + 2 * i) 0 ≡ 0) (sym is) own.1) (λ ne. links n ne ∙ o.unlinked id v n me live-now own.0 some-mine))
            (λ (t : (j ≢ id) × (get_elem? s.views j ≡ some u)).
            links n (λ is. covers_apart s o id j v u v.number t.0 me t.1 (covers-own s o v live-now) (subst (λ (i : ℕ). 0 < covers i u) is some-there)) ∙ o.unlinked j u n t.1 live-u e some-there)
            (at_set s.views id j w u there);
        old_waits = old;
        new_waits = new;
        finished = fin;
        held = held;
        funded = omega (arith, total-set (λ (x : View P). x.quota) s.views id v w me, o.funded, spends);
        goods_rule = goods-rule;
      }

  -- a step of one pass, that changes the desk of one node, and no link but that of its own
  pub restaged : (s : State (Option P) (View P)) (o : Lawful rule nodes s) (id : ℕ) (v w : View P) (words : List ℕ) (homes : List (Maybe (Option P))) (posted : ℕ → Maybe P) (answered : ℕ → Maybe (P × P))
      (owner : Owner P) (older newer done : List (Waiter P)) (value : P) (k : ℕ)
      → get_elem? s.views id ≡ some v
      → v.gone ≡ false → w.gone ≡ v.gone → w.number ≡ v.number → w.quota ≤ v.quota
      → ((n : ℕ) → covers n w ≡ covers n v)
      → length words ≡ length s.words → length homes ≡ length s.homes
      → ((n : ℕ) → n ≢ v.number → get_or words (2 + 2 * n) 0 ≡ get_or s.words (2 + 2 * n) 0) → (w.linked ≡ false → (v.linked ≡ false) × (get_or words (2 + 2 * v.number) 0 ≡ 0))
      → ((g : Weight P) → Waking g → line_weight g older + line_weight g newer + line_weight g done + owner_weight g owner + weigh g v ≡ line_weight g o.older + line_weight g o.newer + line_weight g o.done + owner_weight g o.owner + weigh g w)
      → ((r : Ownership P) → w.stage ≡ Owns r → owner ≡ turn w.number r)
      → ((j : ℕ) (u : View P) (r : Ownership P) → j ≢ id → get_elem? s.views j ≡ some u → u.stage ≡ Owns r → owner ≡ turn u.number r)
      → ((n : ℕ) → n ≢ k → desk words homes posted answered n ≡ desk s.words s.homes o.posted o.answered n)
      → Seated w.stage (desk words homes posted answered w.number)
      → ((j : ℕ) (u : View P) → j ≢ id → get_elem? s.views j ≡ some u → u.gone ≡ false → u.number ≡ k → Seated u.stage (desk words homes posted answered u.number))
      → ((j : ℕ) (u : View P) → get_elem? s.views j ≡ some u → 0 < covers k u → k ≡ u.number)
      → AllWait (desk words homes posted answered) older → AllWait (desk words homes posted answered) newer → AllDone (desk words homes posted answered) done
      → Held nodes words homes (desk words homes posted answered) older newer value owner
      → rule (goods value posted answered (map part_of (set s.views id w)))
      → Lawful rule nodes record { words = words; homes = homes; views = set s.views id w }
  restaged s o id v w words homes posted answered owner older newer done value k me live-now still number spends covers-same long₁ long₂ links own-link weights own-mine own-others elsewhere mine others sole old new fin held goods-rule =
      restaged-two s o id v w words homes posted answered owner older newer done value k me live-now still number spends covers-same long₁ long₂ links own-link weights own-mine own-others (λ n ne _. elsewhere n ne) mine others sole old new fin held goods-rule

  -- where the desk is that of the pass's own node, and no link changes
  pub restaged-own : (s : State (Option P) (View P)) (o : Lawful rule nodes s) (id : ℕ) (v w : View P) (words : List ℕ) (homes : List (Maybe (Option P))) (posted : ℕ → Maybe P) (answered : ℕ → Maybe (P × P))
      (owner : Owner P) (older newer done : List (Waiter P)) (value : P)
      → get_elem? s.views id ≡ some v
      → v.gone ≡ false → w.gone ≡ v.gone → w.linked ≡ v.linked → w.number ≡ v.number → w.quota ≤ v.quota
      → ((n : ℕ) → covers n w ≡ covers n v)
      → length words ≡ length s.words → length homes ≡ length s.homes → ((n : ℕ) → get_or words (2 + 2 * n) 0 ≡ get_or s.words (2 + 2 * n) 0)
      → ((g : Weight P) → Waking g → line_weight g older + line_weight g newer + line_weight g done + owner_weight g owner + weigh g v ≡ line_weight g o.older + line_weight g o.newer + line_weight g o.done + owner_weight g o.owner + weigh g w)
      → ((r : Ownership P) → w.stage ≡ Owns r → owner ≡ turn w.number r)
      → ((j : ℕ) (u : View P) (r : Ownership P) → j ≢ id → get_elem? s.views j ≡ some u → u.stage ≡ Owns r → owner ≡ turn u.number r)
      → ((n : ℕ) → n ≢ v.number → desk words homes posted answered n ≡ desk s.words s.homes o.posted o.answered n)
      → Seated w.stage (desk words homes posted answered w.number)
      → AllWait (desk words homes posted answered) older → AllWait (desk words homes posted answered) newer → AllDone (desk words homes posted answered) done
      → Held nodes words homes (desk words homes posted answered) older newer value owner
      → rule (goods value posted answered (map part_of (set s.views id w)))
      → Lawful rule nodes record { words = words; homes = homes; views = set s.views id w }
  restaged-own s o id v w words homes posted answered owner older newer done value me live-now still unlinked-still number spends covers-same long₁ long₂ links weights own-mine own-others elsewhere mine old new fin held goods-rule =
      restaged s o id v w words homes posted answered owner older newer done value v.number me live-now still number spends covers-same long₁ long₂ (λ n _. links n)
      (λ e. let before = sym unlinked-still ∙ e in (before, links v.number ∙ o.unlinked id v v.number me live-now before (covers-own s o v live-now))) weights own-mine own-others elsewhere mine
      (λ j u ne there live-u e. absurd (numbers_apart s o id j v u ne me there live-now live-u e)) (covers_mine s o id v me live-now) old new fin held goods-rule

  -- the parts stay as they are
  pub parts-same : (views : List (View P)) (id : ℕ) (v w : View P) (value : P) (posted : ℕ → Maybe P) (answered : ℕ → Maybe (P × P)) → get_elem? views id ≡ some v → part_of w ≡ part_of v → rule (goods value posted answered (map part_of views)) → rule (goods value posted answered (map part_of (set views id w)))
  parts-same views id v w value posted answered me e = subst (λ ps. rule (goods value posted answered ps)) (sym (map-set_same part_of views id v w me e))

  -- a step that changes no word and no stage
  pub unmoved : (s : State (Option P) (View P)) (o : Lawful rule nodes s) (id : ℕ) (m : SeatState P) (k : ℕ) (steps : List StepEntry)
      → get_elem? s.views id ≡ some m.0 → m.0.gone ≡ false
      → Lawful rule nodes (stepped s k (get_or s.words k 0) id m.1 (with_steps m.0 m.0.stage steps) keeps)
  unmoved s o id m k steps me live-now = let w : View P = with_steps m.0 m.0.stage steps in
      subst (λ ws. Lawful rule nodes record { words = ws; homes = s.homes; views = set s.views id w }) (sym (set_self s.words k))
      (restaged-own s o id m.0 w s.words s.homes o.posted o.answered o.owner o.older o.newer o.done o.value me live-now refl refl refl (omega arith) (λ n. refl) refl refl (λ n. refl) (λ g waking. refl) (λ r. o.owned id m.0 r me) (λ j u r _ at. o.owned j u r at)
      (λ n ne. refl) (o.seated id m.0 me live-now) o.old_waits o.new_waits o.finished o.held
      (parts-same s.views id m.0 w o.value o.posted o.answered me refl o.goods_rule))
