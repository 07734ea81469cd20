-- The part of the rule on locks.
use Rattle.std.proofs.Common.{◌≡◌, ℕ, zero, suc, ◌+◌, ◌<◌, ◌≤◌, ◌≢◌, cond, true, false, List, [], ◌∷◌, set, get_or, length, sym, refl, ap, subst, arith, get_or-set_same, get_or-set_other}
use mathlib.Core.Logic.{dite}
use mathlib.Core.Option.{some}
use native.Mathlib.Decide.{ℕ_discrete}
use lib.ListN.{get_elem?}
use Rattle.hall.specs.declared.view.View.{View}
use Rattle.hall.specs.declared.view.Shape.{Shape}
use Rattle.hall.specs.declared.view.Standing.{Standing}
use Rattle.hall.specs.declared.view.Standing.TheVariants.{Away, Announcing}
use Rattle.view_sums.specs.Sums.{total}
use Rattle.hall.specs.Views.{standing}
use Rattle.state_word.specs.Words.{may_defer_of}
use Rattle.hall.specs.Locks.{Tally, tally, weight, Lawful, below, naming, cover, count, counts, covered, named_by}
use Rattle.hall.specs.Rule.{AllLawful, AllSwept}
use Rattle.view_sums.specs.Sums.{total-set, total-same, term_le, total-le}

pub same_tally : {a b c d e f g h a' b' c' d' e' f' g' h' : ℕ} → a ≡ a' → b ≡ b' → c ≡ c' → d ≡ d' → e ≡ e' → f ≡ f' → g ≡ g' → h ≡ h' → tally a b c d e f g h ≡ tally a' b' c' d' e' f' g' h'
same_tally p q r s t u v w i = tally (p i) (q i) (r i) (s i) (t i) (u i) (v i) (w i)

-- the counts of the others, with one more standing
abbrev pub plus : Tally → Tally → Tally
plus s t = tally (s.shared + t.shared) (s.undecided + t.undecided) (s.owing + t.owing) (s.upgrade + t.upgrade) (s.plain + t.plain) (s.raised + t.raised) (s.exclusive + t.exclusive) (s.hand + t.hand)

hand_of : (x : Standing) → (weight x).plain + (weight x).raised ≤ 0 → (weight x).hand ≤ 0
hand_of x h = elim x as (λ z. (weight z).plain + (weight z).raised ≤ 0 → (weight z).hand ≤ 0) [
  | Announcing p k f ↦ elim f as (λ b. cond b 0 1 + cond b 1 0 ≤ 0 → k ≤ 0) [ true ↦ λ h. absurd (omega arith) | false ↦ λ h. absurd (omega arith) ]
  | _ ↦ λ h. omega arith
] h

total_zero : {A : Type 0} (l : List A) → total (λ _. 0) l ≡ 0
total_zero [] = refl
total_zero (x ∷ xs) = omega (arith, total_zero xs)

pub below_same : (n : ℕ) (f g : ℕ → ℕ) → ((k : ℕ) → k < n → f k ≡ g k) → below f n ≡ below g n
below_same zero f g h = refl
below_same (suc n) f g h = omega (arith, below_same n f g (λ k b. h k (omega arith)), h n (omega arith))

-- a word that isn't a slot's changes no slot
pub named_same : (slots lock : ℕ) (words : List ℕ) (i n : ℕ) → slots ≤ i → named_by slots lock (set words i n) ≡ named_by slots lock words
named_same slots lock words i n far = below_same slots (λ k. naming lock (get_or (set words i n) k 0)) (λ k. naming lock (get_or words k 0)) (λ k inside. ap (naming lock) (get_or-set_other words i k n 0 (λ e. omega arith)))

module _ {P : Type 0} where
  -- a step elsewhere leaves the counts of a lock
  pub counts_same : (views : List (View P)) (id lock : ℕ) (v w : View P) → get_elem? views id ≡ some v → standing w lock ≡ standing v lock → counts lock (set views id w) ≡ counts lock views
  counts_same views id lock v w at same =
      let part : (f : Tally → ℕ) → total (count f lock) (set views id w) ≡ total (count f lock) views = λ f. total-same (count f lock) views id v w at (ap (λ (x : Standing). f (weight x)) same) in
      same_tally (part (λ t. t.shared)) (part (λ t. t.undecided)) (part (λ t. t.owing)) (part (λ t. t.upgrade)) (part (λ t. t.plain)) (part (λ t. t.raised)) (part (λ t. t.exclusive)) (part (λ t. t.hand))

  -- the passes without this one
  abbrev pub gone : View P → View P
  gone v = record v { standings = [] }

  -- the counts before and after a change of one standing are those of the others with one more
  pub counts_split : (views : List (View P)) (id lock : ℕ) (v w : View P) → get_elem? views id ≡ some v
      → (counts lock views ≡ plus (counts lock (set views id (gone v))) (weight (standing v lock))) × (counts lock (set views id w) ≡ plus (counts lock (set views id (gone v))) (weight (standing w lock)))
  counts_split views id lock v w at =
      let rest : (Tally → ℕ) → ℕ = λ f. total (count f lock) (set views id (gone v)) in
      let old : (f : Tally → ℕ) → f (weight Away) ≡ 0 → total (count f lock) views ≡ rest f + f (weight (standing v lock)) = λ f z. omega (arith, total-set (count f lock) views id v (gone v) at) in
      let new : (f : Tally → ℕ) → f (weight Away) ≡ 0 → total (count f lock) (set views id w) ≡ rest f + f (weight (standing w lock)) = λ f z. omega (arith, old f z, total-set (count f lock) views id v w at) in (
        same_tally (old (λ t. t.shared) refl) (old (λ t. t.undecided) refl) (old (λ t. t.owing) refl) (old (λ t. t.upgrade) refl) (old (λ t. t.plain) refl) (old (λ t. t.raised) refl) (old (λ t. t.exclusive) refl) (old (λ t. t.hand) refl),
        same_tally (new (λ t. t.shared) refl) (new (λ t. t.undecided) refl) (new (λ t. t.owing) refl) (new (λ t. t.upgrade) refl) (new (λ t. t.plain) refl) (new (λ t. t.raised) refl) (new (λ t. t.exclusive) refl) (new (λ t. t.hand) refl),
      )

  -- where nobody announces, no hand is out
  pub no_hands : (views : List (View P)) (lock : ℕ) → (counts lock views).plain + (counts lock views).raised ≡ 0 → (counts lock views).hand ≡ 0
  no_hands views lock none = omega (arith, total-le (count (λ t. t.hand) lock) (λ _. 0) views (λ j v e. hand_of (standing v lock) (omega (arith, term_le (count (λ t. t.plain) lock) views j v e, term_le (count (λ t. t.raised) lock) views j v e))), total_zero views)

  -- a step at a lock's word: the other locks stay as they are
  pub lawful_moved : (sh : Shape) (words : List ℕ) (views : List (View P)) (id lock n : ℕ) (v w : View P) → AllLawful sh words views → get_elem? views id ≡ some v
      → ((k : ℕ) → k ≢ lock → standing w k ≡ standing v k) → lock < sh.locks → sh.slots + lock < length words
      → Lawful n (named_by sh.slots lock words) (counts lock (set views id w))
      → AllLawful sh (set words (sh.slots + lock) n) (set views id w)
  lawful_moved sh words views id lock n v w h at others near inside now k below =
      let named : (j : ℕ) → named_by sh.slots j (set words (sh.slots + lock) n) ≡ named_by sh.slots j words = λ j. named_same sh.slots j words (sh.slots + lock) n (omega arith) in
      dite (ℕ_discrete k lock)
      (λ e. let F : ℕ → Type 0 = λ (j : ℕ). Lawful (get_or (set words (sh.slots + lock) n) (sh.slots + j) 0) (named_by sh.slots j (set words (sh.slots + lock) n)) (counts j (set views id w)) in
      subst F (sym e) (subst (λ (z : ℕ). Lawful z (named_by sh.slots lock (set words (sh.slots + lock) n)) (counts lock (set views id w))) (sym (get_or-set_same words (sh.slots + lock) n 0 inside))
      (subst (λ (z : ℕ). Lawful n z (counts lock (set views id w))) (sym (named lock)) now)))
      (λ ne. subst (λ (z : ℕ). Lawful z (named_by sh.slots k (set words (sh.slots + lock) n)) (counts k (set views id w))) (sym (get_or-set_other words (sh.slots + lock) (sh.slots + k) n 0 (λ e. ne (omega arith))))
      (subst (λ (z : ℕ). Lawful (get_or words (sh.slots + k) 0) z (counts k (set views id w))) (sym (named k))
      (subst (λ (z : Tally). Lawful (get_or words (sh.slots + k) 0) (named_by sh.slots k words) z) (sym (counts_same views id k v w at (others k ne))) (h k below))))

  -- the same for the sweep: left to each step is its lock
  pub swept_moved : (sh : Shape) (words : List ℕ) (views : List (View P)) (id lock n : ℕ) (v w : View P) → AllSwept sh words views → get_elem? views id ≡ some v
      → ((k : ℕ) → k ≢ lock → standing w k ≡ standing v k) → lock < sh.locks → sh.slots + lock < length words
      → ((k ns old new : ℕ) → k < sh.slots → ns ≡ naming lock (get_or words k 0) → new + cover k (standing v lock) ≡ old + cover k (standing w lock) → ns ≤ may_defer_of (get_or words (sh.slots + lock) 0) + old → ns ≤ may_defer_of n + new)
      → AllSwept sh (set words (sh.slots + lock) n) (set views id w)
  swept_moved sh words views id lock n v w h at others near inside now j near' k below =
      let slot : get_or (set words (sh.slots + lock) n) k 0 ≡ get_or words k 0 = get_or-set_other words (sh.slots + lock) k n 0 (λ e. omega arith) in
      let Goal : ℕ → ℕ → Type 0 = λ (x y : ℕ). naming j x ≤ may_defer_of y + covered k j (set views id w) in
      dite (ℕ_discrete j lock)
      (λ e. subst (λ (x : ℕ). Goal x (get_or (set words (sh.slots + lock) n) (sh.slots + j) 0)) (sym slot)
      (subst (λ (i : ℕ). naming i (get_or words k 0) ≤ may_defer_of (get_or (set words (sh.slots + lock) n) (sh.slots + i) 0) + covered k i (set views id w)) (sym e)
      (subst (λ (y : ℕ). naming lock (get_or words k 0) ≤ may_defer_of y + covered k lock (set views id w)) (sym (get_or-set_same words (sh.slots + lock) n 0 inside))
      (now k (naming lock (get_or words k 0)) (covered k lock views) (covered k lock (set views id w)) below refl (total-set (λ (u : View P). cover k (standing u lock)) views id v w at) (h lock near k below)))))
      (λ ne. subst (λ (x : ℕ). Goal x (get_or (set words (sh.slots + lock) n) (sh.slots + j) 0)) (sym slot)
      (subst (λ (y : ℕ). Goal (get_or words k 0) y) (sym (get_or-set_other words (sh.slots + lock) (sh.slots + j) n 0 (λ e. ne (omega arith))))
      (subst (λ (z : ℕ). naming j (get_or words k 0) ≤ may_defer_of (get_or words (sh.slots + j) 0) + z) (sym (total-same (λ (u : View P). cover k (standing u j)) views id v w at (ap (cover k) (others j ne)))) (h j near' k below))))

  -- views that have the same standings are swept alike
  pub swept_same : (sh : Shape) (words words' : List ℕ) (views views' : List (View P)) → AllSwept sh words views → ((k : ℕ) → k < sh.slots + sh.locks → get_or words' k 0 ≡ get_or words k 0) → ((k lock : ℕ) → covered k lock views' ≡ covered k lock views) → AllSwept sh words' views'
  swept_same sh words words' views views' h same cov lock near k below =
      subst (λ (x : ℕ). naming lock x ≤ may_defer_of (get_or words' (sh.slots + lock) 0) + covered k lock views') (sym (same k (omega arith)))
      (subst (λ (y : ℕ). naming lock (get_or words k 0) ≤ may_defer_of y + covered k lock views') (sym (same (sh.slots + lock) (omega arith)))
      (subst (λ (z : ℕ). naming lock (get_or words k 0) ≤ may_defer_of (get_or words (sh.slots + lock) 0) + z) (sym (cov k lock)) (h lock near k below)))
