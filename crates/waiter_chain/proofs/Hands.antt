-- What stays as an owner goes on with a chain, so that its ownership may still end.
use Rattle.std.proofs.Common.{Option, Some, ◌≡◌, ℕ, ◌+◌, ◌*◌, ◌≤◌, List, [], ◌∷◌, ◌++◌, length, false, refl, sym, ap, ◌∙◌, subst, inl, ⊎_elim, append_assoc, arith}
use Rattle.atomic_table.specs.Table.{rest}
use Rattle.waiter_chain.specs.Goods.{Goods, Runs, Counts}
use Rattle.waiter_chain.specs.Chains.{owed}
use Rattle.waiter_chain.specs.Steps.{SeatState, Ranged, OwnHand, WinsBack, ownership, ownership_with, ownership_back, seen_job, retook, entry}
use Rattle.waiter_chain.specs.Calls.{OwnsBy, HasTurn, Won, WonWith, KindSeen, MayEnd, FollowsAs, SawOthers}
use Rattle.waiter_chain.specs.declared.view.StepEntry.{StepEntry}
use Rattle.waiter_chain.specs.declared.view.Ownership.{Ownership}
use Rattle.waiter_chain.specs.declared.view.OwnSlot.{OwnSlot}
use Rattle.waiter_chain.specs.declared.view.OwnSlot.TheVariants.{Unused, InHand, Unrun}
use Rattle.waiter_chain.specs.Hands.{StandsAt}
use Rattle.waiter_chain.specs.declared.view.StepKind.TheVariants.{Free, TakeChain}
use Rattle.waiter_chain.specs.declared.turn.Turn.{Turn}
use Rattle.waiter_chain.specs.declared.turn.Kind.{Kind}
use Rattle.waiter_chain.specs.declared.turn.Kind.TheVariants as kind
use Rattle.waiter_chain.specs.declared.turn.Follow.TheVariants as follow
use Rattle.waiter_chain.proofs.Rules.{owns-injective}
use Rattle.waiter_chain.proofs.Passes.{owns_at}

module _ {P : Type 0} where
  -- what stays where the owner saw that others came: all but its notes and its steps
  abbrev pub Stays : SeatState P → SeatState P → Type 0
  Stays m n = (n.1 ≡ m.1) × (n.0.number ≡ m.0.number) × (n.0.spare ≡ m.0.spare) × (n.0.past ≡ m.0.past) × (n.0.quota ≡ m.0.quota) × (n.0.own ≡ m.0.own)

  abbrev pub Grows : ℕ → SeatState P → SeatState P → Type 0
  Grows most m n = (made : List StepEntry) × (n.0.steps ≡ m.0.steps ++ made) × (length made ≤ most)

  others-stay : (m seen : SeatState P) (k : Ownership P) → SawOthers m seen k → Stays m seen × Grows 1 m seen
  others-stay m seen k = ⊎_elim
      (λ e. subst (λ (x : SeatState P). Stays m x × Grows 1 m x) (sym e) ((refl, refl, refl, refl, refl, refl), ([], append_nil m.0.steps, omega arith)))
      (λ t. subst (λ (x : SeatState P). Stays m x × Grows 1 m x) (sym t.2) ((refl, refl, refl, refl, refl, refl), (entry m.0 Free 0 t.0 ∷ [], refl, omega arith)))
    where
      append_nil : (xs : List StepEntry) → xs ≡ xs ++ []
      append_nil [] = refl
      append_nil (x ∷ xs) = ap (λ ys. x ∷ ys) (append_nil xs)

  pub grown : (a : ℕ) (m l : SeatState P) (e : StepEntry) (n : SeatState P) → Grows a m l → n.0.steps ≡ l.0.steps ++ e ∷ [] → Grows (a + 1) m n
  grown a m l e n g is = (g.0 ++ e ∷ [], is ∙ ap (λ xs. xs ++ e ∷ []) g.1 ∙ append_assoc m.0.steps g.0 (e ∷ []), omega (arith, g.2, longer g.0 e))
    where
      longer : (xs : List StepEntry) (e : StepEntry) → length (xs ++ e ∷ []) ≡ length xs + 1
      longer [] e = omega arith
      longer (x ∷ xs) e = omega (arith, longer xs e)

  -- the owner goes on with the chain that it has, or with the one that it took
  pub waits-stay : (slots count : ℕ) (ran : List (P × P)) (t u : Turn) (x : ℕ) (m l : SeatState P) → FollowsAs slots count ran t m l (follow.Waits u x) → Stays m l × Grows 2 m l
  waits-stay slots count ran t u x m l f = ⊎_elim
      (λ s. subst (λ (z : SeatState P). Stays m z × Grows 2 m z) (sym s.2) ((refl, refl, refl, refl, refl, refl), ([], append_nil m.0.steps, omega arith)))
      (λ s. let took = s.1.2.2 in let seen = took.0 in let o = others-stay m seen s.1.0 took.1 in let a = o.0 in
      let g = grown 1 m seen (entry m.0 TakeChain 0 u.first) l o.1 (ap (λ (z : SeatState P). z.0.steps) took.2) in
      ((ap (λ (z : SeatState P). z.1) took.2, ap (λ (z : SeatState P). z.0.number) took.2 ∙ a.1, ap (λ (z : SeatState P). z.0.spare) took.2 ∙ a.2, ap (λ (z : SeatState P). z.0.past) took.2 ∙ a.3, ap (λ (z : SeatState P). z.0.quota) took.2 ∙ a.4, ap (λ (z : SeatState P). z.0.own) took.2 ∙ a.5), g))
      f.3
    where
      append_nil : (xs : List StepEntry) → xs ≡ xs ++ []
      append_nil [] = refl
      append_nil (x ∷ xs) = ap (λ ys. x ∷ ys) (append_nil xs)

  -- so the ownership may still end
  pub still_ends : (relates : P → P → P → P → Type 0) (slots count : ℕ) (ran : List (P × P)) (t u : Turn) (x : ℕ) (m l : SeatState P) → FollowsAs slots count ran t m l (follow.Waits u x) → MayEnd relates count ran m → MayEnd relates count ran l
  still_ends relates slots count ran t u x m l f e = ⊎_elim
      (λ s. subst (MayEnd relates count ran) (sym s.2) e)
      (λ s. let k = s.1.0 in let a = (waits-stay slots count ran t u x m l f).0 in let took = s.1.2.2 in let same : e.0 ≡ k = owns-injective e.0 k (sym e.2 ∙ s.1.1) in (
        retook k u.first,
        e.1,
        ap (λ (z : SeatState P). z.0.stage) took.2,
        a.0 ∙ e.3 ∙ (λ i. (0, Some e.1) ∷ rest (sym a.0 i)),
        omega (arith, e.4, a.4),
        subst (λ (z : Ownership P). Counts (owed z.mine) ran count) same e.5,
        subst (λ (z : Ownership P). Runs relates z.value ran e.1) same e.6,
      ))
      f.3

  -- one slot in hand, and those behind it
  pub behind_one : (x : ℕ × Option P) (more c : List (ℕ × Option P)) → c ≡ x ∷ more → c ≡ x ∷ rest c
  behind_one x more c hand = hand ∙ (λ i. x ∷ rest (sym hand i))

  own_long : (y : OwnSlot P) (n : ℕ) (own : List (ℕ × Option P)) → OwnHand y n own → length own ≤ 1
  own_long Unused n own h = omega (arith, ap length h)
  own_long InHand n own h = omega (arith, ap length h.1)
  own_long (Unrun j) n own h = omega (arith, ap length h.1)

  -- slot 0 of an owner stands at the front
  pub owner_front : (slots : ℕ) (t : Turn) (hand : Option P) (m : SeatState P) (k : Ownership P) → OwnsBy slots t hand m k → StandsAt m.0.number 0 [] (rest m.1)
  owner_front slots t hand m k o = (omega (arith, own_long k.mine m.0.number (rest m.1) o.6.1), inl (refl, refl))

  -- and it may have anything in it
  pub owner_put : (slots : ℕ) (t : Turn) (hand value : Option P) (m n : SeatState P) (k : Ownership P) → OwnsBy slots t hand m k → n ≡ (m.0, (0, value) ∷ rest m.1) → OwnsBy slots t value n k
  owner_put slots t hand value m n k o e = subst (λ (z : SeatState P). OwnsBy slots t value z k) (sym e) (o.0, o.1, o.2, o.3, refl, o.5, o.6)

  -- what a pass that has just become the owner may do
  pub won_turn : (rule : Goods P → Type 0) (slots : ℕ) (t : Turn) (m n : SeatState P) (e : StepEntry) → Won rule slots t m e n → HasTurn slots t n
  won_turn rule slots t m n e w = let hand = ap (λ (z : SeatState P). z.1) w.1 in
      (Some w.0, ownership t.first t.end t.mark false w.0, (ap (λ (z : SeatState P). z.0.stage) w.1, refl, refl, refl, behind_one (0, Some w.0) [] n.1 hand, w.2, (refl, ap (λ (c : List (ℕ × Option P)). rest c) hand)))

  pub won_ends : (relates : P → P → P → P → Type 0) (rule : Goods P → Type 0) (slots : ℕ) (t : Turn) (m n : SeatState P) (e : StepEntry) → Won rule slots t m e n → MayEnd relates 0 [] n
  won_ends relates rule slots t m n e w =
      (ownership t.first t.end t.mark false w.0, w.0, ap (λ (z : SeatState P). z.0.stage) w.1, behind_one (0, Some w.0) [] n.1 (ap (λ (z : SeatState P). z.1) w.1), omega arith, refl, refl)

  -- and one that has posted a job, and found the lock free or was granted: its job is in its hand
  pub posted_turn : (rule : Goods P → Type 0) (slots : ℕ) (t : Turn) (m n : SeatState P) (e : StepEntry) → t.end ≡ t.first → t.mark ≡ t.first → WonWith rule slots t m e n → HasTurn slots t n
  posted_turn rule slots t m n e ends marks w =
      let hand : n.1 ≡ (0, Some w.0) ∷ (1 + 2 * m.0.number, Some w.1) ∷ [] = ap (λ (z : SeatState P). z.1) w.3 ∙ ap (λ (c : List (ℕ × Option P)). (0, Some w.0) ∷ c) w.2 in
      let number : n.0.number ≡ m.0.number = ap (λ (z : SeatState P). z.0.number) w.3 in (
        Some w.0,
        ownership_with t.first w.1 w.0,
        (
          ap (λ (z : SeatState P). z.0.stage) w.3,
          refl,
          sym ends,
          sym marks,
          behind_one (0, Some w.0) _ n.1 hand,
          w.4,
          (refl, (Some w.1, ap (λ (c : List (ℕ × Option P)). rest c) hand ∙ (λ i. (1 + 2 * sym number i, Some w.1) ∷ []))),
        ),
      )

  pub back_turn : (rule : Goods P → Type 0) (slots : ℕ) (t : Turn) (m n : SeatState P) (job : P) (e : StepEntry) → t.mark ≡ 1 → m.1 ≡ [] → Ranged slots t.first t.end → WinsBack rule m job t.first t.end e n → HasTurn slots t n
  back_turn rule slots t m n job e one empty ranged w =
      let hand : n.1 ≡ (0, Some w.0) ∷ (1 + 2 * m.0.number, Some job) ∷ [] = ap (λ (z : SeatState P). z.1) w.1 ∙ ap (λ (c : List (ℕ × Option P)). (0, Some w.0) ∷ (1 + 2 * m.0.number, Some job) ∷ c) empty in
      let number : n.0.number ≡ m.0.number = ap (λ (z : SeatState P). z.0.number) w.1 in (
        Some w.0,
        ownership_back t.first t.end job w.0,
        (
          ap (λ (z : SeatState P). z.0.stage) w.1,
          refl,
          refl,
          sym one,
          behind_one (0, Some w.0) _ n.1 hand,
          ranged,
          (refl, (Some job, ap (λ (c : List (ℕ × Option P)). rest c) hand ∙ (λ i. (1 + 2 * sym number i, Some job) ∷ []))),
        ),
      )

  -- an owner that loaded the next node's status has the turn still
  pub seen_turn : (slots x : ℕ) (t : Turn) (m n : SeatState P) (r : Kind) → HasTurn slots t m → KindSeen x m n r → HasTurn slots t n
  seen_turn slots x t m n kind.Plain h e = subst (HasTurn slots t) (sym e) h
  seen_turn slots x t m n kind.WithJob h e =
      let o = owns_at slots t h.0 m e.0 h.1 e.1 h.2 in
      subst (HasTurn slots t) (sym e.2) (h.0, seen_job e.0, (refl, o.1, o.2, o.3, o.4, o.5, o.6))
