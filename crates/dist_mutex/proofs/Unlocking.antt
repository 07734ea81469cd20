-- The steps of an unlock, put together.
use Rattle.std.proofs.Common.{◌≡◌, ◌≢◌, ℕ, zero, suc, ◌+◌, ◌-◌, ◌*◌, ◌≤◌, List, [], ◌∷◌, ◌++◌, length, Option, refl, sym, ap, ◌∙◌, subst, inl, inr, ⊎_elim, append_assoc, arith}
use Rattle.waiter_chain.specs.Goods.{Goods}
use Rattle.waiter_chain.specs.Steps.{SeatState, moved, noted, seen_job}
use Rattle.waiter_chain.specs.Calls.{IsIdle, HasTurn, MayEnd, FollowsAs, KindSeen, Ended}
use Rattle.waiter_chain.specs.declared.view.View.{View}
use Rattle.waiter_chain.specs.declared.view.StepEntry.{StepEntry}
use Rattle.waiter_chain.specs.declared.view.StepKind.TheVariants.{Free, TakeChain}
use Rattle.waiter_chain.specs.declared.view.Ownership.{Ownership}
use Rattle.waiter_chain.specs.declared.view.Stage.{Stage}
use Rattle.waiter_chain.specs.declared.turn.Turn.{Turn}
use Rattle.waiter_chain.specs.declared.turn.Follow.TheVariants as follow
use Rattle.waiter_chain.specs.declared.turn.Kind.TheVariants as kind
use Rattle.waiter_chain.proofs.Passes.{owns_at}
use Rattle.waiter_chain.proofs.Hands.{still_ends, seen_turn}
use Rattle.combine_job.proofs.Finding.{seen_ends}
use Rattle.dist_mutex.specs.declared.owner.Next.{Next}
use Rattle.dist_mutex.specs.declared.owner.Next.TheVariants as next
use Rattle.dist_mutex.specs.Owners.{Spent}
use Rattle.dist_mutex.specs.Unlocks.{by, loads_kind, loads_link, serves, grants, Comes, Round, Rounds, Closes, Unlocks, Went, JobWaits, EndsSoon, TookJob, NotLinked, RanRound, EndsEarly, StopsAs}

pub all_of : {A : Type 0} (xs : List A) → xs ≡ xs ++ []
all_of [] = refl
all_of (x ∷ xs) = ap (λ ys. x ∷ ys) (all_of xs)

long_append : {A : Type 0} (xs ys : List A) → length (xs ++ ys) ≡ length xs + length ys
long_append [] ys = omega arith
long_append (x ∷ xs) ys = omega (arith, long_append xs ys)

-- a turn's node, by its first word
pub node_of : (f x : ℕ) → f ≡ x + 2 → f - 2 ≡ x
node_of f x e = omega (arith, e)

-- the bound on the steps
come_long : (n : ℕ) (t u : Turn) (es : List StepEntry) → Comes n t es u → length es ≤ 2
come_long n t u es c = ⊎_elim (λ a. omega (arith, ap length a.2)) (λ a. ⊎_elim (λ b. omega (arith, ap length b)) (λ b. omega (arith, ap length b.2)) a.3) c.1

round_long : (n : ℕ) (t s : Turn) (es : List StepEntry) → Round n t es s → length es ≤ 5
round_long n t s es r = omega (arith, ap length r.8, long_append r.0 (loads_kind n (r.1.first - 2) 2 ∷ loads_link n (r.1.first - 2) r.2 ∷ serves n (r.1.first - 2) ∷ []), come_long n t r.1 r.0 r.3)

rounds_long : (n : ℕ) (t : Turn) (k : ℕ) (es : List StepEntry) (s : Turn) → Rounds n t k es s → length es ≤ 5 * k
rounds_long n t zero es s r = omega (arith, ap length r.0)
rounds_long n t (suc k) es s r = omega (arith, ap length r.5, long_append r.0 r.1, rounds_long n t k r.0 r.2 r.3, round_long n r.2 s r.1 r.4)

close_long : (n limit k : ℕ) (t : Turn) (es : List StepEntry) (x : Next) → Closes n limit k t es x → length es ≤ 5
close_long n limit k t es next.Free c = omega (arith, ap length c.1)
close_long n limit k t es (next.Plain x) c = omega (arith, ap length c.4, long_append c.0 (loads_kind n x 1 ∷ grants n x c.1.end ∷ []), come_long n t c.1 c.0 c.2)
close_long n limit k t es (next.Spent x) c = omega (arith, ap length c.5, long_append c.0 (loads_kind n x 2 ∷ grants n x c.1.end ∷ []), come_long n t c.1 c.0 c.2)
close_long n limit k t es (next.Unlinked x) c = omega (arith, ap length c.5, long_append c.0 (loads_kind n x 2 ∷ loads_link n x 0 ∷ grants n x c.1.end ∷ []), come_long n t c.1 c.0 c.2)

pub unlock_long : (n limit : ℕ) (t : Turn) (k : ℕ) (es : List StepEntry) (x : Next) → Unlocks n limit t k es x → length es ≤ 7 * k + 6
unlock_long n limit t k es x u = omega (arith, ap length u.1.5, long_append u.1.0 u.1.1, rounds_long n t k u.1.0 u.1.2 u.1.3, close_long n limit k u.1.2 u.1.1 x u.1.4)

module _ {P : Type 0} where
  pub went_not : (m : SeatState P) → Went 0 [] [] m m
  went_not m = record { number = refl; spare = refl; past = refl; quota = omega arith; own = all_of m.0.own; steps = all_of m.0.steps }

  pub went_then : (d e : ℕ) (r s : List (P × P)) (a b : List StepEntry) (m l n : SeatState P) → Went d r a m l → Went e s b l n → Went (d + e) (r ++ s) (a ++ b) m n
  went_then d e r s a b m l n v w = record {
    number = w.number ∙ v.number;
    spare = w.spare ∙ v.spare;
    past = w.past ∙ v.past;
    quota = omega (arith, w.quota, v.quota);
    own = w.own ∙ ap (λ xs. xs ++ s) v.own ∙ append_assoc m.0.own r s;
    steps = w.steps ∙ ap (λ xs. xs ++ b) v.steps ∙ append_assoc m.0.steps a b;
  }

  -- first nothing was paid
  pub went_on : (e : ℕ) (s : List (P × P)) (a b : List StepEntry) (m l n : SeatState P) → Went 0 [] a m l → Went e s b l n → Went e s (a ++ b) m n
  went_on e s a b m l n v w = record {
    number = w.number ∙ v.number;
    spare = w.spare ∙ v.spare;
    past = w.past ∙ v.past;
    quota = omega (arith, w.quota, v.quota);
    own = w.own ∙ ap (λ xs. xs ++ s) (v.own ∙ sym (all_of m.0.own));
    steps = w.steps ∙ ap (λ xs. xs ++ b) v.steps ∙ append_assoc m.0.steps a b;
  }

  pub went_as : (d : ℕ) (r : List (P × P)) (a b : List StepEntry) (m n : SeatState P) → a ≡ b → Went d r a m n → Went d r b m n
  went_as d r a b m n e w = subst (λ (xs : List StepEntry). Went d r xs m n) e w

  pub went_moved : (m n : SeatState P) (stage : Stage P) (e : StepEntry) (c : List (ℕ × Option P)) → n ≡ (moved m.0 stage e, c) → Went 0 [] (e ∷ []) m n
  went_moved m n stage e c is = subst (Went 0 [] (e ∷ []) m) (sym is) (record { number = refl; spare = refl; past = refl; quota = omega arith; own = all_of m.0.own; steps = refl })

  went_noted : (m n : SeatState P) (stage : Stage P) (c : List (ℕ × Option P)) → n ≡ (noted m.0 stage, c) → Went 0 [] [] m n
  went_noted m n stage c is = subst (Went 0 [] [] m) (sym is) (record { number = refl; spare = refl; past = refl; quota = omega arith; own = all_of m.0.own; steps = all_of m.0.steps })

  pub went_ended : (due : ℕ) (ran : List (P × P)) (e : StepEntry) (m n : SeatState P) → Ended due ran e m n → Went due ran (e ∷ []) m n
  went_ended due ran e m n is = subst (Went due ran (e ∷ []) m) (sym is) (record { number = refl; spare = refl; past = refl; quota = refl; own = refl; steps = refl })

  pub ended_idle : (due : ℕ) (ran : List (P × P)) (e : StepEntry) (m n : SeatState P) → Ended due ran e m n → IsIdle n
  ended_idle due ran e m n is = subst IsIdle (sym is) (refl, refl)

  -- what a hand has does not count
  pub went_from : (d : ℕ) (r : List (P × P)) (a : List StepEntry) (m l n : SeatState P) → l.0 ≡ m.0 → Went d r a l n → Went d r a m n
  went_from d r a m l n same w = record {
    number = w.number ∙ ap (λ (v : View P). v.number) same;
    spare = w.spare ∙ ap (λ (v : View P). v.spare) same;
    past = w.past ∙ ap (λ (v : View P). v.past) same;
    quota = w.quota ∙ ap (λ (v : View P). v.quota - d) same;
    own = w.own ∙ ap (λ (v : View P). v.own ++ r) same;
    steps = w.steps ∙ ap (λ (v : View P). v.steps ++ a) same;
  }

  pub went_to : (d : ℕ) (r : List (P × P)) (a : List StepEntry) (m l n : SeatState P) → n.0 ≡ l.0 → Went d r a m l → Went d r a m n
  went_to d r a m l n same w = record {
    number = ap (λ (v : View P). v.number) same ∙ w.number;
    spare = ap (λ (v : View P). v.spare) same ∙ w.spare;
    past = ap (λ (v : View P). v.past) same ∙ w.past;
    quota = ap (λ (v : View P). v.quota) same ∙ w.quota;
    own = ap (λ (v : View P). v.own) same ∙ w.own;
    steps = ap (λ (v : View P). v.steps) same ∙ w.steps;
  }

  -- an owner goes on with a chain that is not empty
  pub comes : (slots due : ℕ) (ran : List (P × P)) (t u : Turn) (x : ℕ) (m l : SeatState P) → HasTurn slots t m → FollowsAs slots due ran t m l (follow.Waits u x) → (front : List StepEntry) × Comes m.0.number t front u × Went 0 [] front m l
  comes slots due ran t u x m l h f = ⊎_elim
      (λ s. ([], (f.0, inl (s.0, s.1, refl)), subst (Went 0 [] [] m) (sym s.2) (went_not m)))
      (λ s.
      let k : Ownership P = s.1.0 in let took = s.1.2 in let seen : SeatState P = took.2.0 in
      let o = owns_at slots t h.0 m k h.1 s.1.1 h.2 in
      let ends : u.end ≡ t.mark = took.0 ∙ o.3 in
      let takes : StepEntry = by m.0.number TakeChain 0 u.first in
      ⊎_elim
      (λ e. let a = went_noted m seen _ _ e in (takes ∷ [], (f.0, inr (s.0, ends, took.1, inl refl)), went_on 0 [] [] (takes ∷ []) m seen l a (went_moved seen l _ takes _ took.2.2)))
      (λ e. let a = went_moved m seen _ (by m.0.number Free 0 e.0) _ e.2 in (
        by m.0.number Free 0 e.0 ∷ takes ∷ [],
        (f.0, inr (s.0, ends, took.1, inr (e.0, (λ z. e.1 (z ∙ sym o.3)), refl))),
        went_on 0 [] (by m.0.number Free 0 e.0 ∷ []) (takes ∷ []) m seen l a (went_moved seen l _ takes _ took.2.2),
      ))
      took.2.1)
      f.3

  -- and finds how its next node waits
  pub job_waits : (relates : P → P → P → P → Type 0) (slots due : ℕ) (ran : List (P × P)) (t u : Turn) (x : ℕ) (m l n : SeatState P) → HasTurn slots t m → MayEnd relates due ran m → FollowsAs slots due ran t m l (follow.Waits u x) → KindSeen (u.first - 2) l n kind.WithJob
      → JobWaits relates slots due ran t m n u
  job_waits relates slots due ran t u x m l n h e f s =
      let c = comes slots due ran t u x m l h f in let number = c.2.number in
      let a = went_moved l n _ _ _ s.2 in (
        seen_turn slots (u.first - 2) u l n kind.WithJob f.2 s,
        seen_ends relates due ran (u.first - 2) l n kind.WithJob (still_ends relates slots due ran t u x m l f e) s,
        (seen_job s.0, ap (λ (z : SeatState P). z.0.stage) s.2, refl),
        (c.0, c.1, went_on 0 [] c.0 (loads_kind m.0.number (u.first - 2) 2 ∷ []) m l n c.2 (went_as 0 [] _ _ l n (ap (λ (i : ℕ). loads_kind i (u.first - 2) 2 ∷ []) number) a)),
      )

  -- it waits for the lock itself, and is made the owner
  pub hands_plain : (slots due : ℕ) (ran : List (P × P)) (t u : Turn) (x : ℕ) (m l s n : SeatState P) → HasTurn slots t m → FollowsAs slots due ran t m l (follow.Waits u x) → KindSeen (u.first - 2) l s kind.Plain
      → IsIdle n → Went due ran (grants s.0.number (u.first - 2) u.end ∷ []) s n → EndsSoon due ran t m n (next.Plain x)
  hands_plain slots due ran t u x m l s n h f k idle w =
      let c = comes slots due ran t u x m l h f in let node : u.first ≡ x + 2 = sym f.1 in
      let a = went_moved l s _ _ _ k in let b = went_on due ran (loads_kind l.0.number (u.first - 2) 1 ∷ []) (grants s.0.number (u.first - 2) u.end ∷ []) l s n a w in
      let made : List StepEntry = c.0 ++ loads_kind m.0.number x 1 ∷ grants m.0.number x u.end ∷ [] in (
        idle,
        (
          made,
          went_on due ran c.0 (loads_kind m.0.number x 1 ∷ grants m.0.number x u.end ∷ []) m l n c.2
              (went_as due ran _ _ l n (λ i. loads_kind (c.2.number i) (node_of u.first x node i) 1 ∷ grants ((a.number ∙ c.2.number) i) (node_of u.first x node i) u.end ∷ []) b),
          λ limit k'. (c.0, u, c.1, node, refl),
        ),
      )

  pub frees : (slots due : ℕ) (ran : List (P × P)) (t : Turn) (m n : SeatState P) → FollowsAs slots due ran t m n follow.Free → EndsSoon due ran t m n next.Free
  frees slots due ran t m n f = (ended_idle due ran _ m n f.1, (by m.0.number Free 0 t.mark ∷ [], went_ended due ran _ m n f.1, λ limit k. (f.0, refl)))

  -- one round, of its three parts
  pub ran_round : (relates : P → P → P → P → Type 0) (rule : Goods P → Type 0) (slots due : ℕ) (ran : List (P × P)) (t u v s : Turn) (link : ℕ) (m l j n : SeatState P) → JobWaits relates slots due ran t m l u → TookJob relates rule slots due ran u l j v link
      → HasTurn slots s n → s.first ≡ link → s.end ≡ v.end → s.mark ≡ v.mark → MayEnd relates 0 [] n → Went due ran (serves j.0.number (v.first - 2) ∷ []) j n → RanRound relates slots due ran t m n s
  ran_round relates rule slots due ran t u v s link m l j n w k turn first end mark ends went =
      let x : ℕ = u.first - 2 in let front : List StepEntry = w.3.0 in let same = k.0 in
      let number-l = w.3.2.number in let number-j = k.3.number ∙ number-l in
      let a = went_on due ran (loads_link l.0.number x link ∷ []) (serves j.0.number (v.first - 2) ∷ []) l j n k.3 went in
      let b = went_on due ran (front ++ loads_kind m.0.number x 2 ∷ []) (loads_link l.0.number x link ∷ serves j.0.number (v.first - 2) ∷ []) m l n w.3.2 a in
      let es : List StepEntry = front ++ loads_kind m.0.number x 2 ∷ loads_link m.0.number x link ∷ serves m.0.number x ∷ [] in
      let same-steps : (front ++ loads_kind m.0.number x 2 ∷ []) ++ (loads_link l.0.number x link ∷ serves j.0.number (v.first - 2) ∷ []) ≡ es =
      append_assoc front (loads_kind m.0.number x 2 ∷ []) (loads_link l.0.number x link ∷ serves j.0.number (v.first - 2) ∷ [])
      ∙ (λ i. front ++ loads_kind m.0.number x 2 ∷ loads_link (number-l i) x link ∷ serves (number-j i) ((same i).first - 2) ∷ []) in
      (turn, ends, (es, (front, u, link, w.3.1, k.1, first, end ∙ ap (λ (z : Turn). z.end) same, mark ∙ ap (λ (z : Turn). z.mark) same, refl), went_as due ran _ es m n same-steps b))

  -- the next node has not linked
  pub hands_unlinked : (relates : P → P → P → P → Type 0) (slots due : ℕ) (ran : List (P × P)) (t u : Turn) (x : Next) (m l n : SeatState P) → JobWaits relates slots due ran t m l u → NotLinked due ran u l n x → EndsEarly due ran t m n x
  hands_unlinked relates slots due ran t u x m l n w k =
      let y : ℕ = u.first - 2 in let front : List StepEntry = w.3.0 in let number = w.3.2.number in
      let b = went_on due ran (front ++ loads_kind m.0.number y 2 ∷ []) (loads_link l.0.number y 0 ∷ grants l.0.number y u.end ∷ []) m l n w.3.2 k.2 in
      let es : List StepEntry = front ++ loads_kind m.0.number y 2 ∷ loads_link m.0.number y 0 ∷ grants m.0.number y u.end ∷ [] in
      let same-steps : (front ++ loads_kind m.0.number y 2 ∷ []) ++ (loads_link l.0.number y 0 ∷ grants l.0.number y u.end ∷ []) ≡ es =
      append_assoc front (loads_kind m.0.number y 2 ∷ []) (loads_link l.0.number y 0 ∷ grants l.0.number y u.end ∷ [])
      ∙ (λ i. front ++ loads_kind m.0.number y 2 ∷ loads_link (number i) y 0 ∷ grants (number i) y u.end ∷ []) in
      let node : u.first ≡ y + 2 = above slots u l w.0 w.3.1.0 in
      subst (EndsEarly due ran t m n) (sym k.1) (k.0, (es, went_as due ran _ es m n same-steps b, λ limit c low. (front, u, w.3.1, node, low, refl)))
    where
      above : (slots : ℕ) (u : Turn) (l : SeatState P) → HasTurn slots u l → u.first ≢ u.end → u.first ≡ u.first - 2 + 2
      above slots u l h ne = omega (arith, (h.2.5.1 ne).0)

  -- the limit is reached
  pub hands_spent : (relates : P → P → P → P → Type 0) (slots due : ℕ) (ran : List (P × P)) (t u : Turn) (x : ℕ) (m l n : SeatState P) → JobWaits relates slots due ran t m l u → x ≡ u.first - 2 → IsIdle n → Went due ran (grants l.0.number (u.first - 2) u.end ∷ []) l n → StopsAs due ran t m n (next.Spent x)
  hands_spent relates slots due ran t u x m l n w is idle went =
      let y : ℕ = u.first - 2 in let front : List StepEntry = w.3.0 in let number = w.3.2.number in
      let b = went_on due ran (front ++ loads_kind m.0.number y 2 ∷ []) (grants l.0.number y u.end ∷ []) m l n w.3.2 went in
      let es : List StepEntry = front ++ loads_kind m.0.number x 2 ∷ grants m.0.number x u.end ∷ [] in
      let same-steps : (front ++ loads_kind m.0.number y 2 ∷ []) ++ (grants l.0.number y u.end ∷ []) ≡ es =
      append_assoc front (loads_kind m.0.number y 2 ∷ []) (grants l.0.number y u.end ∷ []) ∙ (λ i. front ++ loads_kind m.0.number (sym is i) 2 ∷ grants (number i) (sym is i) u.end ∷ []) in
      let node : u.first ≡ x + 2 = above slots u l x w.0 w.3.1.0 is in
      (idle, (es, went_as due ran _ es m n same-steps b, λ limit. (front, u, w.3.1, node, refl, refl)))
    where
      above : (slots : ℕ) (u : Turn) (l : SeatState P) (x : ℕ) → HasTurn slots u l → u.first ≢ u.end → x ≡ u.first - 2 → u.first ≡ x + 2
      above slots u l x h ne is = omega (arith, (h.2.5.1 ne).0, is)

  pub soon_early : (due : ℕ) (ran : List (P × P)) (t : Turn) (m n : SeatState P) (x : Next) → EndsSoon due ran t m n x → EndsEarly due ran t m n x
  soon_early due ran t m n x e = (e.0, (e.1.0, e.1.1, λ limit k _. e.1.2 limit k))

  pub soon_stops : (due : ℕ) (ran : List (P × P)) (t : Turn) (m n : SeatState P) (x : Next) → EndsSoon due ran t m n x → StopsAs due ran t m n x
  soon_stops due ran t m n x e = (e.0, (e.1.0, e.1.1, λ limit. e.1.2 limit limit))

  -- how far an unlock is: the rounds that it has made, what it has paid, and what is still due
  pub record Going (due : ℕ) (ran : List (P × P)) (t : Turn) (k later : ℕ) (rest : List (P × P)) (u : Turn) (m l : SeatState P) : Type 0 where
    pub es : List StepEntry
    pub paid : ℕ
    pub settled_runs : List (P × P)
    pub went : Went paid settled_runs es m l
    pub sum : paid + later ≡ due
    pub all : settled_runs ++ rest ≡ ran
    pub rounds : Rounds m.0.number t k es u

  pub begins : (due : ℕ) (ran : List (P × P)) (t : Turn) (m : SeatState P) → Going due ran t 0 due ran t m m
  begins due ran t m = record { es = []; paid = 0; settled_runs = []; went = went_not m; sum = omega arith; all = refl; rounds = (refl, refl) }

  goes_suc : (relates : P → P → P → P → Type 0) (slots due : ℕ) (ran : List (P × P)) (t : Turn) (k later : ℕ) (rest : List (P × P)) (u s : Turn) (m l n : SeatState P) → Going due ran t k later rest u m l → RanRound relates slots later rest u l n s → Going due ran t (suc k) 0 [] s m n
  goes_suc relates slots due ran t k later rest u s m l n g r = record {
    es = g.es ++ r.2.0;
    paid = g.paid + later;
    settled_runs = g.settled_runs ++ rest;
    went = went_then g.paid later g.settled_runs rest g.es r.2.0 m l n g.went r.2.2;
    sum = omega (arith, g.sum);
    all = sym (all_of (g.settled_runs ++ rest)) ∙ g.all;
    rounds = (g.es, r.2.0, u, g.rounds, subst (λ (i : ℕ). Round i u r.2.0 s) g.went.number r.2.1, refl);
  }

  pub goes_on : (relates : P → P → P → P → Type 0) (slots due : ℕ) (ran : List (P × P)) (t : Turn) (k later : ℕ) (rest : List (P × P)) (u s : Turn) (m l n : SeatState P) → Going due ran t k later rest u m l → RanRound relates slots later rest u l n s → Going due ran t (k + 1) 0 [] s m n
  goes_on relates slots due ran t k later rest u s m l n g r = let more : suc k ≡ k + 1 = omega arith in subst (λ (j : ℕ). Going due ran t j 0 [] s m n) more (goes_suc relates slots due ran t k later rest u s m l n g r)

  -- and how it ends
  pub unlocked : (limit due : ℕ) (ran : List (P × P)) (t : Turn) (k later : ℕ) (rest : List (P × P)) (u : Turn) (x : Next) (m l n : SeatState P) (last : List StepEntry) → Going due ran t k later rest u m l → k ≤ limit → Went later rest last l n → Closes l.0.number limit k u last x
      → (made : List StepEntry) × Went due ran made m n × Unlocks m.0.number limit t k made x
  unlocked limit due ran t k later rest u x m l n last g low w c =
      let a = went_then g.paid later g.settled_runs rest g.es last m l n g.went w in (
        g.es ++ last,
        subst (λ (z : ℕ × List (P × P)). Went z.0 z.1 (g.es ++ last) m n) (λ i. (g.sum i, g.all i)) a,
        (low, (g.es, last, u, g.rounds, subst (λ (i : ℕ). Closes i limit k u last x) g.went.number c, refl)),
      )

  pub spends : (limit due : ℕ) (ran : List (P × P)) (t : Turn) (k : ℕ) (x : Next) (m n : SeatState P) → IsIdle n → (u : (made : List StepEntry) × Went due ran made m n × Unlocks m.0.number limit t k made x) → Spent (7 * k + 6) due ran m n
  spends limit due ran t k x m n idle u = let w = u.1 in (idle, w.number, w.spare, w.past, w.quota, w.own, (u.0, w.steps, unlock_long m.0.number limit t k u.0 x u.2))
