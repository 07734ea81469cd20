-- The step by which an owner makes the next node the owner, whether that waits with a job or without one.
use Rattle.std.proofs.Common.{◌≡◌, ◌≢◌, ℕ, ◌+◌, ◌-◌, ◌*◌, ◌<◌, ◌≤◌, List, [], ◌∷◌, length, set, get_or, length-set, get_or-set_same, get_or-set_other, Option, Some, None, false, refl, sym, ap, ◌∙◌, subst, arith}
use mathlib.Core.Option.{some, none, Option as Maybe}
use lib.ListN.{get_elem?}
use Rattle.atomic_table.specs.Table.{State, step, gives, rest, Allows, stepped}
use Rattle.atomic_table.proofs.Lists.{set_here, set_else}
use Rattle.waiter_chain.specs.declared.view.View.{View}
use Rattle.waiter_chain.specs.declared.view.Ownership.{Ownership}
use Rattle.waiter_chain.specs.declared.view.Stage.{Stage}
use Rattle.waiter_chain.specs.declared.view.Stage.TheVariants.{Idle, Holding, Cleared, Ready, Behind, Owns, Done}
use Rattle.waiter_chain.specs.declared.view.StepKind.TheVariants.{Grant}
use Rattle.waiter_chain.specs.Goods.{Goods, put, Runs, Ends}
use Rattle.waiter_chain.specs.Chains.{Waiter, Line, desk, Desk, Seated, AtRest, Keeps, Noted, Waits, AllWait, weigh, line_weight, owner_weight, granted, named, Lawful}
use Rattle.waiter_chain.specs.Steps.{SeatState, entry, ended, handed}
use Rattle.view_sums.specs.Sums.{same-refl}
use Rattle.waiter_chain.proofs.Rules.{queued-words, put-none, noted-same, desk-same, waits-other, done-other, awake, has, quiet, covers-own, covers_awake, once, low_node, one_owner, restaged}
use Rattle.waiter_chain.proofs.Frees.{HasNone, owner_lines, owner_rest, owner_apart, live-owner, weigh_bare, put-back}

-- a line that is not empty, cut behind its head
pub line_cut : {P : Type 0} (v w : ℕ) (xs : List (Waiter P)) → Line v xs w → v ≢ w → (x : Waiter P) × (ys : List (Waiter P)) × (xs ≡ x ∷ ys) × (v ≡ x.0 + 2) × Line x.1 ys w
line_cut v w [] h ne = absurd (ne h)
line_cut v w (x ∷ xs) h ne = (x, xs, refl, h.0, h.1)

-- a desk with another status
abbrev pub with_status : {P : Type 0} → ℕ → Desk P → Desk P
with_status x d = record { status = x; link = d.link; job = d.job; answer = d.answer; posted = d.posted; answered = d.answered }

-- what lies in a waiting node's job slot does not hang on its status
pub keeps-status : {P : Type 0} (j : Option P) (x : ℕ) (d : Desk P) → Keeps j (with_status x d) → Keeps j d
keeps-status (Some j) x d h = h
keeps-status None x d h = h

module _ {P : Type 0} (rule : Goods P → Type 0) (nodes : ℕ) where
  -- another pass with the number of a node of the older line, or of the one whose slots the owner has, waits itself: its note of its job still holds
  pub waits_there : (s : State (Option P) (View P)) (o : Lawful rule nodes s) (id : ℕ) (v : View P) (k : Ownership P) (n : ℕ) (at' : ℕ → Desk P) → get_elem? s.views id ≡ some v → v.stage ≡ Owns k → 0 < has n o.older + owner_weight (awake n) o.owner
      → ((h : Option P) → Noted h (desk s.words s.homes o.posted o.answered n) → Noted h (at' n))
      → (j : ℕ) (u : View P) → j ≢ id → get_elem? s.views j ≡ some u → u.gone ≡ false → u.number ≡ n → Seated u.stage (at' u.number)
  waits_there s o id v k n at' me mine there notes j u ne at-j live-u is = by_stage u.stage refl
    where
      still : weigh (awake u.number) u ≡ 0 → ⊥
      still q = let t = quiet rule nodes s o j u u.number at-j (covers-own rule nodes s o u live-u) q in
          let a : has u.number o.older ≡ has n o.older = ap (λ (x : ℕ). has x o.older) is in
          let b : owner_weight {P = P} (awake u.number) o.owner ≡ owner_weight {P = P} (awake n) o.owner = ap (λ (x : ℕ). owner_weight {P = P} (awake x) o.owner) is in omega (arith, t.0, t.3, a, b, there)

      by_stage : (g : Stage P) → u.stage ≡ g → Seated g (at' u.number)
      by_stage Idle e = absurd (still (ap (awake u.number u.number) e))
      by_stage Holding e = absurd (still (ap (awake u.number u.number) e))
      by_stage (Cleared h) e = absurd (still (ap (awake u.number u.number) e))
      by_stage (Ready h) e = absurd (still (ap (awake u.number u.number) e))
      by_stage (Behind b h) e = let at : ℕ → Desk P = desk s.words s.homes o.posted o.answered in
          let before : Noted h (at u.number) = subst (λ (g : Stage P). Seated g (at u.number)) e (o.seated j u at-j live-u) in
          subst (λ (i : ℕ). Noted h (at' i)) (sym is) (notes h (subst (λ (i : ℕ). Noted h (at i)) is before))
      by_stage (Owns l) e = absurd (one_owner rule nodes s o id j v u k l ne me at-j mine e)
      by_stage (Done i a) e = absurd (still (ap (awake u.number u.number) e))

  pub grants : (relates : P → P → P → P → Type 0) → Ends rule nodes relates → (slots id : ℕ) (m : SeatState P) (k : Ownership P) (count : ℕ) (ran : List (P × P)) (now : P) (i new : ℕ) → m.0.stage ≡ Owns k → HasNone k → k.first ≢ k.end → i ≡ 1 + 2 * (k.first - 2) → new ≡ k.end + 4 → m.1 ≡ (0, Some now) ∷ []
      → count ≤ m.0.quota → count ≡ length ran → Runs relates k.value ran now
      → Allows (Lawful rule nodes) slots id m i (λ _. new) (λ _. handed count ran (step slots i new 0 none) m new)
  grants relates law slots id m k count ran now i new mine bare some-left at-word what hand enough all runs s o long me _ =
      let n : ℕ = m.0.number in let q = owner_lines rule nodes s o id m.0 k me mine bare.0 in
      let cut = line_cut k.first k.end o.older q.old_line some-left in let x : ℕ = cut.0.0 in let b : ℕ = cut.0.1 in let j = cut.0.2 in let ys : List (Waiter P) = cut.1 in let is : o.older ≡ (x, b, j) ∷ ys = cut.2 in
      let one : k.mark ≡ 1 = q.taken (omega (arith, ap length is)) in
      let counted = once rule nodes s o x in let here = same-refl x in let split : has x o.older ≡ has x ((x, b, j) ∷ ys) = ap (has x) is in
      let not-old : has x ys ≡ 0 = omega arith in let not-new : has x o.newer ≡ 0 = omega arith in let not-done : has x o.done ≡ 0 = omega arith in
      let low = low_node rule nodes s o x (omega arith) in let live-now = live-owner rule nodes s o id m.0 k me mine in
      let mates = owner_apart rule nodes s o id m.0 k me mine in
      let apart : n ≢ x = λ z. let a : has n o.older ≡ has x o.older = ap (λ (c : ℕ). has c o.older) z in omega (arith, mates.0) in
      let e : ℕ = k.end in
      let words : List ℕ = set s.words (1 + 2 * x) (e + 4) in
      let homes : List (Maybe (Option P)) = set s.homes 0 (some (Some now)) in
      let posted : ℕ → Maybe P = put o.posted n none in
      let at : ℕ → Desk P = desk s.words s.homes o.posted o.answered in let at' : ℕ → Desk P = desk words homes posted o.answered in
      let rested = owner_rest rule nodes s o id m.0 k me mine bare in
      let links : (l : ℕ) → get_or words (2 + 2 * l) 0 ≡ get_or s.words (2 + 2 * l) 0 = λ l. get_or-set_other s.words (1 + 2 * x) (2 + 2 * l) (e + 4) 0 (λ z. omega arith) in
      let central : get_or words 0 0 ≡ get_or s.words 0 0 = get_or-set_other s.words (1 + 2 * x) 0 (e + 4) 0 (λ z. omega arith) in
      let job : (l : ℕ) → get_elem? homes (1 + 2 * l) ≡ get_elem? s.homes (1 + 2 * l) = λ l. set_else s.homes 0 (1 + 2 * l) (some (Some now)) (λ z. omega arith) in
      let answer : (l : ℕ) → get_elem? homes (2 + 2 * l) ≡ get_elem? s.homes (2 + 2 * l) = λ l. set_else s.homes 0 (2 + 2 * l) (some (Some now)) (λ z. omega arith) in
      let elsewhere : (l : ℕ) → l ≢ x → at' l ≡ at l = λ l ne. desk-same s.words words s.homes homes o.posted posted o.answered o.answered l
      (get_or-set_other s.words (1 + 2 * x) (1 + 2 * l) (e + 4) 0 (λ z. ne (omega arith))) (links l) (job l) (answer l) (put-none o.posted n l rested.1.1) refl in
      -- the next node's desk, but for its status
      let as-before : with_status (at x).status (at' x) ≡ at x =
      λ t. record { status = (at x).status; link = links x t; job = job x t; answer = answer x t; posted = put-none o.posted n x rested.1.1 t; answered = o.answered x } in
      let w : View P = ended m.0 count ran (entry m.0 Grant i new) in
      let old : AllWait at ((x, b, j) ∷ ys) = subst (AllWait at) is o.old_waits in
      let waited : Waits b j (with_status (at x).status (at' x)) = subst (Waits b j) (sym as-before) old.0 in
      let place : i ≡ 1 + 2 * x = omega (arith, cut.3) in
      let q' = queued-words nodes s.words words o.older o.newer k.first k.end k.mark central q in
      let past : named e ((x, b, j) ∷ ys) ≡ 0 = subst (λ l. named e l ≡ 0) is q.past_end in (
        w,
        gives,
        tt,
        subst (λ (c : List (ℕ × Option P)). Lawful rule nodes (stepped s i new id c w gives)) (sym hand)
            (subst (λ (z : ℕ × ℕ). Lawful rule nodes record { words = set s.words z.0 z.1; homes = homes; views = set s.views id w }) (λ t. (sym place t, sym what t))
            (restaged rule nodes s o id m.0 w words homes posted o.answered (granted x b j e) ys o.newer o.done now x me live-now refl refl (omega arith) (λ _. refl) (length-set s.words (1 + 2 * x) (e + 4)) (length-set s.homes 0 (some (Some now))) (λ l _. links l)
            (λ f. (f, links n ∙ o.unlinked id m.0 n me live-now f (covers-own rule nodes s o m.0 live-now)))
            (λ g waking. omega (arith, ap (g n) mine, ap (owner_weight g) (o.owned id m.0 k me mine), weigh_bare rule nodes g n k bare, ap (line_weight g) is, (waking n).0))
            (λ l z. absurd (cc)) (λ l u r ne there z. absurd (one_owner rule nodes s o id l m.0 u k r ne me there mine z))
            elsewhere (subst AtRest (sym (elsewhere n apart)) rested)
            (λ l u ne there live-u z. waits_there s o id m.0 k x at' me mine (omega arith) (λ h. noted-same h (at x) (at' x) (put-none o.posted n x rested.1.1) refl) l u ne there live-u z)
            (covers_awake rule nodes s o x (omega arith))
            (waits-other at at' x elsewhere ys not-old old.1) (waits-other at at' x elsewhere o.newer not-new o.new_waits) (done-other at at' x elsewhere o.done not-done o.finished) (
              record {
                old_line = cut.4;
                new_line = subst (λ (y : ℕ). Line (get_or words 0 0) o.newer y) one q'.new_line;
                marked = omega arith;
                low_end = q.low_end;
                low_mark = omega arith;
                past_end = omega arith;
                past_mark = subst (λ (y : ℕ). named y o.newer ≡ 0) one q.past_mark;
                taken = λ _. refl;
              },
              (get_or-set_same s.words (1 + 2 * x) (e + 4) 0 (omega (arith, o.wide)), waited.2, waited.3, keeps-status j (at x).status (at' x) waited.4),
              set_here s.homes 0 (some (Some now)) (omega (arith, o.long)),
            )
            (put-back rule nodes relates law s o id m.0 k count ran now (entry m.0 Grant i new) me mine bare enough all runs))),
        ap (λ (c : List (ℕ × Option P)). (w, rest c)) hand,
      )
