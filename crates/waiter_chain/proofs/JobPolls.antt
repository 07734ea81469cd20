-- The step by which a node that waits with a job reads its own status: it waits still, its job has run, or it was made the owner and takes its job back.
use Rattle.std.proofs.Common.{◌≡◌, ◌⊎◌, ℕ, ◌+◌, ◌-◌, ◌*◌, ◌<◌, ◌≤◌, List, [], ◌∷◌, ◌++◌, map, get_or, Option, Some, None, refl, sym, ap, ◌∙◌, subst, ⊎_elim, arith}
use mathlib.Core.Option.{some, none}
use lib.ListN.{get_elem?}
use Rattle.atomic_table.specs.Table.{step, keeps, takes, chain, Allows, stepped}
use Rattle.atomic_table.proofs.Lists.{at_map}
use Rattle.waiter_chain.specs.declared.view.View.{View}
use Rattle.waiter_chain.specs.declared.view.StepEntry.{StepEntry}
use Rattle.waiter_chain.specs.declared.view.Stage.{Stage}
use Rattle.waiter_chain.specs.declared.view.Stage.TheVariants.{Idle, Holding, Cleared, Ready, Behind, Owns, Done}
use Rattle.waiter_chain.specs.declared.view.StepKind.TheVariants.{LoadStatus}
use Rattle.waiter_chain.specs.Goods.{part, goods, Goods}
use Rattle.waiter_chain.specs.Chains.{Waiter, desk, Desk, kind, Finished, line_weight, part_of, granted, Queued, Held, Lawful}
use Rattle.waiter_chain.specs.Steps.{SoundJob, SoundAnswer, SeatState, Ranged, ownership_back, entry, moved, polled_job, polled}
use Rattle.waiter_chain.proofs.Rules.{live, low_node, unmoved}
use Rattle.waiter_chain.proofs.Polls.{ranged, behind-idle, polls}
use Rattle.waiter_chain.proofs.Links.{waits_at}
use Rattle.waiter_chain.proofs.Collects.{finds-done}
use Rattle.waiter_chain.proofs.Takes.{takes-back}
use Rattle.waiter_chain.proofs.Shown.{Seen, whole, place, seen-status, with-job}

module _ {P : Type 0} where
  -- what a stage says of a node behind another: the word, and the job, or these
  behind_of : ℕ → P → Stage P → ℕ × P
  behind_of b d Idle = (b, d)
  behind_of b d Holding = (b, d)
  behind_of b d (Cleared j) = (b, d)
  behind_of b d (Ready j) = (b, d)
  behind_of b d (Behind c None) = (c, d)
  behind_of b d (Behind c (Some j)) = (c, j)
  behind_of b d (Owns k) = (b, d)
  behind_of b d (Done j a) = (b, d)

  same-behind : (b c : ℕ) (i j : P) → ◌≡◌ {A = Stage P} (Behind b (Some i)) (Behind c (Some j)) → ◌≡◌ {A = ℕ × P} (b, i) (c, j)
  unfolding behind_of
  same-behind b c i j e = ap (behind_of b i) e

  none-some : (b c : ℕ) (j : P) → ◌≡◌ {A = Stage P} (Behind b None) (Behind c (Some j)) → ⊥
  none-some b c j e = cc

module _ {P : Type 0} (rule : Goods P → Type 0) (nodes : ℕ) where
  pub polls-job : (known : Goods P → Type 0) → ((g : Goods P) → rule g → known g) → (slots id : ℕ) (m : SeatState P) (k b : ℕ) (i : P) → m.0.stage ≡ Behind b (Some i) → k ≡ 1 + 2 * m.0.number
      → Allows (Lawful rule nodes) slots id m k (λ x. x) (polled_job known (step slots k 0 0 none) m)
  polls-job known tells slots id m k b i mine is s o long me _ =
      let n : ℕ = m.0.number in let r : ℕ = get_or s.words k 0 in let y : P = o.value in
      let at : ℕ → Desk P = desk s.words s.homes o.posted o.answered in
      let e : StepEntry = entry m.0 LoadStatus k r in let steps : List StepEntry = m.0.steps ++ e ∷ [] in
      let live-now = live rule nodes s o id m.0 me (λ z. behind-idle P b (Some i) (sym mine ∙ z)) in
      let read : r ≡ (at n).status = ap (λ (x : ℕ). get_or s.words x 0) is in
      ⊎_elim
      (λ (t : (l : ℕ) × (x : Waiter P) × ((get_elem? (whole o.owner o.older) l ≡ some x) ⊎ (get_elem? o.newer l ≡ some x)) × (x.0 ≡ n) × (x.1 ≡ b) × Seen x.1 x.2 (at n) × (kind x.2 ≡ 2)).
      let two : r ≡ 2 = read ∙ seen-status t.1.1 t.1.2 (at n) t.5 ∙ t.6 in (
        moved m.0 m.0.stage e,
        keeps,
        tt,
        unmoved rule nodes s o id m k steps me live-now,
        λ c j z. ((λ _. (two, refl)), (λ three. absurd (omega (arith, two, three))), λ big. absurd (omega (arith, two))),
      ))
      (⊎_elim
      (λ (t : (j : P) × Finished j (at n) × (kind (Some i) ≡ 2) × (0 < line_weight {P = P} (waits_at n b) o.done)).
      let three : r ≡ 3 = read ∙ t.1.0 in
      let f = finds-done rule nodes s o id m b k i steps me mine is three t.3 in (
        moved m.0 (Done i f.0) e,
        takes (2 + 2 * n) (Some f.0),
        f.1,
        subst (λ (x : ℕ). Lawful rule nodes (stepped s k x id m.1 (moved m.0 (Done i f.0) e) (takes (2 + 2 * n) (Some f.0)))) (sym three) f.2,
        λ c j z. (
          (λ small. absurd (omega (arith, three))),
          (λ _. subst (λ (x : ℕ × P). (a : P) × ◌≡◌ {A = SeatState P} (moved m.0 (Done i f.0) e, (2 + 2 * n, Some f.0) ∷ m.1) (moved m.0 (Done x.1 a) e, (2 + 2 * n, Some a) ∷ m.1) × SoundAnswer known (part m.0.number m.0.quota m.0.own) x.1 a) (same-behind b c i j (sym mine ∙ z)) (f.0, refl, (goods o.value o.posted o.answered (map part_of s.views), tells _ o.goods_rule, (id, at_map part_of s.views id m.0 me), f.3))),
          λ big. absurd (omega (arith, three)),
        ),
      ))
      (λ (t : (l : ℕ) × (x : Option P) × (o.owner ≡ granted n b x l) × (kind x ≡ 2)).
      let with = with-job t.1 t.3 in
      let was₁ : o.owner ≡ granted n b (Some with.0) t.0 = t.2 ∙ ap (λ (x : Option P). granted n b x t.0) with.1 in
      let h₁ : Held nodes s.words s.homes at o.older o.newer y (granted n b (Some with.0) t.0) = subst (λ x. Held nodes s.words s.homes at o.older o.newer y x) was₁ o.held in
      let end : t.0 ≡ r - 4 = omega (arith, read, h₁.1.0) in let big : 4 ≤ r = omega (arith, read, h₁.1.0) in
      let was : o.owner ≡ granted n b (Some with.0) (r - 4) = was₁ ∙ ap (λ (x : ℕ). granted n b (Some with.0) x) end in
      let q : Queued nodes s.words o.older o.newer b (r - 4) 1 = subst (λ (x : ℕ). Queued nodes s.words o.older o.newer b x 1) end h₁.0 in
      let f = takes-back rule nodes s o id m b (r - 4) k i with.0 steps me mine was in
      let w : View P = moved m.0 (Owns (ownership_back b (r - 4) i y)) e in (
        w,
        chain (takes (1 + 2 * n) (Some i)) (takes 0 (Some y)),
        f.1,
        f.2,
        λ c j z. (
          (λ small. absurd (omega (arith, big))),
          (λ three. absurd (omega (arith, big, three))),
          λ _. subst (λ (x : ℕ × P). Ranged slots x.0 (r - 4) × ((v : P) × ◌≡◌ {A = SeatState P} (w, (0, Some y) ∷ (1 + 2 * n, Some i) ∷ m.1) (moved m.0 (Owns (ownership_back x.0 (r - 4) x.1 v)) e, (0, Some v) ∷ (1 + 2 * n, Some x.1) ∷ m.1) × SoundJob known v (part m.0.number m.0.quota m.0.own) n x.1)) (same-behind b c i j (sym mine ∙ z))
              (ranged nodes slots b (r - 4) o.older (sym long ∙ o.long) (λ l d. low_node rule nodes s o l (omega arith)) q.old_line q.low_end, (y, refl, (goods o.value o.posted o.answered (map part_of s.views), tells _ o.goods_rule, refl, (id, at_map part_of s.views id m.0 me), f.3))),
        ),
      )))
      (place rule nodes s o id b m.0 (Some i) me mine)

  -- the step of any waiting node
  pub polls-any : (known : Goods P → Type 0) → ((g : Goods P) → rule g → known g) → (slots id : ℕ) (m : SeatState P) (k b : ℕ) (h : Option P) → m.0.stage ≡ Behind b h → k ≡ 1 + 2 * m.0.number
      → Allows (Lawful rule nodes) slots id m k (λ x. x) (polled known (step slots k 0 0 none) m)
  polls-any known tells slots id m k b None mine is s o long me small =
      let t = polls rule nodes known tells slots id m k b mine is s o long me small in (t.0, t.1, t.2, t.3, (t.4, λ c j z. absurd (none-some b c j (sym mine ∙ z))))
  polls-any known tells slots id m k b (Some i) mine is s o long me small =
      let t = polls-job known tells slots id m k b i mine is s o long me small in (t.0, t.1, t.2, t.3, ((λ c z. absurd (none-some c b i (sym z ∙ mine))), t.4))
