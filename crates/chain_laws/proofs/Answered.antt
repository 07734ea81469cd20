-- Where each answer is.
use Rattle.std.proofs.Common.{◌≡◌, ◌⊎◌, ℕ, ◌+◌, ◌*◌, ◌<◌, Result, Option, Some, List, [], ◌∷◌, map, false, refl, sym, ap, ◌∙◌, subst, ⊎_elim, arith}
use mathlib.Core.Option.{some, none, some-injective, some-ne-none}
use lib.ListN.{get_elem?}
use Rattle.atomic_table.specs.Table.{State}
use Rattle.view_sums.specs.Sums.{total}
use Rattle.waiter_chain.specs.Goods.{Goods, goods, Runs}
use Rattle.waiter_chain.specs.Chains.{Waiter, Desk, desk, kind, Seated, Noted, Finished, Filled, line_weight, part_of, granted, Held, Lawful}
use Rattle.waiter_chain.specs.Shows.{status_at}
use Rattle.waiter_chain.specs.declared.view.Opening.{Opening}
use Rattle.waiter_chain.specs.declared.view.View.{View}
use Rattle.waiter_chain.specs.declared.view.Stage.{Stage}
use Rattle.waiter_chain.specs.declared.view.Stage.TheVariants.{Behind, Done}
use Rattle.waiter_chain.proofs.Rules.{live}
use Rattle.waiter_chain.proofs.Polls.{behind-idle}
use Rattle.waiter_chain.proofs.Links.{waits_at}
use Rattle.waiter_chain.proofs.Shown.{Seen, whole, place, seen-status}
use Rattle.combine_job.specs.declared.parcel.Parcel.{Parcel}
use Rattle.combine_job.specs.declared.parcel.Parcel.TheVariants.{Value}
use Rattle.combine_job.specs.Parcels.{Related, Ruled, all_own}
use Rattle.combine_job.proofs.Positions.{history-once}
use Rattle.chain_laws.specs.Laws.{AnswersOnce, AnswersEachOnce}

pub total-map : {A B : Type 0} (f : A → B) (w : B → ℕ) (l : List A) → total w (map f l) ≡ total (λ a. w (f a)) l
total-map f w [] = refl
total-map f w (x ∷ xs) = omega (arith, total-map f w xs)

module _ {P : Type 0} (rule : Goods P → Type 0) (nodes : ℕ) (s : State (Option P) (View P)) (o : Lawful rule nodes s) where
  abbrev at : ℕ → Desk P
  at = desk s.words s.homes o.posted o.answered

  pub answer_waits : (j b : ℕ) (v : View P) (job : P) → get_elem? s.views j ≡ some v → v.stage ≡ Behind b (Some job) → status_at s.words v.number ≡ 3
      → (a : P) × (o.answered v.number ≡ some (job, a)) × Filled (get_elem? s.homes (2 + 2 * v.number)) a
  answer_waits j b v job there mine three =
      let n : ℕ = v.number in
      let live-now = live rule nodes s o j v there (λ z. behind-idle P b (Some job) (sym mine ∙ z)) in
      let note : Noted (Some job) (at n) = subst (λ (g : Stage P). Seated g (at n)) mine (o.seated j v there live-now) in
      ⊎_elim
      (λ (t : (i : ℕ) × (x : Waiter P) × ((get_elem? (whole o.owner o.older) i ≡ some x) ⊎ (get_elem? o.newer i ≡ some x)) × (x.0 ≡ n) × (x.1 ≡ b) × Seen x.1 x.2 (at n) × (kind x.2 ≡ 2)).
      absurd (omega (arith, three, seen-status t.1.1 t.1.2 (at n) t.5, t.6)))
      (⊎_elim
      (λ (t : (i : P) × Finished i (at n) × (kind (Some job) ≡ 2) × (0 < line_weight {P = P} (waits_at n b) o.done)).
      let f : Finished t.0 (at n) = t.1 in
      ⊎_elim (λ (z : (at n).posted ≡ some job). absurd (some-ne-none job (sym z ∙ f.3)))
      (λ (z : (a : P) × ((at n).answered ≡ some (job, a))).
      let same : job ≡ t.0 = ap (λ (y : P × P). y.0) (some-injective (job, z.0) (t.0, f.2.0) (sym z.1 ∙ f.2.2)) in
      (f.2.0, f.2.2 ∙ ap (λ (y : P). some (y, f.2.0)) (sym same), f.2.1)) note)
      (λ (t : (e : ℕ) × (i : Option P) × (o.owner ≡ granted n b i e) × (kind i ≡ 2)).
      absurd (let g : Held nodes s.words s.homes at o.older o.newer o.value (granted n b t.1 t.0) = subst (λ y. Held nodes s.words s.homes at o.older o.newer o.value y) t.2 o.held in omega (arith, g.1.0, three))))
      (place rule nodes s o j b v (Some job) there mine)

  pub answer_taken : (j : ℕ) (v : View P) (job a : P) → get_elem? s.views j ≡ some v → v.gone ≡ false → v.stage ≡ Done job a → o.answered v.number ≡ some (job, a)
  answer_taken j v job a there here mine = (subst (λ (g : Stage P). Seated g (at v.number)) mine (o.seated j v there here)).3

module _ {V J O X : Type 0} (rooms : V → ℕ) (means : V → J → Result O X → V → Type 0) (is_ready : J → Type 0) where
  pub answers_once : AnswersEachOnce rooms means is_ready
  answers_once o s l =
      let g : Goods (Parcel V J O X) = goods l.value l.posted l.answered (map part_of s.views) in let r : Ruled rooms means is_ready o g = l.goods_rule in
      let runs : Runs (Related rooms means) o.first.value r.history (Value r.now) = subst (Runs (Related rooms means) o.first.value r.history) r.is r.runs in
      let lists : (w : Parcel V J O X × Parcel V J O X → ℕ) → all_own w (map part_of s.views) ≡ total (λ v. total w v.own) s.views = λ w. total-map part_of (λ x. total w x.own) s.views in
      record {
        kept = r.now;
        history = r.history;
        runs = runs;
        once = history-once rooms means r.history o.first.value (Value r.now) r.first r.now r.began refl r.none_ran runs;
        waiting = l.answered;
        all = λ w. omega (arith, r.answers w, lists w);
        behind = λ j b v job there mine three. answer_waits (Ruled rooms means is_ready o) o.nodes s l j b v job there mine three;
        taken = λ j v job a there here mine. answer_taken (Ruled rooms means is_ready o) o.nodes s l j v job a there here mine;
      }
