-- What an owner that has just won the lock knows of the value, and what a close knows.
use Rattle.std.proofs.Common.{◌≡◌, ℕ, zero, suc, ◌+◌, ◌<◌, Result, Option, Some, None, List, [], ◌∷◌, ◌++◌, length, false, refl, sym, ap, ◌∙◌, subst, arith}
use mathlib.Core.Option.{some, none, some-ne-none, Option as Maybe}
use lib.ListN.{get_elem?}
use Rattle.atomic_table.specs.Table.{rest}
use Rattle.view_sums.specs.Sums.{total, term_le}
use Rattle.waiter_chain.specs.Goods.{Goods, Part, part, below, Runs, Counts}
use Rattle.waiter_chain.specs.Chains.{part_of, owed}
use Rattle.waiter_chain.proofs.Hands.{behind_one}
use Rattle.waiter_chain.specs.Steps.{SeatState, Sound, ownership, moved}
use Rattle.waiter_chain.specs.Calls.{Won}
use Rattle.waiter_chain.specs.declared.view.Opening.{Opening}
use Rattle.waiter_chain.specs.declared.view.View.{View}
use Rattle.waiter_chain.specs.declared.view.StepEntry.{StepEntry}
use Rattle.waiter_chain.specs.declared.view.Stage.TheVariants.{Owns}
use Rattle.waiter_chain.specs.declared.turn.Turn.{Turn}
use Rattle.combine_job.specs.declared.parcel.Kept.{Kept}
use Rattle.combine_job.specs.declared.parcel.Parcel.{Parcel}
use Rattle.combine_job.specs.declared.parcel.Parcel.TheVariants.{Value}
use Rattle.combine_job.specs.Parcels.{Related, Ruled, place, weight, kept_in}
use Rattle.combine_job.specs.Laws.{value-injective, runs-append}
use Rattle.combine_job.proofs.Positions.{history-once}
use Rattle.dist_mutex.specs.Owners.{Stands, Owning, LockedBy, Ends}

pub some_inside : {A : Type 0} (x y : A) → ◌≡◌ {A = Option A} (Some x) (Some y) → x ≡ y
some_inside x y e = cc

-- where no node has anything, the sum is 0
below-none : {A : Type 0} (w : Maybe A → ℕ) (f : ℕ → Maybe A) (n : ℕ) → w none ≡ 0 → ((k : ℕ) → k < n → f k ≡ none) → below w f n ≡ 0
below-none w f zero z h = refl
below-none w f (suc n) z h = omega (arith, below-none w f n z (λ k l. h k (omega arith)), ap w (h n (omega arith)), z)

module _ {P : Type 0} where
  longer : (xs : List P) (x : P) → length (xs ++ x ∷ []) ≡ length xs + 1
  longer [] x = omega arith
  longer (y ∷ ys) x = omega (arith, longer ys x)

  still_at : (xs ys : List P) (k : ℕ) (x : P) → get_elem? xs k ≡ some x → get_elem? (xs ++ ys) k ≡ some x
  still_at [] ys k x e = absurd (some-ne-none x (sym e))
  still_at (y ∷ xs) ys zero x e = e
  still_at (y ∷ xs) ys (suc k) x e = still_at xs ys k x e

-- one job more, which was not posted
counts_more : {P : Type 0} (m : Maybe P) (ran : List (P × P)) (x : P × P) (due now : ℕ) → now ≡ due + 1 → Counts m ran due → Counts m (ran ++ x ∷ []) now
counts_more none ran x due now more c = omega (arith, more, c, longer ran x)
counts_more (some j) ran x due now more c = (omega (arith, more, c.0, longer ran x), (c.1.0, c.1.1, still_at ran (x ∷ []) c.1.0 (j, c.1.1) c.1.2))

module _ {V J O X : Type 0} (rooms : V → ℕ) (means : V → J → Result O X → V → Type 0) (is_ready : J → Type 0) (o : Opening (Parcel V J O X)) where
  pub stands : (y : Parcel V J O X) (n q : ℕ) (own : List (Parcel V J O X × Parcel V J O X)) → Sound (Ruled rooms means is_ready o) y (part n q own) → (kept : Kept V) × (y ≡ Value kept) × Stands rooms means o own q kept
  stands y n q own s =
      let g : Goods (Parcel V J O X) = s.0 in let r : Ruled rooms means is_ready o g = s.1 in
      let runs : Runs (Related rooms means) o.first.value r.history (Value r.now) = subst (Runs (Related rooms means) o.first.value r.history) r.is r.runs in
      let enough = term_le (λ (x : Part (Parcel V J O X)). x.quota) g.parts s.3.0 (part n q own) s.3.1 in (
        r.now,
        sym s.2 ∙ r.is,
        record {
          history = r.history;
          runs = runs;
          once = history-once rooms means r.history o.first.value (Value r.now) r.first r.now r.began refl r.none_ran runs;
          mine = λ w. omega (arith, term_le (λ (x : Part (Parcel V J O X)). total w x.own) g.parts s.3.0 (part n q own) s.3.1, r.answers w);
          room = omega (arith, r.room, enough);
          count = omega (arith, r.paid, enough);
          small = r.small;
        },
      )

  pub locks : (slots : ℕ) (t : Turn) (m old n : SeatState (Parcel V J O X)) (e : StepEntry) (kept : Kept V) → (w : Won (Ruled rooms means is_ready o) slots t m e old)
      → w.0 ≡ Value kept → n ≡ (old.0, (0, None) ∷ []) → LockedBy rooms means o slots m n e t kept
  locks slots t m old n e kept w same now =
      let y : Parcel V J O X = w.0 in
      let s = stands y m.0.number m.0.quota m.0.own w.3 in
      let known : Stands rooms means o m.0.own m.0.quota kept = subst (Stands rooms means o m.0.own m.0.quota) (value-injective {J = J} {O = O} {X = X} s.0 kept (sym s.1 ∙ same)) s.2 in
      let view : old.0 ≡ moved m.0 (Owns (ownership t.first t.end t.mark false (Value kept))) e = ap (λ (x : SeatState (Parcel V J O X)). x.0) w.1 ∙ ap (λ (z : Parcel V J O X). moved m.0 (Owns (ownership t.first t.end t.mark false z)) e) same in
      let state : n ≡ (moved m.0 (Owns (ownership t.first t.end t.mark false (Value kept))) e, (0, None) ∷ []) = now ∙ ap (λ (v : View (Parcel V J O X)). (v, (0, None) ∷ [])) view in
      let quota : n.0.quota ≡ m.0.quota = ap (λ (x : SeatState (Parcel V J O X)). x.0.quota) state in (
        state,
        known,
        record {
          notes = ownership t.first t.end t.mark false (Value kept);
          owns = (
            ap (λ (x : SeatState (Parcel V J O X)). x.0.stage) state,
            refl,
            refl,
            refl,
            behind_one (0, None) [] n.1 (ap (λ (x : SeatState (Parcel V J O X)). x.1) state),
            w.2,
            (refl, ap (λ (x : SeatState (Parcel V J O X)). rest x.1) state),
          );
          runs = refl;
          paid = refl;
          room = omega (arith, known.room, quota);
          count = omega (arith, known.count, known.small, quota);
          small = omega (arith, known.count, known.small, quota);
        },
      )

  -- one job more
  pub owns_more : (slots : ℕ) (m : SeatState (Parcel V J O X)) (due now : ℕ) (ran : List (Parcel V J O X × Parcel V J O X)) (t : Turn) (kept later : Kept V) (job answer : Parcel V J O X) → now ≡ due + 1
      → Owning rooms means slots m due ran t kept → Related rooms means (Value kept) job answer (Value later) → Owning rooms means slots m now (ran ++ (job, answer) ∷ []) t later
  owns_more slots m due now ran t kept later job answer more w r =
      let k = value-injective {J = J} {O = O} {X = X} kept r.0 r.4 in let l = value-injective {J = J} {O = O} {X = X} later r.1 r.5 in record {
        notes = w.notes;
        owns = w.owns;
        runs = runs-append (Related rooms means) ran ((job, answer) ∷ []) w.notes.value (Value kept) (Value later) w.runs (Value later, r, refl);
        paid = counts_more (owed w.notes.mine) ran (job, answer) due now more w.paid;
        room = omega (arith, w.room, more, r.11, ap (λ (z : Kept V). rooms z.value) k, ap (λ (z : Kept V). rooms z.value) l);
        count = omega (arith, w.count, more, r.9, ap (λ (z : Kept V). z.ran) k, ap (λ (z : Kept V). z.ran) l);
        small = w.small;
      }

  -- where no other pass has anything left, the closing pass's answers are those of the history
  pub all_answers : (v : View (Parcel V J O X)) (g : Goods (Parcel V J O X)) → Ruled rooms means is_ready o g → ((n : ℕ) → n < o.nodes → g.answered n ≡ none)
      → ((w : Part (Parcel V J O X) → ℕ) → w (part 0 0 []) ≡ 0 → total w g.parts ≡ w (part_of v)) → Ends rooms means o v.own (kept_in g.value)
  all_answers v g r no-answer alone =
      let runs : Runs (Related rooms means) o.first.value r.history (Value r.now) = subst (Runs (Related rooms means) o.first.value r.history) r.is r.runs in
      let same : (w : Parcel V J O X × Parcel V J O X → ℕ) → total w v.own ≡ total w r.history = λ w. omega (arith, alone (λ (x : Part (Parcel V J O X)). total w x.own) refl, r.answers w, below-none (weight w) g.answered o.nodes refl no-answer) in
      (r.now, r.history, ap kept_in r.is, runs, same, λ p. same (λ x. place p x.1) ∙ history-once rooms means r.history o.first.value (Value r.now) r.first r.now r.began refl r.none_ran runs p)
