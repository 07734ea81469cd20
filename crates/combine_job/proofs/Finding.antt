-- An owner that finds a job of the next node, runs it, and has the value in its hand afterwards.
use Rattle.std.proofs.Common.{◌≡◌, ◌≢◌, ℕ, ◌+◌, ◌-◌, ◌*◌, ◌<◌, ◌≤◌, Result, List, [], ◌∷◌, ◌++◌, Option, Some, None, refl, sym, ap, ◌∙◌, subst, arith}
use Rattle.atomic_table.specs.Table.{rest}
use Rattle.waiter_chain.specs.Goods.{Goods, part, Runs, Counts}
use Rattle.waiter_chain.specs.Chains.{owed}
use Rattle.waiter_chain.specs.Steps.{SeatState, seen_job, with_next, run_slot, settled_notes, served}
use Rattle.waiter_chain.specs.Calls.{HasTurn, KindSeen, LinkSeen, MayEnd}
use Rattle.waiter_chain.specs.declared.view.Opening.{Opening}
use Rattle.waiter_chain.specs.declared.view.Ownership.{Ownership}
use Rattle.waiter_chain.specs.declared.view.OwnSlot.{OwnSlot}
use Rattle.waiter_chain.specs.declared.view.OwnSlot.TheVariants.{Unused, InHand, Unrun}
use Rattle.waiter_chain.specs.declared.turn.Turn.{Turn}
use Rattle.waiter_chain.specs.declared.turn.Kind.{Kind}
use Rattle.waiter_chain.specs.declared.turn.Kind.TheVariants as kind
use Rattle.waiter_chain.proofs.Rules.{owns-injective}
use Rattle.waiter_chain.proofs.Passes.{owns_at}
use Rattle.waiter_chain.proofs.Turns.{same_first}
use Rattle.waiter_chain.proofs.Hands.{owner_put}
use Rattle.combine_job.specs.declared.parcel.Kept.{Kept}
use Rattle.combine_job.specs.declared.parcel.Parcel.{Parcel}
use Rattle.combine_job.specs.declared.parcel.Parcel.TheVariants.{Value}
use Rattle.combine_job.specs.Parcels.{Related, Ruled}
use Rattle.combine_job.specs.Combining.{MayRun, RanNext, HasJob, HasValue}
use Rattle.combine_job.proofs.Rooms.{may_run_one}
use Rattle.combine_job.proofs.Posting.{inside, full}

module _ {P : Type 0} where
  -- an owner that loaded the next node's status may end its ownership as before
  pub seen_ends : (relates : P → P → P → P → Type 0) (count : ℕ) (ran : List (P × P)) (x : ℕ) (m n : SeatState P) (r : Kind) → MayEnd relates count ran m → KindSeen x m n r → MayEnd relates count ran n
  seen_ends relates count ran x m n kind.Plain e k = subst (MayEnd relates count ran) (sym k) e
  seen_ends relates count ran x m n kind.WithJob e k =
      let same : e.0 ≡ k.0 = owns-injective e.0 k.0 (sym e.2 ∙ k.1) in
      subst (MayEnd relates count ran) (sym k.2) (seen_job k.0, e.1, refl, e.3, e.4, subst (λ (z : Ownership P). Counts (owed z.mine) ran count) same e.5, subst (λ (z : Ownership P). Runs relates z.value ran e.1) same e.6)

  pub found : (relates : P → P → P → P → Type 0) (rule : Goods P → Type 0) (slots count : ℕ) (ran : List (P × P)) (t : Turn) (m n : SeatState P) (link : ℕ) → HasTurn slots t m → MayEnd relates count ran m → t.first ≢ t.end → link ≢ 0 → LinkSeen rule (t.first - 2) m n link → HasJob relates rule slots count ran t link n
  found relates rule slots count ran t m n link h e waits ne s =
      let x : ℕ = t.first - 2 in let f = s.1 ne in let k : Ownership P = f.0 in
      let o = owns_at slots t h.0 m k h.1 f.3 h.2 in let b = o.5.1 waits in
      let same : e.0 ≡ k = owns-injective e.0 k (sym e.2 ∙ f.3) in
      subst (HasJob relates rule slots count ran t link) (sym f.4) (record {
        notes = with_next k x link f.1;
        job = f.1;
        answer = f.2;
        own = rest m.1;
        now = e.1;
        owns = refl;
        turn = (o.1, o.2, o.3);
        next = refl;
        mine = o.6.1;
        apart = f.5;
        hand = ap (λ (c : List (ℕ × Option P)). c ++ (2 + 2 * x, f.2) ∷ (1 + 2 * x, Some f.1) ∷ []) e.3;
        low = (b.0, b.1);
        runs = subst (λ (z : Ownership P). Runs relates z.value ran e.1) same e.6;
        enough = e.4;
        paid = subst (λ (z : Ownership P). Counts (owed z.mine) ran count) same e.5;
        sound = f.6;
      })

  none_owed : (y : OwnSlot P) → Counts (owed (run_slot y)) [] 0
  none_owed Unused = refl
  none_owed InHand = refl
  none_owed (Unrun j) = refl

module _ {V J O X : Type 0} (rooms : V → ℕ) (means : V → J → Result O X → V → Type 0) where
  pub may_run : (is_ready : J → Type 0) (o : Opening (Parcel V J O X)) (slots count : ℕ) (ran : List (Parcel V J O X × Parcel V J O X)) (t : Turn) (link : ℕ) (kept : Kept V) (m n : SeatState (Parcel V J O X)) → (d : HasJob (Related rooms means) (Ruled rooms means is_ready o) slots count ran t link m)
      → slots ≡ 1 + 2 * o.nodes → m.0.number < o.nodes → d.now ≡ Value kept
      → n ≡ (m.0, full None d.own (t.first - 2) d.answer (Some d.job)) → MayRun rooms means is_ready slots count ran t link kept n × (1 ≤ rooms kept.value) × (kept.ran + 1 < 18446744073709551616)
  may_run is_ready o slots count ran t link kept m n d sized low is e =
      let x : ℕ = t.first - 2 in
      let runs : Runs (Related rooms means) d.notes.value ran (Value kept) = subst (Runs (Related rooms means) d.notes.value ran) is d.runs in
      let r = may_run_one rooms means is_ready o d.notes.value d.job (part m.0.number m.0.quota m.0.own) x count (owed d.notes.mine) ran kept d.sound (omega (arith, d.low.0, d.low.1, sized)) low d.apart runs d.paid d.enough in (
        subst (MayRun rooms means is_ready slots count ran t link kept) (sym e) (
          d.notes,
          r.0,
          d.answer,
          d.own,
          d.owns,
          d.turn.0,
          d.turn.1,
          d.turn.2,
          d.next ∙ (λ i. Some (record { node = x; behind = link; job = r.1 i })),
          d.mine,
          d.apart,
          (λ i. (0, None) ∷ (d.own ++ (2 + 2 * x, d.answer) ∷ (1 + 2 * x, Some (r.1 i)) ∷ [])),
          d.low.0,
          d.low.1,
          runs,
          d.enough,
          d.paid,
          r.2,
        ),
        r.3,
        r.4,
      )

  pub has_value : (slots count : ℕ) (ran : List (Parcel V J O X × Parcel V J O X)) (t : Turn) (link : ℕ) (kept : Kept V) (m n : SeatState (Parcel V J O X)) (u : Turn) (later : Kept V) → RanNext rooms means slots count ran t link kept m n u later → HasValue slots u later n
  has_value slots count ran t link kept m n u later r =
      let s : SeatState (Parcel V J O X) = r.3 in let w = r.6 in let a = w.4 in
      let k : Ownership (Parcel V J O X) = served (settled_notes a.0 a.1) link a.1 in
      let o = owns_at slots u w.3.0 s k w.3.1 (ap (λ (z : SeatState (Parcel V J O X)). z.0.stage) a.7) w.3.2 in
      let now : a.1 ≡ Value later = inside a.1 (Value later) (same_first 0 0 (Some a.1) (Some (Value later)) _ _ (sym (ap (λ (z : SeatState (Parcel V J O X)). z.1) a.7) ∙ r.7)) in
      (k, owner_put slots u w.3.0 None s n k o r.8, now, none_owed a.0.mine)
