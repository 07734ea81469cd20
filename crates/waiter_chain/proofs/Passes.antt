-- What contracts say of an owner, from what the steps tell.
use Rattle.std.proofs.Common.{◌≡◌, ◌≢◌, ℕ, ◌+◌, ◌-◌, ◌*◌, List, [], ◌∷◌, ◌++◌, Option, Some, None, Bool, true, false, refl, sym, ap, ◌∙◌, subst, inr, ⊎_elim, append_assoc}
use mathlib.Core.Option.{none}
use Rattle.atomic_table.specs.Table.{step, rest}
use Rattle.waiter_chain.specs.declared.view.Next.{Next}
use Rattle.waiter_chain.specs.declared.view.OwnSlot.{OwnSlot}
use Rattle.waiter_chain.specs.declared.view.OwnSlot.TheVariants.{Unused, InHand, Unrun}
use Rattle.waiter_chain.specs.declared.view.Ownership.{Ownership}
use Rattle.waiter_chain.specs.declared.view.StepEntry.{StepEntry}
use Rattle.waiter_chain.specs.declared.view.Stage.TheVariants.{Cleared, Ready, Owns}
use Rattle.waiter_chain.specs.Steps.{SeatState, SoundNext, Wins, Ranged, OwnHand, ownership, ownership_with, passed, retook, with_next, run_slot, settled_notes, settled, served, with_steps, paid, moved, stays, entry, posting, link_seen, job_done}
use Rattle.waiter_chain.specs.Goods.{Goods, part}
use Rattle.waiter_chain.specs.Chains.{entering, owed}
use Rattle.waiter_chain.specs.Calls.{Won, WonWith, OwnsBy, SawOthers, TookAs, FollowsAs, WaitsBehind, readied_state, EnteredAs, LinkSeen, MayServe, Served}
use Rattle.waiter_chain.specs.declared.turn.Turn.{Turn}
use Rattle.waiter_chain.specs.declared.turn.Kind.{Kind}
use Rattle.waiter_chain.specs.declared.turn.Kind.TheVariants as kind
use Rattle.waiter_chain.specs.declared.turn.Entered.TheVariants as entered
use Rattle.waiter_chain.specs.declared.turn.Follow.{Follow}
use Rattle.waiter_chain.specs.declared.turn.Follow.TheVariants as follow
use Rattle.waiter_chain.specs.declared.view.StepKind.TheVariants.{TakeChain, StoreLink, SetStatus, SwapIn, LoadLink, Serve}
use Rattle.waiter_chain.specs.Hands.{turned_by}
use Rattle.waiter_chain.proofs.Rules.{owns-injective}
use Rattle.waiter_chain.proofs.Turns.{same_first}

module _ {P : Type 0} where
  pub wins_won : (rule : Goods P → Type 0) (slots : ℕ) (t : Turn) (e : StepEntry) (m n : SeatState P) → m.1 ≡ [] → Ranged slots t.first t.end → Wins rule m t.first t.end t.mark e n → Won rule slots t m e n
  wins_won rule slots t e m n empty ranged w = (w.0, w.1 ∙ ap (λ (l : List (ℕ × Option P)). (moved m.0 (Owns (ownership t.first t.end t.mark false w.0)) e, (0, Some w.0) ∷ l)) empty, ranged, w.2)

  -- the facts of a turn, at the notes that the view is known to have
  pub owns_at : (slots : ℕ) (t : Turn) (hand : Option P) (m : SeatState P) (k l : Ownership P) → m.0.stage ≡ Owns k → OwnsBy slots t hand m l → OwnsBy slots t hand m k
  owns_at slots t hand m k l mine o = subst (OwnsBy slots t hand m) (owns-injective l k (sym o.0 ∙ mine)) o

  -- what is left as it was where the owner saw that others came
  pub saw : (m n : SeatState P) (k : Ownership P) → SawOthers m n k → (n.0.stage ≡ Owns (passed k)) × (n.1 ≡ m.1) × (n.0.number ≡ m.0.number)
  saw m n k = ⊎_elim
      (λ e. (ap (λ (x : SeatState P). x.0.stage) e, ap (λ (x : SeatState P). x.1) e, ap (λ (x : SeatState P). x.0.number) e))
      (λ t. (ap (λ (x : SeatState P). x.0.stage) t.2, ap (λ (x : SeatState P). x.1) t.2, ap (λ (x : SeatState P). x.0.number) t.2))

  -- and it has the turn still
  pub saw_turn : (slots : ℕ) (t : Turn) (hand : Option P) (m l : SeatState P) (k : Ownership P) → SawOthers m l k → OwnsBy slots t hand m k → OwnsBy slots t hand l (passed k)
  saw_turn slots t hand m l k others a = let s = saw m l k others in
      (s.0, a.1, a.2, a.3, s.1 ∙ a.4 ∙ (λ i. (0, hand) ∷ rest (sym s.1 i)), a.5, (a.6.0, subst (λ (y : ℕ × List (ℕ × Option P)). OwnHand k.mine y.0 y.1) (λ i. (sym s.2 i, rest (sym s.1 i))) a.6.1))

  pub follows : (slots count : ℕ) (ran : List (P × P)) (old : Turn) (m l n : SeatState P) (k : Ownership P) (f : Follow) → old.first ≡ old.end → m.0.stage ≡ Owns k → k.mark ≡ old.mark → SawOthers m l k → TookAs slots old.mark l n f → FollowsAs slots count ran old m n f
  follows slots count ran old m l n k follow.Free empty mine mark others w = absurd w
  follows slots count ran old m l n k (follow.Waits t node) empty mine mark others w =
      let s = saw m l k others in let e = owns-injective w.5.0 (passed k) (sym w.5.1 ∙ s.0) in let took : retook w.5.0 t.first ≡ retook k t.first = ap (λ (x : Ownership P). retook x t.first) e in (
        w.0,
        w.1,
        w.2,
        inr (
          empty,
          (
            k,
            mine,
            (
              w.3 ∙ sym mark,
              w.4,
              (
                l,
                others,
                w.5.2 ∙ (λ i. (moved l.0 (Owns (took i)) record { number = s.2 i; kind = TakeChain; place = 0; word = t.first }, s.1 i)),
              ),
            ),
          ),
        ),
      )

  -- the two stores of a pass that is to enter
  pub readied_told : (b : Bool) (p q kind : ℕ) (m l n : SeatState P) → p ≡ 2 + 2 * m.0.number → q ≡ 1 + 2 * m.0.number → kind ≡ entering b
      → l ≡ (moved m.0 (Cleared b) (entry m.0 StoreLink p 0), m.1) → n ≡ (moved l.0 (Ready b) (entry l.0 SetStatus q kind), l.1) → n ≡ readied_state b m
  readied_told b p q kind m l n a c e h i = i ∙ ap (λ (z : SeatState P). (moved z.0 (Ready b) (entry z.0 SetStatus q kind), z.1)) h
      ∙ (λ t. (moved (moved m.0 (Cleared b) (entry m.0 StoreLink (a t) 0)) (Ready b) (entry m.0 SetStatus (c t) (e t)), m.1))

  -- who entered and is behind another waits
  pub entered_behind : (rule : Goods P → Type 0) (slots : ℕ) (k : Kind) (b : ℕ) (m n : SeatState P) → EnteredAs rule slots k b m n entered.Behind → WaitsBehind b n
  entered_behind rule slots kind.Plain b m n h = (None, ap (λ (x : SeatState P). x.0.stage) h.1, ap (λ (x : SeatState P). x.1) h.1)
  entered_behind rule slots kind.WithJob b m n h = (Some h.1.0, ap (λ (x : SeatState P). x.0.stage) h.1.2, ap (λ (x : SeatState P). x.1) h.1.2)

  -- the swap of a pass that posts a job
  pub posted_wins : (known : Goods P → Type 0) (slots place r : ℕ) (t : Turn) (m l n : SeatState P) (job : P) → l ≡ readied_state true m → m.1 ≡ (1 + 2 * m.0.number, Some job) ∷ [] → r ≡ 0 → t.first ≡ place → Ranged slots t.first t.end
      → posting known (step slots 0 place 0 none) l r n → WonWith known slots t (readied_state true m) (entry m.0 SwapIn 0 0) n
  posted_wins known slots place r t m l n job is hand zero-found first ranged p =
      let a : SeatState P = readied_state true m in
      let f = (subst (λ (x : SeatState P). posting known (step slots 0 place 0 none) x r n) is p job hand).0 zero-found in
      (f.0, job, hand, f.1 ∙ (λ i. (paid a.0 (a.0.quota - 1) (Owns (ownership_with (sym first i) job f.0)) (entry a.0 SwapIn 0 (zero-found i)), (0, Some f.0) ∷ a.1)), ranged, f.2)

  pub posted_waits : (known : Goods P → Type 0) (slots place r : ℕ) (m l n : SeatState P) (job : P) → l ≡ readied_state true m → m.1 ≡ (1 + 2 * m.0.number, Some job) ∷ [] → r ≢ 0
      → posting known (step slots 0 place 0 none) l r n → EnteredAs known slots kind.WithJob r m n entered.Behind
  posted_waits known slots place r m l n job is hand some-found p = (some-found, (job, hand, (subst (λ (x : SeatState P). posting known (step slots 0 place 0 none) x r n) is p job hand).1 some-found))

  -- what a load of the next node's link tells, by the turn; where it isn't 0, the two slots have then gone behind the others
  pub link_told : (known : Goods P → Type 0) (slots : ℕ) (t : Turn) (hand : Option P) (m l n : SeatState P) (k : Ownership P) (r place : ℕ) → place ≡ 2 + 2 * (t.first - 2) → m.0.stage ≡ Owns k → OwnsBy slots t hand m k → link_seen known (step slots place 0 0 none) m r l
      → (r ≡ 0 → n ≡ l) → (r ≢ 0 → n ≡ (l.0, turned_by 2 l.1)) → LinkSeen known (t.first - 2) m n r
  link_told known slots t hand m l n k r place is mine o s stays-there turns =
      let a = owns_at slots t hand m s.0 k s.1 o in let first : s.0.first - 2 ≡ t.first - 2 = ap (λ (x : ℕ). x - 2) a.1 in (
        (λ z. stays-there z ∙ s.2 z ∙ ap (λ (x : ℕ). stays m (entry m.0 LoadLink x r)) is),
        λ ne. (
            let f = s.3 ne in let x : ℕ = t.first - 2 in
            let seen : l ≡ (moved m.0 (Owns (with_next s.0 x r f.0)) (entry m.0 LoadLink (2 + 2 * x) r), (2 + 2 * x, f.1) ∷ (1 + 2 * x, Some f.0) ∷ m.1) =
            f.2 ∙ (λ i. (moved m.0 (Owns (with_next s.0 (first i) r f.0)) (entry m.0 LoadLink (is i) r), (2 + 2 * first i, f.1) ∷ (1 + 2 * first i, Some f.0) ∷ m.1)) in (
              s.0,
              f.0,
              f.1,
              s.1,
              turns ne ∙ (λ i. ((seen i).0, turned_by 2 (seen i).1)) ∙ (λ i. (moved m.0 (Owns (with_next s.0 x r f.0)) (entry m.0 LoadLink (2 + 2 * x) r), append_assoc m.1 ((2 + 2 * x, f.1) ∷ []) ((1 + 2 * x, Some f.0) ∷ []) i)),
              (λ z. f.3 (z ∙ sym first)),
              subst (λ (x : ℕ). SoundNext known s.0.value (part m.0.number m.0.quota m.0.own) x f.0 (owed s.0.mine)) first f.4,
            )
            ),
      )

  -- a job slot in hand stays there as the own jobs are settled
  own_run : (y : OwnSlot P) (n : ℕ) (c : List (ℕ × Option P)) → OwnHand y n c → OwnHand (run_slot y) n c
  own_run Unused n c h = h
  own_run InHand n c h = h
  own_run (Unrun j) n c h = h

  -- the two slots of the next node, behind the owner's own, come to the front
  pub come_first : (y : OwnSlot P) (n : ℕ) (own : List (ℕ × Option P)) (v a j : ℕ × Option P) → OwnHand y n own → turned_by 10 (v ∷ (own ++ a ∷ j ∷ [])) ≡ a ∷ j ∷ v ∷ own
  come_first Unused n own v a j h = ap (λ (c : List (ℕ × Option P)). turned_by 10 (v ∷ (c ++ a ∷ j ∷ []))) h ∙ (λ i. a ∷ j ∷ v ∷ sym h i)
  come_first InHand n own v a j h = ap (λ (c : List (ℕ × Option P)). turned_by 10 (v ∷ (c ++ a ∷ j ∷ []))) h.1 ∙ (λ i. a ∷ j ∷ v ∷ sym h.1 i)
  come_first (Unrun i) n own v a j h = ap (λ (c : List (ℕ × Option P)). turned_by 10 (v ∷ (c ++ a ∷ j ∷ []))) h.1 ∙ (λ i. a ∷ j ∷ v ∷ sym h.1 i)

  -- what the store of 3 tells, by the turn, after those slots have come to the front
  pub served_told : (relates : P → P → P → P → Type 0) (slots count : ℕ) (ran : List (P × P)) (t u : Turn) (link place : ℕ) (m l n : SeatState P) → place ≡ 1 + 2 * (t.first - 2) → u.first ≡ link → u.end ≡ t.end → u.mark ≡ t.mark
      → MayServe relates slots count ran t link m → l ≡ (m.0, turned_by 10 m.1) → job_done count ran (step slots place 3 0 none) l 3 n → Served slots count ran t link m n u
  served_told relates slots count ran t u link place m l n is first end mark e turns told =
      let x : ℕ = t.first - 2 in let own : List (ℕ × Option P) = e.6 in
      let brought : l ≡ (m.0, (2 + 2 * x, Some e.2) ∷ (1 + 2 * x, e.5) ∷ (0, Some e.4) ∷ own) = turns ∙ (λ i. (m.0, (ap (turned_by 10) e.13 ∙ come_first e.0.mine m.0.number own (0, Some e.4) (2 + 2 * x, Some e.2) (1 + 2 * x, e.5) e.12) i)) in
      let s = subst (λ (z : SeatState P). job_done count ran (step slots place 3 0 none) z 3 n) brought told in
      let k : Ownership P = s.0 in let y : Next P = s.1 in let same : e.0 ≡ k = owns-injective e.0 k (sym e.7 ∙ s.4) in
      let behind : y.behind ≡ link = ap (λ (z : Option (Next P)). behind_in z link) (sym s.5 ∙ sym (ap (λ (z : Ownership P). z.next) same) ∙ e.11) in
      let left : s.3 ≡ own = sym (ap (λ (c : List (ℕ × Option P)). rest c) s.6) in
      let now : s.2 ≡ e.4 = some-injective (same_first 0 0 (Some s.2) (Some e.4) s.3 own (sym s.6)) in
      let state : n ≡ (with_steps (settled m.0 (m.0.quota - count) ran (settled_notes k e.4)) (Owns (served (settled_notes k e.4) link e.4)) (m.0.steps ++ entry m.0 Serve (1 + 2 * x) 3 ∷ []), (0, Some e.4) ∷ own) =
      s.8 ∙ (λ i. (with_steps (settled m.0 (m.0.quota - count) ran (settled_notes k (now i))) (Owns (served (settled_notes k (now i)) (behind i) (now i))) (m.0.steps ++ entry m.0 Serve (is i) 3 ∷ []), (0, Some (now i)) ∷ left i)) in
      let kend : k.end ≡ t.end = ap (λ (z : Ownership P). z.end) (sym same) ∙ e.9 in let kmark : k.mark ≡ t.mark = ap (λ (z : Ownership P). z.mark) (sym same) ∙ e.10 in
      let kept : OwnHand (run_slot k.mine) m.0.number own = own_run k.mine m.0.number own (subst (λ (z : Ownership P). OwnHand z.mine m.0.number own) same e.12) in
      let number : n.0.number ≡ m.0.number = ap (λ (z : SeatState P). z.0.number) state in let hand = ap (λ (z : SeatState P). z.1) state in (
        first,
        end,
        mark,
        (
          Some e.4,
          served (settled_notes k e.4) link e.4,
          (
            ap (λ (z : SeatState P). z.0.stage) state,
            sym first,
            kend ∙ sym end,
            kmark ∙ sym mark,
            hand ∙ (λ i. (0, Some e.4) ∷ rest (sym hand i)),
            subst (λ (z : ℕ × ℕ). Ranged slots z.0 z.1) (λ i. ((behind ∙ sym first) i, (kend ∙ sym end) i)) s.7,
            (refl, subst (λ (z : ℕ × List (ℕ × Option P)). OwnHand (run_slot k.mine) z.0 z.1) (λ i. (sym number i, rest (sym hand i))) kept),
          ),
        ),
        (k, e.4, e.2, e.5, own, s.4, e.13, state),
      )
    where
      behind_in : Option (Next P) → ℕ → ℕ
      behind_in None d = d
      behind_in (Some z) d = z.behind

      some-injective : {x y : P} → ◌≡◌ {A = Option P} (Some x) (Some y) → x ≡ y
      some-injective e = cc
