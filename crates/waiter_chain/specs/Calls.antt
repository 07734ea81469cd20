-- What the calls on a chain promise.
use Rattle.std.specs.Prelude.{◌≡◌, ◌≢◌, ◌⊎◌, ℕ, ◌+◌, ◌-◌, ◌*◌, ◌<◌, ◌≤◌, List, [], ◌∷◌, ◌++◌, Option, Some, None, Bool, true, false}
use Rattle.atomic_table.specs.Table.{rest}
use Rattle.waiter_chain.specs.Goods.{Goods, part, Runs, Counts}
use Rattle.waiter_chain.specs.Steps.{SeatState, Ranged, OwnHand, HasOwn, Sound, SoundJob, SoundNext, SoundAnswer, WinsBack, ownership, ownership_with, passed, retook, seen_job, with_next, settled_notes, served, settled, collected, paid, linked_by, with_steps, entry, moved, noted, stays, ended}
use Rattle.waiter_chain.specs.Chains.{entering, owed, kind as status_of}
use Rattle.waiter_chain.specs.declared.turn.Kind.{Kind}
use Rattle.waiter_chain.specs.declared.turn.Kind.TheVariants as kind
use Rattle.waiter_chain.specs.declared.view.StepEntry.{StepEntry}
use Rattle.waiter_chain.specs.declared.view.StepKind.TheVariants.{SetStatus, SwapIn, TryIn, LoadStatus, Free, TakeChain, StoreLink, LoadKind, LoadLink, Serve}
use Rattle.waiter_chain.specs.declared.view.Ownership.{Ownership}
use Rattle.waiter_chain.specs.declared.view.Stage.TheVariants.{Idle, Holding, Cleared, Ready, Behind, Owns, Done}
use Rattle.waiter_chain.specs.declared.turn.Turn.{Turn}
use Rattle.waiter_chain.specs.declared.turn.DistBusy.{DistBusy}
use Rattle.waiter_chain.specs.declared.turn.Entered.{Entered}
use Rattle.waiter_chain.specs.declared.turn.Entered.TheVariants as entered
use Rattle.waiter_chain.specs.declared.turn.Arrived.{Arrived}
use Rattle.waiter_chain.specs.declared.turn.Arrived.TheVariants as arrived
use Rattle.waiter_chain.specs.declared.turn.Polled.{Polled}
use Rattle.waiter_chain.specs.declared.turn.Polled.TheVariants as polled
use Rattle.waiter_chain.specs.declared.turn.Follow.{Follow}
use Rattle.waiter_chain.specs.declared.turn.Follow.TheVariants as follow

module _ {P : Type 0} where
  -- the pass is idle, with no slot in hand
  abbrev pub IsIdle : SeatState P → Type 0
  IsIdle m = (m.0.stage ≡ Idle) × (m.1 ≡ [])

  -- the pass waits behind the word b
  abbrev pub IsBehind : ℕ → SeatState P → Type 0
  IsBehind b m = (m.0.stage ≡ Behind b None) × (m.1 ≡ [])

  -- the pass waits behind the word b, with a job or without one
  abbrev pub WaitsBehind : ℕ → SeatState P → Type 0
  WaitsBehind b m = (h : Option P) × (m.0.stage ≡ Behind b h) × (m.1 ≡ [])

  -- it has stored that word in its link
  abbrev pub linked_state : ℕ → SeatState P → SeatState P
  linked_state b m = (linked_by m.0 (entry m.0 StoreLink (2 + 2 * m.0.number) b), m.1)

  -- the pass owns the lock by this turn, as these notes say, with this in slot 0, and with its own job slot in hand or not
  abbrev pub OwnsBy : ℕ → Turn → Option P → SeatState P → Ownership P → Type 0
  OwnsBy slots t hand m k = (m.0.stage ≡ Owns k) × (k.first ≡ t.first) × (k.end ≡ t.end) × (k.mark ≡ t.mark) × (m.1 ≡ (0, hand) ∷ rest m.1) × Ranged slots t.first t.end × HasOwn m k

  abbrev pub HasTurn : ℕ → Turn → SeatState P → Type 0
  HasTurn slots t m = (hand : Option P) × (k : Ownership P) × OwnsBy slots t hand m k

  -- by the step e the pass has become the owner: the value is in its hand, and the freight's rule holds of it
  abbrev pub Won : (Goods P → Type 0) → ℕ → Turn → SeatState P → StepEntry → SeatState P → Type 0
  Won rule slots t m e n = (y : P) × (n ≡ (moved m.0 (Owns (ownership t.first t.end t.mark false y)) e, (0, Some y) ∷ [])) × Ranged slots t.first t.end × Sound rule y (part m.0.number m.0.quota m.0.own)

  -- one exchange found 0: the turn's chain is empty
  abbrev pub TriedIn : (Goods P → Type 0) → ℕ → SeatState P → SeatState P → Turn → Type 0
  TriedIn rule slots m n t = Won rule slots t m (entry m.0 TryIn 0 0) n × (t.first ≡ 1) × (t.end ≡ 1) × (t.mark ≡ 1)

  -- one exchange found another word, and nothing changed but the list of steps
  abbrev pub WasBusy : SeatState P → SeatState P → DistBusy → Type 0
  WasBusy m n b = (b.word ≢ 0) × (n ≡ stays m (entry m.0 TryIn 0 b.word))

  -- a pass that may enter so: with a job it has the job in its own slot, and may still pay for one
  abbrev pub MayEnter : (P → Type 0) → Kind → SeatState P → Type 0
  MayEnter is_job kind.Plain m = IsIdle m
  MayEnter is_job kind.WithJob m = (m.0.stage ≡ Holding) × ((job : P) × (m.1 ≡ (1 + 2 * m.0.number, Some job) ∷ []) × is_job job) × (1 ≤ m.0.quota)

  -- the pass has stored 0 in its own link, and how it enters in its own status
  abbrev pub readied_state : Bool → SeatState P → SeatState P
  readied_state b m = (moved (moved m.0 (Cleared b) (entry m.0 StoreLink (2 + 2 * m.0.number) 0)) (Ready b) (entry m.0 SetStatus (1 + 2 * m.0.number) (entering b)), m.1)

  -- by the step e the pass has posted a job and become the owner: its job is in its own slot, the value is in its hand, and the freight's rule holds of both
  abbrev pub WonWith : (Goods P → Type 0) → ℕ → Turn → SeatState P → StepEntry → SeatState P → Type 0
  WonWith rule slots t m e n = (y : P) × (job : P) × (m.1 ≡ (1 + 2 * m.0.number, Some job) ∷ []) × (n ≡ (paid m.0 (m.0.quota - 1) (Owns (ownership_with t.first job y)) e, (0, Some y) ∷ m.1)) × Ranged slots t.first t.end × SoundJob rule y (part m.0.number (m.0.quota - 1) m.0.own) m.0.number job

  -- and has then swapped itself in: the owner found 0, and who is behind another found that word
  abbrev pub EnteredAs : (Goods P → Type 0) → ℕ → Kind → ℕ → SeatState P → SeatState P → Entered → Type 0
  EnteredAs rule slots kind.Plain b m n (entered.Owner t) = Won rule slots t (readied_state false m) (entry m.0 SwapIn 0 0) n × (t.first ≡ m.0.number + 2) × (t.end ≡ m.0.number + 2) × (t.mark ≡ m.0.number + 2)
  EnteredAs rule slots kind.Plain b m n entered.Behind = (b ≢ 0) × (n ≡ (moved (readied_state false m).0 (Behind b None) (entry m.0 SwapIn 0 b), []))
  EnteredAs rule slots kind.WithJob b m n (entered.Owner t) = WonWith rule slots t (readied_state true m) (entry m.0 SwapIn 0 0) n × (t.first ≡ m.0.number + 2) × (t.end ≡ m.0.number + 2) × (t.mark ≡ m.0.number + 2)
  EnteredAs rule slots kind.WithJob b m n entered.Behind = (b ≢ 0) × ((job : P) × (m.1 ≡ (1 + 2 * m.0.number, Some job) ∷ []) × (n ≡ (paid (readied_state true m).0 (m.0.quota - 1) (Behind b (Some job)) (entry m.0 SwapIn 0 b), [])))

  -- the same, and where it is behind it has then stored that word in its link
  abbrev pub ArrivedAs : (Goods P → Type 0) → ℕ → Kind → ℕ → SeatState P → SeatState P → Arrived → Type 0
  ArrivedAs rule slots k b m n (arrived.Owner t) = EnteredAs rule slots k b m n (entered.Owner t)
  ArrivedAs rule slots k b m n arrived.Waiting = (l : SeatState P) × EnteredAs rule slots k b m l entered.Behind × (n ≡ linked_state b l)

  -- one load of its own status, by a pass that has posted this job or none: it waits still, or its answer is in its hand, or it is the owner, with the job that it posted in its own slot again
  abbrev pub PolledAs : (Goods P → Type 0) → ℕ → ℕ → Option P → SeatState P → SeatState P → Polled → Type 0
  PolledAs rule slots b h m n (polled.Still word) = (word ≡ status_of h) × (n ≡ stays m (entry m.0 LoadStatus (1 + 2 * m.0.number) word))
  PolledAs rule slots b None m n polled.Done = ⊥
  PolledAs rule slots b (Some job) m n polled.Done = (a : P) × (n ≡ (moved m.0 (Done job a) (entry m.0 LoadStatus (1 + 2 * m.0.number) 3), (2 + 2 * m.0.number, Some a) ∷ m.1)) × SoundAnswer rule (part m.0.number m.0.quota m.0.own) job a
  PolledAs rule slots b None m n (polled.Owner t) = Won rule slots t m (entry m.0 LoadStatus (1 + 2 * m.0.number) (t.end + 4)) n × (t.first ≡ b) × (t.mark ≡ 1)
  PolledAs rule slots b (Some job) m n (polled.Owner t) = (t.first ≡ b) × (t.mark ≡ 1) × Ranged slots t.first t.end × WinsBack rule m job t.first t.end (entry m.0 LoadStatus (1 + 2 * m.0.number) (t.end + 4)) n

  -- the next node's status was loaded
  abbrev pub KindSeen : ℕ → SeatState P → SeatState P → Kind → Type 0
  KindSeen x m n kind.Plain = n ≡ stays m (entry m.0 LoadKind (1 + 2 * x) 1)
  KindSeen x m n kind.WithJob = (k : Ownership P) × (m.0.stage ≡ Owns k) × (n ≡ (moved m.0 (Owns (seen_job k)) (entry m.0 LoadKind (1 + 2 * x) 2), m.1))

  -- the next node's link was loaded: 0, or the word that it waits behind, and then its two slots are in the owner's hand
  abbrev pub LinkSeen : (Goods P → Type 0) → ℕ → SeatState P → SeatState P → ℕ → Type 0
  LinkSeen rule x m n link = (link ≡ 0 → n ≡ stays m (entry m.0 LoadLink (2 + 2 * x) link))
      × (link ≢ 0 → (k : Ownership P) × (job : P) × (a : Option P) × (m.0.stage ≡ Owns k) × (n ≡ (moved m.0 (Owns (with_next k x link job)) (entry m.0 LoadLink (2 + 2 * x) link), m.1 ++ (2 + 2 * x, a) ∷ (1 + 2 * x, Some job) ∷ [])) × (m.0.number ≢ x) × SoundNext rule k.value (part m.0.number m.0.quota m.0.own) x job (owed k.mine))

  -- the owner has run these jobs of its own, of which it pays for so many, and then the next node's job: the answer lies in that node's slot, and the value is in hand
  abbrev pub MayServe : (P → P → P → P → Type 0) → ℕ → ℕ → List (P × P) → Turn → ℕ → SeatState P → Type 0
  MayServe relates slots count ran t link m = (k : Ownership P) × (job : P) × (answer : P) × (mid : P) × (now : P) × (z : Option P) × (own : List (ℕ × Option P)) × (m.0.stage ≡ Owns k) × (k.first ≡ t.first) × (k.end ≡ t.end) × (k.mark ≡ t.mark)
      × (k.next ≡ Some (record { node = t.first - 2; behind = link; job = job })) × OwnHand k.mine m.0.number own
      × (m.1 ≡ (0, Some now) ∷ (own ++ (2 + 2 * (t.first - 2), Some answer) ∷ (1 + 2 * (t.first - 2), z) ∷ [])) × (1 < t.first) × (2 * t.first < slots + 3)
      × Runs relates k.value ran mid × (count ≤ m.0.quota) × Counts (owed k.mine) ran count × relates mid job answer now

  -- that node is done, and the owner's own jobs are settled
  abbrev pub Served : ℕ → ℕ → List (P × P) → Turn → ℕ → SeatState P → SeatState P → Turn → Type 0
  Served slots count ran t link m n u = (u.first ≡ link) × (u.end ≡ t.end) × (u.mark ≡ t.mark) × HasTurn slots u n
      × ((k : Ownership P) × (now : P) × (answer : P) × (z : Option P) × (own : List (ℕ × Option P)) × (m.0.stage ≡ Owns k) × (m.1 ≡ (0, Some now) ∷ (own ++ (2 + 2 * (t.first - 2), Some answer) ∷ (1 + 2 * (t.first - 2), z) ∷ [])) × (n ≡ (with_steps (settled m.0 (m.0.quota - count) ran (settled_notes k now)) (Owns (served (settled_notes k now) link now)) (m.0.steps ++ entry m.0 Serve (1 + 2 * (t.first - 2)) 3 ∷ []), (0, Some now) ∷ own)))

  -- the pass has its answer, and is idle
  abbrev pub Rested : SeatState P → SeatState P → Type 0
  Rested m n = (job : P) × (answer : P) × (m.0.stage ≡ Done job answer) × (n ≡ (collected m.0 (job, answer) (m.0.steps ++ entry m.0 SetStatus (1 + 2 * m.0.number) 0 ∷ []), []))

  -- the value in hand is what these jobs made of the value that the owner took, a job that the owner had posted is among them, and the quota suffices for the others, which are so many
  abbrev pub MayEnd : (P → P → P → P → Type 0) → ℕ → List (P × P) → SeatState P → Type 0
  MayEnd relates count ran m = (k : Ownership P) × (now : P) × (m.0.stage ≡ Owns k) × (m.1 ≡ (0, Some now) ∷ rest m.1) × (count ≤ m.0.quota) × Counts (owed k.mine) ran count × Runs relates k.value ran now

  -- by the step e the ownership has ended: the quota has fallen by so many, these jobs stand at the end of the pass's list, each with its answer, and no slot is in hand
  abbrev pub Ended : ℕ → List (P × P) → StepEntry → SeatState P → SeatState P → Type 0
  Ended count ran e m n = n ≡ (ended m.0 count ran e, [])

  -- the owner has seen that others came: by the load, or by an exchange that found another word than its mark
  abbrev pub SawOthers : SeatState P → SeatState P → Ownership P → Type 0
  SawOthers m seen k = (seen ≡ (noted m.0 (Owns (passed k)), m.1)) ⊎ ((w : ℕ) × (w ≢ k.mark) × (seen ≡ (moved m.0 (Owns (passed k)) (entry m.0 Free 0 w), m.1)))

  -- and has then taken the chain that begins at the word found, down to its own old mark
  abbrev pub Took : SeatState P → SeatState P → Ownership P → Turn → Type 0
  Took m n k t = (t.end ≡ k.mark) × (t.mark ≡ 1) × ((seen : SeatState P) × SawOthers m seen k × (n ≡ (moved seen.0 (Owns (retook k t.first)) (entry m.0 TakeChain 0 t.first), m.1)))

  -- where the chain wasn't empty nothing happened; else the lock was freed, or the newest chain was taken
  abbrev pub FollowsAs : ℕ → ℕ → List (P × P) → Turn → SeatState P → SeatState P → Follow → Type 0
  FollowsAs slots count ran old m n follow.Free = (old.first ≡ old.end) × Ended count ran (entry m.0 Free 0 old.mark) m n
  FollowsAs slots count ran old m n (follow.Waits t node) = (t.first ≢ t.end) × (node + 2 ≡ t.first) × HasTurn slots t n
      × (((old.first ≢ old.end) × (t ≡ old) × (n ≡ m)) ⊎ ((old.first ≡ old.end) × ((k : Ownership P) × (m.0.stage ≡ Owns k) × Took m n k t)))

  abbrev pub TookAs : ℕ → ℕ → SeatState P → SeatState P → Follow → Type 0
  TookAs slots mark m n follow.Free = ⊥
  TookAs slots mark m n (follow.Waits t node) = (t.first ≢ t.end) × (node + 2 ≡ t.first) × HasTurn slots t n
      × (t.end ≡ mark) × (t.mark ≡ 1) × ((k : Ownership P) × (m.0.stage ≡ Owns k) × (n ≡ (moved m.0 (Owns (retook k t.first)) (entry m.0 TakeChain 0 t.first), m.1)))
