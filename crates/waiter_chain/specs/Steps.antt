-- What each step tells: of the step, the seat before, the number found (at a store, the number stored) and the seat after.
use Rattle.std.specs.Prelude.{◌≡◌, ◌≢◌, ℕ, ◌+◌, ◌-◌, ◌*◌, ◌<◌, ◌≤◌, List, [], ◌∷◌, ◌++◌, Bool, true, false, cond, Option, Some, None}
use mathlib.Core.Option.{some, Option as Maybe}
use lib.ListN.{get_elem?}
use Rattle.atomic_table.specs.Table.{Me, Step, rest}
use Rattle.waiter_chain.specs.Goods.{Goods, Part, part}
use Rattle.waiter_chain.specs.Chains.{owed}
use Rattle.waiter_chain.specs.declared.view.View.{View}
use Rattle.waiter_chain.specs.declared.view.Next.{Next}
use Rattle.waiter_chain.specs.declared.view.OwnSlot.{OwnSlot}
use Rattle.waiter_chain.specs.declared.view.OwnSlot.TheVariants.{Unused, InHand, Unrun}
use Rattle.waiter_chain.specs.declared.view.Ownership.{Ownership}
use Rattle.waiter_chain.specs.declared.view.StepEntry.{StepEntry}
use Rattle.waiter_chain.specs.declared.view.StepKind.{StepKind}
use Rattle.waiter_chain.specs.declared.view.StepKind.TheVariants.{SetStatus, SwapIn, TryIn, LoadStatus, Free, TakeChain, Grant, StoreLink, LoadKind, LoadLink, Serve}
use Rattle.waiter_chain.specs.declared.view.Stage.{Stage}
use Rattle.waiter_chain.specs.declared.view.Stage.TheVariants.{Idle, Holding, Cleared, Ready, Behind, Owns, Done}

-- a pass's view, and the slots that it has in hand
abbrev pub SeatState : Type 0 → Type 0
SeatState P = Me (Option P) (View P)

abbrev pub Telling : Type 0 → Type 1
Telling P = Step (Option P) → SeatState P → ℕ → SeatState P → Type 0

-- the owner's bounds, by the number of slots, which is 1 + 2 N
abbrev pub Ranged : ℕ → ℕ → ℕ → Type 0
Ranged slots first end = (2 * end < slots + 3) × (first ≢ end → (1 < first) × (2 * first < slots + 3))

module _ {P : Type 0} where
  abbrev pub ownership : ℕ → ℕ → ℕ → Bool → P → Ownership P
  ownership first end mark others_came value = record { first = first; end = end; mark = mark; others_came = others_came; job_waits = false; next = None; mine = Unused; value = value }

  -- the same, after the owner saw that others came
  abbrev pub passed : Ownership P → Ownership P
  passed r = record { first = r.first; end = r.end; mark = r.mark; others_came = true; job_waits = r.job_waits; next = r.next; mine = r.mine; value = r.value }

  -- the same, after the owner took the line that begins at this word
  abbrev pub retook : Ownership P → ℕ → Ownership P
  retook r first = record { first = first; end = r.mark; mark = 1; others_came = false; job_waits = false; next = None; mine = r.mine; value = r.value }

  -- the notes of a node that was granted, and took its own job back
  abbrev pub ownership_back : ℕ → ℕ → P → P → Ownership P
  ownership_back first end job value = record { first = first; end = end; mark = 1; others_came = false; job_waits = false; next = None; mine = Unrun job; value = value }

  -- the notes of an owner that has posted a job and found the lock free
  abbrev pub ownership_with : ℕ → P → P → Ownership P
  ownership_with n job value = record { first = n; end = n; mark = n; others_came = false; job_waits = false; next = None; mine = Unrun job; value = value }

  -- the same, after the owner has seen that the next node waits with a job
  abbrev pub seen_job : Ownership P → Ownership P
  seen_job r = record { first = r.first; end = r.end; mark = r.mark; others_came = r.others_came; job_waits = true; next = r.next; mine = r.mine; value = r.value }

  -- after it took the next node's slots
  abbrev pub with_next : Ownership P → ℕ → ℕ → P → Ownership P
  with_next r n b j = record { first = r.first; end = r.end; mark = r.mark; others_came = r.others_came; job_waits = false; next = Some (record { node = n; behind = b; job = j }); mine = r.mine; value = r.value }

  -- and after it served that node
  abbrev pub served : Ownership P → ℕ → P → Ownership P
  served r b now = record { first = b; end = r.end; mark = r.mark; others_came = r.others_came; job_waits = false; next = None; mine = r.mine; value = now }

  -- the job slot of an owner that has run its posted job
  abbrev pub run_slot : OwnSlot P → OwnSlot P
  run_slot Unused = Unused
  run_slot InHand = InHand
  run_slot (Unrun j) = InHand

  -- its notes, with the value that its own jobs made
  abbrev pub settled_notes : Ownership P → P → Ownership P
  settled_notes r now = record { first = r.first; end = r.end; mark = r.mark; others_came = r.others_came; job_waits = r.job_waits; next = r.next; mine = run_slot r.mine; value = now }

  -- what an owner has in hand of its own node: nothing, or its job slot
  abbrev pub OwnHand : OwnSlot P → ℕ → List (ℕ × Option P) → Type 0
  OwnHand Unused n c = c ≡ []
  OwnHand InHand n c = (y : Option P) × (c ≡ (1 + 2 * n, y) ∷ [])
  OwnHand (Unrun j) n c = (y : Option P) × (c ≡ (1 + 2 * n, y) ∷ [])

  -- the owner has no slot of another node in hand, and behind slot 0 at most its own job slot
  abbrev pub HasOwn : SeatState P → Ownership P → Type 0
  HasOwn m r = (r.next ≡ None) × OwnHand r.mine m.0.number (rest m.1)

  abbrev pub first_view : ℕ → ℕ → View P
  first_view nodes quota = record { number = 0; spare = nodes - 1; past = []; gone = false; linked = false; quota = quota; stage = Idle; own = []; steps = [] }

  -- what a split leaves, and what it gives
  abbrev pub cut_left : ℕ → ℕ → View P → View P
  cut_left nodes quota v = record { number = v.number; spare = v.spare - nodes; past = v.past; gone = v.gone; linked = v.linked; quota = v.quota - quota; stage = v.stage; own = v.own; steps = v.steps }

  abbrev pub cut_right : ℕ → ℕ → View P → View P
  cut_right nodes quota v = record { number = v.number + 1 + v.spare - nodes; spare = nodes - 1; past = []; gone = false; linked = v.linked; quota = quota; stage = Idle; own = []; steps = [] }

  abbrev pub joined : View P → View P → View P
  joined v w = record { number = v.number; spare = v.spare; past = v.past ++ (w.number, w.spare) ∷ w.past; gone = v.gone; linked = cond v.linked true w.linked; quota = v.quota + w.quota; stage = v.stage; own = v.own ++ w.own; steps = v.steps ++ w.steps }

  -- what is left of a pass that was taken in
  abbrev pub spent : View P
  spent = record { number = 0; spare = 0; past = []; gone = true; linked = false; quota = 0; stage = Idle; own = []; steps = [] }

  -- one step of this pass: of this kind, at this place, with this word
  abbrev pub entry : View P → StepKind → ℕ → ℕ → StepEntry
  entry v k place word = record { number = v.number; kind = k; place = place; word = word }

  abbrev pub with_steps : View P → Stage P → List StepEntry → View P
  with_steps v stage steps = record { number = v.number; spare = v.spare; past = v.past; gone = v.gone; linked = v.linked; quota = v.quota; stage = stage; own = v.own; steps = steps }

  -- a step to this stage
  abbrev pub moved : View P → Stage P → StepEntry → View P
  moved v stage e = with_steps v stage (v.steps ++ e ∷ [])

  -- a load that is not listed
  abbrev pub noted : View P → Stage P → View P
  noted v stage = with_steps v stage v.steps

  -- the owner's view, with these jobs of its own more, and this quota
  abbrev pub settled : View P → ℕ → List (P × P) → Ownership P → View P
  settled v q ran r = record { number = v.number; spare = v.spare; past = v.past; gone = v.gone; linked = v.linked; quota = q; stage = Owns r; own = v.own ++ ran; steps = v.steps }

  -- the pass is idle, with one job more and its answer
  abbrev pub collected : View P → P × P → List StepEntry → View P
  collected v a steps = record { number = v.number; spare = v.spare; past = v.past; gone = v.gone; linked = v.linked; quota = v.quota; stage = Idle; own = v.own ++ a ∷ []; steps = steps }

  -- the pass has paid for one job
  abbrev pub paid : View P → ℕ → Stage P → StepEntry → View P
  paid v q stage e = record { number = v.number; spare = v.spare; past = v.past; gone = v.gone; linked = v.linked; quota = q; stage = stage; own = v.own; steps = v.steps ++ e ∷ [] }

  -- the pass has stored a link
  abbrev pub linked_by : View P → StepEntry → View P
  linked_by v e = record { number = v.number; spare = v.spare; past = v.past; gone = v.gone; linked = true; quota = v.quota; stage = v.stage; own = v.own; steps = v.steps ++ e ∷ [] }

  -- the step that ends an ownership, in which the pass ran these jobs of its own and pays for so many of them
  abbrev pub ended : View P → ℕ → List (P × P) → StepEntry → View P
  ended v count ran e = record { number = v.number; spare = v.spare; past = v.past; gone = v.gone; linked = v.linked; quota = v.quota - count; stage = Idle; own = v.own ++ ran; steps = v.steps ++ e ∷ [] }

  -- the freight's rule holds of this value, beside a pass with this part
  abbrev pub Sound : (Goods P → Type 0) → P → Part P → Type 0
  Sound rule y own = (g : Goods P) × rule g × (g.value ≡ y) × ((i : ℕ) × (get_elem? g.parts i ≡ some own))

  -- the freight's rule holds of this value and of the job that this node has posted, beside a pass with this part
  abbrev pub SoundJob : (Goods P → Type 0) → P → Part P → ℕ → P → Type 0
  SoundJob rule y own n job = (g : Goods P) × rule g × (g.value ≡ y) × ((i : ℕ) × (get_elem? g.parts i ≡ some own)) × (g.posted n ≡ some job)

  -- the same, and the pass has posted this job itself, or none
  abbrev pub SoundNext : (Goods P → Type 0) → P → Part P → ℕ → P → Maybe P → Type 0
  SoundNext rule y own n job mine = (g : Goods P) × rule g × (g.value ≡ y) × ((i : ℕ) × (get_elem? g.parts i ≡ some own)) × (g.posted n ≡ some job) × (g.posted own.number ≡ mine)

  -- the freight's rule holds where this answer, to this job, waits for the pass that has this part
  abbrev pub SoundAnswer : (Goods P → Type 0) → Part P → P → P → Type 0
  SoundAnswer rule own job answer = (g : Goods P) × rule g × ((i : ℕ) × (get_elem? g.parts i ≡ some own)) × (g.answered own.number ≡ some (job, answer))

  -- the seat becomes the owner, with the value
  abbrev pub Wins : (Goods P → Type 0) → SeatState P → ℕ → ℕ → ℕ → StepEntry → SeatState P → Type 0
  Wins rule m first end mark e n = (y : P) × (n ≡ (moved m.0 (Owns (ownership first end mark false y)) e, (0, Some y) ∷ m.1)) × Sound rule y (part m.0.number m.0.quota m.0.own)

  abbrev pub stays : SeatState P → StepEntry → SeatState P
  stays m e = (moved m.0 m.0.stage e, m.1)

  abbrev pub tried : (Goods P → Type 0) → Telling P
  tried rule st m r n = (r ≡ 0 → Wins rule m 1 1 1 (entry m.0 TryIn st.word r) n) × (r ≢ 0 → n ≡ stays m (entry m.0 TryIn st.word r))

  -- where a pass stands before it enters, with a job or without one
  abbrev pub waits_to_enter : Bool → Stage P
  waits_to_enter true = Holding
  waits_to_enter false = Idle

  -- it stores 0 in its link, and then how it enters in its status
  abbrev pub cleared : Telling P
  cleared st m r n = (b : Bool) → m.0.stage ≡ waits_to_enter b → n ≡ (moved m.0 (Cleared b) (entry m.0 StoreLink st.word r), m.1)

  abbrev pub readied : Telling P
  readied st m r n = (b : Bool) → m.0.stage ≡ Cleared b → n ≡ (moved m.0 (Ready b) (entry m.0 SetStatus st.word r), m.1)

  abbrev pub swapped : (Goods P → Type 0) → Telling P
  swapped rule st m r n = (r ≡ 0 → Wins rule m st.first st.first st.first (entry m.0 SwapIn st.word r) n) × (r ≢ 0 → n ≡ (moved m.0 (Behind r None) (entry m.0 SwapIn st.word r), m.1))

  -- a pass with a job in its own slot swaps itself in: the job is posted, and paid for
  abbrev pub posting : (Goods P → Type 0) → Telling P
  posting rule st m r n = (job : P) → m.1 ≡ (1 + 2 * m.0.number, Some job) ∷ []
      → (r ≡ 0 → (y : P) × (n ≡ (paid m.0 (m.0.quota - 1) (Owns (ownership_with st.first job y)) (entry m.0 SwapIn st.word r), (0, Some y) ∷ m.1)) × SoundJob rule y (part m.0.number (m.0.quota - 1) m.0.own) m.0.number job)
      × (r ≢ 0 → n ≡ (paid m.0 (m.0.quota - 1) (Behind r (Some job)) (entry m.0 SwapIn st.word r), []))

  -- a waiting pass stores what its swap found in its link
  abbrev pub linking : Telling P
  linking st m r n = n ≡ (linked_by m.0 (entry m.0 StoreLink st.word r), m.1)

  -- a node with no job waits still, or becomes the owner
  abbrev pub polled_plain : (Goods P → Type 0) → Telling P
  polled_plain rule st m r n = (b : ℕ) → m.0.stage ≡ Behind b None
      → (r < 4 → (r ≡ 1) × (n ≡ stays m (entry m.0 LoadStatus st.word r))) × (4 ≤ r → Ranged st.slots b (r - 4) × Wins rule m b (r - 4) 1 (entry m.0 LoadStatus st.word r) n)

  -- the seat becomes the owner, with the value and with its own posted job
  abbrev pub WinsBack : (Goods P → Type 0) → SeatState P → P → ℕ → ℕ → StepEntry → SeatState P → Type 0
  WinsBack rule m job first end e n = (y : P) × (n ≡ (moved m.0 (Owns (ownership_back first end job y)) e, (0, Some y) ∷ (1 + 2 * m.0.number, Some job) ∷ m.1)) × SoundJob rule y (part m.0.number m.0.quota m.0.own) m.0.number job

  -- a node with a job waits still, or finds that its job has run, or becomes the owner and takes its job back
  abbrev pub polled_job : (Goods P → Type 0) → Telling P
  polled_job rule st m r n = (b : ℕ) (j : P) → m.0.stage ≡ Behind b (Some j)
      → (r < 3 → (r ≡ 2) × (n ≡ stays m (entry m.0 LoadStatus st.word r)))
      × (r ≡ 3 → (a : P) × (n ≡ (moved m.0 (Done j a) (entry m.0 LoadStatus st.word r), (2 + 2 * m.0.number, Some a) ∷ m.1)) × SoundAnswer rule (part m.0.number m.0.quota m.0.own) j a)
      × (4 ≤ r → Ranged st.slots b (r - 4) × WinsBack rule m j b (r - 4) (entry m.0 LoadStatus st.word r) n)

  -- a waiting node loads its own status, whether it has posted a job or not
  abbrev pub polled : (Goods P → Type 0) → Telling P
  polled rule st m r n = polled_plain rule st m r n × polled_job rule st m r n

  abbrev pub freed : ℕ → List (P × P) → Telling P
  freed count ran st m r n = (r ≡ st.first → n ≡ (ended m.0 count ran (entry m.0 Free st.word r), []))
      × (r ≢ st.first → (k : Ownership P) → m.0.stage ≡ Owns k → n ≡ (moved m.0 (Owns (passed k)) (entry m.0 Free st.word r), m.1))

  abbrev pub took : Telling P
  took st m r n = (k : Ownership P) → m.0.stage ≡ Owns k → (n ≡ (moved m.0 (Owns (retook k r)) (entry m.0 TakeChain st.word r), m.1)) × (r ≢ k.mark) × Ranged st.slots r k.mark

  abbrev pub handed : ℕ → List (P × P) → Telling P
  handed count ran st m r n = n ≡ (ended m.0 count ran (entry m.0 Grant st.word r), [])

  -- the central word is looked at, which is not listed
  abbrev pub looked : Telling P
  looked st m r n = (k : Ownership P) → m.0.stage ≡ Owns k → (r ≡ k.mark → n ≡ (noted m.0 (Owns k), m.1)) × (r ≢ k.mark → n ≡ (noted m.0 (Owns (passed k)), m.1))

  -- any word is loaded, which tells that the pass's quota fits in a word, and is not listed
  abbrev pub counted : Telling P
  counted st m r n = (n ≡ (noted m.0 m.0.stage, m.1)) × (m.0.quota < 18446744073709551616)

  -- an idle pass takes its own job slot, with whatever lies in it
  abbrev pub holding : Telling P
  holding st m r n = (y : Option P) × (n ≡ (moved m.0 Holding (entry m.0 LoadStatus st.word r), (1 + 2 * m.0.number, y) ∷ m.1))

  -- the next node waits plainly, or with a job, which the owner notes
  abbrev pub kind_seen : Telling P
  kind_seen st m r n = (k : Ownership P) × (m.0.stage ≡ Owns k) × (r ≡ 1 → n ≡ stays m (entry m.0 LoadKind st.word r))
      × (r ≢ 1 → (r ≡ 2) × (n ≡ (moved m.0 (Owns (seen_job k)) (entry m.0 LoadKind st.word r), m.1)))

  -- the next node has not linked; or the owner takes its two slots, with its job in the one
  abbrev pub link_seen : (Goods P → Type 0) → Telling P
  link_seen rule st m r n = (k : Ownership P) × (m.0.stage ≡ Owns k) × (r ≡ 0 → n ≡ stays m (entry m.0 LoadLink st.word r))
      × (r ≢ 0 → (job : P) × (a : Option P) × (n ≡ (moved m.0 (Owns (with_next k (k.first - 2) r job)) (entry m.0 LoadLink st.word r), (2 + 2 * (k.first - 2), a) ∷ (1 + 2 * (k.first - 2), Some job) ∷ m.1)) × (m.0.number ≢ k.first - 2)
      × SoundNext rule k.value (part m.0.number m.0.quota m.0.own) (k.first - 2) job (owed k.mine))

  -- the next node's job has run: the owner gives its two slots back, and settles these jobs of its own
  abbrev pub job_done : ℕ → List (P × P) → Telling P
  job_done count ran st m r n = (k : Ownership P) × (x : Next P) × (now : P) × (more : List (ℕ × Option P)) × (m.0.stage ≡ Owns k) × (k.next ≡ Some x) × (rest (rest m.1) ≡ (0, Some now) ∷ more) × Ranged st.slots x.behind k.end
      × (n ≡ (with_steps (settled m.0 (m.0.quota - count) ran (settled_notes k now)) (Owns (served (settled_notes k now) x.behind now)) (m.0.steps ++ entry m.0 Serve st.word r ∷ []), (0, Some now) ∷ more))

  -- a pass that has its answer is idle again
  abbrev pub rested : Telling P
  rested st m r n = (job : P) × (answer : P) × (m.0.stage ≡ Done job answer) × (n ≡ (collected m.0 (job, answer) (m.0.steps ++ entry m.0 SetStatus st.word r ∷ []), []))
