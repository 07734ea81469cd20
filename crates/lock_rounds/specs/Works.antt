-- What the threads do in their rounds, and how many of them read.
use Rattle.std.specs.Prelude.{◌≡◌, ℕ, ◌-◌, ◌%◌, ◌≤◌, List, [], ◌∷◌, Some, None, String, codes, bytes_eq, eqb, if◌then◌else◌, string_bytes}
use Rattle.std.specs.Int.{div_ceil}
use Rattle.std.specs.declared.alloc.Global.{Global}
use Rattle.std.specs.declared.option.Option.{Option}
use Rattle.hall.specs.declared.making.TheConstants.{MOST_SLOTS}
use Rattle.lock_rounds.specs.declared.plan.TheConstants.{MOST_APART, MOST_ROUNDS}
use Rattle.lock_rounds.specs.declared.plan.Act.{Act}
use Rattle.lock_rounds.specs.declared.plan.Act.TheVariants.{Read, Write, Raise}
use Rattle.lock_rounds.specs.declared.plan.Turn.{Turn}
use Rattle.lock_rounds.specs.declared.plan.Turn.TheVariants.{Reads, Reads95, Reads50, Writes, Upgrades}
use Rattle.lock_rounds.specs.declared.plan.Work.{Work}
use Rattle.lock_rounds.specs.declared.plan.Work.TheVariants.{Shares, Jobs, Owners}
use Rattle.lock_rounds.specs.declared.plan.Crowd.{Crowd}
use Rattle.lock_rounds.specs.declared.plan.Crowd.TheVariants.{One, Two, Four}
use Rattle.lock_rounds.specs.declared.plan.Layout.{Layout}
use Rattle.lock_rounds.specs.declared.plan.Plan.{Plan}

-- what a thread does in this round, counted from 0
abbrev pub act_in : Turn → ℕ → Act
act_in Reads round = Read
act_in Reads95 round = if eqb (round % 20) 0 then Write else Read
act_in Reads50 round = if eqb (round % 2) 0 then Write else Read
act_in Writes round = Write
act_in Upgrades round = Raise

-- how many readers come in by it
abbrev pub readers_in : Act → ℕ
readers_in Read = 1
readers_in Write = 0
readers_in Raise = 0

-- how many of a thread's first rounds read: all but each twentieth, or each second, of which the first round is one
abbrev pub reads_of : Turn → ℕ → ℕ
reads_of Reads rounds = rounds
reads_of Reads95 rounds = rounds - div_ceil rounds 20
reads_of Reads50 rounds = rounds - div_ceil rounds 2
reads_of Writes rounds = 0
reads_of Upgrades rounds = 0

abbrev pub threads_in : Crowd → ℕ
threads_in One = 1
threads_in Two = 2
threads_in Four = 4

-- the work of this name
abbrev pub work_named : List ℕ → Option Work
work_named name =
    if bytes_eq name (codes "reads") then Some (Shares Reads) else
    if bytes_eq name (codes "reads95") then Some (Shares Reads95) else
    if bytes_eq name (codes "reads50") then Some (Shares Reads50) else
    if bytes_eq name (codes "writes") then Some (Shares Writes) else
    if bytes_eq name (codes "upgrades") then Some (Shares Upgrades) else
    if bytes_eq name (codes "jobs0") then Some (Jobs 0) else
    if bytes_eq name (codes "jobs64") then Some (Jobs 64) else
    if bytes_eq name (codes "owners64") then Some (Owners 64) else None

-- the first of these words is the name of the work
abbrev pub IsFirstWord : List (String Global) → Work → Type 0
IsFirstWord [] work = ⊥
IsFirstWord (word ∷ more) work = work_named (string_bytes word) ≡ Some work

-- a hall can be laid out so
abbrev pub IsLayout : Layout → Type 0
IsLayout layout = (1 ≤ layout.slots) × (layout.slots ≤ MOST_SLOTS) × (1 ≤ layout.apart) × (layout.apart ≤ MOST_APART)

-- the program can do that
abbrev pub IsRunnable : Plan → Type 0
IsRunnable plan = (plan.rounds ≤ MOST_ROUNDS) × IsLayout plan.layout
