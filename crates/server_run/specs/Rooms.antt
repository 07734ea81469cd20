-- A hall and the ledger's lock for the callers of a script, and their first passes.
use Rattle.std.specs.Prelude.{◌≡◌, ℕ, ◌+◌, ◌≤◌, List, [], length, sum_by, false}
use Rattle.std.specs.List.{AllByRecursion}
use Rattle.waiter_chain.specs.declared.view.View.{View as ChainView}
use Rattle.combine_job.specs.declared.parcel.Parcel.TheVariants.{Value}
use Rattle.dist_mutex.specs.declared.mutex.DistMutex.{DistMutex}
use Rattle.dist_mutex.specs.Passes.{opening_of, nodes_of, combine_of}
use Rattle.query_rules.specs.declared.query.LedgerTold.{LedgerTold}
use Rattle.query_rules.specs.declared.query.LedgerTrouble.{LedgerTrouble}
use Rattle.query_rules.specs.declared.query.Query.{Query}
use Rattle.query_rules.specs.Grammar.{TakesBelow}
use Rattle.query_log.specs.declared.job.LedgerJob.{LedgerJob}
use Rattle.query_log.specs.Ledgers.{LedgerView}
use Rattle.query_cells.specs.Asked.{LedgerParcel}
use Rattle.command_line.specs.declared.options.Options.{Options}
use Rattle.hall.specs.Passes.{cargo_of, shape_of}
use Rattle.hall.specs.declared.hall.Hall.{Hall}
use Rattle.hall.specs.declared.view.View.{View}
use Rattle.map_cargo.specs.declared.size.MapCargo.{MapCargo}
use Rattle.map_cargo.specs.declared.entry.Part.{Part}
use Rattle.map_cargo.specs.History.{first_part}
use Rattle.map_cargo.specs.Steps.{Suits, IsIdle}
use Rattle.query_rules.specs.Maps.{writes_of}
use Rattle.query_rules.specs.Ledger.{jobs_of}
use Rattle.run_laws.specs.Callers.{seats_for}
use Rattle.query_rules.specs.declared.query.TheConstants.{MOST_CALLERS, MOST_QUERIES}

-- each cell of the hall stands behind a lock
pub record HasCells (h : Hall MapCargo Part) : Type 0 where
  pub locks : (shape_of h).locks ≡ (cargo_of h).cells
  pub suits : Suits h

-- a hall for these callers, as these options ask: so many cells, a seat for each caller, and a log row for each query that may write
pub record IsHallFor (many : ℕ) (callers : List (List Query)) (options : Options) (h : Hall MapCargo Part) : Type 0 where
  pub behind : HasCells h
  pub seats : (shape_of h).seats ≡ seats_for callers
  pub cells : (cargo_of h).cells ≡ many
  pub rows : (cargo_of h).rows ≡ options.rows
  pub writes : (cargo_of h).writes ≡ sum_by writes_of callers
  pub slots : (shape_of h).slots ≡ options.slots
  pub policy : (shape_of h).policy ≡ options.policy

-- the pass that has the numbers from 0 on, as many as there are seats, and at least this quota: it took no pass in, is idle, and has told nothing and met nobody
pub record IsFirst (seats most : ℕ) (v : View Part) : Type 0 where
  pub number : v.number ≡ 0
  pub span : v.span ≡ seats
  pub taken : v.taken ≡ []
  pub idle : IsIdle v
  pub quota : most ≤ v.quota
  pub part : v.part ≡ first_part
  pub trail : v.trail ≡ []

-- the ledger's lock for these callers, as these options ask: a node for each, no account and no job yet, and room for each query that asks the ledger
pub record IsLockFor (callers : List (List Query)) (options : Options) (m : DistMutex LedgerView LedgerJob LedgerTold LedgerTrouble) : Type 0 where
  pub nodes : nodes_of m ≡ seats_for callers
  pub combine : combine_of m ≡ options.combine
  pub empty : (opening_of m).first.value ≡ Value record { value = record { rows = options.rows; room = sum_by jobs_of callers; entries = [] }; ran = 0 }

-- the pass of that lock that has the numbers from 0 on, as many as there are seats, and at least this quota: it took no pass in, and has no answer yet
pub record IsFirstOf (seats most : ℕ) (v : ChainView LedgerParcel) : Type 0 where
  pub number : v.number ≡ 0
  pub spare : v.spare + 1 ≡ seats
  pub past : v.past ≡ []
  pub stays : v.gone ≡ false
  pub quota : most ≤ v.quota
  pub own : v.own ≡ []

-- these callers' queries may be asked of the hall
pub record MayAsk (h : Hall MapCargo Part) (callers : List (List Query)) : Type 0 where
  pub hall : HasCells h
  pub crowd : length callers ≤ MOST_CALLERS
  pub few : sum_by length callers ≤ MOST_QUERIES
  pub taken : AllByRecursion (AllByRecursion (TakesBelow (cargo_of h).cells)) callers
