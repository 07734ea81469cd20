-- The statements of the laws.
use Rattle.std.specs.Prelude.{◌≡◌, ℕ, ◌<◌, List, [], map, get_or, slice_get, Some}
use Rattle.std.specs.declared.option.Option.{Option}
use Rattle.std.specs.List.{AllByRecursion}
use Rattle.waiter_chain.specs.Chains.{covers}
use Rattle.waiter_chain.specs.declared.view.Opening.{Opening}
use Rattle.waiter_chain.specs.declared.view.View.{View as ChainView}
use Rattle.combine_job.specs.declared.parcel.Kept.{Kept}
use Rattle.combine_job.specs.declared.parcel.Parcel.TheVariants.{Value}
use Rattle.dist_mutex.specs.Owners.{Ends}
use Rattle.query_rules.specs.declared.query.Query.{Query}
use Rattle.query_rules.specs.declared.query.Reply.{Reply}
use Rattle.query_rules.specs.Grammar.{TakesBelow}
use Rattle.query_rules.specs.History.{IsHistory, IsLegal}
use Rattle.query_rules.specs.Maps.{no_entries}
use Rattle.query_log.specs.Ledgers.{LedgerView, Means}
use Rattle.hall.specs.Numbers.{width}
use Rattle.hall.specs.declared.view.Shape.{Shape}
use Rattle.hall.specs.declared.view.View.{View}
use Rattle.map_cargo.specs.declared.entry.Part.{Part}
use Rattle.map_cargo.specs.Entries.{as_reply}
use Rattle.map_cargo.specs.Licences.{MetWhoRefused}
use Rattle.query_cells.specs.Asked.{LedgerParcel}
use Rattle.lock_model.specs.Locks.{Has}
use Rattle.run_laws.specs.Callers.{IsWhole, seats_for}
use Rattle.run_laws.specs.Lists.{answer_of, told_of}

-- what the close of a hall of this shape, with maps of so many rows, says of the pass that closes it
pub record HallCloses (rows : ℕ) (shape : Shape) (w : View Part) : Type 0 where
  pub legal : width w ≡ shape.seats → IsLegal rows no_entries (map as_reply w.part.told)
  pub met : width w ≡ shape.seats → MetWhoRefused shape w.steps w.trail

-- what the close of a lock with so many nodes, which was made over an empty ledger, says of the pass that closes it
pub record LedgerCloses (rows room nodes : ℕ) (o : Opening LedgerParcel) (e : ChainView LedgerParcel) (out : Option (Kept LedgerView)) : Type 0 where
  pub began : o.first.value ≡ Value record { value = record { rows = rows; room = room; entries = [] }; ran = 0 }
  pub value : ((n : ℕ) → n < nodes → 0 < covers n e) → Ends (λ (l : LedgerView). l.room) Means o e.own out

-- a hall and a ledger's lock with a seat and a node for each caller close, by passes that tell exactly these replies to the callers' queries, on one history of the queries with the replies
abbrev pub ShowOneHistory : Type 0
ShowOneHistory = (rows room nodes : ℕ) (shape : Shape) (o : Opening LedgerParcel) (callers : List (List Query)) (told : List (List Reply)) (w : View Part) (e : ChainView LedgerParcel) (out : Option (Kept LedgerView))
    → shape.seats ≡ seats_for callers → nodes ≡ seats_for callers → w.shape ≡ shape → AllByRecursion (AllByRecursion (TakesBelow shape.locks)) callers
    → IsWhole w e callers told → HallCloses rows shape w → LedgerCloses rows room nodes o e out → IsHistory rows callers told

-- the query of a caller that has this index, and its reply
pub record IsAnswered (callers : List (List Query)) (told : List (List Reply)) (caller index : ℕ) (q : Query) (reply : Reply) : Type 0 where
  pub asks : slice_get (get_or callers caller []) index ≡ Some q
  pub said : slice_get (get_or told caller []) index ≡ Some reply

-- a list of what was told has just what such a function makes of each reply to a caller's query, of its caller, its index and the query
pub record HasJust {A : Type 0} (of : ℕ → ℕ → Query → Reply → List A) (callers : List (List Query)) (told : List (List Reply)) (all : List A) : Type 0 where
  pub each : (caller index : ℕ) (q : Query) (reply : Reply) → IsAnswered callers told caller index q reply → (a : A) → Has (of caller index q reply) a → Has all a
  pub no_other : (a : A) → Has all a → (caller : ℕ) × (index : ℕ) × (q : Query) × (reply : Reply) × IsAnswered callers told caller index q reply × Has (of caller index q reply) a

-- by this the passes that have taken all callers in tell and list just the replies to their queries, each under its caller and its index
abbrev pub TellJustTheReplies : Type 0
TellJustTheReplies = (callers : List (List Query)) (told : List (List Reply)) (w : View Part) (e : ChainView LedgerParcel) → IsWhole w e callers told → HasJust told_of callers told w.part.told × HasJust answer_of callers told e.own
