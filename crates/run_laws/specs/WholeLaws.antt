-- The closes of passes that have taken all callers in show one history.
use Rattle.std.specs.Prelude.{◌≡◌, ℕ, ◌<◌, List, [], ◌∷◌, map}
use Rattle.std.proofs.Common.{sym, ◌∙◌, subst, ⊎_elim}
use Rattle.std.specs.declared.option.Option.{Option}
use Rattle.std.specs.List.{AllByRecursion}
use Rattle.waiter_chain.specs.declared.view.Opening.{Opening}
use Rattle.waiter_chain.specs.declared.view.View.{View as ChainView}
use Rattle.combine_job.specs.declared.parcel.Kept.{Kept}
use Rattle.combine_job.specs.declared.parcel.Parcel.TheVariants.{Value}
use Rattle.dist_mutex.specs.Owners.{Ends}
use Rattle.lock_model.specs.Locks.{Has}
use Rattle.query_rules.specs.declared.query.Query.{Query}
use Rattle.query_rules.specs.declared.query.Query.TheVariants.{Get, Len, Put, Del, Add, Cas, PutLen, Move, Both, TryGet, TryPut, GetBy, PutBy, Give, Take, Audit}
use Rattle.query_rules.specs.declared.query.Reply.{Reply}
use Rattle.query_rules.specs.Grammar.{TakesBelow}
use Rattle.query_rules.specs.History.{IsHistory, IsLegal}
use Rattle.query_rules.specs.Maps.{no_entries}
use Rattle.query_log.specs.Ledgers.{LedgerView, Means}
use Rattle.hall.specs.Numbers.{width}
use Rattle.hall.specs.declared.view.Shape.{Shape}
use Rattle.hall.specs.declared.view.View.{View}
use Rattle.map_cargo.specs.declared.entry.Part.{Part}
use Rattle.map_cargo.specs.Entries.{as_reply}
use Rattle.map_cargo.specs.Licences.{MetWhoRefused}
use Rattle.query_cells.specs.Asked.{LedgerParcel}
use Rattle.query_cells.specs.LicenceLaws.{AllBacked, IsNear, all_licensed}
use Rattle.run_laws.specs.AskedLaws.{all_as}
use Rattle.run_laws.specs.Callers.{IsWhole}
use Rattle.run_laws.specs.Laws.{ShowOneHistory}
use Rattle.run_laws.specs.LedgerLaws.{ledger_whole}
use Rattle.run_laws.specs.MapLaws.{maps_whole}

-- ---- the cells that a script's queries name
one_near : (locks cell c : ℕ) → cell < locks → Has (cell ∷ []) c → c < locks
one_near locks cell c low has = ⊎_elim (λ here. subst (λ n. n < locks) (sym here) low) (λ (none : ⊥). absurd none) has

two_near : (locks a b c : ℕ) → a < locks → b < locks → Has (a ∷ b ∷ []) c → c < locks
two_near locks a b c low low_too has = ⊎_elim (λ here. subst (λ n. n < locks) (sym here) low) (λ more. one_near locks b c low_too more) has

is_near : (locks : ℕ) (q : Query) → TakesBelow locks q → IsNear locks q
is_near locks (Get cell key) h c has = one_near locks cell c h.0 has
is_near locks (Len cell) h c has = one_near locks cell c h.0 has
is_near locks (Put cell key value) h c has = one_near locks cell c h.0 has
is_near locks (Del cell key) h c has = one_near locks cell c h.0 has
is_near locks (Add cell key delta) h c has = one_near locks cell c h.0 has
is_near locks (Cas cell key old new) h c has = one_near locks cell c h.0 has
is_near locks (PutLen cell key value) h c has = one_near locks cell c h.0 has
is_near locks (Move a b key n) h c has = two_near locks a b c h.0 h.1.0 has
is_near locks (Both a b key) h c has = two_near locks a b c h.0 h.1.0 has
is_near locks (TryGet cell key) h c has = one_near locks cell c h.0 has
is_near locks (TryPut cell key value) h c has = one_near locks cell c h.0 has
is_near locks (GetBy cell key deadline) h c has = one_near locks cell c h.0 has
is_near locks (PutBy cell key value deadline) h c has = one_near locks cell c h.0 has
is_near locks (Give key n) h c has = absurd has
is_near locks (Take key n) h c has = absurd has
is_near locks Audit h c has = absurd has

pub all_near : (locks : ℕ) (callers : List (List Query)) → AllByRecursion (AllByRecursion (TakesBelow locks)) callers → AllByRecursion (AllByRecursion (IsNear locks)) callers
all_near locks callers h = all_as (AllByRecursion (TakesBelow locks)) (AllByRecursion (IsNear locks)) callers (λ qs. all_as (TakesBelow locks) (IsNear locks) qs (is_near locks)) h

-- What the two closes say of passes that tell all callers' replies makes these one history: of the maps, whose hall had this shape, and of the ledger, which was empty when its lock was made
pub whole_is_history : (rows room : ℕ) (shape : Shape) (o : Opening LedgerParcel) (callers : List (List Query)) (told : List (List Reply)) (w : View Part) (e : ChainView LedgerParcel) (out : Option (Kept LedgerView))
    → IsWhole w e callers told → w.shape ≡ shape → AllByRecursion (AllByRecursion (TakesBelow shape.locks)) callers
    → IsLegal rows no_entries (map as_reply w.part.told) → MetWhoRefused shape w.steps w.trail
    → o.first.value ≡ Value record { value = record { rows = rows; room = room; entries = [] }; ran = 0 } → Ends (λ (l : LedgerView). l.room) Means o e.own out
    → IsHistory rows callers told
whole_is_history rows room shape o callers told w e out whole same taken legal met first ends = record {
  once = whole.once;
  legal = maps_whole rows callers told w.part.told whole.tells whole.placed legal;
  ledger = ledger_whole rows room o callers told e.own out whole.once whole.lists first ends;
  licensed = all_licensed callers shape w.steps w.trail met whole.trod 0 callers told (all_near shape.locks callers taken) (subst (λ (s : Shape). AllBacked s w.steps 0 callers told) same whole.backed);
}

-- and so they do by the clauses of the two closes as they stand
pub show_one_history : ShowOneHistory
show_one_history rows room nodes shape o callers told w e out seats all same taken whole hall ledger =
    let wide : width w ≡ shape.seats = whole.wide ∙ sym seats in
    whole_is_history rows room shape o callers told w e out whole same taken (hall.legal wide) (hall.met wide) ledger.began (ledger.value (λ n low. whole.covered n (subst (λ k. n < k) all low)))
