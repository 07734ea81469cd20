-- What a reply leaves, between the taking of a cell and its giving back.
use Rattle.std.specs.Prelude.{◌≡◌, ◌≢◌, ℕ, ◌+◌, ◌*◌, ◌≤◌, Bool, true, false, List, [], ◌∷◌, ◌++◌, MatchBool, None, cond, ◌==◌, Option}
use Rattle.std.proofs.Common.{refl, sym, ap, ◌∙◌, subst}
use Rattle.lock_model.specs.Locks.{Has}
use Rattle.lock_model.specs.declared.model.Mode.{Mode}
use Rattle.hall.specs.declared.view.View.{View}
use Rattle.hall.specs.declared.view.StepKind.TheVariants.{LoadCargo, AddCargo}
use Rattle.hall.specs.declared.view.Standing.TheVariants.{Away}
use Rattle.hall.specs.Cargo.{exclusive_mode}
use Rattle.hall.specs.Views.{standing, mode_of}
use Rattle.shared_mutex.specs.Acquiring.{ElsewhereSame}
use Rattle.query_rules.specs.declared.query.Query.{Query}
use Rattle.query_rules.specs.declared.query.Query.TheVariants as query
use Rattle.query_rules.specs.declared.query.Said.{Said}
use Rattle.query_rules.specs.declared.query.Reply.{Reply}
use Rattle.query_rules.specs.declared.query.Reply.TheVariants.{Placed, Busy, Late, Job}
use Rattle.query_rules.specs.Maps.{is_write, written}
use Rattle.query_rules.specs.History.{place_of}
use Rattle.query_rules.proofs.ReplyKinds.{said_kind}
use Rattle.map_cargo.specs.declared.size.MapCargo.{MapCargo}
use Rattle.map_cargo.specs.declared.entry.Told.{Told}
use Rattle.map_cargo.specs.declared.entry.Told.TheVariants.{Wrote, Read, Refused}
use Rattle.map_cargo.specs.declared.entry.Part.{Part}
use Rattle.map_cargo.specs.Cells.{Means, lookup, number_place}
use Rattle.map_cargo.specs.Entries.{named_cells, spoken_cells}
use Rattle.map_cargo.specs.Gaining.{everywhere}
use Rattle.map_cargo.specs.History.{words_of, plain_of, IsSettled, IsRested}
use Rattle.map_cargo.specs.StepLaws.{more_then}
use Rattle.map_cargo.specs.Steps.{Alike, Stays, Gained, Left, Drew, IsIdle, MayDraw, MayPlace, cargo_step, placed, row_stores}
use Rattle.query_cells.specs.Asked.{AddsReply, entry_for, tells_write}
use Rattle.query_cells.specs.Placing.{mode_for}
use Rattle.query_cells.specs.Answers.{Follows, HoldsFor, LeadsBack, MayTell, OnlyAt, Stored, Tells, TellsNothing}
use Rattle.query_cells.proofs.Placing.{placed_read, placed_write, placing_after, placing_then}

-- what a part has more doesn't hang on what else it had
adds_from : (n m index : ℕ) (q : Query) (reply : Reply) (p s r : Part) → n ≡ m → p.seen ≡ s.seen → p.told ≡ s.told → AddsReply n index q reply p r → AddsReply m index q reply s r
adds_from n m index q (Placed place said) p s r number seen told h =
    let F : ℕ → ℕ → List Told → Type 0 = λ k a t. (w : ℕ) × (place ≡ place_of w said) × (a ≤ w)
    × MatchBool (is_write said) ((r.seen ≡ w + 1) × (r.told ≡ Wrote w (entry_for k index q said) ∷ t)) ((r.seen ≡ w) × (r.told ≡ Read w (entry_for k index q said) ∷ t)) in
    subst (λ (t : List Told). F m s.seen t) told (subst (λ (a : ℕ). F m a p.told) seen (subst (λ (k : ℕ). F k p.seen p.told) number h))
adds_from n m index q Busy p s r number seen told h = (h.0 ∙ (λ i. Refused (number i) index q Busy ∷ told i), h.1 ∙ seen)
adds_from n m index q (Late now) p s r number seen told h = (h.0 ∙ (λ i. Refused (number i) index q (Late now) ∷ told i), h.1 ∙ seen)
adds_from n m index q (Job at result) p s r number seen told h = (h.0 ∙ told, h.1 ∙ seen)

-- a reply after steps that told nothing
pub tells_after : (c : MapCargo) (v u w : View Part) (index : ℕ) (q : Query) (reply : Reply) → TellsNothing v u → Tells c u w index q reply → Tells c v w index q reply
tells_after c v u w index q reply quiet h = record {
  number = h.number ∙ quiet.number;
  span = h.span ∙ quiet.span;
  taken = h.taken ∙ quiet.taken;
  quota = subst (λ (n : ℕ). MatchBool (tells_write reply) (w.quota + 1 ≡ n) (w.quota ≡ n)) quiet.quota h.quota;
  kind = h.kind;
  of_maps = h.of_maps;
  told = adds_from u.number v.number index q reply u.part v.part w.part quiet.number quiet.seen quiet.told h.told;
  placing = placing_after c v u w q reply quiet.number quiet.steps h.of_maps h.placing;
}

-- a reply, and then a cell was given back
pub tells_then : (c : MapCargo) (v u w : View Part) (index : ℕ) (q : Query) (reply : Reply) → Tells c v u index q reply → Left u w → LeadsBack c u w → Tells c v w index q reply
tells_then c v u w index q reply h left back = record {
  number = left.number ∙ h.number;
  span = left.span ∙ h.span;
  taken = left.taken ∙ h.taken;
  quota = subst (λ (n : ℕ). MatchBool (tells_write reply) (n + 1 ≡ v.quota) (n ≡ v.quota)) (sym left.quota) h.quota;
  kind = h.kind;
  of_maps = h.of_maps;
  told = subst (λ (p : Part). AddsReply v.number index q reply v.part p) (sym left.part) h.told;
  placing = placing_then c v u w q reply h.of_maps h.placing back;
}

-- taking a cell tells nothing
pub nothing_gained : (lock : ℕ) (v w : View Part) → Gained lock v w → TellsNothing v w
nothing_gained lock v w h = record { number = h.number; span = h.span; taken = h.taken; quota = h.quota; seen = h.seen; told = h.told; row = h.row; stored = h.stored; steps = h.steps }

pub nothing_then : (v u w : View Part) → TellsNothing v u → TellsNothing u w → TellsNothing v w
nothing_then v u w a b = record {
  number = b.number ∙ a.number;
  span = b.span ∙ a.span;
  taken = b.taken ∙ a.taken;
  quota = b.quota ∙ a.quota;
  seen = b.seen ∙ a.seen;
  told = b.told ∙ a.told;
  row = b.row ∙ a.row;
  stored = b.stored ∙ a.stored;
  steps = more_then v u w a.steps b.steps;
}

-- a choice that is known
chosen_true : (b : Bool) (A B : Type 0) → b ≡ true → A → MatchBool b A B
chosen_true true A B e a = a
chosen_true false A B e a = absurd (cc)

chosen_false : (b : Bool) (A B : Type 0) → b ≡ false → B → MatchBool b A B
chosen_false true A B e a = absurd (cc)
chosen_false false A B e a = a

place_read_at : (n : ℕ) (said : Said) → is_write said ≡ false → 2 * n ≡ place_of n said
place_read_at n said e = sym (ap (λ (b : Bool). cond b (2 * n + 1) (2 * n)) e)

place_write_at : (n : ℕ) (said : Said) → is_write said ≡ true → 2 * n + 1 ≡ place_of n said
place_write_at n said e = sym (ap (λ (b : Bool). cond b (2 * n + 1) (2 * n)) e)

of_two : (b : Bool) (x y cell : ℕ) → Has (cond b [] (x ∷ y ∷ [])) cell → Has (x ∷ y ∷ []) cell
of_two true x y cell h = absurd h
of_two false x y cell h = h

-- the cells that a reply speaks of are among those that its query names
spoken_named : (q : Query) (cell : ℕ) → Has (spoken_cells q) cell → Has (named_cells q) cell
spoken_named (query.Get c k) cell h = h
spoken_named (query.Len c) cell h = h
spoken_named (query.Put c k v) cell h = h
spoken_named (query.Del c k) cell h = h
spoken_named (query.Add c k d) cell h = h
spoken_named (query.Cas c k x y) cell h = h
spoken_named (query.PutLen c k v) cell h = h
spoken_named (query.Move a b k n) cell h = of_two (a == b) a b cell h
spoken_named (query.Both a b k) cell h = of_two (a == b) a b cell h
spoken_named (query.TryGet c k) cell h = h
spoken_named (query.TryPut c k v) cell h = h
spoken_named (query.GetBy c k t) cell h = h
spoken_named (query.PutBy c k v t) cell h = h
spoken_named (query.Give k n) cell h = h
spoken_named (query.Take k n) cell h = h
spoken_named query.Audit cell h = h

-- a pass that holds the cells that a query names exclusively holds those that its reply speaks of so
pub holds_written : (v : View Part) (q : Query) (said : Said) → mode_for q said ≡ exclusive_mode → ((cell : ℕ) → Has (named_cells q) cell → mode_of (standing v cell) ≡ exclusive_mode) → HoldsFor q said v
holds_written v q said mode holds = record { each = λ cell has. holds cell (spoken_named q cell has) ∙ sym mode }

-- a read that was placed was told
pub read_told : (c : MapCargo) (v w : View Part) (index : ℕ) (q : Query) (said : Said) (n : ℕ) → MayPlace c v (entry_for v.number index q said) → HoldsFor q said v → Alike v w → w.part ≡ placed v.part n (entry_for v.number index q said) → v.part.seen ≤ n → w.steps ≡ cargo_step v LoadCargo (number_place c) n false ∷ v.steps
    → Tells c v w index q (Placed (2 * n) said)
read_told c v w index q said n may holds alike is behind step = record {
  number = alike.number;
  span = alike.span;
  taken = alike.taken;
  quota = chosen_false (is_write said) _ _ may.reads alike.quota;
  kind = said_kind c.rows (plain_of v.part) q said may.said;
  of_maps = refl;
  told = (n, place_read_at n said may.reads, behind, chosen_false (is_write said) _ _ may.reads (ap (λ (p : Part). p.seen) is, ap (λ (p : Part). p.told) is));
  placing = placed_read c v w q said n alike holds may.reads (place_read_at n said may.reads) step;
}

pub read_follows : (c : MapCargo) (v w : View Part) (index : ℕ) (q : Query) (said : Said) (n : ℕ) → MayPlace c v (entry_for v.number index q said) → w.part ≡ placed v.part n (entry_for v.number index q said) → IsRested v.part → Follows v w q said
read_follows c v w index q said n may is rested = record {
  plain = λ cell. ap (λ (p : Part). plain_of p cell) is ∙ sym (ap (λ (b : Bool). cond b (written (plain_of v.part) q) (plain_of v.part) cell) may.reads);
  words = λ cell. ap (λ (p : Part). words_of p cell) is;
  rested = ap (λ (p : Part). p.stored) is ∙ rested;
}

-- a write that was drawn was told
pub write_told : (c : MapCargo) (v w : View Part) (index : ℕ) (q : Query) (said : Said) (n : ℕ) → MayDraw c v (entry_for v.number index q said) → Stays v w → Drew 8 v.part w.part n (entry_for v.number index q said) → w.quota + 1 ≡ v.quota → mode_for q said ≡ exclusive_mode
    → w.steps ≡ row_stores v c n (entry_for v.number index q said) 8 ++ (cargo_step v AddCargo (number_place c) n true ∷ v.steps) → Tells c v w index q (Placed (2 * n + 1) said)
write_told c v w index q said n may stays drew quota mode steps = record {
  number = stays.number;
  span = stays.span;
  taken = stays.taken;
  quota = chosen_true (is_write said) _ _ may.writes quota;
  kind = said_kind c.rows (plain_of v.part) q said may.said;
  of_maps = refl;
  told = (n, place_write_at n said may.writes, drew.fresh, chosen_true (is_write said) _ _ may.writes (drew.seen, drew.told));
  placing = placed_write c v w q said n (entry_for v.number index q said) stays (holds_written v q said mode may.holds) may.writes (place_write_at n said may.writes) steps;
}

pub write_follows : (c : MapCargo) (v w : View Part) (index : ℕ) (q : Query) (said : Said) (n : ℕ) → MayDraw c v (entry_for v.number index q said) → Drew 8 v.part w.part n (entry_for v.number index q said) → Follows v w q said
write_follows c v w index q said n may drew = record {
  plain = λ cell. drew.plain cell ∙ sym (ap (λ (b : Bool). cond b (written (plain_of v.part) q) (plain_of v.part) cell) may.writes);
  words = λ cell. ap (λ (l : List (ℕ × List ℕ)). lookup [] l cell) drew.words;
  rested = drew.stores;
}

is_held : (m : Option Mode) → m ≡ exclusive_mode → m ≢ None
is_held m e none = cc

-- what may be told of cells held for writing may be placed, or drawn
pub may_place : (c : MapCargo) (v : View Part) (index : ℕ) (q : Query) (said : Said) → MayTell c v q said → is_write said ≡ false → MayPlace c v (entry_for v.number index q said)
may_place c v index q said may reads = record {
  near = λ cell has. may.near cell (spoken_named q cell has);
  holds = λ cell has. is_held (mode_of (standing v cell)) (may.holds cell (spoken_named q cell has));
  said = may.says;
  reads = reads;
}

pub may_hold : (c : MapCargo) (v : View Part) (q : Query) (said : Said) → MayTell c v q said → HoldsFor q said v
may_hold c v q said may = holds_written v q said may.mode may.holds

pub may_draw : (c : MapCargo) (v : View Part) (index : ℕ) (q : Query) (said : Said) → MayTell c v q said → is_write said ≡ true → MayDraw c v (entry_for v.number index q said)
may_draw c v index q said may writes = record { near = may.near; holds = may.holds; said = may.says; writes = writes; rested = may.rested }

-- a pass that gave its one cell back is idle
pub idle_again : (v w : View Part) (lock : ℕ) → standing w lock ≡ Away → ElsewhereSame v w lock → OnlyAt lock v → IsRested w.part → IsIdle w
idle_again v w lock away same only rested = (everywhere w lock away (λ k ne. same k ne ∙ only k ne), rested)

-- a cell whose words are those that the reply leaves is settled once the reply was told
pub settled_again : (v w : View Part) (cell : ℕ) (q : Query) (said : Said) → Stored v cell q said → Follows v w q said → IsSettled cell w.part
settled_again v w cell q said stored follows = subst (λ (l : List ℕ). Means l (plain_of w.part cell)) (sym (follows.words cell)) (subst (Means (words_of v.part cell)) (sym (follows.plain cell)) stored)
