-- Two cells that are held at once.
use Rattle.std.specs.Prelude.{◌≡◌, ◌≢◌, ℕ, ◌<◌, ◌≤◌, ◌==◌, Bool, true, false, cond, List, [], ◌∷◌, Some, None, Option, slice_index_or}
use Rattle.std.proofs.Common.{refl, sym, ap, ◌∙◌, subst, ⊎_elim, eq-eqb}
use Rattle.lock_model.specs.Locks.{Has}
use Rattle.lock_model.specs.declared.model.Mode.{Mode}
use Rattle.lock_model.specs.declared.model.Mode.TheVariants as modes
use Rattle.hall.specs.declared.view.Shape.{Shape}
use Rattle.hall.specs.declared.view.View.{View}
use Rattle.hall.specs.declared.view.Standing.{Standing}
use Rattle.hall.specs.declared.view.Standing.TheVariants.{Away}
use Rattle.hall.specs.Views.{standing, mode_of}
use Rattle.acquire_many.specs.declared.guards.Guards.{Guards}
use Rattle.query_rules.specs.declared.Query.{Query}
use Rattle.query_rules.specs.declared.Query.TheVariants as query
use Rattle.query_rules.specs.declared.query.Said.{Said}
use Rattle.query_rules.specs.declared.query.Said.TheVariants.{Same, Pair}
use Rattle.query_rules.specs.Maps.{Maps, reply_of, is_write, after, written, move_says}
use Rattle.map_cargo.specs.declared.size.MapCargo.{MapCargo}
use Rattle.map_cargo.specs.declared.entry.Part.{Part}
use Rattle.map_cargo.specs.Cells.{Means, lookup}
use Rattle.map_cargo.specs.Openings.{map_made, unmade}
use Rattle.map_cargo.specs.History.{words_of, plain_of, IsSettled, IsRested}
use Rattle.map_cargo.specs.StepLaws.{alike_none, alike_then}
use Rattle.map_cargo.specs.Steps.{Alike, Stays, Left, MayPlace, IsIdle, Reworded}
use Rattle.query_cells.specs.Asked.{entry_for}
use Rattle.query_cells.specs.Answers.{ChangesWords, Follows, HoldsFor, Leaves, MayTell, TellsNothing}
use Rattle.query_cells.specs.Two.{GuardsBoth, HoldsCells}

-- one hold given back after another
pub both_left : (v u w : View Part) → Left v u → Left u w → Left v w
both_left v u w a b = record { part = b.part ∙ a.part; number = b.number ∙ a.number; quota = b.quota ∙ a.quota; span = b.span ∙ a.span; taken = b.taken ∙ a.taken }

-- looking at words, changing them, and one after the other
pub words_none : (v : View Part) → ChangesWords v v
words_none v = record { alike = alike_none v; made = refl; seen = refl; told = refl; row = refl; stored = refl }

pub words_read : (v w : View Part) → Alike v w → w.part ≡ v.part → ChangesWords v w
words_read v w alike same = record {
  alike = alike;
  made = ap (λ (p : Part). p.made) same;
  seen = ap (λ (p : Part). p.seen) same;
  told = ap (λ (p : Part). p.told) same;
  row = ap (λ (p : Part). p.row) same;
  stored = ap (λ (p : Part). p.stored) same;
}

pub words_put : (v w : View Part) (cell : ℕ) → Alike v w → Reworded cell v.part w.part → ChangesWords v w
words_put v w cell alike h = record { alike = alike; made = h.made; seen = h.seen; told = h.told; row = h.row; stored = h.stored }

pub words_then : (v u w : View Part) → ChangesWords v u → ChangesWords u w → ChangesWords v w
words_then v u w a b = record {
  alike = alike_then v u w a.alike b.alike;
  made = b.made ∙ a.made;
  seen = b.seen ∙ a.seen;
  told = b.told ∙ a.told;
  row = b.row ∙ a.row;
  stored = b.stored ∙ a.stored;
}

-- changing words tells nothing
pub words_tell_nothing : (v w : View Part) → ChangesWords v w → TellsNothing v w
words_tell_nothing v w h = record { number = h.alike.number; span = h.alike.span; taken = h.alike.taken; quota = h.alike.quota; seen = h.seen; told = h.told; row = h.row; stored = h.stored; steps = h.alike.steps }

still_stands : (v w : View Part) (k : ℕ) → w.standings ≡ v.standings → standing w k ≡ standing v k
still_stands v w k same = ap (λ (l : List Standing). slice_index_or l k Away) same

same_plain : (p r : Part) → r.made ≡ p.made → plain_of r ≡ plain_of p
same_plain p r same = λ i cell. map_made (lookup unmade (same i) cell) cell

-- what is so of both is so of each
pub one_of_two : (P : ℕ → Type 0) (a b k : ℕ) → Has (a ∷ b ∷ []) k → P a → P b → P k
one_of_two P a b k has x y = ⊎_elim (λ e. subst P (sym e) x) (λ more. ⊎_elim (λ e. subst P (sym e) y) (λ bad. absurd bad) more) has

-- a move between two held cells may be told
pub may_move : (c : MapCargo) (o v w : View Part) (from to key n : ℕ) (said : Said) → from < c.cells → to < c.cells → HoldsCells (from ∷ to ∷ []) modes.Exclusive v → ChangesWords v w → reply_of c.rows (plain_of v.part) (query.Move from to key n) ≡ Some said → TellsNothing o v → 1 ≤ o.quota → IsRested o.part
    → MayTell c w (query.Move from to key n) said
may_move c o v w from to key n said near_from near_to h words says quiet quota rested = record {
  near = λ k has. one_of_two (λ (i : ℕ). i < c.cells) from to k has near_from near_to;
  holds = λ k has. ap mode_of (still_stands v w k words.alike.standings) ∙ h.each k has;
  mode = refl;
  says = ap (λ (m : Maps). reply_of c.rows m (query.Move from to key n)) (same_plain v.part w.part words.made) ∙ says;
  quota = λ e. subst (λ (q : ℕ). 1 ≤ q) (sym (words.alike.quota ∙ quiet.quota)) quota;
  rested = words.stored ∙ quiet.stored ∙ rested;
}

-- the guards of two cells fit as long as the pass stands where it did
still_guarded : (shape : Shape) (a b : ℕ) (mode : Mode) (guards : Guards) (v x : View Part) → x.standings ≡ v.standings → ((k : ℕ) → Has (a ∷ b ∷ []) k → IsSettled k x.part) → GuardsBoth shape a b mode guards v → GuardsBoth shape a b mode guards x
still_guarded shape a b mode guards v x same settled h = record {
  holds = record {
    each = λ k has. ap mode_of (still_stands v x k same) ∙ h.holds.each k has;
    others = λ k none. still_stands v x k same ∙ h.holds.others k none;
    settled = settled;
  };
  fits = record { each = λ k hold at. let is = h.fits.each k hold at in (is.0, still_stands v x hold.0 same ∙ is.1, is.2); apart = h.fits.apart };
  held = h.held;
}

settled_after : (v w x : View Part) (cell : ℕ) (q : Query) (said : Said) → w.part.made ≡ v.part.made → Leaves cell v w q said → Follows w x q said → IsSettled cell x.part
settled_after v w x cell q said same h follows =
    subst (λ (l : List ℕ). Means l (plain_of x.part cell)) (sym (follows.words cell)) (subst (Means (words_of w.part cell)) (sym (follows.plain cell))
    (subst (λ (m : Maps). Means (words_of w.part cell) (after m q said cell)) (sym (same_plain v.part w.part same)) h))

-- both cells are settled once it was told
pub two_told : (shape : Shape) (a b : ℕ) (guards : Guards) (v w x : View Part) (q : Query) (said : Said) → GuardsBoth shape a b modes.Exclusive guards v → ChangesWords v w → Stays w x → Follows w x q said → Leaves a v w q said → Leaves b v w q said → GuardsBoth shape a b modes.Exclusive guards x
two_told shape a b guards v w x q said h words stays follows leaves_a leaves_b =
    still_guarded shape a b modes.Exclusive guards v x (stays.standings ∙ words.alike.standings)
    (λ k has. one_of_two (λ (i : ℕ). IsSettled i x.part) a b k has (settled_after v w x a q said words.made leaves_a follows) (settled_after v w x b q said words.made leaves_b follows)) h

pub is_held : (o : Option Mode) (mode : Mode) → o ≡ Some mode → o ≢ None
is_held o mode is none = let e : None ≡ Some mode = sym none ∙ is in cc

spoken_two : (t : Bool) (x y cell : ℕ) → Has (cond t [] (x ∷ y ∷ [])) cell → Has (x ∷ y ∷ []) cell
spoken_two true x y cell h = absurd h
spoken_two false x y cell h = h

-- what was read of two held cells may be placed
pub may_both : (c : MapCargo) (v w : View Part) (index a b key : ℕ) (said : Said) → a < c.cells → b < c.cells → HoldsCells (a ∷ b ∷ []) modes.Shared v → Alike v w → w.part ≡ v.part → reply_of c.rows (plain_of v.part) (query.Both a b key) ≡ Some said → is_write said ≡ false
    → MayPlace c w (entry_for w.number index (query.Both a b key) said)
may_both c v w index a b key said near_a near_b h alike same says reads = record {
  near = λ k has. one_of_two (λ (i : ℕ). i < c.cells) a b k (spoken_two (a == b) a b k has) near_a near_b;
  holds = λ k has. is_held (mode_of (standing w k)) modes.Shared (ap mode_of (still_stands v w k alike.standings) ∙ h.each k (spoken_two (a == b) a b k has));
  said = ap (λ (p : Part). reply_of c.rows (plain_of p) (query.Both a b key)) same ∙ says;
  reads = reads;
}

pub two_read : (shape : Shape) (a b : ℕ) (guards : Guards) (v w x : View Part) (q : Query) (said : Said) → GuardsBoth shape a b modes.Shared guards v → ChangesWords v w → w.part ≡ v.part → Alike w x → Follows w x q said → is_write said ≡ false → GuardsBoth shape a b modes.Shared guards x
two_read shape a b guards v w x q said h words same alike follows reads =
    let settled : (k : ℕ) → IsSettled k v.part → IsSettled k x.part = λ k s.
    subst (λ (l : List ℕ). Means l (plain_of x.part k)) (sym (follows.words k ∙ ap (λ (p : Part). words_of p k) same))
    (subst (Means (words_of v.part k)) (sym (follows.plain k ∙ ap (λ (t : Bool). cond t (written (plain_of w.part) q) (plain_of w.part) k) reads ∙ ap (λ (p : Part). plain_of p k) same)) s) in
    still_guarded shape a b modes.Shared guards v x (alike.standings ∙ words.alike.standings) (λ k has. settled k (h.holds.settled k has)) h

-- two cells that are the same one
eq_test : (a b : ℕ) → a ≡ b → (a == b) ≡ true
eq_test a b e = eq-eqb a b e

pub may_same_move : (c : MapCargo) (v : View Part) (index a b key n : ℕ) → a ≡ b → MayPlace c v (entry_for v.number index (query.Move a b key n) Same)
may_same_move c v index a b key n e =
    let none : (t : Bool) → t ≡ true → (k : ℕ) → Has (cond t [] (a ∷ b ∷ [])) k → ⊥ = λ t is k has. subst (λ (z : Bool). Has (cond z [] (a ∷ b ∷ [])) k) is has in record {
      near = λ k has. absurd (none (a == b) (eq_test a b e) k has);
      holds = λ k has. absurd (none (a == b) (eq_test a b e) k has);
      said = ap (λ (t : Bool). Some (cond t Same (move_says c.rows (plain_of v.part a) (plain_of v.part b) key n))) (eq_test a b e);
      reads = refl;
    }

pub may_same_both : (c : MapCargo) (v : View Part) (index a b key : ℕ) → a ≡ b → MayPlace c v (entry_for v.number index (query.Both a b key) Same)
may_same_both c v index a b key e =
    let none : (t : Bool) → t ≡ true → (k : ℕ) → Has (cond t [] (a ∷ b ∷ [])) k → ⊥ = λ t is k has. subst (λ (z : Bool). Has (cond z [] (a ∷ b ∷ [])) k) is has in record {
      near = λ k has. absurd (none (a == b) (eq_test a b e) k has);
      holds = λ k has. absurd (none (a == b) (eq_test a b e) k has);
      said = ap (λ (t : Bool). Some (cond t Same (Pair ((plain_of v.part a).value_at key) ((plain_of v.part b).value_at key)))) (eq_test a b e);
      reads = refl;
    }

pub idle_alike : (v w : View Part) → Alike v w → IsRested w.part → IsIdle v → IsIdle w
idle_alike v w alike rested idle = (λ k. still_stands v w k alike.standings ∙ idle.0 k, rested)

-- two cells that are held for reading are held as their query asks
pub two_for : (v w : View Part) (a b key : ℕ) (said : Said) → HoldsCells (a ∷ b ∷ []) modes.Shared v → Alike v w → HoldsFor (query.Both a b key) said w
two_for v w a b key said h alike = record { each = λ k has. ap mode_of (still_stands v w k alike.standings) ∙ h.each k (spoken_two (a == b) a b k has) }

-- of two cells that are the same one nothing is held
pub none_for_move : (v : View Part) (a b key n : ℕ) (said : Said) → a ≡ b → HoldsFor (query.Move a b key n) said v
none_for_move v a b key n said e = record { each = λ k has. absurd (subst (λ (t : Bool). Has (cond t [] (a ∷ b ∷ [])) k) (eq_test a b e) has) }

pub none_for_both : (v : View Part) (a b key : ℕ) (said : Said) → a ≡ b → HoldsFor (query.Both a b key) said v
none_for_both v a b key said e = record { each = λ k has. absurd (subst (λ (t : Bool). Has (cond t [] (a ∷ b ∷ [])) k) (eq_test a b e) has) }
