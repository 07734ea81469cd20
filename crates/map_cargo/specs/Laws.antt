-- The laws of the cargo: gaining, lowering, splitting and joining keep one history.
use Rattle.std.specs.Prelude.{◌≡◌, ◌≢◌, ℕ, ◌+◌, ◌*◌, ◌<◌, ◌≤◌, ◌^◌, ◌⊎◌, cond, eqb, nat_lt, true, false, List, [], ◌∷◌, ◌++◌, length, drop, slice_index, slice_index_or, slice_set, Option, Some, None}
use Rattle.std.proofs.Common.{suc, zero, sym, refl, ap, ◌∙◌, subst, ⊎_elim, inl, inr, eq-eqb, ne_eqb, arith, get_or-set_other, get_or-drop}
use Rattle.std.proofs.lemmas.List.{get_or-take, length-take}
use mathlib.Core.Option.{some, some-injective, some-ne-none}
use mathlib.Core.Logic.{dite}
use native.Mathlib.Decide.{ℕ_discrete}
use Rattle.std.proofs.Math.Decide.{dec_lt}
use lib.ListN.{get_elem?}
use Rattle.atomic_table.proofs.Lists.{at_set, at_snoc, at_longer, set_here, set_else}
use Rattle.view_sums.specs.Sums.{total, total-append, total-set, total-same, there, one_there}
use Rattle.lock_model.specs.Locks.{Has}
use Rattle.lock_model.specs.declared.model.Mode.{Mode}
use Rattle.lock_model.specs.declared.model.Mode.TheVariants.{Shared, Upgrade, Exclusive}
use Rattle.hall.specs.Cargo.{Together, Compatible, Lowers, upgrade_mode, exclusive_mode, changed_seat, split_seat, joined_seat, spent_seat}
use Rattle.query_rules.specs.Maps.{PlainMap, no_keys}
use Rattle.query_rules.specs.History.{maps_after}
use Rattle.map_cargo.specs.declared.size.MapCargo.{MapCargo}
use Rattle.map_cargo.specs.declared.entry.Entry.{Entry}
use Rattle.map_cargo.specs.declared.entry.Told.{Told}
use Rattle.map_cargo.specs.declared.entry.Told.TheVariants.{Wrote}
use Rattle.map_cargo.specs.declared.entry.Made.{Made}
use Rattle.map_cargo.specs.declared.entry.Part.{Part}
use Rattle.map_cargo.specs.Cells.{width, number_place, log_place, word_count, cell_words, AreRowsOf, Means, lookup}
use Rattle.map_cargo.specs.Entries.{queries, log_words}
use Rattle.map_cargo.specs.Rows.{rows_in, used_at, IsUsed, sum_of_rows}
use Rattle.map_cargo.specs.Openings.{opening_in, first_maps, map_made, unmade}
use Rattle.map_cargo.specs.History.{Seat, Stands, is_wrote, stored, mode_at, words_of, plain_of, Knows, Each, OneHistory, learnt, Learns, IsSettled, IsRested, first_part, split_part, joined_part, max_of}

module _ {A : Type 0} (d : A) where
  pub lookup_here : (xs : List (ℕ × A)) (k : ℕ) (x : A) → lookup d ((k, x) ∷ xs) k ≡ x
  lookup_here xs k x = ap (λ b. cond b x (lookup d xs k)) (eq-eqb k k refl)

  pub lookup_else : (xs : List (ℕ × A)) (k j : ℕ) (x : A) → j ≢ k → lookup d ((k, x) ∷ xs) j ≡ lookup d xs j
  lookup_else xs k j x ne = ap (λ b. cond b x (lookup d xs j)) (ne_eqb k j (λ e. ne (sym e)))

pub each_set : (F : Seat → Type 0) (qs : List Seat) (id : ℕ) (r : Seat) → Each F qs → F r → Each F (slice_set qs id r)
each_set F qs id r all one j u e = ⊎_elim (λ t. subst F t.1 one) (λ t. all j u t.1) (at_set qs id j r u e)

pub each_back : (F : Seat → Type 0) (qs : List Seat) (id : ℕ) (q r : Seat) → get_elem? qs id ≡ some q → Each F (slice_set qs id r) → (F r → F q) → Each F qs
each_back F qs id q r at all back j u e = dite (ℕ_discrete j id)
    (λ same. subst F (one_there qs id q u at (subst (λ (i : ℕ). get_elem? qs i ≡ some u) same e)) (back (all id r (set_here qs id r (there qs id q at)))))
    (λ ne. all j u (set_else qs id j r ne ∙ e))

is_exclusive : (m : Option Mode) → (m ≡ exclusive_mode) ⊎ (m ≢ exclusive_mode)
is_exclusive None = inr (λ e. cc)
is_exclusive (Some Shared) = inr (λ e. cc)
is_exclusive (Some Upgrade) = inr (λ e. cc)
is_exclusive (Some Exclusive) = inl refl

not_beside : (m x : Option Mode) → m ≢ None → Together m x → x ≢ exclusive_mode
not_beside None x ne t e = ne refl
not_beside (Some Shared) x ne t e = let bad : false ≡ true = subst (Together (Some Shared)) e t in cc
not_beside (Some Upgrade) x ne t e = let bad : false ≡ true = subst (Together (Some Upgrade)) e t in cc
not_beside (Some Exclusive) x ne t e = let bad : false ≡ true = subst (Together (Some Exclusive)) e t in cc

zero_words : (n : ℕ) (ws : List ℕ) (p i : ℕ) → ((k : ℕ) → slice_index ws k ≡ 0) → i < n → slice_index (Rattle.std.specs.Prelude.take n (drop p ws)) i ≡ 0
zero_words n ws p i none low = get_or-take n (drop p ws) i 0 low ∙ get_or-drop p ws i 0 ∙ none (p + i)

no_sum : (f : ℕ → ℕ) (n : ℕ) → ((r : ℕ) → r < n → f r ≡ 0) → sum_of_rows f n ≡ 0
no_sum f zero none = refl
no_sum f (suc n) none = let x = no_sum f n (λ r low. none r (omega arith)) in let y = none n (omega arith) in omega arith

-- words that are all 0 mean the map without keys
empty : (words : List ℕ) → ((i : ℕ) → i < length words → slice_index words i ≡ 0) → slice_index words 0 ≡ 0 → Means words no_keys
unfolding AreRowsOf
empty words none first =
    let unused : (r : ℕ) → r < rows_in words → used_at words r ≡ 0 = λ r low. none (3 * r + 1) (omega arith) in let no : (r : ℕ) → IsUsed (rows_in words) words r → ⊥ = λ r u. (let x = unused r u.below in let y = u.marked in omega arith) in record {
      count = first;
      rows = record {
        holds = record {
          marks = λ r low. (let x = unused r low in omega arith);
          many = no_sum (used_at words) (rows_in words) unused;
          there = λ r u. absurd (no r u);
          only = λ key value bad. absurd (cc);
          distinct = λ r s u. absurd (no r u);
        };
        reached = λ r i u. absurd (no r u);
      };
    }

pub Has-split : {A : Type 0} (xs ys : List A) (a : A) → Has (xs ++ ys) a → Has xs a ⊎ Has ys a
Has-split [] ys a h = inr h
Has-split (x ∷ xs) ys a h = ⊎_elim (λ t. inl (inl t)) (λ t. ⊎_elim (λ p. inl (inr p)) inr (Has-split xs ys a t)) h

max_below : (a b n : ℕ) → a ≤ n → b ≤ n → max_of a b ≤ n
max_below a b n one two = elim (nat_lt a b) as (λ z. cond z b a ≤ n) [ true ↦ two | false ↦ one ]

pub all_stored : (p : Part) (w : ℕ) → p.stored ≡ 8 → stored p w ≡ 8
all_stored p w is = elim (eqb p.row w) as (λ b. cond b p.stored 8 ≡ 8) [ true ↦ is | false ↦ refl ]

-- the law of the start, where no map has a key
pub starts : (c : MapCargo) (ws : List ℕ) (q : Seat) (quota : ℕ) → length ws ≡ word_count c → ((k : ℕ) → slice_index ws k ≡ 0) → ((lock : ℕ) → slice_index_or q.modes lock None ≡ None) → (quota ≤ c.writes) × (c.writes < 2 ^ 64) → q.quota ≡ quota → q.part ≡ first_part
    → OneHistory c ws (q ∷ [])
starts c ws q quota size none off admits quota_is part_is = record {
  entries = [];
  size = size;
  number = none (number_place c);
  room = (let a = admits.0 in omega arith);
  few = admits.1;
  knows = λ j r e. elim j as (λ i. get_elem? (q ∷ []) i ≡ some r → Knows c [] ws r) [
    | zero ↦ λ e. subst (Knows c [] ws) (some-injective q r e) record {
      seen = subst (λ (p : Part). p.seen ≤ 0) (sym part_is) (omega arith);
      told = subst (λ (p : Part). (t : Told) → Has p.told t → Stands (first_maps c) c.rows [] t) (sym part_is) (λ t bad. absurd bad);
      logged = subst (λ (p : Part). (w : ℕ) (e : Entry) → Has p.told (Wrote w e) → (j : ℕ) → j < 8 → j < stored p w → slice_index ws (log_place c w j) ≡ slice_index (log_words e) j) (sym part_is) (λ w e bad. absurd bad);
      known = λ cell below has. absurd (has (off cell));
    }
    | suc i ↦ λ e. absurd (some-ne-none r (sym e))
  ] e;
  once = λ w bad. absurd (omega arith);
  calm = λ cell below nobody. empty (cell_words c ws cell) (λ i low. zero_words (width c) ws (cell * width c) i none (let l = length-take (width c) (drop (cell * width c) ws) in omega (arith, l))) (zero_words (width c) ws (cell * width c) 0 none (omega arith));
}

module _ (c : MapCargo) where
  module _ (ws : List ℕ) (qs : List Seat) (id lock : ℕ) (m : Option Mode) (q : Seat) (h : OneHistory c ws qs) (at : get_elem? qs id ≡ some q) where
    abbrev now : ℕ → PlainMap
    now cell = maps_after (first_maps c) (queries h.entries) cell

    gained : (free : mode_at q lock ≡ None) (words : List ℕ) (made : Made) → (lock < c.cells → (words ≡ cell_words c ws lock) × (map_made made lock ≡ now lock))
        → OneHistory c ws (slice_set qs id (changed_seat q lock m (learnt q.part lock words made)))
    gained free words made are =
        let r : Seat = changed_seat q lock m (learnt q.part lock words made) in let k = h.knows id q at in record {
          entries = h.entries;
          size = h.size;
          number = h.number;
          room = subst (λ (n : ℕ). length h.entries + n ≤ c.writes) (sym (total-same (λ (u : Seat). u.quota) qs id q r at refl)) h.room;
          few = h.few;
          knows = each_set (Knows c h.entries ws) qs id r h.knows record {
            seen = k.seen;
            told = k.told;
            logged = k.logged;
            known = λ cell below has. dite (ℕ_discrete cell lock)
                (λ same. let F : ℕ → Type 0 = λ i. (lookup [] ((lock, words) ∷ q.part.words) i ≡ cell_words c ws i) × (map_made (lookup unmade ((lock, made) ∷ q.part.made) i) i ≡ now i) in
                let t = are (subst (λ (i : ℕ). i < c.cells) same below) in subst F (sym same) (lookup_here [] q.part.words lock words ∙ t.0, ap (λ (x : Made). map_made x lock) (lookup_here unmade q.part.made lock made) ∙ t.1))
                (λ ne. let t = k.known cell below (λ none. has (get_or-set_other q.modes lock cell m None ne ∙ none)) in (lookup_else [] q.part.words lock cell words ne ∙ t.0, ap (λ (x : Made). map_made x cell) (lookup_else unmade q.part.made lock cell made ne) ∙ t.1));
          };
          once = λ w below. total-same (λ (u : Seat). total (is_wrote w) u.part.told) qs id q r at refl ∙ h.once w below;
          calm = λ cell below nobody. h.calm cell below (each_back (λ (u : Seat). mode_at u cell ≢ exclusive_mode) qs id q r at nobody (λ off e. dite (ℕ_discrete cell lock)
              (λ same. let bad : None ≡ exclusive_mode = sym free ∙ subst (λ (i : ℕ). mode_at q i ≡ exclusive_mode) same e in cc)
              (λ ne. off (get_or-set_other q.modes lock cell m None ne ∙ e))));
        }

    -- the law of a gain; at a lock that guards no cell there is nothing to know
    pub gain_keeps : slice_index_or q.modes lock None ≡ None → m ≢ None → Compatible qs id lock m
        → (part : Part) × Learns lock q.part part × OneHistory c ws (slice_set qs id (changed_seat q lock m part))
    gain_keeps free some' fits = dite (dec_lt lock c.cells)
        (λ below.
        let words : List ℕ = cell_words c ws lock in let made : Made = record { opening = opening_in c; writes = queries h.entries } in
        let means : Means words (now lock) = h.calm lock below (λ j u e. dite (ℕ_discrete j id)
        (λ same w. let is : q ≡ u = one_there qs id q u at (subst (λ (i : ℕ). get_elem? qs i ≡ some u) same e) in let bad : None ≡ exclusive_mode = sym free ∙ ap (λ (z : Seat). mode_at z lock) is ∙ w in cc)
        (λ ne. not_beside m (mode_at u lock) some' (fits j u e ne))) in
        (learnt q.part lock words made, (words, made, means, refl), gained free words made (λ _. (refl, refl))))
        (λ far. (
          learnt q.part lock [] unmade,
          ([], unmade, empty [] (λ i low. refl) refl, refl),
          gained free [] unmade (λ below. absurd (far below)),
        ))

    -- the law of a loss
    pub lower_keeps : Lowers (slice_index_or q.modes lock None) m → (slice_index_or q.modes lock None ≡ exclusive_mode → IsSettled lock q.part) → OneHistory c ws (slice_set qs id (changed_seat q lock m q.part))
    lower_keeps down settled =
        let r : Seat = changed_seat q lock m q.part in let k = h.knows id q at in
        let held : mode_at q lock ≢ None = λ none. subst (λ (z : Option Mode). Lowers z m) none down in
        let same_there : (cell : ℕ) → cell ≢ lock → mode_at r cell ≡ mode_at q cell = λ cell ne. get_or-set_other q.modes lock cell m None ne in record {
          entries = h.entries;
          size = h.size;
          number = h.number;
          room = subst (λ (n : ℕ). length h.entries + n ≤ c.writes) (sym (total-same (λ (u : Seat). u.quota) qs id q r at refl)) h.room;
          few = h.few;
          knows = each_set (Knows c h.entries ws) qs id r h.knows record {
            seen = k.seen;
            told = k.told;
            logged = k.logged;
            known = λ cell below has. k.known cell below (λ none. dite (ℕ_discrete cell lock)
                (λ same. held (subst (λ (i : ℕ). mode_at q i ≡ None) same none)) (λ ne. has (same_there cell ne ∙ none)));
          };
          once = λ w below. total-same (λ (u : Seat). total (is_wrote w) u.part.told) qs id q r at refl ∙ h.once w below;
          calm = λ cell below nobody. ⊎_elim
              (λ was. dite (ℕ_discrete cell lock)
              (λ same. let F : ℕ → Type 0 = λ i. Means (cell_words c ws i) (now i) in
              let t = k.known lock (subst (λ (i : ℕ). i < c.cells) same below) held in
              subst F (sym same) (subst (λ (z : List ℕ). Means z (now lock)) t.0 (subst (λ (z : PlainMap). Means (words_of q.part lock) z) t.1 (settled (subst (λ (i : ℕ). mode_at q i ≡ exclusive_mode) same was)))))
              (λ ne. absurd (nobody id r (set_here qs id r (there qs id q at)) (same_there cell ne ∙ was))))
              (λ not'. h.calm cell below (each_back (λ (u : Seat). mode_at u cell ≢ exclusive_mode) qs id q r at nobody (λ _. not')))
              (is_exclusive (mode_at q cell));
        }

  -- the law of a raise
  pub raise_keeps : (ws : List ℕ) (qs : List Seat) (id lock : ℕ) (q : Seat) → OneHistory c ws qs → get_elem? qs id ≡ some q → slice_index_or q.modes lock None ≡ upgrade_mode → Compatible qs id lock exclusive_mode
      → OneHistory c ws (slice_set qs id (changed_seat q lock exclusive_mode q.part))
  raise_keeps ws qs id lock q h at up fits =
      let r : Seat = changed_seat q lock exclusive_mode q.part in let k = h.knows id q at in record {
        entries = h.entries;
        size = h.size;
        number = h.number;
        room = subst (λ (n : ℕ). length h.entries + n ≤ c.writes) (sym (total-same (λ (u : Seat). u.quota) qs id q r at refl)) h.room;
        few = h.few;
        knows = each_set (Knows c h.entries ws) qs id r h.knows record {
          seen = k.seen;
          told = k.told;
          logged = k.logged;
          known = λ cell below has. k.known cell below (λ none. dite (ℕ_discrete cell lock)
              (λ same. let bad : upgrade_mode ≡ None = sym up ∙ subst (λ (i : ℕ). mode_at q i ≡ None) same none in cc)
              (λ ne. has (get_or-set_other q.modes lock cell exclusive_mode None ne ∙ none)));
        };
        once = λ w below. total-same (λ (u : Seat). total (is_wrote w) u.part.told) qs id q r at refl ∙ h.once w below;
        calm = λ cell below nobody. h.calm cell below (each_back (λ (u : Seat). mode_at u cell ≢ exclusive_mode) qs id q r at nobody (λ off e. dite (ℕ_discrete cell lock)
            (λ same. let bad : upgrade_mode ≡ exclusive_mode = sym up ∙ subst (λ (i : ℕ). mode_at q i ≡ exclusive_mode) same e in cc)
            (λ ne. off (get_or-set_other q.modes lock cell exclusive_mode None ne ∙ e))));
      }

  -- the law of a split
  pub split_keeps : (ws : List ℕ) (qs : List Seat) (id number left right : ℕ) (modes : List (Option Mode)) (q : Seat) → OneHistory c ws qs → get_elem? qs id ≡ some q → q.quota ≡ left + right → ((lock : ℕ) → slice_index_or modes lock None ≡ None)
      → OneHistory c ws (slice_set qs id (split_seat q left q.part) ++ record { number = number; quota = right; modes = modes; part = split_part q.part } ∷ [])
  split_keeps ws qs id number left right modes q h at sum off =
      let r : Seat = split_seat q left q.part in let n : Seat = record { number = number; quota = right; modes = modes; part = split_part q.part } in
      let k = h.knows id q at in let rs : List Seat = slice_set qs id r in record {
        entries = h.entries;
        size = h.size;
        number = h.number;
        room = omega (arith, total-append (λ (u : Seat). u.quota) rs (n ∷ []), total-set (λ (u : Seat). u.quota) qs id q r at, h.room);
        few = h.few;
        knows = λ j u e. ⊎_elim
            (λ e. each_set (Knows c h.entries ws) qs id r h.knows record { seen = k.seen; told = k.told; logged = k.logged; known = k.known } j u e)
            (λ e. subst (Knows c h.entries ws) e record { seen = k.seen; told = λ t bad. absurd bad; logged = λ w e bad. absurd bad; known = λ cell below has. absurd (has (off cell)) })
            (at_snoc rs n u j e);
        once = λ w below. omega (arith, total-append (λ (u : Seat). total (is_wrote w) u.part.told) rs (n ∷ []), total-same (λ (u : Seat). total (is_wrote w) u.part.told) qs id q r at refl, h.once w below);
        calm = λ cell below nobody. h.calm cell below (each_back (λ (u : Seat). mode_at u cell ≢ exclusive_mode) qs id q r at (λ j u e. nobody j u (at_longer rs (n ∷ []) j u e)) (λ o. o));
      }

  -- the law of a join
  pub join_keeps : (ws : List ℕ) (qs : List Seat) (id other : ℕ) (q r : Seat) → OneHistory c ws qs → get_elem? qs id ≡ some q → get_elem? qs other ≡ some r → other ≢ id → ((lock : ℕ) → slice_index_or r.modes lock None ≡ None) → IsRested r.part
      → OneHistory c ws (slice_set (slice_set qs id (joined_seat q r (joined_part q.part r.part))) other (spent_seat first_part))
  join_keeps ws qs id other q r h at at' ne off rested =
      let b : Seat = joined_seat q r (joined_part q.part r.part) in let n : Seat = spent_seat first_part in let rs : List Seat = slice_set qs id b in
      let still : get_elem? rs other ≡ some r = set_else qs id other b ne ∙ at' in
      let k = h.knows id q at in let l = h.knows other r at' in record {
        entries = h.entries;
        size = h.size;
        number = h.number;
        room = omega (arith, total-set (λ (u : Seat). u.quota) qs id q b at, total-set (λ (u : Seat). u.quota) rs other r n still, h.room);
        few = h.few;
        knows = each_set (Knows c h.entries ws) rs other n
            (each_set (Knows c h.entries ws) qs id b h.knows record {
              seen = max_below q.part.seen r.part.seen (length h.entries) k.seen l.seen;
              told = λ t has. ⊎_elim (l.told t) (k.told t) (Has-split r.part.told q.part.told t has);
              logged = λ w e has j small less. ⊎_elim (λ o. l.logged w e o j small (subst (λ (n : ℕ). j < n) (sym (all_stored r.part w rested)) small)) (λ o. k.logged w e o j small less) (Has-split r.part.told q.part.told (Wrote w e) has);
              known = k.known;
            })
            record { seen = omega arith; told = λ t bad. absurd bad; logged = λ w e bad. absurd bad; known = λ cell below has. absurd (has refl) };
        once = λ w below. let f : Seat → ℕ = λ u. total (is_wrote w) u.part.told in
            omega (arith, total-set f qs id q b at, total-set f rs other r n still, total-append (is_wrote w) r.part.told q.part.told, h.once w below);
        calm = λ cell below nobody. h.calm cell below (each_back (λ (u : Seat). mode_at u cell ≢ exclusive_mode) qs id q b at
            (each_back (λ (u : Seat). mode_at u cell ≢ exclusive_mode) rs other r n still nobody (λ _ e. let bad : None ≡ exclusive_mode = sym (off cell) ∙ e in cc)) (λ o. o));
      }

-- what a pass has after it gained a mode at a lock
pub after_gain : (lock : ℕ) (p q : Part) → Learns lock p q → IsSettled lock q × (q.told ≡ p.told) × (q.seen ≡ p.seen) × (q.row ≡ p.row) × (q.stored ≡ p.stored) × ((k : ℕ) → k ≢ lock → (words_of q k ≡ words_of p k) × (plain_of q k ≡ plain_of p k))
after_gain lock p q t =
    subst (λ (z : Part). IsSettled lock z × (z.told ≡ p.told) × (z.seen ≡ p.seen) × (z.row ≡ p.row) × (z.stored ≡ p.stored) × ((k : ℕ) → k ≢ lock → (words_of z k ≡ words_of p k) × (plain_of z k ≡ plain_of p k))) (sym t.3) (
      subst (λ (x : Made). Means (words_of (learnt p lock t.0 t.1) lock) (map_made x lock)) (sym (lookup_here unmade p.made lock t.1)) (subst (λ (l : List ℕ). Means l (map_made t.1 lock)) (sym (lookup_here [] p.words lock t.0)) t.2),
      refl,
      refl,
      refl,
      refl,
      λ k ne. (lookup_else [] p.words lock k t.0 ne, ap (λ (x : Made). map_made x k) (lookup_else unmade p.made lock k t.1 ne)),
    )

-- the cell is settled
pub gains_settles : (lock : ℕ) (p q : Part) → Learns lock p q → IsSettled lock q
gains_settles lock p q t = (after_gain lock p q t).0

-- and each other cell that was
pub gains_leave : (lock other : ℕ) (p q : Part) → other ≢ lock → Learns lock p q → IsSettled other p → IsSettled other q
gains_leave lock other p q ne t settled = let same = (after_gain lock p q t).5 other ne in
    subst (λ (l : List ℕ). Means l (plain_of q other)) (sym same.0) (subst (Means (words_of p other)) (sym same.1) settled)

each_cons : (F : Seat → Type 0) (q : Seat) (qs : List Seat) → F q → Each F qs → Each F (q ∷ qs)
each_cons F q qs one all zero u e = subst F (some-injective q u e) one
each_cons F q qs one all (suc j) u e = all j u e

-- nobody holds the cell exclusively, or this seat does
exclusive_or : (cell : ℕ) (qs : List Seat) → Each (λ q. mode_at q cell ≢ exclusive_mode) qs ⊎ ((j : ℕ) × (q : Seat) × (get_elem? qs j ≡ some q) × (mode_at q cell ≡ exclusive_mode))
exclusive_or cell [] = inl (λ j q e. absurd (some-ne-none q (sym e)))
exclusive_or cell (q ∷ qs) = ⊎_elim
    (λ is. inr (zero, q, refl, is))
    (λ no. ⊎_elim (λ all. inl (each_cons (λ (u : Seat). mode_at u cell ≢ exclusive_mode) q qs no all)) (λ t. inr (suc t.0, t.1, t.2, t.3)) (exclusive_or cell qs))
    (is_exclusive (mode_at q cell))

-- a cell that no unsettled pass holds exclusively has its plain map
pub settled_cells : (c : MapCargo) (ws : List ℕ) (qs : List Seat) (h : OneHistory c ws qs) (cell : ℕ) → cell < c.cells → Each (λ q. mode_at q cell ≡ exclusive_mode → IsSettled cell q.part) qs
    → Means (cell_words c ws cell) (maps_after (first_maps c) (queries h.entries) cell)
settled_cells c ws qs h cell below settled = ⊎_elim
    (λ nobody. h.calm cell below nobody)
    (λ t. let has : mode_at t.1 cell ≢ None = λ none. (let bad : None ≡ exclusive_mode = sym none ∙ t.3 in cc) in let k = (h.knows t.0 t.1 t.2).known cell below has in
    subst (λ (l : List ℕ). Means l (maps_after (first_maps c) (queries h.entries) cell)) k.0 (subst (λ (m : PlainMap). Means (words_of t.1.part cell) m) k.1 (settled t.0 t.1 t.2 t.3)))
    (exclusive_or cell qs)
