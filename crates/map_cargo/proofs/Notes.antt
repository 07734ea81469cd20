-- The steps on the words of a cell keep one history.
use Rattle.std.proofs.Common.{◌≡◌, ◌≢◌, ◌<◌, ◌+◌, ◌*◌, ℕ, List, [], length, set, get_or, sym, refl, ap, ◌∙◌, subst, ⊎_elim, arith, length-set, get_or-set_other, Option, Some, None}
use Rattle.std.proofs.lemmas.List.{set-get_or}
use mathlib.Core.Logic.{dite}
use mathlib.Core.Option.{some}
use native.Mathlib.Decide.{ℕ_discrete}
use lib.ListN.{get_elem?}
use Rattle.atomic_table.proofs.Lists.{at_set, set_here}
use Rattle.view_sums.specs.Sums.{total, total-set, total-same, there}
use Rattle.lock_model.specs.declared.model.Mode.{Mode}
use Rattle.lock_model.specs.declared.model.Mode.TheVariants.{Shared, Upgrade, Exclusive}
use Rattle.hall.specs.Cargo.{Together, Notes, noted_seat, exclusive_mode}
use Rattle.query_rules.specs.History.{maps_after}
use Rattle.map_cargo.specs.declared.size.MapCargo.{MapCargo}
use Rattle.map_cargo.specs.declared.entry.Part.{Part}
use Rattle.map_cargo.specs.Cells.{width, number_place, log_place, cell_words, Means}
use Rattle.map_cargo.specs.Entries.{queries}
use Rattle.map_cargo.specs.Openings.{first_maps}
use Rattle.map_cargo.specs.History.{Seat, is_wrote, mode_at, words_of, plain_of, Knows, OneHistory}
use Rattle.map_cargo.specs.Laws.{lookup_here, lookup_else, each_set, each_back}
use Rattle.map_cargo.specs.Steps.{rewrote}
use Rattle.map_cargo.proofs.Places.{inside, word_at, wide, cell_set, cell_other}

-- beside an exclusive holder nobody has a mode
pub alone : (m : Option Mode) → Together exclusive_mode m → m ≡ None
alone None h = refl
alone (Some Shared) h = cc
alone (Some Upgrade) h = cc
alone (Some Exclusive) h = cc

module _ (c : MapCargo) (ws : List ℕ) (qs : List Seat) (id : ℕ) (q : Seat) (h : OneHistory c ws qs) (at : get_elem? qs id ≡ some q) where
  abbrev mine : ℕ → Part → Seat
  mine used part = noted_seat q used part

  -- no word changes
  pub quiet : (part : Part) → Knows c h.entries ws (noted_seat q 0 part) → ((w : ℕ) → total (is_wrote w) part.told ≡ total (is_wrote w) q.part.told) → OneHistory c ws (set qs id (noted_seat q 0 part))
  quiet part knows same =
      let r : Seat = noted_seat q 0 part in record {
        entries = h.entries;
        size = h.size;
        number = h.number;
        room = omega (arith, total-set (λ (u : Seat). u.quota) qs id q r at, h.room);
        few = h.few;
        knows = each_set (Knows c h.entries ws) qs id r h.knows knows;
        once = λ w below. total-same (λ (u : Seat). total (is_wrote w) u.part.told) qs id q r at (same w) ∙ h.once w below;
        calm = λ cell below nobody. h.calm cell below (each_back (λ (u : Seat). mode_at u cell ≢ exclusive_mode) qs id q r at nobody (λ o. o));
      }

-- a load of a word of a held cell
pub reads : (c : MapCargo) (id cell i place cell' i' w' : ℕ) (q : Seat) → place ≡ cell * width c + i → cell ≡ cell' → i ≡ i' → width c ≡ w' → cell < c.cells → i < width c → mode_at q cell ≢ None
    → Notes (OneHistory c) id q 0 place (λ x. x) (λ words found p r. (r ≡ p) × (found ≡ get_or (words_of p cell') i' 0) × (length (words_of p cell') ≡ w'))
reads c id cell i place cell' i' w' q is one two three below small has ws qs h apart at in' fits =
    let k = h.knows id q at in let t = k.known cell below has in
    let read : get_or ws place 0 ≡ get_or (words_of q.part cell) i 0 = ap (λ (z : ℕ). get_or ws z 0) is ∙ sym (word_at c ws cell i small) ∙ ap (λ (l : List ℕ). get_or l i 0) (sym t.0) in
    let far : length (words_of q.part cell) ≡ width c = ap (λ (l : List ℕ). length l) t.0 ∙ wide c ws cell below h.size in (
      q.part,
      (refl, read ∙ (λ j. get_or (words_of q.part (one j)) (two j) 0), ap (λ (z : ℕ). length (words_of q.part z)) (sym one) ∙ far ∙ three),
      subst (λ (l : List ℕ). OneHistory c l (set qs id (noted_seat q 0 q.part))) (sym (set-get_or ws place 0)) (quiet c ws qs id q h at q.part record { seen = k.seen; told = k.told; logged = k.logged; known = k.known } (λ _. refl)),
    )

-- a store of a word of a cell that is held exclusively
pub stores : (c : MapCargo) (id cell i place value cell' i' value' w' : ℕ) (q : Seat) → place ≡ cell * width c + i → cell ≡ cell' → i ≡ i' → value ≡ value' → width c ≡ w' → cell < c.cells → i < width c → mode_at q cell ≡ exclusive_mode
    → Notes (OneHistory c) id q 0 place (λ _. value) (λ words found p r. (r ≡ rewrote p cell' i' value') × (length (words_of p cell') ≡ w'))
stores c id cell i place value cell' i' value' w' q is one two same three below small has ws qs h apart at in' fits =
    let k = h.knows id q at in let part : Part = rewrote q.part cell i value in let r : Seat = noted_seat q 0 part in
    let some' : mode_at q cell ≢ None = λ none. (let bad : None ≡ exclusive_mode = sym none ∙ has in cc) in let t = k.known cell below some' in
    let low : place < number_place c = subst (λ (z : ℕ). z < number_place c) (sym is) (inside c cell i below small) in
    let ws' : List ℕ = set ws place value in
    let here : cell_words c ws' cell ≡ set (words_of q.part cell) i value = ap (λ (z : ℕ). cell_words c (set ws z value) cell) is ∙ cell_set c ws cell i value ∙ ap (λ (l : List ℕ). set l i value) (sym t.0) in
    let else' : (k : ℕ) → k ≢ cell → cell_words c ws' k ≡ cell_words c ws k = λ k ne. ap (λ (z : ℕ). cell_words c (set ws z value) k) is ∙ cell_other c ws k cell i value ne small in
    let log : (w j : ℕ) → get_or ws' (log_place c w j) 0 ≡ get_or ws (log_place c w j) 0 = λ w j. get_or-set_other ws place (log_place c w j) value 0 (λ e. omega arith) in
    let off : (j : ℕ) (u : Seat) → get_elem? qs j ≡ some u → j ≢ id → mode_at u cell ≡ None = λ j u e ne. alone (mode_at u cell) (subst (λ (m : Option Mode). Together m (mode_at u cell)) has (apart id j q u at e (λ e. ne (sym e)) cell)) in (
      part,
      ((λ j. rewrote q.part (one j) (two j) (same j)), ap (λ (z : ℕ). length (words_of q.part z)) (sym one) ∙ ap (λ (l : List ℕ). length l) t.0 ∙ wide c ws cell below h.size ∙ three),
      record {
        entries = h.entries;
        size = length-set ws place value ∙ h.size;
        number = get_or-set_other ws place (number_place c) value 0 (λ e. omega arith) ∙ h.number;
        room = omega (arith, total-set (λ (u : Seat). u.quota) qs id q r at, h.room);
        few = h.few;
        knows = λ j u e. ⊎_elim
            (λ t. subst (Knows c h.entries ws') t.1 record {
              seen = k.seen;
              told = k.told;
              logged = λ w e has j small less. log w j ∙ k.logged w e has j small less;
              known = λ a near held. dite (ℕ_discrete a cell)
                  (λ same. let F : ℕ → Type 0 = λ a. (words_of part a ≡ cell_words c ws' a) × (plain_of part a ≡ maps_after (first_maps c) (queries h.entries) a) in
                  subst F (sym same) (lookup_here [] q.part.words cell (set (words_of q.part cell) i value) ∙ sym here, (k.known cell below some').1))
                  (λ ne. let t = k.known a near held in (lookup_else [] q.part.words cell a (set (words_of q.part cell) i value) ne ∙ t.0 ∙ sym (else' a ne), t.1));
            })
            (λ t. let l = h.knows j u t.1 in record {
              seen = l.seen;
              told = l.told;
              logged = λ w e has j small less. log w j ∙ l.logged w e has j small less;
              known = λ a near held. let s = l.known a near held in (s.0 ∙ sym (else' a (λ same. held (subst (λ (z : ℕ). mode_at u z ≡ None) (sym same) (off j u t.1 t.0)))), s.1);
            })
            (at_set qs id j r u e);
        once = λ w below. total-same (λ (u : Seat). total (is_wrote w) u.part.told) qs id q r at refl ∙ h.once w below;
        calm = λ a near nobody.
            let ne : a ≢ cell = λ same. nobody id r (set_here qs id r (there qs id q at)) (subst (λ (z : ℕ). mode_at q z ≡ exclusive_mode) (sym same) has) in
            subst (λ (l : List ℕ). Means l (maps_after (first_maps c) (queries h.entries) a)) (sym (else' a ne)) (h.calm a near (each_back (λ (u : Seat). mode_at u a ≢ exclusive_mode) qs id q r at nobody (λ o. o)));
      },
    )
