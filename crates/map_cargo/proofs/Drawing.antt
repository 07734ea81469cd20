-- Drawing a write, storing its log row and placing a read keep one history.
use Rattle.std.proofs.Common.{◌≡◌, ◌≢◌, ◌<◌, ◌≤◌, ◌+◌, ◌%◌, ◌^◌, ℕ, List, [], ◌∷◌, length, set, get_or, cond, true, false, sym, refl, ap, ◌∙◌, subst, ⊎_elim, eq-eqb, ne_eqb, arith, length-set, get_or-set_same, get_or-set_other, Option, Some, None}
use Rattle.std.proofs.lemmas.List.{set-get_or}
use mathlib.Core.Logic.{dite}
use native.Mathlib.Decide.{ℕ_discrete}
use Rattle.atomic_table.proofs.Lists.{at_set, set_here}
use Rattle.view_sums.specs.Sums.{total, total-set, total-same, term_le, there}
use Rattle.lock_model.specs.Locks.{Has}
use Rattle.lock_model.specs.declared.model.Mode.{Mode}
use Rattle.hall.specs.Cargo.{Together, Notes, noted_seat, exclusive_mode}
use Rattle.query_rules.specs.declared.query.Query.{Query}
use Rattle.query_rules.specs.Maps.{Maps, reply_of, is_write, written}
use Rattle.query_rules.specs.History.{maps_after}
use Rattle.map_cargo.specs.declared.size.MapCargo.{MapCargo}
use Rattle.map_cargo.specs.declared.entry.Entry.{Entry}
use Rattle.map_cargo.specs.declared.entry.Told.{Told}
use Rattle.map_cargo.specs.declared.entry.Told.TheVariants.{Wrote}
use Rattle.map_cargo.specs.declared.entry.Made.{Made}
use Rattle.map_cargo.specs.declared.entry.Part.{Part}
use Rattle.map_cargo.specs.Cells.{number_place, log_place, cell_words, Means}
use Rattle.map_cargo.specs.Entries.{queries, named_cells, spoken_cells, log_words}
use Rattle.map_cargo.specs.Openings.{opening_in, first_maps, map_made, unmade}
use Rattle.map_cargo.specs.History.{Seat, Stands, WrittenAs, is_wrote, stored, mode_at, plain_of, Knows, OneHistory, IsPlainThen, IsRested}
use Rattle.map_cargo.specs.Laws.{each_back, all_stored}
use Rattle.map_cargo.specs.Steps.{Drew, logged, placed}
use Rattle.map_cargo.proofs.Places.{cell_far}
use Rattle.map_cargo.proofs.Lists.{grows, one_entry, none_yet, has_or, reply_same, spoken_named, written_named, written_else, noted, noted_here, noted_else}
use Rattle.map_cargo.proofs.Notes.{alone, quiet}

-- the part after write number w was drawn, after which this made the maps
abbrev drawn : Part → ℕ → Entry → Made → Part
drawn p w e made = record { words = p.words; made = noted made (named_cells e.query) p.made; seen = w + 1; told = Wrote w e ∷ p.told; row = w; stored = 0 }

-- what the rule says of the moment at which the number word was found
plain_then : (c d : MapCargo) (ws : List ℕ) (qs : List Seat) (e f : Entry) (number : ℕ) (h : OneHistory c ws qs) → c ≡ d → e ≡ f → number ≡ length h.entries → reply_of c.rows (maps_after (first_maps c) (queries h.entries)) e.query ≡ Some e.said → IsPlainThen d ws number f
plain_then c d ws qs e f number h same one found said = subst (λ (z : MapCargo). IsPlainThen z ws number f) same (subst (IsPlainThen c ws number) one record { seats = qs; rule = h; count = sym found; said = said })

-- a write is drawn
pub draws : (c d : MapCargo) (id place : ℕ) (e f : Entry) (q : Seat) → place ≡ number_place c → e ≡ f → c ≡ d → 1 ≤ q.quota
    → ((cell : ℕ) → Has (named_cells e.query) cell → cell < c.cells) → ((cell : ℕ) → Has (named_cells e.query) cell → mode_at q cell ≡ exclusive_mode)
    → reply_of c.rows (plain_of q.part) e.query ≡ Some e.said → is_write e.said ≡ true → IsRested q.part
    → Notes (OneHistory c) id q 1 place (λ x. (x + 1) % 2 ^ 64) (λ words found p r. Drew 0 p r found f × (found < d.writes) × IsPlainThen d words found f)
draws c d id place e f q is one many some' near holds said writes' rested ws qs h apart at in' fits =
    let E : List Entry = h.entries in let n : ℕ = length E in let k = h.knows id q at in
    let M : Maps = maps_after (first_maps c) (queries E) in
    let found : get_or ws place 0 ≡ n = ap (λ (z : ℕ). get_or ws z 0) is ∙ h.number in
    let made : Made = record { opening = opening_in c; writes = queries (e ∷ E) } in let part : Part = drawn q.part n e made in let r : Seat = noted_seat q 1 part in
    let quota = total-set (λ (u : Seat). u.quota) qs id q r at in let room = h.room in let few = h.few in
    let enough : n + 1 ≤ c.writes = omega (arith, term_le (λ (u : Seat). u.quota) qs id q at) in
    let next : (get_or ws place 0 + 1) % 18446744073709551616 ≡ n + 1 = omega arith in
    let ws' : List ℕ = set ws place (n + 1) in
    let is_held : (cell : ℕ) → Has (named_cells e.query) cell → mode_at q cell ≢ None = λ cell has none. let bad : None ≡ exclusive_mode = sym none ∙ holds cell has in cc in
    let agree : (cell : ℕ) → Has (named_cells e.query) cell → plain_of q.part cell ≡ M cell = λ cell has. (k.known cell (near cell has) (is_held cell has)).1 in
    let far : (cell : ℕ) → cell < c.cells → cell_words c ws' cell ≡ cell_words c ws cell = λ cell low. cell_far c ws cell place (n + 1) low (omega arith) in
    let log : (w j : ℕ) → get_or ws' (log_place c w j) 0 ≡ get_or ws (log_place c w j) 0 = λ w j. get_or-set_other ws place (log_place c w j) (n + 1) 0 (λ e. omega arith) in
    let count : (w : ℕ) → total (λ (u : Seat). total (is_wrote w) u.part.told) (set qs id r) ≡ is_wrote w (Wrote n e) + total (λ (u : Seat). total (is_wrote w) u.part.told) qs = λ w. omega (arith, total-set (λ (u : Seat). total (is_wrote w) u.part.told) qs id q r at) in
    let named : (cell : ℕ) → Has (named_cells e.query) cell → plain_of part cell ≡ written M e.query cell = λ cell has. ap (λ (x : Made). map_made x cell) (noted_here unmade made q.part.made cell (named_cells e.query) has) in
    let others : (cell : ℕ) → (Has (named_cells e.query) cell → ⊥) → plain_of part cell ≡ plain_of q.part cell = λ cell no. ap (λ (x : Made). map_made x cell) (noted_else unmade made q.part.made cell (named_cells e.query) no) in
    let after : OneHistory c ws' (set qs id r) = record {
      entries = e ∷ E;
      size = length-set ws place (n + 1) ∙ h.size;
      number = ap (λ (z : ℕ). get_or ws' z 0) (sym is) ∙ get_or-set_same ws place (n + 1) 0 in' ∙ (omega arith);
      room = omega arith;
      few = h.few;
      knows = λ j u e'. ⊎_elim
          (λ t. subst (Knows c (e ∷ E) ws') t.1 record {
            seen = omega arith;
            told = λ t has. ⊎_elim
                (λ is. subst (Stands (first_maps c) c.rows (e ∷ E)) (sym is) record { newer = []; older = E; stands = refl; number = refl; said = sym (reply_same c.rows (plain_of q.part) M e.query (λ cell has. agree cell (spoken_named e.query cell has))) ∙ said; writes = writes' })
                (λ old. grows (first_maps c) c.rows E e t (k.told t old)) has;
            logged = λ w x has j small less. dite (ℕ_discrete n w)
                (λ same. let none : stored part w ≡ 0 = ap (λ b. cond b 0 8) (eq-eqb n w same) in absurd (omega arith))
                (λ ne. ⊎_elim
                (λ is. absurd (ne (ap (λ (t : Told). elim t [ Wrote a b ↦ a | _ ↦ n ]) (sym is))))
                (λ old. log w j ∙ k.logged w x old j small (subst (λ (z : ℕ). j < z) (sym (all_stored q.part w rested)) small)) has);
            known = λ cell low has.
                let t = k.known cell low has in (
                  t.0 ∙ sym (far cell low),
                  ⊎_elim (named cell) (λ no. others cell no ∙ t.1 ∙ sym (written_else M e.query cell no)) (has_or (named_cells e.query) cell),
                );
          })
          (λ t. let l = h.knows j u t.1 in record {
            seen = let s = l.seen in omega arith;
            told = λ t has. grows (first_maps c) c.rows E e t (l.told t has);
            logged = λ w x has j small less. log w j ∙ l.logged w x has j small less;
            known = λ cell low has. let s = l.known cell low has in (
              s.0 ∙ sym (far cell low),
              s.1 ∙ sym (written_else M e.query cell (λ named. has (alone (mode_at u cell) (subst (λ (m : Option Mode). Together m (mode_at u cell)) (holds cell named) (apart id j q u at t.1 (λ e. t.0 (sym e)) cell))))),
            );
          })
          (at_set qs id j r u e');
      once = λ w low. dite (ℕ_discrete n w)
          (λ same. let head : is_wrote w (Wrote n e) ≡ 1 = ap (λ b. cond b 1 0) (eq-eqb n w same) in omega (arith, count w, none_yet (first_maps c) c.rows E w qs (λ j u e. let l = h.knows j u e in l.told) (omega arith)))
          (λ ne. let head : is_wrote w (Wrote n e) ≡ 0 = ap (λ b. cond b 1 0) (ne_eqb n w ne) in omega (arith, count w, h.once w (omega arith)));
      calm = λ cell low nobody.
          let no : Has (named_cells e.query) cell → ⊥ = λ named. nobody id r (set_here qs id r (there qs id q at)) (holds cell named) in
          subst (λ (l : List ℕ). Means l (written M e.query cell)) (sym (far cell low)) (subst (Means (cell_words c ws cell)) (sym (written_else M e.query cell no))
          (h.calm cell low (each_back (λ (u : Seat). mode_at u cell ≢ exclusive_mode) qs id q r at nobody (λ o. o))));
    } in (
      part,
      (
        record {
          words = refl;
          plain = λ cell. ⊎_elim
              (λ has. named cell has ∙ sym (written_named (plain_of q.part) M e.query cell agree has) ∙ ap (λ (x : Query). written (plain_of q.part) x cell) (ap (λ (x : Entry). x.query) one))
              (λ no. others cell no ∙ sym (written_else (plain_of q.part) e.query cell no) ∙ ap (λ (x : Query). written (plain_of q.part) x cell) (ap (λ (x : Entry). x.query) one))
              (has_or (named_cells e.query) cell);
          fresh = let s = k.seen in omega arith;
          seen = omega arith;
          told = λ i. Wrote (sym found i) (one i) ∷ q.part.told;
          row = sym found;
          stores = refl;
        },
        subst (λ (z : MapCargo). get_or ws place 0 < z.writes) many (omega arith),
        plain_then c d ws qs e f (get_or ws place 0) h many one found (sym (reply_same c.rows (plain_of q.part) M e.query (λ cell has. agree cell (spoken_named e.query cell has))) ∙ said),
      ),
      subst (λ (z : ℕ). OneHistory c (set ws place z) (set qs id r)) (sym next) after,
    )

-- a word of its log row is stored
pub logs : (c : MapCargo) (id place value n k k' : ℕ) (e : Entry) (q : Seat) → place ≡ log_place c n k → k ≡ k' → k < 8 → q.part.row ≡ n → q.part.stored ≡ k → Has q.part.told (Wrote n e) → value ≡ get_or (log_words e) k 0
    → Notes (OneHistory c) id q 0 place (λ _. value) (λ words found p r. r ≡ logged p (k' + 1))
logs c id place value n k k' e q is one few row is_stored mine' same ws qs h apart at in' fits =
    let k0 = h.knows id q at in let E : List Entry = h.entries in let part : Part = logged q.part (k + 1) in let r : Seat = noted_seat q 0 part in
    let M : Maps = maps_after (first_maps c) (queries E) in
    let ws' : List ℕ = set ws place value in
    let far : (cell : ℕ) → cell < c.cells → cell_words c ws' cell ≡ cell_words c ws cell = λ cell low. cell_far c ws cell place value low (omega arith) in
    let own : WrittenAs (first_maps c) c.rows E n e = k0.told (Wrote n e) mine' in
    let here : (w j : ℕ) (x : Entry) → j < 8 → log_place c w j ≡ place → WrittenAs (first_maps c) c.rows E w x → get_or ws' (log_place c w j) 0 ≡ get_or (log_words x) j 0 = λ w j x small p s.
    let same_w : w ≡ n = omega arith in let same_j : j ≡ k = omega arith in
    let same_x : x ≡ e = one_entry (subst (λ (z : ℕ). WrittenAs (first_maps c) c.rows E z x) same_w s) own in
    ap (λ (z : ℕ). get_or ws' z 0) p ∙ get_or-set_same ws place value 0 in' ∙ same ∙ (λ i. get_or (log_words (sym same_x i)) (sym same_j i) 0) in
    let else' : (w j : ℕ) → log_place c w j ≢ place → get_or ws' (log_place c w j) 0 ≡ get_or ws (log_place c w j) 0 = λ w j ne. get_or-set_other ws place (log_place c w j) value 0 ne in (
      part,
      ap (λ (z : ℕ). logged q.part (z + 1)) one,
      record {
        entries = E;
        size = length-set ws place value ∙ h.size;
        number = get_or-set_other ws place (number_place c) value 0 (λ e. omega arith) ∙ h.number;
        room = omega (arith, total-set (λ (u : Seat). u.quota) qs id q r at, h.room);
        few = h.few;
        knows = λ j u e'. ⊎_elim
            (λ t. subst (Knows c E ws') t.1 record {
              seen = k0.seen;
              told = k0.told;
              logged = λ w x has j small less. dite (ℕ_discrete (log_place c w j) place)
                  (λ p. here w j x small p (k0.told (Wrote w x) has))
                  (λ ne. else' w j ne ∙ k0.logged w x has j small (dite (ℕ_discrete q.part.row w)
                  (λ same. let now : stored part w ≡ k + 1 = ap (λ b. cond b (k + 1) 8) (eq-eqb q.part.row w same) in let was : stored q.part w ≡ q.part.stored = ap (λ b. cond b q.part.stored 8) (eq-eqb q.part.row w same) in
                  let apart_j : j ≢ k = λ e. ne ((λ i. log_place c (sym same i) (e i)) ∙ ap (λ (z : ℕ). log_place c z k) row ∙ sym is) in omega (arith, apart_j))
                  (λ other. let was : stored q.part w ≡ 8 = ap (λ b. cond b q.part.stored 8) (ne_eqb q.part.row w other) in omega arith)));
              known = λ cell low held. let s = k0.known cell low held in (s.0 ∙ sym (far cell low), s.1);
            })
            (λ t. let l = h.knows j u t.1 in record {
              seen = l.seen;
              told = l.told;
              logged = λ w x has j small less. dite (ℕ_discrete (log_place c w j) place)
                  (λ p. here w j x small p (l.told (Wrote w x) has))
                  (λ ne. else' w j ne ∙ l.logged w x has j small less);
              known = λ cell low held. let s = l.known cell low held in (s.0 ∙ sym (far cell low), s.1);
            })
            (at_set qs id j r u e');
        once = λ w low. total-same (λ (u : Seat). total (is_wrote w) u.part.told) qs id q r at refl ∙ h.once w low;
        calm = λ cell low nobody. subst (λ (l : List ℕ). Means l (M cell)) (sym (far cell low)) (h.calm cell low (each_back (λ (u : Seat). mode_at u cell ≢ exclusive_mode) qs id q r at nobody (λ o. o)));
      },
    )

-- a read is placed
pub places : (c d : MapCargo) (id place : ℕ) (e f : Entry) (q : Seat) → place ≡ number_place c → e ≡ f → c ≡ d
    → ((cell : ℕ) → Has (spoken_cells e.query) cell → cell < c.cells) → ((cell : ℕ) → Has (spoken_cells e.query) cell → mode_at q cell ≢ None)
    → reply_of c.rows (plain_of q.part) e.query ≡ Some e.said → is_write e.said ≡ false
    → Notes (OneHistory c) id q 0 place (λ x. x) (λ words found p r. (r ≡ placed p found f) × (p.seen ≤ found) × (found ≤ d.writes) × IsPlainThen d words found f)
places c d id place e f q is one limit near holds said reads' ws qs h apart at in' fits =
    let E : List Entry = h.entries in let n : ℕ = length E in let k = h.knows id q at in
    let M : Maps = maps_after (first_maps c) (queries E) in
    let found : get_or ws place 0 ≡ n = ap (λ (z : ℕ). get_or ws z 0) is ∙ h.number in
    let part : Part = placed q.part n e in
    let agree : (cell : ℕ) → Has (spoken_cells e.query) cell → plain_of q.part cell ≡ M cell = λ cell has. (k.known cell (near cell has) (holds cell has)).1 in (
      part,
      ((λ i. placed q.part (sym found i) (one i)), (let s = k.seen in omega arith), subst (λ (z : MapCargo). get_or ws place 0 ≤ z.writes) limit (let r = h.room in omega arith), plain_then c d ws qs e f (get_or ws place 0) h limit one found (sym (reply_same c.rows (plain_of q.part) M e.query agree) ∙ said)),
      subst (λ (l : List ℕ). OneHistory c l (set qs id (noted_seat q 0 part))) (sym (set-get_or ws place 0)) (quiet c ws qs id q h at part record {
        seen = omega arith;
        told = λ t has. ⊎_elim
            (λ is. subst (Stands (first_maps c) c.rows E) (sym is) record { newer = []; older = E; stands = refl; number = refl; said = sym (reply_same c.rows (plain_of q.part) M e.query agree) ∙ said; reads = reads' })
            (k.told t) has;
        logged = λ w x has j small less. ⊎_elim (λ is. absurd (let F : Told → Type 0 = λ t. elim t [ Wrote a b ↦ ⊥ | _ ↦ Unit {0} ] in subst F (sym is) tt)) (λ old. k.logged w x old j small less) has;
        known = k.known;
      } (λ w. omega arith)),
    )

-- as far as a log row is stored
pub logged_so_far : (p : Part) (k : ℕ) → p.stored ≡ k → p ≡ logged p k
logged_so_far p k is = λ i. record { words = p.words; made = p.made; seen = p.seen; told = p.told; row = p.row; stored = is i }

-- a write was drawn and its log row is stored
pub drew_whole : (p q r : Part) (w : ℕ) (e : Entry) → Drew 0 p q w e → r ≡ logged q 8 → Drew 8 p r w e
drew_whole p q r w e h is = subst (λ (z : Part). Drew 8 p z w e) (sym is) record { words = h.words; plain = h.plain; fresh = h.fresh; seen = h.seen; told = h.told; row = h.row; stores = refl }
