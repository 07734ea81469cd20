-- What the calls on a cell add to the steps.
use Rattle.std.proofs.Common.{◌≡◌, ◌≢◌, ◌+◌, ◌*◌, ◌<◌, ℕ, suc, false, true, List, [], ◌∷◌, ◌++◌, Option, Some, None, sym, refl, ap, ◌∙◌, subst, ⊎_elim, inl, inr, append_assoc, append-nil}
use Rattle.hall.specs.declared.view.View.{View}
use Rattle.hall.specs.declared.view.StepKind.TheVariants.{LoadCargo, StoreCargo}
use Rattle.hall.specs.declared.view.Shape.{Shape}
use Rattle.hall.specs.declared.view.StepEntry.{StepEntry}
use Rattle.hall.specs.declared.view.Standing.TheVariants.{Away}
use Rattle.map_cargo.specs.declared.size.MapCargo.{MapCargo}
use Rattle.map_cargo.specs.declared.entry.Part.{Part}
use Rattle.map_cargo.specs.Cells.{width}
use Rattle.map_cargo.specs.Laws.{Has-split}
use Rattle.map_cargo.specs.Rows.{home, row_above}
use Rattle.map_cargo.specs.Probes.{loaded, IsInCell, StaysInCell, Probes, Seeks}
use Rattle.map_cargo.specs.StepLaws.{alike_then}
use Rattle.map_cargo.specs.Steps.{Alike, cargo_step}

module _ (c : MapCargo) (cell : ℕ) where
  -- a call of which this is said changes nothing of a pass but its part, by steps in one cell
  abbrev pub Within : View Part → View Part → Type 0
  Within v w = Alike v w × StaysInCell c cell v w

  pub inside_none : (v : View Part) → StaysInCell c cell v v
  inside_none v = record { added = []; stand = refl; each = λ e bad. absurd bad }

  one_inside : (v w : View Part) (e : StepEntry) → IsInCell c cell v e → w.steps ≡ e ∷ v.steps → StaysInCell c cell v w
  one_inside v w e here is = record { added = e ∷ []; stand = is; each = λ x has. ⊎_elim (λ same. subst (IsInCell c cell v) (sym same) here) (λ bad. absurd bad) has }

  pub load_inside : (v w : View Part) (i x : ℕ) → i < width c → w.steps ≡ loaded c v cell i x ∷ v.steps → StaysInCell c cell v w
  load_inside v w i x low is = one_inside v w (loaded c v cell i x) record { index = i; below = low; place = refl; kind = inl refl; number = refl } is

  pub store_inside : (v w : View Part) (i x : ℕ) → i < width c → w.steps ≡ cargo_step v StoreCargo (cell * width c + i) x true ∷ v.steps → StaysInCell c cell v w
  store_inside v w i x low is = one_inside v w (cargo_step v StoreCargo (cell * width c + i) x true) record { index = i; below = low; place = refl; kind = inr refl; number = refl } is

  seen_before : (v u : View Part) (e : StepEntry) → Alike v u → IsInCell c cell u e → IsInCell c cell v e
  seen_before v u e like h = record { index = h.index; below = h.below; place = h.place ∙ ap (λ (s : Shape). s.slots + s.locks + (cell * width c + h.index)) like.shape; kind = h.kind; number = h.number ∙ like.number }

  pub inside_then : (v u w : View Part) → Alike v u → StaysInCell c cell v u → StaysInCell c cell u w → StaysInCell c cell v w
  inside_then v u w like a b = record {
    added = b.added ++ a.added;
    stand = b.stand ∙ ap (λ (l : List StepEntry). b.added ++ l) a.stand ∙ sym (append_assoc b.added a.added v.steps);
    each = λ e has. ⊎_elim (λ h. seen_before v u e like (b.each e h)) (a.each e) (Has-split b.added a.added e has);
  }

  pub within_then : (v u w : View Part) → Within v u → Within u w → Within v w
  within_then v u w a b = (alike_then v u w a.0 b.0, inside_then v u w a.0 a.1 b.1)

module _ (c : MapCargo) (v : View Part) (cell key : ℕ) where
  -- a search that came as far as this row, and has so many rows left: whatever loads complete it complete the whole
  pub record Goes (row left : ℕ) (u : View Part) : Type 0 where
    pub done : List StepEntry
    pub stand : u.steps ≡ done ++ v.steps
    pub rest : (got : Option ℕ) (more : List StepEntry) → Probes c v cell key row left got more → Seeks c v cell key got (more ++ done)

  pub goes_first : (row left : ℕ) → row ≡ home c.rows key → left ≡ c.rows → Goes row left v
  goes_first row left at all = record {
    done = [];
    stand = refl;
    rest = λ got more h. subst (λ (l : List StepEntry). Seeks c v cell key got l) (sym (append-nil more)) (subst (λ (n : ℕ). Probes c v cell key (home c.rows key) n got more) all (subst (λ (r : ℕ). Probes c v cell key r left got more) at h));
  }

  module _ (u : View Part) (like : Alike v u) where
    pub same_load : (i w : ℕ) → loaded c u cell i w ≡ loaded c v cell i w
    same_load i w = λ j. record { number = like.number j; kind = LoadCargo; lock = 0; place = (like.shape j).slots + (like.shape j).locks + (cell * width c + i); before = Away; word = w; won = false }

  -- one more load
  one_more : (u w : View Part) (done : List StepEntry) (i x y : ℕ) → Alike v u → u.steps ≡ done ++ v.steps → w.steps ≡ loaded c u cell i x ∷ u.steps → x ≡ y → w.steps ≡ (loaded c v cell i y ∷ done) ++ v.steps
  one_more u w done i x y like so_far is same = is ∙ ap (λ (s : StepEntry). s ∷ u.steps) (same_load u like i x ∙ ap (λ (n : ℕ). loaded c v cell i n) same) ∙ ap (λ (l : List StepEntry). loaded c v cell i y ∷ l) so_far

  -- it ended at a row that isn't used
  pub at_free : (row left next : ℕ) (u w : View Part) (x : ℕ) → left ≡ suc next → Alike v u → Goes row left u → w.steps ≡ loaded c u cell (3 * row + 1) x ∷ u.steps → x ≡ 0
      → (added : List StepEntry) × (w.steps ≡ added ++ v.steps) × Seeks c v cell key None added
  at_free row left next u w x some like g is none = (
    loaded c v cell (3 * row + 1) 0 ∷ g.done,
    one_more u w g.done (3 * row + 1) x 0 like g.stand is none,
    g.rest None (loaded c v cell (3 * row + 1) 0 ∷ []) (subst (λ (n : ℕ). Probes c v cell key row n None (loaded c v cell (3 * row + 1) 0 ∷ [])) (sym some) (inl (refl, refl))),
  )

  two_more : (row : ℕ) (u t w : View Part) (g : List StepEntry) (x y z : ℕ) → Alike v u → Alike v t → u.steps ≡ g ++ v.steps → t.steps ≡ loaded c u cell (3 * row + 1) x ∷ u.steps → x ≡ 1 → w.steps ≡ loaded c t cell (3 * row + 2) y ∷ t.steps → y ≡ z
      → w.steps ≡ (loaded c v cell (3 * row + 2) z ∷ loaded c v cell (3 * row + 1) 1 ∷ g) ++ v.steps
  two_more row u t w g x y z like like' so_far one mark two same = one_more t w (loaded c v cell (3 * row + 1) 1 ∷ g) (3 * row + 2) y z like' (one_more u t g (3 * row + 1) x 1 like so_far one mark) two same

  -- it ended at the key's row, whose value is loaded next
  pub at_key : (row left next : ℕ) (u t w : View Part) (x y : ℕ) → left ≡ suc next → Alike v u → Alike v t → Goes row left u → t.steps ≡ loaded c u cell (3 * row + 1) x ∷ u.steps → x ≡ 1 → w.steps ≡ loaded c t cell (3 * row + 2) y ∷ t.steps → y ≡ key
      → (added : List StepEntry) × (w.steps ≡ added ++ v.steps) × ((value : ℕ) → Seeks c v cell key (Some value) (loaded c v cell (3 * row + 3) value ∷ added))
  at_key row left next u t w x y some like like' g one mark two same = (
    loaded c v cell (3 * row + 2) key ∷ loaded c v cell (3 * row + 1) 1 ∷ g.done,
    two_more row u t w g.done x y key like like' g.stand one mark two same,
    λ value. let more : List StepEntry = loaded c v cell (3 * row + 3) value ∷ loaded c v cell (3 * row + 2) key ∷ loaded c v cell (3 * row + 1) 1 ∷ [] in
        g.rest (Some value) more (subst (λ (n : ℕ). Probes c v cell key row n (Some value) more) (sym some) (inr (inl (value, refl, refl)))),
  )

  -- it goes on at the next row
  pub goes_more : (row left next : ℕ) (u t w : View Part) (x y : ℕ) → left ≡ suc next → Alike v u → Alike v t → Goes row left u → t.steps ≡ loaded c u cell (3 * row + 1) x ∷ u.steps → x ≡ 1 → w.steps ≡ loaded c t cell (3 * row + 2) y ∷ t.steps → y ≢ key
      → Goes (row_above c.rows row) next w
  goes_more row left next u t w x y some like like' g one mark two other =
      let pair : List StepEntry = loaded c v cell (3 * row + 2) y ∷ loaded c v cell (3 * row + 1) 1 ∷ [] in record {
        done = loaded c v cell (3 * row + 2) y ∷ loaded c v cell (3 * row + 1) 1 ∷ g.done;
        stand = two_more row u t w g.done x y y like like' g.stand one mark two refl;
        rest = λ got more h. subst (λ (l : List StepEntry). Seeks c v cell key got l) (append_assoc more pair g.done)
            (g.rest got (more ++ pair) (subst (λ (n : ℕ). Probes c v cell key row n got (more ++ pair)) (sym some) (inr (inr (y, other, more, refl, h)))));
      }

  -- it came once round
  pub at_end : (row left : ℕ) (u : View Part) → left ≡ 0 → Goes row left u → (added : List StepEntry) × (u.steps ≡ added ++ v.steps) × Seeks c v cell key None added
  at_end row left u none g = (g.done, g.stand, g.rest None [] (subst (λ (n : ℕ). Probes c v cell key row n None []) (sym none) (refl, refl)))

  -- the value's load
  pub with_load : (row : ℕ) (u w : View Part) (value : ℕ) → Alike v u → (h : (added : List StepEntry) × (u.steps ≡ added ++ v.steps) × ((value : ℕ) → Seeks c v cell key (Some value) (loaded c v cell (3 * row + 3) value ∷ added)))
      → w.steps ≡ loaded c u cell (3 * row + 3) value ∷ u.steps → (added : List StepEntry) × (w.steps ≡ added ++ v.steps) × Seeks c v cell key (Some value) added
  with_load row u w value like h is = (loaded c v cell (3 * row + 3) value ∷ h.0, one_more u w h.0 (3 * row + 3) value value like h.1 is refl, h.2 value)
