-- What a refused call adds to the steps of its pass: the reads for which the lock refuses.
use Rattle.std.specs.Prelude.{◌≡◌, ◌≢◌, ℕ, ◌+◌, ◌*◌, ◌<◌, List, [], ◌∷◌, ◌++◌, slice_index, Bool, Option, Some, None, cond, eqb, true, false}
use Rattle.std.proofs.Common.{refl, sym, ap, ◌∙◌, subst, inl, inr, eq-eqb, ne_eqb, ⊎_elim, append_assoc, arith}
use Rattle.std.proofs.lemmas.Nat.{mod_below}
use Rattle.lock_model.specs.declared.model.Act.{Act}
use Rattle.state_word.specs.Words.{units_of}
use Rattle.hall.specs.declared.cargo.CargoRule.{Ghosts}
use Rattle.hall.specs.declared.guards.TryFault.{TryFault}
use Rattle.hall.specs.declared.guards.TryFault.TheVariants.{Busy, Raced}
use Rattle.hall.specs.declared.view.StepKind.{StepKind}
use Rattle.hall.specs.declared.view.StepKind.TheVariants as kinds
use Rattle.hall.specs.declared.view.Shape.{Shape}
use Rattle.hall.specs.declared.view.Standing.{Standing}
use Rattle.hall.specs.declared.view.Standing.TheVariants.{Away, Undecided, Owing}
use Rattle.hall.specs.declared.view.StepEntry.{StepEntry}
use Rattle.hall.specs.declared.view.View.{View}
use Rattle.hall.specs.Refusals.{BusyForReading, BusyForWriting, ReadTwoWords, joined_busy_reading, joined_busy_writing, joined_two_words, still_busy_reading, still_busy_writing, still_two_words}
use Rattle.hall.specs.Moves.{MomentAt}
use Rattle.hall.specs.Plays.{conflicts_for_shared, lowered_part}
use Rattle.hall.specs.Trails.{last_read}
use Rattle.hall.specs.Views.{after_look, after_step, after_step_at, entry_at, entry_of, is_outside, place_of, standing}
use Rattle.apply_deferred.specs.SweepLaws.{sweep_goes}
use Rattle.apply_deferred.specs.Sweeping.{Sweeps}
use Rattle.reader_slots.specs.declared.Placed.TheVariants.{At, Taken}
use Rattle.reader_slots.specs.declared.Withdrawn.{Withdrawn}
use Rattle.reader_slots.specs.declared.Withdrawn.TheVariants.{Cleared, GaveBack}
use Rattle.reader_slots.specs.Deferring.{FindsFirstTaken, Places, WithdrawsAs, first_slot, second_slot}
use Rattle.shared_mutex.specs.Acquiring.{AnnouncesWriter, FoundReaders, RefusesAnnouncing, RefusesExclusive, RefusesShared, TurnsBack}
use Rattle.shared_mutex.specs.TokenLaws.{loaded, placed, stands_there, still_away}
use Rattle.shared_mutex.specs.Tokens.{OnlyTried}

-- among these steps are the reads of a lock's word for which a reader is refused with this fault
abbrev pub ReadAsReader : ℕ → TryFault → Shape → ℕ → List StepEntry → Type 0
ReadAsReader lock (Busy word) shape number steps = BusyForReading shape number steps lock
ReadAsReader lock (Raced expected found) shape number steps = ReadTwoWords shape number steps lock

-- and a writer
abbrev pub ReadAsWriter : ℕ → TryFault → Shape → ℕ → List StepEntry → Type 0
ReadAsWriter lock (Busy word) shape number steps = BusyForWriting shape number steps lock
ReadAsWriter lock (Raced expected found) shape number steps = ReadTwoWords shape number steps lock

-- such reads stay where newer steps are added, or older ones
pub still_as_writer : (lock : ℕ) (fault : TryFault) (shape : Shape) (number : ℕ) (added steps : List StepEntry) → ReadAsWriter lock fault shape number steps → ReadAsWriter lock fault shape number (added ++ steps)
still_as_writer lock (Busy word) shape number added steps = still_busy_writing shape number added steps lock
still_as_writer lock (Raced expected found) shape number added steps = still_two_words shape number added steps lock

pub joined_as_reader : (lock : ℕ) (fault : TryFault) (shape : Shape) (number : ℕ) (steps others : List StepEntry) → ReadAsReader lock fault shape number steps → ReadAsReader lock fault shape number (steps ++ others)
joined_as_reader lock (Busy word) shape number steps others = joined_busy_reading shape number steps others lock
joined_as_reader lock (Raced expected found) shape number steps others = joined_two_words shape number steps others lock

pub joined_as_writer : (lock : ℕ) (fault : TryFault) (shape : Shape) (number : ℕ) (steps others : List StepEntry) → ReadAsWriter lock fault shape number steps → ReadAsWriter lock fault shape number (steps ++ others)
joined_as_writer lock (Busy word) shape number steps others = joined_busy_writing shape number steps others lock
joined_as_writer lock (Raced expected found) shape number steps others = joined_two_words shape number steps others lock

module _ {P : Type 0} where
  -- steps were added
  abbrev pub MadeMore : View P → View P → Type 0
  MadeMore v w = (added : List StepEntry) × (w.steps ≡ added ++ v.steps)

  -- the same pass of the same hall made more steps
  pub record GoesOn (v w : View P) : Type 0 where
    pub shape : w.shape ≡ v.shape
    pub number : w.number ≡ v.number
    pub more : MadeMore v w

  -- steps were added, and among them are these reads, by the hall's shape and under the pass's number
  abbrev pub AddsReads : (Shape → ℕ → List StepEntry → Type 0) → View P → View P → Type 0
  AddsReads reads v w = (added : List StepEntry) × (w.steps ≡ added ++ v.steps) × reads v.shape v.number added

  more_then : (v u w : View P) (older newer : List StepEntry) → u.steps ≡ older ++ v.steps → w.steps ≡ newer ++ u.steps → w.steps ≡ (newer ++ older) ++ v.steps
  more_then v u w older newer a b = b ∙ ap (λ (l : List StepEntry). newer ++ l) a ∙ sym (append_assoc newer older v.steps)

  pub goes_on_none : (v w : View P) → w ≡ v → GoesOn v w
  goes_on_none v w same = record { shape = ap (λ (z : View P). z.shape) same; number = ap (λ (z : View P). z.number) same; more = ([], ap (λ (z : View P). z.steps) same) }

  pub goes_on_once : (v w : View P) (kind : StepKind) (lock word : ℕ) (won : Bool) (y : Standing) (part : P) → w ≡ after_step v kind lock word won y part → GoesOn v w
  goes_on_once v w kind lock word won y part is = record {
    shape = ap (λ (z : View P). z.shape) is;
    number = ap (λ (z : View P). z.number) is;
    more = (entry_of v kind lock word won ∷ [], ap (λ (z : View P). z.steps) is);
  }

  pub goes_on_then : (v u w : View P) → GoesOn v u → GoesOn u w → GoesOn v w
  goes_on_then v u w a b = record { shape = b.shape ∙ a.shape; number = b.number ∙ a.number; more = (b.more.0 ++ a.more.0, more_then v u w a.more.0 b.more.0 a.more.1 b.more.1) }

  module _ (reads : Shape → ℕ → List StepEntry → Type 0) where
    -- reads that were added are among the steps that were added until later
    pub reads_then : ((shape : Shape) (number : ℕ) (added steps : List StepEntry) → reads shape number steps → reads shape number (added ++ steps)) → (v u w : View P) → AddsReads reads v u → MadeMore u w → AddsReads reads v w
    reads_then still v u w a b = (b.0 ++ a.0, more_then v u w a.0 b.0 a.1 b.1, still v.shape v.number b.0 a.0 a.2)

    -- or since earlier
    pub reads_after : ((shape : Shape) (number : ℕ) (steps others : List StepEntry) → reads shape number steps → reads shape number (steps ++ others)) → (v u w : View P) → GoesOn v u → AddsReads reads u w → AddsReads reads v w
    reads_after joined v u w a b = (
      b.0 ++ a.more.0,
      more_then v u w a.more.0 b.0 a.more.1 b.1,
      joined v.shape v.number b.0 a.more.0 (subst (λ (n : ℕ). reads v.shape n b.0) a.number (subst (λ (s : Shape). reads s u.number b.0) a.shape b.2)),
    )

    -- and they are among all steps of the pass
    pub reads_in_all : ((shape : Shape) (number : ℕ) (steps others : List StepEntry) → reads shape number steps → reads shape number (steps ++ others)) → (v w : View P) → w.shape ≡ v.shape → w.number ≡ v.number → AddsReads reads v w → reads w.shape w.number w.steps
    reads_in_all joined v w shape number a = subst (λ (l : List StepEntry). reads w.shape w.number l) (sym a.1)
        (joined w.shape w.number a.0 v.steps (subst (λ (n : ℕ). reads w.shape n a.0) (sym number) (subst (λ (s : Shape). reads s v.number a.0) (sym shape) a.2)))

  -- a load, and then an exchange that found another word
  pub two_words : (v w : View P) (lock : ℕ) (kind : StepKind) (expected found : ℕ) → (expected ≡ found → ⊥) → w ≡ after_look (after_look v kinds.Load lock expected) kind lock found → AddsReads (λ shape number steps. ReadTwoWords shape number steps lock) v w
  two_words v w lock kind expected found differ is =
      let load : StepEntry = entry_of v kinds.Load lock expected false in let exchange : StepEntry = entry_of (after_look v kinds.Load lock expected) kind lock found false in
      let p : ℕ = place_of v lock in let before : Option ℕ = last_read p v.number [] in
      let told : last_read p v.number (load ∷ []) ≡ Some expected = ap (λ b. cond b (cond (eqb p p) (Some expected) before) None) (eq-eqb v.number v.number refl) ∙ ap (λ b. cond b (Some expected) before) (eq-eqb p p refl) in
      (exchange ∷ load ∷ [], ap (λ (z : View P). z.steps) is, ([], exchange, load ∷ [], expected, refl, (refl, refl), told, differ))

  -- an announced writer that met readers
  pub meets_readers : (v : View P) (lock : ℕ) (w : View P) (word : ℕ) → (units_of word ≡ 0 → ⊥) → w ≡ after_look v kinds.Hold lock word → AddsReads (ReadAsWriter lock (Busy word)) v w
  meets_readers v lock w word some is =
      let miss : StepEntry = entry_of v kinds.Hold lock word false in
      (miss ∷ [], ap (λ (z : View P). z.steps) is, (miss, inl refl, (refl, refl), inr (refl, refl, some)))

-- among these steps a read of the lock's word is the last one there, and it found this word
abbrev pub ReadLast : ℕ → ℕ → Shape → ℕ → List StepEntry → Type 0
ReadLast lock seen shape number steps = last_read (shape.slots + lock) number steps ≡ Some seen

module _ {P : Type 0} where
  -- one step, on the word at a place of the table
  pub goes_on_at : (v w : View P) (kind : StepKind) (lock place word : ℕ) (won : Bool) (y : Standing) (part : P) → w ≡ after_step_at v kind lock place word won y part → GoesOn v w
  goes_on_at v w kind lock place word won y part is = record {
    shape = ap (λ (z : View P). z.shape) is;
    number = ap (λ (z : View P). z.number) is;
    more = (entry_at v kind lock place word won ∷ [], ap (λ (z : View P). z.steps) is);
  }

  -- a load is the last read, and a step on a slot isn't one
  read_by_load : (v : View P) (lock seen : ℕ) → AddsReads (ReadLast lock seen) v (after_look v kinds.Load lock seen)
  read_by_load v lock seen =
      let p : ℕ = place_of v lock in
      (entry_of v kinds.Load lock seen false ∷ [], refl, ap (λ (b : Bool). cond b (cond (eqb p p) (Some seen) None) None) (eq-eqb v.number v.number refl) ∙ ap (λ (b : Bool). cond b (Some seen) None) (eq-eqb p p refl))

  read_still : (v y z : View P) (lock slot found seen : ℕ) (won : Bool) (s : Standing) → y.number ≡ v.number → slot < v.shape.slots → z ≡ after_step_at y kinds.PlaceSlot lock slot found won s y.part → AddsReads (ReadLast lock seen) v y → AddsReads (ReadLast lock seen) v z
  read_still v y z lock slot found seen won s same inside is r =
      let p : ℕ = place_of v lock in let rest : Option ℕ = last_read p v.number r.0 in let read : Option ℕ = cond won None (Some found) in let e : StepEntry = entry_at y kinds.PlaceSlot lock slot found won in (
        e ∷ r.0,
        ap (λ (k : View P). k.steps) is ∙ ap (λ (l : List StepEntry). e ∷ l) r.1,
        ap (λ (b : Bool). cond b (cond (eqb slot p) read rest) None) (eq-eqb y.number v.number same) ∙ ap (λ (b : Bool). cond b read rest) (ne_eqb slot p (λ h. absurd (omega (arith, inside, h)))) ∙ r.2,
      )

module _ {C P : Type 0} (g : Ghosts C P) where
  -- where a step on a slot was made there is one
  some_slot : (v w : View P) (lock place found left : ℕ) (act : Option Act) → MomentAt g v w lock place found left act → 0 < v.shape.slots
  some_slot v w lock place found left act m = subst (λ (s : Shape). 0 < s.slots) m.shape m.before.some_slot

  module _ (v : View P) (lock seen : ℕ) where
    abbrev loaded_view : View P
    loaded_view = after_look v kinds.Load lock seen

    first_read : (found : ℕ) (z : View P) → FindsFirstTaken g loaded_view lock found z → AddsReads (ReadLast lock seen) v z
    first_read found z f =
        let some : 0 < v.shape.slots = some_slot loaded_view z lock (first_slot v.shape.slots v.number) found found None f.1.1 in
        read_still v loaded_view z lock (first_slot v.shape.slots v.number) found seen false (standing loaded_view lock) refl (mod_below (2 * v.number) v.shape.slots some) f.1.0 (read_by_load v lock seen)

    -- a load, and then a token that was placed, or two slots that were found taken
    placed_read : (slot : ℕ) (u : View P) → Places g loaded_view lock (At slot) u → AddsReads (ReadLast lock seen) v u
    placed_read slot u p = ⊎_elim
        (λ a. let some : 0 < v.shape.slots = some_slot loaded_view u lock slot 0 (lock + 1) None a.1.1 in
        read_still v loaded_view u lock slot 0 seen true (Undecided slot) refl (subst (λ (k : ℕ). k < v.shape.slots) (sym a.0) (mod_below (2 * v.number) v.shape.slots some)) a.1.0 (read_by_load v lock seen))
        (λ b. let z : View P = b.1.0 in let f = b.1.2 in
        let some : 0 < v.shape.slots = some_slot loaded_view z lock (first_slot v.shape.slots v.number) b.1.1 b.1.1 None f.1.1 in
        read_still v z u lock slot 0 seen true (Undecided slot) (ap (λ (k : View P). k.number) f.1.0) (subst (λ (k : ℕ). k < v.shape.slots) (sym b.0) (mod_below (2 * v.number + 1) v.shape.slots some)) b.1.3.0 (first_read b.1.1 z f))
        p

    missed_read : (tokens : List ℕ) (u : View P) → Places g loaded_view lock (Taken tokens) u → AddsReads (ReadLast lock seen) v u × (u.number ≡ v.number)
    missed_read tokens u p =
        let z : View P = p.0 in let f = p.1 in let same : z.number ≡ v.number = ap (λ (k : View P). k.number) f.1.0 in
        let some : 0 < v.shape.slots = some_slot loaded_view z lock (first_slot v.shape.slots v.number) (slice_index tokens 0) (slice_index tokens 0) None f.1.1 in (
          read_still v z u lock (second_slot v.shape.slots v.number) (slice_index tokens 1) seen false (standing z lock) same (mod_below (2 * v.number + 1) v.shape.slots some) p.3.0 (first_read (slice_index tokens 0) z f),
          ap (λ (k : View P). k.number) p.3.0 ∙ same,
        )

    missed_shape : (tokens : List ℕ) (u : View P) → Places g loaded_view lock (Taken tokens) u → u.shape ≡ v.shape
    missed_shape tokens u p = ap (λ (k : View P). k.shape) p.3.0 ∙ ap (λ (k : View P). k.shape) p.1.1.0

  -- a token that was taken back
  took_back : (c w : View P) (lock slot : ℕ) (ended : Withdrawn) → WithdrawsAs g c lock slot ended w → GoesOn c w
  took_back c w lock slot Cleared r = goes_on_at c w kinds.WithdrawSlot lock slot (lock + 1) true Away c.part r.0
  took_back c w lock slot GaveBack r =
      let o : View P = r.0 in
      goes_on_then c o w (goes_on_at c o kinds.WithdrawSlot lock slot r.1 false Owing c.part r.3.0) (goes_on_once o w kinds.Lower lock r.4.0 true Away (lowered_part g (standing o lock) lock o.part) r.4.1.0)

  -- the second look of a reader that turned back
  module _ (v w : View P) (lock seen word : ℕ) (r : TurnsBack g v lock seen word w) where
    abbrev token_view : View P
    token_view = r.3.1

    token : OnlyTried v lock (Undecided r.3.0) token_view
    token = placed g v lock r.1 (after_look v kinds.Load lock seen) token_view r.3.0 (still_away g v lock r.1 seen) (loaded g v lock r.1 seen (after_look v kinds.Load lock seen) refl) r.3.2

    abbrev second_view : View P
    second_view = after_look token_view kinds.Check lock word

    abbrev second_look : StepEntry
    second_look = entry_of token_view kinds.Check lock word false

    undecided : standing token_view lock ≡ Undecided r.3.0
    undecided = stands_there g v lock r.1 (Undecided r.3.0) token_view token r.0

    back : MadeMore second_view w
    back = (took_back second_view w lock r.3.0 r.3.3.2.0 r.3.3.2.1).more

    -- refuses it for its word
    turned_busy : conflicts_for_shared v.shape.policy word ≡ true → AddsReads (ReadAsReader lock (Busy word)) v w
    turned_busy on =
        let Reads : Shape → ℕ → List StepEntry → Type 0 = ReadAsReader lock (Busy word) in
        reads_after Reads (joined_as_reader lock (Busy word)) v token_view w (record { shape = token.shape; number = token.number; more = (token.added, token.steps) })
        (reads_then Reads (λ shape number added steps. still_busy_reading shape number added steps lock) token_view second_view w (second_look ∷ [], refl, (second_look, inl refl, (refl, refl), ap is_outside undecided, ap (λ (s : Shape). conflicts_for_shared s.policy word) token.shape ∙ on)) back)

    -- or for another word than the first look found
    turned_raced : seen ≢ word → AddsReads (λ shape number steps. ReadTwoWords shape number steps lock) v w
    turned_raced differ =
        let Reads : Shape → ℕ → List StepEntry → Type 0 = λ shape number steps. ReadTwoWords shape number steps lock in let t = placed_read v lock seen r.3.0 token_view r.3.2 in
        reads_then Reads (λ shape number added steps. still_two_words shape number added steps lock) v second_view w
        (second_look ∷ t.0, ap (λ (l : List StepEntry). second_look ∷ l) t.1, ([], second_look, t.0, seen, refl, (token.number, ap (λ (s : Shape). s.slots + lock) token.shape), t.2, differ)) back

  -- a reader that was refused
  pub reader_refused : (v : View P) (lock : ℕ) (w : View P) (fault : TryFault) → standing v lock ≡ Away → RefusesShared g v lock w fault → AddsReads (ReadAsReader lock fault) v w
  reader_refused v lock w (Busy word) away r =
      let load : StepEntry = entry_of v kinds.Load lock word false in
      ⊎_elim (λ a. (load ∷ [], ap (λ (z : View P). z.steps) a, (load, inl refl, (refl, refl), ap is_outside away, r.0))) (λ b. turned_busy v w lock b.0 word b.1 r.0) r.1
  reader_refused v lock w (Raced expected found) away r =
      ⊎_elim
      (λ a. two_words v w lock kinds.Enter expected found r.0 a.1)
      (λ bc. ⊎_elim
      (λ b. let u : View P = b.1.1 in let t = missed_read v lock expected b.1.0 u b.1.2 in let miss : StepEntry = entry_of u kinds.Enter lock found false in (
        miss ∷ t.0.0,
        ap (λ (z : View P). z.steps) b.1.3 ∙ ap (λ (l : List StepEntry). miss ∷ l) t.0.1,
        ([], miss, t.0.0, expected, refl, (t.1, ap (λ (s : Shape). s.slots + lock) (missed_shape v lock expected b.1.0 u b.1.2)), t.0.2, r.0),
      ))
      (λ c. turned_raced v w lock expected found c.1 r.0)
      bc)
      r.2

  -- a writer that couldn't be announced
  pub announcing_refused : (v : View P) (lock : ℕ) (w : View P) (fault : TryFault) → standing v lock ≡ Away → RefusesAnnouncing g v lock w fault → AddsReads (ReadAsWriter lock fault) v w
  announcing_refused v lock w (Busy word) away r =
      let load : StepEntry = entry_of v kinds.Load lock word false in
      (load ∷ [], ap (λ (z : View P). z.steps) r.1, (load, inl refl, (refl, refl), inl (ap is_outside away, r.0)))
  announcing_refused v lock w (Raced expected found) away r = two_words v w lock kinds.Announce expected found r.0 r.1

  -- a writer that was announced
  pub announced_goes_on : (v : View P) (lock : ℕ) (u : View P) → AnnouncesWriter g v lock u → GoesOn v u
  announced_goes_on v lock u a =
      let look : View P = after_look v kinds.Load lock a.0 in
      goes_on_then v look u (goes_on_once v look kinds.Load lock a.0 false (standing v lock) v.part refl) (goes_on_once look u kinds.Announce lock a.0 true _ look.part a.2.0)

  -- and swept
  pub swept_goes_on : (lock slots taken : ℕ) (u z : View P) → Sweeps g lock slots taken u z → GoesOn u z
  swept_goes_on lock slots taken u z r = let t = sweep_goes g lock slots taken u z r in record { shape = t.shape; number = t.number; more = (t.added, t.steps) }

  -- and that then met readers
  found_readers : (v : View P) (lock : ℕ) (w : View P) (word : ℕ) → FoundReaders g v lock w word → AddsReads (ReadAsWriter lock (Busy word)) v w
  found_readers v lock w word r =
      let u : View P = r.0 in let z : View P = r.2 in let look : View P = after_look z kinds.Hold lock word in let Reads : Shape → ℕ → List StepEntry → Type 0 = ReadAsWriter lock (Busy word) in
      reads_after Reads (joined_as_writer lock (Busy word)) v z w (goes_on_then v u z (announced_goes_on v lock u r.1) (swept_goes_on lock v.shape.slots r.3 u z r.4))
      (reads_then Reads (still_as_writer lock (Busy word)) z look w (meets_readers z lock look word r.5 refl) (goes_on_once look w kinds.Retract lock r.7.0 true Away z.part r.7.1).more)

  -- a writer that was refused
  pub exclusive_refused : (v : View P) (lock : ℕ) (w : View P) (fault : TryFault) → standing v lock ≡ Away → RefusesExclusive g v lock w fault → AddsReads (ReadAsWriter lock fault) v w
  exclusive_refused v lock w (Busy word) away r = ⊎_elim (announcing_refused v lock w (Busy word) away) (found_readers v lock w word) r
  exclusive_refused v lock w (Raced expected found) away r = announcing_refused v lock w (Raced expected found) away r
