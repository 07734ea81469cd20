-- Laws of a reader's try that was refused: each step is one of a reader that is outside, and the pass is as it was.
use Rattle.std.specs.Prelude.{◌≡◌, ◌≢◌, ℕ, ◌<◌, ◌+◌, List, length, slice_index, slice_index_or, true, false}
use Rattle.std.proofs.Common.{refl, sym, ap, ◌∙◌, subst, ⊎_elim, inl, inr, arith, get_or-set_same}
use Rattle.hall.specs.declared.cargo.CargoRule.{Ghosts}
use Rattle.hall.specs.declared.guards.TryFault.{TryFault}
use Rattle.hall.specs.declared.guards.TryFault.TheVariants.{Busy, Raced}
use Rattle.hall.specs.declared.view.StepKind.{StepKind}
use Rattle.hall.specs.declared.view.StepKind.TheVariants as kinds
use Rattle.hall.specs.declared.view.Standing.{Standing}
use Rattle.hall.specs.declared.view.Standing.TheVariants.{Away, Undecided, Owing}
use Rattle.hall.specs.declared.view.View.{View}
use Rattle.hall.specs.Plays.{lowered_part}
use Rattle.hall.specs.Views.{after_look, after_step_at, is_strong, mode_of, place_of, standing}
use Rattle.reader_slots.specs.declared.Placed.TheVariants.{At, Taken}
use Rattle.reader_slots.specs.declared.Withdrawn.{Withdrawn}
use Rattle.reader_slots.specs.declared.Withdrawn.TheVariants.{Cleared, GaveBack}
use Rattle.reader_slots.specs.Deferring.{FindsFirstTaken, Places, WithdrawsAs, first_slot, second_slot}
use Rattle.shared_mutex.specs.Acquiring.{RefusesShared, TakesTokenBack, TurnsBack}
use Rattle.shared_mutex.specs.Tokens.{OnlyTried, is_reader_step, none_yet, one_more, same_of}

module _ {C P : Type 0} (g : Ghosts C P) (v : View P) (lock : ℕ) (away : standing v lock ≡ Away) where
  -- after such tries the pass stands where they say
  pub stands_there : (x : Standing) (u : View P) → OnlyTried v lock x u → lock < length v.standings → standing u lock ≡ x
  stands_there x u t near = ap (λ (l : List Standing). slice_index_or l lock Away) t.standings ∙ get_or-set_same v.standings lock x Away near

  -- a step that left the standing as it was
  stayed : (x : Standing) (u w : View P) (kind : StepKind) (place word : ℕ) → standing u lock ≡ x → OnlyTried v lock x u → is_reader_step kind ≡ true → w ≡ after_step_at u kind lock place word false (standing u lock) u.part → OnlyTried v lock x w
  stayed x u w kind place word here t reads is = subst (λ (y : Standing). OnlyTried v lock y w) here
      (one_more v lock away x (standing u lock) u w kind place word false u.part t reads (inl refl) (ap mode_of here ∙ t.outside.0) (ap is_strong here ∙ t.outside.1) refl is)

  -- the first slot was found taken
  pub first_missed : (l z : View P) (found : ℕ) → standing l lock ≡ Away → OnlyTried v lock Away l → FindsFirstTaken g l lock found z → OnlyTried v lock Away z
  first_missed l z found here t f = stayed Away l z kinds.PlaceSlot (first_slot l.shape.slots l.number) found here t refl f.1.0

  -- a token was placed
  pub placed : (l u : View P) (slot : ℕ) → standing l lock ≡ Away → OnlyTried v lock Away l → Places g l lock (At slot) u → OnlyTried v lock (Undecided slot) u
  placed l u slot here t p = ⊎_elim
      (λ a. one_more v lock away Away (Undecided slot) l u kinds.PlaceSlot slot 0 true l.part t refl (inr refl) refl refl refl a.1.0)
      (λ b. let z : View P = b.1.0 in one_more v lock away Away (Undecided slot) z u kinds.PlaceSlot slot 0 true z.part (first_missed l z b.1.1 here t b.1.2) refl (inr refl) refl refl refl b.1.3.0)
      p

  -- and taken back after a second look
  pub withdrawn : (c w : View P) (slot : ℕ) (ended : Withdrawn) → lock < length v.standings → OnlyTried v lock (Undecided slot) c → WithdrawsAs g c lock slot ended w → OnlyTried v lock Away w
  withdrawn c w slot Cleared near t r = one_more v lock away (Undecided slot) Away c w kinds.WithdrawSlot slot (lock + 1) true c.part t refl (inr refl) refl refl refl r.0
  withdrawn c w slot GaveBack near t r =
      let o : View P = r.0 in let owes : OnlyTried v lock Owing o = one_more v lock away (Undecided slot) Owing c o kinds.WithdrawSlot slot r.1 false c.part t refl (inl refl) refl refl refl r.3.0 in
      one_more v lock away Owing Away o w kinds.Lower (place_of o lock) r.4.0 true (lowered_part g (standing o lock) lock o.part) owes refl (inr refl) refl refl (ap (λ (x : Standing). lowered_part g x lock o.part) (stands_there Owing o owes near)) r.4.1.0

  taken_back : (u w : View P) (slot word : ℕ) → lock < length v.standings → OnlyTried v lock (Undecided slot) u → TakesTokenBack g u lock slot word w → OnlyTried v lock Away w
  taken_back u w slot word near t r =
      let c : View P = after_look u kinds.Check lock word in
      withdrawn c w slot r.2.0 near (stayed (Undecided slot) u c kinds.Check (place_of u lock) word (stands_there (Undecided slot) u t near) t refl refl) r.2.1

  pub loaded : (word : ℕ) (l : View P) → l ≡ after_look v kinds.Load lock word → OnlyTried v lock Away l
  loaded word l is = stayed Away v l kinds.Load (place_of v lock) word away (none_yet v lock away) refl is

  pub still_away : (word : ℕ) → standing (after_look v kinds.Load lock word) lock ≡ Away
  still_away word = same_of (λ (x : Standing). x) v.standings lock (standing v lock) refl ∙ away

  pub turned_back : (w : View P) (seen word : ℕ) → TurnsBack g v lock seen word w → OnlyTried v lock Away w
  turned_back w seen word r =
      let l : View P = after_look v kinds.Load lock seen in
      taken_back r.3.1 w r.3.0 word r.0 (placed l r.3.1 r.3.0 (still_away seen) (loaded seen l refl) r.3.2) r.3.3

  -- both slots were found taken
  pub both_missed : (l u : View P) (tokens : List ℕ) → standing l lock ≡ Away → OnlyTried v lock Away l → Places g l lock (Taken tokens) u → OnlyTried v lock Away u × (standing u lock ≡ Away)
  both_missed l u tokens here t p =
      let z : View P = p.0 in let first : OnlyTried v lock Away z = first_missed l z (slice_index tokens 0) here t p.1 in
      let there : standing z lock ≡ Away = ap (λ (k : View P). standing k lock) p.1.1.0 ∙ same_of (λ (x : Standing). x) l.standings lock (standing l lock) refl ∙ here in (
        stayed Away z u kinds.PlaceSlot (second_slot l.shape.slots l.number) (slice_index tokens 1) there first refl p.3.0,
        ap (λ (k : View P). standing k lock) p.3.0 ∙ same_of (λ (x : Standing). x) z.standings lock (standing z lock) refl ∙ there,
      )

  -- each way of a refusal
  pub reader_tried : (w : View P) (f : TryFault) → RefusesShared g v lock w f → OnlyTried v lock Away w
  reader_tried w (Busy word) r = ⊎_elim (λ a. loaded word w a) (λ b. turned_back w b.0 word b.1) r.1
  reader_tried w (Raced expected found) r =
      let l : View P = after_look v kinds.Load lock expected in let t : OnlyTried v lock Away l = loaded expected l refl in
      ⊎_elim
      (λ a. stayed Away l w kinds.Enter (place_of l lock) found (still_away expected) t refl a.1)
      (λ bc. ⊎_elim
      (λ b. let u : View P = b.1.1 in let missed = both_missed l u b.1.0 (still_away expected) t b.1.2 in stayed Away u w kinds.Enter (place_of u lock) found missed.1 missed.0 refl b.1.3)
      (λ c. turned_back w expected found c.1)
      bc)
      r.2
