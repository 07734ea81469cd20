-- What a sweep leaves: the writer's standing, all other standings, what else a view has, and which steps were added.
use Rattle.std.specs.Prelude.{◌≡◌, ℕ, zero, suc, ◌+◌, ◌*◌, ◌<◌, ◌≤◌, Bool, true, false, if◌then◌else◌, cond, eqb, List, [], ◌∷◌, ◌++◌, length, slice_index_or, slice_set, Option}
use Rattle.std.proofs.Common.{arith, refl, sym, ap, ◌∙◌, subst, ⊎_elim, append_assoc, eq-eqb, ne_eqb, length-set, get_or-set_same, get_or-set_other, length-append}
use Rattle.hall.specs.declared.cargo.CargoRule.{Ghosts}
use Rattle.hall.specs.declared.view.View.{View}
use Rattle.hall.specs.declared.view.StepKind.{StepKind}
use Rattle.hall.specs.declared.view.StepKind.TheVariants as kinds
use Rattle.hall.specs.declared.view.StepEntry.{StepEntry}
use Rattle.hall.specs.declared.view.Standing.{Standing}
use Rattle.hall.specs.declared.view.Standing.TheVariants.{Away, Announcing}
use Rattle.hall.specs.Calls.{ElsewhereSame}
use Rattle.hall.specs.Slotting.{moved_on, picked, handless, looked}
use Rattle.hall.specs.Treading.{IsAt, IsBetween, Treads, treads_as, treads_none, treads_step_at, treads_then}
use Rattle.lock_model.specs.declared.model.Mode.{Mode}
use Rattle.hall.specs.Views.{entry_at, mode_of, place_of, standing, after_step_at}
use Rattle.apply_deferred.specs.Sweeping.{SweepsSlot, SweepsFirst, Sweeps}

-- the kinds of step of a sweep
abbrev pub is_sweeping : StepKind → Bool
is_sweeping kinds.Look = true
is_sweeping kinds.Pick = true
is_sweeping kinds.AddHand = true
is_sweeping k = false

-- each was made for the lock, under this number, by a pass that held this mode there, and is a step of a sweep
abbrev pub AllSweeping : ℕ → ℕ → Option Mode → List StepEntry → Type 0
AllSweeping number lock mode [] = Unit {0}
AllSweeping number lock mode (e ∷ es) = (e.number ≡ number) × (e.lock ≡ lock) × (is_sweeping e.kind ≡ true) × (mode_of e.before ≡ mode) × AllSweeping number lock mode es

all_sweeping : (number lock : ℕ) (mode : Option Mode) (xs ys : List StepEntry) → AllSweeping number lock mode xs → AllSweeping number lock mode ys → AllSweeping number lock mode (xs ++ ys)
all_sweeping number lock mode [] ys a b = b
all_sweeping number lock mode (x ∷ xs) ys a b = (a.0, a.1, a.2, a.3, all_sweeping number lock mode xs ys a.4 b)

-- a standing that is replaced by one of its mode
pub same_mode : (l : List Standing) (i : ℕ) (y : Standing) → mode_of y ≡ mode_of (slice_index_or l i Away) → mode_of (slice_index_or (slice_set l i y) i Away) ≡ mode_of (slice_index_or l i Away)
same_mode [] i y e = refl
same_mode (x ∷ xs) zero y e = e
same_mode (x ∷ xs) (suc i) y e = same_mode xs i y e

-- what a sweep makes of a standing has its mode
moved_mode : (x : Standing) → mode_of (moved_on x) ≡ mode_of x
moved_mode x = elim x as (λ z. mode_of (moved_on z) ≡ mode_of z) [ Announcing p h f ↦ refl | _ ↦ refl ]

picked_mode : (x : Standing) → mode_of (picked x) ≡ mode_of x
picked_mode x = elim x as (λ z. mode_of (picked z) ≡ mode_of z) [ Announcing p h f ↦ refl | _ ↦ refl ]

handless_mode : (x : Standing) → mode_of (handless x) ≡ mode_of x
handless_mode x = elim x as (λ z. mode_of (handless z) ≡ mode_of z) [ Announcing p h f ↦ refl | _ ↦ refl ]

looked_mode : (lock found : ℕ) (x : Standing) → mode_of (looked lock found x) ≡ mode_of x
looked_mode lock found x = elim (eqb found (lock + 1)) as (λ b. mode_of (cond b x (moved_on x)) ≡ mode_of x) [ true ↦ refl | false ↦ moved_mode x ]

module _ {P : Type 0} where
  -- a pass went on sweeping: only its standing at the lock, its steps and its trail are other than they were
  pub record GoesOnSweeping (v w : View P) (lock most : ℕ) : Type 0 where
    pub shape : w.shape ≡ v.shape
    pub number : w.number ≡ v.number
    pub part : w.part ≡ v.part
    pub quota : w.quota ≡ v.quota
    pub span : w.span ≡ v.span
    pub taken : w.taken ≡ v.taken
    pub wide : length w.standings ≡ length v.standings
    pub elsewhere : ElsewhereSame v w lock
    pub added : List StepEntry
    pub steps : w.steps ≡ added ++ v.steps
    pub few : length added ≤ most
    pub sweeping : AllSweeping v.number lock (mode_of (standing v lock)) added
    pub mode : mode_of (standing w lock) ≡ mode_of (standing v lock)
    pub trail : Treads (IsAt lock) v w

  none : (v : View P) (lock : ℕ) → GoesOnSweeping v v lock 0
  none v lock = record { shape = refl; number = refl; part = refl; quota = refl; span = refl; taken = refl; wide = refl; elsewhere = λ k ne. refl; added = []; steps = refl; few = omega arith; sweeping = tt; mode = refl; trail = treads_none (IsAt lock) v v refl refl }

  -- one step of a sweep
  once : (v w : View P) (lock place word : ℕ) (kind : StepKind) (won : Bool) (y : Standing) → is_sweeping kind ≡ true → mode_of y ≡ mode_of (standing v lock) → w ≡ after_step_at v kind lock place word won y v.part → GoesOnSweeping v w lock 1
  once v w lock place word kind won y sweeps mode is = subst (λ (z : View P). GoesOnSweeping v z lock 1) (sym is) record {
    shape = refl;
    number = refl;
    part = refl;
    quota = refl;
    span = refl;
    taken = refl;
    wide = length-set v.standings lock y;
    elsewhere = λ k ne. get_or-set_other v.standings lock k y Away ne;
    added = entry_at v kind lock place word won ∷ [];
    steps = refl;
    few = omega arith;
    sweeping = (refl, refl, sweeps, refl, tt);
    mode = same_mode v.standings lock y mode;
    trail = (let z : View P = after_step_at v kind lock place word won y v.part in treads_as (IsBetween lock (standing v lock) y) (IsAt lock) v z (λ m p. p.0) (treads_step_at v z kind lock place word won y v.part refl));
  }

  -- and then more
  and_then : (v u w : View P) (lock m n : ℕ) → GoesOnSweeping v u lock m → GoesOnSweeping u w lock n → GoesOnSweeping v w lock (m + n)
  and_then v u w lock m n a b = record {
    shape = b.shape ∙ a.shape;
    number = b.number ∙ a.number;
    part = b.part ∙ a.part;
    quota = b.quota ∙ a.quota;
    span = b.span ∙ a.span;
    taken = b.taken ∙ a.taken;
    wide = b.wide ∙ a.wide;
    elsewhere = λ k ne. b.elsewhere k ne ∙ a.elsewhere k ne;
    added = b.added ++ a.added;
    steps = b.steps ∙ ap (λ (l : List StepEntry). b.added ++ l) a.steps ∙ sym (append_assoc b.added a.added v.steps);
    few = (let fa = a.few in let fb = b.few in omega (arith, length-append b.added a.added));
    sweeping = all_sweeping v.number lock (mode_of (standing v lock)) b.added a.added (subst (λ (i : ℕ). AllSweeping i lock (mode_of (standing v lock)) b.added) a.number (subst (λ (m : Option Mode). AllSweeping u.number lock m b.added) a.mode b.sweeping)) a.sweeping;
    mode = b.mode ∙ a.mode;
    trail = treads_then (IsAt lock) v u w a.trail b.trail;
  }

  no_more_than : (v w : View P) (lock m n : ℕ) → m ≤ n → GoesOnSweeping v w lock m → GoesOnSweeping v w lock n
  no_more_than v w lock m n le a = record { shape = a.shape; number = a.number; part = a.part; quota = a.quota; span = a.span; taken = a.taken; wide = a.wide; elsewhere = a.elsewhere; added = a.added; steps = a.steps; few = (let f = a.few in omega arith); sweeping = a.sweeping; mode = a.mode; trail = a.trail }

  -- the standing after a step
  stands : (v w : View P) (lock place word : ℕ) (kind : StepKind) (won : Bool) (y : Standing) → lock < length v.standings → w ≡ after_step_at v kind lock place word won y v.part → standing w lock ≡ y
  stands v w lock place word kind won y near is = ap (λ (z : View P). standing z lock) is ∙ get_or-set_same v.standings lock y Away near

module _ {C P : Type 0} (g : Ghosts C P) (lock : ℕ) where
  -- one slot
  slot_goes : (slot : ℕ) (took : Bool) (v w : View P) → SweepsSlot g lock slot took v w → GoesOnSweeping v w lock 2
  slot_goes slot true v w r =
      let u : View P = r.0 in
      and_then v u w lock 1 1 (once v u lock slot (lock + 1) kinds.Look false (looked lock (lock + 1) (standing v lock)) refl (looked_mode lock (lock + 1) (standing v lock)) r.1.0) (once u w lock slot (lock + 1) kinds.Pick true (picked (standing u lock)) refl (picked_mode (standing u lock)) r.2.0)
  slot_goes slot false v w r =
      ⊎_elim
      (λ t. no_more_than v w lock 1 2 (omega arith) (once v w lock slot t.0 kinds.Look false (looked lock t.0 (standing v lock)) refl (looked_mode lock t.0 (standing v lock)) t.2.0))
      (λ t. let u : View P = t.0 in
      and_then v u w lock 1 1 (once v u lock slot (lock + 1) kinds.Look false (looked lock (lock + 1) (standing v lock)) refl (looked_mode lock (lock + 1) (standing v lock)) t.1.0) (once u w lock slot t.2.0 kinds.Pick false (moved_on (standing u lock)) refl (moved_mode (standing u lock)) t.2.2.0))
      r

  first_goes : (slots taken : ℕ) (v w : View P) → SweepsFirst g lock slots taken v w → GoesOnSweeping v w lock (2 * slots)
  first_goes zero taken v w r = subst (λ (z : View P). GoesOnSweeping v z lock 0) (sym r.1) (none v lock)
  first_goes (suc slots) taken v w r = no_more_than v w lock (2 * slots + 2) (2 * suc slots) (omega arith) (and_then v r.0 w lock (2 * slots) 2 (first_goes slots r.1 v r.0 r.3) (slot_goes slots r.2 r.0 w r.4))

  -- a whole sweep adds its steps, and leaves all but the writer's standing
  pub sweep_goes : (slots taken : ℕ) (v w : View P) → Sweeps g lock slots taken v w → GoesOnSweeping v w lock (2 * slots + 1)
  sweep_goes slots taken v w r = let u : View P = r.0 in and_then v u w lock (2 * slots) 1 (first_goes slots taken v u r.2) (once u w lock (place_of u lock) r.1 kinds.AddHand true (handless (standing u lock)) refl (handless_mode (standing u lock)) r.3.0)

  -- the writer's standing after one slot
  slot_stands : (slot : ℕ) (took : Bool) (v w : View P) (hand : ℕ) (f : Bool) → lock < length v.standings → standing v lock ≡ Announcing slot hand f → SweepsSlot g lock slot took v w → standing w lock ≡ Announcing (slot + 1) (hand + (if took then 1 else 0)) f
  slot_stands slot true v w hand f near st r =
      let u : View P = r.0 in let y : Standing = looked lock (lock + 1) (standing v lock) in
      let same : y ≡ Announcing slot hand f = ap (λ (b : Bool). cond b (standing v lock) (moved_on (standing v lock))) (eq-eqb (lock + 1) (lock + 1) refl) ∙ st in
      let a : GoesOnSweeping v u lock 1 = once v u lock slot (lock + 1) kinds.Look false y refl (looked_mode lock (lock + 1) (standing v lock)) r.1.0 in
      let here : standing u lock ≡ Announcing slot hand f = stands v u lock slot (lock + 1) kinds.Look false y near r.1.0 ∙ same in
      stands u w lock slot (lock + 1) kinds.Pick true (picked (standing u lock)) (let wd = a.wide in omega arith) r.2.0 ∙ ap picked here
  slot_stands slot false v w hand f near st r =
      let none_more : Announcing (slot + 1) hand f ≡ Announcing (slot + 1) (hand + 0) f = ap (λ (n : ℕ). Announcing (slot + 1) n f) (omega arith) in
      ⊎_elim
      (λ t. let y : Standing = looked lock t.0 (standing v lock) in
      stands v w lock slot t.0 kinds.Look false y near t.2.0 ∙ ap (λ (b : Bool). cond b (standing v lock) (moved_on (standing v lock))) (ne_eqb t.0 (lock + 1) t.1) ∙ ap moved_on st ∙ none_more)
      (λ t. let u : View P = t.0 in let y : Standing = looked lock (lock + 1) (standing v lock) in
      let same : y ≡ Announcing slot hand f = ap (λ (b : Bool). cond b (standing v lock) (moved_on (standing v lock))) (eq-eqb (lock + 1) (lock + 1) refl) ∙ st in
      let a : GoesOnSweeping v u lock 1 = once v u lock slot (lock + 1) kinds.Look false y refl (looked_mode lock (lock + 1) (standing v lock)) t.1.0 in
      let here : standing u lock ≡ Announcing slot hand f = stands v u lock slot (lock + 1) kinds.Look false y near t.1.0 ∙ same in
      stands u w lock slot t.2.0 kinds.Pick false (moved_on (standing u lock)) (let wd = a.wide in omega arith) t.2.2.0 ∙ ap moved_on here ∙ none_more)
      r

  -- and after the first slots
  pub first_stands : (slots taken : ℕ) (v w : View P) (f : Bool) → lock < length v.standings → standing v lock ≡ Announcing 0 0 f → SweepsFirst g lock slots taken v w → (standing w lock ≡ Announcing slots taken f) × (taken ≤ slots)
  first_stands zero taken v w f near st r = (ap (λ (z : View P). standing z lock) r.1 ∙ st ∙ ap (λ (n : ℕ). Announcing 0 n f) (sym r.0), omega (arith, r.0))
  first_stands (suc slots) taken v w f near st r =
      let u : View P = r.0 in let before : ℕ = r.1 in let took : Bool = r.2 in
      let old = first_stands slots before v u f near st r.3 in let few = old.1 in let goes = first_goes slots before v u r.3 in
      let new = slot_stands slots took u w before f (let wd = goes.wide in omega arith) old.0 r.4 in
      let one : (if took then 1 else 0) ≤ 1 = elim took as (λ b. (if b then 1 else 0) ≤ 1) [ true ↦ omega arith | false ↦ omega arith ] in
      (new ∙ ap (λ (n : ℕ). Announcing (slots + 1) n f) (sym r.5) ∙ ap (λ (n : ℕ). Announcing n taken f) (omega arith), omega (arith, r.5, few, one))

  -- and after the whole sweep
  pub sweep_stands : (slots taken : ℕ) (v w : View P) (f : Bool) → lock < length v.standings → standing v lock ≡ Announcing 0 0 f → Sweeps g lock slots taken v w → (standing w lock ≡ Announcing slots 0 f) × (taken ≤ slots)
  sweep_stands slots taken v w f near st r =
      let u : View P = r.0 in let first = first_stands slots taken v u f near st r.2 in let goes = first_goes slots taken v u r.2 in
      (stands u w lock (place_of u lock) r.1 kinds.AddHand true (handless (standing u lock)) (let wd = goes.wide in omega arith) r.3.0 ∙ ap handless first.0, first.1)

  -- one slot more
  pub sweeps_on : (slots before : ℕ) (took : Bool) (v u w : View P) → SweepsFirst g lock slots before v u → SweepsSlot g lock slots took u w → SweepsFirst g lock (slots + 1) (before + (if took then 1 else 0)) v w
  sweeps_on slots before took v u w a b = let next : suc slots ≡ slots + 1 = omega arith in
      subst (λ (n : ℕ). SweepsFirst g lock n (before + (if took then 1 else 0)) v w) next (u, before, took, a, b, refl)
