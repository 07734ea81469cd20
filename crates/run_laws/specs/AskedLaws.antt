-- One query more of a caller: the laws of a loop that asks.
use Rattle.std.specs.Prelude.{◌≡◌, ℕ, zero, suc, ◌+◌, ◌*◌, ◌/◌, ◌%◌, ◌<◌, ◌≤◌, Bool, true, false, cond, List, [], ◌∷◌, ◌++◌, Some, length, slice_get, MatchBool}
use Rattle.std.proofs.Common.{refl, sym, ap, ◌∙◌, subst, append_assoc, append-nil, arith}
use Rattle.std.specs.declared.option.Option.{Option}
use Rattle.std.specs.List.{AllByRecursion, AllZip}
use Rattle.std.proofs.lemmas.Slice.Zip.{AllZip-long}
use mathlib.Core.Logic.{dite}
use native.Mathlib.Decide.{dec_lt}
use Rattle.view_sums.specs.Sums.{total-append, same-refl}
use Rattle.waiter_chain.specs.declared.view.View.{View as ChainView}
use Rattle.combine_job.specs.Parcels.{place as counts_at, places}
use Rattle.dist_mutex.specs.Passes.{SameNumbers}
use Rattle.query_rules.specs.declared.query.Query.{Query}
use Rattle.query_rules.specs.declared.query.LedgerAct.{LedgerAct}
use Rattle.query_rules.specs.declared.query.Reply.{Reply}
use Rattle.query_rules.specs.declared.query.Reply.TheVariants.{Placed, Busy, Late, Job}
use Rattle.query_rules.specs.Maps.{is_write}
use Rattle.query_rules.specs.History.{InOrder, IsKindFor, Precedes, place_of}
use Rattle.query_rules.specs.Numbers.{IsReply}
use Rattle.hall.specs.declared.view.Footprint.{Footprint}
use Rattle.hall.specs.declared.view.Shape.{Shape}
use Rattle.hall.specs.declared.view.StepEntry.{StepEntry}
use Rattle.hall.specs.declared.view.View.{View}
use Rattle.hall.specs.Treading.{Treads, treads_as, treads_none, treads_then}
use Rattle.map_cargo.specs.declared.entry.Entry.{Entry}
use Rattle.map_cargo.specs.declared.entry.Part.{Part}
use Rattle.map_cargo.specs.declared.entry.Told.{Told}
use Rattle.map_cargo.specs.declared.entry.Told.TheVariants.{Wrote, Read}
use Rattle.map_cargo.specs.declared.size.MapCargo.{MapCargo}
use Rattle.map_cargo.specs.Licences.{Licensed, licence_joined, still_licensed}
use Rattle.map_cargo.specs.Steps.{MoreSteps}
use Rattle.query_cells.specs.Asked.{AddsJob, AddsReply, IsForced, KeepsNumbers, LedgerParcel, LedgerRun, MayTread, WasRefused, answer_for, entry_for}
use Rattle.query_cells.specs.LicenceLaws.{IsBacked, OneMayTread, list_backed, one_of}
use Rattle.query_cells.specs.Placing.{IsPlacedUnder}
use Rattle.run_laws.specs.Callers.{IsAsked, IsBehind, seen_after}
use Rattle.run_laws.specs.Lists.{answer_of, answered_as, answers_from, told_as, told_from, told_of}

-- ---- lists with one more at the end
pub all_push : {A : Type 0} (P : A → Type 0) (xs : List A) (x : A) → AllByRecursion P xs → P x → AllByRecursion P (xs ++ x ∷ [])
all_push P [] x h p = (p, tt)
all_push P (y ∷ xs) x h p = (h.0, all_push P xs x h.1 p)

pub zip_push : {A B : Type 0} (R : A → B → Type 0) (xs : List A) (ys : List B) (x : A) (y : B) → AllZip R xs ys → R x y → AllZip R (xs ++ x ∷ []) (ys ++ y ∷ [])
zip_push R [] [] x y h r = (r, tt)
zip_push R [] (b ∷ ys) x y h r = absurd h
zip_push R (a ∷ xs) [] x y h r = absurd h
zip_push R (a ∷ xs) (b ∷ ys) x y h r = (h.0, zip_push R xs ys x y h.1 r)

pub all_as : {A : Type 0} (P Q : A → Type 0) (xs : List A) → ((x : A) → P x → Q x) → AllByRecursion P xs → AllByRecursion Q xs
all_as P Q [] so h = tt
all_as P Q (x ∷ xs) so h = (so x h.0, all_as P Q xs so h.1)

order_push : (rs : List Reply) (r : Reply) → InOrder rs → AllByRecursion (λ x. Precedes x r) rs → InOrder (rs ++ r ∷ [])
order_push [] r h p = (tt, tt)
order_push (x ∷ rs) r h p = (all_push (Precedes x) rs r h.0 p.0, order_push rs r h.1 p.1)

-- the last of these queries
last_of : (qs : List Query) (q : Query) → slice_get (qs ++ q ∷ []) (length qs) ≡ Some q
last_of [] q = refl
last_of (x ∷ qs) q = last_of qs q

-- and any other, at the place that it had
one_more : (qs : List Query) (q : Query) (m : Footprint) → OneMayTread qs m → OneMayTread (qs ++ q ∷ []) m
one_more qs q m t = record { index = t.index; query = t.query; asks = kept qs t.index t.query t.asks; may = t.may }
  where
    kept : (qs : List Query) (i : ℕ) (x : Query) → slice_get qs i ≡ Some x → slice_get (qs ++ q ∷ []) i ≡ Some x
    kept [] i x is = absurd (let bad : slice_get [] i ≡ Some x = is in cc)
    kept (y ∷ qs) zero x is = is
    kept (y ∷ qs) (suc i) x is = kept qs i x is

pub told_more : (caller index last : ℕ) (qs : List Query) (rs : List Reply) (q : Query) (r : Reply) → length qs ≡ length rs → last ≡ index + length qs
    → told_from caller index (qs ++ q ∷ []) (rs ++ r ∷ []) ≡ told_of caller last q r ++ told_from caller index qs rs
told_more caller index last [] [] q r long at =
    let same : index ≡ last = omega (arith, at) in ap (λ n. told_of caller n q r) same ∙ sym (append-nil (told_of caller last q r))
told_more caller index last [] (y ∷ rs) q r long at = absurd (omega (arith, long))
told_more caller index last (x ∷ qs) [] q r long at = absurd (omega (arith, long))
told_more caller index last (x ∷ qs) (y ∷ rs) q r long at =
    ap (λ (l : List Told). l ++ told_of caller index x y) (told_more caller (index + 1) last qs rs q r (omega (arith, long)) (omega (arith, at)))
    ∙ append_assoc (told_of caller last q r) (told_from caller (index + 1) qs rs) (told_of caller index x y)

pub answers_more : (caller index last : ℕ) (qs : List Query) (rs : List Reply) (q : Query) (r : Reply) → length qs ≡ length rs → last ≡ index + length qs
    → answers_from caller index (qs ++ q ∷ []) (rs ++ r ∷ []) ≡ answers_from caller index qs rs ++ answer_of caller last q r
answers_more caller index last [] [] q r long at =
    let same : index ≡ last = omega (arith, at) in append-nil (answer_of caller index q r) ∙ ap (λ n. answer_of caller n q r) same
answers_more caller index last [] (y ∷ rs) q r long at = absurd (omega (arith, long))
answers_more caller index last (x ∷ qs) [] q r long at = absurd (omega (arith, long))
answers_more caller index last (x ∷ qs) (y ∷ rs) q r long at =
    ap (λ (l : List LedgerRun). answer_of caller index x y ++ l) (answers_more caller (index + 1) last qs rs q r (omega (arith, long)) (omega (arith, at)))
    ∙ sym (append_assoc (answer_of caller index x y) (answers_from caller (index + 1) qs rs) (answer_of caller last q r))

-- ---- places and positions
-- a reply that comes behind all that was seen, and behind all positions of this list
abbrev ComesNext : ℕ → List LedgerRun → Reply → Type 0
ComesNext seen own (Placed place said) = 2 * seen ≤ place
ComesNext seen own Busy = Unit {0}
ComesNext seen own (Late now) = Unit {0}
ComesNext seen own (Job at result) = (p : ℕ) → at ≤ p → places p own ≡ 0

below_next : (b : Bool) (place w seen later : ℕ) → place ≡ cond b (2 * w + 1) (2 * w) → cond b (w + 1) w ≤ seen → 2 * seen ≤ later → (place ≤ later) × (1 ≤ place % 2 + later % 2 → place < later)
below_next true place w seen later is low up = (omega (arith, is, low, up), λ odd. omega (arith, is, low, up))
below_next false place w seen later is low up = (omega (arith, is, low, up), λ odd. omega (arith, is, low, up, odd))

jobs_rise : (at later : ℕ) (own : List LedgerRun) → 1 ≤ places at own → ((p : ℕ) → later ≤ p → places p own ≡ 0) → at < later
jobs_rise at later own has none = dite (dec_lt at later) (λ less. less) (λ more. absurd (let gone = none at (omega (arith, more)) in omega (arith, has, gone)))

precedes_next : (seen : ℕ) (own : List LedgerRun) (r x : Reply) → ComesNext seen own r → IsBehind seen own x → Precedes x r
precedes_next seen own (Placed later told) (Placed place said) next h = below_next (is_write said) place (place / 2) seen later h.0 h.1 next
precedes_next seen own Busy (Placed place said) next h = tt
precedes_next seen own (Late now) (Placed place said) next h = tt
precedes_next seen own (Job later more) (Placed place said) next h = tt
precedes_next seen own r Busy next h = tt
precedes_next seen own r (Late now) next h = tt
precedes_next seen own (Placed later told) (Job at result) next h = tt
precedes_next seen own Busy (Job at result) next h = tt
precedes_next seen own (Late now) (Job at result) next h = tt
precedes_next seen own (Job later more) (Job at result) next h = jobs_rise at later own h next

behind_still : (seen more : ℕ) (own long : List LedgerRun) → seen ≤ more → ((p : ℕ) → places p own ≤ places p long) → (x : Reply) → IsBehind seen own x → IsBehind more long x
behind_still seen more own long up grew (Placed place said) h = (h.0, omega (arith, h.1, up))
behind_still seen more own long up grew Busy h = tt
behind_still seen more own long up grew (Late now) h = tt
behind_still seen more own long up grew (Job at result) h = omega (arith, h, grew at)

-- a place, the half of it, and how many writes are seen then
place_parts : (b : Bool) (place n seen : ℕ) → place ≡ cond b (2 * n + 1) (2 * n) → seen ≤ n → (2 * seen ≤ place) × (place / 2 ≡ n) × (seen ≤ cond b (n + 1) n)
place_parts true place n seen is up = (omega (arith, is, up), omega (arith, is), omega (arith, up))
place_parts false place n seen is up = (omega (arith, is, up), omega (arith, is), up)

placed_told : (n : ℕ) (e : Entry) (p r : Part) (b : Bool) → MatchBool b ((r.seen ≡ n + 1) × (r.told ≡ Wrote n e ∷ p.told)) ((r.seen ≡ n) × (r.told ≡ Read n e ∷ p.told))
    → (r.seen ≡ cond b (n + 1) n) × (r.told ≡ cond b (Wrote n e) (Read n e) ∷ p.told)
placed_told n e p r true h = h
placed_told n e p r false h = h

push_places : (k : ℕ) (own : List LedgerRun) (x : LedgerRun) → places k (own ++ x ∷ []) ≡ places k own + counts_at k x.1
push_places k own x = omega (arith, total-append (λ (z : LedgerRun). counts_at k z.1) own (x ∷ []))

-- ---- what one reply adds
-- to what the pass of the hall tells
told_next : (number index : ℕ) (q : Query) (reply : Reply) (p r : Part) → AddsReply number index q reply p r → r.told ≡ told_of number index q reply ++ p.told
told_next number index q (Placed place said) p r h =
    let e : Entry = entry_for number index q said in
    let half : place / 2 ≡ h.0 = (place_parts (is_write said) place h.0 p.seen h.1 h.2).1 in
    (placed_told h.0 e p r (is_write said) h.3).1 ∙ ap (λ (n : ℕ). told_as n e ∷ p.told) (sym half)
told_next number index q Busy p r h = h.0
told_next number index q (Late now) p r h = h.0
told_next number index q (Job at result) p r h = h.0

-- to what the pass of the ledger's lock lists
own_next : (number index : ℕ) (q : Query) (reply : Reply) (x y : ChainView LedgerParcel) → AddsJob number index q reply x y → y.own ≡ x.own ++ answer_of number index q reply
own_next number index q (Placed place said) x y job = ap (λ (v : ChainView LedgerParcel). v.own) job ∙ sym (append-nil x.own)
own_next number index q Busy x y job = ap (λ (v : ChainView LedgerParcel). v.own) job ∙ sym (append-nil x.own)
own_next number index q (Late now) x y job = ap (λ (v : ChainView LedgerParcel). v.own) job ∙ sym (append-nil x.own)
own_next number index q (Job at result) x y job = job.2.own ∙ ap (λ (a : Option LedgerAct). x.own ++ answered_as number index at result a) (sym job.1)

-- so each position that was there still is
own_grew : (number index : ℕ) (q : Query) (reply : Reply) (x y : ChainView LedgerParcel) → AddsJob number index q reply x y → (k : ℕ) → places k x.own ≤ places k y.own
own_grew number index q reply x y job k =
    let is : places k y.own ≡ places k (x.own ++ answer_of number index q reply) = ap (places k) (own_next number index q reply x y job) in
    omega (arith, is, total-append (λ (z : LedgerRun). counts_at k z.1) x.own (answer_of number index q reply))

seen_grew : (number index : ℕ) (q : Query) (reply : Reply) (p r : Part) → AddsReply number index q reply p r → p.seen ≤ r.seen
seen_grew number index q (Placed place said) p r h =
    let e : Entry = entry_for number index q said in
    let parts = place_parts (is_write said) place h.0 p.seen h.1 h.2 in
    let seen = (placed_told h.0 e p r (is_write said) h.3).0 in
    omega (arith, parts.2, seen)
seen_grew number index q Busy p r h = omega (arith, h.1)
seen_grew number index q (Late now) p r h = omega (arith, h.1)
seen_grew number index q (Job at result) p r h = omega (arith, h.1)

comes_next : (number index : ℕ) (q : Query) (reply : Reply) (p r : Part) (x y : ChainView LedgerParcel) → AddsReply number index q reply p r → AddsJob number index q reply x y → ComesNext p.seen x.own reply
comes_next number index q (Placed place said) p r x y h job = (place_parts (is_write said) place h.0 p.seen h.1 h.2).0
comes_next number index q Busy p r x y h job = tt
comes_next number index q (Late now) p r x y h job = tt
comes_next number index q (Job at result) p r x y h job = job.2.rises

is_behind : (number index : ℕ) (q : Query) (reply : Reply) (p r : Part) (x y : ChainView LedgerParcel) → AddsReply number index q reply p r → AddsJob number index q reply x y → IsBehind r.seen y.own reply
is_behind number index q (Placed place said) p r x y h job =
    let e : Entry = entry_for number index q said in
    let half : place / 2 ≡ h.0 = (place_parts (is_write said) place h.0 p.seen h.1 h.2).1 in
    let seen : r.seen ≡ seen_after h.0 said = (placed_told h.0 e p r (is_write said) h.3).0 in
    let same : seen_after (place / 2) said ≡ seen_after h.0 said = ap (λ n. seen_after n said) half in
    (h.1 ∙ ap (λ n. place_of n said) (sym half), omega (arith, seen, same))
is_behind number index q Busy p r x y h job = tt
is_behind number index q (Late now) p r x y h job = tt
is_behind number index q (Job at result) p r x y h job =
    let a : LedgerRun = answer_for number index job.0 at result in
    let is : places at y.own ≡ places at (x.own ++ a ∷ []) = ap (places at) job.2.own in
    let one : counts_at at a.1 ≡ 1 = same-refl at in
    omega (arith, is, push_places at x.own a, one)

-- ---- what one reply adds to the steps
steps_next : (c : MapCargo) (p r : View Part) (q : Query) (reply : Reply) → IsPlacedUnder c p r q reply → MoreSteps p r
steps_next c p r q (Placed place said) h = record { added = h.newer ++ (h.step ∷ h.older); stand = h.stand ∙ sym (append_assoc h.newer (h.step ∷ h.older) p.steps) }
steps_next c p r q Busy h = h
steps_next c p r q (Late now) h = h
steps_next c p r q (Job at result) h = record { added = []; stand = h }

was_refused : (p r : View Part) (q : Query) (reply : Reply) → WasRefused q reply p r → Licensed p.shape p.number r.steps q reply
was_refused p r q reply h = subst (λ (l : List StepEntry). Licensed p.shape p.number l q reply) (sym h.1) (licence_joined p.shape p.number h.0 p.steps q reply h.2)

backed_next : (p r : View Part) (q : Query) (reply : Reply) → IsForced q reply p r → IsBacked p.shape r.steps p.number q reply
backed_next p r q (Placed place said) h = tt
backed_next p r q Busy h = was_refused p r q Busy h
backed_next p r q (Late now) h = was_refused p r q (Late now) h
backed_next p r q (Job at result) h = tt

-- ---- the loop
-- nothing was asked yet
pub asked_none : (v : View Part) (d : ChainView LedgerParcel) (replies : List Reply) → replies ≡ [] → IsAsked v d [] replies v d
asked_none v d replies none = subst (λ (l : List Reply). IsAsked v d [] l v d) (sym none) record {
  kept = (record { number = refl; span = refl; taken = refl }, refl);
  kept_too = record { number = refl; spare = refl; past = refl; gone = refl };
  once = record { each = tt; order = tt };
  numbers = tt;
  behind = tt;
  tells = refl;
  lists = sym (append-nil d.own);
  backed = tt;
  trod = treads_none (OneMayTread []) v v refl refl;
}

module _ (c : MapCargo) (v p r : View Part) (d x y : ChainView LedgerParcel) (front : List Query) (replies : List Reply) (index : ℕ) (q : Query) (reply : Reply) where
  -- one query more of a list, of which this is the place: these are the public clauses of `ask` on the passes that it was asked by
  pub asked_more : IsAsked v d front replies p x → index ≡ length front
      → r.shape ≡ p.shape → KeepsNumbers p r → IsKindFor q reply → IsReply reply → AddsReply p.number index q reply p.part r.part → IsPlacedUnder c p r q reply
      → SameNumbers x y → AddsJob p.number index q reply x y → IsForced q reply p r → Treads (MayTread q) p r
      → IsAsked v d (front ++ q ∷ []) (replies ++ reply ∷ []) r y
  asked_more so at shape same kind fits told placing same_too job forced trail =
      let number : p.number ≡ v.number = so.kept.0.number in
      let told_v : AddsReply v.number index q reply p.part r.part = subst (λ n. AddsReply n index q reply p.part r.part) number told in
      let job_v : AddsJob v.number index q reply x y = subst (λ n. AddsJob n index q reply x y) number job in
      let long : length front ≡ length replies = sym (AllZip-long IsKindFor front replies so.once.each) in
      let after : index ≡ 0 + length front = omega (arith, at) in
      let seen : p.part.seen ≤ r.part.seen = seen_grew v.number index q reply p.part r.part told_v in
      let next : ComesNext p.part.seen x.own reply = comes_next v.number index q reply p.part r.part x y told_v job_v in
      let more : MoreSteps p r = steps_next c p r q reply placing in
      let was : AllZip (IsBacked r.shape p.steps v.number) front replies = subst (λ (s : Shape). AllZip (IsBacked s p.steps v.number) front replies) (sym shape) so.backed in
      let longer : AllZip (IsBacked r.shape (more.added ++ p.steps) v.number) front replies =
      list_backed r.shape p.steps (more.added ++ p.steps) (λ n z said l. still_licensed r.shape n more.added p.steps z said l) v.number front replies was in
      let still : AllZip (IsBacked r.shape r.steps v.number) front replies = subst (λ (l : List StepEntry). AllZip (IsBacked r.shape l v.number) front replies) (sym more.stand) longer in
      let by_p : IsBacked p.shape r.steps p.number q reply = backed_next p r q reply forced in
      let by_r : IsBacked r.shape r.steps p.number q reply = subst (λ (s : Shape). IsBacked s r.steps p.number q reply) (sym shape) by_p in
      let backed : IsBacked r.shape r.steps v.number q reply = subst (λ n. IsBacked r.shape r.steps n q reply) number by_r in
      let here : slice_get (front ++ q ∷ []) index ≡ Some q = ap (slice_get (front ++ q ∷ [])) at ∙ last_of front q in
      let trod_p : Treads (OneMayTread (front ++ q ∷ [])) v p = treads_as (OneMayTread front) (OneMayTread (front ++ q ∷ [])) v p (one_more front q) so.trod in
      let trod_r : Treads (OneMayTread (front ++ q ∷ [])) p r = treads_as (MayTread q) (OneMayTread (front ++ q ∷ [])) p r (λ m may. one_of (front ++ q ∷ []) index q m here may) trail in
      record {
        kept = (record { number = same.number ∙ number; span = same.span ∙ so.kept.0.span; taken = same.taken ∙ so.kept.0.taken }, shape ∙ so.kept.1);
        kept_too = record { number = same_too.number ∙ so.kept_too.number; spare = same_too.spare ∙ so.kept_too.spare; past = same_too.past ∙ so.kept_too.past; gone = same_too.gone ∙ so.kept_too.gone };
        once = record {
          each = zip_push IsKindFor front replies q reply so.once.each kind;
          order = order_push replies reply so.once.order (all_as (IsBehind p.part.seen x.own) (λ z. Precedes z reply) replies (λ z. precedes_next p.part.seen x.own reply z next) so.behind);
        };
        numbers = all_push IsReply replies reply so.numbers fits;
        behind = all_push (IsBehind r.part.seen y.own) replies reply
            (all_as (IsBehind p.part.seen x.own) (IsBehind r.part.seen y.own) replies (behind_still p.part.seen r.part.seen x.own y.own seen (own_grew v.number index q reply x y job_v)) so.behind)
            (is_behind v.number index q reply p.part r.part x y told_v job_v);
        tells = told_next v.number index q reply p.part r.part told_v ∙ ap (λ (l : List Told). told_of v.number index q reply ++ l) so.tells
            ∙ sym (append_assoc (told_of v.number index q reply) (told_from v.number 0 front replies) v.part.told)
            ∙ ap (λ (l : List Told). l ++ v.part.told) (sym (told_more v.number 0 index front replies q reply long after));
        lists = own_next v.number index q reply x y job_v ∙ ap (λ (l : List LedgerRun). l ++ answer_of v.number index q reply) so.lists
            ∙ append_assoc d.own (answers_from v.number 0 front replies) (answer_of v.number index q reply)
            ∙ ap (λ (l : List LedgerRun). d.own ++ l) (sym (answers_more v.number 0 index front replies q reply long after));
        backed = zip_push (IsBacked r.shape r.steps v.number) front replies q reply still backed;
        trod = treads_then (OneMayTread (front ++ q ∷ [])) v p r trod_p trod_r;
      }
