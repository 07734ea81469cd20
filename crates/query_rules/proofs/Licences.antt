-- Who is alone meets nobody: no reply of one caller lacks a place.
use Rattle.std.proofs.Common.{◌≡◌, ◌≢◌, ◌⊎◌, inl, inr, ℕ, zero, suc, Bool, true, false, List, [], ◌∷◌, Some, get_or, slice_get, refl, arith, subst}
use Rattle.std.specs.List.{AllZip, AllByRecursion}
use Rattle.query_rules.specs.declared.query.Query.{Query}
use Rattle.query_rules.specs.declared.query.Query.TheVariants.{Get, Put, TryGet, TryPut, GetBy, PutBy}
use Rattle.query_rules.specs.declared.query.Reply.{Reply}
use Rattle.query_rules.specs.declared.query.Reply.TheVariants.{Placed, Busy, Late, Job}
use Rattle.query_rules.specs.Log.{is_refusal}
use Rattle.query_rules.specs.Laws.{AloneIsServed}
use Rattle.query_rules.specs.Licence.{AnotherAsks, MayBeBusy, MayBeLate, IsLicensed, takes, takes_strongly}

-- past the only list there is none
nothing_there : (queries : List Query) (other index : ℕ) (q : Query) → other ≢ 0 → slice_get (get_or (queries ∷ []) other []) index ≡ Some q → ⊥
nothing_there queries zero index q differs e = differs refl
nothing_there queries (suc other) index q differs e = absurd (cc)

pub nobody_else : (sort : Query → Bool) (queries : List Query) → AnotherAsks sort (queries ∷ []) 0 → ⊥
nobody_else sort queries a = nothing_there queries a.other a.index a.query a.differs a.asks

not_busy : (queries : List Query) (q : Query) → MayBeBusy (queries ∷ []) 0 q → ⊥
not_busy queries (TryGet cell key) may = nobody_else (takes_strongly cell) queries may
not_busy queries (TryPut cell key value) may = nobody_else (takes cell) queries may
not_busy queries _ may = may

not_late : (queries : List Query) (now : ℕ) (q : Query) → MayBeLate (queries ∷ []) 0 now q → ⊥
not_late queries now (GetBy cell key deadline) may = nobody_else (takes cell) queries may.1
not_late queries now (PutBy cell key value deadline) may = nobody_else (takes cell) queries may.1
not_late queries now _ may = may

not_refused : (queries : List Query) (q : Query) (reply : Reply) → IsLicensed (queries ∷ []) 0 q reply → is_refusal reply ≡ false
not_refused queries q (Placed place said) may = refl
not_refused queries q Busy may = absurd (not_busy queries q may)
not_refused queries q (Late now) may = absurd (not_late queries now q may)
not_refused queries q (Job at result) may = refl

none_refused : (queries asked : List Query) (replies : List Reply) → AllZip (IsLicensed (queries ∷ []) 0) asked replies → AllByRecursion (λ reply. is_refusal reply ≡ false) replies
none_refused queries [] [] all = tt
none_refused queries [] (reply ∷ replies) all = absurd all
none_refused queries (q ∷ asked) [] all = absurd all
none_refused queries (q ∷ asked) (reply ∷ replies) all = (not_refused queries q reply all.0, none_refused queries asked replies all.1)

pub alone_is_served : AloneIsServed
alone_is_served rows [] [] few h = tt
alone_is_served rows [] (replies ∷ told) few h = absurd h.once
alone_is_served rows (queries ∷ []) [] few h = tt
alone_is_served rows (queries ∷ []) (replies ∷ []) few h = (none_refused queries queries replies h.licensed.0, tt)
alone_is_served rows (queries ∷ []) (replies ∷ more ∷ told) few h = absurd h.once.1
alone_is_served rows (queries ∷ next ∷ callers) told few h = absurd (omega (arith, few))

-- two callers: the second reads cell 0 and writes cell 1
abbrev two : List (List Query)
two = (TryPut 0 1 5 ∷ TryGet 1 1 ∷ GetBy 0 1 7 ∷ TryGet 0 1 ∷ TryPut 2 1 5 ∷ []) ∷ (Get 0 1 ∷ Put 1 1 6 ∷ []) ∷ []

busy_write : IsLicensed two 0 (TryPut 0 1 5) Busy
busy_write = record { other = 1; differs = omega arith; index = 0; query = Get 0 1; asks = refl; such = refl }

busy_read : IsLicensed two 0 (TryGet 1 1) Busy
busy_read = record { other = 1; differs = omega arith; index = 1; query = Put 1 1 6; asks = refl; such = refl }

late_read : IsLicensed two 0 (GetBy 0 1 7) (Late 7)
late_read = (omega arith, record { other = 1; differs = omega arith; index = 0; query = Get 0 1; asks = refl; such = refl })

-- not before its deadline
too_early : IsLicensed two 0 (GetBy 0 1 7) (Late 6) → ⊥
too_early may = omega (arith, may.0)

-- who only reads gives no leave to refuse a read, and nobody comes to cell 2 besides the first
asked_of_second : (index : ℕ) (q : Query) → slice_get (get_or two 1 []) index ≡ Some q → (q ≡ Get 0 1) ⊎ (q ≡ Put 1 1 6)
asked_of_second zero q e = inl (cc)
asked_of_second (suc zero) q e = inr (cc)
asked_of_second (suc (suc index)) q e = absurd (cc)

asked_by_another : (other index : ℕ) (q : Query) → other ≢ 0 → slice_get (get_or two other []) index ≡ Some q → (q ≡ Get 0 1) ⊎ (q ≡ Put 1 1 6)
asked_by_another zero index q differs e = absurd (differs refl)
asked_by_another (suc zero) index q differs e = asked_of_second index q e
asked_by_another (suc (suc other)) index q differs e = absurd (cc)

no_leave : (sort : Query → Bool) → sort (Get 0 1) ≡ false → sort (Put 1 1 6) ≡ false → AnotherAsks sort two 0 → ⊥
no_leave sort not_get not_put a =
    elim (asked_by_another a.other a.index a.query a.differs a.asks) [
      | inl is ↦ let such : sort (Get 0 1) ≡ true = subst (λ q. sort q ≡ true) is a.such in absurd (cc)
      | inr is ↦ let such : sort (Put 1 1 6) ≡ true = subst (λ q. sort q ≡ true) is a.such in absurd (cc)
    ]

no_busy_read : IsLicensed two 0 (TryGet 0 1) Busy → ⊥
no_busy_read may = no_leave (takes_strongly 0) refl refl may

no_busy_elsewhere : IsLicensed two 0 (TryPut 2 1 5) Busy → ⊥
no_busy_elsewhere may = no_leave (takes 2) refl refl may
