-- What is known at the end: the replies are one legal history.
use Rattle.std.proofs.Common.{◌≡◌, ◌≢◌, ◌<◌, ◌+◌, ◌*◌, ◌/◌, ◌%◌, ◌==◌, ℕ, zero, suc, List, [], ◌∷◌, ◌++◌, length, map, take, reverse, slice_get, count_by, true, false, cond, sym, refl, ap, ◌∙◌, subst, inl, inr, arith, eq-eqb, ne_eqb, Some}
use Rattle.std.proofs.lemmas.List.{reverse-append, length-reverse, append_assoc, length-append}
use Rattle.std.proofs.lemmas.List.Sums.{sum_by-cons}
use Rattle.std.proofs.Math.Seq.{take-append_seam}
use Rattle.std.specs.List.{AllByRecursion}
use mathlib.Core.Logic.{dite}
use mathlib.Core.Option.{some, some-injective, some-ne-none}
use native.Mathlib.Decide.{ℕ_discrete}
use lib.ListN.{get_elem?}
use Rattle.view_sums.specs.Sums.{total, find}
use Rattle.lock_model.specs.Locks.{Has}
use Rattle.query_rules.specs.declared.query.Query.{Query}
use Rattle.query_rules.specs.declared.query.Reply.{Reply}
use Rattle.query_rules.specs.declared.query.Reply.TheVariants.{Placed}
use Rattle.query_rules.specs.Maps.{Maps, reply_of, written}
use Rattle.query_rules.specs.History.{maps_after, replay, maps_at, StandsAt, IsLegal, is_write_at}
use Rattle.map_cargo.specs.declared.size.MapCargo.{MapCargo}
use Rattle.map_cargo.specs.declared.entry.Entry.{Entry}
use Rattle.map_cargo.specs.declared.entry.Told.{Told}
use Rattle.map_cargo.specs.declared.entry.Told.TheVariants.{Wrote, Read, Refused}
use Rattle.map_cargo.specs.declared.entry.Part.{Part}
use Rattle.map_cargo.specs.Entries.{queries, as_reply}
use Rattle.map_cargo.specs.Openings.{first_maps}
use Rattle.map_cargo.specs.History.{Seat, Stands, WrittenAs, ReadAfter, OneHistory, IsRested, is_wrote, first_part}
use Rattle.map_cargo.specs.Laws.{all_stored}
use Rattle.map_cargo.specs.Steps.{Ended}
use Rattle.map_cargo.proofs.Lists.{has_at}
use Rattle.map_cargo.proofs.Telling.{refusal_stands, refusal_mark}

nothing : {A : Type 0} (f : A → ℕ) (l : List A) → ((j : ℕ) (u : A) → get_elem? l j ≡ some u → f u ≡ 0) → total f l ≡ 0
nothing f [] none = refl
nothing f (x ∷ xs) none = omega (arith, none zero x refl, nothing f xs (λ j u e. none (suc j) u e))

sole : {A : Type 0} (f : A → ℕ) (l : List A) (id : ℕ) (q : A) → get_elem? l id ≡ some q → ((j : ℕ) (u : A) → get_elem? l j ≡ some u → j ≢ id → f u ≡ 0) → total f l ≡ f q
sole f [] id q at none = absurd (some-ne-none q (sym at))
sole f (x ∷ xs) zero q at none = omega (arith, ap f (some-injective x q at), nothing f xs (λ j u e. none (suc j) u e (λ bad. omega arith)))
sole f (x ∷ xs) (suc id) q at none = omega (arith, none zero x refl (λ bad. omega arith), sole f xs id q at (λ j u e ne. none (suc j) u e (λ same. ne (omega arith))))

it_wrote : (w : ℕ) (t : Told) → 0 < is_wrote w t → (e : Entry) × (t ≡ Wrote w e)
it_wrote w (Wrote n e) pos = dite (ℕ_discrete n w) (λ same. (e, ap (λ (z : ℕ). Wrote z e) same)) (λ ne. let none : is_wrote w (Wrote n e) ≡ 0 = ap (λ b. cond b 1 0) (ne_eqb n w ne) in absurd (omega arith))
it_wrote w (Read n e) pos = absurd (omega arith)
it_wrote w (Refused caller index query reply) pos = absurd (omega arith)

holds_write : (w : ℕ) (told : List Told) → 0 < total (is_wrote w) told → (e : Entry) × Has told (Wrote w e)
holds_write w told pos = let u = find (is_wrote w) told pos in let t = it_wrote w u.1 u.3 in (t.0, subst (Has told) t.1 (has_at told u.0 u.1 u.2))

pub ended : (c : MapCargo) (ws : List ℕ) (q : Seat) (id : ℕ) (whole : Type 0) → IsRested q.part
    → (qs : List Seat) × OneHistory c ws qs × (get_elem? qs id ≡ some q) × (whole → (j : ℕ) (u : Seat) → get_elem? qs j ≡ some u → j ≢ id → u.part ≡ first_part) → Ended c ws q.part whole
ended c ws q id whole rested t =
    let h = t.1 in let k = h.knows id q t.2 in
    let once : whole → (w : ℕ) → w < length h.entries → total (is_wrote w) q.part.told ≡ 1 = λ is w below. sym (sole (λ (u : Seat). total (is_wrote w) u.part.told) t.0 id q t.2 (λ j u e ne. ap (λ (p : Part). total (is_wrote w) p.told) (t.3 is j u e ne))) ∙ h.once w below in record {
      entries = h.entries;
      size = h.size;
      number = h.number;
      told = k.told;
      logged = λ w e has j small. k.logged w e has j small (subst (λ (n : ℕ). j < n) (sym (all_stored q.part w rested)) small);
      written = λ is w below. let one = once is w below in holds_write w q.part.told (omega arith);
      all = once;
    }

get_seam : (ws : List Query) (q : Query) (rest : List Query) → slice_get (ws ++ q ∷ rest) (length ws) ≡ Some q
get_seam [] q rest = refl
get_seam (x ∷ ws) q rest = get_seam ws q rest

replay_push : (maps : Maps) (ws : List Query) (q : Query) → replay maps (ws ++ q ∷ []) ≡ written (replay maps ws) q
replay_push maps [] q = refl
replay_push maps (x ∷ ws) q = replay_push (written maps x) ws q

queries-append : (xs ys : List Entry) → queries (xs ++ ys) ≡ queries xs ++ queries ys
queries-append [] ys = refl
queries-append (x ∷ xs) ys = ap (λ (l : List Query). x.query ∷ l) (queries-append xs ys)

length-queries : (xs : List Entry) → length (queries xs) ≡ length xs
length-queries [] = refl
length-queries (x ∷ xs) = omega (arith, length-queries xs)

-- the writes with the oldest first
abbrev in_order : List Entry → List Query
in_order entries = reverse (queries entries)

module _ (opening : Maps) where
  turned : (qs : List Query) → replay opening (reverse qs) ≡ maps_after opening qs
  turned [] = refl
  turned (q ∷ qs) = ap (replay opening) (reverse-append (q ∷ []) qs) ∙ replay_push opening (reverse qs) q ∙ ap (λ (m : Maps). written m q) (turned qs)

  -- the maps of a number, either way round
  at_number : (newer older : List Query) (w : ℕ) → length older ≡ w → maps_at opening (reverse (newer ++ older)) w ≡ maps_after opening older
  at_number newer older w number =
      ap (λ l. maps_at opening l w) (reverse-append newer older) ∙ ap (λ n. replay opening (take n (reverse older ++ reverse newer))) (sym number ∙ sym (length-reverse older)) ∙ ap (replay opening) (take-append_seam (reverse older) (reverse newer)) ∙ turned older

  module _ (rows : ℕ) (entries : List Entry) where
    write_stands : (w : ℕ) (e : Entry) → WrittenAs opening rows entries w e → StandsAt rows opening (in_order entries) (e.query, Placed (2 * w + 1) e.said)
    write_stands w e s =
        let half : (2 * w + 1) / 2 ≡ w = omega arith in
        let odd : ((2 * w + 1) % 2 == 1) ≡ true = (let o : (2 * w + 1) % 2 ≡ 1 = omega arith in rw o refl) in
        let O : List Query = queries s.older in let N : List Query = queries s.newer in
        let number : length O ≡ w = length-queries s.older ∙ s.number in
        let all : queries entries ≡ N ++ e.query ∷ O = ap queries s.stands ∙ queries-append s.newer (e ∷ s.older) in
        let split : queries entries ≡ (N ++ e.query ∷ []) ++ O = all ∙ sym (append_assoc N (e.query ∷ []) O) in
        let now : maps_at opening (in_order entries) ((2 * w + 1) / 2) ≡ maps_after opening O = ap (λ n. maps_at opening (in_order entries) n) half ∙ ap (λ (l : List Query). maps_at opening (reverse l) w) split ∙ at_number (N ++ e.query ∷ []) O w number in
        let shape : in_order entries ≡ reverse O ++ e.query ∷ reverse N = ap (λ (l : List Query). reverse l) split ∙ reverse-append (N ++ e.query ∷ []) O ∙ ap (λ (l : List Query). reverse O ++ l) (reverse-append N (e.query ∷ [])) in
        let at : slice_get (in_order entries) ((2 * w + 1) / 2) ≡ Some e.query = ap (λ n. slice_get (in_order entries) n) (half ∙ sym number ∙ sym (length-reverse O)) ∙ ap (λ (l : List Query). slice_get l (length (reverse O))) shape ∙ get_seam (reverse O) e.query (reverse N) in
        (ap (λ (m : Maps). reply_of rows m e.query) now ∙ s.said, rw odd (at, s.writes))

    read_stands : (w : ℕ) (e : Entry) → ReadAfter opening rows entries w e → StandsAt rows opening (in_order entries) (e.query, Placed (2 * w) e.said)
    read_stands w e s =
        let half : (2 * w) / 2 ≡ w = omega arith in
        let even : ((2 * w) % 2 == 1) ≡ false = (let o : (2 * w) % 2 ≡ 0 = omega arith in rw o refl) in
        let O : List Query = queries s.older in let N : List Query = queries s.newer in
        let number : length O ≡ w = length-queries s.older ∙ s.number in
        let split : queries entries ≡ N ++ O = ap queries s.stands ∙ queries-append s.newer s.older in
        let now : maps_at opening (in_order entries) ((2 * w) / 2) ≡ maps_after opening O = ap (λ n. maps_at opening (in_order entries) n) half ∙ ap (λ (l : List Query). maps_at opening (reverse l) w) split ∙ at_number N O w number in
        let size : length (in_order entries) ≡ length N + length O = length-reverse (queries entries) ∙ ap (λ (l : List Query). length l) split ∙ length-append N O in
        (ap (λ (m : Maps). reply_of rows m e.query) now ∙ s.said, rw even (omega (arith, half, number, size), s.reads))

    stands_at : (t : Told) → Stands opening rows entries t → StandsAt rows opening (in_order entries) (as_reply t)
    stands_at (Wrote w e) s = subst (λ n. StandsAt rows opening (in_order entries) (e.query, Placed n e.said)) (sym (ap (λ b. cond b (2 * w + 1) (2 * w)) s.writes)) (write_stands w e s)
    stands_at (Read w e) s = subst (λ n. StandsAt rows opening (in_order entries) (e.query, Placed n e.said)) (sym (ap (λ b. cond b (2 * w + 1) (2 * w)) s.reads)) (read_stands w e s)
    stands_at (Refused caller index query reply) s = refusal_stands rows opening (in_order entries) query reply s

    all_stand : (told : List Told) → ((t : Told) → Has told t → Stands opening rows entries t) → AllByRecursion (StandsAt rows opening (in_order entries)) (map as_reply told)
    all_stand [] each = tt
    all_stand (t ∷ told) each = (stands_at t (each t (inl refl)), all_stand told (λ u has. each u (inr has)))

    -- whether a reply is write number w
    mark : (w : ℕ) (t : Told) → Stands opening rows entries t → cond {A = ℕ} (is_write_at w (as_reply t)) 1 0 ≡ is_wrote w t
    mark w (Wrote n e) s = ap (λ b. cond {A = ℕ} (cond b (2 * n + 1) (2 * n) == 2 * w + 1) 1 0) s.writes ∙ dite (ℕ_discrete n w)
        (λ same. ap (λ b. cond {A = ℕ} b 1 0) (eq-eqb (2 * n + 1) (2 * w + 1) (omega arith) ∙ sym (eq-eqb n w same)))
        (λ ne. ap (λ b. cond {A = ℕ} b 1 0) (ne_eqb (2 * n + 1) (2 * w + 1) (λ bad. ne (omega arith)) ∙ sym (ne_eqb n w ne)))
    mark w (Read n e) s = ap (λ b. cond {A = ℕ} (cond b (2 * n + 1) (2 * n) == 2 * w + 1) 1 0) s.reads ∙ ap (λ b. cond {A = ℕ} b 1 0) (ne_eqb (2 * n) (2 * w + 1) (λ bad. omega arith))
    mark w (Refused caller index query reply) s = refusal_mark w query reply s

    counted : (w : ℕ) (told : List Told) → ((t : Told) → Has told t → Stands opening rows entries t) → count_by (is_write_at w) (map as_reply told) ≡ total (is_wrote w) told
    counted w [] each = refl
    counted w (t ∷ told) each =
        sum_by-cons (λ (x : Query × Reply). cond (is_write_at w x) 1 0) (as_reply t) (map as_reply told) ∙ omega (arith, mark w t (each t (inl refl)), counted w told (λ u has. each u (inr has)))

-- the replies at the end are one legal history
pub legal : (c : MapCargo) (ws : List ℕ) (p : Part) (whole : Type 0) → Ended c ws p whole → whole → IsLegal c.rows (first_maps c) (map as_reply p.told)
legal c ws p whole h is = record {
  writes = in_order h.entries;
  stand = all_stand (first_maps c) c.rows h.entries p.told h.told;
  once = λ w below. counted (first_maps c) c.rows h.entries w p.told h.told ∙ h.all is w (omega (arith, length-reverse (queries h.entries), length-queries h.entries));
}
