-- Ranges of numbers, as a pass is split and joined.
use Rattle.std.proofs.Common.{◌≡◌, ◌≢◌, ℕ, ◌+◌, ◌*◌, ◌-◌, ◌<◌, ◌≤◌, List, [], ◌∷◌, ◌++◌, map, set, Bool, true, false, true≢false, refl, sym, ap, ◌∙◌, subst, ⊎_elim, arith, cond, nat_lt, slice_index}
use mathlib.Core.Option.{some}
use mathlib.Core.Logic.{dite}
use native.Mathlib.Decide.{ℕ_discrete, dec_lt}
use Rattle.std.proofs.lemmas.Bool.{le-ltb, lt-ltb}
use Rattle.std.proofs.lemmas.List.{map-append}
use lib.ListN.{get_elem?}
use Rattle.atomic_table.specs.Table.{Splits, Joins}
use Rattle.atomic_table.proofs.Lists.{at_set, at_snoc, set_else, at_map}
use Rattle.waiter_chain.specs.declared.view.View.{View}
use Rattle.waiter_chain.specs.declared.view.Stage.{Stage}
use Rattle.waiter_chain.specs.declared.view.Stage.TheVariants.{Idle, Owns}
use Rattle.waiter_chain.specs.Goods.{Goods, goods, part, Cuts, Merges}
use Rattle.waiter_chain.specs.Chains.{within, weigh, covers, part_of, desk, Seated, AtRest, turn, Lawful}
use Rattle.waiter_chain.specs.Steps.{first_view, cut_left, cut_right, joined, spent}
use Rattle.view_sums.specs.Sums.{total, total-set, total-append, map-set, same-refl}
use Rattle.waiter_chain.proofs.Rules.{covers-live, covers-number}

below : (n a k : ℕ) → n < a → within n (a, k) ≡ 0
below n a k l = ap {B = ℕ} (λ b. cond b 0 (cond (nat_lt (a + k) n) 0 1)) (lt-ltb n a l)

inside : (n a k : ℕ) → a ≤ n → n ≤ a + k → within n (a, k) ≡ 1
inside n a k l h = ap {B = ℕ} (λ b. cond b 0 (cond (nat_lt (a + k) n) 0 1)) (le-ltb n a l) ∙ ap {B = ℕ} (λ b. cond b 0 1) (le-ltb (a + k) n h)

above : (n a k : ℕ) → a + k < n → within n (a, k) ≡ 0
above n a k h = ap {B = ℕ} (λ b. cond b 0 (cond (nat_lt (a + k) n) 0 1)) (le-ltb n a (omega arith)) ∙ ap {B = ℕ} (λ b. cond b 0 1) (lt-ltb (a + k) n h)

pub within-cut : (n a k c : ℕ) → 0 < c → c ≤ k → within n (a, k) ≡ within n (a, k - c) + within n (a + 1 + k - c, c - 1)
within-cut n a k c some-left fits =
    dite (dec_lt n a) (λ l. omega (arith, below n a k l, below n a (k - c) l, below n (a + 1 + k - c) (c - 1) (omega arith)))
    (λ l. dite (dec_lt (a + k) n) (λ h. omega (arith, above n a k h, above n a (k - c) (omega arith), above n (a + 1 + k - c) (c - 1) (omega arith)))
    (λ h. dite (dec_lt (a + (k - c)) n) (λ m. omega (arith, inside n a k (omega arith) (omega arith), above n a (k - c) m, inside n (a + 1 + k - c) (c - 1) (omega arith) (omega arith)))
    (λ m. omega (arith, inside n a k (omega arith) (omega arith), inside n a (k - c) (omega arith) (omega arith), below n (a + 1 + k - c) (c - 1) (omega arith)))))

pub within-all : (n nodes : ℕ) → 0 < nodes → within n (0, nodes - 1) ≡ cond (nat_lt n nodes) 1 0
within-all n nodes some-left = dite (dec_lt n nodes) (λ l. inside n 0 (nodes - 1) (omega arith) (omega arith) ∙ sym (ap {B = ℕ} (λ b. cond b 1 0) (lt-ltb n nodes l)))
    (λ h. above n 0 (nodes - 1) (omega arith) ∙ sym (ap {B = ℕ} (λ b. cond b 1 0) (le-ltb n nodes (omega arith))))

module _ {P : Type 0} where
  pub covers-cut : (n c q : ℕ) (v : View P) → v.gone ≡ false → 0 < c → c ≤ v.spare → covers n v ≡ covers n (cut_left c q v) + covers n (cut_right c q v)
  covers-cut n c q v live-now some-left fits = omega (arith, covers-live n v live-now, covers-live n (cut_left c q v) live-now, within-cut n v.number v.spare c some-left fits)

  pub covers-joined : (n : ℕ) (v w : View P) → v.gone ≡ false → w.gone ≡ false → covers n (joined v w) ≡ covers n v + covers n w
  covers-joined n v w live-v live-w = omega (arith, covers-live n v live-v, covers-live n w live-w, covers-live n (joined v w) live-v, total-append (within n) v.past ((w.number, w.spare) ∷ w.past))

pub covers-first : (P : Type 0) (n nodes q : ℕ) → n < nodes → 0 < covers n (first_view {P = P} nodes q)
covers-first P n nodes q low = omega (arith, within-all n nodes (omega arith), ap {B = ℕ} (λ b. cond b 1 0) (lt-ltb n nodes low))

-- a number of a range is not below its first
pub within-low : (n a k : ℕ) → 0 < within n (a, k) → a ≤ n
within-low n a k h = dite (dec_lt n a) (λ l. absurd (omega (arith, below n a k l))) (λ l. omega arith)

or-false : (a b : Bool) → cond a true b ≡ false → (a ≡ false) × (b ≡ false)
or-false true b e = absurd (true≢false e)
or-false false b e = (refl, e)

module _ {P : Type 0} (rule : Goods P → Type 0) (nodes : ℕ) where
  pub splits : Cuts rule → (id : ℕ) (v : View P) (c q : ℕ) → v.gone ≡ false → 0 < c → c ≤ v.spare → q ≤ v.quota → Splits (Lawful rule nodes) id v (cut_left c q v) (cut_right c q v)
  splits law id v c q live-now some-left fits enough s o me =
      let l : View P = cut_left c q v in let r : View P = cut_right c q v in
      let whole : (n : ℕ) → covers n v ≡ covers n l + covers n r = λ n. covers-cut n c q v live-now some-left fits in
      let new-there : 0 < covers r.number v = omega (arith, whole r.number, covers-number r.number r refl, same-refl r.number) in
      let sum : (f : View P → ℕ) → total f (set s.views id l ++ r ∷ []) + f v ≡ total f s.views + f l + f r = λ f. omega (arith, total-append f (set s.views id l) (r ∷ []), total-set f s.views id v l me) in
      let at : (Q : View P → Type 0) (j : ℕ) (u : View P) → get_elem? (set s.views id l ++ r ∷ []) j ≡ some u → Q l → Q r → ((i : ℕ) → get_elem? s.views i ≡ some u → Q u) → Q u = λ Q j u e ql qr other.
      ⊎_elim (λ (t : get_elem? (set s.views id l) j ≡ some u). ⊎_elim (λ (z : (j ≡ id) × (l ≡ u)). subst Q z.1 ql) (λ (z : (j ≢ id) × (get_elem? s.views j ≡ some u)). other j z.1) (at_set s.views id j l u t)) (λ (z : r ≡ u). subst Q z qr) (at_snoc (set s.views id l) r u j e) in
      record {
        owner = o.owner;
        older = o.older;
        newer = o.newer;
        done = o.done;
        value = o.value;
        posted = o.posted;
        answered = o.answered;
        wide = o.wide;
        long = o.long;
        covered = λ n. omega (arith, sum (covers n), o.covered n, covers-cut n c q v live-now some-left fits);
        standing = λ g waking. omega (arith, sum (weigh g), o.standing g waking, (waking r.number).0);
        asleep = λ j u e. at (λ x. x.gone ≡ true → (x.stage ≡ Idle) × (part_of x ≡ part 0 0 [])) j u e (λ z. absurd (true≢false (sym z ∙ live-now))) (λ z. absurd (true≢false (sym z))) (λ i z. o.asleep i u z);
        owned = λ j u k e. at (λ x. x.stage ≡ Owns k → o.owner ≡ turn x.number k) j u e (o.owned id v k me) (λ z. absurd (cc)) (λ i z. o.owned i u k z);
        seated = λ j u e. at (λ x. x.gone ≡ false → Seated x.stage (desk s.words s.homes o.posted o.answered x.number)) j u e (o.seated id v me) (λ _. o.unused id v r.number me live-now new-there (λ z. omega arith)) (λ i z. o.seated i u z);
        unused = λ j u n e. at (λ x. x.gone ≡ false → 0 < covers n x → n ≢ x.number → AtRest (desk s.words s.homes o.posted o.answered n)) j u e
            (λ _ h ne. o.unused id v n me live-now (omega (arith, h, whole n)) ne)
            (λ _ h ne. o.unused id v n me live-now (omega (arith, h, whole n)) (λ z. omega (arith, z, within-low n r.number r.spare (omega (arith, h, covers-live n r refl)))))
            (λ i z. o.unused i u n z);
        unlinked = λ j u n e. at (λ x. x.gone ≡ false → x.linked ≡ false → 0 < covers n x → slice_index s.words (2 + 2 * n) ≡ 0) j u e
            (λ _ f h. o.unlinked id v n me live-now f (omega (arith, h, whole n))) (λ _ f h. o.unlinked id v n me live-now f (omega (arith, h, whole n))) (λ i z. o.unlinked i u n z);
        old_waits = o.old_waits;
        new_waits = o.new_waits;
        finished = o.finished;
        held = o.held;
        funded = omega (arith, sum (λ (x : View P). x.quota), o.funded);
        goods_rule = subst (λ ps. rule (goods o.value o.posted o.answered ps)) (sym (map-append part_of (set s.views id l) (r ∷ []) ∙ ap (λ ps. ps ++ part r.number q [] ∷ []) (map-set part_of s.views id l)))
            (law (goods o.value o.posted o.answered (map part_of s.views)) id v.number r.number (v.quota - q) q v.own o.goods_rule (at_map part_of s.views id v me ∙ ap (λ (x : ℕ). some (part v.number x v.own)) (omega arith)));
      }

  pub joins : Merges rule → (id : ℕ) (v : View P) (other : ℕ) (w : View P) → v.gone ≡ false → w.gone ≡ false → v.stage ≡ Idle → w.stage ≡ Idle → Joins (Lawful rule nodes) id v other w (joined v w) spent
  joins law id v other w live-v live-w rest idle s o me apart there =
      let b : View P = joined v w in let vs : List (View P) = set s.views id b in
      let them : get_elem? s.views other ≡ some w = sym (set_else s.views id other b apart) ∙ there in
      let sum : (f : View P → ℕ) → total f (set vs other spent) + f v + f w ≡ total f s.views + f b + f spent = λ f. omega (arith, total-set f s.views id v b me, total-set f vs other w spent there) in
      let at : (Q : View P → Type 0) (j : ℕ) (u : View P) → get_elem? (set vs other spent) j ≡ some u → Q b → Q spent → ((i : ℕ) → get_elem? s.views i ≡ some u → Q u) → Q u = λ Q j u e qb qs rest.
      ⊎_elim (λ (t : (j ≡ other) × (spent ≡ u)). subst Q t.1 qs) (λ (t : (j ≢ other) × (get_elem? vs j ≡ some u)). ⊎_elim (λ (z : (j ≡ id) × (b ≡ u)). subst Q z.1 qb) (λ (z : (j ≢ id) × (get_elem? s.views j ≡ some u)). rest j z.1) (at_set s.views id j b u t.1)) (at_set vs other j spent u e) in
      record {
        owner = o.owner;
        older = o.older;
        newer = o.newer;
        done = o.done;
        value = o.value;
        posted = o.posted;
        answered = o.answered;
        wide = o.wide;
        long = o.long;
        covered = λ n. omega (arith, sum (covers n), o.covered n, covers-joined n v w live-v live-w);
        standing = λ g waking. omega (arith, sum (weigh g), o.standing g waking, (waking 0).0, (waking w.number).0, ap (g w.number) idle);
        asleep = λ j u e. at (λ x. x.gone ≡ true → (x.stage ≡ Idle) × (part_of x ≡ part 0 0 [])) j u e (λ z. absurd (true≢false (sym z ∙ live-v))) (λ _. (refl, refl)) (λ i z. o.asleep i u z);
        owned = λ j u k e. at (λ x. x.stage ≡ Owns k → o.owner ≡ turn x.number k) j u e (o.owned id v k me) (λ z. absurd (cc)) (λ i z. o.owned i u k z);
        seated = λ j u e. at (λ x. x.gone ≡ false → Seated x.stage (desk s.words s.homes o.posted o.answered x.number)) j u e (λ _. o.seated id v me live-v) (λ z. absurd (true≢false z)) (λ i z. o.seated i u z);
        unused = λ j u n e. at (λ x. x.gone ≡ false → 0 < covers n x → n ≢ x.number → AtRest (desk s.words s.homes o.posted o.answered n)) j u e
            (λ _ h ne. dite (dec_lt 0 (covers n v)) (λ l. o.unused id v n me live-v l ne)
            (λ l. let there-w : 0 < covers n w = omega (arith, h, covers-joined n v w live-v live-w) in dite (ℕ_discrete n w.number)
            (λ z. subst (λ (i : ℕ). AtRest (desk s.words s.homes o.posted o.answered i)) (sym z) (subst (λ (g : Stage P). Seated g (desk s.words s.homes o.posted o.answered w.number)) idle (o.seated other w them live-w)))
            (λ nz. o.unused other w n them live-w there-w nz)))
            (λ z. absurd (true≢false z)) (λ i z. o.unused i u n z);
        unlinked = λ j u n e. at (λ x. x.gone ≡ false → x.linked ≡ false → 0 < covers n x → slice_index s.words (2 + 2 * n) ≡ 0) j u e
            (λ _ f h. let both = or-false v.linked w.linked f in dite (dec_lt 0 (covers n v)) (λ l. o.unlinked id v n me live-v both.0 l) (λ l. o.unlinked other w n them live-w both.1 (omega (arith, h, covers-joined n v w live-v live-w))))
            (λ z. absurd (true≢false z)) (λ i z. o.unlinked i u n z);
        old_waits = o.old_waits;
        new_waits = o.new_waits;
        finished = o.finished;
        held = o.held;
        funded = omega (arith, sum (λ (x : View P). x.quota), o.funded);
        goods_rule = subst (λ ps. rule (goods o.value o.posted o.answered ps)) (sym (map-set part_of vs other spent ∙ ap (λ ps. set ps other (part 0 0 [])) (map-set part_of s.views id b)))
            (law (goods o.value o.posted o.answered (map part_of s.views)) id other v.number w.number v.quota w.quota v.own w.own o.goods_rule (subst (λ (g : Stage P). Seated g (desk s.words s.homes o.posted o.answered v.number)) rest (o.seated id v me live-v)).1.2 apart (at_map part_of s.views id v me) (at_map part_of s.views other w them));
      }
