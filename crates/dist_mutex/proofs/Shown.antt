-- The rule of a distributed lock says what specs/Shows.antt has in plain words.
use Rattle.std.proofs.Common.{◌≡◌, ℕ, Result, Option, Some, List, [], ◌∷◌, map, refl, ap, ◌∙◌, subst, arith}
use mathlib.Core.Option.{some}
use Rattle.atomic_table.specs.Table.{State}
use Rattle.view_sums.specs.Sums.{total}
use Rattle.waiter_chain.specs.Goods.{Goods, goods, Runs}
use Rattle.waiter_chain.specs.Chains.{part_of, Lawful}
use Rattle.waiter_chain.proofs.Shown.{chain_shows, value_home, still_posted}
use Rattle.waiter_chain.specs.declared.view.Opening.{Opening}
use Rattle.waiter_chain.specs.declared.view.View.{View}
use Rattle.combine_job.specs.declared.parcel.Parcel.{Parcel}
use Rattle.combine_job.specs.declared.parcel.Parcel.TheVariants.{Value}
use Rattle.combine_job.specs.Parcels.{Related, Ruled, quotas, all_own}
use Rattle.combine_job.proofs.Positions.{history-once}
use Rattle.dist_mutex.specs.Shows.{LockShows}

total-map : {A B : Type 0} (f : A → B) (w : B → ℕ) (l : List A) → total w (map f l) ≡ total (λ a. w (f a)) l
total-map f w [] = refl
total-map f w (x ∷ xs) = omega (arith, total-map f w xs)

module _ {V J O X : Type 0} (rooms : V → ℕ) (means : V → J → Result O X → V → Type 0) (is_ready : J → Type 0) (o : Opening (Parcel V J O X)) where
  pub lock_shows : (s : State (Option (Parcel V J O X)) (View (Parcel V J O X))) → Lawful (Ruled rooms means is_ready o) o.nodes s → LockShows rooms means o s
  lock_shows s l =
      let g : Goods (Parcel V J O X) = goods l.value l.posted l.answered (map part_of s.views) in let r : Ruled rooms means is_ready o g = l.goods_rule in
      let runs : Runs (Related rooms means) o.first.value r.history (Value r.now) = subst (Runs (Related rooms means) o.first.value r.history) r.is r.runs in
      let sum : quotas (map part_of s.views) ≡ total (λ v. v.quota) s.views = total-map part_of (λ x. x.quota) s.views in
      let lists : (w : Parcel V J O X × Parcel V J O X → ℕ) → all_own w (map part_of s.views) ≡ total (λ v. total w v.own) s.views = λ w. total-map part_of (λ x. total w x.own) s.views in
      record {
        chain = chain_shows (Ruled rooms means is_ready o) o.nodes s l;
        kept = r.now;
        history = r.history;
        runs = runs;
        once = history-once rooms means r.history o.first.value (Value r.now) r.first r.now r.began refl r.none_ran runs;
        listed = λ w. omega (arith, r.answers w, lists w);
        posted = l.posted;
        waits = λ j b v job there w. still_posted (Ruled rooms means is_ready o) o.nodes s l j b v job there w;
        room = omega (arith, r.room, sum);
        paid = omega (arith, r.paid, sum);
        stands = λ no. value_home (Ruled rooms means is_ready o) o.nodes s l no ∙ ap (λ (y : Parcel V J O X). some (some (Some y))) r.is;
      }
