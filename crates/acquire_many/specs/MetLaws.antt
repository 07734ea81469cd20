-- Laws of wants that were met: what the pass learnt, its footprints, and what its part says of other locks.
use Rattle.std.specs.Prelude.{◌≡◌, ◌≢◌, ℕ, ◌<◌, Bool, true, false, List, length, slice_index_or, Option, Some, None}
use Rattle.std.proofs.Common.{refl, sym, ap, ◌∙◌, subst, ⊎_elim}
use Rattle.std.proofs.lemmas.Bool.{cases_lt}
use Rattle.lock_model.specs.declared.model.Mode.TheVariants as modes
use Rattle.hall.specs.declared.cargo.CargoRule.{Ghosts}
use Rattle.hall.specs.declared.guards.TryFault.{TryFault}
use Rattle.hall.specs.declared.guards.TryFault.TheVariants.{Busy, Raced}
use Rattle.hall.specs.declared.view.StepKind.TheVariants as kinds
use Rattle.hall.specs.declared.view.Standing.TheVariants as stand
use Rattle.hall.specs.declared.view.View.{View}
use Rattle.hall.specs.Treading.{IsAt, IsBetween, IsWeakAt, Treads, treads_as, treads_step, treads_then}
use Rattle.hall.specs.Views.{after_look, standing}
use Rattle.apply_deferred.specs.SweepLaws.{sweep_goes}
use Rattle.shared_mutex.specs.Acquiring.{FoundReaders}
use Rattle.shared_mutex.specs.Tries.{WritesAtLast}
use Rattle.shared_mutex.specs.TrailLaws.{enters_treads, leaves_shared_treads, looked_at, refuses_exclusive_treads, refuses_shared_treads, releases_treads, takes_exclusive_treads, takes_shared_treads, writes_treads}
use Rattle.shared_mutex.specs.TryLaws.{looked_once, reader_looked, stands_still, writer_looked}
use Rattle.shared_mutex.specs.Entering.{enters_last, leaves_lock}
use Rattle.upgrade_mode.specs.Holding.{EntersUpgrade}
use Rattle.acquire_many.specs.declared.guards.How.TheVariants as hows
use Rattle.upgrade_mode.specs.Tries.{upgrader_looked}
use Rattle.acquire_many.specs.Met.{HeldAll, IsFor, Learns, Meets, Refuses, Returns, Takes, stands_for}
use Rattle.acquire_many.specs.Wants.{Hold, Want, want_at, want_of}

pub some_same : (a b : Hold) → Some a ≡ Some b → a ≡ b
some_same a b e = cc

pub no_some : (x : Hold) → None ≡ Some x → ⊥
no_some x e = absurd (cc)

-- a hold that stands at a position is of the want there
pub of_held : (wants : List Want) (holds : List (Option Hold)) → HeldAll wants holds → (k : ℕ) (x : Hold) → slice_index_or holds k None ≡ Some x → (k < length wants) × (want_of x ≡ want_at wants k)
of_held wants holds h k x at =
    ⊎_elim (λ near. let is = h.held k near in (near, subst (λ (y : Hold). want_of y ≡ want_at wants k) (some_same is.0 x (sym is.1 ∙ at)) is.2)) (λ far. absurd (no_some x (sym (h.none k far) ∙ at))) (cases_lt k (length wants))

no_both : (b : Bool) → b ≡ false → b ≡ true → ⊥
no_both b f t = absurd (cc)

module _ {P : Type 0} where
  weak_for : (lock : ℕ) (v w : View P) → Treads (IsWeakAt lock) v w → Treads (IsFor (lock, modes.Shared)) v w
  weak_for lock v w t = treads_as (IsWeakAt lock) (IsFor (lock, modes.Shared)) v w (λ m p. (p.0, λ strong. absurd (no_both m.strong p.1 strong))) t

  at_upgrade : (lock : ℕ) (v w : View P) → Treads (IsAt lock) v w → Treads (IsFor (lock, modes.Upgrade)) v w
  at_upgrade lock v w t = treads_as (IsAt lock) (IsFor (lock, modes.Upgrade)) v w (λ m p. (p, λ strong e. absurd (cc))) t

  at_exclusive : (lock : ℕ) (v w : View P) → Treads (IsAt lock) v w → Treads (IsFor (lock, modes.Exclusive)) v w
  at_exclusive lock v w t = treads_as (IsAt lock) (IsFor (lock, modes.Exclusive)) v w (λ m p. (p, λ strong e. absurd (cc))) t

module _ {C P : Type 0} (g : Ghosts C P) where
  upgrade_treads : (v w : View P) (lock : ℕ) → EntersUpgrade g v lock w → Treads (IsAt lock) v w
  upgrade_treads v w lock t =
      let u = after_look v kinds.Load lock t.0 in let got = t.2.0 in
      treads_then (IsAt lock) v u w (looked_at v u lock (looked_once v u kinds.Load lock t.0 refl refl))
      (treads_as (IsBetween lock (standing u lock) stand.Upgrade) (IsAt lock) u w (λ m p. p.0) (treads_step u w kinds.UpgradeIn lock t.0 true stand.Upgrade got.1 got.3))

  -- footprints of a want that was met
  pub meets_treads : (v w : View P) (hold : Hold) → standing v hold.0 ≡ stand.Away → Meets g v hold w → Treads (IsFor (want_of hold)) v w
  meets_treads v w (lock, hows.Shared form) away t = weak_for lock v w (enters_treads g v w lock t.0 away (t.1.0, t.1.1, t.1.2, (form, t.1.3)))
  meets_treads v w (lock, hows.Upgrade) away t = at_upgrade lock v w (treads_then (IsAt lock) v t.1.0 w (looked_at v t.1.0 lock t.1.2) (upgrade_treads t.1.0 w lock t.1.3))
  meets_treads v w (lock, hows.Exclusive) away t = at_exclusive lock v w (writes_treads g v w lock t.0 t.1 t.2)

  pub takes_treads : (v w : View P) (hold : Hold) → standing v hold.0 ≡ stand.Away → Takes g v hold w → Treads (IsFor (want_of hold)) v w
  takes_treads v w (lock, hows.Shared form) away t = weak_for lock v w (takes_shared_treads g v w lock away (form, t))
  takes_treads v w (lock, hows.Upgrade) away t = at_upgrade lock v w (upgrade_treads v w lock t)
  takes_treads v w (lock, hows.Exclusive) away t = at_exclusive lock v w (takes_exclusive_treads g v w lock t)

  -- what the pass learnt by it
  learnt_after : (v u w : View P) (lock : ℕ) → u.part ≡ v.part → Learns g lock u w → Learns g lock v w
  learnt_after v u w lock same t = (t.0, subst (λ (p : P). g.gains lock t.0 p w.part) same t.1)

  learnt_by : (u w : View P) (lock : ℕ) (ws : List ℕ) (part : P) → g.gains lock ws u.part part → w.part ≡ part → Learns g lock u w
  learnt_by u w lock ws part gain is = (ws, subst (λ (p : P). g.gains lock ws u.part p) (sym is) gain)

  pub takes_learns : (v w : View P) (hold : Hold) → standing v hold.0 ≡ stand.Away → Takes g v hold w → Learns g hold.0 v w
  takes_learns v w (lock, hows.Shared form) away t = let e = enters_last g v w lock away (form, t) in learnt_after v e.before w lock e.tried.part (learnt_by e.before w lock e.words e.part e.gains (ap (λ (z : View P). z.part) e.is))
  takes_learns v w (lock, hows.Upgrade) away t = let got = t.2.0 in learnt_by v w lock got.0 got.1 got.2 (ap (λ (z : View P). z.part) got.3)
  takes_learns v w (lock, hows.Exclusive) away t =
      let u = t.0 in let z = t.2 in let got = t.5.0 in
      learnt_after v z w lock ((sweep_goes g lock v.shape.slots t.3 u z t.4).part ∙ ap (λ (x : View P). x.part) t.1.2.0) (learnt_by z w lock got.0 got.1 got.2 (ap (λ (x : View P). x.part) got.3))

  written_learns : (v w : View P) (lock : ℕ) (faults misses : List TryFault) → WritesAtLast g v lock faults misses w → Learns g lock v w
  written_learns v w lock faults misses t =
      let a = t.0 in let began = t.1 in let u = began.0 in let won = began.3 in let b = won.0 in let ended = t.2 in let z = ended.0 in let got = ended.3.0 in
      let swept = (sweep_goes g lock v.shape.slots won.2.0 b a won.2.1).part in
      learnt_after v z w lock (ended.2.part ∙ swept ∙ ap (λ (x : View P). x.part) won.1.2.0 ∙ began.2.part) (learnt_by z w lock got.0 got.1 got.2 (ap (λ (x : View P). x.part) got.3))

  pub meets_learns : (v w : View P) (hold : Hold) → standing v hold.0 ≡ stand.Away → Meets g v hold w → Learns g hold.0 v w
  meets_learns v w (lock, hows.Shared form) away t = let u = t.1.0 in learnt_after v u w lock t.1.2.part (takes_learns u w (lock, hows.Shared form) (stands_still v u lock t.1.2 ∙ away) t.1.3)
  meets_learns v w (lock, hows.Upgrade) away t = let u = t.1.0 in learnt_after v u w lock t.1.2.part (takes_learns u w (lock, hows.Upgrade) (stands_still v u lock t.1.2 ∙ away) t.1.3)
  meets_learns v w (lock, hows.Exclusive) away t = written_learns v w lock t.0 t.1 t.2

  -- a hold that was given back: its footprints, and what the part says of other locks
  pub returns_treads : (v w : View P) (hold : Hold) → hold.0 < length v.standings → standing v hold.0 ≡ stands_for hold.1 → Returns g v hold w → Treads (IsFor (want_of hold)) v w
  returns_treads v w (lock, hows.Shared form) near held t = weak_for lock v w (leaves_shared_treads g v w lock form near held t)
  returns_treads v w (lock, hows.Upgrade) near held t = at_upgrade lock v w (treads_as (IsBetween lock (standing v lock) stand.Away) (IsAt lock) v w (λ m p. p.0) (treads_step v w kinds.UpgradeOut lock t.0 true stand.Away (g.lowered lock None v.part) t.1.0))
  returns_treads v w (lock, hows.Exclusive) near held t = at_exclusive lock v w (releases_treads g v w lock t)

  left_so : (v w : View P) (lock other : ℕ) → other ≢ lock → w.part ≡ g.lowered lock None v.part → g.settled other v.part → g.settled other w.part
  left_so v w lock other ne is was = subst (λ (p : P). g.settled other p) (sym is) (g.lowered_leaves lock other None v.part ne was)

  pub returns_leave : (v w : View P) (hold : Hold) → hold.0 < length v.standings → standing v hold.0 ≡ stands_for hold.1 → Returns g v hold w → (other : ℕ) → other ≢ hold.0 → g.settled other v.part → g.settled other w.part
  returns_leave v w (lock, hows.Shared form) near held t other ne was = left_so v w lock other ne (leaves_lock g v w lock near form held t).part was
  returns_leave v w (lock, hows.Upgrade) near held t other ne was = left_so v w lock other ne (ap (λ (z : View P). z.part) t.1.0) was
  returns_leave v w (lock, hows.Exclusive) near held t other ne was = left_so v w lock other ne (ap (λ (z : View P). z.part) t.1) was

  -- a try that was refused: its footprints, and that the pass learnt nothing
  pub refuses_treads : (v w : View P) (want : Want) (fault : TryFault) → standing v want.0 ≡ stand.Away → Refuses g v want w fault → Treads (IsFor want) v w
  refuses_treads v w (lock, modes.Shared) fault away r = weak_for lock v w (refuses_shared_treads g v w lock fault away r)
  refuses_treads v w (lock, modes.Upgrade) fault away r = at_upgrade lock v w (looked_at v w lock (upgrader_looked g v lock w fault r))
  refuses_treads v w (lock, modes.Exclusive) fault away r = at_exclusive lock v w (refuses_exclusive_treads g v w lock fault r)

  found_part : (v w : View P) (lock word : ℕ) → FoundReaders g v lock w word → w.part ≡ v.part
  found_part v w lock word f = ap (λ (x : View P). x.part) f.7.1 ∙ (sweep_goes g lock v.shape.slots f.3 f.0 f.2 f.4).part ∙ ap (λ (x : View P). x.part) f.1.2.0

  pub refuses_part : (v w : View P) (want : Want) (fault : TryFault) → Refuses g v want w fault → w.part ≡ v.part
  refuses_part v w (lock, modes.Shared) fault r = (reader_looked g v lock w fault r).part
  refuses_part v w (lock, modes.Upgrade) fault r = (upgrader_looked g v lock w fault r).part
  refuses_part v w (lock, modes.Exclusive) (Busy word) r = ⊎_elim (λ a. (writer_looked g v lock w (Busy word) a).part) (λ f. found_part v w lock word f) r
  refuses_part v w (lock, modes.Exclusive) (Raced expected found) r = (writer_looked g v lock w (Raced expected found) r).part
