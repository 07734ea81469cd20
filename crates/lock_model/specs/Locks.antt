-- The abstract lock: what each seat has at it, when it is lawful, and its moves.
use Rattle.std.specs.Prelude.{◌≡◌, ◌≢◌, ℕ, ◌&&◌, not, ◌==◌, if◌then◌else◌, List, [], ◌∷◌, Option, Some, None, Bool, true, false, ◌⊎◌}
use Rattle.lock_model.specs.declared.model.Mode.{Mode}
use Rattle.lock_model.specs.declared.model.Mode.TheVariants.{Shared, Upgrade, Exclusive}
use Rattle.lock_model.specs.declared.model.Policy.{Policy}
use Rattle.lock_model.specs.declared.model.Policy.TheVariants.{WritePriority}
use Rattle.lock_model.specs.declared.model.Role.{Role}
use Rattle.lock_model.specs.declared.model.Role.TheVariants.{Outside, Holds, Announces}
use Rattle.lock_model.specs.declared.model.Act.{Act}
use Rattle.lock_model.specs.declared.model.Act.TheVariants.{EnterShared, EnterUpgrade, Announce, TakeExclusive, Retract, Leave, UpgradeToShared, ExclusiveToShared, ExclusiveToUpgrade}
use Rattle.lock_model.specs.declared.model.SeatRole.{SeatRole}

-- two modes that two seats may hold at once: shared with shared, and shared with upgrade
abbrev pub go_together : Mode → Mode → Bool
go_together Shared Shared = true
go_together Shared Upgrade = true
go_together Shared Exclusive = false
go_together Upgrade Shared = true
go_together Upgrade Upgrade = false
go_together Upgrade Exclusive = false
go_together Exclusive m = false

-- two roles that two seats may have at once. An announced writer goes together with shared holders alone, whether it still holds upgrade or not
abbrev pub fits : Role → Role → Bool
fits Outside r = true
fits (Holds m) Outside = true
fits (Holds m) (Holds n) = go_together m n
fits (Holds Shared) (Announces f) = true
fits (Holds Upgrade) (Announces f) = false
fits (Holds Exclusive) (Announces f) = false
fits (Announces f) Outside = true
fits (Announces f) (Holds Shared) = true
fits (Announces f) (Holds Upgrade) = false
fits (Announces f) (Holds Exclusive) = false
fits (Announces f) (Announces h) = false

-- what an act makes of the role of the seat that does it
abbrev pub role_after : Act → Role → Option Role
role_after EnterShared Outside = Some (Holds Shared)
role_after EnterUpgrade Outside = Some (Holds Upgrade)
role_after Announce Outside = Some (Announces false)
role_after Announce (Holds Upgrade) = Some (Announces true)
role_after TakeExclusive (Announces f) = Some (Holds Exclusive)
role_after Retract (Announces false) = Some Outside
role_after Retract (Announces true) = Some (Holds Upgrade)
role_after Leave (Holds m) = Some Outside
role_after UpgradeToShared (Holds Upgrade) = Some (Holds Shared)
role_after ExclusiveToShared (Holds Exclusive) = Some (Holds Shared)
role_after ExclusiveToUpgrade (Holds Exclusive) = Some (Holds Upgrade)
role_after a r = None

-- another seat with this role bars the act
abbrev pub bars : Policy → Act → Role → Bool
bars p EnterShared (Holds Exclusive) = true
bars WritePriority EnterShared (Announces f) = true
bars p EnterUpgrade (Holds Upgrade) = true
bars p EnterUpgrade (Holds Exclusive) = true
bars p EnterUpgrade (Announces f) = true
bars p Announce (Holds Upgrade) = true
bars p Announce (Holds Exclusive) = true
bars p Announce (Announces f) = true
bars p TakeExclusive (Holds m) = true
bars p TakeExclusive (Announces f) = true
bars p a r = false

abbrev pub seat_role : ℕ → Role → SeatRole
seat_role s r = record { seat = s; role = r }

-- a policy, and the seats with their roles; a seat that isn't in the list is outside
pub record Lock : Type 0 where
  pub policy : Policy
  pub seats : List SeatRole

abbrev pub role_in : List SeatRole → ℕ → Role
role_in [] seat = Outside
role_in (s ∷ ss) seat = if s.seat == seat then s.role else role_in ss seat

abbrev pub with_role : List SeatRole → ℕ → Role → List SeatRole
with_role [] seat r = seat_role seat r ∷ []
with_role (s ∷ ss) seat r = if s.seat == seat then seat_role seat r ∷ ss else s ∷ with_role ss seat r

-- no other seat bars the act
abbrev pub is_free : Policy → Act → ℕ → List SeatRole → Bool
is_free p a seat [] = true
is_free p a seat (s ∷ ss) = if not (s.seat == seat) && bars p a s.role then false else is_free p a seat ss

-- the lock after a seat was given this role, where no other seat bars the act
abbrev pub given_role : Lock → ℕ → Act → Option Role → Option Lock
given_role l seat a None = None
given_role l seat a (Some r) = if is_free l.policy a seat l.seats then Some record { policy = l.policy; seats = with_role l.seats seat r } else None

-- the lock after a seat's act, where the act is allowed
abbrev pub after_event : Lock → ℕ → Act → Option Lock
after_event l seat a = given_role l seat a (role_after a (role_in l.seats seat))

abbrev pub Has : {A : Type 0} → List A → A → Type 0
Has [] a = ⊥
Has (x ∷ xs) a = (a ≡ x) ⊎ Has xs a

-- each seat stands in the list once, and the roles of any two go together
abbrev pub IsLawful : List SeatRole → Type 0
IsLawful [] = Unit {0}
IsLawful (s ∷ ss) = ((t : SeatRole) → Has ss t → (fits s.role t.role ≡ true) × (s.seat ≢ t.seat)) × IsLawful ss

abbrev pub shared_role : Role
shared_role = Holds Shared

abbrev pub upgrade_role : Role
upgrade_role = Holds Upgrade

abbrev pub exclusive_role : Role
exclusive_role = Holds Exclusive
