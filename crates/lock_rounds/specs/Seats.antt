-- The four passes of a shared lock's hall, between their rounds.
use Rattle.hall.specs.declared.hall.Hall.{Hall}
use Rattle.hall.specs.declared.no_cargo.NoCargo.{NoCargo}
use Rattle.lock_rounds.specs.declared.shares.Seats.{Seats}
use Rattle.lock_rounds.specs.Outside.{IsOutside}

-- each is outside the lock
pub record AllOutside (h : Hall NoCargo (Unit {0})) (s : Seats) : Type 0 where
  pub zero : IsOutside h s.zero
  pub one : IsOutside h s.one
  pub two : IsOutside h s.two
  pub three : IsOutside h s.three
