-- What is told of the moment at which a write takes its number or a read its place.
use Rattle.std.specs.Prelude.{◌≡◌, ℕ, List, length, Some}
use Rattle.std.proofs.Common.{lit<}
use Rattle.hall.specs.declared.view.View.{View}
use Rattle.hall.specs.Moves.{CargoMoment}
use Rattle.query_rules.specs.Maps.{reply_of}
use Rattle.query_rules.specs.History.{maps_after}
use Rattle.map_cargo.specs.declared.size.MapCargo.{MapCargo}
use Rattle.map_cargo.specs.declared.entry.Entry.{Entry}
use Rattle.map_cargo.specs.declared.entry.Part.{Part}
use Rattle.map_cargo.specs.contracts.words.MapCargoCargoRule.TheImpl.{ghosts}
use Rattle.map_cargo.specs.Cells.{number_place}
use Rattle.map_cargo.specs.History.{IsPlainThen}

-- The moment of a step on the number word, which found that so many writes were drawn: the entry says what the plain maps of that moment say
pub record PlainMoment (c : MapCargo) (v w : View Part) (number left : ℕ) (e : Entry) : Type 0 where
  pub words : List ℕ
  pub moment : CargoMoment ghosts v w (number_place c) number left words
  pub plain : IsPlainThen c words number e

-- the cargo of a call that has not picked its own
abbrev pub no_cells : MapCargo
no_cells = record { cells = 0; rows = 1; writes = 0; small = (lit< tt, lit< tt, lit< tt) }
