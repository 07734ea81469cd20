-- The rule of what the halls of this crate carry.
use Rattle.hall.specs.declared.cargo.CargoRule.{Ghosts}
use Rattle.map_cargo.specs.declared.size.MapCargo.{MapCargo}
use Rattle.map_cargo.specs.declared.entry.Part.{Part}
use Rattle.map_cargo.specs.contracts.words.MapCargoCargoRule.TheImpl.{ghosts}

-- maps behind the locks
abbrev pub maps : Ghosts MapCargo Part
maps = ghosts
