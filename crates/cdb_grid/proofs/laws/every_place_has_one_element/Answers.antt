use Rattle.cdb_grid.proofs.ElementLaws.{element-corner, corner-within, one_element}
use Rattle.cdb_grid.proofs.laws.every_place_has_one_element.Goals as goal

pub returns-clause-corner : goal.returns-clause-corner
returns-clause-corner c = element-corner

pub returns-clause-within : goal.returns-clause-within
returns-clause-within c = corner-within

pub returns-clause-one : goal.returns-clause-one
returns-clause-one c = one_element
