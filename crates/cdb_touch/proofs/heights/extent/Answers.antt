use Rattle.std.proofs.Common.{◌/◌, ◌∙◌, ap}
use Rattle.cdb_touch.proofs.NumberLaws.{degree-tiles}
use Rattle.cdb_touch.proofs.heights.extent.Goals as goal

pub returns-clause-value : goal.returns-clause-value
returns-clause-value c = ap (λ n. 34789235097600 / n) c.tiles.ensures.value ∙ degree-tiles c.args.height c.requires.most
