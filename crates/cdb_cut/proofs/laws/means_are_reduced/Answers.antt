use Rattle.std.proofs.Common.{refl, sym}
use Rattle.cdb_source.specs.Sample.{post_at}
use Rattle.cdb_cut.proofs.PaintLaws.{value_scaled}
use Rattle.cdb_cut.proofs.laws.means_are_reduced.Goals as goal

pub returns : goal.returns
returns c s g h m n up right p q pm pn =
    sym (value_scaled s.head.kind s (post_at s) g h m n up right refl p q pm pn (λ row col looks. refl))
