use Rattle.std.proofs.Common.{rules, ◌≡◌, ◌≤ℤ◌, Decides, nat_eq, w32, to_z, of_z}
use Rattle.std.proofs.lemmas.Bool.Decides.{Decides-and, Decides-or}
use lib.Signed.{le_z}
use Rattle.cdb_source.proofs.row.is_within.Goals as goal

pub returns : goal.returns
returns c =
    let same : Decides (nat_eq (of_z w32 c.args.number) (of_z w32 c.args.novalue)) (c.args.number ≡ c.args.novalue) =
    search rules in
    let least : Decides (le_z (to_z w32 (of_z w32 c.args.least)) (to_z w32 (of_z w32 c.args.number)))
    (c.args.least ≤ℤ c.args.number) = search rules in
    let greatest : Decides (le_z (to_z w32 (of_z w32 c.args.number)) (to_z w32 (of_z w32 c.args.greatest)))
    (c.args.number ≤ℤ c.args.greatest) = search rules in
    Decides-or _ _ same (Decides-and _ _ least greatest)
