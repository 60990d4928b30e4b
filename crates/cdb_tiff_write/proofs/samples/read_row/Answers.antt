use Rattle.std.proofs.Common.{◌≡◌, ℕ, ◌+◌, length, rules, sym, subst}
use Rattle.cdb_grid.specs.Frames.{IsRowChanged}
use Rattle.cdb_tiff_write.specs.Samples.{sample_in}
use Rattle.cdb_tiff_write.proofs.samples.read_row.Goals as goal

pub returns-then-bits-eq8 : goal.returns-then-bits-eq8
returns-then-bits-eq8 c =
    let bits : c.args.bits ≡ 8 = search rules in
    let F : ℕ → Type 0 = λ b. IsRowChanged (λ k old. sample_in b c.args.bytes.now (c.args.from + k))
    (length c.args.to.now) c.args.to.now c.read_octets.new.to in
    subst F (sym bits) c.read_octets.ensures

pub returns-else-bits-eq8 : goal.returns-else-bits-eq8
returns-else-bits-eq8 c =
    let bits : c.args.bits ≡ 16 = search rules in
    let F : ℕ → Type 0 = λ b. IsRowChanged (λ k old. sample_in b c.args.bytes.now (c.args.from + k))
    (length c.args.to.now) c.args.to.now c.read_shorts.new.to in
    subst F (sym bits) c.read_shorts.ensures
