use Rattle.std.proofs.Common.{◌≡◌, ℕ, ◌+◌, ◌-◌, ◌*◌, length, rules, sym, subst}
use Rattle.cdb_grid.specs.Frames.{IsRowChanged}
use Rattle.cdb_tiff_write.specs.inside.Older.{or_sample}
use Rattle.cdb_tiff_write.proofs.filling.OlderFileRowRule.change_row.Goals as goal

pub returns-then-self-eq8 : goal.returns-then-self-eq8
returns-then-self-eq8 c =
    let o = c.args.self.now in
    let bits : o.bits ≡ 8 = search rules in
    let from : ℕ = (o.side - 1 - c.args.row) * o.side in
    let F : ℕ → Type 0 = λ b. IsRowChanged (λ k. or_sample o.kind b o.bytes.now (from + k))
    (length c.args.part.now) c.args.part.now c.fill_octets.new.part in
    subst F (sym bits) c.fill_octets.ensures

pub returns-else-self-eq8 : goal.returns-else-self-eq8
returns-else-self-eq8 c =
    let o = c.args.self.now in
    let bits : o.bits ≡ 16 = search rules in
    let from : ℕ = (o.side - 1 - c.args.row) * o.side in
    let F : ℕ → Type 0 = λ b. IsRowChanged (λ k. or_sample o.kind b o.bytes.now (from + k))
    (length c.args.part.now) c.args.part.now c.fill_shorts.new.part in
    subst F (sym bits) c.fill_shorts.ensures
