use Rattle.std.proofs.Common.{rules, ◌≡◌, length, ap, ◌∙◌}
use Rattle.std.proofs.lemmas.List.{length-take-le}
use Rattle.cdb_source.proofs.HeadLaws.{IsBytes, IsBytes-take}
use Rattle.cdb_manifest.proofs.EntryLaws.{entry_short, entry_other, entry_then}
use Rattle.cdb_manifest.proofs.entry.entry_at.Goals as goal

pub returns-in_err-entry : goal.returns-in_err-entry
returns-in_err-entry c = rw c.from_residual.ensures (entry_short c.args.bytes.now c.in_err-entry.ensures.cases)

pub returns-in_err-tile : goal.returns-in_err-tile
returns-in_err-tile c =
    rw c.from_residual-in_err-tile.ensures
    (entry_other c.args.bytes.now c.in_ok-entry.entry.now c.in_ok-entry.ensures.cases.same c.in_err-tile.ensures)

pub returns : goal.returns
returns c =
    let bytes = c.args.bytes.now in
    let same = c.in_ok-entry.ensures.cases.same in
    let enough = c.in_ok-entry.ensures.cases.enough in
    let len : length c.in_ok-entry.entry.now ≡ 16 = ap length same ∙ length-take-le 16 c.args.bytes.now enough in
    let whole : IsBytes c.args.bytes.now = search rules in
    let fits : IsBytes c.in_ok-entry.entry.now = rw same (IsBytes-take 16 c.args.bytes.now whole) in
    rw c.split_at.ensures.back (entry_then bytes c.in_ok-entry.entry.now c.in_ok-tile.tile len fits same
    c.in_ok-tile.ensures)
