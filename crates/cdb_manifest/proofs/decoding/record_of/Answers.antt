use Rattle.std.proofs.Common.{◌<◌, length}
use Rattle.cdb_manifest.specs.Decoding.{RecordCause}
use Rattle.cdb_manifest.proofs.DecodingLaws.{told_head, told_entry, to_entries, left_over}
use Rattle.cdb_manifest.proofs.decoding.record_of.Goals as goal
use Rattle.cdb_source.proofs.DecodingLaws.{not_empty, handed_on}

pub returns-in_err-heads-clause-bad : goal.returns-in_err-heads-clause-bad
returns-in_err-heads-clause-bad c =
    let bytes = c.args.bytes.now in
    let n = c.in_ok-numbers.numbers in
    let told = told_head bytes c.in_ok-numbers.rest.now n.version n.sources n.tiles c.in_ok-numbers.ensures.form
    c.in_ok-numbers.ensures.read c.in_err-heads.field-0.0 c.in_err-heads.ensures.bad in
    handed_on c.from_residual-in_err-heads.result (RecordCause bytes) c.in_err-heads.field-0.0 told
    c.from_residual-in_err-heads.ensures.1

pub returns-in_err-tiles-clause-bad : goal.returns-in_err-tiles-clause-bad
returns-in_err-tiles-clause-bad c =
    let bytes = c.args.bytes.now in
    let n = c.in_ok-numbers.numbers in
    let heads = c.in_ok-heads.heads.items in
    let count = c.in_ok-heads.ensures.count in
    let begins = to_entries bytes c.in_ok-numbers.rest.now c.in_ok-heads.rest.now n.version n.sources n.tiles heads
    c.in_ok-numbers.ensures.read c.in_ok-heads.ensures.read count in
    let told = told_entry bytes c.in_ok-heads.rest.now n.version n.sources n.tiles heads
    c.in_ok-numbers.ensures.form begins count c.in_err-tiles.field-0.0 c.in_err-tiles.ensures.bad in
    handed_on c.from_residual-in_err-tiles.result (RecordCause bytes) c.in_err-tiles.field-0.0 told
    c.from_residual-in_err-tiles.ensures.1

pub returns-then-not-is_empty-clause-bad : goal.returns-then-not-is_empty-clause-bad
returns-then-not-is_empty-clause-bad c =
    let bytes = c.args.bytes.now in
    let n = c.in_ok-numbers.numbers in
    let heads = c.in_ok-heads.heads.items in
    let count = c.in_ok-heads.ensures.count in
    let begins = to_entries bytes c.in_ok-numbers.rest.now c.in_ok-heads.rest.now n.version n.sources n.tiles heads
    c.in_ok-numbers.ensures.read c.in_ok-heads.ensures.read count in
    let some : 0 < length c.in_ok-tiles.rest.now =
    not_empty (length c.in_ok-tiles.rest.now) c.if-not-is_empty.ensures in
    left_over bytes c.in_ok-heads.rest.now c.in_ok-tiles.rest.now n.version n.sources n.tiles heads
    c.in_ok-tiles.tiles.items c.in_ok-numbers.ensures.form begins count
    c.in_ok-tiles.ensures.read c.in_ok-tiles.ensures.ordered c.in_ok-tiles.ensures.count some
