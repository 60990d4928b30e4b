use Rattle.std.proofs.Common.{◌≡◌, ◌∙◌, ◌+◌, ◌++◌, Some, slice_get, length, refl, sym, ap, subst, arith, rules}
use Rattle.cdb_grid.specs.declared.tile.Tile.{Tile}
use Rattle.cdb_cut.specs.FinerTiles.{AreChildren}
use Rattle.cdb_publish.specs.TileFiles.{family_needs, TileNeeds}
use Rattle.cdb_publish.specs.Needs.{AreSized, TellsError}
use Rattle.std.proofs.Common.{◌≤◌}
use Rattle.cdb_model.specs.Publications.{sources_of}
use Rattle.cdb_model.specs.TileFile.{tile_bytes}
use Rattle.std.proofs.Common.{drop}
use Rattle.std.proofs.lemmas.List.{length-take-le}
use Rattle.cdb_publish.proofs.MidLaws.{front_is, mid_has_files, all_sources, bytes_law}
use Rattle.cdb_publish.proofs.SizedFiles.{all_sized}
use Rattle.cdb_publish.proofs.Sizes.{only_fault}
use Rattle.cdb_crash.proofs.PlanNumbers.{got}
use Rattle.cdb_publish.proofs.WindowReads.{same_at}
use Rattle.cdb_publish.proofs.tile_maker.make_tile.Goals as goal

pub make_values-requires-clause-children : goal.make_values-requires-clause-children
make_values-requires-clause-children g c =
    let k = c.children-children.ensures in
    subst (λ xs. AreChildren c.index-as_slice-number.result xs) (sym c.as_slice-list.ensures.value)
    (record { none = k.none; one = k.one; four = k.four; fill = k.fill })

pub make_values-requires-clause-room : goal.make_values-requires-clause-room
make_values-requires-clause-room g c =
    c.requires.room c.index-as_slice-number.result
    (got c.args.plan.now.record.tiles c.args.number c.index-as_slice-number.result c.requires.number (search rules))

pub returns-in-Err-clause-needs : goal.returns-in-Err-clause-needs
returns-in-Err-clause-needs g c t at =
    let k = c.children-children.ensures in let u : Tile = c.index-as_slice-number.result in
    let same : u ≡ t = same_at c.args.plan.now.record.tiles c.args.number u t c.requires.number (search rules) at in
    subst (λ (v : Tile). TileNeeds c.args.plan.now c.args.chain.now.records v
    (λ needs. (g.D.Disk.tells → TellsError (g.D.Disk.state c.args.disk.now).present needs c.in-Err.error)
    × (g.D.Disk.read_count c.make_values.new.disk ≤ g.D.Disk.read_count c.args.disk.now + length needs))) same
    (record {
      children = c.as_slice-list.result.now;
      those = subst (λ xs. AreChildren u xs) (sym c.as_slice-list.ensures.value)
          (record { none = k.none; one = k.one; four = k.four; fill = k.fill });
      fact = ((λ told. c.in-Err.ensures.sizes told), c.make_values.ensures.reads);
    })

pub returns-clause-needs : goal.returns-clause-needs
returns-clause-needs g c t at =
    let k = c.children-children.ensures in let u : Tile = c.index-as_slice-number.result in
    let same : u ≡ t = same_at c.args.plan.now.record.tiles c.args.number u t c.requires.number (search rules) at in
    subst (λ (v : Tile). TileNeeds c.args.plan.now c.args.chain.now.records v
    (λ needs. (g.D.Disk.tells → AreSized (g.D.Disk.state c.args.disk.now).present needs)
    × (g.D.Disk.read_count c.make_values.new.disk ≤ g.D.Disk.read_count c.args.disk.now + length needs))) same
    (record {
      children = c.as_slice-list.result.now;
      those = subst (λ xs. AreChildren u xs) (sym c.as_slice-list.ensures.value)
          (record { none = k.none; one = k.one; four = k.four; fill = k.fill });
      fact = ((λ told. c.in-Ok.ensures.sizes told), c.make_values.ensures.reads);
    })

pub returns-in-Err-clause-undamaged : goal.returns-in-Err-clause-undamaged
returns-in-Err-clause-undamaged g c told P x plans are mid =
    let k = c.children-children.ensures in let u : Tile = c.index-as_slice-number.result in
    let s = g.D.Disk.state c.args.disk.now in
    let at : slice_get c.args.plan.now.record.tiles c.args.number ≡ Some u =
    got c.args.plan.now.record.tiles c.args.number u c.requires.number (search rules) in
    let those : AreChildren u c.as_slice-list.result.now =
    subst (λ xs. AreChildren u xs) (sym c.as_slice-list.ensures.value)
    (record { none = k.none; one = k.one; four = k.four; fill = k.fill }) in
    let has = mid_has_files bytes_law c.args.plan.now c.args.chain.now.records P x c.args.number s u
    c.as_slice-list.result.now plans are (g.met.D.Disk.present_possible c.args.disk.now told) mid at those in
    only_fault s.present (family_needs u.family c.args.plan.now c.args.chain.now.records u c.as_slice-list.result.now)
    c.in-Err.error
    (all_sized c.args.plan.now c.args.chain.now.records s.present (sources_of P) x u c.as_slice-list.result.now has)
    (c.in-Err.ensures.sizes told)

pub returns-clause-bytes : goal.returns-clause-bytes
returns-clause-bytes g c told P x plans are mid t there =
    let k = c.children-children.ensures in let u : Tile = c.index-as_slice-number.result in
    let s = g.D.Disk.state c.args.disk.now in
    let at : slice_get c.args.plan.now.record.tiles c.args.number ≡ Some u =
    got c.args.plan.now.record.tiles c.args.number u c.requires.number (search rules) in
    let same : u ≡ t = same_at c.args.plan.now.record.tiles c.args.number u t c.requires.number (search rules) there in
    let those : AreChildren u c.as_slice-list.result.now =
    subst (λ xs. AreChildren u xs) (sym c.as_slice-list.ensures.value)
    (record { none = k.none; one = k.one; four = k.four; fill = k.fill }) in
    let has = mid_has_files bytes_law c.args.plan.now c.args.chain.now.records P x c.args.number s u
    c.as_slice-list.result.now plans are (g.met.D.Disk.present_possible c.args.disk.now told) mid at those in
    let file : c.put_file.new.bytes ≡ tile_bytes (sources_of P ++ x) u = c.put_file.ensures.file (sources_of P ++ x)
    (c.in-Ok.ensures.values told (sources_of P) x has) in
    let n = c.tile_size-size.result in
    let room : n ≤ length c.make_values.new.bytes =
    omega (arith, c.make_values.auto.bytes, c.requires.bytes, c.tile_size-size.ensures.most) in
    front_is c.put_file.new.bytes (drop n c.make_values.new.bytes) _ n refl
    (sym (c.put_file.auto.bytes ∙ length-take-le n c.make_values.new.bytes room)) ∙ file
    ∙ ap (tile_bytes (sources_of P ++ x)) same ∙ ap (λ ss. tile_bytes ss t) (sym (all_sources P x))
