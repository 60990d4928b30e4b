use Rattle.std.proofs.Common.{◌++◌, ◌∷◌, [], ◌∙◌, map, sym, subst, List, Err}
use Rattle.cdb_files.specs.Disk.{State}
use Rattle.cdb_grid.specs.declared.tile.Tile.{Tile}
use Rattle.cdb_source.specs.declared.source.Source.{Source}
use Rattle.cdb_check.specs.Expected.{source_files_of, a_record, a_source, a_tile, AllAsExpected, SpellAll}
use Rattle.cdb_check.specs.Outcome.{FirstDiffering}
use Rattle.cdb_check.proofs.ExpectedLaws.{early, onward}
use Rattle.cdb_check.proofs.versions.check_version.Goals as goal

pub returns-in-Err-check_sources-clause-finds : goal.returns-in-Err-check_sources-clause-finds
returns-in-Err-check_sources-clause-finds g c = λ told earlier spelled.
    let r = c.args.record.now in let s = g.D.Disk.state c.args.disk.now in
    let tiles = map (a_tile (earlier ++ source_files_of r) r.version) r.tiles in
    let found = subst (λ (z : State). FirstDiffering {T = Unit {0}} z.present (map a_source (source_files_of r))
    (Err c.in-Err-check_sources.error)) c.check_record.ensures.looks.state
    (c.in-Err-check_sources.ensures.finds told) in
    onward {T = Unit {0}} s.present (a_record r ∷ []) (map a_source (source_files_of r) ++ tiles)
    (Err c.in-Err-check_sources.error) (c.in-Ok.ensures.judged told, tt)
    (early (Unit {0}) (Unit {0}) s.present (map a_source (source_files_of r)) tiles c.in-Err-check_sources.error
    found)

pub returns-clause-finds : goal.returns-clause-finds
returns-clause-finds g c = λ told earlier spelled.
    let r = c.args.record.now in let s = g.D.Disk.state c.args.disk.now in
    let files = earlier ++ source_files_of r in
    let one = c.check_record.ensures.looks.state in
    let two = c.check_sources.ensures.looks.state ∙ one in
    let sources : AllAsExpected s.present (map a_source (source_files_of r)) =
    subst (λ (z : State). AllAsExpected z.present (map a_source (source_files_of r))) one
    (c.in-Ok-check_sources.ensures.finds told) in
    let before : SpellAll (g.D.Disk.state c.check_record.new.disk).present earlier c.args.sources.now.items =
    subst (λ (z : State). SpellAll z.present earlier c.args.sources.now.items) (sym one) spelled in
    let after = c.in-Ok-check_sources.ensures.spelled told earlier before in
    let moved : SpellAll (g.D.Disk.state c.check_sources.new.disk).present files c.check_sources.new.sources.items =
    subst (λ (z : State). SpellAll z.present files c.check_sources.new.sources.items)
    (sym c.check_sources.ensures.looks.state) after in
    let slice : SpellAll (g.D.Disk.state c.check_sources.new.disk).present files c.as_slice-2.result.now =
    subst (λ (ss : List Source). SpellAll (g.D.Disk.state c.check_sources.new.disk).present files ss)
    (sym c.as_slice-2.ensures.value) moved in
    let tiles = c.check_tiles.ensures.finds told files slice in
    let tiles_of : FirstDiffering s.present (map (a_tile files r.version) r.tiles) c.check_tiles.result =
    subst (λ (ts : List Tile). FirstDiffering s.present (map (a_tile files r.version) ts) c.check_tiles.result)
    c.as_slice.ensures (subst (λ (z : State). FirstDiffering z.present
    (map (a_tile files r.version) c.as_slice.result.now) c.check_tiles.result) two tiles) in
    onward s.present (a_record r ∷ []) (map a_source (source_files_of r) ++ map (a_tile files r.version) r.tiles)
    c.check_tiles.result (c.in-Ok.ensures.judged told, tt)
    (onward s.present (map a_source (source_files_of r)) (map (a_tile files r.version) r.tiles) c.check_tiles.result
    sources tiles_of)
