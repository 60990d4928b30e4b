use Rattle.cdb_check.proofs.SourceLaws.{tile_judged}
use Rattle.cdb_check.proofs.files.check_built.Goals as goal

pub returns-clause-judged : goal.returns-clause-judged
returns-clause-judged g c = λ told files spelled.
    tile_judged (g.D.Disk.state c.args.disk.now).present files c.args.version c.args.tile.now c.args.sources.now
    c.write_path-path.result.bytes c.make_file.new.bytes c.look_at.result
    c.write_path-path.ensures c.make_file.ensures.bytes spelled (c.look_at.ensures.judged told)
