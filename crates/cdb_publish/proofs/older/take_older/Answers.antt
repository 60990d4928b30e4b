use Rattle.std.proofs.Common.{rules}
use Rattle.cdb_publish.proofs.ChildLaws.{older_fewer, older_most}
use Rattle.cdb_publish.proofs.older.take_older.Goals as goal

pub returns-in-Ok-clause-fewer : goal.returns-in-Ok-clause-fewer
returns-in-Ok-clause-fewer g c =
    older_fewer c.args.plan.now c.args.chain.now.records c.args.tile.now c.args.children.now
    (c.keeps_some.ensures (search rules)) c.in-Ok.found (g.D.Disk.read_count c.args.disk.now)
    (g.D.Disk.read_count c.read_older.new.disk) c.read_older.ensures.reads c.in-Ok.ensures.unread

pub returns-in-Ok-clause-reads : goal.returns-in-Ok-clause-reads
returns-in-Ok-clause-reads g c =
    older_most c.args.plan.now c.args.chain.now.records c.args.tile.now c.args.children.now
    (c.keeps_some.ensures (search rules)) (g.D.Disk.read_count c.args.disk.now)
    (g.D.Disk.read_count c.read_older.new.disk) c.read_older.ensures.reads

pub returns-in-Err-clause-reads : goal.returns-in-Err-clause-reads
returns-in-Err-clause-reads g c =
    older_most c.args.plan.now c.args.chain.now.records c.args.tile.now c.args.children.now
    (c.keeps_some.ensures (search rules)) (g.D.Disk.read_count c.args.disk.now)
    (g.D.Disk.read_count c.read_older.new.disk) c.read_older.ensures.reads
