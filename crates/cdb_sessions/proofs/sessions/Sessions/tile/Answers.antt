use Rattle.cdb_sessions.proofs.CurrentLaws.{serves}
use Rattle.cdb_sessions.proofs.sessions.Sessions.tile.Goals as goal

pub returns-clause-current : goal.returns-clause-current
returns-clause-current g c told was =
    serves g.D.Disk.tells told c.args.disk.now c.serve.new.disk (g.D.Disk.state c.args.disk.now).present
    c.args.chain.now c.args.id c.args.tile.now c.args.self.now c.serve.new.self was c.serve.result
    c.serve.ensures.served
