use Rattle.std.proofs.Common.{◌≡◌, take, length, sym, ap, ◌∙◌, subst}
use Rattle.std.specs.Result.{IfOk}
use Rattle.cdb_pool.specs.Frames.{contents, written}
use Rattle.cdb_sessions.specs.Cache.{Cache, kept_files}
use Rattle.cdb_sessions.specs.inside.Cache.{IsFileRead}
use Rattle.cdb_sessions.proofs.CacheLaws.{spared}
use Rattle.cdb_sessions.proofs.cache.Cache.fill_spare.Goals as goal

pub returns-clause-kept : goal.returns-clause-kept
returns-clause-kept g c =
    let s = spared c.self.inside.pool c.self.inside.frames.items c.self.inside.slots c.self.inside.spare
    c.self.invariant in
    let n = s.numbered_so c.index-frame.result.now c.index-frame.ensures in
    let long : length c.read_into.new.frame ≡ c.self.inside.pool.frame_length = c.read_into.auto.frame
    ∙ c.get_mut-into.ensures.len in
    let a = s.after c.read_into.new.frame long in
    ap (λ k. kept_files (written c.self.inside.pool k c.read_into.new.frame) c.self.inside.slots.entries) n ∙ a.1
    ∙ ap (λ (x : Cache). x.kept) c.self.view_is

pub returns-clause-read : goal.returns-clause-read
returns-clause-read g c = λ told.
    let s = spared c.self.inside.pool c.self.inside.frames.items c.self.inside.slots c.self.inside.spare
    c.self.invariant in
    let n = s.numbered_so c.index-frame.result.now c.index-frame.ensures in
    let long : length c.read_into.new.frame ≡ c.self.inside.pool.frame_length = c.read_into.auto.frame
    ∙ c.get_mut-into.ensures.len in
    let a = s.after c.read_into.new.frame long in
    subst (λ xs. IfOk c.read_into.result (IsFileRead ((g.D.Disk.state c.args.disk.now).present c.args.path.now.bytes)
    (take c.args.len xs)))
    (sym (ap (λ k. contents (written c.self.inside.pool k c.read_into.new.frame) c.self.inside.spare) n ∙ a.2))
    (c.read_into.ensures.read told)
