use Rattle.std.proofs.Common.{◌+◌, ◌<◌, ◌++◌, ◌∷◌, [], List, length, ap, ◌∙◌, subst, arith}
use Rattle.cdb_model.specs.declared.session.Session.{Session}
use Rattle.cdb_sessions.specs.Open.{Open}
use Rattle.cdb_sessions.proofs.OpenLaws.{opens}
use Rattle.cdb_sessions.proofs.open.OpenSessions.open.Goals as goal

pub invariant_of-self : goal.invariant_of-self
invariant_of-self c =
    let few : length c.self.inside.versions.entries < 64 = omega (arith, c.if-len-ge-MOST.false, c.len.ensures.len) in
    (opens c.self.inside.versions.entries c.insert.new.self.entries c.self.inside.opened c.args.version c.self.invariant
    few c.in-Ok.ensures.entries).still

pub returns-in-Ok : goal.returns-in-Ok
returns-in-Ok c =
    let few : length c.self.inside.versions.entries < 64 = omega (arith, c.if-len-ge-MOST.false, c.len.ensures.len) in
    let o = opens c.self.inside.versions.entries c.insert.new.self.entries c.self.inside.opened c.args.version
    c.self.invariant few c.in-Ok.ensures.entries in
    let opened = ap (λ (s : Open). s.opened) c.self.view_is in
    let list = ap (λ (s : Open). s.list) c.self.view_is in
    let session : Session = record { id = c.self.inside.opened + 1; version = c.args.version } in
    let more = o.more ∙ ap (λ (l : List Session). l ++ session ∷ []) list in
    let result : Open → Type 0 = λ (s : Open). Unit {0} in
    record {
      opened = (
        subst (λ (s : Open). length s.list < 64) c.self.view_is o.fewer,
        ap (λ n. n + 1) opened,
        ap (λ (l : List Session). let s : Open = record { list = l; opened = c.self.inside.opened + 1 } in s) more,
      );
    }
