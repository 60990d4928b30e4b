use Rattle.std.proofs.Common.{ℕ, List, IsSome, sym, ap, ◌∙◌, subst, nat_eq}
use Rattle.cdb_model.specs.Sessions.{session_of, without}
use Rattle.cdb_model.specs.declared.session.Session.{Session}
use Rattle.cdb_sessions.specs.Open.{Open, sessions_in, open_of, AreOpen}
use Rattle.cdb_sessions.proofs.OpenLaws.{no_session, a_session, closes, removed, none_removed}
use Rattle.cdb_sessions.proofs.open.OpenSessions.close.Goals as goal

pub returns-in_default : goal.returns-in_default
returns-in_default c =
    let es = c.self.inside.versions.entries in
    let none = sym c.shift_remove.ensures.value ∙ c.in_default.is in (
      ap (λ (o : Open). session_of c.args.id o.list) (sym c.self.view_is) ∙ no_session c.args.id es none,
      ap (λ (l : List (ℕ × ℕ)). open_of l c.self.inside.opened) (c.shift_remove.ensures.entries
          ∙ none_removed (nat_eq c.args.id) es none) ∙ c.self.view_is,
    )

pub invariant_of-self-2 : goal.invariant_of-self-2
invariant_of-self-2 c =
    subst (λ (l : List (ℕ × ℕ)). AreOpen l c.self.inside.opened) (sym c.shift_remove.ensures.entries)
    (closes c.self.inside.versions.entries c.self.inside.opened (nat_eq c.args.id) c.self.invariant)

pub returns : goal.returns
returns c =
    let es = c.self.inside.versions.entries in
    let some = sym c.shift_remove.ensures.value ∙ c.in-Some.is in
    let list = ap sessions_in c.shift_remove.ensures.entries ∙ removed c.args.id es c.len-count.ensures.unique in (
      subst (λ (o : Open). IsSome (session_of c.args.id o.list)) c.self.view_is
          (a_session c.args.id es c.in-Some.field-0 some),
      ap (λ (l : List Session). let o : Open = record { list = l; opened = c.self.inside.opened } in o) list
          ∙ ap (λ (o : Open). let p : Open = record { list = without c.args.id o.list; opened = o.opened } in
          p) c.self.view_is,
    )
