-- Sessions that are open.
use Rattle.std.specs.Prelude.{ℕ, List, filter, not, nat_eq, Option}
use Rattle.std.specs.List.{find}
use Rattle.cdb_model.specs.declared.session.Session.{Session}

-- the open session of a number
abbrev pub session_of : ℕ → List Session → Option Session
session_of id sessions = find (λ x. nat_eq x.id id) sessions

-- the sessions but for those of a number
abbrev pub without : ℕ → List Session → List Session
without id sessions = filter (λ x. not (nat_eq x.id id)) sessions
