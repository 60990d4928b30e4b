-- The open sessions, and what becomes of them.
use Rattle.std.specs.Prelude.{◌≡◌, ℕ, ◌+◌, ◌≤◌, ◌<◌, List, [], ◌∷◌, ◌++◌, map, length, None}
use Rattle.std.specs.Prelude.{Result, Ok, Err, IsSome}
use Rattle.std.specs.List.{AllByRecursion}
use Rattle.cdb_model.specs.Sessions.{session_of, without}
use Rattle.cdb_model.specs.declared.session.Session.{Session}
use Rattle.cdb_sessions.specs.declared.errors.SessionError.{SessionError}
use Rattle.cdb_sessions.specs.declared.errors.SessionError.TheVariants.{Memory, Many}
use Rattle.cdb_sessions.specs.declared.errors.Unknown.{Unknown}

-- the open sessions in the order of opening, and how many were opened
pub record Open : Type 0 where
  pub list : List Session
  pub opened : ℕ

abbrev pub sessions_in : List (ℕ × ℕ) → List Session
sessions_in entries = map (λ (e : ℕ × ℕ). let s : Session = record { id = e.0; version = e.1 } in s) entries

abbrev pub open_of : List (ℕ × ℕ) → ℕ → Open
open_of entries opened = record { list = sessions_in entries; opened = opened }

-- at most 64, with numbers that were given
pub record AreOpen (entries : List (ℕ × ℕ)) (opened : ℕ) : Type 0 where
  pub most : length entries ≤ 64
  pub given : AllByRecursion (λ (e : ℕ × ℕ). e.0 ≤ opened) entries

abbrev pub session : ℕ → ℕ → Session
session id version = record { id = id; version = version }

-- a session of the next number is open now; 64 are open already; memory was refused
abbrev pub IsSessionOpened : ℕ → Open → Open → Result ℕ SessionError → Type 0
IsSessionOpened version old new (Ok id) =
    (length old.list < 64) × (id ≡ old.opened + 1)
    × (new ≡ record { list = old.list ++ session id version ∷ []; opened = id })
IsSessionOpened version old new (Err Many) = (64 ≤ length old.list) × (new ≡ old)
IsSessionOpened version old new (Err Memory) = (length old.list < 64) × (new ≡ old)

-- a session is open no more; none of the number is open
abbrev pub IsSessionClosed : ℕ → Open → Open → Result Unit Unknown → Type 0
IsSessionClosed id old new (Ok _) =
    IsSome (session_of id old.list) × (new ≡ record { list = without id old.list; opened = old.opened })
IsSessionClosed id old new (Err _) = (session_of id old.list ≡ None) × (new ≡ old)
