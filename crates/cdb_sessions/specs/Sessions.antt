-- What contracts see of the sessions, and what a request for a tile makes of them.
use Rattle.std.specs.Prelude.{◌≡◌, ℕ, ◌<◌, ◌⊎◌, Bool, true, false, List, [], ◌∷◌, length, Option, Some, None, Result}
use Rattle.std.specs.Prelude.{Ok, Err}
use Rattle.cdb_grid.specs.declared.tile.Tile.{Tile}
use Rattle.cdb_model.specs.Sessions.{session_of}
use Rattle.std.specs.List.{AllByRecursion}
use Rattle.cdb_model.specs.Maps.{FileMap}
use Rattle.cdb_model.specs.Names.{path}
use Rattle.cdb_model.specs.declared.session.Session.{Session}
use Rattle.cdb_chain.specs.Versions.{IsFound}
use Rattle.cdb_chain.specs.Versions.{Versions as Chain}
use Rattle.cdb_sessions.specs.Open.{Open}
use Rattle.cdb_sessions.specs.Cache.{Kept, Cache, HasNone, IsMovedToFront, IsKept, IsDamaged}
use Rattle.cdb_sessions.specs.declared.errors.TileError.{TileError}
use Rattle.cdb_sessions.specs.declared.errors.TileError.TheVariants.{Fault, Unknown, Damaged}
use Rattle.cdb_sessions.specs.declared.sessions.Reply.{Reply}
use Rattle.cdb_sessions.specs.declared.sessions.Reply.TheVariants.{Missing, Bytes}
use Rattle.cdb_sessions.specs.declared.slot.Pair.{Pair}

-- the open sessions, how many were opened, the files that are kept, the one that was used last first, and the bytes of
-- the last request
pub record Sessions : Type 0 where
  pub list : List Session
  pub opened : ℕ
  pub kept : List Kept
  pub reply : List ℕ

abbrev pub open_part : Sessions → Open
open_part s = record { list = s.list; opened = s.opened }

-- no session, no file and no bytes
abbrev pub starts_empty : Sessions
starts_empty = record { list = []; opened = 0; kept = []; reply = [] }

-- the files and the bytes stay
abbrev pub IsStill : Sessions → Sessions → Type 0
IsStill old new = (new.kept ≡ old.kept) × (new.reply ≡ old.reply)

-- the bytes of the first file, where the last request was answered with it
abbrev pub served_bytes : List Kept → List ℕ
served_bytes [] = []
served_bytes (k ∷ ks) = k.bytes

abbrev pub reply_with : Bool → List Kept → List ℕ
reply_with true kept = served_bytes kept
reply_with false kept = []

abbrev pub sessions_state : Open → Cache → Bool → Sessions
sessions_state o cache replied =
    record { list = o.list; opened = o.opened; kept = cache.kept; reply = reply_with replied cache.kept }

abbrev pub HasReply : Cache → Bool → Type 0
HasReply cache replied = replied ≡ true → 0 < length cache.kept

-- ---- a request for a tile

-- the session is open, and this is what its version has of the tile
pub record LooksUp (list : List Session) (chain : Chain) (id : ℕ) (tile : Tile) (found : Option ℕ) : Type 0 where
  pub session : Session
  pub is_open : session_of id list ≡ Some session
  pub looked : IsFound chain session.version tile found

-- nothing is kept or dropped, and there are no bytes
abbrev pub IsEmpty : Sessions → Sessions → Type 0
IsEmpty old new = (new.kept ≡ old.kept) × (new.reply ≡ [])

abbrev pub pair_of : ℕ → Tile → Pair
pair_of version tile = record { version = version; tile = tile }

-- the file is the first now, and its bytes are the reply: it was kept, and no call of the disk was made, or it was read
pub record IsServedFile {D : Type 0} (Tells : Type 0) (present : FileMap) (before after : D) (list : List Session)
    (chain : Chain) (id : ℕ) (tile : Tile) (old new : Sessions) (count : ℕ) : Type 0 where
  pub version : ℕ
  pub looks : LooksUp list chain id tile (Some version)
  pub files : (IsMovedToFront (pair_of version tile) old.kept new.kept × (after ≡ before))
      ⊎ (HasNone (pair_of version tile) old.kept × IsKept Tells present (pair_of version tile) old.kept new.kept)
  pub reply : new.reply ≡ served_bytes new.kept
  pub count_is : count ≡ length new.reply

-- the file isn't kept
pub record IsAsked (list : List Session) (chain : Chain) (id : ℕ) (tile : Tile) (old : Sessions) : Type 0 where
  pub version : ℕ
  pub looks : LooksUp list chain id tile (Some version)
  pub absent : HasNone (pair_of version tile) old.kept

-- it isn't there or has another size
pub record IsFoundDamaged (Tells : Type 0) (present : FileMap) (list : List Session) (chain : Chain) (id : ℕ)
    (tile : Tile) (old : Sessions) (expected : ℕ) (found : Option ℕ) : Type 0 where
  pub version : ℕ
  pub looks : LooksUp list chain id tile (Some version)
  pub absent : HasNone (pair_of version tile) old.kept
  pub damaged : IsDamaged Tells present (pair_of version tile) expected found

abbrev pub TileOutcome : {D : Type 0} → Type 0 → FileMap → D → D → Chain → ℕ → Tile → Sessions → Sessions
    → Result Reply TileError → Type 0
TileOutcome Tells present before after chain id tile old new (Ok Missing) =
    LooksUp old.list chain id tile None × IsEmpty old new × (after ≡ before)
TileOutcome Tells present before after chain id tile old new (Ok (Bytes count)) =
    IsServedFile Tells present before after old.list chain id tile old new count
TileOutcome Tells present before after chain id tile old new (Err Unknown) =
    (session_of id old.list ≡ None) × IsEmpty old new × (after ≡ before)
TileOutcome Tells present before after chain id tile old new (Err Fault) =
    IsAsked old.list chain id tile old × IsEmpty old new
TileOutcome Tells present before after chain id tile old new (Err (Damaged expected found)) =
    IsFoundDamaged Tells present old.list chain id tile old expected found × IsEmpty old new

-- ---- what the disk has

-- each file that is kept has the bytes that stand at its path
abbrev pub AreCurrent : FileMap → List Kept → Type 0
AreCurrent present kept = AllByRecursion (λ k. present (path k.pair.version k.pair.tile) ≡ Some k.bytes) kept

-- a request keeps this, and its reply is the file of the tile in the version that was found
pub record ServesCurrent (present : FileMap) (list : List Session) (chain : Chain) (id : ℕ) (tile : Tile)
    (new : Sessions) (result : Result Reply TileError) : Type 0 where
  pub current : AreCurrent present new.kept
  pub reply : (count : ℕ) → result ≡ Ok (Bytes count) → (version : ℕ) × LooksUp list chain id tile (Some version)
      × (present (path version tile) ≡ Some new.reply)

abbrev pub RequestsStayCurrent : Type 0
RequestsStayCurrent =
    (present : FileMap) (chain : Chain) (id : ℕ) (tile : Tile) (old new : Sessions) (result : Result Reply TileError)
    → TileOutcome (Unit {0}) present (tt {0}) (tt {0}) chain id tile old new result → AreCurrent present old.kept
    → ServesCurrent present old.list chain id tile new result
