-- Tiles are asked for in a session.
use Rattle.std.proofs.Common.{◌≡◌, ℕ, ◌+◌, ◌*◌, ◌<◌, ℤ, pos, negsuc, ◌+ℤ◌, ◌≤ℤ◌, get_or, lit<, List, [], ◌∷◌, length}
use Rattle.std.proofs.Common.{None, Some, Result, Ok, Err, sym, ◌∙◌, ap, subst, arith}
use Rattle.std.specs.Prelude.{All}
use Rattle.std.proofs.lemmas.Int.{ints}
use Rattle.std.proofs.lemmas.List.Elements.{All-get_or, All-push, All-nil}
use Rattle.std.proofs.lemmas.Option.{same_Some}
use Rattle.cdb_grid.specs.declared.tile.Tile.{Tile}
use Rattle.cdb_source.specs.Reached.{Reached}
use Rattle.cdb_model.specs.KnownStore.{KnownState}
use Rattle.cdb_model.specs.Publications.{sources_up_to, heads_of}
use Rattle.cdb_model.specs.Stores.{Which, known, any, store_kind}
use Rattle.cdb_model.specs.TileFile.{tile_bytes}
use Rattle.cdb_model.specs.Transitions.{StateIn, TileLineIn}
use Rattle.cdb_model.specs.declared.session.Session.{Session}
use Rattle.cdb_sessions.specs.declared.errors.TileError.{TileError}
use Rattle.cdb_sessions.specs.declared.errors.TileError.TheVariants as tile
use Rattle.cdb_sessions.specs.declared.sessions.Reply.{Reply}
use Rattle.cdb_sessions.specs.declared.sessions.Reply.TheVariants.{Missing, Bytes}
use Rattle.cdb_engine.specs.StoreAnswers.{tile_answer}
use Rattle.cdb_engine.specs.Tracks.{Leads}
use Rattle.cdb_engine.specs.inside.Populating.{asked_by, LeavesState, IsOpenAt}
use Rattle.cdb_engine.specs.declared.errors.PopulateError.{PopulateError}
use Rattle.cdb_engine.specs.declared.errors.PopulateError.TheVariants.{Memory, Fault, Entries, Versions, Damaged}

maybe_same : (w : Which) (s next : StateIn (store_kind w)) (X : Type 0) (New : StateIn (store_kind w) → Type 0)
    → (store_kind w).Maybe (X × (next ≡ s)) → New next → (store_kind w).Maybe (New s)
maybe_same known s next X New never now = never
maybe_same any s next X New both now = subst New both.1 now

module _ (w : Which) (s : StateIn (store_kind w)) (id : ℕ) (t : Tile) (reply : List ℕ) (New : StateIn (store_kind w)
    → Type 0) where
  asks : (r : Result Reply TileError) → Leads (TileLineIn (store_kind w) s id t (tile_answer r reply)) New
      → LeavesState w (asked_by r) (New s)
  asks (Ok Missing) led = subst New led.step.1 led.now
  asks (Ok (Bytes count)) led = subst New led.step.1 led.now
  asks (Err tile.Unknown) led = subst New led.step.1 led.now
  asks (Err tile.Fault) led = subst New led.step.1 led.now
  asks (Err (tile.Damaged expected found)) led = maybe_same w s led.next _ New led.step led.now

  pub asks_by : (r : Result Reply TileError) (said : Result Unit PopulateError) → said ≡ asked_by r
      → Leads (TileLineIn (store_kind w) s id t (tile_answer r reply)) New → LeavesState w said (New s)
  asks_by r said e led = subst (λ a. LeavesState w a (New s)) (sym e) (asks r led)

-- an error of a request is one of the sum
pub asks_again : (w : Which) (e : PopulateError) (Now : Type 0) → LeavesState {T = Unit {0}} w (Err e) Now
    → LeavesState {T = ℤ} w (Err e) Now
asks_again w Memory Now a = a
asks_again w Fault Now a = a
asks_again w (Entries count) Now a = a
asks_again w Versions Now a = a
asks_again w (Damaged expected found) Now a = a

one_reached : (P : Tile → Type 0) (t : Tile) → All P (t ∷ []) → P t
one_reached P t all = All-get_or P (t ∷ []) 0 t (lit< tt) all

-- one tile of several that are asked for
pub one_of : (s : KnownState) (id version : ℕ) (tiles : List Tile) (i : ℕ) (t : Tile) → i < length tiles
    → IsOpenAt s id version tiles
    → IsOpenAt s id version (get_or tiles i t ∷ [])
one_of s id version tiles i t lt at =
    let P : Tile → Type 0 = λ u. Reached (heads_of (sources_up_to version s.list)) u in
    record {
      session = at.session;
      is_open = at.is_open;
      version_is = at.version_is;
      reached = All-push P [] (get_or tiles i t) (All-nil P) (All-get_or P tiles i t lt at.reached);
    }

-- one more in the sum, with its bounds
pub least_more : (sum more : ℤ) (i : ℕ) → pos 0 ≤ℤ (sum +ℤ pos (34359738368 * i)) → negsuc 34359738367 ≤ℤ more
    → pos 0 ≤ℤ ((sum +ℤ more) +ℤ pos (34359738368 * (i + 1)))
least_more sum more i a b = omega (arith, ints)

pub most_more : (sum more : ℤ) (i : ℕ) → sum ≤ℤ pos (34359738368 * i) → more ≤ℤ pos 34359738368
    → (sum +ℤ more) ≤ℤ pos (34359738368 * (i + 1))
most_more sum more i a b = omega (arith, ints)

-- the bytes of a tile that is reached at the version of an open session
pub bytes_at : (s : KnownState) (id version : ℕ) (t : Tile) (reply : List ℕ) (New : KnownState
    → Type 0) (r : Result Reply TileError)
    → asked_by r ≡ Ok tt → IsOpenAt s id version (t ∷ [])
    → Leads (TileLineIn (store_kind known) s id t (tile_answer r reply)) New
    → reply ≡ tile_bytes (sources_up_to version s.list) t
bytes_at s id version t reply New (Ok Missing) said at led =
    let same : led.step.0.session ≡ at.session = same_Some _ _ (sym led.step.0.is_open ∙ at.is_open) in
    let e : led.step.0.session.version ≡ version = ap (λ (x : Session). x.version) same ∙ at.version_is in
    absurd (led.step.0.misses (subst (λ n. Reached (heads_of (sources_up_to n s.list)) t) (sym e) (one_reached
    (λ u. Reached (heads_of (sources_up_to version s.list)) u) t at.reached)))
bytes_at s id version t reply New (Ok (Bytes count)) said at led =
    let same : led.step.0.session ≡ at.session = same_Some _ _ (sym led.step.0.is_open ∙ at.is_open) in
    let e : led.step.0.session.version ≡ version = ap (λ (x : Session). x.version) same ∙ at.version_is in
    led.step.0.serves.1 ∙ ap (λ n. tile_bytes (sources_up_to n s.list) t) e
bytes_at s id version t reply New (Err tile.Unknown) said at led =
    let no : Some at.session ≡ None = sym at.is_open ∙ led.step.0 in absurd (cc)
bytes_at s id version t reply New (Err tile.Fault) said at led = absurd (cc)
bytes_at s id version t reply New (Err (tile.Damaged expected found)) said at led = absurd led.step
