-- What a request for a tile makes of what an engine tracks.
use Rattle.std.proofs.Common.{◌≡◌, ℕ, zero, suc, ◌+◌, ◌<◌, ◌≤◌, ◌⊎◌, inl, inr, List, [], ◌∷◌, ◌++◌, length, take}
use Rattle.std.proofs.Common.{Option, None, Some, IsSome, Result, Ok, Err, refl, ap, sym, ◌∙◌, append_assoc, subst}
use Rattle.std.proofs.Common.{arith}
use Rattle.std.specs.Prelude.{slice_get}
use Rattle.std.specs.List.{AllByRecursion}
use Rattle.std.proofs.lemmas.Option.{same_Some, slice_get_within}
use Rattle.cdb_grid.specs.declared.tile.Tile.{Tile}
use Rattle.cdb_source.specs.Reached.{Reached}
use Rattle.cdb_source.specs.declared.source.Source.{Source}
use Rattle.cdb_model.specs.KnownStore.{KnownState, Going}
use Rattle.cdb_model.specs.Maps.{FileMap, size_of}
use Rattle.cdb_model.specs.Names.{path}
use Rattle.cdb_model.specs.Publications.{Publication, heads_of, sources_of, sources_up_to}
use Rattle.cdb_model.specs.Sessions.{session_of}
use Rattle.cdb_model.specs.Stands.{Stands, HasVersion, IsVersionFile}
use Rattle.cdb_model.specs.Stores.{Which, store_kind, known_store, any_store}
use Rattle.cdb_model.specs.TileFile.{tile_bytes}
use Rattle.cdb_model.specs.Transitions.{StateIn, TileLineIn}
use Rattle.cdb_model.specs.declared.session.Session.{Session}
use Rattle.cdb_files.specs.Disk as disk
use Rattle.cdb_files.specs.Disk.{IsImage}
use Rattle.cdb_files.specs.Moments.{Rests}
use Rattle.cdb_tiff_write.proofs.SizeLaws.{are_sized}
use Rattle.cdb_tiff_write.specs.Rasters.{tile_size}
use Rattle.cdb_chain.specs.Publications.{AreRecords, HasVersions}
use Rattle.cdb_chain.specs.Versions.{Versions, IsNewest}
use Rattle.cdb_source.proofs.Lists.{some_at, at_place, Split, split}
use Rattle.cdb_chain.proofs.ReachedLaws.{meets_sources, names_files, newest_of}
use Rattle.cdb_publish.specs.declared.publication.Publication as publish
use Rattle.cdb_publish.proofs.MidLaws.{bytes_law}
use Rattle.cdb_sessions.specs.Cache.{Kept, IsMovedToFront, IsKept, IsDamaged, HasNone}
use Rattle.cdb_sessions.specs.Sessions.{Sessions, LooksUp, TileOutcome, AreCurrent, ServesCurrent, pair_of, open_part}
use Rattle.cdb_sessions.specs.declared.errors.TileError.{TileError}
use Rattle.cdb_sessions.specs.declared.errors.TileError.TheVariants as tile_error
use Rattle.cdb_sessions.specs.declared.sessions.Reply.{Reply}
use Rattle.cdb_sessions.specs.declared.sessions.Reply.TheVariants.{Missing, Bytes}
use Rattle.cdb_sessions.specs.Open.{Open}
use Rattle.cdb_engine.specs.Held.{Held, held_of}
use Rattle.cdb_engine.specs.StoreAnswers.{tile_answer, HasBytes}
use Rattle.cdb_engine.specs.Stays.{bare_of, Stays}
use Rattle.cdb_engine.specs.Tracks.{Works, IsFileOf, Tracks, Origin, Follows, Leads}
use Rattle.cdb_engine.proofs.StayLaws.{both}
use Rattle.cdb_engine.proofs.StepTracks.{all_map}

-- ---- parts of lists

module _ {A : Type 0} (P : A → Type 0) where
  all_left : (xs ys : List A) → AllByRecursion P (xs ++ ys) → AllByRecursion P xs
  all_left [] ys all = tt
  all_left (x ∷ xs) ys all = (all.0, all_left xs ys all.1)

  all_right : (xs ys : List A) → AllByRecursion P (xs ++ ys) → AllByRecursion P ys
  all_right [] ys all = all
  all_right (x ∷ xs) ys all = all_right xs ys all.1

  all_both : (xs ys : List A) → AllByRecursion P xs → AllByRecursion P ys → AllByRecursion P (xs ++ ys)
  all_both [] ys a b = b
  all_both (x ∷ xs) ys a b = (a.0, all_both xs ys a.1 b)

  all_first : (n : ℕ) (xs : List A) → AllByRecursion P xs → AllByRecursion P (take n xs)
  all_first zero xs all = tt
  all_first (suc n) [] all = tt
  all_first (suc n) (x ∷ xs) all = (all.0, all_first n xs all.1)

-- ---- the files of a list

is_open_some : (o : Option Session) (x : Session) → o ≡ Some x → IsSome o
is_open_some None x e = cc
is_open_some (Some y) x e = refl

-- each tile's file that is kept has the bytes that the disk has at its path
file_current : (present : FileMap) (P : List Publication) → HasVersions present P → (k : Kept) → IsFileOf P k
    → present (path k.pair.version k.pair.tile) ≡ Some k.bytes
file_current present P has k f =
    let v : HasVersion present f.earlier f.x = has f.earlier f.x f.later f.list_is in
    subst (λ n. present (path n k.pair.tile) ≡ Some k.bytes) (sym f.version_is)
    (v.there _ _ (IsVersionFile.of_tile k.pair.tile f.reached) ∙ ap (λ bytes. Some bytes) (sym f.bytes_are))

pub current_now : (present : FileMap) (P : List Publication) (kept : List Kept) → HasVersions present P
    → AllByRecursion (IsFileOf P) kept → AreCurrent present kept
current_now present P kept has files =
    all_map (IsFileOf P) (λ k. present (path k.pair.version k.pair.tile) ≡ Some k.bytes) kept
    (file_current present P has) files

-- a file that a look-up finds and that is read is one of the list
module _ (present : FileMap) (P : List Publication) (chain : Versions) (are : AreRecords chain.records P)
    (has : HasVersions present P) where
  new_file : (version found : ℕ) (t : Tile) (bytes : List ℕ) → IsNewest chain.records version t found
      → present (path found t) ≡ Some bytes → IsFileOf P record { pair = pair_of found t; bytes = bytes }
  new_file version found t bytes newest there =
      let item = newest.has.item in
      let k : ℕ = newest.has.among.0 in
      let at : slice_get chain.records k ≡ Some item = at_place chain.records item newest.has.among in
      let number : item.version ≡ k + 1 = are.versions k item at in
      let within : k < length P = let c = are.count in
      let l : k < length chain.records = slice_get_within chain.records k item at in omega (arith, c, l) in
      let x = some_at P k within in
      let cut : Split P k x.0 = split P k x.0 x.1 in
      let here : length cut.earlier ≡ k = cut.size in
      let version_is : found ≡ length cut.earlier + 1 = let e : item.version ≡ found = newest.has.version_is in
      omega (arith, e, number, here) in
      let reached : Reached (heads_of x.0) t = ((are.tiles k item x.0 at x.1).exact t).0 newest.has.listed in
      let v : HasVersion present cut.earlier x.0 = has cut.earlier x.0 cut.later cut.is in
      let real : present (path (length cut.earlier + 1) t) ≡ Some
      (tile_bytes (sources_of (cut.earlier ++ x.0 ∷ [])) t) = v.there _ _ (IsVersionFile.of_tile t reached) in
      record {
        earlier = cut.earlier;
        x = x.0;
        later = cut.later;
        list_is = cut.is;
        version_is = version_is;
        reached = reached;
        bytes_are = same_Some bytes (tile_bytes (sources_of (cut.earlier ++ x.0 ∷ [])) t)
            (sym there ∙ subst (λ n. present (path n t) ≡ Some (tile_bytes (sources_of (cut.earlier ++ x.0 ∷ [])) t))
            (sym version_is) real);
      }

  module _ {D : Type 0} (tells : Type 0) (told : tells) (before after : D) (id : ℕ) (t : Tile) (old new : Sessions)
      (files : AllByRecursion (IsFileOf P) old.kept) where
    front : (version : ℕ) → IsMovedToFront (pair_of version t) old.kept new.kept → AllByRecursion (IsFileOf P) new.kept
    front version f =
        let k : Kept = record { pair = pair_of version t; bytes = f.bytes } in
        let all : AllByRecursion (IsFileOf P) (f.before ++ k ∷ f.after) =
        subst (AllByRecursion (IsFileOf P)) f.was files in
        let right = all_right (IsFileOf P) f.before (k ∷ f.after) all in
        subst (AllByRecursion (IsFileOf P)) (sym f.now)
        (right.0, all_both (IsFileOf P) f.before f.after (all_left (IsFileOf P) f.before (k ∷ f.after) all) right.1)

    read : (version : ℕ) → LooksUp old.list chain id t (Some version)
        → IsKept tells present (pair_of version t) old.kept new.kept → AllByRecursion (IsFileOf P) new.kept
    read version looks k =
        subst (AllByRecursion (IsFileOf P)) (sym k.now) (
          new_file looks.session.version version t k.bytes
              (newest_of chain looks.session.version t version looks.looked) (k.told told),
          all_first
              (IsFileOf P) 6 old.kept files,
        )

    given : (version : ℕ) → LooksUp old.list chain id t (Some version)
        → (IsMovedToFront (pair_of version t) old.kept new.kept × (after ≡ before))
        ⊎ (HasNone (pair_of version t) old.kept × IsKept tells present (pair_of version t) old.kept new.kept)
        → AllByRecursion (IsFileOf P) new.kept
    given version looks (inl f) = front version f.0
    given version looks (inr k) = read version looks k.1

    -- what is kept stays that of files of the list
    kept_then : (result : Result Reply TileError) → TileOutcome tells present before after chain id t old new result
        → AllByRecursion (IsFileOf P) new.kept
    kept_then (Ok Missing) h = subst (AllByRecursion (IsFileOf P)) (sym h.1.0) files
    kept_then (Ok (Bytes count)) h = given h.version h.looks h.files
    kept_then (Err tile_error.Unknown) h = subst (AllByRecursion (IsFileOf P)) (sym h.1.0) files
    kept_then (Err tile_error.Fault) h = subst (AllByRecursion (IsFileOf P)) (sym h.1.0) files
    kept_then (Err (tile_error.Damaged expected found)) h = subst (AllByRecursion (IsFileOf P)) (sym h.1.0) files

    -- no file is damaged
    whole_file : (version expected : ℕ) (found : Option ℕ) → LooksUp old.list chain id t (Some version)
        → IsDamaged tells present (pair_of version t) expected found → ⊥
    whole_file version expected found looks damaged =
        let real : present (path version t) ≡ Some (tile_bytes (sources_up_to looks.session.version P) t) =
        names_files bytes_law present chain P looks.session.version t version has are looks.looked in
        let long : length (tile_bytes (sources_up_to looks.session.version P) t) ≡ tile_size t =
        are_sized.length_is (sources_up_to looks.session.version P) t in
        damaged.other (damaged.told told ∙ ap size_of real ∙ ap (λ n. Some n) (long ∙ sym damaged.form))

    known_asks : (s : KnownState) → s.list ≡ P → old.list ≡ s.sessions → (result : Result Reply TileError)
        → ServesCurrent present old.list chain id t new result
        → TileOutcome tells present before after chain id t old new result
        → TileLineIn known_store s id t (tile_answer result new.reply) s
    known_asks s list sessions (Ok Missing) c h = (
      record {
        session = h.0.session;
        is_open = ap (session_of id) (sym sessions) ∙ h.0.is_open;
        misses = subst (λ (l : List Publication). Reached (heads_of (sources_up_to h.0.session.version l)) t → ⊥)
            (sym list) (meets_sources chain P h.0.session.version t None are h.0.looked);
      },
      refl,
    )
    known_asks s list sessions (Ok (Bytes count)) c h =
        let r = c.reply count refl in
        let looks : LooksUp old.list chain id t (Some r.0) = r.1 in
        let version : ℕ = looks.session.version in
        let reached : Reached (heads_of (sources_up_to version P)) t =
        meets_sources chain P version t (Some r.0) are looks.looked in
        let real : present (path r.0 t) ≡ Some (tile_bytes (sources_up_to version P) t) =
        names_files bytes_law present chain P version t r.0 has are looks.looked in
        let bytes : new.reply ≡ tile_bytes (sources_up_to version P) t =
        same_Some new.reply (tile_bytes (sources_up_to version P) t) (sym r.2 ∙ real) in (
          record {
            session = looks.session;
            is_open = ap (session_of id) (sym sessions) ∙ looks.is_open;
            serves = subst (λ (l : List Publication). Reached (heads_of (sources_up_to version l)) t
                × (new.reply ≡ tile_bytes (sources_up_to version l) t)) (sym list) (reached, bytes);
          },
          refl,
        )
    known_asks s list sessions (Err tile_error.Unknown) c h = (ap (session_of id) (sym sessions) ∙ h.0, refl)
    known_asks s list sessions (Err tile_error.Fault) c h = (
      subst (λ (l : List Session). IsSome (session_of id l)) sessions
          (is_open_some (session_of id old.list) h.0.looks.session h.0.looks.is_open),
      refl,
    )
    known_asks s list sessions (Err (tile_error.Damaged expected found)) c h =
        whole_file h.0.version expected found h.0.looks h.0.damaged

-- ---- any store

any_asks : {D : Type 0} (tells : Type 0) (present : FileMap) (before after : D) (held : Held) (id : ℕ) (t : Tile)
    (old new : Sessions) → old.list ≡ held.sessions → (result : Result Reply TileError)
    → TileOutcome tells present before after held.chain id t old new result
    → TileLineIn any_store (bare_of held) id t (tile_answer result new.reply) (bare_of held)
any_asks tells present before after held id t old new same (Ok Missing) h =
    (record { session = h.0.session; is_open = ap (session_of id) (sym same) ∙ h.0.is_open; misses = tt }, refl)
any_asks tells present before after held id t old new same (Ok (Bytes count)) h =
    (record { session = h.looks.session; is_open = ap (session_of id) (sym same) ∙ h.looks.is_open; serves = tt }, refl)
any_asks tells present before after held id t old new same (Err tile_error.Unknown) h =
    (ap (session_of id) (sym same) ∙ h.0, refl)
any_asks tells present before after held id t old new same (Err tile_error.Fault) h = (
  subst (λ (l : List Session). IsSome (session_of id l)) same
      (is_open_some (session_of id old.list) h.0.looks.session h.0.looks.is_open),
  refl,
)
any_asks tells present before after held id t old new same (Err (tile_error.Damaged expected found)) h = (
  subst (λ (l : List Session). IsSome (session_of id l)) same
      (is_open_some (session_of id old.list) h.0.looks.session h.0.looks.is_open),
  refl,
)

-- the bytes of the reply
pub bytes_then : {D : Type 0} (tells : Type 0) (present : FileMap) (before after : D) (chain : Versions) (id : ℕ)
    (t : Tile) (old new : Sessions) (result : Result Reply TileError)
    → TileOutcome tells present before after chain id t old new result → HasBytes result new.reply
bytes_then tells present before after chain id t old new (Ok Missing) h = h.1.1
bytes_then tells present before after chain id t old new (Ok (Bytes count)) h = h.count_is
bytes_then tells present before after chain id t old new (Err tile_error.Unknown) h = h.1.1
bytes_then tells present before after chain id t old new (Err tile_error.Fault) h = h.1.1
bytes_then tells present before after chain id t old new (Err (tile_error.Damaged expected found)) h = h.1.1

-- ---- the files of the versions

-- they are there at present, also while a publication is going and after one was given up
pub versions_there : (held : Held) (d : disk.State) (s : KnownState) → Tracks held d s → IsImage d d.present
    → HasVersions d.present s.list
versions_there held d s t image = by s.going s.halted held.work held.halted t.works
  where
    of : Stands d.present s.list → HasVersions d.present s.list
    of stands earlier x later e = stands.versions earlier x later e

    more : (x : Publication) → Stands d.present (s.list ++ x ∷ []) → HasVersions d.present s.list
    more x stands earlier y later e =
        stands.versions earlier y (later ++ x ∷ [])
        (ap (λ l. l ++ x ∷ []) e ∙ append_assoc earlier (y ∷ later) (x ∷ []))

    by : (going : Option Going) (given_up : Option Publication) (work : Option publish.Publication) (faults : Option ℕ)
        → Works s.list going given_up work faults held.chain d → HasVersions d.present s.list
    by None None None None w = of (w.whole.stands d.present image)
    by (Some now) None (Some work) None w = of (w.underway.mid.whole.stands d.present image)
    by None (Some x) None (Some faults) w = either (w d.present image)
      where
        either : Stands d.present s.list ⊎ Stands d.present (s.list ++ x ∷ []) → HasVersions d.present s.list
        either (inl stands) = of stands
        either (inr stands) = more x stands
    by _ _ _ _ w = absurd w

-- the engine after it
abbrev pub asked_with : Held → Sessions → Held
asked_with held new = record held { kept = new.kept; reply = new.reply }

module _ {D : Type 0} (tells : Type 0) (clock count : D → ℕ) (since : D → ℕ → FileMap → Type 0)
    (state : D → disk.State) (old new : D) (held : Held) (id : ℕ) (t : Tile) (were now : Sessions)
    (result : Result Reply TileError) (sessions_are : were.list ≡ held.sessions) (kept_are : were.kept ≡ held.kept)
    (served : TileOutcome tells (state old).present old new held.chain id t were now result)
    (current : tells → AreCurrent (state old).present were.kept
    → ServesCurrent (state old).present were.list held.chain id t now result)
    (possible : tells → IsImage (state old) (state old).present) (same : state new ≡ state old)
    (rests : Rests (clock old) (clock new) (since old) (since new)) (later : count old ≤ count new) where
  pub follows_asked : (origin : Origin) (s : KnownState)
      → Follows tells origin (clock old) (count old) (since old) (state old) held s
      → Leads (TileLineIn known_store s id t (tile_answer result now.reply))
      (Follows tells origin (clock new) (count new) (since new) (state new) (asked_with held now))
  follows_asked origin s f =
      let has : HasVersions (state old).present s.list = versions_there held (state old) s f.tracks (possible f.told) in
      let files : AllByRecursion (IsFileOf s.list) were.kept =
      subst (AllByRecursion (IsFileOf s.list)) (sym kept_are) f.tracks.kept in
      let c = current f.told (current_now (state old).present s.list were.kept has files) in
      record {
        next = s;
        step = known_asks
            (state old).present s.list held.chain f.tracks.records has tells f.told old new id t were now files s refl
            (sessions_are ∙ f.tracks.sessions) result c served;
        now = record {
          told = f.told;
          opened_after = f.opened_after;
          earlier = let e = f.earlier in let n = rests.same in omega (arith, e, n);
          no_fewer = let e = f.no_fewer in omega (arith, e, later);
          begun = f.begun;
          has_begun = f.has_begun;
          tracks = record {
            records = f.tracks.records;
            pending = f.tracks.pending;
            sessions = f.tracks.sessions;
            opened = f.tracks.opened;
            works = subst (Works s.list s.going s.halted held.work held.halted held.chain) (sym same) f.tracks.works;
            kept = kept_then
                (state old).present s.list held.chain f.tracks.records has tells f.told old new id t were now files
                result served;
          };
          images = λ m was. f.images m (rests.nothing_else origin.store.moment m was);
          later_images = λ m was. f.later_images m (rests.nothing_else origin.opened m was);
          halt = f.halt;
        };
      }

  pub any_asked : TileLineIn any_store (bare_of held) id t (tile_answer result now.reply)
      (bare_of (asked_with held now))
  any_asked = any_asks tells (state old).present old new held id t were now sessions_are result served

-- a request for a tile, by what the sessions are before and after it
module _ {D : Type 0} (tells : Type 0) (clock count : D → ℕ) (since : D → ℕ → FileMap → Type 0)
    (state : D → disk.State) (old new : D) (chain : Versions) (work : Option publish.Publication)
    (pending : List Source) (halted : Option ℕ) (id : ℕ) (t : Tile) (were now : Sessions)
    (result : Result Reply TileError) (open_is : open_part now ≡ open_part were)
    (served : TileOutcome tells (state old).present old new chain id t were now result)
    (current : tells → AreCurrent (state old).present were.kept
    → ServesCurrent (state old).present were.list chain id t now result)
    (possible : tells → IsImage (state old) (state old).present) (same : state new ≡ state old)
    (rests : Rests (clock old) (clock new) (since old) (since new)) (later : count old ≤ count new) where
  pub asks_then : (w : Which) (origin : Origin) (s : StateIn (store_kind w))
      → Stays tells clock count since state origin old (held_of chain work pending were halted) w s
      → Leads (TileLineIn (store_kind w) s id t (tile_answer result now.reply))
      (Stays tells clock count since state origin new (held_of chain work pending now halted) w)
  asks_then w origin s stays =
      let held : Held = held_of chain work pending were halted in
      subst (λ (o : Open). Leads (TileLineIn (store_kind w) s id t (tile_answer result now.reply))
      (Stays tells clock count since state origin new
      (record (held_of chain work pending now halted) { sessions = o.list; opened = o.opened }) w)) (sym open_is)
      (both tells clock count since state old new held (asked_with held now)
      (λ w s u. TileLineIn (store_kind w) s id t (tile_answer result now.reply) u)
      (λ origin s f. follows_asked tells clock count since state old new held id t were now result refl refl served
      current possible same rests later origin s f)
      (any_asked tells clock count since state old new held id t were now result refl refl served current possible same
      rests later) w origin s stays)
