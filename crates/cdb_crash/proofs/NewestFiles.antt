-- The file of a tile in the last version that touches it has the bytes that all sources give.
use Rattle.std.proofs.Common.{◌≡◌, ℕ, zero, suc, ◌+◌, ◌<◌, List, [], ◌∷◌, ◌++◌, length, get_or, Some, refl, sym, ap, ◌∙◌, subst, arith, append_assoc}
use Rattle.std.specs.Prelude.{slice_get, All, Contains}
use Rattle.std.proofs.lemmas.Grind.{flat_map-append}
use Rattle.std.proofs.lemmas.List.Elements.{All-append}
use Rattle.std.proofs.lemmas.Option.{slice_get_within}
use Rattle.cdb_grid.specs.declared.tile.Tile.{Tile}
use Rattle.cdb_source.specs.Reached.{Reached, Reaches, IsTouched}
use Rattle.cdb_source.specs.declared.source.Source.{Source}
use Rattle.cdb_model.specs.ByteLaws.{BytesByReaching}
use Rattle.cdb_model.specs.Publications.{heads_of, sources_of}
use Rattle.cdb_model.specs.Maps.{FileMap}
use Rattle.cdb_model.specs.Names.{path}
use Rattle.cdb_model.specs.Stands.{ArePublications, IsVersionFile, Stands}
use Rattle.cdb_model.specs.TileFile.{tile_bytes}
use Rattle.cdb_source.proofs.Lists.{some_at, split, Split}
use Rattle.cdb_files.specs.Disk.{State}
use Rattle.cdb_crash.specs.Plan.{IsMidAfter, tile_file}
use Rattle.cdb_crash.specs.StepLaws.{AreTouched, NewestFiles}
use Rattle.cdb_crash.proofs.PlanLaws.{plan_keeps}
use Rattle.cdb_crash.proofs.PlanNumbers.{tile_at}

sources_of-append : (P Q : List (List Source)) → sources_of (P ++ Q) ≡ sources_of P ++ sources_of Q
sources_of-append P Q = flat_map-append (λ sources. sources) P Q

-- A tile that no later publication touches has in the last version that touched it the bytes that all sources give.
pub older_file : (bytes : BytesByReaching) (m : FileMap) (P earlier : List (List Source)) (y : List Source)
    (later : List (List Source)) (t : Tile) → Stands m P → P ≡ earlier ++ y ∷ later
    → Reached (heads_of y) t → All (λ (s : Source). Reaches s.head t → ⊥) (sources_of later)
    → m (path (length earlier + 1) t) ≡ Some (tile_bytes (sources_of P) t)
older_file bytes m P earlier y later t stands is reached untouched =
    let version = stands.versions earlier y later is in
    let one : earlier ++ y ∷ later ≡ (earlier ++ y ∷ []) ++ later = sym (append_assoc earlier (y ∷ []) later) in
    version.there (path (length earlier + 1) t) (tile_bytes (sources_of (earlier ++ y ∷ [])) t)
    (IsVersionFile.of_tile t reached)
    ∙ ap (λ b. Some b) (sym (bytes.untouched t (sources_of (earlier ++ y ∷ [])) (sources_of later) untouched)
    ∙ ap (λ ss. tile_bytes ss t) (sym (sources_of-append (earlier ++ y ∷ []) later) ∙ ap sources_of (sym one ∙ sym is)))

head_at : (z : List Source) (k : ℕ) (d : Source) → k < length z → slice_get (heads_of z) k ≡ Some (get_or z k d).head
head_at [] k d l = absurd (omega (arith, l))
head_at (s ∷ z) zero d l = refl
head_at (s ∷ z) (suc k) d l = head_at z k d (omega (arith, l))

-- Sources of which none reaches the tile.
pub none_reach : (t : Tile) (z : List Source) → (Reached (heads_of z) t → ⊥)
    → All (λ (s : Source). Reaches s.head t → ⊥) z
none_reach t z never k d l reaches =
    never (record { number = k; head = (get_or z k d).head; there = head_at z k d l; reaches = reaches })

none_of_later : (t : Tile) (later : List (List Source))
    → ((i : ℕ) (z : List Source) → slice_get later i ≡ Some z → Reached (heads_of z) t → ⊥)
    → All (λ (s : Source). Reaches s.head t → ⊥) (sources_of later)
none_of_later t [] never = λ k d l. absurd (omega (arith, l))
none_of_later t (z ∷ later) never = All-append (λ (s : Source). Reaches s.head t → ⊥) z (sources_of later)
    (none_reach t z (never 0 z refl)) (none_of_later t later (λ i y at. never (suc i) y at))

-- In an earlier version that touches it, where no later one does.
pub newest_before : (bytes : BytesByReaching) (m : FileMap) (lists : List (List Tile)) (P : List (List Source))
    (t : Tile) (k : ℕ) (tiles : List Tile) → Stands m P → AreTouched lists P
    → slice_get lists k ≡ Some tiles → Contains tiles t
    → ((j : ℕ) (later : List Tile) → k < j → slice_get lists j ≡ Some later → Contains later t → ⊥)
    → m (path (k + 1) t) ≡ Some (tile_bytes (sources_of P) t)
newest_before bytes m lists P t k tiles stands are at has later =
    let y = some_at P k (omega (arith, slice_get_within lists k tiles at, are.count)) in
    let s = split P k (y.0) (y.1) in
    let M : ℕ → Type 0 = λ n. m (path (n + 1) t) ≡ Some (tile_bytes (sources_of P) t) in
    subst M s.size
    (older_file bytes m P s.earlier (y.0) s.later t stands s.is (((are.each k tiles (y.0) at (y.1)).exact t).0 has)
    (none_of_later t s.later (unreached s)))
  where
    unreached : {y : List Source} (s : Split P k y) (i : ℕ) (z : List Source) → slice_get s.later i ≡ Some z
        → Reached (heads_of z) t → ⊥
    unreached s i z there reached =
        let place = s.rest i z there in
        let q = some_at lists (k + 1 + i) (omega (arith, slice_get_within P (k + 1 + i) z place, are.count)) in
        later (k + 1 + i) (q.0) (omega arith) (q.1) (((are.each (k + 1 + i) (q.0) z (q.1) place).exact t).1 reached)

-- A publication that doesn't reach a tile leaves its bytes.
pub same_after : (bytes : BytesByReaching) (P : List (List Source)) (x : List Source) (t : Tile)
    → (Reached (heads_of x) t → ⊥) → tile_bytes (sources_of P) t ≡ tile_bytes (sources_of P ++ x) t
same_after bytes P x t never = sym (bytes.untouched t (sources_of P) x (none_reach t x never))

-- No source reaches a tile that no version touches.
pub none_before : (lists : List (List Tile)) (P : List (List Source)) (t : Tile) → AreTouched lists P
    → ((j : ℕ) (tiles : List Tile) → slice_get lists j ≡ Some tiles → Contains tiles t → ⊥)
    → All (λ (s : Source). Reaches s.head t → ⊥) (sources_of P)
none_before lists P t are never =
    none_of_later t P (λ i z there reached.
    let q = some_at lists i (omega (arith, slice_get_within P i z there, are.count)) in
    never i (q.0) (q.1) (((are.each i (q.0) z (q.1) there).exact t).1 reached))

-- In this version, once its step is made.
pub newest_own : (P : List (List Source)) (x : List Source) (tiles : List Tile) → ArePublications (P ++ x ∷ [])
    → IsTouched (heads_of x) tiles → (number i : ℕ) (s : State) (t : Tile)
    → IsMidAfter P x tiles number s → slice_get tiles i ≡ Some t → length x + i < number
    → s.present (path (length P + 1) t) ≡ Some (tile_bytes (sources_of (P ++ x ∷ [])) t)
newest_own P x tiles list touched number i s t mid at less =
    (plan_keeps P x tiles list touched).there (length x + i) number s
    (tile_file (length P + 1) (sources_of (P ++ x ∷ [])) t) mid (tile_at P x tiles i (length x + i) t refl at) less

pub newest_files : BytesByReaching → NewestFiles
newest_files bytes =
    record {
      newest_before = newest_before bytes;
      none_before = none_before;
      same_after = same_after bytes;
      newest_own = newest_own;
    }
