-- In the middle of a publication the files that a tile is made from are there, with the values of their sources.
use Rattle.std.proofs.Common.{◌≡◌, ℕ, zero, suc, ◌+◌, ◌-◌, ◌<◌, ◌≤◌, ◌⊎◌, inl, inr, Bool, true, false, if◌then◌else◌, List, [], ◌∷◌, ◌++◌, map, length, get_or, Contains, Option, Some, None, slice_get, refl, sym, ap, ◌∙◌, subst, arith, append-nil, true≢false}
use Rattle.std.proofs.lemmas.Grind.{flat_map-append}
use Rattle.std.proofs.lemmas.List.{length-map}
use Rattle.std.proofs.lemmas.List.Elements.{All-append}
use Rattle.std.proofs.lemmas.Option.{get_or_from_slice_get, same_Some, slice_get_within}
use Rattle.cdb_grid.specs.Grid.{Place}
use Rattle.cdb_grid.specs.Tiles.{IsInTile, place_in}
use Rattle.cdb_grid.specs.declared.family.Family.{Family}
use Rattle.cdb_grid.specs.declared.family.Family.TheVariants.{Elev, Low, High}
use Rattle.cdb_grid.specs.declared.tile.Tile.{Tile}
use Rattle.cdb_source.specs.Sample.{IsInBox}
use Rattle.cdb_source.specs.declared.head.SourceHead.{SourceHead}
use Rattle.cdb_source.specs.Reached.{Reached, Reaches, IsTouched, source_height}
use Rattle.cdb_source.specs.declared.source.Source.{Source}
use Rattle.cdb_model.specs.ByteLaws.{BytesByReaching}
use Rattle.cdb_model.specs.Publications.{heads_of, sources_of}
use Rattle.cdb_model.specs.Names.{path, source_path}
use Rattle.cdb_model.specs.Stands.{Stands}
use Rattle.cdb_model.specs.TileFile.{tile_bytes}
use Rattle.cdb_source.specs.Texts.{source_text}
use Rattle.cdb_files.specs.Disk.{State, IsImage}
use Rattle.cdb_crash.specs.Laws.{PlanKeeps}
use Rattle.cdb_crash.specs.Plan.{IsMidAfter}
use Rattle.cdb_crash.specs.StepLaws.{AreTouched}
use Rattle.cdb_crash.proofs.PlanLaws.{plan_keeps}
use Rattle.cdb_source.proofs.ReachLaws.{tile_same, tile_untouched, tile_unreached}
use Rattle.cdb_source.proofs.Lists.{at_contains}
use Rattle.cdb_tiff_write.proofs.ByteLaws.{bytes_by_reaching}
use Rattle.std.proofs.Common.{take}
use Rattle.cdb_manifest.specs.declared.record_.Record.{Record}
use Rattle.cdb_cut.specs.Laws.{IsExtreme}
use Rattle.cdb_chain.specs.Publications.{AreRecords}
use Rattle.cdb_publish.specs.Fitting.{Plans}
use Rattle.cdb_cut.specs.FinerTiles.{AreChildren, elevation_tile}
use Rattle.cdb_publish.specs.inside.TileFiles.{HasFilesFor}
use Rattle.cdb_chain.specs.LookUps.{is_listed, found_in}
use Rattle.cdb_publish.specs.LookUps.{look, look_before}
use Rattle.cdb_publish.specs.inside.LookUps.{IsNamed}
use Rattle.cdb_publish.specs.inside.Windows.{HasSources}
use Rattle.cdb_publish.specs.declared.plan.Plan.{Plan}
use Rattle.cdb_cut.proofs.FinerTiles.{parents}
use Rattle.cdb_cut.proofs.FrameStarts.{extreme_kind}
use Rattle.cdb_grid.proofs.TileOrder.{precedes, child_before, elevation_first}
use Rattle.cdb_chain.proofs.LookLaws.{Answer, found_answers, listed_contains, contains_listed}
use Rattle.cdb_crash.proofs.NewestFiles.{newest_before, same_after, none_before, none_reach, newest_own}
use Rattle.cdb_crash.proofs.PlanNumbers.{get-map, source_at}

-- ---- the tiles of records

mapped : {A B : Type 0} (f : A → B) (xs : List A) (k : ℕ) (y : B) → slice_get (map f xs) k ≡ Some y
    → (x : A) × (slice_get xs k ≡ Some x) × (f x ≡ y)
mapped f [] k y e = absurd cc
mapped f (x ∷ xs) zero y e = (x, refl, same_Some (f x) y e)
mapped f (x ∷ xs) (suc k) y e = mapped f xs k y e

abbrev tiles_in : List Record → List (List Tile)
tiles_in kept = map (λ (r : Record). r.tiles) kept

listed_tiles : (kept : List Record) (P : List (List Source)) → AreRecords kept P → AreTouched (tiles_in kept) P
listed_tiles kept P are = record {
  count = length-map kept (λ (r : Record). r.tiles) ∙ are.count;
  each = λ k tiles x at there. let m = mapped (λ (r : Record). r.tiles) kept k tiles at in
      let T : List Tile → Type 0 = λ ts. IsTouched (heads_of x) ts in
      subst T m.2 (are.tiles k m.0 x m.1 there);
}

module _ (bytes : BytesByReaching) (p : Plan) (kept : List Record) (P : List (List Source)) (x : List Source)
    (number : ℕ) (s : State) (plans : Plans p P x) (are : AreRecords kept P)
    (here : IsImage s s.present) (mid : IsMidAfter P x p.record.tiles (length x + number) s) where
  stands : Stands s.present P
  stands = mid.whole.stands s.present here

  keeps : PlanKeeps P x p.record.tiles
  keeps = plan_keeps P x p.record.tiles plans.list plans.touched

  all_is : sources_of (P ++ x ∷ []) ≡ sources_of P ++ x
  all_is = flat_map-append (λ sources. sources) P (x ∷ []) ∙ ap (λ r. sources_of P ++ r) (append-nil x)

  before : p.record.version - 1 ≡ length P
  before = omega (arith, plans.version)

  -- what the records say, by their numbers
  unlisted : (t : Tile) → Answer kept (length P) t None → (j : ℕ) (q : Record) → slice_get kept j ≡ Some q
      → Contains q.tiles t → ⊥
  unlisted t none j q at has =
      let l : j < length kept = slice_get_within kept j q at in
      let version : q.version ≡ j + 1 = are.versions j q at in
      none q.version (omega (arith, l, version, are.count))
      (record { item = q; among = (j, l, get_or_from_slice_get kept j q q at); version_is = refl; listed = has })

  named_before_by : (t : Tile) (o : Option ℕ) → Answer kept (length P) t o → IsNamed s.present (sources_of P) t o
  named_before_by t None none = none_before (tiles_in kept) P t (listed_tiles kept P are) (λ j tiles at has.
      let m = mapped (λ (r : Record). r.tiles) kept j tiles at in
      let C : List Tile → Type 0 = λ ts. Contains ts t in
      unlisted t none j m.0 m.1 (subst C (sym m.2) has))
  named_before_by t (Some v) newest =
      let item : Record = newest.has.item in
      let k = at_contains kept item newest.has.among in
      let version : v ≡ k.0 + 1 = sym newest.has.version_is ∙ are.versions k.0 item k.1 in
      ap (λ n. s.present (path n t)) version
      ∙ newest_before bytes s.present (tiles_in kept) P t k.0 item.tiles stands (listed_tiles kept P are)
      (get-map (λ (r : Record). r.tiles) kept k.0 item k.1) newest.has.listed (λ j tiles above at has.
      let m = mapped (λ (r : Record). r.tiles) kept j tiles at in
      let q : Record = m.0 in
      let C : List Tile → Type 0 = λ ts. Contains ts t in
      let l : j < length kept = slice_get_within kept j q m.1 in
      let q_version : q.version ≡ j + 1 = are.versions j q m.1 in
      let le : q.version ≤ v = newest.greatest q.version (omega (arith, l, q_version, are.count)) (record {
        item = q;
        among = (j, l, get_or_from_slice_get kept j q q m.1);
        version_is = refl;
        listed = subst C (sym m.2) has;
      }) in
      omega (arith, le, q_version, version, above))

  pub named_before : (t : Tile) → IsNamed s.present (sources_of P) t (look_before p kept t)
  named_before t = subst (λ v. IsNamed s.present (sources_of P) t (found_in v kept t)) (sym before)
      (named_before_by t (found_in (length P) kept t) (found_answers (length P) kept t))

  -- where the publication doesn't reach the tile, the same of all its sources
  untouched_too : (t : Tile) (o : Option ℕ) → (Reached (heads_of x) t → ⊥) → IsNamed s.present (sources_of P) t o
      → IsNamed s.present (sources_of P ++ x) t o
  untouched_too t None never none = All-append (λ (r : Source). Reaches r.head t → ⊥) (sources_of P) x none
      (none_reach t x never)
  untouched_too t (Some v) never there = there ∙ ap (λ b. Some b) (same_after bytes P x t never)

  pub own_there : (t : Tile) (i : ℕ) → slice_get p.record.tiles i ≡ Some t → i < number
      → s.present (path p.record.version t) ≡ Some (tile_bytes (sources_of P ++ x) t)
  own_there t i at below =
      ap (λ n. s.present (path n t)) plans.version
      ∙ newest_own P x p.record.tiles plans.list plans.touched (length x + number) i s t mid at (omega arith)
      ∙ ap (λ ss. Some (tile_bytes ss t)) all_is

  pub named : (t : Tile) → ((i : ℕ) → slice_get p.record.tiles i ≡ Some t → i < number)
      → IsNamed s.present (sources_of P ++ x) t (look p kept t)
  named t earlier = by (is_listed p.record.tiles t) refl
    where
      by : (b : Bool) → is_listed p.record.tiles t ≡ b
          → IsNamed s.present (sources_of P ++ x) t (if b then Some p.record.version else look_before p kept t)
      by true e = let k = at_contains p.record.tiles t (listed_contains p.record.tiles t e) in
          own_there t k.0 k.1 (earlier k.0 k.1)
      by false e = untouched_too t (look_before p kept t)
          (λ reached. true≢false (sym (contains_listed p.record.tiles t ((plans.touched.exact t).1 reached)) ∙ e))
          (named_before t)

  pub sources_there : HasSources s.present p.record.version x
  sources_there k r at =
      ap (λ n. s.present (source_path n (k + 1))) plans.version
      ∙ keeps.there k (length x + number) s
      (record { path = source_path (length P + 1) (k + 1); bytes = source_text r }) mid
      (source_at P x p.record.tiles k r at) (omega (arith, slice_get_within x k r at))

-- ---- elevations of the same cells

-- what reaches a tile of least or greatest elevations reaches the elevations of the same cells
same_place : (f : Family) (h : ℕ) (c : Place) → (f ≡ Low) ⊎ (f ≡ High) → place_in f h c ≡ place_in Elev h c
same_place f h c (inl e) = subst (λ (g : Family). place_in g h c ≡ place_in Elev h c) (sym e) refl
same_place f h c (inr e) = subst (λ (g : Family). place_in g h c ≡ place_in Elev h c) (sym e) refl

pub elevation_reached : (heads : List SourceHead) (t : Tile) → IsExtreme t.family → Reached heads t
    → Reached heads (elevation_tile t)
elevation_reached heads t extreme r =
    let h = source_height r.head in
    record {
      number = r.number;
      head = r.head;
      there = r.there;
      reaches = record {
        kind = r.reaches.kind ∙ extreme_kind t.family extreme;
        level = r.reaches.level;
        corner = r.reaches.corner;
        on_grid = r.reaches.on_grid;
        in_tile = subst (λ q. IsInTile (elevation_tile t) q) (same_place t.family h r.reaches.corner extreme)
            (in_same r.reaches.in_tile);
        in_box = subst (λ q. IsInBox r.head q) (same_place t.family h r.reaches.corner extreme) r.reaches.in_box;
      };
    }
  where
    in_same : {q : Place} → IsInTile t q → IsInTile (elevation_tile t) q
    in_same i = record { south = i.south; north = i.north; west = i.west; east = i.east }

-- ---- all together

pub mid_has_files : (bytes : BytesByReaching) (p : Plan) (kept : List Record) (P : List (List Source)) (x : List Source)
    (number : ℕ) (s : State) (t : Tile) (children : List Tile)
    → Plans p P x → AreRecords kept P → IsImage s s.present → IsMidAfter P x p.record.tiles (length x + number) s
    → slice_get p.record.tiles number ≡ Some t → AreChildren t children
    → HasFilesFor p kept s.present (sources_of P) x t children
mid_has_files bytes p kept P x number s t children plans are here mid at those = record {
  heads = plans.heads;
  touched = plans.touched;
  children_named = λ k d l. named bytes p kept P x number s plans are here mid (get_or children k d)
      (λ i there. precedes p.record.tiles i number (get_or children k d) t plans.touched.ordered there at
      (child_before (get_or children k d) t (parents t children those k d l)));
  sources = sources_there bytes p kept P x number s plans are here mid;
  older = named_before bytes p kept P x number s plans are here mid t;
  elevation = λ extreme.
      let reached : Reached (heads_of x) t =
      (plans.touched.exact t).0 (
        number,
        slice_get_within p.record.tiles number t at,
        get_or_from_slice_get p.record.tiles number t t at,
      ) in
      let e = at_contains p.record.tiles (elevation_tile t)
      ((plans.touched.exact (elevation_tile t)).1 (elevation_reached (heads_of x) t extreme reached)) in
      own_there bytes p kept P x number s plans are here mid (elevation_tile t) e.0 e.1
      (precedes p.record.tiles e.0 number (elevation_tile t) t plans.touched.ordered e.1 at
      (elevation_first (elevation_tile t) t refl extreme));
}

pub all_sources : (P : List (List Source)) (x : List Source) → sources_of (P ++ x ∷ []) ≡ sources_of P ++ x
all_sources P x = flat_map-append (λ sources. sources) P (x ∷ []) ∙ ap (λ r. sources_of P ++ r) (append-nil x)

pub bytes_law : BytesByReaching
bytes_law = bytes_by_reaching (record { same = tile_same; untouched = tile_untouched; unreached = tile_unreached })

-- the front of a list that was put there
pub front_is : (front rest whole : List ℕ) → (n : ℕ) → whole ≡ front ++ rest → n ≡ length front → take n whole ≡ front
front_is front rest whole n are size = ap (take n) are ∙ ap (λ k. take k (front ++ rest)) size ∙ taken front
  where
    taken : (xs : List ℕ) → take (length xs) (xs ++ rest) ≡ xs
    taken [] = refl
    taken (y ∷ xs) = ap (λ l. y ∷ l) (taken xs)
