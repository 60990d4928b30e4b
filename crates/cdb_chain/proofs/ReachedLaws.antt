-- What a look-up finds, by the sources of the publications.
use Rattle.std.proofs.Common.{◌≡◌, ℕ, zero, suc, ◌+◌, ◌<◌, ◌≤◌, ◌⊎◌, inl, inr, List, [], ◌∷◌, ◌++◌, length, take}
use Rattle.std.proofs.Common.{drop, get_or, slice_get, Option, Some, None, append_assoc, refl, sym, ap, ◌∙◌, subst}
use Rattle.std.proofs.Common.{arith}
use Rattle.std.specs.Prelude.{All}
use Rattle.std.proofs.lemmas.List.{take-append-drop}
use Rattle.std.proofs.lemmas.Grind.{flat_map-append}
use Rattle.std.proofs.lemmas.Option.{get_or_from_slice_get, same_Some, slice_get_within, none-some}
use Rattle.cdb_grid.specs.declared.tile.Tile.{Tile}
use Rattle.cdb_source.specs.Reached.{Reached, Reaches}
use Rattle.cdb_source.specs.declared.head.SourceHead.{SourceHead}
use Rattle.cdb_source.specs.declared.source.Source.{Source}
use Rattle.cdb_model.specs.ByteLaws.{BytesByReaching}
use Rattle.cdb_model.specs.Publications.{heads_of, sources_of, sources_up_to}
use Rattle.cdb_model.specs.Maps.{FileMap}
use Rattle.cdb_model.specs.Names.{path}
use Rattle.cdb_model.specs.Stands.{HasVersion, IsVersionFile}
use Rattle.cdb_model.specs.TileFile.{tile_bytes}
use Rattle.cdb_manifest.specs.declared.record_.Record.{Record}
use Rattle.cdb_chain.specs.Versions.{Versions, HasTile, IsNewest, IsFound}
use Rattle.cdb_chain.specs.Publications.{AreRecords, HasVersions, MeetsSources, LookUpsMeetSources, LookUpsNameFiles}
use Rattle.cdb_source.proofs.Lists.{some_at, at_place, in_take, to_take, Split, split}

-- ---- sources of publications

-- a publication of a list has a source that reaches the tile
pub record ReachedBy (P : List (List Source)) (t : Tile) : Type 0 where
  pub number : ℕ
  pub sources : List Source
  pub at : slice_get P number ≡ Some sources
  pub reached : Reached (heads_of sources) t

module _ (t : Tile) where
  first_reached : (xs ys : List Source) → Reached (heads_of xs) t → Reached (heads_of (xs ++ ys)) t
  first_reached xs ys r =
      record { number = r.number; head = r.head; there = at xs r.number r.there; reaches = r.reaches }
    where
      at : (xs : List Source) (n : ℕ) → slice_get (heads_of xs) n ≡ Some r.head → slice_get (heads_of (xs ++ ys)) n
          ≡ Some r.head
      at [] n e = absurd (none-some r.head e)
      at (x ∷ xs) zero e = e
      at (x ∷ xs) (suc n) e = at xs n e

  later_reached : (xs ys : List Source) → Reached (heads_of ys) t → Reached (heads_of (xs ++ ys)) t
  later_reached [] ys r = r
  later_reached (x ∷ xs) ys r = let s = later_reached xs ys r in
      record { number = suc s.number; head = s.head; there = s.there; reaches = s.reaches }

  one_later : (x : Source) (xs ys : List Source) → Reached (heads_of xs) t ⊎ Reached (heads_of ys) t
      → Reached (heads_of (x ∷ xs)) t ⊎ Reached (heads_of ys) t
  one_later x xs ys (inl s) =
      inl (record { number = suc s.number; head = s.head; there = s.there; reaches = s.reaches })
  one_later x xs ys (inr s) = inr s

  either_reached : (xs ys : List Source) (n : ℕ) (head : SourceHead) → slice_get (heads_of (xs ++ ys)) n ≡ Some head
      → Reaches head t → Reached (heads_of xs) t ⊎ Reached (heads_of ys) t
  either_reached [] ys n head e reaches = inr (record { number = n; head = head; there = e; reaches = reaches })
  either_reached (x ∷ xs) ys zero head e reaches =
      inl (record { number = zero; head = head; there = e; reaches = reaches })
  either_reached (x ∷ xs) ys (suc n) head e reaches = one_later x xs ys (either_reached xs ys n head e reaches)

  -- one of the publications has the source
  from_all : (P : List (List Source)) → Reached (heads_of (sources_of P)) t → ReachedBy P t
  from_all [] r = absurd (none-some r.head r.there)
  from_all (x ∷ P) r = elim (either_reached x (sources_of P) r.number r.head r.there r.reaches) [
    | inl here ↦ record { number = zero; sources = x; at = refl; reached = here }
    | inr more ↦ let b = from_all P more in
        record { number = suc b.number; sources = b.sources; at = b.at; reached = b.reached }
  ]

  to_all : (P : List (List Source)) (b : ReachedBy P t) → Reached (heads_of (sources_of P)) t
  to_all P b = at P b.number b.at
    where
      at : (P : List (List Source)) (n : ℕ) → slice_get P n ≡ Some b.sources → Reached (heads_of (sources_of P)) t
      at [] n e = absurd (none-some b.sources e)
      at (x ∷ P) zero e =
          first_reached x (sources_of P) (subst (λ z. Reached (heads_of z) t) (same_Some b.sources x (sym e)) b.reached)
      at (x ∷ P) (suc n) e = later_reached x (sources_of P) (at P n e)

  -- no source of a list reaches the tile
  none_reach : (ss : List Source) → (Reached (heads_of ss) t → ⊥) → All (λ (s : Source). Reaches s.head t → ⊥) ss
  none_reach ss never k d l reaches =
      never (record { number = k; head = (get_or ss k d).head; there = head_at ss k d l; reaches = reaches })
    where
      head_at : (ss : List Source) (k : ℕ) (d : Source) → k < length ss → slice_get (heads_of ss) k
          ≡ Some (get_or ss k d).head
      head_at [] k d l = absurd (omega (arith, l))
      head_at (s ∷ ss) zero d l = refl
      head_at (s ∷ ss) (suc k) d l = head_at ss k d (omega (arith, l))

  none_later : (later : List (List Source))
      → ((i : ℕ) (z : List Source) → slice_get later i ≡ Some z → Reached (heads_of z) t → ⊥)
      → All (λ (s : Source). Reaches s.head t → ⊥) (sources_of later)
  none_later later never =
      none_reach (sources_of later) (λ r. let b = from_all later r in never b.number b.sources b.at b.reached)

-- ---- look-ups

module _ (records : List Record) (P : List (List Source)) (are : AreRecords records P) (version : ℕ) (t : Tile) where
  -- the publication of a version that has the tile
  publication_of : (v : ℕ) → v ≤ version → HasTile records v t → (b : ReachedBy (take version P) t) × (v ≡ b.number + 1)
  publication_of v up has =
      let k = has.among.0 in
      let at : slice_get records k ≡ Some has.item = at_place records has.item has.among in
      let number : v ≡ k + 1 = sym has.version_is ∙ are.versions k has.item at in
      let x = some_at P k (omega (arith, slice_get_within records k has.item at, are.count)) in (
        record {
          number = k;
          sources = x.0;
          at = to_take version P k x.0 (omega (arith, number, up)) x.1;
          reached = ((are.tiles k has.item x.0 at x.1).exact t).0 has.listed;
        },
        number,
      )

  -- the version of a publication that reaches the tile has it
  version_of : (b : ReachedBy (take version P) t) → (b.number + 1 ≤ version) × HasTile records (b.number + 1) t
  version_of b =
      let i = in_take version P b.number b.sources b.at in
      let r = some_at records b.number (omega (arith, slice_get_within P b.number b.sources i.1, are.count)) in (
        omega (arith, i.0),
        record {
          item = r.0;
          among = (
            b.number,
            slice_get_within records b.number r.0 r.1,
            get_or_from_slice_get records b.number r.0 r.0 r.1,
          );
          version_is = are.versions b.number r.0 r.1;
          listed = ((are.tiles b.number r.0 b.sources r.1 i.1).exact t).1 b.reached;
        },
      )

  meets : (spare : ℕ) (found : Option ℕ) → IsFound (record { records = records; spare = spare }) version t found
      → MeetsSources P version t found
  unfolding IsFound
  meets spare None none = λ r. let b = from_all t (take version P) r in let v = version_of b in
      none (b.number + 1) v.0 v.1
  meets spare (Some found) newest = to_all t (take version P) (publication_of found newest.up_to newest.has).0

  file : BytesByReaching → (files : FileMap) (found : ℕ) → HasVersions files P → IsNewest records version t found
      → files (path found t) ≡ Some (tile_bytes (sources_up_to version P) t)
  file bytes files found there newest = of (publication_of found newest.up_to newest.has)
    where
      of : (b : ReachedBy (take version P) t) × (found ≡ b.number + 1) → files (path found t)
          ≡ Some (tile_bytes (sources_up_to version P) t)
      of (b, number) = by (split (take version P) b.number b.sources b.at)
        where
          by : Split (take version P) b.number b.sources → files (path found t)
              ≡ Some (tile_bytes (sources_up_to version P) t)
          by s =
              let rest = drop version P in
              let whole : P ≡ s.earlier ++ b.sources ∷ (s.later ++ rest) =
              sym (take-append-drop version P) ∙ ap (λ l. l ++ rest) s.is
              ∙ append_assoc s.earlier (b.sources ∷ s.later) rest in
              let v : HasVersion files s.earlier b.sources = there s.earlier b.sources (s.later ++ rest) whole in
              let first : files (path (length s.earlier + 1) t)
              ≡ Some (tile_bytes (sources_of (s.earlier ++ b.sources ∷ [])) t) =
              v.there _ _ (IsVersionFile.of_tile t b.reached) in
              let here : length s.earlier + 1 ≡ found = omega (arith, s.size, number) in
              let parts : (s.earlier ++ b.sources ∷ []) ++ s.later ≡ take version P =
              append_assoc s.earlier (b.sources ∷ []) s.later ∙ sym s.is in
              let all : sources_of (s.earlier ++ b.sources ∷ []) ++ sources_of s.later ≡ sources_up_to version P =
              sym (flat_map-append (λ (z : List Source). z) (s.earlier ++ b.sources ∷ []) s.later)
              ∙ ap sources_of parts in
              subst (λ n. files (path n t) ≡ Some (tile_bytes (sources_up_to version P) t)) here
              (first ∙ ap (λ bs. Some bs)
              (sym (bytes.untouched t (sources_of (s.earlier ++ b.sources ∷ [])) (sources_of s.later)
              (none_later t s.later (never s)))
              ∙ ap (λ ss. tile_bytes ss t) all))
            where
              never : (s : Split (take version P) b.number b.sources) (i : ℕ) (z : List Source) → slice_get s.later i
                  ≡ Some z → Reached (heads_of z) t → ⊥
              never s i z at reached =
                  let v = version_of
                  (record { number = b.number + 1 + i; sources = z; at = s.rest i z at; reached = reached }) in
                  absurd (omega (arith, newest.greatest (b.number + 1 + i + 1) v.0 v.1, number))

pub meets_sources : LookUpsMeetSources
meets_sources chain P version tile found are is = meets chain.records P are version tile chain.spare found is

pub newest_of : (chain : Versions) (version : ℕ) (t : Tile) (found : ℕ) → IsFound chain version t (Some found)
    → IsNewest chain.records version t found
unfolding IsFound
newest_of chain version t found is = is

pub names_files : LookUpsNameFiles
names_files bytes files chain P version tile found there are is =
    file chain.records P are version tile bytes files found there (newest_of chain version tile found is)
