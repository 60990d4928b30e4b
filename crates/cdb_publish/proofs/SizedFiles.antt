-- In the middle of a publication no file that a tile is made from has another size than its form gives.
use Rattle.std.proofs.Common.{◌≡◌, ℕ, suc, ◌+◌, inl, inr, Bool, true, false, if◌then◌else◌, List, [], ◌∷◌, ◌++◌, All, length, length-append, Option, Some, None, slice_get, refl, sym, ap, ◌∙◌, subst, arith}
use Rattle.cdb_grid.specs.declared.family.Family.{Family}
use Rattle.cdb_grid.specs.declared.family.Family.TheVariants.{Elev, Low, High, Mat}
use Rattle.cdb_grid.specs.declared.tile.Tile.{Tile}
use Rattle.cdb_source.specs.Texts.{source_front_text, posts_text, source_text}
use Rattle.cdb_source.specs.declared.source.Source.{Source}
use Rattle.cdb_source.proofs.TextLaws.{length-front_text, length-posts_text}
use Rattle.cdb_model.specs.Publications.{heads_of}
use Rattle.cdb_model.specs.Maps.{FileMap, size_of}
use Rattle.cdb_model.specs.Names.{source_path}
use Rattle.cdb_manifest.specs.declared.record_.Record.{Record}
use Rattle.cdb_cut.specs.Laws.{IsExtreme}
use Rattle.cdb_publish.specs.LookUps.{look, look_before, needs_of, child_needs}
use Rattle.cdb_publish.specs.inside.LookUps.{IsNamed}
use Rattle.cdb_cut.specs.FinerTiles.{elevation_tile}
use Rattle.cdb_publish.specs.TileFiles.{own_needs, extreme_needs, family_needs}
use Rattle.cdb_publish.specs.inside.TileFiles.{HasFilesFor}
use Rattle.cdb_publish.specs.Needs.{AreSized}
use Rattle.cdb_publish.specs.Windows.{takes_rows, source_size, window_need, window_needs}
use Rattle.cdb_publish.specs.declared.plan.Plan.{Plan}
use Rattle.cdb_publish.proofs.Sizes.{sized-append}
use Rattle.cdb_tiff_write.proofs.SizeLaws.{tile_bytes_long}

named_sized : (m : FileMap) (ss : List Source) (t : Tile) (o : Option ℕ) → IsNamed m ss t o → AreSized m (needs_of t o)
named_sized m ss t None named = tt
named_sized m ss t (Some v) named = (ap size_of named ∙ ap (λ n. Some n) (tile_bytes_long ss t), tt)

children_sized : (p : Plan) (kept : List Record) (m : FileMap) (ss : List Source) (items : List Tile)
    → All (λ c. IsNamed m ss c (look p kept c)) items → AreSized m (child_needs p kept items)
children_sized p kept m ss [] all = tt
children_sized p kept m ss (c ∷ items) all =
    sized-append m (needs_of c (look p kept c)) (child_needs p kept items)
    (named_sized m ss c (look p kept c) (all 0 c (omega arith)))
    (children_sized p kept m ss items (λ k d l. all (suc k) d (omega (arith, l))))

source_long : (s : Source) → length (source_text s) ≡ source_size s.head
source_long s =
    omega (
      arith,
      length-append (source_front_text s.head) (posts_text s.posts),
      length-front_text s.head,
      length-posts_text s.posts,
      s.count,
    )

windows_sized : (m : FileMap) (version number : ℕ) (x : List Source) (t : Tile)
    → ((k : ℕ) (s : Source) → slice_get x k ≡ Some s → m (source_path version (number + k)) ≡ Some (source_text s))
    → AreSized m (window_needs version number (heads_of x) t)
windows_sized m version number [] t there = tt
windows_sized m version number (s ∷ x) t there =
    sized-append m (window_needs version (number + 1) (heads_of x) t) (window_need version number s.head t)
    (windows_sized m version (number + 1) x t (λ k r at. let e : number + suc k ≡ number + 1 + k = omega arith in
    subst (λ n. m (source_path version n) ≡ Some (source_text r)) e (there (suc k) r at)))
    (one (takes_rows s.head t))
  where
    one : (b : Bool)
        → AreSized m (if b then record { path = source_path version number; size = source_size s.head } ∷ [] else [])
    one true =
        let e : number + 0 ≡ number = omega arith in (
          ap size_of (subst (λ n. m (source_path version n) ≡ Some (source_text s)) e (there 0 s refl))
              ∙ ap (λ n. Some n) (source_long s),
          tt,
        )
    one false = tt

module _ (p : Plan) (kept : List Record) (m : FileMap) (ss x : List Source) (t : Tile) (children : List Tile)
    (has : HasFilesFor p kept m ss x t children) where
  sources_sized : AreSized m (window_needs p.record.version 1 p.record.heads t)
  sources_sized =
      subst (λ hs. AreSized m (window_needs p.record.version 1 hs t)) (sym has.heads)
      (windows_sized m p.record.version 1 x t (λ k s at. let e : k + 1 ≡ 1 + k = omega arith in
      subst (λ n. m (source_path p.record.version n) ≡ Some (source_text s)) e (has.sources k s at)))

  own_sized : AreSized m (own_needs p kept t children)
  own_sized =
      sized-append m (child_needs p kept children)
      (window_needs p.record.version 1 p.record.heads t ++ needs_of t (look_before p kept t))
      (children_sized p kept m (ss ++ x) children has.children_named)
      (sized-append m (window_needs p.record.version 1 p.record.heads t) (needs_of t (look_before p kept t))
      sources_sized (named_sized m ss t (look_before p kept t) has.older))

  extreme_sized : IsExtreme t.family → AreSized m (extreme_needs p kept t children)
  extreme_sized extreme =
      sized-append m (needs_of (elevation_tile t) (Some p.record.version)) (child_needs p kept children)
      (named_sized m (ss ++ x) (elevation_tile t) (Some p.record.version) (has.elevation extreme))
      (children_sized p kept m (ss ++ x) children has.children_named)

  pub all_sized : AreSized m (family_needs t.family p kept t children)
  all_sized = by t.family refl
    where
      by : (f : Family) → t.family ≡ f → AreSized m (family_needs f p kept t children)
      by Elev e = own_sized
      by Low e = extreme_sized (inl e)
      by High e = extreme_sized (inr e)
      by Mat e = own_sized
