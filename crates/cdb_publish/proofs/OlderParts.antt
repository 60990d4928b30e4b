-- Parts of a tile that stay as the earlier tile has them.
use Rattle.std.proofs.Common.{◌≡◌, ℕ, ◌+◌, inl, inr, ℤ, false, List, [], ◌∷◌, ◌++◌, refl, sym, ◌∙◌, subst, true≢false}
use Rattle.std.proofs.lemmas.List.Elements.{All-nil, All-cons, All-head, All-tail}
use Rattle.cdb_grid.specs.declared.family.Family.{Family}
use Rattle.cdb_grid.specs.declared.tile.Tile.{Tile}
use Rattle.cdb_source.specs.Reached.{tile_value}
use Rattle.cdb_source.specs.declared.head.SourceHead.{SourceHead}
use Rattle.cdb_source.specs.declared.source.Source.{Source}
use Rattle.cdb_model.specs.Maps.{FileMap}
use Rattle.cdb_model.specs.Publications.{heads_of}
use Rattle.cdb_manifest.specs.declared.record_.Record.{Record}
use Rattle.cdb_cut.specs.Laws.{IsOwn, IsExtreme, NoneReaches}
use Rattle.cdb_cut.specs.OneTile.{IsFrameOf, NoneOfLevel, elevations_of}
use Rattle.cdb_cut.proofs.KeptParts.{own_idle, extreme_whole_over}
use Rattle.cdb_chain.specs.LookUps.{is_listed}
use Rattle.cdb_chain.proofs.LookLaws.{contains_listed}
use Rattle.cdb_crash.proofs.NewestFiles.{none_reach}
use Rattle.cdb_publish.specs.Windows.{window_needs}
use Rattle.cdb_publish.specs.inside.Older.{NoneAtLevel, StaysOver}
use Rattle.cdb_publish.specs.inside.TileFiles.{HasFilesFor}
use Rattle.cdb_publish.specs.declared.plan.Plan.{Plan}
use Rattle.cdb_publish.proofs.WindowReads.{other_level}

-- of heads and of their sources
pub none_of_level : (x : List Source) (t : Tile) → NoneAtLevel (heads_of x) t → NoneOfLevel x t
none_of_level [] t none = All-nil (λ (s : Source). s.head.level.number ≡ t.level.number → ⊥)
none_of_level (s ∷ x) t none =
    All-cons (λ (r : Source). r.head.level.number ≡ t.level.number → ⊥) s x
    (All-head (λ (h : SourceHead). h.level.number ≡ t.level.number → ⊥) s.head (heads_of x) none)
    (none_of_level x t
    (All-tail (λ (h : SourceHead). h.level.number ≡ t.level.number → ⊥) s.head (heads_of x) none))

-- such a tile takes no rows
pub no_windows : (version number : ℕ) (heads : List SourceHead) (t : Tile) → NoneAtLevel heads t
    → window_needs version number heads t ≡ []
no_windows version number [] t none = refl
no_windows version number (head ∷ heads) t none =
    let L : SourceHead → Type 0 = λ h. h.level.number ≡ t.level.number → ⊥ in
    rw (
      no_windows version (number + 1) heads t (All-tail L head heads none),
      other_level version number head t (All-head L head heads none),
    ) refl

apart : (f : Family) → IsOwn f → IsExtreme f → ⊥
apart f (inl a) (inl b) = cc
apart f (inl a) (inr b) = cc
apart f (inr a) (inl b) = cc
apart f (inr a) (inr b) = cc

module _ (p : Plan) (kept : List Record) (m : FileMap) (ss x : List Source) (t : Tile) (children : List Tile)
    (has : HasFilesFor p kept m ss x t children) where
  pub level : NoneAtLevel p.record.heads t → NoneOfLevel x t
  level none = none_of_level x t (subst (λ heads. NoneAtLevel heads t) has.heads none)

  -- a tile that isn't listed is reached by no new source
  unreached : (c : Tile) → is_listed p.record.tiles c ≡ false → NoneReaches x c
  unreached c unlisted = none_reach c x
      (λ reached. true≢false (sym (contains_listed p.record.tiles c ((has.touched.exact c).1 reached)) ∙ unlisted))

  pub own_stays : IsOwn t.family → (older : List ℤ) (c : Tile)
      → is_listed p.record.tiles c ≡ false → StaysOver (ss ++ x) t (tile_value ss t) older c
  own_stays own older c unlisted = record {
    own = λ o. own_idle ss x t c own (unreached c unlisted);
    extreme = λ extreme. absurd (apart t.family own extreme);
  }

  pub extreme_stays : IsExtreme t.family → NoneAtLevel p.record.heads t → (older : List ℤ) → IsFrameOf ss t older
      → (c : Tile) → is_listed p.record.tiles c ≡ false → StaysOver (ss ++ x) t (elevations_of (ss ++ x) t) older c
  extreme_stays extreme none older frame c unlisted = record {
    own = λ own. absurd (apart t.family own extreme);
    extreme = λ e. extreme_whole_over ss x t c older extreme (level none) (unreached c unlisted) frame;
  }
