-- Kept tiles, one by one and one more.
use Rattle.std.proofs.Common.{◌≡◌, ℕ, ◌<◌, ◌++◌, ◌∷◌, [], ℤ, List, All, length, get_or, sym, subst}
use Rattle.std.proofs.lemmas.List.Elements.{All-nil, All-cons, All-append}
use Rattle.cdb_grid.specs.declared.tile.Tile.{Tile}
use Rattle.cdb_source.specs.declared.source.Source.{Source}
use Rattle.cdb_cut.specs.OneTile.{IsFrameOf}
use Rattle.cdb_check.specs.Kept.{AreKeptFrames}
use Rattle.cdb_check.specs.declared.kept.Kept.{Kept}

pub kept_at : (ss : List Source) (entries : List Kept) (k : ℕ) (entry : Kept) (t : Tile) (frame : List ℤ)
    → AreKeptFrames ss entries → k < length entries → entry ≡ get_or entries k entry → entry.tile ≡ t
    → frame ≡ entry.frame.items
    → IsFrameOf ss t frame
unfolding AreKeptFrames
kept_at ss entries k entry t frame kept below at same is =
    let one : IsFrameOf ss entry.tile entry.frame.items =
    subst (λ (x : Kept). IsFrameOf ss x.tile x.frame.items) (sym at) (kept k entry below) in
    subst (λ u. IsFrameOf ss u frame) same (subst (λ f. IsFrameOf ss entry.tile f) (sym is) one)

pub kept_none : (ss : List Source) → AreKeptFrames ss []
unfolding AreKeptFrames
kept_none ss = All-nil (λ (k : Kept). IsFrameOf ss k.tile k.frame.items)

pub kept_more : (ss : List Source) (entries all : List Kept) (entry : Kept) → AreKeptFrames ss entries
    → IsFrameOf ss entry.tile entry.frame.items → all ≡ entries ++ entry ∷ [] → AreKeptFrames ss all
unfolding AreKeptFrames
kept_more ss entries all entry kept one is =
    let F : Kept → Type 0 = λ k. IsFrameOf ss k.tile k.frame.items in
    subst (λ xs. All F xs) (sym is) (All-append F entries (entry ∷ []) kept (All-cons F entry [] one (All-nil F)))
