-- A cell that some source of a list reaches.
use Rattle.std.proofs.Common.{◌≡◌, ℕ, ◌<◌, List, All, length, get_or, Some, sym, subst, refl}
use Rattle.std.specs.Prelude.{slice_get}
use Rattle.std.proofs.lemmas.Option.{slice_get-get_or, slice_get_within, get_or_from_slice_get}
use Rattle.std.proofs.lemmas.Option.{slice_get_read}
use Rattle.cdb_grid.specs.Grid.{Place}
use Rattle.cdb_source.specs.declared.kind.Kind.{Kind}
use Rattle.cdb_source.specs.declared.source.Source.{Source}
pub use Rattle.cdb_touch.proofs.ReachedLaws.{none_more, none_of_all, reached_at, none_reached}
use Rattle.cdb_scratch.specs.inside.Cells.{ReachesCell, CellReached}

none_there : (P : Source → Type 0) (ss : List Source) (n : ℕ) (s : Source) → All (λ (x : Source). P x → ⊥) ss
    → slice_get ss n ≡ Some s → P s → ⊥
none_there P ss n s all e p =
    all n s (slice_get_within ss n s e) (subst P (sym (get_or_from_slice_get ss n s s e)) p)

pub cell_reached_at : (kind : Kind) (h : ℕ) (c : Place) (ss : List Source) (i : ℕ) (s : Source) → i < length ss
    → s ≡ get_or ss i s → ReachesCell kind h c s.head → CellReached kind h c ss
cell_reached_at kind h c ss i s lt is r =
    record { number = i; source = s; there = slice_get_read ss (length ss) i s refl lt is; reaches = r }

pub no_cell_reached : (kind : Kind) (h : ℕ) (c : Place) (ss : List Source)
    → All (λ (s : Source). ReachesCell kind h c s.head → ⊥) ss → CellReached kind h c ss → ⊥
no_cell_reached kind h c ss all r = none_there (λ (s : Source). ReachesCell kind h c s.head) ss r.number r.source all
    r.there r.reaches

pub none_reaches : (kind : Kind) (h : ℕ) (c : Place) (ss : List Source) → (CellReached kind h c ss → ⊥)
    → All (λ (s : Source). ReachesCell kind h c s.head → ⊥) ss
none_reaches kind h c ss none =
    λ k d lt r. none (record { number = k; source = get_or ss k d; there = slice_get-get_or ss k d lt; reaches = r })
