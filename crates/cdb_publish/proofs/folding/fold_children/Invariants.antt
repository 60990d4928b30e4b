use Rattle.std.proofs.Common.{◌≡◌, ℕ, ◌+◌, ◌≤◌, ℤ, true, false, List, [], All, Option, length, take}
use Rattle.std.specs.List.{flat_map}
use Rattle.cdb_grid.specs.declared.tile.Tile.{Tile}
use Rattle.cdb_source.specs.declared.source.Source.{Source}
use Rattle.cdb_files.specs.Moments.{Rests}
use Rattle.cdb_cut.specs.OneTile.{IsFolded}
use Rattle.cdb_cut.specs.FinerTiles.{IsPlain}
use Rattle.cdb_chain.specs.LookUps.{is_listed}
use Rattle.cdb_publish.specs.LookUps.{look, child_needs}
use Rattle.cdb_publish.specs.inside.LookUps.{IsNamed}
use Rattle.cdb_publish.specs.inside.Older.{folded_needs, StaysOver}
use Rattle.cdb_publish.specs.Needs.{AreSized}
use Rattle.cdb_publish.proofs.folding.fold_children.Given as goal

abbrev pub invariant-loop-child : goal.invariant-loop-child
invariant-loop-child g l = record {
  state : g.D.Disk.state l.disk ≡ g.D.Disk.state l.fn.disk;
  time : Rests (g.D.Disk.clock l.fn.disk) (g.D.Disk.clock l.disk) (g.D.Disk.since l.fn.disk) (g.D.Disk.since l.disk);
  later : g.D.Disk.fault_count l.fn.disk ≤ g.D.Disk.fault_count l.disk;
  sizes : g.D.Disk.tells
      → AreSized (g.D.Disk.state l.fn.disk).present
      (child_needs l.plan l.chain.records (take l.child-index l.children));
  reads : g.D.Disk.read_count l.disk ≤ g.D.Disk.read_count l.fn.disk + length
      (flat_map (folded_needs l.from_older l.plan l.chain.records) (take l.child-index l.children));
  folded : g.D.Disk.tells → (ss : List Source) (start : ℕ → ℕ → Option ℤ)
      → All (λ c. IsNamed (g.D.Disk.state l.fn.disk).present ss c (look l.plan l.chain.records c)) l.children
      → (l.from_older ≡ true → (c : Tile) → is_listed l.plan.record.tiles c ≡ false
      → StaysOver ss l.tile start l.older c)
      → IsPlain l.tile start → IsFolded ss l.tile start [] l.fn.frame
      → IsFolded ss l.tile start (take l.child-index l.children) l.frame;
}
