-- The disk at the beginning of a run: it tells what it holds, and has a store; or nothing is known of it.
use Rattle.std.specs.Prelude.{◌≡◌, ℕ, Option, None, Some}
use Rattle.cdb_model.specs.Images.{Base}
use Rattle.cdb_files.specs.Disk as disk
use Rattle.cdb_engine.specs.Store.{IsStore}

-- the disk tells what it holds, and has the store at this moment
pub record HasStore (tells : Type 0) (base : Base) (moment : ℕ) (d : disk.State) : Type 0 where
  pub told : tells
  pub now : base.moment ≡ moment
  pub store : IsStore base.list base.early d

-- it has the store, or nothing is known of it
abbrev pub IsKnown : Type 0 → Option Base → ℕ → disk.State → Type 0
IsKnown tells None moment d = Unit {0}
IsKnown tells (Some base) moment d = HasStore tells base moment d
