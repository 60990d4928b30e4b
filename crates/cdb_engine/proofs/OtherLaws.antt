-- What is found where a file is called damaged.
use Rattle.std.proofs.Common.{◌≡◌, ℕ, Result, Ok, Err, IfErr, sym, subst}
use Rattle.cdb_grid.specs.declared.tile.Tile.{Tile}
use Rattle.cdb_model.specs.Maps.{FileMap}
use Rattle.cdb_chain.specs.Versions.{Versions}
use Rattle.cdb_publish.specs.Needs.{IsDamage}
use Rattle.cdb_publish.specs.declared.errors.Progress.{Progress}
use Rattle.cdb_publish.specs.declared.errors.StepError.{StepError}
use Rattle.cdb_publish.specs.declared.errors.StepError.TheVariants as made
use Rattle.cdb_sessions.specs.Sessions.{Sessions, TileOutcome}
use Rattle.cdb_sessions.specs.declared.errors.TileError.{TileError}
use Rattle.cdb_sessions.specs.declared.errors.TileError.TheVariants as tile
use Rattle.cdb_sessions.specs.declared.sessions.Reply.{Reply}
use Rattle.cdb_engine.specs.OtherSizes.{StepFindsOther, TileFindsOther}
use Rattle.cdb_engine.specs.StoreAnswers.{advance_of}
use Rattle.cdb_engine.specs.declared.errors.AdvanceError.{AdvanceError}

-- by a step
made_other : (result : Result Progress StepError) → IfErr result IsDamage → IfErr (advance_of result) StepFindsOther
made_other (Ok p) damage = tt
made_other (Err made.Fault) damage = tt
made_other (Err (made.Damaged expected found)) damage = damage

pub step_other : (result : Result Progress StepError) (answer : Result Progress AdvanceError)
    → answer ≡ advance_of result
    → IfErr result IsDamage → IfErr answer StepFindsOther
step_other result answer is damage =
    subst (λ (a : Result Progress AdvanceError). IfErr a StepFindsOther) (sym is) (made_other result damage)

-- by a request for a tile
pub tile_other : {D : Type 0} (tells : Type 0) (present : FileMap) (before after : D) (chain : Versions) (id : ℕ)
    (t : Tile) (old new : Sessions) (result : Result Reply TileError)
    → TileOutcome tells present before after chain id t old new result → IfErr result TileFindsOther
tile_other tells present before after chain id t old new (Ok reply) h = tt
tile_other tells present before after chain id t old new (Err tile.Unknown) h = tt
tile_other tells present before after chain id t old new (Err tile.Fault) h = tt
tile_other tells present before after chain id t old new (Err (tile.Damaged expected found)) h = h.0.damaged.other
