-- What the devices of the script do, and what those in memory are seen as.
use Rattle.std.specs.Prelude.{◌≡◌, ◌≢◌, ℕ, List, [], ◌++◌, Option}
use Rattle.std.specs.Io.KnownBytes.{Appends}

-- a part of a piece was written, and not all of it
pub record WritesPart (old new : Option (List ℕ)) (piece : List ℕ) : Type 0 where
  pub part : List ℕ
  pub rest : List ℕ
  pub joined : piece ≡ part ++ rest
  pub short : rest ≢ []
  pub appended : Appends old new part

-- an input in memory: what is left of it, how many bytes it gives at most in a call, the numbers of the calls that
-- fail, how many calls there were and how many failed, and what was left when one failed last
pub record Supply : Type 0 where
  pub left : List ℕ
  pub most : ℕ
  pub fails : List ℕ
  pub calls : ℕ
  pub faults : ℕ
  pub failed_at : Option (List ℕ)

-- an output in memory: what was written to it, the numbers of the calls that fail, and how many calls there were, how
-- many failed and how often it was refused memory
pub record Receipt : Type 0 where
  pub written : List ℕ
  pub fails : List ℕ
  pub calls : ℕ
  pub faults : ℕ
  pub refused : ℕ
