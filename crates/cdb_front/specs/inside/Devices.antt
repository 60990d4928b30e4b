-- Inside the crate: what the devices of the script do, and what those in memory are seen as.
use Rattle.std.specs.Prelude.{ℕ, List, [], ◌∷◌, Option}
use Rattle.std.specs.Io.KnownBytes.{Keeps}
use Rattle.cdb_front.specs.Devices.{WritesPart}

-- what a failed write leaves: nothing of an empty piece, and else a part
abbrev pub WritesLess : Option (List ℕ) → Option (List ℕ) → List ℕ → Type 0
WritesLess old new [] = Keeps old new
WritesLess old new (byte ∷ piece) = WritesPart old new (byte ∷ piece)
