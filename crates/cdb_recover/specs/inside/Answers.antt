-- Inside the crate: what recovery answers, and what it leaves.
use Rattle.std.specs.Prelude.{◌≡◌, ℕ, ◌+◌, Result, Ok, Err}
use Rattle.cdb_model.specs.Maps.{Content, FileMap}
use Rattle.cdb_crash.specs.Leftovers.{HasAtMost}
use Rattle.cdb_recover.specs.declared.recover_error.RecoverError.{RecoverError}
use Rattle.cdb_recover.specs.declared.recover_error.RecoverError.TheVariants.{Fault, NotAStore}
use Rattle.cdb_recover.specs.Answers.{NamesNewest, NamesNone}

-- What is read of the file.
abbrev pub IsHeadRead : Content → Result ℕ RecoverError → Type 0
IsHeadRead content (Ok newest) = NamesNewest content newest
IsHeadRead content (Err (NotAStore version place)) = NamesNone content × (version ≡ 0) × (place ≡ 0)
IsHeadRead content (Err Fault) = Unit {0}

-- Of the files under the version after the newest none is left, or there were more than 65,536.
abbrev pub IsCleared : ℕ → FileMap → Result ℕ RecoverError → Type 0
IsCleared newest m (Ok version) = (version ≡ newest) × HasAtMost 65536 (newest + 1) m
IsCleared newest m (Err (NotAStore version place)) = (HasAtMost 65536 (newest + 1) m → ⊥) × (version ≡ newest + 1)
    × (place ≡ 65536)
IsCleared newest m (Err Fault) = Unit {0}
