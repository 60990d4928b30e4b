-- Inside the crate: what a source file of other bytes than a source's is told to be: the first of its parts that isn't
-- of the form.
use Rattle.std.specs.Prelude.{◌≡◌, ℕ, ◌+◌, ◌*◌, ◌<◌, ℤ, List, All}
use Rattle.cdb_source.specs.declared.kind.Kind.{Kind}
use Rattle.cdb_source.specs.declared.decode_error.DecodeError.{DecodeError}
use Rattle.cdb_source.specs.declared.decode_error.DecodeError.TheVariants.{Memory, Bad}
use Rattle.cdb_source.specs.declared.limits.TheConstants.{SOURCE_FRONT_BYTES}
use Rattle.cdb_source.specs.Posts.{IsPost}
use Rattle.cdb_source.specs.Texts.{posts_text}
use Rattle.cdb_source.specs.Decoding.{IsBadPost}

-- a text is that of these posts, all of which the kind allows
pub record ReadsPosts (kind : Kind) (text : List ℕ) (posts : List ℤ) : Type 0 where
  pub spelled : text ≡ posts_text posts
  pub allowed : All (IsPost kind) posts

-- what an error says of a text of so many posts
abbrev pub TellsPost : Kind → List ℕ → ℕ → DecodeError → Type 0
TellsPost kind text count Memory = Unit {0}
TellsPost kind text count (Bad place) = (k : ℕ)
    × ((k < count) × IsBadPost kind text k × (place ≡ SOURCE_FRONT_BYTES + 2 * k))
