-- What a source file of other bytes than a source's is told to be: the first of its parts that isn't of the form.
use Rattle.std.specs.Prelude.{◌≡◌, ℕ, ◌+◌, ◌*◌, ◌<◌, ◌≤◌, ℤ, List, ◌∷◌, ◌++◌, length, All, Result, Ok, Err}
use Rattle.cdb_source.specs.declared.kind.Kind.{Kind}
use Rattle.cdb_source.specs.declared.kind.Kind.TheVariants.{Elevation}
use Rattle.cdb_source.specs.declared.head.SourceHead.{SourceHead}
use Rattle.cdb_source.specs.declared.source.Source.{Source}
use Rattle.cdb_source.specs.declared.decode_error.DecodeError.{DecodeError}
use Rattle.cdb_source.specs.declared.decode_error.DecodeError.TheVariants.{Memory, Bad}
use Rattle.cdb_source.specs.declared.limits.TheConstants.{SOURCE_FRONT_BYTES}
use Rattle.cdb_source.specs.Posts.{IsPost}
use Rattle.cdb_source.specs.Texts.{source_first_bytes, source_front_text, post_bytes, posts_text, source_text}

-- how many posts a source of a head has
abbrev pub post_count : SourceHead → ℕ
post_count head = head.rows * head.cols

-- the first bytes are wrong, or not whole
pub record HasOtherFirstBytes (bytes : List ℕ) : Type 0 where
  pub never : (rest : List ℕ) → bytes ≡ source_first_bytes ++ rest → ⊥

-- the first bytes are right, and no head follows
pub record HasNoHead (bytes : List ℕ) : Type 0 where
  pub rest : List ℕ
  pub begins : bytes ≡ source_first_bytes ++ rest
  pub never : (head : SourceHead) (after : List ℕ) → bytes ≡ source_front_text head ++ after → ⊥

-- after a head the posts aren't whole
pub record HasCutPosts (bytes : List ℕ) : Type 0 where
  pub head : SourceHead
  pub rest : List ℕ
  pub begins : bytes ≡ source_front_text head ++ rest
  pub cut : length rest < 2 * post_count head

-- a number of 16 bits, which the kind doesn't allow, stands after so many posts, which it allows
pub record IsBadPost (kind : Kind) (text : List ℕ) (count : ℕ) : Type 0 where
  pub posts : List ℤ
  pub number : ℤ
  pub rest : List ℕ
  pub parts : text ≡ posts_text posts ++ post_bytes number ++ rest
  pub counted : length posts ≡ count
  pub allowed : All (IsPost kind) posts
  pub a_number : IsPost Elevation number
  pub refused : IsPost kind number → ⊥

-- after a head the posts are whole, and the one at a place isn't of the kind, while those before it are
pub record HasBadPost (bytes : List ℕ) (place : ℕ) : Type 0 where
  pub head : SourceHead
  pub rest : List ℕ
  pub count : ℕ
  pub begins : bytes ≡ source_front_text head ++ rest
  pub whole : 2 * post_count head ≤ length rest
  pub within : count < post_count head
  pub bad : IsBadPost head.kind rest count
  pub place_is : place ≡ SOURCE_FRONT_BYTES + 2 * count

-- more bytes follow a whole source
pub record HasBytesLeft (bytes : List ℕ) (place : ℕ) : Type 0 where
  pub source : Source
  pub byte : ℕ
  pub rest : List ℕ
  pub begins : bytes ≡ source_text source ++ byte ∷ rest
  pub place_is : place ≡ length (source_text source)

-- the first part of the bytes that isn't of the form of a source file begins at a place
pub data FirstBadPart (bytes : List ℕ) (place : ℕ) : Type 0 where
  first_bytes_bad : HasOtherFirstBytes bytes → place ≡ 0 → FirstBadPart bytes place
  head_bad : HasNoHead bytes → place ≡ 8 → FirstBadPart bytes place
  posts_cut : HasCutPosts bytes → place ≡ SOURCE_FRONT_BYTES → FirstBadPart bytes place
  post_bad : HasBadPost bytes place → FirstBadPart bytes place
  bytes_left : HasBytesLeft bytes place → FirstBadPart bytes place

-- what an error says of the bytes
abbrev pub SourceCause : List ℕ → DecodeError → Type 0
SourceCause bytes Memory = Unit {0}
SourceCause bytes (Bad place) = FirstBadPart bytes place

-- the bytes of a source give this source, unless memory ran out
abbrev pub GivesSource : Source → Result Source DecodeError → Type 0
GivesSource source (Ok given) = given ≡ source
GivesSource source (Err Memory) = Unit {0}
GivesSource source (Err (Bad place)) = ⊥

-- the first bad part of the bytes begins at one place alone
abbrev pub OneBadPart : Type 0
OneBadPart = (bytes : List ℕ) (p q : ℕ) → FirstBadPart bytes p → FirstBadPart bytes q → p ≡ q

-- the file of a source has no bad part
abbrev pub SourceHasNone : Type 0
SourceHasNone = (source : Source) (place : ℕ) → FirstBadPart (source_text source) place → ⊥
