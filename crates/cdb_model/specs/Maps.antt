-- Maps of files. A path is its text in bytes. A folder is a path too, and the root is the empty text.
use Rattle.std.specs.Prelude.{◌≡◌, ℕ, ◌+◌, ◌≤◌, ◌==◌, ◌||◌, Bool, false, List, [], ◌∷◌, ◌++◌, length, take, drop, Option, None, Some, IsTrue, if◌then◌else◌, nat_eq}
use Rattle.std.specs.List.{starts_with, list_any}
use Rattle.std.specs.Option.{option_map}
use Rattle.std.specs.Ordering.{is_gt, nat_cmp}
use Rattle.std.specs.Cmp.Lexicographic.{slice_cmp}
use Rattle.std.specs.Str.{bytes_eq}
pub use Rattle.cdb_model.specs.Text.{Text}

-- What a path has: the bytes of a file, or no file.
abbrev pub Content : Type 0
Content = Option (List ℕ)

-- The content at each path.
abbrev pub FileMap : Type 0
FileMap = Text → Content

-- There is a file.
abbrev pub IsThere : Content → Type 0
IsThere None = ⊥
IsThere (Some bytes) = Unit {0}

-- The length of a file in bytes, or none where there is no file.
abbrev pub size_of : Content → Option ℕ
size_of content = option_map length content

-- There is a file, and it has `len` bytes from the place `at` on.
abbrev pub HasBytesUpTo : Content → ℕ → ℕ → Type 0
HasBytesUpTo None at len = ⊥
HasBytesUpTo (Some bytes) at len = at + len ≤ length bytes

-- There is a file, and `piece` stands in it from the place `at` on.
abbrev pub HasAt : Content → ℕ → List ℕ → Type 0
HasAt None at piece = ⊥
HasAt (Some bytes) at piece = piece ≡ take (length piece) (drop at bytes)

-- The same at each path but one, which has this value.
unfoldable pub put : {A : Type 0} → (Text → A) → Text → A → Text → A
put m path value q = if bytes_eq path q then value else m q

-- There is a slash, the byte 47, in the text.
abbrev pub has_slash : Text → Bool
has_slash text = list_any (λ c. c == 47) text

-- The folder in which a path lies directly: the text before its last slash, or the root where there is none.
unfoldable pub folder_above : Text → Text
folder_above [] = []
folder_above (c ∷ rest) = if has_slash rest then c ∷ folder_above rest else []

-- What the path of each file under a folder begins with: nothing for the root, else the folder and a slash.
abbrev pub folder_prefix : Text → Text
folder_prefix [] = []
folder_prefix (c ∷ rest) = (c ∷ rest) ++ 47 ∷ []

-- A path lies under a folder, at any depth.
unfoldable pub is_under : Text → Text → Bool
is_under folder path = starts_with nat_eq path (folder_prefix folder)

-- A folder is the other, or lies above it.
unfoldable pub is_at_or_above : Text → Text → Bool
is_at_or_above upper folder = bytes_eq upper folder || is_under upper folder

-- There is no file under the folder.
abbrev pub NoneUnder : FileMap → Text → Type 0
NoneUnder m folder = (path : Text) → IsTrue (is_under folder path) → m path ≡ None

-- The first file under the folder, by the order of the bytes of the whole path.
pub record IsFirstUnder (m : FileMap) (folder path : Text) : Type 0 where
  pub under : IsTrue (is_under folder path)
  pub there : IsThere (m path)
  pub least : (other : Text) → IsTrue (is_under folder other) → IsThere (m other)
      → is_gt (slice_cmp nat_cmp path other) ≡ false
