-- The files of a map by path.
use Rattle.std.specs.Prelude.{ℕ, ◌≤◌, Vec, Option, length}
use Rattle.std.specs.Option.{option_map}
use Rattle.std.specs.Ordering.{nat_cmp}
use Rattle.std.specs.Cmp.Lexicographic.{slice_cmp}
use Rattle.std.specs.BTreeMap.{BTreeMap, get_by}
use Rattle.std.specs.declared.alloc.Global.{Global}
use Rattle.arrayvec.specs.ArrayString.{ArrayString}
use Rattle.cdb_model.specs.Maps.{Text, Content, FileMap, IsThere}

abbrev pub ByPath : Type 0
ByPath = BTreeMap ArrayString (Vec ℕ Global)

-- What is kept at each path.
unfoldable pub content : ByPath → FileMap
content files q = option_map (λ bytes. bytes.items) (get_by (λ path. slice_cmp nat_cmp q path.bytes) files)

-- A path of the map has at most 128 bytes.
abbrev pub IsShort : ByPath → Type 0
IsShort files = (q : Text) → IsThere (content files q) → length q ≤ 128

-- The bytes of a file that is handed over.
abbrev pub bytes_of : Option (Vec ℕ Global) → Content
bytes_of found = option_map (λ bytes. bytes.items) found
