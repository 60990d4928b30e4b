-- What a crash may leave at each path, as far as the picks ask for it.
use Rattle.std.specs.Prelude.{◌≡◌, if◌then◌else◌, List, ◌∷◌, Option, None, Some}
use Rattle.std.specs.Ordering.{nat_cmp}
use Rattle.std.specs.Cmp.Lexicographic.{slice_cmp}
use Rattle.std.specs.BTreeMap.{BTreeMap, get_by}
use Rattle.arrayvec.specs.ArrayString.{ArrayString}
use Rattle.cdb_model.specs.Maps.{Text, Content, folder_above}
use Rattle.std.specs.Str.{bytes_eq}
use Rattle.cdb_files.specs.Disk.{State, Possible}
use Rattle.cdb_memfiles.specs.declared.pick.Pick.{Pick}
use Rattle.cdb_memfiles.specs.declared.pick.Pick.TheVariants.{Newest, Oldest, Torn}
use Rattle.cdb_memfiles.specs.declared.standing.First.{First}
use Rattle.cdb_memfiles.specs.declared.standing.First.TheVariants.{Anything, Absent, Present, Older}
use Rattle.cdb_memfiles.specs.declared.standing.Standing.{Standing}
use Rattle.cdb_memfiles.specs.Crash.{half}
use Rattle.cdb_memfiles.specs.Files.{bytes_of}

-- The present content, and the first possibility, or none where anything may be left.
abbrev pub Shown : Type 0
Shown = Content × Option Content

abbrev pub first_shown : Content → First → Option Content
first_shown now Anything = None
first_shown now Absent = Some None
first_shown now Present = Some now
first_shown now (Older bytes) = Some (Some bytes.items)

abbrev pub shown_by : Standing → Shown
shown_by standing = (bytes_of standing.now, first_shown (bytes_of standing.now) standing.first)

-- A path that no call has named is absent, and a crash leaves it so.
abbrev pub never_named : Shown
never_named = (None, Some None)

abbrev pub shown_of : Option Standing → Shown
shown_of None = never_named
shown_of (Some standing) = shown_by standing

abbrev pub Standings : Type 0
Standings = BTreeMap ArrayString Standing

unfoldable pub shown : Standings → Text → Shown
shown table q = shown_of (get_by (λ path. slice_cmp nat_cmp q path.bytes) table)

-- The possibilities begin with this one, or anything may be left.
abbrev pub BeginsWithContent : Option Content → Possible → Type 0
BeginsWithContent None may = may ≡ None
BeginsWithContent (Some v) may = (rest : List Content) × (may ≡ Some (v ∷ rest))

-- What a table shows of a path is so.
abbrev pub ShowsAt : Shown → Content → Possible → Type 0
ShowsAt x now may = (x.0 ≡ now) × BeginsWithContent x.1 may

-- The table shows the state.
abbrev pub ShowsFiles : (Text → Shown) → State → Type 0
ShowsFiles table s = (q : Text) → ShowsAt (table q) (s.present q) (s.may q)

-- What a pick takes of a path.
abbrev pub picked_first : Content → Option Content → Content
picked_first now None = None
picked_first now (Some v) = v

abbrev pub picked_torn : Content → Option Content → Content
picked_torn now None = half now
picked_torn now (Some v) = now

abbrev pub picked_shown : Pick → Shown → Content
picked_shown Newest x = x.0
picked_shown Oldest x = picked_first x.0 x.1
picked_shown Torn x = picked_torn x.0 x.1

-- After a sync of its folder: the present content alone, but where anything may be left of a file.
abbrev pub kept_shown : Content → Option Content → Shown
kept_shown now (Some v) = (now, Some now)
kept_shown None None = never_named
kept_shown (Some bytes) None = (Some bytes, None)

-- The same for each path directly in the folder.
abbrev pub kept_in : Text → Text → Shown → Shown
kept_in folder path x = if bytes_eq (folder_above path) folder then kept_shown x.0 x.1 else x

-- After a sync of the file: anything becomes absence, or the present bytes.
abbrev pub synced_first : Option Content → Option Content
synced_first None = Some None
synced_first (Some v) = Some v
