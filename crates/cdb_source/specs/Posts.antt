-- The numbers of a source: which ones a kind has, and which one stands for no value.
use Rattle.std.specs.Prelude.{◌≡◌, ◌⊎◌, ℤ, pos, negsuc, ◌≤ℤ◌, Option, Some, None, if◌then◌else◌}
use Rattle.std.specs.Ordering.{int_eq}
use Rattle.cdb_source.specs.declared.kind.Kind.{Kind}
use Rattle.cdb_source.specs.declared.kind.Kind.TheVariants.{Elevation, Material}

-- the number that stands for no value
abbrev pub none_of : Kind → ℤ
none_of Elevation = negsuc 32767
none_of Material = pos 0

abbrev pub least_of : Kind → ℤ
least_of Elevation = negsuc 32767
least_of Material = pos 0

abbrev pub greatest_of : Kind → ℤ
greatest_of Elevation = pos 32767
greatest_of Material = pos 255

-- a number that a post of the kind may be
pub record IsPost (kind : Kind) (number : ℤ) : Type 0 where
  pub least : least_of kind ≤ℤ number
  pub greatest : number ≤ℤ greatest_of kind

-- a number that a row may have: the row's own mark of no value, or a post
abbrev pub IsAllowed : Kind → ℤ → ℤ → Type 0
IsAllowed kind novalue number = (number ≡ novalue) ⊎ IsPost kind number

-- the post that a number of a row becomes
abbrev pub post_of : Kind → ℤ → ℤ → ℤ
post_of kind novalue number = if int_eq number novalue then none_of kind else number

-- the number by which a raster of a kind has a value, or none
abbrev pub coded : Kind → Option ℤ → ℤ
coded kind None = none_of kind
coded kind (Some value) = value
