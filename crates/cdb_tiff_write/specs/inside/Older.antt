-- Inside the crate: the samples of an older tile's file, where a frame has no value.
use Rattle.std.specs.Prelude.{ℕ, ℤ, List}
use Rattle.std.specs.Option.{option_or}
use Rattle.cdb_source.specs.declared.kind.Kind.{Kind}
use Rattle.cdb_source.specs.Posts.{coded}
use Rattle.cdb_source.specs.Sample.{value_of}
use Rattle.cdb_tiff_write.specs.Samples.{sample_in}

-- A number where it has a value, else the sample of this number.
abbrev pub or_sample : Kind → ℕ → List ℕ → ℕ → ℤ → ℤ
or_sample kind bits bytes number own =
    coded kind (option_or (value_of kind own) (value_of kind (sample_in bits bytes number)))
