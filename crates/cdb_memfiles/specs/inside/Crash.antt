-- Inside the crate: what a crash leaves.
use Rattle.std.specs.Prelude.{None, Some}
use Rattle.cdb_model.specs.Maps.{Text, Content, FileMap, put}

-- The files with one that a crash left, where it left one.
abbrev pub restored_map : Text → Content → FileMap → FileMap
restored_map path None m = m
restored_map path (Some bytes) m = put m path (Some bytes)
