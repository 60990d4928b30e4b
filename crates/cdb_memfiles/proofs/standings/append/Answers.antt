use Rattle.std.proofs.Common.{◌∙◌, ap, None}
use Rattle.cdb_model.specs.Maps.{Content}
use Rattle.cdb_files.specs.Disk.{with_piece}
use Rattle.cdb_memfiles.specs.Files.{bytes_of}
use Rattle.cdb_memfiles.specs.Standing.{Shown, shown, never_named}
use Rattle.cdb_memfiles.proofs.StandingLaws.{shown-again}
use Rattle.cdb_memfiles.proofs.standings.append.Goals as goal

pub returns : goal.returns
returns c =
    let p = c.args.path.now.bytes in let old = shown c.args.table.now in let piece = c.args.piece.now in
    shown-again old (shown c.take-now.new.table) (shown c.store.new.table) p never_named
    (bytes_of c.in_ok-longer.field-0, None) (with_piece piece (old p).0, None)
    c.take-now.ensures.rest c.in_ok-store.ensures
    (ap (λ (v : Content). let x : Shown = (v, None) in x)
    (c.in_ok-longer.ensures ∙ ap (with_piece piece) (ap (λ x. x.0) c.take-now.ensures.value)))
