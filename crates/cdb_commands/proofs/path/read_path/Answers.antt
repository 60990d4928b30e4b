use Rattle.std.proofs.Common.{sym}
use Rattle.cdb_commands.proofs.PathLemmas.{path_is_text}
use Rattle.cdb_commands.proofs.path.read_path.Goals as goal

pub unreachable-requires : goal.unreachable-requires
unreachable-requires c = c.in_default.ensures.cases.0 (path_is_text c.args.word.now (sym c.if-not-all_parts.ensures))
