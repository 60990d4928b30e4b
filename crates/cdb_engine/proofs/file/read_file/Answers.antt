use Rattle.cdb_engine.proofs.FileLaws.{not_for_shelf, not_for_memory, too_big}
use Rattle.cdb_engine.proofs.file.read_file.Goals as goal

pub returns-in-Err-clause-unread : goal.returns-in-Err-clause-unread
returns-in-Err-clause-unread g c = not_for_shelf _ _

pub returns-then-size-gt-FILE_BYTES-clause-unread : goal.returns-then-size-gt-FILE_BYTES-clause-unread
returns-then-size-gt-FILE_BYTES-clause-unread g c =
    too_big _ _ _ c.if-size-gt-FILE_BYTES.true (rw c.in-Ok-Some.field-0-is at c.in-Ok-Some.ensures).size

pub returns-in_default-clause-unread : goal.returns-in_default-clause-unread
returns-in_default-clause-unread g c = not_for_memory _ _

pub returns-in-Err-read_at-clause-unread : goal.returns-in-Err-read_at-clause-unread
returns-in-Err-read_at-clause-unread g c = not_for_shelf _ _
