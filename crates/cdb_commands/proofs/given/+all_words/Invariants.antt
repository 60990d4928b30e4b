use Rattle.std.proofs.Common.{length}
use Rattle.cdb_commands.proofs.given.+all_words.Given as goal

abbrev pub decreases-all_words : goal.decreases-all_words
decreases-all_words l = length l.words.now
