-- Places along an axis, one after another.
use Rattle.std.proofs.Common.{◌≡◌, ℕ, ◌+◌, ◌*◌, ◌<◌, ◌≤◌, List, get_or, sym, subst}
use Rattle.std.proofs.lemmas.Nat.{mod_below}
use Rattle.cdb_cut.specs.Painted.{Stand}
use Rattle.cdb_cut.proofs.PaintedRows.{along_stands}

-- a place stands where its post and its distance say
pub stands_at : (start stride step count k : ℕ) (posts parts : List ℕ) → k < count
    → Stand start stride step count posts parts
    → get_or posts k 0 * step + get_or parts k 0 ≡ start + k * stride
stands_at start stride step count k posts parts lt s = along_stands (start + k * stride) step (get_or posts k 0)
    (get_or parts k 0) (s.post_at k lt) (s.part_at k lt)

pub part_below : (start stride step count k : ℕ) (posts parts : List ℕ) → 1 ≤ step → k < count
    → Stand start stride step count posts parts → get_or parts k 0 < step
part_below start stride step count k posts parts some lt s = subst (λ x. x < step) (sym (s.part_at k lt))
    (mod_below (start + k * stride) step some)
