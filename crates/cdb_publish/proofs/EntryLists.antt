-- The tile entries of records.
use Rattle.std.proofs.Common.{◌+◌, ◌*◌, ◌≤◌, ◌≡◌, List, [], ◌∷◌, length, arith}
use Rattle.std.proofs.lemmas.List.Sums.{sum_by-cons}
use Rattle.cdb_manifest.specs.declared.record_.Record.{Record}
use Rattle.cdb_publish.specs.Entries.{entries_in}

pub entries_few : (records : List Record) → entries_in records ≤ 16384 * length records
entries_few [] = omega arith
entries_few (r ∷ records) = let more : length (r ∷ records) ≡ length records + 1 = omega arith in
    omega (
      arith,
      entries_few records,
      r.in_range.tiles_most,
      sum_by-cons (λ (q : Record). length q.tiles)
          r records,
      more,
    )
