-- What a step reads, and what is left for the steps behind it.
use Rattle.std.proofs.Common.{◌≡◌, ℕ, zero, suc, ◌+◌, ◌-◌, ◌≤◌, ◌⊎◌, inl, inr, Bool, true, false, if◌then◌else◌, List, [], ◌∷◌, length, length-append, filter, drop, Some, refl, sym, ap, ◌∙◌, subst, arith}
use Rattle.std.specs.Prelude.{slice_get}
use Rattle.std.proofs.lemmas.Bool.{cases_lt}
use Rattle.std.proofs.lemmas.List.Sums.{sum_by-cons}
use Rattle.std.proofs.lemmas.Option.{same_Some}
use Rattle.cdb_grid.specs.declared.family.Family.{Family}
use Rattle.cdb_grid.specs.declared.family.Family.TheVariants.{Elev, Low, High, Mat}
use Rattle.cdb_grid.specs.declared.tile.Tile.{Tile}
use Rattle.cdb_model.specs.Names.{source_path}
use Rattle.cdb_manifest.specs.declared.record_.Record.{Record}
use Rattle.cdb_source.specs.declared.head.SourceHead.{SourceHead}
use Rattle.cdb_publish.specs.Bounds.{rows_taken, painted_from, most_reads}
use Rattle.cdb_cut.specs.FinerTiles.{AreChildren}
use Rattle.cdb_publish.specs.Needs.{Need}
use Rattle.cdb_publish.specs.Reads.{StepNeeds}
use Rattle.cdb_publish.specs.TileFiles.{family_needs}
use Rattle.cdb_publish.specs.Windows.{source_size, takes_rows, window_need, window_needs}
use Rattle.cdb_publish.specs.declared.plan.Plan.{Plan}
use Rattle.cdb_publish.proofs.FewNeeds.{few_own, few_extreme}

abbrev need_of : ℕ → ℕ → SourceHead → Need
need_of version number head = record { path = source_path version number; size = source_size head }

one_counted : {A B : Type 0} (need : A) (head : B) (rest : List B) (b : Bool)
    → length rest + length (if b then need ∷ [] else []) ≡ length (if b then head ∷ rest else rest)
one_counted need head rest true = omega arith
one_counted need head rest false = omega arith

counted : (version number : ℕ) (heads : List SourceHead) (t : Tile)
    → length (window_needs version number heads t) ≡ rows_taken heads t
counted version number [] t = refl
counted version number (head ∷ heads) t =
    length-append (window_needs version (number + 1) heads t) (window_need version number head t)
    ∙ ap (λ n. n + length (window_need version number head t)) (counted version (number + 1) heads t)
    ∙ one_counted (need_of version number head) head (filter (λ h. takes_rows h t) heads) (takes_rows head t)

-- The files of one tile.
few_files : (p : Plan) (kept : List Record) (t : Tile) (children : List Tile) → AreChildren t children
    → length (family_needs t.family p kept t children) ≤ 6 + painted_from t.family p.record.heads t
few_files p kept t children are = by t.family
  where
    by : (f : Family) → length (family_needs f p kept t children) ≤ 6 + painted_from f p.record.heads t
    by Elev = omega (arith, few_own p kept t children are, counted p.record.version 1 p.record.heads t)
    by Low = omega (arith, few_extreme p kept t children are)
    by High = omega (arith, few_extreme p kept t children are)
    by Mat = omega (arith, few_own p kept t children are, counted p.record.version 1 p.record.heads t)

more : (heads : List SourceHead) (t : Tile) (tiles : List Tile)
    → most_reads heads (t ∷ tiles) ≡ 6 + painted_from t.family heads t + most_reads heads tiles
more heads t tiles = let l : length (t ∷ tiles) ≡ length tiles + 1 = omega arith in
    omega (arith, l, sum_by-cons (λ (u : Tile). painted_from u.family heads u) t tiles)

behind : (tiles : List Tile) (i n : ℕ) (t : Tile) → n ≡ i + 1 → slice_get tiles i ≡ Some t
    → drop i tiles ≡ t ∷ drop n tiles
behind [] i n t is at = absurd cc
behind (u ∷ tiles) zero zero t is at = absurd (omega (arith, is))
behind (u ∷ tiles) zero (suc zero) t is at = ap (λ v. v ∷ tiles) (same_Some u t at)
behind (u ∷ tiles) zero (suc (suc n)) t is at = absurd (omega (arith, is))
behind (u ∷ tiles) (suc i) zero t is at = absurd (omega (arith, is))
behind (u ∷ tiles) (suc i) (suc n) t is at = behind tiles i n t (omega (arith, is)) at

fewer : (heads : List SourceHead) (tiles : List Tile) (i n : ℕ) → (n ≡ i) ⊎ (n ≡ i + 1)
    → most_reads heads (drop n tiles) ≤ most_reads heads (drop i tiles)
fewer heads tiles i n (inl is) = let K : ℕ
    → Type 0 = λ k. most_reads heads (drop k tiles) ≤ most_reads heads (drop i tiles) in subst K (sym is) (omega arith)
fewer heads [] zero zero (inr is) = omega arith
fewer heads [] zero (suc n) (inr is) = omega arith
fewer heads [] (suc i) zero (inr is) = omega arith
fewer heads [] (suc i) (suc n) (inr is) = omega arith
fewer heads (t ∷ tiles) zero zero (inr is) = absurd (omega (arith, is))
fewer heads (t ∷ tiles) zero (suc zero) (inr is) = omega (arith, more heads t tiles)
fewer heads (t ∷ tiles) zero (suc (suc n)) (inr is) = absurd (omega (arith, is))
fewer heads (t ∷ tiles) (suc i) zero (inr is) = absurd (omega (arith, is))
fewer heads (t ∷ tiles) (suc i) (suc n) (inr is) = fewer heads tiles i n (inr (omega (arith, is)))

apart : (done h : ℕ) → (done + 1 - h ≡ done - h) ⊎ (done + 1 - h ≡ done - h + 1)
apart done h = elim (cases_lt done h) [
  | inl below ↦ inl (omega arith)
  | inr above ↦ inr (omega arith)
]

-- What the step of this number reads is no more than what is left for it and not for those behind it.
pub reads_fall : (p : Plan) (kept : List Record) (done : ℕ) (F : List Need → Type 0) (before after : ℕ)
    → StepNeeds p kept done (λ needs. F needs × (after ≤ before + length needs))
    → after + most_reads p.record.heads (drop (done + 1 - length p.record.heads) p.record.tiles) ≤ before + most_reads
    p.record.heads (drop (done - length p.record.heads) p.record.tiles)
reads_fall p kept done F before after (StepNeeds.none never fact) =
    omega (
      arith,
      fact.1,
      fewer p.record.heads p.record.tiles (done - length p.record.heads)
          (done + 1 - length p.record.heads) (apart done (length p.record.heads)),
    )
reads_fall p kept done F before after (StepNeeds.of_tile i t is at needs) =
    let heads = p.record.heads in let tiles = p.record.tiles in
    let here : done - length p.record.heads ≡ i = omega (arith, is) in
    let next : done + 1 - length p.record.heads ≡ i + 1 = omega (arith, is) in
    let rest : drop i p.record.tiles ≡ t ∷ drop (i + 1) p.record.tiles = behind p.record.tiles i (i + 1) t refl at in
    omega (
      arith,
      needs.fact.1,
      few_files p kept t needs.children needs.those,
      ap (λ n. most_reads p.record.heads (drop n p.record.tiles)) here,
      ap (λ n. most_reads p.record.heads (drop n p.record.tiles)) next,
      ap (most_reads p.record.heads) rest,
      more p.record.heads t (drop (i + 1) p.record.tiles),
    )

-- And no more than what is left.
pub reads_within : (p : Plan) (kept : List Record) (done : ℕ) (F : List Need → Type 0) (before after : ℕ)
    → StepNeeds p kept done (λ needs. F needs × (after ≤ before + length needs))
    → after ≤ before + most_reads p.record.heads (drop (done - length p.record.heads) p.record.tiles)
reads_within p kept done F before after needs = omega (arith, reads_fall p kept done F before after needs)
