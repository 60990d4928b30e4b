-- How many files a tile is made from.
use Rattle.std.proofs.Common.{◌≡◌, ℕ, ◌+◌, ◌≤◌, inl, inr, ℤ, pos, negsuc, ◌≤ℤ◌, ◌<ℤ◌, List, [], ◌∷◌, ◌++◌, length, length-append, Option, None, Some, ap, arith}
use Rattle.std.proofs.lemmas.Int.{ints}
use Rattle.std.proofs.lemmas.Bool.{cases_lt}
use Rattle.cdb_grid.specs.Children.{HasOneChild, HasFourChildren}
use Rattle.cdb_grid.specs.declared.tile.Tile.{Tile}
use Rattle.cdb_manifest.specs.declared.record_.Record.{Record}
use Rattle.cdb_cut.specs.FinerTiles.{AreChildren, elevation_tile}
use Rattle.cdb_publish.specs.Needs.{Need}
use Rattle.cdb_publish.specs.LookUps.{look, look_before, needs_of, child_needs}
use Rattle.cdb_publish.specs.TileFiles.{own_needs, extreme_needs, family_needs, TileNeeds}
use Rattle.cdb_publish.specs.Windows.{window_needs}
use Rattle.cdb_publish.specs.declared.plan.Plan.{Plan}

-- What holds of these files, said otherwise.
pub needs_map : (p : Plan) (kept : List Record) (t : Tile) (F G : List Need → Type 0)
    → ((needs : List Need) → F needs → G needs) → TileNeeds p kept t F → TileNeeds p kept t G
needs_map p kept t F G f n =
    record { children = n.children; those = n.those; fact = f (family_needs t.family p kept t n.children) n.fact }

few_children : (t : Tile) (items : List Tile) → AreChildren t items → length items ≤ 4
few_children t items are = by t.level.number are.none are.one are.four t.level.finest
  where
    by : (l : ℤ) → (l ≡ pos 23 → items ≡ []) → (l <ℤ pos 0 → HasOneChild t items)
        → (pos 0 ≤ℤ l → l <ℤ pos 23 → HasFourChildren t items) → l ≤ℤ pos 23 → length items ≤ 4
    by (negsuc n) none one four most = let o = one (omega (arith, ints)) in
        let e : length items ≡ 1 = ap length o.are in omega arith
    by (pos n) none one four most = elim (cases_lt n 23) [
      | inl lt ↦ let f = four (omega (arith, ints)) (omega (arith, ints)) in
          let e : length items ≡ 4 = ap length f.are in omega arith
      | inr ge ↦ let s : n ≡ 23 = omega (arith, ints) in
          let e : length items ≡ 0 = ap length (none (ap pos s)) in omega arith
    ]

pub one_need : (t : Tile) (o : Option ℕ) → length (needs_of t o) ≤ 1
one_need t None = omega arith
one_need t (Some v) = omega arith

each_one : (p : Plan) (kept : List Record) (items : List Tile) → length (child_needs p kept items) ≤ length items
each_one p kept [] = omega arith
each_one p kept (c ∷ items) =
    omega (
      arith,
      length-append (needs_of c (look p kept c)) (child_needs p kept items),
      one_need c (look p kept c),
      each_one p kept items,
    )

pub few_own : (p : Plan) (kept : List Record) (t : Tile) (children : List Tile) → AreChildren t children
    → length (own_needs p kept t children) ≤ 5 + length (window_needs p.record.version 1 p.record.heads t)
few_own p kept t children are = omega (
  arith,
  few_children t children are,
  each_one p kept children,
  one_need t (look_before p kept t),
  length-append (child_needs p kept children)
      (window_needs p.record.version 1 p.record.heads t ++ needs_of t (look_before p kept t)),
  length-append (window_needs p.record.version 1 p.record.heads t) (needs_of t (look_before p kept t)),
)

pub few_extreme : (p : Plan) (kept : List Record) (t : Tile) (children : List Tile) → AreChildren t children
    → length (extreme_needs p kept t children) ≤ 5
few_extreme p kept t children are =
    omega (
      arith,
      few_children t children are,
      each_one p kept children,
      length-append (needs_of (elevation_tile t) (Some p.record.version)) (child_needs p kept children),
    )
