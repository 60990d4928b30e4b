-- The pushed tiles are the children by their numbers, whose places the laws tell.
use Rattle.std.proofs.Common.{◌≡◌, ℤ, pos, ◌≤ℤ◌, ◌<ℤ◌, [], ◌∷◌, ◌++◌, refl, sym, ◌∙◌, ap, subst, arith, rules, lit<}
use Rattle.std.specs.Prelude.{Any, AllPairs}
use Rattle.std.proofs.lemmas.Int.{ints}
use Rattle.cdb_grid.specs.Tiles.{IsInTile}
use Rattle.cdb_grid.specs.Children.{AreApart}
use Rattle.cdb_grid.proofs.ChildLaws.{IsWhole, AreQuarters, whole-begins, whole-fills, quarters-four, quarters-fill, quarters-apart, pushed_four}
use Rattle.cdb_grid.proofs.pyramid.children.Goals as goal

finest_from : (l : ℤ) → l ≡ pos 23 → l <ℤ pos 0 → ⊥
finest_from l e lt = omega (arith, ints)

finest_below : (l : ℤ) → l ≡ pos 23 → l <ℤ pos 23 → ⊥
finest_below l e lt = omega (arith, ints)

from_below : (l : ℤ) → l <ℤ pos 0 → pos 0 ≤ℤ l → ⊥
from_below l lt le = omega (arith, ints)

pub returns-in_default-clause-one : goal.returns-in_default-clause-one
returns-in_default-clause-one c = λ lt. absurd (finest_from c.args.tile.now.level.number c.in_default.ensures lt)

pub returns-in_default-clause-four : goal.returns-in_default-clause-four
returns-in_default-clause-four c = λ from lt. absurd (finest_below c.args.tile.now.level.number c.in_default.ensures lt)

pub returns-in_default-clause-fill : goal.returns-in_default-clause-fill
returns-in_default-clause-fill c = λ lt p i. absurd (finest_below c.args.tile.now.level.number c.in_default.ensures lt)

item-one : (c : goal.After-push) → c.push.new.self.items ≡ c.whole.result ∷ []
item-one c = c.push.ensures.items ∙ ap (λ l. l ++ c.whole.result ∷ []) c.new-children.ensures

whole : (c : goal.After-push) → IsWhole c.args.tile.now c.whole.result
whole c = let k = c.whole.ensures in
    record { family = k.family; cell = k.cell; level = c.in-Some.ensures ∙ sym k.level; up = k.up; right = k.right }

pub returns-then-tile-lt0-clause-one : goal.returns-then-tile-lt0-clause-one
returns-then-tile-lt0-clause-one c = λ below.
    record {
      child = c.whole.result;
      are = item-one c;
      begins = whole-begins c.args.tile.now c.whole.result below (whole c);
    }

pub returns-then-tile-lt0-clause-four : goal.returns-then-tile-lt0-clause-four
returns-then-tile-lt0-clause-four c = λ from lt.
    let below : c.args.tile.now.level.number <ℤ pos 0 = search rules in
    absurd (from_below c.args.tile.now.level.number below from)

pub returns-then-tile-lt0-clause-fill : goal.returns-then-tile-lt0-clause-fill
returns-then-tile-lt0-clause-fill c = λ lt p i.
    let below : c.args.tile.now.level.number <ℤ pos 0 = search rules in
    subst (λ l. Any (λ t. IsInTile t p) l) (sym (item-one c))
    (0, c.whole.result, lit< tt, refl, whole-fills c.args.tile.now c.whole.result below (whole c) p i)

items-four : (c : goal.After-push-else-tile-lt0-4) → c.push-else-tile-lt0-4.new.self.items
    ≡ c.quarter-south_west.result ∷ c.quarter-south_east.result ∷ c.quarter-north_west.result
    ∷ c.quarter-north_east.result ∷ []
items-four c = pushed_four _ _ _ _ _ _ _ _ _ c.new-children.ensures c.push-else-tile-lt0.ensures.items
    c.push-else-tile-lt0-2.ensures.items c.push-else-tile-lt0-3.ensures.items c.push-else-tile-lt0-4.ensures.items

quarters : (c : goal.After-push-else-tile-lt0-4) → AreQuarters c.args.tile.now
    c.quarter-south_west.result c.quarter-south_east.result c.quarter-north_west.result c.quarter-north_east.result
quarters c =
    let from : pos 0 ≤ℤ c.args.tile.now.level.number = search rules in
    let sw = c.quarter-south_west.ensures in
    let se = c.quarter-south_east.ensures in
    let nw = c.quarter-north_west.ensures in
    let ne = c.quarter-north_east.ensures in
    let l = c.in-Some.ensures in
    record {
      from = from;
      south_west = record {
        family = sw.family;
        cell = sw.cell;
        level = l ∙ sym sw.level;
        up = sw.up;
        right = sw.right;
      };
      south_east = record {
        family = se.family;
        cell = se.cell;
        level = l ∙ sym se.level;
        up = se.up;
        right = se.right;
      };
      north_west = record {
        family = nw.family;
        cell = nw.cell;
        level = l ∙ sym nw.level;
        up = nw.up;
        right = nw.right;
      };
      north_east = record {
        family = ne.family;
        cell = ne.cell;
        level = l ∙ sym ne.level;
        up = ne.up;
        right = ne.right;
      };
    }

pub returns-else-tile-lt0-clause-four : goal.returns-else-tile-lt0-clause-four
returns-else-tile-lt0-clause-four c = λ from lt. quarters-four c.args.tile.now _ _ _ _ _ (items-four c) (quarters c)

pub returns-else-tile-lt0-clause-fill : goal.returns-else-tile-lt0-clause-fill
returns-else-tile-lt0-clause-fill c = λ lt p i. subst (λ l. Any (λ t. IsInTile t p) l) (sym (items-four c))
    (quarters-fill c.args.tile.now _ _ _ _ (quarters c) p i)

pub returns-else-tile-lt0-clause-apart : goal.returns-else-tile-lt0-clause-apart
returns-else-tile-lt0-clause-apart c = subst (λ l. AllPairs AreApart l) (sym (items-four c))
    (quarters-apart c.args.tile.now _ _ _ _ (quarters c))
