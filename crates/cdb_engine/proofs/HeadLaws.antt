-- The head that words give.
use Rattle.std.proofs.Common.{◌≡◌, ℕ, ℤ, Option, Some, None}
use Rattle.std.proofs.Common.{MatchOption, ◌∙◌, ap}
use Rattle.cdb_grid.specs.declared.arc.Arc.{Arc}
use Rattle.cdb_grid.specs.declared.level.Level.{Level}
use Rattle.cdb_source.specs.Head.{IsHead}
use Rattle.cdb_source.specs.Made.{HasFields}
use Rattle.cdb_source.specs.declared.kind.Kind.{Kind}
use Rattle.cdb_source.specs.declared.head.SourceHead.{SourceHead}
use Rattle.cdb_model.specs.Grammar.{Head}
use Rattle.cdb_model.specs.Spelled.{IsUnits, SpellsHead}
use Rattle.cdb_model.proofs.OneSource.{one_units}
use Rattle.cdb_engine.specs.Words.{SpellsNoHead}

same_head : (k k' : Kind) (a a' b b' c c' d d' : ℤ) (r r' q q' : ℕ) → k ≡ k' → a ≡ a' → b ≡ b' → c ≡ c' → d ≡ d'
    → r ≡ r' → q ≡ q' → IsHead k a b c d r q → IsHead k' a' b' c' d' r' q'
same_head k k' a a' b b' c c' d d' r r' q q' ek ea eb ec ed er eq h = rw (← ek, ← ea, ← eb, ← ec, ← ed, ← er, ← eq) h

-- what is made of numbers that the words give
pub head_given : (w : Head) (rows cols : ℕ) (level : Level) (lat lon dlat dlon : Arc) → level.number ≡ w.level
    → IsUnits w.lat lat.units → IsUnits w.lon lon.units → IsUnits w.dlat dlat.units → IsUnits w.dlon dlon.units
    → (made : Option SourceHead)
    → MatchOption made (IsHead w.kind lat.units lon.units dlat.units dlon.units rows cols → ⊥)
    (λ head. HasFields head w.kind level lat lon dlat dlon rows cols)
    → MatchOption made (SpellsNoHead w rows cols) (SpellsHead w rows cols)
head_given w rows cols level lat lon dlat dlon l a b c d None none = λ head s.
    none (same_head _ _ _ _ _ _ _ _ _ _ _ _ _ _ s.kind (one_units _ _ _ _ s.lat a) (one_units _ _ _ _ s.lon b)
    (one_units _ _ _ _ s.dlat c) (one_units _ _ _ _ s.dlon d) s.rows_are s.cols_are head.in_range)
head_given w rows cols level lat lon dlat dlon l a b c d (Some head) made = record {
  kind = made.kind_is;
  level = ap (λ (x : Level). x.number) made.level_is ∙ l;
  lat = rw made.lat_is a;
  lon = rw made.lon_is b;
  dlat = rw made.dlat_is c;
  dlon = rw made.dlon_is d;
  rows_are = made.rows_are;
  cols_are = made.cols_are;
}
