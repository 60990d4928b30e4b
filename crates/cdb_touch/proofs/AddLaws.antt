-- Laws of lists that grow by the tiles of a set.
use Rattle.std.proofs.Common.{◌≡◌, ℕ, zero, suc, ◌+◌, ◌-◌, ◌<◌, ◌≤◌, ◌↔◌, ◌⊎◌, inl, inr, List, [], ◌∷◌, ◌++◌, length, max, Some, None, Result, Ok, Err, OnOk, is_ok, true, refl, sym, ap, subst, arith}
use Rattle.std.specs.List.{Contains, slice_get}
use Rattle.std.proofs.lemmas.Bool.{cases_lt}
use Rattle.std.proofs.lemmas.List.Elements.{Contains-append_left, Contains-push, Contains-push_cases}
use Rattle.cdb_grid.specs.declared.family.Family.{Family}
use Rattle.cdb_grid.specs.declared.tile.Tile.{Tile}
use Rattle.cdb_source.specs.declared.head.SourceHead.{SourceHead}
use Rattle.cdb_source.specs.Reached.{Reaches, Reached}
use Rattle.cdb_source.proofs.Lists.{get-left}
use Rattle.cdb_touch.specs.declared.axis.Run.{Run}
use Rattle.cdb_touch.specs.inside.Numbers.{row_number, column_number, IsNumbered, IsInRow, IsInRectangle}
use Rattle.cdb_touch.specs.inside.Touched.{AddsTiles}
use Rattle.cdb_touch.proofs.TileNumbers.{numbered-only}

pub Adds-none : (M : Tile → Type 0) (xs : List Tile) → ((t : Tile) → M t → ⊥) → AddsTiles M xs xs
Adds-none M xs out = record { each = λ t. (λ c. inl c, keep t) }
  where
    keep : (t : Tile) → Contains xs t ⊎ M t → Contains xs t
    keep t (inl c) = c
    keep t (inr m) = absurd (out t m)

pub Adds-one : (xs : List Tile) (x : Tile) → AddsTiles (λ t. x ≡ t) xs (xs ++ x ∷ [])
Adds-one xs x = record { each = λ t. (λ c. Contains-push_cases xs x t c, put t) }
  where
    put : (t : Tile) → Contains xs t ⊎ (x ≡ t) → Contains (xs ++ x ∷ []) t
    put t (inl c) = Contains-append_left xs (x ∷ []) t c
    put t (inr e) = subst (λ u. Contains (xs ++ x ∷ []) u) e (Contains-push xs x)

pub Adds-then : (A B M : Tile → Type 0) (xs ys zs : List Tile) → AddsTiles A xs ys → AddsTiles B ys zs
    → ((t : Tile) → (A t ⊎ B t) ↔ M t) → AddsTiles M xs zs
Adds-then A B M xs ys zs a b same = record { each = λ t. (λ c. split t ((b.each t).0 c), join t) }
  where
    first : (t : Tile) → Contains xs t ⊎ A t → Contains xs t ⊎ M t
    first t (inl c) = inl c
    first t (inr m) = inr ((same t).0 (inl m))

    split : (t : Tile) → Contains ys t ⊎ B t → Contains xs t ⊎ M t
    split t (inl c) = first t ((a.each t).0 c)
    split t (inr m) = inr ((same t).0 (inr m))

    part : (t : Tile) → A t ⊎ B t → Contains zs t
    part t (inl m) = (b.each t).1 (inl ((a.each t).1 (inr m)))
    part t (inr m) = (b.each t).1 (inr m)

    join : (t : Tile) → Contains xs t ⊎ M t → Contains zs t
    join t (inl c) = (b.each t).1 (inl ((a.each t).1 (inl c)))
    join t (inr m) = part t ((same t).1 m)

pub Adds-iff : (A B : Tile → Type 0) (xs ys : List Tile) → ((t : Tile) → A t ↔ B t) → AddsTiles A xs ys
    → AddsTiles B xs ys
Adds-iff A B xs ys same a = record { each = λ t. (λ c. to t ((a.each t).0 c), λ s. (a.each t).1 (from t s)) }
  where
    to : (t : Tile) → Contains xs t ⊎ A t → Contains xs t ⊎ B t
    to t (inl c) = inl c
    to t (inr m) = inr ((same t).0 m)

    from : (t : Tile) → Contains xs t ⊎ B t → Contains xs t ⊎ A t
    from t (inl c) = inl c
    from t (inr m) = inr ((same t).1 m)

-- one tile more in a row
pub one_column_more : (f : Family) (h y x : ℕ) (columns : Run) (tile t : Tile) → IsNumbered f h y x tile
    → columns.first ≤ x
    → (IsInRow f h y (record columns { end = x }) t ⊎ (tile ≡ t)) ↔ IsInRow f h y (record columns { end = x + 1 }) t
one_column_more f h y x columns tile t n from = (put, split)
  where
    itself : IsInRow f h y (record columns { end = x + 1 }) tile
    itself = let e = n.column_is in
        record {
          family_is = n.family_is;
          height_is = n.height_is;
          row_is = n.row_is;
          column_from = omega arith;
          column_below = omega arith;
        }

    put : IsInRow f h y (record columns { end = x }) t ⊎ (tile ≡ t) → IsInRow f h y (record columns { end = x + 1 }) t
    put (inl i) = let a = i.column_below in
        record {
          family_is = i.family_is;
          height_is = i.height_is;
          row_is = i.row_is;
          column_from = i.column_from;
          column_below = omega arith;
        }
    put (inr e) = subst (λ u. IsInRow f h y (record columns { end = x + 1 }) u) e itself

    split : IsInRow f h y (record columns { end = x + 1 }) t → IsInRow f h y (record columns { end = x }) t ⊎ (tile ≡ t)
    split i = let a = i.column_below in elim (cases_lt (column_number t) x) [
      | inl p ↦
          inl (record {
            family_is = i.family_is;
            height_is = i.height_is;
            row_is = i.row_is;
            column_from = i.column_from;
            column_below = p;
          })
      | inr p ↦
          inr (numbered-only f h y x tile t n
          (record { family_is = i.family_is; height_is = i.height_is; row_is = i.row_is; column_is = omega arith }))
    ]

pub no_column : (f : Family) (h y : ℕ) (columns : Run) (t : Tile)
    → IsInRow f h y (record columns { end = columns.first }) t → ⊥
no_column f h y columns t i = let a = i.column_from in let b = i.column_below in omega arith

pub all_columns : (f : Family) (h y x : ℕ) (columns : Run) (t : Tile) → x ≤ max columns.first columns.end
    → columns.end ≤ x
    → IsInRow f h y (record columns { end = x }) t ↔ IsInRow f h y columns t
all_columns f h y x columns t most past = (
  (λ i. let a = i.column_from in
      let b = i.column_below in
      record {
        family_is = i.family_is;
        height_is = i.height_is;
        row_is = i.row_is;
        column_from = i.column_from;
        column_below = omega arith;
      }),
  (λ i. let a = i.column_from in
      let b = i.column_below in
      record {
        family_is = i.family_is;
        height_is = i.height_is;
        row_is = i.row_is;
        column_from = i.column_from;
        column_below = omega arith;
      }),
)

-- one row more in a rectangle
pub one_row_added : (f : Family) (h y : ℕ) (rows columns : Run) (t : Tile) → rows.first ≤ y
    → (IsInRectangle f h (record rows { end = y }) columns t ⊎ IsInRow f h y columns t)
    ↔ IsInRectangle f h (record rows { end = y + 1 }) columns t
one_row_added f h y rows columns t from = (put, split)
  where
    put : IsInRectangle f h (record rows { end = y }) columns t ⊎ IsInRow f h y columns t
        → IsInRectangle f h (record rows { end = y + 1 }) columns t
    put (inl i) = let a = i.row_below in
        record {
          family_is = i.family_is;
          height_is = i.height_is;
          row_from = i.row_from;
          row_below = omega arith;
          column_from = i.column_from;
          column_below = i.column_below;
        }
    put (inr i) = let a = i.row_is in
        record {
          family_is = i.family_is;
          height_is = i.height_is;
          row_from = omega arith;
          row_below = omega arith;
          column_from = i.column_from;
          column_below = i.column_below;
        }

    split : IsInRectangle f h (record rows { end = y + 1 }) columns t
        → IsInRectangle f h (record rows { end = y }) columns t ⊎ IsInRow f h y columns t
    split i = let a = i.row_below in elim (cases_lt (row_number t) y) [
      | inl p ↦
          inl (record {
            family_is = i.family_is;
            height_is = i.height_is;
            row_from = i.row_from;
            row_below = p;
            column_from = i.column_from;
            column_below = i.column_below;
          })
      | inr p ↦
          inr (record {
            family_is = i.family_is;
            height_is = i.height_is;
            row_is = omega arith;
            column_from = i.column_from;
            column_below = i.column_below;
          })
    ]

pub no_row_added : (f : Family) (h : ℕ) (rows columns : Run) (t : Tile)
    → IsInRectangle f h (record rows { end = rows.first }) columns t → ⊥
no_row_added f h rows columns t i = let a = i.row_from in let b = i.row_below in omega arith

pub all_rows_added : (f : Family) (h y : ℕ) (rows columns : Run) (t : Tile) → y ≤ max rows.first rows.end → rows.end ≤ y
    → IsInRectangle f h (record rows { end = y }) columns t ↔ IsInRectangle f h rows columns t
all_rows_added f h y rows columns t most past = (
  (λ i. let a = i.row_from in
      let b = i.row_below in
      record {
        family_is = i.family_is;
        height_is = i.height_is;
        row_from = i.row_from;
        row_below = omega arith;
        column_from = i.column_from;
        column_below = i.column_below;
      }),
  (λ i. let a = i.row_from in
      let b = i.row_below in
      record {
        family_is = i.family_is;
        height_is = i.height_is;
        row_from = i.row_from;
        row_below = omega arith;
        column_from = i.column_from;
        column_below = i.column_below;
      }),
)

pub empty_rectangle : (f : Family) (h : ℕ) (rows columns : Run) (t : Tile) → columns.end - columns.first ≡ 0
    → IsInRectangle f h rows columns t → ⊥
empty_rectangle f h rows columns t e i = let a = i.column_from in let b = i.column_below in omega arith

at_end : (xs : List SourceHead) (x : SourceHead) → slice_get (xs ++ x ∷ []) (length xs) ≡ Some x
at_end [] x = refl
at_end (y ∷ ys) x = at_end ys x

at_cases : (xs : List SourceHead) (x : SourceHead) (k : ℕ) (h : SourceHead) → slice_get (xs ++ x ∷ []) k ≡ Some h
    → (slice_get xs k ≡ Some h) ⊎ (x ≡ h)
at_cases [] x zero h e = inr (cc)
at_cases [] x (suc k) h e = absurd (cc)
at_cases (y ∷ ys) x zero h e = inl e
at_cases (y ∷ ys) x (suc k) h e = at_cases ys x k h e

pub one_source_more : (xs : List SourceHead) (x : SourceHead) (t : Tile) → (Reached xs t ⊎ Reaches x t)
    ↔ Reached (xs ++ x ∷ []) t
one_source_more xs x t = (put, λ r. split r (at_cases xs x r.number r.head r.there))
  where
    put : Reached xs t ⊎ Reaches x t → Reached (xs ++ x ∷ []) t
    put (inl r) = record {
      number = r.number;
      head = r.head;
      there = get-left xs (x ∷ []) r.number r.head r.there;
      reaches = r.reaches;
    }
    put (inr r) = record { number = length xs; head = x; there = at_end xs x; reaches = r }

    split : (r : Reached (xs ++ x ∷ []) t) → (slice_get xs r.number ≡ Some r.head) ⊎ (x ≡ r.head)
        → Reached xs t ⊎ Reaches x t
    split r (inl e) = inl (record { number = r.number; head = r.head; there = e; reaches = r.reaches })
    split r (inr e) = inr (subst (λ h. Reaches h t) (sym e) r.reaches)

pub no_source : (t : Tile) → Reached [] t → ⊥
no_source t r = let e : None ≡ Some r.head = r.there in cc

pub ok_fact : {T E : Type 0} (r : Result T E) (P : Type 0) → is_ok r ≡ true → OnOk r P → P
ok_fact (Ok x) P e p = p
ok_fact (Err x) P e p = absurd (cc)

-- a list that grew from nothing by a set has its tiles
pub grown : (M : Tile → Type 0) (xs ys : List Tile) → xs ≡ [] → AddsTiles M xs ys → (t : Tile) → Contains ys t ↔ M t
grown M xs ys e a t = (λ c. to ((a.each t).0 c), λ m. (a.each t).1 (inr m))
  where
    to : Contains xs t ⊎ M t → M t
    to (inl c) = let k : c.0 < length xs = c.1 in let l : length xs ≡ 0 = ap length e in absurd (omega arith)
    to (inr m) = m
