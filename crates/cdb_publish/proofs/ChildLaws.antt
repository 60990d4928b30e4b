-- The finer tiles of a tile in a loop.
use Rattle.std.proofs.Common.{◌≡◌, ℕ, zero, suc, ◌+◌, ◌<◌, ◌≤◌, Bool, true, false, not, ◌&&◌, if◌then◌else◌, List, [], ◌∷◌, ◌++◌, length, length-append, Option, Some, None, take, drop, get_or, refl, sym, ap, ◌∙◌, subst, arith, append_assoc, append-nil}
use Rattle.std.specs.Prelude.{Any, slice_index_or}
use Rattle.std.specs.List.{flat_map}
use Rattle.std.proofs.lemmas.List.{take_more}
use Rattle.cdb_grid.specs.declared.tile.Tile.{Tile}
use Rattle.cdb_manifest.specs.declared.record_.Record.{Record}
use Rattle.cdb_chain.specs.LookUps.{is_listed}
use Rattle.cdb_publish.specs.LookUps.{child_needs, needs_of, look, look_before}
use Rattle.cdb_publish.specs.inside.Older.{folded_needs, IsKept}
use Rattle.cdb_publish.specs.Needs.{Need}
use Rattle.cdb_publish.specs.declared.plan.Plan.{Plan}
use Rattle.cdb_publish.proofs.FewNeeds.{one_need}

-- what all of them give is what those before gave, what this one gives, and the rest
pub needs_at : (f : Tile → List Need) (items : List Tile) (k : ℕ) (c : Tile) → k < length items → c ≡ get_or items k c
    → flat_map f items ≡ flat_map f (take k items) ++ (f c ++ flat_map f (drop (k + 1) items))
needs_at f [] k c l e = absurd (omega (arith, l))
needs_at f (d ∷ items) zero c l e = ap (λ x. f x ++ flat_map f items) (sym e)
needs_at f (d ∷ items) (suc k) c l e =
    let one : suc k + 1 ≡ suc (k + 1) = omega arith in
    ap (λ xs. f d ++ xs) (needs_at f items k c (omega (arith, l)) e)
    ∙ ap (λ n. f d ++ (flat_map f (take k items) ++ (f c ++ flat_map f (drop n (d ∷ items))))) (sym one)
    ∙ sym (append_assoc (f d) (flat_map f (take k items)) _)

pub needs_more : (f : Tile → List Need) (items : List Tile) (k : ℕ) (c : Tile) → k < length items → c ≡ get_or items k c
    → flat_map f (take (k + 1) items) ≡ flat_map f (take k items) ++ f c
needs_more f items k c l e =
    ap (flat_map f) (take_more items k c l ∙ ap (λ x. take k items ++ x ∷ []) (sym e)) ∙ appended (take k items)
  where
    appended : (xs : List Tile) → flat_map f (xs ++ c ∷ []) ≡ flat_map f xs ++ f c
    appended [] = append-nil (f c)
    appended (x ∷ xs) = ap (λ y. f x ++ y) (appended xs) ∙ sym (append_assoc (f x) (flat_map f xs) _)

-- ---- what is read of them

few_by : (listed : Bool) (needs : List Need)
    → length (if true && not listed then [] else needs) ≤ length needs
few_by true needs = omega arith
few_by false needs = omega arith

pub folded_few : (p : Plan) (kept : List Record) (items : List Tile)
    → length (flat_map (folded_needs true p kept) items) ≤ length (child_needs p kept items)
folded_few p kept [] = omega arith
folded_few p kept (c ∷ items) =
    omega (
      arith,
      folded_few p kept items,
      few_by (is_listed p.record.tiles c) (needs_of c (look p kept c)),
      length-append (folded_needs true p kept c) (flat_map (folded_needs true p kept) items),
      length-append (needs_of c (look p kept c)) (child_needs p kept items),
    )

pub folded_all : (p : Plan) (kept : List Record) (items : List Tile)
    → length (flat_map (folded_needs false p kept) items) ≡ length (child_needs p kept items)
folded_all p kept items = refl

-- one that is kept isn't read
kept_by : (listed : Bool) (c : Tile) (o : Option ℕ) (version : ℕ) → listed ≡ false → o ≡ Some version
    → length (if true && not listed then [] else needs_of c o) + 1 ≡ length (needs_of c o)
kept_by true c o version e f = absurd cc
kept_by false c None version e f = absurd cc
kept_by false c (Some v) version e f = refl

kept_one : (p : Plan) (kept : List Record) (c : Tile) → IsKept p kept c
    → length (folded_needs true p kept c) + 1 ≡ length (needs_of c (look p kept c))
kept_one p kept c k = kept_by (is_listed p.record.tiles c) c (look p kept c) k.1.0 k.0 k.1.1

kept_fewer : (p : Plan) (kept : List Record) (items : List Tile) (k : ℕ) (x : Tile) → k < length items
    → slice_index_or items k x ≡ x → IsKept p kept x
    → length (flat_map (folded_needs true p kept) items) + 1 ≤ length (child_needs p kept items)
kept_fewer p kept [] k x l at is = absurd (omega (arith, l))
kept_fewer p kept (c ∷ items) zero x l at is =
    omega (
      arith,
      kept_one p kept c (subst (IsKept p kept) (sym at) is),
      folded_few p kept items,
      length-append (folded_needs true p kept c) (flat_map (folded_needs true p kept) items),
      length-append (needs_of c (look p kept c)) (child_needs p kept items),
    )
kept_fewer p kept (c ∷ items) (suc k) x l at is =
    omega (
      arith,
      kept_fewer p kept items k x (omega (arith, l)) at is,
      few_by (is_listed p.record.tiles c) (needs_of c (look p kept c)),
      length-append (folded_needs true p kept c) (flat_map (folded_needs true p kept) items),
      length-append (needs_of c (look p kept c)) (child_needs p kept items),
    )

pub folded_fewer : (p : Plan) (kept : List Record) (items : List Tile) → Any (IsKept p kept) items
    → length (flat_map (folded_needs true p kept) items) + 1 ≤ length (child_needs p kept items)
folded_fewer p kept items (k, x, l, at, is) = kept_fewer p kept items k x l at is

-- where the earlier tile is read in place of one that is kept, no more is read than all finer tiles
pub older_fewer : (p : Plan) (kept : List Record) (t : Tile) (items : List Tile) → Any (IsKept p kept) items
    → (found : Bool) (before now : ℕ) → now ≤ before + length (needs_of t (look_before p kept t))
    → (found ≡ false → now ≤ before)
    → now + length (flat_map (folded_needs found p kept) items) ≤ before + length (child_needs p kept items)
older_fewer p kept t items any true before now most unread =
    omega (arith, most, one_need t (look_before p kept t), folded_fewer p kept items any)
older_fewer p kept t items any false before now most unread =
    omega (arith, unread refl, folded_all p kept items)

pub older_most : (p : Plan) (kept : List Record) (t : Tile) (items : List Tile) → Any (IsKept p kept) items
    → (before now : ℕ) → now ≤ before + length (needs_of t (look_before p kept t))
    → now ≤ before + length (child_needs p kept items)
older_most p kept t items any before now most =
    omega (arith, most, one_need t (look_before p kept t), folded_fewer p kept items any)
