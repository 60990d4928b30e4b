-- Texts put together from parts, and taken apart again.
use Rattle.std.proofs.Common.{◌≡◌, ℕ, ◌≤◌, List, [], ◌∷◌, ◌++◌, length, refl, sym, ◌∙◌, append_assoc, arith}
use Rattle.std.specs.List.{flat_map}

-- a known part put at the end
pub more : (now was part old front known : List ℕ) → now ≡ was ++ part → part ≡ known → was ≡ old ++ front
    → now ≡ old ++ (front ++ known)
more now was part old front known put is so_far = put ∙ rw (is, so_far) (append_assoc old front known)

-- two texts of items, one after another, where the text of an item tells the item and where it ends: the longer list
-- begins with the shorter one, and the rest of its text is that of its other items
module _ {X : Type 0} (text : X → List ℕ) (cancel : (x y : X) (a b : List ℕ) → text x ++ a ≡ text y ++ b → (x ≡ y)
    × (a ≡ b)) where
  pub items_begin : (xs ys : List X) (a b : List ℕ) → length xs ≤ length ys → flat_map text xs ++ a
      ≡ flat_map text ys ++ b → (zs : List X) × ((ys ≡ xs ++ zs) × (a ≡ flat_map text zs ++ b))
  items_begin [] ys a b le e = (ys, (refl, e))
  items_begin (x ∷ xs) [] a b le e = absurd (omega arith)
  items_begin (x ∷ xs) (y ∷ ys) a b le e =
      let shorter : length xs ≤ length ys = omega arith in
      let regrouped : text x ++ (flat_map text xs ++ a) ≡ text y ++ (flat_map text ys ++ b) =
      sym (append_assoc (text x) (flat_map text xs) a) ∙ e ∙ append_assoc (text y) (flat_map text ys) b in
      let both = cancel x y (flat_map text xs ++ a) (flat_map text ys ++ b) regrouped in
      let rest = items_begin xs ys a b shorter both.1 in
      (rest.0, (cc (both.0, rest.1.0), rest.1.1))
