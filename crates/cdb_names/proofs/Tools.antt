-- Which way a test or a step of a reading went.
use Rattle.std.proofs.Common.{◌≡◌, Bool, true, false, cond, Option, Some, None, ◌⊎◌, inl, inr, refl, ap}
use Rattle.std.specs.Prelude.{option_map, option_and_then}

-- which way a test went
pub chosen : {A : Type 0} (b : Bool) (x y z : A) → cond b x y ≡ z → ((b ≡ true) × (x ≡ z)) ⊎ ((b ≡ false) × (y ≡ z))
chosen true x y z e = inl (refl, e)
chosen false x y z e = inr (refl, e)

-- the option's value passes through the steps of a reader
pub then_some : {A B : Type 0} (o : Option A) (f : A → Option B) (y : B) → option_and_then f o ≡ Some y → (x : A)
    × (o ≡ Some x) × (f x ≡ Some y)
then_some (Some x) f y e = (x, refl, e)
then_some None f y e = absurd cc

pub map_some : {A B : Type 0} (o : Option A) (f : A → B) (y : B) → option_map f o ≡ Some y → (x : A)
    × (o ≡ Some x) × (f x ≡ y)
map_some (Some x) f y e = (x, refl, cc)
map_some None f y e = absurd cc

-- both parts of a pair
pub pair_is : {A B : Type 0} (a b : A) (x y : B) → let p : A × B = (a, x) in
    let q : A × B = (b, y) in p ≡ q → (a ≡ b) × (x ≡ y)
pair_is {A} {B} a b x y e = (ap (λ (p : A × B). p.0) e, ap (λ (p : A × B). p.1) e)
