-- Which of several offers stands. An offer has a height and a value; lists are oldest first.
use Rattle.std.specs.Prelude.{ℕ, nat_le, if◌then◌else◌, List, [], ◌∷◌, Option, Some, None}
use Rattle.std.specs.Option.{option_or}

-- of two offers the later one stands where its height isn't above the other's
abbrev pub over : {V : Type 0} → Option (ℕ × V) → Option (ℕ × V) → Option (ℕ × V)
over a None = a
over None (Some y) = Some y
over (Some x) (Some y) = if nat_le y.0 x.0 then Some y else Some x

-- the offer of the least height, and of several the latest
abbrev pub best : {V : Type 0} → List (Option (ℕ × V)) → Option (ℕ × V)
best [] = None
best (offer ∷ offers) = over offer (best offers)

-- the latest value
abbrev pub newest : {V : Type 0} → List (Option V) → Option V
newest [] = None
newest (value ∷ values) = option_or (newest values) value
