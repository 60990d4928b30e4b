-- Inside the crate: the mean of four posts, each weighted by the rectangle between the point and the post opposite, in
-- natural numbers.
use Rattle.std.specs.Prelude.{ℕ, ◌+◌, ◌-◌, ◌*◌, ◌/◌, ℤ, pos, Option, Some}
use Rattle.std.specs.Option.{option_map}
use Rattle.cdb_source.specs.Sample.{plus, rounded}

-- of two numbers, the second so many parts of the whole and the first the rest
abbrev pub mixed : ℕ → ℕ → ℕ → ℕ → ℕ
mixed whole part first second = (whole - part) * first + part * second

-- of four numbers: south-west, south-east, north-west, north-east
abbrev pub blended : ℕ → ℕ → ℕ → ℕ → ℕ → ℕ → ℕ → ℕ → ℕ
blended m n a b sw se nw ne = mixed m a (mixed n b sw se) (mixed n b nw ne)

-- a quotient rounded to the nearest number, a half upward
abbrev pub nearest : ℕ → ℕ → ℕ
nearest sum d = (2 * sum + d) / (2 * d)

-- the rounded mean of four posts that are there, at distances a and b of steps m and n
abbrev pub mean_of_four : ℕ → ℕ → ℕ → ℕ → Option ℤ → Option ℤ → Option ℤ → Option ℤ → Option ℤ
mean_of_four m n a b sw se nw ne =
    option_map (rounded (m * n))
    (plus (a * b) ne (plus (a * (n - b)) nw (plus ((m - a) * b) se (plus ((m - a) * (n - b)) sw (Some (pos 0))))))
