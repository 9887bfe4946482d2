-- The two parts of an integer, its size, and the test of a range.
use Rattle.std.specs.Prelude.{Bool, ◌&&◌, ℕ, suc, ◌+◌, ◌≤◌, ℤ, pos, negsuc}
use Rattle.std.specs.Int.Signed.{le_z}

-- The positive part: z where z is not negative, else 0.
abbrev pub up : ℤ → ℕ
up (pos n) = n
up (negsuc n) = 0

-- The negative part: -z where z is negative, else 0.
abbrev pub dn : ℤ → ℕ
dn (pos n) = 0
dn (negsuc n) = suc n

-- Without its sign, z is at most n.
abbrev pub Within : ℕ → ℤ → Type 0
Within n z = up z + dn z ≤ n

-- The test whether z is at least lo and at most hi.
abbrev pub between : ℤ → ℤ → ℤ → Bool
between lo hi z = le_z lo z && le_z z hi
