-- How many bytes one call gives or takes, where what it gives or takes at once may be bounded.
use Rattle.std.specs.Prelude.{ℕ, min, Option, None, Some}

-- so many, but where there is a bound at most as many as it says
abbrev pub at_most : Option ℕ → ℕ → ℕ
at_most None count = count
at_most (Some most) count = min count most
