-- Floats as data and as bits: which patterns are a NaN's, and two floats with the same bits are one. Assumes nothing.
use Rattle.std.proofs.Common.{◌≡◌, ℕ, ◌%◌, ◌<◌, true, T, refl, sym, ap, subst, ◌∙◌}
use Rattle.std.specs.Float.{binary64}
use Rattle.std.specs.Float.Ieee.{Float, nan, inf, fin, fits, is_nan, of_bits, to_bits}
use Rattle.std.proofs.lemmas.Float.{not_nan_f64_bits}
use lib.Ieee.Bits.{of_bits-to_bits, nan_bits_is, nan_bits_above}
use borrow.Author.Tests.{lt-ltb}

pub only_nan : (x : Float) → is_nan x ≡ true → x ≡ nan
unfolding is_nan
only_nan nan e = refl
only_nan (inf s) e = cc
only_nan (fin s m k) e = cc

-- the infinity's pattern, its sign aside, is the highest that is no NaN's
pub nan_pattern : (n : ℕ) → 0x7ff0_0000_0000_0000 < n % 0x8000_0000_0000_0000 → of_bits binary64 n ≡ nan
nan_pattern n h =
    only_nan (of_bits binary64 n) (sym (nan_bits_is binary64 n) ∙ nan_bits_above binary64 n ∙ lt-ltb 0x7ff0_0000_0000_0000 (n % 0x8000_0000_0000_0000) h)

pub same_bits : (x y : Float) → fits binary64 x ≡ true → fits binary64 y ≡ true → to_bits binary64 x ≡ to_bits binary64 y → x ≡ y
same_bits x y p q e =
    sym (of_bits-to_bits binary64 x (subst T (sym p) tt)) ∙ ap (of_bits binary64) e ∙ of_bits-to_bits binary64 y (subst T (sym q) tt)

-- what `words::Record::float` cites, and `words::same`
pub ruleset pattern_cases = (not_nan_f64_bits, nan_pattern)

pub ruleset equal_cases = (only_nan, same_bits)
