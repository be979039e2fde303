-- What the effects do to single samples and phases. Definitions only. Assumes nothing.
use Rattle.std.specs.Prelude.{ℕ, Bool, cond, Float}
use Rattle.std.specs.Float.{nan, inf, fin, binary64}
use Rattle.std.specs.Float.Ieee.{add, sub, mul, le}
use Rattle.float64.specs.Number.{plus_zero, float_of}

-- the input rule: non-finite audio becomes +0
abbrev pub sanitized : Float → Float
sanitized nan = plus_zero
sanitized (inf s) = plus_zero
sanitized (fin s m e) = fin s m e

-- a × (1 − f) + b × f: every dry/wet, and the two places of a read
unfoldable pub blended : Float → Float → Float → Float
blended a b f = add binary64 (mul binary64 a (sub binary64 (float_of 1) f)) (mul binary64 b f)

-- a phase moved on by a step: add; at 1 or more, subtract 1
unfoldable pub advanced : Float → Float → Float
advanced phase step =
    let next = add binary64 phase step in
    cond (le (float_of 1) next) (sub binary64 next (float_of 1)) next

-- causes 5 and 6 of a tick: a control that it reads is set and NaN; a curve number is NaN or out of range. 0 is none
abbrev pub cause_number : Bool → Bool → ℕ
cause_number control_nan curves_fit = cond control_nan 5 (cond curves_fit 0 6)
