-- `common::nonzero`: 0 where it is a zero, else 1. Assumes nothing.
use Rattle.std.proofs.Common.{◌≡◌, Bool, true, false, not, cond, refl, ◌∙◌}
use Rattle.std.specs.Int.{from_bool}
use lib.Ieee.{ne, eq, of_bits}
use Rattle.float64.specs.Number.{is_zero}
use Rattle.common.proofs.nonzero.Goals as goal

pub returns : goal.returns
unfolding ne eq of_bits
returns c = c.from.ensures ∙ go (is_zero c.args.x)
  where
    go : (b : Bool) → from_bool (not b) ≡ cond b 0 1
    go true = refl
    go false = refl
