-- A chain of first-order all-passes, one after the other. Of each it holds the last input x1 and the last output y1. Definitions only. Assumes nothing.
use Rattle.std.specs.Prelude.{ℕ, zero, suc, List, get_or, set, Float}
use Rattle.std.specs.Float.{nan, binary64}
use Rattle.std.specs.Float.Ieee.{add, sub, mul}

-- what one all-pass puts out: coef × input + x1 − coef × y1
unfoldable pub allpassed : Float → Float → Float → Float → Float
allpassed coef input x1 y1 = sub binary64 (add binary64 (mul binary64 coef input) x1) (mul binary64 coef y1)

-- a chain, and the signal on its way through: what goes in, and then what the stage before put out
pub record Chain : Type 0 where
  pub x1 : List Float
  pub y1 : List Float
  pub signal : Float

abbrev pub chain_of : List Float → List Float → Float → Chain
chain_of x1 y1 signal = record { x1 = x1; y1 = y1; signal = signal }

-- The signal passes stage i, which holds on to what went in and what came out. Every other stage keeps both its numbers.
unfoldable pub stage : Float → ℕ → Chain → Chain
stage coef i c =
    let output = allpassed coef c.signal (get_or c.x1 i nan) (get_or c.y1 i nan) in
    chain_of (set c.x1 i c.signal) (set c.y1 i output) output

-- the signal passes the first n stages in order
unfoldable pub passed : Float → ℕ → Chain → Chain
passed coef zero c = c
passed coef (suc n) c = stage coef n (passed coef n c)
