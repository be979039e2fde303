-- Stages that do not run keep both their numbers. Assumes nothing.
use Rattle.std.proofs.Common.{◌≡◌, ℕ, zero, suc, ◌≤◌, get_or, refl, arith, get_or-set_other}
use lib.Ieee.{Float}
use Rattle.phaser.specs.Allpass.{Chain, passed, stage}

module _ (coef : Float) (c : Chain) (i : ℕ) (none : Float) where
  pub x1-kept : (n : ℕ) → n ≤ i → get_or (passed coef n c).x1 i none ≡ get_or c.x1 i none
  unfolding passed stage
  x1-kept zero h = refl
  x1-kept (suc n) h = grind (arith, get_or-set_other, x1-kept n)

  pub y1-kept : (n : ℕ) → n ≤ i → get_or (passed coef n c).y1 i none ≡ get_or c.y1 i none
  unfolding passed stage
  y1-kept zero h = refl
  y1-kept (suc n) h = grind (arith, get_or-set_other, y1-kept n)
