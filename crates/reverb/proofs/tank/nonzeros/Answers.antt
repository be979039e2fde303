-- `tank::nonzeros` counts the bits of a mask that has one for each number that is neither +0 nor −0. Assumes nothing.
use Rattle.std.proofs.Common.{◌≡◌, ℕ, Bool, true, false, not, cond, List, [], ◌∷◌, ◌+◌, w64, refl, ap, ◌∙◌, arith}
use Rattle.std.specs.Int.RustNames.{count_ones}
use Rattle.std.specs.List.{count_by}
use Rattle.std.proofs.lemmas.Simd.{bitmask_splat, ones-mask_l}
use Rattle.std.proofs.lemmas.List.Sums.{sum_by-cons}
use lib.Ieee.{Float, eq, ne, of_bits, of_int}
use Rattle.float64.specs.Number.{plus_zero, is_zero}
use Rattle.common.specs.Line.{nonzeros}
use Rattle.common.proofs.Nonzeros.{nonzeros-most}
use Rattle.reverb.proofs.tank.nonzeros.Goals as goal

counted : (l : List Float) → count_by (λ x. not (eq x plus_zero)) l ≡ nonzeros l
unfolding nonzeros
counted [] = refl
counted (x ∷ l) = sum_by-cons (λ x. cond (not (eq x plus_zero)) 1 0) x l ∙ (λ i. one (is_zero x) i + counted l i)
  where
    one : (b : Bool) → ◌≡◌ {A = ℕ} (cond (not b) 1 0) (cond b 0 1)
    one true = refl
    one false = refl

pub returns-clause-value : goal.returns-clause-value
unfolding of_bits of_int ne eq
returns-clause-value g c =
    let l = c.args.numbers.now in
    ap count_ones (bitmask_splat w64 (λ x y. not (eq x y)) l g.row.N plus_zero c.told-numbers c.requires)
    ∙ ones-mask_l (λ x. not (eq x plus_zero)) l
    ∙ counted l

pub returns-clause-most : goal.returns-clause-most
returns-clause-most g c = omega (arith, returns-clause-value g c, nonzeros-most c.args.numbers.now, c.told-numbers)
