-- `tunings::total`: no length is more than a comb's, so that 16 bits hold the sum of eight. Assumes nothing.
use Rattle.std.proofs.Common.{ℕ, ◌*◌, ◌≤◌, ◌∙◌, w16, List, length, arith}
use Rattle.std.proofs.lemmas.Simd.{Each1-from_get_or, sum_bound, sum_fits, fold-sum}
use lib.Lanes.{sum_l}
use Rattle.reverb.specs.Tunings.{comb_most, Capped}
use Rattle.reverb.proofs.tunings.total.Goals as goal

most : (ns : List ℕ) → Capped comb_most ns → sum_l ns ≤ comb_most * length ns
most ns h = sum_bound comb_most ns (Each1-from_get_or (λ n. n ≤ comb_most) ns 0 (λ i k. h i))

pub overflow_add-lengths : goal.overflow_add-lengths
overflow_add-lengths g c =
    let ns = c.args.lengths.now in
    sum_fits w16 0 ns (omega (arith, most ns c.requires.capped, c.requires.few, c.told-lengths))

pub returns-clause-most : goal.returns-clause-most
returns-clause-most g c =
    let ns = c.args.lengths.now in
    omega (arith, c.from.ensures ∙ fold-sum 0 ns, most ns c.requires.capped, c.requires.few, c.told-lengths)
