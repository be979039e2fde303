-- `common::all_zero`: the numbers one by one. Assumes nothing.
use Rattle.std.proofs.Common.{arith}
use Rattle.std.proofs.lemmas.Grind.{common_steps}
use Rattle.common.proofs.Zeros.{all-by-fold}
use Rattle.common.proofs.all_zero.Goals as goal

pub returns : goal.returns
returns c = let e = all-by-fold c.args.numbers.now in grind (arith, common_steps, e)
