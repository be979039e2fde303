-- `tank::all_below` is `all_below`: a fold over the positions and lengths, side by side. Assumes nothing.
use Rattle.std.proofs.Common.{rules, tests, ℕ, Bool, true, ◌&&◌, ltb, ◌∙◌}
use Rattle.std.proofs.lemmas.Iterator.{YieldsList-from_slice, YieldsList-from_zip}
use Rattle.std.proofs.lemmas.Iterator.Consumers.{fold_from_yields_List}
use Rattle.reverb.proofs.Lists.{below-folded}
use Rattle.reverb.proofs.tank.all_below.Goals as goal

pub returns : goal.returns
returns g c =
    let ws = c.args.positions.now in
    let ns = c.args.lengths in
    fold_from_yields_List _ (λ (b : Bool) (p : ℕ × ℕ). b && ltb p.0 p.1) true c.fold.result c.fold.ensures.ran
    (YieldsList-from_zip {s = c.zip.result} (YieldsList-from_slice ws cc) (YieldsList-from_slice ns cc))
    (λ a x b q k. search (rules, tests))
    ∙ below-folded true ws ns cc
