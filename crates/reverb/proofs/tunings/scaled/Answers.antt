-- `tunings::scaled`: `whole_part_small` serves at every accepted rate. Assumes nothing.
use Rattle.reverb.proofs.Scaling.{product_small}
use Rattle.reverb.proofs.tunings.scaled.Goals as goal

pub whole_part_small-n-requires : goal.whole_part_small-n-requires
whole_part_small-n-requires c =
    let r = c.requires in
    rw c.from.ensures (product_small c.args.ratio c.args.base r.least_tuning_le_base r.base_le_most_tuning r.ratio_in_range)
