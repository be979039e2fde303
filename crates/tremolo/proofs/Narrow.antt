-- The tremolo in both widths of positions, of which it has none. Assumes nothing.
use Rattle.std.proofs.Common.{refl}
use lib.Ieee.{nan}
use Rattle.effect.specs.Narrow.{Narrow}
use Rattle.effect.proofs.Narrow.{Supplied, same-entry, narrows}
use Rattle.tremolo.specs.Tremolo.{tremolo, state_of, fields}
use Rattle.tremolo.proofs.Demand1.{laws}

own : Supplied tremolo fields 0
own =
    record {
      fields =
          record {
            whole = λ s t e i. state_of (same-entry nan e.floats 0 0 i) (same-entry nan e.floats 0 1 i);
            counted = λ s f. refl;
            mapped = λ f s. refl;
            count_stays = λ f s. refl;
            floats_stay = λ f s. refl;
            flags_stay = λ f s. refl;
          };
      fits-below = λ s f. tt;
      blank-below = tt;
    }

pub shown : Narrow tremolo fields 0
shown = narrows tremolo fields laws 0 own
