-- The phaser in both widths of positions, of which it has none. Assumes nothing.
use Rattle.std.proofs.Common.{refl}
use lib.Ieee.{nan}
use Rattle.effect.specs.Narrow.{Narrow}
use Rattle.effect.proofs.Narrow.{Supplied, same-array, same-entry, narrows}
use Rattle.phaser.specs.Phaser.{phaser, state_of, fields}
use Rattle.phaser.proofs.Demand1.{laws}

own : Supplied phaser fields 0
own =
    record {
      fields =
          record {
            whole = λ s t e i.
                state_of (same-array e.floats 0 i) (same-array e.floats 1 i) (same-array e.floats 2 i) (same-array e.floats 3 i) (same-entry nan e.floats 4 0 i)
                (same-entry nan e.floats 4 1 i);
            counted = λ s f. refl;
            mapped = λ f s. refl;
            count_stays = λ f s. refl;
            floats_stay = λ f s. refl;
            flags_stay = λ f s. refl;
          };
      fits-below = λ s f. tt;
      blank-below = tt;
    }

pub shown : Narrow phaser fields 0
shown = narrows phaser fields laws 0 own
