-- The flanger in both widths of positions: its line has at most 1,930 places. Assumes nothing.
use Rattle.std.proofs.Common.{refl, arith}
use lib.Ieee.{nan}
use Rattle.effect.specs.Narrow.{Narrow}
use Rattle.effect.proofs.Narrow.{Supplied, one-below, same-entry, narrows}
use Rattle.flanger.specs.Flanger.{flanger, state_of, fields}
use Rattle.flanger.proofs.Laws.{fits-parts, length_fits}
use Rattle.flanger.proofs.Demand1.{laws}

own : Supplied flanger fields 1
own =
    record {
      fields =
          record {
            whole = λ s t e i. state_of (same-entry 0 e.positions 0 0 i) (e.count i) (same-entry nan e.floats 0 0 i) (same-entry nan e.floats 0 1 i);
            counted = λ s f. refl;
            mapped = λ f s. refl;
            count_stays = λ f s. refl;
            floats_stay = λ f s. refl;
            flags_stay = λ f s. refl;
          };
      fits-below = λ s f.
          let p = fits-parts s f in
          one-below (omega (arith, p.inside, length_fits s.sample_rate p.rate));
      blank-below = one-below (omega arith);
    }

pub shown : Narrow flanger fields 1
shown = narrows flanger fields laws 1 own
