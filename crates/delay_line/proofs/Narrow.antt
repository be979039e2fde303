-- The delay line in both widths of positions: its line has at most 11,520,001 places. Assumes nothing.
use Rattle.std.proofs.Common.{false, get_or, ap, refl, arith}
use lib.Ieee.{nan}
use Rattle.effect.specs.Narrow.{Narrow}
use Rattle.effect.proofs.Narrow.{Supplied, one-below, same-entry, narrows}
use Rattle.delay_line.specs.DelayLine.{delay_line, state_of, handing, reader, fields}
use Rattle.delay_line.proofs.ReaderLaws.{fits-parts, size-fits}
use Rattle.delay_line.proofs.Demand1.{laws}

own : Supplied delay_line fields 1
own =
    record {
      fields =
          record {
            whole = λ s t e i.
                state_of (same-entry 0 e.positions 0 0 i) (e.count i) (same-entry nan e.floats 0 0 i) (ap (λ l. get_or l 0 false) e.flags i)
                (handing (same-entry nan e.floats 0 1 i) (same-entry nan e.floats 0 2 i) (same-entry nan e.floats 0 3 i) (ap (λ l. get_or l 1 false) e.flags i));
            counted = λ s f. refl;
            mapped = λ f s. refl;
            count_stays = λ f s. refl;
            floats_stay = λ f s. refl;
            flags_stay = λ f s. refl;
          };
      fits-below = λ s f. let p = fits-parts (reader s) f in one-below (omega (arith, p.inside, size-fits (reader s) p));
      blank-below = one-below (omega arith);
    }

pub shown : Narrow delay_line fields 1
shown = narrows delay_line fields laws 1 own
