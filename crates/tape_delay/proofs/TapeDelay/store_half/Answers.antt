-- `TapeDelay::store_half` is the store half of `tape_delay`: causes 4, 7 and 3, then 6, then the half itself. Assumes nothing.
use Rattle.std.proofs.Common.{refl, sym, ap, ◌∙◌, false, [], ◌∷◌, length}
use lib.Ieee.{of_bits, of_int, round}
use Rattle.port.specs.declared.Refusal.TheVariants.{Curve}
use Rattle.port.specs.Answer.{played}
use Rattle.common.specs.Signal.{cause_number}
use Rattle.delay_line.specs.Halves.{half_stored}
use Rattle.effect.specs.Run.{tick}
use Rattle.effect.proofs.Contract.{accepts}
use Rattle.effect.proofs.Rows.{tick_row, row_refuses, first-long}
use Rattle.tape_delay.specs.TapeDelay.{tape_delay, store_half, stored_state, tick_number, next, samples, reads}
use Rattle.tape_delay.proofs.Laws.{half-passed, in-turn, store-inside, store-most, store-short, stored-is, count-is}
use Rattle.tape_delay.proofs.TapeDelay.store_half.Goals as goal

pub returns-then-not-saturated_fits : goal.returns-then-not-saturated_fits
unfolding tick_number
returns-then-not-saturated_fits c =
    let a = c.args in
    let s = a.self in
    let t = store_half a.saturated in
    let n = length a.mem.now in
    let row = ap (cause_number false) (sym c.if-not-saturated_fits.true ∙ c.saturated_fits.ensures) in
    let e = c.in-Ok.ensures.number in
    row_refuses tape_delay t s a.mem.now Curve _ (half-passed t s n s.waiting refl e) (in-turn t s n s.waiting refl e row) c.refused-then-not-saturated_fits.ensures.state c.refused-then-not-saturated_fits.ensures.answer

pub store_half-stored-requires : goal.store_half-stored-requires
store_half-stored-requires c =
    let s = c.args.self in
    let m = c.args.mem.now in
    let passed = half-passed (store_half c.args.saturated) s (length m) s.waiting refl c.in-Ok.ensures.number in
    let long = c.in-Ok.ensures.needed in
    record { inside = store-inside s m long passed; most = store-most s m long passed; short = store-short s m long passed }

pub returns : goal.returns
unfolding tick_number next samples reads of_bits of_int round
returns c =
    let a = c.args in
    let s = a.self in
    let m = a.mem.now in
    let t = store_half a.saturated in
    let e = c.in-Ok.ensures.number in
    let passed = half-passed t s (length m) s.waiting refl e in
    let row = ap (cause_number false) (sym c.if-not-saturated_fits.false ∙ c.saturated_fits.ensures) in
    let long = first-long tape_delay s m c.in-Ok.ensures.needed passed ∙ c.in-Ok.ensures.needed in
    let count = count-is s m c.in-Ok.ensures.needed passed a.saturated in
    let half = c.store_half-stored.ensures.result ∙ (λ i. half_stored (long i) s.write_pos (count i) s.kept) in
    accepts tape_delay (tick t) s m (sym (tick_row tape_delay t s m passed (in-turn t s (length m) s.waiting refl e row)))
    (c.stored.ensures ∙ (λ i. stored_state (half i) s))
    (stored-is s m c.in-Ok.ensures.needed passed a.saturated c.store_half-stored.ensures.stored)
    (λ i. played ((half i).sample ∷ []) 0)
