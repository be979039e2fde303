-- `TapeDelay::read_half` is the read half of `tape_delay`: the ports or their defaults, causes 4, 7 and 3, then 5, then the half itself. Assumes nothing.
use Rattle.std.proofs.Common.{rules, ◌≡◌, refl, sym, ap, ◌∙◌, Bool, true, not, ◌||◌, length}
use Rattle.std.proofs.lemmas.Bool.{not-false, or_parts}
use lib.ListN.{take}
use lib.Ieee.{of_bits, of_int, round}
use Rattle.float64.specs.Number.{plus_zero, half, is_number}
use Rattle.port.specs.Port.{value_or}
use Rattle.port.specs.declared.Refusal.TheVariants.{Control}
use Rattle.common.specs.Signal.{cause_number}
use Rattle.effect.specs.Run.{tick, reset}
use Rattle.effect.proofs.Table.{accepted}
use Rattle.effect.proofs.Contract.{accepts}
use Rattle.effect.proofs.Rows.{tick_row, row_refuses}
use Rattle.delay_line.specs.Halves.{samples_of, half_read}
use Rattle.delay_line.proofs.ReaderLaws.{linear-number, samples-number}
use Rattle.tape_delay.specs.TapeDelay.{tape_delay, ports_of, read_half, maximum, ceiling, writes}
use Rattle.tape_delay.proofs.Laws.{state-parts, maximum_held, half-passed, in-turn, read-turn, read-row, read-is}
use Rattle.tape_delay.proofs.TapeDelay.read_half.Goals as goal

pub returns-then-is_nan : goal.returns-then-is_nan
unfolding of_bits round
returns-then-is_nan c =
    let a = c.args in
    let s = a.self in
    let m = a.mem.now in
    let p = ports_of a.audio a.time a.feedback a.mix in
    let time : c.match-time.time ≡ value_or a.time half = search rules in
    let back : c.match-feedback.feedback ≡ value_or a.feedback plus_zero = search rules in
    let wet : c.match-mix.mix ≡ value_or a.mix half = search rules in
    let row = sym (ap (λ (b : Bool). cause_number b true) c.if-is_nan.true) ∙ read-row p time back wet (λ i. c.is_nan.ensures i || (c.is_nan-2.ensures i || c.is_nan-3.ensures i)) in
    let e = c.in-Ok.ensures.number in
    row_refuses tape_delay (read_half p) s m Control _ (half-passed (read_half p) s (length m) (not s.waiting) (read-turn p s) e)
    (in-turn (read_half p) s (length m) (not s.waiting) (read-turn p s) e row) c.refused-then-is_nan.ensures.state c.refused-then-is_nan.ensures.answer

pub read_half-half-requires-clause-samples_is_number : goal.read_half-half-requires-clause-samples_is_number
unfolding of_bits of_int round
read_half-half-requires-clause-samples_is_number c =
    let s = c.args.self in
    let m = c.args.mem.now in
    let none = or_parts _ _ c.if-is_nan.false in
    let time = not-false (is_number c.match-time.time) (sym c.is_nan.ensures ∙ none.0) in
    let ms = c.linear_ms-seconds.ensures in
    let p = ports_of c.args.audio c.args.time c.args.feedback c.args.mix in
    let passed = half-passed (read_half p) s (length m) (not s.waiting) (read-turn p s) c.in-Ok.ensures.number in
    rw (c.samples_of-samples.ensures, ms) (samples-number s.sample_rate _ (state-parts s (accepted tape_delay (length m) reset s (sym passed)).state_fits).reads.rate (linear-number maximum c.match-time.time maximum_held time))

pub returns : goal.returns
unfolding writes of_bits of_int round
returns c =
    let a = c.args in
    let s = a.self in
    let m = a.mem.now in
    let p = ports_of a.audio a.time a.feedback a.mix in
    let audio : c.match-audio.audio ≡ value_or a.audio plus_zero = search rules in
    let time : c.match-time.time ≡ value_or a.time half = search rules in
    let back : c.match-feedback.feedback ≡ value_or a.feedback plus_zero = search rules in
    let wet : c.match-mix.mix ≡ value_or a.mix half = search rules in
    let row = sym (ap (λ (b : Bool). cause_number b true) c.if-is_nan.false) ∙ read-row p time back wet (λ i. c.is_nan.ensures i || (c.is_nan-2.ensures i || c.is_nan-3.ensures i)) in
    let e = c.in-Ok.ensures.number in
    let passed = half-passed (read_half p) s (length m) (not s.waiting) (read-turn p s) e in
    let ms = c.samples_of-samples.ensures ∙ ap (samples_of s.sample_rate) c.linear_ms-seconds.ensures in
    let half = c.read_half-half.ensures ∙ (λ i. half_read ceiling (c.reader.ensures i) (ms i) c.match-audio.audio c.match-feedback.feedback c.match-mix.mix (take c.in-Ok.n m)) in
    let does = read-is s m c.in-Ok.ensures.needed passed p audio time back wet half in
    accepts tape_delay (tick (read_half p)) s m (sym (tick_row tape_delay (read_half p) s m passed (in-turn (read_half p) s (length m) (not s.waiting) (read-turn p s) e row)))
    (c.waiting.ensures ∙ does.0) refl does.1
