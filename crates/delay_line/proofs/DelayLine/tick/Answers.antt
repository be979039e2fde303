-- `DelayLine::tick` is the tick of `delay_line`: the ports or their defaults, the delay in samples, where there is a NaN the table in its order, then causes
-- 4 and 3, then the tick itself. Assumes nothing.
use Rattle.std.proofs.Common.{rules, ◌≡◌, refl, sym, ap, ◌∙◌, length, Result, Ok, Err}
use Rattle.std.specs.Result.{IsErr}
use mathlib.Core.Logic.{◌≢◌}
use lib.Ieee.{of_bits, round}
use Rattle.float64.specs.Number.{plus_zero, half}
use Rattle.float64.proofs.Tests.{clash}
use Rattle.port.specs.Port.{value_or}
use Rattle.port.specs.declared.Refusal.{Refusal}
use Rattle.port.specs.Answer.{number, number_of}
use Rattle.port.proofs.Laws.{number-some}
use Rattle.effect.specs.Run.{tick}
use Rattle.effect.proofs.Contract.{refuses, accepts}
use Rattle.effect.proofs.Rows.{tick_row}
use Rattle.delay_line.specs.DelayLine.{delay_line, tick_of}
use Rattle.delay_line.proofs.Laws.{set-row, set-number, no_nan, meets-none, next-is, line-stored, line-played}
use Rattle.delay_line.proofs.DelayLine.tick.Goals as goal

is-err : {A : Type 0} (r : Result A Refusal) → number_of r ≢ 0 → IsErr r
is-err (Ok x) some = absurd (some refl)
is-err (Err cause) some = refl

pub unwrap_err-requires : goal.unwrap_err-requires
unwrap_err-requires c =
    let a = c.args in
    let x = c.delay_samples-samples.ensures.value in
    is-err c.nan_refusal-met.result
    (λ e. clash c.if-is_nan.true (meets-none a.self (length a.mem.now) c.match-time.time c.match-feedback.feedback c.match-mix.mix a.milliseconds x c.is_nan.ensures c.is_nan-2.ensures c.is_nan-3.ensures (sym c.nan_refusal-met.ensures ∙ e)))

pub returns-then-is_nan : goal.returns-then-is_nan
unfolding of_bits round
returns-then-is_nan c =
    let a = c.args in
    let t = tick_of a.audio a.time a.feedback a.mix a.milliseconds in
    let time : c.match-time.time ≡ value_or a.time half = search rules in
    let back : c.match-feedback.feedback ≡ value_or a.feedback plus_zero = search rules in
    let wet : c.match-mix.mix ≡ value_or a.mix half = search rules in
    let cause = c.unwrap_err.result in
    let e = sym (ap number_of c.unwrap_err.ensures) ∙ c.nan_refusal-met.ensures ∙ set-number t a.self.linear_time time back wet (length a.mem.now) a.self refl in
    rw (c.refused.ensures.state, c.refused.ensures.answer) (refuses delay_line (tick t) a.self a.mem.now (number cause) e (number-some cause))

pub returns : goal.returns
unfolding of_bits round
returns c =
    let a = c.args in
    let s = a.self in
    let m = a.mem.now in
    let n = length m in
    let t = tick_of a.audio a.time a.feedback a.mix a.milliseconds in
    let audio : c.match-audio.audio ≡ value_or a.audio plus_zero = search rules in
    let time : c.match-time.time ≡ value_or a.time half = search rules in
    let back : c.match-feedback.feedback ≡ value_or a.feedback plus_zero = search rules in
    let wet : c.match-mix.mix ≡ value_or a.mix half = search rules in
    let none = no_nan s.linear_time c.match-time.time c.match-feedback.feedback c.match-mix.mix a.milliseconds _ c.delay_samples-samples.ensures.from_numbers c.is_nan.ensures c.is_nan-2.ensures c.is_nan-3.ensures c.if-is_nan.false in
    let read = c.delay_samples-samples.ensures.value in
    let passed = c.in-Ok.ensures.number in
    let long = c.in-Ok.ensures.needed in
    let does = c.advance.ensures in
    accepts delay_line (tick t) s m
    (sym (tick_row delay_line t s m passed (sym none ∙ set-row t s.linear_time time back wet)))
    (next-is t s m audio time back wet read long passed does.state)
    (line-stored t s m audio time back wet read long passed does.memory)
    (line-played t s m audio time back wet read long passed does.answer)
