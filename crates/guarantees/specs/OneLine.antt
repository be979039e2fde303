-- One line is enough for the chorus (document 02, A.4): a chorus with one line and one with three, lent three times as many places, answer alike and stay alike.
--
-- `chorus` is the definition that the contracts of the chorus's calls cite; `three_lined`, the unit with a line for each voice, and `Corresponds` are in
-- chorus/specs/Three.antt: equal position, phases and rate, three times the count, and each of the three lines equal to the one. Definitions only. Assumes nothing.
use Rattle.std.specs.Prelude.{◌*◌, ◌≡◌, true, List, length, Float}
use Rattle.effect.specs.Run.{CallOf, Device, start_number, start, start_reply, step, reply, after, replies, Run, final}
use Rattle.effect.specs.Demand1.{initial}
use Rattle.effect.specs.Demand3.{Demand3}
use Rattle.effect.specs.Counts.{Counts}
use Rattle.chorus.specs.declared.Chorus.{Chorus}
use Rattle.chorus.specs.Chorus.{Tick, chorus, input, mix, voice, mixed}
use Rattle.chorus.specs.Three.{three_lined, lines, line_alone, Corresponds}

pub record OneLine : Type 0 where
  -- a start, accepted or refused, whatever the memories m and n held; an accepted one leaves units that correspond
  pub starts : (rate : Float) (m n : List Float) → length n ≡ 3 * length m
      → (start_reply three_lined rate n ≡ start_reply chorus rate m) × ((start three_lined rate n).state ≡ (start chorus rate m).state)
  pub started : (rate : Float) (m n : List Float) → length n ≡ 3 * length m → start_number chorus rate (length m) ≡ 0
      → Corresponds (start chorus rate m) (start three_lined rate n)
  -- a tick, a retune, a reset or a question, accepted or refused, of any units that correspond, in a run or handed in
  pub calls : (c : CallOf chorus) (h g : Device Chorus) → Corresponds h g
      → (reply three_lined c g ≡ reply chorus c h) × Corresponds (step chorus c h) (step three_lined c g)
  -- whole runs: every reply, and the units in the end, where n is lent to the three lines
  pub runs : (x : Run chorus) (n : List Float) → length n ≡ 3 * length x.memory
      → (replies three_lined x.calls (start three_lined x.handed n) ≡ replies chorus x.calls (initial chorus x))
      × Corresponds (final chorus x) (after three_lined x.calls (start three_lined x.handed n))
  -- And the unit with three lines is what it is called: of any two of its runs each line is equal to its like exactly where the recent pasts are, its count is that of
  -- its three lines, and voice i hears line i and no other place.
  pub pasts : (x y : Run three_lined) → Demand3 three_lined lines x y
  pub counts : Counts three_lined
  pub apart : (t : Tick) (s : Chorus) (m : List Float) → three_lined.state_fits s ≡ true
      → three_lined.samples t s m
      ≡ mixed (input t) (mix t) (voice 0 t.sine0 t s (line_alone 0 s m)) (voice 0 t.sine1 t s (line_alone 1 s m)) (voice 0 t.sine2 t s (line_alone 2 s m))
