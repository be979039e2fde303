-- Freeverb's two filters, as Jezar at Dreampoint published them (2000, public domain), in binary64 and without his flush of denormal places and stores to 0.
-- Each works on its part of the tank, at its position there.
-- Definitions only. Assumes nothing.
use Rattle.std.specs.Prelude.{ℕ, List, slice_index_or, slice_set, Float}
use Rattle.std.specs.Float.{nan, binary64}
use Rattle.std.specs.Float.Ieee.{add, sub, mul, neg}
use Rattle.float64.specs.Number.{float_of, half}
use Rattle.reverb.specs.declared.filters.Combed.{Combed}
use Rattle.reverb.specs.declared.filters.Passed.{Passed}

-- ---- the comb, which answers what its place held

-- the damping store after a step: answer × (1 − damping) + store × damping
unfoldable pub comb_store : Float → Float → Float → Float
comb_store held store damping = add binary64 (mul binary64 held (sub binary64 (float_of 1) damping)) (mul binary64 store damping)

-- what the place gets: input + the new store × feedback
unfoldable pub comb_fed : Float → Float → Float → Float
comb_fed input store feedback = add binary64 input (mul binary64 store feedback)

-- a step on a place that held so much: what it answers, the next store and what the place gets
unfoldable pub combed : Float → Float → Float → Float → Float → Combed
combed held store input damping feedback =
    let next = comb_store held store damping in
    record { output = held; filter_state = next; fed = comb_fed input next feedback }

-- and the places that it leaves, of which the one at p is its own
unfoldable pub comb_line : List Float → ℕ → Float → Float → Float → Float → List Float
comb_line m p store input damping feedback = slice_set m p (comb_fed input (comb_store (slice_index_or m p nan) store damping) feedback)

-- ---- the all-pass

-- −input + what its place held
unfoldable pub pass_output : Float → Float → Float
pass_output input held = add binary64 (neg input) held

-- what the place gets: input + what it held × 0.5
unfoldable pub pass_fed : Float → Float → Float
pass_fed input held = add binary64 input (mul binary64 held half)

-- a step, as of a comb, with what the place held
unfoldable pub passed : Float → Float → Passed
passed held input = record { output = pass_output input held; held = held; fed = pass_fed input held }

unfoldable pub pass_line : List Float → ℕ → Float → List Float
pass_line m p input = slice_set m p (pass_fed input (slice_index_or m p nan))
