-- Ports and refusals by their cases. Assumes nothing.
use mathlib.Core.Path.{◌≡◌, refl, ap, ◌∙◌}
use mathlib.Core.Bool.{Bool, true, not}
use mathlib.Core.Logic.{◌≢◌}
use native.Mathlib.Omega.{arith}
use lib.Ieee.{Float}
use Rattle.float64.specs.Number.{is_number}
use Rattle.port.specs.declared.Port.{Port}
use Rattle.port.specs.declared.Port.TheVariants.{Set, Unset}
use Rattle.port.specs.Port.{value_or, is_nan_set}
use Rattle.port.specs.declared.Refusal.{Refusal}
use Rattle.port.specs.declared.Refusal.TheVariants.{SampleRate, GlideCoefficient, Memory, State, Control, Curve, Turn}
use Rattle.port.specs.Answer.{number}

-- a NaN test of a port's value, where the default is a number, is the test that the port is set and NaN
nan-value : (p : Port) (d : Float) → is_number d ≡ true → not (is_number (value_or p d)) ≡ is_nan_set p
nan-value (Set x) d h = refl
nan-value Unset d h = ap not h

pub nan_is : (p : Port) (d : Float) {x : Float} {b : Bool} → is_number d ≡ true → x ≡ value_or p d → b ≡ not (is_number x) → b ≡ is_nan_set p
nan_is p d h e k = k ∙ ap (λ (y : Float). not (is_number y)) e ∙ nan-value p d h

-- every cause has a number
pub number-some : (r : Refusal) → number r ≢ 0
number-some SampleRate = omega arith
number-some GlideCoefficient = omega arith
number-some Memory = omega arith
number-some State = omega arith
number-some Control = omega arith
number-some Curve = omega arith
number-some Turn = omega arith
