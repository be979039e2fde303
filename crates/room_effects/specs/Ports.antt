-- Ports as C hands them over: a number for each, and a mask that says which are set. Definitions only. Assumes nothing.
use Rattle.std.specs.Prelude.{ℕ, ◌/◌, ◌%◌, Bool, eqb, Float}
use Rattle.port.specs.declared.Port.{Port}
use Rattle.port.specs.Port.{port_if}

-- the mask's bit of the weight 1, 2, 4, .. is set
abbrev pub is_set : ℕ → ℕ → Bool
is_set mask weight = eqb (mask / weight % 2) 1

abbrev pub port_at : ℕ → ℕ → Float → Port
port_at mask weight x = port_if (is_set mask weight) x
