-- A port carries a number or is unset. Definitions only. Assumes nothing.
use Rattle.std.specs.Prelude.{Bool, true, false, not, Float}
use Rattle.float64.specs.Number.{is_number}
use Rattle.port.specs.declared.Port.{Port}
use Rattle.port.specs.declared.Port.TheVariants.{Set, Unset}

-- a port from a number and whether it is set
abbrev pub port_if : Bool → Float → Port
port_if true x = Set x
port_if false x = Unset

-- the port's number, or the tick's own default where it is unset: the Rust's `get_or`
abbrev pub value_or : Port → Float → Float
value_or (Set x) default = x
value_or Unset default = default

-- set, and NaN: cause 5 where a tick reads the control
abbrev pub is_nan_set : Port → Bool
is_nan_set (Set x) = not (is_number x)
is_nan_set Unset = false
