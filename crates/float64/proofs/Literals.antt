-- A literal stands in a goal by its bits, and a page has it as a whole number or a fraction: an attribute opens these names, and the two meet. Assumes nothing.
unfoldable pub use lib.Ieee.{of_bits, of_int, neg, div, round}
