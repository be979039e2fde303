-- A float less itself is equal to 0 where it is finite, and so passes the input rule, and no other is. Assumes nothing.
use mathlib.Core.Path.{◌≡◌, refl, ap}
use mathlib.Core.Bool.{true, false}
use lib.Ieee.{Float, nan, inf, fin, binary64, sub, eq}
use Rattle.float64.specs.Number.{plus_zero}
use Rattle.float64.proofs.Tests.{clash}
use Rattle.float64.proofs.Same.{less-itself}
use Rattle.common.specs.Signal.{sanitized}

pub itself : (x : Float) → eq (sub binary64 x x) plus_zero ≡ true → x ≡ sanitized x
unfolding sub eq
itself nan h = clash h refl
itself (inf true) h = clash h refl
itself (inf false) h = clash h refl
itself (fin s m e) h = refl

pub not_itself : (x : Float) → eq (sub binary64 x x) plus_zero ≡ false → plus_zero ≡ sanitized x
unfolding eq
not_itself nan h = refl
not_itself (inf s) h = refl
not_itself (fin s m e) h = clash (ap (λ (y : Float). eq y plus_zero) (less-itself binary64 (fin s m e) tt)) h
