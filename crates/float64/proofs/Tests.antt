-- The tests for a NaN, an infinity and +0, and conjunctions of tests. Assumes nothing.
use Rattle.std.proofs.Common.{◌≡◌, Bool, true, false, ◌&&◌, T, sym, refl, ap, ◌∙◌, subst, eqb, ne_eqb, eqb-true}
use mathlib.Core.Bool.{not-not}
use lib.Ieee as Ieee
use lib.Ieee.{Float, fin, inf, nan, binary64}
use lib.Ieee.Scale.{finite}
use lib.Ieee.Bits.{of_bits-to_bits}
use Rattle.std.proofs.num.Patterns.{differs}
use Rattle.float64.specs.Number.{plus_zero, is_zero, is_plus_zero}
-- both tests of a conjunction that passes pass
pub use Rattle.std.proofs.lemmas.Bool.{and_parts as both}

pub clash : {A : Type 0} {b : Bool} → b ≡ true → b ≡ false → A
clash p q = absurd (subst T (sym p ∙ q) tt)

pub both-true : {a b : Bool} → a ≡ true → b ≡ true → a && b ≡ true
both-true e f = rw (e, f)

-- ---- what `float64::is_nan` cites: a NaN, and nothing else, differs from itself
pub ruleset nan_cases = (differs, not-not)

-- ---- what `float64::is_finite` cites: below +infinity, what lies above -infinity is finite; nothing else is below it but -infinity
pub below-infinity : (x : Float) → Ieee.lt x (inf false) ≡ true → Ieee.lt (inf true) x ≡ finite x
unfolding Ieee.lt
below-infinity nan h = clash h refl
below-infinity (inf true) h = refl
below-infinity (inf false) h = clash h refl
below-infinity (fin s m e) h = refl

pub not-below-infinity : (x : Float) → Ieee.lt x (inf false) ≡ false → false ≡ finite x
unfolding Ieee.lt
not-below-infinity nan h = refl
not-below-infinity (inf s) h = refl
not-below-infinity (fin s m e) h = clash refl h

pub ruleset finite_cases = (below-infinity, not-below-infinity)

-- ---- what `float64::is_plus_zero` cites: an f64 whose bits are all 0 is +0, so that what equals no zero has other bits
no_bits : (x : Float) → T (Ieee.fits binary64 x) → Ieee.to_bits binary64 x ≡ 0 → x ≡ plus_zero
unfolding Ieee.of_bits
no_bits x h e = sym (of_bits-to_bits binary64 x h) ∙ ap (Ieee.of_bits binary64) e

pub other_bits : (x : Float) → T (Ieee.fits binary64 x) → Ieee.eq x plus_zero ≡ false → eqb (Ieee.to_bits binary64 x) 0 ≡ false
unfolding Ieee.eq
other_bits x h e = ne_eqb (Ieee.to_bits binary64 x) 0 (λ k. clash (ap (λ (y : Float). Ieee.eq y plus_zero) (no_bits x h k)) e)

-- so what passes the test for +0 is a zero
pub plus-zero-zero : (x : Float) → is_plus_zero x ≡ true → is_zero x ≡ true
unfolding is_plus_zero Ieee.eq
plus-zero-zero x h =
    let p = both (Ieee.fits binary64 x) (eqb (Ieee.to_bits binary64 x) 0) h in
    ap is_zero (no_bits x (subst T (sym p.0) tt) (eqb-true (Ieee.to_bits binary64 x) 0 p.1))
