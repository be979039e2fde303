-- Products of values of either sign by a gain from 0 on, rounded, where the ends need be no literals. x from lo to hi, 0 among them, times k from 0 to g lies from lo × g to hi × g;
-- so x from −c to c times k lies from −p to p, p being c × g. And 5 times a value from −1 to 1 lies from −5 to 5. Assumes nothing.
use Rattle.std.proofs.Common.{◌≡◌, ℕ, ◌*◌, Bool, true, false, not, T, ◌&&◌, refl, sym, ap, ◌∙◌, subst}
use Rattle.std.proofs.lemmas.Float as floats
use Rattle.std.proofs.num.Values.{neg-round}
use lib.Ieee.{Float, nan, inf, fin, binary64, up, down, unlike, round, mul, neg, eq, fits, le, of_int}
use lib.Ieee.Fits.{and_i, neg-fits, mul-fits}
use lib.Ieee.Scale.{finite}
use Rattle.float64.specs.Number.{plus_zero, float_of, is_zero, in_range, in_signed_unit}
use Rattle.float64.proofs.Order.{finite-num, mul_mono, mul-mono-left}
use Rattle.float64.proofs.Same.{mul-turned}
use Rattle.float64.proofs.Zeros.{Zero, times-zero}
use Rattle.float64.proofs.Interval.{In, ends, lo-fits, hi-fits, lo-finite, hi-finite, box, scale_in}
use Rattle.float64.proofs.Ranges.{yes, range-in, in-range}

-- ---- ends on both sides of 0

-- zeros of either sign are at or below each other
zeros-le : (x y : Float) → Zero x → Zero y → T (le x y)
zeros-le x y h k = floats.le_trans x plus_zero y (floats.le_of_eq x plus_zero (yes h)) (floats.le_of_eq plus_zero y (floats.eq_flip y plus_zero (yes k)))

module _ {lo hi g x k : Float} (a : T (le lo plus_zero)) (b : T (le plus_zero hi)) (i : In binary64 lo hi x) (j : In binary64 plus_zero g k) where
  g-fits : T (fits binary64 g)
  g-fits = hi-fits binary64 plus_zero g j.ends-ok

  g-finite : T (finite g)
  g-finite = hi-finite binary64 plus_zero g j.ends-ok

  g-low : T (le plus_zero g)
  g-low = floats.le_trans plus_zero k g j.lower j.upper

  -- lo × g is at or below 0 × g, which is a zero, as lo × 0 is
  least : T (le (mul binary64 lo g) (mul binary64 lo plus_zero))
  unfolding fits eq
  least =
      let B = binary64 in
      let n = lo-finite B lo hi i.ends-ok in
      floats.le_trans (mul B lo g) (mul B plus_zero g) (mul B lo plus_zero)
      (mul-mono-left B lo plus_zero g (lo-fits B lo hi i.ends-ok) tt g-fits n tt g-finite g-low a)
      (zeros-le (mul B plus_zero g) (mul B lo plus_zero) (ap is_zero (mul-turned B plus_zero g) ∙ times-zero g plus_zero g-finite refl) (times-zero lo plus_zero n refl))

  most : T (le (mul binary64 hi plus_zero) (mul binary64 hi g))
  unfolding fits le
  most =
      let B = binary64 in
      let f = hi-fits B lo hi i.ends-ok in
      let n = hi-finite B lo hi i.ends-ok in
      mul_mono B hi hi plus_zero g f f tt g-fits n n tt g-finite b tt (floats.le_refl hi (finite-num hi n)) g-low

  pub gain-in : T (ends binary64 (mul binary64 lo g) (mul binary64 hi g)) → In binary64 (mul binary64 lo g) (mul binary64 hi g) (mul binary64 x k)
  unfolding le
  gain-in t =
      let B = binary64 in
      let l = mul B lo g in
      let h = mul B hi g in
      let ln = floats.le_refl l (finite-num l (lo-finite B l h t)) in
      let hn = floats.le_refl h (finite-num h (hi-finite B l h t)) in
      scale_in l h tt
      (and_i (ends B l h && le l (mul B lo plus_zero)) (le (mul B hi plus_zero) h) (and_i (ends B l h) (le l (mul B lo plus_zero)) t least) most)
      (and_i (ends B l h && le l l) (le h h) (and_i (ends B l h) (le l l) t ln) hn)
      i j

-- ---- ends that are alike but for the sign

neg-neg : (x : Float) → neg (neg x) ≡ x
unfolding neg
neg-neg nan = refl
neg-neg (inf true) = refl
neg-neg (inf false) = refl
neg-neg (fin true m e) = refl
neg-neg (fin false m e) = refl

round-neg : (s : Bool) (a c : ℕ) → round binary64 (not s) a c ≡ neg (round binary64 s a c)
round-neg false a c = sym (neg-round binary64 a c)
round-neg true a c = sym (ap neg (sym (neg-round binary64 a c)) ∙ neg-neg (round binary64 false a c))

round-neg-times : (s t : Bool) (a c : ℕ) → round binary64 (unlike (not s) t) a c ≡ neg (round binary64 (unlike s t) a c)
round-neg-times false false a c = round-neg false a c
round-neg-times false true a c = round-neg true a c
round-neg-times true false a c = round-neg true a c
round-neg-times true true a c = round-neg false a c

-- a product changes its sign with its factor
neg-times : (x y : Float) → T (finite x) → T (finite y) → mul binary64 (neg x) y ≡ neg (mul binary64 x y)
unfolding mul neg
neg-times nan y h k = absurd h
neg-times (inf s) y h k = absurd h
neg-times (fin s m e) nan h k = absurd k
neg-times (fin s m e) (inf t) h k = absurd k
neg-times (fin s m e) (fin t n d) h k = round-neg-times s t (m * up e * (n * up d)) (down e * down d)

neg-finite : (x : Float) → T (finite x) → T (finite (neg x))
unfolding neg
neg-finite nan h = absurd h
neg-finite (inf s) h = absurd h
neg-finite (fin s m e) h = tt

neg-ends : (p : Float) → T (fits binary64 p) → T (finite p) → T (ends binary64 (neg p) p)
neg-ends p f h =
    let B = binary64 in
    let both = and_i (fits B (neg p)) (fits B p) (neg-fits B p f) f in
    and_i (fits B (neg p) && fits B p && finite (neg p)) (finite p) (and_i (fits B (neg p) && fits B p) (finite (neg p)) both (neg-finite p h)) h

-- c × g is p
pub gain-both-ways : (c g : Float) {p x k : Float} → mul binary64 c g ≡ p → T (finite p) → T (le (neg c) plus_zero) → T (le plus_zero c)
    → In binary64 (neg c) c x → In binary64 plus_zero g k → In binary64 (neg p) p (mul binary64 x k)
gain-both-ways c g {p} {x} {k} e h a b i j =
    let B = binary64 in
    let l : mul B (neg c) g ≡ neg p = neg-times c g (hi-finite B (neg c) c i.ends-ok) (hi-finite B plus_zero g j.ends-ok) ∙ ap neg e in
    let t = neg-ends p (subst (λ (y : Float). T (fits B y)) e (mul-fits B c g)) h in
    let r : In B (mul B (neg c) g) (mul B c g) (mul B x k) = gain-in a b i j (rw (l, e) t) in
    subst (λ (y : Float). In B y p (mul B x k)) l (subst (λ (y : Float). In B (mul B (neg c) g) y (mul B x k)) e r)

-- ---- 5 times a value from −1 to 1
pub five-times : (v : Float) → in_signed_unit v ≡ true → in_range (mul binary64 v (float_of 5)) (neg (float_of 5)) (float_of 5) ≡ true
unfolding fits le mul neg of_int
five-times v h = in-range (gain-both-ways (float_of 1) (float_of 5) refl tt tt tt (range-in tt h) (box tt tt tt tt))
