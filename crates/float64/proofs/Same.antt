-- Two values that fit and have one key, above 0's, are the same as data (`same_key`). And a finite value less itself is +0; a product is the same turned round. Assumes nothing.
use Rattle.std.proofs.Common.{◌≡◌, ℕ, ◌+◌, ◌*◌, ◌^◌, ◌<◌, Bool, true, false, cond, not, T, refl, ap, ◌∙◌, inl, inr, mul-pos, mul_comm, ne_of_gt, arith, eqb}
use lib.Ieee.{Float, nan, inf, fin, Format, low, up, down, unlike, round, sum, add, sub, mul, neg, is_nan}
use lib.Ieee.Exact.{HasValue}
use Rattle.std.proofs.num.Values.{same_value, sum_level, round-zero}
use lib.Ieee.Fits.{down_pos}
use lib.Ieee.Scale.{finite}
use Rattle.float64.specs.Number.{plus_zero}
use Rattle.float64.proofs.Units.{one, mag-cross, cap, sign, mag, signed, key, mag-lt}
use Rattle.float64.proofs.Keys.{At, same_size, same_sign}

-- ---- a value with n units above 0
value_of : (f : Format) (x : Float) (n : ℕ) → At f x (cap f + n) → 0 < n → n < cap f → HasValue x false n (2 ^ low f)
unfolding is_nan key sign mag one
value_of f nan n a p q = absurd a.num
value_of f (inf s) n a p q = absurd (far s a.is)
  where
    far : (s : Bool) → signed (cap f) s (cap f) ≡ cap f + n → ⊥
    far false e = omega arith
    far true e = omega arith
value_of f (fin s m e) n a p q =
    let l = mag-lt f (fin s m e) a.fit tt in (
      elim (same_sign (cap f) (mag f (fin s m e)) n s false l q a.is) [ inl h ↦ h | inr h ↦ absurd (ne_of_gt p h) ],
      mag-cross f s m e a.fit ∙ ap (λ (k : ℕ). k * down e) (same_size (cap f) (mag f (fin s m e)) n s false l q a.is),
    )

pub same_key : {f : Format} {x y : Float} {n : ℕ} → At f x (cap f + n) → At f y (cap f + n) → 0 < n → n < cap f → x ≡ y
same_key {f} {x} {y} {n} a b p q = same_value f x y false n a.fit b.fit (value_of f x n a p q) (value_of f y n b p q)

-- ---- x - x
cancelled : (f : Format) (s : Bool) (a c : ℕ) → 0 < c → sum f s a (not s) a c ≡ plus_zero
cancelled f false a c h = sum_level f false true a a c refl refl ∙ round-zero f false c h
cancelled f true a c h = sum_level f true false a a c refl refl ∙ round-zero f false c h

pub less-itself : (f : Format) (x : Float) → T (finite x) → sub f x x ≡ plus_zero
unfolding sub add neg
less-itself f nan h = absurd h
less-itself f (inf s) h = absurd h
less-itself f (fin s m e) h = cancelled f s (m * up e * down e) (down e * down e) (mul-pos (down_pos e) (down_pos e))

-- ---- a product, turned round

unlike-turned : (s t : Bool) → unlike s t ≡ unlike t s
unlike-turned true true = refl
unlike-turned true false = refl
unlike-turned false true = refl
unlike-turned false false = refl

pub mul-turned : (f : Format) (x y : Float) → mul f x y ≡ mul f y x
unfolding mul
mul-turned f nan nan = refl
mul-turned f nan (inf t) = refl
mul-turned f nan (fin t n d) = refl
mul-turned f (inf s) nan = refl
mul-turned f (inf s) (inf t) = ap inf (unlike-turned s t)
mul-turned f (inf s) (fin t n d) = ap (λ (b : Bool). cond (eqb n 0) nan (inf b)) (unlike-turned s t)
mul-turned f (fin s m e) nan = refl
mul-turned f (fin s m e) (inf t) = ap (λ (b : Bool). cond (eqb m 0) nan (inf b)) (unlike-turned s t)
mul-turned f (fin s m e) (fin t n d) =
    λ i. round f (unlike-turned s t i) (mul_comm (m * up e) (n * up d) i) (mul_comm (down e) (down d) i)
