-- A glide stays in range: t + (d − t) * c, each step rounded, of t and d from 1 to a whole number M and a coefficient c from 0 to below 1 lies from 1 to M. The lower end since t − 1 is
-- exact; the upper end since M − t errs by half a unit of M at most, and M, whose last digit is 0, takes a tie. Assumes nothing.
use Rattle.std.proofs.Common.{◌≡◌, ℕ, suc, ◌+◌, ◌-◌, ◌*◌, ◌^◌, ◌<◌, ◌≤◌, Bool, true, false, not, T, leb, sym, ap, ◌∙◌, le_trans, le_of_eq, lt_of_le_of_lt, le_of_lt, mul-le-mul_right, mul_assoc, mul-le-mul_left, mul-lt-mul_of_pos_right, mul-pos, sub-le, arith, leb→le}
use lib.Dec.{nleb→lt}
use lib.Ieee.{Float, binary64, add, sub, mul, le}
use lib.Ieee.Fits.{add-fits}
use Rattle.float64.specs.Number.{float_of, coefficient_fits}
use Rattle.float64.proofs.Units.{one, cap, one-pos, cap-pos, Rep}
use Rattle.float64.proofs.Round.{rounded, rounded-exact, rounded-le, rounded-rep, rounded-units-mono, difference-le, difference-ge, difference-pos, difference-neg, rep-whole, whole-lt}
use Rattle.float64.proofs.Near.{rep-sub, no-overshoot}
use Rattle.float64.proofs.Keys.{At, rekeyed, le_of, le-of-size, size-of-le, add_at, sub_at, mul_at, of_int-at, rep_at}
use Rattle.float64.proofs.Order.{size_of}
use Rattle.float64.proofs.Interval.{In, box, in-finite}
use Rattle.float64.proofs.Ranges.{unit-in}
use Rattle.float64.proofs.Wholes.{count, one_at, one-rep, one-lt, above}

-- a part of E is no more than E
part-le : (E C : ℕ) → Rep binary64 E → E < cap binary64 → C ≤ one binary64 → rounded binary64 (E * C) (one binary64 * one binary64) ≤ E
part-le E C r h k =
    rounded-le binary64 (E * C) (one binary64 * one binary64) E (mul-pos (one-pos binary64) (one-pos binary64)) r h
    (le_trans (le_of_eq (mul_assoc E C (one binary64))) (mul-le-mul_left E (mul-le-mul_right (one binary64) k)))

shift : (c i j : ℕ) → c + i - (c + j) ≡ i - j
shift c i j = omega arith

-- t, d and c by their units: U, D and C
module _ (M U D C : ℕ) (t d c : Float) (hM : suc M ≤ 2 ^ 52) (t-at : At binary64 t (cap binary64 + U)) (d-at : At binary64 d (cap binary64 + D)) (c-at : At binary64 c (cap binary64 + C)) (t-lo : one binary64 ≤ U) (t-hi : U ≤ M * one binary64) (d-lo : one binary64 ≤ D) (d-hi : D ≤ M * one binary64) (c-hi : C ≤ one binary64) where
  wide : M < 2 ^ 53
  wide = omega arith

  end_lt : M * one binary64 < cap binary64
  end_lt = whole-lt binary64 M wide

  end-rep : Rep binary64 (M * one binary64)
  end-rep = rep-whole binary64 M wide

  t-lt : U < cap binary64
  t-lt = lt_of_le_of_lt t-hi end_lt

  d-lt : D < cap binary64
  d-lt = lt_of_le_of_lt d-hi end_lt

  c_lt : C < cap binary64
  c_lt = lt_of_le_of_lt c-hi one-lt

  abbrev Stays : Type 0
  Stays = T (le (float_of 1) (add binary64 t (mul binary64 (sub binary64 d t) c))) × T (le (add binary64 t (mul binary64 (sub binary64 d t) c)) (float_of M))

  -- t ≤ d
  rising : U ≤ D → Stays
  rising h =
      let B = binary64 in
      let o = one B in
      let K = cap B in
      let E = rounded B (D - U) o in
      let E-le : E ≤ M * o = rounded-le B (D - U) o (M * o) (one-pos B) end-rep end_lt (mul-le-mul_right o (le_trans (sub-le D U) d-hi)) in
      let E-lt : E < K = lt_of_le_of_lt E-le end_lt in
      let s' : At B (sub B d t) (K + E) = rekeyed (sub_at d-at t-at (above D d-lt) (above U t-lt)) (difference-pos B (K + D) (K + U) (omega arith) ∙ ap (λ (z : ℕ). K + rounded B z o) (shift K D U)) in
      let m = rounded B (E * C) (o * o) in
      let m-le : m ≤ E = part-le E C (rounded-rep B (D - U) o E-lt) E-lt c-hi in
      let m-lt : m < K = lt_of_le_of_lt m-le E-lt in
      let m' : At B (mul B (sub B d t) c) (K + m) = mul_at false false E C s' c-at E-lt c_lt in
      let r' : At B (add B t (mul B (sub B d t) c)) (K + rounded B (U + m) o) =
      rekeyed (add_at t-at m' (above U t-lt) (above m m-lt)) (difference-pos B (K + U + (K + m)) (K + K) (omega arith) ∙ ap (λ (z : ℕ). K + rounded B z o) (apart K U m)) in
      let top : E ≤ rounded B (M * o - U) o = rounded-units-mono B (D - U) (M * o - U) (omega arith) in
      let high : rounded B (U + m) o ≤ M * o = le_trans (rounded-units-mono B (U + m) (U + rounded B (M * o - U) o) (omega arith)) (no-overshoot B M hM U t-hi) in
      let low : o ≤ rounded B (U + m) o = le_trans (le_of_eq (sym (rounded-exact B o one-rep one-lt))) (rounded-units-mono B o (U + m) (omega arith)) in
      (le-of-size one_at r' low, le-of-size r' (of_int-at B M wide) high)
    where
      apart : (k t m : ℕ) → k + t + (k + m) - (k + k) ≡ t + m
      apart k t m = omega arith

  -- d ≤ t
  falling : D ≤ U → Stays
  falling h =
      let B = binary64 in
      let o = one B in
      let K = cap B in
      let E = rounded B (U - D) o in
      let L-rep : Rep B (U - 1 * o) = rep-sub B U 1 (rep_at t-at t-lt) (lt_of_le_of_lt t-hi (mul-lt-mul_of_pos_right wide (one-pos B))) in
      let L-lt : U - 1 * o < K = lt_of_le_of_lt (sub-le U (1 * o)) t-lt in
      let E-le : E ≤ U - 1 * o = rounded-le B (U - D) o (U - 1 * o) (one-pos B) L-rep L-lt (mul-le-mul_right o (omega arith)) in
      let E-lt : E < K = lt_of_le_of_lt E-le L-lt in
      let s' : At B (sub B d t) (K - E) = rekeyed (sub_at d-at t-at (above D d-lt) (above U t-lt)) (difference-neg B (K + D) (K + U) (omega arith) ∙ ap (λ (z : ℕ). K - rounded B z o) (shift K U D)) in
      let m = rounded B (E * C) (o * o) in
      let m-le : m ≤ E = part-le E C (rounded-rep B (U - D) o E-lt) E-lt c-hi in
      let m-lt : m < K = lt_of_le_of_lt m-le E-lt in
      let m' : At B (mul B (sub B d t) c) (K - m) = mul_at true false E C s' c-at E-lt c_lt in
      let r' = add_at t-at m' (above U t-lt) (omega arith, omega (arith, cap-pos B)) in (
        le_of one_at r' (difference-ge B (K + U + (K - m)) (K + K) o one-rep one-lt (omega arith)),
        le_of r' (of_int-at B M wide) (difference-le B (K + U + (K - m)) (K + K) (M * o) end-rep end_lt (omega arith)),
      )

  stays : Stays
  stays = go (leb U D) (leb→le U D) (nleb→lt U D)
    where
      go : (b : Bool) → (T b → U ≤ D) → (T (not b) → D < U) → Stays
      go true p q = rising (p tt)
      go false p q = falling (le_of_lt (q tt))

pub glide-in : (M : ℕ) {t d : Float} (c : Float) → M ≤ 2 ^ 24 → In binary64 (float_of 1) (float_of M) t → In binary64 (float_of 1) (float_of M) d → coefficient_fits c ≡ true
    → In binary64 (float_of 1) (float_of M) (add binary64 t (mul binary64 (sub binary64 d t) c))
glide-in M {t} {d} c h i j k =
    let t' = count M (omega arith) i in
    let d' = count M (omega arith) j in
    let u = unit-in k in
    let c' = size_of binary64 c u.fit (in-finite u) u.lower in
    let s = stays M t'.n d'.n c'.0 t d c (omega arith) t'.place d'.place c'.2 t'.low t'.high d'.low d'.high (size-of-le c'.2 one_at u.upper) in
    box i.ends-ok (add-fits binary64 t (mul binary64 (sub binary64 d t) c)) s.0 s.1
