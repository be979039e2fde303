-- What the writes of a tick change of the count: of a table of writes, what the values stored and the values read before have of numbers that are neither +0 nor −0;
-- and of all writes of the lines, what those of each side have. Assumes nothing.
use Rattle.std.proofs.Common.{◌≡◌, ℕ, zero, suc, ◌+◌, ◌≤◌, List, [], ◌∷◌, ◌++◌, get_or, refl, sym, ap, ◌∙◌, arith}
use Rattle.std.specs.List.{sum_by}
use Rattle.std.proofs.lemmas.List.Sums.{sum_by-cons, sum_by-append, sum_by_push}
use lib.Ieee.{Float, nan}
use Rattle.common.specs.Line.{table, nonzero, nonzeros}
use Rattle.common.proofs.Nonzeros.{nonzeros-most}
use Rattle.common.proofs.Tables.{length-table, get_or-table, table-ext}
use Rattle.effect.specs.Effect.{Write, gained, lost}
use Rattle.reverb.specs.Tunings.{Side, left, right}
use Rattle.reverb.specs.Tank.{by_sides}
use Rattle.reverb.proofs.Apart.{table-last}

-- the entries of a table, one by one, are the table
pub table-table : (f : ℕ → Float) (n : ℕ) (z : Float) → table (λ k. get_or (table f n) k z) n ≡ table f n
table-table f n z = table-ext (λ k. get_or (table f n) k z) f n (λ i h. get_or-table f n i z h)

pub gained-table : (f : ℕ → Write) (n : ℕ) → nonzeros (table (λ i. (f i).value) n) ≡ gained (table f n)
unfolding table nonzeros
gained-table f zero = refl
gained-table f (suc n) = ap (λ (k : ℕ). nonzero (f 0).value + k) (gained-table (λ i. f (suc i)) n)

pub lost-table : (f : ℕ → Write) (n : ℕ) (m : List Float) → nonzeros (table (λ i. get_or m (f i).place nan) n) ≡ lost (table f n) m
unfolding table nonzeros
lost-table f zero m = refl
lost-table f (suc n) m = ap (λ (k : ℕ). nonzero (get_or m (f 0).place nan) + k) (lost-table (λ i. f (suc i)) n m)

-- ---- line by line left and right, as a side at a time

gained-by : (ws : List Write) → gained ws ≡ sum_by (λ w. nonzero w.value) ws
gained-by [] = refl
gained-by (w ∷ ws) = omega (arith, gained-by ws, sum_by-cons (λ v. nonzero v.value) w ws)

lost-by : (ws : List Write) (m : List Float) → lost ws m ≡ sum_by (λ w. nonzero (get_or m w.place nan)) ws
lost-by [] m = refl
lost-by (w ∷ ws) m = omega (arith, lost-by ws m, sum_by-cons (λ v. nonzero (get_or m v.place nan)) w ws)

module _ (g : Write → ℕ) where
  sides-sum : (f : ℕ → Side → Write) (n : ℕ) → sum_by g (by_sides f n) ≡ sum_by g (table (λ i. f i left) n) + sum_by g (table (λ i. f i right) n)
  unfolding by_sides table
  sides-sum f zero = omega arith
  sides-sum f (suc n) =
      let l : ℕ → Write = λ i. f i left in
      let r : ℕ → Write = λ i. f i right in
      omega (
        arith,
        sides-sum f n,
        sum_by-append g (by_sides f n) (l n ∷ r n ∷ []),
        ap (sum_by g) (table-last l n) ∙ sum_by_push g (table l n) (l n),
        ap (sum_by g) (table-last r n) ∙ sum_by_push g (table r n) (r n),
      )

  lines-sum : (f h : ℕ → Side → Write) (n k : ℕ) → sum_by g (by_sides f n ++ by_sides h k)
      ≡ sum_by g (table (λ i. f i left) n) + sum_by g (table (λ i. f i right) n) + sum_by g (table (λ i. h i left) k) + sum_by g (table (λ i. h i right) k)
  lines-sum f h n k = omega (arith, sum_by-append g (by_sides f n) (by_sides h k), sides-sum f n, sides-sum h k)

module _ (f h : ℕ → Side → Write) (n k : ℕ) where
  pub lines-gained : gained (by_sides f n ++ by_sides h k)
      ≡ gained (table (λ i. f i left) n) + gained (table (λ i. f i right) n) + gained (table (λ i. h i left) k) + gained (table (λ i. h i right) k)
  lines-gained =
      gained-by (by_sides f n ++ by_sides h k)
      ∙ lines-sum (λ w. nonzero w.value) f h n k
      ∙ (λ j.
      sym (gained-by (table (λ i. f i left) n)) j + sym (gained-by (table (λ i. f i right) n)) j + sym (gained-by (table (λ i. h i left) k)) j
      + sym (gained-by (table (λ i. h i right) k)) j)

  pub lines-lost : (m : List Float) → lost (by_sides f n ++ by_sides h k) m
      ≡ lost (table (λ i. f i left) n) m + lost (table (λ i. f i right) n) m + lost (table (λ i. h i left) k) m + lost (table (λ i. h i right) k) m
  lines-lost m =
      lost-by (by_sides f n ++ by_sides h k) m
      ∙ lines-sum (λ w. nonzero (get_or m w.place nan)) f h n k
      ∙ (λ j.
      sym (lost-by (table (λ i. f i left) n) m) j + sym (lost-by (table (λ i. f i right) n) m) j + sym (lost-by (table (λ i. h i left) k) m) j
      + sym (lost-by (table (λ i. h i right) k) m) j)

-- ---- how much it can be

pub gained-most : (f : ℕ → Write) (n : ℕ) → gained (table f n) ≤ n
gained-most f n = omega (arith, gained-table f n, nonzeros-most (table (λ i. (f i).value) n), length-table (λ i. (f i).value) n)

pub lost-most : (f : ℕ → Write) (n : ℕ) (m : List Float) → lost (table f n) m ≤ n
lost-most f n m =
    omega (arith, lost-table f n m, nonzeros-most (table (λ i. get_or m (f i).place nan) n), length-table (λ i. get_or m (f i).place nan) n)
