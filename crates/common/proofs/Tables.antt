-- Tables, f 0, f 1 and so on: their entries, and a list that becomes one from the front, a store at a time. Assumes nothing.
use mathlib.Core.Path.{◌≡◌, refl, ap, ◌∙◌}
use Prim.Native.Nat.{ℕ, zero, suc, ◌+◌, ◌<◌}
use native.Mathlib.Nat.{le_of_suc-le-suc, not-suc-le-zero}
use native.Mathlib.Numerals.{add-one}
use native.Mathlib.Omega.{arith}
use mathlib.Core.List.{List, [], ◌∷◌, ◌++◌, map}
use lib.ListN.{length, get_or, set, drop}
use Rattle.common.specs.Line.{table}

module _ {A : Type 0} where
  pub length-table : (f : ℕ → A) (n : ℕ) → length (table f n) ≡ n
  unfolding table
  length-table f zero = refl
  length-table f (suc n) = ap suc (length-table (λ i. f (suc i)) n)

  pub get_or-table : (f : ℕ → A) (n i : ℕ) (z : A) → i < n → get_or (table f n) i z ≡ f i
  unfolding table
  get_or-table f zero i z h = absurd (not-suc-le-zero h)
  get_or-table f (suc n) zero z h = refl
  get_or-table f (suc n) (suc i) z h = get_or-table (λ j. f (suc j)) n i z (le_of_suc-le-suc h)

  -- two tables are equal where their entries are
  pub table-ext : (f g : ℕ → A) (n : ℕ) → ((i : ℕ) → i < n → f i ≡ g i) → table f n ≡ table g n
  unfolding table
  table-ext f g zero h = refl
  table-ext f g (suc n) h = λ i. h zero (omega arith) i ∷ table-ext (λ j. f (suc j)) (λ j. g (suc j)) n (λ j k. h (suc j) (omega arith)) i

  -- ---- the list d, of which the first n entries are those of the table

  abbrev pub tabled : (ℕ → A) → ℕ → List A → List A
  tabled f n d = table f n ++ drop n d

  pub tabled-none : (f : ℕ → A) (d : List A) → d ≡ tabled f 0 d
  unfolding table
  tabled-none f d = refl

  tabled-suc : (f : ℕ → A) (n : ℕ) (d : List A) → n < length d → set (tabled f n d) n (f n) ≡ tabled f (suc n) d
  unfolding table
  tabled-suc f n [] h = absurd (not-suc-le-zero h)
  tabled-suc f zero (x ∷ d) h = refl
  tabled-suc f (suc n) (x ∷ d) h = ap (λ (t : List A). f zero ∷ t) (tabled-suc (λ j. f (suc j)) n d (le_of_suc-le-suc h))

  -- a store of its next entry
  pub tabled-more : (f : ℕ → A) (n : ℕ) (d : List A) {v : A} {l : List A} → n < length d → l ≡ tabled f n d → v ≡ f n → set l n v ≡ tabled f (n + 1) d
  tabled-more f n d h e g = (λ i. set (e i) n (g i)) ∙ rw (add-one n) (tabled-suc f n d h)

  -- its next entry is still the list's
  pub tabled-next : (f : ℕ → A) (n : ℕ) (d : List A) (z : A) → n < length d → get_or (tabled f n d) n z ≡ get_or d n z
  unfolding table
  tabled-next f n [] z h = absurd (not-suc-le-zero h)
  tabled-next f zero (x ∷ d) z h = refl
  tabled-next f (suc n) (x ∷ d) z h = tabled-next (λ j. f (suc j)) n d z (le_of_suc-le-suc h)

  -- at the end it is the table
  pub tabled-all : (f : ℕ → A) (n : ℕ) (d : List A) → length d ≡ n → tabled f n d ≡ table f n
  unfolding table
  tabled-all f zero [] h = refl
  tabled-all f zero (x ∷ d) h = absurd (omega arith)
  tabled-all f (suc n) [] h = absurd (omega arith)
  tabled-all f (suc n) (x ∷ d) h = ap (λ (t : List A). f zero ∷ t) (tabled-all (λ j. f (suc j)) n d (omega arith))

-- what a function makes of each entry of a list
pub table-map : {A B : Type 0} (f : A → B) (l : List A) (z : A) → table (λ i. f (get_or l i z)) (length l) ≡ map f l
unfolding table
table-map f [] z = refl
table-map f (x ∷ l) z = ap (λ (t : List _). f x ∷ t) (table-map f l z)
