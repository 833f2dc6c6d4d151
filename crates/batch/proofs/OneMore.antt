-- The totals of a list of records with one record more, anywhere in it.
-- Assumes nothing.
use Prim.Native.Nat.{ℕ, ◌+◌}
use mathlib.Core.Path.{◌≡◌, refl}
use mathlib.Core.Bool.{Bool, true, false, cond}
use mathlib.Core.List.{List, [], ◌∷◌, ◌++◌, map}
use native.Mathlib.Omega.{arith}
use lib.ListN.{length}
use Rattle.text.specs.Lists.{sum}
use Rattle.layout.specs.Layout.{field_of}
use Rattle.fields.specs.declared.others.StatusReading.{StatusReading}
use Rattle.fields.specs.declared.others.StatusReading.TheVariants as Status
use Rattle.fields.specs.Others.{read_status}
use Rattle.posting.specs.File.{totals, amount_of, brought_as, brought, plus_totals, with_record}
use Rattle.posting.specs.Sums.{kept, is_live, is_cancelled, live, cancelled, cash_in, price_in, totals_of}

module _ (p : List ℕ → Bool) (rec : List ℕ) (ys : List (List ℕ)) where
  count_more : (xs : List (List ℕ)) → length (kept p (xs ++ rec ∷ ys)) ≡ length (kept p (xs ++ ys)) + cond (p rec) 1 0
  unfolding kept
  count_more [] = go (p rec) (kept p ys)
    where
      go : (t : Bool) (l : List (List ℕ)) → length (cond t (rec ∷ l) l) ≡ length l + cond t 1 0
      go true l = omega arith
      go false l = omega arith
  count_more (x ∷ xs) = go (p x) (kept p (xs ++ rec ∷ ys)) (kept p (xs ++ ys)) (count_more xs)
    where
      go : (t : Bool) (l k : List (List ℕ)) → length l ≡ length k + cond (p rec) 1 0 → length (cond t (x ∷ l) l) ≡ length (cond t (x ∷ k) k) + cond (p rec) 1 0
      go true l k e = omega arith
      go false l k e = e

  sum_more : (f : List ℕ → ℕ) (xs : List (List ℕ)) → sum (map f (kept p (xs ++ rec ∷ ys))) ≡ sum (map f (kept p (xs ++ ys))) + cond (p rec) (f rec) 0
  unfolding kept
  sum_more f [] = go (p rec) (kept p ys)
    where
      go : (t : Bool) (l : List (List ℕ)) → sum (map f (cond t (rec ∷ l) l)) ≡ sum (map f l) + cond t (f rec) 0
      go true l = omega arith
      go false l = omega arith
  sum_more f (x ∷ xs) = go (p x) (kept p (xs ++ rec ∷ ys)) (kept p (xs ++ ys)) (sum_more f xs)
    where
      go : (t : Bool) (l k : List (List ℕ)) → sum (map f l) ≡ sum (map f k) + cond (p rec) (f rec) 0 → sum (map f (cond t (x ∷ l) l)) ≡ sum (map f (cond t (x ∷ k) k)) + cond (p rec) (f rec) 0
      go true l k e = omega arith
      go false l k e = e

-- a cancelled record is only counted, a live one brings its amounts
pub totals_more : (xs : List (List ℕ)) (rec : List ℕ) (ys : List (List ℕ)) → totals_of (xs ++ rec ∷ ys) ≡ with_record (totals_of (xs ++ ys)) rec
unfolding brought
totals_more xs rec ys =
    rw (count_more reads_live rec ys xs, count_more reads_cancelled rec ys xs, sum_more reads_live rec ys cash_in xs, sum_more reads_live rec ys price_in xs)
    (go (length (live (xs ++ ys))) (length (cancelled (xs ++ ys))) (sum (map cash_in (live (xs ++ ys)))) (sum (map price_in (live (xs ++ ys)))) (read_status (field_of rec 19)))
  where
    reads_live : List ℕ → Bool
    reads_live r = is_live (read_status (field_of r 19))

    reads_cancelled : List ℕ → Bool
    reads_cancelled r = is_cancelled (read_status (field_of r 19))

    go : (l c d p : ℕ) (s : StatusReading)
        → totals (l + cond (is_live s) 1 0) (c + cond (is_cancelled s) 1 0) (d + cond (is_live s) (cash_in rec) 0) (p + cond (is_live s) (price_in rec) 0)
        ≡ plus_totals (totals l c d p) (brought_as s (amount_of rec 16) (amount_of rec 17))
    go l c d p Status.Live = refl
    go l c d p Status.Cancelled = refl
    go l c d p Status.Malformed = refl
