-- A file as a list: its lines joined give it, each line is a record of 399 bytes and two bytes, and the totals are counts and sums over its records.
-- Assumes nothing.
use Prim.Native.Nat.{ℕ, zero, suc, ◌+◌, ◌*◌, ◌≤◌, ◌<◌}
use mathlib.Core.Path.{◌≡◌, refl, sym, ◌∙◌}
use mathlib.Core.Bool.{Bool, true, false, cond}
use mathlib.Core.List.{List, [], ◌∷◌, ◌++◌, map, append-nil, append_assoc}
use native.Mathlib.Nat.{add-zero}
use native.Mathlib.Numerals.{add-one}
use native.Mathlib.Omega.{arith}
use borrow.Author.Tests.{eqb-true, eqb-false}
use lib.Dec.{eqb}
use lib.ListN.{length, get_or, take, drop, length-append, length-drop, get_or-append}
use lib.Seq.{take-add, take_all, take-take, drop-drop, drop-cons, get_or_at, length-take-le}
use Rattle.text.specs.Lists.{sum, joined}
use Rattle.layout.specs.Layout.{field_of}
use Rattle.fields.specs.declared.others.StatusReading.{StatusReading}
use Rattle.fields.specs.declared.others.StatusReading.TheVariants as Status
use Rattle.fields.specs.Others.{read_status}
use Rattle.posting.specs.declared.Totals.{Totals}
use Rattle.posting.specs.File.{up_to, records, record_at, id_at, totals, amount_of, brought_as, brought, plus_totals, with_record, totals_over}
use Rattle.posting.specs.Records.{line_at, lines, Tiled}
use Rattle.posting.specs.Sums.{kept, is_live, is_cancelled, live, cancelled, cash_in, price_in, totals_of}

-- ---- the first n of a row
pub length_up_to : {A : Type 0} (f : ℕ → A) (n : ℕ) → length (up_to f n) ≡ n
unfolding up_to
length_up_to f zero = refl
length_up_to f (suc n) = rw (length-append, length_up_to f n) (omega arith)

pub up_to_nth : {A : Type 0} (f : ℕ → A) (n i : ℕ) (d : A) → i < n → get_or (up_to f n) i d ≡ f i
unfolding up_to
up_to_nth f zero i d h = absurd (omega arith)
up_to_nth f (suc n) i d h = go (eqb i n) refl (up_to_nth f n i d)
  where
    go : (t : Bool) → eqb i n ≡ t → (i < n → get_or (up_to f n) i d ≡ f i) → get_or (up_to f n ++ f n ∷ []) i d ≡ f i
    go true e ih = rw (eqb-true i n e) (get_or_at (up_to f n) (f n) [] d n (length_up_to f n))
    go false e ih =
        let ne = eqb-false i n e in
        get_or-append (up_to f n) (f n ∷ []) d i (rw (length_up_to f n) (omega arith)) ∙ ih (omega arith)

-- ---- lines of 401 bytes
joined_last : (ls : List (List ℕ)) (l : List ℕ) → joined (ls ++ l ∷ []) ≡ joined ls ++ l
joined_last [] l = append-nil l
joined_last (x ∷ ls) l = rw (joined_last ls l, append_assoc)

joined_lines : (file : List ℕ) (n : ℕ) → joined (lines file n) ≡ take (n * 401) file
unfolding up_to
joined_lines file zero = refl
joined_lines file (suc n) =
    let e : suc n * 401 ≡ n * 401 + 401 = omega arith in
    rw (joined_last (lines file n) (line_at file n), joined_lines file n, e, take-add)

two : (l : List ℕ) (k : ℕ) → k + 1 < length l → take 2 (drop k l) ≡ get_or l k 0 ∷ get_or l (k + 1) 0 ∷ []
two l k h = rw (drop-cons l k 0 (omega arith), drop-cons l (suc k) 0 (omega arith), add-one)

module _ (file : List ℕ) (i : ℕ) (h : i * 401 + 401 ≤ length file) where
  pub record_wide : length (record_at file i) ≡ 399
  record_wide = length-take-le 399 (drop (i * 401) file) (rw length-drop (omega arith))

  pub line_is : line_at file i ≡ record_at file i ++ get_or file (i * 401 + 399) 0 ∷ get_or file (i * 401 + 400) 0 ∷ []
  line_is =
      let e : i * 401 + 399 + 1 ≡ i * 401 + 400 = omega arith in
      let last : take 2 (drop (i * 401 + 399) file) ≡ get_or file (i * 401 + 399) 0 ∷ get_or file (i * 401 + 400) 0 ∷ [] = rw e at (two file (i * 401 + 399) (omega arith)) in
      take-add 399 2 (drop (i * 401) file) ∙ rw (drop-drop, last)

  -- the identifier of record i is its field 1
  pub id_is : id_at file i ≡ field_of (record_at file i) 1
  unfolding field_of
  id_is = rw (record_wide, take-take 13 399 (drop (i * 401) file) (omega arith))

pub records_tile : (file : List ℕ) (n : ℕ) → length file ≡ n * 401 → Tiled file n
records_tile file n e = record {
  together = joined_lines file n ∙ take_all (n * 401) file (omega arith);
  many = length_up_to (line_at file) n;
  nth = λ i h. up_to_nth (line_at file) n i [] h;
  split = λ i h. line_is file i (omega arith);
  wide = λ i h. record_wide file i (omega arith);
}

-- ---- totals
pub kept_last : {A : Type 0} (p : A → Bool) (xs : List A) (x : A) → kept p (xs ++ x ∷ []) ≡ kept p xs ++ cond (p x) (x ∷ []) []
unfolding kept
kept_last p [] x = refl
kept_last p (y ∷ xs) x = go (p y) (kept_last p xs x)
  where
    go : (t : Bool) → kept p (xs ++ x ∷ []) ≡ kept p xs ++ cond (p x) (x ∷ []) []
        → cond t (y ∷ kept p (xs ++ x ∷ [])) (kept p (xs ++ x ∷ [])) ≡ cond t (y ∷ kept p xs) (kept p xs) ++ cond (p x) (x ∷ []) []
    go true h = rw h
    go false h = h

sum_last : {A : Type 0} (f : A → ℕ) (xs : List A) (x : A) → sum (map f (xs ++ x ∷ [])) ≡ sum (map f xs) + f x
sum_last f [] x = omega arith
sum_last f (y ∷ xs) x = let ih = sum_last f xs x in omega arith

totals_last : (recs : List (List ℕ)) (rec : List ℕ) → totals_of (recs ++ rec ∷ []) ≡ with_record (totals_of recs) rec
unfolding brought
totals_last recs rec =
    rw (kept_last (λ r. is_live (read_status (field_of r 19))) recs rec, kept_last (λ r. is_cancelled (read_status (field_of r 19))) recs rec)
    (go (live recs) (cancelled recs) (read_status (field_of rec 19)))
  where
    over : List (List ℕ) → List (List ℕ) → Totals
    over l c = totals (length l) (length c) (sum (map cash_in l)) (sum (map price_in l))

    go : (l c : List (List ℕ)) (s : StatusReading)
        → over (l ++ cond (is_live s) (rec ∷ []) []) (c ++ cond (is_cancelled s) (rec ∷ []) []) ≡ plus_totals (over l c) (brought_as s (amount_of rec 16) (amount_of rec 17))
    go l c Status.Live = rw (append-nil c, length-append, sum_last cash_in l rec, sum_last price_in l rec, add-zero (length c))
    go l c Status.Cancelled = rw (append-nil l, length-append, add-zero (length l), add-zero (sum (map cash_in l)), add-zero (sum (map price_in l)))
    go l c Status.Malformed = rw (append-nil l, append-nil c, add-zero (length l), add-zero (length c), add-zero (sum (map cash_in l)), add-zero (sum (map price_in l)))

pub totals_are_sums : (file : List ℕ) (n : ℕ) → totals_over file n ≡ totals_of (records file n)
unfolding totals_over up_to kept
totals_are_sums file zero = refl
totals_are_sums file (suc n) = rw (totals_are_sums file n) (sym (totals_last (records file n) (record_at file n)))
