-- Records printed one behind the other, each with its line end, whatever stands behind them: where each stands, one
-- of them replaced or two bytes of it set, and the totals over them.
-- Assumes nothing.
use Prim.Native.Nat.{ℕ, suc, ◌+◌, ◌*◌, ◌<◌}
use mathlib.Core.Path.{◌≡◌, refl, sym, ap, ◌∙◌}
use mathlib.Core.List.{List, [], ◌∷◌, ◌++◌, append_assoc, append-nil}
use native.Mathlib.Nat.{zero-add, suc-add}
use native.Mathlib.Omega.{arith}
use lib.ListN.{length, get_or, take, drop, set, length-append, length-set, get_or-append}
use lib.Seq.{split_at, take-append_seam, drop-append-add, set_split, set-append_left, take-take, take_at, drop_at, get_or_at, get_or-take, get_or-drop, get_or-append-add, length-take-le, ext_get_or}
use Rattle.text.specs.Lists.{overlay}
use Rattle.layout.specs.Layout.{field_of}
use Rattle.posting.specs.File.{records, line_of, record_at, id_at, totals_over}
use Rattle.posting.specs.Sums.{totals_of}
use Rattle.posting.specs.Outcomes.{Ended}
use Rattle.posting.specs.Records.{lines_of}
use Rattle.posting.proofs.RecordList.{length_up_to, up_to_nth, totals_are_sums}

-- ---- a part in a list changed
-- q in the place of p, as long
pub overlay_middle : (s p r q : List ℕ) → length p ≡ length q → overlay (s ++ (p ++ r)) (length s) q ≡ s ++ (q ++ r)
overlay_middle s p r q e =
    ap (λ (x : List ℕ). x ++ (q ++ drop (length s + length q) (s ++ (p ++ r)))) (take-append_seam s (p ++ r))
    ∙ ap (λ (x : List ℕ). s ++ (q ++ x)) (drop-append-add s (p ++ r) (length q) ∙ drop_at p r (length q) e)

set_past : (p s : List ℕ) (a v : ℕ) → set (p ++ s) (length p + a) v ≡ p ++ set s a v
set_past [] s a v = ap (λ (k : ℕ). set s k v) (zero-add a)
set_past (x ∷ p) s a v = ap (λ (k : ℕ). set (x ∷ (p ++ s)) k v) (suc-add (length p) a) ∙ ap (λ (t : List ℕ). x ∷ t) (set_past p s a v)

-- ---- records of 399 bytes
abbrev pub Long : List (List ℕ) → Type 0
Long recs = (i : ℕ) → i < length recs → length (get_or recs i []) ≡ 399

line_long : (rec : List ℕ) → length rec ≡ 399 → length (line_of rec) ≡ 401
line_long rec e = omega (arith, length-append rec (13 ∷ 10 ∷ []))

pub all_lines_long : (recs : List (List ℕ)) → Long recs → length (lines_of recs) ≡ length recs * 401
all_lines_long [] l = refl
all_lines_long (x ∷ recs) l =
    omega (arith, length-append (line_of x) (lines_of recs), line_long x (l 0 (omega arith)), all_lines_long recs (λ i h. l (suc i) (omega arith)))

lines_append : (xs ys : List (List ℕ)) → lines_of (xs ++ ys) ≡ lines_of xs ++ lines_of ys
lines_append [] ys = refl
lines_append (x ∷ xs) ys = ap (λ (t : List ℕ). line_of x ++ t) (lines_append xs ys) ∙ sym (append_assoc (line_of x) (lines_of xs) (lines_of ys))

-- one more
pub lines_last : (recs : List (List ℕ)) (rec : List ℕ) → lines_of (recs ++ rec ∷ []) ≡ lines_of recs ++ line_of rec
lines_last recs rec = lines_append recs (rec ∷ []) ∙ ap (λ (t : List ℕ). lines_of recs ++ t) (append-nil (line_of rec))

-- ---- record k of them, with t behind them all
module _ (recs : List (List ℕ)) (t : List ℕ) (k : ℕ) (l : Long recs) (h : k < length recs) where
  abbrev old : List ℕ
  old = get_or recs k []

  -- the lines before it, and what stands behind its line end
  abbrev before : List ℕ
  before = lines_of (take k recs)

  abbrev rest : List ℕ
  rest = lines_of (drop (suc k) recs) ++ t

  before_long : length before ≡ k * 401
  before_long =
      let many : length (take k recs) ≡ k = length-take-le k recs (omega arith) in
      let long : Long (take k recs) = λ i g. ap length (get_or-take k recs i [] (omega arith)) ∙ l i (omega arith) in
      omega (arith, all_lines_long (take k recs) long)

  -- any records that agree with them but for record k
  around : (recs' : List (List ℕ)) (rec : List ℕ) → recs' ≡ take k recs ++ rec ∷ drop (suc k) recs → lines_of recs' ++ t ≡ before ++ (line_of rec ++ rest)
  around recs' rec e =
      ap (λ (x : List ℕ). x ++ t) (ap lines_of e ∙ lines_append (take k recs) (rec ∷ drop (suc k) recs))
      ∙ append_assoc before (line_of rec ++ lines_of (drop (suc k) recs)) t
      ∙ ap (λ (x : List ℕ). before ++ x) (append_assoc (line_of rec) (lines_of (drop (suc k) recs)) t)

  as_it_is : lines_of recs ++ t ≡ before ++ (line_of old ++ rest)
  as_it_is = around recs old (split_at recs k [] h)

  -- what stands there
  from_there : drop (k * 401) (lines_of recs ++ t) ≡ old ++ 13 ∷ 10 ∷ rest
  from_there = ap (drop (k * 401)) as_it_is ∙ drop_at before (line_of old ++ rest) (k * 401) before_long ∙ append_assoc old (13 ∷ 10 ∷ []) rest

  any_byte : (j : ℕ) → get_or (lines_of recs ++ t) (k * 401 + j) 0 ≡ get_or (old ++ 13 ∷ 10 ∷ rest) j 0
  any_byte j = sym (get_or-drop (k * 401) (lines_of recs ++ t) j 0) ∙ ap (λ (y : List ℕ). get_or y j 0) from_there

  pub record_there : record_at (lines_of recs ++ t) k ≡ get_or recs k []
  record_there = ap (take 399) from_there ∙ take_at old (13 ∷ 10 ∷ rest) 399 (l k h)

  pub id_there : id_at (lines_of recs ++ t) k ≡ field_of (get_or recs k []) 1
  unfolding field_of
  id_there =
      sym (take-take 13 399 (drop (k * 401) (lines_of recs ++ t)) (omega arith)) ∙ ap (λ (y : List ℕ). take 13 y) record_there ∙ rw (l k h)

  pub byte_there : (j : ℕ) → j < 399 → get_or (lines_of recs ++ t) (k * 401 + j) 0 ≡ get_or (get_or recs k []) j 0
  byte_there j b = any_byte j ∙ get_or-append old (13 ∷ 10 ∷ rest) 0 j (omega (arith, l k h))

  pub ended_there : Ended (lines_of recs ++ t) k
  ended_there =
      let last : length old + 1 ≡ 400 = rw (l k h) in
      record {
        return = any_byte 399 ∙ get_or_at old 13 (10 ∷ rest) 0 399 (l k h);
        feed = any_byte 400 ∙ (rw last at (get_or-append-add old (13 ∷ 10 ∷ rest) 1 0));
      }

  with_it_set : (rec : List ℕ) → before ++ (line_of rec ++ rest) ≡ lines_of (set recs k rec) ++ t
  with_it_set rec = sym (around (set recs k rec) rec (set_split recs k rec h))

  -- it is replaced
  pub line_replaced : (rec : List ℕ) → length rec ≡ 399 → overlay (lines_of recs ++ t) (k * 401) (line_of rec) ≡ lines_of (set recs k rec) ++ t
  line_replaced rec e =
      (λ i. overlay (as_it_is i) (sym before_long i) (line_of rec))
      ∙ overlay_middle before (line_of old) rest (line_of rec) (omega (arith, line_long old (l k h), line_long rec e))
      ∙ with_it_set rec

  -- its bytes i and j are set
  byte_set : (rec : List ℕ) → length rec ≡ 399 → (j v : ℕ) → j < 399 → set (before ++ (line_of rec ++ rest)) (k * 401 + j) v ≡ before ++ (line_of (set rec j v) ++ rest)
  byte_set rec e j v b =
      ap (λ (a : ℕ). set (before ++ (line_of rec ++ rest)) (a + j) v) (sym before_long)
      ∙ set_past before (line_of rec ++ rest) j v
      ∙ ap (λ (x : List ℕ). before ++ x) (set-append_left (line_of rec) rest j v (omega (arith, line_long rec e)))
      ∙ ap (λ (x : List ℕ). before ++ (x ++ rest)) (set-append_left rec (13 ∷ 10 ∷ []) j v (omega arith))

  pub bytes_changed : (i u j v : ℕ) → i < 399 → j < 399
      → set (set (lines_of recs ++ t) (k * 401 + i) u) (k * 401 + j) v ≡ lines_of (set recs k (set (set (get_or recs k []) i u) j v)) ++ t
  bytes_changed i u j v bi bj =
      ap (λ (y : List ℕ). set (set y (k * 401 + i) u) (k * 401 + j) v) as_it_is
      ∙ ap (λ (y : List ℕ). set y (k * 401 + j) v) (byte_set old (l k h) i u bi)
      ∙ byte_set (set old i u) (length-set old i u ∙ l k h) j v bj
      ∙ with_it_set (set (set old i u) j v)

-- ---- the totals over them
module _ (recs : List (List ℕ)) (t : List ℕ) (l : Long recs) where
  records_there : records (lines_of recs ++ t) (length recs) ≡ recs
  records_there =
      let many = length_up_to (record_at (lines_of recs ++ t)) (length recs) in
      ext_get_or [] (records (lines_of recs ++ t) (length recs)) recs many
      (λ i h. let within : i < length recs = rw many at h in up_to_nth (record_at (lines_of recs ++ t)) (length recs) i [] within ∙ record_there recs t i l within)

  pub totals_there : totals_over (lines_of recs ++ t) (length recs) ≡ totals_of recs
  totals_there = totals_are_sums (lines_of recs ++ t) (length recs) ∙ ap totals_of records_there
