-- The lengths of the buffers and the totals of a file, as the code finds them.
-- Assumes nothing.
use Prim.Native.Nat.{ℕ, ◌+◌, ◌*◌, ◌%◌, ◌≤◌, ◌<◌}
use mathlib.Core.Path.{◌≡◌, refl, sym, ap, ◌∙◌}
use mathlib.Core.Bool.{Bool, true, false, not, ◌&&◌, and-eq-true_iff}
use mathlib.Core.List.{List}
use native.Mathlib.Numerals.{add-one}
use native.Mathlib.Omega.{arith}
use borrow.Author.Tests.{leb-true, eq-eqb, eqb-true, not-true, not-false}
use lib.Dec.{eqb, leb}
use lib.ListN.{length}
use Rattle.std.specs.Prelude.{Option, unwrap_or}
use Rattle.text.proofs.Booleans.{clash}
use Rattle.posting.specs.declared.Totals.{Totals}
use Rattle.posting.specs.Bounds.{Small}
use Rattle.posting.specs.Calls.{sum_of_totals}
use Rattle.posting.specs.File.{record_at, totals, brought, totals_over}
use Rattle.posting.proofs.Amounts.{small_so_far, small_with}
use Rattle.batch.specs.Batch.{right_lengths, same_totals}

-- totals whose numbers are the same
record_of_lem : (l k d q : ℕ) → Totals
record_of_lem l k d q = record { live = l; cancelled = k; cash = record { 0 = d }; price = record { 0 = q } }

four : (l k d q l' k' d' q' : ℕ) → l ≡ l' → k ≡ k' → d ≡ d' → q ≡ q' → record_of_lem l k d q ≡ record_of_lem l' k' d' q'
four l k d q l' k' d' q' a b e f = rw (a, b, e, f)

pub totals_same : (a b : Totals) → same_totals a b ≡ true → a ≡ b
unfolding record_of_lem
totals_same a b h =
    let p4 = (and-eq-true_iff (eqb a.live b.live && eqb a.cancelled b.cancelled && eqb a.cash.0 b.cash.0) (eqb a.price.0 b.price.0)).0 h in
    let p3 = (and-eq-true_iff (eqb a.live b.live && eqb a.cancelled b.cancelled) (eqb a.cash.0 b.cash.0)).0 p4.0 in
    let p2 = (and-eq-true_iff (eqb a.live b.live) (eqb a.cancelled b.cancelled)).0 p3.0 in
    four a.live a.cancelled a.cash.0 a.price.0 b.live b.cancelled b.cash.0 b.price.0
    (eqb-true a.live b.live p2.0) (eqb-true a.cancelled b.cancelled p2.1) (eqb-true a.cash.0 b.cash.0 p3.1) (eqb-true a.price.0 b.price.0 p4.1)

-- what the code compares
abbrev alike : Totals → Totals → Bool
alike a b = eqb a.live b.live && (eqb a.cancelled b.cancelled && (eqb a.cash.0 b.cash.0 && eqb a.price.0 b.price.0))

pub totals_eq : (a b : Totals) → false ≡ not (alike a b) → a ≡ b
unfolding record_of_lem
totals_eq a b e =
    let p = (and-eq-true_iff (eqb a.live b.live) (eqb a.cancelled b.cancelled && (eqb a.cash.0 b.cash.0 && eqb a.price.0 b.price.0))).0 (not-false (alike a b) (sym e)) in
    let q = (and-eq-true_iff (eqb a.cancelled b.cancelled) (eqb a.cash.0 b.cash.0 && eqb a.price.0 b.price.0)).0 p.1 in
    let r = (and-eq-true_iff (eqb a.cash.0 b.cash.0) (eqb a.price.0 b.price.0)).0 q.1 in
    four a.live a.cancelled a.cash.0 a.price.0 b.live b.cancelled b.cash.0 b.price.0
    (eqb-true a.live b.live p.0) (eqb-true a.cancelled b.cancelled q.0) (eqb-true a.cash.0 b.cash.0 r.0) (eqb-true a.price.0 b.price.0 r.1)

pub totals_ne : (a b : Totals) → true ≡ not (alike a b) → a ≡ b → ⊥
totals_ne a b n e =
    let same : alike a b ≡ true = rw e (rw (eq-eqb b.live b.live refl, eq-eqb b.cancelled b.cancelled refl, eq-eqb b.cash.0 b.cash.0 refl, eq-eqb b.price.0 b.price.0 refl)) in
    clash same (not-true (alike a b) (sym n))

pub lengths_bounded : (n m : ℕ) → right_lengths n m ≡ true → (n ≤ 400599) × (m ≤ 1048576)
unfolding right_lengths
lengths_bounded n m t =
    let p = (and-eq-true_iff (eqb (n % 401) 0 && leb 401 n && leb n 400599 && leb 403 m) (leb m 1048576)).0 t in
    let q = (and-eq-true_iff (eqb (n % 401) 0 && leb 401 n && leb n 400599) (leb 403 m)).0 p.0 in
    (leb-true n 400599 ((and-eq-true_iff (eqb (n % 401) 0 && leb 401 n) (leb n 400599)).0 q.0).1, leb-true m 1048576 p.1)

-- ---- totals_over
pub totals_start : (file : List ℕ) (t : Totals) → t.live ≡ 0 → t.cancelled ≡ 0 → t.cash.0 ≡ 0 → t.price.0 ≡ 0 → t ≡ totals_over file 0
unfolding totals_over
totals_start file t l k d q = λ i. totals (l i) (k i) (d i) (q i)

pub totals_on : (file : List ℕ) (n i : ℕ) (t b t' : Totals) (s : Option Totals) → (n ≤ 999) × (n * 401 ≤ length file) → i < n → t ≡ totals_over file i
    → (rec : List ℕ) → rec ≡ record_at file i → b ≡ brought rec → s ≡ sum_of_totals t b → t' ≡ unwrap_or s t → t' ≡ totals_over file (i + 1)
unfolding totals_over
totals_on file n i t b t' s pre h e rec at eb es er =
    let small : Small t = rw e (small_so_far file i (omega (arith, pre.0))) in
    let here : b ≡ brought (record_at file i) = eb ∙ ap brought at in
    small_with t b t' s (record_at file i) small here es er ∙ rw (e, add-one i)

pub totals_end : (file : List ℕ) (n i : ℕ) (t : Totals) → i ≤ n → n ≤ i → t ≡ totals_over file i → t ≡ totals_over file n
totals_end file n i t a b e = let z : i ≡ n = omega arith in rw z at e

pub lengths_are : (n m : ℕ) → (eqb (n % 401) 0 && leb 401 n && leb n 400599 && leb 403 m && leb m 1048576) ≡ right_lengths n m
unfolding right_lengths
lengths_are n m = refl
