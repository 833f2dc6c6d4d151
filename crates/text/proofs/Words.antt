-- Several bytes at once: a test, or two lists compared, by the first k bytes and the rest; and bytes as one number.
-- Assumes nothing.
use Prim.Native.Nat.{ℕ, zero, suc, ◌+◌, ◌-◌, ◌*◌, ◌≤◌, ◌<◌, ◌/◌}
use mathlib.Core.Path.{◌≡◌, refl, sym, ap, ◌∙◌}
use mathlib.Core.Bool.{Bool, true, false, not, ◌&&◌, and_assoc, and-eq-true_iff}
use mathlib.Core.List.{List, [], ◌∷◌, ◌++◌}
use native.Mathlib.Nat.{zero-add}
use native.Mathlib.Numerals.{add-one}
use native.Mathlib.Omega.{arith}
use borrow.Author.Tests.{not-true, not-false}
use mir.Syntax.{w8, w64}
use mir.Val.{Fits}
use lib.ListN.{length, get_or, take, drop, replicate, length-drop, length-append, length-replicate}
use lib.Seq.{take_all, get_or-drop, length-take-le}
use Rattle.std.proofs.lemmas.List.{drop-replicate, drop-drop}
use Rattle.std.specs.Int.{from_le_bytes}
use Rattle.std.specs.Simd.{first_chunks}
use Rattle.std.specs.List.{list_all}
use Rattle.text.specs.Bytes.{every}
use Rattle.text.specs.Words.{low_first, word_of, eight_in}
use Rattle.text.proofs.Booleans.{clash}

-- ---- a test at each byte, k bytes at once
pub every_split : (test : ℕ → Bool) (k : ℕ) (s : List ℕ) → every test s ≡ (every test (take k s) && every test (drop k s))
every_split test zero s = refl
every_split test (suc k) [] = refl
every_split test (suc k) (b ∷ s) = rw (every_split test k s) (go (test b))
  where
    go : (t : Bool) → (t && (every test (take k s) && every test (drop k s))) ≡ (t && every test (take k s) && every test (drop k s))
    go true = refl
    go false = refl

module _ (test : ℕ → Bool) (s : List ℕ) (i k : ℕ) (r b : Bool) (known : every test (drop i s) ≡ r) (eb : b ≡ every test (take k (drop i s))) where
  cut : (b && every test (drop (i + k) s)) ≡ r
  cut = rw (eb, ← drop-drop k i s) (sym (every_split test k (drop i s)) ∙ known)

  pub chunk_fails : not b ≡ true → false ≡ r
  chunk_fails n = rw (not-true b n) at cut

  pub chunk_on : not b ≡ false → every test (drop (i + k) s) ≡ r
  chunk_on n = rw (not-false b n) at cut

-- a test passed by all passes behind any place
pub every_behind : (test : ℕ → Bool) (k : ℕ) (s : List ℕ) → every test s ≡ true → every test (drop k s) ≡ true
every_behind test k s h = ((and-eq-true_iff (every test (take k s)) (every test (drop k s))).0 (sym (every_split test k s) ∙ h)).1

-- where fewer than k are left, the last k tell
pub last_tell : (test : ℕ → Bool) (k : ℕ) (s : List ℕ) (i : ℕ) (b : Bool) → i ≤ length s → every test (drop i s) ≡ every test s → length s - i < k → k ≤ length s
    → b ≡ every test (take k (drop (length s - k) s)) → b ≡ every test s
last_tell test k s i b within known few long eb = go (every test (drop (length s - k) s)) refl (every test s) refl
  where
    all : take k (drop (length s - k) s) ≡ drop (length s - k) s
    all = take_all k (drop (length s - k) s) (rw length-drop (omega arith))

    there : b ≡ every test (drop (length s - k) s)
    there = eb ∙ ap (every test) all

    back : drop (i - (length s - k)) (drop (length s - k) s) ≡ drop i s
    back = let sum : length s - k + (i - (length s - k)) ≡ i = omega arith in drop-drop (i - (length s - k)) (length s - k) s ∙ rw sum

    go : (t : Bool) → every test (drop (length s - k) s) ≡ t → (u : Bool) → every test s ≡ u → b ≡ every test s
    go true et u eu = there ∙ et ∙ sym (sym known ∙ ap (every test) (sym back) ∙ every_behind test (i - (length s - k)) (drop (length s - k) s) et)
    go false et true eu = absurd (clash (every_behind test (length s - k) s eu) et)
    go false et false eu = there ∙ et ∙ sym eu

-- of eight
pub last_eight : (test : ℕ → Bool) (s : List ℕ) (i : ℕ) (b : Bool) → i ≤ length s → every test (drop i s) ≡ every test s → length s - i < 8 → 8 ≤ length s
    → b ≡ every test (take 8 (drop (length s - 8) s)) → b ≡ every test s
last_eight test s i b within known few long eb = last_tell test 8 s i b within known few long eb

-- where fewer than twice k stand, the first k and the last k tell
pub both_ends : (test : ℕ → Bool) (k : ℕ) (s : List ℕ) (a b : Bool) → k ≤ length s → length s < k + k → a ≡ every test (take k s) → b ≡ every test (take k (drop (length s - k) s))
    → (a && b) ≡ every test s
both_ends test k s true b long few ea eb = last_tell test k s k b long (rw zero-add at (chunk_on test s 0 k (every test s) true refl ea refl)) (omega arith) long eb
both_ends test k s false b long few ea eb = chunk_fails test s 0 k (every test s) false refl ea refl

-- ---- bytes as one number
-- the number of k + 1 bytes from place i on, j being the next: where the list has ended, the bytes are taken as 0
low_at : (s : List ℕ) (i j k : ℕ) → j ≡ i + 1 → low_first (take (suc k) (drop i s)) ≡ get_or s i 0 + 256 * low_first (take k (drop j s))
unfolding low_first
low_at s i j k e = rw (e, add-one) (on s i k)
  where
    on : (s : List ℕ) (i k : ℕ) → low_first (take (suc k) (drop i s)) ≡ get_or s i 0 + 256 * low_first (take k (drop (suc i) s))
    on [] zero zero = refl
    on [] zero (suc k) = refl
    on [] (suc i) zero = refl
    on [] (suc i) (suc k) = refl
    on (x ∷ s) zero k = refl
    on (x ∷ s) (suc i) k = on s i k

-- ---- word: the sum of eight bytes
pub word_is : (s : List ℕ) → get_or s 0 0 + get_or s 1 0 * 256 + get_or s 2 0 * 65536 + get_or s 3 0 * 16777216 + get_or s 4 0 * 4294967296 + get_or s 5 0 * 1099511627776 + get_or s 6 0 * 281474976710656 + get_or s 7 0 * 72057594037927936 ≡ word_of s
unfolding low_first
word_is s = omega (arith, low_at s 0 1 7 refl, low_at s 1 2 6 refl, low_at s 2 3 5 refl, low_at s 3 4 4 refl, low_at s 4 5 3 refl, low_at s 5 6 2 refl, low_at s 6 7 1 refl, low_at s 7 8 0 refl)

-- ---- eight at a time
-- eight bytes as one number, in the library's word
pub eight_is_word : (s : List ℕ) → length s ≡ 8 → from_le_bytes w64 s ≡ word_of s
eight_is_word s long = word_is s

-- zeros behind do not count
padded : (s : List ℕ) (k : ℕ) → low_first (s ++ replicate k 0) ≡ low_first s
unfolding low_first
padded [] zero = refl
padded [] (suc k) = rw (padded [] k)
padded (b ∷ s) k = rw (padded s k)

pub padded_is : (s : List ℕ) → length s < 8 → from_le_bytes w64 (s ++ drop (length s) (replicate 8 0)) ≡ word_of s
padded_is s short =
    let whole : length (s ++ replicate (8 - length s) 0) ≡ 8 = rw (length-append, length-replicate) (omega arith) in
    rw drop-replicate (
    eight_is_word (s ++ replicate (8 - length s) 0) whole
    ∙ ap low_first (take_all 8 (s ++ replicate (8 - length s) 0) (omega arith))
    ∙ padded s (8 - length s)
    ∙ ap low_first (sym (take_all 8 s (omega arith)))
    )

taken : (m j : ℕ) (s : List ℕ) → ((j : ℕ) → get_or s j 0 < 256) → get_or (take m s) j 0 < 256
taken zero zero s each = omega arith
taken zero (suc j) s each = omega arith
taken (suc m) j [] each = each j
taken (suc m) zero (b ∷ s) each = each 0
taken (suc m) (suc j) (b ∷ s) each = taken m j s (λ j. each (suc j))

-- a test of all bytes by k eights, and the rest
module _ (test word_test : ℕ → Bool) (law : (s : List ℕ) → length s ≡ 8 → ((j : ℕ) → get_or s j 0 < 256) → word_test (low_first s) ≡ every test s) where
  by_eights : (k : ℕ) (s : List ℕ) → k * 8 ≤ length s → ((j : ℕ) → get_or s j 0 < 256)
      → every test s ≡ (list_all (λ e. word_test (eight_in e)) (first_chunks 8 k s) && every test (drop (k * 8) s))
  by_eights zero s h each = refl
  by_eights (suc k) s h each =
      let long : length (take 8 s) ≡ 8 = length-take-le 8 s (omega arith) in
      let bytes : (j : ℕ) → get_or (take 8 s) j 0 < 256 = λ j. taken 8 j s each in
      let front : word_test (eight_in (take 8 s)) ≡ every test (take 8 s) = ap word_test (eight_is_word (take 8 s) long ∙ ap low_first (take_all 8 (take 8 s) (omega arith))) ∙ law (take 8 s) long bytes in
      let back = by_eights k (drop 8 s) (rw length-drop (omega arith)) (λ j. rw get_or-drop (each (8 + j))) in
      let there : drop (k * 8) (drop 8 s) ≡ drop (suc k * 8) s = drop-drop (k * 8) 8 s ∙ ap (λ n. drop n s) (omega arith) in
      every_split test 8 s ∙ rw (← front, back, there) (sym (and_assoc (word_test (eight_in (take 8 s))) (list_all (λ e. word_test (eight_in e)) (first_chunks 8 k (drop 8 s))) (every test (drop (suc k * 8) s))))

  module _ (k : ℕ) (s : List ℕ) (h : k * 8 ≤ length s) (each : (j : ℕ) → get_or s j 0 < 256) (b : Bool) (eights : List (List ℕ)) (front : eights ≡ first_chunks 8 k s)
      (has : b ≡ list_all (λ e. word_test (eight_in e)) eights) where
    whole : (b && every test (drop (k * 8) s)) ≡ every test s
    whole = rw (has, front) (sym (by_eights k s h each))

    pub some_lack : b ≡ false → false ≡ every test s
    some_lack e = rw e at whole

    -- where all eights have it, the last eight bytes tell
    pub last_tells : b ≡ true → k * 8 ≡ length s / 8 * 8 → 8 ≤ length s → (w : ℕ) (t : Bool) → w ≡ word_of (drop (length s - 8) s) → t ≡ word_test w → t ≡ every test s
    last_tells e all long w t ew et =
        let eight : length (take 8 (drop (length s - 8) s)) ≡ 8 = length-take-le 8 (drop (length s - 8) s) (rw length-drop (omega arith)) in
        let told : t ≡ every test (take 8 (drop (length s - 8) s)) = et ∙ ap word_test ew ∙ law (take 8 (drop (length s - 8) s)) eight (λ j. taken 8 j (drop (length s - 8) s) (λ i. rw get_or-drop (each (length s - 8 + i)))) in
        last_eight test s (k * 8) t h (rw e at whole) (omega (arith, all)) long told

-- ---- what is known of each lent slice of bytes
abbrev pub AreBytes : List ℕ → Type 0
AreBytes s = (j : ℕ) → Fits w8 (get_or s j 0)

pub bytes_behind : (s : List ℕ) (i : ℕ) → AreBytes s → AreBytes (drop i s)
bytes_behind s i each j = rw get_or-drop (each (i + j))
