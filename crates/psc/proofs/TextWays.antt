-- Each turn of the loops over text, and each way out of the functions, from the facts that are known there.
-- Assumes nothing.
use Prim.Native.Nat.{ℕ, zero, suc, ◌+◌, ◌-◌, ◌*◌, ◌%◌, ◌≤◌, ◌<◌}
use mathlib.Core.Path.{◌≡◌, refl, sym, ap, ◌∙◌}
use mathlib.Core.Bool.{Bool, true, false, ◌&&◌, and-true, and-false}
use mathlib.Core.List.{List, []}
use mathlib.Core.Logic.{◌⊎◌}
use Rattle.std.proofs.Common.{inl, inr}
use Rattle.std.specs.Simd.{first_chunks}
use Rattle.std.proofs.lemmas.List.{take-take, get_or-take}
use native.Mathlib.Nat.{zero-add, sub-zero}
use native.Mathlib.Numerals.{add-one}
use native.Mathlib.Omega.{arith}
use borrow.Author.Tests.{le-leb, lt-leb, eq-eqb, eqb-true, eqb-false}
use lib.Dec.{eqb}
use lib.ListN.{length, get_or, take, drop, set, length-drop}
use lib.Seq.{drop-drop, take-length, paste, paste-suc}
use mir.Syntax.{w32, w64}
use mir.Val.{Fits}
use Rattle.text.specs.Bytes.{every}
use Rattle.text.specs.Lists.{overlay}
use Rattle.text.specs.Numbers.{number_of}
use Rattle.text.proofs.Numbers.{few}
use Rattle.psc.specs.Table.{rises_from, is_postcode, right_table}
use Rattle.psc.specs.Text.{starts_with_line, is_lines, numbers_in, lines_in, table_in, right_text}
use Rattle.psc.proofs.TableLaws.{right_exactly}
use Rattle.psc.proofs.TextLaws.{line_below, lines_within, lines_long, length_numbers, right_text_table}
use Rattle.psc.proofs.Ways.{right_long}

-- ---- the lines that `as_chunks` gives
length_lines : (k : ℕ) (text : List ℕ) → length (first_chunks 6 k text) ≡ k
length_lines zero text = refl
length_lines (suc k) text = ap suc (length_lines k (drop 6 text))

line_at : (k : ℕ) (text : List ℕ) (i : ℕ) → i < k → get_or (first_chunks 6 k text) i [] ≡ take 6 (drop (i * 6) text)
line_at zero text i h = absurd (omega arith)
line_at (suc k) text zero h = refl
line_at (suc k) text (suc i) h =
    let e : 6 + i * 6 ≡ suc i * 6 = omega arith in
    line_at k (drop 6 text) i (omega arith) ∙ rw (drop-drop, e)

module _ (text : List ℕ) (lines : List (List ℕ)) (cut : lines ≡ first_chunks 6 (lines_in text) text) where
  many : length lines ≡ lines_in text
  many = rw (cut, length_lines (lines_in text) text)

  module _ (i : ℕ) (some : i < length lines) where
    there : get_or lines i [] ≡ take 6 (drop (i * 6) text)
    there = rw cut (line_at (lines_in text) text i (omega (arith, many)))

    line_starts : starts_with_line (get_or lines i []) ≡ starts_with_line (drop (i * 6) text)
    line_starts = rw (there, take-take 5 6 (drop (i * 6) text) (omega arith), get_or-take 6 (drop (i * 6) text) 5 0 (omega arith))

    line_number : number_of (take 5 (get_or lines i [])) ≡ number_of (take 5 (drop (i * 6) text))
    line_number = rw (there, take-take 5 6 (drop (i * 6) text) (omega arith))

-- ---- right_text
-- k lines, with numbers that rise
unfoldable pub lines_rise : ℕ → ℕ → List ℕ → Bool
lines_rise least k text = is_lines k text && rises_from least (numbers_in k text)

text_rest : (text : List ℕ) → (length text % 6 ≡ 0 → ⊥) → false ≡ right_text text
unfolding right_text
text_rest text other = go (is_lines (lines_in text) text) refl
  where
    go : (t : Bool) → is_lines (lines_in text) text ≡ t → false ≡ (t && right_table (table_in text))
    go true e = absurd (let long = lines_long (lines_in text) text e in other (omega arith))
    go false e = refl

text_long : (text : List ℕ) → 16000 < lines_in text → false ≡ right_text text
unfolding right_text
text_long text h =
    rw (← right_long (table_in text) (rw length_numbers h)) (sym (and-false (is_lines (lines_in text) text)))

-- bytes are left over, or there are too many lines
pub text_refused : (text : List ℕ) (lines : List (List ℕ)) → lines ≡ first_chunks 6 (lines_in text) text → (none : Bool) (rest : ℕ) → none ≡ eqb rest 0 → rest ≡ length text % 6
    → (none ≡ false) ⊎ ((none ≡ true) × (16000 < length lines)) → false ≡ right_text text
text_refused text lines cut none rest en er (inl left) = text_rest text (eqb-false (length text % 6) 0 (rw er at (sym en ∙ left)))
text_refused text lines cut none rest en er (inr long) = text_long text (rw (many text lines cut) at long.1)

-- five digits never pass 99999
text_start : (text : List ℕ) → lines_in text ≤ 16000 → lines_rise 0 (lines_in text) text ≡ right_text text
unfolding right_text right_table lines_rise
text_start text h = rw (length_numbers (lines_in text) text, le-leb (lines_in text) 16000 h) (go (is_lines (lines_in text) text) refl)
  where
    go : (t : Bool) → is_lines (lines_in text) text ≡ t → (t && rises_from 0 (table_in text)) ≡ (t && (rises_from 0 (table_in text) && every is_postcode (table_in text)))
    go true e = rw (lines_within (lines_in text) text e) (sym (and-true (rises_from 0 (table_in text))))
    go false e = refl

module _ (text : List ℕ) (lines : List (List ℕ)) (cut : lines ≡ first_chunks 6 (lines_in text) text) where
  pub text_begins : length lines ≤ 16000 → lines_rise 0 (lines_in text - 0) text ≡ right_text text
  text_begins few = rw sub-zero (text_start text (omega (arith, many text lines cut)))

  module _ (i least : ℕ) (r : Bool) (known : lines_rise least (lines_in text - i) (drop (i * 6) text) ≡ r) where
    pub text_ends : length lines ≤ i → i ≤ length lines → (none : Bool) (rest : ℕ) → none ≡ eqb rest 0 → rest ≡ length text % 6 → none ≡ true → true ≡ r
    unfolding lines_rise is_lines numbers_in rises_from
    text_ends l h whole rest ew er told =
        let all = many text lines cut in
        let left : rest ≡ 0 = eqb-true rest 0 (sym ew ∙ told) in
        let none : lines_in text - i ≡ 0 = omega arith in
        let behind : length (drop (i * 6) text) ≡ 0 = rw length-drop (omega arith) in
        rw (none, eq-eqb (length (drop (i * 6) text)) 0 behind) at known

    module _ (some : i < length lines) (b : Bool) (eb : b ≡ starts_with_line (get_or lines i [])) where
      down : lines_rise least (suc (lines_in text - (i + 1))) (drop (i * 6) text) ≡ r
      down =
          let all = many text lines cut in
          let one : suc (lines_in text - (i + 1)) ≡ lines_in text - i = omega arith in
          rw one known

      stands : b ≡ starts_with_line (drop (i * 6) text)
      stands = eb ∙ line_starts text lines cut i some

      pub text_broken : b ≡ false → false ≡ r
      unfolding lines_rise is_lines
      text_broken broken = rw (← stands, broken) at down

      module _ (good : b ≡ true) (n : ℕ) (en : n ≡ number_of (take 5 (get_or lines i []))) where
        writes : n ≡ number_of (take 5 (drop (i * 6) text))
        writes = en ∙ line_number text lines cut i some

        pub text_room : Fits w64 (n + 1)
        text_room = record { fits = omega (arith, writes, line_below (drop (i * 6) text) (sym stands ∙ good)) }

        pub text_falls : n < least → false ≡ r
        unfolding lines_rise numbers_in rises_from
        text_falls low = rw (← writes, lt-leb least n low, and-false) at down

        pub text_on : least ≤ n → lines_rise (n + 1) (lines_in text - (i + 1)) (drop ((i + 1) * 6) text) ≡ r
        unfolding lines_rise is_lines numbers_in rises_from
        text_on low =
            let next : i * 6 + 6 ≡ (i + 1) * 6 = omega arith in
            rw (← stands, good, ← writes, le-leb least n low, drop-drop, next) at down

-- ---- fill
number_at : (k : ℕ) (text : List ℕ) (i : ℕ) → i < k → get_or (numbers_in k text) i 0 ≡ number_of (take 5 (drop (i * 6) text))
unfolding numbers_in
number_at zero text i h = absurd (omega arith)
number_at (suc k) text zero h = refl
number_at (suc k) text (suc i) h =
    let e : 6 + i * 6 ≡ suc i * 6 = omega arith in
    number_at k (drop 6 text) i (omega arith) ∙ rw (drop-drop, e)

module _ (text : List ℕ) (lines : List (List ℕ)) (cut : lines ≡ first_chunks 6 (lines_in text) text) (i n : ℕ) (some : i < length lines)
    (en : n ≡ number_of (take 5 (get_or lines i []))) where
  some_in : i < lines_in text
  some_in = omega (arith, many text lines cut)

  entry_is : n ≡ get_or (table_in text) i 0
  entry_is = en ∙ (line_number text lines cut i some ∙ sym (number_at (lines_in text) text i some_in))

  inside : i < length (table_in text)
  inside = rw length_numbers some_in

  pub fill_fits : right_text text ≡ true → Fits w32 n
  fill_fits h = record { fits = omega (arith, entry_is, ((right_exactly (table_in text)).0 (right_text_table text h)).within i inside) }

  pub fill_on : (before table : List ℕ) → lines_in text ≤ length before → table ≡ paste before 0 (table_in text) i → set table i n ≡ paste before 0 (table_in text) (i + 1)
  fill_on before table room e =
      rw (e, entry_is, add-one)
      (ap (λ (k : ℕ). set (paste before 0 (table_in text) i) k (get_or (table_in text) i 0)) (sym (zero-add i)) ∙ paste-suc before 0 (table_in text) i 0 (omega (arith, some_in)) inside)

pub fill_done : (text : List ℕ) (lines : List (List ℕ)) → lines ≡ first_chunks 6 (lines_in text) text → (before table : List ℕ) (i : ℕ) → i ≤ length lines → length lines ≤ i
    → table ≡ paste before 0 (table_in text) i → table ≡ overlay before 0 (table_in text)
fill_done text lines cut before table i l h e =
    let all : i ≡ length (table_in text) = omega (arith, many text lines cut, length_numbers (lines_in text) text) in
    rw (e, all, take-length)
