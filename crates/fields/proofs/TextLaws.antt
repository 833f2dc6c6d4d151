-- Fields of CP852 text: exactly which bytes are a text, and how long it is.
-- Assumes nothing.
use Prim.Native.Nat.{ℕ, zero, suc, ◌-◌, ◌≤◌, ◌<◌}
use mathlib.Core.Path.{◌≡◌, refl, sym, ◌∙◌}
use mathlib.Core.Bool.{Bool, true, false, not, ◌&&◌}
use mathlib.Core.Logic.{◌↔◌, ◌⊎◌}
use mathlib.Core.List.{List, [], ◌∷◌}
use native.Mathlib.Omega.{arith}
use borrow.Author.Tests.{eq-eqb, eqb-false, ne_eqb, not-true}
use lib.Dec.{eqb}
use lib.ListN.{length, get_or, drop, replicate, length-drop}
use Rattle.text.specs.Bytes.{every, is_blank}
use Rattle.fields.specs.Texts.{is_text, filled, read_text}
use Rattle.fields.specs.declared.reading.Reading.TheVariants.{Absent, Value}
use Rattle.text.proofs.Booleans.{clash}
use Rattle.fields.specs.Meanings.{IsTextOf}
use Rattle.fields.proofs.ByteLaws.{class_exactly, both_left, both_right, blank_exactly, not_blank}
use Rattle.fields.proofs.FrameLaws.{reads_exactly, reads_absent}

-- ---- a byte of text: 20h to 7Eh or 80h to FFh
pub text_byte_exactly : (b : ℕ) → b < 256 → (is_text b ≡ true) ↔ (((32 ≤ b) × (b ≤ 126)) ⊎ ((128 ≤ b) × (b ≤ 255)))
text_byte_exactly b byte = class_exactly 32 b byte

-- ---- the bytes before the spaces at the end
pub filled_blank : (s : List ℕ) → is_blank s ≡ true → filled s ≡ 0
unfolding filled
filled_blank [] h = refl
filled_blank (b ∷ s) h = rw h

filled_on : (b : ℕ) (s : List ℕ) → is_blank (b ∷ s) ≡ false → filled (b ∷ s) ≡ suc (filled s)
unfolding filled
filled_on b s h = rw h

-- the places of the text of a list that isn't blank: the last byte, and the spaces behind it
pub record Ends (s : List ℕ) (n : ℕ) : Type 0 where
  pub some : 0 < n
  pub within : n ≤ length s
  pub last : get_or s (n - 1) 0 ≡ 32 → ⊥
  pub behind : is_blank (drop n s) ≡ true

last_on : (b : ℕ) (s : List ℕ) (n : ℕ) → get_or (b ∷ s) (suc (suc n) - 1) 0 ≡ get_or s (suc n - 1) 0
last_on b s n =
    let e : suc (suc n) - 1 ≡ suc n = omega arith in
    let d : suc n - 1 ≡ n = omega arith in
    rw (e, d)

ends_on : (b : ℕ) (s : List ℕ) (n : ℕ) → Ends s n → Ends (b ∷ s) (suc n)
ends_on b s zero e = absurd (omega arith)
ends_on b s (suc n) e = record { some = omega arith; within = omega arith; last = λ q. e.last (sym (last_on b s n) ∙ q); behind = e.behind }

ends_here : (b : ℕ) (s : List ℕ) → (b ≡ 32 → ⊥) → is_blank s ≡ true → Ends (b ∷ s) 1
ends_here b s n h = record { some = omega arith; within = omega arith; last = n; behind = h }

first_filled : (b : ℕ) (s : List ℕ) → is_blank s ≡ true → is_blank (b ∷ s) ≡ false → b ≡ 32 → ⊥
first_filled b s h n e = clash h (rw (eq-eqb b 32 e) at n)

filled_ends : (s : List ℕ) → is_blank s ≡ false → Ends s (filled s)
filled_ends [] h = absurd (clash refl h)
filled_ends (b ∷ s) h = rw (filled_on b s h) (go (is_blank s) refl (filled_ends s))
  where
    go : (t : Bool) → is_blank s ≡ t → (is_blank s ≡ false → Ends s (filled s)) → Ends (b ∷ s) (suc (filled s))
    go true e later = rw (filled_blank s e) (ends_here b s (first_filled b s e h) e)
    go false e later = ends_on b s (filled s) (later e)

ends_not_blank : (s : List ℕ) (n : ℕ) → Ends s n → is_blank s ≡ false
ends_not_blank s n e = not_blank s (n - 1) (omega arith) e.last

ends_filled : (s : List ℕ) (n : ℕ) → Ends s n → filled s ≡ n
ends_filled [] n e = absurd (omega arith)
ends_filled (b ∷ s) zero e = absurd (omega arith)
ends_filled (b ∷ s) (suc zero) e = rw (filled_on b s (ends_not_blank (b ∷ s) 1 e), filled_blank s e.behind)
ends_filled (b ∷ s) (suc (suc n)) e =
    let r : Ends s (suc n) = record { some = omega arith; within = omega arith; last = λ q. e.last (last_on b s n ∙ q); behind = e.behind } in
    rw (filled_on b s (ends_not_blank (b ∷ s) (suc (suc n)) e), ends_filled s (suc n) r)

-- `filled` is the length of what stands before the spaces at the end
pub filled_exactly : (s : List ℕ) (n : ℕ) → ((is_blank s ≡ false) × (filled s ≡ n)) ↔ Ends s n
filled_exactly s n = (λ p. rw p.1 at (filled_ends s p.0), λ e. (ends_not_blank s n e, ends_filled s n e))

text_is : (w : ℕ) (f : List ℕ) (n : ℕ) → length f ≡ w → every is_text f ≡ true → not (eqb (get_or f 0 0) 32) ≡ true → Ends f n → IsTextOf w f n
text_is w f n l h s e = record {
  long = l;
  bytes = h;
  some = e.some;
  within = omega arith;
  first = eqb-false (get_or f 0 0) 32 (not-true (eqb (get_or f 0 0) 32) s);
  last = e.last;
  spaces = (blank_exactly (w - n) (drop n f)).0 (length-drop n f ∙ rw l, e.behind);
}

ends_of : (w : ℕ) (f : List ℕ) (n : ℕ) → IsTextOf w f n → Ends f n
ends_of w f n i = record {
  some = i.some;
  within = omega arith;
  last = i.last;
  behind = ((blank_exactly (w - n) (drop n f)).1 i.spaces).1;
}

pub text_exactly : (w : ℕ) (f : List ℕ) (n : ℕ) → (read_text w f ≡ Value n) ↔ IsTextOf w f n
text_exactly w f n =
    let c = reads_exactly w f (every is_text f && not (eqb (get_or f 0 0) 32)) (filled f) n in (
      λ h. let p = c.0 h in
          text_is w f n p.0.long (both_left (every is_text f) _ p.0.fine) (both_right (every is_text f) _ p.0.fine)
          ((filled_exactly f n).0 (p.0.filled, p.1)),
      λ i. let e = (filled_exactly f n).1 (ends_of w f n i) in
          c.1 (record { long = i.long; filled = e.0; fine = rw (i.bytes, ne_eqb (get_or f 0 0) 32 i.first) }, e.1),
    )

pub text_absent : (w : ℕ) (f : List ℕ) → (read_text w f ≡ Absent) ↔ (f ≡ replicate w 32)
text_absent w f = reads_absent w f (every is_text f && not (eqb (get_or f 0 0) 32)) (filled f)
