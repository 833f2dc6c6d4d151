-- Eight bytes of text at once: what is asked of a word is what `is_text` says of each of its bytes.
-- Assumes nothing.
use Prim.Native.Nat.{ℕ, zero, suc, ◌+◌, ◌*◌, ◌^◌, ◌≤◌, ◌<◌}
use mathlib.Core.Path.{◌≡◌, refl, sym, ap, ap₂, ◌∙◌}
use mathlib.Core.Bool.{Bool, true, false, not, ◌&&◌}
use mathlib.Core.List.{List, [], ◌∷◌}
use native.Mathlib.Omega.{arith}
use lib.Bits.{bit_and, bit_or, bit_xor, and_block, or_block, xor_block, and_le_r, or_lt, xor_lt}
use lib.Dec.{eqb, T}
use lib.ListN.{length, get_or, take, replicate}
use lib.Seq.{take_all}
use Rattle.text.specs.Bytes.{every}
use Rattle.text.specs.Words.{low_first}
use Rattle.text.proofs.Ranges.{below}
use Rattle.text.specs.WordTests.{low_byte}
use Rattle.fields.specs.Texts.{is_text}

-- what is asked of a word, with 7Fh, 60h, 01h and 80h in each place of m, s, o and h
abbrev asks : ℕ → ℕ → ℕ → ℕ → ℕ → ℕ
asks m s o h w = bit_and (bit_or (bit_xor (bit_and w m + s) (bit_and w m + o)) w) h

-- of one byte it is `is_text`, by computing
byte_asks : (b : ℕ) → b < 256 → eqb (asks 127 96 1 128 b) 128 ≡ is_text b
byte_asks b h = same (eqb (asks 127 96 1 128 b) 128) (is_text b) (below (λ n. agree (eqb (asks 127 96 1 128 n) 128) (is_text n)) 256 b tt h)
  where
    agree : Bool → Bool → Bool
    agree true t = t
    agree false t = not t

    same : (p q : Bool) → T (agree p q) → p ≡ q
    same true true t = refl
    same true false t = absurd t
    same false true t = absurd t
    same false false t = refl

-- of a word it is what it is of its lowest byte, beside what it is of the rest
asks_block : (m s o h w b : ℕ) → b < 256 → asks (m * 256 + 127) (s * 256 + 96) (o * 256 + 1) (h * 256 + 128) (w * 256 + b) ≡ asks m s o h w * 256 + asks 127 96 1 128 b
asks_block m s o h w b l =
    let low : bit_and b 127 ≤ 127 = and_le_r b 127 in
    let t : bit_and (w * 256 + b) (m * 256 + 127) ≡ bit_and w m * 256 + bit_and b 127 = and_block 8 w m b 127 l (omega arith) in
    let up : bit_and w m * 256 + bit_and b 127 + (s * 256 + 96) ≡ (bit_and w m + s) * 256 + (bit_and b 127 + 96) = omega arith in
    let one : bit_and w m * 256 + bit_and b 127 + (o * 256 + 1) ≡ (bit_and w m + o) * 256 + (bit_and b 127 + 1) = omega arith in
    let x : bit_xor (bit_and b 127 + 96) (bit_and b 127 + 1) < 2 ^ 8 = xor_lt 8 (bit_and b 127 + 96) (bit_and b 127 + 1) (omega arith) (omega arith) in
    let y : bit_or (bit_xor (bit_and b 127 + 96) (bit_and b 127 + 1)) b < 2 ^ 8 = or_lt 8 (bit_xor (bit_and b 127 + 96) (bit_and b 127 + 1)) b x l in
    rw (
      t,
      up,
      one,
      xor_block 8 (bit_and w m + s) (bit_and w m + o) (bit_and b 127 + 96) (bit_and b 127 + 1) (omega arith) (omega arith),
      or_block 8 (bit_xor (bit_and w m + s) (bit_and w m + o)) w (bit_xor (bit_and b 127 + 96) (bit_and b 127 + 1)) b x l,
      and_block 8 (bit_or (bit_xor (bit_and w m + s) (bit_and w m + o)) w) h (bit_or (bit_xor (bit_and b 127 + 96) (bit_and b 127 + 1)) b) 128 y (omega arith),
    )

-- the byte m in each of k places
filled_with : ℕ → ℕ → ℕ
filled_with m k = low_first (replicate k m)

asks_each : (k : ℕ) (s : List ℕ) → k ≤ length s → ((j : ℕ) → get_or s j 0 < 256)
    → eqb (asks (filled_with 127 k) (filled_with 96 k) (filled_with 1 k) (filled_with 128 k) (low_first (take k s))) (filled_with 128 k) ≡ every is_text (take k s)
unfolding low_first filled_with
asks_each zero s long each = refl
asks_each (suc k) [] long each = absurd (omega arith)
asks_each (suc k) (b ∷ s) long each =
    go (filled_with 127 k) (filled_with 96 k) (filled_with 1 k) (filled_with 128 k) (low_first (take k s)) (asks_each k s (omega arith) (λ j. each (suc j)))
  where
    turn : (x y : ℕ) → x + 256 * y ≡ y * 256 + x
    turn x y = omega arith

    go : (m n o h w : ℕ) → eqb (asks m n o h w) h ≡ every is_text (take k s)
        → eqb (asks (127 + 256 * m) (96 + 256 * n) (1 + 256 * o) (128 + 256 * h) (b + 256 * w)) (128 + 256 * h) ≡ (is_text b && every is_text (take k s))
    go m n o h w ih =
        let byte : b < 256 = each 0 in
        let small : asks 127 96 1 128 b ≤ 128 = and_le_r (bit_or (bit_xor (bit_and b 127 + 96) (bit_and b 127 + 1)) b) 128 in
        ap (λ (x : ℕ). eqb x (128 + 256 * h)) (rw (turn 127 m, turn 96 n, turn 1 o, turn 128 h, turn b w) (asks_block m n o h w b byte) ∙ sym (turn (asks 127 96 1 128 b) (asks m n o h w)))
        ∙ low_byte (asks 127 96 1 128 b) 128 (asks m n o h w) h (omega arith) (omega arith)
        ∙ ap₂ (λ (x y : Bool). x && y) (byte_asks b byte) ih

-- ---- eight bytes: 7Fh, 60h, 01h and 80h in each place
abbrev pub asks_text : ℕ → Bool
asks_text w =
    eqb (bit_and (bit_or (bit_xor (bit_and w 9187201950435737471 + 6944656592455360608) (bit_and w 9187201950435737471 + 72340172838076673)) w) 9259542123273814144)
    9259542123273814144

pub text_at_once : (s : List ℕ) → length s ≡ 8 → ((j : ℕ) → get_or s j 0 < 256) → asks_text (low_first s) ≡ every is_text s
unfolding low_first filled_with
text_at_once s long each =
    let whole : take 8 s ≡ s = take_all 8 s (omega arith) in
    ap (λ (t : List ℕ). asks_text (low_first t)) (sym whole) ∙ asks_each 8 s (omega arith) each ∙ ap (λ (t : List ℕ). every is_text t) whole
