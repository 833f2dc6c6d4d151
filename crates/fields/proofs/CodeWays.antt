-- A code from its word: what the code finds for a word as a number is what the table says of its text.
-- Assumes nothing.
use Prim.Native.Nat.{ℕ, zero, suc, ◌+◌, ◌-◌, ◌*◌, ◌/◌, ◌%◌, ◌≤◌, ◌<◌}
use mathlib.Core.Path.{◌≡◌, refl, sym, ap, ◌∙◌}
use mathlib.Core.Bool.{Bool, true, false, cond, not, ◌&&◌, and-eq-true_iff, and-false, and-true}
use mathlib.Core.List.{List, [], ◌∷◌, ◌++◌}
use mathlib.Core.Logic.{◌⊎◌, inl, inr}
use native.Mathlib.Omega.{arith}
use borrow.Author.Tests.{eq-eqb, ne_eqb, eqb-true, eqb-false, lt-ltb, le-ltb, le-leb, leb-true, ltb-true}
use Rattle.std.specs.Prelude.{Option, Some, None, option_map, position}
use Rattle.std.specs.Option.{option_or}
use lib.Dec.{eqb, leb, ltb, eqb→eq}
use Rattle.text.specs.Bytes.{is_digit}
use Rattle.text.specs.Lists.{same_bytes}
use Rattle.text.specs.Numbers.{digits, decimal, decimal_places_up_to}
use Rattle.text.proofs.Booleans.{clash}
use Rattle.text.proofs.Ranges.{within}
use Rattle.text.proofs.Decimals.{decimal_places_one, decimal_places_are}
use Rattle.fields.specs.Codes.{Code, numbers_from, numbers, codes, number_for}
use Rattle.fields.specs.Scans.{with_byte, key_from, key_of, number_at, unless_0, with_letters}

-- ---- with_byte
pub byte_past : (w b : ℕ) → 256 ≤ w → 65536 ≡ with_byte w b
byte_past w b h = rw (le-ltb w 256 h)

-- ---- the number of a short text
abbrev plain : ℕ → Bool
plain b = leb 33 b && ltb b 256

plain_range : (b : ℕ) → plain b ≡ true → (33 ≤ b) × (b < 256)
plain_range b h = let p = (and-eq-true_iff (leb 33 b) (ltb b 256)).0 h in (leb-true 33 b p.0, ltb-true b 256 p.1)

key_one : (a : ℕ) → key_of (a ∷ []) ≡ cond (plain a) a 65536
unfolding key_from
key_one a = go (plain a)
  where
    go : (t : Bool) → cond t (0 * 256 + a) 65536 ≡ cond t a 65536
    go true = omega arith
    go false = refl

key_two : (a b : ℕ) → key_of (a ∷ b ∷ []) ≡ cond (plain a && plain b) (a * 256 + b) 65536
unfolding key_from
key_two a b = go (plain a) refl
  where
    go : (t : Bool) → plain a ≡ t → with_byte (cond t (0 * 256 + a) 65536) b ≡ cond (t && plain b) (a * 256 + b) 65536
    go true e =
        let r = plain_range a e in
        let same : 0 * 256 + a ≡ a = omega arith in
        rw (same, lt-ltb a 256 r.1)
    go false e = refl

pub key_stuck : (s : List ℕ) → key_from 65536 s ≡ 65536
unfolding key_from
key_stuck [] = refl
key_stuck (b ∷ s) = key_stuck s

key_more : (a b c : ℕ) (s : List ℕ) → key_of (a ∷ b ∷ c ∷ s) ≡ 65536
unfolding key_from
key_more a b c s = ap (λ (k : ℕ). key_from (with_byte k c) s) (key_two a b) ∙ go (plain a) (plain b) refl
  where
    go : (p q : Bool) → plain a ≡ p → key_from (with_byte (cond (p && q) (a * 256 + b) 65536) c) s ≡ 65536
    go true true e = let r = plain_range a e in rw (← byte_past (a * 256 + b) c (omega (arith, r))) (key_stuck s)
    go true false e = key_stuck s
    go false q e = key_stuck s

-- ---- the texts of one byte or two differ exactly if their numbers do, and no longer text has the number of one
abbrev is_short : List ℕ → Bool
is_short [] = false
is_short (a ∷ []) = plain a
is_short (a ∷ b ∷ []) = plain a && plain b
is_short (a ∷ b ∷ c ∷ s) = false

other_bytes : (a b : ℕ) → plain a ≡ true → plain b ≡ false → eqb a b ≡ false
other_bytes a b p q = ne_eqb a b (λ e. clash (ap plain (sym e) ∙ p) q)

one_told : (a : ℕ) (s : List ℕ) → plain a ≡ true → eqb (key_of (a ∷ [])) (key_of s) ≡ same_bytes (a ∷ []) s
unfolding same_bytes key_from
one_told a [] p = let r = plain_range a p in rw (key_one a, p) (ne_eqb a 0 (λ e. omega (arith, r)))
one_told a (x ∷ []) p = rw (key_one a, p, key_one x, and-true (eqb a x)) (go (plain x) refl)
  where
    go : (t : Bool) → plain x ≡ t → eqb a (cond t x 65536) ≡ eqb a x
    go true e = refl
    go false e = let r = plain_range a p in ne_eqb a 65536 (λ z. omega (arith, r)) ∙ sym (other_bytes a x p e)
one_told a (x ∷ y ∷ []) p = rw (key_one a, p, key_two x y, and-false (eqb a x)) (go (plain x) (plain y) refl)
  where
    r : (33 ≤ a) × (a < 256)
    r = plain_range a p

    go : (t u : Bool) → plain x ≡ t → eqb a (cond (t && u) (x * 256 + y) 65536) ≡ false
    go true true e = let q = plain_range x e in ne_eqb a (x * 256 + y) (λ z. omega (arith, r, q))
    go true false e = ne_eqb a 65536 (λ z. omega (arith, r))
    go false u e = ne_eqb a 65536 (λ z. omega (arith, r))
one_told a (x ∷ y ∷ z ∷ s) p = let r = plain_range a p in rw (key_one a, p, key_more x y z s, and-false (eqb a x)) (ne_eqb a 65536 (λ e. omega (arith, r)))

two_told : (a b : ℕ) (s : List ℕ) → plain a ≡ true → plain b ≡ true → eqb (key_of (a ∷ b ∷ [])) (key_of s) ≡ same_bytes (a ∷ b ∷ []) s
unfolding same_bytes key_from
two_told a b s p q = rw (key_two a b, p, q) (go s)
  where
    r : (33 ≤ a) × (a < 256)
    r = plain_range a p

    v : (33 ≤ b) × (b < 256)
    v = plain_range b q

    not_long : eqb (a * 256 + b) 65536 ≡ false
    not_long = ne_eqb (a * 256 + b) 65536 (λ e. omega (arith, r, v))

    both : (x y : ℕ) → (33 ≤ x) × (x < 256) → (33 ≤ y) × (y < 256) → eqb (a * 256 + b) (x * 256 + y) ≡ (eqb a x && (eqb b y && true))
    both x y g h = case (eqb a x) (eqb b y) refl refl
      where
        case : (t u : Bool) → eqb a x ≡ t → eqb b y ≡ u → eqb (a * 256 + b) (x * 256 + y) ≡ (t && (u && true))
        case true true e f = rw (eqb-true a x e, eqb-true b y f) (eq-eqb (x * 256 + y) (x * 256 + y) refl)
        case true false e f = let n = eqb-false b y f in ne_eqb (a * 256 + b) (x * 256 + y) (λ z. n (omega (arith, r, v, g, h, eqb-true a x e)))
        case false u e f = let n = eqb-false a x e in ne_eqb (a * 256 + b) (x * 256 + y) (λ z. n (omega (arith, r, v, g, h)))

    go : (s : List ℕ) → eqb (a * 256 + b) (key_of s) ≡ same_bytes (a ∷ b ∷ []) s
    go [] = ne_eqb (a * 256 + b) 0 (λ e. omega (arith, r))
    go (x ∷ []) = rw (key_one x, and-false (eqb a x)) (case (plain x) refl)
      where
        case : (t : Bool) → plain x ≡ t → eqb (a * 256 + b) (cond t x 65536) ≡ false
        case true e = let g = plain_range x e in ne_eqb (a * 256 + b) x (λ z. omega (arith, r, g))
        case false e = not_long
    go (x ∷ y ∷ []) = rw (key_two x y) (case (plain x) (plain y) refl refl)
      where
        case : (t u : Bool) → plain x ≡ t → plain y ≡ u → eqb (a * 256 + b) (cond (t && u) (x * 256 + y) 65536) ≡ (eqb a x && (eqb b y && true))
        case true true e f = both x y (plain_range x e) (plain_range y f)
        case true false e f = rw (other_bytes b y q f) (not_long ∙ sym (and-false (eqb a x)))
        case false u e f = rw (other_bytes a x p e) not_long
    go (x ∷ y ∷ z ∷ s) = rw (key_more x y z s, and-false (eqb b y), and-false (eqb a x)) not_long

key_told : (t s : List ℕ) → is_short t ≡ true → eqb (key_of t) (key_of s) ≡ same_bytes t s
key_told [] s h = absurd (clash h refl)
key_told (a ∷ []) s h = one_told a s h
key_told (a ∷ b ∷ []) s h = let p = (and-eq-true_iff (plain a) (plain b)).0 h in two_told a b s p.0 p.1
key_told (a ∷ b ∷ c ∷ t) s h = absurd (clash h refl)

-- ---- so the table may be asked by numbers
unfoldable pub all_short : List Code → Bool
all_short [] = true
all_short (c ∷ cs) = is_short c.text && all_short cs

by_key : (table : List Code) (s : List ℕ) → all_short table ≡ true → number_at table (key_of s) ≡ number_for table s
unfolding all_short number_at number_for
by_key [] s h = refl
by_key (c ∷ table) s h =
    let p = (and-eq-true_iff (is_short c.text) (all_short table)).0 h in
    rw (key_told c.text s p.0, by_key table s p.1)

codes_short : all_short codes ≡ true
unfolding all_short codes numbers_from digits decimal_places_up_to
codes_short = refl

pub code_by_key : (s : List ℕ) → number_at codes (key_of s) ≡ number_for codes s
code_by_key s = by_key codes s codes_short

-- ---- number_in
abbrev pub number_in : ℕ → ℕ
number_in w = cond (is_digit (w % 256)) (cond (eqb (w / 256) 0) (w % 256 - 48) (cond (leb 49 (w / 256) && leb (w / 256) 57) ((w / 256 - 48) * 10 + (w % 256 - 48)) 0)) 0

-- the digits of one code
module _ (c : ℕ) (low : 1 ≤ c) where
  one_digit : c ≤ 9 → decimal c ≡ (48 + c) ∷ []
  unfolding digits
  one_digit h = let e : c % 10 ≡ c = omega arith in rw (decimal_places_one 19 c (omega arith), e)

  two_digits : (d : ℕ) → c ≤ 9 → d ≤ 9 → decimal (c * 10 + d) ≡ (48 + c) ∷ (48 + d) ∷ []
  unfolding digits
  two_digits d h l =
      let e₁ : (c * 10 + d) / 10 % 10 ≡ c = omega arith in
      let e₂ : (c * 10 + d) % 10 ≡ d = omega arith in
      rw (decimal_places_are 19 1 (c * 10 + d) (omega arith) (omega arith) (λ s. omega arith), e₁, e₂)

-- a number that is found is one to ninety-nine, and its text has this word
record Found (w c : ℕ) : Type 0 where
  small : c ≤ 99
  key : key_of (decimal c) ≡ w

plain_is : (b : ℕ) → 33 ≤ b → b < 256 → plain b ≡ true
plain_is b h l = rw (le-leb 33 b h, lt-ltb b 256 l)

number_found : (w c : ℕ) → number_in w ≡ c → 1 ≤ c → Found w c
number_found w c e low = go (is_digit (w % 256)) refl (eqb (w / 256) 0) refl (leb 49 (w / 256) && leb (w / 256) 57) refl e
  where
    go : (p : Bool) → is_digit (w % 256) ≡ p → (q : Bool) → eqb (w / 256) 0 ≡ q → (t : Bool) → (leb 49 (w / 256) && leb (w / 256) 57) ≡ t
        → cond p (cond q (w % 256 - 48) (cond t ((w / 256 - 48) * 10 + (w % 256 - 48)) 0)) 0 ≡ c → Found w c
    go true ep true eq t et g =
        let d = (and-eq-true_iff (leb 48 (w % 256)) (leb (w % 256) 57)).0 ep in
        let lo = leb-true 48 (w % 256) d.0 in
        let hi = leb-true (w % 256) 57 d.1 in
        let none = eqb-true (w / 256) 0 eq in
        let is : 48 + c ≡ w = omega arith in
        record { small = omega arith; key = rw (one_digit c low (omega arith), is, key_one w, plain_is w (omega arith) (omega arith)) }
    go true ep false eq true et g =
        let d = (and-eq-true_iff (leb 48 (w % 256)) (leb (w % 256) 57)).0 ep in
        let lo = leb-true 48 (w % 256) d.0 in
        let hi = leb-true (w % 256) 57 d.1 in
        let l = (and-eq-true_iff (leb 49 (w / 256)) (leb (w / 256) 57)).0 et in
        let from = leb-true 49 (w / 256) l.0 in
        let to = leb-true (w / 256) 57 l.1 in
        let first : 48 + (w / 256 - 48) ≡ w / 256 = omega arith in
        let last : 48 + (w % 256 - 48) ≡ w % 256 = omega arith in
        let whole : w / 256 * 256 + w % 256 ≡ w = omega arith in
        record {
          small = omega arith;
          key =
              rw (← g) (rw (two_digits (w / 256 - 48) (omega arith) (w % 256 - 48) (omega arith) (omega arith), first, last, key_two (w / 256) (w % 256))
              (rw (plain_is (w / 256) (omega arith) (omega arith), plain_is (w % 256) (omega arith) (omega arith)) whole));
        }
    go true ep false eq false et g = absurd (omega arith)
    go false ep q eq t et g = absurd (omega arith)

-- and each of them is found
found_number : (c : ℕ) → 1 ≤ c → c ≤ 99 → number_in (key_of (decimal c)) ≡ c
unfolding key_from digits decimal_places_up_to
found_number c low high = eqb→eq _ c (within (λ n. eqb (number_in (key_of (decimal n))) n) 1 99 c tt low (omega arith))

numbers_from_lem : (w n k : ℕ) → 1 ≤ n → n + k ≡ 100 → (number_in w ≡ 0) ⊎ (n ≤ number_in w) → number_at (numbers_from n k) w ≡ number_in w
unfolding numbers_from number_at
numbers_from_lem w n zero low e (inl z) = sym z
numbers_from_lem w n zero low e (inr h) = let f = (number_found w (number_in w) refl (omega arith)).small in absurd (omega arith)
numbers_from_lem w n (suc k) low e h = go (eqb (key_of (decimal n)) w) refl (λ m. numbers_from_lem w (suc n) k (omega arith) (omega arith) m)
  where
    next : eqb (key_of (decimal n)) w ≡ false → (number_in w ≡ 0) ⊎ (n ≤ number_in w) → (number_in w ≡ 0) ⊎ (suc n ≤ number_in w)
    next q (inl z) = inl z
    next q (inr l) = inr (more (eqb (number_in w) n) refl)
      where
        more : (t : Bool) → eqb (number_in w) n ≡ t → suc n ≤ number_in w
        more true t = absurd (eqb-false (key_of (decimal n)) w q (number_found w n (eqb-true (number_in w) n t) low).key)
        more false t = let d = eqb-false (number_in w) n t in omega arith

    go : (t : Bool) → eqb (key_of (decimal n)) w ≡ t → ((number_in w ≡ 0) ⊎ (suc n ≤ number_in w) → number_at (numbers_from (suc n) k) w ≡ number_in w)
        → cond t n (number_at (numbers_from (suc n) k) w) ≡ number_in w
    go true q rest = sym (ap number_in (sym (eqb-true (key_of (decimal n)) w q)) ∙ found_number n low (omega arith))
    go false q rest = rest (next q h)

numbers_at : (w : ℕ) → number_at numbers w ≡ number_in w
numbers_at w = numbers_from_lem w 1 99 (omega arith) refl (go (number_in w))
  where
    go : (n : ℕ) → (n ≡ 0) ⊎ (1 ≤ n)
    go zero = inl refl
    go (suc n) = inr (omega arith)

pub number_is : (w : ℕ) → unless_0 (number_at numbers w) ≡ unless_0 (number_in w)
number_is w = ap unless_0 (numbers_at w)

-- ---- lettered_in: the words of the codes with letters, as the code has them
abbrev pub letter_words : List ℕ
letter_words = 12609 ∷ 12610 ∷ 12612 ∷ 12619 ∷ 12622 ∷ 83 ∷ 77 ∷ 76 ∷ 22604 ∷ []

-- numbers in turn from 100 on
pub letters_are : (w : ℕ) → option_map (λ i. 100 + i) (position (λ k. eqb k w) letter_words) ≡ unless_0 (number_at with_letters w)
unfolding number_at key_from
letters_are w = go (eqb 12609 w) (eqb 12610 w) (eqb 12612 w) (eqb 12619 w) (eqb 12622 w) (eqb 83 w) (eqb 77 w) (eqb 76 w) (eqb 22604 w)
  where
    place : Bool → ℕ → ℕ
    place t n = cond (not t) (1 + n) 0

    first : Bool → Bool → Bool → Bool → Bool → Bool → Bool → Bool → Bool → ℕ
    first a b c d e f g h i = place a (place b (place c (place d (place e (place f (place g (place h (place i 0))))))))

    go : (a b c d e f g h i : Bool)
        → option_map (λ i. 100 + i) (cond (ltb (first a b c d e f g h i) 9) (Some (first a b c d e f g h i)) None)
        ≡ unless_0 (cond a 100 (cond b 101 (cond c 102 (cond d 103 (cond e 104 (cond f 105 (cond g 106 (cond h 107 (cond i 108 0)))))))))
    go true b c d e f g h i = refl
    go false true c d e f g h i = refl
    go false false true d e f g h i = refl
    go false false false true e f g h i = refl
    go false false false false true f g h i = refl
    go false false false false false true g h i = refl
    go false false false false false false true h i = refl
    go false false false false false false false true i = refl
    go false false false false false false false false true = refl
    go false false false false false false false false false = refl

module _ (w : ℕ) (o : Option ℕ) (eo : o ≡ position (λ k. eqb k w) letter_words) where
  pub letters_none : o ≡ None → None ≡ unless_0 (number_at with_letters w)
  letters_none e = rw (sym eo ∙ e) at (letters_are w)

  pub letters_found : (i : ℕ) → o ≡ Some i → Some (100 + i) ≡ unless_0 (number_at with_letters w)
  letters_found i e = rw (sym eo ∙ e) at (letters_are w)

-- ---- code_in: a number, or behind the numbers one with letters
numbers_then : (n k : ℕ) (cs : List Code) (w : ℕ) → 1 ≤ n
    → number_at (numbers_from n k ++ cs) w ≡ cond (ltb 0 (number_at (numbers_from n k) w)) (number_at (numbers_from n k) w) (number_at cs w)
unfolding numbers_from number_at
numbers_then n zero cs w low = refl
numbers_then n (suc k) cs w low = go (eqb (key_of (decimal n)) w) (numbers_then (suc n) k cs w (omega arith))
  where
    go : (t : Bool) → number_at (numbers_from (suc n) k ++ cs) w ≡ cond (ltb 0 (number_at (numbers_from (suc n) k) w)) (number_at (numbers_from (suc n) k) w) (number_at cs w)
        → cond t n (number_at (numbers_from (suc n) k ++ cs) w)
        ≡ cond (ltb 0 (cond t n (number_at (numbers_from (suc n) k) w))) (cond t n (number_at (numbers_from (suc n) k) w)) (number_at cs w)
    go true rest = rw (lt-ltb 0 n low)
    go false rest = rest

pub code_found : (w : ℕ) → option_or (unless_0 (number_at numbers w)) (unless_0 (number_at with_letters w)) ≡ unless_0 (number_at codes w)
unfolding codes
code_found w = sym (ap unless_0 (numbers_then 1 99 with_letters w (omega arith)) ∙ go (number_at numbers w))
  where
    go : (n : ℕ) → unless_0 (cond (ltb 0 n) n (number_at with_letters w)) ≡ option_or (unless_0 n) (unless_0 (number_at with_letters w))
    go zero = refl
    go (suc n) = rw (lt-ltb 0 (suc n) (omega arith), ne_eqb (suc n) 0 (λ q. omega arith))
