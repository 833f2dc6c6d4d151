-- Which bytes are such a field, and what they say, in the paper's words: the right-hand sides of the laws `…-exactly`.
-- Those of weight and money are their writings (`Amounts`), that of services is `ServiceTexts: Writes`.
-- Assumes nothing.
use Rattle.std.specs.Prelude.{ℕ, ◌+◌, ◌-◌, ◌*◌, ◌^◌, ◌≤◌, ◌<◌, ◌≡◌, true, List, [], ◌∷◌, ◌++◌, length, get_or, drop, replicate}
use Rattle.text.specs.Bytes.{every}
use Rattle.text.specs.Numbers.{digits}
use Rattle.layout.specs.Layout.{width_of}
use Rattle.fields.specs.Dates.{days_in, real_date}
use Rattle.fields.specs.Texts.{is_text, is_plain}

-- ---- 2: a real Gregorian date in 2000 to 2099, ccyymmdd
pub record IsDate (f : List ℕ) (v : ℕ) : Type 0 where
  pub y : ℕ
  pub m : ℕ
  pub d : ℕ
  pub real : real_date y m d ≡ true
  pub bytes : f ≡ digits 4 y ++ (digits 2 m ++ digits 2 d)
  pub value : v ≡ y * 10000 + m * 100 + d

-- the bounds in the paper's words
pub record Real (y m d : ℕ) : Type 0 where
  pub from : 2000 ≤ y
  pub until : y ≤ 2099
  pub month : 1 ≤ m
  pub months : m ≤ 12
  pub day : 1 ≤ d
  pub days : d ≤ days_in y m

-- ---- 3: hh:mm:ss, hours to 23, minutes and seconds to 59, as seconds from midnight
pub record IsTimeOf (f : List ℕ) (v : ℕ) : Type 0 where
  pub h : ℕ
  pub m : ℕ
  pub s : ℕ
  pub hours : h ≤ 23
  pub minutes : m ≤ 59
  pub seconds : s ≤ 59
  pub bytes : f ≡ digits 2 h ++ 58 ∷ (digits 2 m ++ 58 ∷ digits 2 s)
  pub value : v ≡ h * 3600 + m * 60 + s

-- ---- 4, 7 to 11, 20, 26: bytes 20h-7Eh and 80h-FFh, the first not a space; n of them, the last of these not a space, then only spaces
pub record IsTextOf (w : ℕ) (f : List ℕ) (n : ℕ) : Type 0 where
  pub long : length f ≡ w
  pub bytes : every is_text f ≡ true
  pub some : 0 < n
  pub within : n ≤ w
  pub first : get_or f 0 0 ≡ 32 → ⊥
  pub last : get_or f (n - 1) 0 ≡ 32 → ⊥
  pub spaces : drop n f ≡ replicate (w - n) 32

-- ---- 21, and 5 at home: w digits
pub record IsDigits (w : ℕ) (f : List ℕ) (v : ℕ) : Type 0 where
  pub bytes : f ≡ digits w v
  pub small : v < 10 ^ w

-- ---- 6: two capitals, never CZ
pub record IsCountryOf (f : List ℕ) (a b : ℕ) : Type 0 where
  pub bytes : f ≡ a ∷ b ∷ []
  pub first : (65 ≤ a) × (a ≤ 90)
  pub second : (65 ≤ b) × (b ≤ 90)
  pub foreign : a ≡ 67 → b ≡ 90 → ⊥

-- ---- 5, judged by 6: blank; with a blank country five digits, with another text as in field 4
pub data GoodPostcode (country f : List ℕ) : Type 0 where
  blank : f ≡ replicate 5 32 → GoodPostcode country f
  at_home : (v : ℕ) → country ≡ replicate 2 32 → IsDigits 5 f v → GoodPostcode country f
  abroad : (n : ℕ) → (country ≡ replicate 2 32 → ⊥) → IsTextOf 5 f n → GoodPostcode country f

-- ---- 12: "+", twelve digits, spaces
pub record IsTelephoneOf (f : List ℕ) (v : ℕ) : Type 0 where
  pub bytes : f ≡ 43 ∷ (digits 12 v ++ replicate 7 32)
  pub small : v < 10 ^ 12

-- ---- behind the "@": bytes but no "@" with a dot that is neither first nor last, then only spaces
pub record IsHostOf (h host : List ℕ) : Type 0 where
  pub bytes : h ≡ host ++ replicate (length h - length host) 32
  pub plain : every is_plain host ≡ true
  pub dot : ℕ
  pub is_dot : get_or host dot 0 ≡ 46
  pub behind : 0 < dot
  pub before : dot + 1 < length host

-- ---- 13: bytes 21h-7Eh and 80h-FFh then only spaces, one "@" that isn't first, and after it a dot that is neither directly behind the "@"
-- nor last
pub record IsMailOf (f : List ℕ) (n : ℕ) : Type 0 where
  pub local : List ℕ
  pub host : List ℕ
  pub long : length f ≡ width_of 13
  pub end : n ≡ length local + 1 + length host
  pub bytes : f ≡ local ++ 64 ∷ (host ++ replicate (width_of 13 - n) 32)
  pub local_bytes : every is_plain local ≡ true
  pub host_bytes : every is_plain host ≡ true
  pub not_first : 0 < length local
  pub dot : ℕ
  pub is_dot : get_or host dot 0 ≡ 46
  pub not_behind : 0 < dot
  pub not_last : dot + 1 < length host

-- ---- 23, 24: 01 to 99
pub record IsCount (f : List ℕ) (v : ℕ) : Type 0 where
  pub bytes : f ≡ digits 2 v
  pub least : 1 ≤ v
  pub most : v ≤ 99
