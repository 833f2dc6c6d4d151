-- Fields of CP852 text, and the e-mail. What stands for the text as data is its length.
-- Assumes nothing.
use Rattle.std.specs.Prelude.{ℕ, suc, ◌+◌, ◌-◌, Bool, false, cond, not, ◌&&◌, ◌||◌, List, [], ◌∷◌, get_or, drop, eqb, leb, ltb}
use Rattle.text.specs.Bytes.{every, is_blank, run}
use Rattle.text.specs.Lists.{part}
use Rattle.layout.specs.Layout.{width_of}
use Rattle.fields.specs.Frame.{framed}
use Rattle.fields.specs.declared.reading.Reading.TheVariants.{Absent, Value, Malformed}
use Rattle.fields.specs.Readings.{TextReading, malformed, absent}

-- ---- 4, 7 to 11, 20, 26: bytes 20h-7Eh and 80h-FFh, the first not a space unless the field is blank
abbrev pub is_text : ℕ → Bool
is_text b = leb 32 b && leb b 126 || leb 128 b

-- how many bytes stand before the spaces at the end
unfoldable pub filled : List ℕ → ℕ
filled [] = 0
filled (b ∷ bs) = cond (is_blank (b ∷ bs)) 0 (suc (filled bs))

abbrev pub read_text : ℕ → List ℕ → TextReading
read_text w f = framed Absent Malformed w f (every is_text f && not (eqb (get_or f 0 0) 32)) (Value (filled f))

-- ---- 13: bytes 21h-7Eh and 80h-FFh then only spaces, one "@" that isn't first, and after it a dot that is neither directly behind
-- the "@" nor last. So: some bytes but no "@", the "@", bytes with such a dot but no "@", spaces.
abbrev pub is_plain : ℕ → Bool
is_plain b = (leb 33 b && leb b 126 || leb 128 b) && not (eqb b 64)

unfoldable pub contains : ℕ → List ℕ → Bool
contains x [] = false
contains x (b ∷ bs) = eqb b x || contains x bs

-- where the "@" stands, and what follows it
abbrev pub at_in : List ℕ → ℕ
at_in f = run is_plain f

abbrev pub behind_at : List ℕ → List ℕ
behind_at f = drop (at_in f + 1) f

-- a host: bytes but no "@", then only spaces, with a dot that is neither first nor last
unfoldable pub is_host : List ℕ → Bool
is_host h = contains 46 (part h 1 (run is_plain h - 1)) && is_blank (drop (run is_plain h) h)

unfoldable pub is_mail : List ℕ → Bool
is_mail f = ltb 0 (at_in f) && eqb (get_or f (at_in f) 0) 64 && is_host (behind_at f)

-- how many bytes stand before the spaces
abbrev pub mail_end : List ℕ → ℕ
mail_end f = at_in f + 1 + run is_plain (behind_at f)

abbrev pub read_mail : List ℕ → TextReading
read_mail f = framed Absent Malformed (width_of 13) f (is_mail f) (Value (mail_end f))

-- ---- what the rules ask of such a field
abbrev pub malformed_text : TextReading → Bool
malformed_text r = malformed r

abbrev pub absent_text : TextReading → Bool
absent_text r = absent r
