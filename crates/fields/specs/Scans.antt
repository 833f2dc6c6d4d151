-- The scan of field 18 in one pass, a byte at a time, as the code does it. `Services` says what it means.
-- Assumes nothing.
use Rattle.std.specs.Prelude.{ℕ, ◌+◌, ◌*◌, cond, not, ◌&&◌, List, [], ◌∷◌, ◌++◌, eqb, leb, ltb, Option, Some, None, option_map}
use Rattle.text.specs.Bytes.{is_blank}
use Rattle.fields.specs.declared.services.Scan.{Scan}
use Rattle.fields.specs.declared.services.Services.{Services}
use Rattle.fields.specs.Codes.{Code, lettered, sizes, codes, is_code}
use Rattle.fields.specs.Services.{has_code, with_code}

-- ---- a word as one number, its bytes as places of 256: 0 for none yet, 65536 for a word that is no code by its length or a byte of it
abbrev pub with_byte : ℕ → ℕ → ℕ
with_byte w b = cond (ltb w 256 && (leb 33 b && ltb b 256)) (w * 256 + b) 65536

unfoldable pub key_from : ℕ → List ℕ → ℕ
key_from w [] = w
key_from w (b ∷ bs) = key_from (with_byte w b) bs

abbrev pub key_of : List ℕ → ℕ
key_of t = key_from 0 t

-- the number of the code whose text is this word; 0 for none
unfoldable pub number_at : List Code → ℕ → ℕ
number_at [] w = 0
number_at (c ∷ cs) w = cond (eqb (key_of c.text) w) c.number (number_at cs w)

-- such a number, where there is one
abbrev pub unless_0 : ℕ → Option ℕ
unless_0 n = cond (eqb n 0) None (Some n)

-- those whose texts have letters
abbrev pub with_letters : List Code
with_letters = lettered ++ sizes

-- ---- the numbers of the codes that the bytes write, behind those of a word
unfoldable pub codes_from : ℕ → List ℕ → List ℕ
codes_from w [] = number_at codes w ∷ []
codes_from w (b ∷ bs) =
    cond (leb b 32) (cond (is_blank (b ∷ bs)) (number_at codes w) 0 ∷ [])
    (cond (eqb b 43) (number_at codes w ∷ codes_from 0 bs) (codes_from (with_byte w b) bs))

-- ---- the scan
abbrev pub scan_of : Services → ℕ → Scan
scan_of s w = record { services = s; word = w }

-- the set with one code more; none where it is no code, or is there already
unfoldable pub added_one : Services → ℕ → Option Services
added_one s c = cond (is_code c && not (has_code s c)) (Some (with_code s c)) None

-- behind a "+" the code has joined the others, or was no good
unfoldable pub behind_byte : Scan → ℕ → Option Scan
behind_byte s b =
    cond (eqb b 43) (option_map (λ t. scan_of t 0) (added_one s.services (number_at codes s.word))) (Some (scan_of s.services (with_byte s.word b)))

unfoldable pub finished : Scan → List ℕ → Option Services
finished s rest = cond (is_blank rest) (added_one s.services (number_at codes s.word)) None
