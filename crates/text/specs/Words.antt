-- Several bytes as one number, the first the least.
use Rattle.std.specs.Int.{w64, from_le_bytes}
use Rattle.std.specs.Prelude.{ℕ, ◌+◌, ◌*◌, List, [], ◌∷◌, take}

unfoldable pub low_first : List ℕ → ℕ
low_first [] = 0
low_first (b ∷ bs) = b + 256 * low_first bs

-- the word at the front: of eight bytes, or of as many as there are
abbrev pub word_of : List ℕ → ℕ
word_of s = low_first (take 8 s)

-- eight bytes as the library's word, which is theirs
abbrev pub eight_in : List ℕ → ℕ
eight_in s = from_le_bytes w64 s
