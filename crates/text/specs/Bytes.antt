-- Classes of bytes. A byte is a number below 256.
use Rattle.std.specs.Prelude.{ℕ, List, Bool, ◌&&◌, leb, eqb}
use Rattle.std.specs.List.{list_all, prefix_len}

-- 0 to 9
abbrev pub is_digit : ℕ → Bool
is_digit b = leb 48 b && leb b 57

-- A to Z
abbrev pub is_capital : ℕ → Bool
is_capital b = leb 65 b && leb b 90

-- each byte of a list passes a test
abbrev pub every : (ℕ → Bool) → List ℕ → Bool
every test s = list_all test s

abbrev pub all_digits : List ℕ → Bool
all_digits = every is_digit

-- blank means all spaces
abbrev pub is_space : ℕ → Bool
is_space b = eqb b 32

abbrev pub is_blank : List ℕ → Bool
is_blank = every is_space

abbrev pub is_zero : ℕ → Bool
is_zero b = eqb b 0

-- how many bytes at the front pass a test
abbrev pub run : (ℕ → Bool) → List ℕ → ℕ
run test s = prefix_len test s
