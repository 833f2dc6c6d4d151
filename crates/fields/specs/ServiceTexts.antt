-- Which texts write a set of services: what the laws of field 18 say in the paper's words, of any table of codes.
-- Assumes nothing.
use Rattle.std.specs.Prelude.{ℕ, ◌-◌, ◌≤◌, ◌≡◌, Bool, true, not, ◌&&◌, List, [], ◌∷◌, ◌++◌, map, length, replicate, leb}
use Rattle.text.specs.Bytes.{every, is_capital}
use Rattle.text.specs.Numbers.{decimal}
use Rattle.layout.specs.Layout.{width_of}
use Rattle.fields.specs.declared.services.Services.{Services}
use Rattle.fields.specs.Texts.{contains}
use Rattle.fields.specs.Codes.{Code, has_number, text_for}
use Rattle.fields.specs.Services.{no_services, with_code}

-- words joined by "+"
unfoldable pub plus_joined : List (List ℕ) → List ℕ
plus_joined [] = []
plus_joined (w ∷ []) = w
plus_joined (w ∷ v ∷ ws) = w ++ 43 ∷ plus_joined (v ∷ ws)

-- the texts of the codes with these numbers, joined
abbrev pub services_text : List Code → List ℕ → List ℕ
services_text table ns = plus_joined (map (text_for table) ns)

-- no code twice
unfoldable pub all_different : List ℕ → Bool
all_different [] = true
all_different (c ∷ cs) = not (contains c cs) && all_different cs

-- codes added to a set, the latest last
unfoldable pub with_codes : Services → List ℕ → Services
with_codes s [] = s
with_codes s (c ∷ cs) = with_codes (with_code s c) cs

abbrev pub services_of : List ℕ → Services
services_of cs = with_codes no_services cs

-- field f is the joined texts of one or more different codes of the table, with spaces behind; ns are their numbers in this order, and s is the set of them
pub record Writes (table : List Code) (f : List ℕ) (s : Services) (ns : List ℕ) : Type 0 where
  pub some : 1 ≤ length ns
  pub codes : every (has_number table) ns ≡ true
  pub different : all_different ns ≡ true
  pub long : length f ≡ width_of 18
  pub text : f ≡ services_text table ns ++ replicate (width_of 18 - length (services_text table ns)) 32
  pub set : s ≡ services_of ns

-- the same as it was said when codes were numbers only: one or more from 1 to 99 in decimal, all different
pub record WritesNumbers (f : List ℕ) (s : Services) (ns : List ℕ) : Type 0 where
  pub some : 1 ≤ length ns
  pub codes : every (λ n. leb 1 n && leb n 99) ns ≡ true
  pub different : all_different ns ≡ true
  pub long : length f ≡ width_of 18
  pub text : f ≡ plus_joined (map decimal ns) ++ replicate (width_of 18 - length (plus_joined (map decimal ns))) 32
  pub set : s ≡ services_of ns

-- such a field is blank, or the joined texts of different codes
pub data GoodServices (table : List Code) (f : List ℕ) : Type 0 where
  blank : f ≡ replicate (width_of 18) 32 → GoodServices table f
  written : (s : Services) (ns : List ℕ) → Writes table f s ns → GoodServices table f

-- two different numbers of a list pass a test
pub record TwoOf (test : ℕ → Bool) (ns : List ℕ) : Type 0 where
  pub one : ℕ
  pub other : ℕ
  pub listed : contains one ns ≡ true
  pub other_listed : contains other ns ≡ true
  pub differ : one ≡ other → ⊥
  pub passes : test one ≡ true
  pub other_passes : test other ≡ true

-- no byte is a letter of a code
abbrev pub no_letters : List ℕ → Bool
no_letters = every (λ b. not (is_capital b))
