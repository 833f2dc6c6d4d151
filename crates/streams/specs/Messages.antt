-- The words of a message of the system.
use Rattle.std.specs.Prelude.{ℕ, ◌<◌, ◌≡◌, ◌≢◌, List, [], ◌∷◌, ◌++◌, length, drop}

-- what std puts between them and the system's number: " (os error "
abbrev pub os_error : List ℕ
os_error = 32 ∷ 40 ∷ 111 ∷ 115 ∷ 32 ∷ 101 ∷ 114 ∷ 114 ∷ 111 ∷ 114 ∷ 32 ∷ []

-- those in front of the first such; of a message that has none, all of it
pub data WordsOf (message words : List ℕ) : Type 0 where
  all : ((xs ys : List ℕ) → message ≢ xs ++ (os_error ++ ys)) → words ≡ message → WordsOf message words
  front : (ys : List ℕ) → message ≡ words ++ (os_error ++ ys) → ((i : ℕ) → i < length words → (rest : List ℕ) → drop i message ≢ os_error ++ rest) → WordsOf message words
