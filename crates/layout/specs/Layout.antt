-- "The record, 399 bytes": its 26 widths, and the field that is asked for.
-- Assumes nothing.
use Rattle.std.specs.Prelude.{ℕ, ◌-◌, Bool, true, ◌&&◌, cond, ◌≡◌, refl, List, [], ◌∷◌, length, get_or, leb, eqb, Result, ⊤}
use Rattle.text.specs.declared.Answer.{Answer}
use Rattle.text.specs.declared.Refusal.{Refusal}
use Rattle.text.specs.Answers.{answer, accepted, wrong_length, answered}
use Rattle.text.specs.Lists.{sum, joined}
use Rattle.layout.specs.Widths.{starts_from, cut}

abbrev pub widths : List ℕ
widths =
    13 ∷ 8 ∷ 8 ∷ 30 ∷ 5 ∷ 2 ∷ 40 ∷ 40 ∷ 40 ∷ 6 ∷ 6 ∷ 20 ∷ 50 ∷ 12 ∷ 6 ∷ 12 ∷ 12 ∷ 30 ∷ 2 ∷ 10 ∷ 10 ∷ 13 ∷ 2 ∷ 2 ∷ 10 ∷ 10 ∷ []

pub whole : sum widths ≡ 399
whole = refl

pub how_many_lem : length widths ≡ 26
how_many_lem = refl

-- where the fields start: each behind the widths before it
abbrev pub starts : List ℕ
starts = starts_from 0 widths

-- how wide field n is, counted from 1; 0 where there is no such field
abbrev pub width_of : ℕ → ℕ
width_of n = get_or (0 ∷ widths) n 0

-- there is a field n
abbrev pub is_field : ℕ → Bool
is_field n = leb 1 n && leb n 26

-- field n of a record, counted from 1; empty for another length and where there is no such field
unfoldable pub field_of : List ℕ → ℕ → List ℕ
field_of rec n = cond (eqb (length rec) 399 && is_field n) (cut widths rec (n - 1)) []

unfoldable pub field_answer : List ℕ → ℕ → Answer
field_answer rec n = cond (eqb (length rec) 399) (cond (is_field n) accepted (answer 210 0)) wrong_length

-- the bytes of a record are its 26 fields, joined
pub record TiledByFields (rec : List ℕ) : Type 0 where
  pub fields : List (List ℕ)
  pub many : length fields ≡ 26
  pub each : (n : ℕ) → is_field n ≡ true → get_or fields (n - 1) [] ≡ field_of rec n
  pub joins : joined fields ≡ rec

-- ---- what the public calls promise
abbrev pub Width : ℕ → ℕ → Type 0
Width n r = r ≡ width_of n

abbrev pub Field : List ℕ → ℕ → List ℕ → Type 0
Field rec n f = f ≡ field_of rec n

abbrev pub FieldAnswered : List ℕ → ℕ → Result ⊤ Refusal → Type 0
FieldAnswered rec n r = answered r ≡ field_answer rec n
