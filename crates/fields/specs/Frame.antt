-- A field reading is either absent, a value, or malformed, as is a part of another width.
-- Assumes nothing.
use Rattle.std.specs.Prelude.{ℕ, Bool, false, ◌≡◌, cond, List, length, eqb, Option, Some, None, is_some}
use Rattle.fields.specs.declared.reading.Reading.{Reading}
use Rattle.fields.specs.declared.reading.Reading.TheVariants.{Absent, Value, Malformed}
use Rattle.text.specs.Bytes.{is_blank}

-- a part f for a field of width w: absent if blank, the value if it is good
unfoldable pub framed : {A : Type 0} → A → A → ℕ → List ℕ → Bool → A → A
framed absent malformed w f good value =
    cond (eqb (length f) w) (cond (is_blank f) absent (cond good value malformed)) malformed

abbrev pub or_malformed : {T : Type 0} → Option T → Reading T
or_malformed None = Malformed
or_malformed (Some v) = Value v

-- the same, where P is what the value is, or none
unfoldable pub IsFramed : {T : Type 0} → ℕ → List ℕ → (Option T → Type 0) → Reading T → Type 0
IsFramed {T = T} w f P r =
    (o : Option T) × (length f ≡ w → is_blank f ≡ false → P o) × (r ≡ framed Absent Malformed w f (is_some o) (or_malformed o))
