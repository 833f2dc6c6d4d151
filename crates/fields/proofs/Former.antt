-- Facts that no proof uses now, and that a document has named: of a postcode abroad, of the words of the codes with letters, of the four sizes, and of dates and times.
-- Assumes nothing.
use Prim.Native.Nat.{ℕ, suc, ◌+◌, ◌*◌, ◌≤◌}
use mathlib.Core.Path.{◌≡◌, refl, sym, ◌∙◌}
use mathlib.Core.Bool.{Bool, true, false, cond, not, ◌&&◌, ◌||◌, and_assoc, and-true}
use mathlib.Core.List.{List, [], ◌∷◌}
use native.Mathlib.Omega.{arith}
use borrow.Author.Tests.{eq-eqb, leb-true, le-leb, not-false}
use mir.Syntax.{w64}
use mir.Val.{Fits}
use lib.Dec.{eqb, leb, ltb}
use lib.ListN.{length, get_or, drop}
use Rattle.std.specs.Prelude.{Ok, Err}
use Rattle.text.specs.Bytes.{is_digit, all_digits}
use Rattle.text.specs.Lists.{part}
use Rattle.text.specs.Numbers.{number_of_first}
use Rattle.text.proofs.Booleans.{both}
use Rattle.text.proofs.Lists.{spelled}
use Rattle.text.proofs.Numbers.{few}
use Rattle.fields.specs.Readings.{TextReading, CountryReading, PostcodeReading, no_form}
use Rattle.fields.specs.Dates.{days_in, real_date, year_of, month_of, day_of, read_date, hours_of, minutes_of, seconds_of, has_time_form, is_time, read_time}
use Rattle.fields.specs.Others.{absent_country}
use Rattle.fields.specs.Texts.{read_text}
use Rattle.fields.specs.Postcodes.{foreign, read_postcode}
use Rattle.fields.specs.declared.services.Services.{Services}
use Rattle.fields.specs.Services.{has_code, how_many, several_sizes}
use Rattle.fields.specs.Scans.{key_from, number_at, with_letters}
use Rattle.fields.proofs.CodeWays.{letter_words}
use Rattle.fields.proofs.Ways.{days_few}

pub postcode_abroad : (f : List ℕ) (country : CountryReading) (r : PostcodeReading) (b : Bool) → b ≡ absent_country country
    → (t : TextReading) → b ≡ false → t ≡ read_text 5 f → r ≡ foreign t → r ≡ read_postcode country f
postcode_abroad f country r b eb t away et er = er ∙ rw (← eb, away, et)

-- numbers in turn from n on for the words of a list
unfoldable pub first_at : ℕ → List ℕ → ℕ → ℕ
first_at n [] w = 0
first_at n (k ∷ ks) w = cond (eqb k w) n (first_at (suc n) ks w)

abbrev pub found_from : ℕ → ℕ → ℕ
found_from i w = first_at (100 + i) (drop i letter_words) w

pub letters_start : (w : ℕ) → found_from 0 w ≡ number_at with_letters w
unfolding number_at key_from first_at
letters_start w = refl

abbrev one_more : Bool → ℕ → ℕ
one_more t n = cond t (suc n) n

pub sizes_are : (s : Services) (small medium large extra : Bool) → small ≡ has_code s 105 → medium ≡ has_code s 106 → large ≡ has_code s 107 → extra ≡ has_code s 108
    → (small && medium || (small || medium) && (large || extra) || large && extra) ≡ several_sizes s
unfolding several_sizes how_many
sizes_are s small medium large extra e1 e2 e3 e4 = rw (e1, e2, e3, e4) (go (has_code s 105) (has_code s 106) (has_code s 107) (has_code s 108))
  where
    go : (a b c d : Bool) → (a && b || (a || b) && (c || d) || c && d) ≡ ltb 1 (one_more a (one_more b (one_more c (one_more d 0))))
    go true true true true = refl
    go true true true false = refl
    go true true false true = refl
    go true true false false = refl
    go true false true true = refl
    go true false true false = refl
    go true false false true = refl
    go true false false false = refl
    go false true true true = refl
    go false true true false = refl
    go false true false true = refl
    go false true false false = refl
    go false false true true = refl
    go false false true false = refl
    go false false false true = refl
    go false false false false = refl

-- ---- dates
module _ (y m d : ℕ) where
  pub real_is : (k : ℕ) → 2000 ≤ y → y ≤ 2099 → k ≡ days_in y m → (leb 1 m && leb m 12 && leb 1 d && leb d k) ≡ real_date y m d
  real_is k l h e = rw (e, le-leb 2000 y l, le-leb y 2099 h)

module _ (f : List ℕ) (y m d : ℕ) (a r : Bool) (long : length f ≡ 8) (ea : a ≡ all_digits f) (ya : not a ≡ false)
    (ey : y ≡ number_of_first 16 (part f 0 4)) (em : m ≡ number_of_first 16 (part f 4 6)) (ed : d ≡ number_of_first 16 (part f 6 8)) (er : r ≡ real_date y m d) where
  year : y ≡ year_of f
  year = ey ∙ few f 0 4 (omega arith)

  month : m ≡ month_of f
  month = em ∙ few f 4 6 (omega arith)

  day : d ≡ day_of f
  day = ed ∙ few f 6 8 (omega arith)

  tests : (t : Bool) → r ≡ t → (all_digits f && real_date (year_of f) (month_of f) (day_of f)) ≡ t
  tests t h = rw (← ea, not-false a ya, ← year, ← month, ← day, ← er) h

  pub date_value : r ≡ true → Ok (y * 10000 + m * 100 + d) ≡ read_date f
  unfolding read_date
  date_value h = rw (eq-eqb (length f) 8 long, tests true h, year, month, day)

  pub date_bad : r ≡ false → Err no_form ≡ read_date f
  unfolding read_date
  date_bad h = rw (eq-eqb (length f) 8 long, tests false h)

-- what a real date multiplies and adds up has 64 bits
module _ (y m d : ℕ) (r : Bool) (er : r ≡ real_date y m d) (good : r ≡ true) where
  date_small : (y ≤ 2099) × (m ≤ 12) × (d ≤ 31)
  date_small =
      let p = both (leb 2000 y && leb y 2099 && leb 1 m && leb m 12 && leb 1 d) (leb d (days_in y m)) (sym er ∙ good) in
      let q = both (leb 2000 y && leb y 2099 && leb 1 m && leb m 12) (leb 1 d) p.0 in
      let s = both (leb 2000 y && leb y 2099 && leb 1 m) (leb m 12) q.0 in
      let u = both (leb 2000 y && leb y 2099) (leb 1 m) s.0 in
      let v = both (leb 2000 y) (leb y 2099) u.0 in
      (leb-true y 2099 v.1, leb-true m 12 s.1, omega (arith, leb-true d (days_in y m) p.1, days_few y m))

  pub year_fits : Fits w64 (y * 10000)
  year_fits = record { fits = omega (arith, date_small) }

  pub month_fits : Fits w64 (m * 100)
  month_fits = record { fits = omega (arith, date_small) }

  pub year_month_fits : Fits w64 (y * 10000 + m * 100)
  year_month_fits = record { fits = omega (arith, date_small) }

  pub date_fits : Fits w64 (y * 10000 + m * 100 + d)
  date_fits = record { fits = omega (arith, date_small) }

-- ---- times
pub time_form : (f : List ℕ) (a b c d e g : Bool) → length f ≡ 8 → a ≡ is_digit (get_or f 0 0) → b ≡ is_digit (get_or f 1 0) → c ≡ is_digit (get_or f 3 0) → d ≡ is_digit (get_or f 4 0)
    → e ≡ is_digit (get_or f 6 0) → g ≡ is_digit (get_or f 7 0) → (a && b && eqb (get_or f 2 0) 58 && c && d && eqb (get_or f 5 0) 58 && e && g) ≡ has_time_form f
time_form f a b c d e g long ea eb ec ed ee eg =
    rw (ea, eb, ec, ed, ee, eg, spelled 8 f long) (simp (and_assoc, and-true))

module _ (f : List ℕ) (h m s : ℕ) (a : Bool) (long : length f ≡ 8) (ea : a ≡ has_time_form f) (ya : not a ≡ false)
    (eh : h ≡ number_of_first 16 (part f 0 2)) (em : m ≡ number_of_first 16 (part f 3 5)) (es : s ≡ number_of_first 16 (part f 6 8)) where
  hours : h ≡ hours_of f
  hours = eh ∙ few f 0 2 (omega arith)

  minutes : m ≡ minutes_of f
  minutes = em ∙ few f 3 5 (omega arith)

  seconds : s ≡ seconds_of f
  seconds = es ∙ few f 6 8 (omega arith)

  timely : (t : Bool) → (leb h 23 && leb m 59 && leb s 59) ≡ t → is_time f ≡ t
  timely t g = rw (← ea, not-false a ya, ← hours, ← minutes, ← seconds) g

  pub time_value : (leb h 23 && leb m 59 && leb s 59) ≡ true → Ok (h * 3600 + m * 60 + s) ≡ read_time f
  unfolding read_time
  time_value g = rw (eq-eqb (length f) 8 long, timely true g, hours, minutes, seconds)

  pub time_bad : (leb h 23 && leb m 59 && leb s 59) ≡ false → Err no_form ≡ read_time f
  unfolding read_time
  time_bad g = rw (eq-eqb (length f) 8 long, timely false g)

-- what a time multiplies and adds up has 64 bits
module _ (h m s : ℕ) (good : (leb h 23 && leb m 59 && leb s 59) ≡ true) where
  time_small : (h ≤ 23) × (m ≤ 59) × (s ≤ 59)
  time_small =
      let p = both (leb h 23 && leb m 59) (leb s 59) good in
      let q = both (leb h 23) (leb m 59) p.0 in
      (leb-true h 23 q.0, leb-true m 59 q.1, leb-true s 59 p.1)

  pub hours_fit : Fits w64 (h * 3600)
  hours_fit = record { fits = omega (arith, time_small) }

  pub minutes_fit : Fits w64 (m * 60)
  minutes_fit = record { fits = omega (arith, time_small) }

  pub hours_minutes_fit : Fits w64 (h * 3600 + m * 60)
  hours_minutes_fit = record { fits = omega (arith, time_small) }

  pub time_fits : Fits w64 (h * 3600 + m * 60 + s)
  time_fits = record { fits = omega (arith, time_small) }
