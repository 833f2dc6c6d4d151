-- Fields 2 and 3: exactly which eight bytes are a date, and which a time.
-- Assumes nothing.
use Prim.Native.Nat.{ℕ, ◌+◌, ◌*◌}
use mathlib.Core.Path.{◌≡◌, sym}
use mathlib.Core.Bool.{true, ◌&&◌}
use Rattle.std.specs.Prelude.{Ok, Err}
use mathlib.Core.Logic.{◌↔◌}
use mathlib.Core.List.{List, ◌∷◌, ◌++◌}
use native.Mathlib.Omega.{arith}
use borrow.Author.Tests.{eqb-true, eq-eqb, leb-true, le-leb}
use lib.Dec.{eqb}
use lib.ListN.{length, get_or, drop}
use Rattle.text.specs.Bytes.{is_digit, all_digits}
use Rattle.text.specs.Lists.{part}
use Rattle.text.specs.Numbers.{digits}
use Rattle.text.proofs.Lists.{spelled}
use Rattle.text.proofs.Numbers.{every_append, length_digits, digits_all, number_digits, digits_number}
use Rattle.fields.specs.Dates.{days_in, real_date, year_of, month_of, day_of, read_date, hours_of, minutes_of, seconds_of, is_time, read_time}
use Rattle.fields.specs.Readings.{DateReading, TimeReading, no_form}
use Rattle.fields.specs.Meanings.{IsDate, Real, IsTimeOf}
use Rattle.fields.proofs.Ways.{days_few}
use Rattle.fields.proofs.ByteLaws.{both_left, both_right, every_take, every_drop}
use Rattle.fields.proofs.FrameLaws.{chosen_exactly}

pub real_exactly : (y m d : ℕ) → (real_date y m d ≡ true) ↔ Real y m d
real_exactly y m d = (
  λ h. record {
    from = leb-true 2000 y (search (both_left, both_right));
    until = leb-true y 2099 (search (both_left, both_right));
    month = leb-true 1 m (search (both_left, both_right));
    months = leb-true m 12 (search (both_left, both_right));
    day = leb-true 1 d (search (both_left, both_right));
    days = leb-true d (days_in y m) (search (both_left, both_right));
  },
  λ r. rw (le-leb 2000 y r.from, le-leb y 2099 r.until, le-leb 1 m r.month, le-leb m 12 r.months, le-leb 1 d r.day, le-leb d (days_in y m) r.days),
)

no_date : (v : ℕ) → Err no_form ≡ Ok v → ⊥
no_date v e = let z : ◌≡◌ {A = ℕ} 0 1 = cc in omega arith

same_date : (a b : ℕ) → ◌≡◌ {A = DateReading} (Ok a) (Ok b) → a ≡ b
same_date a b e = cc

-- three lists of 4, 2 and 2 in a row
record Row (f a b c : List ℕ) : Type 0 where
  long : length f ≡ 8
  first : part f 0 4 ≡ a
  second : part f 4 6 ≡ b
  third : part f 6 8 ≡ c

row_of : (a b c : List ℕ) → length a ≡ 4 → length b ≡ 2 → length c ≡ 2 → Row (a ++ (b ++ c)) a b c
row_of a b c la lb lc =
    let ea = spelled 4 a la in
    let eb = spelled 2 b lb in
    let ec = spelled 2 c lc in
    record { long = rw (ea, eb, ec); first = rw ea; second = rw (ea, eb); third = rw (ea, eb, ec) }

date_is : (f : List ℕ) (v : ℕ) → length f ≡ 8 → all_digits f ≡ true → real_date (year_of f) (month_of f) (day_of f) ≡ true
    → year_of f * 10000 + month_of f * 100 + day_of f ≡ v → IsDate f v
date_is f v l h r e =
    let s = spelled 8 f l in
    record {
      y = year_of f;
      m = month_of f;
      d = day_of f;
      real = r;
      bytes =
          rw (
            digits_number 4 (part f 0 4) (rw s) (every_take is_digit 4 (drop 0 f) (every_drop is_digit 0 f h)),
            digits_number 2 (part f 4 6) (rw s) (every_take is_digit 2 (drop 4 f) (every_drop is_digit 4 f h)),
            digits_number 2 (part f 6 8) (rw s) (every_take is_digit 2 (drop 6 f) (every_drop is_digit 6 f h)),
          )
          (rw s);
      value = sym e;
    }

is_date_lem : (f : List ℕ) (v : ℕ) → IsDate f v
    → (eqb (length f) 8 ≡ true) × ((all_digits f && real_date (year_of f) (month_of f) (day_of f)) ≡ true) × (◌≡◌ {A = DateReading} (Ok (year_of f * 10000 + month_of f * 100 + day_of f)) (Ok v))
is_date_lem f v i =
    let r = (real_exactly i.y i.m i.d).0 i.real in
    let row = row_of (digits 4 i.y) (digits 2 i.m) (digits 2 i.d) (length_digits 4 i.y) (length_digits 2 i.m) (length_digits 2 i.d) in
    let y-is : year_of f ≡ i.y = rw (i.bytes, row.first) (number_digits 4 i.y (omega arith)) in
    let m-is : month_of f ≡ i.m = rw (i.bytes, row.second) (number_digits 2 i.m (omega arith)) in
    let d-is : day_of f ≡ i.d = rw (i.bytes, row.third) (number_digits 2 i.d (omega (arith, days_few i.y i.m))) in
    let all : all_digits f ≡ true =
    rw (i.bytes, every_append is_digit (digits 4 i.y) (digits 2 i.m ++ digits 2 i.d), every_append is_digit (digits 2 i.m) (digits 2 i.d), digits_all 4 i.y, digits_all 2 i.m, digits_all 2 i.d) in (
      eq-eqb (length f) 8 (rw i.bytes row.long),
      rw (all, y-is, m-is, d-is) i.real,
      rw (y-is, m-is, d-is, i.value),
    )

pub date_exactly : (f : List ℕ) (v : ℕ) → (read_date f ≡ Ok v) ↔ IsDate f v
unfolding read_date
date_exactly f v =
    let c = chosen_exactly (Err no_form) (Ok (year_of f * 10000 + month_of f * 100 + day_of f)) (Ok v) (eqb (length f) 8) (all_digits f && real_date (year_of f) (month_of f) (day_of f)) (no_date v) in (
      λ h. let p = c.0 h in date_is f v (eqb-true (length f) 8 p.0) (both_left (all_digits f) _ p.1) (both_right (all_digits f) _ p.1) (same_date _ v p.2),
      λ i. c.1 (is_date_lem f v i),
    )

-- three lists of 2 with colons between
record Clock (f a b c : List ℕ) : Type 0 where
  long : length f ≡ 8
  first : part f 0 2 ≡ a
  colon : get_or f 2 0 ≡ 58
  second : part f 3 5 ≡ b
  colon' : get_or f 5 0 ≡ 58
  third : part f 6 8 ≡ c

clock_of : (a b c : List ℕ) → length a ≡ 2 → length b ≡ 2 → length c ≡ 2 → Clock (a ++ 58 ∷ (b ++ 58 ∷ c)) a b c
clock_of a b c la lb lc =
    let ea = spelled 2 a la in
    let eb = spelled 2 b lb in
    let ec = spelled 2 c lc in
    record { long = rw (ea, eb, ec); first = rw ea; colon = rw ea; second = rw (ea, eb); colon' = rw (ea, eb); third = rw (ea, eb, ec) }

colons : (f : List ℕ) (x y : ℕ) → length f ≡ 8 → get_or f 2 0 ≡ x → get_or f 5 0 ≡ y → f ≡ part f 0 2 ++ x ∷ (part f 3 5 ++ y ∷ part f 6 8)
colons f x y l ex ey = rw (← ex, ← ey) (rw (spelled 8 f l))

time_is : (f : List ℕ) (v : ℕ) → length f ≡ 8 → is_time f ≡ true → hours_of f * 3600 + minutes_of f * 60 + seconds_of f ≡ v → IsTimeOf f v
time_is f v l t e =
    let s = spelled 8 f l in
    let a : all_digits (part f 0 2) ≡ true = search (both_left, both_right) depth 8 in
    let b : all_digits (part f 3 5) ≡ true = search (both_left, both_right) depth 8 in
    let c : all_digits (part f 6 8) ≡ true = search (both_left, both_right) depth 8 in
    let x : eqb (get_or f 2 0) 58 ≡ true = search (both_left, both_right) depth 8 in
    let y : eqb (get_or f 5 0) 58 ≡ true = search (both_left, both_right) depth 8 in
    record {
      h = hours_of f;
      m = minutes_of f;
      s = seconds_of f;
      hours = leb-true (hours_of f) 23 (search (both_left, both_right) depth 8);
      minutes = leb-true (minutes_of f) 59 (search (both_left, both_right) depth 8);
      seconds = leb-true (seconds_of f) 59 (search (both_left, both_right) depth 8);
      bytes =
          rw (digits_number 2 (part f 0 2) (rw s) a, digits_number 2 (part f 3 5) (rw s) b, digits_number 2 (part f 6 8) (rw s) c)
          (colons f 58 58 l (eqb-true (get_or f 2 0) 58 x) (eqb-true (get_or f 5 0) 58 y));
      value = sym e;
    }

is_time_lem : (f : List ℕ) (v : ℕ) → IsTimeOf f v
    → (eqb (length f) 8 ≡ true) × (is_time f ≡ true) × (◌≡◌ {A = TimeReading} (Ok (hours_of f * 3600 + minutes_of f * 60 + seconds_of f)) (Ok v))
is_time_lem f v i =
    let k = clock_of (digits 2 i.h) (digits 2 i.m) (digits 2 i.s) (length_digits 2 i.h) (length_digits 2 i.m) (length_digits 2 i.s) in
    let a : part f 0 2 ≡ digits 2 i.h = rw i.bytes k.first in
    let b : part f 3 5 ≡ digits 2 i.m = rw i.bytes k.second in
    let c : part f 6 8 ≡ digits 2 i.s = rw i.bytes k.third in
    let x : get_or f 2 0 ≡ 58 = rw i.bytes k.colon in
    let y : get_or f 5 0 ≡ 58 = rw i.bytes k.colon' in
    let h-is : hours_of f ≡ i.h = rw a (number_digits 2 i.h (omega arith)) in
    let m-is : minutes_of f ≡ i.m = rw b (number_digits 2 i.m (omega arith)) in
    let s-is : seconds_of f ≡ i.s = rw c (number_digits 2 i.s (omega arith)) in (
      eq-eqb (length f) 8 (rw i.bytes k.long),
      rw (
        h-is,
        m-is,
        s-is,
        a,
        b,
        c,
        digits_all 2 i.h,
        digits_all 2 i.m,
        digits_all 2 i.s,
        eq-eqb (get_or f 2 0) 58 x,
        eq-eqb (get_or f 5 0) 58 y,
        le-leb i.h 23 i.hours,
        le-leb i.m 59 i.minutes,
        le-leb i.s 59 i.seconds,
      ),
      rw (h-is, m-is, s-is, i.value),
    )

pub time_exactly : (f : List ℕ) (v : ℕ) → (read_time f ≡ Ok v) ↔ IsTimeOf f v
unfolding read_time
time_exactly f v =
    let c = chosen_exactly (Err no_form) (Ok (hours_of f * 3600 + minutes_of f * 60 + seconds_of f)) (Ok v) (eqb (length f) 8) (is_time f) (no_date v) in (
      λ h. let p = c.0 h in time_is f v (eqb-true (length f) 8 p.0) p.1 (same_date _ v p.2),
      λ i. c.1 (is_time_lem f v i),
    )
