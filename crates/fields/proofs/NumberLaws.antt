-- Fields of digits (telephone, variable symbol, serial and pieces): exactly which bytes are a value.
-- Assumes nothing.
use Prim.Native.Nat.{ℕ, ◌<◌}
use mathlib.Core.Path.{◌≡◌, refl, sym}
use mathlib.Core.Bool.{true, ◌&&◌}
use mathlib.Core.Logic.{◌↔◌}
use mathlib.Core.List.{List, ◌∷◌, ◌++◌}
use native.Mathlib.Omega.{arith}
use borrow.Author.Tests.{eqb-true, eq-eqb, ltb-true, lt-ltb}
use lib.Dec.{eqb, ltb}
use lib.ListN.{length, get_or, replicate}
use Rattle.text.specs.Bytes.{all_digits, is_blank}
use Rattle.text.specs.Lists.{part}
use Rattle.text.specs.Numbers.{number_of, digits}
use Rattle.text.proofs.Lists.{spelled}
use Rattle.text.proofs.Numbers.{ten_is, length_digits, digits_all, number_digits, number_below, digits_number}
use Rattle.fields.specs.Numbers.{read_digits, is_telephone, read_telephone, read_symbol, read_count}
use Rattle.fields.specs.declared.reading.Reading.TheVariants.{Absent, Value}
use Rattle.fields.specs.Meanings.{IsDigits, IsCount, IsTelephoneOf}
use Rattle.fields.proofs.ByteLaws.{both_left, both_right, blank_exactly, not_blank, digits_not_blank}
use Rattle.fields.proofs.FrameLaws.{GoodPart, reads_exactly, reads_absent}

digits_is : (w : ℕ) (f : List ℕ) (v : ℕ) → length f ≡ w → all_digits f ≡ true → number_of f ≡ v → IsDigits w f v
digits_is w f v l h e = record {
  bytes = rw (← e) (sym (digits_number w f l h));
  small = rw (ten_is w, ← e) (number_below w f l h);
}

record Written (w : ℕ) (f : List ℕ) (v : ℕ) : Type 0 where
  long : length f ≡ w
  all : all_digits f ≡ true
  number : number_of f ≡ v

is_digits : (w : ℕ) (f : List ℕ) (v : ℕ) → IsDigits w f v → Written w f v
is_digits w f v i = record {
  long = rw i.bytes (length_digits w v);
  all = rw i.bytes (digits_all w v);
  number = rw i.bytes (number_digits w v (rw (ten_is w) at i.small));
}

pub digits_exactly : (w : ℕ) (f : List ℕ) (v : ℕ) → 0 < w → (read_digits w f ≡ Value v) ↔ IsDigits w f v
digits_exactly w f v some =
    let c = reads_exactly w f (all_digits f) (number_of f) v in (
      λ h. let p = c.0 h in digits_is w f v p.0.long p.0.fine (p.1),
      λ i. let k = is_digits w f v i in
          c.1 (record { long = k.long; filled = digits_not_blank f (omega arith) k.all; fine = k.all }, k.number),
    )

pub digits_absent : (w : ℕ) (f : List ℕ) → (read_digits w f ≡ Absent) ↔ (f ≡ replicate w 32)
digits_absent w f = reads_absent w f (all_digits f) (number_of f)

pub symbol_exactly : (f : List ℕ) (v : ℕ) → (read_symbol f ≡ Value v) ↔ IsDigits 10 f v
symbol_exactly f v = digits_exactly 10 f v (omega arith)

pub count_exactly : (f : List ℕ) (v : ℕ) → (read_count f ≡ Value v) ↔ IsCount f v
count_exactly f v =
    let c = reads_exactly 2 f (all_digits f && ltb 0 (number_of f)) (number_of f) v in (
      λ h. let p = c.0 h in
          let k = digits_is 2 f v p.0.long (both_left (all_digits f) _ p.0.fine) p.1 in
          record { bytes = k.bytes; least = omega (arith, ltb-true 0 (number_of f) (both_right (all_digits f) _ p.0.fine)); most = omega (arith, k.small) },
      λ i. let k = is_digits 2 f v (record { bytes = i.bytes; small = omega arith }) in
          c.1 (record { long = k.long; filled = digits_not_blank f (omega arith) k.all; fine = rw (k.all, k.number) (lt-ltb 0 v i.least) }, k.number),
    )

pub count_absent : (f : List ℕ) → (read_count f ≡ Absent) ↔ (f ≡ replicate 2 32)
count_absent f =
    reads_absent 2 f (all_digits f && ltb 0 (number_of f)) (number_of f)

record Call (f d s : List ℕ) : Type 0 where
  long : length f ≡ 20
  first : get_or f 0 0 ≡ 43
  number : part f 1 13 ≡ d
  rest : part f 13 20 ≡ s

call_of_lem : (d s : List ℕ) → length d ≡ 12 → length s ≡ 7 → Call (43 ∷ (d ++ s)) d s
call_of_lem d s ld ls =
    let ed = spelled 12 d ld in
    let es = spelled 7 s ls in
    record { long = rw (ed, es); first = refl; number = rw ed; rest = rw (ed, es) }

call_is : (f : List ℕ) (x : ℕ) → length f ≡ 20 → get_or f 0 0 ≡ x → f ≡ x ∷ (part f 1 13 ++ part f 13 20)
call_is f x l e = rw (← e) (rw (spelled 20 f l))

telephone_is : (f : List ℕ) (v : ℕ) → length f ≡ 20 → is_telephone f ≡ true → number_of (part f 1 13) ≡ v → IsTelephoneOf f v
telephone_is f v l t e =
    let s = spelled 20 f l in
    let plus : eqb (get_or f 0 0) 43 ≡ true = search (both_left, both_right) in
    let all : all_digits (part f 1 13) ≡ true = search (both_left, both_right) in
    let blank : is_blank (part f 13 20) ≡ true = search (both_left, both_right) in
    let k = digits_is 12 (part f 1 13) v (rw s) all e in
    record {
      bytes = rw (← k.bytes, ← (blank_exactly 7 (part f 13 20)).0 (rw s, blank)) (call_is f 43 l (eqb-true (get_or f 0 0) 43 plus));
      small = k.small;
    }

is_telephone_lem : (f : List ℕ) (v : ℕ) → IsTelephoneOf f v → GoodPart 20 f (is_telephone f) × (number_of (part f 1 13) ≡ v)
is_telephone_lem f v i =
    let k = call_of_lem (digits 12 v) (replicate 7 32) (length_digits 12 v) refl in
    let long : length f ≡ 20 = rw i.bytes k.long in
    let plus : get_or f 0 0 ≡ 43 = rw i.bytes in
    let d : part f 1 13 ≡ digits 12 v = rw i.bytes k.number in
    let r : part f 13 20 ≡ replicate 7 32 = rw i.bytes k.rest in
    let n = is_digits 12 (part f 1 13) v (record { bytes = d; small = i.small }) in (
      record {
        long = long;
        filled = not_blank f 0 (omega arith) (λ e. omega arith);
        fine = rw (eq-eqb (get_or f 0 0) 43 plus, n.all) ((blank_exactly 7 (part f 13 20)).1 r).1;
      },
      n.number,
    )

pub telephone_exactly : (f : List ℕ) (v : ℕ) → (read_telephone f ≡ Value v) ↔ IsTelephoneOf f v
telephone_exactly f v =
    let c = reads_exactly 20 f (is_telephone f) (number_of (part f 1 13)) v in (
      λ h. let p = c.0 h in telephone_is f v p.0.long p.0.fine (p.1),
      λ i. c.1 (is_telephone_lem f v i),
    )

pub telephone_absent : (f : List ℕ) → (read_telephone f ≡ Absent) ↔ (f ≡ replicate 20 32)
telephone_absent f =
    let n : ℕ = number_of (part f 1 13) in
    reads_absent 20 f (is_telephone f) n
