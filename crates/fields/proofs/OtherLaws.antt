-- Country, the fields that stay blank, status and main consignment: exactly which bytes are which reading.
-- Assumes nothing.
use Prim.Native.Nat.{ℕ, ◌≤◌}
use mathlib.Core.Path.{◌≡◌, refl, sym, ap}
use mathlib.Core.Bool.{Bool, true, false, not, ◌&&◌}
use mathlib.Core.Logic.{◌↔◌}
use mathlib.Core.List.{List, [], ◌∷◌}
use Rattle.std.specs.Prelude.{Ok, Err}
use native.Mathlib.Omega.{arith}
use borrow.Author.Tests.{eqb-true, eq-eqb, leb-true, le-leb}
use lib.Dec.{eqb, leb}
use lib.ListN.{length, get_or, replicate}
use Rattle.text.specs.Bytes.{is_capital}
use Rattle.text.proofs.Lists.{spelled}
use Rattle.ident.specs.declared.Parts.{Parts}
use Rattle.ident.specs.Identifier.{right_id, shape_of, posting_digits}
use Rattle.ident.specs.Calls.{parts_of}
use Rattle.ident.proofs.Facts.{right_facts}
use Rattle.fields.specs.Others.{capitals, is_country, read_country, read_empty, read_status, read_main}
use Rattle.fields.specs.declared.reading.Reading.TheVariants.{Absent, Value}
use Rattle.fields.specs.Readings.{EmptyReading, no_form}
use Rattle.fields.specs.declared.others.StatusReading.TheVariants as Status
use Rattle.fields.specs.Meanings.{IsCountryOf}
use Rattle.fields.proofs.ByteLaws.{both_left, both_right, not_blank}
use Rattle.fields.proofs.FrameLaws.{GoodPart, value_exactly, absent_spaces, reads_exactly, reads_absent}

capital_bounds : (b : ℕ) → is_capital b ≡ true → (65 ≤ b) × (b ≤ 90)
capital_bounds b h = (leb-true 65 b (both_left (leb 65 b) (leb b 90) h), leb-true b 90 (both_right (leb 65 b) (leb b 90) h))

never_cz : (a b : ℕ) → not (eqb a 67 && eqb b 90) ≡ true → a ≡ 67 → b ≡ 90 → ⊥
never_cz a b h ea eb =
    let z : ◌≡◌ {A = Bool} false true = rw (eq-eqb a 67 ea, eq-eqb b 90 eb) at h in
    let y : ◌≡◌ {A = ℕ} 0 1 = cc in
    omega arith

not_cz : (a b : ℕ) → (a ≡ 67 → b ≡ 90 → ⊥) → not (eqb a 67 && eqb b 90) ≡ true
not_cz a b n = go (eqb a 67) (eqb b 90) refl refl
  where
    go : (x y : Bool) → eqb a 67 ≡ x → eqb b 90 ≡ y → not (x && y) ≡ true
    go true true ex ey = absurd (n (eqb-true a 67 ex) (eqb-true b 90 ey))
    go true false ex ey = refl
    go false y ex ey = refl

two : (f : List ℕ) (a b : ℕ) → length f ≡ 2 → get_or f 0 0 ≡ a → get_or f 1 0 ≡ b → f ≡ a ∷ b ∷ []
two f a b l ea eb = rw (← ea, ← eb) (rw (spelled 2 f l))

country_is : (a b : ℕ) → is_country a b ≡ true → (f : List ℕ) → f ≡ a ∷ b ∷ [] → IsCountryOf f a b
country_is a b h f e = record {
  bytes = e;
  first = capital_bounds a (search (both_left, both_right));
  second = capital_bounds b (search (both_left, both_right));
  foreign = never_cz a b (search (both_left, both_right));
}

is_country_lem : (f : List ℕ) (a b : ℕ) → IsCountryOf f a b
    → GoodPart 2 f (is_country (get_or f 0 0) (get_or f 1 0)) × (capitals (get_or f 0 0) (get_or f 1 0) ≡ capitals a b)
is_country_lem f a b i =
    let long : length f ≡ 2 = rw i.bytes in
    let x : get_or f 0 0 ≡ a = rw i.bytes in
    let y : get_or f 1 0 ≡ b = rw i.bytes in
    let cz = not_cz a b i.foreign in (
      record {
        long = long;
        filled = not_blank f 0 (omega arith) (λ e. omega arith);
        fine = rw (x, y, le-leb 65 a i.first.0, le-leb a 90 i.first.1, le-leb 65 b i.second.0, le-leb b 90 i.second.1) cz;
      },
      rw (x, y),
    )

pub country_exactly : (f : List ℕ) (a b : ℕ) → (read_country f ≡ Value (capitals a b)) ↔ IsCountryOf f a b
country_exactly f a b =
    let c = reads_exactly 2 f (is_country (get_or f 0 0) (get_or f 1 0)) (capitals (get_or f 0 0) (get_or f 1 0)) (capitals a b) in (
      λ h. let p = c.0 h in
          let x : get_or f 0 0 ≡ a = ap (λ k. k.0) p.1 in
          let y : get_or f 1 0 ≡ b = ap (λ k. k.1) p.1 in
          country_is a b (rw (x, y) at p.0.fine) f (two f a b p.0.long x y),
      λ i. c.1 (is_country_lem f a b i),
    )

pub country_absent : (f : List ℕ) → (read_country f ≡ Absent) ↔ (f ≡ replicate 2 32)
country_absent f = reads_absent 2 f (is_country (get_or f 0 0) (get_or f 1 0)) (capitals (get_or f 0 0) (get_or f 1 0))

-- ---- 14 and 25: blank
pub empty_exactly : (w : ℕ) (f : List ℕ) → (read_empty w f ≡ Ok tt) ↔ (f ≡ replicate w 32)
empty_exactly w f = absent_spaces (Ok tt) (Err no_form) w f false (Err no_form) differ differ
  where
    differ : ◌≡◌ {A = EmptyReading} (Err no_form) (Ok tt) → ⊥
    differ e = let z : ◌≡◌ {A = ℕ} 0 1 = cc in omega arith

-- ---- 19: two spaces, or "0" and a space
live_not_cancelled : Status.Live ≡ Status.Cancelled → ⊥
live_not_cancelled e = let z : ◌≡◌ {A = ℕ} 0 1 = cc in omega arith

cancelled_not_live : Status.Cancelled ≡ Status.Live → ⊥
cancelled_not_live e = live_not_cancelled (sym e)

malformed_not_live : Status.Malformed ≡ Status.Live → ⊥
malformed_not_live e = let z : ◌≡◌ {A = ℕ} 0 1 = cc in omega arith

malformed_not_cancelled : Status.Malformed ≡ Status.Cancelled → ⊥
malformed_not_cancelled e = let z : ◌≡◌ {A = ℕ} 0 1 = cc in omega arith

pub live_exactly : (f : List ℕ) → (read_status f ≡ Status.Live) ↔ (f ≡ 32 ∷ 32 ∷ [])
live_exactly f = absent_spaces Status.Live Status.Malformed 2 f (eqb (get_or f 0 0) 48 && eqb (get_or f 1 0) 32) Status.Cancelled cancelled_not_live malformed_not_live

pub cancelled_exactly : (f : List ℕ) → (read_status f ≡ Status.Cancelled) ↔ (f ≡ 48 ∷ 32 ∷ [])
cancelled_exactly f =
    let c = value_exactly Status.Live Status.Malformed 2 f (eqb (get_or f 0 0) 48 && eqb (get_or f 1 0) 32) Status.Cancelled Status.Cancelled live_not_cancelled malformed_not_cancelled in (
      λ h. let p = (c.0 h).0 in
          two f 48 32 p.long (eqb-true (get_or f 0 0) 48 (both_left _ _ p.fine)) (eqb-true (get_or f 1 0) 32 (both_right (eqb (get_or f 0 0) 48) _ p.fine)),
      λ e. c.1 (cancelled f e, refl),
    )
  where
    cancelled : (f : List ℕ) → f ≡ 48 ∷ 32 ∷ [] → GoodPart 2 f (eqb (get_or f 0 0) 48 && eqb (get_or f 1 0) 32)
    cancelled f e =
        let x : get_or f 0 0 ≡ 48 = rw e in
        let l : length f ≡ 2 = rw e in
        record { long = l; filled = not_blank f 0 (omega arith) (λ q. omega arith); fine = rw e }

-- ---- 22: a right identifier
right_filled : (f : List ℕ) → right_id f ≡ true → GoodPart 13 f (right_id f)
unfolding shape_of
right_filled f h =
    let r = right_facts f h in
    record { long = r.long; filled = not_blank f 12 (omega arith) (λ e. r.known (ap posting_digits e)); fine = h }

pub main_exactly : (f : List ℕ) (p : Parts) → (read_main f ≡ Value p) ↔ ((right_id f ≡ true) × (parts_of f ≡ p))
main_exactly f p =
    let c = reads_exactly 13 f (right_id f) (parts_of f) p in (
      λ h. let k = c.0 h in (k.0.fine, k.1),
      λ i. c.1 (right_filled f i.0, i.1),
    )

pub main_absent : (f : List ℕ) → (read_main f ≡ Absent) ↔ (f ≡ replicate 13 32)
main_absent f = reads_absent 13 f (right_id f) (parts_of f)
