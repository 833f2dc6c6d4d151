-- What a right identifier has, by name.
-- Assumes nothing.
use Prim.Native.Nat.{ℕ, ◌+◌}
use mathlib.Core.Path.{◌≡◌}
use mathlib.Core.Bool.{Bool, true, false, not, and-eq-true_iff}
use mathlib.Core.List.{List}
use native.Mathlib.Omega.{arith}
use borrow.Author.Tests.{eqb-true, eq-eqb}
use lib.Dec.{eqb}
use lib.ListN.{length, get_or}
use Rattle.text.specs.Bytes.{all_digits}
use Rattle.text.specs.Lists.{part}
use Rattle.ident.specs.Identifier.{right_prefix, last_of, posting_digits, digits_before, passes, ends_right, right_id}

pub record Right (s : List ℕ) : Type 0 where
  pub long : length s ≡ 13
  pub prefix : right_prefix (get_or s 0 0) (get_or s 1 0) ≡ true
  pub known : posting_digits (last_of s) ≡ 0 → ⊥
  pub digits : all_digits (part s 2 (digits_before (last_of s) + 3)) ≡ true
  pub passing : passes s ≡ true
  pub ending : ends_right s ≡ true

other : (m n : ℕ) → not (eqb m n) ≡ true → m ≡ n → ⊥
other m n t e = let z : ◌≡◌ {A = Bool} false true = rw (eq-eqb m n e) at t in let y : ◌≡◌ {A = ℕ} 0 1 = cc in omega arith

pub right_facts : (s : List ℕ) → right_id s ≡ true → Right s
unfolding right_id
right_facts s h =
    let a = (and-eq-true_iff (eqb (length s) 13) _).0 h in
    let b = (and-eq-true_iff (right_prefix (get_or s 0 0) (get_or s 1 0)) _).0 a.1 in
    let c = (and-eq-true_iff (not (eqb (posting_digits (last_of s)) 0)) _).0 b.1 in
    let d = (and-eq-true_iff (all_digits (part s 2 (digits_before (last_of s) + 3))) _).0 c.1 in
    let e = (and-eq-true_iff (passes s) (ends_right s)).0 d.1 in
    record {
      long = eqb-true (length s) 13 a.0;
      prefix = b.0;
      known = other (posting_digits (last_of s)) 0 c.0;
      digits = d.0;
      passing = e.0;
      ending = e.1;
    }
