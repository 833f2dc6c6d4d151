-- What the public calls promise.
-- Assumes nothing.
use Rattle.std.specs.Prelude.{ℕ, ◌+◌, ◌%◌, ◌^◌, List, [], ◌∷◌, ◌++◌, Bool, cond, ◌&&◌, ◌||◌, ◌≡◌, length, get_or, ltb, eqb, Result, Ok, Err}
use Rattle.text.specs.declared.Answer.{Answer}
use Rattle.text.specs.declared.Refusal.{Refusal}
use Rattle.text.specs.declared.Refusal.TheVariants.{WrongIdentifier}
use Rattle.text.specs.Answers.{answer, accepted, wrong_length}
use Rattle.text.specs.Lists.{same_bytes}
use Rattle.text.specs.Numbers.{digits}
use Rattle.ident.specs.declared.Parts.{Parts}
use Rattle.ident.specs.Identifier.{right_prefix, last_of, consignor_digits, posting_digits, digits_before, consignor_of, posting_of, weights_for, weighted, check_digit, right_id}

-- what is no right identifier: code 1, place 1
abbrev pub not_right : Answer
not_right = answer 1 1

-- ---- check
abbrev pub Checked : List ℕ → Answer → Type 0
Checked s r = r ≡ cond (right_id s) accepted not_right

-- ---- read: prefix, last byte, consignor (0 for CZ) and posting number
unfoldable pub parts_of : List ℕ → Parts
parts_of s = record {
  first = get_or s 0 0;
  second = get_or s 1 0;
  last = last_of s;
  consignor = consignor_of s;
  posting = posting_of s;
}

abbrev pub Read : List ℕ → Result Parts Refusal → Type 0
Read s r = r ≡ cond (right_id s) (Ok (parts_of s)) (Err WrongIdentifier)

-- ---- write
-- consignor and posting number in their digits
abbrev pub both_numbers : Parts → List ℕ
both_numbers p = digits (consignor_digits p.last) p.consignor ++ digits (posting_digits p.last) p.posting

abbrev pub check_byte : Parts → ℕ
check_byte p = 48 + check_digit (weighted (weights_for (digits_before p.last)) (both_numbers p) % 11)

abbrev pub postfix : ℕ → List ℕ
postfix l = cond (eqb l 90) (67 ∷ l ∷ []) (l ∷ [])

-- the identifier that has these parts
unfoldable pub written : Parts → List ℕ
written p = p.first ∷ p.second ∷ (both_numbers p ++ check_byte p ∷ postfix p.last)

-- some right identifier has these parts
unfoldable pub can_write : Parts → Bool
can_write p =
    right_prefix p.first p.second
    && (ltb 0 (posting_digits p.last)
    && (ltb p.consignor (10 ^ consignor_digits p.last)
    && (ltb p.posting (10 ^ posting_digits p.last)
    && (eqb p.last 90 || (ltb 0 p.consignor && ltb 0 p.posting)))))

-- the lent part `before` and `after` the call that answers r
pub record Written (before : List ℕ) (p : Parts) (r : Answer) (after : List ℕ) : Type 0 where
  pub answers : r ≡ cond (eqb (length before) 13) (cond (can_write p) accepted not_right) wrong_length
  pub bytes : after ≡ cond (eqb (length before) 13 && can_write p) (written p) before

-- ---- same
abbrev pub Compared : List ℕ → List ℕ → Bool → Type 0
Compared a b r = r ≡ same_bytes a b
