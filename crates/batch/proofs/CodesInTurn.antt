-- One code in its turn: given exactly under a condition, behind tests that were passed and before those that follow. Over any answers.
-- Assumes nothing.
use Prim.Native.Nat.{ℕ}
use mathlib.Core.Path.{◌≡◌, refl, sym, ap, ◌∙◌}
use mathlib.Core.Bool.{Bool, true, false, cond}
use borrow.Author.Tests.{eqb-true}
use lib.Dec.{eqb}
use Rattle.text.specs.declared.Answer.{Answer}
use Rattle.text.specs.Answers.{answer, or_else}
use Rattle.text.proofs.Booleans.{clash, by_cond}
use Rattle.record.specs.Outcomes.{ExactlyAt}
use Rattle.record.proofs.Turns.{never_given}

-- the condition in other words
pub in_words : {c p : ℕ} {K L : Type 0} {a : Answer} → (K → L) → (L → K) → ExactlyAt c p K a → ExactlyAt c p L a
in_words f g e = record { when = (λ z. f (e.when.0 z), λ l. e.when.1 (g l)); there = e.there }

-- an answer that is never of this code
abbrev pub Never : ℕ → Answer → Type 0
Never c a = a.code ≡ c → ⊥

pub never_or : (c : ℕ) (x y : Answer) → Never c x → Never c y → Never c (or_else x y)
unfolding or_else
never_or c x y n m = by_cond (Never c) (eqb x.code 0) y x (λ e. m) (λ e. n)

module _ {c p : ℕ} where
  -- ---- a test
  -- it gives this code where it holds, or where it does not
  pub at_yes : (t : Bool) (x y : Answer) → x ≡ answer c p → (t ≡ false → Never c y) → ExactlyAt c p (t ≡ true) (cond t x y)
  at_yes true x y e n = record { when = (λ z. refl, λ k. ap (λ (a : Answer). a.code) e); there = λ z. ap (λ (a : Answer). a.place) e }
  at_yes false x y e n = never_given (n refl) (λ k. clash k refl)

  pub at_no : (t : Bool) (x y : Answer) → (t ≡ true → Never c x) → y ≡ answer c p → ExactlyAt c p (t ≡ false) (cond t x y)
  at_no true x y n e = never_given (n refl) (λ k. clash refl k)
  at_no false x y n e = record { when = (λ z. refl, λ k. ap (λ (a : Answer). a.code) e); there = λ z. ap (λ (a : Answer). a.place) e }

  -- it gives another, and this code comes behind it
  pub past_yes : {K : Type 0} (t : Bool) (x y : Answer) → (t ≡ true → ExactlyAt c p K x) → Never c y → ExactlyAt c p ((t ≡ true) × K) (cond t x y)
  past_yes true x y e n = in_words (λ k. (refl, k)) (λ k. k.1) (e refl)
  past_yes false x y e n = never_given n (λ k. clash k.0 refl)

  pub past_no : {K : Type 0} (t : Bool) (x y : Answer) → Never c x → (t ≡ false → ExactlyAt c p K y) → ExactlyAt c p ((t ≡ false) × K) (cond t x y)
  past_no true x y n e = never_given n (λ k. clash refl k.0)
  past_no false x y n e = in_words (λ k. (refl, k)) (λ k. k.1) (e refl)

  -- ---- one answer behind another
  -- it is the second's
  pub second_gives : {K : Type 0} (x y : Answer) → Never c x → ExactlyAt c p K y → ExactlyAt c p ((x.code ≡ 0) × K) (or_else x y)
  unfolding or_else
  second_gives x y n e = in_words (λ k. (eqb-true x.code 0 k.0, k.1)) (λ k. (rw k.0, k.1)) (past_yes (eqb x.code 0) y x (λ t. e) n)

  -- it is the first's
  pub first_gives : {K : Type 0} (x y : Answer) → (c ≡ 0 → ⊥) → ExactlyAt c p K x → Never c y → ExactlyAt c p K (or_else x y)
  unfolding or_else
  first_gives {K} x y other e n =
      by_cond (ExactlyAt c p K) (eqb x.code 0) y x
      (λ t. never_given n (λ k. other (sym (e.when.1 k) ∙ eqb-true x.code 0 t)))
      (λ t. e)

-- what an answer says, it says at its place
pub says_itself : (c : ℕ) (x : Answer) → ExactlyAt c x.place (x.code ≡ c) x
says_itself c x = record { when = (λ z. z, λ z. z); there = λ z. refl }
