-- What a caller has of `read` who lent a table of as many places as any text has lines: refused means text that is otherwise written, accepted that the table
-- of the text stands at the front.
-- Assumes nothing.
use Rattle.std.proofs.Common.{arith, ◌≡◌, refl, sym, ap, ◌∙◌, ℕ, ◌+◌, ◌≤◌, Bool, true, false, List, Result, Ok, Err, leb, length, take, drop}
use Rattle.std.proofs.Math.Seq.{take-append_seam}
use borrow.Author.Tests.{le-leb}
use Rattle.text.specs.declared.Refusal.{Refusal}
use Rattle.text.proofs.Refusals.{not_accepted}
use Rattle.psc.specs.Text.{lines_in, table_in, right_text}
use Rattle.psc.specs.Calls.{TableRead}
use Rattle.psc.proofs.TableLaws.{right_exactly}
use Rattle.psc.proofs.TextLaws.{length_numbers, right_text_table}

module _ (text before : List ℕ) (r : Result ℕ Refusal) (after : List ℕ) (read : TableRead text before r after) (room : 16000 ≤ length before) where
  lines_fit : right_text text ≡ true → leb (lines_in text) (length before) ≡ true
  lines_fit right =
      le-leb (lines_in text) (length before)
      (omega (arith, ((right_exactly (table_in text)).0 (right_text_table text right)).few, length_numbers (lines_in text) text))

  pub read_refused : (e : Refusal) → r ≡ Err e → right_text text ≡ false
  read_refused e refused = go (right_text text) refl
    where
      go : (t : Bool) → right_text text ≡ t → t ≡ false
      go true right = absurd (not_accepted e (sym (rw (refused, right, lines_fit right) at read.answers)))
      go false wrong = refl

  module _ (n : ℕ) (accepts : r ≡ Ok n) where
    pub read_right : right_text text ≡ true
    read_right = go (right_text text) refl
      where
        go : (t : Bool) → right_text text ≡ t → t ≡ true
        go true right = refl
        go false wrong = absurd (let z = ap (λ a. a.code) (rw (accepts, wrong) at read.answers) in omega arith)

    entries_are : n ≡ length (table_in text)
    entries_are = (rw accepts at read.counts) ∙ sym (length_numbers (lines_in text) text)

    pub read_front : take n after ≡ table_in text
    read_front =
        let put = rw (read_right, lines_fit read_right) at read.entries in
        rw (entries_are, put) (take-append_seam (table_in text) (drop (0 + length (table_in text)) before))
