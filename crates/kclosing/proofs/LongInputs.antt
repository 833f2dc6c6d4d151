-- Above 999 records the length alone decides: two inputs so long, with as many bytes left over of 401, have the same answer under every text of a
-- table. So of an input that fills the block it is enough to ask about some bytes.
-- Assumes nothing.
use Prim.Native.Nat.{ℕ, ◌%◌, ◌<◌}
use mathlib.Core.Bool.{Bool, true, false, cond}
use mathlib.Core.Path.{◌≡◌, refl, sym, ◌∙◌}
use mathlib.Core.List.{List}
use native.Mathlib.Omega.{arith}
use borrow.Author.Tests.{eqb-true, eqb-false}
use lib.Dec.{eqb}
use lib.ListN.{length}
use Rattle.psc.specs.Table.{right_table, holds}
use Rattle.psc.specs.Text.{table_in}
use Rattle.posting.specs.declared.FileAnswer.{FileAnswer}
use Rattle.posting.specs.File.{refused, file_answer, table_refused, file_check}
use Rattle.posting.specs.Report.{under_text}
use Rattle.posting.proofs.Ways.{file_odd, file_long}
use Rattle.closing.specs.Closing.{closing_answer}
use Rattle.closing.proofs.FirstOf.{refusal_stands}

-- by the bytes that are left over
abbrev long_answer : ℕ → FileAnswer
long_answer over = cond (eqb over 0) (refused 213 0 0) (refused 211 0 0)

-- and behind the table
abbrev long_check : List ℕ → ℕ → FileAnswer
long_check psc over = cond (right_table psc) (long_answer over) table_refused

never_good : (psc : List ℕ) (over : ℕ) → (long_check psc over).code ≡ 0 → ⊥
never_good psc over = go (right_table psc) (eqb over 0)
  where
    go : (right whole : Bool) → (cond right (cond whole (refused 213 0 0) (refused 211 0 0)) table_refused).code ≡ 0 → ⊥
    go true true z = omega arith
    go true false z = omega arith
    go false whole z = omega arith

module _ (psc file : List ℕ) (long : 400599 < length file) where
  file_answer_lem : file_answer (holds psc) file ≡ long_answer (length file % 401)
  file_answer_lem = go (eqb (length file % 401) 0) refl
    where
      go : (b : Bool) → eqb (length file % 401) 0 ≡ b → file_answer (holds psc) file ≡ long_answer (length file % 401)
      go true e =
          let whole : length file % 401 ≡ 0 = eqb-true _ 0 e in
          rw e (sym (file_long (holds psc) file (refused 213 0 0) whole (omega arith) refl))
      go false e = rw e (sym (file_odd (holds psc) file (refused 211 0 0) (eqb-false _ 0 e) refl))

  file_check_lem : file_check psc file ≡ long_check psc (length file % 401)
  unfolding file_check
  file_check_lem = rw file_answer_lem

  long_answer_lem : closing_answer psc file ≡ long_check psc (length file % 401)
  long_answer_lem = refusal_stands psc file (rw file_check_lem (never_good psc (length file % 401))) ∙ file_check_lem

pub by_length : (text file other : List ℕ) → 400599 < length file → 400599 < length other → length file % 401 ≡ length other % 401
    → under_text text (λ psc. closing_answer psc file) ≡ under_text text (λ psc. closing_answer psc other)
by_length text file other h k e = rw (long_answer_lem (table_in text) file h, e, ← long_answer_lem (table_in text) other k)
