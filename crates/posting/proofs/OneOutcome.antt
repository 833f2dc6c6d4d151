-- One outcome only: for the calls that promise `Gives` of an answer in numbers, which settles what is given, and for the two reports, which promise `Report`.
-- Assumes nothing.
use Prim.Native.Nat.{ℕ}
use mathlib.Core.Path.{◌≡◌, sym, ap}
use mathlib.Core.List.{List}
use lib.Dec.{eqb}
use Rattle.std.proofs.Common.{Result, Ok, Err}
use Rattle.text.specs.declared.Refusal.{Refusal}
use Rattle.text.specs.Answers.{answer_of}
use Rattle.text.proofs.Booleans.{clash}
use Rattle.text.proofs.OneOutcome.{gives_once}
use Rattle.text.proofs.Refusals.{refuses, answer_once}
use Rattle.posting.specs.declared.Break.{Break}
use Rattle.posting.specs.declared.Totals.{Totals}
use Rattle.posting.specs.declared.FileAnswer.{FileAnswer}
use Rattle.posting.specs.File.{file_answered}
use Rattle.posting.specs.Report.{Report}

-- totals are no break
not_broken : (t : Totals) (b : Break) → file_answered (Ok t) ≡ file_answered (Err b) → ⊥
not_broken t b same = clash (sym (ap (λ (a : FileAnswer). eqb a.code 0) same)) (refuses b.refusal)

break_once : (b c : Break) → file_answered (Err b) ≡ file_answered (Err c) → b ≡ c
break_once b c same i =
    let told : answer_of b.refusal ≡ answer_of c.refusal = ap (λ (a : FileAnswer). record { code = a.code; place = a.place }) same in
    record { refusal = answer_once b.refusal c.refusal told i; number = (same i).number }

pub file_answered_once : (r s : Result Totals Break) → file_answered r ≡ file_answered s → r ≡ s
file_answered_once (Ok t) (Ok u) same = ap (λ (a : FileAnswer). Ok a.totals) same
file_answered_once (Ok t) (Err c) same = absurd (not_broken t c same)
file_answered_once (Err b) (Ok u) same = absurd (not_broken u b (sym same))
file_answered_once (Err b) (Err c) same = ap Err (break_once b c same)

pub report_once : (f : FileAnswer) (before : List ℕ) (r s : Result ℕ Refusal) (a b : List ℕ) → Report f before r a → Report f before s b → (r ≡ s) × (a ≡ b)
report_once f before r s a b u v = (gives_once _ r s u.answers v.answers, gives_once _ a b u.bytes v.bytes)
