-- One outcome only, for `read`: the result and the lent table. `right` and `find` promise `Gives`.
-- Assumes nothing.
use Rattle.std.proofs.Common.{◌≡◌, ℕ, List, sym, ap, ◌∙◌, Result, Ok, Err, IfOk}
use Rattle.text.specs.declared.Refusal.{Refusal}
use Rattle.text.specs.Answers.{answered}
use Rattle.text.proofs.OneOutcome.{gives_once}
use Rattle.text.proofs.Refusals.{answer_once, not_accepted}
use Rattle.psc.specs.Calls.{TableRead}

-- two results of one answer, which give the same number where they give one, are the same
result_once : (n : ℕ) (r s : Result ℕ Refusal) → answered r ≡ answered s → IfOk r (λ k. k ≡ n) → IfOk s (λ k. k ≡ n) → r ≡ s
result_once n (Ok x) (Ok y) same x_is y_is = ap Ok (x_is ∙ sym y_is)
result_once n (Ok x) (Err e) same x_is y_is = absurd (not_accepted e same)
result_once n (Err e) (Ok y) same x_is y_is = absurd (not_accepted e (sym same))
result_once n (Err e) (Err f) same x_is y_is = ap Err (answer_once e f same)

pub table_read_once : (text before : List ℕ) (r s : Result ℕ Refusal) (a b : List ℕ) → TableRead text before r a → TableRead text before s b → (r ≡ s) × (a ≡ b)
table_read_once text before r s a b u v = (
  result_once _ r s (u.answers ∙ sym v.answers) u.counts v.counts,
  gives_once _ a b u.entries v.entries,
)
