-- `text::number`.
use native.Mathlib.Omega.{arith}
use native.Mathlib.Numerals.{add-one}
use mathlib.Core.Path.{ap, ◌∙◌}
use Rattle.text.specs.Numbers.{number_of}
use Rattle.text.proofs.Loops.{tenfold_fits, digit_fits, number_on, number_ends}
use Rattle.text.proofs.number.Goals as goal

pub overflow_mul-n : goal.overflow_mul-n
overflow_mul-n c = tenfold_fits c.loop-b.n c.loop-b.b-index c.loop-b.invariant.0 (omega arith) (λ e. omega arith)

pub overflow_add-n : goal.overflow_add-n
overflow_add-n c = digit_fits c.loop-b.n c.loop-b.b-index c.loop-b.invariant.0 (omega arith) (λ e. omega arith) _ (omega arith)

pub loop-b-preserved : goal.loop-b-preserved
loop-b-preserved c = (rw add-one (omega arith), search number_on)

pub returns : goal.returns
returns c = number_ends _ c.loop-b.b-index c.loop-b.n _ c.loop-b.invariant.1 (omega arith) ∙ ap number_of c.first_16-b-items.ensures.0
