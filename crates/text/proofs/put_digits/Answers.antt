-- `text::put_digits`.
use native.Mathlib.Omega.{arith}
use mathlib.Core.Path.{refl, sym, ◌∙◌}
use lib.ListN.{length-set}
use Rattle.text.proofs.Loops.{digits_start, digits_on, digits_done}
use Rattle.text.proofs.put_digits.Goals as goal

pub loop-i-init : goal.loop-i-init
loop-i-init c = (omega arith, refl, digits_start c.args.part.now c.args.n)

pub loop-i-preserved : goal.loop-i-preserved
loop-i-preserved c =
    let l = c.loop-i in
    (simp length-set (omega arith), simp length-set l.invariant.1, digits_on l.part l.i l.rest (omega arith) (omega arith) ∙ l.invariant.2)

pub returns : goal.returns
returns c = let l = c.loop-i in sym (digits_done l.part l.i l.rest (omega arith)) ∙ l.invariant.2
