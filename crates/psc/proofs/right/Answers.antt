-- `psc::right`.
use Rattle.std.proofs.Common.{arith, sym, ◌∙◌}
use Rattle.psc.proofs.Ways.{right_long, right_none, right_start, pair_on, pair_ends}
use Rattle.psc.proofs.right.Goals as goal

pub returns-then-table-gt-MOST_ENTRIES : goal.returns-then-table-gt-MOST_ENTRIES
returns-then-table-gt-MOST_ENTRIES c = search right_long

pub returns-in_default : goal.returns-in_default
returns-in_default c = right_none _ (omega (arith, c.in_default.ensures.item.3))

pub loop-pair-init : goal.loop-pair-init
loop-pair-init c =
    let pairs = c.windows-pair-items.ensures in
    rw c.into_iter-pair-iterator.ensures.into_iter_gives (pairs.size, right_start _ _ _ pairs.rest (sym c.in-Some.ensures.value) (omega arith))

pub loop-pair-preserved : goal.loop-pair-preserved
loop-pair-preserved c =
    let step = c.in-Some-pair.ensures.steps in
    let known = c.loop-pair.invariant in
    (step.0 ∙ known.0, pair_on _ _ _ _ _ _ known.1 (rw known.0 at step.1.0) (rw known.0 at step.1.1) step.1.2)

pub returns-then-rises : goal.returns-then-rises
returns-then-rises c =
    let step = c.in-None.ensures.steps in
    let known = c.loop-pair.invariant in
    let ends = pair_ends c.loop-pair.rises _ c.args.table.now c.in-Some.highest.now known.1 (rw known.0 at step.1.0) in
    rw c.if-rises.true at ends

pub returns-else-rises : goal.returns-else-rises
returns-else-rises c =
    let step = c.in-None.ensures.steps in
    let known = c.loop-pair.invariant in
    let ends = pair_ends c.loop-pair.rises _ c.args.table.now c.in-Some.highest.now known.1 (rw known.0 at step.1.0) in
    c.if-rises.false ∙ (rw c.if-rises.false at ends)
