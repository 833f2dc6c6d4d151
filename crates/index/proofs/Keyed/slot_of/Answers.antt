-- `index::Keyed::slot_of`.
use Rattle.std.proofs.Common.{rules, arith}
use Rattle.index.proofs.Ways.{walk_none, walk_start, walk_free, walk_found, walk_on, walk_out}
use Rattle.index.proofs.Keyed.slot_of.Goals as goal

pub returns-then-m-eq0 : goal.returns-then-m-eq0
returns-then-m-eq0 c = search walk_none

pub loop-turn-init : goal.loop-turn-init
loop-turn-init c = (search rules, search walk_start)

pub returns-in_default : goal.returns-in_default
returns-in_default c = (walk_free _ _ _ _ _ _ _ _ c.loop-turn.invariant.1 c.loop-turn-test.true c.in_default.ensures, omega arith)

pub returns-then-hit : goal.returns-then-hit
returns-then-hit c = (walk_found _ _ _ _ _ _ _ _ c.loop-turn.invariant.1 c.loop-turn-test.true _ _ c.in-Some.ensures _ c.same-hit.ensures c.if-hit.true, omega arith)

pub loop-turn-preserved : goal.loop-turn-preserved
loop-turn-preserved c =
    (omega arith, walk_on _ _ _ _ _ _ _ _ c.loop-turn.invariant.1 c.loop-turn-test.true _ _ c.in-Some.ensures _ c.same-hit.ensures _ c.next-s.ensures c.if-hit.false)

pub returns : goal.returns
returns c = search walk_out
