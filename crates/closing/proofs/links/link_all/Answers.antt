-- `closing::links::link_all`.
use native.Mathlib.Omega.{arith}
use Rattle.closing.proofs.LinkWays.{none_linked, one_linked, place_low}
use Rattle.closing.proofs.links.link_all.Goals as goal

pub loop-i-init : goal.loop-i-init
loop-i-init c = search none_linked

pub to-requires : goal.to-requires
to-requires c = place_low _ _ _ _ c.live_before.ensures.link (omega arith) c.args.records.now.few

pub loop-i-preserved : goal.loop-i-preserved
loop-i-preserved c = rw c.to.ensures (one_linked _ _ _ _ _ _ _ _ c.requires (omega arith) c.loop-i.invariant c.live_before.ensures)
