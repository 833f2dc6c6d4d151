-- `closing::first_offence`.
use native.Mathlib.Omega.{arith}
use Rattle.std.proofs.Common.{rules}
use Rattle.closing.proofs.FirstOf.{whole_start}
use Rattle.closing.proofs.Ways.{whole_on, first_broken, none_offends}
use Rattle.closing.proofs.first_offence.Goals as goal

pub loop-i-init : goal.loop-i-init
loop-i-init c = search whole_start

pub returns-in-Some : goal.returns-in-Some
returns-in-Some c = first_broken _ _ c.loop-i.invariant _ c.place_of.ensures c.in-Some.place (omega arith) c.in-Some.is

pub loop-i-preserved : goal.loop-i-preserved
loop-i-preserved c = whole_on _ _ c.loop-i.invariant _ c.place_of.ensures (search rules)

pub returns : goal.returns
returns c = none_offends _ _ c.loop-i.invariant (search rules)
