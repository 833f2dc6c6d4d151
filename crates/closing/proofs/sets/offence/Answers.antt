-- `closing::sets::offence`.
use mathlib.Core.Path.{◌≡◌}
use lib.ListN.{get_or}
use Rattle.std.proofs.Common.{rules}
use Rattle.std.specs.Prelude.{None}
use Rattle.closing.proofs.LinkWays.{link_read}
use Rattle.closing.proofs.SetWays.{look_start, here_inside, look_on, next_inside, next_less, out_unequal, out_repeated, out_missing, out_whole}
use Rattle.closing.proofs.sets.offence.Goals as goal

pub loop-next-init : goal.loop-next-init
loop-next-init c = (c.requires.1, look_start _ _ _)

pub returns-then-count_in-pieces : goal.returns-then-count_in-pieces
returns-then-count_in-pieces c =
    out_unequal _ _ _ _ _ _ c.loop-next.invariant.1 c.in-Some.i (search rules) _ c.at-rec.ensures _ c.count_in.ensures c.if-count_in-pieces.true

pub loop-next-smaller : goal.loop-next-smaller
loop-next-smaller c =
    let next : c.place-next.result ≡ get_or c.args.links.now c.in-Some.i None = link_read c.args.links.now c.in-Some.i _ _ c.place-next.ensures c.index-links-i.is (search rules) in
    rw (next, c.in-Some.is) (next_less _ _ _ c.requires.0 (here_inside _ _ _ c.loop-next.invariant.0 c.in-Some.is))

pub loop-next-preserved : goal.loop-next-preserved
loop-next-preserved c =
    let next : c.place-next.result ≡ get_or c.args.links.now c.in-Some.i None = link_read c.args.links.now c.in-Some.i _ _ c.place-next.ensures c.index-links-i.is (search rules) in
    rw next (
      next_inside _ _ _ c.requires.0 (here_inside _ _ _ c.loop-next.invariant.0 c.in-Some.is),
      look_on _ _ _ _ _ _ c.loop-next.invariant.1 c.in-Some.i c.in-Some.is _ c.at-rec.ensures _ c.count_in.ensures c.if-count_in-pieces.false _ c.count_in-serial.ensures _ c.requires.0,
    )

pub returns-then-twice : goal.returns-then-twice
returns-then-twice c = out_repeated _ _ _ _ _ _ c.loop-next.invariant.1 c.in_default.is c.if-twice.true

pub returns-then-all_marked : goal.returns-then-all_marked
returns-then-all_marked c = out_whole _ _ _ _ _ _ c.loop-next.invariant.1 c.in_default.is c.if-twice.false (search rules) _ c.all_marked.ensures c.if-all_marked.true

pub returns-else-all_marked : goal.returns-else-all_marked
returns-else-all_marked c = out_missing _ _ _ _ _ _ c.loop-next.invariant.1 c.in_default.is c.if-twice.false (search rules) _ c.all_marked.ensures c.if-all_marked.false
