-- `closing::place_of`.
use Rattle.std.proofs.Common.{rules}
use Rattle.posting.specs.File.{records_in}
use Rattle.closing.proofs.LinkWays.{Below, link_some}
use Rattle.closing.proofs.Ways.{place_none, place_earlier, walk_linked, last_inside, place_judged}
use Rattle.closing.proofs.place_of.Goals as goal
use Rattle.closing.proofs.place_of.Goals.{then-not-in_set-via-then-not-in_set, then-not-in_set-via-else-not-in_set+then-is_some}

pub returns-then-not-in_set : goal.returns-then-not-in_set
returns-then-not-in_set c = elim c.then-not-in_set.branch [
  | then-not-in_set-via-then-not-in_set w ↦ place_none _ _ _ c.in_set.ensures (search rules)
  | then-not-in_set-via-else-not-in_set+then-is_some w ↦ place_earlier _ _ _ c.in_set.ensures _ _ c.requires.0 c.requires.1 (search rules) (link_some _ _ _ _ _ _ _ _ c.requires.0.linked c.requires.1 w.place.ensures w.index-links-i.is w.is_some.ensures w.if-is_some.true) c.requires.2
]

pub live_from-last-requires : goal.live_from-last-requires
live_from-last-requires c =
    walk_linked _ _ _ c.in_set.ensures _ _ c.requires.0 c.requires.1 (search rules) (link_some _ _ _ _ _ _ _ _ c.requires.0.linked c.requires.1 c.place.ensures c.index-links-i.is c.is_some.ensures c.if-is_some.false)
    _ _ c.at-rec.ensures (search rules) _ (rw (c.by_main.ensures.0, c.by_main.ensures.1) at c.find-found.ensures)

pub offence-requires : goal.offence-requires
offence-requires c =
    let inside : Below (records_in c.args.records.now.file.now) c.live_from-last.result =
    last_inside _ _ _ c.in_set.ensures _ _ c.requires.0 c.requires.1 (search rules) (link_some _ _ _ _ _ _ _ _ c.requires.0.linked c.requires.1 c.place.ensures c.index-links-i.is c.is_some.ensures c.if-is_some.false)
    _ _ c.at-rec.ensures (search rules) _ (rw (c.by_main.ensures.0, c.by_main.ensures.1) at c.find-found.ensures) _
    c.live_from-last.ensures in
    (c.requires.0.linked, search rules, c.count_in.ensures.1)

pub returns : goal.returns
returns c =
    place_judged _ _ _ c.in_set.ensures _ _ c.requires.0 c.requires.1 (search rules) (link_some _ _ _ _ _ _ _ _ c.requires.0.linked c.requires.1 c.place.ensures c.index-links-i.is c.is_some.ensures c.if-is_some.false)
    _ _ c.at-rec.ensures (search rules) _ (rw (c.by_main.ensures.0, c.by_main.ensures.1) at c.find-found.ensures) _
    c.live_from-last.ensures _ _ c.count_in.ensures c.offence.ensures
