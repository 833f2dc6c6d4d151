-- `closing::links::live_before`.
use Rattle.std.proofs.Common.{rules}
use Rattle.closing.proofs.LinkWays.{before_linked, now_noted}
use Rattle.closing.proofs.links.live_before.Goals as goal

pub live_from-requires : goal.live_from-requires
live_from-requires c =
    before_linked c.args.records.now.file.now c.args.table.now c.args.links.now c.args.i c.put.result c.put.new.table (rw (c.by_main.ensures.0, c.by_main.ensures.1) at c.put.ensures) (search rules) (search rules) (search rules)

pub returns : goal.returns
returns c = now_noted c.args.records.now.file.now c.args.table.now c.args.links.now c.args.i c.put.result c.put.new.table (rw (c.by_main.ensures.0, c.by_main.ensures.1) at c.put.ensures) (search rules) (search rules) c.args.records.now.few _ (search rules)
