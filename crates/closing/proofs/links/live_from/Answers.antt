-- `closing::links::live_from`.
use Rattle.std.proofs.Common.{rules}
use Rattle.closing.proofs.LinkWays.{from_none, from_live, from_link, link_read}
use Rattle.closing.proofs.links.live_from.Goals as goal

pub returns-in_err-i : goal.returns-in_err-i
returns-in_err-i c = search (from_none, rules)

pub returns-then-is_live : goal.returns-then-is_live
returns-then-is_live c = search (from_live, rules)

pub returns : goal.returns
returns c = from_link _ _ c.args.at c.in_ok-i.i _ (search rules) c.at.ensures (search rules) c.if-is_live.false c.args.links.now c.requires _ (link_read c.args.links.now c.in_ok-i.i _ _ c.place.ensures c.index-links-i.is (search rules))
