-- `posting::brought`.
use Rattle.posting.proofs.Amounts.{no_totals_is, brought_live, brought_cancelled, brought_none}
use Rattle.posting.proofs.brought.Goals as goal

pub returns-in-Live : goal.returns-in-Live
returns-in-Live c = search brought_live

pub returns-in-Cancelled : goal.returns-in-Cancelled
returns-in-Cancelled c = search brought_cancelled

pub returns-in-Malformed : goal.returns-in-Malformed
returns-in-Malformed c = let none = c.default.ensures in search (brought_none, no_totals_is _ none.0 none.1.0 none.1.1.0 none.1.1.1)
