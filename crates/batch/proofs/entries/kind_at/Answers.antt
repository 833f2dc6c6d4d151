-- `batch::entries::kind_at`.
use Rattle.batch.proofs.JournalWays.{kind_one, kind_two, kind_three, kind_none}
use Rattle.batch.proofs.entries.kind_at.Goals as goal

pub returns-then-starts_entry : goal.returns-then-starts_entry
returns-then-starts_entry c = search kind_one

pub returns-then-starts_entry-2 : goal.returns-then-starts_entry-2
returns-then-starts_entry-2 c = search kind_two

pub returns-then-starts_entry-3 : goal.returns-then-starts_entry-3
returns-then-starts_entry-3 c = search kind_three

pub returns : goal.returns
returns c = search kind_none
