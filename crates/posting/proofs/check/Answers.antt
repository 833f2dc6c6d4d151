-- `posting::check`.
use Rattle.posting.proofs.Ways.{file_wrong_table, file_looked_up}
use Rattle.posting.proofs.check.Goals as goal

pub returns-then-not-right : goal.returns-then-not-right
returns-then-not-right c = search file_wrong_table

pub returns : goal.returns
returns c = search file_looked_up
