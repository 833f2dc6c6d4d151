-- `posting::check_input`.
use Rattle.posting.proofs.ReportWays.{input_wrong_table, input_long, input_taken}
use Rattle.posting.proofs.check_input.Goals as goal

pub returns-then-not-right : goal.returns-then-not-right
returns-then-not-right c = search input_wrong_table

pub returns-then-input-gt64160 : goal.returns-then-input-gt64160
returns-then-input-gt64160 c = search input_long

pub returns : goal.returns
returns c = search input_taken
