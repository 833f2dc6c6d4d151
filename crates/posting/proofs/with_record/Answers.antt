-- `posting::with_record`.
use Rattle.posting.proofs.Amounts.{small_with}
use Rattle.posting.proofs.with_record.Goals as goal

pub returns : goal.returns
returns c = search small_with
