-- `text::same`.
use Rattle.std.proofs.Common.{rules}
use Rattle.text.proofs.Chains.{same_is_pointwise}
use Rattle.text.proofs.same.Goals as goal

pub returns : goal.returns
returns c = search (rules, same_is_pointwise)
