-- `ident::digits_at`.
use Rattle.std.proofs.Common.{rules}
use Rattle.ident.proofs.Eights.{eights, eights_fail}
use Rattle.ident.proofs.digits_at.Goals as goal

pub returns-then-all_digits : goal.returns-then-all_digits
returns-then-all_digits c = search (rules, eights)

pub returns-else-all_digits : goal.returns-else-all_digits
returns-else-all_digits c = search eights_fail
