-- `fields::Services/has`.
use mathlib.Core.Path.{refl}
use native.Mathlib.Omega.{arith}
use Rattle.fields.proofs.ServiceWays.{has_not}
use Rattle.fields.specs.Services.{has_code}
use Rattle.fields.proofs.services.Services.has.Goals as goal

pub returns-then-code-lt128 : goal.returns-then-code-lt128
unfolding has_code
returns-then-code-lt128 c = refl

pub returns-else-code-lt128 : goal.returns-else-code-lt128
returns-else-code-lt128 c = has_not c.args.self c.args.code (omega arith) c.if-code-lt128.false
