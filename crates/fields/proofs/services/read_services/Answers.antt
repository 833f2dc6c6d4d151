-- `fields::services::read_services`.
use Rattle.std.proofs.Common.{rules}
use Rattle.fields.proofs.ServiceWays.{services_are}
use Rattle.fields.proofs.services.read_services.Goals as goal

pub returns : goal.returns
returns c = services_are c.args.f.now _ c.framed.result c.framed.ensures (λ o p. search rules)
