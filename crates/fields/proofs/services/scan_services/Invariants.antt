-- `fields::services::scan_services`.
use Rattle.std.proofs.Common.{◌≡◌, drop}
use Rattle.fields.specs.Codes.{codes}
use Rattle.fields.specs.Services.{numbers_in, no_services, added}
use Rattle.fields.proofs.ServiceWays.{scanned}
use Rattle.fields.proofs.services.scan_services.Given as goal

abbrev pub invariant-loop-i : goal.invariant-loop-i
invariant-loop-i l = scanned l.scan (drop l.i l.f) ≡ added no_services (numbers_in codes l.f)
