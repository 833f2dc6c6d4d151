-- `record::rules::service_answer`: row for row what the rules have, case for case.
use Rattle.std.proofs.Common.{refl}
use Rattle.record.specs.Rules.{service_rules}
use Rattle.record.proofs.rules.service_answer.Goals as goal

pub returns : goal.returns
returns c = c.first_broken.ensures.by_rows (service_rules c.args.s c.args.f c.args.p) refl
