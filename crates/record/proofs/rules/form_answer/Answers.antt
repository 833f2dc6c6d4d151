-- `record::rules::form_answer`: fields 2 to 14, then the others.
use Rattle.std.proofs.Common.{refl, ◌∙◌}
use Rattle.record.specs.Rules.{early_flags, late_flags}
use Rattle.record.proofs.Tables.{refused, passed, groups_join}
use Rattle.record.proofs.rules.form_answer.Goals as goal

pub returns-in_err-early_answer : goal.returns-in_err-early_answer
returns-in_err-early_answer c =
    let r = c.args.read in
    refused _ _ _ _ c.from_residual.ensures.1 c.in_err-early_answer.ensures
    ∙ groups_join 2 15 (early_flags r.when r.address r.street r.contact) (late_flags c.args.fresh r.goods r.marks r.piece r.tail) refl

pub returns : goal.returns
returns c =
    let r = c.args.read in
    passed _ _ _ c.in_ok-early_answer.ensures c.late_answer.ensures
    ∙ groups_join 2 15 (early_flags r.when r.address r.street r.contact) (late_flags c.args.fresh r.goods r.marks r.piece r.tail) refl
