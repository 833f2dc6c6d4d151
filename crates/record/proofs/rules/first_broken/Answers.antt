-- `record::rules::first_broken`: what it tells of any rules that say the same, row for row.
use Rattle.std.proofs.lemmas.Grind.{common_steps}
use Rattle.std.proofs.Common.{arith, ◌≡◌, ◌∙◌, get_or, false}
use Rattle.text.specs.declared.Refusal.TheVariants as Refusal
use Rattle.text.specs.Answers.{accepted, answer_of}
use Rattle.record.specs.Table.{first_broken}
use Rattle.record.proofs.Tables.{by_rows}
use Rattle.record.proofs.rules.first_broken.Goals as goal

pub returns-then-broken-clause-by_rows : goal.returns-then-broken-clause-by_rows
returns-then-broken-clause-by_rows c rs e =
    let here : answer_of (get_or c.args.table.now c.loop-broken.broken-index (false, Refusal.WrongIdentifier)).1 ≡ first_broken c.args.table.now = grind (arith, common_steps) in
    here ∙ by_rows c.args.table.now rs e

pub returns-clause-by_rows : goal.returns-clause-by_rows
returns-clause-by_rows c rs e =
    let here : accepted ≡ first_broken c.args.table.now = grind (arith, common_steps) in
    here ∙ by_rows c.args.table.now rs e
