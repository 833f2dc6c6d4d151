-- `kcheck::put_line`: its two ways out are those of any answer by a table that is read from text.
use Rattle.std.proofs.Common.{rules}
use Rattle.posting.specs.Report.{input_answer}
use Rattle.posting.proofs.ReportWays.{text_refused, text_reported}
use Rattle.kcheck.proofs.put_line.Goals as goal

pub returns-in-Ok : goal.returns-in-Ok
returns-in-Ok c = text_reported (λ psc. input_answer psc c.args.input.now) _ _ _ _ c.read.ensures _ _ _ c.requires c.in-Ok.n c.in-Ok.is c.report_input.ensures

pub returns-in-Err : goal.returns-in-Err
returns-in-Err c = text_refused (λ psc. input_answer psc c.args.input.now) _ _ _ _ c.read.ensures _ _ _ c.requires _ c.in-Err.field-0 c.in-Err.is (search rules) c.put_report.ensures
