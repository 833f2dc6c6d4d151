-- `fields::services::scan_services`.
use Rattle.std.proofs.Common.{ap, ◌∙◌}
use Rattle.fields.specs.Frame.{or_malformed}
use Rattle.fields.proofs.ServiceWays.{scan_start, scan_on, scan_fails, scan_stops, scan_ends}
use native.Mathlib.Omega.{arith}
use Rattle.fields.proofs.services.scan_services.Goals as goal

pub loop-i-init : goal.loop-i-init
loop-i-init c = scan_start c.args.f.now

pub returns-then-b-le32 : goal.returns-then-b-le32
returns-then-b-le32 c = scan_stops c.args.f.now c.loop-i.scan c.loop-i.i _ c.loop-i.invariant c.finished.result c.loop-i-test.true c.if-b-le32.true c.finished.ensures

pub returns-in_err-scan : goal.returns-in_err-scan
returns-in_err-scan c =
    ap or_malformed c.from_residual.ensures ∙ scan_fails c.args.f.now c.loop-i.scan c.loop-i.i _ c.loop-i.invariant c.behind.result c.loop-i-test.true c.if-b-le32.false c.behind.ensures c.in_err-scan.was

pub loop-i-preserved : goal.loop-i-preserved
loop-i-preserved c = scan_on c.args.f.now c.loop-i.scan c.loop-i.i _ c.loop-i.invariant c.behind.result c.in_ok-scan.scan c.loop-i-test.true c.if-b-le32.false c.behind.ensures c.in_ok-scan.was

pub returns : goal.returns
returns c = scan_ends c.args.f.now c.loop-i.scan c.loop-i.i _ c.loop-i.invariant c.with_word.result (omega arith) c.with_word.ensures
