-- `posting::checked`.
use Rattle.std.proofs.Common.{rules, Ok, Err, ◌≡◌}
use native.Mathlib.Omega.{arith}
use Rattle.posting.proofs.Amounts.{no_totals_is, totals_small}
use Rattle.posting.proofs.Ways.{so_far_none, so_far_on, line_here, room_here, first_breaks, file_passes, totals_start, totals_on}
use Rattle.posting.proofs.checked.Goals as goal

pub loop-i-init : goal.loop-i-init
loop-i-init c = let none = c.default-totals.ensures in (totals_start _ _ (no_totals_is _ none.0 none.1.0 none.1.1.0 none.1.1.1), so_far_none _ _ _ c.requires.1)

pub overflow_cast-number : goal.overflow_cast-number
overflow_cast-number c = omega (arith, c.requires.0.few, c.requires.0.many)

pub overflow_add-number : goal.overflow_add-number
overflow_add-number c = omega (arith, c.requires.0.few, c.requires.0.many)

pub line_answer-requires : goal.line_answer-requires
line_answer-requires c =
    let so = c.loop-i.invariant.1 in
    (line_here _ _ _ c.requires.0 c.loop-i-test.true, room_here _ _ _ _ _ _ _ c.requires.0 c.requires.1 so c.loop-i-test.true, so.sees)

pub returns-in_err-seen : goal.returns-in_err-seen
returns-in_err-seen c =
    let broken : c.line_answer.result ≡ Err c.in_err-seen.field-0.0.refusal = search rules in
    search (rules, first_breaks _ _ _ _ _ _ _ c.loop-i.invariant.1 _ c.line_answer.ensures (omega (arith, c.requires.0.many)) c.requires.0.whole c.requires.0.few _ broken)

pub with_record_at-totals-requires : goal.with_record_at-totals-requires
with_record_at-totals-requires c =
    (totals_small _ _ _ (omega (arith, c.requires.0.few, c.requires.0.many)) c.loop-i.invariant.0, omega (arith, c.requires.0.whole, c.requires.0.many, c.loop-i-test.true))

pub loop-i-preserved : goal.loop-i-preserved
loop-i-preserved c =
    let taken : c.line_answer.result ≡ Ok c.in_ok-seen.seen = search rules in (
      totals_on _ _ _ _ c.loop-i.invariant.0 c.with_record_at-totals.ensures,
      so_far_on _ _ _ _ _ _ _ c.loop-i.invariant.1 _ c.line_answer.ensures (omega (arith, c.requires.0.many)) _ taken,
    )

pub returns : goal.returns
returns c =
    file_passes _ _ c.requires.0.whole c.requires.0.few _ _ (omega (arith, c.requires.0.many)) (omega (arith, c.requires.0.many)) c.loop-i.invariant.1.unbroken c.loop-i.invariant.0
