-- `batch::test::Walk::mark_addition`.
use mathlib.Core.Path.{refl, sym}
use Rattle.std.proofs.Common.{rules}
use Rattle.batch.proofs.TestWays.{added_refused, added_other, added_twice, added_now}
use Rattle.batch.proofs.test.Walk.mark_addition.Goals as goal

pub returns-then-is_err : goal.returns-then-is_err
returns-then-is_err c = record { marked = added_refused _ _ _ _ _ _ _ _ _ c.answer-check.ensures (sym c.if-is_err.ensures.value); kept = (refl, refl, refl) }

pub returns-then-not-same : goal.returns-then-not-same
returns-then-not-same c = record { marked = search added_other; kept = (refl, refl, refl) }

pub returns-then-is_some : goal.returns-then-is_some
returns-then-is_some c = record { marked = added_twice _ _ _ _ _ _ _ _ _ c.field.ensures _ c.same.ensures c.if-not-same.false c.requires.0 _ _ c.put.ensures (sym c.if-is_some.ensures); kept = (refl, refl, refl) }

pub returns : goal.returns
returns c = record {
  marked = added_now _ _ _ _ _ _ _ _ _ c.field.ensures _ c.same.ensures c.if-not-same.false c.requires.0 _ _ c.put.ensures c.if-file-start-lt401.false _ c.answer-check.ensures (sym c.if-is_err.ensures.value) _ c.another.ensures c.if-another.false (sym c.if-is_some.ensures) _ c.or.ensures;
  kept = (refl, refl, search rules);
}
