-- `batch::places::Held::add_answer`.
use mathlib.Core.Path.{sym}
use Rattle.batch.proofs.ActionWays.{add_broken, add_repeats, add_strays, add_room, add_full}
use Rattle.batch.proofs.places.Held.add_answer.Goals as goal

pub returns-in_err-check : goal.returns-in_err-check
returns-in_err-check c = add_broken _ _ _ _ _ c.answer-check.ensures _ _ c.in_err-check.was _ c.from_residual.ensures.1

pub returns-then-is_some : goal.returns-then-is_some
returns-then-is_some c = add_repeats _ _ _ _ _ c.answer-check.ensures _ c.in_ok-check.was _ c.field.ensures _ c.place_with.ensures _ (sym c.if-is_some.ensures)

pub returns-then-another : goal.returns-then-another
returns-then-another c = add_strays _ _ _ _ _ c.answer-check.ensures _ c.in_ok-check.was _ c.field.ensures _ c.place_with.ensures (sym c.if-is_some.ensures) _ _ c.another.ensures c.if-another.true

pub returns-then-self-lt401 : goal.returns-then-self-lt401
returns-then-self-lt401 c = add_full _ _ _ _ _ c.answer-check.ensures _ c.in_ok-check.was _ c.field.ensures _ c.place_with.ensures (sym c.if-is_some.ensures) _ _ c.another.ensures c.if-another.false c.if-self-lt401.true

pub returns : goal.returns
returns c = add_room _ _ _ _ _ c.answer-check.ensures _ c.in_ok-check.was _ c.field.ensures _ c.place_with.ensures (sym c.if-is_some.ensures) _ _ c.another.ensures c.if-another.false c.if-self-lt401.false
