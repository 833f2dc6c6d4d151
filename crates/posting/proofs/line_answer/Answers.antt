-- `posting::line_answer`.
use Rattle.std.proofs.Common.{rules, refl}
use Rattle.text.specs.declared.Refusal.TheVariants as Refusal
use Rattle.posting.proofs.Ways.{line_open, line_breaks, line_repeats, line_strays, line_passes, line_seen, line_refused, line_taken}
use Rattle.posting.proofs.line_answer.Goals as goal

pub returns-then-not-ends_right : goal.returns-then-not-ends_right
returns-then-not-ends_right c =
    line_refused _ _ _ _ _ Refusal.WrongLineEnd _ refl (line_open _ _ _ _ c.requires.0 _ c.ends_right.ensures c.if-not-ends_right.true)

pub returns-in_err-check : goal.returns-in_err-check
returns-in_err-check c =
    line_refused _ _ _ _ _ c.in_err-check.field-0.0 _ (search rules) (line_breaks _ _ _ _ c.requires.0 _ c.ends_right.ensures c.if-not-ends_right.false _ c.answer-check.ensures.0 _ c.in_err-check.was)

pub returns-then-repeated : goal.returns-then-repeated
returns-then-repeated c =
    line_refused _ _ _ _ _ Refusal.Repeated _ refl (line_repeats _ _ _ _ c.requires.0 _ c.ends_right.ensures c.if-not-ends_right.false _ c.answer-check.ensures.0 _ c.in_ok-check.was _ c.repeated.ensures.0 c.if-repeated.true)

pub returns-then-another : goal.returns-then-another
returns-then-another c =
    line_refused _ _ _ _ _ Refusal.OtherConsignor _ refl (line_strays _ _ _ _ c.requires.0 _ c.ends_right.ensures c.if-not-ends_right.false _ c.answer-check.ensures.0 _ c.in_ok-check.was _ c.repeated.ensures.0 c.if-repeated.false _ _ c.requires.2 c.answer-check.ensures.1 _ c.another.ensures c.if-another.true)

pub returns : goal.returns
returns c =
    let passes = line_passes _ _ _ _ c.requires.0 _ c.ends_right.ensures c.if-not-ends_right.false _ c.answer-check.ensures.0 _ c.in_ok-check.was _ c.repeated.ensures.0 c.if-repeated.false _ _ c.requires.2 c.answer-check.ensures.1 _ c.another.ensures c.if-another.false in
    let seen = line_seen _ _ _ _ c.requires.0 _ c.ends_right.ensures c.if-not-ends_right.false _ c.answer-check.ensures.0 _ c.in_ok-check.was _ c.repeated.ensures.0 c.if-repeated.false _ _ c.requires.2 c.answer-check.ensures.1 _ c.another.ensures c.if-another.false _ c.or.ensures in
    line_taken _ _ _ _ _ _ passes c.repeated.ensures.1 seen
