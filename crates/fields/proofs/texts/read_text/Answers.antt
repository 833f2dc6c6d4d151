-- `fields::texts::read_text`.
use Rattle.std.proofs.Common.{sym, ◌∙◌}
use Rattle.fields.proofs.Frames.{frame_wide}
use Rattle.fields.proofs.TextWays.{text_absent, text_value, text_space, text_no_text}
use Rattle.fields.proofs.texts.read_text.Goals as goal

pub returns-then-f-width : goal.returns-then-f-width
returns-then-f-width c = search frame_wide

pub returns-then-n-eq0 : goal.returns-then-n-eq0
returns-then-n-eq0 c = search text_absent

pub returns-then-f-eq32 : goal.returns-then-f-eq32
returns-then-f-eq32 c = text_space c.args.width c.args.f.now c.filled-n.result c.if-f-width.false c.filled-n.ensures c.if-n-eq0.false c.if-f-eq32.true

pub returns-then-all_text : goal.returns-then-all_text
returns-then-all_text c = text_value c.args.width c.args.f.now c.filled-n.result c.if-f-width.false c.filled-n.ensures c.if-n-eq0.false (sym c.all_text.ensures ∙ c.if-all_text.true) c.if-f-eq32.false

pub returns-else-all_text : goal.returns-else-all_text
returns-else-all_text c = text_no_text c.args.width c.args.f.now c.filled-n.result c.if-f-width.false c.filled-n.ensures c.if-n-eq0.false (sym c.all_text.ensures ∙ c.if-all_text.false)
