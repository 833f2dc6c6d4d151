-- `psc::right_text`.
use Rattle.psc.proofs.TextWays.{text_refused, text_begins, text_broken, text_room, text_falls, text_on, text_ends}
use Rattle.psc.proofs.right_text.Goals as goal

pub returns-then-not-is_empty : goal.returns-then-not-is_empty
returns-then-not-is_empty c = search text_refused

pub loop-line-init : goal.loop-line-init
loop-line-init c = search text_begins

pub returns-then-not-is_line : goal.returns-then-not-is_line
returns-then-not-is_line c = search text_broken

pub returns-then-n-least : goal.returns-then-n-least
returns-then-n-least c = search text_falls

pub overflow_add-least : goal.overflow_add-least
overflow_add-least c = search text_room

pub loop-line-preserved : goal.loop-line-preserved
loop-line-preserved c = search text_on

pub returns : goal.returns
returns c = search text_ends
