-- `layout::field_answer`.
use Rattle.layout.proofs.Ways.{answers_length, answers_there, answers_none}
use Rattle.layout.proofs.field_answer.Goals as goal

pub returns-then-rec-ne399 : goal.returns-then-rec-ne399
returns-then-rec-ne399 c = search answers_length

pub returns-then-not-is_field : goal.returns-then-not-is_field
returns-then-not-is_field c = search answers_none

pub returns : goal.returns
returns c = search answers_there
