-- `fields::services::lettered_in`.
use Rattle.std.proofs.Common.{◌∙◌}
use Rattle.fields.proofs.CodeWays.{letters_none, letters_found}
use Rattle.fields.proofs.services.lettered_in.Goals as goal

pub returns-in_err-i : goal.returns-in_err-i
returns-in_err-i c = c.from_residual.ensures ∙ letters_none c.args.word c.place_in.result c.place_in.ensures.place c.in_err-i.was

pub returns : goal.returns
returns c = letters_found c.args.word c.place_in.result c.place_in.ensures.place c.in_ok-i.i c.in_ok-i.was
