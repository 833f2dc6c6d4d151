-- `text::short_word`.
use Rattle.std.proofs.Common.{◌∙◌}
use Rattle.text.proofs.Words.{padded_is}
use Rattle.text.proofs.short_word.Goals as goal

pub returns : goal.returns
returns c = c.from_le_bytes.ensures ∙ rw c.copy_from_slice.ensures.after (padded_is c.args.s.now c.requires)
