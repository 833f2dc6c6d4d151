-- `streams::words`: where std cuts the message, its words end.
use Rattle.std.proofs.Common.{Some, None, refl, ◌<◌}
use mathlib.Core.Path.{subst}
use Rattle.std.proofs.lemmas.Str.Pattern.{split_text_parts}
use Rattle.streams.specs.Messages.{WordsOf, os_error}
use Rattle.streams.proofs.words.Goals as goal

pub returns-in-Some : goal.returns-in-Some
returns-in-Some c =
    WordsOf.front c.in-Some.field-0-1.now
    (split_text_parts os_error c.args.message.now (Some (c.in-Some.words, c.in-Some.field-0-1)) c.in-Some.ensures.cases)
    (λ i low. c.in-Some.ensures.cases.2.0 i (subst (λ k. i < k) c.in-Some.ensures.cases.6 low))

pub returns-in-None : goal.returns-in-None
returns-in-None c = WordsOf.all (split_text_parts os_error c.args.message.now None c.in-None.ensures.cases) refl
