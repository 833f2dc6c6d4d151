-- `posting::looked_up`.
use Rattle.std.proofs.Common.{rules, sym, ◌∙◌}
use borrow.Author.Tests.{eqb-false}
use Rattle.posting.proofs.Ways.{file_odd, file_long}
use Rattle.posting.proofs.looked_up.Goals as goal

pub returns-then-not-is_empty : goal.returns-then-not-is_empty
returns-then-not-is_empty c =
    file_odd _ _ _ (λ z. eqb-false _ 0 (sym c.is_empty.ensures ∙ c.if-not-is_empty.true) (c.as_chunks.ensures.back_len ∙ z)) c.refused.ensures

pub returns-then-lines-gt999 : goal.returns-then-lines-gt999
returns-then-lines-gt999 c =
    search (rules, file_long)
