-- `ident::some_above_0`: the last digit above 0 is looked for.
use Rattle.std.proofs.Common.{rules, ◌∙◌}
use Rattle.std.proofs.lemmas.Iterator.Adapters.{YieldsList-from_rev_slice}
use Rattle.std.proofs.lemmas.Iterator.Search.{any_from_yields_List}
use Rattle.ident.proofs.Digits.{above, some_digit}
use Rattle.ident.proofs.some_above_0.Goals as goal

pub returns : goal.returns
returns c = any_from_yields_List above _ _ _ c.any.ensures.ran (YieldsList-from_rev_slice c.args.digits.now (search rules)) (λ x b q k. search rules) ∙ some_digit c.args.digits.now
