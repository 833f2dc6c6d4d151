-- `posting::line_length`.
use Rattle.std.proofs.Common.{rules, arith, ◌≡◌, ◌∙◌, ◌^◌}
use Rattle.std.specs.List.{sum_by}
use Rattle.std.proofs.lemmas.Iterator.{YieldsList-from_slice}
use Rattle.std.proofs.lemmas.Iterator.Adapters.{fits_from_length, at_most_from_yields_List}
use Rattle.posting.proofs.ReportWays.{width, line_widths}
use Rattle.posting.proofs.line_length.Goals as goal

-- seven numbers of at most 20 digits
pub sum-requires-clause-fits : goal.sum-requires-clause-fits
sum-requires-clause-fits c =
    fits_from_length _ _ 7 (2 ^ 64) (at_most_from_yields_List (YieldsList-from_slice c.args.numbers.now cc) (omega (arith, c.told-numbers))) c.map.ensures.closure (omega arith) (λ x r q k. search rules)

pub returns : goal.returns
returns c =
    let widths : c.sum.result ≡ sum_by width c.args.numbers.now = search rules in
    widths ∙ line_widths c.args.numbers.now
