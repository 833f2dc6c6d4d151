-- `closing::any_in_set`.
use native.Mathlib.Omega.{arith}
use mathlib.Core.Path.{◌≡◌, refl, sym, ◌∙◌}
use Rattle.std.proofs.Common.{rules}
use Rattle.std.specs.List.{list_any, range_with_len}
use Rattle.std.proofs.lemmas.Iterator.{YieldsList-from_range}
use Rattle.std.proofs.lemmas.Iterator.Search.{any_from_yields_List}
use Rattle.posting.specs.File.{record_at}
use Rattle.closing.specs.Sets.{in_set}
use Rattle.closing.proofs.Ways.{none_below}
use Rattle.closing.proofs.any_in_set.Goals as goal

pub returns : goal.returns
returns c =
    let any : c.any.result ≡ list_any (λ i. in_set (record_at c.args.records.now.file.now i)) (range_with_len 0 c.len.result) =
    any_from_yields_List (λ i. in_set (record_at c.args.records.now.file.now i)) _ _ _ c.any.ensures.ran (YieldsList-from_range 0 c.len.result c.len.result refl (omega arith)) (λ x b q h. (search rules, search rules)) in
    λ told i l. none_below (λ i. in_set (record_at c.args.records.now.file.now i)) c.len.result (sym any ∙ told) i (omega (arith, c.len.ensures))
