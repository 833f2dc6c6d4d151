-- `fields::Services/has_several_sizes`.
use mathlib.Core.Path.{ap, ◌∙◌}
use lib.Dec.{ltb}
use Rattle.fields.specs.Services.{several_sizes}
use Rattle.fields.proofs.ServiceWays.{filter_counts}
use Rattle.fields.proofs.services.Services.has_several_sizes.Goals as goal

pub returns : goal.returns
unfolding several_sizes
returns c = ap (ltb 1) (c.how_many.ensures ∙ filter_counts _ _)
