-- `fields::amounts::grams_in`.
use Rattle.fields.proofs.AmountWays.{kilos_fit, grams_fit, grams_are}
use Rattle.fields.proofs.amounts.grams_in.Goals as goal

pub overflow_mul-result : goal.overflow_mul-result
overflow_mul-result c = search kilos_fit

pub overflow_add-result : goal.overflow_add-result
overflow_add-result c = search grams_fit

pub returns : goal.returns
returns c = search grams_are
