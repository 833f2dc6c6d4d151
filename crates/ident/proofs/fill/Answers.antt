-- `ident::fill`.
use Rattle.ident.proofs.Writing.{fill_is}
use Rattle.ident.proofs.fill.Goals as goal

pub returns : goal.returns
returns c = search fill_is
