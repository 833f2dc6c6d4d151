-- `index::Keyed::find`.
use Rattle.index.proofs.Ways.{find_other, find_out, find_there}
use Rattle.index.proofs.Keyed.find.Goals as goal

pub returns-in_err-key : goal.returns-in_err-key
returns-in_err-key c = rw c.from_residual.ensures (find_other _ _ _ _ c.in_err-key.ensures.cases)

pub returns-in_err-s : goal.returns-in_err-s
returns-in_err-s c = rw c.from_residual-in_err-s.ensures (find_out _ _ _ _ _ c.in_ok-key.ensures.cases.same c.in_err-s.ensures)

pub returns : goal.returns
returns c = find_there _ _ _ _ _ c.in_ok-key.ensures.cases.same _ _ c.in_ok-s.ensures c.place.ensures
