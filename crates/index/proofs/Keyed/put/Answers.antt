-- `index::Keyed::put`.
use Rattle.index.proofs.Ways.{put_keyless, put_full, put_noted}
use Rattle.index.proofs.Keyed.put.Goals as goal

pub returns-in_err-key : goal.returns-in_err-key
returns-in_err-key c = rw c.from_residual.ensures (put_keyless _ _ _ _ c.in_err-key.ensures)

pub returns-in_err-s : goal.returns-in_err-s
returns-in_err-s c = rw c.from_residual-in_err-s.ensures (put_full _ _ _ _ _ c.in_ok-key.ensures c.in_err-s.ensures)

pub returns : goal.returns
returns c = put_noted _ _ _ _ _ c.in_ok-key.ensures _ _ _ c.in_ok-s.ensures c.place-before.ensures c.note.ensures
