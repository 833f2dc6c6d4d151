-- `index::Keyed::named`.
use Rattle.std.proofs.Common.{arith, ◌≡◌, ◌+◌}
use Rattle.index.proofs.Ways.{named_empty, named_lacks, named_there}
use Rattle.index.proofs.Keyed.named.Goals as goal

pub returns-in_err-i : goal.returns-in_err-i
returns-in_err-i c = rw c.from_residual.ensures (named_empty _ _ _ _ c.from.ensures c.in_err-i.ensures)

pub returns-in_err-key : goal.returns-in_err-key
returns-in_err-key c =
    let place : c.args.slot ≡ c.in_ok-i.i + 1 = omega (arith, c.in_ok-i.ensures) in
    rw c.from_residual-in_err-key.ensures (named_lacks _ _ _ _ place c.in_err-key.ensures)

pub returns : goal.returns
returns c =
    let place : c.args.slot ≡ c.in_ok-i.i + 1 = omega (arith, c.in_ok-i.ensures) in
    (named_there _ _ _ _ place c.in_ok-key.ensures.0, c.in_ok-key.ensures.1)
