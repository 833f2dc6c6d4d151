-- `index::Keyed::key_at`.
use Rattle.std.proofs.Common.{arith}
use Rattle.index.proofs.Ways.{key_far, key_beyond, key_told}
use Rattle.index.proofs.Keyed.key_at.Goals as goal

pub returns-then-self-gt388 : goal.returns-then-self-gt388
returns-then-self-gt388 c = search key_far

pub returns-in_err-checked_mul : goal.returns-in_err-checked_mul
returns-in_err-checked_mul c = rw c.from_residual.ensures (key_beyond _ _ _ (omega (arith, c.in_err-checked_mul.ensures)))

pub returns-in_err-start : goal.returns-in_err-start
returns-in_err-start c = rw c.from_residual-in_err-start.ensures (key_beyond _ _ _ (omega (arith, c.in_ok-checked_mul.ensures, c.in_err-start.ensures)))

pub returns-in_err-get : goal.returns-in_err-get
returns-in_err-get c =
    let none = c.in_err-get.ensures.lookup in
    rw c.from_residual-in_err-get.ensures (key_beyond _ _ _ (omega (arith, c.in_ok-checked_mul.ensures, c.in_ok-start.ensures, none)))

pub returns : goal.returns
returns c =
    let left = c.in_ok-get.ensures.lookup in
    key_told _ _ _ _ c.if-self-gt388.false (omega (arith, c.in_ok-checked_mul.ensures, c.in_ok-start.ensures)) _ left.0.2 left.0.3 _ c.first_chunk.ensures.cases
