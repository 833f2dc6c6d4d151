-- `batch::open`.
use mathlib.Core.Path.{refl}
use Rattle.batch.proofs.CallWays.{counts_none, open_refused, open_done}
use Rattle.batch.proofs.open.Goals as goal

pub returns-then-not-right_lengths : goal.returns-then-not-right_lengths
returns-then-not-right_lengths c = λ psc. open_refused psc _ _ _ _ refl c.right_lengths.ensures c.if-not-right_lengths.true

pub returns : goal.returns
returns c = λ psc. open_done psc _ _ _ _ (search counts_none) c.right_lengths.ensures _ _ c.if-not-right_lengths.false (c.fill.ensures.after (λ y e. search e)) (c.fill-2.ensures.after (λ y e. search e))
