-- `fields::texts::filled`.
use Rattle.std.proofs.Common.{rules, arith}
use Rattle.fields.proofs.TextWays.{filled_before, filled_less, filled_here, filled_none}
use Rattle.fields.proofs.texts.filled.Goals as goal

pub loop-before-preserved : goal.loop-before-preserved
loop-before-preserved c = (search (rules, filled_before), grind arith)

pub loop-last-preserved : goal.loop-last-preserved
loop-last-preserved c = (search (rules, filled_less), grind arith)

pub returns-then-last-ne32 : goal.returns-then-last-ne32
returns-then-last-ne32 c = (search (rules, filled_here), omega arith)

pub returns-in_default-split_last : goal.returns-in_default-split_last
returns-in_default-split_last c = (search (rules, filled_none), omega arith)
