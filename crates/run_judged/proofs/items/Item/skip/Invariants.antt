-- `run_judged::items::Item::skip` ends: each turn leaves fewer bytes to read past.
use Rattle.run_judged.proofs.items.Item.skip.Given as goal

abbrev pub decreases-loop-self : goal.decreases-loop-self
decreases-loop-self g l = l.self.left
