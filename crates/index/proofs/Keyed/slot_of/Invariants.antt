-- `index::Keyed::slot_of`.
use Rattle.std.proofs.Common.{◌≡◌, ◌-◌, ◌<◌, length}
use Rattle.index.specs.Index.{slot_from, slot_of}
use Rattle.index.proofs.Keyed.slot_of.Given as goal

abbrev pub invariant-loop-turn : goal.invariant-loop-turn
invariant-loop-turn l = (l.s < length l.table) × (slot_from (length l.table) l.table l.self.file.now l.self.from l.key (length l.table - l._turn) l.s ≡ slot_of l.table l.self.file.now l.self.from l.key)
