-- `psc::right_text`.
use Rattle.std.proofs.Common.{◌≡◌, ◌-◌, ◌*◌, drop}
use Rattle.psc.specs.Text.{lines_in, right_text}
use Rattle.psc.proofs.TextWays.{lines_rise}
use Rattle.psc.proofs.right_text.Given as goal

abbrev pub invariant-loop-line : goal.invariant-loop-line
invariant-loop-line l = lines_rise l.least (lines_in l.text - l.line-index) (drop (l.line-index * 6) l.text) ≡ right_text l.text
