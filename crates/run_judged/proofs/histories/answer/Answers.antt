-- `run_judged::histories::answer`: the journal that is lent is all of it. Its length stays a variable until then: counting so many bytes is dear.
use Rattle.std.proofs.Common.{◌≡◌, ℕ, length, sym}
use Rattle.std.proofs.Math.ListN.{replicate}
use Rattle.std.proofs.lemmas.List.{length-replicate}
use Rattle.run_judged.proofs.histories.answer.Goals as goal

all_of : (n : ℕ) (a : ℕ) → n ≡ length (replicate n a)
all_of n a = sym (length-replicate n a)

pub slice_bounds-front-end-2 : goal.slice_bounds-front-end-2
slice_bounds-front-end-2 g c = all_of 1048577 0
