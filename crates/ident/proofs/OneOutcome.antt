-- One outcome only: two that satisfy the promise of a public call are the same, lent bytes included.
-- Assumes nothing.
use Prim.Native.Nat.{ℕ}
use mathlib.Core.Path.{◌≡◌}
use mathlib.Core.Bool.{Bool}
use mathlib.Core.List.{List}
use Rattle.std.proofs.Common.{Result}
use Rattle.std.specs.Bool.{⊤}
use Rattle.text.specs.declared.Answer.{Answer}
use Rattle.text.specs.declared.Refusal.{Refusal}
use Rattle.text.specs.Answers.{answered}
use Rattle.text.proofs.OneOutcome.{gives_once}
use Rattle.text.proofs.Refusals.{answered_once}
use Rattle.ident.specs.declared.Parts.{Parts}
use Rattle.ident.specs.Calls.{Checked, Read, Written, Compared}

pub answers_checked_once : (id : List ℕ) (r s : Answer) → Checked id r → Checked id s → r ≡ s
answers_checked_once id r s = gives_once _ r s

pub checked_once : (id : List ℕ) (r s : Result ⊤ Refusal) → Checked id (answered r) → Checked id (answered s) → r ≡ s
checked_once id r s u v = answered_once r s (answers_checked_once id (answered r) (answered s) u v)

pub read_once : (id : List ℕ) (r s : Result Parts Refusal) → Read id r → Read id s → r ≡ s
read_once id r s = gives_once _ r s

pub answers_written_once : (before : List ℕ) (p : Parts) (r s : Answer) (a b : List ℕ) → Written before p r a → Written before p s b → (r ≡ s) × (a ≡ b)
answers_written_once before p r s a b u v = (gives_once _ r s u.answers v.answers, gives_once _ a b u.bytes v.bytes)

pub written_once : (before : List ℕ) (p : Parts) (r s : Result ⊤ Refusal) (a b : List ℕ) → Written before p (answered r) a → Written before p (answered s) b → (r ≡ s) × (a ≡ b)
written_once before p r s a b u v = let one = answers_written_once before p (answered r) (answered s) a b u v in (answered_once r s one.0, one.1)

pub compared_once : (x y : List ℕ) (r s : Bool) → Compared x y r → Compared x y s → r ≡ s
compared_once x y r s = gives_once _ r s
