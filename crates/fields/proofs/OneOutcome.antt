-- One outcome only, for the two writers: both promise `Written`. The other public calls promise `Gives`.
-- Assumes nothing.
use Prim.Native.Nat.{ℕ}
use mathlib.Core.Path.{◌≡◌}
use mathlib.Core.Bool.{Bool}
use mathlib.Core.List.{List}
use Rattle.std.specs.Prelude.{⊤, Result}
use Rattle.text.specs.declared.Answer.{Answer}
use Rattle.text.specs.declared.Refusal.{Refusal}
use Rattle.text.specs.Answers.{answered}
use Rattle.text.proofs.OneOutcome.{gives_once}
use Rattle.text.proofs.Refusals.{answered_once}
use Rattle.fields.specs.Calls.{Written}

pub answers_written_once : (width : ℕ) (has : Bool) (text before : List ℕ) (r s : Answer) (a b : List ℕ)
    → Written width has text before r a → Written width has text before s b → (r ≡ s) × (a ≡ b)
answers_written_once width has text before r s a b u v =
    (gives_once _ r s u.answers v.answers, gives_once _ a b u.bytes v.bytes)

pub written_once : (width : ℕ) (has : Bool) (text before : List ℕ) (r s : Result ⊤ Refusal) (a b : List ℕ)
    → Written width has text before (answered r) a → Written width has text before (answered s) b → (r ≡ s) × (a ≡ b)
written_once width has text before r s a b u v =
    let one = answers_written_once width has text before (answered r) (answered s) a b u v in (answered_once r s one.0, one.1)
