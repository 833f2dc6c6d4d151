-- One outcome only: two that satisfy the promise of a public call are the same.
-- Assumes nothing.
use Prim.Native.Nat.{ℕ}
use mathlib.Core.Path.{◌≡◌, sym, ◌∙◌}
use mathlib.Core.List.{List}
use Rattle.std.specs.Prelude.{Result, ⊤}
use Rattle.text.specs.declared.Refusal.{Refusal}
use Rattle.text.proofs.Refusals.{answered_once}
use Rattle.text.proofs.OneOutcome.{gives_once}
use Rattle.layout.specs.Layout.{Width, Field, FieldAnswered}

pub width_once : (n : ℕ) (r s : ℕ) → Width n r → Width n s → r ≡ s
width_once n r s = gives_once _ r s

pub field_once : (rec : List ℕ) (n : ℕ) (f g : List ℕ) → Field rec n f → Field rec n g → f ≡ g
field_once rec n f g = gives_once _ f g

pub field_answered_once : (rec : List ℕ) (n : ℕ) (r s : Result ⊤ Refusal) → FieldAnswered rec n r → FieldAnswered rec n s → r ≡ s
field_answered_once rec n r s p q = answered_once r s (p ∙ sym q)
