-- One outcome only: what satisfies a promise of one value is that value, so that no second one satisfies it.
-- Assumes nothing.
use mathlib.Core.Path.{◌≡◌, sym, ◌∙◌}
use Rattle.text.specs.Promises.{Gives, GivesWithin}

module _ {A : Type 0} (value r s : A) where
  pub gives_once : Gives value r → Gives value s → r ≡ s
  gives_once p q = p ∙ sym q

  pub within_once : (Bounds : A → Type 0) → GivesWithin value Bounds r → GivesWithin value Bounds s → r ≡ s
  within_once Bounds p q = gives_once p.0 q.0
