-- One outcome only, for `find` and for `put`: the result, and the table.
-- Assumes nothing.
use Rattle.std.proofs.Common.{◌≡◌, refl, ap, ℕ, arith, List, Option, Some, None}
use Rattle.text.specs.Promises.{Gives}
use Rattle.text.proofs.OneOutcome.{gives_once}
use Rattle.index.specs.Index.{slot_number, Put}

place_once : (r s : Option ℕ) → slot_number r ≡ slot_number s → r ≡ s
place_once None None e = refl
place_once None (Some j) e = absurd (omega arith)
place_once (Some i) None e = absurd (omega arith)
place_once (Some i) (Some j) e = let same : i ≡ j = omega arith in ap Some same

pub find_once : (value : ℕ) (r s : Option ℕ) → Gives value (slot_number r) → Gives value (slot_number s) → r ≡ s
find_once value r s p q = place_once r s (gives_once value (slot_number r) (slot_number s) p q)

pub put_once : (table file : List ℕ) (from n : ℕ) (r s : Option ℕ) (a b : List ℕ) → Put table file from n r a → Put table file from n s b → (r ≡ s) × (a ≡ b)
put_once table file from n r s a b u v = (find_once _ r s u.before v.before, gives_once _ a b u.notes v.notes)
