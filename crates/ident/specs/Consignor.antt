-- "One consignor in one file": whose an identifier is, and when two are of different consignors.
-- Assumes nothing.
use Rattle.std.specs.Prelude.{ℕ, Bool, false, cond, not, ◌&&◌, ◌||◌, ◌≡◌, List, [], ◌∷◌, get_or, eqb, Option, Some, None}
use Rattle.std.specs.Option.{option_or}
use Rattle.ident.specs.declared.Parts.{Parts}
use Rattle.ident.specs.declared.consignor.Consignor.{Consignor}
use Rattle.ident.specs.Identifier.{right_id}
use Rattle.ident.specs.Calls.{parts_of}

-- a consignor by his type and number; where an identifier names nobody, there is none
abbrev pub consignor : ℕ → ℕ → Consignor
consignor t n = record { kind = t; number = n }

-- ---- whose an identifier with these parts is: its type is the last byte, and CZ names nobody
abbrev pub whose : Parts → Option Consignor
whose p = cond (eqb p.last 90) None (Some (consignor p.last p.consignor))

-- of bytes: nobody's, too, if they are no right identifier
unfoldable pub consignor_in : List ℕ → Option Consignor
consignor_in s = cond (right_id s) (whose (parts_of s)) None

-- one number for the type, one for the number; 0 and 0 for nobody
abbrev pub type_of : Option Consignor → ℕ
type_of (Some c) = c.kind
type_of None = 0

abbrev pub number_of : Option Consignor → ℕ
number_of (Some c) = c.number
number_of None = 0

-- ---- two that are named are the same exactly if type and number are
-- both are named, and they are not the same (`Another`)
abbrev pub another : Option Consignor → Option Consignor → Bool
another (Some c) (Some d) = not (eqb c.kind d.kind && eqb c.number d.number)
another (Some c) None = false
another None d = false

pub record Another (c d : Option Consignor) : Type 0 where
  pub this : c ≡ None → ⊥
  pub that : d ≡ None → ⊥
  pub differ : c ≡ d → ⊥

-- ---- of several, in the order of their records
-- one of them is another than c
unfoldable pub another_in : List (Option Consignor) → Option Consignor → Bool
another_in [] c = false
another_in (d ∷ ds) c = another d c || another_in ds c

pub record AnotherIn (cs : List (Option Consignor)) (c : Option Consignor) : Type 0 where
  pub earlier : ℕ
  pub other : Another (get_or cs earlier None) c

-- all that are named are the same
abbrev pub AllTheSame : List (Option Consignor) → Type 0
AllTheSame cs = (i j : ℕ) → Another (get_or cs i None) (get_or cs j None) → ⊥

-- the first that is named, which suffices to know it (`proofs/Consignors: first_suffices`)
abbrev pub or_named : Option Consignor → Option Consignor → Option Consignor
or_named c d = option_or c d

unfoldable pub first_named : List (Option Consignor) → Option Consignor
first_named [] = None
first_named (c ∷ cs) = or_named c (first_named cs)
