-- How the code reads and writes the entries of the journal: the head byte by byte, kinds as numbers.
-- Assumes nothing.
use Rattle.std.specs.Prelude.{ℕ, ◌+◌, ◌-◌, Bool, false, cond, ◌&&◌, List, [], ◌∷◌, ◌++◌, get_or, take, drop, eqb, leb, Option, Some, None}
use Rattle.batch.specs.declared.entries.Kind.{Kind}
use Rattle.batch.specs.Actions.{Action, Addition, Amendment, Cancellation}

-- ---- kinds by their numbers
abbrev pub number_of_kind : Kind → ℕ
number_of_kind Kind.Addition = 1
number_of_kind Kind.Cancellation = 2
number_of_kind Kind.Amendment = 3

-- the action of a kind that carries a body
abbrev pub action_of : Kind → List ℕ → Action
action_of Kind.Addition body = Addition body
action_of Kind.Cancellation body = Cancellation body
action_of Kind.Amendment body = Amendment body

-- 0 where there is none
abbrev pub number_of_found : Option Kind → ℕ
number_of_found None = 0
number_of_found (Some kind) = number_of_kind kind

-- ---- an entry: its length, two bytes little-endian, then a two-byte kind, little-endian, then what it carries
-- 403 and kinds 1 and 3 with the 399 bytes of a record, 17 and kind 2 with the 13 of an identifier
abbrev pub body_length : ℕ → ℕ
body_length kind = cond (eqb kind 2) 13 399

abbrev pub entry_length : ℕ → ℕ
entry_length kind = body_length kind + 4

abbrev pub head : ℕ → List ℕ
head kind = cond (eqb kind 2) (17 ∷ 0 ∷ kind ∷ 0 ∷ []) (147 ∷ 1 ∷ kind ∷ 0 ∷ [])

abbrev pub entry : ℕ → List ℕ → List ℕ
entry kind body = head kind ++ body

-- these four bytes stand at `at`, and as many as `size` end by `end`
abbrev pub head_stands : List ℕ → ℕ → ℕ → ℕ → ℕ → ℕ → ℕ → Bool
head_stands journal end at size low high kind =
    cond (leb size (end - at))
    (eqb (get_or journal at 0) low && eqb (get_or journal (at + 1) 0) high && eqb (get_or journal (at + 2) 0) kind && eqb (get_or journal (at + 3) 0) 0)
    false

-- an entry of this kind starts at `at` and ends by `end`
abbrev pub starts_entry : List ℕ → ℕ → ℕ → ℕ → Bool
starts_entry journal end at kind = head_stands journal end at (entry_length kind) (get_or (head kind) 0 0) (get_or (head kind) 1 0) kind

-- the kind of the entry there; 0 where there is none of the house form
unfoldable pub kind_at : List ℕ → ℕ → ℕ → ℕ
kind_at journal end at =
    cond (starts_entry journal end at 1) 1 (cond (starts_entry journal end at 2) 2 (cond (starts_entry journal end at 3) 3 0))

abbrev pub body_at : List ℕ → ℕ → ℕ → List ℕ
body_at journal at kind = take (body_length kind) (drop (at + 4) journal)
