-- Actions, the table of their kinds, and the entries that they print into the journal.
-- Assumes nothing.
use Rattle.std.specs.Prelude.{ℕ, zero, suc, ◌+◌, ◌/◌, ◌%◌, Bool, true, cond, ◌&&◌, ◌≡◌, refl, ◌↔◌, List, [], ◌∷◌, ◌++◌, map, length, take, drop, eqb, leb}
use Rattle.std.proofs.Math.Option.{Option, none, some, Option-elim}
use Rattle.text.specs.Lists.{same_bytes, joined}

-- ---- actions, each with the record or the identifier that it carries
pub data Action : Type 0 where
  Addition : List ℕ → Action
  Amendment : List ℕ → Action
  Cancellation : List ℕ → Action

-- ---- the table of kinds: its number, how many bytes it carries, and which action
pub record Kind : Type 0 where
  pub number : ℕ
  pub carries : ℕ
  pub action : List ℕ → Action

abbrev pub kind : ℕ → ℕ → (List ℕ → Action) → Kind
kind number carries action = record { number = number; carries = carries; action = action }

abbrev pub addition : Kind
addition = kind 1 399 Addition

abbrev pub cancellation : Kind
cancellation = kind 2 13 Cancellation

abbrev pub amendment : Kind
amendment = kind 3 399 Amendment

abbrev pub kinds : List Kind
kinds = addition ∷ cancellation ∷ amendment ∷ []

-- the kind of an action, and what it carries
abbrev pub kind_of : Action → Kind
kind_of (Addition rec) = addition
kind_of (Amendment rec) = amendment
kind_of (Cancellation id) = cancellation

abbrev pub number_of : Action → ℕ
number_of a = (kind_of a).number

abbrev pub body_of : Action → List ℕ
body_of (Addition rec) = rec
body_of (Amendment rec) = rec
body_of (Cancellation id) = id

-- it carries as many bytes as its kind says
abbrev pub sized : Action → Bool
sized a = eqb (length (body_of a)) (kind_of a).carries

unfoldable pub all_sized : List Action → Bool
all_sized [] = true
all_sized (a ∷ xs) = sized a && all_sized xs

-- ---- an entry: the length of the whole entry, two bytes little-endian, then a two-byte kind, little-endian, then what it carries
abbrev pub little_endian : ℕ → List ℕ
little_endian n = n % 256 ∷ n / 256 ∷ []

abbrev pub entry_length : Kind → ℕ
entry_length k = k.carries + 4

abbrev pub head_of : Kind → List ℕ
head_of k = little_endian (entry_length k) ++ little_endian k.number

abbrev pub entry_of : Action → List ℕ
entry_of a = head_of (kind_of a) ++ body_of a

abbrev pub entries_of : List Action → List ℕ
entries_of xs = joined (map entry_of xs)

-- example 15: cancelling BO5412345671F adds 11 00 02 00 and its 13 bytes
pub example_15 : entry_of (Cancellation (66 ∷ 79 ∷ 53 ∷ 52 ∷ 49 ∷ 50 ∷ 51 ∷ 52 ∷ 53 ∷ 54 ∷ 55 ∷ 49 ∷ 70 ∷ []))
    ≡ 17 ∷ 0 ∷ 2 ∷ 0 ∷ 66 ∷ 79 ∷ 53 ∷ 52 ∷ 49 ∷ 50 ∷ 51 ∷ 52 ∷ 53 ∷ 54 ∷ 55 ∷ 49 ∷ 70 ∷ []
example_15 = refl

-- ---- the actions that bytes print
-- the first entry: its action, and the bytes behind it
pub record Entry : Type 0 where
  pub action : Action
  pub behind : List ℕ

-- an entry of this kind stands at the front
abbrev pub starts_as : Kind → List ℕ → Bool
starts_as k s = same_bytes (take 4 s) (head_of k) && leb (entry_length k) (length s)

abbrev pub entry_as : Kind → List ℕ → Entry
entry_as k s = record { action = k.action (take k.carries (drop 4 s)); behind = drop (entry_length k) s }

-- by the row of a table that fits
unfoldable pub first_entry : List Kind → List ℕ → Option Entry
first_entry [] s = none
first_entry (k ∷ ks) s = cond (starts_as k s) (some (entry_as k s)) (first_entry ks s)

abbrev pub behind_first : Action → Option (List Action) → Option (List Action)
behind_first a none = none
behind_first a (some xs) = some (a ∷ xs)

-- at most n entries up to the last byte; none if some bytes are no entry
unfoldable pub entries_in : ℕ → List ℕ → Option (List Action)
entries_in zero s = cond (eqb (length s) 0) (some []) none
entries_in (suc n) s =
    cond (eqb (length s) 0) (some []) (Option-elim (first_entry kinds s) none (λ e. behind_first e.action (entries_in n e.behind)))

-- each entry has a byte at least, so there are not more than bytes
abbrev pub actions_in : List ℕ → Option (List Action)
actions_in s = entries_in (length s) s

-- what was printed is read back, and only what prints so is read (`proofs/Reading: read_exactly`, of all bytes and lists)
abbrev pub ReadExactly : List ℕ → List Action → Type 0
ReadExactly s xs = (actions_in s ≡ some xs) ↔ ((all_sized xs ≡ true) × (entries_of xs ≡ s))
