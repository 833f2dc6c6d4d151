-- Three records, the first and the last with one key, noted in five slots: one list of examples under the one claim `shown`.
-- Assumes nothing.
use Rattle.std.specs.Prelude.{ℕ, Bool, true, List, [], ◌∷◌, ◌++◌, ◌≡◌, refl, eqb, replicate}
use Prim.Native.String.{String}
use Rattle.text.specs.Lists.{same_bytes}
use Rattle.text.specs.Texts.{bytes, all_hold}
use Rattle.text.specs.Words.{low_first}
use Rattle.index.specs.Index.{has_key, seek, named, hash_of, slot_from, slot_of, found, noting}
use Rattle.index.specs.Laws.{noted}

-- a record that has nothing but its key
unfoldable pub bare : String → List ℕ
bare key = bytes key ++ replicate 388 32

unfoldable pub three : List ℕ
three = bare "RR000000000CZ" ++ (bare "RR000000014CZ" ++ bare "RR000000000CZ")

unfoldable pub looked : List ℕ → String → ℕ
looked table key = found table three 0 (bytes key)

pub examples : List Bool
examples =
    eqb (looked (noted three 0 5 2) "RR000000000CZ") 1
    ∷ eqb (looked (noted three 0 5 3) "RR000000000CZ") 3
    ∷ eqb (looked (noted three 0 5 3) "RR000000014CZ") 2
    ∷ eqb (looked (noted three 0 5 3) "RR000000028CZ") 0
    ∷ eqb (looked (noted three 0 5 3) "RR") 0
    ∷ eqb (looked [] "RR000000000CZ") 0
    ∷ eqb (looked (9 ∷ 9 ∷ []) "RR000000000CZ") 0
    ∷ []

pub shown : all_hold examples ≡ true
unfolding examples looked three bare noted noting found slot_of slot_from hash_of named has_key seek low_first same_bytes bytes all_hold
shown = refl
