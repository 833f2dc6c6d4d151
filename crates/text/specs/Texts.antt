-- A text of ASCII as its bytes, for examples.
use Rattle.std.specs.Prelude.{ℕ, Bool, true, ◌&&◌, List, [], ◌∷◌}
use Prim.Native.Char.{code}
use Prim.Native.String.{String, [] as no_text, ◌∷◌ as ◌then◌}

unfoldable pub bytes : String → List ℕ
bytes no_text = []
bytes (c then t) = code c ∷ bytes t

-- a list of examples that all hold
unfoldable pub all_hold : List Bool → Bool
all_hold [] = true
all_hold (e ∷ es) = e && all_hold es
