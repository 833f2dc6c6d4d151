-- A number is above 0 exactly where one of its digits is.
-- Assumes nothing.
use Prim.Native.Nat.{ℕ, ◌+◌, ◌-◌, ◌*◌}
use mathlib.Core.Path.{◌≡◌, refl, sym, ap, ◌∙◌}
use mathlib.Core.Bool.{Bool, ◌||◌, or_assoc}
use mathlib.Core.List.{List, [], ◌∷◌}
use native.Mathlib.Omega.{arith}
use lib.Dec.{ltb}
use Rattle.std.specs.Prelude.{reverse}
use Rattle.std.specs.List.{list_any}
use Rattle.std.proofs.Math.Bool.{or_comm}
use Rattle.std.proofs.lemmas.List.{reverse-append}
use Rattle.std.proofs.lemmas.List.Folds.{list_any-append}
use Rattle.text.specs.Numbers.{number_after, number_of}

abbrev pub above : ℕ → Bool
above d = ltb 48 d

one_more : (n d : ℕ) → ltb 0 (n * 10 + (d - 48)) ≡ (ltb 0 n || above d)
one_more n d = grind arith

behind : (n : ℕ) (s : List ℕ) → ltb 0 (number_after n s) ≡ (ltb 0 n || list_any above s)
unfolding number_after
behind n [] = grind arith
behind n (d ∷ s) = behind (n * 10 + (d - 48)) s ∙ ap (λ (b : Bool). b || list_any above s) (one_more n d) ∙ or_assoc (ltb 0 n) (above d) (list_any above s)

either_way : (s : List ℕ) → list_any above (reverse s) ≡ list_any above s
either_way [] = refl
either_way (d ∷ s) =
    ap (list_any above) (reverse-append (d ∷ []) s)
    ∙ list_any-append above (reverse s) (d ∷ [])
    ∙ or_comm (list_any above (reverse s)) (list_any above (d ∷ []))
    ∙ grind (arith, either_way s)

pub some_digit : (s : List ℕ) → list_any above (reverse s) ≡ ltb 0 (number_of s)
some_digit s = either_way s ∙ sym (behind 0 s)
