-- `ident::weighted_sum`.
use Prim.Native.Nat.{ℕ}
use mathlib.Core.Path.{◌≡◌, refl}
use mathlib.Core.List.{List, [], ◌∷◌}
use mathlib.Core.Logic.{◌⊎◌, ⊎_elim}
use native.Mathlib.Omega.{arith}
use Rattle.std.proofs.Common.{rules}
use Rattle.std.proofs.lemmas.Slice.Zip.{Zip-more, either_empty_from_Zip}
use Rattle.ident.specs.Identifier.{weighted}
use Rattle.ident.proofs.weighted_sum.Goals as goal

pub loop-weight-preserved : goal.loop-weight-preserved
unfolding weighted
loop-weight-preserved c =
    let turn = Zip-more c.loop-weight.weight-iterator c.next.new.self _ _ c.in-Some.is c.next.ensures.steps in
    (search rules, search rules)

-- no weight is left, or no digit
ended : (ws ds : List ℕ) → (ws ≡ []) ⊎ (ds ≡ []) → weighted ws ds ≡ 0
unfolding weighted
ended [] ds h = refl
ended (w ∷ ws) [] h = refl
ended (w ∷ ws) (d ∷ ds) h = ⊎_elim (λ e. cc) (λ e. cc) h

pub returns : goal.returns
returns c =
    let none = ended _ _ (either_empty_from_Zip c.loop-weight.weight-iterator c.next.new.self _ c.in-None.is c.next.ensures.steps) in
    omega (arith, c.loop-weight.invariant.1)
