-- What a reading of an identifier tells of the bytes that were read.
-- Assumes nothing.
use Prim.Native.Nat.{ℕ}
use mathlib.Core.Path.{◌≡◌, refl, sym, ◌∙◌}
use mathlib.Core.Bool.{Bool, true, false, cond}
use mathlib.Core.List.{List}
use Rattle.std.proofs.Common.{Result, Ok, Err}
use Rattle.text.specs.declared.Refusal.{Refusal}
use Rattle.text.specs.declared.Refusal.TheVariants.{WrongIdentifier}
use Rattle.ident.specs.declared.Parts.{Parts}
use Rattle.ident.specs.Identifier.{right_id}
use Rattle.ident.specs.Calls.{parts_of, Read}

module _ (s : List ℕ) (r : Result Parts Refusal) (read : Read s r) where
  pub read_right : (p : Parts) → r ≡ Ok p → (right_id s ≡ true) × (parts_of s ≡ p)
  read_right p e = go (right_id s) (sym read ∙ e)
    where
      go : (t : Bool) → ◌≡◌ {A = Result Parts Refusal} (cond t (Ok (parts_of s)) (Err WrongIdentifier)) (Ok p) → (t ≡ true) × (parts_of s ≡ p)
      go true q = (refl, cc)
      go false q = cc

  pub read_refused : (e : Refusal) → r ≡ Err e → (right_id s ≡ false) × (WrongIdentifier ≡ e)
  read_refused e is = go (right_id s) (sym read ∙ is)
    where
      go : (t : Bool) → ◌≡◌ {A = Result Parts Refusal} (cond t (Ok (parts_of s)) (Err WrongIdentifier)) (Err e) → (t ≡ false) × (WrongIdentifier ≡ e)
      go true q = cc
      go false q = (refl, cc)
