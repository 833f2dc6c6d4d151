-- The codes of the table, and codes of any list.
-- Assumes nothing.
use Prim.Native.Nat.{ℕ}
use mathlib.Core.Path.{◌≡◌, refl}
use mathlib.Core.Bool.{Bool, true, false, cond}
use mathlib.Core.List.{List, [], ◌∷◌, ◌++◌, map}
use borrow.Author.Tests.{eq-eqb, eqb-false}
use lib.Dec.{eqb}
use Rattle.text.proofs.Booleans.{clash}
use Rattle.record.specs.Table.{Rule, code_of}
use Rattle.record.specs.Rules.{Terms, table}
use Rattle.record.specs.Codes.{table_codes, lacks}

-- ---- the paper's table: its codes, in its order
pub codes_in_order : (t : Terms) (rec : List ℕ) → map code_of (table t rec) ≡ table_codes
unfolding table
codes_in_order t rec = refl

-- none of them is 0
pub none_zero : (t : Terms) (rec : List ℕ) → lacks 0 (map code_of (table t rec)) ≡ true
unfolding lacks
none_zero t rec = rw (codes_in_order t rec)

-- ---- a list of codes
-- one that is there is not one that it lacks
pub lacks_other : (c x : ℕ) (xs : List ℕ) → lacks x xs ≡ false → lacks c xs ≡ true → x ≡ c → ⊥
lacks_other c x xs there none e = clash none (rw e at there)

-- what is lacking in a list is neither its first nor in the rest
pub record Lacking (c x : ℕ) (xs : List ℕ) : Type 0 where
  pub first : x ≡ c → ⊥
  pub rest : lacks c xs ≡ true

pub lacking : (c x : ℕ) (xs : List ℕ) → lacks c (x ∷ xs) ≡ true → Lacking c x xs
unfolding lacks
lacking c x xs l = go (eqb x c) refl l
  where
    go : (t : Bool) → eqb x c ≡ t → cond t false (lacks c xs) ≡ true → Lacking c x xs
    go true e h = absurd (clash h refl)
    go false e h = record { first = eqb-false x c e; rest = h }

pub lacks_behind : (c x : ℕ) (xs : List ℕ) → lacks c xs ≡ false → lacks c (x ∷ xs) ≡ false
unfolding lacks
lacks_behind c x xs there = go (eqb x c)
  where
    go : (t : Bool) → cond t false (lacks c xs) ≡ false
    go true = refl
    go false = there

pub lacks_there : (before : List Rule) (r : Rule) (after : List Rule) → lacks r.code (map code_of (before ++ r ∷ after)) ≡ false
unfolding lacks
lacks_there [] r after = rw (eq-eqb r.code r.code refl)
lacks_there (x ∷ before) r after = lacks_behind r.code x.code (map code_of (before ++ r ∷ after)) (lacks_there before r after)
