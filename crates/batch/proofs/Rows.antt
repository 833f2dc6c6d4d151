-- Lists of records: one more behind the last, all mapped, the one that is meant changed, and some that passes a test.
-- Assumes nothing.
use Prim.Native.Nat.{ℕ, zero, suc, ◌+◌, ◌<◌}
use mathlib.Core.Path.{◌≡◌, refl, sym, ap, ◌∙◌}
use mathlib.Core.Bool.{Bool, true, false, cond, or-true}
use mathlib.Core.List.{List, [], ◌∷◌, ◌++◌, map}
use native.Mathlib.Omega.{arith}
use borrow.Author.Tests.{eqb-true, eqb-false}
use lib.Dec.{eqb}
use lib.ListN.{length, get_or, set, length-append, length-set, get_or-append}
use lib.Seq.{get_or_at, get_or-set_same, get_or-set_other, ext_get_or}
use Rattle.text.proofs.Booleans.{clash}
use Rattle.batch.specs.Records.{some}

-- ---- one more behind the last
pub length_last : {A : Type 0} (xs : List A) (x : A) → length (xs ++ x ∷ []) ≡ length xs + 1
length_last xs x = length-append xs (x ∷ [])

-- a place there: one of those before, or the last
pub data PlaceIn {A : Type 0} (xs : List A) (x d : A) (i : ℕ) : Type 0 where
  earlier : i < length xs → get_or (xs ++ x ∷ []) i d ≡ get_or xs i d → PlaceIn xs x d i
  last : i ≡ length xs → get_or (xs ++ x ∷ []) i d ≡ x → PlaceIn xs x d i

pub place_in : {A : Type 0} (xs : List A) (x d : A) (i : ℕ) → i < length (xs ++ x ∷ []) → PlaceIn xs x d i
place_in xs x d i h = go (eqb i (length xs)) refl
  where
    go : (t : Bool) → eqb i (length xs) ≡ t → PlaceIn xs x d i
    go true e = let z = eqb-true i (length xs) e in last z (get_or_at xs x [] d i (sym z))
    go false e =
        let other = eqb-false i (length xs) e in
        let before : i < length xs = omega (arith, length_last xs x) in
        earlier before (get_or-append xs (x ∷ []) d i before)

-- ---- all mapped
pub length_map : {A B : Type 0} (f : A → B) (xs : List A) → length (map f xs) ≡ length xs
length_map f [] = refl
length_map f (x ∷ xs) = ap suc (length_map f xs)

pub map_nth : {A B : Type 0} (f : A → B) (xs : List A) (i : ℕ) (d : A) (e : B) → i < length xs → get_or (map f xs) i e ≡ f (get_or xs i d)
map_nth f [] i d e h = absurd (omega arith)
map_nth f (x ∷ xs) zero d e h = refl
map_nth f (x ∷ xs) (suc i) d e h = map_nth f xs i d e (omega arith)

-- where only the element at k passes the test, changing what passes changes that one
abbrev pub changed : {A : Type 0} → (A → Bool) → (A → A) → A → A
changed test new x = cond (test x) (new x) x

pub map_one : {A : Type 0} (test : A → Bool) (new : A → A) (xs : List A) (k : ℕ) (d : A) → k < length xs → test (get_or xs k d) ≡ true
    → ((i : ℕ) → i < length xs → test (get_or xs i d) ≡ true → i ≡ k) → map (changed test new) xs ≡ set xs k (new (get_or xs k d))
map_one test new xs k d h t only =
    ext_get_or d (map (changed test new) xs) (set xs k (new (get_or xs k d))) (length_map (changed test new) xs ∙ sym (length-set xs k (new (get_or xs k d))))
    (λ i l. let l' : i < length xs = omega (arith, length_map (changed test new) xs) in map_nth (changed test new) xs i d d l' ∙ go i l' (test (get_or xs i d)) refl)
  where
    go : (i : ℕ) → i < length xs → (b : Bool) → test (get_or xs i d) ≡ b → cond b (new (get_or xs i d)) (get_or xs i d) ≡ get_or (set xs k (new (get_or xs k d))) i d
    go i l true e = rw (only i l e) (sym (get_or-set_same xs k (new (get_or xs k d)) d h))
    go i l false e = sym (get_or-set_other xs k i (new (get_or xs k d)) d (λ z. clash t (rw z at e)))

-- ---- some that passes a test
module _ (test : List ℕ → Bool) where
  pub some_at : (recs : List (List ℕ)) (i : ℕ) → i < length recs → test (get_or recs i []) ≡ true → some test recs ≡ true
  unfolding some
  some_at [] i h t = absurd (omega arith)
  some_at (x ∷ recs) zero h t = rw t
  some_at (x ∷ recs) (suc i) h t = rw (some_at recs i (omega arith) t) (or-true (test x))

  pub none_passes : (recs : List (List ℕ)) → ((i : ℕ) → i < length recs → test (get_or recs i []) ≡ false) → some test recs ≡ false
  unfolding some
  none_passes [] n = refl
  none_passes (x ∷ recs) n = rw (n 0 (omega arith), none_passes recs (λ i h. n (suc i) (omega arith)))

  pub none_at : (recs : List (List ℕ)) (i : ℕ) → some test recs ≡ false → i < length recs → test (get_or recs i []) ≡ true → ⊥
  none_at recs i n h t = clash (some_at recs i h t) n
