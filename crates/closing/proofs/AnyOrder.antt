-- The order of the records changes nothing: with the same records in another order a set is whole as before, and offends at the same place; and the sets of
-- a list in another order are the same sets in another order.
-- Assumes nothing.
use Prim.Native.Nat.{ℕ, ◌≤◌, ◌<◌}
use mathlib.Core.Path.{◌≡◌, refl, sym, ap, ◌∙◌}
use mathlib.Core.Bool.{Bool, true, false, cond, not, ◌&&◌}
use mathlib.Core.List.{List, [], ◌∷◌, ◌++◌}
use native.Mathlib.Omega.{arith}
use borrow.Author.Tests.{eqb-true, eq-eqb, leb-true, leb-false, le-leb}
use lib.Dec.{eqb, leb}
use lib.ListN.{length, get_or, length-append}
use Rattle.text.specs.Lists.{same_bytes}
use Rattle.text.proofs.Booleans.{clash}
use Rattle.layout.specs.Layout.{field_of}
use Rattle.fields.specs.Others.{read_status}
use Rattle.posting.specs.Sums.{kept, is_live}
use Rattle.closing.specs.Sets.{main_of, serial_of, pieces_of, set_under, said_by, same_pieces, none_twice, none_missing, offence}
use Rattle.closing.specs.Outcomes.{Whole, Reordered}
use Rattle.closing.proofs.SetLaws.{never_true, pieces_nth, same_pieces_exactly}
use Rattle.closing.proofs.Counting.{none_kept, all_kept, some_kept, once_exactly, all_there_exactly}

-- ---- any list
module _ {A : Type 0} where
  kept_append : (p : A → Bool) (xs ys : List A) → kept p (xs ++ ys) ≡ kept p xs ++ kept p ys
  unfolding kept
  kept_append p [] ys = refl
  kept_append p (x ∷ xs) ys = go (p x) (kept_append p xs ys)
    where
      go : (t : Bool) → kept p (xs ++ ys) ≡ kept p xs ++ kept p ys → cond t (x ∷ kept p (xs ++ ys)) (kept p (xs ++ ys)) ≡ cond t (x ∷ kept p xs) (kept p xs) ++ kept p ys
      go true h = ap (λ (r : List A). x ∷ r) h
      go false h = h

  -- two parts that change places
  pub reordered_swap : (xs ys : List A) → Reordered (xs ++ ys) (ys ++ xs)
  reordered_swap xs ys p = rw (kept_append p xs ys, kept_append p ys xs, length-append (kept p xs), length-append (kept p ys)) (omega arith)

  as_many : (xs ys : List A) → A → Reordered xs ys → length xs ≡ length ys
  as_many xs ys d r = sym (all_kept (λ x. true) xs d (λ i l. refl)) ∙ r (λ x. true) ∙ all_kept (λ x. true) ys d (λ i l. refl)

  -- what every element passes
  each_any_order : (xs ys : List A) (d : A) → Reordered xs ys → (p : A → Bool) → ((i : ℕ) → i < length xs → p (get_or xs i d) ≡ true)
      → (i : ℕ) → i < length ys → p (get_or ys i d) ≡ true
  each_any_order xs ys d r p h i l = go (p (get_or ys i d)) refl
    where
      go : (t : Bool) → p (get_or ys i d) ≡ t → t ≡ true
      go true e = refl
      go false e =
          absurd (omega (arith, none_kept (λ x. not (p x)) xs d (λ j g. ap not (h j g)), r (λ x. not (p x)), some_kept (λ x. not (p x)) ys d i l (ap not e)))

  -- those that pass two tests, one after the other
  kept_kept : (p q : A → Bool) (xs : List A) → kept p (kept q xs) ≡ kept (λ x. q x && p x) xs
  unfolding kept
  kept_kept p q [] = refl
  kept_kept p q (x ∷ xs) = go (q x) (kept_kept p q xs)
    where
      go : (t : Bool) → kept p (kept q xs) ≡ kept (λ x. q x && p x) xs
          → kept p (cond t (x ∷ kept q xs) (kept q xs)) ≡ cond (t && p x) (x ∷ kept (λ x. q x && p x) xs) (kept (λ x. q x && p x) xs)
      go true h = ap (λ (r : List A). cond (p x) (x ∷ r) r) h
      go false h = h

  kept_any_order : (q : A → Bool) (xs ys : List A) → Reordered xs ys → Reordered (kept q xs) (kept q ys)
  kept_any_order q xs ys r p = rw (kept_kept p q xs, kept_kept p q ys) (r (λ x. q x && p x))

-- ---- the sets of a list
pub sets_any_order : (recs others : List (List ℕ)) → Reordered recs others → (main : List ℕ) → Reordered (set_under recs main) (set_under others main)
unfolding set_under
sets_any_order recs others r main =
    kept_any_order (λ rec. same_bytes (main_of rec) main) _ _ (kept_any_order (λ rec. is_live (read_status (field_of rec 19))) recs others r)

-- ---- one set
said_none : (set : List (List ℕ)) → length set ≡ 0 → said_by set ≡ 0
said_none [] h = refl
said_none (rec ∷ set) h = absurd (omega arith)

-- where all give the same number of pieces, so they do in any order, and it is the same number
record SamePieces (s t : List (List ℕ)) : Type 0 where
  all : same_pieces t ≡ true
  said : said_by s ≡ said_by t

same_pieces_any_order : (s t : List (List ℕ)) → Reordered s t → same_pieces s ≡ true → SamePieces s t
same_pieces_any_order s t r h = record {
  all = (same_pieces_exactly t).1 (λ i l. each i l ∙ said);
  said = said;
}
  where
    each : (i : ℕ) → i < length t → pieces_of (get_or t i []) ≡ said_by s
    each i l =
        eqb-true _ (said_by s)
        (each_any_order s t [] r (λ rec. eqb (pieces_of rec) (said_by s)) (λ j g. eq-eqb _ (said_by s) ((same_pieces_exactly s).0 h j g)) i l)

    said : said_by s ≡ said_by t
    said = go (leb 1 (length t)) refl
      where
        go : (b : Bool) → leb 1 (length t) ≡ b → said_by s ≡ said_by t
        go true e = sym (each 0 (leb-true 1 (length t) e)) ∙ sym (pieces_nth t 0)
        go false e =
            let none = leb-false 1 (length t) e in
            said_none s (omega (arith, as_many s t [] r)) ∙ sym (said_none t (omega arith))

pub whole_any_order : (s t : List (List ℕ)) → Reordered s t → Whole s → Whole t
whole_any_order s t r w =
    let p = same_pieces_any_order s t r ((same_pieces_exactly s).1 w.same) in
    record {
      same = (same_pieces_exactly t).0 p.all;
      within = λ i l. rw (← p.said) (inside i l);
      once = λ k l h. sym (r (λ rec. eqb (serial_of rec) k)) ∙ w.once k l (omega (arith, p.said));
    }
  where
    inside : (i : ℕ) → i < length t → (1 ≤ serial_of (get_or t i [])) × (serial_of (get_or t i []) ≤ said_by s)
    inside i l = (
      leb-true 1 _ (each_any_order s t [] r (λ rec. leb 1 (serial_of rec)) (λ j g. le-leb 1 _ (w.within j g).0) i l),
      leb-true _ (said_by s) (each_any_order s t [] r (λ rec. leb (serial_of rec) (said_by s)) (λ j g. le-leb _ (said_by s) (w.within j g).1) i l),
    )

-- two tests that say the same
same_truth : (a b : Bool) → (a ≡ true → b ≡ true) → (b ≡ true → a ≡ true) → a ≡ b
same_truth true b f g = sym (f refl)
same_truth false b f g = sym (never_true b (λ e. clash (g e) refl))

once_any_order : (s t : List (List ℕ)) → Reordered s t → none_twice s ≡ true → none_twice t ≡ true
once_any_order s t r h = (once_exactly t).1 (λ k. omega (arith, (once_exactly s).0 h k, r (λ rec. eqb (serial_of rec) k)))

all_there_any_order : (s t : List (List ℕ)) → Reordered s t → said_by s ≡ said_by t → none_missing s ≡ true → none_missing t ≡ true
all_there_any_order s t r e h =
    (all_there_exactly t).1 (λ k l g. omega (arith, (all_there_exactly s).0 h k l (omega arith), r (λ rec. eqb (serial_of rec) k)))

pub offence_any_order : (s t : List (List ℕ)) → Reordered s t → offence s ≡ offence t
unfolding offence
offence_any_order s t r = go (same_pieces s) refl
  where
    back : Reordered t s
    back p = sym (r p)

    go : (a : Bool) → same_pieces s ≡ a → offence s ≡ offence t
    go true e =
        let p = same_pieces_any_order s t r e in
        let once = same_truth (none_twice s) (none_twice t) (once_any_order s t r) (once_any_order t s back) in
        let all = same_truth (none_missing s) (none_missing t) (all_there_any_order s t r p.said) (all_there_any_order t s back (sym p.said)) in
        rw (e, p.all, once, all)
    go false e =
        let other : same_pieces t ≡ false = never_true (same_pieces t) (λ f. absurd (clash (same_pieces_any_order t s back f).all e)) in
        rw (e, other)
