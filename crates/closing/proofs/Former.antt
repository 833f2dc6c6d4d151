-- The walk of the pieces of a set by their links, whatever is kept of those that were looked at. No proof uses it now; the guide to changes (docs/PROOFS) names it.
-- Assumes nothing.
use Prim.Native.Nat.{ℕ, ◌<◌}
use mathlib.Core.Path.{◌≡◌, refl, sym, ap, ◌∙◌}
use mathlib.Core.Bool.{Bool, true, false, not, ◌&&◌, ◌||◌}
use mathlib.Core.List.{List, [], ◌∷◌, ◌++◌, append-nil, append_assoc}
use native.Mathlib.Omega.{arith}
use borrow.Author.Tests.{eqb-true, eqb-false}
use lib.Dec.{eqb}
use lib.ListN.{length, get_or, set}
use lib.Seq.{get_or-set_same, get_or-set_other}
use Rattle.std.specs.Prelude.{Option, None, Some}
use Rattle.text.specs.Bytes.{every}
use Rattle.fields.specs.Texts.{contains}
use Rattle.fields.specs.ServiceTexts.{all_different}
use Rattle.posting.specs.File.{record_at, records_in}
use Rattle.closing.specs.Sets.{count_in, pieces_in, serials_in, set_under}
use Rattle.closing.specs.Closing.{records_of}
use Rattle.closing.specs.Links.{last_live, Linked}
use Rattle.closing.proofs.SetWays.{set_to, set_none, set_some}

-- ---- the records of a set from place `upto` on were looked at: P holds of them and of what is kept
pub record Looking (S : Type 0) (P : List (List ℕ) → S → Type 0) (file main : List ℕ) (at : Option ℕ) (state : S) : Type 0 where
  pub upto : ℕ
  pub left : at ≡ last_live file main upto
  pub seen_before : List (List ℕ)
  pub splits : set_under (records_of file) main ≡ set_to file main upto ++ seen_before
  pub looked : P seen_before state

module _ (S : Type 0) (P : List (List ℕ) → S → Type 0) (file : List ℕ) (last : Option ℕ) where
  -- whatever the main identifier is of which `last` is the last live record
  abbrev pub LookingFrom : Option ℕ → S → Type 0
  LookingFrom at state = (main : List ℕ) → last ≡ last_live file main (records_in file) → Looking S P file main at state

  -- of none, at the last
  pub look_start : (state : S) → P [] state → LookingFrom last state
  look_start state none main e =
      record { upto = records_in file; left = e; seen_before = []; splits = sym (append-nil (set_under (records_of file) main)); looked = none }

  -- of one more, where the step keeps it
  pub look_on : (links : List (Option ℕ)) (at : Option ℕ) (i : ℕ) (state more : S) (rec : List ℕ) → Linked file (records_in file) links → at ≡ Some i → i < records_in file
      → rec ≡ record_at file i → ((set' : List (List ℕ)) → P set' state → P (rec ∷ set') more)
      → LookingFrom at state → LookingFrom (get_or links i None) more
  look_on links at i state more rec linked ea inside er step known main e =
      let before = known main e in
      let here = set_some file main before.upto i (sym before.left ∙ ea) in
      record {
        upto = i;
        left = linked.each i inside ∙ ap (λ (m : List ℕ). last_live file m i) here.under;
        seen_before = record_at file i ∷ before.seen_before;
        splits = before.splits ∙ ap (λ (s : List (List ℕ)). s ++ before.seen_before) here.splits ∙ append_assoc (set_to file main i) (record_at file i ∷ []) before.seen_before;
        looked = rw er at (step before.seen_before before.looked);
      }

  -- and of all at the end
  pub look_end : (at : Option ℕ) (state : S) → at ≡ None → LookingFrom at state → (main : List ℕ) → last ≡ last_live file main (records_in file)
      → P (set_under (records_of file) main) state
  look_end at state none known main e =
      let before = known main e in
      rw (before.splits ∙ ap (λ (s : List (List ℕ)). s ++ before.seen_before) (set_none file main before.upto (sym before.left ∙ none))) before.looked

-- ---- what pieces say that give any number of pieces: whether all give this one, and no serial is there twice; and which serials are marked
pub record Said : Type 0 where
  pub same : Bool
  pub once : Bool
  pub seen : List Bool

pub record LookedAt (pieces : ℕ) (set' : List (List ℕ)) (said : Said) : Type 0 where
  pub same : said.same ≡ every (λ n. eqb n pieces) (pieces_in set')
  pub once : said.once ≡ all_different (serials_in set')
  pub marked : (k : ℕ) → k < 100 → get_or said.seen k false ≡ contains k (serials_in set')

pub looked_more : (pieces : ℕ) (said : Said) (rec : List ℕ) (n serial : ℕ) → length said.seen ≡ 100 → (n ≡ count_in rec 24) × (n < 100) → (serial ≡ count_in rec 23) × (serial < 100)
    → (set' : List (List ℕ)) → LookedAt pieces set' said
    → LookedAt pieces (rec ∷ set') (record { same = eqb n pieces && said.same; once = not (get_or said.seen serial false) && said.once; seen = set said.seen serial true })
unfolding all_different contains
looked_more pieces said rec n serial long en es set' known = record {
  same = rw (en.0, known.same);
  once = rw (known.marked serial es.1, known.once, ← es.0);
  marked = λ k h. rw (← es.0) (marked k h (eqb serial k) refl);
}
  where
    marked : (k : ℕ) → k < 100 → (t : Bool) → eqb serial k ≡ t → get_or (set said.seen serial true) k false ≡ (t || contains k (serials_in set'))
    marked k h true e = rw (← (eqb-true serial k e)) (get_or-set_same said.seen serial true false (omega (arith, es.1)))
    marked k h false e =
        let other = eqb-false serial k e in
        get_or-set_other said.seen serial k true false (λ q. other (sym q)) ∙ known.marked k h
