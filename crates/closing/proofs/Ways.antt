-- Each way out of the functions that close a file.
-- Assumes nothing.
use Prim.Native.Nat.{ℕ, zero, suc, ◌+◌, ◌%◌, ◌≤◌, ◌<◌}
use Rattle.std.specs.Prelude.{Option, None, Some, Result, Ok, Err, IfSome, is_some}
use mathlib.Core.Path.{◌≡◌, refl, sym, ap, ◌∙◌}
use mathlib.Core.Bool.{Bool, true, false, not, and-true, and-false}
use mathlib.Core.List.{List}
use native.Mathlib.Numerals.{add-one}
use native.Mathlib.Omega.{arith}
use Rattle.std.specs.List.{list_any, range_with_len}
use Rattle.std.proofs.lemmas.List.Folds.{list_any_at}
use Rattle.std.proofs.lemmas.List.FromFn.{get_or-range_with_len, length-range_with_len}
use lib.ListN.{length, get_or, replicate, length-replicate}
use Rattle.text.specs.Bytes.{is_blank}
use Rattle.text.proofs.Booleans.{both, clash}
use Rattle.layout.specs.Layout.{field_of}
use Rattle.fields.specs.Others.{read_status}
use Rattle.index.specs.Index.{seek, slot_number, found}
use Rattle.index.proofs.Slots.{indexed_none}
use Rattle.posting.specs.declared.Break.{Break}
use Rattle.posting.specs.declared.Totals.{Totals}
use Rattle.posting.specs.declared.FileAnswer.{FileAnswer}
use Rattle.posting.specs.File.{record_at, records_in, refused, passed, file_answered, file_check}
use Rattle.text.specs.declared.Refusal.TheVariants as Refusal
use Rattle.text.proofs.Refusals.{refuses}
use borrow.Author.Tests.{eqb-false}
use Rattle.posting.specs.Sums.{is_live}
use Rattle.posting.proofs.Codes.{check_accepts_exactly}
use Rattle.closing.specs.Sets.{main_of, count_in, in_set, set_under, offence}
use Rattle.closing.specs.Closing.{records_of, place_of, closing_of, closing_answer}
use Rattle.closing.specs.Links.{closed, Closed, main_at, live_at, last_live, live_from, Linked, NoneInSet, AllLinked, ToLink, Judged, WholeBefore, some_place}
use Rattle.closing.proofs.FirstOf.{place_in_set, place_alone, whole_more, closing_none, closing_first, refusal_stands, sets_asked}
use Rattle.closing.proofs.LinkWays.{Below, counted_is, last_small, last_seek, found_linked}
use Rattle.closing.proofs.SetWays.{LastOf, not_none, same_place, set_some, first_says}

-- ---- in_set
module _ (file rec f : List ℕ) (i : ℕ) (b : Bool) (er : rec ≡ record_at file i) (ef : f ≡ field_of rec 22) (eb : b ≡ is_blank f) where
  blank_is : is_blank (main_at file i) ≡ b
  blank_is = sym (eb ∙ ap is_blank (ef ∙ ap main_of er))

  pub in_none : b ≡ true → false ≡ in_set (record_at file i)
  unfolding in_set
  in_none t = rw (blank_is, t) (sym (and-false (live_at file i)))

  pub in_live : b ≡ false → (l : Bool) → l ≡ is_live (read_status (field_of rec 19)) → l ≡ in_set (record_at file i)
  unfolding in_set
  in_live t l el = rw er at el ∙ rw (blank_is, t) (sym (and-true (live_at file i)))

-- ---- any_in_set
-- none of the numbers below n passes
pub none_below : (p : ℕ → Bool) (n : ℕ) → list_any p (range_with_len 0 n) ≡ false → (i : ℕ) → i < n → p i ≡ false
none_below p n none i h = go (p i) refl
  where
    go : (t : Bool) → p i ≡ t → t ≡ false
    go false e = refl
    go true e =
        let here : get_or (range_with_len 0 n) i 0 ≡ i = get_or-range_with_len 0 n i 0 h ∙ omega arith in
        absurd (clash (list_any_at p (range_with_len 0 n) i 0 (rw (length-range_with_len 0 n) h) (rw here e)) none)

-- ---- place_of
module _ (file : List ℕ) (i : ℕ) (b : Bool) (eb : b ≡ in_set (record_at file i)) where
  pub place_none : b ≡ false → None ≡ some_place (place_of (records_of file) (record_at file i))
  place_none n = rw (place_alone (records_of file) (record_at file i) (sym eb ∙ n)) refl

  module _ (table : List ℕ) (links : List (Option ℕ)) (all : AllLinked file table links) (inside : i < records_in file) (member : b ≡ true) where
    place_is : place_of (records_of file) (record_at file i) ≡ offence (set_under (records_of file) (main_at file i))
    place_is = place_in_set (records_of file) (record_at file i) (sym eb ∙ member)

    in_parts : (live_at file i ≡ true) × (not (is_blank (main_at file i)) ≡ true)
    unfolding in_set
    in_parts = both (live_at file i) (not (is_blank (main_at file i))) (sym eb ∙ member)

    link_is : get_or links i None ≡ last_live file (main_at file i) i
    link_is = all.linked.each i inside

    -- an earlier live record with the same main identifier is in the same set
    there : (j : ℕ) → LastOf file (main_at file i) i j → place_of (records_of file) (record_at file j) ≡ offence (set_under (records_of file) (main_at file i))
    unfolding place_of in_set
    there j last = rw (last.under, last.alive, in_parts.1)

    -- the set has an earlier record, which does not offend
    pub place_earlier : is_some (get_or links i None) ≡ true → WholeBefore file i → None ≡ some_place (place_of (records_of file) (record_at file i))
    place_earlier some whole = go (get_or links i None) refl
      where
        go : (t : Option ℕ) → get_or links i None ≡ t → None ≡ some_place (place_of (records_of file) (record_at file i))
        go None e = absurd (clash some (ap is_some e))
        go (Some j) e =
            let last = set_some file (main_at file i) i j (sym link_is ∙ e) in
            rw (place_is ∙ sym (there j last) ∙ whole j last.inside) refl

    module _ (first : is_some (get_or links i None) ≡ false) (rec f : List ℕ) (er : rec ≡ record_at file i) (ef : f ≡ field_of rec 22) (at : Option ℕ) (et : slot_number at ≡ found table file 362 f) where
      first_is : (o : Option ℕ) → is_some o ≡ false → o ≡ None
      first_is None n = refl
      first_is (Some j) n = absurd (clash refl n)

      found_is : slot_number at ≡ seek file 362 (main_at file i) (records_in file)
      found_is = et ∙ ap (found table file 362) (ef ∙ ap main_of er) ∙ all.noted.finds (main_at file i)

      pub walk_linked : IfSome at (λ j. (j < records_in file) × Linked file (j + 1) links)
      walk_linked = found_linked file (main_at file i) links (records_in file) at found_is all.linked (omega arith)

      module _ (last : Option ℕ) (el : last ≡ live_from file at) where
        last_is : last ≡ last_live file (main_at file i) (records_in file)
        last_is = el ∙ ap (live_from file) (counted_is _ at found_is) ∙ sym (last_seek file (main_at file i) (records_in file) (omega arith))

        pub last_inside : Below (records_in file) last
        last_inside = rw last_is (last_small file (main_at file i) (records_in file))

        pub place_judged : (pieces : ℕ) (r : Option ℕ) → (pieces ≡ count_in rec 24) × (pieces < 100) → Judged file last pieces r
            → r ≡ some_place (place_of (records_of file) (record_at file i))
        place_judged pieces r ep judged =
            judged.each (main_at file i) last_is
            (first_says file (main_at file i) (records_in file) i inside (sym link_is ∙ first_is (get_or links i None) first) in_parts.0 refl
            ∙ sym (ep.0 ∙ ap (λ (r : List ℕ). count_in r 24) er))
            ∙ ap some_place (sym place_is)

-- ---- first_offence
-- what a call gives that is none, or some place
none_zero : (place : ℕ) → None ≡ some_place place → place ≡ 0
none_zero zero e = refl
none_zero (suc n) e = absurd (not_none (suc n) e)

some_same : (k place : ℕ) → Some k ≡ some_place place → place ≡ k
some_same k zero e = absurd (not_none k (sym e))
some_same k (suc n) e = same_place (suc n) k (sym e)

not_zero : (k place : ℕ) → Some k ≡ some_place place → place ≡ 0 → ⊥
not_zero k zero e z = not_none k (sym e)
not_zero k (suc n) e z = omega arith

module _ (file : List ℕ) (i : ℕ) (known : WholeBefore file i) (r : Option ℕ) (er : r ≡ some_place (place_of (records_of file) (record_at file i))) where
  pub whole_on : r ≡ None → WholeBefore file (i + 1)
  whole_on e = rw (add-one i) (whole_more file i known (none_zero _ (sym e ∙ er)))

  pub first_broken : (place : ℕ) → i < records_in file → r ≡ Some place → Closed file (Err (record { refusal = Refusal.SetNotWhole place; number = i + 1 }))
  first_broken place inside e = record {
    each = λ good.
        ap (refused 240 (i + 1)) (sym (some_same place _ (sym e ∙ er))) ∙ sym (closing_first good file i inside known (not_zero place _ (sym e ∙ er)));
  }

pub none_offends : (file : List ℕ) (i : ℕ) → WholeBefore file i → i ≡ records_in file → Closed file (Ok tt)
none_offends file i known e = record { each = λ good. sym (closing_none good file (λ j l. known j (omega arith))) }

-- ---- check
module _ (psc file : List ℕ) (r : Result Totals Break) (er : file_answered r ≡ file_check psc file) where
  -- the file's own refusal
  pub file_stands : (b : Break) → r ≡ Err b → (a : Result Totals Break) → a ≡ Err b → file_answered a ≡ closing_answer psc file
  file_stands b e a ea =
      let same : file_answered (Err b) ≡ file_check psc file = ap file_answered (sym e) ∙ er in
      ap file_answered ea ∙ same
      ∙ sym (refusal_stands psc file (λ z. eqb-false _ 0 (refuses b.refusal) (ap (λ (a : FileAnswer). a.code) same ∙ z)))

  module _ (t : Totals) (e : r ≡ Ok t) where
    passed_is : passed t ≡ file_check psc file
    passed_is = ap file_answered (sym e) ∙ er

    code_is : (file_check psc file).code ≡ 0
    code_is = ap (λ (a : FileAnswer). a.code) (sym passed_is)

    pub accepted_whole : (length file % 401 ≡ 0) × (records_in file ≤ 999)
    accepted_whole = let right = ((check_accepts_exactly psc file).0 code_is).1 in (right.multiple, right.few)

    closing_is : (a : FileAnswer) → a ≡ closing_of (passed t) (records_of file) → a ≡ closing_answer psc file
    closing_is a ea = ea ∙ ap (λ (good : FileAnswer). closing_of good (records_of file)) passed_is ∙ sym (sets_asked psc file code_is)

    pub no_sets : NoneInSet file → file_answered (Ok t) ≡ closing_answer psc file
    no_sets none = closing_is (passed t) (sym (closing_none (passed t) file (λ j l. place_alone (records_of file) (record_at file j) (none j l))))

    module _ (w : Result (Unit {0}) Break) (known : Closed file w) where
      pub sets_whole : (u : Unit {0}) → w ≡ Ok u → file_answered (Ok t) ≡ closing_answer psc file
      sets_whole u ew = closing_is (passed t) (ap (closed (passed t)) (sym ew) ∙ known.each (passed t))

      pub set_broken : (b : Break) → w ≡ Err b → (a : Result Totals Break) → a ≡ Err b → file_answered a ≡ closing_answer psc file
      set_broken b ew a ea = closing_is (file_answered a) (ap file_answered ea ∙ ap (closed (passed t)) (sym ew) ∙ known.each (passed t))

pub to_link : (file : List ℕ) (places slots : ℕ) → records_in file ≤ places → places + 1 < slots → ToLink file (replicate slots 0) (replicate places None)
to_link file places slots few more = record { none = indexed_none file 362 slots; slots = rw length-replicate (omega arith); room = rw length-replicate (omega arith) }
