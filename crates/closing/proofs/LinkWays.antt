-- Links: what they say of a file's records, and each way out of the functions of `links`.
-- Assumes nothing.
use Prim.Native.Nat.{ℕ, zero, suc, ◌+◌, ◌*◌, ◌≤◌, ◌<◌}
use Rattle.std.specs.Prelude.{Option, None, Some, IfSome, is_some}
use mathlib.Core.Path.{◌≡◌, refl, sym, ap, ◌∙◌}
use mathlib.Core.Bool.{Bool, true, false, cond, ◌&&◌, and-false}
use mathlib.Core.List.{List}
use native.Mathlib.Numerals.{add-one}
use native.Mathlib.Omega.{arith}
use lib.ListN.{length, get_or, take, drop, set, length-set, length-drop}
use lib.Seq.{take-add, take-take, drop-drop, drop_at, length-take-le, get_or-set_same, get_or-set_other}
use Rattle.std.proofs.lemmas.List.{get_or_default}
use Rattle.text.specs.Lists.{same_bytes}
use Rattle.text.proofs.Lists.{same_exactly, same_refl}
use Rattle.layout.specs.Layout.{field_of}
use Rattle.fields.specs.Others.{read_status}
use Rattle.index.specs.Index.{key_at, seek, slot_number, Put}
use Rattle.index.specs.Laws.{Indexed}
use Rattle.index.proofs.Keys.{key_of_record}
use Rattle.index.proofs.Slots.{seek_small, indexed_more, length_noting}
use Rattle.posting.specs.File.{record_at, records_in}
use Rattle.posting.specs.Sums.{is_live}
use Rattle.posting.proofs.RecordList.{record_wide}
use Rattle.closing.specs.Links.{counted, live_at, main_at, last_live, live_from, Linked, RoomFor, NowNoted, ToLink}
use Rattle.closing.proofs.Below.{below_more}

-- ---- the key that the index goes by is field 22
pub main_is : (file : List ℕ) (i : ℕ) → i * 401 + 401 ≤ length file → key_at file 362 i ≡ main_at file i
unfolding field_of
main_is file i h =
    let line = drop (i * 401) file in
    let long : 401 ≤ length line = rw length-drop (omega arith) in
    let rest : drop 362 (take 399 line) ≡ take 37 (drop 362 line) =
    ap (drop 362) (take-add 362 37 line) ∙ drop_at (take 362 line) (take 37 (drop 362 line)) 362 (length-take-le 362 line (omega arith)) in
    rw (record_wide file i h, rest, take-take 13 37 (drop 362 line) (omega arith), drop-drop)

-- ---- the last live record under a main identifier
-- the places below n, and none
abbrev pub Below : ℕ → Option ℕ → Type 0
Below n at = IfSome at (λ i. i < n)

pub last_small : (file main : List ℕ) (n : ℕ) → Below n (last_live file main n)
unfolding last_live
last_small file main zero = tt
last_small file main (suc n) = go (live_at file n && same_bytes (main_at file n) main) (last_live file main n) (last_small file main n)
  where
    go : (t : Bool) (before : Option ℕ) → Below n before → Below (suc n) (cond t (Some n) before)
    go true before h = omega arith
    go false None h = tt
    go false (Some i) h = omega arith

pub counted_is : (t : ℕ) (at : Option ℕ) → slot_number at ≡ t → at ≡ counted t
counted_is zero None e = refl
counted_is zero (Some i) e = absurd (omega arith)
counted_is (suc n) None e = absurd (omega arith)
counted_is (suc n) (Some i) e = let same : i ≡ n = omega arith in ap Some same

-- it is found from the last record under that identifier, live or not
pub last_seek : (file key : List ℕ) (n : ℕ) → n * 401 ≤ length file → last_live file key n ≡ live_from file (counted (seek file 362 key n))
unfolding seek live_from last_live
last_seek file key zero h = refl
last_seek file key (suc n) h =
    rw (main_is file n (omega arith)) (go (same_bytes (main_at file n) key) refl (last_seek file key n (omega arith)))
  where
    go : (t : Bool) → same_bytes (main_at file n) key ≡ t → last_live file key n ≡ live_from file (counted (seek file 362 key n))
        → cond (live_at file n && t) (Some n) (last_live file key n) ≡ live_from file (counted (cond t (suc n) (seek file 362 key n)))
    go true e ih =
        let same = (same_exactly (main_at file n) key).0 e in
        rw (same_refl (main_at file n)) (ap (λ (k : List ℕ). cond (live_at file n && true) (Some n) (last_live file k n)) (sym same))
    go false e ih = rw (and-false (live_at file n)) ih

-- ---- live_from
pub from_none : (file : List ℕ) (at r : Option ℕ) → at ≡ None → r ≡ None → r ≡ live_from file at
unfolding live_from
from_none file at r e er = er ∙ rw e

from_here : (file : List ℕ) (i : ℕ) (b : Bool) → live_at file i ≡ b → live_from file (Some i) ≡ cond b (Some i) (last_live file (main_at file i) i)
unfolding live_from last_live
from_here file i true e = rw (e, same_refl (main_at file i))
from_here file i false e = rw e

module _ (file rec : List ℕ) (at : Option ℕ) (i : ℕ) (b : Bool) (ea : at ≡ Some i) (er : rec ≡ record_at file i) (eb : b ≡ is_live (read_status (field_of rec 19))) where
  alive_is : live_at file i ≡ b
  alive_is = rw er at (sym eb)

  pub from_live : b ≡ true → at ≡ live_from file at
  from_live t = rw ea (sym (from_here file i true (alive_is ∙ t)))

  pub from_link : b ≡ false → (links : List (Option ℕ)) → IfSome at (λ i. (i < records_in file) × Linked file (i + 1) links) → (r : Option ℕ) → r ≡ get_or links i None
      → r ≡ live_from file at
  from_link t links known r el =
      let linked = (rw ea at known).1 in
      el ∙ linked.each i (omega arith) ∙ rw ea (sym (from_here file i false (alive_is ∙ t)))

-- a link as it is read
pub link_read : (links : List (Option ℕ)) (i : ℕ) (link r : Option ℕ) → r ≡ link → link ≡ get_or links i link → i < length links → r ≡ get_or links i None
link_read links i link r er el h = er ∙ el ∙ get_or_default links i link None h

-- whether there is one
pub link_some : (file : List ℕ) (links : List (Option ℕ)) (n i : ℕ) (link r : Option ℕ) (b t : Bool) → Linked file n links → i < n → r ≡ link → link ≡ get_or links i link → b ≡ is_some r → b ≡ t
    → is_some (get_or links i None) ≡ t
link_some file links n i link r b t linked h er el eb et = ap is_some (sym (link_read links i link r er el (omega (arith, linked.room)))) ∙ sym eb ∙ et

-- a record is linked to one before it
pub link_small : (file : List ℕ) (links : List (Option ℕ)) (n i : ℕ) → Linked file n links → i < n → Below i (get_or links i None)
link_small file links n i linked h = rw (linked.each i h) (last_small file (main_at file i) i)

-- ---- live_before
pub linked_below : (file : List ℕ) (links : List (Option ℕ)) (n k : ℕ) → Linked file n links → k ≤ n → Linked file k links
linked_below file links n k linked h = record { room = omega (arith, linked.room); each = λ i l. linked.each i (omega arith) }

-- where a walk of the index begins, of n records that are linked
pub found_linked : (file key : List ℕ) (links : List (Option ℕ)) (n : ℕ) (at : Option ℕ) → slot_number at ≡ seek file 362 key n → Linked file n links → n ≤ records_in file
    → IfSome at (λ i. (i < records_in file) × Linked file (i + 1) links)
found_linked file key links n None e linked h = tt
found_linked file key links n (Some i) e linked h =
    let small = seek_small file 362 key n in
    (omega (arith, small), linked_below file links n (i + 1) linked (omega (arith, small)))

module _ (file table : List ℕ) (links : List (Option ℕ)) (i : ℕ) (at : Option ℕ) (after : List ℕ) (put : Put table file 362 i at after) (inside : i < records_in file)
    (known : RoomFor file i table) where
  whole : i * 401 + 401 ≤ length file
  whole = omega (arith, inside)

  before_is : slot_number at ≡ seek file 362 (key_at file 362 i) i
  before_is = put.before ∙ known.noted.finds (key_at file 362 i)

  pub before_linked : Linked file i links → IfSome at (λ j. (j < records_in file) × Linked file (j + 1) links)
  before_linked linked = found_linked file (key_at file 362 i) links i at before_is linked (omega arith)

  pub now_noted : records_in file ≤ 999 → (r : Option ℕ) → r ≡ live_from file at → NowNoted file i table after r
  now_noted few r e = record {
    noted = rw put.notes (indexed_more file 362 i table known.noted known.room (omega arith) (key_of_record file 362 i (omega arith) whole));
    long = rw put.notes (length_noting table file 362 i);
    link = e ∙ ap (live_from file) (counted_is _ at before_is) ∙ sym (last_seek file (key_at file 362 i) i (omega (arith, whole)))
        ∙ ap (λ (k : List ℕ). last_live file k i) (main_is file i whole);
  }

-- ---- link_all
-- the first n records are noted and linked, in the room that was lent
pub record LinkedTo (file : List ℕ) (n : ℕ) (table₀ : List ℕ) (links₀ : List (Option ℕ)) (table : List ℕ) (links : List (Option ℕ)) : Type 0 where
  pub noted : Indexed file 362 n table
  pub slots : length table ≡ length table₀
  pub linked : Linked file n links
  pub places : length links ≡ length links₀

pub none_linked : (file table : List ℕ) (links : List (Option ℕ)) → ToLink file table links → LinkedTo file 0 table links table links
none_linked file table links known = record {
  noted = known.none;
  slots = refl;
  linked = record { room = omega arith; each = λ i h. absurd (omega arith) };
  places = refl;
}

pub one_linked : (file : List ℕ) (n : ℕ) (table₀ : List ℕ) (links₀ : List (Option ℕ)) (table : List ℕ) (links : List (Option ℕ)) (after : List ℕ) (r : Option ℕ)
    → ToLink file table₀ links₀ → n < records_in file → LinkedTo file n table₀ links₀ table links → NowNoted file n table after r
    → LinkedTo file (n + 1) table₀ links₀ after (set links n r)
one_linked file n table₀ links₀ table links after r room h known now = record {
  noted = now.noted;
  slots = now.long ∙ known.slots;
  linked = record { room = rw length-set (omega (arith, known.places, room.room)); each = each };
  places = length-set links n r ∙ known.places;
}
  where
    there : n < length links
    there = omega (arith, known.places, room.room)

    before : (i : ℕ) → i < n → get_or (set links n r) i None ≡ last_live file (main_at file i) i
    before i h = get_or-set_other links n i r None (λ e. omega arith) ∙ known.linked.each i h

    each : (i : ℕ) → i < n + 1 → get_or (set links n r) i None ≡ last_live file (main_at file i) i
    each = rw add-one (below_more (λ i. get_or (set links n r) i None ≡ last_live file (main_at file i) i) n before (get_or-set_same links n r None there ∙ now.link))

pub place_low : (file main : List ℕ) (n : ℕ) (r : Option ℕ) → r ≡ last_live file main n → n < records_in file → records_in file ≤ 999 → IfSome r (λ i. i < 65535)
place_low file main n r er h few = go r (rw er (last_small file main n))
  where
    go : (r : Option ℕ) → Below n r → IfSome r (λ i. i < 65535)
    go None low = tt
    go (Some i) low = omega (arith, low)
