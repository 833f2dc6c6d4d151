-- Each turn of the loops, and each way out of the functions, from the facts that are known there.
-- Assumes nothing.
use Prim.Native.Nat.{ℕ, zero, suc, ◌+◌, ◌-◌, ◌*◌, ◌/◌, ◌%◌, ◌≤◌, ◌<◌}
use mathlib.Core.Path.{◌≡◌, refl, sym, ap, ◌∙◌}
use mathlib.Core.Bool.{Bool, true, false, cond, not, ◌||◌}
use mathlib.Core.List.{List, []}
use native.Mathlib.Nat.{add-sub_cancel_left, add-zero, sub-zero, zero-mul}
use native.Mathlib.Numerals.{add-one}
use native.Mathlib.Omega.{arith}
use borrow.Author.Tests.{eq-eqb, ne_eqb, eqb-false, le-leb, lt-leb, not-true, not-false}
use lib.Dec.{eqb}
use lib.ListN.{length, get_or, take, drop}
use lib.Seq.{take-take, get_or-take, get_or-drop, drop-drop}
use Rattle.std.specs.Prelude.{Result, Ok, Err, Option, None, Some, is_some}
use Rattle.std.specs.Bool.{⊤}
use Rattle.std.specs.Result.{result_unwrap_or}
use Rattle.std.specs.Simd.{first_chunks}
use Rattle.text.specs.declared.Answer.{Answer}
use Rattle.text.specs.declared.Refusal.{Refusal}
use Rattle.text.specs.Answers.{answer, accepted, answer_of, answered, or_else}
use Rattle.text.proofs.Refusals.{refuses, not_accepted}
use Rattle.text.specs.Lists.{same_bytes}
use Rattle.psc.specs.Table.{right_table, Known}
use Rattle.psc.specs.Search.{found}
use Rattle.psc.proofs.SearchLaws.{found_is_holds}
use Rattle.record.specs.Rules.{in_file, record_answer}
use Rattle.ident.specs.declared.consignor.Consignor.{Consignor}
use Rattle.ident.specs.Consignor.{another, or_named, first_named}
use Rattle.record.specs.Consignors.{consignor_of, strays}
use Rattle.record.proofs.Consignors.{first_suffices, one_none, one_more_lem, first_more}
use Rattle.posting.specs.declared.Totals.{Totals}
use Rattle.index.specs.Index.{key_at, seek, slot_number, Put}
use Rattle.index.specs.Laws.{Indexed}
use Rattle.index.proofs.Keys.{key_of_record}
use Rattle.index.proofs.Slots.{indexed_more, length_noting}
use Rattle.posting.specs.Records.{line_at}
use Rattle.posting.specs.Slots.{RoomFor, NowNoted, Seen, LineAnswered, ToCheck, HasRoom}
use Rattle.posting.specs.declared.FileAnswer.{FileAnswer}
use Rattle.posting.specs.File.{up_to, record_at, records, id_at, line_ends, repeats, line_answer, no_totals, with_record, totals_over, refused, passed, line_or, break_from, records_in, file_answer, table_refused, file_check}

-- ---- line i of a file: record i is its first 399 bytes, and two bytes are its end
module _ (file : List ℕ) (i : ℕ) (line : List ℕ) (el : line ≡ line_at file i) where
  pub record_in : take 399 line ≡ record_at file i
  record_in = ap (take 399) el ∙ take-take 399 401 (drop (i * 401) file) (omega arith)

  byte_in : (j : ℕ) → j < 401 → get_or line j 0 ≡ get_or file (i * 401 + j) 0
  byte_in j h = ap (λ (x : List ℕ). get_or x j 0) el ∙ get_or-take 401 (drop (i * 401) file) j 0 h ∙ get_or-drop (i * 401) file j 0

  pub end_in : line_ends file i ≡ line_ends line 0
  end_in = rw (byte_in 399 (omega arith), byte_in 400 (omega arith))

-- the lines of a file are its chunks of 401 bytes
pub nth_chunk : (n k i : ℕ) (xs : List ℕ) → i < k → get_or (first_chunks n k xs) i [] ≡ take n (drop (i * n) xs)
nth_chunk n zero i xs h = absurd (omega (arith, h))
nth_chunk n (suc k) zero xs h = ap (λ (a : ℕ). take n (drop a xs)) (sym (zero-mul n))
nth_chunk n (suc k) (suc i) xs h =
    nth_chunk n k i (drop n xs) (omega arith)
    ∙ ap (take n) (drop-drop (i * n) n xs ∙ ap (λ (a : ℕ). drop a xs) (omega arith))

-- ---- repeated: an earlier record has the identifier where the index finds one
same_key : (file : List ℕ) (i n : ℕ) → same_bytes (id_at file n) (id_at file i) ≡ same_bytes (key_at file 0 n) (key_at file 0 i)
same_key file i n = rw (add-zero (n * 401), add-zero (i * 401))

repeats_seek : (file : List ℕ) (i n : ℕ) → repeats file i n ≡ not (eqb (seek file 0 (key_at file 0 i) n) 0)
unfolding repeats seek
repeats_seek file i zero = refl
repeats_seek file i (suc n) = rw (repeats_seek file i n, same_key file i n) (go (same_bytes (key_at file 0 n) (key_at file 0 i)))
  where
    go : (t : Bool) → (t || not (eqb (seek file 0 (key_at file 0 i) n) 0)) ≡ not (eqb (cond t (suc n) (seek file 0 (key_at file 0 i) n)) 0)
    go true = rw (ne_eqb (suc n) 0 (λ e. omega arith))
    go false = refl

-- a place is there where its number is not 0
some_number : (r : Option ℕ) → is_some r ≡ not (eqb (slot_number r) 0)
some_number None = refl
some_number (Some i) = rw (ne_eqb (suc i) 0 (λ e. omega arith))

module _ (file : List ℕ) (i : ℕ) (table : List ℕ) (r : Option ℕ) (after : List ℕ) (put : Put table file 0 i r after) (room : RoomFor file i table) where
  pub repeated_is : (b : Bool) → b ≡ is_some r → b ≡ repeats file i i
  repeated_is b e = e ∙ some_number r ∙ rw (put.before, room.noted.finds (key_at file 0 i)) (sym (repeats_seek file i i))

  pub now_noted : NowNoted file i table after
  now_noted =
      rw put.notes
      record {
        noted = indexed_more file 0 i table room.noted room.room (omega (arith, room.few)) (key_of_record file 0 i (omega arith) room.whole);
        long = length_noting table file 0 i;
      }

-- ---- line_answer
module _ (known : Known) (file : List ℕ) (i : ℕ) (line : List ℕ) (el : line ≡ line_at file i) where
  -- its end is wrong
  pub line_open : (b : Bool) → b ≡ line_ends line 0 → b ≡ false → answer 212 0 ≡ line_answer known file i
  unfolding line_answer
  line_open b e n =
      let open-end : line_ends file i ≡ false = end_in file i line el ∙ sym e ∙ n in
      rw open-end

  module _ (f : Bool) (ef : f ≡ line_ends line 0) (ended : f ≡ true) where
    ends : line_ends file i ≡ true
    ends = end_in file i line el ∙ sym ef ∙ ended

    -- the record breaks its table, or else what comes behind
    module _ (a : Result ⊤ Refusal) (ea : answered a ≡ record_answer (in_file known) (take 399 line)) where
      judged : record_answer (in_file known) (record_at file i) ≡ answered a
      judged = ap (record_answer (in_file known)) (sym (record_in file i line el)) ∙ sym ea

      pub line_breaks : (e : Refusal) → a ≡ Err e → answer_of e ≡ line_answer known file i
      unfolding line_answer or_else
      line_breaks e q =
          let refused : record_answer (in_file known) (record_at file i) ≡ answer_of e = judged ∙ ap answered q in
          rw (ends, refused, refuses e)

      module _ (x : ⊤) (q : a ≡ Ok x) (b : Bool) (e : b ≡ repeats file i i) where
        passed_table : record_answer (in_file known) (record_at file i) ≡ accepted
        passed_table = judged ∙ ap answered q

        pub line_repeats : b ≡ true → answer 2 1 ≡ line_answer known file i
        unfolding line_answer or_else
        line_repeats t = rw (ends, passed_table, ← e, t)

        -- the first consignor named suffices
        module _ (t : b ≡ false) (seen c : Option Consignor) (sees : Seen file i seen) (ec : c ≡ consignor_of (take 399 line)) (w : Bool) (ew : w ≡ another seen c) where
          named_here : c ≡ consignor_of (record_at file i)
          named_here = ec ∙ ap consignor_of (record_in file i line el)

          strays_here : strays (records file i) (record_at file i) ≡ w
          strays_here =
              first_suffices (records file i) (record_at file i) sees.one
              ∙ rw (← sees.first, ← named_here) (sym ew)

          pub line_strays : w ≡ true → answer 241 1 ≡ line_answer known file i
          unfolding line_answer or_else
          line_strays h = rw (ends, passed_table, ← e, t, strays_here, h)

          pub line_passes : w ≡ false → accepted ≡ line_answer known file i
          unfolding line_answer or_else
          line_passes h = rw (ends, passed_table, ← e, t, strays_here, h)

          pub line_seen : w ≡ false → (n : Option Consignor) → n ≡ or_named seen c → Seen file (i + 1) n
          unfolding up_to
          line_seen h n en =
              rw (add-one i)
              record {
                one = one_more_lem (records file i) (record_at file i) sees.one (strays_here ∙ h);
                first = en ∙ rw (sees.first, named_here) (sym (first_more (records file i) (record_at file i)));
              }

-- what such an answer promises: one that refuses, and one that accepts
pub line_refused : (known : Known) (file : List ℕ) (i : ℕ) (table after : List ℕ) (e : Refusal) (r : Result (Option Consignor) Refusal) → r ≡ Err e → answer_of e ≡ line_answer known file i → LineAnswered known file i table after r
line_refused known file i table after e r q a = record { answers = ap answered q ∙ a; notes = λ c z. absurd (never c z); sees = λ c z. absurd (never c z) }
  where
    never : (c : Option Consignor) → r ≡ Ok c → ⊥
    never c z = not_accepted e (sym (ap answered z) ∙ ap answered q)

pub line_taken : (known : Known) (file : List ℕ) (i : ℕ) (table after : List ℕ) (n : Option Consignor) → accepted ≡ line_answer known file i → NowNoted file i table after → Seen file (i + 1) n
    → LineAnswered known file i table after (Ok n)
line_taken known file i table after n a noted sees =
    record { answers = a; notes = λ c z. noted; sees = λ c z. rw (ap (λ (r : Result (Option Consignor) Refusal). result_unwrap_or r n) z) at sees }

-- ---- check
pub file_odd : (known : Known) (file : List ℕ) (r : FileAnswer) → (length file % 401 ≡ 0 → ⊥) → r ≡ refused 211 0 0 → r ≡ file_answer known file
unfolding file_answer
file_odd known file r n e = e ∙ rw (ne_eqb (length file % 401) 0 n)

pub file_long : (known : Known) (file : List ℕ) (r : FileAnswer) → length file % 401 ≡ 0 → 999 < length file / 401 → r ≡ refused 213 0 0 → r ≡ file_answer known file
unfolding file_answer
file_long known file r n h e = e ∙ rw (eq-eqb (length file % 401) 0 n, lt-leb (length file / 401) 999 h)

-- under a lent table: 238, or what is answered by looking up in it, which is what it holds
pub file_wrong_table : (psc file : List ℕ) (b : Bool) (r : FileAnswer) → b ≡ right_table psc → not b ≡ true → r ≡ table_refused → r ≡ file_check psc file
unfolding file_check
file_wrong_table psc file b r e n g = g ∙ rw (← e, not-true b n)

pub file_looked_up : (psc file : List ℕ) (b : Bool) (r : FileAnswer) → b ≡ right_table psc → not b ≡ false → r ≡ file_answer (found psc) file → r ≡ file_check psc file
unfolding file_check
file_looked_up psc file b r e n g =
    let right : right_table psc ≡ true = sym e ∙ not-false b n in
    g ∙ rw (found_is_holds psc right, right)

abbrev pub good_for : List ℕ → FileAnswer
good_for file = passed (totals_over file (records_in file))

-- what the records from i on give is what all give
pub record Unbroken (known : Known) (file : List ℕ) (i : ℕ) : Type 0 where
  pub same : break_from known file (good_for file) (length file / 401 - i) i ≡ break_from known file (good_for file) (length file / 401) 0

pub unbroken_start : (known : Known) (file : List ℕ) → Unbroken known file 0
unbroken_start known file = record { same = rw (sub-zero (length file / 401)) }

step_on : (known : Known) (file : List ℕ) (i : ℕ) → i < length file / 401
    → break_from known file (good_for file) (length file / 401 - i) i ≡ line_or known file i (break_from known file (good_for file) (length file / 401 - (i + 1)) (i + 1))
unfolding break_from
step_on known file i h = let e : length file / 401 - i ≡ suc (length file / 401 - (i + 1)) = omega arith in rw e

pub file_on : (known : Known) (file : List ℕ) (i : ℕ) (a : Answer) → i < length file / 401 → Unbroken known file i → a ≡ line_answer known file i → a.code ≡ 0 → Unbroken known file (i + 1)
file_on known file i a h so ea z = record { same = rw (step_on known file i h, ← ea, eq-eqb a.code 0 z) at so.same }

module _ (known : Known) (file : List ℕ) (m : length file % 401 ≡ 0) (l : length file / 401 ≤ 999) where
  whole : break_from known file (good_for file) (length file / 401) 0 ≡ file_answer known file
  unfolding file_answer
  whole = rw (eq-eqb (length file % 401) 0 m, le-leb (length file / 401) 999 l)

  pub file_breaks : (i : ℕ) (a : Answer) (r : FileAnswer) → i < length file / 401 → Unbroken known file i → a ≡ line_answer known file i → (a.code ≡ 0 → ⊥)
      → r ≡ refused a.code (i + 1) a.place → r ≡ file_answer known file
  file_breaks i a r h so ea n e = e ∙ (rw (step_on known file i h, ← ea, ne_eqb a.code 0 n) at so.same) ∙ whole

  pub file_passes : (i : ℕ) (t : Totals) → length file / 401 ≤ i → i ≤ length file / 401 → Unbroken known file i → t ≡ totals_over file i → passed t ≡ file_answer known file
  unfolding break_from
  file_passes i t h k so et =
      let e : i ≡ length file / 401 = omega arith in
      let none : length file / 401 - i ≡ 0 = omega arith in
      rw (et, e) ((rw none at so.same) ∙ whole)

-- the records before i are accepted, and noted in the lent table, and their consignor seen
pub record SoFar (known : Known) (file : List ℕ) (i : ℕ) (table₀ table : List ℕ) (seen : Option Consignor) : Type 0 where
  pub unbroken : Unbroken known file i
  pub noted : Indexed file 0 i table
  pub slots : length table ≡ length table₀
  pub sees : Seen file i seen

pub so_far_none : (known : Known) (file table : List ℕ) → HasRoom file table → SoFar known file 0 table table None
unfolding up_to first_named
so_far_none known file table to =
    record { unbroken = unbroken_start known file; noted = to.none; slots = refl; sees = record { one = one_none; first = refl } }

-- record i among whole ones, before it is judged
pub line_here : (file : List ℕ) (lines : List (List ℕ)) (i : ℕ) → ToCheck file lines → i < length lines → get_or lines i [] ≡ line_at file i
line_here file lines i to h = ap (λ (x : List (List ℕ)). get_or x i []) to.cut ∙ nth_chunk 401 (length file / 401) i file (omega (arith, to.many, h))

pub room_here : (file table₀ table : List ℕ) (lines : List (List ℕ)) (known : Known) (i : ℕ) (seen : Option Consignor) → ToCheck file lines → HasRoom file table₀ → SoFar known file i table₀ table seen
    → i < length lines → RoomFor file i table
room_here file table₀ table lines known i seen to has so h = record {
  few = omega (arith, to.few, to.many, h);
  whole = omega (arith, to.whole, to.many, h);
  noted = so.noted;
  room = omega (arith, has.room, so.slots, to.many, h);
}

module _ (known : Known) (file : List ℕ) (i : ℕ) (table₀ table after : List ℕ) (seen : Option Consignor) (so : SoFar known file i table₀ table seen) (r : Result (Option Consignor) Refusal)
    (given : LineAnswered known file i table after r) (h : i < length file / 401) where
  pub so_far_on : (c : Option Consignor) → r ≡ Ok c → SoFar known file (i + 1) table₀ after c
  so_far_on c e =
      let right : accepted ≡ line_answer known file i = sym (ap answered e) ∙ given.answers in
      record {
        unbroken = file_on known file i accepted h so.unbroken right refl;
        noted = (given.notes c e).noted;
        slots = (given.notes c e).long ∙ so.slots;
        sees = given.sees c e;
      }

  pub first_breaks : length file % 401 ≡ 0 → length file / 401 ≤ 999 → (e : Refusal) → r ≡ Err e → refused (answer_of e).code (i + 1) (answer_of e).place ≡ file_answer known file
  first_breaks m l e q =
      let wrong : answer_of e ≡ line_answer known file i = sym (ap answered q) ∙ given.answers in
      file_breaks known file m l i (answer_of e) _ h so.unbroken wrong (eqb-false _ 0 (refuses e)) refl

pub totals_on : (file : List ℕ) (i : ℕ) (t t' : Totals) → t ≡ totals_over file i → t' ≡ with_record t (record_at file i) → t' ≡ totals_over file (i + 1)
unfolding totals_over
totals_on file i t t' e e' = e' ∙ rw (e, add-one i)

pub totals_start : (file : List ℕ) (t : Totals) → t ≡ no_totals → t ≡ totals_over file 0
unfolding totals_over
totals_start file t e = e

-- ---- k bytes from the start of record i: no proof uses it now, a note of an order names it
pub from_start : (file : List ℕ) (i k : ℕ) → take (i * 401 + k - i * 401) (drop (i * 401) file) ≡ take k (drop (i * 401) file)
from_start file i k = rw add-sub_cancel_left
