-- The line of seven numbers: each turn of the loops that count it and put it, and each way out of the calls.
-- Assumes nothing.
use Rattle.std.proofs.Common.{rules, Result, Ok, Err}
use Rattle.std.specs.List.{sum_by}
use Rattle.std.proofs.lemmas.List.Sums.{sum_by-cons}
use Prim.Native.Nat.{ℕ, ◌+◌, ◌-◌, ◌*◌, ◌≤◌, ◌<◌}
use mathlib.Core.Path.{◌≡◌, refl, sym, ap, ◌∙◌}
use mathlib.Core.Bool.{Bool, true, false, not}
use mathlib.Core.List.{List, [], ◌∷◌, ◌++◌, append_assoc}
use native.Mathlib.Nat.{add_assoc, add-zero}
use native.Mathlib.Numerals.{add-one}
use native.Mathlib.Omega.{arith}
use borrow.Author.Tests.{lt-ltb, le-ltb, le-leb, not-true, not-false}
use borrow.Rule.Slice.PartMut.{put_mid}
use lib.Dec.{leb}
use lib.ListN.{length, get_or, take, drop, set, length-append, length-drop, take-append-drop}
use lib.Seq.{take_at, take-append_seam, drop_at, set_split, drop-drop, length-take-le}
use Rattle.text.specs.declared.Refusal.{Refusal}
use Rattle.text.specs.Lists.{overlay}
use Rattle.text.specs.Numbers.{digits, decimal_places, decimal_places_up_to, decimal}
use Rattle.text.specs.Texts.{bytes}
use Rattle.text.proofs.Lists.{step, ended}
use Rattle.text.proofs.Numbers.{length_digits, digits_put}
use Rattle.text.proofs.Decimals.{decimal_places_within}
use Rattle.psc.specs.Table.{rises_from, right_table}
use Rattle.psc.specs.Search.{found}
use Rattle.psc.specs.Calls.{TableRead}
use Rattle.psc.proofs.SearchLaws.{found_is_holds}
use Rattle.psc.proofs.ReadLaws.{read_refused, read_right, read_front}
use Rattle.posting.specs.declared.FileAnswer.{FileAnswer}
use Rattle.posting.specs.File.{totals_over, break_from, file_answer, refused, table_refused}
use Rattle.posting.specs.Report.{numbers_of, behind, line, report_of, Report, longest_line, WholeLine, input_answer, under_text}

-- ---- one number on
line_step : (ns : List ℕ) (i : ℕ) → i < length ns → line (drop i ns) ≡ decimal (get_or ns i 0) ++ behind (drop (i + 1) ns) ∷ line (drop (i + 1) ns)
unfolding line
line_step ns i h = rw (step ns i h)

line_ended : (ns : List ℕ) (i : ℕ) → length ns ≤ i → line (drop i ns) ≡ []
unfolding line
line_ended ns i h = rw (ended ns i h)

-- ---- line_length
-- how many bytes one number has, with the byte behind it
abbrev pub width : ℕ → ℕ
width n = decimal_places n + 1

pub line_widths : (ns : List ℕ) → sum_by width ns ≡ length (line ns)
unfolding line
line_widths [] = refl
line_widths (n ∷ ns) =
    sum_by-cons width n ns
    ∙ omega (arith, line_widths ns, length-append (decimal n) (behind ns ∷ line ns), length_digits (decimal_places n) n)

-- ---- the byte behind
pub behind_more : (ns : List ℕ) (i : ℕ) → i + 1 < length ns → 32 ≡ behind (drop (i + 1) ns)
behind_more ns i h = rw (step ns (i + 1) h)

-- ---- texts put into a list
pub length_overlay : (s p : List ℕ) (a : ℕ) → a + length p ≤ length s → length (overlay s a p) ≡ length s
length_overlay s p a h = simp (length-append, length-take-le a s (omega arith), length-drop) (omega arith)

pub overlay_none : (s : List ℕ) (a : ℕ) → overlay s a [] ≡ s
overlay_none s a = rw (add-zero a) (take-append-drop a s)

-- one put behind another is both put at once
pub overlay_join : (s p q : List ℕ) (a : ℕ) → a ≤ length s → overlay (overlay s a p) (a + length p) q ≡ overlay s a (p ++ q)
overlay_join s p q a h =
    let e : ℕ = a + length p in
    let rest : List ℕ = drop e s in
    let front : length (take a s ++ p) ≡ e = length-append (take a s) p ∙ ap (λ (k : ℕ). k + length p) (length-take-le a s h) in
    let behind-both : drop (e + length q) ((take a s ++ p) ++ rest) ≡ drop (a + length (p ++ q)) s =
    rw (← drop-drop (length q) e ((take a s ++ p) ++ rest), drop_at (take a s ++ p) rest e front, drop-drop (length q) e s, length-append p q, add_assoc a (length p) (length q)) in
    rw (← append_assoc (take a s) p rest, take_at (take a s ++ p) rest e front, behind-both) (simp append_assoc)

set_behind : (s p : List ℕ) (a b : ℕ) → a + length p < length s → set (overlay s a p) (a + length p) b ≡ overlay s a (p ++ b ∷ [])
set_behind s p a b h =
    let e : ℕ = a + length p in
    let long : e < length (overlay s a p) = rw (length_overlay s p a (omega arith)) h in
    set_split (overlay s a p) e b long ∙ ap (λ (k : ℕ). take e (overlay s a p) ++ b ∷ drop k (overlay s a p)) (sym (add-one e)) ∙ overlay_join s p (b ∷ []) a (omega arith)

-- ---- put_number
pub number_put : (s t : List ℕ) (a n b w : ℕ) → a + decimal_places n < length s → (w ≡ decimal_places n) × ((1 ≤ w) × (w ≤ 20))
    → t ≡ digits (length (take (a + w - a) (drop a s))) n → set (put_mid a (a + w - a) s t) (a + w) b ≡ overlay s a (decimal n ++ b ∷ [])
number_put s t a n b w room ew e =
    let long : length (decimal n) ≡ w = length_digits (decimal_places n) n ∙ sym ew.0 in
    let put : put_mid a (a + w - a) s t ≡ overlay s a (decimal n) = digits_put s t a w n (omega arith) e ∙ rw ew.0 in
    rw (put, ← long) (set_behind s (decimal n) a b (omega arith))

-- ---- put_line: what the rest will make of the buffer is what the whole line makes of it
-- number i with the byte behind it
abbrev item : List ℕ → ℕ → List ℕ
item ns i = decimal (get_or ns i 0) ++ behind (drop (i + 1) ns) ∷ []

length_item : (ns : List ℕ) (i : ℕ) → length (item ns i) ≡ decimal_places (get_or ns i 0) + 1
length_item ns i =
    let n : ℕ = get_or ns i 0 in
    length-append (decimal n) (behind (drop (i + 1) ns) ∷ []) ∙ rw (length_digits (decimal_places n) n)

module _ (ns : List ℕ) (i a : ℕ) (o : List ℕ) (h : i < length ns) (room : a + length (line (drop i ns)) ≤ length o) where
  joined : line (drop i ns) ≡ item ns i ++ line (drop (i + 1) ns)
  joined = line_step ns i h ∙ sym (append_assoc (decimal (get_or ns i 0)) (behind (drop (i + 1) ns) ∷ []) (line (drop (i + 1) ns)))

  split_room : a + (decimal_places (get_or ns i 0) + 1 + length (line (drop (i + 1) ns))) ≤ length o
  split_room = rw (joined, length-append (item ns i) (line (drop (i + 1) ns)), length_item ns i) at room

  pub room_number : a + decimal_places (get_or ns i 0) < length o
  room_number = omega (arith, split_room)

  module _ (o' : List ℕ) (a' b : ℕ) (eb : b ≡ behind (drop (i + 1) ns))
      (put : (o' ≡ overlay o a (decimal (get_or ns i 0) ++ b ∷ [])) × (a' ≡ a + decimal_places (get_or ns i 0) + 1)) where
    now_is : o' ≡ overlay o a (item ns i)
    now_is = put.0 ∙ rw eb

    pub put_long : (l : ℕ) → length o ≡ l → length o' ≡ l
    put_long l e = rw now_is (length_overlay o (item ns i) a (omega (arith, length_item ns i, split_room)) ∙ e)

    pub put_room : a' + length (line (drop (i + 1) ns)) ≤ length o'
    put_room = omega (arith, put_long (length o) refl, put.1, split_room)

    pub put_on : (r : List ℕ) → overlay o a (line (drop i ns)) ≡ r → overlay o' a' (line (drop (i + 1) ns)) ≡ r
    put_on r e =
        let at : a' ≡ a + length (item ns i) = omega (arith, put.1, length_item ns i) in
        rw (at, now_is, overlay_join o (item ns i) (line (drop (i + 1) ns)) a (omega (arith, split_room)), ← joined) e

pub put_done : (ns o : List ℕ) (i a : ℕ) (r : List ℕ) → length ns ≤ i → overlay o a (line (drop i ns)) ≡ r → o ≡ r
put_done ns o i a r h e = sym (overlay_none o a) ∙ (rw (line_ended ns i h) at e)

-- ---- the line fits
line_at_most : (ns : List ℕ) → length (line ns) ≤ 21 * length ns
unfolding line
line_at_most [] = omega arith
line_at_most (n ∷ ns) =
    omega (arith, length-append (decimal n) (behind ns ∷ line ns), length_digits (decimal_places n) n, decimal_places_within 19 n, line_at_most ns)

pub report_fits : (a : FileAnswer) → length (report_of a) ≤ longest_line
report_fits a = line_at_most (numbers_of a)

pub whole_line : (a : FileAnswer) (s t : List ℕ) (r : Result ℕ Refusal) → longest_line ≤ length s → Report a s r t → WholeLine a r t
whole_line a s t r room p =
    let fits : leb (length (report_of a)) (length s) ≡ true = le-leb (length (report_of a)) (length s) (omega (arith, report_fits a)) in
    let line_is : t ≡ overlay s 0 (report_of a) = rw fits at p.bytes in
    record { answers = rw fits at p.answers; bytes = rw line_is (take-append_seam (report_of a) (drop (0 + length (report_of a)) s)) }

-- what a caller needs to take it off the buffer's front: its length is the one that is given
pub line_counts : (a : FileAnswer) (t : List ℕ) (r : Result ℕ Refusal) (n : ℕ) → WholeLine a r t → r ≡ Ok n → n ≡ length (report_of a)
line_counts a t r n w e = search (rules, w.answers, e)

pub line_front : (a : FileAnswer) (t : List ℕ) (r : Result ℕ Refusal) (n : ℕ) → WholeLine a r t → r ≡ Ok n → take n t ≡ report_of a
line_front a t r n w e = rw (line_counts a t r n w e) w.bytes

-- ---- the line under a table that is given as text, of any answer by a table: a program reads it into a lent one of enough places
module _ (answer : List ℕ → FileAnswer) (text before table : List ℕ) (read : Result ℕ Refusal) (told : TableRead text before read table) (line line' : List ℕ) (r : Result ℕ Refusal)
    (room : (16000 ≤ length before) × (longest_line ≤ length line)) where
  pub text_refused : (a : FileAnswer) (e : Refusal) → read ≡ Err e → a ≡ table_refused → Report a line r line' → WholeLine (under_text text answer) r line'
  text_refused a e q s p = rw (read_refused text before read table told room.0 e q, ← s) (whole_line a line line' r room.1 p)

  pub text_reported : (n : ℕ) → read ≡ Ok n → Report (answer (take n table)) line r line' → WholeLine (under_text text answer) r line'
  text_reported n q p =
      rw (read_right text before read table told room.0 n q, ← read_front text before read table told room.0 n q) (whole_line _ line line' r room.1 p)

-- ---- check_input
pub input_wrong_table : (psc input : List ℕ) (b : Bool) (r : FileAnswer) → b ≡ right_table psc → not b ≡ true → r ≡ table_refused → r ≡ input_answer psc input
unfolding input_answer
input_wrong_table psc input b r e n g = g ∙ rw (← e, not-true b n)

module _ (psc input : List ℕ) (b : Bool) (r : FileAnswer) (e : b ≡ right_table psc) (n : not b ≡ false) where
  right : right_table psc ≡ true
  right = sym e ∙ not-false b n

  pub input_long : 64160 < length input → r ≡ refused 213 0 0 → r ≡ input_answer psc input
  unfolding input_answer
  input_long h g = g ∙ rw (right, lt-ltb 64160 (length input) h)

  pub input_taken : length input ≤ 64160 → r ≡ file_answer (found psc) input → r ≡ input_answer psc input
  unfolding input_answer
  input_taken h g = g ∙ rw (found_is_holds psc right, right, le-ltb 64160 (length input) h)

-- ---- the whole outputs that the paper gives
pub no_input : report_of (input_answer [] []) ≡ bytes "0 0 0 0 0 0 0" ++ 10 ∷ []
unfolding rises_from right_table input_answer file_answer break_from totals_over line digits decimal_places_up_to bytes
no_input = refl

pub one_byte : report_of (input_answer [] (65 ∷ [])) ≡ bytes "211 0 0 0 0 0 0" ++ 10 ∷ []
unfolding rises_from right_table input_answer file_answer line digits decimal_places_up_to bytes
one_byte = refl

pub long_input : (psc input : List ℕ) → right_table psc ≡ true → 64160 < length input → report_of (input_answer psc input) ≡ bytes "213 0 0 0 0 0 0" ++ 10 ∷ []
unfolding line digits decimal_places_up_to bytes
long_input psc input right h = rw (← input_long psc input true (refused 213 0 0) (sym right) refl h refl)

-- whatever the input is
pub wrong_table_lem : (psc input : List ℕ) → right_table psc ≡ false → report_of (input_answer psc input) ≡ bytes "238 0 0 0 0 0 0" ++ 10 ∷ []
unfolding line digits decimal_places_up_to bytes
wrong_table_lem psc input wrong = rw (← input_wrong_table psc input false table_refused (sym wrong) refl refl)
