-- Actions on the file: each turn of the loops, and each way out of the functions.
-- Assumes nothing.
use Prim.Native.Nat.{ℕ, zero, suc, ◌+◌, ◌-◌, ◌*◌, ◌≤◌, ◌<◌}
use mathlib.Core.Path.{◌≡◌, refl, sym, ap, ◌∙◌, subst}
use mathlib.Core.Bool.{Bool, true, false, cond, not}
use lib.Dec.{eqb}
use mathlib.Core.List.{List, [], ◌∷◌, ◌++◌, append_assoc, append-nil}
use native.Mathlib.Nat.{add-zero, add-sub_cancel_left}
use native.Mathlib.Numerals.{add-one}
use native.Mathlib.Omega.{arith}
use borrow.Author.Tests.{ne_eqb, le-leb, lt-leb}
use borrow.Rule.Slice.PartMut.{put_mid}
use lib.ListN.{length, get_or, take, drop, set, length-append, length-drop, drop_of_length-le}
use lib.Seq.{take_at, take-take, take-add, drop-drop, take-suc, take_all, drop-cons, set_at, append_snoc, length-take-le}
use Rattle.std.proofs.lemmas.List.{drop-take, take-append-drop}
use Rattle.std.specs.Prelude.{Option, Some, None, is_some, IsSome, Result, Ok, Err, ⊤}
use Rattle.std.specs.Result.{IsErrAnd}
use Rattle.std.proofs.lemmas.Result.{err_from_is_err_and}
use Rattle.text.specs.declared.Refusal.{Refusal}
use Rattle.text.proofs.Refusals.{refuses, not_accepted}
use Rattle.psc.specs.Table.{Known}
use Rattle.text.specs.declared.Answer.{Answer}
use Rattle.text.specs.Answers.{answer, answer_of, answered, accepted, or_else}
use Rattle.text.specs.Lists.{same_bytes, overlay}
use Rattle.text.proofs.Lists.{put_is}
use Rattle.ident.specs.Identifier.{right_id}
use Rattle.ident.specs.Calls.{Checked}
use Rattle.layout.specs.Layout.{field_of}
use Rattle.ident.specs.declared.consignor.Consignor.{Consignor}
use Rattle.ident.specs.Consignor.{another}
use Rattle.record.specs.declared.RecordCheck.{RecordCheck}
use Rattle.record.specs.Rules.{to_post, record_answer}
use Rattle.record.specs.Consignors.{WithConsignor, consignor_of}
use Rattle.posting.specs.File.{line_of, id_at}
use Rattle.batch.specs.Places.{number_of_place, record_number, present, live_answer, add_answer, amend_answer, cancel_answer, with_line, action_answer}

-- ---- record_number: one record down
seek_down : (file id : List ℕ) (j : ℕ) → 0 < j → record_number file id j ≡ cond (same_bytes (id_at file (j - 1)) id) j (record_number file id (j - 1))
unfolding record_number
seek_down file id zero h = absurd (omega arith)
seek_down file id (suc j) h = let e : suc j - 1 ≡ j = omega arith in rw e

module _ (file id : List ℕ) (j r : ℕ) (b : Bool) (so : record_number file id j ≡ r) (h : 0 < j)
    (eb : b ≡ same_bytes (take ((j - 1) * 401 + 13 - (j - 1) * 401) (drop ((j - 1) * 401) file)) id) where
  here : b ≡ same_bytes (id_at file (j - 1)) id
  here = eb ∙ rw (add-sub_cancel_left)

  pub seek_found : b ≡ true → j - 1 + 1 ≡ r
  seek_found t = let e : j ≡ r = rw (seek_down file id j h, ← here, t) at so in omega (arith, e, h)

  pub seek_on : b ≡ false → record_number file id (j - 1) ≡ r
  seek_on t = rw (seek_down file id j h, ← here, t) at so

pub seek_none : (file id : List ℕ) (j r : ℕ) → record_number file id j ≡ r → j ≤ 0 → 0 ≡ r
unfolding record_number
seek_none file id j r so h = let z : j ≡ 0 = omega arith in rw z at so

-- ---- the place that is found
pub place_found : (file id : List ℕ) (held : ℕ) (r : Option ℕ) → (number_of_place r ≡ record_number file id held) × (number_of_place r ≤ held) → (k : ℕ) → r ≡ Some k
    → (k + 1 ≡ record_number file id held) × (k + 1 ≤ held)
place_found file id held r en k q = subst (λ (x : Option ℕ). (number_of_place x ≡ record_number file id held) × (number_of_place x ≤ held)) q en

pub some_place : (r : Option ℕ) → 1 ≤ number_of_place r → IsSome r
some_place None h = absurd (omega (arith, h))
some_place (Some k) h = refl

-- ---- add_answer, amend_answer, cancel_answer, action_answer
-- a refusal that is passed on, and what comes behind where there is none
pub refused : (q : Result ⊤ Refusal) (e : Refusal) (a b : Answer) → IsErrAnd q (λ y. y ≡ e) → answer_of e ≡ a → answered q ≡ or_else a b
unfolding or_else
refused q e a b given said =
    let p = err_from_is_err_and q given in
    rw (p.1, p.2, ← said, refuses e)

passed : (r a b : Answer) → accepted ≡ a → r ≡ b → r ≡ or_else a b
unfolding or_else
passed r a b said next = rw (← said) next

module _ (known : Known) (file rec : List ℕ) (held : ℕ) (k : RecordCheck) (ek : WithConsignor (record_answer (to_post known) rec) rec k) where
  said : (e : Refusal) → k.answer ≡ Err e → answer_of e ≡ record_answer (to_post known) rec
  said e is = sym (ap answered is) ∙ ek.0

  pub add_broken : (seen : Option Consignor) (e : Refusal) → k.answer ≡ Err e → (q : Result ⊤ Refusal) → IsErrAnd q (λ y. y ≡ e) → answered q ≡ add_answer known file held seen rec
  unfolding add_answer
  add_broken seen e is q given = refused q e (record_answer (to_post known) rec) _ given (said e is)

  pub amend_broken : (e : Refusal) → k.answer ≡ Err e → (q : Result ⊤ Refusal) → IsErrAnd q (λ y. y ≡ e) → answered q ≡ amend_answer known file held rec
  unfolding amend_answer
  amend_broken e is q given = refused q e (record_answer (to_post known) rec) _ given (said e is)

  module _ (x : ⊤) (z : k.answer ≡ Ok x) (id : List ℕ) (ei : id ≡ field_of rec 1) where
    good : accepted ≡ record_answer (to_post known) rec
    good = sym (ap answered z) ∙ ek.0

    pub amend_live : (r : Answer) → r ≡ live_answer file held id → r ≡ amend_answer known file held rec
    unfolding amend_answer
    amend_live r e = passed r (record_answer (to_post known) rec) _ good (e ∙ ap (live_answer file held) ei)

    module _ (n : Option ℕ) (en : (number_of_place n ≡ record_number file id held) × (number_of_place n ≤ held)) where
      there : present file (field_of rec 1) held ≡ is_some n
      there = ap (λ (x : ℕ). not (eqb x 0)) (sym (en.0 ∙ ap (λ (x : List ℕ). record_number file x held) ei)) ∙ go n
        where
          go : (o : Option ℕ) → not (eqb (number_of_place o) 0) ≡ is_some o
          go None = refl
          go (Some k) = rw (ne_eqb (k + 1) 0 (λ q. omega (arith, q)))

      pub add_repeats : (seen : Option Consignor) → is_some n ≡ true → answer 2 1 ≡ add_answer known file held seen rec
      unfolding add_answer
      add_repeats seen m = passed (answer 2 1) (record_answer (to_post known) rec) _ good (rw (there ∙ m))

      module _ (m : is_some n ≡ false) (seen : Option Consignor) (w : Bool) (ew : w ≡ another seen k.consignor) where
        other : another seen (consignor_of rec) ≡ w
        other = ap (another seen) (sym ek.1) ∙ sym ew

        pub add_strays : w ≡ true → answer 241 1 ≡ add_answer known file held seen rec
        unfolding add_answer
        add_strays t = passed (answer 241 1) (record_answer (to_post known) rec) _ good (rw (there ∙ m, other ∙ t))

        pub add_room : w ≡ false → 401 ≤ length file - held * 401 → accepted ≡ add_answer known file held seen rec
        unfolding add_answer
        add_room t h = passed accepted (record_answer (to_post known) rec) _ good (rw (there ∙ m, other ∙ t, le-leb (held * 401 + 401) (length file) (omega (arith, h))))

        pub add_full : w ≡ false → length file - held * 401 < 401 → answer 230 0 ≡ add_answer known file held seen rec
        unfolding add_answer
        add_full t h = passed (answer 230 0) (record_answer (to_post known) rec) _ good (rw (there ∙ m, other ∙ t, lt-leb (held * 401 + 401) (length file) (omega (arith, h))))

module _ (file id : List ℕ) (held : ℕ) (a : Result ⊤ Refusal) (ea : Checked id (answered a)) where
  pub cancel_broken : (e : Refusal) → a ≡ Err e → (q : Result ⊤ Refusal) → IsErrAnd q (λ y. y ≡ e) → answered q ≡ cancel_answer file held id
  unfolding cancel_answer
  cancel_broken e is q given = let p = err_from_is_err_and q given in ap answered p.1 ∙ ap answer_of p.2 ∙ go (right_id id) (sym (ap answered is) ∙ ea)
    where
      go : (t : Bool) → answer_of e ≡ cond t accepted (answer 1 1) → answer_of e ≡ cond t (live_answer file held id) (answer 1 1)
      go true h = absurd (not_accepted e (sym h))
      go false h = h

  pub cancel_live : (x : ⊤) → a ≡ Ok x → (r : Answer) → r ≡ live_answer file held id → r ≡ cancel_answer file held id
  unfolding cancel_answer
  cancel_live x is r e = e ∙ go (right_id id) (sym (ap answered is) ∙ ea)
    where
      go : (t : Bool) → accepted ≡ cond t accepted (answer 1 1) → live_answer file held id ≡ cond t (live_answer file held id) (answer 1 1)
      go true h = refl
      go false h = absurd (let w : ◌≡◌ {A = ℕ} 0 1 = ap (λ (y : Answer). y.code) h in omega (arith, w))

pub action_add : (known : Known) (file body : List ℕ) (held : ℕ) (seen : Option Consignor) (kind : ℕ) (r : Answer) → kind ≡ 1 → r ≡ add_answer known file held seen body → r ≡ action_answer known file held seen kind body
unfolding action_answer
action_add known file body held seen kind r k e = rw k e

pub action_amend : (known : Known) (file body : List ℕ) (held : ℕ) (seen : Option Consignor) (kind : ℕ) (r : Answer) → kind ≡ 3 → r ≡ amend_answer known file held body → r ≡ action_answer known file held seen kind body
unfolding action_answer
action_amend known file body held seen kind r k e = rw k e

pub action_cancel : (known : Known) (file body : List ℕ) (held : ℕ) (seen : Option Consignor) (kind : ℕ) (r : Answer) → kind ≡ 2 → r ≡ cancel_answer file held body → r ≡ action_answer known file held seen kind body
unfolding action_answer
action_cancel known file body held seen kind r k e = rw k e

-- ---- copy: so many bytes are those that are copied
pub copied_on : (s t : List ℕ) (i : ℕ) → i < length s → i < length t → set (take i t ++ drop i s) i (get_or t i 0) ≡ take (i + 1) t ++ drop (i + 1) s
copied_on s t i p q =
    let long : length (take i t) ≡ i = length-take-le i t (omega arith) in
    rw (add-one, drop-cons s i 0, take-suc t i 0, set_at (take i t)) (sym (append_snoc (take i t) (get_or t i 0) (drop (suc i) s)))

pub copied_all : (s t u : List ℕ) (i : ℕ) → length s ≡ length t → length t ≤ i → u ≡ take i t ++ drop i s → u ≡ t
copied_all s t u i l all g = g ∙ rw (take_all i t all, drop_of_length-le s {i = i} (omega (arith, l, all))) (append-nil t)

-- ---- write_line
pub line_written : (place rec front end : List ℕ) → length place ≡ 401 → length rec ≡ 399 → front ≡ rec → end ≡ 13 ∷ 10 ∷ []
    → put_mid 399 (length (front ++ drop 399 place) - 399) (front ++ drop 399 place) end ≡ line_of rec
line_written place rec front end wide long ef ee =
    let whole = rec ++ drop 399 place in
    let rest : length (drop 399 place) ≡ 2 = length-drop 399 place ∙ omega (arith, wide) in
    let all : length whole ≡ 401 = omega (arith, length-append rec (drop 399 place), long, rest) in
    let none : drop 401 whole ≡ [] = drop_of_length-le whole {i = 401} (omega (arith, all)) in
    rw (ef, ee, all) (put_is 399 401 whole (13 ∷ 10 ∷ []) (omega arith) (omega (arith, all)) ∙ rw (none, take_at rec (drop 399 place) 399 long))

-- ---- what is put into a place: a line, or two bytes
pub line_put : (file line rec : List ℕ) (k : ℕ) → line ≡ line_of rec → overlay file (k * 401 + 0) line ≡ with_line file k rec
line_put file line rec k e = rw (add-zero (k * 401), e)

two_put : (s : List ℕ) (a x y : ℕ) → a + 2 ≤ length s → overlay s a (x ∷ y ∷ []) ≡ set (set s a x) (a + 1) y
two_put [] a x y h = absurd (omega (arith, h))
two_put (b ∷ []) zero x y h = absurd (omega (arith, h))
two_put (b ∷ c ∷ s) zero x y h = refl
two_put (b ∷ s) (suc a) x y h =
    let past : suc a + 2 ≡ suc (a + 2) = omega arith in
    let next : suc a + 1 ≡ suc (a + 1) = omega arith in
    rw (past, next) (ap (λ (t : List ℕ). b ∷ t) (two_put s a x y (omega (arith, h))))

pub status_put : (file : List ℕ) (k x y : ℕ) → k * 401 + 401 ≤ length file → overlay file (k * 401 + 340) (x ∷ y ∷ []) ≡ set (set file (k * 401 + 340) x) (k * 401 + 341) y
status_put file k x y h =
    let next : k * 401 + 340 + 1 ≡ k * 401 + 341 = omega arith in
    two_put file (k * 401 + 340) x y (omega (arith, h)) ∙ ap (λ (a : ℕ). set (set file (k * 401 + 340) x) a y) next

pub bytes_put : (place part bytes : List ℕ) (at : ℕ) → length place ≡ 401 → at + length bytes ≤ 401 → part ≡ bytes
    → put_mid at (at + length bytes - at) place part ≡ overlay place at bytes
bytes_put place part bytes at long fits e = put_is at (at + length bytes) place part (omega arith) (omega (arith, long, fits)) ∙ rw e

-- the place that was lent is back
module _ (file bytes : List ℕ) (k at : ℕ) (inside : k * 401 + 401 ≤ length file) (fits : at + length bytes ≤ 401) where
  abbrev behind : List ℕ
  behind = drop (k * 401) file

  abbrev end : ℕ
  end = at + length bytes

  front_is : take (k * 401) file ++ take at (take 401 behind) ≡ take (k * 401 + at) file
  front_is = ap (λ (t : List ℕ). take (k * 401) file ++ t) (take-take at 401 behind (omega (arith, fits))) ∙ sym (take-add (k * 401) at file)

  back_is : drop end (take 401 behind) ++ drop (k * 401 + 401) file ≡ drop (k * 401 + at + length bytes) file
  back_is =
      let rest = 401 - end in
      let whole : 401 ≡ end + rest = omega (arith, fits) in
      let last : k * 401 + 401 ≡ k * 401 + end + rest = omega (arith, fits) in
      let start : drop end behind ≡ drop (k * 401 + end) file = drop-drop end (k * 401) file in
      let cut : drop end (take 401 behind) ≡ take rest (drop end behind) = ap (λ (w : ℕ). drop end (take w behind)) whole ∙ drop-take end rest behind in
      let others : drop (k * 401 + 401) file ≡ drop rest (drop end behind) =
      ap (λ (w : ℕ). drop w file) last ∙ sym (drop-drop rest (k * 401 + end) file) ∙ ap (drop rest) (sym start) in
      let sum : k * 401 + end ≡ k * 401 + at + length bytes = omega arith in
      (λ i. cut i ++ others i) ∙ take-append-drop rest (drop end behind) ∙ start ∙ ap (λ (w : ℕ). drop w file) sum

  pub place_put : (part : List ℕ) → part ≡ overlay (take (k * 401 + 401 - k * 401) behind) at bytes → put_mid (k * 401) (k * 401 + 401 - k * 401) file part ≡ overlay file (k * 401 + at) bytes
  place_put part e =
      let here : part ≡ overlay (take 401 behind) at bytes = e ∙ ap (λ (w : ℕ). overlay (take w behind) at bytes) (add-sub_cancel_left (k * 401) 401) in
      let front = take at (take 401 behind) in
      let back = drop end (take 401 behind) in
      let others = drop (k * 401 + 401) file in
      put_is (k * 401) (k * 401 + 401) file part (omega arith) inside
      ∙ ap (λ (t : List ℕ). take (k * 401) file ++ (t ++ others)) here
      ∙ ap (λ (t : List ℕ). take (k * 401) file ++ t) (append_assoc front (bytes ++ back) others ∙ ap (λ (t : List ℕ). front ++ t) (append_assoc bytes back others))
      ∙ sym (append_assoc (take (k * 401) file) front (bytes ++ (back ++ others)))
      ∙ (λ i. front_is i ++ (bytes ++ back_is i))
