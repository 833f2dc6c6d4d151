-- A record that is fine is accepted by its table; and each way out of the functions that tell it.
-- Assumes nothing.
use Prim.Native.Nat.{ℕ, suc, ◌+◌, ◌-◌, ◌≤◌, ◌<◌}
use mathlib.Core.Path.{◌≡◌, refl, sym, ap, ◌∙◌}
use mathlib.Core.Bool.{Bool, true, false, not, ◌&&◌, ◌||◌}
use mathlib.Core.List.{List, [], ◌∷◌, ◌++◌}
use native.Mathlib.Omega.{arith}
use borrow.Author.Tests.{eq-eqb, ne_eqb, not-true, not-false}
use lib.Dec.{eqb}
use lib.ListN.{length, get_or, take, drop, length-take, length-drop}
use lib.Seq.{take-take, take-add, drop-drop, get_or-take, get_or-drop}
use Rattle.std.specs.Prelude.{Err, None}
use Rattle.text.specs.declared.Answer.{Answer}
use Rattle.text.specs.declared.Refusal.TheVariants.{WrongLength}
use Rattle.text.specs.Answers.{answer, accepted}
use Rattle.text.specs.Bytes.{every, is_blank}
use Rattle.text.proofs.Booleans.{both, clash}
use Rattle.text.proofs.Numbers.{every_append}
use Rattle.ident.specs.Identifier.{right_id}
use Rattle.ident.specs.Consignor.{consignor_in}
use Rattle.layout.specs.Layout.{field_of}
use Rattle.psc.specs.Table.{Known}
use Rattle.fields.specs.Readings.{NumberReading}
use Rattle.fields.specs.declared.reading.Reading.TheVariants as Money
use Rattle.fields.specs.declared.others.StatusReading.TheVariants as Status
use Rattle.fields.specs.Frame.{framed}
use Rattle.fields.specs.Texts.{is_text, read_text, malformed_text, absent_text}
use Rattle.fields.specs.Numbers.{malformed_number}
use Rattle.fields.specs.Others.{read_status, malformed_country, absent_country, malformed_empty}
use Rattle.fields.specs.Postcodes.{malformed_postcode, absent_postcode}
use Rattle.fields.specs.Amounts.{read_money, absent_or_zero_weight}
use Rattle.fields.proofs.ByteLaws.{every_take}
use Rattle.record.specs.declared.readings.Contact.{Contact}
use Rattle.record.specs.declared.readings.Goods.{Goods}
use Rattle.record.specs.declared.readings.Piece.{Piece}
use Rattle.record.specs.declared.CheckWithAmounts.{CheckWithAmounts}
use Rattle.record.specs.Table.{Rule, Case, first_case, verdict, places_from, case_whens, whens}
use Rattle.record.specs.Readings.{when_of, address_of, street_of, contact_of, goods_of, marks_of, piece_of, tail_of}
use Rattle.record.specs.Rules.{Terms, terms, record_answer, when_flags, address_flags, street_flags, contact_flags, goods_flags, marks_flags, piece_flags, tail_flags, early_flags, late_flags, malformed, asked_in, given_of, travel_of, identifier_rule, unlisted, service_rules, form_rules, content_rules, table}
use Rattle.record.specs.Consignors.{WithAmounts}
use Rattle.record.specs.Fine.{none_of, TextWithin, flush, name_breaks, place_breaks, cash_breaks, price_breaks, notice_breaks, travel_breaks, TextsFine, FormFine, ServicesFine, Fine}

-- ---- no condition holds
pub none_first : (b : Bool) (bs : List Bool) → none_of (b ∷ bs) ≡ true → (b ≡ false) × (none_of bs ≡ true)
none_first true bs h = absurd (clash h refl)
none_first false bs h = (refl, h)

no_case_lem : (c : ℕ) (ks : List Case) (ws : List Bool) (b : Answer) → none_of (case_whens ks ws) ≡ true → (none_of ws ≡ true → b ≡ accepted) → first_case c ks b ≡ accepted
no_case_lem c [] ws b h behind = behind h
no_case_lem c (k ∷ ks) ws b h behind =
    let here = none_first k.when (case_whens ks ws) h in
    rw here.0 (no_case_lem c ks ws b here.1 behind)

-- a table of which none holds accepts
none_broken_lem : (rs : List Rule) → none_of (whens rs) ≡ true → verdict rs ≡ accepted
none_broken_lem [] h = refl
none_broken_lem (r ∷ rs) h = no_case_lem r.code r.cases (whens rs) (verdict rs) h (none_broken_lem rs)

none_placed : (p : ℕ) (bs : List Bool) → none_of bs ≡ true → none_of (case_whens (places_from p bs) []) ≡ true
none_placed p [] h = refl
none_placed p (b ∷ bs) h =
    let here = none_first b bs h in
    rw here.0 (none_placed (suc p) bs here.1)

none_behind : (xs ys : List Bool) → none_of xs ≡ true → none_of ys ≡ true → none_of (xs ++ ys) ≡ true
none_behind [] ys h g = g
none_behind (x ∷ xs) ys h g = let here = none_first x xs h in rw here.0 (none_behind xs ys here.1 g)

-- a record that is fine, and whose identifier is right, is accepted
pub fine_accepted : (known : Known) (to_be_posted : Bool) (rec : List ℕ) → accepted ≡ verdict (identifier_rule rec ∷ []) → Fine known to_be_posted rec → accepted ≡ verdict (table (terms to_be_posted known) rec)
unfolding table
fine_accepted known to_be_posted rec right fine = go (not (right_id (field_of rec 1))) refl
  where
    flags : List Bool
    flags = malformed to_be_posted (when_of rec) (address_of rec) (street_of rec) (contact_of rec) (goods_of rec) (marks_of rec) (piece_of rec) (tail_of rec)

    behind : first_case 210 (places_from 2 flags) (verdict (content_rules known rec)) ≡ accepted
    behind = no_case_lem 210 (places_from 2 flags) [] (verdict (content_rules known rec)) (none_placed 2 flags fine.form) (λ none. none_broken_lem (content_rules known rec) fine.content)

    go : (b : Bool) → not (right_id (field_of rec 1)) ≡ b → accepted ≡ verdict (form_rules to_be_posted rec ++ content_rules known rec)
    go true e =
        let said : accepted ≡ answer 1 1 = rw e at right in
        absurd (omega (arith, ap (λ (x : Answer). x.code) said))
    go false e = rw e (sym behind)

-- ---- texts
not_blank : (f : List ℕ) → 0 < length f → eqb (get_or f 0 0) 32 ≡ false → is_blank f ≡ false
not_blank [] h n = absurd (omega arith)
not_blank (b ∷ f) h n = rw n

module _ (w : ℕ) (f : List ℕ) (text : every is_text f ≡ true) (long : length f ≡ w) where
  there_formed : 0 < w → eqb (get_or f 0 0) 32 ≡ false → malformed_text (read_text w f) ≡ false
  unfolding framed
  there_formed h n = rw (eq-eqb (length f) w long, not_blank f (omega arith) n, text, n)

  there_filled : 0 < w → eqb (get_or f 0 0) 32 ≡ false → absent_text (read_text w f) ≡ false
  unfolding framed
  there_filled h n = rw (eq-eqb (length f) w long, not_blank f (omega arith) n, text, n)

  flush_formed : flush f ≡ true → malformed_text (read_text w f) ≡ false
  unfolding framed
  flush_formed h = go (is_blank f) (eqb (get_or f 0 0) 32) refl refl h
    where
      go : (b p : Bool) → is_blank f ≡ b → eqb (get_or f 0 0) 32 ≡ p → (not p || b) ≡ true → malformed_text (read_text w f) ≡ false
      go true p eb ep t = rw (eq-eqb (length f) w long, eb)
      go false true eb ep t = absurd (clash t refl)
      go false false eb ep t = rw (eq-eqb (length f) w long, eb, text, ep)

-- bytes that stand within others pass as those do
within : (test : ℕ → Bool) (rec : List ℕ) (a n k w : ℕ) → every test (take n (drop a rec)) ≡ true → k + w ≤ n → every test (take w (drop (a + k) rec)) ≡ true
within test rec a n k w h l =
    let front : every test (take (k + w) (drop a rec)) ≡ true = rw (take-take (k + w) n (drop a rec) l) at (every_take test (k + w) (take n (drop a rec)) h) in
    let parts : (every test (take k (drop a rec)) && every test (take w (drop k (drop a rec)))) ≡ true = sym (every_append test (take k (drop a rec)) (take w (drop k (drop a rec)))) ∙ rw (take-add k w (drop a rec)) at front in
    rw drop-drop at (both (every test (take k (drop a rec))) (every test (take w (drop k (drop a rec)))) parts).1

-- field n, which has w bytes from place 22 + k on
module _ (rec : List ℕ) (t : TextWithin rec) where
  field_text : (n k w : ℕ) → field_of rec n ≡ take w (drop (22 + k) rec) → k + w ≤ 176 → every is_text (field_of rec n) ≡ true
  field_text n k w e l = rw e (within is_text rec 22 176 k w t.1 l)

  cut_text : (w a : ℕ) → a + w ≤ 399 → length (take w (drop a rec)) ≡ w
  cut_text w a l = simp (length-take, length-drop) (omega (arith, t.0))

  field_4 : field_of rec 4 ≡ take 30 (drop 29 rec)
  unfolding field_of
  field_4 = rw (eq-eqb (length rec) 399 t.0)

  field_7 : field_of rec 7 ≡ take 40 (drop 66 rec)
  unfolding field_of
  field_7 = rw (eq-eqb (length rec) 399 t.0)

  field_8 : field_of rec 8 ≡ take 40 (drop 106 rec)
  unfolding field_of
  field_8 = rw (eq-eqb (length rec) 399 t.0)

  field_9 : field_of rec 9 ≡ take 40 (drop 146 rec)
  unfolding field_of
  field_9 = rw (eq-eqb (length rec) 399 t.0)

  field_10 : field_of rec 10 ≡ take 6 (drop 186 rec)
  unfolding field_of
  field_10 = rw (eq-eqb (length rec) 399 t.0)

  field_11 : field_of rec 11 ≡ take 6 (drop 192 rec)
  unfolding field_of
  field_11 = rw (eq-eqb (length rec) 399 t.0)

  -- a field that starts with a byte other than a space, and one that is flush
  first_byte : (n w a : ℕ) → field_of rec n ≡ take w (drop a rec) → 0 < w → get_or (field_of rec n) 0 0 ≡ get_or rec (a + 0) 0
  first_byte n w a e h = rw (e, get_or-take w (drop a rec) 0 0 h) (get_or-drop a rec 0 0)

  pub names_fine : (get_or rec 29 0 ≡ 32 → ⊥) → not (eqb (get_or rec 66 0) 32) ≡ true → none_of (name_breaks (address_of rec)) ≡ true
  names_fine n z =
      let name : eqb (get_or (field_of rec 4) 0 0) 32 ≡ false = rw (first_byte 4 30 29 field_4 (omega arith)) (ne_eqb (get_or rec 29 0) 32 n) in
      let town : eqb (get_or (field_of rec 7) 0 0) 32 ≡ false = rw (first_byte 7 40 66 field_7 (omega arith)) (not-true (eqb (get_or rec 66 0) 32) z) in
      let text4 = field_text 4 7 30 field_4 (omega arith) in
      let text7 = field_text 7 44 40 field_7 (omega arith) in
      let long4 : length (field_of rec 4) ≡ 30 = rw field_4 (cut_text 30 29 (omega arith)) in
      let long7 : length (field_of rec 7) ≡ 40 = rw field_7 (cut_text 40 66 (omega arith)) in
      rw (there_formed 30 (field_of rec 4) text4 long4 (omega arith) name, there_filled 30 (field_of rec 4) text4 long4 (omega arith) name, there_formed 40 (field_of rec 7) text7 long7 (omega arith) town, there_filled 40 (field_of rec 7) text7 long7 (omega arith) town)

  pub street_fine : flush (field_of rec 8) ≡ true → flush (field_of rec 9) ≡ true → flush (field_of rec 10) ≡ true → flush (field_of rec 11) ≡ true → none_of (street_flags (street_of rec)) ≡ true
  street_fine is8 is9 is10 is11 =
      rw (
        flush_formed 40 (field_of rec 8) (field_text 8 84 40 field_8 (omega arith)) (rw field_8 (cut_text 40 106 (omega arith))) is8,
        flush_formed 40 (field_of rec 9) (field_text 9 124 40 field_9 (omega arith)) (rw field_9 (cut_text 40 146 (omega arith))) is9,
        flush_formed 6 (field_of rec 10) (field_text 10 164 6 field_10 (omega arith)) (rw field_10 (cut_text 6 186 (omega arith))) is10,
        flush_formed 6 (field_of rec 11) (field_text 11 170 6 field_11 (omega arith)) (rw field_11 (cut_text 6 192 (omega arith))) is11,
      )

pub text_within : (rec : List ℕ) (b : Bool) → length rec ≡ 399 → b ≡ every is_text (take (198 - 22) (drop 22 rec)) → not b ≡ false → TextWithin rec
text_within rec b long e n = (long, sym e ∙ not-false b n)

pub long_20 : (rec f : List ℕ) → length rec ≡ 399 → f ≡ field_of rec 20 → length f ≡ 10
unfolding field_of
long_20 rec f long e = rw (e, eq-eqb (length rec) 399 long) (simp (length-take, length-drop) (omega (arith, long)))

pub long_26 : (rec f : List ℕ) → length rec ≡ 399 → f ≡ field_of rec 26 → length f ≡ 10
unfolding field_of
long_26 rec f long e = rw (e, eq-eqb (length rec) 399 long) (simp (length-take, length-drop) (omega (arith, long)))

-- ---- all of it
four : (bs : List Bool) (a b c d : Bool) → none_of (a ∷ b ∷ c ∷ d ∷ bs) ≡ true → (a ≡ false) × (b ≡ false) × (c ≡ false) × (d ≡ false) × (none_of bs ≡ true)
four bs a b c d h =
    let h1 = none_first a (b ∷ c ∷ d ∷ bs) h in
    let h2 = none_first b (c ∷ d ∷ bs) h1.1 in
    let h3 = none_first c (d ∷ bs) h2.1 in
    let h4 = none_first d bs h3.1 in
    (h1.0, h2.0, h3.0, h4.0, h4.1)

module _ (known : Known) (to_be_posted : Bool) (rec : List ℕ) (texts : TextsFine rec) (form : FormFine to_be_posted (when_of rec) (contact_of rec) (goods_of rec) (piece_of rec) rec)
    (symbol : malformed_number (marks_of rec).symbol ≡ false) (place : none_of (place_breaks known (address_of rec).country (address_of rec).postcode) ≡ true)
    (services : ServicesFine (contact_of rec) (goods_of rec) (marks_of rec).symbol (travel_of rec (piece_of rec))) where
  names_false : (malformed_text (address_of rec).name ≡ false) × (absent_text (address_of rec).name ≡ false) × (malformed_text (address_of rec).municipality ≡ false) × (absent_text (address_of rec).municipality ≡ false) × (none_of [] ≡ true)
  names_false = four [] _ _ _ _ texts.names

  place_false : (malformed_country (address_of rec).country ≡ false) × (malformed_postcode (address_of rec).postcode ≡ false) × ((absent_country (address_of rec).country && absent_postcode (address_of rec).postcode) ≡ false) × (unlisted known (address_of rec).postcode ≡ false) × (none_of [] ≡ true)
  place_false = four [] _ _ _ _ place

  address_none : none_of (address_flags (address_of rec)) ≡ true
  address_none = rw (names_false.0, place_false.1, place_false.0, names_false.2)

  weighed : (absent_or_zero_weight (goods_of rec).weight ≡ false) × (none_of (goods_flags to_be_posted (goods_of rec)) ≡ true)
  weighed = none_first (absent_or_zero_weight (goods_of rec).weight) (goods_flags to_be_posted (goods_of rec)) form.goods

  marks_none : none_of (marks_flags (marks_of rec)) ≡ true
  marks_none = rw (not-true (malformed_text (marks_of rec).machine) texts.machine, symbol)

  tail_none : none_of (tail_flags (tail_of rec)) ≡ true
  tail_none = rw (not-true (malformed_empty (tail_of rec).empty) form.empty, not-true (malformed_text (tail_of rec).sender) texts.sender)

  early_none : none_of (early_flags (when_of rec) (address_of rec) (street_of rec) (contact_of rec)) ≡ true
  early_none =
      none_behind (when_flags (when_of rec)) (address_flags (address_of rec) ++ (street_flags (street_of rec) ++ contact_flags (contact_of rec))) form.whens
      (none_behind (address_flags (address_of rec)) (street_flags (street_of rec) ++ contact_flags (contact_of rec)) address_none
      (none_behind (street_flags (street_of rec)) (contact_flags (contact_of rec)) texts.street form.contacts))

  late_none : none_of (late_flags to_be_posted (goods_of rec) (marks_of rec) (piece_of rec) (tail_of rec)) ≡ true
  late_none =
      none_behind (goods_flags to_be_posted (goods_of rec)) (marks_flags (marks_of rec) ++ (piece_flags (piece_of rec) ++ tail_flags (tail_of rec))) weighed.1
      (none_behind (marks_flags (marks_of rec)) (piece_flags (piece_of rec) ++ tail_flags (tail_of rec)) marks_none
      (none_behind (piece_flags (piece_of rec)) (tail_flags (tail_of rec)) form.pieces tail_none))

  services_none : none_of (whens (service_rules (asked_in (goods_of rec)) (given_of (contact_of rec) (goods_of rec) (marks_of rec)) (travel_of rec (piece_of rec)))) ≡ true
  unfolding given_of
  services_none =
      none_behind (cash_breaks (asked_in (goods_of rec)) (goods_of rec).cash (marks_of rec).symbol) (price_breaks (asked_in (goods_of rec)) (goods_of rec).price ++ (notice_breaks (asked_in (goods_of rec)) (contact_of rec).telephone (contact_of rec).mail ++ travel_breaks (asked_in (goods_of rec)) (travel_of rec (piece_of rec)))) services.cash
      (none_behind (price_breaks (asked_in (goods_of rec)) (goods_of rec).price) (notice_breaks (asked_in (goods_of rec)) (contact_of rec).telephone (contact_of rec).mail ++ travel_breaks (asked_in (goods_of rec)) (travel_of rec (piece_of rec))) services.price
      (none_behind (notice_breaks (asked_in (goods_of rec)) (contact_of rec).telephone (contact_of rec).mail) (travel_breaks (asked_in (goods_of rec)) (travel_of rec (piece_of rec))) services.notices services.travels))

  all_fine : Fine known to_be_posted rec
  all_fine =
      record {
        form = none_behind (early_flags (when_of rec) (address_of rec) (street_of rec) (contact_of rec)) (late_flags to_be_posted (goods_of rec) (marks_of rec) (piece_of rec) (tail_of rec)) early_none late_none;
        content = rw (names_false.1, place_false.2, names_false.3, place_false.3, weighed.0) services_none;
      }

pub all_is_fine : (known : Known) (to_be_posted : Bool) (rec : List ℕ) (c : Contact) (g : Goods) (p : Piece) (symbol : NumberReading) → c ≡ contact_of rec → g ≡ goods_of rec → p ≡ piece_of rec → symbol ≡ (marks_of rec).symbol
    → TextsFine rec → FormFine to_be_posted (when_of rec) c g p rec → malformed_number symbol ≡ false → none_of (place_breaks known (address_of rec).country (address_of rec).postcode) ≡ true
    → ServicesFine c g symbol (travel_of rec p) → Fine known to_be_posted rec
all_is_fine known to_be_posted rec c g p symbol ec eg ep es texts form right place services =
    all_fine known to_be_posted rec texts (rw (ec, eg, ep) at form) (rw es at right) place (rw (ec, eg, es, ep) at services)

-- where there are not 399 bytes each field is empty: nobody's, and malformed
pub judged_wide : (t : Terms) (rec : List ℕ) → (length rec ≡ 399 → ⊥)
    → WithAmounts (record_answer t rec) rec (record { check = record { answer = Err WrongLength; consignor = None }; status = Status.Malformed; cash = Money.Malformed; price = Money.Malformed })
unfolding record_answer field_of consignor_in right_id framed
judged_wide t rec n = rw (ne_eqb (length rec) 399 n) ((refl, refl), refl, refl, refl)

-- beside the answer stand fields 19, 16 and 17, each as it is read
pub amounts_read : (a : Answer) (rec : List ℕ) (r : CheckWithAmounts) → WithAmounts a rec r
    → (r.status ≡ read_status (field_of rec 19)) × (r.cash ≡ read_money (field_of rec 16)) × (r.price ≡ read_money (field_of rec 17))
amounts_read a rec r given = (given.1, given.2, given.3)
