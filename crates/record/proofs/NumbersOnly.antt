-- Beside the table as it stood when the services were numbers only: only for a letter in field 18 is the answer another. And every record that was accepted is
-- accepted still, in a file and to be posted.
-- Assumes nothing.
use Prim.Native.Nat.{ℕ}
use mathlib.Core.Path.{◌≡◌, refl, ap, ◌∙◌}
use mathlib.Core.Bool.{Bool, true, false, cond}
use mathlib.Core.List.{List}
use native.Mathlib.Omega.{arith}
use lib.Dec.{eqb}
use lib.ListN.{length}
use Rattle.text.specs.declared.Answer.{Answer}
use Rattle.text.specs.Answers.{wrong_length}
use Rattle.layout.specs.Layout.{field_of}
use Rattle.fields.specs.Readings.{ServicesReading}
use Rattle.fields.specs.Codes.{numbers}
use Rattle.fields.specs.Services.{read_by, read_services, malformed_services}
use Rattle.fields.specs.ServiceTexts.{no_letters}
use Rattle.fields.proofs.WiderCodes.{good_as_it_was, letterless_as_it_was, no_size_in_numbers}
use Rattle.record.specs.declared.readings.Goods.{Goods}
use Rattle.record.specs.Table.{verdict}
use Rattle.record.specs.Readings.{when_of, address_of, street_of, contact_of, goods_of, marks_of, piece_of, tail_of}
use Rattle.record.specs.Rules.{Terms, malformed, asked_of, asked_in, table, record_answer}
use Rattle.record.specs.NumbersOnly.{goods_numbers_only, rules_for, table_numbers_only, answer_numbers_only}
use Rattle.record.specs.Codes.{lacks}
use Rattle.record.specs.Outcomes.{none_broken}
use Rattle.record.proofs.Order.{table_accepts}
use Rattle.record.proofs.Status.{no_flag, second_kept}

module _ (t : Terms) (rec : List ℕ) where
  -- no size stood in a record, so the row of 220 asked for nothing more than it did
  pub no_size : (asked_in (goods_numbers_only rec)).several_sizes ≡ false
  unfolding asked_of
  no_size = no_size_in_numbers (field_of rec 18)

  -- ---- where field 18 reads as it did, so does the record
  abbrev goods_with : ServicesReading → Goods
  goods_with r = record { weight = (goods_of rec).weight; cash = (goods_of rec).cash; price = (goods_of rec).price; services = r; status = (goods_of rec).status }

  same_reading : read_services (field_of rec 18) ≡ read_by numbers (field_of rec 18) → record_answer t rec ≡ answer_numbers_only t rec
  unfolding record_answer answer_numbers_only table table_numbers_only
  same_reading e = ap (λ (r : ServicesReading). cond (eqb (length rec) 399) (verdict (rules_for t rec (goods_with r))) wrong_length) e

  pub same_answer : no_letters (field_of rec 18) ≡ true → record_answer t rec ≡ answer_numbers_only t rec
  same_answer h = same_reading (letterless_as_it_was (field_of rec 18) h)

  -- ---- what was accepted had good services
  kept_good : none_broken (table_numbers_only t rec) ≡ true → malformed_services (read_by numbers (field_of rec 18)) ≡ false
  unfolding table_numbers_only
  kept_good h =
      no_flag (malformed t.to_be_posted (when_of rec) (address_of rec) (street_of rec) (contact_of rec) (goods_numbers_only rec) (marks_of rec) (piece_of rec) (tail_of rec)) 2 16 (second_kept _ _ _ h)

  accepted_good : (answer_numbers_only t rec).code ≡ 0 → malformed_services (read_by numbers (field_of rec 18)) ≡ false
  unfolding answer_numbers_only table_numbers_only lacks
  accepted_good = go (eqb (length rec) 399)
    where
      go : (long : Bool) → (cond long (verdict (table_numbers_only t rec)) wrong_length).code ≡ 0 → malformed_services (read_by numbers (field_of rec 18)) ≡ false
      go true z = kept_good ((table_accepts (table_numbers_only t rec) refl).0 z)
      go false z = absurd (omega (arith, z))

  pub still_accepted : (answer_numbers_only t rec).code ≡ 0 → (record_answer t rec).code ≡ 0
  still_accepted z = ap (λ (a : Answer). a.code) (same_reading (good_as_it_was (field_of rec 18) (accepted_good z))) ∙ z
