-- What a line answers, from the bytes of the file and the answer to its record, whatever place an accepted one has. No proof uses these now; the list of wrong
-- versions (docs/WRONG) names them.
-- Assumes nothing.
use Prim.Native.Nat.{ℕ, ◌+◌, ◌-◌, ◌*◌}
use mathlib.Core.Path.{◌≡◌, sym, ap, ◌∙◌}
use mathlib.Core.Bool.{Bool, true, false, not, ◌&&◌}
use mathlib.Core.List.{List}
use native.Mathlib.Numerals.{add-one}
use borrow.Author.Tests.{eq-eqb, not-false}
use lib.Dec.{eqb}
use lib.ListN.{get_or, take, drop}
use Rattle.std.specs.Prelude.{Option}
use Rattle.text.specs.declared.Answer.{Answer}
use Rattle.text.specs.Answers.{answer, or_else}
use Rattle.psc.specs.Table.{Known}
use Rattle.ident.specs.declared.consignor.Consignor.{Consignor}
use Rattle.ident.specs.Consignor.{another, or_named}
use Rattle.record.specs.Rules.{in_file, record_answer}
use Rattle.record.specs.Consignors.{consignor_of, strays}
use Rattle.record.proofs.Consignors.{first_suffices, one_more_lem, first_more}
use Rattle.posting.specs.File.{up_to, record_at, records, line_ends, repeats, line_answer}
use Rattle.posting.specs.Slots.{Seen}
use Rattle.posting.proofs.Ways.{from_start}

-- ---- line_answer
module _ (known : Known) (file : List ℕ) (i : ℕ) (ended : not (eqb (get_or file (i * 401 + 399) 0) 13 && eqb (get_or file (i * 401 + 400) 0) 10) ≡ false) (a : Answer)
    (ea : a ≡ record_answer (in_file known) (take (i * 401 + 399 - i * 401) (drop (i * 401) file))) where
  here : a ≡ record_answer (in_file known) (record_at file i)
  here = ea ∙ ap (record_answer (in_file known)) (from_start file i 399)

  pub line_repeats : (b : Bool) → a.code ≡ 0 → b ≡ repeats file i i → b ≡ true → answer 2 1 ≡ line_answer known file i
  unfolding line_answer or_else
  line_repeats b z e t = rw (not-false (line_ends file i) ended, ← here, eq-eqb a.code 0 z, ← e, t)

-- the first consignor named suffices
module _ (file : List ℕ) (i : ℕ) (seen c : Option Consignor) (ec : c ≡ consignor_of (take (i * 401 + 399 - i * 401) (drop (i * 401) file))) (sees : Seen file i seen) (w : Bool)
    (ew : w ≡ another seen c) where
  named_here : c ≡ consignor_of (record_at file i)
  named_here = ec ∙ ap consignor_of (from_start file i 399)

  strays_here : strays (records file i) (record_at file i) ≡ w
  strays_here = first_suffices (records file i) (record_at file i) sees.one ∙ rw (← sees.first, ← named_here, ew)

  pub line_seen : w ≡ false → (n : Option Consignor) → n ≡ or_named seen c → Seen file (i + 1) n
  unfolding up_to
  line_seen h n en =
      rw (add-one i)
      record {
        one = one_more_lem (records file i) (record_at file i) sees.one (strays_here ∙ h);
        first = en ∙ rw (sees.first, named_here) (sym (first_more (records file i) (record_at file i)));
      }
