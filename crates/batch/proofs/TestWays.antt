-- The test of the state: each way out of its functions.
-- Assumes nothing.
use Prim.Native.Nat.{ℕ, zero, suc, ◌+◌, ◌-◌, ◌*◌, ◌%◌, ◌≤◌, ◌<◌}
use mathlib.Core.Path.{◌≡◌, refl, sym, ap, ◌∙◌, subst}
use mathlib.Core.Bool.{Bool, true, false, cond}
use mathlib.Core.List.{List}
use native.Mathlib.Nat.{add-zero, add-sub_cancel_left}
use native.Mathlib.Omega.{arith}
use borrow.Author.Tests.{eq-eqb, ne_eqb, eqb-false}
use mir.Syntax.{w64}
use mir.Val.{Fits}
use lib.ListN.{length, get_or, set, take, drop}
use Rattle.std.specs.Prelude.{Option, Some, None, is_some, Result, Ok, Err, is_err, ⊤}
use Rattle.std.proofs.lemmas.Option.{none-some, same_Some}
use Rattle.text.specs.declared.Refusal.{Refusal}
use Rattle.text.proofs.Refusals.{refuses}
use Rattle.psc.specs.Table.{Known}
use Rattle.text.specs.declared.Answer.{Answer}
use Rattle.text.specs.Answers.{answer_of, answered}
use Rattle.text.specs.Lists.{same_bytes}
use Rattle.text.proofs.Booleans.{clash}
use Rattle.text.proofs.Lists.{same_exactly}
use Rattle.layout.specs.Layout.{field_of}
use Rattle.index.specs.Index.{key_at, seek, slot_number, found, Put}
use Rattle.index.specs.Laws.{Indexed}
use Rattle.index.proofs.Keys.{key_of_record}
use Rattle.index.proofs.Slots.{seek_small, indexed_more, length_noting}
use Rattle.ident.specs.declared.consignor.Consignor.{Consignor}
use Rattle.ident.specs.Consignor.{another, or_named}
use Rattle.record.specs.declared.RecordCheck.{RecordCheck}
use Rattle.record.specs.Consignors.{WithConsignor, consignor_of}
use Rattle.batch.specs.declared.test.Named.{Named}
use Rattle.batch.specs.Records.{id_of}
use Rattle.batch.specs.Rules.{posted}
use Rattle.batch.specs.Test.{odd, Noted, live_from, live_in, Adds, Added}

-- ---- the live consignment
module _ (file : List ℕ) (held : ℕ) (marks table id : List ℕ) (r : Option ℕ) (p : Noted file held marks table) (f : slot_number r ≡ found table file 0 id) where
  sought : slot_number r ≡ seek file 0 id held
  sought = f ∙ p.noted.finds id

  pub live_none : r ≡ None → None ≡ live_in file held marks id
  unfolding live_from
  live_none z = rw (sym sought ∙ ap slot_number z)

  module _ (k : ℕ) (q : r ≡ Some k) where
    seek_is : seek file 0 id held ≡ suc k
    seek_is = sym sought ∙ ap slot_number q

    found_low : k < held
    found_low = omega (arith, seek_is, seek_small file 0 id held)

    pub mark_fits : Fits w64 (k * 4)
    mark_fits = record { fits = omega (arith, found_low, p.few) }

    pub found_marked : k < length marks
    found_marked = omega (arith, found_low, p.marked, p.places)

    live_at_lem : live_in file held marks id ≡ cond (odd (get_or marks k 0)) None (Some k)
    unfolding live_from
    live_at_lem = rw seek_is

    pub live_odd : get_or marks k 0 % 2 ≡ 1 → None ≡ live_in file held marks id
    live_odd o = sym (live_at_lem ∙ rw (eq-eqb (get_or marks k 0 % 2) 1 o))

    pub live_there : (get_or marks k 0 % 2 ≡ 1 → ⊥) → Some k ≡ live_in file held marks id
    live_there o = sym (live_at_lem ∙ rw (ne_eqb (get_or marks k 0 % 2) 1 o))

-- ---- what is answered
refused_code : (r : Result ⊤ Refusal) (a : Answer) → is_err r ≡ true → answered r ≡ a → a.code ≡ 0 → ⊥
refused_code (Ok x) a q is z = clash q refl
refused_code (Err e) a q is z = eqb-false (answer_of e).code 0 (refuses e) (ap (λ (y : Answer). y.code) is ∙ z)

accepted_code : (r : Result ⊤ Refusal) (a : Answer) → is_err r ≡ false → answered r ≡ a → a.code ≡ 0
accepted_code (Ok x) a q is = ap (λ (y : Answer). y.code) (sym is)
accepted_code (Err e) a q is = absurd (clash refl q)

-- ---- what the index gives
slot_none : (r : Option ℕ) → is_some r ≡ false → slot_number r ≡ 0
slot_none None e = refl
slot_none (Some k) e = absurd (clash refl e)

slot_some : (r : Option ℕ) → is_some r ≡ true → slot_number r ≡ 0 → ⊥
slot_some None e z = clash e refl
slot_some (Some k) e z = absurd (omega (arith, z))

-- ---- an addition
module _ (known : Known) (file : List ℕ) (held : ℕ) (seen : Option Consignor) (used : ℕ) (rec marks table : List ℕ) where
  not_added : (table' : List ℕ) → length table' ≡ length table → (Adds known file held seen rec → ⊥) → Added known file held seen used rec marks table None marks table'
  not_added table' long never = record { if_so = λ s q. absurd (none-some s q); if_not = λ q. never; long = long }

  module _ (k : RecordCheck) (ek : WithConsignor (posted known rec) rec k) where
    pub added_refused : is_err k.answer ≡ true → Added known file held seen used rec marks table None marks table
    added_refused q = not_added table refl (λ p. refused_code k.answer (posted known rec) q ek.0 p.good)

    module _ (w : Bool) (ew : w ≡ another seen k.consignor) where
      other : another seen (consignor_of rec) ≡ w
      other = ap (another seen) (sym ek.1) ∙ sym ew

  module _ (id : List ℕ) (its : id ≡ field_of rec 1) (same : Bool) (es : same ≡ same_bytes (take (held * 401 + 13 - held * 401) (drop (held * 401) file)) id) where
    own_key : same ≡ same_bytes (key_at file 0 held) (id_of rec)
    own_key = es ∙ rw (its, add-sub_cancel_left, add-zero (held * 401))

    pub added_other : same ≡ false → Added known file held seen used rec marks table None marks table
    added_other n = not_added table refl (λ p. clash (own_key ∙ (same_exactly _ _).1 p.own) n)

    module _ (n : same ≡ true) (marking : Noted file held marks table) (t : Option ℕ) (table' : List ℕ) (put : Put table file 0 held t table') where
      own_here : key_at file 0 held ≡ id_of rec
      own_here = (same_exactly _ _).0 (sym own_key ∙ n)

      before_is : slot_number t ≡ seek file 0 (id_of rec) held
      before_is = put.before ∙ marking.noted.finds (key_at file 0 held) ∙ ap (λ (k : List ℕ). seek file 0 k held) own_here

      long_still : length table' ≡ length table
      long_still = ap length put.notes ∙ length_noting table file 0 held

      pub added_twice : is_some t ≡ true → Added known file held seen used rec marks table None marks table'
      added_twice z = not_added table' long_still (λ p. slot_some t z (before_is ∙ p.new))

      pub added_now : 401 ≤ length file - held * 401 → (k : RecordCheck) → WithConsignor (posted known rec) rec k → is_err k.answer ≡ false → (w : Bool) → w ≡ another seen k.consignor → w ≡ false → is_some t ≡ false
          → (n : Option Consignor) → n ≡ or_named seen k.consignor → Added known file held seen used rec marks table (Some (record { seen = n })) (set marks held (used * 2)) table'
      added_now h k ek z w ew f u n en =
          let room : held * 401 + 401 ≤ length file = omega (arith, h) in
          let named : Named = record { seen = n } in
          record {
            if_so = λ s q. record {
              passes = record { room = room; good = accepted_code k.answer (posted known rec) z ek.0; same = other k ek w ew ∙ f; own = own_here; new = sym before_is ∙ slot_none t u };
              now_seen = ap (λ (x : Named). x.seen) (sym (same_Some named s q)) ∙ en ∙ ap (or_named seen) ek.1;
              now_marks = refl;
              noted = subst (Indexed file 0 (held + 1)) (sym put.notes) (indexed_more file 0 held table marking.noted (omega (arith, room, marking.room)) (omega (arith, marking.few)) (key_of_record file 0 held (omega arith) room));
            };
            if_not = λ q. absurd (none-some named (sym q));
            long = long_still;
          }

-- where the consignment that is found stands
module _ (file : List ℕ) (held : ℕ) (marks table id : List ℕ) (w : Option ℕ) (k : ℕ) (marking : Noted file held marks table) (l : w ≡ live_in file held marks id) (is : w ≡ Some k) where
  live_held : k < held
  unfolding live_from
  live_held = go (seek file 0 id held) (seek_small file 0 id held) (sym is ∙ l)
    where
      go : (t : ℕ) → t ≤ held → Some k ≡ live_from marks t → k < held
      go zero h e = absurd (none-some k (sym e))
      go (suc j) h e = on (odd (get_or marks j 0)) e
        where
          on : (b : Bool) → Some k ≡ cond b None (Some j) → k < held
          on true q = absurd (none-some k (sym q))
          on false q = omega (arith, same_Some k j q, h)

  pub live_mark : k < length marks
  live_mark = omega (arith, live_held, marking.marked, marking.places)

  pub live_mark_fits : Fits w64 (k * 4)
  live_mark_fits = record { fits = omega (arith, live_held, marking.few) }
