-- The test of the state: each way out of the function that puts it together.
-- Assumes nothing.
use Prim.Native.Nat.{ℕ, zero, suc, ◌+◌, ◌-◌, ◌*◌, ◌/◌, ◌≤◌, ◌<◌}
use mathlib.Core.Path.{◌≡◌, refl, sym, ap, ◌∙◌, subst}
use mathlib.Core.Bool.{Bool, true, false}
use mathlib.Core.List.{List}
use native.Mathlib.Omega.{arith}
use mir.Syntax.{w64}
use mir.Val.{Fits}
use lib.ListN.{length, get_or, take, drop, length-drop, replicate, length-replicate}
use lib.Seq.{take_all}
use Rattle.std.specs.Prelude.{Option, Some, None}
use Rattle.std.proofs.lemmas.Option.{none-some, same_Some}
use Rattle.psc.specs.Table.{Known}
use Rattle.text.specs.Bytes.{every, is_zero}
use Rattle.posting.specs.declared.Totals.{Totals}
use Rattle.posting.specs.File.{totals_over}
use Rattle.index.proofs.Slots.{indexed_none}
use Rattle.batch.specs.declared.Counts.{Counts}
use Rattle.batch.specs.declared.test.Reached.{Reached}
use Rattle.batch.specs.declared.test.Finding.{Finding}
use Rattle.batch.specs.Rules.{posted}
use Rattle.batch.specs.Batch.{Batch, batch_of, right_lengths, State, Stands}
use Rattle.batch.specs.Test.{Found, Walked, WalkedTo, Fresh, Marked, LinesSame, Tested, ToTest}
use Rattle.batch.proofs.StateWays.{lengths_bounded}
use Rattle.batch.proofs.Verdicts.{posted_fit}
use Rattle.batch.proofs.Made.{turns_fit}
use Rattle.batch.proofs.Walks.{used_long}
use Rattle.batch.proofs.Tests.{marked_so, held_wrong, lines_wrong, rest_wrong, journal_wrong, test_passes, totals_wrong}

none_stands : {known : Known} (b : Batch) → ((s : State) → Stands (posted known) b s → ⊥) → Tested known b None
none_stands b none = record { if_so = λ f q. absurd (none-some f q); if_not = λ q. none }

module _ (file journal : List ℕ) (c : Counts) (marks table : List ℕ) (pre : ToTest file journal marks table) where
  abbrev b : Batch
  b = batch_of file journal c

  bounds : (length file ≤ 400599) × (length journal ≤ 1048576)
  bounds = lengths_bounded (length file) (length journal) pre.lengths

  pub test_short : (known : Known) → length journal < c.used → Tested known b None
  test_short known h = none_stands b (λ s st. omega (arith, h, used_long file journal c s st, (turns_fit (posted known) (posted_fit known) (length file) (length journal) s.actions st.turns).room))

  pub test_fresh : c.used ≤ length journal → Fresh file journal c.used marks table
  test_fresh h = record { marking = pre.marking; within = h; bounded = bounds.1 }

  module _ (r : Option Reached) (marks' table' : List ℕ) {known : Known} (wt : WalkedTo known file journal c.used table r marks' table') where
    pub test_stuck : r ≡ None → Tested known b None
    test_stuck n = none_stands b (λ s st. wt.if_not n c refl s st)

    module _ (to : Reached) (walked : r ≡ Some to) where
      there : Walked known file journal to.held to.seen c.used to.last marks' table'
      there = wt.if_so to walked

      pub test_held : (to.held ≡ c.held → ⊥) → Tested known b None
      test_held n = none_stands b (held_wrong file journal c to.held to.seen to.last marks' table' pre.lengths there n)

      module _ (same : to.held ≡ c.held) where
        w : Walked known file journal c.held to.seen c.used to.last marks' table'
        w = subst (λ (h : ℕ). Walked known file journal h to.seen c.used to.last marks' table') same there

        pub test_marked : Marked file journal c.held marks'
        test_marked = marked_so file journal c c.held to.seen to.last marks' table' pre.lengths w bounds.1

        pub held_fits : Fits w64 (c.held * 401)
        held_fits = record { fits = omega (arith, w.marking.few) }

        pub held_inside : c.held * 401 ≤ length file
        held_inside = w.marking.places

        pub held_few : (c.held ≤ 999) × (c.held * 401 ≤ length file)
        held_few = (w.marking.few, w.marking.places)

        module _ (ls : Bool) (l : LinesSame file journal c.held marks' ls) where
          pub test_lines : ls ≡ false → Tested known b None
          test_lines n = none_stands b (lines_wrong file journal c c.held to.seen to.last marks' table' pre.lengths w (l.if_not n))

          module _ (alike : ls ≡ true) (z : Bool) (ez : z ≡ every is_zero (take (length file - c.held * 401) (drop (c.held * 401) file))) where
            rest_is : every is_zero (drop (c.held * 401) file) ≡ z
            rest_is = ap (every is_zero) (sym (take_all (length file - c.held * 401) (drop (c.held * 401) file) (omega (arith, length-drop (c.held * 401) file)))) ∙ sym ez

            pub test_rest : z ≡ false → Tested known b None
            test_rest n = none_stands b (rest_wrong file journal c c.held to.seen to.last marks' table' pre.lengths w (rest_is ∙ n))

            module _ (clear : z ≡ true) (y : Bool) (ey : y ≡ every is_zero (take (length journal - c.used) (drop c.used journal))) where
              behind_is : every is_zero (drop c.used journal) ≡ y
              behind_is = ap (every is_zero) (sym (take_all (length journal - c.used) (drop c.used journal) (omega (arith, length-drop c.used journal)))) ∙ sym ey

              pub test_behind : y ≡ false → Tested known b None
              test_behind n = none_stands b (journal_wrong file journal c c.held to.seen to.last marks' table' pre.lengths w (behind_is ∙ n))

              module _ (empty : y ≡ true) (within : c.used ≤ length journal) (t : Totals) (et : t ≡ totals_over file c.held) where
                pub test_totals : (t ≡ c.totals → ⊥) → Tested known b None
                test_totals n = none_stands b
                    (totals_wrong file journal c c.held to.seen to.last marks' table' pre.lengths w refl (l.if_so alike) (rest_is ∙ clear) (behind_is ∙ empty) within (λ e. n (et ∙ e)))

                pub test_told : t ≡ c.totals → Tested known b (Some (record { seen = to.seen; last = to.last }))
                test_told e =
                    let f : Finding = record { seen = to.seen; last = to.last } in
                    let found : Found known b f.seen f.last =
                    test_passes file journal c c.held to.seen to.last marks' table' pre.lengths w refl (l.if_so alike) (rest_is ∙ clear) (behind_is ∙ empty) within (sym et ∙ e) in
                    record {
                      if_so = λ g q. subst (λ (x : Finding). Found known b x.seen x.last) (same_Some f g q) found;
                      if_not = λ q. absurd (none-some f (sym q));
                    }

-- ---- nothing is marked or noted yet
pub few_places : (n m : ℕ) → right_lengths n m ≡ true → n / 401 ≤ 999
few_places n m good = omega (arith, (lengths_bounded n m good).0)

pub fresh : (file journal : List ℕ) (k t : ℕ) → right_lengths (length file) (length journal) ≡ true → length file / 401 ≤ k → length file / 401 + 1 < t → ToTest file journal (replicate k 0) (replicate t 0)
fresh file journal k t good hk ht = record {
  lengths = good;
  marking = record {
    few = omega arith;
    places = omega arith;
    marked = omega (arith, hk, length-replicate {A = ℕ} k 0);
    noted = indexed_none file 0 t;
    room = omega (arith, ht, length-replicate {A = ℕ} t 0);
    small = λ i. omega (arith, zero_mark k i);
    bounds = (lengths_bounded (length file) (length journal) good).0;
  };
}
  where
    zero_mark : (j i : ℕ) → ◌≡◌ {A = ℕ} (get_or (replicate j 0) i 0) 0
    zero_mark zero zero = refl
    zero_mark zero (suc i) = refl
    zero_mark (suc j) zero = refl
    zero_mark (suc j) (suc i) = zero_mark j i
