-- The file of a batch in which a state stands: its records, each with its line end, then zeros; cut behind the last record it passes the file check.
-- Assumes nothing.
use Prim.Native.Nat.{ℕ, ◌-◌, ◌*◌, ◌≤◌}
use mathlib.Core.Path.{refl, sym, ap, subst}
use mathlib.Core.List.{List, []}
use native.Mathlib.Omega.{arith}
use lib.ListN.{length, get_or}
use lib.Seq.{take_at}
use Rattle.psc.specs.Table.{Known}
use Rattle.record.specs.Rules.{in_file}
use Rattle.record.proofs.Order.{accepted_exactly}
use Rattle.posting.specs.Records.{lines_of, GoodRecords}
use Rattle.posting.proofs.GoodFile.{file_passes}
use Rattle.batch.specs.Records.{records_of}
use Rattle.batch.specs.Rules.{Verdict, Fit}
use Rattle.batch.specs.Batch.{Batch, State, zeros, zero_filled, made, file_length, journal_length, Stands}
use Rattle.batch.specs.History.{GoodFileOf}
use Rattle.batch.proofs.Sheets.{Sheet}
use Rattle.batch.proofs.Made.{Fits, turns_fit, lines_long, file_long}
use Rattle.batch.proofs.CallsMet.{lengths_exactly}

good_records : {known : Known} (recs : List (List ℕ)) → Sheet known recs → length recs ≤ 999 → GoodRecords known recs
good_records {known} recs s few = record {
  few = few;
  wide = λ i h. (s.each i h).long;
  keeps = λ i h. (accepted_exactly (in_file known) (get_or recs i []) (s.each i h).long).0 (s.each i h).passes;
  apart = λ i j l h e. let same = s.apart i j (omega arith) h e in omega arith;
  one = s.one;
}

made_file : {known : Known} (n m : ℕ) → n ≤ 400599 → (s : State) → Fits known n m s.actions → GoodFileOf known (made n m s) (records_of s.actions)
unfolding made
made_file n m most s f =
    let recs = records_of s.actions in
    record {
      many = refl;
      bytes = ap (λ (k : ℕ). zero_filled k (lines_of recs)) (sym (file_long n m s.actions f));
      cut = take_at (lines_of recs) (zeros (n - length (lines_of recs))) (length recs * 401) (lines_long n m s.actions f);
      passes = file_passes recs (good_records recs f.sheet (omega (arith, f.places)));
      one = f.sheet.one;
    }

pub standing_file : {known : Known} (v : Verdict) → Fit known v → (b : Batch) (s : State) → Stands v b s → GoodFileOf known b (records_of s.actions)
standing_file {known} v fit b s st =
    let n = file_length b in
    let m = journal_length b in
    let good = (lengths_exactly n m).0 st.lengths in
    subst (λ (x : Batch). GoodFileOf known x (records_of s.actions)) (sym st.is)
    (made_file n m good.most s (turns_fit v fit n m s.actions st.turns))
