-- The loop of the walk.
-- Assumes nothing.
use Prim.Native.Nat.{ℕ, ◌+◌, ◌-◌, ◌≤◌, ◌<◌}
use mathlib.Core.Path.{◌≡◌, refl, sym, ◌∙◌, subst}
use mathlib.Core.List.{List, []}
use native.Mathlib.Omega.{arith}
use lib.ListN.{length}
use Rattle.std.specs.Prelude.{Option, Some, None}
use Rattle.std.proofs.lemmas.Option.{none-some, same_Some}
use Rattle.psc.specs.Table.{Known}
use Rattle.ident.specs.declared.consignor.Consignor.{Consignor}
use Rattle.ident.specs.Consignor.{first_named}
use Rattle.batch.specs.declared.test.Reached.{Reached}
use Rattle.batch.specs.Actions.{entry_of}
use Rattle.batch.specs.Rules.{in_turn_behind}
use Rattle.batch.specs.Test.{held_after, StepTaken, Stepped, Stepping, Walked, WalkedTo, Fresh}
use Rattle.batch.proofs.Reading.{entry_some}
use Rattle.batch.proofs.Walks.{walk_on, walk_stuck}

pub record Going (known : Known) (file journal : List ℕ) (end : ℕ) (marks₀ table₀ marks table : List ℕ) (held : ℕ) (seen : Option Consignor) (used last : ℕ) : Type 0 where
  pub walked : Walked known file journal held seen used last marks table
  pub before : used ≤ end
  pub within : end ≤ length journal
  pub bounded : length journal ≤ 1048576
  pub marks_long : length marks ≡ length marks₀
  pub table_long : length table ≡ length table₀

pub walk_starts : {known : Known} (file journal : List ℕ) (end : ℕ) (marks table : List ℕ) → Fresh file journal end marks table → Going known file journal end marks table marks table 0 None 0 0
unfolding in_turn_behind first_named
walk_starts file journal end marks table f = record {
  walked = record {
    acts = [];
    front = refl;
    turns = refl;
    many = refl;
    first = refl;
    named = λ i h. absurd (omega arith);
    struck = λ i h. absurd (omega arith);
    ids = λ i h. absurd (omega arith);
    latest = refl;
    marking = f.marking;
  };
  before = omega arith;
  within = f.within;
  bounded = f.bounded;
  marks_long = refl;
  table_long = refl;
}

module _ {known : Known} (file journal : List ℕ) (end : ℕ) (marks₀ table₀ marks table : List ℕ) (held : ℕ) (seen : Option Consignor) (used last : ℕ) (g : Going known file journal end marks₀ table₀ marks table held seen used last) (more : used < end) where
  pub going_steps : Stepping file journal end held used marks table
  going_steps = record { marking = g.walked.marking; before = g.before; within = g.within; bounded = g.bounded }

  module _ (r : Option Reached) (marks' table' : List ℕ) (s : Stepped known file journal end held seen used marks table r marks' table') where
    pub walk_fails : r ≡ None → WalkedTo known file journal end table₀ None marks' table'
    walk_fails n = record {
      if_so = λ to q. absurd (none-some to q);
      if_not = λ q c ec state st. walk_stuck file journal held seen used last end marks table g.walked more g.within c ec state st (s.if_not n);
    }

    module _ (to : Reached) (n : r ≡ Some to) where
      step_so : StepTaken known file journal end held seen used marks to marks' table'
      step_so = s.if_so to n

      pub going_less : end - to.used < end - used
      going_less = omega (arith, more, step_so.moves, entry_some step_so.action)

      pub going_on : length marks' ≡ length marks → Going known file journal end marks₀ table₀ marks' table' to.held to.seen to.used to.last
      going_on long =
          let t = step_so in
          let w = walk_on file journal held seen used last marks table g.walked end g.before g.within t.action t.entry g.bounded to.seen marks' table' s.long t.taken in
          record {
            walked = subst (λ (h : ℕ). Walked known file journal h to.seen to.used to.last marks' table') (sym t.holds)
                (subst (λ (u : ℕ). Walked known file journal (held_after held t.action) to.seen u to.last marks' table') (sym t.moves)
                (subst (λ (l : ℕ). Walked known file journal (held_after held t.action) to.seen (used + length (entry_of t.action)) l marks' table') (sym t.from) w));
            before = omega (arith, t.moves, t.entry.within);
            within = g.within;
            bounded = g.bounded;
            marks_long = long ∙ g.marks_long;
            table_long = s.long ∙ g.table_long;
          }

pub walk_ends : {known : Known} (file journal : List ℕ) (end : ℕ) (marks₀ table₀ marks table : List ℕ) (at : Reached) → Going known file journal end marks₀ table₀ marks table at.held at.seen at.used at.last → end ≤ at.used
    → WalkedTo known file journal end table₀ (Some at) marks table
walk_ends {known} file journal end marks₀ table₀ marks table at g h =
    let same : at.used ≡ end = omega (arith, h, g.before) in
    let walked : Walked known file journal at.held at.seen end at.last marks table = subst (λ (u : ℕ). Walked known file journal at.held at.seen u at.last marks table) same g.walked in
    record {
      if_so = λ to q. subst (λ (x : Reached). Walked known file journal x.held x.seen end x.last marks table) (same_Some at to q) walked;
      if_not = λ q. absurd (none-some at (sym q));
    }
