-- Laws on tables of rules, over any table.
-- Assumes nothing.
use Prim.Native.Nat.{ℕ, suc, ◌+◌}
use mathlib.Core.Path.{◌≡◌, refl, sym, ap, ◌∙◌}
use mathlib.Core.Bool.{Bool, true, false, cond}
use mathlib.Core.List.{List, [], ◌∷◌, ◌++◌}
use native.Mathlib.Omega.{arith}
use borrow.Author.Tests.{ne_eqb}
use lib.Dec.{eqb}
use lib.ListN.{length}
use Rattle.std.proofs.Common.{Result, Ok, Err}
use Rattle.std.specs.Bool.{⊤}
use Rattle.std.specs.Result.{IsErrAnd, result_and}
use Rattle.std.proofs.lemmas.Result.{err_from_is_err_and}
use Rattle.text.specs.declared.Answer.{Answer}
use Rattle.text.specs.declared.Refusal.{Refusal}
use Rattle.text.specs.Answers.{answer, accepted, answer_of, answered, or_else}
use Rattle.text.proofs.Refusals.{refuses}
use Rattle.record.specs.Table.{Case, Rule, rule, first_case, verdict, places_from, first_broken, cases_then, cases_of, rows_of}

-- ---- one call behind another, by `?`: what the first refuses stands, and behind one that accepts the next is asked
pub refused : (q : Result ⊤ Refusal) (e : Refusal) (a b : Answer) → IsErrAnd q (λ y. y ≡ e) → answer_of e ≡ a → answered q ≡ or_else a b
unfolding or_else
refused q e a b given said =
    let p = err_from_is_err_and q given in
    rw (p.1, p.2, ← said, refuses e)

pub passed : (r a b : Answer) → accepted ≡ a → r ≡ b → r ≡ or_else a b
unfolding or_else
passed r a b said next = rw (← said) next

-- one after the other: the first refusal of the two
pub joined : (q r : Result ⊤ Refusal) → answered (result_and q r) ≡ or_else (answered q) (answered r)
unfolding or_else
joined (Ok u) r = refl
joined (Err e) r = rw (refuses e) refl

-- ---- one rule behind another
or_case : (c : ℕ) (ks : List Case) (b : Answer) → (c ≡ 0 → ⊥) → or_else (first_case c ks accepted) b ≡ first_case c ks b
unfolding or_else
or_case c [] b n = refl
or_case c (k ∷ ks) b n = go k.when (or_case c ks b n)
  where
    go : (t : Bool) → or_else (first_case c ks accepted) b ≡ first_case c ks b → or_else (cond t (answer c k.place) (first_case c ks accepted)) b ≡ cond t (answer c k.place) (first_case c ks b)
    go true h = rw (ne_eqb c 0 n)
    go false h = h

-- every rule has a code
abbrev pub Coded : List Rule → Type 0
Coded [] = Unit
Coded (r ∷ rs) = (r.code ≡ 0 → ⊥) × (Coded rs)

or_behind : (a b c : Answer) → or_else (or_else a b) c ≡ or_else a (or_else b c)
unfolding or_else
or_behind a b c = go (eqb a.code 0) refl
  where
    go : (t : Bool) → eqb a.code 0 ≡ t → or_else (cond t b a) c ≡ cond t (or_else b c) a
    go true e = refl
    go false e = rw e

-- a rule, then a table
pub rule_then : (r : Rule) (rs : List Rule) → (r.code ≡ 0 → ⊥) → or_else (verdict (r ∷ [])) (verdict rs) ≡ verdict (r ∷ rs)
rule_then r rs n = or_case r.code r.cases (verdict rs) n

-- a table, then a table
pub table_then : (xs ys : List Rule) → Coded xs → or_else (verdict xs) (verdict ys) ≡ verdict (xs ++ ys)
table_then [] ys c = first_none (verdict ys)
  where
    first_none : (b : Answer) → or_else accepted b ≡ b
    first_none b = or_case 1 [] b (λ e. omega arith)
table_then (x ∷ xs) ys c =
    ap (λ (a : Answer). or_else a (verdict ys)) (sym (rule_then x xs c.0))
    ∙ or_behind (verdict (x ∷ [])) (verdict xs) (verdict ys)
    ∙ ap (or_else (verdict (x ∷ []))) (table_then xs ys c.1)
    ∙ rule_then x (xs ++ ys) c.0

-- ---- malformed fields from place p on: 210 at the first
abbrev pub Malformed : ℕ → List Bool → Answer
Malformed p flags = verdict (rule 210 (places_from p flags) ∷ [])

-- one group of fields behind another
pub groups_join : (p q : ℕ) (xs ys : List Bool) → q ≡ p + length xs → or_else (Malformed p xs) (Malformed q ys) ≡ Malformed p (xs ++ ys)
unfolding or_else
groups_join p q [] ys e = let here : q ≡ p = omega arith in rw here
groups_join p q (x ∷ xs) ys e = go x (groups_join (suc p) q xs ys (omega arith))
  where
    go : (t : Bool) → or_else (Malformed (suc p) xs) (Malformed q ys) ≡ Malformed (suc p) (xs ++ ys)
        → or_else (cond t (answer 210 p) (Malformed (suc p) xs)) (Malformed q ys) ≡ cond t (answer 210 p) (Malformed (suc p) (xs ++ ys))
    go true h = refl
    go false h = h

-- ---- a table as the code has it, row by row, over any rows
abbrev first_answer : List (Bool × Answer) → Answer
first_answer [] = accepted
first_answer (k ∷ ks) = cond k.0 k.1 (first_answer ks)

rows_first : (ts : List (Bool × Refusal)) → first_broken ts ≡ first_answer (rows_of ts)
rows_first [] = refl
rows_first (t ∷ ts) = ap (cond t.0 (answer_of t.1)) (rows_first ts)

cases_first : (c : ℕ) (ks : List Case) (rest : List (Bool × Answer)) (b : Answer) → first_answer rest ≡ b → first_answer (cases_then c ks rest) ≡ first_case c ks b
cases_first c [] rest b e = e
cases_first c (k ∷ ks) rest b e = ap (cond k.when (answer c k.place)) (cases_first c ks rest b e)

rules_first : (rs : List Rule) → first_answer (cases_of rs) ≡ verdict rs
rules_first [] = refl
rules_first (r ∷ rs) = cases_first r.code r.cases (cases_of rs) (verdict rs) (rules_first rs)

-- where row for row stands what case for case does, the first row that is broken tells the verdict
pub by_rows : (ts : List (Bool × Refusal)) (rs : List Rule) → rows_of ts ≡ cases_of rs → first_broken ts ≡ verdict rs
by_rows ts rs e = rows_first ts ∙ ap first_answer e ∙ rules_first rs
