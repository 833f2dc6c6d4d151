-- The answer to a record, in the paper's words: 0 exactly if none of the conditions holds; otherwise the first that holds, with its place. It gives
-- no other code than those of `record_codes`.
-- Assumes nothing.
use Prim.Native.Nat.{ℕ}
use mathlib.Core.Path.{◌≡◌, refl, sym, ap, subst, ◌∙◌}
use mathlib.Core.Bool.{Bool, true, false, cond}
use mathlib.Core.List.{List, [], ◌∷◌, map}
use mathlib.Core.Logic.{◌↔◌}
use borrow.Author.Tests.{eq-eqb}
use lib.Dec.{eqb}
use lib.ListN.{length}
use Rattle.text.specs.declared.Answer.{Answer}
use Rattle.text.specs.Answers.{answer, wrong_length}
use Rattle.text.proofs.Booleans.{clash}
use Rattle.record.specs.Table.{Case, Rule, first_case, verdict, any_case, code_of}
use Rattle.record.specs.Rules.{Terms, table, record_answer}
use Rattle.record.specs.Codes.{table_codes, record_codes, lacks}
use Rattle.record.specs.Outcomes.{no_case, none_broken, FirstCase, TableOutcome, good, bad}
use Rattle.record.proofs.Codes.{codes_in_order, lacks_other, lacks_behind, lacks_there, none_zero}

-- ---- one rule
pub data Judged (c : ℕ) (ks : List Case) (b r : Answer) : Type 0 where
  passes : any_case ks ≡ false → r ≡ b → Judged c ks b r
  breaks : any_case ks ≡ true → FirstCase c ks r → Judged c ks b r

pub judge_case : (c : ℕ) (ks : List Case) (b : Answer) → Judged c ks b (first_case c ks b)
unfolding no_case
judge_case c [] b = passes refl refl
judge_case c (k ∷ ks) b = go k.when refl (judge_case c ks b)
  where
    go : (t : Bool) → k.when ≡ t → Judged c ks b (first_case c ks b) → Judged c (k ∷ ks) b (cond t (answer c k.place) (first_case c ks b))
    go true e j = breaks (rw e) (record { before = []; here = k; after = ks; split = refl; none = refl; holds = e; says = refl })
    go false e (passes n r) = passes (rw (e, n)) r
    go false e (breaks y f) =
        breaks (rw (e, y))
        (record { before = k ∷ f.before; here = f.here; after = f.after; split = ap (λ (l : List Case). k ∷ l) f.split; none = rw e f.none; holds = f.holds; says = f.says })

-- ---- a table
pub outcome : (rs : List Rule) → TableOutcome rs (verdict rs)
unfolding none_broken
outcome [] = good refl refl
outcome (r ∷ rs) = go (judge_case r.code r.cases (verdict rs)) (outcome rs)
  where
    go : {a : Answer} → Judged r.code r.cases (verdict rs) a → TableOutcome rs (verdict rs) → TableOutcome (r ∷ rs) a
    go (breaks y f) o = bad (rw y) (record { before = []; here = r; after = rs; split = refl; none = refl; case = f })
    go (passes n e) (good q g) = good (rw n q) (e ∙ g)
    go (passes n e) (bad q g) =
        bad (rw n q)
        (rw e (record { before = r ∷ g.before; here = g.here; after = g.after; split = ap (λ (l : List Rule). r ∷ l) g.split; none = rw n g.none; case = g.case }))

-- ---- the record
-- what `check` answers to a record of 399 bytes: 0 where no rule is broken, else the first rule that is, at the place of its first case
pub record_outcome : (t : Terms) (rec : List ℕ) → length rec ≡ 399 → TableOutcome (table t rec) (record_answer t rec)
unfolding record_answer
record_outcome t rec e = rw (eq-eqb (length rec) 399 e) (outcome (table t rec))

-- code 0 exactly if none of the conditions holds: of any table without a code 0, and of the record's
pub table_accepts : (rs : List Rule) → lacks 0 (map code_of rs) ≡ true → ((verdict rs).code ≡ 0) ↔ (none_broken rs ≡ true)
table_accepts rs n = go (outcome rs)
  where
    go : {a : Answer} → TableOutcome rs a → (a.code ≡ 0) ↔ (none_broken rs ≡ true)
    go (good q g) = (λ z. q, λ t. ap (λ (x : Answer). x.code) g)
    go (bad q f) = (
      λ z. absurd (lacks_other 0 f.here.code (map code_of rs) (rw f.split (lacks_there f.before f.here f.after)) n (sym (ap (λ (x : Answer). x.code) f.case.says) ∙ z)),
      λ t. absurd (clash t q),
    )

pub accepted_exactly : (t : Terms) (rec : List ℕ) → length rec ≡ 399 → ((record_answer t rec).code ≡ 0) ↔ (none_broken (table t rec) ≡ true)
unfolding record_answer
accepted_exactly t rec e = rw (eq-eqb (length rec) 399 e) (table_accepts (table t rec) (none_zero t rec))

-- ---- and no other code than those of `record_codes`
-- a table gives 0 or one of its codes
table_code : (rs : List Rule) → lacks (verdict rs).code (0 ∷ map code_of rs) ≡ false
unfolding lacks
table_code rs = go (outcome rs)
  where
    go : {a : Answer} → TableOutcome rs a → lacks a.code (0 ∷ map code_of rs) ≡ false
    go (good g e) = rw e
    go (bad g f) =
        subst (λ (x : Answer). lacks x.code (0 ∷ map code_of rs) ≡ false) (sym f.case.says)
        (lacks_behind f.here.code 0 (map code_of rs) (rw f.split (lacks_there f.before f.here f.after)))

pub none_other : (c : ℕ) (rs : List Rule) → lacks c (0 ∷ map code_of rs) ≡ true → (verdict rs).code ≡ c → ⊥
none_other c rs l z = lacks_other c (verdict rs).code (0 ∷ map code_of rs) (table_code rs) l z

pub code_known : (t : Terms) (rec : List ℕ) → lacks (record_answer t rec).code record_codes ≡ false
unfolding lacks record_answer
code_known t rec = go (eqb (length rec) 399)
  where
    go : (long : Bool) → lacks (cond long (verdict (table t rec)) wrong_length).code record_codes ≡ false
    go true =
        let c = (verdict (table t rec)).code in
        lacks_behind c 236 (0 ∷ table_codes) (ap (λ (cs : List ℕ). lacks c (0 ∷ cs)) (sym (codes_in_order t rec)) ∙ table_code (table t rec))
    go false = refl

pub no_other_code : (t : Terms) (rec : List ℕ) (c : ℕ) → lacks c record_codes ≡ true → (record_answer t rec).code ≡ c → ⊥
no_other_code t rec c l z = lacks_other c (record_answer t rec).code record_codes (code_known t rec) l z
