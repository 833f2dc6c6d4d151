-- A table of rules in order. A rule has a code and cases, each with its place; the first case that holds gives the answer.
-- Assumes nothing.
use Rattle.std.specs.Prelude.{ℕ, suc, Bool, false, cond, ◌||◌, List, [], ◌∷◌, map}
use Rattle.text.specs.declared.Answer.{Answer}
use Rattle.text.specs.declared.Refusal.{Refusal}
use Rattle.text.specs.Answers.{answer, accepted, answer_of}

pub record Case : Type 0 where
  pub when : Bool
  pub place : ℕ

pub record Rule : Type 0 where
  pub code : ℕ
  pub cases : List Case

abbrev pub at : ℕ → Bool → Case
at p b = record { when = b; place = p }

abbrev pub rule : ℕ → List Case → Rule
rule c cs = record { code = c; cases = cs }

-- the first of a rule's cases that holds, else what comes behind
abbrev pub first_case : ℕ → List Case → Answer → Answer
first_case c [] behind = behind
first_case c (k ∷ ks) behind = cond k.when (answer c k.place) (first_case c ks behind)

abbrev pub first_rule : List Rule → Answer → Answer
first_rule [] behind = behind
first_rule (r ∷ rs) behind = first_case r.code r.cases (first_rule rs behind)

-- the answer of a table: 0 where no case holds
abbrev pub verdict : List Rule → Answer
verdict rs = first_rule rs accepted

-- cases at consecutive places
abbrev pub places_from : ℕ → List Bool → List Case
places_from p [] = []
places_from p (b ∷ bs) = at p b ∷ places_from (suc p) bs

-- a rule is broken where one of its cases holds
abbrev pub any_case : List Case → Bool
any_case [] = false
any_case (k ∷ ks) = k.when || any_case ks

abbrev pub broken : Rule → Bool
broken r = any_case r.cases

-- the conditions of all cases, in their order
abbrev pub case_whens : List Case → List Bool → List Bool
case_whens [] rest = rest
case_whens (k ∷ ks) rest = k.when ∷ case_whens ks rest

abbrev pub whens : List Rule → List Bool
whens [] = []
whens (r ∷ rs) = case_whens r.cases (whens rs)

-- a table as the code has it: each case with what it refuses by
abbrev pub first_broken : List (Bool × Refusal) → Answer
first_broken [] = accepted
first_broken (k ∷ ks) = cond k.0 (answer_of k.1) (first_broken ks)

-- the cases of all rules, in their order: the condition of each, and the answer where it holds
abbrev pub cases_then : ℕ → List Case → List (Bool × Answer) → List (Bool × Answer)
cases_then c [] rest = rest
cases_then c (k ∷ ks) rest = (k.when, answer c k.place) ∷ cases_then c ks rest

abbrev pub cases_of : List Rule → List (Bool × Answer)
cases_of [] = []
cases_of (r ∷ rs) = cases_then r.code r.cases (cases_of rs)

-- its rows: the condition of each, and the answer of what it refuses by
abbrev pub rows_of : List (Bool × Refusal) → List (Bool × Answer)
rows_of ts = map (λ t. (t.0, answer_of t.1)) ts

abbrev pub code_of : Rule → ℕ
code_of r = r.code
