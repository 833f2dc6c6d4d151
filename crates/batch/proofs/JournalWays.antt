-- Accepted actions, entries of the journal, and the replay: each way out of the functions.
-- Assumes nothing.
use Prim.Native.Nat.{ℕ, ◌+◌, ◌*◌, ◌≤◌}
use mathlib.Core.Path.{◌≡◌, refl, sym, ap, ◌∙◌}
use mathlib.Core.Bool.{Bool, true, false, cond, not}
use mathlib.Core.List.{List, [], ◌∷◌}
use native.Mathlib.Omega.{arith}
use borrow.Author.Tests.{eq-eqb, leb-true, eqb-true, eqb-false}
use lib.Dec.{eqb, leb}
use lib.ListN.{length}
use Rattle.std.specs.Prelude.{Option, Some, IsSome}
use Rattle.psc.specs.Table.{Known}
use Rattle.text.specs.declared.Answer.{Answer}
use Rattle.text.specs.Answers.{answer, accepted, or_else}
use Rattle.ident.specs.Identifier.{right_id}
use Rattle.layout.specs.Layout.{field_of}
use Rattle.ident.specs.declared.consignor.Consignor.{Consignor}
use Rattle.ident.specs.Consignor.{another}
use Rattle.record.specs.Rules.{to_post, record_answer}
use Rattle.record.specs.Consignors.{consignor_of}
use Rattle.batch.specs.Places.{number_of_place, record_number, present, place_of, is_cancelled_at, id_of, live_answer, add_answer, amend_answer, cancel_answer, with_line, with_cancelled, action_answer, action_file}
use Rattle.batch.specs.Entries.{body_length, head_stands, kind_at}
use Rattle.batch.specs.Work.{Acceptable}
use Rattle.text.specs.Lists.{overlay}
use Rattle.batch.proofs.ActionWays.{place_found, some_place, status_put}

-- ---- where an action is accepted
pub or_both : (a b : Answer) → (or_else a b).code ≡ 0 → (a.code ≡ 0) × (b.code ≡ 0)
unfolding or_else
or_both a b h = go (eqb a.code 0) refl h
  where
    go : (t : Bool) → eqb a.code 0 ≡ t → (cond t b a).code ≡ 0 → (a.code ≡ 0) × (b.code ≡ 0)
    go true e h = (eqb-true a.code 0 e, h)
    go false e h = absurd (eqb-false a.code 0 e h)

live_found : (file id : List ℕ) (held : ℕ) → (live_answer file held id).code ≡ 0 → 1 ≤ record_number file id held
live_found file id held h = go (eqb (record_number file id held) 0) refl h
  where
    go : (t : Bool) → eqb (record_number file id held) 0 ≡ t
        → (cond (not t) (cond (is_cancelled_at file (place_of file id held)) (answer 233 0) accepted) (answer 232 0)).code ≡ 0 → 1 ≤ record_number file id held
    go true e h = absurd (omega (arith, h))
    go false e h = let n = eqb-false (record_number file id held) 0 e in omega arith

add_fits : (known : Known) (file rec : List ℕ) (held : ℕ) (seen : Option Consignor) → (add_answer known file held seen rec).code ≡ 0 → held * 401 + 401 ≤ length file
unfolding add_answer
add_fits known file rec held seen h =
    go (present file (id_of rec) held) (another seen (consignor_of rec)) (leb (held * 401 + 401) (length file)) refl (or_both (record_answer (to_post known) rec) _ h).1
  where
    go : (p w q : Bool) → leb (held * 401 + 401) (length file) ≡ q → (cond p (answer 2 1) (cond w (answer 241 1) (cond q accepted (answer 230 0)))).code ≡ 0 → held * 401 + 401 ≤ length file
    go true w q e h = absurd (omega (arith, h))
    go false true q e h = absurd (omega (arith, h))
    go false false true e h = leb-true (held * 401 + 401) (length file) e
    go false false false e h = absurd (omega (arith, h))

amend_live : (known : Known) (file rec : List ℕ) (held : ℕ) → (amend_answer known file held rec).code ≡ 0 → (live_answer file held (id_of rec)).code ≡ 0
unfolding amend_answer
amend_live known file rec held h = (or_both (record_answer (to_post known) rec) (live_answer file held (id_of rec)) h).1

cancel_live : (file id : List ℕ) (held : ℕ) → (cancel_answer file held id).code ≡ 0 → (live_answer file held id).code ≡ 0
unfolding cancel_answer
cancel_live file id held h = go (right_id id) h
  where
    go : (t : Bool) → (cond t (live_answer file held id) (answer 1 1)).code ≡ 0 → (live_answer file held id).code ≡ 0
    go true h = h
    go false h = absurd (omega (arith, h))

-- the place that an accepted action touches lies within the file
module _ (file body : List ℕ) (held kind : ℕ) (pre : Acceptable file held kind body) where
  pub adds_within : kind ≡ 1 → (held ≤ 999) × (held * 401 + 401 ≤ length file) × (length body ≡ 399)
  unfolding action_answer
  adds_within k =
      let e : action_answer pre.known file held pre.seen kind body ≡ add_answer pre.known file held pre.seen body = rw (eq-eqb kind 1 k) in
      let sized : body_length kind ≡ 399 = rw k in
      (pre.few, add_fits pre.known file body held pre.seen (sym (ap (λ (x : Answer). x.code) e) ∙ pre.accepts), pre.sized ∙ sized)

  -- behind an amendment, or a cancellation
  module _ (id : List ℕ) (r : Option ℕ) (en : (number_of_place r ≡ record_number file id held) × (number_of_place r ≤ held)) where
    pub amends_some : kind ≡ 3 → id ≡ field_of body 1 → IsSome r
    unfolding action_answer
    amends_some k ei =
        let e : action_answer pre.known file held pre.seen kind body ≡ amend_answer pre.known file held body = rw k in
        let live = amend_live pre.known file body held (sym (ap (λ (x : Answer). x.code) e) ∙ pre.accepts) in
        some_place r (rw (en.0, ei) (live_found file (id_of body) held live))

    pub cancels_some : kind ≡ 2 → id ≡ body → IsSome r
    unfolding action_answer
    cancels_some k ei =
        let e : action_answer pre.known file held pre.seen kind body ≡ cancel_answer file held body = rw k in
        let live = cancel_live file body held (sym (ap (λ (x : Answer). x.code) e) ∙ pre.accepts) in
        some_place r (rw (en.0, ei) (live_found file body held live))

-- ---- act
pub acted_add : (file t body : List ℕ) (held kind : ℕ) → kind ≡ 1 → t ≡ with_line file held body → t ≡ action_file file held kind body
unfolding action_file
acted_add file t body held kind k e = rw k e

module _ (file t body id : List ℕ) (held kind : ℕ) (r : Option ℕ) (en : (number_of_place r ≡ record_number file id held) × (number_of_place r ≤ held)) (k : ℕ) (q : r ≡ Some k) where
  pub place_is : place_of file id held ≡ k
  place_is = omega (arith, (place_found file id held r en k q).0)

  pub place_within : held * 401 ≤ length file → k * 401 + 401 ≤ length file
  place_within fits = omega (arith, fits, (place_found file id held r en k q).1)

  pub acted_amend : kind ≡ 3 → id ≡ field_of body 1 → t ≡ with_line file k body → t ≡ action_file file held kind body
  unfolding action_file
  acted_amend kk ei e = rw kk (e ∙ ap (λ (x : ℕ). with_line file x body) (sym place_is ∙ ap (λ (x : List ℕ). place_of file x held) ei))

  pub acted_cancel : held * 401 ≤ length file → kind ≡ 2 → id ≡ body → t ≡ overlay file (k * 401 + 340) (48 ∷ 32 ∷ []) → t ≡ action_file file held kind body
  unfolding action_file
  acted_cancel fits kk ei e = rw kk (e ∙ status_put file k 48 32 (place_within fits) ∙ ap (with_cancelled file) (sym place_is ∙ ap (λ (x : List ℕ). place_of file x held) ei))

-- ---- entries
module _ (j : List ℕ) (end at : ℕ) (a : Bool) (ea : a ≡ head_stands j end at 403 147 1 1) where
  pub kind_one : a ≡ true → 1 ≡ kind_at j end at
  unfolding kind_at
  kind_one t = rw (← ea, t)

  module _ (na : a ≡ false) (b : Bool) (eb : b ≡ head_stands j end at 17 17 0 2) where
    pub kind_two : b ≡ true → 2 ≡ kind_at j end at
    unfolding kind_at
    kind_two t = rw (← ea, na, ← eb, t)

    module _ (nb : b ≡ false) (d : Bool) (ed : d ≡ head_stands j end at 403 147 1 3) where
      pub kind_three : d ≡ true → 3 ≡ kind_at j end at
      unfolding kind_at
      kind_three t = rw (← ea, na, ← eb, nb, ← ed, t)

      pub kind_none : d ≡ false → 0 ≡ kind_at j end at
      unfolding kind_at
      kind_none t = rw (← ea, na, ← eb, nb, ← ed, t)
