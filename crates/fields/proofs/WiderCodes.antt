-- A table with more codes: what was good by the shorter one is read the same by the longer, and so is a field that has none of the new texts in it. So of
-- the codes with letters behind the numbers.
-- Assumes nothing.
use Prim.Native.Nat.{ℕ, zero, suc, ◌+◌}
use mathlib.Core.Path.{◌≡◌, refl, sym, ap, ◌∙◌}
use mathlib.Core.Bool.{Bool, true, false, cond, not, ◌&&◌, ◌||◌, or-true}
use mathlib.Core.List.{List, [], ◌∷◌, ◌++◌, map}
use mathlib.Core.Logic.{◌↔◌}
use native.Mathlib.Omega.{arith}
use borrow.Author.Tests.{eqb-true, eqb-false, eq-eqb, ne_eqb, le-leb, lt-leb, leb-true, leb-false, lt-ltb, le-ltb, not-true}
use lib.Dec.{eqb, leb, ltb}
use lib.ListN.{length}
use Rattle.text.specs.Bytes.{every, is_blank, is_capital}
use Rattle.text.specs.Lists.{same_bytes}
use Rattle.text.specs.Numbers.{digits, decimal, decimal_places_up_to}
use Rattle.text.proofs.Booleans.{clash, both}
use Rattle.text.proofs.Lists.{same_exactly}
use Rattle.fields.specs.declared.services.Services.{Services}
use Rattle.fields.specs.declared.reading.Reading.TheVariants.{Absent, Value, Malformed}
use Rattle.fields.specs.Codes.{Code, numbers_from, numbers, lettered, sizes, codes, number_for, text_for, has_number, has_text, is_code, told_apart}
use Rattle.fields.specs.Services.{in_front, words, numbers_in, has_code, no_services, with_code, added, read_by, read_services, malformed_services, services_in, how_many, several_sizes}
use Rattle.fields.specs.ServiceTexts.{no_letters, Writes, WritesNumbers}
use Rattle.fields.proofs.ServicesLaws.{has_none, has_with, services_exactly}

-- ---- a text that is a code stays that code
more_first : (table more : List Code) (t : List ℕ) → is_code (number_for table t) ≡ true → number_for (table ++ more) t ≡ number_for table t
unfolding number_for
more_first [] more t h = absurd (clash h refl)
more_first (c ∷ cs) more t h = go (same_bytes c.text t) (more_first cs more t) h
  where
    go : (q : Bool) → (is_code (number_for cs t) ≡ true → number_for (cs ++ more) t ≡ number_for cs t) → is_code (cond q c.number (number_for cs t)) ≡ true
        → cond q c.number (number_for (cs ++ more) t) ≡ cond q c.number (number_for cs t)
    go true rest h = refl
    go false rest h = rest h

-- ---- so a field that was good is read as it was
added_more : (table more : List Code) (s : Services) (ws : List (List ℕ)) → malformed_services (added s (map (number_for table) ws)) ≡ false
    → added s (map (number_for (table ++ more)) ws) ≡ added s (map (number_for table) ws)
unfolding added
added_more table more s [] h = refl
added_more table more s (w ∷ ws) h =
    go (is_code (number_for table w)) (not (has_code s (number_for table w))) refl h (λ g. added_more table more (with_code s (number_for table w)) ws g)
  where
    go : (p q : Bool) → is_code (number_for table w) ≡ p → malformed_services (cond (p && q) (added (with_code s (number_for table w)) (map (number_for table) ws)) Malformed) ≡ false
        → (malformed_services (added (with_code s (number_for table w)) (map (number_for table) ws)) ≡ false
        → added (with_code s (number_for table w)) (map (number_for (table ++ more)) ws) ≡ added (with_code s (number_for table w)) (map (number_for table) ws))
        → added s (number_for (table ++ more) w ∷ map (number_for (table ++ more)) ws) ≡ added s (number_for table w ∷ map (number_for table) ws)
    go true true e h rest = rw (more_first table more w e, rest h)
    go true false e h rest = absurd (clash refl h)
    go false q e h rest = absurd (clash refl h)

pub still_read : (table more : List Code) (f : List ℕ) → malformed_services (read_by table f) ≡ false → read_by (table ++ more) f ≡ read_by table f
unfolding read_by
still_read table more f h = go (eqb (length f) 30) (is_blank f) h
  where
    go : (l b : Bool) → malformed_services (cond l (cond b Absent (added no_services (numbers_in table f))) Malformed) ≡ false
        → cond l (cond b Absent (added no_services (numbers_in (table ++ more) f))) Malformed ≡ cond l (cond b Absent (added no_services (numbers_in table f))) Malformed
    go true true h = refl
    go true false h = added_more table more no_services (words f) h
    go false b h = refl

-- ---- a field with no text of the new codes in it is read as it was, good or not
more_past : (table more : List Code) (t : List ℕ) → has_text more t ≡ false → number_for (table ++ more) t ≡ number_for table t
unfolding number_for has_text
more_past [] [] t h = refl
more_past [] (c ∷ cs) t h = go (same_bytes c.text t) (more_past [] cs t) h
  where
    go : (q : Bool) → (has_text cs t ≡ false → number_for cs t ≡ 0) → (q || has_text cs t) ≡ false → cond q c.number (number_for cs t) ≡ 0
    go true rest h = absurd (clash refl h)
    go false rest h = rest h
more_past (c ∷ table) more t h = rw (more_past table more t h)

unfoldable all_of : (List ℕ → Bool) → List (List ℕ) → Bool
all_of test [] = true
all_of test (w ∷ ws) = test w && all_of test ws

words_bytes : (test : ℕ → Bool) (f : List ℕ) → every test f ≡ true → all_of (every test) (words f) ≡ true
unfolding words all_of
words_bytes test [] h = refl
words_bytes test (b ∷ f) h = let p = both (test b) (every test f) h in go (is_blank (b ∷ f)) (eqb b 43) (words f) (words_bytes test f p.1) p.0
  where
    go : (s q : Bool) (ws : List (List ℕ)) → all_of (every test) ws ≡ true → test b ≡ true → all_of (every test) (cond s ([] ∷ []) (cond q ([] ∷ ws) (in_front b ws))) ≡ true
    go true q ws r e = refl
    go false true ws r e = r
    go false false [] r e = rw e
    go false false (w ∷ ws) r e = rw e r

-- codes that all have a letter
unfoldable all_lettered : List Code → Bool
all_lettered [] = true
all_lettered (c ∷ cs) = not (no_letters c.text) && all_lettered cs

no_text : (cs : List Code) (t : List ℕ) → all_lettered cs ≡ true → no_letters t ≡ true → has_text cs t ≡ false
unfolding all_lettered has_text
no_text [] t a h = refl
no_text (c ∷ cs) t a h = let p = both (not (no_letters c.text)) (all_lettered cs) a in go (same_bytes c.text t) refl (not-true _ p.0) (no_text cs t p.1 h)
  where
    go : (q : Bool) → same_bytes c.text t ≡ q → no_letters c.text ≡ false → has_text cs t ≡ false → (q || has_text cs t) ≡ false
    go true e n r = absurd (clash (ap no_letters ((same_exactly c.text t).0 e) ∙ h) n)
    go false e n r = r

same_numbers : (table more : List Code) (ws : List (List ℕ)) → all_lettered more ≡ true → all_of no_letters ws ≡ true → map (number_for (table ++ more)) ws ≡ map (number_for table) ws
unfolding all_of
same_numbers table more [] a h = refl
same_numbers table more (w ∷ ws) a h =
    let p = both (no_letters w) (all_of no_letters ws) h in
    rw (more_past table more w (no_text more w a p.0), same_numbers table more ws a p.1)

all_lettered_lem : all_lettered (lettered ++ sizes) ≡ true
unfolding all_lettered
all_lettered_lem = refl

-- ---- the codes with letters, behind the numbers
pub good_as_it_was : (f : List ℕ) → malformed_services (read_by numbers f) ≡ false → read_services f ≡ read_by numbers f
unfolding codes
good_as_it_was f = still_read numbers (lettered ++ sizes) f

pub letterless_as_it_was : (f : List ℕ) → no_letters f ≡ true → read_services f ≡ read_by numbers f
unfolding codes read_by
letterless_as_it_was f h = rw (same_numbers numbers (lettered ++ sizes) (words f) all_lettered_lem (words_bytes (λ b. not (is_capital b)) f h))

-- ---- a set that is read has no other codes than those of the table
number_there : (table : List Code) (t : List ℕ) → is_code (number_for table t) ≡ true → has_number table (number_for table t) ≡ true
unfolding number_for has_number
number_there [] t h = absurd (clash h refl)
number_there (c ∷ cs) t h = go (same_bytes c.text t) (number_there cs t) h
  where
    go : (q : Bool) → (is_code (number_for cs t) ≡ true → has_number cs (number_for cs t) ≡ true) → is_code (cond q c.number (number_for cs t)) ≡ true
        → (eqb c.number (cond q c.number (number_for cs t)) || has_number cs (cond q c.number (number_for cs t))) ≡ true
    go true rest h = rw (eq-eqb c.number c.number refl)
    go false rest h = rw (rest h) (or-true (eqb c.number (number_for cs t)))

module _ (table : List Code) (k : ℕ) (none : has_number table k ≡ false) where
  added_only : (s : Services) (ws : List (List ℕ)) → has_code s k ≡ false → has_code (services_in (added s (map (number_for table) ws))) k ≡ false
  unfolding added
  added_only s [] h = h
  added_only s (w ∷ ws) h =
      go (is_code (number_for table w)) refl (has_code s (number_for table w)) refl (λ g. added_only (with_code s (number_for table w)) ws g)
    where
      other : is_code (number_for table w) ≡ true → eqb k (number_for table w) ≡ false
      other p = ne_eqb k (number_for table w) (λ e. clash (ap (has_number table) e ∙ number_there table w p) none)

      go : (p : Bool) → is_code (number_for table w) ≡ p → (q : Bool) → has_code s (number_for table w) ≡ q
          → (has_code (with_code s (number_for table w)) k ≡ false → has_code (services_in (added (with_code s (number_for table w)) (map (number_for table) ws))) k ≡ false)
          → has_code (services_in (cond (p && not q) (added (with_code s (number_for table w)) (map (number_for table) ws)) Malformed)) k ≡ false
      go true ep false eq rest = rest (has_with s (number_for table w) k eq ∙ rw (other ep, h))
      go true ep true eq rest = has_none k
      go false ep q eq rest = has_none k

  pub only_of_table : (f : List ℕ) → has_code (services_in (read_by table f)) k ≡ false
  unfolding read_by
  only_of_table f = go (eqb (length f) 30) (is_blank f)
    where
      go : (l b : Bool) → has_code (services_in (cond l (cond b Absent (added no_services (numbers_in table f))) Malformed)) k ≡ false
      go true true = has_none k
      go true false = added_only no_services (words f) (has_none k)
      go false b = has_none k

-- so where the numbers alone are read there is no size
pub no_size_in_numbers : (f : List ℕ) → several_sizes (services_in (read_by numbers f)) ≡ false
unfolding several_sizes how_many has_number numbers_from
no_size_in_numbers f =
    let none : (k : ℕ) → has_number numbers k ≡ false → has_code (services_in (read_by numbers f)) k ≡ false = λ k n. only_of_table numbers k n f in
    rw (none 105 refl, none 106 refl, none 107 refl, none 108 refl)

-- ---- the numbers are those from 1 to 99, each with its decimal text
numbers_listed : (n k m : ℕ) → has_number (numbers_from n k) m ≡ (leb n m && ltb m (n + k))
unfolding has_number numbers_from
numbers_listed n zero m = sym (go (leb n m) refl)
  where
    go : (t : Bool) → leb n m ≡ t → (t && ltb m (n + 0)) ≡ false
    go true e = le-ltb m (n + 0) (omega (arith, leb-true n m e))
    go false e = refl
numbers_listed n (suc k) m = rw (numbers_listed (suc n) k m) (go (eqb n m) refl)
  where
    go : (t : Bool) → eqb n m ≡ t → (t || leb (suc n) m && ltb m (suc n + k)) ≡ (leb n m && ltb m (n + suc k))
    go true e = let same = eqb-true n m e in rw (le-leb n m (omega arith), lt-ltb m (n + suc k) (omega arith))
    go false e = let other = eqb-false n m e in above (leb n m) refl
      where
        above : (t : Bool) → leb n m ≡ t → (leb (suc n) m && ltb m (suc n + k)) ≡ (t && ltb m (n + suc k))
        above true l =
            let least = leb-true n m l in
            let sum : suc n + k ≡ n + suc k = omega arith in
            rw (le-leb (suc n) m (omega (arith, least, eqb-false n m e)), sum)
        above false l = let less = leb-false n m l in rw (lt-leb (suc n) m (omega arith))

texts_listed : (n k m : ℕ) → has_number (numbers_from n k) m ≡ true → text_for (numbers_from n k) m ≡ decimal m
unfolding has_number text_for numbers_from
texts_listed n zero m h = absurd (clash h refl)
texts_listed n (suc k) m h = go (eqb n m) refl (texts_listed (suc n) k m) h
  where
    go : (t : Bool) → eqb n m ≡ t → (has_number (numbers_from (suc n) k) m ≡ true → text_for (numbers_from (suc n) k) m ≡ decimal m) → (t || has_number (numbers_from (suc n) k) m) ≡ true
        → cond t (decimal n) (text_for (numbers_from (suc n) k) m) ≡ decimal m
    go true e rest h = ap decimal (eqb-true n m e)
    go false e rest h = rest h

number_is : (n : ℕ) → has_number numbers n ≡ (leb 1 n && leb n 99)
number_is n = numbers_listed 1 99 n ∙ ap (λ (t : Bool). leb 1 n && t) (go (leb n 99) refl)
  where
    go : (t : Bool) → leb n 99 ≡ t → ltb n 100 ≡ t
    go true e = let l = leb-true n 99 e in lt-ltb n 100 (omega arith)
    go false e = let l = leb-false n 99 e in le-ltb n 100 (omega arith)

numbers_are : (ns : List ℕ) → every (has_number numbers) ns ≡ every (λ n. leb 1 n && leb n 99) ns
numbers_are [] = refl
numbers_are (n ∷ ns) = rw (number_is n, numbers_are ns)

texts_are : (ns : List ℕ) → every (has_number numbers) ns ≡ true → map (text_for numbers) ns ≡ map decimal ns
texts_are [] h = refl
texts_are (n ∷ ns) h = let p = both (has_number numbers n) (every (has_number numbers) ns) h in rw (texts_listed 1 99 n p.0, texts_are ns p.1)

numbers_told_apart : told_apart numbers ≡ true
unfolding told_apart has_number has_text same_bytes numbers_from digits decimal_places_up_to
numbers_told_apart = refl

-- so by them the field reads as a set exactly if it did when codes were numbers only
pub numbers_exactly : (f : List ℕ) (s : Services) → (read_by numbers f ≡ Value s) ↔ ((ns : List ℕ) × WritesNumbers f s ns)
numbers_exactly f s = (λ r. let p = (services_exactly numbers numbers_told_apart f s).0 r in (p.0, to p.0 p.1), λ p. (services_exactly numbers numbers_told_apart f s).1 (p.0, from p.0 p.1))
  where
    to : (ns : List ℕ) → Writes numbers f s ns → WritesNumbers f s ns
    to ns w = record { some = w.some; codes = sym (numbers_are ns) ∙ w.codes; different = w.different; long = w.long; text = rw (← texts_are ns w.codes) w.text; set = w.set }

    from : (ns : List ℕ) → WritesNumbers f s ns → Writes numbers f s ns
    from ns w =
        let all = numbers_are ns ∙ w.codes in
        record { some = w.some; codes = all; different = w.different; long = w.long; text = rw (texts_are ns all) w.text; set = w.set }
