-- The number of an account among names that differ.
use Rattle.std.proofs.Common.{◌≡◌, ◌∙◌, refl, sym, ap, ℕ, Bool, true, false, cond, suc, zero, ◌+◌, ◌==◌, List, [], ◌∷◌, ◌<◌, ◌≤◌, ◌↔◌, IfSome, length, IsTrue, inl, inr, Option, None, Some, arith}
use Rattle.std.specs.Option.{option_map}
use Rattle.std.proofs.lemmas.Bool.{cases_lt, eq-eqb, eqb-true, true≢false}
use Rattle.std.proofs.lemmas.Option.{same_Some}
use Rattle.acl_names.proofs.SameAuth.{equal_from_same_auth, same_auth_itself}
use Rattle.acl_names.specs.AuthId.{same_auth}
use Rattle.acl_names.specs.declared.auth.AuthId.{AuthId}
use Rattle.acl_model.specs.Renames.{before_pair}
use Rattle.numbered_names.specs.Numbered.{ChangesOnly, HasEachOnce, IsNew, is_name, name_at}
use Rattle.numbered_rows.specs.Numbering.{number_of}

abbrev pub Names : Type 0
Names = List (Option AuthId)

-- who has a name is that account
pub named : (a : AuthId) (o : Option AuthId) → is_name same_auth a o ≡ true → o ≡ Some a
named a None is = cc
named a (Some b) is = ap (λ x. Some x) (sym (equal_from_same_auth a b is))

pub named_itself : (a : AuthId) (o : Option AuthId) → o ≡ Some a → is_name same_auth a o ≡ true
named_itself a o is = ap (is_name same_auth a) is ∙ same_auth_itself a

-- where a number is found, the account's name stands
pub number_found : (names : Names) (a : AuthId) (n : ℕ) → number_of names a ≡ Some n → is_name same_auth a (name_at names n) ≡ true
number_found [] a n found = cc
number_found (name ∷ names) a n found =
    at (is_name same_auth a name) refl (number_of names a) refl (number_found names a) n found
  where
    at : (t : Bool) → is_name same_auth a name ≡ t → (o : Option ℕ) → number_of names a ≡ o
        → ((k : ℕ) → number_of names a ≡ Some k → is_name same_auth a (name_at names k) ≡ true)
        → (n : ℕ) → cond t (Some 0) (option_map (λ n. n + 1) o) ≡ Some n → is_name same_auth a (name_at (name ∷ names) n) ≡ true
    at true is o known later zero found = is
    at true is o known later (suc n) found = cc
    at false is None known later n found = cc
    at false is (Some k) known later zero found = let e : k + 1 ≡ 0 = same_Some (k + 1) 0 found in absurd (omega (arith, e))
    at false is (Some k) known later (suc n) found =
        let e : k + 1 ≡ suc n = same_Some (k + 1) (suc n) found in
        let same : k ≡ n = omega (arith, e) in
        later n (known ∙ ap (λ m. Some m) same)

-- where none is found, no number has the name
pub number_none : (names : Names) (a : AuthId) → number_of names a ≡ None → (n : ℕ) → is_name same_auth a (name_at names n) ≡ false
number_none [] a none n = refl
number_none (name ∷ names) a none n =
    at (is_name same_auth a name) refl (number_of names a) refl (number_none names a) n none
  where
    at : (t : Bool) → is_name same_auth a name ≡ t → (o : Option ℕ) → number_of names a ≡ o
        → (number_of names a ≡ None → (k : ℕ) → is_name same_auth a (name_at names k) ≡ false)
        → (n : ℕ) → cond t (Some 0) (option_map (λ n. n + 1) o) ≡ None → is_name same_auth a (name_at (name ∷ names) n) ≡ false
    at true is o known later n none = cc
    at false is None known later zero none = is
    at false is None known later (suc n) none = later known n
    at false is (Some k) known later n none = cc

pub named_at : (names : Names) (a : AuthId) (n : ℕ) → number_of names a ≡ Some n → name_at names n ≡ Some a
named_at names a n found = named a (name_at names n) (number_found names a n found)

-- a name that no number has is not found
pub none_found : (names : Names) (a : AuthId) → IsNew same_auth names a → number_of names a ≡ None
none_found names a new = by (number_of names a) refl
  where
    by : (o : Option ℕ) → number_of names a ≡ o → o ≡ None
    by None found = refl
    by (Some n) found = absurd (true≢false (sym (number_found names a n found) ∙ new n))

-- among names that differ the number is the one that has the name
pub number_is : (names : Names) → HasEachOnce same_auth names → (a : AuthId) (n : ℕ) → name_at names n ≡ Some a → number_of names a ≡ Some n
number_is names once a n is = by (number_of names a) refl
  where
    by : (o : Option ℕ) → number_of names a ≡ o → o ≡ Some n
    by None found = absurd (true≢false (sym (named_itself a (name_at names n) is) ∙ number_none names a found n))
    by (Some k) found = ap (λ m. Some m) (once k n a (named_at names a k found) (named_itself a (name_at names n) is))

-- names that have an account at the same numbers
pub number_alike : (old new : Names) → HasEachOnce same_auth new → (a : AuthId) → ((k : ℕ) → is_name same_auth a (name_at new k) ≡ is_name same_auth a (name_at old k))
    → number_of new a ≡ number_of old a
number_alike old new once a alike = by (number_of old a) refl
  where
    by : (o : Option ℕ) → number_of old a ≡ o → number_of new a ≡ o
    by None found = none_found new a (λ k. alike k ∙ number_none old a found k)
    by (Some n) found = number_is new once a n (named a (name_at new n) (alike n ∙ number_found old a n found))

module _ (old new : Names) (number : ℕ) where
  -- the name of the changed number, and every other one
  changed_here : (o : Option AuthId) → ChangesOnly old new number o → name_at new number ≡ o
  changed_here o only = only number ∙ rw (eq-eqb number number refl) refl

  -- a number is given to an account
  module _ (a : AuthId) (free : name_at old number ≡ None) (fresh : IsNew same_auth old a) (only : ChangesOnly old new number (Some a)) where
    other_at : (b : AuthId) → same_auth b a ≡ false → (k : ℕ) → is_name same_auth b (name_at new k) ≡ is_name same_auth b (name_at old k)
    other_at b differs k = by (k == number) refl
      where
        by : (t : Bool) → (k == number) ≡ t → is_name same_auth b (name_at new k) ≡ is_name same_auth b (name_at old k)
        by true is =
            ap (is_name same_auth b) (only k) ∙ rw is (differs)
            ∙ sym (ap (is_name same_auth b) (ap (name_at old) (eqb-true k number is) ∙ free))
        by false is = ap (is_name same_auth b) (only k) ∙ rw is refl

    pub number_added : HasEachOnce same_auth new → (b : AuthId) → number_of new b ≡ cond (same_auth b a) (Some number) (number_of old b)
    number_added once b = by (same_auth b a) refl
      where
        by : (t : Bool) → same_auth b a ≡ t → number_of new b ≡ cond t (Some number) (number_of old b)
        by true same = number_is new once b number (changed_here (Some a) only ∙ ap (λ x. Some x) (sym (equal_from_same_auth b a same)))
        by false differs = number_alike old new once b (other_at b differs)

    -- the names still differ
    pub once_added : HasEachOnce same_auth old → HasEachOnce same_auth new
    once_added once one other name is same = by (one == number) refl (other == number) refl
      where
        at_old : (k : ℕ) → (k == number) ≡ false → name_at new k ≡ name_at old k
        at_old k apart = only k ∙ rw apart refl

        here : (k : ℕ) → (k == number) ≡ true → name_at new k ≡ Some a
        here k at = only k ∙ rw at refl

        by : (t : Bool) → (one == number) ≡ t → (u : Bool) → (other == number) ≡ u → one ≡ other
        by true at true there = eqb-true one number at ∙ sym (eqb-true other number there)
        by true at false there =
            let equal : a ≡ name = cc (here one at, is) in
            absurd (true≢false (sym same ∙ ap (is_name same_auth name) (at_old other there) ∙ ap (λ x. is_name same_auth x (name_at old other)) (sym equal) ∙ fresh other))
        by false at true there =
            let was : name_at old one ≡ Some name = sym (at_old one at) ∙ is in
            let equal : name ≡ a = equal_from_same_auth name a (sym (ap (is_name same_auth name) (here other there)) ∙ same) in
            absurd (true≢false (sym (named_itself a (name_at old one) (was ∙ ap (λ x. Some x) equal)) ∙ fresh one))
        by false at false there = once one other name (sym (at_old one at) ∙ is) (ap (is_name same_auth name) (sym (at_old other there)) ∙ same)

  -- a number's name goes
  module _ (a : AuthId) (was : name_at old number ≡ Some a) (once : HasEachOnce same_auth old) (only : ChangesOnly old new number None) where
    none_at : (b : AuthId) → same_auth b a ≡ true → (k : ℕ) → is_name same_auth b (name_at new k) ≡ false
    none_at b same k = by (k == number) refl
      where
        by : (t : Bool) → (k == number) ≡ t → is_name same_auth b (name_at new k) ≡ false
        by true is = ap (is_name same_auth b) (only k) ∙ rw is refl
        by false is = ap (is_name same_auth b) (only k) ∙ rw is (at (is_name same_auth b (name_at old k)) refl)
          where
            at : (t : Bool) → is_name same_auth b (name_at old k) ≡ t → t ≡ false
            at false named_not = refl
            at true named_so =
                let equal : number ≡ k = once number k a was (ap (λ x. is_name same_auth x (name_at old k)) (sym (equal_from_same_auth b a same)) ∙ named_so) in
                absurd (true≢false (sym (eq-eqb k number (sym equal)) ∙ is))

    still_at : (b : AuthId) → same_auth b a ≡ false → (k : ℕ) → is_name same_auth b (name_at new k) ≡ is_name same_auth b (name_at old k)
    still_at b differs k = by (k == number) refl
      where
        by : (t : Bool) → (k == number) ≡ t → is_name same_auth b (name_at new k) ≡ is_name same_auth b (name_at old k)
        by true is =
            ap (is_name same_auth b) (only k) ∙ rw is refl
            ∙ sym (ap (is_name same_auth b) (ap (name_at old) (eqb-true k number is) ∙ was) ∙ differs)
        by false is = ap (is_name same_auth b) (only k) ∙ rw is refl

    pub once_removed : HasEachOnce same_auth new
    once_removed one other name is same = by (one == number) refl (other == number) refl
      where
        gone : (k : ℕ) → (k == number) ≡ true → name_at new k ≡ None
        gone k at = only k ∙ rw at refl

        at_old : (k : ℕ) → (k == number) ≡ false → name_at new k ≡ name_at old k
        at_old k apart = only k ∙ rw apart refl

        by : (t : Bool) → (one == number) ≡ t → (u : Bool) → (other == number) ≡ u → one ≡ other
        by true at u there = cc (gone one at, is)
        by false at true there = absurd (true≢false (sym same ∙ ap (is_name same_auth name) (gone other there)))
        by false at false there = once one other name (sym (at_old one at) ∙ is) (ap (is_name same_auth name) (sym (at_old other there)) ∙ same)

    pub number_removed : (b : AuthId) → number_of new b ≡ cond (same_auth b a) None (number_of old b)
    number_removed b = by (same_auth b a) refl
      where
        by : (t : Bool) → same_auth b a ≡ t → number_of new b ≡ cond t None (number_of old b)
        by true same = none_found new b (none_at b same)
        by false differs = number_alike old new once_removed b (still_at b differs)

-- the number that a name had before a renaming
abbrev pub number_before : Names → Option AuthId → Option ℕ
number_before names None = None
number_before names (Some a) = number_of names a

module _ (old new : Names) (number : ℕ) (a c : AuthId) (was : name_at old number ≡ Some a) (once : HasEachOnce same_auth old)
    (fresh : IsNew same_auth old c) (only : ChangesOnly old new number (Some c)) where
  at_old : (k : ℕ) → (k == number) ≡ false → name_at new k ≡ name_at old k
  at_old k apart = only k ∙ rw apart refl

  here : (k : ℕ) → (k == number) ≡ true → name_at new k ≡ Some c
  here k at = only k ∙ rw at refl

  -- the names still differ
  pub once_renamed : HasEachOnce same_auth new
  once_renamed one other name is same = by (one == number) refl (other == number) refl
    where
      by : (t : Bool) → (one == number) ≡ t → (u : Bool) → (other == number) ≡ u → one ≡ other
      by true at true there = eqb-true one number at ∙ sym (eqb-true other number there)
      by true at false there =
          let equal : c ≡ name = cc (here one at, is) in
          absurd (true≢false (sym same ∙ ap (is_name same_auth name) (at_old other there) ∙ ap (λ x. is_name same_auth x (name_at old other)) (sym equal) ∙ fresh other))
      by false at true there =
          let before : name_at old one ≡ Some name = sym (at_old one at) ∙ is in
          let equal : name ≡ c = equal_from_same_auth name c (sym (ap (is_name same_auth name) (here other there)) ∙ same) in
          absurd (true≢false (sym (named_itself c (name_at old one) (before ∙ ap (λ x. Some x) equal)) ∙ fresh one))
      by false at false there = once one other name (sym (at_old one at) ∙ is) (ap (is_name same_auth name) (sym (at_old other there)) ∙ same)

  no_more : (b : AuthId) → same_auth b c ≡ false → same_auth b a ≡ true → (k : ℕ) → is_name same_auth b (name_at new k) ≡ false
  no_more b other same k = by (k == number) refl
    where
      by : (t : Bool) → (k == number) ≡ t → is_name same_auth b (name_at new k) ≡ false
      by true is = ap (is_name same_auth b) (here k is) ∙ other
      by false is = ap (is_name same_auth b) (at_old k is) ∙ at (is_name same_auth b (name_at old k)) refl
        where
          at : (t : Bool) → is_name same_auth b (name_at old k) ≡ t → t ≡ false
          at false named_not = refl
          at true named_so =
              let equal : number ≡ k = once number k a was (ap (λ x. is_name same_auth x (name_at old k)) (sym (equal_from_same_auth b a same)) ∙ named_so) in
              absurd (true≢false (sym (eq-eqb k number (sym equal)) ∙ is))

  still : (b : AuthId) → same_auth b c ≡ false → same_auth b a ≡ false → (k : ℕ) → is_name same_auth b (name_at new k) ≡ is_name same_auth b (name_at old k)
  still b other differs k = by (k == number) refl
    where
      by : (t : Bool) → (k == number) ≡ t → is_name same_auth b (name_at new k) ≡ is_name same_auth b (name_at old k)
      by true is =
          ap (is_name same_auth b) (here k is) ∙ other
          ∙ sym (ap (is_name same_auth b) (ap (name_at old) (eqb-true k number is) ∙ was) ∙ differs)
      by false is = ap (is_name same_auth b) (at_old k is)

  -- each account has the number of its name from before
  pub number_renamed : (b : AuthId) → number_of new b ≡ number_before old (before_pair a c b)
  number_renamed b = by (same_auth b c) refl (same_auth b a) refl
    where
      by : (t : Bool) → same_auth b c ≡ t → (u : Bool) → same_auth b a ≡ u → number_of new b ≡ number_before old (cond t (Some a) (cond u None (Some b)))
      by true same u known =
          number_is new once_renamed b number (here number (eq-eqb number number refl) ∙ ap (λ x. Some x) (sym (equal_from_same_auth b c same)))
          ∙ sym (number_is old once a number was)
      by false other true same = none_found new b (no_more b other same)
      by false other false differs = number_alike old new once_renamed b (still b other differs)

-- what a search by the name finds
pub number_read : (names : Names) (a : AuthId) (found : Option ℕ) → ((n : ℕ) → (found ≡ Some n) ↔ IsTrue (is_name same_auth a (name_at names n))) → found ≡ number_of names a
number_read names a found reads = by (number_of names a) refl found refl
  where
    by : (o : Option ℕ) → number_of names a ≡ o → (f : Option ℕ) → found ≡ f → f ≡ o
    by (Some n) at f is = sym is ∙ (reads n).1 (number_found names a n at)
    by None at None is = refl
    by None at (Some n) is = absurd (true≢false (sym ((reads n).0 is) ∙ number_none names a at n))

-- a number that has a name is below their number
pub number_within : (names : Names) (a : AuthId) (n : ℕ) → number_of names a ≡ Some n → n < length names
number_within names a n found = elim (cases_lt n (length names)) [
  | inl within ↦ within
  | inr past ↦ absurd (true≢false (sym (number_found names a n found) ∙ ap (is_name same_auth a) (past_end names n past)))
]
  where
    past_end : (xs : Names) (k : ℕ) → length xs ≤ k → name_at xs k ≡ None
    past_end [] k past = refl
    past_end (x ∷ xs) zero past = absurd (omega arith)
    past_end (x ∷ xs) (suc k) past = past_end xs k (omega arith)

pub number_below : (names : Names) (a : AuthId) (found : Option ℕ) → found ≡ number_of names a → IfSome found (λ number. number < length names)
number_below names a None is = tt
number_below names a (Some n) is = number_within names a n (sym is)
