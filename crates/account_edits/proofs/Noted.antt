-- Accounts that come to those that stand, counted.
use Rattle.std.proofs.Common.{◌≡◌, ◌∙◌, ap, sym, subst, ℕ, ◌<◌, ◌≤◌, ◌+◌, Bool, true, false, ◌||◌, List, [], ◌∷◌, ◌++◌, length, length-append, refl, arith, IsTrue}
use Rattle.std.proofs.Math.Bool.{or-false}
use Rattle.std.proofs.lemmas.List.Folds.{list_any-append}
use Rattle.std.specs.List.{list_any}
use Rattle.acl_names.proofs.SameAuth.{equal_from_same_auth, same_auth_itself}
use Rattle.acl_names.specs.AuthId.{same_auth}
use Rattle.acl_names.specs.declared.auth.AuthId.{AuthId}
use Rattle.acl_model.specs.Counts.{HasMoreThan}
use Rattle.row_tables.proofs.Members.{both_ways}
use Rattle.acl_stmt.specs.Lists.{all_differ_by}
use Rattle.numbered_rows.proofs.Entries.{differ_appended}

abbrev pub More : (AuthId → Bool) → ℕ → Type 0
More P n = HasMoreThan same_auth (λ a. IsTrue (P a)) n

pub listed : (P : AuthId → Bool) (n : ℕ) (more : More P n) (a : AuthId) → list_any (same_auth a) more.items ≡ P a
listed P n more a = both_ways (list_any (same_auth a) more.items) (P a) (more.all.just_these a).0 (more.all.just_these a).1

once_more : (items : List AuthId) (x : AuthId) → all_differ_by same_auth items ≡ true → list_any (same_auth x) items ≡ false → all_differ_by same_auth (items ++ x ∷ []) ≡ true
once_more items x once gone = differ_appended same_auth items (x ∷ []) once refl (λ z there. apart z there (same_auth z x) refl) same_auth_itself
  where
    apart : (z : AuthId) → list_any (same_auth z) items ≡ true → (t : Bool) → same_auth z x ≡ t → (t || false) ≡ false
    apart z there false differs = refl
    apart z there true same =
        let here : list_any (same_auth x) items ≡ true = ap (λ y. list_any (same_auth y) items) (sym (equal_from_same_auth z x same)) ∙ there in
        cc

-- one account more is one more
pub one_new : (P : AuthId → Bool) (n : ℕ) (x : AuthId) → More P n → P x ≡ false → More (λ a. P a || same_auth a x) (n + 1)
one_new P n x more absent =
    let gone : list_any (same_auth x) more.items ≡ false = listed P n more x ∙ absent in
    let are : (a : AuthId) → list_any (same_auth a) (more.items ++ x ∷ []) ≡ (P a || same_auth a x) =
    λ a. list_any-append (same_auth a) more.items (x ∷ []) ∙ ap (λ t. list_any (same_auth a) more.items || t) (or-false (same_auth a x)) ∙ ap (λ t. t || same_auth a x) (listed P n more a) in
    let above : n < length more.items = more.more in
    record {
      items = more.items ++ x ∷ [];
      all = record {
        once = once_more more.items x more.all.once gone;
        just_these = λ a. (λ any. sym (are a) ∙ any, λ holds. are a ∙ holds);
      };
      more = omega (arith, length-append more.items (x ∷ []));
    }

fewer_too : (P : AuthId → Bool) (n : ℕ) → More P (n + 1) → More P n
fewer_too P n more = let above : n + 1 < length more.items = more.more in record { items = more.items; all = more.all; more = omega (arith, above) }

-- and an account that may be there already is no less
pub one_named : (P : AuthId → Bool) (n : ℕ) (x : AuthId) → More P n → More (λ a. P a || same_auth a x) n
one_named P n x more = by (P x) refl
  where
    there_already : P x ≡ true → (a : AuthId) (t : Bool) → same_auth a x ≡ t → P a ≡ (P a || t)
    there_already there a true same = rw (ap P (equal_from_same_auth a x same) ∙ there) refl
    there_already there a false differs = sym (or-false (P a))

    by : (t : Bool) → P x ≡ t → More (λ a. P a || same_auth a x) n
    by true there = subst (λ (Q : AuthId → Bool). More Q n) (λ i a. there_already there a (same_auth a x) refl i) more
    by false absent = fewer_too (λ a. P a || same_auth a x) n (one_new P n x more absent)
