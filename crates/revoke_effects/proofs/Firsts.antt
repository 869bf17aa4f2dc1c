-- The first account of which REVOKE finds nothing, and what the statement is refused for.
use Rattle.std.proofs.Common.{◌≡◌, ◌∙◌, ap, sym, ℕ, suc, ◌<◌, ◌+◌, Bool, true, false, cond, not, List, [], ◌∷◌, ◌++◌, Option, Some, None, MatchOption, add-one, drop, drop-cons, get_or, length, take, refl, inl, inr}
use Rattle.std.proofs.Math.Seq.{take-suc}
use Rattle.std.proofs.lemmas.List.{take-append-drop}
use Rattle.std.specs.List.{find}
use Rattle.std.specs.Option.{option_map, option_or}
use Rattle.acl_names.specs.declared.auth.AuthId.{AuthId}
use Rattle.acl_model.specs.Acceptance.{HasNothingOn, LacksGrant}
use Rattle.acl_model.specs.Firsts.{HasNone, IsFirst}
use Rattle.acl_model.specs.Refusals.{first_fault, may_revoke, no_account}
use Rattle.acl_model.specs.State.{State}
use Rattle.acl_stmt.specs.declared.privileges.PrivList.{PrivList}
use Rattle.acl_stmt.specs.declared.refusal.Refusal.{Refusal}
use Rattle.acl_stmt.specs.declared.refusal.Refusal.TheVariants.{NoSuchGrant}
use Rattle.acl_stmt.specs.declared.statement.Statement.TheVariants.{Revoke}
use Rattle.acl_stmt.specs.declared.target.Target.{Target}
use Rattle.acl_stmt.specs.declared.target.Target.TheVariants as on
use Rattle.revoke_effects.proofs.Listing.{none_and_last}
use Rattle.revoke_effects.specs.Found.{FindsNothing, IsGrantFault}

-- the first that has the property, after those that have not
pub first_at : {X : Type 0} (P : X → Type 0) (xs : List X) (i : ℕ) (x : X) → i < length xs → x ≡ get_or xs i x → HasNone P (take i xs) → P x → IsFirst P xs x
first_at P xs i x within is none has = record {
  before = take i xs;
  rest = drop (suc i) xs;
  split = sym (take-append-drop i xs) ∙ ap (λ ys. take i xs ++ ys) (drop-cons xs i x within ∙ ap (λ y. y ∷ drop (suc i) xs) (sym is));
  has = has;
  none_before = none;
}

pub none_more : {X : Type 0} (P : X → Type 0) (xs : List X) (i : ℕ) (x : X) → i < length xs → x ≡ get_or xs i x → HasNone P (take i xs) → (P x → ⊥) → HasNone P (take (i + 1) xs)
none_more P xs i x within is none last =
    let longer : take (i + 1) xs ≡ take i xs ++ x ∷ [] = rw (add-one, take-suc xs i x within) (ap (λ y. take i xs ++ y ∷ []) (sym is)) in
    rw longer (none_and_last P (take i xs) x none last)

module _ {X : Type 0} (test : X → Bool) where
  none_fails : (xs : List X) → HasNone (λ x. test x ≡ false) xs → find (λ x. not (test x)) xs ≡ None
  none_fails [] none = refl
  none_fails (x ∷ xs) none = at (test x) refl (none_fails xs (λ earlier item later split has. none (x ∷ earlier) item later (ap (λ ys. x ∷ ys) split) has))
    where
      at : (t : Bool) → test x ≡ t → find (λ y. not (test y)) xs ≡ None → cond (not t) (Some x) (find (λ y. not (test y)) xs) ≡ None
      at true passes rest = rest
      at false fails rest = absurd (none [] x xs refl fails)

  first_after : (before rest : List X) (first : X) → test first ≡ false → HasNone (λ x. test x ≡ false) before → find (λ x. not (test x)) (before ++ first ∷ rest) ≡ Some first
  first_after [] rest first fails none = rw fails refl
  first_after (x ∷ before) rest first fails none =
      at (test x) refl (first_after before rest first fails (λ earlier item later split has. none (x ∷ earlier) item later (ap (λ ys. x ∷ ys) split) has))
    where
      at : (t : Bool) → test x ≡ t → find (λ y. not (test y)) (before ++ first ∷ rest) ≡ Some first
          → cond (not t) (Some x) (find (λ y. not (test y)) (before ++ first ∷ rest)) ≡ Some first
      at true passes later = later
      at false fails_here later = absurd (none [] x before refl fails_here)

  first_fails : (xs : List X) (first : X) → IsFirst (λ x. test x ≡ false) xs first → find (λ x. not (test x)) xs ≡ Some first
  first_fails xs first is = ap (find (λ x. not (test x))) is.split ∙ first_after is.before is.rest first is.has is.none_before

never_found : {X : Type 0} (xs : List X) → find (λ x. false) xs ≡ None
never_found [] = refl
never_found (x ∷ xs) = never_found xs

module _ (state : State) (privileges : PrivList) (accounts : List AuthId) (all_there : no_account state accounts ≡ None) where
  fault_of : (target : Target) (found : Option AuthId) → find (λ a. not (may_revoke state privileges target a)) accounts ≡ found
      → first_fault state (Revoke privileges target accounts) ≡ option_map (λ a. NoSuchGrant a) found
  unfolding first_fault
  fault_of target found is =
      ap (λ (o : Option Refusal). option_or o (option_map (λ a. NoSuchGrant a) (find (λ a. not (may_revoke state privileges target a)) accounts))) all_there
      ∙ ap (option_map (λ a. NoSuchGrant a)) is

  -- at a schema or a routine the test says it
  by_test : (target : Target) (found : Option AuthId) → ((a : AuthId) → LacksGrant state (Revoke privileges target accounts) a → ⊥)
      → MatchOption found (HasNone (λ a. may_revoke state privileges target a ≡ false) accounts) (IsFirst (λ a. may_revoke state privileges target a ≡ false) accounts)
      → IsGrantFault state privileges target accounts found
  by_test target None lacks_none none =
      (fault_of target None (none_fails (may_revoke state privileges target) accounts none), λ earlier item later split lacks. lacks_none item lacks)
  by_test target (Some a) lacks_none first = inl (fault_of target (Some a) (first_fails (may_revoke state privileges target) accounts a first))

  on_table : (schema table : List ℕ) (found : Option AuthId)
      → MatchOption found (HasNone (HasNothingOn state schema table) accounts) (IsFirst (HasNothingOn state schema table) accounts)
      → IsGrantFault state privileges (on.Table schema table) accounts found
  on_table schema table None none = (fault_of (on.Table schema table) None (never_found accounts), none)
  on_table schema table (Some a) first = inr (fault_of (on.Table schema table) None (never_found accounts), first)

  -- what the statement is refused for, where each account stands
  pub grant_fault : (target : Target) (found : Option AuthId)
      → MatchOption found (HasNone (FindsNothing state privileges target) accounts) (IsFirst (FindsNothing state privileges target) accounts)
      → IsGrantFault state privileges target accounts found
  grant_fault on.Global found is = by_test on.Global found (λ a lacks. lacks) is
  grant_fault (on.Schema schema) found is = by_test (on.Schema schema) found (λ a lacks. lacks) is
  grant_fault (on.Table schema table) found is = on_table schema table found is
  grant_fault (on.Function schema name) found is = by_test (on.Function schema name) found (λ a lacks. lacks) is
  grant_fault (on.Procedure schema name) found is = by_test (on.Procedure schema name) found (λ a lacks. lacks) is
