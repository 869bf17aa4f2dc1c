-- CREATE USER, account by account.
use Rattle.std.proofs.Common.{◌≡◌, ◌∙◌, ap, sym, subst, ℕ, ◌<◌, ◌≤◌, ◌+◌, Bool, true, false, cond, not, ◌&&◌, ◌||◌, List, [], ◌∷◌, ◌++◌, Option, Some, None, length, get_or, take, drop, map, Result, Ok, Err, refl, arith, IsTrue, is_some, length-append}
use Rattle.std.proofs.Math.Bool.{and-true, or-false, or-true}
use Rattle.std.proofs.lemmas.Bool.{or_parts}
use Rattle.std.proofs.lemmas.List.{take-append-drop}
use Rattle.std.proofs.lemmas.List.Folds.{list_any-append}
use Rattle.std.specs.List.{list_any}
use Rattle.std.specs.Result.{OnOk}
use Rattle.std.specs.Option.{option_map, option_or}
use Rattle.acl_names.proofs.SameAuth.{equal_from_same_auth, same_auth_itself}
use Rattle.acl_names.specs.AuthId.{same_auth}
use Rattle.acl_names.specs.declared.auth.AuthId.{AuthId}
use Rattle.acl_names.specs.declared.policy.Verifier.{Verifier}
use Rattle.acl_model.specs.Accounts.{created, first_verifier, new_account}
use Rattle.acl_model.specs.Counts.{HasMoreThan}
use Rattle.acl_model.specs.Effects.{becomes, changed}
use Rattle.acl_model.specs.Refusals.{first_fault, first_taken}
use Rattle.acl_model.specs.Rows.{same_row}
use Rattle.acl_model.specs.State.{State, stands}
use Rattle.acl_model.specs.declared.account_data.AccountData.{AccountData}
use Rattle.acl_model.specs.declared.row.Row.{Row}
use Rattle.acl_model.specs.declared.row.Row.TheVariants.{Account}
use Rattle.acl_rows.proofs.Distinct.{noted_has, noted_once, once_more}
use Rattle.acl_rows.proofs.Members.{both_ways}
use Rattle.acl_rows.proofs.Puts.{row_again}
use Rattle.acl_rows.proofs.States.{same_state}
use Rattle.acl_rows.specs.Changes.{with_data, with_row}
use Rattle.acl_rows.specs.Uses.{noted}
use Rattle.acl_stmt.specs.declared.options.AccountOptions.{AccountOptions}
use Rattle.acl_stmt.specs.declared.refusal.Full.TheVariants as full
use Rattle.acl_stmt.specs.declared.refusal.Refusal.{Refusal}
use Rattle.acl_stmt.specs.declared.refusal.Refusal.TheVariants.{AccountExists, Full, Mandatory, NoMemory, NoSuchAccount, NoSuchGrant}
use Rattle.acl_stmt.specs.declared.statement.Statement.TheVariants.{CreateUser}
use Rattle.acl_apply.proofs.Renaming.{dropped, taken}
use Rattle.acl_apply.specs.Causes.{IsWantOrFault}
use Rattle.acl_apply.specs.Created.{IsCreateCause, IsNoRoom, created_data, with_account}

abbrev Named : Type 0
Named = AuthId × Verifier

abbrev named : AuthId → List Named → Bool
named a ps = list_any (λ pair. same_auth a pair.0) ps

or_swap : (a b c : Bool) → ((a || c) || b) ≡ ((a || b) || c)
or_swap true b c = refl
or_swap false true true = refl
or_swap false true false = refl
or_swap false false true = refl
or_swap false false false = refl

module _ (s : State) (exists : Bool) (options : AccountOptions) where
  abbrev after_these : List Named → State
  after_these ps = changed [] (CreateUser exists ps options) s

  stands_after : (ps : List Named) (a : AuthId) → stands (after_these ps) a ≡ (named a ps || stands s a)
  unfolding changed becomes
  stands_after ps a = ap (λ t. named a ps || t) (and-true (stands s a))

  named_more : (ps : List Named) (x : Named) (a : AuthId) → named a (ps ++ x ∷ []) ≡ (named a ps || same_auth a x.0)
  named_more ps x a = list_any-append (λ pair. same_auth a pair.0) ps (x ∷ []) ∙ ap (λ t. named a ps || t) (or-false (same_auth a x.0))

  row_more : (ps : List Named) (x : Named) (row : Row) → (after_these (ps ++ x ∷ [])).rows row ≡ ((after_these ps).rows row || same_row row (Account x.0))
  unfolding changed becomes
  row_more ps x (Account a) =
      ap (λ t. t || (stands s a && true)) (named_more ps x a) ∙ or_swap (named a ps) (stands s a && true) (same_auth a x.0)
  row_more ps x row = sym (or-false _)

  first_more : (a : AuthId) (ps : List Named) (x : Named) → first_verifier a (ps ++ x ∷ []) ≡ option_or (first_verifier a ps) (cond (same_auth a x.0) (Some x.1) None)
  first_more a [] x = refl
  first_more a (p ∷ ps) x = at (same_auth a p.0) (first_more a ps x)
    where
      at : (t : Bool) → first_verifier a (ps ++ x ∷ []) ≡ option_or (first_verifier a ps) (cond (same_auth a x.0) (Some x.1) None)
          → cond t (Some p.1) (first_verifier a (ps ++ x ∷ [])) ≡ option_or (cond t (Some p.1) (first_verifier a ps)) (cond (same_auth a x.0) (Some x.1) None)
      at true rest = refl
      at false rest = rest

  first_named : (a : AuthId) (ps : List Named) → is_some (first_verifier a ps) ≡ named a ps
  first_named a [] = refl
  first_named a (p ∷ ps) = at (same_auth a p.0) (first_named a ps)
    where
      at : (t : Bool) → is_some (first_verifier a ps) ≡ named a ps → is_some (cond t (Some p.1) (first_verifier a ps)) ≡ (t || named a ps)
      at true rest = refl
      at false rest = rest

  second : (b c : Bool) → b ≡ false → (b || c) ≡ true → c ≡ true
  second true c is all = cc
  second false c is all = all

  -- ---- an account that stands is passed over

  passed_data : (v : Verifier) (known : Option AccountData) (st : Bool) (f : Option Verifier) (t : Bool) → (t ≡ true → is_some f ≡ false → st ≡ true)
      → created options f st known ≡ created options (option_or f (cond t (Some v) None)) st known
  passed_data v known st (Some w) t stood = refl
  passed_data v known st None false stood = refl
  passed_data v known st None true stood = rw (stood refl refl) refl

  passed : (ps : List Named) (x : Named) → stands (after_these ps) x.0 ≡ true → after_these ps ≡ after_these (ps ++ x ∷ [])
  unfolding changed
  passed ps x there = same_state _ _
      (λ row. row_again (after_these ps) (Account x.0) row there (same_row row (Account x.0)) refl ∙ sym (row_more ps x row))
      (λ a. passed_data x.1 (s.account_data a) (stands s a) (first_verifier a ps) (same_auth a x.0)
      (λ same none.
      let here : (named x.0 ps || stands s x.0) ≡ true = sym (stands_after ps x.0) ∙ there in
      let e : x.0 ≡ a = sym (equal_from_same_auth a x.0 same) in
      second (named a ps) (stands s a) (sym (first_named a ps) ∙ none) (ap (λ y. named y ps || stands s y) (sym e) ∙ here))
      ∙ ap (λ f. created options f (stands s a) (s.account_data a)) (sym (first_more a ps x))) refl refl

  -- ---- an account that does not stand comes

  come_data : (v : Verifier) (known : Option AccountData) (st : Bool) (f : Option Verifier) (t there : Bool) → (t ≡ true → (is_some f ≡ false) × (st ≡ false))
      → cond t (Some (created_data options v)) (cond (t && not there) (Some new_account) (created options f st known)) ≡ created options (option_or f (cond t (Some v) None)) st known
  come_data v known st None true there fresh = rw (fresh refl).1 refl
  come_data v known st (Some w) true there fresh = absurd (no (fresh refl).0)
    where
      no : true ≡ false → ⊥
      no is = cc
  come_data v known st None false there fresh = refl
  come_data v known st (Some w) false there fresh = refl

  come : (ps : List Named) (x : Named) → stands (after_these ps) x.0 ≡ false
      → with_data x.0 (created_data options x.1) (with_row (Account x.0) (after_these ps)) ≡ after_these (ps ++ x ∷ [])
  unfolding changed with_data with_row
  come ps x absent = same_state _ _ (λ row. sym (row_more ps x row))
      (λ a. come_data x.1 (s.account_data a) (stands s a) (first_verifier a ps) (same_auth a x.0) (stands (after_these ps) x.0)
      (λ same.
      let gone = or_parts (named x.0 ps) (stands s x.0) (sym (stands_after ps x.0) ∙ absent) in
      let e : x.0 ≡ a = sym (equal_from_same_auth a x.0 same) in
      (first_named a ps ∙ ap (λ y. named y ps) (sym e) ∙ gone.0, ap (stands s) (sym e) ∙ gone.1))
      ∙ ap (λ f. created options f (stands s a) (s.account_data a)) (sym (first_more a ps x))) refl refl

  with_by : (ps : List Named) (x : Named) (t : Bool) → stands (after_these ps) x.0 ≡ t
      → cond t (after_these ps) (with_data x.0 (created_data options x.1) (with_row (Account x.0) (after_these ps))) ≡ after_these (ps ++ x ∷ [])
  with_by ps x true there = passed ps x there
  with_by ps x false absent = come ps x absent

  -- one account more is carried out
  pub created_step : (cur new : State) (all : List Named) (i : ℕ) (x : Named) → i < length all → x ≡ get_or all i x → new ≡ with_account x.0 (created_data options x.1) cur
      → cur ≡ changed [] (CreateUser exists (take i all) options) s → new ≡ changed [] (CreateUser exists (take (i + 1) all) options) s
  created_step cur new all i x within is ok inv =
      ok ∙ ap (with_account x.0 (created_data options x.1)) inv ∙ with_by (take i all) x (stands (after_these (take i all)) x.0) refl ∙ ap after_these (sym (taken all i x within is))

  -- ---- too many accounts

  abbrev More : (AuthId → Bool) → ℕ → Type 0
  More P n = HasMoreThan same_auth (λ a. IsTrue (P a)) n

  listed : (P : AuthId → Bool) (n : ℕ) (more : More P n) (a : AuthId) → list_any (same_auth a) more.items ≡ P a
  listed P n more a = both_ways (list_any (same_auth a) more.items) (P a) (more.all.just_these a).0 (more.all.just_these a).1

  one_new : (P : AuthId → Bool) (n : ℕ) (x : AuthId) → More P n → P x ≡ false → More (λ a. P a || same_auth a x) (n + 1)
  one_new P n x more absent =
      let gone : list_any (same_auth x) more.items ≡ false = listed P n more x ∙ absent in
      let are : (a : AuthId) → list_any (same_auth a) (more.items ++ x ∷ []) ≡ (P a || same_auth a x) =
      λ a. list_any-append (same_auth a) more.items (x ∷ []) ∙ ap (λ t. list_any (same_auth a) more.items || t) (or-false (same_auth a x)) ∙ ap (λ t. t || same_auth a x) (listed P n more a) in
      let above : n < length more.items = more.more in
      record {
        items = more.items ++ x ∷ [];
        all = record {
          once = once_more same_auth equal_from_same_auth same_auth_itself (λ row. None) more.items x more.all.once gone;
          just_these = λ a. (λ any. sym (are a) ∙ any, λ holds. are a ∙ holds);
        };
        more = omega (arith, length-append more.items (x ∷ []));
      }

  noted_longer : (seen : List AuthId) (x : AuthId) → length seen ≤ length (noted same_auth seen (Some x))
  noted_longer seen x = at (list_any (same_auth x) seen)
    where
      at : (t : Bool) → length seen ≤ length (cond t seen (seen ++ x ∷ []))
      at true = omega arith
      at false = omega (arith, length-append seen (x ∷ []))

  one_named : (P : AuthId → Bool) (n : ℕ) (x : AuthId) → More P n → More (λ a. P a || same_auth a x) n
  one_named P n x more =
      let are : (a : AuthId) → list_any (same_auth a) (noted same_auth more.items (Some x)) ≡ (P a || same_auth a x) =
      λ a. noted_has same_auth equal_from_same_auth same_auth_itself (λ row. None) more.items (Some x) a ∙ ap (λ t. t || same_auth a x) (listed P n more a) in
      let above : n < length more.items = more.more in
      record {
        items = noted same_auth more.items (Some x);
        all = record {
          once = noted_once same_auth equal_from_same_auth same_auth_itself (λ row. None) more.items (Some x) more.all.once;
          just_these = λ a. (λ any. sym (are a) ∙ any, λ holds. are a ∙ holds);
        };
        more = omega (arith, noted_longer more.items x);
      }

  or_or : (a b c : Bool) → ((a || b) || c) ≡ (a || (b || c))
  or_or true b c = refl
  or_or false b c = refl

  all_named : (P : AuthId → Bool) (n : ℕ) (rest : List Named) → More P n → More (λ a. P a || named a rest) n
  all_named P n [] more = subst (λ (Q : AuthId → Bool). More Q n) (λ i a. sym (or-false (P a)) i) more
  all_named P n (q ∷ rest) more =
      subst (λ (Q : AuthId → Bool). More Q n) (λ i a. or_or (P a) (same_auth a q.0) (named a rest) i) (all_named (λ a. P a || same_auth a q.0) n rest (one_named P n q.0 more))

  mixed : (a b c d : Bool) → (((a || b) || c) || d) ≡ ((a || (c || d)) || b)
  mixed true b c d = refl
  mixed false true true d = refl
  mixed false true false true = refl
  mixed false true false false = refl
  mixed false false true d = refl
  mixed false false false true = refl
  mixed false false false false = refl

  crowded : (ps : List Named) (x : Named) (rest : List Named) → stands (after_these ps) x.0 ≡ false → More (stands (after_these ps)) 4095 → More (stands (after_these (ps ++ x ∷ rest))) 4096
  crowded ps x rest absent more =
      let one : More (λ a. stands (after_these ps) a || same_auth a x.0) 4096 = one_new (stands (after_these ps)) 4095 x.0 more absent in
      let all : More (λ a. (stands (after_these ps) a || same_auth a x.0) || named a rest) 4096 = all_named (λ a. stands (after_these ps) a || same_auth a x.0) 4096 rest one in
      let same : (a : AuthId) → ((stands (after_these ps) a || same_auth a x.0) || named a rest) ≡ stands (after_these (ps ++ x ∷ rest)) a =
      λ a. ap (λ t. (t || same_auth a x.0) || named a rest) (stands_after ps a) ∙ mixed (named a ps) (stands s a) (same_auth a x.0) (named a rest)
      ∙ ap (λ t. t || stands s a) (sym (list_any-append (λ (pair : Named). same_auth a pair.0) ps (x ∷ rest))) ∙ sym (stands_after (ps ++ x ∷ rest) a) in
      subst (λ (Q : AuthId → Bool). More Q 4096) (λ i a. same a i) all

  split_at : (all : List Named) (i : ℕ) → take i all ++ drop i all ≡ all
  split_at all i = take-append-drop i all

  -- no room for an account is too many accounts in the end
  pub created_crowd : (cur : State) (all : List Named) (i : ℕ) (x : Named) → i < length all → x ≡ get_or all i x → cur ≡ changed [] (CreateUser exists (take i all) options) s
      → first_fault s (CreateUser exists all options) ≡ None → (e : Refusal) → IsNoRoom x.0 cur e
      → IsCreateCause (first_fault s (CreateUser exists all options)) (changed [] (CreateUser exists all options) s) e
  created_crowd cur all i x within is inv none NoMemory cause = tt
  created_crowd cur all i x within is inv none (Full full.Accounts) cause =
      let absent : stands (after_these (take i all)) x.0 ≡ false = sym (ap (λ st. stands st x.0) inv) ∙ cause.0 in
      let more : More (stands (after_these (take i all))) 4095 = subst (λ (st : State). More (stands st) 4095) inv cause.1 in
      let whole : take i all ++ x ∷ drop (i + 1) all ≡ all = ap (λ rest. take i all ++ rest) (sym (dropped all i x within is)) ∙ split_at all i in
      (none, subst (λ (ps : List Named). More (stands (after_these ps)) 4096) whole (crowded (take i all) x (drop (i + 1) all) absent more))
  created_crowd cur all i x within is inv none _ cause = absurd cause

-- no account
pub created_none : (s : State) (exists : Bool) (options : AccountOptions) → s ≡ changed [] (CreateUser exists [] options) s
unfolding changed becomes
created_none s exists options = same_state _ _ kept (λ a. refl) refl refl
  where
    kept : (row : Row) → s.rows row ≡ becomes [] (CreateUser exists [] options) s row (s.rows row)
    kept (Account a) = sym (and-true (s.rows (Account a)))
    kept row = sym (and-true (s.rows row))

pub put_stands : (s new : State) (a name : AuthId) → new ≡ with_row (Account name) s → name ≡ a → stands new a ≡ true
unfolding with_row
put_stands s new a name is same =
    ap (λ st. stands st a) is ∙ ap (λ t. stands s a || t) (ap (same_auth a) same ∙ same_auth_itself a) ∙ or-true (stands s a)

pub fault_if_exists : (s : State) (accounts : List Named) (options : AccountOptions) → first_fault s (CreateUser true accounts options) ≡ None
unfolding first_fault
fault_if_exists s accounts options = refl

pub fault_if_taken : (s : State) (accounts : List Named) (options : AccountOptions)
    → first_fault s (CreateUser false accounts options) ≡ option_map (λ a. AccountExists a) (first_taken (stands s) (map (λ pair. pair.0) accounts))
unfolding first_fault
fault_if_taken s accounts options = refl

pub on_ok_always : {T E : Type 0} (result : Result T E) (P : Type 0) → P → OnOk result P
on_ok_always (Ok x) P holds = holds
on_ok_always (Err e) P holds = tt

not_another : (o : Option AuthId) (e : Refusal) → ((a : AuthId) → AccountExists a ≡ e → ⊥) → option_map (λ a. AccountExists a) o ≡ Some e → ⊥
not_another None e other is = cc
not_another (Some a) e other is =
    let same : AccountExists a ≡ e = cc in
    other a same

pub taken_cause : (s after : State) (exists : Bool) (accounts : List Named) (options : AccountOptions) → exists ≡ false → (e : Refusal)
    → IsWantOrFault (option_map (λ a. AccountExists a) (first_taken (stands s) (map (λ pair. pair.0) accounts))) e → IsCreateCause (first_fault s (CreateUser exists accounts options)) after e
taken_cause s after exists accounts options not_exists NoMemory is = tt
taken_cause s after exists accounts options not_exists (AccountExists a) is = ap (λ b. first_fault s (CreateUser b accounts options)) not_exists ∙ fault_if_taken s accounts options ∙ is
taken_cause s after exists accounts options not_exists (NoSuchAccount a) is = absurd (not_another (first_taken (stands s) (map (λ pair. pair.0) accounts)) (NoSuchAccount a) (λ b same. cc) is)
taken_cause s after exists accounts options not_exists (Mandatory a) is = absurd (not_another (first_taken (stands s) (map (λ pair. pair.0) accounts)) (Mandatory a) (λ b same. cc) is)
taken_cause s after exists accounts options not_exists (NoSuchGrant a) is = absurd (not_another (first_taken (stands s) (map (λ pair. pair.0) accounts)) (NoSuchGrant a) (λ b same. cc) is)
taken_cause s after exists accounts options not_exists _ is = absurd is
