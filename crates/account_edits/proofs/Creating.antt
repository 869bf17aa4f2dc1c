-- CREATE USER: accounts that come, each with its data.
use Rattle.std.proofs.Common.{◌≡◌, ◌∙◌, ap, sym, subst, ℕ, ◌<◌, ◌≤◌, ◌+◌, Bool, true, false, cond, not, ◌&&◌, ◌||◌, List, [], ◌∷◌, ◌++◌, Option, Some, None, IsSome, ◌↔◌, MatchBool, Result, Err, length, length-append, get_or, take, filter, map, refl, arith, IsTrue, is_some}
use Rattle.std.proofs.Math.Bool.{and-true, or-false, or-true}
use Rattle.std.proofs.lemmas.Bool.{and_from, and_parts, or_left, or_right, true≢false}
use Rattle.std.proofs.lemmas.List.{append-nil}
use Rattle.std.specs.List.{list_any}
use Rattle.std.specs.Option.{option_to_list}
use Rattle.account_edits.proofs.Renaming.{taken}
use Rattle.acl_names.proofs.SameAuth.{equal_from_same_auth, same_auth_itself}
use Rattle.acl_names.specs.AuthId.{same_auth}
use Rattle.acl_names.specs.declared.auth.AuthId.{AuthId}
use Rattle.acl_names.specs.declared.policy.Verifier.{Verifier}
use Rattle.acl_model.specs.Accounts.{created, first_verifier, new_account}
use Rattle.std.specs.Result.{IfErr}
use Rattle.acl_model.specs.Acceptance.{limits_in_order}
use Rattle.acl_model.specs.Counts.{IsExceeded}
use Rattle.acl_model.specs.Effects.{becomes, changed}
use Rattle.acl_model.specs.Firsts.{IsFirst}
use Rattle.acl_stmt.specs.declared.refusal.Full.{Full}
use Rattle.acl_stmt.specs.declared.refusal.Full.TheVariants as full
use Rattle.row_edits.proofs.Limiting.{none_of_none}
use Rattle.acl_model.specs.Rows.{same_row, some_name}
use Rattle.acl_model.specs.State.{State, stands}
use Rattle.acl_model.specs.declared.account_data.AccountData.{AccountData}
use Rattle.acl_model.specs.declared.row.Row.{Row}
use Rattle.acl_model.specs.declared.row.Row.TheVariants.{Account, Global, Dynamic, DynamicGrant, Schema, Table, Column, Function, Procedure, Edge, Admin, Default, Restriction}
use Rattle.row_tables.proofs.RowLists.{has}
use Rattle.row_tables.proofs.States.{same_state}
use Rattle.row_tables.specs.Changes.{with_data, with_row}
use Rattle.row_tables.specs.Conditions.{is_account, names_stand}
use Rattle.row_tables.specs.Lists.{IsClosed, without_rows}
use Rattle.acl_stmt.specs.declared.options.AccountOptions.{AccountOptions}
use Rattle.acl_stmt.specs.declared.statement.Statement.TheVariants.{CreateUser}
use Rattle.account_edits.proofs.Noted.{More, one_named, one_new}
use Rattle.account_edits.specs.Created.{HasComePartly, IsCrowded, account_rows, created_data, new_accounts, with_accounts}

abbrev Named : Type 0
Named = AuthId × Verifier

abbrev Known : Type 0
Known = AuthId × AccountData

abbrev named : AuthId → List Named → Bool
named a ps = list_any (λ pair. same_auth a pair.0) ps

abbrev known : AuthId → List Known → Bool
known a ks = list_any (λ pair. same_auth a pair.0) ks

-- ---- what stands with accounts

or_turn : (a b c : Bool) → ((b || c) || a) ≡ ((a || b) || c)
or_turn true true true = refl
or_turn true true false = refl
or_turn true false true = refl
or_turn true false false = refl
or_turn false true true = refl
or_turn false true false = refl
or_turn false false true = refl
or_turn false false false = refl

pub stands_with : (s : State) (ks : List Known) (a : AuthId) → stands (with_accounts ks s) a ≡ (known a ks || stands s a)
unfolding with_accounts with_data with_row
stands_with s [] a = refl
stands_with s (k ∷ ks) a = ap (λ t. t || same_auth a k.0) (stands_with s ks a) ∙ or_turn (same_auth a k.0) (known a ks) (stands s a)

pub others_with : (s : State) (ks : List Known) (row : Row) → is_account row ≡ false → (with_accounts ks s).rows row ≡ s.rows row
unfolding with_accounts with_data with_row
others_with s [] row other = refl
others_with s (k ∷ ks) row other = ap (λ t. t || same_row row (Account k.0)) (others_with s ks row other) ∙ ap (λ t. s.rows row || t) (no_account row k.0 other) ∙ or-false (s.rows row)
  where
    no_account : (row : Row) (b : AuthId) → is_account row ≡ false → same_row row (Account b) ≡ false
    no_account (Account a) b other = cc
    no_account _ b other = refl

data_first : (t u : Bool) (v : AccountData) (w d : Option AccountData) → cond t (Some v) (cond (t && u) w d) ≡ cond t (Some v) d
data_first true u v w d = refl
data_first false u v w d = refl

data_with_more : (s : State) (k : Known) (ks : List Known) (a : AuthId) → (with_accounts (k ∷ ks) s).account_data a ≡ cond (same_auth a k.0) (Some k.1) ((with_accounts ks s).account_data a)
unfolding with_accounts with_data with_row
data_with_more s k ks a = data_first (same_auth a k.0) (not (stands (with_accounts ks s) k.0)) k.1 (Some new_account) ((with_accounts ks s).account_data a)

settings_with : (s : State) (ks : List Known) → ((with_accounts ks s).mandatory ≡ s.mandatory) × ((with_accounts ks s).activate_all ≡ s.activate_all)
unfolding with_accounts with_data with_row
settings_with s [] = (refl, refl)
settings_with s (k ∷ ks) = settings_with s ks

-- ---- the new accounts of a statement

module _ (s : State) (options : AccountOptions) where
  made_more : (p : Named) (ps : List Named) (t : Bool) → stands s p.0 ≡ t → new_accounts s options (p ∷ ps) ≡ cond t (new_accounts s options ps) ((p.0, created_data options p.1) ∷ new_accounts s options ps)
  made_more p ps true there = rw there refl
  made_more p ps false absent = rw absent refl

  known_new : (ps : List Named) (a : AuthId) → (known a (new_accounts s options ps) || stands s a) ≡ (named a ps || stands s a)
  known_new [] a = refl
  known_new (p ∷ ps) a = ap (λ ks. known a ks || stands s a) (made_more p ps (stands s p.0) refl) ∙ by (stands s p.0) refl (same_auth a p.0) refl (known_new ps a)
    where
      by : (t : Bool) → stands s p.0 ≡ t → (u : Bool) → same_auth a p.0 ≡ u → (known a (new_accounts s options ps) || stands s a) ≡ (named a ps || stands s a)
          → (known a (cond t (new_accounts s options ps) ((p.0, created_data options p.1) ∷ new_accounts s options ps)) || stands s a) ≡ ((u || named a ps) || stands s a)
      by true there true same rest =
          let here : stands s a ≡ true = ap (stands s) (equal_from_same_auth a p.0 same) ∙ there in
          rest ∙ ap (λ t. named a ps || t) here ∙ or-true (named a ps)
      by true there false differs rest = rest
      by false absent true same rest = ap (λ t. (t || known a (new_accounts s options ps)) || stands s a) same
      by false absent false differs rest = ap (λ t. (t || known a (new_accounts s options ps)) || stands s a) differs ∙ rest

  created_stood : (f : Option Verifier) (d : Option AccountData) → created options f true d ≡ d
  created_stood None d = refl
  created_stood (Some v) d = refl

  data_none : (a : AuthId) → (with_accounts [] s).account_data a ≡ s.account_data a
  unfolding with_accounts
  data_none a = refl

  data_new : (ps : List Named) (a : AuthId) → (with_accounts (new_accounts s options ps) s).account_data a ≡ created options (first_verifier a ps) (stands s a) (s.account_data a)
  data_new [] a = data_none a
  data_new (p ∷ ps) a = ap (λ ks. (with_accounts ks s).account_data a) (made_more p ps (stands s p.0) refl) ∙ by (stands s p.0) refl (same_auth a p.0) refl (data_new ps a)
    where
      by : (t : Bool) → stands s p.0 ≡ t → (u : Bool) → same_auth a p.0 ≡ u
          → (with_accounts (new_accounts s options ps) s).account_data a ≡ created options (first_verifier a ps) (stands s a) (s.account_data a)
          → (with_accounts (cond t (new_accounts s options ps) ((p.0, created_data options p.1) ∷ new_accounts s options ps)) s).account_data a
          ≡ created options (cond u (Some p.1) (first_verifier a ps)) (stands s a) (s.account_data a)
      by true there true same rest =
          let here : stands s a ≡ true = ap (stands s) (equal_from_same_auth a p.0 same) ∙ there in
          rest ∙ ap (λ t. created options (first_verifier a ps) t (s.account_data a)) here ∙ created_stood (first_verifier a ps) (s.account_data a)
          ∙ sym (ap (λ t. created options (Some p.1) t (s.account_data a)) here)
      by true there false differs rest = rest
      by false absent true same rest =
          let gone : stands s a ≡ false = ap (stands s) (equal_from_same_auth a p.0 same) ∙ absent in
          data_with_more s (p.0, created_data options p.1) (new_accounts s options ps) a ∙ ap (λ t. cond t (Some (created_data options p.1)) ((with_accounts (new_accounts s options ps) s).account_data a)) same
          ∙ sym (ap (λ t. created options (Some p.1) t (s.account_data a)) gone)
      by false absent false differs rest =
          data_with_more s (p.0, created_data options p.1) (new_accounts s options ps) a ∙ ap (λ t. cond t (Some (created_data options p.1)) ((with_accounts (new_accounts s options ps) s).account_data a)) differs
          ∙ rest

  -- what the statement makes of the state
  pub created_by : (exists : Bool) (ps : List Named) → with_accounts (new_accounts s options ps) s ≡ changed [] (CreateUser exists ps options) s
  unfolding changed becomes
  created_by exists ps = same_state _ _ rows (data_new ps) (settings_with s (new_accounts s options ps)).0 (settings_with s (new_accounts s options ps)).1
    where
      rows : (row : Row) → (with_accounts (new_accounts s options ps) s).rows row ≡ becomes [] (CreateUser exists ps options) s row (s.rows row)
      rows (Account a) = stands_with s (new_accounts s options ps) a ∙ known_new ps a ∙ ap (λ t. named a ps || t) (sym (and-true (stands s a)))
      rows row = others_with s (new_accounts s options ps) row refl ∙ sym (and-true (s.rows row))

  absent_new : (ps : List Named) (row : Row) → has (account_rows (new_accounts s options ps)) row ≡ true → s.rows row ≡ false
  absent_new [] row there = absurd (true≢false (sym there))
  absent_new (p ∷ ps) row there =
      by (stands s p.0) refl (absent_new ps row) (sym (ap (λ ks. has (account_rows ks) row) (made_more p ps (stands s p.0) refl)) ∙ there)
    where
      here : (row : Row) (t : Bool) → same_row row (Account p.0) ≡ t → stands s p.0 ≡ false → (has (account_rows (new_accounts s options ps)) row ≡ true → s.rows row ≡ false)
          → (t || has (account_rows (new_accounts s options ps)) row) ≡ true → s.rows row ≡ false
      here (Account a) true same gone rest listed = ap (stands s) (equal_from_same_auth a p.0 same) ∙ gone
      here row false differs gone rest listed = rest listed
      here _ true same gone rest listed = cc

      by : (t : Bool) → stands s p.0 ≡ t → (has (account_rows (new_accounts s options ps)) row ≡ true → s.rows row ≡ false)
          → has (account_rows (cond t (new_accounts s options ps) ((p.0, created_data options p.1) ∷ new_accounts s options ps))) row ≡ true → s.rows row ≡ false
      by true stood rest listed = rest listed
      by false gone rest listed = here row (same_row row (Account p.0)) refl gone rest listed

  -- the new accounts do not stand
  pub none_stands : (ps : List Named) (back : List Row) → back ≡ account_rows (new_accounts s options ps) → (row : Row) → has back row ≡ true → s.rows row ≡ false
  none_stands ps back is row there = absent_new ps row (sym (ap (λ rows. has rows row) is) ∙ there)

-- ---- accounts come one by one, the last first

pub with_last : (s : State) (left : List Known) (k : Known) → with_accounts (left ++ k ∷ []) s ≡ with_accounts left (with_data k.0 k.1 (with_row (Account k.0) s))
unfolding with_accounts
with_last s [] k = refl
with_last s (first ∷ left) k = ap (λ t. with_data first.0 first.1 (with_row (Account first.0) t)) (with_last s left k)

or_or : (a b c : Bool) → ((a || b) || c) ≡ (a || (b || c))
or_or true b c = refl
or_or false b c = refl

all_known : (P : AuthId → Bool) (n : ℕ) (rest : List Known) → More P n → More (λ a. P a || known a rest) n
all_known P n [] more = subst (λ (Q : AuthId → Bool). More Q n) (λ i a. sym (or-false (P a)) i) more
all_known P n (q ∷ rest) more =
    subst (λ (Q : AuthId → Bool). More Q n) (λ i a. or_or (P a) (same_auth a q.0) (known a rest) i) (all_known (λ a. P a || same_auth a q.0) n rest (one_named P n q.0 more))

or_both : (a b : Bool) → (a || b) ≡ (b || a)
or_both true true = refl
or_both true false = refl
or_both false true = refl
or_both false false = refl

one_comes : (cur : State) (k : Known) (a : AuthId) → stands (with_data k.0 k.1 (with_row (Account k.0) cur)) a ≡ (stands cur a || same_auth a k.0)
unfolding with_data with_row
one_comes cur k a = refl

-- where there is no room for an account, there are too many in the end
pub crowded : (cur : State) (left : List Known) (k : Known) → stands cur k.0 ≡ false → More (stands cur) 4095 → IsCrowded (with_accounts (left ++ k ∷ []) cur)
crowded cur left k absent more =
    let one : More (λ a. stands cur a || same_auth a k.0) 4096 = one_new (stands cur) 4095 k.0 more absent in
    let all : More (λ a. (stands cur a || same_auth a k.0) || known a left) 4096 = all_known (λ a. stands cur a || same_auth a k.0) 4096 left one in
    let same : (a : AuthId) → ((stands cur a || same_auth a k.0) || known a left) ≡ stands (with_accounts (left ++ k ∷ []) cur) a =
    λ a. or_both (stands cur a || same_auth a k.0) (known a left) ∙ sym (ap (λ st. stands st a) (with_last cur left k) ∙ stands_with (with_data k.0 k.1 (with_row (Account k.0) cur)) left a ∙ ap (λ t. known a left || t) (one_comes cur k a)) in
    subst (λ (Q : AuthId → Bool). More Q 4096) (λ i a. same a i) all

-- ---- some have come

pub none_come : (back : List Row) (s : State) → HasComePartly back s s
none_come back s = record { stays = λ row there. there; stood = λ row there absent. there; known = λ a absent. refl; names = refl; active = refl }

pub more_come : (back : List Row) (s cur new : State) (k : Known) → has back (Account k.0) ≡ true → new ≡ with_data k.0 k.1 (with_row (Account k.0) cur) → HasComePartly back s cur → HasComePartly back s new
unfolding with_data with_row
more_come back s cur new k listed is partly = subst (λ (t : State). HasComePartly back s t) (sym is) next
  where
    not_it : (row : Row) → has back row ≡ false → (t : Bool) → same_row row (Account k.0) ≡ t → t ≡ false
    not_it row absent false differs = refl
    not_it (Account a) absent true same =
        let here : has back (Account a) ≡ true = ap (λ b. has back (Account b)) (equal_from_same_auth a k.0 same) ∙ listed in
        cc
    not_it _ absent true same = cc

    next : HasComePartly back s (with_data k.0 k.1 (with_row (Account k.0) cur))
    next = record {
      stays = λ row there. or_left (cur.rows row) (same_row row (Account k.0)) (partly.stays row there);
      stood = λ row there absent. partly.stood row (sym (or-false (cur.rows row)) ∙ ap (λ t. cur.rows row || t) (sym (not_it row absent (same_row row (Account k.0)) refl)) ∙ there) absent;
      known = λ a absent.
          let differs : same_auth a k.0 ≡ false = not_it (Account a) absent (same_auth a k.0) refl in
          ap (λ t. cond t (Some k.1) (cond (t && not (stands cur k.0)) (Some new_account) (cur.account_data a))) differs ∙ partly.known a absent;
      names = partly.names;
      active = partly.active;
    }

last_row : (left : List Known) (k : Known) → has (account_rows (left ++ k ∷ [])) (Account k.0) ≡ true
last_row [] k = ap (λ t. t || false) (same_auth_itself k.0)
last_row (first ∷ left) k = or_right (same_auth k.0 first.0) (has (account_rows (left ++ k ∷ [])) (Account k.0)) (last_row left k)

more_rows : (left : List Known) (k : Known) (row : Row) → has (account_rows left) row ≡ true → has (account_rows (left ++ k ∷ [])) row ≡ true
more_rows [] k row there = absurd (true≢false (sym there))
more_rows (first ∷ left) k row there = at (same_row row (Account first.0)) (more_rows left k row) there
  where
    at : (t : Bool) → (has (account_rows left) row ≡ true → has (account_rows (left ++ k ∷ [])) row ≡ true) → (t || has (account_rows left) row) ≡ true → (t || has (account_rows (left ++ k ∷ [])) row) ≡ true
    at true rest there = refl
    at false rest there = rest there

-- an account among those that are left to come
pub last_known : (left : List Known) (k : Known) (all : List Known) (back : List Row) → all ≡ left ++ k ∷ [] → ((row : Row) → has (account_rows all) row ≡ true → has back row ≡ true) → has back (Account k.0) ≡ true
last_known left k all back split within = within (Account k.0) (ap (λ ks. has (account_rows ks) (Account k.0)) split ∙ last_row left k)

pub left_known : (left : List Known) (k : Known) (all : List Known) (back : List Row) → all ≡ left ++ k ∷ [] → ((row : Row) → has (account_rows all) row ≡ true → has back row ≡ true)
    → (row : Row) → has (account_rows left) row ≡ true → has back row ≡ true
left_known left k all back split within row there = within row (ap (λ ks. has (account_rows ks) row) split ∙ more_rows left k row there)

-- ---- and go again

accounts_alone : (ks : List Known) (row : Row) → is_account row ≡ false → has (account_rows ks) row ≡ false
accounts_alone [] row other = refl
accounts_alone (k ∷ ks) (Account a) other = cc
accounts_alone (k ∷ ks) (Dynamic a d) other = accounts_alone ks (Dynamic a d) other
accounts_alone (k ∷ ks) row other = accounts_alone ks row other

module _ (s cur : State) (ks : List Known) (back : List Row) (is : back ≡ account_rows ks) (absent : (row : Row) → IsTrue (has back row) → s.rows row ≡ false)
    (partly : HasComePartly back s cur) where
  alone : (row : Row) → is_account row ≡ false → has back row ≡ false
  alone row other = ap (λ rows. has rows row) is ∙ accounts_alone ks row other

  names_of : (a : AuthId) (row : Row) → is_account row ≡ false → names_stand s row ≡ true → some_name (same_auth a) row ≡ true → stands s a ≡ true
  names_of a (Account b) other there named = cc
  names_of a (Edge role to) other there named = one (same_auth a role) refl (same_auth a to) refl named
    where
      one : (t : Bool) → same_auth a role ≡ t → (u : Bool) → same_auth a to ≡ u → (t || u) ≡ true → stands s a ≡ true
      one true same u is either = ap (stands s) (equal_from_same_auth a role same) ∙ (and_parts (stands s role) (stands s to) there).0
      one false differs true same either = ap (stands s) (equal_from_same_auth a to same) ∙ (and_parts (stands s role) (stands s to) there).1
      one false differs false apart either = absurd (true≢false (sym either))
  names_of a (Admin role to) other there named = one (same_auth a role) refl (same_auth a to) refl named
    where
      one : (t : Bool) → same_auth a role ≡ t → (u : Bool) → same_auth a to ≡ u → (t || u) ≡ true → stands s a ≡ true
      one true same u is either = ap (stands s) (equal_from_same_auth a role same) ∙ (and_parts (stands s role) (stands s to) there).0
      one false differs true same either = ap (stands s) (equal_from_same_auth a to same) ∙ (and_parts (stands s role) (stands s to) there).1
      one false differs false apart either = absurd (true≢false (sym either))
  names_of a (Default of role) other there named = one (same_auth a of) refl (same_auth a role) refl named
    where
      one : (t : Bool) → same_auth a of ≡ t → (u : Bool) → same_auth a role ≡ u → (t || u) ≡ true → stands s a ≡ true
      one true same u is either = ap (stands s) (equal_from_same_auth a of same) ∙ (and_parts (stands s of) (stands s role) there).0
      one false differs true same either = ap (stands s) (equal_from_same_auth a role same) ∙ (and_parts (stands s of) (stands s role) there).1
      one false differs false apart either = absurd (true≢false (sym either))
  names_of a (Global b p) other there named = ap (stands s) (equal_from_same_auth a b named) ∙ there
  names_of a (Dynamic b d) other there named = ap (stands s) (equal_from_same_auth a b named) ∙ there
  names_of a (DynamicGrant b d) other there named = ap (stands s) (equal_from_same_auth a b named) ∙ there
  names_of a (Schema b u p) other there named = ap (stands s) (equal_from_same_auth a b named) ∙ there
  names_of a (Table b u t p) other there named = ap (stands s) (equal_from_same_auth a b named) ∙ there
  names_of a (Column b u t c p) other there named = ap (stands s) (equal_from_same_auth a b named) ∙ there
  names_of a (Function b u f p) other there named = ap (stands s) (equal_from_same_auth a b named) ∙ there
  names_of a (Procedure b u f p) other there named = ap (stands s) (equal_from_same_auth a b named) ∙ there
  names_of a (Restriction b p u) other there named = ap (stands s) (equal_from_same_auth a b named) ∙ there

  module _ (names : (row : Row) → IsTrue (s.rows row) → IsTrue (names_stand s row)) where
    pub come_closed : IsClosed cur back
    come_closed = record {
      of_dynamic = λ a d listed stood. absurd (true≢false (sym listed ∙ alone (Dynamic a d) refl));
      of_edge = λ role to listed stood. absurd (true≢false (sym listed ∙ alone (Edge role to) refl));
      of_account = λ a row listed stood named. of_account a row listed stood named (is_account row) refl (has back row) refl;
    }
      where
        of_account : (a : AuthId) (row : Row) → has back (Account a) ≡ true → cur.rows row ≡ true → some_name (same_auth a) row ≡ true → (t : Bool) → is_account row ≡ t
            → (u : Bool) → has back row ≡ u → has back row ≡ true
        of_account a row listed stood named t is true there = there
        of_account a (Account b) listed stood named true is false gone =
            let here : has back (Account b) ≡ true = ap (λ x. has back (Account x)) (sym (equal_from_same_auth a b named)) ∙ listed in
            here
        of_account a row listed stood named false is false gone =
            absurd (true≢false (sym (names_of a row is (names row (partly.stood row stood gone)) named) ∙ absent (Account a) listed))
        of_account a _ listed stood named true is false gone = cc

  -- what was before stands again
  pub gone_again : ((a : AuthId) → stands s a ≡ false → s.account_data a ≡ None) → without_rows back cur ≡ s
  unfolding without_rows
  gone_again unknown = same_state _ _ (λ row. at row (has back row) refl (cur.rows row) refl (s.rows row) refl) (λ a. data_at a (has back (Account a)) refl) partly.names partly.active
    where
      at : (row : Row) (t : Bool) → has back row ≡ t → (u : Bool) → cur.rows row ≡ u → (v : Bool) → s.rows row ≡ v → (u && not t) ≡ v
      at row true listed u there false stood = never u
        where
          never : (u : Bool) → (u && false) ≡ false
          never true = refl
          never false = refl
      at row true listed u there true stood = absurd (true≢false (sym stood ∙ absent row listed))
      at row false gone true there true stood = refl
      at row false gone true there false stood = absurd (true≢false (sym (partly.stood row there gone) ∙ stood))
      at row false gone false there true stood = absurd (true≢false (sym (partly.stays row stood) ∙ there))
      at row false gone false there false stood = refl

      data_at : (a : AuthId) (t : Bool) → has back (Account a) ≡ t → cond t None (cur.account_data a) ≡ s.account_data a
      data_at a true listed = sym (unknown a (absent (Account a) listed))
      data_at a false gone = partly.known a gone

-- ---- the lists that are made

module _ (s : State) (options : AccountOptions) where
  new_append : (ps qs : List Named) → new_accounts s options (ps ++ qs) ≡ new_accounts s options ps ++ new_accounts s options qs
  new_append [] qs = refl
  new_append (p ∷ ps) qs =
      made_more s options p (ps ++ qs) (stands s p.0) refl ∙ by (stands s p.0) (new_append ps qs) ∙ ap (λ ks. ks ++ new_accounts s options qs) (sym (made_more s options p ps (stands s p.0) refl))
    where
      by : (t : Bool) → new_accounts s options (ps ++ qs) ≡ new_accounts s options ps ++ new_accounts s options qs
          → cond t (new_accounts s options (ps ++ qs)) ((p.0, created_data options p.1) ∷ new_accounts s options (ps ++ qs))
          ≡ cond t (new_accounts s options ps) ((p.0, created_data options p.1) ∷ new_accounts s options ps) ++ new_accounts s options qs
      by true rest = rest
      by false rest = ap (λ ks. (p.0, created_data options p.1) ∷ ks) rest

  -- one pair more
  next_new : (all : List Named) (i : ℕ) (x : Named) (t : Bool) → i < length all → x ≡ get_or all i x → t ≡ stands s x.0
      → new_accounts s options (take (i + 1) all) ≡ new_accounts s options (take i all) ++ cond t [] ((x.0, created_data options x.1) ∷ [])
  next_new all i x t within is test =
      ap (new_accounts s options) (taken all i x within is) ∙ new_append (take i all) (x ∷ [])
      ∙ ap (λ ks. new_accounts s options (take i all) ++ ks) (made_more s options x [] (stands s x.0) refl ∙ ap (λ b. cond b [] ((x.0, created_data options x.1) ∷ [])) (sym test))

  pub passed_over : (all : List Named) (i : ℕ) (x : Named) (t : Bool) (made : List Known) → i < length all → x ≡ get_or all i x → t ≡ stands s x.0 → t ≡ true
      → made ≡ new_accounts s options (take i all) → made ≡ new_accounts s options (take (i + 1) all)
  passed_over all i x t made within is test there inv =
      inv ∙ sym (append-nil (new_accounts s options (take i all))) ∙ ap (λ b. new_accounts s options (take i all) ++ cond b [] ((x.0, created_data options x.1) ∷ [])) (sym there)
      ∙ sym (next_new all i x t within is test)

  pub one_made : (all : List Named) (i : ℕ) (x : Named) (t : Bool) (made new : List Known) (a : AuthId) (value : AccountData) → i < length all → x ≡ get_or all i x → t ≡ stands s x.0 → t ≡ false
      → made ≡ new_accounts s options (take i all) → a ≡ x.0 → value ≡ created_data options x.1 → new ≡ made ++ (a, value) ∷ [] → new ≡ new_accounts s options (take (i + 1) all)
  one_made all i x t made new a value within is test absent inv name data_is pushed =
      pushed ∙ ap (λ ks. ks ++ (a, value) ∷ []) inv ∙ ap (λ n. new_accounts s options (take i all) ++ (n, value) ∷ []) name
      ∙ ap (λ d. new_accounts s options (take i all) ++ (x.0, d) ∷ []) data_is
      ∙ ap (λ b. new_accounts s options (take i all) ++ cond b [] ((x.0, created_data options x.1) ∷ [])) (sym absent)
      ∙ sym (next_new all i x t within is test)

-- what was taken from the end of a list
pub last_of : {X : Type 0} (all left : List X) (x : X) (o : Option X) → o ≡ Some x → all ≡ left ++ option_to_list o → all ≡ left ++ x ∷ []
last_of all left x o is split = split ∙ ap (λ p. left ++ option_to_list p) is

pub last_length : {X : Type 0} (all left : List X) (x : X) → all ≡ left ++ x ∷ [] → length all ≡ length left + 1
last_length all left x split = ap length split ∙ length-append left (x ∷ [])

pub none_left : {X : Type 0} (all : List X) (o : Option X) → o ≡ None → (IsSome o ↔ (0 < length all)) → all ≡ []
none_left [] o none some = refl
none_left (x ∷ all) o none some = cc (some.1 (omega arith), none)

pub match_true : (A B : Type 0) (t : Bool) → t ≡ true → MatchBool t A B → A
match_true A B true is holds = holds
match_true A B false is holds = cc

pub match_false : (A B : Type 0) (t : Bool) → t ≡ false → MatchBool t A B → B
match_false A B true is holds = cc
match_false A B false is holds = holds

-- ---- the first limit that is exceeded

pub limits_kept : (within told : Result (Unit {0}) Full) (cur final : State) → within ≡ told → cur ≡ final → IfErr told (IsFirst (IsExceeded cur) limits_in_order) → IfErr within (IsFirst (IsExceeded final) limits_in_order)
limits_kept within told cur final is same first =
    subst (λ (r : Result (Unit {0}) Full). IfErr r (IsFirst (IsExceeded final) limits_in_order)) (sym is)
    (subst (λ (st : State). IfErr told (IsFirst (IsExceeded st) limits_in_order)) same first)

pub first_crowd : (within : Result (Unit {0}) Full) (final : State) → within ≡ Err full.Accounts → IsCrowded final → IfErr within (IsFirst (IsExceeded final) limits_in_order)
first_crowd within final is crowd =
    subst (λ (r : Result (Unit {0}) Full). IfErr r (IsFirst (IsExceeded final) limits_in_order)) (sym is) (record {
      before = [];
      rest = full.Schemas ∷ full.Pairs ∷ full.Objects ∷ full.Edges ∷ [];
      split = refl;
      has = crowd;
      none_before = none_of_none (IsExceeded final);
    })

-- the next account comes
pub next_known : (all left : List Known) (k : Known) (cur new : State) → all ≡ left ++ k ∷ [] → new ≡ with_data k.0 k.1 (with_row (Account k.0) cur) → with_accounts left new ≡ with_accounts all cur
next_known all left k cur new split is = ap (with_accounts left) is ∙ sym (with_last cur left k) ∙ ap (λ ks. with_accounts ks cur) (sym split)

pub all_known_come : (all : List Known) (cur : State) → all ≡ [] → cur ≡ with_accounts all cur
unfolding with_accounts
all_known_come all cur none = ap (λ ks. with_accounts ks cur) (sym none)
