-- One account under another name: the data, and the rows.
use Rattle.std.proofs.Common.{◌≡◌, ◌∙◌, ap, sym, subst, Bool, true, false, cond, not, ◌&&◌, ◌||◌, List, [], ◌∷◌, Option, Some, None, filter, map, refl}
use Rattle.std.proofs.lemmas.Bool.{and_from, and_parts, not_from_false, not-true, or_from, or_parts}
use Rattle.std.specs.List.{list_any}
use Rattle.std.specs.Option.{is_some}
use Rattle.acl_names.proofs.SameAuth.{equal_from_same_auth, same_auth_itself}
use Rattle.acl_names.specs.AuthId.{same_auth}
use Rattle.acl_names.specs.declared.auth.AuthId.{AuthId}
use Rattle.acl_model.proofs.SameRows.{equal_from_same_row, same_row_from_equal, same_row_itself}
use Rattle.acl_model.specs.Accounts.{data_of_old}
use Rattle.acl_model.specs.Effects.{stood_before}
use Rattle.acl_model.specs.Renames.{before_pair, one_name, row_before, two_names}
use Rattle.acl_model.specs.Rows.{same_row, some_name}
use Rattle.acl_model.specs.State.{State}
use Rattle.acl_model.specs.declared.account_data.AccountData.{AccountData}
use Rattle.acl_model.specs.declared.row.Row.{Row}
use Rattle.acl_model.specs.declared.row.Row.TheVariants.{Account, Global, Dynamic, DynamicGrant, Schema, Table, Column, Function, Procedure, Edge, Admin, Default, Restriction}
use Rattle.acl_stmt.specs.declared.statement.Statement.TheVariants.{RenameUser}
use Rattle.acl_rows.specs.Changes.{renamed}
use Rattle.acl_rows.specs.Conditions.{is_account}
use Rattle.acl_rows.specs.Renaming.{change_first, new_name, row_renamed, rows_renamed}
use Rattle.acl_rows.specs.Tables.{Tables, data_of, has_account, has_row, state_of}
use Rattle.acl_rows.proofs.Data.{data_cons}
use Rattle.acl_rows.proofs.Differ.{among, among_is_has, differ}
use Rattle.acl_rows.proofs.Lookups.{found_where_any}
use Rattle.acl_rows.proofs.Members.{both_ways}
use Rattle.acl_rows.proofs.Puts.{nothing_known}
use Rattle.acl_rows.proofs.States.{differ_back, has_row-grant, same_state}

abbrev Listed : Type 0
Listed = AuthId × AccountData

abbrev if_known : {A : Type 0} → (A → Bool) → Option A → Bool
if_known test None = false
if_known test (Some a) = test a

module _ (old new : AuthId) where
  abbrev other_name : List Listed → List Listed
  other_name accounts = change_first (λ pair. same_auth old pair.0) (λ pair. (new, pair.1)) accounts

  abbrev data_before : List Listed → Option AuthId → Option AccountData
  data_before accounts None = None
  data_before accounts (Some a) = data_of accounts a

  -- ---- the data

  known_here : (x : Listed) (xs : List Listed) (a : AuthId) → x.0 ≡ old → has_account xs old ≡ false → (u v : Bool) → same_auth a new ≡ u → same_auth a old ≡ v
      → data_of ((new, x.1) ∷ xs) a ≡ data_before (x ∷ xs) (cond u (Some old) (cond v None (Some a)))
  known_here x xs a is gone true v same known =
      data_cons (new, x.1) xs a ∙ ap (λ t. cond t (Some x.1) (data_of xs a)) same
      ∙ sym (data_cons x xs old ∙ ap (λ t. cond t (Some x.1) (data_of xs old)) (ap (same_auth old) is ∙ same_auth_itself old))
  known_here x xs a is gone false true same known =
      data_cons (new, x.1) xs a ∙ ap (λ t. cond t (Some x.1) (data_of xs a)) same
      ∙ ap (data_of xs) (equal_from_same_auth a old known) ∙ nothing_known xs old gone (data_of xs old) refl
  known_here x xs a is gone false false same known =
      data_cons (new, x.1) xs a ∙ ap (λ t. cond t (Some x.1) (data_of xs a)) same
      ∙ sym (data_cons x xs a ∙ ap (λ t. cond t (Some x.1) (data_of xs a)) (ap (same_auth a) is ∙ known))

  known_later : (x : Listed) (xs changed : List Listed) (a : AuthId) → same_auth old x.0 ≡ false → same_auth new x.0 ≡ false → (u v : Bool) → same_auth a new ≡ u → same_auth a old ≡ v
      → data_of changed a ≡ data_before xs (cond u (Some old) (cond v None (Some a)))
      → data_of (x ∷ changed) a ≡ data_before (x ∷ xs) (cond u (Some old) (cond v None (Some a)))
  known_later x xs changed a not_old not_new true v same known rest =
      data_cons x changed a ∙ ap (λ t. cond t (Some x.1) (data_of changed a)) (ap (λ b. same_auth b x.0) (equal_from_same_auth a new same) ∙ not_new) ∙ rest
      ∙ sym (data_cons x xs old ∙ ap (λ t. cond t (Some x.1) (data_of xs old)) not_old)
  known_later x xs changed a not_old not_new false true same known rest =
      data_cons x changed a ∙ ap (λ t. cond t (Some x.1) (data_of changed a)) (ap (λ b. same_auth b x.0) (equal_from_same_auth a old known) ∙ not_old) ∙ rest
  known_later x xs changed a not_old not_new false false same known rest =
      data_cons x changed a ∙ ap (λ o. cond (same_auth a x.0) (Some x.1) o) rest ∙ sym (data_cons x xs a)

  none_before : (o : Option AuthId) → None ≡ data_before [] o
  none_before None = refl
  none_before (Some a) = refl

  data_renamed : (xs : List Listed) (a : AuthId) → has_account xs new ≡ false → differ xs ≡ true → data_of (other_name xs) a ≡ data_before xs (before_pair old new a)
  data_renamed [] a absent once = none_before (before_pair old new a)
  data_renamed (x ∷ xs) a absent once =
      let gone = or_parts (same_auth new x.0) (has_account xs new) absent in
      let parts = and_parts (not (among x.0 xs)) (differ xs) once in
      at (same_auth old x.0) refl gone.0 (not-true (among x.0 xs) parts.0) (data_renamed xs a gone.1 parts.1)
    where
      at : (t : Bool) → same_auth old x.0 ≡ t → same_auth new x.0 ≡ false → among x.0 xs ≡ false → data_of (other_name xs) a ≡ data_before xs (before_pair old new a)
          → data_of (cond t ((new, x.1) ∷ xs) (x ∷ other_name xs)) a ≡ data_before (x ∷ xs) (before_pair old new a)
      at true is not_new apart rest =
          let equal : x.0 ≡ old = sym (equal_from_same_auth old x.0 is) in
          let gone : has_account xs old ≡ false = ap (has_account xs) (sym equal) ∙ (sym (among_is_has x.0 xs) ∙ apart) in
          known_here x xs a equal gone (same_auth a new) (same_auth a old) refl refl
      at false is not_new apart rest = known_later x xs (other_name xs) a is not_new (same_auth a new) (same_auth a old) refl refl rest

  some_before : (xs : List Listed) (o : Option AuthId) → is_some (data_before xs o) ≡ if_known (has_account xs) o
  some_before xs None = refl
  some_before xs (Some a) = found_where_any (λ (pair : Listed). pair.1) (λ pair. same_auth a pair.0) xs

  accounts_renamed : (xs : List Listed) (a : AuthId) → has_account xs new ≡ false → differ xs ≡ true → has_account (other_name xs) a ≡ if_known (has_account xs) (before_pair old new a)
  accounts_renamed xs a absent once =
      sym (found_where_any (λ (pair : Listed). pair.1) (λ pair. same_auth a pair.0) (other_name xs))
      ∙ ap is_some (data_renamed xs a absent once) ∙ some_before xs (before_pair old new a)

  kept_name : (x : Listed) (xs : List Listed) → same_auth old x.0 ≡ false → same_auth new x.0 ≡ false → among x.0 xs ≡ false → if_known (has_account xs) (before_pair old new x.0) ≡ false
  kept_name x xs not_old not_new gone = rw (differ_back new x.0 not_new, differ_back old x.0 not_old) (sym (among_is_has x.0 xs) ∙ gone)

  pub differ_renamed : (xs : List Listed) → has_account xs new ≡ false → differ xs ≡ true → differ (other_name xs) ≡ true
  differ_renamed [] absent once = refl
  differ_renamed (x ∷ xs) absent once =
      let gone = or_parts (same_auth new x.0) (has_account xs new) absent in
      let parts = and_parts (not (among x.0 xs)) (differ xs) once in
      at (same_auth old x.0) refl gone.0 gone.1 (not-true (among x.0 xs) parts.0) parts.1 (differ_renamed xs gone.1 parts.1)
    where
      at : (t : Bool) → same_auth old x.0 ≡ t → same_auth new x.0 ≡ false → has_account xs new ≡ false → among x.0 xs ≡ false → differ xs ≡ true → differ (other_name xs) ≡ true
          → differ (cond t ((new, x.1) ∷ xs) (x ∷ other_name xs)) ≡ true
      at true is not_new absent_later apart once_later rest =
          and_from (not (among new xs)) (differ xs) (not_from_false (among new xs) (among_is_has new xs ∙ absent_later)) once_later
      at false is not_new absent_later apart once_later rest =
          let alone : among x.0 (other_name xs) ≡ false =
          among_is_has x.0 (other_name xs) ∙ accounts_renamed xs x.0 absent_later once_later ∙ kept_name x xs is not_new apart in
          and_from (not (among x.0 (other_name xs))) (differ (other_name xs)) (not_from_false (among x.0 (other_name xs)) alone) rest

  -- ---- the rows

  abbrev pairs : List (AuthId × AuthId)
  pairs = (old, new) ∷ []

  back_by : (a : AuthId) → same_auth new a ≡ false → (t : Bool) → same_auth a old ≡ t → before_pair old new (cond t new a) ≡ Some a
  back_by a other true is = rw (same_auth_itself new) (ap Some (sym (equal_from_same_auth a old is)))
  back_by a other false is = rw (differ_back new a other, is) refl

  back : (a : AuthId) → same_auth new a ≡ false → before_pair old new (new_name old new a) ≡ Some a
  back a other = back_by a other (same_auth a old) refl

  two_back : (row : AuthId → AuthId → Row) (a b : AuthId) → (same_auth new a || same_auth new b) ≡ false
      → two_names row (before_pair old new (new_name old new a)) (before_pair old new (new_name old new b)) ≡ Some (row a b)
  two_back row a b other =
      let parts = or_parts (same_auth new a) (same_auth new b) other in
      rw (back a parts.0, back b parts.1) refl

  -- a renamed row was that row
  was_it : (row : Row) → some_name (same_auth new) row ≡ false → row_before pairs (row_renamed old new row) ≡ Some row
  was_it (Account a) other = ap (one_name Account) (back a other)
  was_it (Global a p) other = ap (one_name (λ x. Global x p)) (back a other)
  was_it (Dynamic a d) other = ap (one_name (λ x. Dynamic x d)) (back a other)
  was_it (DynamicGrant a d) other = ap (one_name (λ x. DynamicGrant x d)) (back a other)
  was_it (Schema a s p) other = ap (one_name (λ x. Schema x s p)) (back a other)
  was_it (Table a s t p) other = ap (one_name (λ x. Table x s t p)) (back a other)
  was_it (Column a s t c p) other = ap (one_name (λ x. Column x s t c p)) (back a other)
  was_it (Function a s f p) other = ap (one_name (λ x. Function x s f p)) (back a other)
  was_it (Procedure a s f p) other = ap (one_name (λ x. Procedure x s f p)) (back a other)
  was_it (Edge role to) other = two_back Edge role to other
  was_it (Admin role to) other = two_back Admin role to other
  was_it (Default of role) other = two_back Default of role other
  was_it (Restriction a p s) other = ap (one_name (λ x. Restriction x p s)) (back a other)

  module _ (differs : same_auth old new ≡ false) where
    forth_by : (q x : AuthId) (u v : Bool) → same_auth q new ≡ u → same_auth q old ≡ v → cond u (Some old) (cond v None (Some q)) ≡ Some x
        → (new_name old new x ≡ q) × (same_auth new x ≡ false)
    forth_by q x true v same known is =
        let e : old ≡ x = cc in
        let P : AuthId → Type 0 = λ y. (new_name old new y ≡ q) × (same_auth new y ≡ false) in
        subst P e (rw (same_auth_itself old) (sym (equal_from_same_auth q new same)), differ_back old new differs)
    forth_by q x false true same known is = cc
    forth_by q x false false same known is =
        let e : q ≡ x = cc in
        let P : AuthId → Type 0 = λ y. (new_name old new y ≡ q) × (same_auth new y ≡ false) in
        subst P e (rw known refl, differ_back q new same)

    forth : (q x : AuthId) → before_pair old new q ≡ Some x → (new_name old new x ≡ q) × (same_auth new x ≡ false)
    forth q x is = forth_by q x (same_auth q new) (same_auth q old) refl refl is

    one_forth : (row : AuthId → Row) → ((x : AuthId) → row_renamed old new (row x) ≡ row (new_name old new x)) → ((x : AuthId) → some_name (same_auth new) (row x) ≡ same_auth new x)
        → (a : AuthId) (o : Option AuthId) → before_pair old new a ≡ o → (r : Row) → one_name row o ≡ Some r → (row_renamed old new r ≡ row a) × (some_name (same_auth new) r ≡ false)
    one_forth row moves names a None known r is = cc
    one_forth row moves names a (Some x) known r is =
        let e : row x ≡ r = cc in
        let parts = forth a x known in
        let P : Row → Type 0 = λ y. (row_renamed old new y ≡ row a) × (some_name (same_auth new) y ≡ false) in
        subst P e (moves x ∙ ap row parts.0, names x ∙ parts.1)

    two_forth : (row : AuthId → AuthId → Row) → ((x y : AuthId) → row_renamed old new (row x y) ≡ row (new_name old new x) (new_name old new y))
        → ((x y : AuthId) → some_name (same_auth new) (row x y) ≡ (same_auth new x || same_auth new y))
        → (a b : AuthId) (o u : Option AuthId) → before_pair old new a ≡ o → before_pair old new b ≡ u → (r : Row) → two_names row o u ≡ Some r
        → (row_renamed old new r ≡ row a b) × (some_name (same_auth new) r ≡ false)
    two_forth row moves names a b None u known told r is = cc
    two_forth row moves names a b (Some x) None known told r is = cc
    two_forth row moves names a b (Some x) (Some y) known told r is =
        let e : row x y ≡ r = cc in
        let first = forth a x known in
        let second = forth b y told in
        let P : Row → Type 0 = λ z. (row_renamed old new z ≡ row a b) × (some_name (same_auth new) z ≡ false) in
        subst P e (moves x y ∙ ap (λ n. row n (new_name old new y)) first.0 ∙ ap (row a) second.0, names x y ∙ or_from (same_auth new x) (same_auth new y) first.1 second.1)

    -- what a row was is it once it is renamed
    is_it : (q r : Row) → row_before pairs q ≡ Some r → (row_renamed old new r ≡ q) × (some_name (same_auth new) r ≡ false)
    is_it (Account a) r is = one_forth Account (λ x. refl) (λ x. refl) a (before_pair old new a) refl r is
    is_it (Global a p) r is = one_forth (λ x. Global x p) (λ x. refl) (λ x. refl) a (before_pair old new a) refl r is
    is_it (Dynamic a d) r is = one_forth (λ x. Dynamic x d) (λ x. refl) (λ x. refl) a (before_pair old new a) refl r is
    is_it (DynamicGrant a d) r is = one_forth (λ x. DynamicGrant x d) (λ x. refl) (λ x. refl) a (before_pair old new a) refl r is
    is_it (Schema a s p) r is = one_forth (λ x. Schema x s p) (λ x. refl) (λ x. refl) a (before_pair old new a) refl r is
    is_it (Table a s t p) r is = one_forth (λ x. Table x s t p) (λ x. refl) (λ x. refl) a (before_pair old new a) refl r is
    is_it (Column a s t c p) r is = one_forth (λ x. Column x s t c p) (λ x. refl) (λ x. refl) a (before_pair old new a) refl r is
    is_it (Function a s f p) r is = one_forth (λ x. Function x s f p) (λ x. refl) (λ x. refl) a (before_pair old new a) refl r is
    is_it (Procedure a s f p) r is = one_forth (λ x. Procedure x s f p) (λ x. refl) (λ x. refl) a (before_pair old new a) refl r is
    is_it (Edge role to) r is = two_forth Edge (λ x y. refl) (λ x y. refl) role to (before_pair old new role) (before_pair old new to) refl refl r is
    is_it (Admin role to) r is = two_forth Admin (λ x y. refl) (λ x y. refl) role to (before_pair old new role) (before_pair old new to) refl refl r is
    is_it (Default of role) r is = two_forth Default (λ x y. refl) (λ x y. refl) of role (before_pair old new of) (before_pair old new role) refl refl r is
    is_it (Restriction a p s) r is = one_forth (λ x. Restriction x p s) (λ x. refl) (λ x. refl) a (before_pair old new a) refl r is

    abbrev named : Row → Bool
    named row = some_name (same_auth new) row

    back_to : (q g : Row) (o : Option Row) → row_before pairs q ≡ o → if_known (λ r. same_row r g) o ≡ true → (not (named g) && same_row q (row_renamed old new g)) ≡ true
    back_to q g None was is = cc
    back_to q g (Some r) was is =
        let e : r ≡ g = equal_from_same_row r g is in
        let parts = is_it q r was in
        let unnamed : named g ≡ false = ap named (sym e) ∙ parts.1 in
        let moved : q ≡ row_renamed old new g = sym parts.0 ∙ ap (row_renamed old new) e in
        and_from (not (named g)) (same_row q (row_renamed old new g)) (not_from_false (named g) unnamed) (same_row_from_equal q (row_renamed old new g) moved)

    one_row : (q g : Row) → (not (named g) && same_row q (row_renamed old new g)) ≡ if_known (λ r. same_row r g) (row_before pairs q)
    one_row q g = both_ways (not (named g) && same_row q (row_renamed old new g)) (if_known (λ r. same_row r g) (row_before pairs q))
        (λ is.
        let parts = and_parts (not (named g)) (same_row q (row_renamed old new g)) is in
        let was : row_before pairs q ≡ Some g = ap (row_before pairs) (equal_from_same_row q (row_renamed old new g) parts.1) ∙ was_it g (not-true (named g) parts.0) in
        ap (if_known (λ r. same_row r g)) was ∙ same_row_itself g)
        (back_to q g (row_before pairs q) refl)

    any_renamed : (q : Row) (xs : List Row) → list_any (same_row q) (rows_renamed old new xs) ≡ list_any (λ g. not (named g) && same_row q (row_renamed old new g)) xs
    any_renamed q [] = refl
    any_renamed q (g ∷ xs) = at (not (named g)) (any_renamed q xs)
      where
        at : (t : Bool) → list_any (same_row q) (rows_renamed old new xs) ≡ list_any (λ g. not (named g) && same_row q (row_renamed old new g)) xs
            → list_any (same_row q) (map (row_renamed old new) (cond t (g ∷ filter (λ row. not (named row)) xs) (filter (λ row. not (named row)) xs)))
            ≡ ((t && same_row q (row_renamed old new g)) || list_any (λ g. not (named g) && same_row q (row_renamed old new g)) xs)
        at true rest = ap (λ t. same_row q (row_renamed old new g) || t) rest
        at false rest = rest

    none_known : (xs : List Row) → list_any (λ (g : Row). false) xs ≡ false
    none_known [] = refl
    none_known (g ∷ xs) = none_known xs

    any_known : (o : Option Row) (xs : List Row) → list_any (λ g. if_known (λ r. same_row r g) o) xs ≡ if_known (λ r. list_any (same_row r) xs) o
    any_known None xs = none_known xs
    any_known (Some r) xs = refl

    kind_stays : (r : Row) → is_account (row_renamed old new r) ≡ is_account r
    kind_stays (Account a) = refl
    kind_stays _ = refl

    grant_stood : (s : State) (accounts : List Listed) (grants : List Row) → s.rows ≡ has_row accounts grants → (q : Row) → is_account q ≡ false → (o : Option Row) → row_before pairs q ≡ o
        → if_known (λ r. list_any (same_row r) grants) o ≡ stood_before (RenameUser pairs) s q
    grant_stood s accounts grants are q other None was = rw was refl
    grant_stood s accounts grants are q other (Some r) was =
        let none : is_account r ≡ false = sym (kind_stays r) ∙ ap is_account (is_it q r was).0 ∙ other in
        rw (was, are) (sym (has_row-grant accounts grants r none))

    account_stood : (s : State) (accounts : List Listed) (grants : List Row) → s.rows ≡ has_row accounts grants → (a : AuthId) (o : Option AuthId) → before_pair old new a ≡ o
        → if_known (has_account accounts) o ≡ stood_before (RenameUser pairs) s (Account a)
    account_stood s accounts grants are a None was = rw was refl
    account_stood s accounts grants are a (Some b) was = rw (was, are) refl

    grants_renamed : (s : State) (accounts : List Listed) (grants : List Row) → s.rows ≡ has_row accounts grants → (q : Row) → is_account q ≡ false
        → list_any (same_row q) (rows_renamed old new grants) ≡ stood_before (RenameUser pairs) s q
    grants_renamed s accounts grants are q other =
        any_renamed q grants ∙ ap (λ f. list_any f grants) (λ i g. one_row q g i) ∙ any_known (row_before pairs q) grants
        ∙ grant_stood s accounts grants are q other (row_before pairs q) refl

    all_renamed : (s : State) (accounts : List Listed) (grants : List Row) → s.rows ≡ has_row accounts grants → has_account accounts new ≡ false → differ accounts ≡ true
        → (q : Row) → has_row (other_name accounts) (rows_renamed old new grants) q ≡ stood_before (RenameUser pairs) s q
    all_renamed s accounts grants are absent once (Account a) =
        accounts_renamed accounts a absent once ∙ account_stood s accounts grants are a (before_pair old new a) refl
    all_renamed s accounts grants are absent once q = grants_renamed s accounts grants are q refl

    data_stood : (s : State) (accounts : List Listed) → s.account_data ≡ data_of accounts → (o : Option AuthId) → data_before accounts o ≡ data_of_old s o
    data_stood s accounts are None = refl
    data_stood s accounts are (Some a) = rw are refl

    -- an account gets another name
    pub state_renamed : (tables : Tables) → (state_of tables).rows (Account new) ≡ false → differ tables.accounts ≡ true
        → state_of (record tables { accounts = other_name tables.accounts; grants = rows_renamed old new tables.grants }) ≡ renamed old new (state_of tables)
    unfolding state_of renamed
    state_renamed tables absent once = same_state _ _ (all_renamed (state_of tables) tables.accounts tables.grants refl absent once)
        (λ a. data_renamed tables.accounts a absent once ∙ data_stood (state_of tables) tables.accounts refl (before_pair old new a)) refl refl

apart_by : (s : State) (old new : AuthId) → s.rows (Account old) ≡ true → s.rows (Account new) ≡ false → (t : Bool) → same_auth old new ≡ t → t ≡ false
apart_by s old new stands absent false is = refl
apart_by s old new stands absent true is =
    let there : s.rows (Account new) ≡ true = ap (λ (a : AuthId). s.rows (Account a)) (sym (equal_from_same_auth old new is)) ∙ stands in
    cc

-- an account that stands is not one that does not
pub apart_from_stands : (s : State) (old new : AuthId) → s.rows (Account old) ≡ true → s.rows (Account new) ≡ false → same_auth old new ≡ false
apart_from_stands s old new stands absent = apart_by s old new stands absent (same_auth old new) refl
