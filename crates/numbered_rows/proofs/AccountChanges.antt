-- A number given, taken away or given another name is an account that comes, goes or is renamed.
use Rattle.std.proofs.Common.{◌≡◌, ◌∙◌, ap, ℕ, Bool, true, false, cond, not, ◌&&◌, ◌||◌, ◌==◌, List, [], ◌∷◌, Option, Some, None, is_some, refl, sym}
use Rattle.std.specs.Option.{option_map}
use Rattle.std.proofs.Math.Bool.{and-true, or-false}
use Rattle.std.proofs.lemmas.Bool.{true≢false, eq-eqb, eqb-true}
use Rattle.acl_names.proofs.SameAuth.{equal_from_same_auth, same_auth_itself}
use Rattle.acl_names.specs.AuthId.{same_auth}
use Rattle.acl_names.specs.declared.auth.AuthId.{AuthId}
use Rattle.account_holdings.specs.Holdings.{HoldAlike}
use Rattle.account_holdings.specs.declared.holding.Holding.{Holding}
use Rattle.account_holdings.specs.declared.holding.Holding.TheVariants as held
use Rattle.account_holdings.specs.declared.globals.GlobalKind.TheVariants as kind
use Rattle.object_bits.specs.declared.object.Object.TheVariants as object
use Rattle.acl_model.specs.Accounts.{data_of_old, new_account}
use Rattle.acl_model.specs.Effects.{stood_before}
use Rattle.acl_model.specs.Renames.{before_pair, one_name, row_before, two_names}
use Rattle.acl_model.specs.Rows.{same_row}
use Rattle.acl_model.specs.declared.account_data.AccountData.{AccountData}
use Rattle.acl_model.specs.declared.row.Row.{Row}
use Rattle.acl_model.specs.declared.row.Row.TheVariants.{Account, Global, Dynamic, DynamicGrant, Schema, Table, Column, Function, Procedure, Edge, Admin, Default, Restriction}
use Rattle.acl_stmt.specs.declared.statement.Statement.TheVariants.{RenameUser}
use Rattle.numbered_names.specs.Numbered.{ChangesOnly, HasEachOnce, IsNew, name_at}
use Rattle.numbered_rows.specs.Conditions.{is_account}
use Rattle.numbered_rows.specs.Numbering.{holds_some, number_of, one_number, two_numbers}
use Rattle.numbered_rows.specs.RowChanges.{renamed, with_data, with_row, without_row}
use Rattle.numbered_rows.specs.Tables.{ChangesDataOnly, IsUnused, Tables, data_of, has_row, known_at, state_of}
use Rattle.numbered_rows.proofs.Matching.{first_named, first_of, in_parts, or_last, second_named, second_of, shape}
use Rattle.numbered_rows.proofs.Numbers.{Names, named_at, none_found, number_added, number_before, number_is, number_removed, number_renamed, once_added}
use Rattle.numbered_rows.proofs.States.{by_kind, grant_is_no_account, has_row-holding, same_state}

and_last : (t : Bool) → (t && false) ≡ false
and_last true = refl
and_last false = refl

module _ (old new : Tables) (alike : HoldAlike old.holdings new.holdings) where
  alike_some : (o : Option Holding) → holds_some new.holdings o ≡ holds_some old.holdings o
  alike_some None = refl
  alike_some (Some h) = alike h

  alike_parts : (row : Row) (o u : Option ℕ) → holds_some new.holdings (two_numbers (shape row) o u) ≡ holds_some old.holdings (two_numbers (shape row) o u)
  alike_parts row o u = alike_some (two_numbers (shape row) o u)

  module _ (number : ℕ) (unused : IsUnused old.holdings number) (row : Row) where
    -- nothing is held where an account of the row has the number
    first_unused : (u : Option ℕ) → holds_some old.holdings (two_numbers (shape row) (Some number) u) ≡ false
    first_unused None = refl
    first_unused (Some n) = unused (shape row number n) (first_named row number n)

    second_unused : (a : AuthId) → same_auth (first_of row) a ≡ false → same_auth (second_of row) a ≡ true
        → (o : Option ℕ) → holds_some old.holdings (two_numbers (shape row) o (Some number)) ≡ false
    second_unused a first second None = refl
    second_unused a first second (Some m) = unused (shape row m number) (second_named row a first second m number)

  none_second : (row : Row) (o : Option ℕ) → holds_some old.holdings (two_numbers (shape row) o None) ≡ false
  none_second row None = refl
  none_second row (Some m) = refl

  module _ (number : ℕ) (unused : IsUnused old.holdings number) (a : AuthId) where
    -- ---- an account comes

    module _ (free : name_at old.accounts.names number ≡ None) (fresh : IsNew same_auth old.accounts.names a)
        (only : ChangesOnly old.accounts.names new.accounts.names number (Some a)) (once : HasEachOnce same_auth old.accounts.names) where
      added : (b : AuthId) → number_of new.accounts.names b ≡ cond (same_auth b a) (Some number) (number_of old.accounts.names b)
      added b = number_added old.accounts.names new.accounts.names number a free fresh only (once_added old.accounts.names new.accounts.names number a free fresh only once) b

      absent : (b : AuthId) → same_auth b a ≡ true → number_of old.accounts.names b ≡ None
      absent b same = ap (number_of old.accounts.names) (equal_from_same_auth b a same) ∙ none_found old.accounts.names a fresh

      parts_come : (row : Row) (t u : Bool) → same_auth (first_of row) a ≡ t → same_auth (second_of row) a ≡ u
          → holds_some new.holdings (two_numbers (shape row) (cond t (Some number) (number_of old.accounts.names (first_of row))) (cond u (Some number) (number_of old.accounts.names (second_of row))))
          ≡ holds_some old.holdings (two_numbers (shape row) (number_of old.accounts.names (first_of row)) (number_of old.accounts.names (second_of row)))
      parts_come row true u first second =
          alike_parts row (Some number) (cond u (Some number) (number_of old.accounts.names (second_of row))) ∙ first_unused number unused row (cond u (Some number) (number_of old.accounts.names (second_of row)))
          ∙ sym (ap (λ o. holds_some old.holdings (two_numbers (shape row) o (number_of old.accounts.names (second_of row)))) (absent (first_of row) first))
      parts_come row false true first second =
          alike_parts row (number_of old.accounts.names (first_of row)) (Some number) ∙ second_unused number unused row a first second (number_of old.accounts.names (first_of row))
          ∙ sym (ap (λ o. holds_some old.holdings (two_numbers (shape row) (number_of old.accounts.names (first_of row)) o)) (absent (second_of row) second)
          ∙ none_second row (number_of old.accounts.names (first_of row)))
      parts_come row false false first second = alike_parts row (number_of old.accounts.names (first_of row)) (number_of old.accounts.names (second_of row))

      row_stays : (row : Row) → is_account row ≡ false → has_row new row ≡ has_row old row
      row_stays row plain =
          has_row-holding new row plain ∙ ap (holds_some new.holdings) (in_parts new.accounts.names row plain)
          ∙ ap (λ o. holds_some new.holdings (two_numbers (shape row) o (number_of new.accounts.names (second_of row)))) (added (first_of row))
          ∙ ap (λ o. holds_some new.holdings (two_numbers (shape row) (cond (same_auth (first_of row) a) (Some number) (number_of old.accounts.names (first_of row))) o)) (added (second_of row))
          ∙ parts_come row (same_auth (first_of row) a) (same_auth (second_of row) a) refl refl
          ∙ sym (has_row-holding old row plain ∙ ap (holds_some old.holdings) (in_parts old.accounts.names row plain))

      account_there : (b : AuthId) (t : Bool) → is_some (cond t (Some number) (number_of old.accounts.names b)) ≡ (is_some (number_of old.accounts.names b) || t)
      account_there b true = sym (or_last (is_some (number_of old.accounts.names b)))
      account_there b false = sym (or-false (is_some (number_of old.accounts.names b)))

      apart_from : (b : AuthId) (k : ℕ) → number_of old.accounts.names b ≡ Some k → (k == number) ≡ false
      apart_from b k found = by (k == number) refl
        where
          by : (t : Bool) → (k == number) ≡ t → t ≡ false
          by false is = refl
          by true is = cc (named_at old.accounts.names b k found, ap (name_at old.accounts.names) (eqb-true k number is), free)

      module _ (known : ChangesDataOnly old.account_data new.account_data number new_account) where
        known_there : (b : AuthId) (t : Bool) → same_auth b a ≡ t → (o : Option ℕ) → number_of old.accounts.names b ≡ o
            → option_map (known_at new.account_data) (cond t (Some number) o) ≡ cond t (Some new_account) (option_map (known_at old.account_data) o)
        known_there b true same o found = ap (λ x. Some x) (known number ∙ rw (eq-eqb number number refl) refl)
        known_there b false same None found = refl
        known_there b false same (Some k) found = ap (λ x. Some x) (known k ∙ rw (apart_from b k found) refl)

        guarded : (b : AuthId) (t : Bool) → cond t (Some new_account) (data_of old b) ≡ (cond (t && not (is_some (number_of old.accounts.names a))) (Some new_account) (data_of old b))
        guarded b t = rw (none_found old.accounts.names a fresh) (ap (λ u. cond u (Some new_account) (data_of old b)) (sym (and-true t)))

        pub account_comes : new.mandatory ≡ old.mandatory → new.activate_all ≡ old.activate_all → state_of new ≡ with_row (Account a) (state_of old)
        unfolding state_of with_row
        account_comes roles activate =
            same_state _ _
            (by_kind (λ row. has_row new row ≡ (has_row old row || same_row row (Account a)))
            (λ b. ap is_some (added b) ∙ account_there b (same_auth b a))
            (λ row plain. row_stays row plain ∙ sym (ap (λ t. has_row old row || t) (grant_is_no_account row a plain) ∙ or-false (has_row old row))))
            (λ b. ap (option_map (known_at new.account_data)) (added b) ∙ known_there b (same_auth b a) refl (number_of old.accounts.names b) refl ∙ guarded b (same_auth b a))
            roles activate

    -- ---- an account goes

    module _ (was : name_at old.accounts.names number ≡ Some a) (once : HasEachOnce same_auth old.accounts.names)
        (only : ChangesOnly old.accounts.names new.accounts.names number None) where
      removed : (b : AuthId) → number_of new.accounts.names b ≡ cond (same_auth b a) None (number_of old.accounts.names b)
      removed b = number_removed old.accounts.names new.accounts.names number a was once only b

      had : (b : AuthId) → same_auth b a ≡ true → number_of old.accounts.names b ≡ Some number
      had b same = ap (number_of old.accounts.names) (equal_from_same_auth b a same) ∙ number_is old.accounts.names once a number was

      parts_go : (row : Row) (t u : Bool) → same_auth (first_of row) a ≡ t → same_auth (second_of row) a ≡ u
          → holds_some new.holdings (two_numbers (shape row) (cond t None (number_of old.accounts.names (first_of row))) (cond u None (number_of old.accounts.names (second_of row))))
          ≡ holds_some old.holdings (two_numbers (shape row) (number_of old.accounts.names (first_of row)) (number_of old.accounts.names (second_of row)))
      parts_go row true u first second =
          sym (ap (λ o. holds_some old.holdings (two_numbers (shape row) o (number_of old.accounts.names (second_of row)))) (had (first_of row) first)
          ∙ first_unused number unused row (number_of old.accounts.names (second_of row)))
      parts_go row false true first second =
          alike_parts row (number_of old.accounts.names (first_of row)) None ∙ none_second row (number_of old.accounts.names (first_of row))
          ∙ sym (ap (λ o. holds_some old.holdings (two_numbers (shape row) (number_of old.accounts.names (first_of row)) o)) (had (second_of row) second)
          ∙ second_unused number unused row a first second (number_of old.accounts.names (first_of row)))
      parts_go row false false first second = alike_parts row (number_of old.accounts.names (first_of row)) (number_of old.accounts.names (second_of row))

      row_remains : (row : Row) → is_account row ≡ false → has_row new row ≡ has_row old row
      row_remains row plain =
          has_row-holding new row plain ∙ ap (holds_some new.holdings) (in_parts new.accounts.names row plain)
          ∙ ap (λ o. holds_some new.holdings (two_numbers (shape row) o (number_of new.accounts.names (second_of row)))) (removed (first_of row))
          ∙ ap (λ o. holds_some new.holdings (two_numbers (shape row) (cond (same_auth (first_of row) a) None (number_of old.accounts.names (first_of row))) o)) (removed (second_of row))
          ∙ parts_go row (same_auth (first_of row) a) (same_auth (second_of row) a) refl refl
          ∙ sym (has_row-holding old row plain ∙ ap (holds_some old.holdings) (in_parts old.accounts.names row plain))

      account_left : (b : AuthId) (t : Bool) → is_some (cond t None (number_of old.accounts.names b)) ≡ (is_some (number_of old.accounts.names b) && not t)
      account_left b true = sym (and_last (is_some (number_of old.accounts.names b)))
      account_left b false = sym (and-true (is_some (number_of old.accounts.names b)))

      module _ (known : (k : ℕ) → (k == number) ≡ false → known_at new.account_data k ≡ known_at old.account_data k) where
        other_number : (b : AuthId) → same_auth b a ≡ false → (k : ℕ) → number_of old.accounts.names b ≡ Some k → (k == number) ≡ false
        other_number b differs k found = by (k == number) refl
          where
            by : (t : Bool) → (k == number) ≡ t → t ≡ false
            by false is = refl
            by true is =
                let equal : Some b ≡ Some a = sym (named_at old.accounts.names b k found) ∙ ap (name_at old.accounts.names) (eqb-true k number is) ∙ was in
                let e : b ≡ a = cc in
                absurd (true≢false (sym (same_auth_itself a) ∙ ap (λ x. same_auth x a) (sym e) ∙ differs))

        known_left : (b : AuthId) (t : Bool) → same_auth b a ≡ t → (o : Option ℕ) → number_of old.accounts.names b ≡ o
            → option_map (known_at new.account_data) (cond t None o) ≡ cond t None (option_map (known_at old.account_data) o)
        known_left b true same o found = refl
        known_left b false same None found = refl
        known_left b false same (Some k) found = ap (λ x. Some x) (known k (other_number b same k found))

        pub account_goes : new.mandatory ≡ old.mandatory → new.activate_all ≡ old.activate_all → state_of new ≡ without_row (Account a) (state_of old)
        unfolding state_of without_row
        account_goes roles activate =
            same_state _ _
            (by_kind (λ row. has_row new row ≡ (has_row old row && not (same_row row (Account a))))
            (λ b. ap is_some (removed b) ∙ account_left b (same_auth b a))
            (λ row plain. row_remains row plain ∙ sym (ap (λ t. has_row old row && not t) (grant_is_no_account row a plain) ∙ and-true (has_row old row))))
            (λ b. ap (option_map (known_at new.account_data)) (removed b) ∙ known_left b (same_auth b a) refl (number_of old.accounts.names b) refl)
            roles activate

-- ---- an account gets another name

module _ (old : Tables) (names : Names) (number : ℕ) (a c : AuthId) (was : name_at old.accounts.names number ≡ Some a)
    (once : HasEachOnce same_auth old.accounts.names) (fresh : IsNew same_auth old.accounts.names c) (only : ChangesOnly old.accounts.names names number (Some c)) where
  abbrev pairs : List (AuthId × AuthId)
  pairs = (a, c) ∷ []

  abbrev stood : Option Row → Bool
  stood None = false
  stood (Some row) = has_row old row

  moved : (b : AuthId) → number_of names b ≡ number_before old.accounts.names (before_pair a c b)
  moved b = number_renamed old.accounts.names names number a c was once fresh only b

  one_before : (row : AuthId → Row) (holding : ℕ → Holding) → ((x : AuthId) → has_row old (row x) ≡ holds_some old.holdings (one_number holding (number_of old.accounts.names x)))
      → (o : Option AuthId) → holds_some old.holdings (one_number holding (number_before old.accounts.names o)) ≡ stood (one_name row o)
  one_before row holding reads None = refl
  one_before row holding reads (Some x) = sym (reads x)

  two_before : (row : AuthId → AuthId → Row) (holding : ℕ → ℕ → Holding)
      → ((x y : AuthId) → has_row old (row x y) ≡ holds_some old.holdings (two_numbers holding (number_of old.accounts.names x) (number_of old.accounts.names y)))
      → (o u : Option AuthId) → holds_some old.holdings (two_numbers holding (number_before old.accounts.names o) (number_before old.accounts.names u)) ≡ stood (two_names row o u)
  two_before row holding reads None u = refl
  two_before row holding reads (Some x) None = none_there (number_of old.accounts.names x)
    where
      none_there : (o : Option ℕ) → holds_some old.holdings (two_numbers holding o None) ≡ false
      none_there None = refl
      none_there (Some m) = refl
  two_before row holding reads (Some x) (Some y) = sym (reads x y)

  one_moved : (row : AuthId → Row) (holding : ℕ → Holding) → ((x : AuthId) → has_row old (row x) ≡ holds_some old.holdings (one_number holding (number_of old.accounts.names x)))
      → (b : AuthId) → holds_some old.holdings (one_number holding (number_of names b)) ≡ stood (one_name row (before_pair a c b))
  one_moved row holding reads b =
      ap (λ o. holds_some old.holdings (one_number holding o)) (moved b) ∙ one_before row holding reads (before_pair a c b)

  two_moved : (row : AuthId → AuthId → Row) (holding : ℕ → ℕ → Holding)
      → ((x y : AuthId) → has_row old (row x y) ≡ holds_some old.holdings (two_numbers holding (number_of old.accounts.names x) (number_of old.accounts.names y)))
      → (b d : AuthId) → holds_some old.holdings (two_numbers holding (number_of names b) (number_of names d)) ≡ stood (two_names row (before_pair a c b) (before_pair a c d))
  two_moved row holding reads b d =
      ap (λ o. holds_some old.holdings (two_numbers holding o (number_of names d))) (moved b)
      ∙ ap (λ o. holds_some old.holdings (two_numbers holding (number_before old.accounts.names (before_pair a c b)) o)) (moved d)
      ∙ two_before row holding reads (before_pair a c b) (before_pair a c d)

  account_before : (o : Option AuthId) → is_some (number_before old.accounts.names o) ≡ stood (one_name Account o)
  account_before None = refl
  account_before (Some x) = refl

  abbrev with_names : Tables
  with_names = record old { accounts = record old.accounts { names = names } }

  row_moved : (row : Row) → has_row with_names row ≡ stood (row_before pairs row)
  row_moved (Account b) = ap is_some (moved b) ∙ account_before (before_pair a c b)
  row_moved (Global b p) = one_moved (λ x. Global x p) (λ n. held.OnAll kind.Static n p) (λ x. refl) b
  row_moved (Dynamic b d) = one_moved (λ x. Dynamic x d) (λ n. held.OnAll kind.Dynamic n d) (λ x. refl) b
  row_moved (DynamicGrant b d) = one_moved (λ x. DynamicGrant x d) (λ n. held.OnAll kind.Grantable n d) (λ x. refl) b
  row_moved (Schema b s p) = one_moved (λ x. Schema x s p) (λ n. held.OnSchema n s p) (λ x. refl) b
  row_moved (Table b s t p) = one_moved (λ x. Table x s t p) (λ n. held.OnObject n (object.Table s t) p) (λ x. refl) b
  row_moved (Column b s t c p) = one_moved (λ x. Column x s t c p) (λ n. held.OnObject n (object.Column s t c) p) (λ x. refl) b
  row_moved (Function b s f p) = one_moved (λ x. Function x s f p) (λ n. held.OnObject n (object.Function s f) p) (λ x. refl) b
  row_moved (Procedure b s f p) = one_moved (λ x. Procedure x s f p) (λ n. held.OnObject n (object.Procedure s f) p) (λ x. refl) b
  row_moved (Edge role to) = two_moved Edge held.Edge (λ x y. refl) role to
  row_moved (Admin role to) = two_moved Admin held.Admin (λ x y. refl) role to
  row_moved (Default of role) = two_moved Default held.Default (λ x y. refl) of role
  row_moved (Restriction b p s) = one_moved (λ x. Restriction x p s) (λ n. held.Restricted n s p) (λ x. refl) b

  data_before : (o : Option AuthId) → option_map (known_at old.account_data) (number_before old.accounts.names o) ≡ data_of_old (state_of old) o
  unfolding state_of
  data_before None = refl
  data_before (Some x) = refl

  stood_alike : (row : Row) → stood (row_before pairs row) ≡ stood_before (RenameUser pairs) (state_of old) row
  unfolding state_of
  stood_alike row = by (row_before pairs row) refl
    where
      by : (o : Option Row) → row_before pairs row ≡ o → stood (row_before pairs row) ≡ stood_before (RenameUser pairs) (state_of old) row
      by None is = rw is refl
      by (Some r) is = rw is refl

  pub account_renamed : (room : ℕ) → state_of (record old { accounts = record { names = names; room = room } }) ≡ renamed a c (state_of old)
  unfolding state_of renamed
  account_renamed room =
      same_state _ _ (λ row. row_moved row ∙ stood_alike row)
      (λ b. ap (option_map (known_at old.account_data)) (moved b) ∙ data_before (before_pair a c b)) refl refl

-- ---- an account gets other data

module _ (old : Tables) (number : ℕ) (a : AuthId) (known : List AccountData) (value : AccountData) (at : number_of old.accounts.names a ≡ Some number)
    (once : HasEachOnce same_auth old.accounts.names) (only : ChangesDataOnly old.account_data known number value) where
  data_there : (b : AuthId) (t : Bool) → same_auth b a ≡ t → (o : Option ℕ) → number_of old.accounts.names b ≡ o
      → option_map (known_at known) o ≡ cond t (Some value) (option_map (known_at old.account_data) o)
  data_there b true same None found = cc (ap (number_of old.accounts.names) (equal_from_same_auth b a same), at, found)
  data_there b true same (Some k) found =
      let equal : Some k ≡ Some number = sym found ∙ ap (number_of old.accounts.names) (equal_from_same_auth b a same) ∙ at in
      let e : k ≡ number = cc in
      ap (λ x. Some x) (only k ∙ rw (eq-eqb k number e) refl)
  data_there b false differs None found = refl
  data_there b false differs (Some k) found = ap (λ x. Some x) (only k ∙ rw (apart (k == number) refl) refl)
    where
      apart : (t : Bool) → (k == number) ≡ t → (k == number) ≡ false
      apart false is = is
      apart true is =
          let first : Some b ≡ name_at old.accounts.names number = sym (named_at old.accounts.names b k found) ∙ ap (name_at old.accounts.names) (eqb-true k number is) in
          let equal : Some b ≡ Some a = first ∙ named_at old.accounts.names a number at in
          let e : b ≡ a = cc in
          absurd (true≢false (sym (same_auth_itself a) ∙ ap (λ x. same_auth x a) (sym e) ∙ differs))

  pub data_changes : state_of (record old { account_data = known }) ≡ with_data a value (state_of old)
  unfolding state_of with_data
  data_changes =
      same_state _ _ (by_kind (λ row. has_row (record old { account_data = known }) row ≡ has_row old row) (λ b. refl)
      (λ row plain. has_row-holding (record old { account_data = known }) row plain ∙ sym (has_row-holding old row plain)))
      (λ b. data_there b (same_auth b a) refl (number_of old.accounts.names b) refl) refl refl
