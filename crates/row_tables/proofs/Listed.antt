-- Rows of listed holdings.
use Rattle.std.proofs.Common.{◌≡◌, ◌∙◌, ◌⊎◌, refl, sym, ap, ℕ, Bool, true, false, ◌==◌, ◌||◌, ◌&&◌, List, [], ◌∷◌, ◌++◌, map, Option, None, Some, is_some, length, get_or, ◌<◌, inl, inr}
use Rattle.std.specs.List.{list_any}
use Rattle.std.proofs.lemmas.Bool.{and_parts, eq-eqb, eqb-true, true≢false}
use Rattle.std.proofs.lemmas.List.Folds.{Any-from_list_any, list_any-append, list_any-from_Any}
use Rattle.std.proofs.lemmas.Option.{same_Some}
use Rattle.std.proofs.Math.Bool.{or-false}
use Rattle.account_holdings.proofs.SameHoldings.{equal_from_same_holding, same_holding_itself}
use Rattle.account_holdings.specs.Holdings.{holds, names_number, same_holding}
use Rattle.account_holdings.specs.declared.holding.Holding.{Holding}
use Rattle.acl_model.proofs.SameRows.{equal_from_same_row, same_row_from_equal}
use Rattle.acl_model.specs.Rows.{holder, same_row, some_name}
use Rattle.acl_model.specs.declared.row.Row.{Row}
use Rattle.acl_model.specs.declared.row.Row.TheVariants.{Account, Global, Dynamic, DynamicGrant, Schema, Table, Column, Function, Procedure, Edge, Admin, Default, Restriction}
use Rattle.acl_names.proofs.SameAuth.{equal_from_same_auth, same_auth_itself}
use Rattle.acl_names.specs.AuthId.{same_auth}
use Rattle.acl_names.specs.declared.auth.AuthId.{AuthId}
use Rattle.holding_lists.specs.Holders.{holder_of}
use Rattle.numbered_names.specs.Numbered.{IsListOf, is_name, name_at}
use Rattle.numbered_rows.proofs.Entries.{any_mapped, decides}
use Rattle.numbered_rows.proofs.Matching.{first_of, in_parts, row_again, second_of, shape}
use Rattle.numbered_rows.proofs.Numbers.{Names, named_at, number_none}
use Rattle.numbered_rows.proofs.Standing.{held_stand, holding_again}
use Rattle.numbered_rows.proofs.States.{by_kind, grant_is_no_account, has_row-holding}
use Rattle.numbered_rows.specs.Conditions.{is_account}
use Rattle.numbered_rows.specs.NamedRows.{row_of}
use Rattle.numbered_rows.specs.Numbering.{holding_of, holds_some, number_of, two_numbers}
use Rattle.numbered_rows.specs.Tables.{AreSound, Tables, has_row, state_of}

never_so : (t : Bool) → false ≡ (t && false)
never_so true = refl
never_so false = refl

-- ---- whom a holding names

module _ (names : Names) (a : AuthId) (number : ℕ) (found : number_of names a ≡ Some number) where
  -- an account is this one exactly where it has this number
  number_tells : (b : AuthId) (n : ℕ) → number_of names b ≡ Some n → (n == number) ≡ same_auth a b
  number_tells b n at = by (n == number) refl (same_auth a b) refl
    where
      by : (t : Bool) → (n == number) ≡ t → (u : Bool) → same_auth a b ≡ u → t ≡ u
      by true same true known = refl
      by false apart false known = refl
      by true same false known =
          let equal : Some a ≡ Some b = sym (named_at names a number found) ∙ ap (name_at names) (sym (eqb-true n number same)) ∙ named_at names b n at in
          let e : a ≡ b = cc in
          absurd (true≢false (sym (same_auth_itself a) ∙ ap (same_auth a) e ∙ known))
      by false apart true known =
          let equal : Some n ≡ Some number = sym at ∙ ap (number_of names) (sym (equal_from_same_auth a b known)) ∙ found in
          let e : n ≡ number = cc in
          absurd (true≢false (sym (eq-eqb n number e) ∙ apart))

  numbers_of : (row : Row) (g : Holding) → is_account row ≡ false → holding_of names row ≡ Some g
      → (m : ℕ) × (n : ℕ) × (number_of names (first_of row) ≡ Some m) × (number_of names (second_of row) ≡ Some n) × (g ≡ shape row m n)
  numbers_of row g other is = by (number_of names (first_of row)) refl (number_of names (second_of row)) refl (sym (in_parts names row other) ∙ is)
    where
      by : (o : Option ℕ) → number_of names (first_of row) ≡ o → (u : Option ℕ) → number_of names (second_of row) ≡ u → two_numbers (shape row) o u ≡ Some g
          → (m : ℕ) × (n : ℕ) × (number_of names (first_of row) ≡ Some m) × (number_of names (second_of row) ≡ Some n) × (g ≡ shape row m n)
      by None first u second same = cc
      by (Some m) first None second same = cc
      by (Some m) first (Some n) second same = (m, n, first, second, cc)

  shape_held : (row : Row) (m n : ℕ) → number_of names (first_of row) ≡ Some m → number_of names (second_of row) ≡ Some n → is_account row ≡ false
      → (holder_of (shape row m n) == number) ≡ same_auth a (holder row)
  shape_held (Account b) m n first second other = cc
  shape_held (Edge role to) m n first second other = number_tells to n second
  shape_held (Admin role to) m n first second other = number_tells to n second
  shape_held (Default of role) m n first second other = number_tells of m first
  shape_held (Global b p) m n first second other = number_tells b m first
  shape_held (Dynamic b d) m n first second other = number_tells b m first
  shape_held (DynamicGrant b d) m n first second other = number_tells b m first
  shape_held (Schema b s p) m n first second other = number_tells b m first
  shape_held (Table b s t p) m n first second other = number_tells b m first
  shape_held (Column b s t c p) m n first second other = number_tells b m first
  shape_held (Function b s f p) m n first second other = number_tells b m first
  shape_held (Procedure b s f p) m n first second other = number_tells b m first
  shape_held (Restriction b p s) m n first second other = number_tells b m first

  both_tell : (b c : AuthId) (m n : ℕ) → number_of names b ≡ Some m → number_of names c ≡ Some n → (m == number || n == number) ≡ (same_auth a b || same_auth a c)
  both_tell b c m n first second = ap (λ t. t || n == number) (number_tells b m first) ∙ ap (λ t. same_auth a b || t) (number_tells c n second)

  shape_named : (row : Row) (m n : ℕ) → number_of names (first_of row) ≡ Some m → number_of names (second_of row) ≡ Some n → is_account row ≡ false
      → names_number number (shape row m n) ≡ some_name (same_auth a) row
  shape_named (Account b) m n first second other = cc
  shape_named (Edge role to) m n first second other = both_tell role to m n first second
  shape_named (Admin role to) m n first second other = both_tell role to m n first second
  shape_named (Default of role) m n first second other = both_tell of role m n first second
  shape_named (Global b p) m n first second other = number_tells b m first
  shape_named (Dynamic b d) m n first second other = number_tells b m first
  shape_named (DynamicGrant b d) m n first second other = number_tells b m first
  shape_named (Schema b s p) m n first second other = number_tells b m first
  shape_named (Table b s t p) m n first second other = number_tells b m first
  shape_named (Column b s t c p) m n first second other = number_tells b m first
  shape_named (Function b s f p) m n first second other = number_tells b m first
  shape_named (Procedure b s f p) m n first second other = number_tells b m first
  shape_named (Restriction b p s) m n first second other = number_tells b m first

  pub held_by : (row : Row) (g : Holding) → is_account row ≡ false → holding_of names row ≡ Some g → (holder_of g == number) ≡ same_auth a (holder row)
  held_by row g other is =
      let parts = numbers_of row g other is in
      ap (λ h. holder_of h == number) parts.4 ∙ shape_held row parts.0 parts.1 parts.2 parts.3 other

  pub named_by : (row : Row) (g : Holding) → is_account row ≡ false → holding_of names row ≡ Some g → names_number number g ≡ some_name (same_auth a) row
  named_by row g other is =
      let parts = numbers_of row g other is in
      ap (names_number number) parts.4 ∙ shape_named row parts.0 parts.1 parts.2 parts.3 other

-- ---- rows of the holdings that pass a test

module _ (tables : Tables) (sound : AreSound tables) (list : List Holding) (of_holding : Holding → Bool) (of_row : Row → Bool)
    (listed : (h : Holding) → list_any (same_holding h) list ≡ (holds tables.holdings h && of_holding h))
    (tells : (row : Row) (g : Holding) → is_account row ≡ false → holding_of tables.accounts.names row ≡ Some g → of_holding g ≡ of_row row) where
  abbrev names : Names
  names = tables.accounts.names

  -- a listed holding is held, and the row of its row
  stands_listed : (k : ℕ) (h : Holding) → k < length list → get_or list k h ≡ h → holding_of names (row_of names h) ≡ Some h
  stands_listed k h inside at =
      let there : list_any (same_holding h) list ≡ true = list_any-from_Any (same_holding h) list (k, h, inside, at, same_holding_itself h) in
      let both = and_parts (holds tables.holdings h) (of_holding h) (sym (listed h) ∙ there) in
      holding_again names sound.once h (held_stand tables sound.once sound.well h both.0)

  from_list : (row : Row) (o : Option Holding) → holding_of names row ≡ o → list_any (λ h. same_row row (row_of names h)) list ≡ true
      → (g : Holding) × (o ≡ Some g) × (list_any (same_holding g) list ≡ true)
  from_list row o known any =
      let found = Any-from_list_any (λ h. same_row row (row_of names h)) list any in
      let h = found.1 in
      let equal : row ≡ row_of names h = equal_from_same_row row (row_of names h) found.4 in (
        h,
        sym known ∙ ap (holding_of names) equal ∙ stands_listed found.0 h found.2 found.3,
        list_any-from_Any (same_holding h) list (found.0, h, found.2, found.3, same_holding_itself h),
      )

  into_list : (row : Row) (g : Holding) → holding_of names row ≡ Some g → list_any (same_holding g) list ≡ true → list_any (λ h. same_row row (row_of names h)) list ≡ true
  into_list row g is there =
      let found = Any-from_list_any (same_holding g) list there in
      let equal : row ≡ row_of names found.1 = sym (row_again names row g is) ∙ ap (row_of names) (equal_from_same_holding g found.1 found.4) in
      list_any-from_Any (λ h. same_row row (row_of names h)) list (found.0, found.1, found.2, found.3, same_row_from_equal row (row_of names found.1) equal)

  same_lists : (row : Row) (g : Holding) → holding_of names row ≡ Some g → list_any (λ h. same_row row (row_of names h)) list ≡ list_any (same_holding g) list
  same_lists row g is = by (list_any (λ h. same_row row (row_of names h)) list) refl (list_any (same_holding g) list) refl
    where
      by : (t : Bool) → list_any (λ h. same_row row (row_of names h)) list ≡ t → (u : Bool) → list_any (same_holding g) list ≡ u → t ≡ u
      by true any true there = refl
      by false none false gone = refl
      by true any false gone =
          let found = from_list row (Some g) is any in
          let e : g ≡ found.0 = same_Some g found.0 found.1 in
          absurd (true≢false (sym found.2 ∙ ap (λ x. list_any (same_holding x) list) (sym e) ∙ gone))
      by false none true there = absurd (true≢false (sym (into_list row g is there) ∙ none))

  none_listed : (row : Row) → holding_of names row ≡ None → list_any (λ h. same_row row (row_of names h)) list ≡ false
  none_listed row none = by (list_any (λ h. same_row row (row_of names h)) list) refl
    where
      by : (t : Bool) → list_any (λ h. same_row row (row_of names h)) list ≡ t → t ≡ false
      by false is = refl
      by true is = let found = from_list row None none is in cc found.1

  -- the rows of the list are the rows that stand and pass
  pub rows_listed : (row : Row) → is_account row ≡ false → list_any (same_row row) (map (row_of names) list) ≡ (has_row tables row && of_row row)
  rows_listed row other =
      any_mapped (row_of names) (same_row row) list ∙ by (holding_of names row) refl
      ∙ ap (λ t. t && of_row row) (sym (has_row-holding tables row other))
    where
      by : (o : Option Holding) → holding_of names row ≡ o → list_any (λ h. same_row row (row_of names h)) list ≡ (holds_some tables.holdings o && of_row row)
      by None is = none_listed row is
      by (Some g) is = same_lists row g is ∙ listed g ∙ ap (λ t. holds tables.holdings g && t) (tells row g other is)

  no_account_listed : (a : AuthId) → list_any (same_row (Account a)) (map (row_of names) list) ≡ false
  no_account_listed a = any_mapped (row_of names) (same_row (Account a)) list ∙ none_listed (Account a) refl

  -- with the row of the account itself
  module _ (a : AuthId) (stands_so : is_some (number_of names a) ≡ true) (own : (b : AuthId) → of_row (Account b) ≡ same_auth a b) where
    own_row : (b : AuthId) (t : Bool) → same_auth b a ≡ t → (u : Bool) → same_auth a b ≡ u → t ≡ (is_some (number_of names b) && u)
    own_row b true same true known = sym (ap (λ x. is_some (number_of names x) && true) (equal_from_same_auth b a same) ∙ ap (λ t. t && true) stands_so)
    own_row b true same false known = absurd (true≢false (sym (same_auth_itself a) ∙ ap (same_auth a) (sym (equal_from_same_auth b a same)) ∙ known))
    own_row b false differs true known = absurd (true≢false (sym (same_auth_itself a) ∙ ap (λ x. same_auth x a) (equal_from_same_auth a b known) ∙ differs))
    own_row b false differs false known = never (is_some (number_of names b))
      where
        never : (t : Bool) → false ≡ (t && false)
        never true = refl
        never false = refl

    pub all_rows_listed : (row : Row) → list_any (same_row row) (map (row_of names) list ++ Account a ∷ []) ≡ (has_row tables row && of_row row)
    all_rows_listed =
        by_kind (λ row. list_any (same_row row) (map (row_of names) list ++ Account a ∷ []) ≡ (has_row tables row && of_row row))
        (λ b. list_any-append (same_row (Account b)) (map (row_of names) list) (Account a ∷ []) ∙ ap (λ t. t || (same_auth b a || false)) (no_account_listed b)
        ∙ or-false (same_auth b a) ∙ own_row b (same_auth b a) refl (same_auth a b) refl ∙ ap (λ t. is_some (number_of names b) && t) (sym (own b)))
        (λ row other. list_any-append (same_row row) (map (row_of names) list) (Account a ∷ []) ∙ ap (λ t. list_any (same_row row) (map (row_of names) list) || (t || false)) (grant_is_no_account row a other)
        ∙ or-false (list_any (same_row row) (map (row_of names) list)) ∙ rows_listed row other)

-- ---- whose number is not found

turned_test : (a b : AuthId) → same_auth a b ≡ same_auth b a
turned_test a b = (decides same_auth equal_from_same_auth same_auth_itself).symm a b

either_of : (x y : Bool) → (x || y) ≡ true → (x ≡ true) ⊎ (y ≡ true)
either_of true y is = inl refl
either_of false y is = inr is

-- no row that stands is held by an account that does not stand
module _ (tables : Tables) (a : AuthId) (none : number_of tables.accounts.names a ≡ None) where
  account_apart : (b : AuthId) (t : Bool) → same_auth b a ≡ t → false ≡ (is_some (number_of tables.accounts.names b) && t)
  account_apart b true same = sym (ap (λ o. is_some o && true) (ap (number_of tables.accounts.names) (equal_from_same_auth b a same) ∙ none))
  account_apart b false differs = never_so (is_some (number_of tables.accounts.names b))

  other_apart : (row : Row) → is_account row ≡ false → (test : Bool) → (test ≡ true → (same_auth a (first_of row) ≡ true) ⊎ (same_auth a (second_of row) ≡ true)) → false ≡ (has_row tables row && test)
  other_apart row other false names_it = never_so (has_row tables row)
  other_apart row other true names_it = sym (ap (λ t. t && true) (has_row-holding tables row other ∙ ap (holds_some tables.holdings) (in_parts tables.accounts.names row other) ∙ gone (names_it refl)))
    where
      none_second : (o : Option ℕ) → holds_some tables.holdings (two_numbers (shape row) o None) ≡ false
      none_second None = refl
      none_second (Some m) = refl

      gone : (same_auth a (first_of row) ≡ true) ⊎ (same_auth a (second_of row) ≡ true)
          → holds_some tables.holdings (two_numbers (shape row) (number_of tables.accounts.names (first_of row)) (number_of tables.accounts.names (second_of row))) ≡ false
      gone (inl first) =
          ap (λ o. holds_some tables.holdings (two_numbers (shape row) o (number_of tables.accounts.names (second_of row))))
          (ap (number_of tables.accounts.names) (sym (equal_from_same_auth a (first_of row) first)) ∙ none)
      gone (inr second) =
          ap (λ o. holds_some tables.holdings (two_numbers (shape row) (number_of tables.accounts.names (first_of row)) o))
          (ap (number_of tables.accounts.names) (sym (equal_from_same_auth a (second_of row) second)) ∙ none)
          ∙ none_second (number_of tables.accounts.names (first_of row))

  holder_is : (row : Row) → same_auth (holder row) a ≡ true → (same_auth a (first_of row) ≡ true) ⊎ (same_auth a (second_of row) ≡ true)
  holder_is (Edge role to) is = inr (turned_test a to ∙ is)
  holder_is (Admin role to) is = inr (turned_test a to ∙ is)
  holder_is (Default of role) is = inl (turned_test a of ∙ is)
  holder_is (Account b) is = inl (turned_test a b ∙ is)
  holder_is (Global b p) is = inl (turned_test a b ∙ is)
  holder_is (Dynamic b d) is = inl (turned_test a b ∙ is)
  holder_is (DynamicGrant b d) is = inl (turned_test a b ∙ is)
  holder_is (Schema b s p) is = inl (turned_test a b ∙ is)
  holder_is (Table b s t p) is = inl (turned_test a b ∙ is)
  holder_is (Column b s t c p) is = inl (turned_test a b ∙ is)
  holder_is (Function b s f p) is = inl (turned_test a b ∙ is)
  holder_is (Procedure b s f p) is = inl (turned_test a b ∙ is)
  holder_is (Restriction b p s) is = inl (turned_test a b ∙ is)

  name_is : (row : Row) → some_name (same_auth a) row ≡ true → (same_auth a (first_of row) ≡ true) ⊎ (same_auth a (second_of row) ≡ true)
  name_is (Edge role to) is = either_of (same_auth a role) (same_auth a to) is
  name_is (Admin role to) is = either_of (same_auth a role) (same_auth a to) is
  name_is (Default of role) is = either_of (same_auth a of) (same_auth a role) is
  name_is (Account b) is = inl is
  name_is (Global b p) is = inl is
  name_is (Dynamic b d) is = inl is
  name_is (DynamicGrant b d) is = inl is
  name_is (Schema b s p) is = inl is
  name_is (Table b s t p) is = inl is
  name_is (Column b s t c p) is = inl is
  name_is (Function b s f p) is = inl is
  name_is (Procedure b s f p) is = inl is
  name_is (Restriction b p s) is = inl is

  -- nothing is held by it
  pub none_held : (row : Row) → false ≡ (has_row tables row && same_auth (holder row) a)
  none_held = by_kind (λ row. false ≡ (has_row tables row && same_auth (holder row) a)) (λ b. account_apart b (same_auth b a) refl)
      (λ row other. other_apart row other (same_auth (holder row) a) (holder_is row))

  -- and nothing names it
  pub none_naming : (row : Row) → false ≡ (has_row tables row && some_name (same_auth a) row)
  none_naming = by_kind (λ row. false ≡ (has_row tables row && some_name (same_auth a) row)) (λ b. account_turned b)
      (λ row other. other_apart row other (some_name (same_auth a) row) (name_is row))
    where
      account_turned : (b : AuthId) → false ≡ (is_some (number_of tables.accounts.names b) && same_auth a b)
      account_turned b = account_apart b (same_auth b a) refl ∙ ap (λ t. is_some (number_of tables.accounts.names b) && t) (turned_test b a)

-- ---- the two lists of an account

module _ (tables now : Tables) (seen : tables ≡ now) (sound : AreSound tables) (a : AuthId) where
  pub own_rows : (number : ℕ) (list : List Holding) → number_of tables.accounts.names a ≡ Some number
      → ((h : Holding) → list_any (same_holding h) list ≡ (holds tables.holdings h && holder_of h == number))
      → (row : Row) → list_any (same_row row) (map (row_of tables.accounts.names) list ++ Account a ∷ []) ≡ ((state_of now).rows row && same_auth (holder row) a)
  unfolding state_of
  own_rows number list found listed row =
      all_rows_listed tables sound list (λ h. holder_of h == number) (λ r. same_auth (holder r) a) listed
      (λ r g other is. held_by tables.accounts.names a number found r g other is ∙ turned_test a (holder r)) a (ap is_some found) (λ b. turned_test b a) row
      ∙ ap (λ t. has_row t row && same_auth (holder row) a) seen

  pub naming_rows : (number : ℕ) (list : List Holding) → number_of tables.accounts.names a ≡ Some number
      → ((h : Holding) → list_any (same_holding h) list ≡ (holds tables.holdings h && names_number number h))
      → (row : Row) → list_any (same_row row) (map (row_of tables.accounts.names) list ++ Account a ∷ []) ≡ ((state_of now).rows row && some_name (same_auth a) row)
  unfolding state_of
  naming_rows number list found listed row =
      all_rows_listed tables sound list (names_number number) (some_name (same_auth a)) listed (named_by tables.accounts.names a number found) a (ap is_some found) (λ b. refl) row
      ∙ ap (λ t. has_row t row && some_name (same_auth a) row) seen

pub no_own_rows : (now : Tables) (a : AuthId) → number_of now.accounts.names a ≡ None → (row : Row) → false ≡ ((state_of now).rows row && same_auth (holder row) a)
unfolding state_of
no_own_rows now a none row = none_held now a none row

pub no_naming_rows : (now : Tables) (a : AuthId) → number_of now.accounts.names a ≡ None → (row : Row) → false ≡ ((state_of now).rows row && some_name (same_auth a) row)
unfolding state_of
no_naming_rows now a none row = none_naming now a none row

-- ---- accounts

-- a list of the names that stand has those that are found
pub names_listed : (names : Names) (listed : List AuthId) → IsListOf same_auth names listed → (a : AuthId) → list_any (same_auth a) listed ≡ is_some (number_of names a)
names_listed names listed all a = by (list_any (same_auth a) listed) refl (number_of names a) refl
  where
    by : (t : Bool) → list_any (same_auth a) listed ≡ t → (o : Option ℕ) → number_of names a ≡ o → t ≡ is_some o
    by true any (Some n) found = refl
    by false none None found = refl
    by true any None found =
        let here = Any-from_list_any (same_auth a) listed any in
        let there = all.stand here.0 here.1 here.2 in
        let named : is_name same_auth a (name_at names there.0) ≡ true =
        ap (is_name same_auth a) (there.1 ∙ ap (λ b. Some b) (here.3 ∙ sym (equal_from_same_auth a here.1 here.4))) ∙ same_auth_itself a in
        absurd (true≢false (sym named ∙ number_none names a found there.0))
    by false none (Some n) found =
        let there = all.all n a (named_at names a n found) in
        let any : list_any (same_auth a) listed ≡ true = list_any-from_Any (same_auth a) listed (there.0, a, there.1, there.2, same_auth_itself a) in
        absurd (true≢false (sym any ∙ none))
