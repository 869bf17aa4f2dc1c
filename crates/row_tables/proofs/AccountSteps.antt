-- Accounts that come, go, are renamed and get other data.
use Rattle.std.proofs.Common.{◌≡◌, ◌∙◌, refl, sym, ap, subst, ℕ, zero, suc, ◌<◌, ◌≤◌, ◌+◌, Bool, true, false, cond, not, ◌&&◌, ◌||◌, List, [], ◌∷◌, length, max, count_by, Option, None, Some, is_some, IsSome, IsTrue, MatchBool, if◌then◌else◌, inl, inr, arith}
use Rattle.std.specs.Option.{option_map}
use Rattle.std.proofs.lemmas.Bool.{cases_lt, eq-eqb, true≢false, lt-ltb}
use Rattle.std.proofs.lemmas.List.Sums.{sum_by-cons}
use Rattle.std.proofs.Math.Bool.{and-true, or-false}
use Rattle.account_holdings.specs.Holdings.{HoldAlike}
use Rattle.acl_model.proofs.SameRows.{equal_from_same_row}
use Rattle.acl_model.specs.Accounts.{new_account}
use Rattle.acl_model.specs.Counts.{HasMoreThan}
use Rattle.acl_model.specs.Rows.{same_row}
use Rattle.acl_model.specs.State.{stands}
use Rattle.acl_model.specs.declared.account_data.AccountData.{AccountData}
use Rattle.acl_model.specs.declared.row.Row.{Row}
use Rattle.acl_model.specs.declared.row.Row.TheVariants.{Account}
use Rattle.acl_names.proofs.SameAuth.{equal_from_same_auth}
use Rattle.acl_names.specs.AuthId.{same_auth}
use Rattle.acl_names.specs.declared.auth.AuthId.{AuthId}
use Rattle.numbered_names.specs.Numbered.{ChangesOnly, IsNew, Numbered, name_at}
use Rattle.numbered_rows.proofs.AccountChanges.{account_comes, account_goes, account_renamed, data_changes}
use Rattle.numbered_rows.proofs.Basis.{basis_alike}
use Rattle.numbered_rows.proofs.Levels.{levels_alike}
use Rattle.numbered_rows.proofs.Counts.{over_accounts}
use Rattle.numbered_rows.proofs.Matching.{or_last}
use Rattle.numbered_rows.proofs.Numbers.{Names, named_at, number_is, number_none, once_added, once_removed, once_renamed}
use Rattle.numbered_rows.proofs.Standing.{unused_from_unnamed, well_alike, well_named, well_removed}
use Rattle.numbered_rows.proofs.States.{same_state}
use Rattle.numbered_rows.specs.Conditions.{HasRoom, IsUnnamed}
use Rattle.numbered_rows.specs.Numbering.{number_of}
use Rattle.numbered_rows.specs.RowChanges.{renamed, with_data, with_row, without_row}
use Rattle.numbered_rows.specs.Tables.{AreSound, ChangesDataOnly, IsUnused, Tables, data_of, has_row, known_at, state_of}

-- no number has a name that is not found
pub absent_new : (names : Names) (a : AuthId) (found : Option ℕ) → found ≡ number_of names a → is_some found ≡ false → IsNew same_auth names a
absent_new names a None is none n = number_none names a (sym is) n
absent_new names a (Some k) is none n = cc

-- where each number has a name, all are counted
all_counted : (names : Names) → ((n : ℕ) → n < length names → IsSome (name_at names n)) → count_by is_some names ≡ length names
all_counted [] all = refl
all_counted (None ∷ names) all = cc (all zero (omega arith))
all_counted (Some a ∷ names) all =
    let later : count_by is_some names ≡ length names = all_counted names (λ n within. all (suc n) (omega arith)) in
    omega (arith, later, sum_by-cons (λ (o : Option AuthId). if is_some o then 1 else 0) (Some a) names)

never_both : (t : Bool) → (t && not true) ≡ false
never_both true = refl
never_both false = refl

never_and : (t : Bool) → (t && false) ≡ false
never_and true = refl
never_and false = refl

-- an account that stands comes again
again : (old : Tables) (a : AuthId) → is_some (number_of old.accounts.names a) ≡ true → state_of old ≡ with_row (Account a) (state_of old)
unfolding state_of with_row
again old a there =
    same_state _ _ (λ row. row_there row (same_row row (Account a)) refl)
    (λ b. sym (ap (λ t. cond t (Some new_account) (data_of old b)) (ap (λ t. same_auth b a && not t) there ∙ never_both (same_auth b a)))) refl refl
  where
    row_there : (row : Row) (t : Bool) → same_row row (Account a) ≡ t → has_row old row ≡ (has_row old row || t)
    row_there row false differs = sym (or-false (has_row old row))
    row_there row true same = ap (has_row old) (equal_from_same_row row (Account a) same) ∙ there ∙ sym (or_last (has_row old row))

-- an account that does not stand goes
absent : (old : Tables) (a : AuthId) → number_of old.accounts.names a ≡ None → state_of old ≡ without_row (Account a) (state_of old)
unfolding state_of without_row
absent old a none =
    same_state _ _ (λ row. row_stays row (same_row row (Account a)) refl) (λ b. data_stays b (same_auth b a) refl) refl refl
  where
    row_stays : (row : Row) (t : Bool) → same_row row (Account a) ≡ t → has_row old row ≡ (has_row old row && not t)
    row_stays row false differs = sym (and-true (has_row old row))
    row_stays row true same =
        ap (has_row old) (equal_from_same_row row (Account a) same) ∙ ap is_some none ∙ sym (never_both (has_row old row))

    data_stays : (b : AuthId) (t : Bool) → same_auth b a ≡ t → data_of old b ≡ cond t None (data_of old b)
    data_stays b false differs = refl
    data_stays b true same = ap (data_of old) (equal_from_same_auth b a same) ∙ ap (option_map (known_at old.account_data)) none

-- ---- an account comes

module _ (old new : Tables) (sound : AreSound old) (a : AuthId) (number : ℕ) (fresh : IsNew same_auth old.accounts.names a)
    (free : name_at old.accounts.names number ≡ None) (only : ChangesOnly old.accounts.names new.accounts.names number (Some a)) (alike : HoldAlike old.holdings new.holdings) where
  few_after : HasRoom (state_of old) → number ≤ length old.accounts.names
      → (number ≡ length old.accounts.names → (n : ℕ) → n < number → IsSome (name_at old.accounts.names n))
      → length new.accounts.names ≡ max (length old.accounts.names) (number + 1) → length new.accounts.names ≤ 4096
  few_after room within none_free len =
      elim (cases_lt number (length old.accounts.names)) [
        | inl inside ↦ omega (arith, sound.few, len)
        | inr past ↦
            let last : number ≡ length old.accounts.names = omega arith in
            let counted : count_by is_some old.accounts.names ≡ length old.accounts.names =
            all_counted old.accounts.names (λ n below. none_free last n (omega arith)) in
            elim (cases_lt 4095 (length old.accounts.names)) [
              | inl over ↦
                  let P : Bool → Type 0 = λ t. MatchBool t (HasMoreThan same_auth (λ b. IsTrue (stands (state_of old) b)) 4095) (HasMoreThan same_auth (λ b. IsTrue (stands (state_of old) b)) 4095 → ⊥) in
                  absurd (room (subst P (lt-ltb 4095 (length old.accounts.names) over) (over_accounts old sound.once 4095 (length old.accounts.names) (sym counted))))
              | inr not_over ↦ omega arith
            ]
      ]

  came_sound : HasRoom (state_of old) → number ≤ length old.accounts.names
      → (number ≡ length old.accounts.names → (n : ℕ) → n < number → IsSome (name_at old.accounts.names n))
      → length new.accounts.names ≡ max (length old.accounts.names) (number + 1)
      → length new.account_data ≡ max (length old.account_data) (number + 1)
      → length new.holdings.globals ≡ max (length old.holdings.globals) (number + 1) → AreSound new
  came_sound room within none_free len data_len globals_len = record {
    once = once_added old.accounts.names new.accounts.names number a free fresh only sound.once;
    few = few_after room within none_free len;
    known = data_len ∙ ap (λ n. max n (number + 1)) sound.known ∙ sym len;
    counted = globals_len ∙ ap (λ n. max n (number + 1)) sound.counted ∙ sym len;
    well = well_named old.accounts.names new.accounts.names number new.holdings a only (well_alike old.accounts.names old.holdings new.holdings alike sound.well);
    basis = basis_alike old.holdings new.holdings alike sound.basis;
    levels = levels_alike old.holdings new.holdings alike sound.levels;
  }

  came_state : ChangesDataOnly old.account_data new.account_data number new_account → new.mandatory ≡ old.mandatory → new.activate_all ≡ old.activate_all
      → state_of new ≡ with_row (Account a) (state_of old)
  came_state known roles active = account_comes old new alike number (sound.well number free) a free fresh only sound.once known roles active

-- room is nothing that is seen
any_room : (old : Tables) (room : ℕ) → state_of (record old { data_room = room }) ≡ state_of old
unfolding state_of
any_room old room = same_state _ _ (λ row. stays row) (λ a. refl) refl refl
  where
    stays : (row : Row) → has_row (record old { data_room = room }) row ≡ has_row old row
    stays (Account a) = refl
    stays _ = refl

module _ (old now : Tables) (seen : old ≡ now) (sound : AreSound old) where
  pub account_again : (a : AuthId) (found : Option ℕ) → found ≡ number_of now.accounts.names a → is_some found ≡ true → state_of now ≡ with_row (Account a) (state_of now)
  account_again a found is some = again now a (ap is_some (sym is) ∙ some)

  pub account_absent : (a : AuthId) → number_of old.accounts.names a ≡ None → state_of old ≡ without_row (Account a) (state_of now)
  account_absent a none = absent old a none ∙ ap (λ t. without_row (Account a) (state_of t)) seen

  -- the tables with another account
  module _ (new : Tables) (a : AuthId) (number : ℕ) (found : Option ℕ) (is : found ≡ number_of old.accounts.names a) (none : is_some found ≡ false)
      (free : name_at old.accounts.names number ≡ None) (only : ChangesOnly old.accounts.names new.accounts.names number (Some a)) (alike : HoldAlike old.holdings new.holdings) where
    pub added_sound : HasRoom (state_of now) → number ≤ length old.accounts.names
        → (number ≡ length old.accounts.names → (n : ℕ) → n < number → IsSome (name_at old.accounts.names n))
        → length new.accounts.names ≡ max (length old.accounts.names) (number + 1)
        → length new.account_data ≡ max (length old.account_data) (number + 1)
        → length new.holdings.globals ≡ max (length old.holdings.globals) (number + 1) → AreSound new
    added_sound room within none_free len data_len globals_len =
        came_sound old new sound a number (absent_new old.accounts.names a found is none) free only alike
        (subst (λ t. HasRoom (state_of t)) (sym seen) room) within none_free len data_len globals_len

    pub added_state : ChangesDataOnly old.account_data new.account_data number new_account → new.mandatory ≡ old.mandatory → new.activate_all ≡ old.activate_all
        → state_of new ≡ with_row (Account a) (state_of now)
    added_state known roles active =
        came_state old new sound a number (absent_new old.accounts.names a found is none) free only alike known roles active
        ∙ ap (λ t. with_row (Account a) (state_of t)) seen

    -- the account has its number
    pub added_number : number_of new.accounts.names a ≡ Some number
    added_number =
        number_is new.accounts.names (once_added old.accounts.names new.accounts.names number a free (absent_new old.accounts.names a found is none) only sound.once) a number
        (only number ∙ ap (λ t. cond t (Some a) (name_at old.accounts.names number)) (eq-eqb number number refl))

  -- what is not found does not stand
  pub found_not : (a : AuthId) (found : Option ℕ) → found ≡ number_of now.accounts.names a → found ≡ None → stands (state_of now) a ≡ false
  unfolding state_of
  found_not a found is none = ap is_some (sym is ∙ none)

  -- ---- an account goes

  module _ (accounts : Numbered AuthId) (a : AuthId) (number : ℕ) (found : number_of old.accounts.names a ≡ Some number)
      (only : ChangesOnly old.accounts.names accounts.names number None) (unnamed : IsUnnamed (state_of now) a) where
    gone_unused : IsUnused old.holdings number
    gone_unused =
        unused_from_unnamed old sound.once sound.well a number (named_at old.accounts.names a number found) (subst (λ t. IsUnnamed (state_of t) a) (sym seen) unnamed)

    pub gone_sound : length accounts.names ≡ length old.accounts.names → AreSound (record old { accounts = accounts })
    gone_sound len = record {
      once = once_removed old.accounts.names accounts.names number a (named_at old.accounts.names a number found) sound.once only;
      few = omega (arith, sound.few, len);
      known = sound.known ∙ sym len;
      counted = sound.counted ∙ sym len;
      well = well_removed old.accounts.names accounts.names number old.holdings only gone_unused sound.well;
      basis = sound.basis;
      levels = sound.levels;
    }

    pub gone_state : state_of (record old { accounts = accounts }) ≡ without_row (Account a) (state_of now)
    gone_state =
        account_goes old (record old { accounts = accounts }) (λ h. refl) number gone_unused a (named_at old.accounts.names a number found) sound.once only (λ k apart. refl) refl refl
        ∙ ap (λ t. without_row (Account a) (state_of t)) seen

  -- ---- an account is renamed

  module _ (accounts : Numbered AuthId) (a c : AuthId) (number : ℕ) (found : number_of old.accounts.names a ≡ Some number)
      (fresh : stands (state_of now) c ≡ false) where
    pub renamed_new : IsNew same_auth old.accounts.names c
    unfolding state_of
    renamed_new = absent_new old.accounts.names c (number_of old.accounts.names c) refl (ap (λ t. is_some (number_of t.accounts.names c)) seen ∙ fresh)

    pub renamed_stands : IsSome (name_at old.accounts.names number)
    renamed_stands = subst IsSome (sym (named_at old.accounts.names a number found)) refl

    module _ (only : ChangesOnly old.accounts.names accounts.names number (Some c)) where
      pub renamed_sound : length accounts.names ≡ length old.accounts.names → AreSound (record old { accounts = accounts })
      renamed_sound len = record {
        once = once_renamed old.accounts.names accounts.names number a c (named_at old.accounts.names a number found) sound.once renamed_new only;
        few = omega (arith, sound.few, len);
        known = sound.known ∙ sym len;
        counted = sound.counted ∙ sym len;
        well = well_named old.accounts.names accounts.names number old.holdings c only sound.well;
        basis = sound.basis;
        levels = sound.levels;
      }

      pub renamed_state : state_of (record old { accounts = accounts }) ≡ renamed a c (state_of now)
      renamed_state =
          account_renamed old accounts.names number a c (named_at old.accounts.names a number found) sound.once renamed_new only accounts.room
          ∙ ap (λ t. renamed a c (state_of t)) seen

  -- ---- an account gets other data

  module _ (known : List AccountData) (a : AuthId) (value : AccountData) (number : ℕ) (found : number_of old.accounts.names a ≡ Some number)
      (only : ChangesDataOnly old.account_data known number value) where
    pub data_state : (room : ℕ) → state_of (record old { account_data = known; data_room = room }) ≡ with_data a value (state_of now)
    data_state room = any_room (record old { account_data = known }) room ∙ data_changes old number a known value found sound.once only ∙ ap (λ t. with_data a value (state_of t)) seen

  -- an account that stands has a number
  pub found_none : (a : AuthId) → stands (state_of now) a ≡ true → number_of old.accounts.names a ≡ None → ⊥
  unfolding state_of
  found_none a there none = absurd (true≢false (sym there ∙ sym (ap (λ t. is_some (number_of t.accounts.names a)) seen) ∙ ap is_some none))
