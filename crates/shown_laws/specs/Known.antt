-- What is known where an account is shown, and where what was shown is carried out.
use Rattle.std.specs.Prelude.{ℕ, ◌≡◌, ◌<◌, ◌^◌, Bool, true, false, IsTrue, List, length, filter}
use Rattle.std.specs.List.{list_any}
use Rattle.acl_names.specs.AuthId.{same_auth}
use Rattle.acl_names.specs.declared.auth.AuthId.{AuthId}
use Rattle.accepted_lists.specs.Listed.{is_account}
use Rattle.acl_model.specs.Rows.{holder, same_row, some_name}
use Rattle.acl_model.specs.State.{State, stands}
use Rattle.acl_model.specs.declared.row.Row.{Row}
use Rattle.acl_model.specs.declared.row.Row.TheVariants.{Column, Default, Edge}
use Rattle.show_grants.specs.Listing.{listing_of}

abbrev pub is_default : Row → Bool
is_default (Default of role) = true
is_default _ = false

-- the account stands, and no row names it but its own
pub record IsBare (state : State) (account : AuthId) : Type 0 where
  pub account_stands : IsTrue (stands state account)
  pub unnamed : (row : Row) → IsTrue (some_name (same_auth account) row) → is_account row ≡ false → state.rows row ≡ false

-- where an account may be given what it held: it is bare there, and the roles stand that were granted to it
pub record MayTake (there here : State) (account : AuthId) : Type 0 where
  pub bare : IsBare here account
  pub roles : (role : AuthId) → IsTrue (there.rows (Edge role account)) → IsTrue (stands here role)

-- the list has each row that the account holds, and few columns for each privilege
pub record Covers (rows : List Row) (state : State) (account : AuthId) : Type 0 where
  pub each : (row : Row) → is_account row ≡ false → IsTrue (same_auth (holder row) account) → IsTrue (state.rows row) → IsTrue (list_any (same_row row) rows)
  pub few : (schema table : List ℕ) (p : ℕ) → length (filter (λ c. state.rows (Column account schema table c p)) (listing_of rows).columns) < 2 ^ 32
