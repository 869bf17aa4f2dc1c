-- The first state, privilege by privilege.
use Rattle.std.proofs.Common.{◌≡◌, ℕ, ◌+◌, Bool, true, false, cond, ◌||◌, ◌&&◌, [], Some, None, nat_lt, nat_eq, refl, arith}
use Rattle.std.proofs.Math.Bool.{or-false}
use Rattle.std.proofs.lemmas.Bool.Decides.{nat_tests}
use Rattle.acl_names.specs.AuthId.{same_auth}
use Rattle.acl_model.specs.Accounts.{new_account}
use Rattle.acl_model.specs.State.{opening, root}
use Rattle.acl_model.specs.declared.account_data.AccountData.{AccountData}
use Rattle.acl_model.specs.declared.row.Row.{Row}
use Rattle.acl_model.specs.declared.row.Row.TheVariants.{Account, Global, Dynamic, DynamicGrant}
use Rattle.acl_rows.specs.Changes.{with_row}
use Rattle.acl_rows.specs.Opening.{opening_below, rows_below}
use Rattle.acl_rows.specs.Tables.{Tables, state_of}
use Rattle.acl_rows.proofs.States.{same_state}

none_below : (b : Bool) (p : ℕ) → false ≡ (b && nat_lt p 0)
none_below true p = grind (arith, nat_tests)
none_below false p = refl

one_more : (b : Bool) (p n : ℕ) → ((b && nat_lt p n) || (b && nat_eq p n)) ≡ (b && nat_lt p (n + 1))
one_more true p n = grind (arith, nat_tests)
one_more false p n = refl

static_row : (n d : ℕ) (row : Row) → (with_row (Global root n) (opening_below n d)).rows row ≡ rows_below (n + 1) d row
unfolding with_row opening_below
static_row n d (Global a p) = one_more (same_auth a root) p n
static_row n d (Account a) = or-false (same_auth a root)
static_row n d (Dynamic a p) = or-false (same_auth a root && nat_lt p d)
static_row n d (DynamicGrant a p) = or-false (same_auth a root && nat_lt p d)
static_row n d _ = refl

-- the next static privilege of root
pub static_next : (n d : ℕ) → with_row (Global root n) (opening_below n d) ≡ opening_below (n + 1) d
unfolding with_row opening_below
static_next n d = same_state _ _ (static_row n d) (λ a. refl) refl refl

dynamic_row : (n d : ℕ) (row : Row) → (with_row (DynamicGrant root d) (with_row (Dynamic root d) (opening_below n d))).rows row ≡ rows_below n (d + 1) row
unfolding with_row opening_below
dynamic_row n d (Global a p) = rw (or-false (same_auth a root && nat_lt p n)) (or-false (same_auth a root && nat_lt p n))
dynamic_row n d (Account a) = rw (or-false (same_auth a root)) (or-false (same_auth a root))
dynamic_row n d (Dynamic a p) = rw (or-false ((same_auth a root && nat_lt p d) || (same_auth a root && nat_eq p d))) (one_more (same_auth a root) p d)
dynamic_row n d (DynamicGrant a p) = rw (or-false (same_auth a root && nat_lt p d)) (one_more (same_auth a root) p d)
dynamic_row n d _ = refl

-- the next dynamic privilege of root, with its grant option
pub dynamic_next : (n d : ℕ) → with_row (DynamicGrant root d) (with_row (Dynamic root d) (opening_below n d)) ≡ opening_below n (d + 1)
unfolding with_row opening_below
dynamic_next n d = same_state _ _ (dynamic_row n d) (λ a. refl) refl refl

-- no row and no account
abbrev pub no_tables : Tables
no_tables = record { accounts = []; grants = []; mandatory = []; activate_all = false }

first_row : (row : Row) → (with_row (Account root) (state_of no_tables)).rows row ≡ rows_below 0 0 row
unfolding with_row state_of
first_row (Account a) = refl
first_row (Global a p) = none_below (same_auth a root) p
first_row (Dynamic a d) = none_below (same_auth a root) d
first_row (DynamicGrant a d) = none_below (same_auth a root) d
first_row _ = refl

known_at_first : (t : Bool) (value : AccountData) → (cond (t && true) (Some value) None) ≡ cond t (Some value) None
known_at_first true value = refl
known_at_first false value = refl

-- root alone
pub opening_none : with_row (Account root) (state_of no_tables) ≡ opening_below 0 0
unfolding with_row state_of opening_below
opening_none = same_state _ _ first_row (λ a. known_at_first (same_auth a root) new_account) refl refl

-- all of them
pub opening_all : opening_below 31 20 ≡ opening
unfolding opening_below
opening_all = same_state _ _ all_rows (λ a. refl) refl refl
  where
    all_rows : (row : Row) → rows_below 31 20 row ≡ opening.rows row
    all_rows (Account a) = refl
    all_rows (Global a p) = refl
    all_rows (Dynamic a d) = refl
    all_rows (DynamicGrant a d) = refl
    all_rows _ = refl
