-- The first state, privilege by privilege.
use Rattle.std.proofs.Common.{◌≡◌, ◌∙◌, ◌≤◌, ◌<◌, ap, sym, subst, ℕ, ◌+◌, ◌==◌, Bool, true, false, cond, not, ◌||◌, ◌&&◌, List, [], Option, Some, None, is_some, length, count_by, IsTrue, nat_lt, nat_eq, refl, arith}
use Rattle.std.proofs.Math.Bool.{or-false}
use Rattle.std.proofs.lemmas.Bool.{lt-ltb, true≢false}
use Rattle.std.proofs.lemmas.Bool.Decides.{nat_tests}
use Rattle.std.specs.List.{list_any}
use Rattle.std.specs.Option.{option_map}
use Rattle.std.proofs.lemmas.Option.{none-some}
use Rattle.account_holdings.specs.Bits.{has_bit}
use Rattle.account_holdings.specs.Globals.{bits_of_kind, global_bits}
use Rattle.account_holdings.specs.Holdings.{Holdings, holds}
use Rattle.account_holdings.specs.declared.globals.GlobalKind.TheVariants as kind
use Rattle.account_holdings.specs.declared.holding.Holding.{Holding}
use Rattle.account_holdings.specs.declared.holding.Holding.TheVariants as held
use Rattle.acl_names.proofs.SameAuth.{same_auth_itself}
use Rattle.acl_names.specs.AuthId.{same_auth}
use Rattle.acl_names.specs.Text.{text_eq}
use Rattle.acl_names.specs.declared.auth.AuthId.{AuthId}
use Rattle.held_bits.specs.Bits.{are_none}
use Rattle.held_bits.specs.HeldBits.{bits_at}
use Rattle.numbered_names.specs.Numbered.{HasEachOnce}
use Rattle.numbered_rows.proofs.Counts.{over_accounts}
use Rattle.numbered_rows.specs.Conditions.{HasRoom}
use Rattle.numbered_rows.specs.Numbering.{holding_of, holds_some, number_of}
use Rattle.numbered_rows.specs.Tables.{has_row, known_at}
use Rattle.object_bits.specs.Objects.{same_object}
use Rattle.acl_model.proofs.SameRows.{same_row_from_equal}
use Rattle.priv_sets.proofs.Bits.{zero_bits}
use Rattle.priv_sets.specs.Levels.{has_level}
use Rattle.priv_sets.specs.declared.level.Level.TheVariants as level
use Rattle.role_graph.specs.Edges.{is_admin_link, linked}
use Rattle.acl_model.specs.Accounts.{new_account}
use Rattle.acl_model.specs.State.{State, opening, root, stands}
use Rattle.acl_model.specs.declared.account_data.AccountData.{AccountData}
use Rattle.acl_model.specs.declared.row.Row.{Row}
use Rattle.acl_model.specs.declared.row.Row.TheVariants.{Account, Global, Dynamic, DynamicGrant, Schema, Table, Column, Function, Procedure, Edge, Admin, Default, Restriction}
use Rattle.row_tables.specs.Changes.{with_row}
use Rattle.row_tables.specs.Opening.{opening_below, rows_below}
use Rattle.row_tables.specs.Tables.{AreSound, Tables, state_of}
use Rattle.numbered_rows.proofs.States.{same_state}

none_below : (b : Bool) (p : ℕ) → false ≡ (b && nat_lt p 0)
none_below true p = grind (arith, nat_tests)
none_below false p = refl

one_more : (b : Bool) (p n : ℕ) → ((b && nat_lt p n) || (b && nat_eq p n)) ≡ (b && nat_lt p (n + 1))
one_more true p n = grind (arith, nat_tests)
one_more false p n = refl

static_row : (n d : ℕ) (row : Row) → (with_row (Global root n) (opening_below n d)).rows row ≡ rows_below (n + 1) d row
unfolding with_row opening_below
static_row n d (Global a p) = one_more (same_auth a root) p n
static_row n d (Account a) = or-false (same_auth a root)
static_row n d (Dynamic a p) = or-false (same_auth a root && nat_lt p d)
static_row n d (DynamicGrant a p) = or-false (same_auth a root && nat_lt p d)
static_row n d _ = refl

-- the next static privilege of root
pub static_next : (n d : ℕ) → with_row (Global root n) (opening_below n d) ≡ opening_below (n + 1) d
unfolding with_row opening_below
static_next n d = same_state _ _ (static_row n d) (λ a. refl) refl refl

dynamic_row : (n d : ℕ) (row : Row) → (with_row (DynamicGrant root d) (with_row (Dynamic root d) (opening_below n d))).rows row ≡ rows_below n (d + 1) row
unfolding with_row opening_below
dynamic_row n d (Global a p) = rw (or-false (same_auth a root && nat_lt p n)) (or-false (same_auth a root && nat_lt p n))
dynamic_row n d (Account a) = rw (or-false (same_auth a root)) (or-false (same_auth a root))
dynamic_row n d (Dynamic a p) = rw (or-false ((same_auth a root && nat_lt p d) || (same_auth a root && nat_eq p d))) (one_more (same_auth a root) p d)
dynamic_row n d (DynamicGrant a p) = rw (or-false (same_auth a root && nat_lt p d)) (one_more (same_auth a root) p d)
dynamic_row n d _ = refl

-- the next dynamic privilege of root, with its grant option
pub dynamic_next : (n d : ℕ) → with_row (DynamicGrant root d) (with_row (Dynamic root d) (opening_below n d)) ≡ opening_below n (d + 1)
unfolding with_row opening_below
dynamic_next n d = same_state _ _ (dynamic_row n d) (λ a. refl) refl refl

-- no row and no account
nothing : State
nothing = record { rows = λ row. false; account_data = λ a. None; mandatory = []; activate_all = false }

first_row : (row : Row) → (with_row (Account root) nothing).rows row ≡ rows_below 0 0 row
unfolding with_row nothing
first_row (Account a) = refl
first_row (Global a p) = none_below (same_auth a root) p
first_row (Dynamic a d) = none_below (same_auth a root) d
first_row (DynamicGrant a d) = none_below (same_auth a root) d
first_row _ = refl

known_at_first : (t : Bool) (value : AccountData) → (cond (t && true) (Some value) None) ≡ cond t (Some value) None
known_at_first true value = refl
known_at_first false value = refl

-- root alone
opening_none : with_row (Account root) nothing ≡ opening_below 0 0
unfolding with_row nothing opening_below
opening_none = same_state _ _ first_row (λ a. known_at_first (same_auth a root) new_account) refl refl

-- all of them
pub opening_all : opening_below 31 20 ≡ opening
unfolding opening_below
opening_all = same_state _ _ all_rows (λ a. refl) refl refl
  where
    all_rows : (row : Row) → rows_below 31 20 row ≡ opening.rows row
    all_rows (Account a) = refl
    all_rows (Global a p) = refl
    all_rows (Dynamic a d) = refl
    all_rows (DynamicGrant a d) = refl
    all_rows _ = refl

-- ---- tables without names

empty_row : (t : Tables) → t.accounts.names ≡ [] → (row : Row) → has_row t row ≡ false
empty_row t none (Account a) = ap (λ ns. is_some (number_of ns a)) none
empty_row t none (Edge role to) = ap (λ ns. holds_some t.holdings (holding_of ns (Edge role to))) none
empty_row t none (Admin role to) = ap (λ ns. holds_some t.holdings (holding_of ns (Admin role to))) none
empty_row t none (Default of role) = ap (λ ns. holds_some t.holdings (holding_of ns (Default of role))) none
empty_row t none (Global a p) = ap (λ ns. holds_some t.holdings (holding_of ns (Global a p))) none
empty_row t none (Dynamic a d) = ap (λ ns. holds_some t.holdings (holding_of ns (Dynamic a d))) none
empty_row t none (DynamicGrant a d) = ap (λ ns. holds_some t.holdings (holding_of ns (DynamicGrant a d))) none
empty_row t none (Schema a s p) = ap (λ ns. holds_some t.holdings (holding_of ns (Schema a s p))) none
empty_row t none (Table a s u p) = ap (λ ns. holds_some t.holdings (holding_of ns (Table a s u p))) none
empty_row t none (Column a s u c p) = ap (λ ns. holds_some t.holdings (holding_of ns (Column a s u c p))) none
empty_row t none (Function a s f p) = ap (λ ns. holds_some t.holdings (holding_of ns (Function a s f p))) none
empty_row t none (Procedure a s f p) = ap (λ ns. holds_some t.holdings (holding_of ns (Procedure a s f p))) none
empty_row t none (Restriction a p s) = ap (λ ns. holds_some t.holdings (holding_of ns (Restriction a p s))) none

empty_state : (t : Tables) → t.accounts.names ≡ [] → t.mandatory ≡ [] → t.activate_all ≡ false → state_of t ≡ nothing
unfolding state_of nothing
empty_state t none roles active = same_state _ _ (empty_row t none) (λ a. ap (λ ns. option_map (known_at t.account_data) (number_of ns a)) none) roles active

-- root comes first
pub root_first : (t : Tables) (after before : State) → t.accounts.names ≡ [] → t.mandatory ≡ [] → t.activate_all ≡ false → before ≡ state_of t → (a : AuthId) → a ≡ root
    → after ≡ with_row (Account a) before → after ≡ opening_below 0 0
root_first t after before none roles active is a same comes =
    comes ∙ ap (λ x. with_row (Account x) before) same ∙ ap (with_row (Account root)) (is ∙ empty_state t none roles active) ∙ opening_none

nothing_held : (h : Holdings) → h.globals ≡ [] → h.schemas.entries ≡ [] → h.objects.entries ≡ [] → h.roles.links ≡ [] → h.defaults.entries ≡ [] → (holding : Holding) → holds h holding ≡ false
nothing_held h globals schemas objects roles defaults (held.OnAll kind.Static n p) = ap (λ g. has_bit (bits_of_kind kind.Static (global_bits g n)) p) globals ∙ zero_bits p
nothing_held h globals schemas objects roles defaults (held.OnAll kind.Dynamic n p) = ap (λ g. has_bit (bits_of_kind kind.Dynamic (global_bits g n)) p) globals ∙ zero_bits p
nothing_held h globals schemas objects roles defaults (held.OnAll kind.Grantable n p) = ap (λ g. has_bit (bits_of_kind kind.Grantable (global_bits g n)) p) globals ∙ zero_bits p
nothing_held h globals schemas objects roles defaults (held.OnSchema n s p) = ap (λ es. has_bit (bits_at text_eq es n s).granted p) schemas ∙ zero_bits p
nothing_held h globals schemas objects roles defaults (held.Restricted n s p) = ap (λ es. has_bit (bits_at text_eq es n s).restricted p) schemas ∙ zero_bits p
nothing_held h globals schemas objects roles defaults (held.OnObject n o p) = ap (λ es. has_bit (bits_at same_object es n o).granted p) objects ∙ zero_bits p
nothing_held h globals schemas objects roles defaults (held.Edge role to) = ap (λ links. linked links to role) roles
nothing_held h globals schemas objects roles defaults (held.Admin role to) = ap (λ links. list_any (is_admin_link to role) links) roles
nothing_held h globals schemas objects roles defaults (held.Default of role) = ap (λ es. not (are_none (bits_at (λ one other. one == other) es of role))) defaults

pub empty_sound : (t : Tables) → t.accounts.names ≡ [] → t.account_data ≡ [] → t.holdings.globals ≡ [] → t.holdings.schemas.entries ≡ [] → t.holdings.objects.entries ≡ []
    → t.holdings.roles.links ≡ [] → t.holdings.defaults.entries ≡ [] → AreSound t
empty_sound t none known globals schemas objects roles defaults = record {
  once = subst (HasEachOnce same_auth) (sym none) (λ one other name is same. absurd (none-some name is));
  few = subst (λ (ns : List (Option AuthId)). length ns ≤ 4096) (sym none) (omega arith);
  known = ap length known ∙ sym (ap length none);
  counted = ap length globals ∙ sym (ap length none);
  well = λ n free h named. nothing_held t.holdings globals schemas objects roles defaults h;
  basis = λ n d there. absurd (true≢false (sym there ∙ nothing_held t.holdings globals schemas objects roles defaults (held.OnAll kind.Grantable n d)));
  levels = λ h there. absurd (true≢false (sym there ∙ nothing_held t.holdings globals schemas objects roles defaults h));
}

-- there is room where no account stands
pub room_first : (t : Tables) → AreSound t → t.accounts.names ≡ [] → (before : State) → before ≡ state_of t → HasRoom before
room_first t sound none before is =
    subst HasRoom (sym is) (over_accounts t sound.once 4095 0 (sym (ap (count_by is_some) none)))

-- root's rows may come
pub root_stands : (state : State) (n d : ℕ) → state ≡ opening_below n d → (a : AuthId) → a ≡ root → IsTrue (stands state a)
unfolding opening_below
root_stands state n d is a same = ap (λ s. stands s a) is ∙ ap (λ x. same_auth x root) same ∙ same_auth_itself root

pub global_level : (p : ℕ) → p < 31 → IsTrue (has_level level.Global p)
unfolding has_level
global_level p below = lt-ltb p 31 below

or_true : (t : Bool) → (t || true) ≡ true
or_true true = refl
or_true false = refl

-- a row more leaves the accounts, and stands
pub account_kept : (after before : State) (a : AuthId) (d : ℕ) → after ≡ with_row (Dynamic a d) before → (b : AuthId) → IsTrue (stands before b) → IsTrue (stands after b)
unfolding with_row
account_kept after before a d is b there = ap (λ s. stands s b) is ∙ or-false (stands before b) ∙ there

pub dynamic_came : (after before : State) (a b : AuthId) (d : ℕ) → after ≡ with_row (Dynamic a d) before → a ≡ root → b ≡ root → IsTrue (after.rows (Dynamic b d))
unfolding with_row
dynamic_came after before a b d is first second =
    ap (λ s. s.rows (Dynamic b d)) is
    ∙ ap (λ t. before.rows (Dynamic b d) || t) (same_row_from_equal (Dynamic b d) (Dynamic a d) (ap (λ x. Dynamic x d) (second ∙ sym first)))
    ∙ or_true (before.rows (Dynamic b d))
