-- Rows that are no accounts come and go among the holdings.
use Rattle.std.proofs.Common.{◌≡◌, ◌∙◌, refl, sym, ap, subst, ℕ, true, false, length, Option, None, Some, is_some}
use Rattle.std.proofs.lemmas.Bool.{and_parts}
use Rattle.account_holdings.specs.Holdings.{Holdings}
use Rattle.account_holdings.specs.declared.globals.GlobalKind.TheVariants as kind
use Rattle.account_holdings.specs.declared.holding.Holding.{Holding}
use Rattle.account_holdings.specs.declared.holding.Holding.TheVariants as held
use Rattle.acl_model.specs.Roles.{Reaches, Onward, Here}
use Rattle.acl_model.specs.declared.row.Row.{Row}
use Rattle.acl_model.specs.declared.row.Row.TheVariants.{Account, Global, Dynamic, DynamicGrant, Schema, Table, Column, Function, Procedure, Edge, Admin, Default, Restriction}
use Rattle.acl_names.specs.declared.auth.AuthId.{AuthId}
use Rattle.row_tables.specs.Held.{IsReadyHeld}
use Rattle.numbered_rows.proofs.Basis.{basis_alike, basis_comes, basis_goes}
use Rattle.numbered_rows.proofs.Levels.{level_of_row, levels_alike, levels_come, levels_go}
use Rattle.numbered_rows.proofs.Matching.{name_of, name_or_root}
use Rattle.numbered_rows.proofs.Numbers.{Names, named_at}
use Rattle.numbered_rows.proofs.RowChanges.{alike_state, none_goes, row_comes, row_goes}
use Rattle.numbered_rows.proofs.Standing.{row_stands, well_alike, well_with, well_without}
use Rattle.numbered_rows.specs.Conditions.{IsFreeToGo, IsReadyFor, has_its_level, is_account, names_stand}
use Rattle.numbered_rows.specs.Numbering.{holding_of, holds_some, number_of, one_number, two_numbers}
use Rattle.numbered_rows.specs.RowChanges.{with_row, without_row}
use Rattle.numbered_rows.specs.Steps.{Comes, Goes, MayGo}
use Rattle.numbered_rows.specs.Tables.{AreSound, HaveBasis, HaveLevels, IsNumberedWell, Tables, state_of}
use Rattle.object_bits.specs.declared.object.Object.TheVariants as object
use Rattle.role_graph.specs.Edges.{granted}
use Rattle.role_graph.specs.Paths.{Reaches as Leads, all_reached}

-- ---- the holding of a row whose accounts stand

some_number : (o : Option ℕ) → is_some o ≡ true → (n : ℕ) × (o ≡ Some n)
some_number None some = cc
some_number (Some n) some = (n, refl)

one_some : (holding : ℕ → Holding) (o : Option ℕ) → is_some o ≡ true → (h : Holding) × (one_number holding o ≡ Some h)
one_some holding None some = cc
one_some holding (Some n) some = (holding n, refl)

two_some : (holding : ℕ → ℕ → Holding) (o u : Option ℕ) → is_some o ≡ true → is_some u ≡ true → (h : Holding) × (two_numbers holding o u ≡ Some h)
two_some holding None u first second = cc
two_some holding (Some m) None first second = cc
two_some holding (Some m) (Some n) first second = (holding m n, refl)

pub stand_holding : (tables : Tables) (row : Row) → is_account row ≡ false → names_stand (state_of tables) row ≡ true → (h : Holding) × (holding_of tables.accounts.names row ≡ Some h)
unfolding state_of
stand_holding tables (Account a) other stand = cc
stand_holding tables (Global a p) other stand = one_some (λ n. held.OnAll kind.Static n p) (number_of tables.accounts.names a) stand
stand_holding tables (Dynamic a d) other stand = one_some (λ n. held.OnAll kind.Dynamic n d) (number_of tables.accounts.names a) stand
stand_holding tables (DynamicGrant a d) other stand = one_some (λ n. held.OnAll kind.Grantable n d) (number_of tables.accounts.names a) stand
stand_holding tables (Schema a s p) other stand = one_some (λ n. held.OnSchema n s p) (number_of tables.accounts.names a) stand
stand_holding tables (Table a s t p) other stand = one_some (λ n. held.OnObject n (object.Table s t) p) (number_of tables.accounts.names a) stand
stand_holding tables (Column a s t c p) other stand = one_some (λ n. held.OnObject n (object.Column s t c) p) (number_of tables.accounts.names a) stand
stand_holding tables (Function a s f p) other stand = one_some (λ n. held.OnObject n (object.Function s f) p) (number_of tables.accounts.names a) stand
stand_holding tables (Procedure a s f p) other stand = one_some (λ n. held.OnObject n (object.Procedure s f) p) (number_of tables.accounts.names a) stand
stand_holding tables (Edge role to) other stand =
    let both = and_parts (is_some (number_of tables.accounts.names role)) (is_some (number_of tables.accounts.names to)) stand in
    two_some held.Edge (number_of tables.accounts.names role) (number_of tables.accounts.names to) both.0 both.1
stand_holding tables (Admin role to) other stand =
    let both = and_parts (is_some (number_of tables.accounts.names role)) (is_some (number_of tables.accounts.names to)) stand in
    two_some held.Admin (number_of tables.accounts.names role) (number_of tables.accounts.names to) both.0 both.1
stand_holding tables (Default of role) other stand =
    let both = and_parts (is_some (number_of tables.accounts.names of)) (is_some (number_of tables.accounts.names role)) stand in
    two_some held.Default (number_of tables.accounts.names of) (number_of tables.accounts.names role) both.0 both.1
stand_holding tables (Restriction a p s) other stand = one_some (λ n. held.Restricted n s p) (number_of tables.accounts.names a) stand

-- ---- when it may come, and when it may go

module _ (tables : Tables) (sound : AreSound tables) where
  abbrev names : Names
  names = tables.accounts.names

  -- a path of numbers is a path of the accounts
  numbers_reach : (m n : ℕ) → Leads (granted tables.holdings.roles) m n → Reaches (state_of tables).rows (name_of names m) (name_of names n)
  unfolding state_of
  numbers_reach m n path =
      all_reached (granted tables.holdings.roles) m (λ k. Reaches (state_of tables).rows (name_of names m) (name_of names k)) Here
      (λ holder role way edge. Onward (name_of names holder) (name_of names role) way (row_stands tables sound.once sound.well (held.Edge role holder) edge)) n path

  named_so : (a : AuthId) (n : ℕ) → number_of names a ≡ Some n → name_of names n ≡ a
  named_so a n found = ap name_or_root (named_at names a n found)

  one_ready : (holding : ℕ → Holding) → ((n : ℕ) → IsReadyHeld tables.holdings (Some (holding n))) → (o : Option ℕ) → IsReadyHeld tables.holdings (one_number holding o)
  one_ready holding ready None = tt
  one_ready holding ready (Some n) = ready n

  role_ready : (role to : AuthId) (o u : Option ℕ) → number_of names role ≡ o → number_of names to ≡ u → (Reaches (state_of tables).rows role to → ⊥)
      → IsReadyHeld tables.holdings (two_numbers held.Edge o u)
  role_ready role to None u first second free = tt
  role_ready role to (Some m) None first second free = tt
  role_ready role to (Some m) (Some n) first second free = λ path.
      let at_role : Reaches (state_of tables).rows role (name_of names n) =
      subst (λ a. Reaches (state_of tables).rows a (name_of names n)) (named_so role m first) (numbers_reach m n path) in
      free (subst (λ a. Reaches (state_of tables).rows role a) (named_so to n second) at_role)

  option_ready : (o u : Option ℕ) → holds_some tables.holdings (two_numbers held.Edge o u) ≡ true → IsReadyHeld tables.holdings (two_numbers held.Admin o u)
  option_ready None u stands = tt
  option_ready (Some m) None stands = tt
  option_ready (Some m) (Some n) stands = stands

  default_ready : (o u : Option ℕ) → IsReadyHeld tables.holdings (two_numbers held.Default o u)
  default_ready None u = tt
  default_ready (Some m) None = tt
  default_ready (Some m) (Some n) = tt

  ready_held : (row : Row) → is_account row ≡ false → IsReadyFor (state_of tables) row → IsReadyHeld tables.holdings (holding_of names row)
  unfolding state_of
  ready_held (Account a) other ready = cc
  ready_held (Edge role to) other ready = role_ready role to (number_of names role) (number_of names to) refl refl ready
  ready_held (Admin role to) other ready = option_ready (number_of names role) (number_of names to) ready
  ready_held (Default of role) other ready = default_ready (number_of names of) (number_of names role)
  ready_held (Global a p) other ready = one_ready (λ n. held.OnAll kind.Static n p) (λ n. tt) (number_of names a)
  ready_held (Dynamic a d) other ready = one_ready (λ n. held.OnAll kind.Dynamic n d) (λ n. tt) (number_of names a)
  ready_held (DynamicGrant a d) other ready = one_ready (λ n. held.OnAll kind.Grantable n d) (λ n. tt) (number_of names a)
  ready_held (Schema a s p) other ready = one_ready (λ n. held.OnSchema n s p) (λ n. tt) (number_of names a)
  ready_held (Table a s t p) other ready = one_ready (λ n. held.OnObject n (object.Table s t) p) (λ n. tt) (number_of names a)
  ready_held (Column a s t c p) other ready = one_ready (λ n. held.OnObject n (object.Column s t c) p) (λ n. tt) (number_of names a)
  ready_held (Function a s f p) other ready = one_ready (λ n. held.OnObject n (object.Function s f) p) (λ n. tt) (number_of names a)
  ready_held (Procedure a s f p) other ready = one_ready (λ n. held.OnObject n (object.Procedure s f) p) (λ n. tt) (number_of names a)
  ready_held (Restriction a p s) other ready = one_ready (λ n. held.Restricted n s p) (λ n. tt) (number_of names a)

  one_goes : (holding : ℕ → Holding) → ((n : ℕ) → MayGo tables.holdings (Some (holding n))) → (o : Option ℕ) → MayGo tables.holdings (one_number holding o)
  one_goes holding free None = tt
  one_goes holding free (Some n) = free n

  role_goes : (o u : Option ℕ) → holds_some tables.holdings (two_numbers held.Admin o u) ≡ false → MayGo tables.holdings (two_numbers held.Edge o u)
  role_goes None u free = tt
  role_goes (Some m) None free = tt
  role_goes (Some m) (Some n) free = free

  two_go : (holding : ℕ → ℕ → Holding) → ((m n : ℕ) → MayGo tables.holdings (Some (holding m n))) → (o u : Option ℕ) → MayGo tables.holdings (two_numbers holding o u)
  two_go holding free None u = tt
  two_go holding free (Some m) None = tt
  two_go holding free (Some m) (Some n) = free m n

  may_go : (row : Row) → is_account row ≡ false → IsFreeToGo (state_of tables) row → MayGo tables.holdings (holding_of names row)
  unfolding state_of
  may_go (Account a) other free = cc
  may_go (Edge role to) other free = role_goes (number_of names role) (number_of names to) free
  may_go (Admin role to) other free = two_go held.Admin (λ m n. tt) (number_of names role) (number_of names to)
  may_go (Default of role) other free = two_go held.Default (λ m n. tt) (number_of names of) (number_of names role)
  may_go (Global a p) other free = one_goes (λ n. held.OnAll kind.Static n p) (λ n. tt) (number_of names a)
  may_go (Dynamic a d) other free = one_goes (λ n. held.OnAll kind.Dynamic n d) (λ n. tt) (number_of names a)
  may_go (DynamicGrant a d) other free = one_goes (λ n. held.OnAll kind.Grantable n d) (λ n. tt) (number_of names a)
  may_go (Schema a s p) other free = one_goes (λ n. held.OnSchema n s p) (λ n. tt) (number_of names a)
  may_go (Table a s t p) other free = one_goes (λ n. held.OnObject n (object.Table s t) p) (λ n. tt) (number_of names a)
  may_go (Column a s t c p) other free = one_goes (λ n. held.OnObject n (object.Column s t c) p) (λ n. tt) (number_of names a)
  may_go (Function a s f p) other free = one_goes (λ n. held.OnObject n (object.Function s f) p) (λ n. tt) (number_of names a)
  may_go (Procedure a s f p) other free = one_goes (λ n. held.OnObject n (object.Procedure s f) p) (λ n. tt) (number_of names a)
  may_go (Restriction a p s) other free = one_goes (λ n. held.Restricted n s p) (λ n. tt) (number_of names a)

  -- ---- and what becomes of the tables

  module _ (row : Row) (other : is_account row ≡ false) (holdings : Holdings) (same : length holdings.globals ≡ length tables.holdings.globals) where
    abbrev after : Tables
    after = record tables { holdings = holdings }

    comes_state : names_stand (state_of tables) row ≡ true → Comes tables.holdings holdings (holding_of names row) → state_of after ≡ with_row row (state_of tables)
    comes_state stand comes =
        let h = stand_holding tables row other stand in
        row_comes tables holdings row h.0 h.1 (subst (Comes tables.holdings holdings) h.1 comes)

    comes_sound : names_stand (state_of tables) row ≡ true → has_its_level row ≡ true → IsReadyFor (state_of tables) row → Comes tables.holdings holdings (holding_of names row) → AreSound after
    comes_sound stand level ready comes =
        let h = stand_holding tables row other stand in
        record {
          once = sound.once;
          few = sound.few;
          known = sound.known;
          counted = same ∙ sound.counted;
          well = well_with names tables.holdings holdings h.0 row other h.1 (subst (Comes tables.holdings holdings) h.1 comes) sound.well;
          basis = basis_comes tables holdings row h.0 h.1 ready (subst (Comes tables.holdings holdings) h.1 comes) sound.basis;
          levels = levels_come tables.holdings holdings h.0 (level_of_row names row h.0 h.1 ∙ level) (subst (Comes tables.holdings holdings) h.1 comes) sound.levels;
        }

    goes_sound : IsFreeToGo (state_of tables) row → Goes tables.holdings holdings (holding_of names row) → AreSound after
    goes_sound free goes = record {
      once = sound.once;
      few = sound.few;
      known = sound.known;
      counted = same ∙ sound.counted;
      well = by (holding_of names row) goes;
      basis = based (holding_of names row) refl goes;
      levels = leveled (holding_of names row) goes;
    }
      where
        by : (o : Option Holding) → Goes tables.holdings holdings o → IsNumberedWell names holdings
        by None goes = well_alike names tables.holdings holdings goes sound.well
        by (Some h) goes = well_without names tables.holdings holdings h goes sound.well

        based : (o : Option Holding) → holding_of names row ≡ o → Goes tables.holdings holdings o → HaveBasis holdings
        based None is goes = basis_alike tables.holdings holdings goes sound.basis
        based (Some h) is goes = basis_goes tables holdings row h is free goes sound.basis

        leveled : (o : Option Holding) → Goes tables.holdings holdings o → HaveLevels holdings
        leveled None goes = levels_alike tables.holdings holdings goes sound.levels
        leveled (Some h) goes = levels_go tables.holdings holdings h goes sound.levels

    goes_state : Goes tables.holdings holdings (holding_of names row) → state_of after ≡ without_row row (state_of tables)
    goes_state goes = by (holding_of names row) refl goes
      where
        by : (o : Option Holding) → holding_of names row ≡ o → Goes tables.holdings holdings o → state_of after ≡ without_row row (state_of tables)
        by None is goes = alike_state tables holdings goes ∙ none_goes tables row other is
        by (Some h) is goes = row_goes tables holdings row h is goes

-- ---- the same, where the tables are seen as what they were

module _ (tables now : Tables) (seen : tables ≡ now) (sound : AreSound tables) (row : Row) (other : is_account row ≡ false) where
  pub put_ready : IsReadyFor (state_of now) row → IsReadyHeld tables.holdings (holding_of tables.accounts.names row)
  put_ready ready = ready_held tables sound row other (subst (λ t. IsReadyFor (state_of t) row) (sym seen) ready)

  pub take_ready : IsFreeToGo (state_of now) row → MayGo tables.holdings (holding_of tables.accounts.names row)
  take_ready free = may_go tables sound row other (subst (λ t. IsFreeToGo (state_of t) row) (sym seen) free)

  module _ (holdings : Holdings) (same : length holdings.globals ≡ length tables.holdings.globals) where
    pub put_state : names_stand (state_of now) row ≡ true → Comes tables.holdings holdings (holding_of tables.accounts.names row)
        → state_of (record tables { holdings = holdings }) ≡ with_row row (state_of now)
    put_state stand comes =
        comes_state tables sound row other holdings same (ap (λ t. names_stand (state_of t) row) seen ∙ stand) comes ∙ ap (λ t. with_row row (state_of t)) seen

    pub put_sound : names_stand (state_of now) row ≡ true → has_its_level row ≡ true → IsReadyFor (state_of now) row → Comes tables.holdings holdings (holding_of tables.accounts.names row) → AreSound (record tables { holdings = holdings })
    put_sound stand level ready comes =
        comes_sound tables sound row other holdings same (ap (λ t. names_stand (state_of t) row) seen ∙ stand) level
        (subst (λ t. IsReadyFor (state_of t) row) (sym seen) ready) comes

    pub take_state : Goes tables.holdings holdings (holding_of tables.accounts.names row) → state_of (record tables { holdings = holdings }) ≡ without_row row (state_of now)
    take_state goes = goes_state tables sound row other holdings same goes ∙ ap (λ t. without_row row (state_of t)) seen

    pub take_sound : IsFreeToGo (state_of now) row → Goes tables.holdings holdings (holding_of tables.accounts.names row) → AreSound (record tables { holdings = holdings })
    take_sound free goes = goes_sound tables sound row other holdings same (subst (λ t. IsFreeToGo (state_of t) row) (sym seen) free) goes
