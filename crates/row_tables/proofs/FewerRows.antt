-- Where fewer rows stand, no limit is exceeded that was not.
use Rattle.std.proofs.Common.{◌≡◌, ℕ, ◌≤◌, ◌==◌, count_by, subst, IsTrue}
use Rattle.std.specs.List.{All}
use Rattle.acl_model.proofs.SameRows.{equal_from_same_row, same_row_itself}
use Rattle.acl_model.specs.Counts.{IsEdgeInUse, IsExceeded, IsObjectInUse, IsPairInUse, IsSchemaInUse, same_pair}
use Rattle.acl_model.specs.Rows.{same_row}
use Rattle.acl_model.specs.State.{State, stands}
use Rattle.acl_model.specs.declared.row.Row.{Row}
use Rattle.acl_names.proofs.SameAuth.{equal_from_same_auth, equal_from_text_eq, same_auth_itself, text_eq_itself}
use Rattle.acl_names.specs.AuthId.{same_auth}
use Rattle.acl_names.specs.Text.{text_eq}
use Rattle.acl_stmt.specs.declared.refusal.Full.{Full}
use Rattle.acl_stmt.specs.declared.refusal.Full.TheVariants as full
use Rattle.held_bits.specs.HeldBits.{IsSound}
use Rattle.numbered_rows.proofs.Counts.{accounts_listed}
use Rattle.numbered_rows.proofs.Fewer.{account_stays, edge_stays, object_stays, pair_stays, schema_stays, within_more}
use Rattle.numbered_rows.proofs.Limits.{edges_listed, equal_pair, objects_listed, pair_itself, pairs_listed, schemas_listed}
use Rattle.numbered_rows.specs.Tables.{AreSound, Tables, state_of}
use Rattle.object_bits.specs.Objects.{same_object}
use Rattle.role_graph.specs.Edges.{is_link}

module _ (tables now : Tables) (seen : tables ≡ now) (sound : AreSound tables)
    (schemas : IsSound text_eq tables.holdings.schemas.entries)
    (objects : IsSound same_object tables.holdings.objects.entries) (plain : All (λ e. e.bits.restricted ≡ 0) tables.holdings.objects.entries)
    (links : (from to : ℕ) → count_by (is_link from to) tables.holdings.roles.links ≤ 1)
    (defaults : IsSound (λ one other. one == other) tables.holdings.defaults.entries) where
  exceeded : (few : State) (what : Full) → ((row : Row) → IsTrue (few.rows row) → IsTrue ((state_of tables).rows row)) → IsExceeded few what → IsExceeded (state_of tables) what
  exceeded few full.Accounts stay more =
      within_more same_auth equal_from_same_auth same_auth_itself (λ a. IsTrue (stands few a)) (λ a. IsTrue (stands (state_of tables) a)) _ (accounts_listed tables sound.once)
      (account_stays few (state_of tables) stay) 4096 more
  exceeded few full.Schemas stay more =
      within_more text_eq equal_from_text_eq text_eq_itself (IsSchemaInUse few) (IsSchemaInUse (state_of tables)) _ (schemas_listed tables sound.once sound.well schemas)
      (schema_stays few (state_of tables) stay) 4096 more
  exceeded few full.Pairs stay more =
      within_more same_pair (equal_pair tables sound.once sound.well schemas) (pair_itself tables sound.once sound.well schemas) (IsPairInUse few) (IsPairInUse (state_of tables)) _
      (pairs_listed tables sound.once sound.well schemas) (pair_stays few (state_of tables) stay) 262144 more
  exceeded few full.Objects stay more =
      within_more same_row equal_from_same_row same_row_itself (IsObjectInUse few) (IsObjectInUse (state_of tables)) _ (objects_listed tables sound.once sound.well objects plain)
      (object_stays few (state_of tables) stay) 65536 more
  exceeded few full.Edges stay more =
      within_more same_row equal_from_same_row same_row_itself (IsEdgeInUse few) (IsEdgeInUse (state_of tables)) _ (edges_listed tables sound.once sound.well links defaults)
      (edge_stays few (state_of tables) stay) 65536 more

  pub fewer_exceed : (few : State) (what : Full) → ((row : Row) → IsTrue (few.rows row) → IsTrue ((state_of now).rows row)) → IsExceeded few what → IsExceeded (state_of now) what
  fewer_exceed =
      subst (λ t. (few : State) (what : Full) → ((row : Row) → IsTrue (few.rows row) → IsTrue ((state_of t).rows row)) → IsExceeded few what → IsExceeded (state_of t) what) seen exceeded
