-- The names of the dynamic privileges.
use Rattle.std.specs.Prelude.{ℕ, List, [], ◌∷◌, slice_index_or, codes}

-- the names, by the numbers of the privileges
unfoldable pub dynamic_names : List (List ℕ)
dynamic_names =
    codes "APPLICATION_PASSWORD_ADMIN" ∷ codes "AUDIT_ADMIN" ∷ codes "BACKUP_ADMIN" ∷ codes "BINLOG_ADMIN" ∷
    codes "BINLOG_ENCRYPTION_ADMIN" ∷ codes "CLONE_ADMIN" ∷ codes "CONNECTION_ADMIN" ∷ codes "ENCRYPTION_KEY_ADMIN" ∷
    codes "GROUP_REPLICATION_ADMIN" ∷ codes "PERSIST_RO_VARIABLES_ADMIN" ∷ codes "REPLICATION_APPLIER" ∷ codes "REPLICATION_SLAVE_ADMIN" ∷
    codes "RESOURCE_GROUP_ADMIN" ∷ codes "RESOURCE_GROUP_USER" ∷ codes "ROLE_ADMIN" ∷ codes "SESSION_VARIABLES_ADMIN" ∷
    codes "SET_USER_ID" ∷ codes "SYSTEM_USER" ∷ codes "SYSTEM_VARIABLES_ADMIN" ∷ codes "XA_RECOVER_ADMIN" ∷ []

-- the name of the privilege of a number; the empty text from 20 on
abbrev pub dynamic_name : ℕ → List ℕ
dynamic_name number = slice_index_or dynamic_names number []
