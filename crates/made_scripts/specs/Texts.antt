-- How made lines are written.
use Rattle.std.specs.Prelude.{ℕ, List, [], ◌∷◌, ◌++◌, codes, decimal}
use Rattle.made_scripts.specs.declared.deed.Deed.{Deed}
use Rattle.made_scripts.specs.declared.deed.Deed.TheVariants.{CreateUser, CreateRole, GrantOnSchema, GrantRole, GrantEverywhere, RevokeOnSchema, UseSchema, CheckOnTable}
use Rattle.made_scripts.specs.declared.deed.MadeLine.{MadeLine}
use Rattle.made_scripts.specs.declared.deed.Right.{Right}
use Rattle.made_scripts.specs.declared.deed.Right.TheVariants.{Select, Insert, Update, Delete}

abbrev pub right_text : Right → List ℕ
right_text Select = codes "SELECT"
right_text Insert = codes "INSERT"
right_text Update = codes "UPDATE"
right_text Delete = codes "DELETE"

abbrev pub user_name : ℕ → List ℕ
user_name user = codes "u" ++ decimal user

abbrev pub role_name : ℕ → List ℕ
role_name role = codes "r" ++ decimal role

abbrev pub schema_name : ℕ → List ℕ
schema_name schema = codes "d" ++ decimal schema

abbrev pub session_name : ℕ → List ℕ
session_name session = codes "s" ++ decimal session

abbrev pub deed_text : Deed → List ℕ
deed_text (CreateUser user) = codes "CREATE USER IF NOT EXISTS " ++ user_name user
deed_text (CreateRole role) = codes "CREATE ROLE IF NOT EXISTS " ++ role_name role
deed_text (GrantOnSchema right schema user) =
    codes "GRANT " ++ (right_text right ++ (codes " ON " ++ (schema_name schema ++ (codes ".* TO " ++ user_name user))))
deed_text (GrantRole role user) = codes "GRANT " ++ (role_name role ++ (codes " TO " ++ user_name user))
deed_text (GrantEverywhere right role) = codes "GRANT " ++ (right_text right ++ (codes " ON *.* TO " ++ role_name role))
deed_text (RevokeOnSchema right schema role) =
    codes "REVOKE " ++ (right_text right ++ (codes " ON " ++ (schema_name schema ++ (codes ".* FROM " ++ role_name role))))
deed_text (UseSchema schema) = codes "USE " ++ schema_name schema
deed_text (CheckOnTable right schema) = codes "CHECK " ++ (right_text right ++ (codes " ON " ++ (schema_name schema ++ codes ".t")))

-- a line with a command of the session with this number
abbrev pub command_line : ℕ → List ℕ → List ℕ
command_line session command = session_name session ++ (codes "> " ++ (command ++ 10 ∷ []))

abbrev pub line_text : MadeLine → List ℕ
line_text line = command_line line.session (deed_text line.deed)

-- the line that connects the session with this number
abbrev pub first_line : ℕ → List ℕ
first_line session = command_line session (codes "CONNECT root FROM LOCAL")
