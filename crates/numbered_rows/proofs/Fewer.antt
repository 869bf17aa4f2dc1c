-- Where fewer rows stand, no more of what is limited is in use.
use Rattle.std.proofs.Common.{◌≡◌, ℕ, ◌<◌, ◌≤◌, Bool, true, List, length, IsTrue, inl, inr, arith}
use Rattle.std.proofs.lemmas.Bool.{and_from}
use Rattle.acl_model.proofs.SameRows.{equal_from_same_row, same_row_itself}
use Rattle.acl_model.specs.Counts.{HasMoreThan, IsEdgeInUse, IsExceeded, IsObjectInUse, IsPairInUse, IsSchemaInUse, ListsEachOnce, same_pair}
use Rattle.acl_model.specs.Rows.{same_row}
use Rattle.acl_model.specs.State.{State, stands}
use Rattle.acl_model.specs.declared.row.Row.{Row}
use Rattle.acl_model.specs.declared.row.Row.TheVariants.{Account, Column, Default, Edge, Function, Procedure, Restriction, Schema, Table}
use Rattle.acl_names.proofs.SameAuth.{equal_from_same_auth, equal_from_text_eq, same_auth_itself, text_eq_itself}
use Rattle.acl_names.specs.AuthId.{same_auth}
use Rattle.acl_names.specs.Text.{text_eq}
use Rattle.acl_names.specs.declared.auth.AuthId.{AuthId}
use Rattle.numbered_rows.proofs.Counting.{not_longer}

-- a set within a set that is listed has not more items
pub within_more : {X : Type 0} (same : X → X → Bool) → ((a b : X) → same a b ≡ true → a ≡ b) → ((a : X) → same a a ≡ true)
    → (P Q : X → Type 0) (items : List X) → ListsEachOnce same Q items → ((x : X) → P x → Q x) → (limit : ℕ) → HasMoreThan same P limit → HasMoreThan same Q limit
within_more same equal itself P Q items all within limit more =
    let least : length more.items ≤ length items =
    not_longer same equal itself more.items items more.all.once (λ z any. (all.just_these z).1 (within z ((more.all.just_these z).0 any))) in
    let over : limit < length more.items = more.more in
    record { items = items; all = all; more = omega (arith, least, over) }

module _ (few many : State) (stay : (row : Row) → IsTrue (few.rows row) → IsTrue (many.rows row)) where
  pub account_stays : (a : AuthId) → IsTrue (stands few a) → IsTrue (stands many a)
  account_stays a there = stay (Account a) there

  pub pair_stays : (pair : AuthId × List ℕ) → IsPairInUse few pair → IsPairInUse many pair
  pair_stays pair used = (
    used.0,
    elim used.1 [
      | inl granted ↦ inl (stay (Schema pair.0 pair.1 used.0) granted)
      | inr restricted ↦ inr (stay (Restriction pair.0 used.0 pair.1) restricted)
    ],
  )

  pub schema_stays : (s : List ℕ) → IsSchemaInUse few s → IsSchemaInUse many s
  schema_stays s used = (used.0, pair_stays (used.0, s) used.1)

  pub object_stays : (row : Row) → IsObjectInUse few row → IsObjectInUse many row
  object_stays (Table a s t q) used = (used.0, (used.1.0, stay (Table a s t used.1.0) used.1.1))
  object_stays (Column a s t c q) used = (used.0, (used.1.0, stay (Column a s t c used.1.0) used.1.1))
  object_stays (Function a s f q) used = (used.0, (used.1.0, stay (Function a s f used.1.0) used.1.1))
  object_stays (Procedure a s f q) used = (used.0, (used.1.0, stay (Procedure a s f used.1.0) used.1.1))
  object_stays _ used = absurd used

  pub edge_stays : (row : Row) → IsEdgeInUse few row → IsEdgeInUse many row
  edge_stays (Edge role to) used = stay (Edge role to) used
  edge_stays (Default of role) used = stay (Default of role) used
  edge_stays _ used = absurd used
