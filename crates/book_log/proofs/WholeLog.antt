-- The worked example of a log of two sessions is legal as a whole.
use Rattle.std.proofs.Common.{◌≡◌, ◌∙◌, ℕ, ◌<◌, ◌≤◌, Bool, true, false, ◌&&◌, ◌||◌, not, List, [], ◌∷◌, length, None, refl, sym, arith, inl, inr, rules}
use Rattle.std.proofs.lemmas.Bool.{and_parts, not-true, or_left, or_parts, true≢false}
use Rattle.std.proofs.lemmas.Map.Made.{length-le_from_is_member}
use Rattle.std.specs.Cmp.Rules.{comparing}
use Rattle.std.specs.List.{AllByRecursion, IsDistinct, list_any}
use Rattle.acl_model.proofs.SameRows.{same_row_itself}
use Rattle.acl_model.specs.Counts.{HasMoreThan, IsEdgeInUse, IsExceeded, IsObjectInUse, IsPairInUse, IsSchemaInUse, ListsEachOnce, same_pair}
use Rattle.acl_model.specs.Effects.{after, becomes, changed, state_after}
use Rattle.acl_model.specs.Refusals.{first_fault}
use Rattle.acl_model.specs.Rows.{same_row}
use Rattle.acl_model.specs.State.{State, root, stands}
use Rattle.acl_model.specs.declared.row.Row.{Row}
use Rattle.acl_model.specs.declared.row.Row.TheVariants as row
use Rattle.acl_names.proofs.SameAuth.{same_auth_itself, text_eq_itself}
use Rattle.acl_names.specs.AuthId.{same_auth}
use Rattle.acl_names.specs.Text.{text_eq}
use Rattle.acl_names.specs.declared.auth.AuthId.{AuthId}
use Rattle.acl_stmt.specs.Entries.{is_entry}
use Rattle.acl_stmt.specs.Lists.{all_differ_by}
use Rattle.acl_stmt.specs.Statements.{is_statement}
use Rattle.acl_stmt.specs.declared.refusal.Full.{Full}
use Rattle.acl_stmt.specs.declared.refusal.Full.TheVariants as full
use Rattle.book_log.proofs.Fronts.{no_longer}
use Rattle.book_log.specs.ExampleLogs.{again, all_of, ann, begun, bob, create, example-refused_between, first, from_nothing, noted_as, second}
use Rattle.book_log.specs.Histories.{history}
use Rattle.book_log.specs.Logs.{IsLegalLog, IsReply, state_at}
use Rattle.book_log.specs.Pasts.{log_of}
use Rattle.priv_map.specs.declared.held.Held.{Held}

-- ---- few accounts

apart_from : (account : AuthId) (accounts : List AuthId) → list_any (same_auth account) accounts ≡ false → AllByRecursion (λ other. same_auth account other ≡ false) accounts
apart_from account [] none = tt
apart_from account (other ∷ accounts) none =
    let parts = or_parts (same_auth account other) (list_any (same_auth account) accounts) none in (parts.0, apart_from account accounts parts.1)

are_distinct : (accounts : List AuthId) → all_differ_by same_auth accounts ≡ true → IsDistinct same_auth accounts
unfolding IsDistinct
are_distinct [] differ = tt
are_distinct (account ∷ accounts) differ =
    let parts = and_parts (not (list_any (same_auth account) accounts)) (all_differ_by same_auth accounts) differ in
    (apart_from account accounts (not-true (list_any (same_auth account) accounts) parts.0), are_distinct accounts parts.1)

few_accounts : (accounts names : List AuthId) → all_differ_by same_auth accounts ≡ true →
    ((account : AuthId) → list_any (same_auth account) accounts ≡ true → list_any (same_auth account) names ≡ true) → length accounts ≤ length names
few_accounts accounts names differ among = length-le_from_is_member (search (comparing, rules)) accounts names (are_distinct accounts differ) among

-- ---- states with few accounts and nothing else

record IsBare (state : State) (names : List AuthId) : Type 0 where
  few : length names ≤ 4096
  accounts : (account : AuthId) → stands state account ≡ true → list_any (same_auth account) names ≡ true
  schemas : (a : AuthId) (s : List ℕ) (p : ℕ) → state.rows (row.Schema a s p) ≡ false
  restrictions : (a : AuthId) (p : ℕ) (s : List ℕ) → state.rows (row.Restriction a p s) ≡ false
  tables : (a : AuthId) (s t : List ℕ) (p : ℕ) → state.rows (row.Table a s t p) ≡ false
  columns : (a : AuthId) (s t c : List ℕ) (p : ℕ) → state.rows (row.Column a s t c p) ≡ false
  functions : (a : AuthId) (s f : List ℕ) (p : ℕ) → state.rows (row.Function a s f p) ≡ false
  procedures : (a : AuthId) (s f : List ℕ) (p : ℕ) → state.rows (row.Procedure a s f p) ≡ false
  edges : (r a : AuthId) → state.rows (row.Edge r a) ≡ false
  defaults : (a r : AuthId) → state.rows (row.Default a r) ≡ false

-- nothing is in use, so no number of it is more than a limit
none_more : {X : Type 0} (same : X → X → Bool) (P : X → Type 0) (limit : ℕ) → ((x : X) → same x x ≡ true) → ((x : X) → P x → ⊥) → HasMoreThan same P limit → ⊥
none_more same P limit itself none more = by more.items more.all more.more
  where
    by : (items : List _) → ListsEachOnce same P items → limit < length items → ⊥
    by [] all order = absurd (omega arith)
    by (x ∷ items) all order = none x ((all.just_these x).0 (or_left (same x x) (list_any (same x) items) (itself x)))

no_schema : (state : State) (names : List AuthId) → IsBare state names → (schema : List ℕ) → IsSchemaInUse state schema → ⊥
no_schema state names bare schema (a, (p, inl is)) = true≢false (sym is ∙ bare.schemas a schema p)
no_schema state names bare schema (a, (p, inr is)) = true≢false (sym is ∙ bare.restrictions a p schema)

no_pair : (state : State) (names : List AuthId) → IsBare state names → (pair : AuthId × List ℕ) → IsPairInUse state pair → ⊥
no_pair state names bare pair (p, inl is) = true≢false (sym is ∙ bare.schemas pair.0 pair.1 p)
no_pair state names bare pair (p, inr is) = true≢false (sym is ∙ bare.restrictions pair.0 p pair.1)

no_object : (state : State) (names : List AuthId) → IsBare state names → (object : Row) → IsObjectInUse state object → ⊥
no_object state names bare (row.Table a s t q) (zero_is, (p, is)) = true≢false (sym is ∙ bare.tables a s t p)
no_object state names bare (row.Column a s t c q) (zero_is, (p, is)) = true≢false (sym is ∙ bare.columns a s t c p)
no_object state names bare (row.Function a s f q) (zero_is, (p, is)) = true≢false (sym is ∙ bare.functions a s f p)
no_object state names bare (row.Procedure a s f q) (zero_is, (p, is)) = true≢false (sym is ∙ bare.procedures a s f p)
no_object state names bare _ is = absurd is

no_edge : (state : State) (names : List AuthId) → IsBare state names → (edge : Row) → IsEdgeInUse state edge → ⊥
no_edge state names bare (row.Edge role account) is = true≢false (sym is ∙ bare.edges role account)
no_edge state names bare (row.Default account role) is = true≢false (sym is ∙ bare.defaults account role)
no_edge state names bare _ is = absurd is

same_pair_itself : (pair : AuthId × List ℕ) → same_pair pair pair ≡ true
same_pair_itself pair = rw (same_auth_itself pair.0, text_eq_itself pair.1) refl

not_exceeded : (state : State) (names : List AuthId) → IsBare state names → (what : Full) → IsExceeded state what → ⊥
not_exceeded state names bare full.Accounts more =
    let few = few_accounts more.items names more.all.once (λ account listed. bare.accounts account ((more.all.just_these account).0 listed)) in
    let order = more.more in
    let limit = bare.few in absurd (omega arith)
not_exceeded state names bare full.Schemas more = none_more text_eq (IsSchemaInUse state) 4096 text_eq_itself (no_schema state names bare) more
not_exceeded state names bare full.Pairs more = none_more same_pair (IsPairInUse state) 262144 same_pair_itself (no_pair state names bare) more
not_exceeded state names bare full.Objects more = none_more same_row (IsObjectInUse state) 65536 same_row_itself (no_object state names bare) more
not_exceeded state names bare full.Edges more = none_more same_row (IsEdgeInUse state) 65536 same_row_itself (no_edge state names bare) more

one_of_two : (x y : Bool) → ((x || false) || (y && true)) ≡ true → (x || (y || false)) ≡ true
one_of_two true y is = refl
one_of_two false true is = refl
one_of_two false false is = absurd (cc)

one_of_three : (x y z : Bool) → ((x || false) || (((y || false) || (z && true)) && true)) ≡ true → (x || (y || (z || false))) ≡ true
one_of_three true y z is = refl
one_of_three false true z is = refl
one_of_three false false true is = refl
one_of_three false false false is = absurd (cc)

first_is_right : (held : Held) → IsReply (from_nothing None) [] (noted_as (first held))
unfolding IsReply history is_entry is_statement state_after after changed becomes first_fault
first_is_right held = (
  refl,
  (
    record {
      nothing_lacked = refl;
      is_accepted = record {
        feasible = record {
          no_fault = refl;
          no_loop = λ earlier pair later is loop. no_longer earlier pair later is;
          no_lack = λ earlier account later is lack. no_longer earlier account later is;
        };
        within = λ earlier what later is more.
            not_exceeded (changed [] (create ann) (state_at (from_nothing None) [])) (ann ∷ root ∷ []) (record {
              few = omega arith;
              accounts = λ account there. one_of_two (same_auth account ann) (same_auth account root) there;
              schemas = λ a s p. refl;
              restrictions = λ a p s. refl;
              tables = λ a s t p. refl;
              columns = λ a s t c p. refl;
              functions = λ a s f p. refl;
              procedures = λ a s f p. refl;
              edges = λ r a. refl;
              defaults = λ a r. refl;
            }) what more;
      };
      has_room = refl;
    },
    refl,
  ),
)

second_is_right : (held : Held) → IsReply (from_nothing None) (noted_as (again held) ∷ begun held) (noted_as (second held))
unfolding IsReply history is_entry is_statement state_after after changed becomes first_fault
second_is_right held = (
  refl,
  (
    record {
      nothing_lacked = refl;
      is_accepted = record {
        feasible = record {
          no_fault = refl;
          no_loop = λ earlier pair later is loop. no_longer earlier pair later is;
          no_lack = λ earlier account later is lack. no_longer earlier account later is;
        };
        within = λ earlier what later is more.
            not_exceeded (changed [] (create bob) (state_at (from_nothing None) (noted_as (again held) ∷ begun held))) (bob ∷ ann ∷ root ∷ []) (record {
              few = omega arith;
              accounts = λ account there. one_of_three (same_auth account bob) (same_auth account ann) (same_auth account root) there;
              schemas = λ a s p. refl;
              restrictions = λ a p s. refl;
              tables = λ a s t p. refl;
              columns = λ a s t c p. refl;
              functions = λ a s f p. refl;
              procedures = λ a s f p. refl;
              edges = λ r a. refl;
              defaults = λ a r. refl;
            }) what more;
      };
      has_room = refl;
    },
    refl,
  ),
)

pub worked_log_is_legal : (held : Held) → IsLegalLog (from_nothing None) (log_of (all_of held))
unfolding IsLegalLog
worked_log_is_legal held = (all_of held, refl, (((tt, first_is_right held), example-refused_between held), second_is_right held))
