-- Accepted statements stay within the limits, and the first state is within them.
use Rattle.std.proofs.Common.{◌≡◌, ap, sym, subst, refl, ℕ, ◌<◌, ◌≤◌, Bool, true, false, List, [], ◌∷◌, length, inl, inr, arith}
use Rattle.std.proofs.lemmas.Bool.{or_left}
use Rattle.std.specs.List.{list_any}
use Rattle.acl_names.proofs.SameAuth.{equal_from_same_auth, same_auth_itself, text_eq_itself}
use Rattle.acl_names.specs.AuthId.{same_auth}
use Rattle.acl_names.specs.Text.{text_eq}
use Rattle.acl_names.specs.declared.auth.AuthId.{AuthId}
use Rattle.accepted_lists.proofs.Longest.{not_longer}
use Rattle.accepted_lists.specs.Accepted.{AreAccepted}
use Rattle.acl_model.proofs.SameRows.{same_row_itself}
use Rattle.acl_model.specs.Acceptance.{limits_in_order}
use Rattle.acl_model.specs.Counts.{HasMoreThan, IsEdgeInUse, IsExceeded, IsObjectInUse, IsPairInUse, IsSchemaInUse, same_pair}
use Rattle.acl_model.specs.Effects.{after, state_after}
use Rattle.acl_model.specs.Firsts.{HasNone}
use Rattle.acl_model.specs.Rows.{same_row}
use Rattle.acl_model.specs.State.{State, opening, root}
use Rattle.acl_model.specs.declared.row.Row.{Row}
use Rattle.acl_model.specs.declared.row.Row.TheVariants.{Column, Default, Edge, Function, Procedure, Table}
use Rattle.acl_stmt.specs.declared.entry.Entry.{Entry}
use Rattle.acl_stmt.specs.declared.refusal.Full.{Full}
use Rattle.acl_stmt.specs.declared.refusal.Full.TheVariants as full

-- ---- lists of limits

none_at_all : {X : Type 0} (P : X → Type 0) → HasNone P []
none_at_all P [] item later split holds = cc
none_at_all P (first ∷ earlier) item later split holds = cc

head_or : {X : Type 0} → X → List X → X
head_or x [] = x
head_or x (y ∷ ys) = y

tail_of : {X : Type 0} → List X → List X
tail_of [] = []
tail_of (y ∷ ys) = ys

none_more : {X : Type 0} (P : X → Type 0) (x : X) (xs : List X) → (P x → ⊥) → HasNone P xs → HasNone P (x ∷ xs)
unfolding head_or tail_of
none_more P x xs first rest [] item later split holds = first (subst P (sym (ap (head_or x) split)) holds)
none_more P x xs first rest (y ∷ earlier) item later split holds = rest earlier item later (ap tail_of split) holds

-- ---- the first state

none_over : {X : Type 0} (same : X → X → Bool) (itself : (x : X) → same x x ≡ true) (P : X → Type 0) (limit : ℕ) → ((x : X) → P x → ⊥) → HasMoreThan same P limit → ⊥
none_over same itself P limit never more = at more.items more.more (λ x is. (more.all.just_these x).0 is)
  where
    at : (items : List _) → limit < length items → ((x : _) → list_any (same x) items ≡ true → P x) → ⊥
    at [] over these = omega arith
    at (x ∷ items) over these = never x (these x (or_left (same x x) (list_any (same x) items) (itself x)))

no_accounts_over : IsExceeded opening full.Accounts → ⊥
no_accounts_over more =
    let short : length more.items ≤ 1 =
    not_longer same_auth equal_from_same_auth same_auth_itself more.items (root ∷ []) more.all.once (λ a is. or_left (same_auth a root) false ((more.all.just_these a).0 is)) in
    let over : 4096 < length more.items = more.more in
    omega arith

no_schema : (s : List ℕ) → IsSchemaInUse opening s → ⊥
no_schema s (a, (p, inl is)) = cc
no_schema s (a, (p, inr is)) = cc

no_pair : (pair : AuthId × List ℕ) → IsPairInUse opening pair → ⊥
no_pair pair (p, inl is) = cc
no_pair pair (p, inr is) = cc

no_object : (row : Row) → IsObjectInUse opening row → ⊥
no_object (Table a s t q) (zeroed, (p, is)) = cc
no_object (Column a s t c q) (zeroed, (p, is)) = cc
no_object (Function a s f q) (zeroed, (p, is)) = cc
no_object (Procedure a s f q) (zeroed, (p, is)) = cc
no_object row used = absurd used

no_edge : (row : Row) → IsEdgeInUse opening row → ⊥
no_edge (Edge role to) is = cc
no_edge (Default of role) is = cc
no_edge row used = absurd used

pair_itself : (pair : AuthId × List ℕ) → same_pair pair pair ≡ true
pair_itself pair = rw (same_auth_itself pair.0, text_eq_itself pair.1) refl

pub within_opening : HasNone (IsExceeded opening) limits_in_order
within_opening =
    let P : Full → Type 0 = IsExceeded opening in
    none_more P full.Accounts _ no_accounts_over
    (none_more P full.Schemas _ (none_over text_eq text_eq_itself (IsSchemaInUse opening) 4096 no_schema)
    (none_more P full.Pairs _ (none_over same_pair pair_itself (IsPairInUse opening) 262144 no_pair)
    (none_more P full.Objects _ (none_over same_row same_row_itself (IsObjectInUse opening) 65536 no_object)
    (none_more P full.Edges _ (none_over same_row same_row_itself (IsEdgeInUse opening) 65536 no_edge) (none_at_all P)))))

-- ---- accepted lists

pub within_from : (history : List Entry) (state : State) → HasNone (IsExceeded state) limits_in_order → AreAccepted history state → HasNone (IsExceeded (state_after history state)) limits_in_order
unfolding state_after
within_from [] state within accepted = within
within_from (entry ∷ history) state within accepted = within_from history (after entry state) accepted.0.within accepted.1

pub within_history : (history : List Entry) → AreAccepted history opening → HasNone (IsExceeded (state_after history opening)) limits_in_order
within_history history accepted = within_from history opening within_opening accepted

-- the objects are few
pub few_objects : (state : State) → HasNone (IsExceeded state) limits_in_order → HasMoreThan same_row (IsObjectInUse state) 65536 → ⊥
few_objects state within more = within (full.Accounts ∷ full.Schemas ∷ full.Pairs ∷ []) full.Objects (full.Edges ∷ []) refl more
