-- The rows that stood under the names from before a renaming, or that stand where nothing is renamed.
use Rattle.std.proofs.Common.{◌≡◌, ◌∙◌, ap, sym, refl, Bool, true, false, cond, not, ◌&&◌, List, [], ◌∷◌, Option, Some, None}
use Rattle.std.proofs.lemmas.Bool.{and_from, and_parts}
use Rattle.std.specs.List.{list_all}
use Rattle.acl_names.proofs.SameAuth.{equal_from_same_auth, same_auth_itself}
use Rattle.acl_names.specs.AuthId.{same_auth}
use Rattle.acl_names.specs.declared.auth.AuthId.{AuthId}
use Rattle.accepted_lists.proofs.Named.{never}
use Rattle.accepted_lists.specs.Sound.{IsSound, keeps_rules, stands_beside}
use Rattle.acl_model.specs.Effects.{stood_before}
use Rattle.acl_model.specs.Renames.{name_before, one_name, then_before, two_names}
use Rattle.acl_model.specs.State.{State}
use Rattle.acl_model.specs.declared.row.Row.{Row}
use Rattle.acl_model.specs.declared.row.Row.TheVariants.{Account, Global, Dynamic, DynamicGrant, Schema, Table, Column, Function, Procedure, Edge, Admin, Default, Restriction}
use Rattle.acl_stmt.specs.Lists.{is_some_list}
use Rattle.acl_stmt.specs.Statements.{is_named, is_statement}
use Rattle.acl_stmt.specs.declared.statement.Statement.{Statement}
use Rattle.acl_stmt.specs.declared.statement.Statement.TheVariants.{RenameUser}

abbrev pub Pairs : Type 0
Pairs = List (AuthId × AuthId)

-- whether the row from before stood
abbrev pub was : State → Option Row → Bool
was state None = false
was state (Some row) = state.rows row

-- ---- a test that new names pass

new_pair : (test : AuthId → Bool) (old new m name x : AuthId) → test new ≡ true → (test m ≡ true → test name ≡ true) → test x ≡ true
    → (t u : Bool) → same_auth m new ≡ t → same_auth m old ≡ u → cond t (Some old) (cond u None (Some m)) ≡ Some x → test name ≡ true
new_pair test old new m name x passes more known true u same other is = more (ap test (equal_from_same_auth m new same) ∙ passes)
new_pair test old new m name x passes more known false true same other is = cc
new_pair test old new m name x passes more known false false same other is = let equal : m ≡ x = cc in more (ap test equal ∙ known)

new_step : (test : AuthId → Bool) (old new name x : AuthId) (o : Option AuthId) → test new ≡ true → ((m : AuthId) → o ≡ Some m → test m ≡ true → test name ≡ true)
    → test x ≡ true → then_before old new o ≡ Some x → test name ≡ true
new_step test old new name x None passes more known is = cc
new_step test old new name x (Some m) passes more known is = new_pair test old new m name x passes (more m refl) known (same_auth m new) (same_auth m old) refl refl is

-- a name passes whose former name did
pub passes_kept : (test : AuthId → Bool) (pairs : Pairs) (name x : AuthId) → list_all (λ pair. test pair.1) pairs ≡ true → test x ≡ true → name_before pairs name ≡ Some x → test name ≡ true
passes_kept test [] name x all known is = let equal : name ≡ x = cc in ap test equal ∙ known
passes_kept test (pair ∷ pairs) name x all known is =
    let parts = and_parts (test pair.1) (list_all (λ p. test p.1) pairs) all in
    new_step test pair.0 pair.1 name x (name_before pairs name) parts.0 (λ m was_m is_m. passes_kept test pairs name m parts.1 is_m was_m) known is

abbrev all_named : Pairs → Bool
all_named pairs = list_all (λ pair. is_named pair.1) pairs

renamed_legal : (pairs : Pairs) → is_statement (RenameUser pairs) ≡ true → all_named pairs ≡ true
unfolding is_statement
renamed_legal pairs legal = (and_parts (is_some_list pairs) (all_named pairs) legal).1

-- ---- rules

module _ (pairs : Pairs) (state : State) (sound : IsSound state) where
  one_rules : (row : AuthId → Row) (keeps : Bool) → ((x : AuthId) → keeps_rules (row x) ≡ keeps) → (o : Option AuthId) → was state (one_name row o) ≡ true → keeps ≡ true
  one_rules row keeps same None stood = never stood
  one_rules row keeps same (Some x) stood = sym (same x) ∙ sound.rules (row x) stood

  apart : (role to x y : AuthId) → name_before pairs role ≡ Some x → name_before pairs to ≡ Some y → not (same_auth x y) ≡ true → (t : Bool) → same_auth role to ≡ t → not t ≡ true
  apart role to x y first second other false is = refl
  apart role to x y first second other true is =
      let one : Some x ≡ Some y = sym first ∙ ap (name_before pairs) (equal_from_same_auth role to is) ∙ second in
      let equal : x ≡ y = cc in
      never (sym (ap (λ z. not (same_auth x z)) (sym equal) ∙ ap not (same_auth_itself x)) ∙ other)

  edge_rules : (role to : AuthId) (o u : Option AuthId) → all_named pairs ≡ true → name_before pairs role ≡ o → name_before pairs to ≡ u
      → was state (two_names Edge o u) ≡ true → (is_named role && not (same_auth role to)) ≡ true
  edge_rules role to None u named first second stood = never stood
  edge_rules role to (Some x) None named first second stood = never stood
  edge_rules role to (Some x) (Some y) named first second stood =
      let parts = and_parts (is_named x) (not (same_auth x y)) (sound.rules (Edge x y) stood) in
      and_from (is_named role) (not (same_auth role to)) (passes_kept is_named pairs role x named parts.0 first) (apart role to x y first second parts.1 (same_auth role to) refl)

  renamed_rules : (row : Row) → all_named pairs ≡ true → stood_before (RenameUser pairs) state row ≡ true → keeps_rules row ≡ true
  renamed_rules (Account a) named stood = refl
  renamed_rules (Global a p) named stood = one_rules (λ x. Global x p) (keeps_rules (Global a p)) (λ x. refl) (name_before pairs a) stood
  renamed_rules (Dynamic a d) named stood = one_rules (λ x. Dynamic x d) (keeps_rules (Dynamic a d)) (λ x. refl) (name_before pairs a) stood
  renamed_rules (DynamicGrant a d) named stood = one_rules (λ x. DynamicGrant x d) (keeps_rules (DynamicGrant a d)) (λ x. refl) (name_before pairs a) stood
  renamed_rules (Schema a s p) named stood = one_rules (λ x. Schema x s p) (keeps_rules (Schema a s p)) (λ x. refl) (name_before pairs a) stood
  renamed_rules (Table a s t p) named stood = one_rules (λ x. Table x s t p) (keeps_rules (Table a s t p)) (λ x. refl) (name_before pairs a) stood
  renamed_rules (Column a s t c p) named stood = one_rules (λ x. Column x s t c p) (keeps_rules (Column a s t c p)) (λ x. refl) (name_before pairs a) stood
  renamed_rules (Function a s f p) named stood = one_rules (λ x. Function x s f p) (keeps_rules (Function a s f p)) (λ x. refl) (name_before pairs a) stood
  renamed_rules (Procedure a s f p) named stood = one_rules (λ x. Procedure x s f p) (keeps_rules (Procedure a s f p)) (λ x. refl) (name_before pairs a) stood
  renamed_rules (Edge role to) named stood = edge_rules role to (name_before pairs role) (name_before pairs to) named refl refl stood
  renamed_rules (Admin role to) named stood = refl
  renamed_rules (Default of role) named stood = refl
  renamed_rules (Restriction a p s) named stood = one_rules (λ x. Restriction x p s) (keeps_rules (Restriction a p s)) (λ x. refl) (name_before pairs a) stood

  -- ---- beside each other

  one_beside : (row other : AuthId → Row) → ((x : AuthId) → state.rows (row x) ≡ true → state.rows (other x) ≡ true) → (o : Option AuthId)
      → was state (one_name row o) ≡ true → was state (one_name other o) ≡ true
  one_beside row other beside None stood = never stood
  one_beside row other beside (Some x) stood = beside x stood

  one_not_beside : (row other : AuthId → Row) → ((x : AuthId) → state.rows (row x) ≡ true → not (state.rows (other x)) ≡ true) → (o : Option AuthId)
      → was state (one_name row o) ≡ true → not (was state (one_name other o)) ≡ true
  one_not_beside row other beside None stood = never stood
  one_not_beside row other beside (Some x) stood = beside x stood

  two_beside : (row other : AuthId → AuthId → Row) → ((x y : AuthId) → state.rows (row x y) ≡ true → state.rows (other x y) ≡ true) → (o u : Option AuthId)
      → was state (two_names row o u) ≡ true → was state (two_names other o u) ≡ true
  two_beside row other beside None u stood = never stood
  two_beside row other beside (Some x) None stood = never stood
  two_beside row other beside (Some x) (Some y) stood = beside x y stood

  renamed_beside : (row : Row) → stood_before (RenameUser pairs) state row ≡ true → stands_beside (stood_before (RenameUser pairs) state) row ≡ true
  renamed_beside (DynamicGrant a d) stood = one_beside (λ x. DynamicGrant x d) (λ x. Dynamic x d) (λ x at. sound.beside (DynamicGrant x d) at) (name_before pairs a) stood
  renamed_beside (Admin role to) stood = two_beside Admin Edge (λ x y at. sound.beside (Admin x y) at) (name_before pairs role) (name_before pairs to) stood
  renamed_beside (Restriction a p s) stood =
      and_from (stood_before (RenameUser pairs) state (Global a p)) (not (stood_before (RenameUser pairs) state (Schema a s p)))
      (one_beside (λ x. Restriction x p s) (λ x. Global x p) (λ x at. (and_parts (state.rows (Global x p)) (not (state.rows (Schema x s p))) (sound.beside (Restriction x p s) at)).0) (name_before pairs a) stood)
      (one_not_beside (λ x. Restriction x p s) (λ x. Schema x s p) (λ x at. (and_parts (state.rows (Global x p)) (not (state.rows (Schema x s p))) (sound.beside (Restriction x p s) at)).1) (name_before pairs a) stood)
  renamed_beside row stood = refl

-- for every statement
pub stood_rules : (s : Statement) (state : State) → IsSound state → is_statement s ≡ true → (row : Row) → stood_before s state row ≡ true → keeps_rules row ≡ true
stood_rules (RenameUser pairs) state sound legal row stood = renamed_rules pairs state sound row (renamed_legal pairs legal) stood
stood_rules s state sound legal row stood = sound.rules row stood

pub stood_beside : (s : Statement) (state : State) → IsSound state → (row : Row) → stood_before s state row ≡ true → stands_beside (stood_before s state) row ≡ true
stood_beside (RenameUser pairs) state sound row stood = renamed_beside pairs state sound row stood
stood_beside s state sound row stood = sound.beside row stood
