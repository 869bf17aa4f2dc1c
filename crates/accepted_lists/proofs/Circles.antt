-- No accepted statement closes a circle of roles.
use Rattle.std.proofs.Common.{◌≡◌, ◌∙◌, ap, sym, subst, refl, Bool, true, false, not, ◌&&◌, List, [], ◌∷◌, ◌++◌, Option, Some, None, append_assoc, append-nil, ◌⊎◌, inl, inr}
use Rattle.std.proofs.lemmas.Bool.{and_from, and_parts, or_cases, or_left, or_right}
use Rattle.std.proofs.lemmas.List.Folds.{list_any-append}
use Rattle.std.specs.List.{list_any}
use Rattle.acl_names.proofs.SameAuth.{equal_from_same_auth, same_auth_itself}
use Rattle.acl_names.specs.AuthId.{same_auth}
use Rattle.acl_names.specs.declared.auth.AuthId.{AuthId}
use Rattle.accepted_lists.proofs.Named.{never}
use Rattle.accepted_lists.proofs.Renamed.{Pairs, was}
use Rattle.accepted_lists.proofs.Splits.{Stands, granted_pair}
use Rattle.accepted_lists.specs.Accepted.{AreAccepted}
use Rattle.accepted_lists.specs.Roles.{HasNoCircle}
use Rattle.acl_model.specs.Acceptance.{HasNoLoop, IsAccepted, role_pairs, with_edges}
use Rattle.acl_model.specs.Effects.{after, becomes, changed, state_after, stood_before, takes}
use Rattle.acl_model.specs.Renames.{name_before, two_names}
use Rattle.acl_model.specs.Roles.{Here, Onward, Reaches}
use Rattle.acl_model.specs.State.{State, opening}
use Rattle.acl_model.specs.Words.{grants_role}
use Rattle.acl_model.specs.declared.row.Row.{Row}
use Rattle.acl_model.specs.declared.row.Row.TheVariants.{Edge}
use Rattle.acl_stmt.specs.declared.entry.Entry.{Entry}
use Rattle.acl_stmt.specs.declared.limit.Limit.{Limit}
use Rattle.acl_stmt.specs.declared.statement.Statement.{Statement}
use Rattle.acl_stmt.specs.declared.statement.Statement.TheVariants.{RenameUser}

-- ---- paths

-- the edges of the first are edges of the second
abbrev IsWithin : (Row → Bool) → (Row → Bool) → Type 0
IsWithin rows more = (role to : AuthId) → rows (Edge role to) ≡ true → more (Edge role to) ≡ true

reaches_more : (rows more : Row → Bool) (x y : AuthId) → IsWithin rows more → Reaches rows x y → Reaches more x y
reaches_more rows more x y within Here = Here
reaches_more rows more x y within (Onward holder role way edge) = Onward holder role (reaches_more rows more x holder within way) (within role holder edge)

no_circle_within : (rows more : Row → Bool) → IsWithin rows more → HasNoCircle more → HasNoCircle rows
no_circle_within rows more within none role to edge way = none role to (within role to edge) (reaches_more rows more role to within way)

joined : (rows : Row → Bool) (x y z : AuthId) → Reaches rows x y → Reaches rows y z → Reaches rows x z
joined rows x y z first Here = first
joined rows x y z first (Onward holder role way edge) = Onward holder role (joined rows x y holder first way) edge

-- ---- one edge more

module _ (rows more : Row → Bool) (r a : AuthId) (edges : (x h : AuthId) → more (Edge x h) ≡ true → (rows (Edge x h) ≡ true) ⊎ ((x ≡ r) × (h ≡ a))) where
  -- a path without the new edge, or one up to it and one behind it
  around : (x y : AuthId) → Reaches more x y → Reaches rows x y ⊎ (Reaches rows x a × Reaches rows r y)
  around x y Here = inl Here
  around x y (Onward holder role way edge) = by (around x holder way) (edges role holder edge)
    where
      by : Reaches rows x holder ⊎ (Reaches rows x a × Reaches rows r holder) → (rows (Edge role holder) ≡ true) ⊎ ((role ≡ r) × (holder ≡ a))
          → Reaches rows x role ⊎ (Reaches rows x a × Reaches rows r role)
      by (inl old) (inl there) = inl (Onward holder role old there)
      by (inl old) (inr is) =
          inr (subst (λ (h : AuthId). Reaches rows x h) is.1 old, subst (λ (y : AuthId). Reaches rows r y) (sym is.0) Here)
      by (inr both) (inl there) = inr (both.0, Onward holder role both.1 there)
      by (inr both) (inr is) = inr (both.0, subst (λ (y : AuthId). Reaches rows r y) (sym is.0) Here)

  no_circle_more : HasNoCircle rows → (Reaches rows r a → ⊥) → HasNoCircle more
  no_circle_more none apart role to edge way = by (around role to way) (edges role to edge)
    where
      by : Reaches rows role to ⊎ (Reaches rows role a × Reaches rows r to) → (rows (Edge role to) ≡ true) ⊎ ((role ≡ r) × (to ≡ a)) → ⊥
      by (inl old) (inl there) = none role to there old
      by (inl old) (inr is) =
          apart (subst (λ (x : AuthId). Reaches rows x a) is.0 (subst (λ (y : AuthId). Reaches rows role y) is.1 old))
      by (inr both) (inl there) = apart (joined rows r role a (Onward to role both.1 there) both.0)
      by (inr both) (inr is) = apart (subst (λ (x : AuthId). Reaches rows x a) is.0 both.0)

-- ---- edges of pairs

joins : AuthId → AuthId → AuthId × AuthId → Bool
joins x h pair = same_auth x pair.0 && same_auth h pair.1

last_pair : (rows : Row → Bool) (earlier : Pairs) (pair : AuthId × AuthId) (x h : AuthId) → with_edges (earlier ++ pair ∷ []) rows (Edge x h) ≡ true
    → (with_edges earlier rows (Edge x h) ≡ true) ⊎ ((x ≡ pair.0) × (h ≡ pair.1))
unfolding joins
last_pair rows earlier pair x h edge =
    elim (or_cases (rows (Edge x h)) (list_any (joins x h) (earlier ++ pair ∷ [])) edge) [
      | inl old ↦ inl (or_left (rows (Edge x h)) (list_any (joins x h) earlier) old)
      | inr new_edge ↦ elim (or_cases (list_any (joins x h) earlier) (list_any (joins x h) (pair ∷ [])) (sym (list_any-append (joins x h) earlier (pair ∷ [])) ∙ new_edge)) [
        | inl before ↦ inl (or_right (rows (Edge x h)) (list_any (joins x h) earlier) before)
        | inr last ↦ elim (or_cases (joins x h pair) false last) [
          | inl same ↦
              let parts = and_parts (same_auth x pair.0) (same_auth h pair.1) same in inr (equal_from_same_auth x pair.0 parts.0, equal_from_same_auth h pair.1 parts.1)
          | inr none ↦ never none
        ]
      ]
    ]

grown : (state : State) (pairs earlier later : Pairs) → pairs ≡ earlier ++ later → HasNoLoop state pairs → HasNoCircle (with_edges earlier state.rows) → HasNoCircle (with_edges pairs state.rows)
grown state pairs earlier [] split loopless none =
    let whole : pairs ≡ earlier = split ∙ append-nil earlier in
    subst (λ (ps : Pairs). HasNoCircle (with_edges ps state.rows)) (sym whole) none
grown state pairs earlier (pair ∷ later) split loopless none =
    grown state pairs (earlier ++ pair ∷ []) later (split ∙ sym (append_assoc earlier (pair ∷ []) later)) loopless
    (no_circle_more (with_edges earlier state.rows) (with_edges (earlier ++ pair ∷ []) state.rows) pair.0 pair.1 (last_pair state.rows earlier pair) none (loopless earlier pair later split))

nothing_more : (rows : Row → Bool) → IsWithin (with_edges [] rows) rows
nothing_more rows role to edge = elim (or_cases (rows (Edge role to)) false edge) [ inl there ↦ there | inr none ↦ never none ]

no_circle_pairs : (state : State) (pairs : Pairs) → HasNoLoop state pairs → HasNoCircle state.rows → HasNoCircle (with_edges pairs state.rows)
no_circle_pairs state pairs loopless none = grown state pairs [] pairs refl loopless (no_circle_within (with_edges [] state.rows) state.rows (nothing_more state.rows) none)

-- ---- renaming

module _ (pairs : Pairs) (state : State) where
  -- the edge under the names from before
  edge_before : (o u : Option AuthId) (h : AuthId) → u ≡ Some h → was state (two_names Edge o u) ≡ true → (r : AuthId) × (o ≡ Some r) × (state.rows (Edge r h) ≡ true)
  edge_before None u h is there = never there
  edge_before (Some r) None h is there = never there
  edge_before (Some r) (Some k) h is there = let same : k ≡ h = cc in (r, refl, ap (λ (x : AuthId). state.rows (Edge r x)) (sym same) ∙ there)

  holder_before : (o u : Option AuthId) → was state (two_names Edge o u) ≡ true → (h : AuthId) × (u ≡ Some h)
  holder_before None u there = never there
  holder_before (Some r) None there = never there
  holder_before (Some r) (Some h) there = (h, refl)

  module _ (renamed : Row → Bool) (edges : (role to : AuthId) → renamed (Edge role to) ≡ true → was state (two_names Edge (name_before pairs role) (name_before pairs to)) ≡ true) where
    way_before : (x y x0 : AuthId) → name_before pairs x ≡ Some x0 → Reaches renamed x y → (y0 : AuthId) × (name_before pairs y ≡ Some y0) × Reaches state.rows x0 y0
    way_before x y x0 is Here = (x0, is, Here)
    way_before x y x0 is (Onward holder role way edge) =
        let rest = way_before x holder x0 is way in
        let old = edge_before (name_before pairs role) (name_before pairs holder) rest.0 rest.1 (edges role holder edge) in
        (old.0, old.1, Onward rest.0 old.0 rest.2 old.2)

    no_circle_renamed : HasNoCircle state.rows → HasNoCircle renamed
    no_circle_renamed none role to edge way =
        let holder = holder_before (name_before pairs role) (name_before pairs to) (edges role to edge) in
        let old = edge_before (name_before pairs role) (name_before pairs to) holder.0 holder.1 (edges role to edge) in
        let path = way_before role to old.0 old.1 way in
        let both : Some path.0 ≡ Some holder.0 = sym path.1 ∙ holder.1 in
        let same : path.0 ≡ holder.0 = cc in
        none old.0 holder.0 old.2 (subst (λ (y : AuthId). Reaches state.rows old.0 y) same path.2)

-- ---- statements

module _ (limits : List Limit) (s : Statement) (state : State) where
  -- an edge that stands afterwards was granted, or stood
  edge_after : (role to : AuthId) → becomes limits s state (Edge role to) (stood_before s state (Edge role to)) ≡ true
      → (grants_role s role to ≡ true) ⊎ (stood_before s state (Edge role to) ≡ true)
  unfolding becomes
  edge_after role to stands =
      elim (or_cases (grants_role s role to) (stood_before s state (Edge role to) && not (takes limits s (Edge role to))) stands) [
        | inl granted ↦ inl granted
        | inr stays ↦ inr (and_parts (stood_before s state (Edge role to)) (not (takes limits s (Edge role to))) stays).0
      ]

among_pairs : (pairs : Pairs) (role to : AuthId) → Stands (role, to) pairs → list_any (joins role to) pairs ≡ true
unfolding joins
among_pairs pairs role to at =
    ap (list_any (joins role to)) at.split ∙ list_any-append (joins role to) at.earlier ((role, to) ∷ at.later)
    ∙ or_right (list_any (joins role to) at.earlier) (list_any (joins role to) ((role, to) ∷ at.later))
    (or_left (joins role to (role, to)) (list_any (joins role to) at.later) (and_from (same_auth role role) (same_auth to to) (same_auth_itself role) (same_auth_itself to)))

rows_of : List Limit → Statement → State → Row → Bool
rows_of limits s state row = becomes limits s state row (stood_before s state row)

-- where nothing is renamed
kept_edges : (limits : List Limit) (s : Statement) (state : State) → ((role to : AuthId) → stood_before s state (Edge role to) ≡ true → state.rows (Edge role to) ≡ true)
    → IsWithin (rows_of limits s state) (with_edges (role_pairs s) state.rows)
unfolding rows_of joins
kept_edges limits s state stood role to edge =
    elim (edge_after limits s state role to edge) [
      | inl granted ↦ or_right (state.rows (Edge role to)) (list_any (joins role to) (role_pairs s)) (among_pairs (role_pairs s) role to (granted_pair s role to granted))
      | inr old ↦ or_left (state.rows (Edge role to)) (list_any (joins role to) (role_pairs s)) (stood role to old)
    ]

pub no_circle_changed : (limits : List Limit) (s : Statement) (state : State) → HasNoLoop state (role_pairs s) → HasNoCircle state.rows → HasNoCircle (changed limits s state).rows
unfolding changed rows_of
no_circle_changed limits (RenameUser pairs) state loopless none =
    no_circle_renamed pairs state (rows_of limits (RenameUser pairs) state)
    (λ role to edge. elim (edge_after limits (RenameUser pairs) state role to edge) [ inl granted ↦ never granted | inr old ↦ old ]) none
no_circle_changed limits s state loopless none =
    no_circle_within (rows_of limits s state) (with_edges (role_pairs s) state.rows) (kept_edges limits s state (λ role to old. old)) (no_circle_pairs state (role_pairs s) loopless none)

pub no_circle_after : (state : State) (entry : Entry) → HasNoCircle state.rows → IsAccepted state entry → HasNoCircle (after entry state).rows
unfolding after
no_circle_after state entry none accepted = no_circle_changed entry.limits entry.statement state accepted.feasible.no_loop none

pub no_circle_opening : HasNoCircle opening.rows
no_circle_opening role to edge way = never edge

pub no_circle_from : (history : List Entry) (state : State) → HasNoCircle state.rows → AreAccepted history state → HasNoCircle (state_after history state).rows
unfolding state_after
no_circle_from [] state none accepted = none
no_circle_from (entry ∷ history) state none accepted = no_circle_from history (after entry state) (no_circle_after state entry none accepted.0) accepted.1
