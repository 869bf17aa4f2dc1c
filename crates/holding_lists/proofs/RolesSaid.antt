-- What links and default roles say of roles.
use Rattle.std.proofs.Common.{◌≡◌, ◌≢◌, ◌∙◌, refl, sym, ap, ℕ, ◌+◌, ◌<◌, ◌≤◌, Bool, true, false, ◌==◌, ◌&&◌, ◌||◌, List, [], ◌∷◌, ◌++◌, Some, length, take, get_or, nat_lt, inl, inr}
use Rattle.std.specs.List.{All, list_any, slice_get}
use Rattle.std.proofs.lemmas.Bool.{and_left, cases_eq, eq-eqb, ne_eqb, or_parts}
use Rattle.std.proofs.lemmas.List.{take_all}
use Rattle.std.proofs.lemmas.List.Folds.{list_any_more}
use Rattle.std.proofs.lemmas.Option.{get_or_from_slice_get, slice_get_within}
use Rattle.std.proofs.Math.Bool.{and-false, and-true, and_comm, or-false}
use Rattle.account_holdings.proofs.Roles.{granted_with_admin}
use Rattle.account_holdings.specs.Holdings.{same_holding}
use Rattle.account_holdings.specs.declared.holding.Holding.{Holding}
use Rattle.account_holdings.specs.declared.holding.Holding.TheVariants.{Edge, Admin, Default}
use Rattle.held_bits.proofs.Readings.{has_thing_counted}
use Rattle.held_bits.specs.Bits.{are_none}
use Rattle.held_bits.specs.HeldBits.{Entry, has_thing, is_entry, uses_in}
use Rattle.held_bits.specs.declared.bits.Bits.{Bits}
use Rattle.role_graph.specs.Edges.{Edges, granted, leads_to, leads_with_admin, with_admin}
use Rattle.role_graph.specs.declared.link.Link.{Link}
use Rattle.holding_lists.specs.Additions.{Adds, default_of, defaults_held, holders_held, roles_held}
use Rattle.holding_lists.specs.Said.{default_says, edge_says}
use Rattle.holding_lists.proofs.Additions.{adds_both, adds_one, adds_same}
use Rattle.holding_lists.proofs.Entries.{any_false, any_guarded, any_of_holder, any_same, said, says_nothing, some_held}

same_either_way : (m n : ℕ) → (m == n) ≡ (n == m)
same_either_way m n = elim (cases_eq m n) [
  | inl same ↦ eq-eqb m n same ∙ sym (eq-eqb n m (sym same))
  | inr other ↦ ne_eqb m n other ∙ sym (ne_eqb n m (λ same. other (sym same)))
]

-- ---- links

pub roles_read : (edges : Edges) (account : ℕ) (links : List Link) (place : ℕ) → length links ≤ place
    → ((role : ℕ) → list_any (leads_to role) links ≡ granted edges role account) → ((role : ℕ) → list_any (leads_with_admin role) links ≡ with_admin edges role account)
    → (h : Holding) → list_any (λ link. edge_says link.to account link.admin h) (take place links) ≡ roles_held edges account h
roles_read edges account links place end grants options h = ap (list_any (λ link. edge_says link.to account link.admin h)) (take_all place links end) ∙ whole h
  where
    whole : (h : Holding) → list_any (λ link. edge_says link.to account link.admin h) links ≡ roles_held edges account h
    whole (Edge r t) = any_guarded (t == account) (leads_to r) links ∙ ap (λ b. (t == account) && b) (grants r)
    whole (Admin r t) = any_guarded (t == account) (leads_with_admin r) links ∙ ap (λ b. (t == account) && b) (options r)
    whole _ = any_false links

pub holders_read : (edges : Edges) (account : ℕ) (links : List Link) (place : ℕ) → length links ≤ place
    → ((holder : ℕ) → list_any (leads_to holder) links ≡ granted edges account holder)
    → (h : Holding) → list_any (λ link. edge_says account link.to (with_admin edges account link.to) h) (take place links) ≡ holders_held edges account h
holders_read edges account links place end grants h =
    ap (list_any (λ link. edge_says account link.to (with_admin edges account link.to) h)) (take_all place links end) ∙ whole h
  where
    edge : (r t : ℕ) (link : Link) → ((t == link.to) && (account == r)) ≡ ((r == account) && (link.to == t))
    edge r t link = and_comm (t == link.to) (account == r) ∙ ap (λ b. b && (t == link.to)) (same_either_way account r) ∙ ap (λ b. (r == account) && b) (same_either_way t link.to)

    spread : (x y z : Bool) → (x && (y && z)) ≡ (y && (x && z))
    spread true y z = refl
    spread false y z = sym (and-false y)

    option : (r t : ℕ) (link : Link)
        → ((t == link.to) && ((account == r) && with_admin edges account link.to)) ≡ ((r == account) && (with_admin edges account t && (link.to == t)))
    option r t link =
        elim (cases_eq t link.to) [
          | inl same ↦
              spread (t == link.to) (account == r) (with_admin edges account link.to)
              ∙ ap (λ b. b && ((t == link.to) && with_admin edges account link.to)) (same_either_way account r)
              ∙ ap (λ b. (r == account) && b)
              (and_comm (t == link.to) (with_admin edges account link.to)
              ∙ ap (λ b. with_admin edges account link.to && b) (same_either_way t link.to)
              ∙ ap (λ n. with_admin edges account n && (link.to == t)) (sym same))
          | inr other ↦
              ap (λ b. b && ((account == r) && with_admin edges account link.to)) (ne_eqb t link.to other)
              ∙ sym (ap (λ b. (r == account) && (with_admin edges account t && b)) (ne_eqb link.to t (λ same. other (sym same)))
              ∙ ap (λ b. (r == account) && b) (and-false (with_admin edges account t)) ∙ and-false (r == account))
        ]

    held_where_granted : (t : ℕ) (x : Bool) → with_admin edges account t ≡ x → (x && granted edges account t) ≡ x
    held_where_granted t true is = granted_with_admin edges account t is
    held_where_granted t false is = refl

    whole : (h : Holding) → list_any (λ link. edge_says account link.to (with_admin edges account link.to) h) links ≡ holders_held edges account h
    whole (Edge r t) =
        any_same (λ (link : Link). (t == link.to) && (account == r)) (λ link. (r == account) && (link.to == t)) (edge r t) links
        ∙ any_guarded (r == account) (leads_to t) links ∙ ap (λ b. (r == account) && b) (grants t)
    whole (Admin r t) =
        any_same (λ (link : Link). (t == link.to) && ((account == r) && with_admin edges account link.to))
        (λ link. (r == account) && (with_admin edges account t && (link.to == t))) (option r t) links
        ∙ any_guarded (r == account) (λ link. with_admin edges account t && (link.to == t)) links
        ∙ ap (λ b. (r == account) && b)
        (any_guarded (with_admin edges account t) (leads_to t) links ∙ ap (λ b. with_admin edges account t && b) (grants t)
        ∙ held_where_granted t (with_admin edges account t) refl)
    whole _ = any_false links

-- ---- default roles of one account

pub default_pushed : (account role : ℕ) (bits : Bits) (h : Holding) → same_holding h (Default account role) ≡ default_says h (record { holder = account; thing = role; bits = bits })
default_pushed account role bits (Default of other) = refl
default_pushed account role bits _ = refl

pub defaults_read : (es : List (Entry ℕ)) → All (λ e. are_none e.bits ≡ false) es → (account : ℕ) (h : Holding) → said default_says account es h ≡ defaults_held es account h
defaults_read es some account (Default of role) =
    any_same (λ (e : Entry ℕ). (e.holder == account) && is_entry (λ one other. one == other) of role e)
    (λ e. (e.holder == account) && (is_entry (λ one other. one == other) of role e && true))
    (λ e. ap (λ b. (e.holder == account) && b) (sym (and-true (is_entry (λ one other. one == other) of role e)))) es
    ∙ any_of_holder (λ one other. one == other) es account of role (λ b. true)
    ∙ ap (λ b. (of == account) && b) (some_held (λ one other. one == other) of role es some)
defaults_read es some account _ = says_nothing es account

-- ---- default roles that are one account

abbrev pub said_of_role : ℕ → List (Entry ℕ) → Holding → Bool
said_of_role role es h = list_any (λ e. (e.thing == role) && default_says h e) es

abbrev speaks : ℕ → Holding → Entry ℕ → Bool
speaks role h e = (e.thing == role) && default_says h e

-- an entry comes, on the account or not
pub of_role_comes : (es : List (Entry ℕ)) (account place holder role : ℕ) (bits : Bits) (old list new : List Holding)
    → slice_get es place ≡ Some (record { holder = holder; thing = role; bits = bits }) → role ≡ account → new ≡ list ++ Default holder account ∷ []
    → Adds old list (said_of_role account (take place es)) → Adds old new (said_of_role account (take (place + 1) es))
of_role_comes es account place holder role bits old list new at same is_new before =
    let e : Entry ℕ = record { holder = holder; thing = role; bits = bits } in
    let inside : place < length es = slice_get_within es place e at in
    let is : get_or es place e ≡ e = get_or_from_slice_get es place e e at in
    adds_same old new (λ h. said_of_role account (take place es) h || same_holding h (Default holder account)) (said_of_role account (take (place + 1) es))
    (λ h.
    sym (list_any_more (speaks account h) es place e inside
    ∙ ap (λ b. said_of_role account (take place es) h || b)
    (ap (speaks account h) is ∙ ap (λ b. b && default_says h e) (eq-eqb role account same) ∙ sym (default_pushed holder role bits h) ∙ ap (λ r. same_holding h (Default holder r)) same)))
    (adds_both old list new (said_of_role account (take place es)) (λ h. same_holding h (Default holder account)) before
    (adds_one list new (Default holder account) (Default holder account) refl is_new))

pub of_role_passes : (es : List (Entry ℕ)) (account place holder role : ℕ) (bits : Bits) (old list new : List Holding)
    → slice_get es place ≡ Some (record { holder = holder; thing = role; bits = bits }) → role ≢ account → new ≡ list
    → Adds old list (said_of_role account (take place es)) → Adds old new (said_of_role account (take (place + 1) es))
of_role_passes es account place holder role bits old list new at other is_new before =
    let e : Entry ℕ = record { holder = holder; thing = role; bits = bits } in
    let inside : place < length es = slice_get_within es place e at in
    let is : get_or es place e ≡ e = get_or_from_slice_get es place e e at in
    adds_same old new (said_of_role account (take place es)) (said_of_role account (take (place + 1) es))
    (λ h.
    sym (list_any_more (speaks account h) es place e inside
    ∙ ap (λ b. said_of_role account (take place es) h || b)
    (ap (speaks account h) is ∙ and_left (role == account) (default_says h e) (ne_eqb role account other))
    ∙ or-false (said_of_role account (take place es) h)))
    (λ h. ap (list_any (same_holding h)) is_new ∙ before h)

-- a test of the role of an entry is one of the role that is sought
of_role : (es : List (Entry ℕ)) (account of role : ℕ)
    → list_any (λ e. (e.thing == account) && is_entry (λ one other. one == other) of role e) es ≡ ((role == account) && list_any (λ e. is_entry (λ one other. one == other) of role e && true) es)
of_role es account of role =
    any_same (λ (e : Entry ℕ). (e.thing == account) && ((of == e.holder) && (role == e.thing)))
    (λ e. (role == account) && (((of == e.holder) && (role == e.thing)) && true)) moved es
    ∙ any_guarded (role == account) (λ e. ((of == e.holder) && (role == e.thing)) && true) es
  where
    moved : (e : Entry ℕ) → ((e.thing == account) && ((of == e.holder) && (role == e.thing))) ≡ ((role == account) && (((of == e.holder) && (role == e.thing)) && true))
    moved e =
        elim (cases_eq role e.thing) [
          | inl same ↦
              ap (λ n. (n == account) && ((of == e.holder) && (role == e.thing))) (sym same)
              ∙ ap (λ b. (role == account) && b) (sym (and-true ((of == e.holder) && (role == e.thing))))
          | inr other ↦
              ap (λ b. (e.thing == account) && ((of == e.holder) && b)) (ne_eqb role e.thing other)
              ∙ ap (λ b. (e.thing == account) && b) (and-false (of == e.holder)) ∙ and-false (e.thing == account)
              ∙ sym (ap (λ b. (role == account) && (((of == e.holder) && b) && true)) (ne_eqb role e.thing other)
              ∙ ap (λ b. (role == account) && (b && true)) (and-false (of == e.holder)) ∙ and-false (role == account))
        ]

of_role_held : (es : List (Entry ℕ)) → All (λ e. are_none e.bits ≡ false) es → (account : ℕ) (h : Holding) → said_of_role account es h ≡ default_of es account h
of_role_held es some account (Default of role) =
    of_role es account of role ∙ ap (λ b. (role == account) && b) (some_held (λ one other. one == other) of role es some)
of_role_held es some account _ = nothing es
  where
    nothing : (xs : List (Entry ℕ)) → list_any (λ e. (e.thing == account) && false) xs ≡ false
    nothing xs = any_same (λ (e : Entry ℕ). (e.thing == account) && false) (λ e. false) (λ e. and-false (e.thing == account)) xs ∙ any_false xs

pub of_role_read : (es : List (Entry ℕ)) → All (λ e. are_none e.bits ≡ false) es → (account place : ℕ) → length es ≤ place
    → (h : Holding) → said_of_role account (take place es) h ≡ default_of es account h
of_role_read es some account place end h = ap (λ xs. said_of_role account xs h) (take_all place es end) ∙ of_role_held es some account h

-- without uses the account is no default role
pub of_role_unused : (es : List (Entry ℕ)) → All (λ e. are_none e.bits ≡ false) es → (account : ℕ) → uses_in (λ one other. one == other) es account ≡ 0
    → (h : Holding) → default_of es account h ≡ false
of_role_unused es some account unused h = sym (of_role_held es some account h) ∙ silent es none
  where
    none : has_thing (λ one other. one == other) es account ≡ false
    none = has_thing_counted (λ one other. one == other) es account ∙ ap (nat_lt 0) unused

    silent : (xs : List (Entry ℕ)) → has_thing (λ one other. one == other) xs account ≡ false → said_of_role account xs h ≡ false
    silent [] none = refl
    silent (x ∷ xs) none =
        let parts = or_parts (account == x.thing) (has_thing (λ one other. one == other) xs account) none in
        ap (λ b. b || said_of_role account xs h) (and_left (x.thing == account) (default_says h x) (same_either_way x.thing account ∙ parts.0))
        ∙ silent xs parts.1
