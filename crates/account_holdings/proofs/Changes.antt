-- One table changes at one place: one holding comes or goes, and each other stays.
use Rattle.std.proofs.Common.{◌≡◌, ◌∙◌, refl, sym, ap, ℕ, ◌==◌, ◌||◌, ◌&&◌, Bool, true, false, cond, not, List}
use Rattle.std.proofs.lemmas.Bool.{and_parts, eqb-true}
use Rattle.acl_names.proofs.SameAuth.{equal_from_text_eq}
use Rattle.acl_names.specs.Text.{text_eq}
use Rattle.account_holdings.specs.Bits.{has_bit}
use Rattle.account_holdings.specs.Globals.{bits_of_kind, global_bits, same_kind}
use Rattle.account_holdings.specs.Holdings.{Holdings, holds, same_holding}
use Rattle.account_holdings.specs.declared.holding.Holding.{Holding}
use Rattle.account_holdings.specs.declared.holding.Holding.TheVariants.{OnAll, OnSchema, Restricted, OnObject, Edge, Admin, Default}
use Rattle.account_holdings.specs.declared.globals.GlobalBits.{GlobalBits}
use Rattle.account_holdings.specs.declared.globals.GlobalKind.{GlobalKind}
use Rattle.held_bits.specs.Bits.{are_none}
use Rattle.held_bits.specs.HeldBits.{Entry, Held, SetsBits, bits_at}
use Rattle.held_bits.specs.declared.bits.Bits.{Bits}
use Rattle.object_bits.proofs.SameObjects.{equal_from_same_object}
use Rattle.object_bits.specs.Objects.{same_object}
use Rattle.object_bits.specs.declared.object.Object.{Object}
use Rattle.std.specs.List.{list_any}
use Rattle.role_graph.specs.Edges.{Edges, granted, is_admin_link, linked, with_admin}

module _ (op : Bool → Bool → Bool) (leaves : (x : Bool) → op x false ≡ x) where
  -- one holding is changed, and each other stays
  abbrev pub Changed : Holdings → Holdings → Holding → Type 0
  Changed old new changed = (holding : Holding) → holds new holding ≡ op (holds old holding) (same_holding holding changed)

  stays : (x : Bool) → x ≡ op x false
  stays x = sym (leaves x)

  -- one of two sets of a pair changes at one bit
  module _ {K : Type 0} (eq : K → K → Bool) (equal : (k l : K) → eq k l ≡ true → k ≡ l) (set_of : Bits → ℕ) (old new : List (Entry K)) (n : ℕ) (s : K) (bits : Bits) (sets : SetsBits eq old new n s bits) where
    pub bit_changes : (p : ℕ) → ((q : ℕ) → has_bit (set_of bits) q ≡ op (has_bit (set_of (bits_at eq old n s)) q) (q == p))
        → (m : ℕ) (t : K) (q : ℕ) → has_bit (set_of (bits_at eq new m t)) q ≡ op (has_bit (set_of (bits_at eq old m t)) q) ((m == n) && eq t s && (q == p))
    bit_changes p changes m t q = ap (λ b. has_bit (set_of b) q) (sets m t) ∙ by ((m == n) && eq t s) refl
      where
        by : (u : Bool) → ((m == n) && eq t s) ≡ u → has_bit (set_of (cond u bits (bits_at eq old m t))) q ≡ op (has_bit (set_of (bits_at eq old m t)) q) (u && (q == p))
        by false other = stays (has_bit (set_of (bits_at eq old m t)) q)
        by true same =
            let parts = and_parts (m == n) (eq t s) same in
            changes q
            ∙ ap (λ k. op (has_bit (set_of (bits_at eq old k s)) q) (q == p)) (sym (eqb-true m n parts.0))
            ∙ ap (λ k. op (has_bit (set_of (bits_at eq old m k)) q) (q == p)) (sym (equal t s parts.1))

    pub bits_stay : set_of bits ≡ set_of (bits_at eq old n s) → (m : ℕ) (t : K) → set_of (bits_at eq new m t) ≡ set_of (bits_at eq old m t)
    bits_stay kept m t = ap set_of (sets m t) ∙ by ((m == n) && eq t s) refl
      where
        by : (u : Bool) → ((m == n) && eq t s) ≡ u → set_of (cond u bits (bits_at eq old m t)) ≡ set_of (bits_at eq old m t)
        by false other = refl
        by true same =
            let parts = and_parts (m == n) (eq t s) same in
            kept ∙ ap (λ k. set_of (bits_at eq old k s)) (sym (eqb-true m n parts.0)) ∙ ap (λ k. set_of (bits_at eq old m k)) (sym (equal t s parts.1))

  module _ (old : Holdings) where
    module _ (schemas : Held (List ℕ)) (n : ℕ) (s : List ℕ) (bits : Bits) (sets : SetsBits text_eq old.schemas.entries schemas.entries n s bits) (p : ℕ) where
      pub schema_granted : ((q : ℕ) → has_bit bits.granted q ≡ op (has_bit (bits_at text_eq old.schemas.entries n s).granted q) (q == p))
          → bits.restricted ≡ (bits_at text_eq old.schemas.entries n s).restricted → Changed old (record old { schemas = schemas }) (OnSchema n s p)
      schema_granted changes kept (OnSchema m t q) = bit_changes text_eq equal_from_text_eq (λ b. b.granted) old.schemas.entries schemas.entries n s bits sets p changes m t q
      schema_granted changes kept (Restricted m t q) =
          ap (λ set. has_bit set q) (bits_stay text_eq equal_from_text_eq (λ b. b.restricted) old.schemas.entries schemas.entries n s bits sets kept m t)
          ∙ stays (has_bit (bits_at text_eq old.schemas.entries m t).restricted q)
      schema_granted changes kept (OnAll kind m q) = stays (holds old (OnAll kind m q))
      schema_granted changes kept (OnObject m o q) = stays (holds old (OnObject m o q))
      schema_granted changes kept (Edge role to) = stays (holds old (Edge role to))
      schema_granted changes kept (Admin role to) = stays (holds old (Admin role to))
      schema_granted changes kept (Default of role) = stays (holds old (Default of role))

      pub schema_restricted : ((q : ℕ) → has_bit bits.restricted q ≡ op (has_bit (bits_at text_eq old.schemas.entries n s).restricted q) (q == p))
          → bits.granted ≡ (bits_at text_eq old.schemas.entries n s).granted → Changed old (record old { schemas = schemas }) (Restricted n s p)
      schema_restricted changes kept (Restricted m t q) = bit_changes text_eq equal_from_text_eq (λ b. b.restricted) old.schemas.entries schemas.entries n s bits sets p changes m t q
      schema_restricted changes kept (OnSchema m t q) =
          ap (λ set. has_bit set q) (bits_stay text_eq equal_from_text_eq (λ b. b.granted) old.schemas.entries schemas.entries n s bits sets kept m t)
          ∙ stays (has_bit (bits_at text_eq old.schemas.entries m t).granted q)
      schema_restricted changes kept (OnAll kind m q) = stays (holds old (OnAll kind m q))
      schema_restricted changes kept (OnObject m o q) = stays (holds old (OnObject m o q))
      schema_restricted changes kept (Edge role to) = stays (holds old (Edge role to))
      schema_restricted changes kept (Admin role to) = stays (holds old (Admin role to))
      schema_restricted changes kept (Default of role) = stays (holds old (Default of role))

    module _ (objects : Held Object) (n : ℕ) (o : Object) (bits : Bits) (sets : SetsBits same_object old.objects.entries objects.entries n o bits) (p : ℕ) where
      pub object_granted : ((q : ℕ) → has_bit bits.granted q ≡ op (has_bit (bits_at same_object old.objects.entries n o).granted q) (q == p))
          → Changed old (record old { objects = objects }) (OnObject n o p)
      object_granted changes (OnObject m w q) = bit_changes same_object equal_from_same_object (λ b. b.granted) old.objects.entries objects.entries n o bits sets p changes m w q
      object_granted changes (OnSchema m t q) = stays (holds old (OnSchema m t q))
      object_granted changes (Restricted m t q) = stays (holds old (Restricted m t q))
      object_granted changes (OnAll kind m q) = stays (holds old (OnAll kind m q))
      object_granted changes (Edge role to) = stays (holds old (Edge role to))
      object_granted changes (Admin role to) = stays (holds old (Admin role to))
      object_granted changes (Default of role) = stays (holds old (Default of role))

    module _ (roles : Edges) (role to : ℕ) where
      pub edge_changes : ((r h : ℕ) → granted roles r h ≡ op (granted old.roles r h) ((r == role) && (h == to))) → ((r h : ℕ) → with_admin roles r h ≡ with_admin old.roles r h)
          → Changed old (record old { roles = roles }) (Edge role to)
      edge_changes changes kept (Edge r h) = changes r h
      edge_changes changes kept (Admin r h) = kept r h ∙ stays (with_admin old.roles r h)
      edge_changes changes kept (OnSchema m t q) = stays (holds old (OnSchema m t q))
      edge_changes changes kept (Restricted m t q) = stays (holds old (Restricted m t q))
      edge_changes changes kept (OnAll kind m q) = stays (holds old (OnAll kind m q))
      edge_changes changes kept (OnObject m o q) = stays (holds old (OnObject m o q))
      edge_changes changes kept (Default of r) = stays (holds old (Default of r))

      pub admin_changes : ((r h : ℕ) → with_admin roles r h ≡ op (with_admin old.roles r h) ((r == role) && (h == to))) → ((r h : ℕ) → granted roles r h ≡ granted old.roles r h)
          → Changed old (record old { roles = roles }) (Admin role to)
      admin_changes changes kept (Admin r h) = changes r h
      admin_changes changes kept (Edge r h) = kept r h ∙ stays (granted old.roles r h)
      admin_changes changes kept (OnSchema m t q) = stays (holds old (OnSchema m t q))
      admin_changes changes kept (Restricted m t q) = stays (holds old (Restricted m t q))
      admin_changes changes kept (OnAll kind m q) = stays (holds old (OnAll kind m q))
      admin_changes changes kept (OnObject m o q) = stays (holds old (OnObject m o q))
      admin_changes changes kept (Default of r) = stays (holds old (Default of r))

    module _ (defaults : Held ℕ) (of role : ℕ) (bits : Bits) (sets : SetsBits (λ one other. one == other) old.defaults.entries defaults.entries of role bits) where
      pub default_changes : not (are_none bits) ≡ op (holds old (Default of role)) true → Changed old (record old { defaults = defaults }) (Default of role)
      default_changes changes (Default m r) = ap (λ b. not (are_none b)) (sets m r) ∙ by ((m == of) && (r == role)) refl
        where
          by : (u : Bool) → ((m == of) && (r == role)) ≡ u
              → not (are_none (cond u bits (bits_at (λ one other. one == other) old.defaults.entries m r))) ≡ op (holds old (Default m r)) u
          by false other = stays (holds old (Default m r))
          by true same =
              let parts = and_parts (m == of) (r == role) same in
              changes ∙ ap (λ k. op (holds old (Default k role)) true) (sym (eqb-true m of parts.0)) ∙ ap (λ k. op (holds old (Default m k)) true) (sym (eqb-true r role parts.1))
      default_changes changes (OnSchema m t q) = stays (holds old (OnSchema m t q))
      default_changes changes (Restricted m t q) = stays (holds old (Restricted m t q))
      default_changes changes (OnAll kind m q) = stays (holds old (OnAll kind m q))
      default_changes changes (OnObject m o q) = stays (holds old (OnObject m o q))
      default_changes changes (Edge r h) = stays (holds old (Edge r h))
      default_changes changes (Admin r h) = stays (holds old (Admin r h))

    module _ (globals : List GlobalBits) (kind : GlobalKind) (n p : ℕ) where
      pub all_changes : ((other : GlobalKind) (m q : ℕ) → has_bit (bits_of_kind other (global_bits globals m)) q
          ≡ op (has_bit (bits_of_kind other (global_bits old.globals m)) q) ((m == n) && same_kind other kind && (q == p)))
          → Changed old (record old { globals = globals }) (OnAll kind n p)
      all_changes changes (OnAll other m q) = changes other m q
      all_changes changes (OnSchema m t q) = stays (holds old (OnSchema m t q))
      all_changes changes (Restricted m t q) = stays (holds old (Restricted m t q))
      all_changes changes (OnObject m o q) = stays (holds old (OnObject m o q))
      all_changes changes (Edge role to) = stays (holds old (Edge role to))
      all_changes changes (Admin role to) = stays (holds old (Admin role to))
      all_changes changes (Default of role) = stays (holds old (Default of role))

-- tables with the same entries hold alike
pub alike_parts : (old new : Holdings) → new.globals ≡ old.globals → new.schemas.entries ≡ old.schemas.entries → new.objects.entries ≡ old.objects.entries
    → new.roles.links ≡ old.roles.links → new.defaults.entries ≡ old.defaults.entries → (holding : Holding) → holds new holding ≡ holds old holding
alike_parts old new globals schemas objects roles defaults (OnAll kind n p) = ap (λ g. has_bit (bits_of_kind kind (global_bits g n)) p) globals
alike_parts old new globals schemas objects roles defaults (OnSchema n s p) = ap (λ es. has_bit (bits_at text_eq es n s).granted p) schemas
alike_parts old new globals schemas objects roles defaults (Restricted n s p) = ap (λ es. has_bit (bits_at text_eq es n s).restricted p) schemas
alike_parts old new globals schemas objects roles defaults (OnObject n o p) = ap (λ es. has_bit (bits_at same_object es n o).granted p) objects
alike_parts old new globals schemas objects roles defaults (Edge role to) = ap (λ links. linked links to role) roles
alike_parts old new globals schemas objects roles defaults (Admin role to) = ap (λ links. list_any (is_admin_link to role) links) roles
alike_parts old new globals schemas objects roles defaults (Default of role) = ap (λ es. not (are_none (bits_at (λ one other. one == other) es of role))) defaults
